-- Joins of two sides, part by part.
use Rattle.std.proofs.Common.{◌≡◌, ℕ, zero, suc, ◌+◌, ◌-◌, ◌<◌, ◌≤◌, List, [], ◌∷◌, ◌++◌, Option, None, Some, drop, flat_map, get_or, length, replicate, ap, refl, sym, ◌∙◌, append_assoc, append-nil, arith, length-append}
use Rattle.std.proofs.lemmas.List.{drop-drop, drop_all}
use Rattle.net_hier.specs.declared.nodes.Join.{Join}
use Rattle.net_hier.specs.declared.nodes.Node.{Node}
use Rattle.vlog_design.specs.Design.{join_of, joins_between}
use Rattle.vlog_design.proofs.RunLaws.{node_here, nodes_left}
use Rattle.vlog_design.proofs.Steps.{done, flat_map_left, moved}
use Rattle.vlog_design.specs.declared.runs.Run.{Run}
use Rattle.vlog_design.specs.Runs.{bits_behind, node_after, nodes_from, run_bits, runs_bits}

pub nothing_right : (left : List (Option Node)) → joins_between left [] ≡ []
unfolding joins_between
nothing_right [] = refl
nothing_right (x ∷ xs) = refl

-- the first bit of the right
pub joins_first : (left : List (Option Node)) (b : Option Node) (right : List (Option Node)) → joins_between left (b ∷ right) ≡ join_of (get_or left 0 None) b ++ joins_between (drop 1 left) right
unfolding joins_between
joins_first [] b right = refl
joins_first (a ∷ left) b right = refl

join_nothing : (a : Option Node) → join_of a None ≡ []
join_nothing (Some a) = refl
join_nothing None = refl

-- what is nothing is passed
pub joins_gap : (count : ℕ) (left right : List (Option Node)) → joins_between left (replicate count None ++ right) ≡ joins_between (drop count left) right
unfolding joins_between
joins_gap zero left right = refl
joins_gap (suc count) [] right = refl
joins_gap (suc count) (a ∷ left) right = ap (λ l. l ++ joins_between left (replicate count None ++ right)) (join_nothing a) ∙ joins_gap count left right

-- the right in two parts
pub joins_parts : (left xs ys : List (Option Node)) → joins_between left (xs ++ ys) ≡ joins_between left xs ++ joins_between (drop (length xs) left) ys
unfolding joins_between
joins_parts left [] ys = ap (λ l. l ++ joins_between left ys) (sym (nothing_right left))
joins_parts [] (x ∷ xs) ys = refl
joins_parts (a ∷ left) (x ∷ xs) ys =
    ap (λ l. join_of a x ++ l) (joins_parts left xs ys) ∙ sym (append_assoc (join_of a x) (joins_between left xs) (joins_between (drop (length xs) left) ys))

-- what is nothing at the end joins nothing

gap_left : (count : ℕ) (right : List (Option Node)) → joins_between (replicate count None) right ≡ []
unfolding joins_between
gap_left zero right = refl
gap_left (suc count) [] = refl
gap_left (suc count) (y ∷ right) = gap_left count right

pub gap_behind_left : (left : List (Option Node)) (count : ℕ) (right : List (Option Node)) → joins_between (left ++ replicate count None) right ≡ joins_between left right
unfolding joins_between
gap_behind_left [] count right = gap_left count right
gap_behind_left (a ∷ left) count [] = refl
gap_behind_left (a ∷ left) count (b ∷ right) = ap (λ l. join_of a b ++ l) (gap_behind_left left count right)

pub gap_behind_right : (left right : List (Option Node)) (count : ℕ) → joins_between left (right ++ replicate count None) ≡ joins_between left right
gap_behind_right left right count =
    joins_parts left right (replicate count None)
    ∙ (ap (λ l. joins_between left right ++ l) (ap (joins_between (drop (length right) left)) (sym (append-nil (replicate count None))) ∙ (joins_gap count (drop (length right) left) [] ∙ nothing_right (drop count (drop (length right) left))))
    ∙ append-nil (joins_between left right))

-- steps of loops

-- one node more of a run
pub node_joined : (made after : List Join) (rest left : List (Option Node)) (a : Option Node) (node first : Node) (count i : ℕ) {all : List Join} → i < count →
    made ++ joins_between rest (nodes_from (node_after first i) (count - i)) ≡ all → a ≡ get_or rest 0 None → node ≡ node_after first i → after ≡ made ++ join_of a (Some node) → left ≡ drop 1 rest →
    after ++ joins_between left (nodes_from (node_after first (i + 1)) (count - (i + 1))) ≡ all
node_joined made after rest left a node first count i {all} h so_far is_first is_node e f =
    let later = nodes_from (node_after first (i + 1)) (count - (i + 1)) in
    let part : join_of a (Some node) ≡ join_of (get_or rest 0 None) (Some (node_after first i)) = ap (λ x. join_of x (Some node)) is_first ∙ ap (λ n. join_of (get_or rest 0 None) (Some n)) is_node in
    ap (λ l. l ++ joins_between left later) (e ∙ ap (λ l. made ++ l) part)
    ∙ (ap (λ l. (made ++ join_of (get_or rest 0 None) (Some (node_after first i))) ++ joins_between l later) f
    ∙ moved made (join_of (get_or rest 0 None) (Some (node_after first i))) (joins_between (drop 1 rest) later) so_far
    (ap (joins_between rest) (nodes_left first count i h) ∙ joins_first rest (Some (node_after first i)) later))

-- before the first node of a run
pub run_begun : (left rest : List (Option Node)) (run : Run) → rest ≡ drop run.gap left → joins_between rest (nodes_from (node_after run.first 0) (run.count - 0)) ≡ joins_between left (run_bits run)
unfolding run_bits
run_begun left rest run e =
    let k : run.count - 0 ≡ run.count = omega arith in
    ap (λ l. joins_between l (nodes_from (node_after run.first 0) (run.count - 0))) e
    ∙ (ap (λ n. joins_between (drop run.gap left) (nodes_from n (run.count - 0))) (node_here run.first)
    ∙ (ap (λ n. joins_between (drop run.gap left) (nodes_from run.first n)) k ∙ sym (joins_gap run.gap left (nodes_from run.first run.count))))

-- behind the last node of a run
pub run_ended : (made : List Join) (rest : List (Option Node)) (first : Node) (count i : ℕ) {all : List Join} → count ≤ i →
    made ++ joins_between rest (nodes_from (node_after first i) (count - i)) ≡ all → made ≡ all
unfolding nodes_from
run_ended made rest first count i {all} h e =
    let k : count - i ≡ 0 = omega arith in
    done made e (ap (λ n. joins_between rest (nodes_from (node_after first i) n)) k ∙ nothing_right rest)

-- one part more of the right
module _ {A : Type 0} (f : A → List (Option Node)) (rest left : List (Option Node)) (parts : List A) (i : ℕ) (d : A) (within : i < length parts) (is_left : left ≡ drop (length (f (get_or parts i d))) rest) where
  pub part_joined : (made after : List Join) {all : List Join} → made ++ joins_between rest (flat_map f (drop i parts)) ≡ all → after ≡ made ++ joins_between rest (f (get_or parts i d)) →
      after ++ joins_between left (flat_map f (drop (i + 1) parts)) ≡ all
  part_joined made after {all} so_far e =
      let part = f (get_or parts i d) in
      let later = flat_map f (drop (i + 1) parts) in
      ap (λ l. l ++ joins_between left later) e
      ∙ (ap (λ l. (made ++ joins_between rest part) ++ joins_between l later) is_left
      ∙ moved made (joins_between rest part) (joins_between (drop (length part) rest) later) so_far
      (ap (joins_between rest) (flat_map_left f parts i d within) ∙ joins_parts rest part later))

  pub part_passed : {whole : List (Option Node)} → drop (length (flat_map f (drop i parts))) rest ≡ whole → drop (length (flat_map f (drop (i + 1) parts))) left ≡ whole
  part_passed {whole} so_far =
      let part = f (get_or parts i d) in
      let later = flat_map f (drop (i + 1) parts) in
      ap (drop (length later)) is_left
      ∙ (drop-drop (length later) (length part) rest
      ∙ (ap (λ n. drop n rest) (sym (length-append part later) ∙ ap length (sym (flat_map_left f parts i d within))) ∙ so_far))

-- no part is left of the right
module _ {A : Type 0} (f : A → List (Option Node)) (rest : List (Option Node)) (parts : List A) (i : ℕ) (all_met : length parts ≤ i) where
  pub parts_joined : (made : List Join) {all : List Join} → made ++ joins_between rest (flat_map f (drop i parts)) ≡ all → made ≡ all
  parts_joined made e = done made e (ap (λ l. joins_between rest (flat_map f l)) (drop_all i parts all_met) ∙ nothing_right rest)

  pub parts_passed : {whole : List (Option Node)} → drop (length (flat_map f (drop i parts))) rest ≡ whole → rest ≡ whole
  parts_passed e = ap (λ l. drop (length (flat_map f l)) rest) (sym (drop_all i parts all_met)) ∙ e

-- a right side without bits
pub nothing_met : (made : List Join) (left right : List (Option Node)) → right ≡ [] → made ≡ made ++ joins_between left right
nothing_met made left right e = sym (ap (λ l. made ++ joins_between left l) e ∙ (ap (λ l. made ++ l) (nothing_right left) ∙ append-nil made))

pub nothing_passed : (left right : List (Option Node)) → right ≡ [] → left ≡ drop (length right) left
nothing_passed left right e = ap (λ l. drop (length l) left) (sym e)

-- the bits of nodes in a row as a run
pub run_alone : (first : Node) (count : ℕ) → bits_behind 0 (record { gap = 0; first = first; count = count } ∷ []) ≡ nodes_from first count
unfolding run_bits
run_alone first count = append-nil (nodes_from first count)

-- bits that are nothing behind the runs of a side
pub left_joined : (runs : List Run) (gap : ℕ) (right : List (Option Node)) {left : List (Option Node)} → runs_bits runs gap ≡ left → joins_between (flat_map run_bits runs) right ≡ joins_between left right
left_joined runs gap right {left} e = sym (gap_behind_left (flat_map run_bits runs) gap right) ∙ ap (λ l. joins_between l right) e

pub right_joined : (left : List (Option Node)) (runs : List Run) (gap : ℕ) {right : List (Option Node)} → runs_bits runs gap ≡ right → joins_between left (flat_map run_bits runs) ≡ joins_between left right
right_joined left runs gap {right} e = sym (gap_behind_right left (flat_map run_bits runs) gap) ∙ ap (joins_between left) e
