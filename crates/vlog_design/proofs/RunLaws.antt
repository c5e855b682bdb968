-- Runs of nodes as lists of bits.
use Rattle.std.proofs.Common.{◌≡◌, ℕ, All, zero, suc, ◌+◌, ◌-◌, ◌*◌, ◌<◌, ◌≤◌, ◌^◌, List, [], ◌∷◌, ◌++◌, Option, None, Some, drop, flat_map, get_or, length, map, replicate, ap, refl, subst, sym, take, ◌∙◌, arith, append_assoc, append-nil, length-append}
use Rattle.std.proofs.lemmas.Grind.{flat_map-append}
use Rattle.std.proofs.lemmas.List.{drop_all, get_or_append_left, get_or-append_right, get_or-drop, get_or-replicate, length-replicate, map-append, nil_from_length, replicate-append-replicate, take_rest}
use Rattle.std.proofs.Math.Seq.{drop-append-add}
use Rattle.net_hier.specs.declared.nodes.Node.{Node}
use Rattle.net_hier.specs.declared.nodes.Node.TheVariants.{Port, Pin, Net, Zero, One}
use Rattle.std.specs.List.{range_with_len}
use Rattle.vlog_design.proofs.Parts.{all_right}
use Rattle.vlog_design.proofs.Steps.{done, flat_map_left, moved}
use Rattle.vlog_design.specs.Exprs.{constant_bit, node_at, repeated, span_bits}
use Rattle.vlog_design.specs.Runs.{ArePassed, IsRun, IsWithin, bits_behind, node_after, nodes_from, run_bits, runs_bits}
use Rattle.vlog_design.specs.declared.runs.Run.{Run}
use Rattle.vlog_design.specs.declared.signals.SignalAt.{SignalAt}
use Rattle.vlog_design.specs.declared.signals.SignalAt.TheVariants.{AtPort, AtNet}
use Rattle.vlog_values.specs.declared.literal.Bit.{Bit}

-- what is added

pub with_run : (runs : List Run) (run : Run) → runs_bits (runs ++ run ∷ []) 0 ≡ runs_bits runs run.gap ++ nodes_from run.first run.count
unfolding run_bits
with_run runs run =
    append-nil (flat_map run_bits (runs ++ run ∷ []))
    ∙ (flat_map-append run_bits runs (run ∷ [])
    ∙ (ap (λ l. flat_map run_bits runs ++ l) (append-nil (run_bits run))
    ∙ sym (append_assoc (flat_map run_bits runs) (replicate run.gap None) (nodes_from run.first run.count))))

pub with_gap : (runs : List Run) (gap count : ℕ) → runs_bits runs (gap + count) ≡ runs_bits runs gap ++ replicate count None
with_gap runs gap count =
    ap (λ l. flat_map run_bits runs ++ l) (sym (replicate-append-replicate gap count None))
    ∙ sym (append_assoc (flat_map run_bits runs) (replicate gap None) (replicate count None))

pub repeated_gap : (count gap : ℕ) → repeated count (replicate gap None) ≡ replicate (gap * count) None
unfolding repeated
repeated_gap zero gap = let e : 0 ≡ gap * 0 = omega arith in ap (λ n. replicate n None) e
repeated_gap (suc count) gap =
    let e : gap + gap * count ≡ gap * suc count = grind arith in
    ap (λ l. replicate gap None ++ l) (repeated_gap count gap) ∙ (replicate-append-replicate gap (gap * count) None ∙ ap (λ n. replicate n None) e)

-- what is left of runs that are added
pub runs_left : (runs : List Run) (gap i : ℕ) (d : Run) → i < length runs → runs_bits (drop i runs) gap ≡ run_bits (get_or runs i d) ++ runs_bits (drop (i + 1) runs) gap
runs_left runs gap i d h =
    ap (λ l. l ++ replicate gap None) (flat_map_left run_bits runs i d h)
    ∙ append_assoc (run_bits (get_or runs i d)) (flat_map run_bits (drop (i + 1) runs)) (replicate gap None)

-- a run moves from what is left to what is made
pub run_moved : (made before after : List (Option Node)) (runs : List Run) (gap i : ℕ) (d : Run) {all : List (Option Node)} → i < length runs →
    made ++ runs_bits (drop i runs) gap ≡ all → before ≡ made ++ replicate (get_or runs i d).gap None → after ≡ before ++ nodes_from (get_or runs i d).first (get_or runs i d).count →
    after ++ runs_bits (drop (i + 1) runs) gap ≡ all
unfolding run_bits
run_moved made before after runs gap i d {all} h all_left e f =
    let run = get_or runs i d in
    let is : after ≡ made ++ run_bits run = f ∙ (ap (λ l. l ++ nodes_from run.first run.count) e ∙ append_assoc made (replicate run.gap None) (nodes_from run.first run.count)) in
    ap (λ l. l ++ runs_bits (drop (i + 1) runs) gap) is ∙ moved made (run_bits run) (runs_bits (drop (i + 1) runs) gap) all_left (runs_left runs gap i d h)

pub runs_done : (runs : List Run) (gap i : ℕ) → length runs ≤ i → runs_bits (drop i runs) gap ≡ replicate gap None
runs_done runs gap i h = ap (λ l. runs_bits l gap) (drop_all i runs h)

-- nodes

pub node_later : (node : Node) (m n : ℕ) → node_after (node_after node m) n ≡ node_after node (m + n)
node_later (Port port bit) m n = let e : bit + m + n ≡ bit + (m + n) = omega arith in ap (Port port) e
node_later (Pin pin port bit) m n = let e : bit + m + n ≡ bit + (m + n) = omega arith in ap (Pin pin port) e
node_later (Net number) m n = let e : number + m + n ≡ number + (m + n) = omega arith in ap Net e
node_later Zero m n = refl
node_later One m n = refl

pub node_here : (node : Node) → node_after node 0 ≡ node
node_here (Port port bit) = let e : bit + 0 ≡ bit = omega arith in ap (Port port) e
node_here (Pin pin port bit) = let e : bit + 0 ≡ bit = omega arith in ap (Pin pin port) e
node_here (Net number) = let e : number + 0 ≡ number = omega arith in ap Net e
node_here Zero = refl
node_here One = refl

next_at : (place : SignalAt) (bit : ℕ) → node_after (node_at place bit) 1 ≡ node_at place (bit + 1)
next_at (AtPort number) bit = refl
next_at (AtNet first) bit = let e : first + bit + 1 ≡ first + (bit + 1) = omega arith in ap Net e

-- no nodes
pub without_nodes : (made : List (Option Node)) (first : Node) (count : ℕ) → count ≡ 0 → made ≡ made ++ nodes_from first count
unfolding nodes_from
without_nodes made first count e = sym (append-nil made) ∙ ap (λ n. made ++ nodes_from first n) (sym e)

-- the bits of a span
pub nodes_of_span : (place : SignalAt) (first count : ℕ) → nodes_from (node_at place first) count ≡ span_bits place (record { first = first; count = count })
unfolding nodes_from
nodes_of_span place first zero = refl
nodes_of_span place first (suc count) =
    ap (λ l. Some (node_at place first) ∷ l) (ap (λ n. nodes_from n count) (next_at place first) ∙ nodes_of_span place (first + 1) count)

-- the bits of a constant
pub zeros : (count : ℕ) → nodes_from Zero count ≡ replicate count (Some Zero)
unfolding nodes_from
zeros zero = refl
zeros (suc count) = ap (λ l. Some Zero ∷ l) (zeros count)

pub ones : (count : ℕ) → nodes_from One count ≡ replicate count (Some One)
unfolding nodes_from
ones zero = refl
ones (suc count) = ap (λ l. Some One ∷ l) (ones count)

-- the bits of a pin
pub nodes_of_pin : (number port first count : ℕ) → nodes_from (Pin number port first) count ≡ map (λ bit. Some (Pin number port bit)) (range_with_len first count)
unfolding nodes_from
nodes_of_pin number port first zero = refl
nodes_of_pin number port first (suc count) = ap (λ l. Some (Pin number port first) ∷ l) (nodes_of_pin number port (first + 1) count)

pub constants_alike : (bit : Bit) (count : ℕ) → map constant_bit (replicate count bit) ≡ replicate count (constant_bit bit)
constants_alike bit zero = refl
constants_alike bit (suc count) = ap (λ l. constant_bit bit ∷ l) (constants_alike bit count)

-- the bits of a literal
pub literal_added : (before made after : List (Option Node)) (fill : Bit) (filled : ℕ) (own : List Bit) (i : ℕ) {items : List Bit} → length items ≤ i → items ≡ own →
    after ++ map constant_bit (drop i items) ≡ made ++ map constant_bit items → made ≡ before ++ replicate filled (constant_bit fill) →
    after ≡ before ++ map constant_bit (replicate filled fill ++ own)
literal_added before made after fill filled own i {items} h same e f =
    let none : map constant_bit (drop i items) ≡ [] = ap (map constant_bit) (drop_all i items h) in
    done after e none
    ∙ (ap (λ l. made ++ map constant_bit l) same
    ∙ (ap (λ l. l ++ map constant_bit own) f
    ∙ (append_assoc before (replicate filled (constant_bit fill)) (map constant_bit own)
    ∙ ap (λ l. before ++ l) (ap (λ l. l ++ map constant_bit own) (sym (constants_alike fill filled)) ∙ sym (map-append constant_bit (replicate filled fill) own)))))

-- one bit of a run

pub length-nodes : (first : Node) (count : ℕ) → length (nodes_from first count) ≡ count
unfolding nodes_from
length-nodes first zero = refl
length-nodes first (suc count) = ap suc (length-nodes (node_after first 1) count)

pub length-run : (run : Run) → length (run_bits run) ≡ run.gap + run.count
unfolding run_bits
length-run run = omega (arith, length-append (replicate run.gap None) (nodes_from run.first run.count), length-nodes run.first run.count, length-replicate {A = Option Node} run.gap None)

get_or-nodes : (first : Node) (count i : ℕ) → i < count → get_or (nodes_from first count) i None ≡ Some (node_after first i)
unfolding nodes_from
get_or-nodes first zero i h = absurd (omega arith)
get_or-nodes first (suc count) zero h = ap Some (sym (node_here first))
get_or-nodes first (suc count) (suc i) h =
    let e : 1 + i ≡ suc i = omega arith in
    get_or-nodes (node_after first 1) count i (omega arith) ∙ ap Some (node_later first 1 i ∙ ap (node_after first) e)

pub nothing_at : (run : Run) (i : ℕ) → i < run.gap → get_or (run_bits run) i None ≡ None
unfolding run_bits
nothing_at run i h =
    get_or_append_left (replicate run.gap None) (nodes_from run.first run.count) None i (omega (arith, length-replicate {A = Option Node} run.gap None))
    ∙ get_or-replicate run.gap i None None h

pub node_at_place : (run : Run) (i : ℕ) → run.gap ≤ i → i < run.gap + run.count → get_or (run_bits run) i None ≡ Some (node_after run.first (i - run.gap))
unfolding run_bits
node_at_place run i h k =
    get_or-append_right (replicate run.gap None) (nodes_from run.first run.count) run.gap i None (length-replicate run.gap None) h
    ∙ get_or-nodes run.first run.count (i - run.gap) (omega arith)

-- bits behind those that are passed

pub first_behind : (runs : List Run) (passed : ℕ) (d : Run) → 1 ≤ length runs → IsWithin passed runs → get_or (bits_behind passed runs) 0 None ≡ get_or (run_bits (get_or runs 0 d)) passed None
first_behind [] passed d h k = absurd (omega arith)
first_behind (run ∷ later) passed d h k =
    let e : passed + 0 ≡ passed = omega arith in
    get_or-drop passed (run_bits run ++ flat_map run_bits later) 0 None
    ∙ (ap (λ n. get_or (run_bits run ++ flat_map run_bits later) n None) e
    ∙ get_or_append_left (run_bits run) (flat_map run_bits later) None passed (omega (arith, length-run run)))

pub within_first : (runs : List Run) (passed : ℕ) (d : Run) → 1 ≤ length runs → passed < (get_or runs 0 d).gap + (get_or runs 0 d).count → IsWithin passed runs
within_first [] passed d h k = absurd (omega arith)
within_first (run ∷ later) passed d h k = k

run_passed : (runs : List Run) (passed : ℕ) (d : Run) → 1 ≤ length runs → (get_or runs 0 d).gap + (get_or runs 0 d).count ≤ passed →
    bits_behind (passed - ((get_or runs 0 d).gap + (get_or runs 0 d).count)) (drop 1 runs) ≡ bits_behind passed runs
run_passed [] passed d h k = absurd (omega arith)
run_passed (run ∷ later) passed d h k =
    let e : length (run_bits run) + (passed - (run.gap + run.count)) ≡ passed = omega (arith, length-run run) in
    sym (drop-append-add (run_bits run) (flat_map run_bits later) (passed - (run.gap + run.count))) ∙ ap (λ n. drop n (run_bits run ++ flat_map run_bits later)) e

-- the state behind a run that is passed
pub later_runs : (runs : List Run) → All IsRun runs → All IsRun (take (length runs - 1) (drop 1 runs))
later_runs runs h = subst (All IsRun) (sym (take_rest runs 1)) (by runs h)
  where
    by : (runs : List Run) → All IsRun runs → All IsRun (drop 1 runs)
    by [] h = h
    by (run ∷ later) h = all_right IsRun (run ∷ []) later h

pub later_bits : (runs : List Run) (passed gap count : ℕ) (d : Run) → 1 ≤ length runs → gap ≡ (get_or runs 0 d).gap → count ≡ (get_or runs 0 d).count → gap + count ≤ passed →
    bits_behind (passed - (gap + count)) (take (length runs - 1) (drop 1 runs)) ≡ bits_behind passed runs
later_bits runs passed gap count d h e f k =
    let same : gap + count ≡ (get_or runs 0 d).gap + (get_or runs 0 d).count = omega arith in
    let within : (get_or runs 0 d).gap + (get_or runs 0 d).count ≤ passed = omega arith in
    ap (bits_behind (passed - (gap + count))) (take_rest runs 1) ∙ (ap (λ n. bits_behind (passed - n) (drop 1 runs)) same ∙ run_passed runs passed d h within)

pub length_bound : (runs : List Run) (gap count : ℕ) (d : Run) → All IsRun runs → 1 ≤ length runs → gap ≡ (get_or runs 0 d).gap → count ≡ (get_or runs 0 d).count → gap + count < 2 ^ 65
length_bound runs gap count d h k e f =
    let fits : IsRun (get_or runs 0 d) = h 0 d k in
    omega (arith, fits.gap_fits, fits.numbers)

pub passed_bound : (passed : ℕ) (runs : List Run) → ArePassed passed runs → passed < 2 ^ 65
passed_bound passed [] h = omega (arith, h.within)
passed_bound passed (run ∷ later) h =
    let fits : IsRun run = h.are_runs 0 run (omega arith) in
    omega (arith, h.within, fits.gap_fits, fits.numbers)

-- one node more of those that are joined
pub nodes_left : (first : Node) (count i : ℕ) → i < count → nodes_from (node_after first i) (count - i) ≡ Some (node_after first i) ∷ nodes_from (node_after first (i + 1)) (count - (i + 1))
unfolding nodes_from
nodes_left first count i h =
    let e : count - i ≡ suc (count - (i + 1)) = omega arith in
    ap (nodes_from (node_after first i)) e ∙ ap (λ n. Some (node_after first i) ∷ nodes_from n (count - (i + 1))) (node_later first i 1)

pub repeated_once : (count : ℕ) (once : List (Option Node)) → count ≡ 1 → once ≡ repeated count once
unfolding repeated
repeated_once count once e = sym (append-nil once) ∙ ap (λ n. repeated n once) (sym e)

-- bits of which none is something, so many times
pub gap_repeated : (runs : List Run) (gap count total : ℕ) {once : List (Option Node)} → length runs ≡ 0 → runs_bits runs gap ≡ once → total ≡ gap * count → replicate total None ≡ repeated count once
gap_repeated runs gap count total none is e =
    ap (λ n. replicate n None) e ∙ (sym (repeated_gap count gap) ∙ ap (repeated count) (ap (λ l. runs_bits l gap) (sym (nil_from_length runs none)) ∙ is))
