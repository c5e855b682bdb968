-- Rows of nodes: what is left of one, and its joins with another.
use Rattle.std.proofs.Common.{◌≡◌, ℕ, zero, suc, ◌+◌, ◌-◌, ◌<◌, ◌≤◌, List, [], ◌∷◌, ◌++◌, Some, drop, min, ap, sym, ◌∙◌, append_assoc, arith, inl, inr}
use Rattle.std.proofs.lemmas.Bool.{cases_lt}
use Rattle.std.proofs.lemmas.List.{drop_all}
use Rattle.net_hier.specs.declared.nodes.Join.{Join}
use Rattle.net_hier.specs.declared.nodes.Node.{Node}
use Rattle.vlog_design.proofs.JoinLaws.{nothing_met}
use Rattle.vlog_design.proofs.RunLaws.{length-nodes, node_here, node_later, nodes_left, nodes_of_span}
use Rattle.vlog_design.proofs.Steps.{moved}
use Rattle.vlog_design.specs.Design.{joins_between}
use Rattle.vlog_design.specs.Exprs.{node_at, span_bits}
use Rattle.vlog_design.specs.Runs.{node_after, nodes_from}
use Rattle.vlog_design.specs.declared.signals.SignalAt.{SignalAt}

-- what is left

from_here : (first : Node) (count : ℕ) → nodes_from (node_after first 0) (count - 0) ≡ nodes_from first count
from_here first count =
    let all : count - 0 ≡ count = omega arith in
    ap (λ node. nodes_from node (count - 0)) (node_here first) ∙ ap (nodes_from first) all

pub nodes_behind : (first : Node) (count places : ℕ) → places ≤ count → nodes_from (node_after first places) (count - places) ≡ drop places (nodes_from first count)
unfolding nodes_from
nodes_behind first count zero h = from_here first count
nodes_behind first zero (suc places) h = absurd (omega arith)
nodes_behind first (suc count) (suc places) h =
    let e : suc places ≡ 1 + places = omega arith in
    let k : suc count - suc places ≡ count - places = omega arith in
    ap (nodes_from (node_after first (suc places))) k
    ∙ (ap (λ node. nodes_from node (count - places)) (ap (node_after first) e ∙ sym (node_later first 1 places))
    ∙ nodes_behind (node_after first 1) count places (omega arith))

pub no_nodes_behind : (first : Node) (count places : ℕ) → count ≤ places → nodes_from first 0 ≡ drop places (nodes_from first count)
unfolding nodes_from
no_nodes_behind first count places h = sym (drop_all places (nodes_from first count) (omega (arith, length-nodes first count)))

-- a row ends before a number of places that no longer fits
pub passed_capped : (first : Node) (count limit places : ℕ) → count ≤ limit → drop (min limit places) (nodes_from first count) ≡ drop places (nodes_from first count)
passed_capped first count limit places h = elim (cases_lt limit places) [
  | inl more ↦ drop_all (min limit places) (nodes_from first count) (omega (arith, length-nodes first count)) ∙ sym (drop_all places (nodes_from first count) (omega (arith, length-nodes first count)))
  | inr fits ↦ let e : min limit places ≡ places = omega arith in ap (λ n. drop n (nodes_from first count)) e
]

-- joins with another row

-- one pair more
pub pair_joined : (made after : List Join) (left right a b : Node) (count i : ℕ) {all : List Join} → i < count →
    made ++ joins_between (nodes_from (node_after left i) (count - i)) (nodes_from (node_after right i) (count - i)) ≡ all →
    a ≡ node_after left i → b ≡ node_after right i → after ≡ made ++ record { a = a; b = b } ∷ [] →
    after ++ joins_between (nodes_from (node_after left (i + 1)) (count - (i + 1))) (nodes_from (node_after right (i + 1)) (count - (i + 1))) ≡ all
unfolding joins_between
pair_joined made after left right a b count i {all} h so_far is_left is_right e =
    let lefts = nodes_from (node_after left (i + 1)) (count - (i + 1)) in
    let rights = nodes_from (node_after right (i + 1)) (count - (i + 1)) in
    let pair : Join = record { a = node_after left i; b = node_after right i } in
    let is : after ≡ made ++ pair ∷ [] =
    e ∙ (ap (λ node. made ++ record { a = node; b = b } ∷ []) is_left ∙ ap (λ node. made ++ record { a = node_after left i; b = node } ∷ []) is_right) in
    ap (λ l. l ++ joins_between lefts rights) is
    ∙ moved made (pair ∷ []) (joins_between lefts rights) so_far
    (ap (λ l. joins_between l (nodes_from (node_after right i) (count - i))) (nodes_left left count i h)
    ∙ ap (joins_between (Some (node_after left i) ∷ lefts)) (nodes_left right count i h))

-- the first pair
pub first_joined : (before made : List Join) (left right : Node) (count : ℕ) → 1 ≤ count → made ≡ before ++ record { a = left; b = right } ∷ [] →
    made ++ joins_between (nodes_from (node_after left 1) (count - 1)) (nodes_from (node_after right 1) (count - 1)) ≡ before ++ joins_between (nodes_from left count) (nodes_from right count)
unfolding joins_between nodes_from
first_joined before made left right zero h e = absurd (omega arith)
first_joined before made left right (suc count) h e =
    let one : suc count - 1 ≡ count = omega arith in
    let later = joins_between (nodes_from (node_after left 1) count) (nodes_from (node_after right 1) count) in
    ap (λ n. made ++ joins_between (nodes_from (node_after left 1) n) (nodes_from (node_after right 1) n)) one
    ∙ (ap (λ l. l ++ later) e ∙ append_assoc before (record { a = left; b = right } ∷ []) later)

-- no pair
pub no_pairs : (made : List Join) (left right : Node) (count : ℕ) → count ≡ 0 → made ≡ made ++ joins_between (nodes_from left count) (nodes_from right count)
unfolding nodes_from
no_pairs made left right count e = nothing_met made (nodes_from left count) (nodes_from right count) (ap (nodes_from right) e)

-- as many of each as both have
pub rows_joined : (left right : Node) (m n both : ℕ) → both ≡ min m n → joins_between (nodes_from left both) (nodes_from right both) ≡ joins_between (nodes_from left m) (nodes_from right n)
unfolding joins_between nodes_from
rows_joined left right zero n both e = let none : both ≡ 0 = omega (arith, e) in ap (λ k. joins_between (nodes_from left k) (nodes_from right k)) none
rows_joined left right (suc m) zero both e = let none : both ≡ 0 = omega (arith, e) in ap (λ k. joins_between (nodes_from left k) (nodes_from right k)) none
rows_joined left right (suc m) (suc n) zero e = absurd (omega (arith, e))
rows_joined left right (suc m) (suc n) (suc both) e = ap (λ l. record { a = left; b = right } ∷ l) (rows_joined (node_after left 1) (node_after right 1) m n both (omega (arith, e)))

-- the bits of a span
pub span_row : (place : SignalAt) (first count : ℕ) (node : Node) → node ≡ node_at place first → nodes_from node count ≡ span_bits place (record { first = first; count = count })
span_row place first count node e = ap (λ n. nodes_from n count) e ∙ nodes_of_span place first count
