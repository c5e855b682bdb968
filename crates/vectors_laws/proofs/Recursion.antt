-- No cell of the design of a generated file reaches itself.
use Rattle.std.proofs.Common.{arith, ◌≡◌, ℕ, zero, suc, ◌+◌, ◌<◌, ◌≤◌, ◌||◌, Bool, true, false, List, [], ◌∷◌, ◌++◌, get_or, map, refl, subst}
use Rattle.std.specs.Prelude.{◌==◌, codes}
use Rattle.std.specs.List.{flat_map, list_any, range_with_len}
use Rattle.std.proofs.lemmas.Bool.{false≢true, eqb-true}
use Rattle.net_graph.specs.Marks.{IsReachable, below, has_below, is_marked, itself, marks_of}
use Rattle.net_graph.proofs.MarkLaws.{reachable-marked}
use Rattle.net_hier.specs.Design.{below_of, cells_below}
use Rattle.nl_base.specs.declared.rule.Rule.TheVariants.{E13}
use Rattle.edif_design.specs.FileRules.{closing_refusals, recursion_refusals}
use Rattle.edif_written.proofs.Rules.{not_broken}
use Rattle.vectors_laws.specs.Designs.{design_cell, design_cells, instance_of}
use Rattle.vectors_laws.proofs.Lists.{map_map, none_numbered}

-- the numbers below that of a cell
abbrev numbers_below : ℕ → ℕ → List ℕ
numbers_below seed k = below_of (design_cell seed k)

graph_is : (seed count : ℕ) → cells_below (design_cells seed count) ≡ map (numbers_below seed) (range_with_len 0 count)
graph_is seed count = map_map below_of (design_cell seed) (range_with_len 0 count)

-- only lesser numbers stand below a number
lesser : (seed k inner : ℕ) → list_any (λ n. n == inner) (numbers_below seed k) ≡ true → inner < k
lesser seed zero inner h = absurd (false≢true h)
lesser seed (suc k) inner h = by (k == inner) refl h
  where
    by : (b : Bool) → (k == inner) ≡ b → (b || (b || false)) ≡ true → inner < suc k
    by true e t = (let same : k ≡ inner = eqb-true k inner e in omega (arith, same))
    by false e t = absurd (false≢true t)

lesser_from : (seed a n outer inner : ℕ) → list_any (λ m. m == inner) (get_or (map (numbers_below seed) (range_with_len a n)) outer []) ≡ true → inner < a + outer
lesser_from seed a zero outer inner h = absurd (false≢true h)
lesser_from seed a (suc n) zero inner h = (let lt = lesser seed a inner h in omega (arith, lt))
lesser_from seed a (suc n) (suc outer) inner h = (let lt = lesser_from seed (a + 1) n outer inner h in omega (arith, lt))

module _ (seed count : ℕ) where
  abbrev graph : List (List ℕ)
  graph = cells_below (design_cells seed count)

  step_down : (outer inner : ℕ) → has_below graph outer inner ≡ true → inner < outer
  step_down outer inner h =
      let lt = lesser_from seed 0 count outer inner (subst (λ (g : List (List ℕ)). has_below g outer inner ≡ true) (graph_is seed count) h) in
      omega (arith, lt)

  -- so is each number that is reached, or it is the first
  walk_down : (start number : ℕ) → IsReachable graph start number → number ≤ start
  walk_down start number itself = omega arith
  walk_down start number (below {outer = outer} r h) = (let rest = walk_down start outer r in let lt = step_down outer number h in omega (arith, rest, lt))

  no_true : (b : Bool) → (b ≡ true → ⊥) → b ≡ false
  no_true true h = absurd (h refl)
  no_true false h = refl

  unmarked : (k : ℕ) → is_marked (marks_of graph k) (suc k) ≡ false
  unmarked k = no_true (is_marked (marks_of graph k) (suc k)) (λ t. let le = walk_down k (suc k) (reachable-marked graph k (suc k) t) in omega (arith, le))

  closes_none : (name : List ℕ) (k : ℕ) (instance : List ℕ) → closing_refusals (design_cells seed count) (suc k) name (instance_of instance k) ≡ []
  closes_none name k instance = not_broken (is_marked (marks_of graph k) (suc k)) (record { rule = E13; cell = name; names = instance ∷ [] }) (unmarked k)

  pub no_recursion : recursion_refusals (design_cells seed count) ≡ []
  no_recursion = none_numbered (design_cell seed) (λ cell. flat_map (closing_refusals (design_cells seed count) cell.0 cell.1.name) cell.1.instances) 0 count (λ k lt. none k)
    where
      none_at : (k : ℕ) → flat_map (closing_refusals (design_cells seed count) k (design_cell seed k).name) (design_cell seed k).instances ≡ []
      none_at zero = refl
      none_at (suc n) = λ j. closes_none (design_cell seed (suc n)).name n (codes "a") j ++ (closes_none (design_cell seed (suc n)).name n (codes "b") j ++ [])

      none : (k : ℕ) → flat_map (closing_refusals (design_cells seed count) (0 + k) (design_cell seed (0 + k)).name) (design_cell seed (0 + k)).instances ≡ []
      none k = (let e : k ≡ 0 + k = omega arith in subst (λ m. flat_map (closing_refusals (design_cells seed count) m (design_cell seed m).name) (design_cell seed m).instances ≡ []) e (none_at k))
