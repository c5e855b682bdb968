-- The design of a generated file has twice as many leaves for each further cell.
use Rattle.std.proofs.Common.{arith, ◌≡◌, ℕ, zero, suc, ◌+◌, ◌-◌, ◌*◌, ◌<◌, ◌≤◌, ◌^◌, Bool, Some, refl, sym, ap, ◌∙◌, subst}
use Rattle.std.proofs.lemmas.Nat.{pow-add}
use Rattle.edif_design.specs.Design.{edif_design}
use Rattle.net_graph.proofs.WalkLaws.{linked_alone}
use Rattle.net_hier.specs.Cells.{HasLocalStep, IsLeaf}
use Rattle.net_hier.specs.Design.{IsCell}
use Rattle.net_hier.specs.declared.nodes.Node.{Node}
use Rattle.vectors.specs.Files.{generated}
use Rattle.vectors.specs.Numbers.{is_swapped}
use Rattle.vectors_laws.specs.Designs.{cell_above, design_cell, design_cells, first_cell}
use Rattle.vectors_laws.specs.Leaves.{LeafCount, an_instance, inner, leaf, no_instance}
use Rattle.vectors_laws.proofs.Designs.{cells_are, top_number}
use Rattle.vectors_laws.proofs.Lists.{range_at}

no_step : (x y : Node) → HasLocalStep first_cell x y → ⊥
no_step x y step = let h = step.is_join in let lt = h.1 in omega (arith, lt)

first_leaf : IsLeaf first_cell
first_leaf = record { no_instances = refl; apart = λ x y _ _ link. linked_alone (HasLocalStep first_cell) x (no_step x) link }

above_inner : (swapped : Bool) (below : ℕ) → IsLeaf (cell_above swapped below) → ⊥
above_inner swapped below is = let e = is.no_instances in cc

module _ (seed count : ℕ) where
  cell_at : (k : ℕ) → k < count → IsCell (design_cells seed count) k (design_cell seed k)
  cell_at k lt = range_at (design_cell seed) 0 count k lt ∙ ap (λ m. Some (design_cell seed m)) (let e : 0 + k ≡ k = omega arith in e)

  doubled : (k : ℕ) → 2 ^ k + (2 ^ k + 0) ≡ 2 ^ suc k
  doubled k = (let e : 2 ^ (1 + k) ≡ 2 ^ 1 * 2 ^ k = pow-add 2 1 k in let f : 2 ^ (1 + k) ≡ 2 ^ suc k = ap (λ m. 2 ^ m) (let z : 1 + k ≡ suc k = omega arith in z) in omega (arith, e, f))

  leaves_of : (k : ℕ) → k < count → LeafCount (design_cells seed count) k (2 ^ k)
  leaves_of zero lt = leaf (cell_at zero lt) first_leaf
  leaves_of (suc k) lt =
      let rest = leaves_of k (omega (arith, lt)) in
      subst (LeafCount (design_cells seed count) (suc k)) (doubled k) (inner (cell_at (suc k) lt) (above_inner (is_swapped seed (suc k)) k) (an_instance rest (an_instance rest no_instance)))

pub leaves_are : (seed count : ℕ) → 0 < count → count ≤ 2 ^ 64 → LeafCount (edif_design (generated seed count)).cells (edif_design (generated seed count)).top (2 ^ (count - 1))
leaves_are seed count some small =
    subst (λ cells. LeafCount cells (edif_design (generated seed count)).top (2 ^ (count - 1))) (sym (cells_are seed count small some))
    (subst (λ top. LeafCount (design_cells seed count) top (2 ^ (count - 1))) (sym (top_number seed count small some)) (leaves_of seed count (count - 1) (omega (arith, some))))
