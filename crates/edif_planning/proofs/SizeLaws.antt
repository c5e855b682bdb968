-- A cell of a design has few joins.
use Rattle.std.proofs.Common.{arith, ◌≡◌, ℕ, zero, suc, ◌≤◌, List, [], ◌∷◌, Some, ap, length, slice_get, sum_by}
use Rattle.std.proofs.lemmas.List.Sums.{sum_by-cons}
use Rattle.net_hier.specs.Design.{Design, IsCell}
use Rattle.net_hier.specs.Units.{cell_units}
use Rattle.net_hier.specs.Valid.{IsHier}
use Rattle.net_hier.specs.declared.cells.HCell.{HCell}

part_of_sum : {X : Type 0} (f : X → ℕ) (xs : List X) (i : ℕ) (x : X) → slice_get xs i ≡ Some x → f x ≤ sum_by f xs
part_of_sum f [] i x e = absurd cc
part_of_sum f (y ∷ xs) zero x e = let p : y ≡ x = cc in let q = ap f p in omega (arith, q, sum_by-cons f y xs)
part_of_sum f (y ∷ xs) (suc i) x e = let le = part_of_sum f xs i x e in omega (arith, le, sum_by-cons f y xs)

-- the joins of a cell are among the units of the design, of which there are at most so many
pub few_joins : (design : Design) → IsHier design → (number : ℕ) (cell : HCell) → IsCell design.cells number cell → length cell.joins ≤ 33554432
few_joins design hier number cell is = let le = part_of_sum cell_units design.cells number cell is in omega (arith, le, hier.few_units)
