-- The cells of a planned file are made under words.
use Rattle.std.proofs.Common.{arith, ◌≡◌, ◌⊎◌, inl, inr, ℕ, zero, suc, ◌+◌, ◌<◌, Bool, List, [], ◌∷◌, Option, None, Some, length, refl, subst}
use Rattle.std.specs.Prelude.{slice_get}
use Rattle.std.proofs.lemmas.Option.{slice_get_within}
use Rattle.edif_values.specs.declared.cell.Cell.{Cell}
use Rattle.edif_plans.specs.Planned.{AreCells, IsMadeOf, IsPlan}
use Rattle.edif_partners.specs.Files.{IsOldCell}
use Rattle.edif_plans.specs.Plans.{head_at}
use Rattle.edif_plans.specs.declared.plan.Plan.{Plan}
use Rattle.edif_value_laws.specs.Named.{AreNamedCells, HasWords, IsNamedCell}
use Rattle.net_hier.specs.Constants.{ConstantNames}
use Rattle.net_hier.specs.Design.{Design}

no_item : {A : Type 0} (xs : List A) (i : ℕ) → slice_get xs i ≡ None → (rest : ℕ) × (i ≡ length xs + rest)
no_item [] i none = (i, omega arith)
no_item (x ∷ xs) zero none = absurd cc
no_item (x ∷ xs) (suc i) none = let later = no_item xs i none in (later.0, omega (arith, later.1))

some_item : {A : Type 0} (xs : List A) (i : ℕ) → i < length xs → (x : A) × (slice_get xs i ≡ Some x)
some_item [] i within = absurd (omega arith)
some_item (x ∷ xs) zero within = (x, cc)
some_item (x ∷ xs) (suc i) within = some_item xs i (omega arith)

module _ (names : ConstantNames) (design : Design) (values : List Bool) (plan : Plan) (cells : List Cell) (is_plan : IsPlan names design values plan) (are : AreCells names design plan values design.order cells)
    (words : (place : ℕ) → place < length values → HasWords (head_at plan place)) where
  old_cell : (number : ℕ) (made : Cell) → IsMadeOf names design plan number made → IsOldCell design plan made
  old_cell number made h = record { number = number; cell = h.cell; is_there = h.is_there; classes = h.classes; are_classes = h.are_classes; is_made = h.is_made }

  new_cell : (number : ℕ) (value : Bool) (made : Cell) → slice_get values number ≡ Some value → slice_get cells number ≡ Some made → IsNamedCell names plan number made
  new_cell number value made at there = record {
    is_new = record { value = value; is_made = are.new number value made at there };
    words = words number (slice_get_within values number value at);
    has_port = let one = (is_plan.new_heads number value at).len in omega (arith, one);
  }

  placed : (number place : ℕ) (made : Cell) → slice_get cells number ≡ Some made → number ≡ length values + place → IsOldCell design plan made
  placed number place made there is =
      let within = slice_get_within cells number made there in
      let found = some_item design.order place (let n = are.as_many in omega (arith, within, is, n)) in
      old_cell found.0 made (are.old place found.0 made found.1 (subst (λ n. slice_get cells n ≡ Some made) is there))

  -- each cell is made for a constant, under words, or of a cell of the design
  pub planned_named : AreNamedCells names design plan cells
  planned_named number made there = by (slice_get values number) refl
    where
      by : (o : Option Bool) → slice_get values number ≡ o → IsNamedCell names plan number made ⊎ IsOldCell design plan made
      by None is = let rest = no_item values number is in inr (placed number rest.0 made there rest.1)
      by (Some value) is = inl (new_cell number value made is there)
