-- Where the instances stand that are added for the constants.
use Rattle.std.proofs.Common.{arith, ◌≡◌, ℕ, zero, suc, ◌+◌, Bool, true, false, cond, List, [], ◌∷◌, ◌++◌, Some, None, length, map, refl, sym, ap, ◌∙◌}
use Rattle.std.specs.Prelude.{slice_get}
use Rattle.std.proofs.lemmas.List.{length-map}
use Rattle.net_bits.specs.Classes.{ClassTable}
use Rattle.net_live.specs.Live.{needs_constant}
use Rattle.net_stars.specs.StandIns.{AreAddedAfter}
use Rattle.edif_plans.specs.Made.{AreAddedTo}
use Rattle.edif_plans.specs.References.{CellPlan, added_place}
use Rattle.edif_plans.specs.declared.added.Added.{Added}
use Rattle.edif_plans.proofs.Needed.{idents_count}
use Rattle.edif_partners.specs.Placed.{added_number}
use Rattle.edif_partners.proofs.Free.{shown_at}

abbrev value_of : Added → Bool
value_of one = one.value

-- what stands behind a list
pub get_right : {A : Type 0} (xs ys : List A) (i k : ℕ) → i ≡ length xs + k → slice_get (xs ++ ys) i ≡ slice_get ys k
get_right [] ys i k e = ap (slice_get ys) (let z : i ≡ k = omega (arith, e) in z)
get_right (x ∷ xs) ys zero k e = absurd (omega (arith, e))
get_right (x ∷ xs) ys (suc i) k e = get_right xs ys i k (let z : i ≡ length xs + k = omega (arith, e) in z)

-- the instance that is added for a constant, and its place among the instances of the cell
pub record IsAddedAt (cell_plan : CellPlan) (value : Bool) : Type 0 where
  pub place : ℕ
  pub one : Added
  pub is_there : slice_get cell_plan.instances.added place ≡ Some one
  pub is_value : one.value ≡ value
  pub at : added_place cell_plan.instances value ≡ length cell_plan.cell.instances + place

module _ (cell_plan : CellPlan) (classes : ClassTable) (are : AreAddedTo cell_plan.cell.instances classes cell_plan.instances) where
  counted : length cell_plan.instances.idents ≡ length cell_plan.cell.instances + length cell_plan.instances.added
  counted = idents_count cell_plan.cell.instances classes cell_plan.instances are

  zero_at : needs_constant classes false ≡ true → IsAddedAt cell_plan false
  zero_at needed =
      let at : slice_get (map value_of cell_plan.instances.added) 0 ≡ Some false = ap (λ l. slice_get l 0) are.values ∙ ap (λ b. slice_get (cond b (false ∷ []) [] ++ cond (needs_constant classes true) (true ∷ []) []) 0) needed in
      let found = shown_at value_of cell_plan.instances.added 0 false at in
      record { place = 0; one = found.item; is_there = found.is_there; is_value = found.shows; at = omega (arith, counted) }

  one_at : (first : Bool) → needs_constant classes false ≡ first → needs_constant classes true ≡ true → IsAddedAt cell_plan true
  one_at true e needed =
      let values : map value_of cell_plan.instances.added ≡ false ∷ (true ∷ []) = are.values ∙ (λ j. cond (e j) (false ∷ []) [] ++ cond (needed j) (true ∷ []) []) in
      let found = shown_at value_of cell_plan.instances.added 1 true (ap (λ l. slice_get l 1) values) in
      let count : length cell_plan.instances.added ≡ 2 = sym (length-map cell_plan.instances.added value_of) ∙ ap length values in
      record { place = 1; one = found.item; is_there = found.is_there; is_value = found.shows; at = omega (arith, counted, count) }
  one_at false e needed =
      let values : map value_of cell_plan.instances.added ≡ true ∷ [] = are.values ∙ (λ j. cond (e j) (false ∷ []) [] ++ cond (needed j) (true ∷ []) []) in
      let found = shown_at value_of cell_plan.instances.added 0 true (ap (λ l. slice_get l 0) values) in
      let count : length cell_plan.instances.added ≡ 1 = sym (length-map cell_plan.instances.added value_of) ∙ ap length values in
      record { place = 0; one = found.item; is_there = found.is_there; is_value = found.shows; at = omega (arith, counted, count) }

  pub added_at : (value : Bool) → needs_constant classes value ≡ true → IsAddedAt cell_plan value
  added_at false needed = zero_at needed
  added_at true needed = one_at (needs_constant classes false) refl needed

  needed_place : (value needs : Bool) (place : ℕ) → needs_constant classes value ≡ needs → cond needs (Some (added_place cell_plan.instances value)) None ≡ Some place → (needs_constant classes value ≡ true) × (added_place cell_plan.instances value ≡ place)
  needed_place value true place e h = (e, cc)
  needed_place value false place e h = absurd cc

  -- the added instances stand after the cell's own, and are two where both are added
  pub added_after : AreAddedAfter cell_plan.cell (added_number cell_plan.instances classes)
  added_after = record {
    late = λ value place h.
        let p = needed_place value (needs_constant classes value) place refl h in
        let at = added_at value p.0 in
        let e = at.at in
        let q = p.1 in
        omega (arith, e, q);
    differ = λ zero one hz ho e.
        let z = needed_place false (needs_constant classes false) zero refl hz in
        let o = needed_place true (needs_constant classes true) one refl ho in
        let values : map value_of cell_plan.instances.added ≡ false ∷ (true ∷ []) = are.values ∙ (λ j. cond (z.0 j) (false ∷ []) [] ++ cond (o.0 j) (true ∷ []) []) in
        let count : length cell_plan.instances.added ≡ 2 = sym (length-map cell_plan.instances.added value_of) ∙ ap length values in
        let p = z.1 in
        let q = o.1 in
        omega (arith, counted, count, p, q, e);
  }
