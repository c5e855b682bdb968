-- The plan of the file of a design.
use Rattle.std.proofs.Common.{arith, ◌≡◌, ◌⊎◌, inl, inr, ℕ, suc, ◌+◌, ◌<◌, ◌&&◌, Bool, true, false, cond, List, [], ◌∷◌, ◌++◌, Option, Some, None, length, length-append, map, refl, sym, ap, ◌∙◌, subst}
use Rattle.std.specs.Prelude.{is_none, option_map, slice_get}
use Rattle.std.proofs.lemmas.Bool.{false≢true}
use Rattle.std.proofs.lemmas.List.{length-map, map-append}
use Rattle.std.proofs.lemmas.Option.{slice_get-map, slice_get_within}
use Rattle.net_graph.proofs.OrderLaws.{StandsIn, get_front}
use Rattle.net_hier.specs.Constants.{ConstantNames, name_of_constant}
use Rattle.net_hier.specs.Design.{Design, IsCell}
use Rattle.net_hier.specs.Valid.{IsHier}
use Rattle.net_hier.specs.declared.cells.HCell.{HCell}
use Rattle.net_hier.specs.declared.cells.HPort.{HPort}
use Rattle.edif_spaces.specs.Spaces.{AreIdents}
use Rattle.edif_plans.specs.Plans.{FitsCells, HasHead, constant_number, head_at, head_of, no_head, number_of}
use Rattle.edif_plans.specs.declared.head.Head.{Head}
use Rattle.edif_plans.specs.declared.plan.Plan.{Plan}
use Rattle.edif_plans.proofs.Lists.{at_get}
use Rattle.edif_plans.specs.Missing.{IsNeeded}
use Rattle.edif_plans.specs.Planned.{IsOldAt, IsPlan, names_of_cells}
use Rattle.edif_planning.specs.Constants.{IsFirstPlace, IsKnown, is_missing, missing_of, number_for}
use Rattle.edif_planning.specs.Numbers.{AreHeads, AreNumbers, CellNames, new_names, old_names}
use Rattle.edif_planning.specs.Plans.{IsPlanned}
use Rattle.edif_planning.specs.declared.constants.Known.{Known}
use Rattle.edif_planning.specs.declared.planning.Planned.{Planned}
use Rattle.edif_planning.proofs.ClassLaws.{item_there}
use Rattle.edif_planning.proofs.ConstantLaws.{are_missing}
use Rattle.edif_planning.proofs.HeadLaws.{names_at}
use Rattle.edif_planning.proofs.OrderLaws.{order_all}

-- what stands behind the first list
behind : {A : Type 0} (xs ys : List A) (place : ℕ) → slice_get (xs ++ ys) (length xs + place) ≡ slice_get ys place
behind [] ys place = let e : 0 + place ≡ place = omega arith in ap (slice_get ys) e
behind (x ∷ xs) ys place = let e : suc (length xs) + place ≡ suc (length xs + place) = omega arith in ap (slice_get (x ∷ (xs ++ ys))) e ∙ behind xs ys place

-- the names of cells among those of cells and ports
shown : {A : Type 0} (f : A → CellNames) (xs : List A) → map (λ (n : CellNames). n.cell) (map f xs) ≡ map (λ (x : A). (f x).cell) xs
shown f [] = refl
shown f (x ∷ xs) = ap (λ l. (f x).cell ∷ l) (shown f xs)

-- ---- the new cells

zero_first : (a b : Bool) → a ≡ true → slice_get (cond a (false ∷ []) [] ++ cond b (true ∷ []) []) 0 ≡ Some false
zero_first true b h = refl
zero_first false b h = absurd (false≢true h)

one_last : (a b : Bool) → b ≡ true → slice_get (cond a (false ∷ []) [] ++ cond b (true ∷ []) []) (cond a 1 0) ≡ Some true
one_last true true h = refl
one_last false true h = refl
one_last a false h = absurd (false≢true h)

needed_none : (needed : Bool) (place : Option ℕ) → needed ≡ true → place ≡ None → (needed && is_none place) ≡ true
needed_none true place h e = ap is_none e
needed_none false place h e = absurd (false≢true h)

module _ (names : ConstantNames) (design : Design) (hier : IsHier design) (values : List Bool) where
  old_at : (value : Bool) (at : ℕ) (place : Option ℕ) → IsFirstPlace names design value place → place ≡ Some at → IsOldAt names design (length values) value (length values + at)
  old_at value at None first e = absurd cc
  old_at value at (Some found) first e =
      let same : found ≡ at = cc in
      record {
        place = found;
        old = first.stands.number;
        is_placed = first.stands.is_placed;
        cell = first.stands.cell;
        is_cell = first.stands.is_cell;
        is_constant = first.stands.is_constant;
        is_number = ap (λ n. length values + n) (sym same);
      }

  -- a needed constant has the number of a cell that stands for it, or that of its new cell
  has_number : (value : Bool) (known : Known) (own number : ℕ) → IsKnown names design value known → number ≡ number_for known.place (length values) own → (is_missing known ≡ true → slice_get values own ≡ Some value) → IsNeeded design value
      → (slice_get values number ≡ Some value) ⊎ IsOldAt names design (length values) value number
  has_number value known own number is e new needed = by known.place refl
    where
      by : (place : Option ℕ) → known.place ≡ place → (slice_get values number ≡ Some value) ⊎ IsOldAt names design (length values) value number
      by None f =
          let here : number ≡ own = e ∙ ap (λ p. number_for p (length values) own) f in
          inl (ap (slice_get values) here ∙ new (needed_none known.needed known.place (is.needed.1 needed) f))
      by (Some at) f =
          let here : number ≡ length values + at = e ∙ ap (λ p. number_for p (length values) own) f in
          inr (subst (IsOldAt names design (length values) value) (sym here) (old_at value at known.place is.place f))

  module _ (zeros ones : Known) (of_zeros : IsKnown names design false zeros) (of_ones : IsKnown names design true ones) (are_those : values ≡ missing_of zeros ones) (plan : Plan) (space : List (List ℕ))
      (heads : AreHeads (map (new_names names) values ++ map (old_names design.cells) design.order) space plan.heads) (numbers : AreNumbers design (length values) plan.numbers)
      (zeros_number : plan.zero ≡ number_for zeros.place (length values) 0) (ones_number : plan.one ≡ number_for ones.place (length values) (cond (is_missing zeros) 1 0)) where
    as_many : length plan.heads ≡ length values + length design.order
    as_many = heads.as_many ∙ (length-append (map (new_names names) values) (map (old_names design.cells) design.order) ∙ (λ j. length-map values (new_names names) j + length-map design.order (old_names design.cells) j))

    -- the head at a place has identifiers for the names that are wanted there
    head_there : (place : ℕ) (wanted : CellNames) → slice_get (map (new_names names) values ++ map (old_names design.cells) design.order) place ≡ Some wanted → place < length plan.heads → AreIdents wanted.ports (head_at plan place).ports
    head_there place wanted there lt =
        let head = item_there plan.heads place lt in
        subst (λ (h : Head). AreIdents wanted.ports h.ports) (sym (at_get plan.heads place head.0 no_head head.1)) (heads.ports place wanted head.0 there head.1)

    new_heads : (place : ℕ) (value : Bool) → slice_get values place ≡ Some value → AreIdents ((name_of_constant names value).port ∷ []) (head_at plan place).ports
    new_heads place value there =
        let lt : place < length values = slice_get_within values place value there in
        head_there place (new_names names value) (get_front (map (new_names names) values) (map (old_names design.cells) design.order) place (new_names names value) (slice_get-map (new_names names) values place ∙ ap (option_map (new_names names)) there))
        (let n = as_many in omega (arith, lt, n))

    numbered : (place number : ℕ) → slice_get design.order place ≡ Some number → number_of plan number ≡ length values + place
    numbered place number there = numbers.each place number there

    old_there : (place : ℕ) → slice_get (map (new_names names) values ++ map (old_names design.cells) design.order) (length values + place) ≡ slice_get (map (old_names design.cells) design.order) place
    old_there place =
        ap (λ n. slice_get (map (new_names names) values ++ map (old_names design.cells) design.order) (n + place)) (sym (length-map values (new_names names)))
        ∙ behind (map (new_names names) values) (map (old_names design.cells) design.order) place

    old_heads : (number : ℕ) (cell : HCell) → IsCell design.cells number cell → AreIdents (map (λ (port : HPort). port.name) cell.ports) (head_of plan number).ports
    old_heads number cell is =
        let listed : StandsIn design.order number = order_all design hier.valid number (slice_get_within design.cells number cell is) in
        let lt : listed.place < length design.order = slice_get_within design.order listed.place number listed.is_there in
        let at : AreIdents (old_names design.cells number).ports (head_at plan (length values + listed.place)).ports =
        head_there (length values + listed.place) (old_names design.cells number)
        (old_there listed.place ∙ (slice_get-map (old_names design.cells) design.order listed.place ∙ ap (option_map (old_names design.cells)) listed.is_there))
        (let n = as_many in omega (arith, lt, n)) in
        subst (λ (n : CellNames). AreIdents n.ports (head_of plan number).ports) (names_at design.cells number cell is)
        (subst (λ (n : ℕ). AreIdents (old_names design.cells number).ports (head_at plan n).ports) (sym (numbered listed.place number listed.is_there)) at)

    constants : (value : Bool) → IsNeeded design value → (slice_get values (constant_number plan value) ≡ Some value) ⊎ IsOldAt names design (length values) value (constant_number plan value)
    constants false needed = has_number false zeros 0 plan.zero of_zeros zeros_number (λ missing. ap (λ l. slice_get l 0) are_those ∙ zero_first (is_missing zeros) (is_missing ones) missing) needed
    constants true needed = has_number true ones (cond (is_missing zeros) 1 0) plan.one of_ones ones_number (λ missing. ap (λ l. slice_get l (cond (is_missing zeros) 1 0)) are_those ∙ one_last (is_missing zeros) (is_missing ones) missing) needed

    -- the cells have identifiers for their names
    same_cell_names : map (λ (n : CellNames). n.cell) (map (new_names names) values ++ map (old_names design.cells) design.order) ≡ names_of_cells names design values
    same_cell_names = map-append (λ (n : CellNames). n.cell) (map (new_names names) values) (map (old_names design.cells) design.order) ∙ (λ j. shown (new_names names) values j ++ shown (old_names design.cells) design.order j)

    cell_idents : AreIdents (names_of_cells names design values) (map (λ (head : Head). head.cell) plan.heads)
    cell_idents = subst (λ (l : List (List ℕ)). AreIdents l (map (λ (head : Head). head.cell) plan.heads)) same_cell_names
        (subst (AreIdents (map (λ (n : CellNames). n.cell) (map (new_names names) values ++ map (old_names design.cells) design.order))) heads.is_space heads.idents)

    pub is_plan : IsPlan names design values plan
    is_plan = record { as_many = as_many; idents = cell_idents; new_heads = new_heads; old_heads = old_heads; numbers = numbered; constants = constants }

    has_head : (number : ℕ) → number < length design.cells → HasHead plan number
    has_head number lt =
        let listed : StandsIn design.order number = order_all design hier.valid number lt in
        let within : listed.place < length design.order = slice_get_within design.order listed.place number listed.is_there in
        record {
          is_numbered = let n = numbers.as_many in omega (arith, lt, n);
          is_there = let n = as_many in let m = numbered listed.place number listed.is_there in omega (arith, within, n, m);
        }

    pub fits : FitsCells design.cells plan
    fits = record { heads = has_head; ports = λ number cell is. (old_heads number cell is).len ∙ length-map cell.ports (λ (port : HPort). port.name) }

    pub is_planned : (planned : Planned) → planned.missing.items ≡ values → planned.plan ≡ plan → IsPlanned names design planned
    is_planned planned same_values same_plan = record {
      are_missing = are_missing names design hier.valid zeros ones planned.missing.items of_zeros of_ones (same_values ∙ are_those);
      is_plan = subst (λ (l : List Bool). IsPlan names design l planned.plan) (sym same_values) (subst (IsPlan names design values) (sym same_plan) is_plan);
      fits = subst (FitsCells design.cells) (sym same_plan) fits;
    }

-- the plan that is made of these heads and numbers
pub planned_by : (names : ConstantNames) (design : Design) → IsHier design → (zeros ones : Known) → IsKnown names design false zeros → IsKnown names design true ones → (missing shown : List Bool) → missing ≡ missing_of zeros ones → shown ≡ missing → (count : ℕ) → count ≡ length missing
    → (space : List (List ℕ)) (heads : List Head) → AreHeads (map (new_names names) shown ++ map (old_names design.cells) design.order) space heads → (numbers : List ℕ) → AreNumbers design count numbers → (plan : Plan) → plan.heads ≡ heads → plan.numbers ≡ numbers
    → plan.zero ≡ number_for zeros.place count 0 → (own : ℕ) → own ≡ cond (is_missing zeros) 1 0 → plan.one ≡ number_for ones.place count own → (planned : Planned) → planned.missing.items ≡ missing → planned.plan ≡ plan → IsPlanned names design planned
planned_by names design hier zeros ones of_zeros of_ones missing shown are_those is_shown count is_count space heads are_heads numbers are_numbers plan is_heads is_numbers is_zero own is_own is_one planned same_missing same_plan =
    is_planned names design hier missing zeros ones of_zeros of_ones are_those plan space
    (subst (λ (l : List Head). AreHeads (map (new_names names) missing ++ map (old_names design.cells) design.order) space l) (sym is_heads)
    (subst (λ (l : List Bool). AreHeads (map (new_names names) l ++ map (old_names design.cells) design.order) space heads) is_shown are_heads))
    (subst (AreNumbers design (length missing)) (sym is_numbers) (subst (λ (n : ℕ). AreNumbers design n numbers) is_count are_numbers))
    (is_zero ∙ ap (λ n. number_for zeros.place n 0) is_count)
    (is_one ∙ (λ j. number_for ones.place (is_count j) (is_own j)))
    planned same_missing same_plan
