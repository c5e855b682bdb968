-- The instances that are made of those of a cell, and of the constants that it needs, break no rule.
use Rattle.std.proofs.Common.{◌≡◌, ℕ, zero, suc, ◌⊎◌, inl, inr, Bool, true, List, [], ◌∷◌, ◌++◌, Some, map, refl, sym, ap, ◌∙◌, subst}
use Rattle.std.specs.Prelude.{option_map, slice_get}
use Rattle.std.proofs.lemmas.List.{map-append}
use Rattle.std.proofs.lemmas.Option.{slice_get-map}
use Rattle.edif_values.specs.Names.{original}
use Rattle.edif_values.specs.declared.name.NameDef.{NameDef}
use Rattle.edif_values.specs.declared.cell.Cell.{Cell}
use Rattle.edif_values.specs.declared.instance.Instance.{Instance}
use Rattle.net_bits.specs.Classes.{ClassTable}
use Rattle.net_hier.specs.Valid.{IsGoodCell}
use Rattle.net_hier.specs.declared.cells.HCell.{HCell}
use Rattle.net_hier.specs.declared.cells.HInst.{HInst}
use Rattle.net_live.specs.Live.{needs_constant}
use Rattle.edif_meanings.specs.Apart.{AreApart}
use Rattle.edif_written.proofs.CellLaws.{AreInstances, IsOf}
use Rattle.edif_plans.specs.Summaries.{InstanceSummary, added_summary, instance_summary, instance_summaries, instance_names, own_summary}
use Rattle.edif_plans.specs.Made.{AreAddedTo, AreInstancesFor}
use Rattle.edif_plans.specs.Plans.{constant_number, number_of}
use Rattle.edif_plans.specs.declared.added.Added.{Added}
use Rattle.edif_plans.specs.declared.added.Instances.{Instances}
use Rattle.edif_plans.specs.declared.plan.Plan.{Plan}
use Rattle.edif_partners.specs.Placed.{ArePlaced, ConstantStands}
use Rattle.edif_partners.proofs.Free.{free_append, names_own, none_earlier, own_free, shown_at}
use Rattle.edif_plans.proofs.Needed.{added_value}

map_twice : {A B C : Type 0} (f : B → C) (g : A → B) (xs : List A) → map f (map g xs) ≡ map (λ x. f (g x)) xs
map_twice f g [] = refl
map_twice f g (x ∷ xs) = ap (λ l. f (g x) ∷ l) (map_twice f g xs)

-- the names of instances of these summaries
summary_names : (plan : Plan) (own : List HInst) (added : List Added) (made : List Instance) → map instance_summary made ≡ instance_summaries plan own added → map (λ (i : Instance). original i.name) made ≡ instance_names own added
summary_names plan own added made summaries =
    sym (map_twice (λ (summary : InstanceSummary). summary.name) instance_summary made)
    ∙ (ap (map (λ (summary : InstanceSummary). summary.name)) summaries
    ∙ (map-append (λ (summary : InstanceSummary). summary.name) (map (own_summary plan) own) (map (added_summary plan) added)
    ∙ (λ j. map_twice (λ (summary : InstanceSummary). summary.name) (own_summary plan) own j ++ map_twice (λ (summary : InstanceSummary). summary.name) (added_summary plan) added j)))

-- an item of two lists is one of the first or one of the second
pub get_either : {A : Type 0} (xs ys : List A) (i : ℕ) (x : A) → slice_get (xs ++ ys) i ≡ Some x → (slice_get xs i ≡ Some x) ⊎ ((k : ℕ) × (slice_get ys k ≡ Some x))
get_either [] ys i x there = inr (i, there)
get_either (y ∷ xs) ys zero x there = inl there
get_either (y ∷ xs) ys (suc i) x there = get_either xs ys i x there

module _ (name design_name : NameDef) (cells : List Cell) (top : List ℕ) (design_cells : List HCell) (plan : Plan) (placed : ArePlaced design_cells plan cells) where
  abbrev OfCell : Instance → Type 0
  OfCell = IsOf name design_name cells top placed.apart placed.viewed

  -- an instance of a cell of the design
  own_of : (instance : HInst) (below : HCell) → slice_get design_cells instance.cell ≡ Some below → (x : Instance) → instance_summary x ≡ own_summary plan instance → OfCell x
  own_of instance below there x summary =
      let stands = placed.stand instance.cell below there in
      record {
        number = number_of plan instance.cell;
        inner = stands.made;
        is_there = stands.is_there;
        of_cell = ap (λ (f : InstanceSummary). f.cell) summary ∙ stands.head.cell;
        of_library = ap (λ (f : InstanceSummary). f.library) summary;
        of_view = ap (λ (f : InstanceSummary). f.view) summary;
      }

  -- an instance of the cell of a constant
  added_of : (one : Added) → ConstantStands plan cells one.value → (x : Instance) → instance_summary x ≡ added_summary plan one → OfCell x
  added_of one stands x summary = record {
    number = constant_number plan one.value;
    inner = stands.made;
    is_there = stands.is_there;
    of_cell = ap (λ (f : InstanceSummary). f.cell) summary ∙ stands.head.cell;
    of_library = ap (λ (f : InstanceSummary). f.library) summary;
    of_view = ap (λ (f : InstanceSummary). f.view) summary;
  }

  module _ (cell : HCell) (classes : ClassTable) (instances : Instances) (made : List Instance) (good : IsGoodCell design_cells cell) (added : AreAddedTo cell.instances classes instances) (are : AreInstancesFor plan cell.instances instances made)
      (constants : (value : Bool) → needs_constant classes value ≡ true → ConstantStands plan cells value) (below : (place : ℕ) (instance : HInst) → slice_get cell.instances place ≡ Some instance → (inner : HCell) × (slice_get design_cells instance.cell ≡ Some inner)) where
    each_of : (i : ℕ) (x : Instance) → slice_get made i ≡ Some x → OfCell x
    each_of i x there =
        let at : slice_get (instance_summaries plan cell.instances instances.added) i ≡ Some (instance_summary x) = ap (λ l. slice_get l i) (sym are.summaries) ∙ (slice_get-map instance_summary made i ∙ ap (option_map instance_summary) there) in
        elim (get_either (map (own_summary plan) cell.instances) (map (added_summary plan) instances.added) i (instance_summary x) at) as (λ _. OfCell x) [
          | inl h ↦
              let own = shown_at (own_summary plan) cell.instances i (instance_summary x) h in
              let inner = below i own.item own.is_there in
              own_of own.item inner.0 inner.1 x (sym own.shows)
          | inr h ↦
              let one = shown_at (added_summary plan) instances.added h.0 (instance_summary x) h.1 in
              added_of one.item (constants one.item.value (added_value classes instances.added added.values h.0 one.item one.is_there)) x (sym one.shows)
        ]

    -- the instances of a cell under identifiers that differ up to case
    pub instances_good : AreInstances name design_name cells top placed.apart placed.viewed made
    instances_good = record {
      apart = subst AreApart (sym are.idents) added.idents.apart;
      names = λ before x after e. none_earlier (λ (i : Instance). original i.name) made (instance_names cell.instances instances.added) (summary_names plan cell.instances instances.added made are.summaries)
          (free_append [] (map (λ (i : HInst). i.name) cell.instances) (map (λ (a : Added). a.name) instances.added) (own_free [] (map (λ (i : HInst). i.name) cell.instances) (names_own (λ (i : HInst). i.name) cell.instances good.instance_names)) added.free) before x after e;
      each = each_of;
    }
