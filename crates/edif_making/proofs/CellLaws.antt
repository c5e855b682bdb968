-- What a cell that is written needs is there.
use Rattle.std.proofs.Common.{arith, ◌≡◌, ℕ, ◌<◌, Bool, true, false, cond, List, [], ◌∷◌, ◌++◌, Option, Some, length, map, sym, ap, ◌∙◌}
use Rattle.std.specs.Prelude.{Contains}
use Rattle.std.specs.List.{AllByRecursion}
use Rattle.std.proofs.lemmas.Bool.{false≢true}
use Rattle.std.proofs.lemmas.List.{length-map}
use Rattle.net_bits.specs.Classes.{AreClasses, ClassTable, class_of, members_of}
use Rattle.net_bits.proofs.CallerLaws.{member_of_class}
use Rattle.net_hier.specs.Cells.{constant_node}
use Rattle.net_hier.specs.Valid.{Each, IsGoodCell}
use Rattle.net_hier.specs.declared.nodes.Node.{Node}
use Rattle.net_hier.specs.declared.nodes.Node.TheVariants.{Port, Pin, Net, Zero, One}
use Rattle.net_live.specs.Live.{is_live, needs_constant}
use Rattle.net_live.proofs.LiveLaws.{joined_node}
use Rattle.net_stars.proofs.Lists.{contains_first, contains_later}
use Rattle.edif_plans.specs.Made.{AreAddedTo, live_below, needed_values}
use Rattle.edif_plans.specs.Plans.{FitsCells, HasConstant, HasPorts, constant_number}
use Rattle.edif_plans.specs.References.{CanRefer, FitsCellPlan, HasPin, CellPlan}
use Rattle.edif_plans.specs.declared.added.Added.{Added}
use Rattle.edif_plans.specs.declared.plan.Plan.{Plan}
use Rattle.edif_making.proofs.LiveBelow.{live_is}
use Rattle.edif_plans.proofs.Needed.{added_value, constant_is_needed, idents_count}

-- ---- so an instance is added for it

some_value : (zero one : Bool) (value : Bool) → cond value one zero ≡ true → 0 < length (cond zero (false ∷ []) [] ++ cond one (true ∷ []) [])
some_value true one value h = omega arith
some_value false true value h = omega arith
some_value false false false h = absurd (false≢true h)
some_value false false true h = absurd (false≢true h)

needed_one : (classes : ClassTable) (value : Bool) → needs_constant classes value ≡ true → cond value (needs_constant classes true) (needs_constant classes false) ≡ true
needed_one classes false h = h
needed_one classes true h = h

some_added : (classes : ClassTable) (added : List Added) (value : Bool) → map (λ (one : Added). one.value) added ≡ needed_values classes → needs_constant classes value ≡ true → 0 < length added
some_added classes added value values needed =
    let some = some_value (needs_constant classes false) (needs_constant classes true) value (needed_one classes value needed) in
    let same : length added ≡ length (needed_values classes) = sym (length-map added (λ (one : Added). one.value)) ∙ ap length values in
    omega (arith, some, same)

-- ---- the plan of a cell

pub cell_plan_fits : (cell_plan : CellPlan) (classes : ClassTable) → FitsCells cell_plan.cells cell_plan.plan → HasPorts cell_plan.head cell_plan.cell → IsGoodCell cell_plan.cells cell_plan.cell → AreAddedTo cell_plan.cell.instances classes cell_plan.instances → FitsCellPlan cell_plan
cell_plan_fits cell_plan classes plan ports good are = record { plan_fits = plan; ports_fit = ports; idents_fit = idents_count cell_plan.cell.instances classes cell_plan.instances are; in_range = good.instances_in_range }

all_from : {A : Type 0} (P : A → Type 0) (xs : List A) → ((x : A) → Contains xs x → P x) → AllByRecursion P xs
all_from P [] h = tt
all_from P (x ∷ xs) h = (h x (contains_first x xs), all_from P xs (λ y m. h y (contains_later x y xs m)))

all_mapped : {A B : Type 0} (P : B → Type 0) (f : A → B) (xs : List A) → ((x : A) → Contains xs x → P (f x)) → AllByRecursion P (map f xs)
all_mapped P f [] h = tt
all_mapped P f (x ∷ xs) h = (h x (contains_first x xs), all_mapped P f xs (λ y m. h y (contains_later x y xs m)))

module _ (cell_plan : CellPlan) (classes : ClassTable) (are : AreClasses cell_plan.cell classes) (good : IsGoodCell cell_plan.cells cell_plan.cell) (added : AreAddedTo cell_plan.cell.instances classes cell_plan.instances)
    (constants : (value : Bool) → needs_constant classes value ≡ true → HasConstant cell_plan.plan value) where
  has_pin : (value : Bool) (class : ℕ) → class_of classes (constant_node value) ≡ Some class → is_live cell_plan.cell.nets (members_of classes class) ≡ true → HasPin cell_plan value
  has_pin value class of_class live =
      let needed = constant_is_needed cell_plan.cell classes are value class of_class live in
      record { is_added = some_added classes cell_plan.instances.added value added.values needed; constant = constants value needed }

  can_refer : (node : Node) (class : ℕ) → class_of classes node ≡ Some class → is_live cell_plan.cell.nets (members_of classes class) ≡ true → CanRefer cell_plan node
  can_refer (Port port bit) class of_class live = joined_node cell_plan.cells cell_plan.cell classes are good.joins_in_range (Port port bit) class of_class
  can_refer (Pin instance port bit) class of_class live = joined_node cell_plan.cells cell_plan.cell classes are good.joins_in_range (Pin instance port bit) class of_class
  can_refer (Net net) class of_class live = tt
  can_refer Zero class of_class live = has_pin false class of_class live
  can_refer One class of_class live = has_pin true class of_class live

  -- all that the nets of a cell name is there
  pub refs_there : AllByRecursion (AllByRecursion (CanRefer cell_plan)) (map (members_of classes) (live_below cell_plan.cell.nets classes classes.count))
  refs_there = all_mapped (AllByRecursion (CanRefer cell_plan)) (members_of classes) (live_below cell_plan.cell.nets classes classes.count) (λ class there. all_from (CanRefer cell_plan) (members_of classes class) (λ node m.
      can_refer node class ((member_of_class cell_plan.cell classes are node class).1 m) (live_is cell_plan.cell.nets classes classes.count class there).1))

pub added_in_plan : (plan : Plan) (classes : ClassTable) (added : List Added) → map (λ (one : Added). one.value) added ≡ needed_values classes → ((value : Bool) → needs_constant classes value ≡ true → HasConstant plan value)
    → Each (λ (one : Added). constant_number plan one.value < length plan.heads) added
added_in_plan plan classes added values constants = λ place one there. (constants one.value (added_value classes added values place one there)).is_there

pub same_item : {A : Type 0} (o : Option A) (x y : A) → o ≡ Some x → o ≡ Some y → x ≡ y
same_item o x y e f = cc
