-- The references of nets are those of a cell of which the instances keep the numbers of their cells alone, and depend on no joins.
use Rattle.std.proofs.Common.{arith, ◌≡◌, ℕ, zero, suc, ◌+◌, ◌<◌, ◌≤◌, List, [], ◌∷◌, Option, None, Some, get_or, length, map, refl, sym, ap, ◌∙◌, subst}
use Rattle.std.specs.Prelude.{option_map, slice_get, slice_index}
use Rattle.std.specs.List.{AllByRecursion, filter_map}
use Rattle.std.specs.Option.{option_map_or}
use Rattle.std.proofs.lemmas.List.{length-map}
use Rattle.std.proofs.lemmas.Option.{slice_get-map}
use Rattle.edif_values.specs.declared.net.Net.{Net}
use Rattle.net_bits.specs.Classes.{ClassTable, members_of}
use Rattle.net_hier.specs.Cells.{IsPinBit, IsPortBit}
use Rattle.net_hier.specs.declared.cells.HCell.{HCell}
use Rattle.net_hier.specs.declared.cells.HInst.{HInst}
use Rattle.net_hier.specs.declared.cells.HNet.{HNet}
use Rattle.net_hier.specs.declared.cells.HPort.{HPort}
use Rattle.net_hier.specs.declared.cells.HProp.{HProp}
use Rattle.net_hier.specs.declared.nodes.Join.{Join}
use Rattle.net_hier.specs.declared.nodes.Node.{Node}
use Rattle.net_hier.specs.declared.nodes.Node.TheVariants as nodes
use Rattle.edif_plans.specs.Made.{AreNetsFor}
use Rattle.edif_plans.specs.Plans.{head_of}
use Rattle.edif_plans.specs.References.{CanRefer, CellPlan, FitsCellPlan, below_at, member_for, ports_at, range_at, ref_for}
use Rattle.edif_plans.specs.declared.added.Instances.{Instances}
use Rattle.edif_plans.specs.declared.head.Head.{Head}
use Rattle.edif_plans.specs.declared.plan.Plan.{Plan}
use Rattle.edif_making.specs.CellPlans.{nameless}

abbrev cell_number : HInst → ℕ
cell_number instance = instance.cell

-- the instance at a place is of the cell whose number stands there
number_at : (belows : List ℕ) (instances : List HInst) (place : ℕ) (instance : HInst) → belows ≡ map cell_number instances → slice_get instances place ≡ Some instance → slice_get (map nameless belows) place ≡ Some (nameless instance.cell)
number_at belows instances place instance are there =
    slice_get-map nameless belows place ∙ ap (option_map nameless) (ap (λ l. slice_get l place) are ∙ (slice_get-map cell_number instances place ∙ ap (option_map cell_number) there))

-- and what stands there is of the cell of an instance
number_of : (instances : List HInst) (place : ℕ) (one : HInst) → slice_get (map nameless (map cell_number instances)) place ≡ Some one → (instance : HInst) × (slice_get instances place ≡ Some instance) × (instance.cell ≡ one.cell)
number_of instances place one there = by (slice_get instances place) refl
  where
    by : (o : Option HInst) → slice_get instances place ≡ o → (instance : HInst) × (slice_get instances place ≡ Some instance) × (instance.cell ≡ one.cell)
    by None is = absurd (let e = slice_get-map nameless (map cell_number instances) place ∙ ap (option_map nameless) (slice_get-map cell_number instances place ∙ ap (option_map cell_number) is) in cc (e, there))
    by (Some instance) is =
        let e = slice_get-map nameless (map cell_number instances) place ∙ ap (option_map nameless) (slice_get-map cell_number instances place ∙ ap (option_map cell_number) is) in
        (instance, is, ap (λ (o : Option HInst). option_map_or cell_number o instance.cell) (sym e ∙ there))

below_same : (belows : List ℕ) (instances : List HInst) (place : ℕ) → belows ≡ map cell_number instances → below_at (map nameless belows) place ≡ below_at instances place
below_same belows instances place are = by (slice_get instances place) refl
  where
    at : (o : Option HInst) → slice_get instances place ≡ o → slice_get (map nameless belows) place ≡ option_map nameless (option_map cell_number o)
    at o is = slice_get-map nameless belows place ∙ ap (option_map nameless) (ap (λ l. slice_get l place) are ∙ (slice_get-map cell_number instances place ∙ ap (option_map cell_number) is))

    by : (o : Option HInst) → slice_get instances place ≡ o → below_at (map nameless belows) place ≡ below_at instances place
    by None is = ap (λ (o : Option HInst). option_map_or cell_number o 0) (at None is) ∙ ap (λ (o : Option HInst). option_map_or cell_number o 0) (sym is)
    by (Some instance) is = ap (λ (o : Option HInst). option_map_or cell_number o 0) (at (Some instance) is) ∙ ap (λ (o : Option HInst). option_map_or cell_number o 0) (sym is)

-- the number that is read at a place, and past all of them
pub below_there : (belows : List ℕ) (place : ℕ) → place < length belows → below_at (map nameless belows) place ≡ slice_index belows place
below_there [] place lt = absurd (omega (arith, lt))
below_there (n ∷ belows) zero lt = refl
below_there (n ∷ belows) (suc place) lt = below_there belows place (omega (arith, lt))

pub below_past : (belows : List ℕ) (place : ℕ) → length belows ≤ place → below_at (map nameless belows) place ≡ 0
below_past [] place le = refl
below_past (n ∷ belows) zero le = absurd (omega (arith, le))
below_past (n ∷ belows) (suc place) le = below_past belows place (omega (arith, le))

module _ (cells : List HCell) (plan : Plan) (head : Head) (found : Instances) (name : List ℕ) (ports : List HPort) (instances : List HInst) (nets : List HNet) (joins : List Join) (props : List HProp) (belows : List ℕ) (are : belows ≡ map cell_number instances) where
  abbrev pub whole_plan : CellPlan
  whole_plan = record { cells = cells; plan = plan; cell = record { name = name; ports = ports; instances = instances; nets = nets; joins = joins; props = props }; head = head; instances = found }

  abbrev pub bare_plan : CellPlan
  bare_plan = record { cells = cells; plan = plan; cell = record { name = name; ports = ports; instances = map nameless belows; nets = nets; joins = []; props = [] }; head = head; instances = found }

  pub bare_fits : FitsCellPlan whole_plan → FitsCellPlan bare_plan
  bare_fits fits = record {
    plan_fits = fits.plan_fits;
    ports_fit = fits.ports_fit;
    idents_fit = fits.idents_fit ∙ ap (λ n. n + length found.added) (sym (length-map belows nameless ∙ (ap length are ∙ length-map instances cell_number)));
    in_range = λ place one there.
        let was = number_of instances place one (subst (λ l. slice_get (map nameless l) place ≡ Some one) are there) in
        subst (λ n. n < length cells) was.2 (fits.in_range place was.0 was.1);
  }

  port_bare : (port bit : ℕ) → IsPortBit whole_plan.cell port bit → IsPortBit bare_plan.cell port bit
  port_bare port bit is = record { the_port = is.the_port; is_there = is.is_there; within = is.within }

  pin_bare : (instance port bit : ℕ) → IsPinBit cells whole_plan.cell instance port bit → IsPinBit cells bare_plan.cell instance port bit
  pin_bare instance port bit is = record {
    the_instance = nameless is.the_instance.cell;
    is_there = number_at belows instances instance is.the_instance are is.is_there;
    below = is.below;
    is_below = is.is_below;
    is_bit = is.is_bit;
  }

  bare_refer : (node : Node) → CanRefer whole_plan node → CanRefer bare_plan node
  bare_refer (nodes.Port port bit) is = port_bare port bit is
  bare_refer (nodes.Pin instance port bit) is = pin_bare instance port bit is
  bare_refer (nodes.Net net) is = is
  bare_refer nodes.Zero is = record { is_added = is.is_added; constant = is.constant }
  bare_refer nodes.One is = record { is_added = is.is_added; constant = is.constant }

  bare_refers : (members : List Node) → AllByRecursion (CanRefer whole_plan) members → AllByRecursion (CanRefer bare_plan) members
  bare_refers [] all = tt
  bare_refers (node ∷ members) all = (bare_refer node all.0, bare_refers members all.1)

  -- what can be referred to in the cell can be in the bare one
  pub all_bare : (lists : List (List Node)) → AllByRecursion (AllByRecursion (CanRefer whole_plan)) lists → AllByRecursion (AllByRecursion (CanRefer bare_plan)) lists
  all_bare [] all = tt
  all_bare (members ∷ lists) all = (bare_refers members all.0, all_bare lists all.1)

  ref_bare : (node : Node) → ref_for bare_plan node ≡ ref_for whole_plan node
  unfolding ref_for
  ref_bare (nodes.Port port bit) = refl
  ref_bare (nodes.Pin instance port bit) =
      ap (λ n. Some (record {
        port = get_or (head_of plan n).ports port [];
        member = member_for (range_at (ports_at cells n) port) bit;
        instance = Some (get_or found.idents instance []);
      })) (below_same belows instances instance are)
  ref_bare (nodes.Net net) = refl
  ref_bare nodes.Zero = refl
  ref_bare nodes.One = refl

  -- the nets that are made of the bare cell are those of the cell
  pub bare_nets : (classes : ClassTable) (live : List ℕ) (made : List Net) → AreNetsFor bare_plan classes live made → AreNetsFor whole_plan classes live made
  bare_nets classes live made nets_are = record {
    are_live = nets_are.are_live;
    in_order = nets_are.in_order;
    names = nets_are.names;
    idents = nets_are.idents;
    no_spare_text = nets_are.no_spare_text;
    apart = nets_are.apart;
    joined = nets_are.joined ∙ (λ j. map (λ class. filter_map (λ node. ref_bare node j) (members_of classes class)) live);
    props = nets_are.props;
    sound = nets_are.sound;
  }
