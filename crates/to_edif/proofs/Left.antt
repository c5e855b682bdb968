-- What is left of the cells shows what the cells show, and what is made of it is made of the cells.
use Rattle.std.proofs.Common.{arith, ◌≡◌, ℕ, zero, suc, ◌+◌, ◌<◌, ◌≤◌, Bool, true, false, cond, List, [], ◌∷◌, ◌++◌, Option, Some, get_or, length, map, set, refl, sym, ap, ◌∙◌, subst}
use Rattle.std.specs.Prelude.{slice_get, ◌==◌}
use Rattle.std.specs.List.{filter_map}
use Rattle.std.specs.Option.{option_map_or}
use Rattle.std.proofs.lemmas.List.{append-nil, length-set}
use Rattle.std.proofs.lemmas.Option.{slice_get-get_or, slice_get_within}
use Rattle.edif_values.specs.declared.cell.Cell.{Cell}
use Rattle.edif_values.specs.declared.net.Net.{Net}
use Rattle.net_bits.specs.Classes.{AreClasses, ClassTable, members_of}
use Rattle.net_hier.specs.Cells.{IsPinBit}
use Rattle.net_hier.specs.Constants.{ConstantNames}
use Rattle.net_hier.specs.Design.{Design, IsCell}
use Rattle.net_hier.specs.Facts.{cell_props}
use Rattle.net_hier.specs.Valid.{IsGoodCell, IsNode, IsValid}
use Rattle.net_hier.specs.declared.cells.HCell.{HCell}
use Rattle.net_hier.specs.declared.cells.HInst.{HInst}
use Rattle.net_hier.specs.declared.cells.HPort.{HPort}
use Rattle.net_hier.specs.declared.cells.HProp.{HProp}
use Rattle.net_hier.specs.declared.nodes.Join.{Join}
use Rattle.net_hier.specs.declared.nodes.Node.{Node}
use Rattle.net_hier.specs.declared.nodes.Node.TheVariants as nodes
use Rattle.edif_plans.specs.Made.{AreNetsFor, IsMadeUnder}
use Rattle.edif_plans.specs.Plans.{FitsCells, head_of}
use Rattle.edif_plans.specs.References.{CellPlan, below_at, member_for, ports_at, range_at, ref_for}
use Rattle.edif_plans.specs.declared.added.Instances.{Instances}
use Rattle.edif_plans.specs.declared.head.Head.{Head}
use Rattle.edif_plans.specs.declared.plan.Plan.{Plan}
use Rattle.edif_plans.proofs.Lists.{is_at}
use Rattle.edif_making.specs.Whole.{IsWhole, whole_cell}
use Rattle.edif_planning.proofs.ClassLaws.{item_there}
use Rattle.edif_planning.proofs.OrderLaws.{StandOnce, order_within}
use Rattle.to_edif.specs.Left.{AreLeft, shown_cell}

-- ---- cells that show the same ports

module _ (cells others : List HCell) (as_many : length cells ≡ length others) (same_ports : (number : ℕ) → ports_at cells number ≡ ports_at others number) where
  -- for each of these cells there is one of the others, with the same ports
  shown_at : (number : ℕ) (cell : HCell) → IsCell cells number cell → (other : HCell) × IsCell others number other × (cell.ports ≡ other.ports)
  shown_at number cell there =
      let found = item_there others number (subst (λ n. number < n) as_many (slice_get_within cells number cell there)) in
      let here : ports_at cells number ≡ cell.ports = ap (λ (o : Option HCell). option_map_or (λ (c : HCell). c.ports) o []) there in
      let other : ports_at others number ≡ found.0.ports = ap (λ (o : Option HCell). option_map_or (λ (c : HCell). c.ports) o []) found.1 in
      (found.0, found.1, sym here ∙ (same_ports number ∙ other))

  pub fits_alike : (plan : Plan) → FitsCells others plan → FitsCells cells plan
  fits_alike plan fits = record {
    heads = λ number lt. fits.heads number (subst (λ n. number < n) as_many lt);
    ports = λ number cell there. let other = shown_at number cell there in fits.ports number other.0 other.1 ∙ ap length (sym other.2);
  }

  pin_alike : (cell : HCell) (instance port bit : ℕ) → IsPinBit cells cell instance port bit → IsPinBit others cell instance port bit
  pin_alike cell instance port bit is =
      let other = shown_at is.the_instance.cell is.below is.is_below in
      record {
        the_instance = is.the_instance;
        is_there = is.is_there;
        below = other.0;
        is_below = other.1;
        is_bit = record { the_port = is.is_bit.the_port; is_there = subst (λ (ports : List HPort). slice_get ports port ≡ Some is.is_bit.the_port) other.2 is.is_bit.is_there; within = is.is_bit.within };
      }

  node_alike : (cell : HCell) (node : Node) → IsNode cells cell node → IsNode others cell node
  node_alike cell (nodes.Port port bit) is = is
  node_alike cell (nodes.Pin instance port bit) is = pin_alike cell instance port bit is
  node_alike cell (nodes.Net net) is = is
  node_alike cell nodes.Zero is = is
  node_alike cell nodes.One is = is

  pub good_alike : (cell : HCell) → IsGoodCell cells cell → IsGoodCell others cell
  good_alike cell good = record {
    instances_in_range = λ place instance there. subst (λ n. instance.cell < n) as_many (good.instances_in_range place instance there);
    joins_in_range = λ place join there. let both = good.joins_in_range place join there in (node_alike cell join.a both.0, node_alike cell join.b both.1);
    port_names = good.port_names;
    instance_names = good.instance_names;
    widths = good.widths;
  }

  -- ---- what is made of a cell among them

  module _ (plan : Plan) (cell : HCell) (head : Head) (instances : Instances) where
    abbrev among : CellPlan
    among = record { cells = cells; plan = plan; cell = cell; head = head; instances = instances }

    abbrev among_others : CellPlan
    among_others = record { cells = others; plan = plan; cell = cell; head = head; instances = instances }

    ref_alike : (node : Node) → ref_for among node ≡ ref_for among_others node
    unfolding ref_for
    ref_alike (nodes.Port port bit) = refl
    ref_alike (nodes.Pin instance port bit) =
        ap (λ (ports : List HPort). Some (record {
          port = get_or (head_of plan (below_at cell.instances instance)).ports port [];
          member = member_for (range_at ports port) bit;
          instance = Some (get_or instances.idents instance []);
        })) (same_ports (below_at cell.instances instance))
    ref_alike (nodes.Net net) = refl
    ref_alike nodes.Zero = refl
    ref_alike nodes.One = refl

    nets_alike : (classes : ClassTable) (live : List ℕ) (nets : List Net) → AreNetsFor among classes live nets → AreNetsFor among_others classes live nets
    nets_alike classes live nets are = record {
      are_live = are.are_live;
      in_order = are.in_order;
      names = are.names;
      idents = are.idents;
      no_spare_text = are.no_spare_text;
      apart = are.apart;
      joined = are.joined ∙ (λ j. map (λ class. filter_map (λ node. ref_alike node j) (members_of classes class)) live);
      props = are.props;
      sound = are.sound;
    }

  -- what is made among these cells is what is made among the others
  pub made_alike : (names : ConstantNames) (plan : Plan) (head : Head) (cell : HCell) (props : List HProp) (classes : ClassTable) (made : Cell) → IsMadeUnder names cells plan head cell props classes made → IsMadeUnder names others plan head cell props classes made
  made_alike names plan head cell props classes made is = record {
    is_made = record {
      ports = is.is_made.ports;
      instances = is.is_made.instances;
      made_instances = is.is_made.made_instances;
      live = is.is_made.live;
      nets = is.is_made.nets;
      properties = is.is_made.properties;
      is_cell = is.is_made.is_cell;
      are_ports = is.is_made.are_ports;
      are_added = is.is_made.are_added;
      are_instances = is.is_made.are_instances;
      are_nets = nets_alike plan cell head is.is_made.instances classes is.is_made.live is.is_made.nets is.is_made.are_nets;
      are_properties = is.is_made.are_properties;
      sound = is.is_made.sound;
      word = is.is_made.word;
    };
    are_named = is.are_named;
  }

-- ---- what is made of a cell depends on no joins

module _ (cells : List HCell) (plan : Plan) (head : Head) (instances : Instances) (one : HCell) (joins : List Join) where
  abbrev rejoined : HCell
  rejoined = record { name = one.name; ports = one.ports; instances = one.instances; nets = one.nets; joins = joins; props = one.props }

  abbrev by_one : CellPlan
  by_one = record { cells = cells; plan = plan; cell = one; head = head; instances = instances }

  abbrev by_rejoined : CellPlan
  by_rejoined = record { cells = cells; plan = plan; cell = rejoined; head = head; instances = instances }

  ref_joined : (node : Node) → ref_for by_one node ≡ ref_for by_rejoined node
  unfolding ref_for
  ref_joined (nodes.Port port bit) = refl
  ref_joined (nodes.Pin instance port bit) = refl
  ref_joined (nodes.Net net) = refl
  ref_joined nodes.Zero = refl
  ref_joined nodes.One = refl

  nets_joined : (classes : ClassTable) (live : List ℕ) (nets : List Net) → AreNetsFor by_one classes live nets → AreNetsFor by_rejoined classes live nets
  nets_joined classes live nets are = record {
    are_live = are.are_live;
    in_order = are.in_order;
    names = are.names;
    idents = are.idents;
    no_spare_text = are.no_spare_text;
    apart = are.apart;
    joined = are.joined ∙ (λ j. map (λ class. filter_map (λ node. ref_joined node j) (members_of classes class)) live);
    props = are.props;
    sound = are.sound;
  }

pub made_joined : (names : ConstantNames) (cells : List HCell) (plan : Plan) (head : Head) (one : HCell) (joins : List Join) (props : List HProp) (classes : ClassTable) (made : Cell) → IsMadeUnder names cells plan head one props classes made
    → IsMadeUnder names cells plan head (record { name = one.name; ports = one.ports; instances = one.instances; nets = one.nets; joins = joins; props = one.props }) props classes made
made_joined names cells plan head one joins props classes made is = record {
  is_made = record {
    ports = is.is_made.ports;
    instances = is.is_made.instances;
    made_instances = is.is_made.made_instances;
    live = is.is_made.live;
    nets = is.is_made.nets;
    properties = is.is_made.properties;
    is_cell = is.is_made.is_cell;
    are_ports = record { idents = is.is_made.are_ports.idents; summaries = is.is_made.are_ports.summaries; texts = is.is_made.are_ports.texts; sound = is.is_made.are_ports.sound };
    are_added = is.is_made.are_added;
    are_instances = is.is_made.are_instances;
    are_nets = nets_joined cells plan head is.is_made.instances one joins classes is.is_made.live is.is_made.nets is.is_made.are_nets;
    are_properties = is.is_made.are_properties;
    sound = is.is_made.sound;
    word = is.is_made.word;
  };
  are_named = is.are_named;
}

-- ---- a cell of which the name and the ports stand apart from what it is made of

module _ (cell shown inside : HCell) (instances : List HInst) (is_shown : shown ≡ shown_cell cell) (are_instances : instances ≡ cell.instances) (are_nets : inside.nets ≡ cell.nets) (are_props : inside.props ≡ cell.props) where
  whole_again : whole_cell shown instances inside cell.joins ≡ cell
  whole_again = λ j. record { name = (is_shown j).name; ports = (is_shown j).ports; instances = are_instances j; nets = are_nets j; joins = cell.joins; props = are_props j }

  unjoined : whole_cell shown instances inside [] ≡ whole_cell cell cell.instances cell []
  unjoined = λ j. record { name = (is_shown j).name; ports = (is_shown j).ports; instances = are_instances j; nets = are_nets j; joins = []; props = are_props j }

  pub whole_here : (cells : List HCell) (classes : ClassTable) → IsGoodCell cells cell → AreClasses cell classes → IsWhole cells shown instances inside classes
  whole_here cells classes good are = record {
    joins = cell.joins;
    is_good = subst (IsGoodCell cells) (sym whole_again) good;
    are_classes = subst (λ (c : HCell). AreClasses c classes) (sym whole_again) are;
  }

  pub made_whole : (names : ConstantNames) (cells : List HCell) (plan : Plan) (head : Head) (more : List HProp) (classes : ClassTable) (made : Cell) → IsMadeUnder names cells plan head (whole_cell shown instances inside []) (inside.props ++ more) classes made
      → IsMadeUnder names cells plan head cell (cell.props ++ more) classes made
  made_whole names cells plan head more classes made is =
      made_joined names cells plan head (whole_cell cell cell.instances cell []) cell.joins (cell.props ++ more) classes made
      (subst (λ (c : HCell). IsMadeUnder names cells plan head c (cell.props ++ more) classes made) unjoined
      (subst (λ (props : List HProp). IsMadeUnder names cells plan head (whole_cell shown instances inside []) (props ++ more) classes made) are_props is))

-- ---- one cell after another

-- all of the cells are left at first
pub all_left : (cells left : List HCell) (order : List ℕ) → left ≡ cells → AreLeft cells order 0 left
all_left cells left order e = record {
  as_many = ap length e;
  same_ports = λ number. ap (λ (l : List HCell). ports_at l number) e;
  others = λ place number le there. ap (λ (l : List HCell). slice_get l number) e;
}

ports_kept : (cells : List HCell) (number : ℕ) (cell less : HCell) → IsCell cells number cell → less.ports ≡ cell.ports → (other : ℕ) → ports_at (set cells number less) other ≡ ports_at cells other
ports_kept [] number cell less there e other = refl
ports_kept (c ∷ cells) zero cell less there e zero = let same : c ≡ cell = cc in e ∙ ap (λ (d : HCell). d.ports) (sym same)
ports_kept (c ∷ cells) zero cell less there e (suc other) = refl
ports_kept (c ∷ cells) (suc number) cell less there e zero = refl
ports_kept (c ∷ cells) (suc number) cell less there e (suc other) = ports_kept cells number cell less there e other

pub other_kept : {A : Type 0} (xs : List A) (place : ℕ) (x : A) (other : ℕ) → ¬ (other ≡ place) → slice_get (set xs place x) other ≡ slice_get xs other
other_kept [] place x other differ = refl
other_kept (y ∷ ys) zero x zero differ = absurd (differ refl)
other_kept (y ∷ ys) zero x (suc other) differ = refl
other_kept (y ∷ ys) (suc place) x zero differ = refl
other_kept (y ∷ ys) (suc place) x (suc other) differ = other_kept ys place x other (λ e. differ (ap suc e))

-- what stands where a cell was, where it keeps what it shows alone
set_there : (cells : List HCell) (number : ℕ) (cell new other : HCell) → IsCell cells number cell → IsCell (set cells number new) number other → other ≡ new
set_there [] number cell new other there at = absurd cc
set_there (c ∷ cells) zero cell new other there at = cc
set_there (c ∷ cells) (suc number) cell new other there at = set_there cells number cell new other there at

new_there : (cells : List HCell) (number : ℕ) (cell new : HCell) → IsCell cells number cell → IsCell (set cells number new) number new
new_there [] number cell new there = absurd cc
new_there (c ∷ cells) zero cell new there = refl
new_there (c ∷ cells) (suc number) cell new there = new_there cells number cell new there

-- the cell of the number shows its name and its ports alone
pub shown_is_there : (cells less : List HCell) (number : ℕ) (cell : HCell) → IsCell cells number cell → less ≡ set cells number (shown_cell cell) → IsCell less number (shown_cell cell)
shown_is_there cells less number cell there e = subst (λ (l : List HCell). IsCell l number (shown_cell cell)) (sym e) (new_there cells number cell (shown_cell cell) there)

pub shown_there : (cells less : List HCell) (number : ℕ) (cell other : HCell) → IsCell cells number cell → less ≡ set cells number (shown_cell cell) → IsCell less number other → other ≡ shown_cell cell
shown_there cells less number cell other there e at = set_there cells number cell (shown_cell cell) other there (subst (λ (l : List HCell). IsCell l number other) e at)

-- where the next cell keeps what it shows alone, the cells are left that come behind it
pub less_left : (cells left less : List HCell) (order : List ℕ) (done number : ℕ) (cell : HCell) → StandOnce order → slice_get order done ≡ Some number → IsCell left number cell → less ≡ set left number (shown_cell cell) → AreLeft cells order done left → AreLeft cells order (done + 1) less
less_left cells left less order done number cell once at there e are = subst (AreLeft cells order (done + 1)) (sym e) (record {
  as_many = length-set left number (shown_cell cell) ∙ are.as_many;
  same_ports = λ other. ports_kept left number cell (shown_cell cell) there refl other ∙ are.same_ports other;
  others = λ place other le is.
      other_kept left number (shown_cell cell) other (λ same. let twice : place ≡ done = once place done number (is ∙ ap Some same) at in omega (arith, le, twice))
      ∙ are.others place other (omega (arith, le)) is;
})

-- ---- what is left among the cells

module _ (cells left : List HCell) (order : List ℕ) (done : ℕ) (are : AreLeft cells order done left) where
  pub fits_left : (plan : Plan) → FitsCells cells plan → FitsCells left plan
  fits_left = fits_alike left cells are.as_many are.same_ports

  pub good_left : (cell : HCell) → IsGoodCell cells cell → IsGoodCell left cell
  good_left = good_alike cells left (sym are.as_many) (λ number. sym (are.same_ports number))

  -- what is made of a cell among what is left is made of it among the cells
  pub made_left : (names : ConstantNames) (plan : Plan) (head : Head) (cell : HCell) (props : List HProp) (classes : ClassTable) (made : Cell) → IsMadeUnder names left plan head cell props classes made → IsMadeUnder names cells plan head cell props classes made
  made_left = made_alike left cells are.as_many are.same_ports

-- ---- the cell of a number

-- at a number there is one cell
one_cell_there : (cells : List HCell) (number : ℕ) (cell other : HCell) → IsCell cells number cell → IsCell cells number other → cell ≡ other
one_cell_there cells number cell other there is = by (slice_get cells number) there is
  where
    by : (o : Option HCell) → o ≡ Some cell → o ≡ Some other → cell ≡ other
    by o e f = cc

-- what is known of the cell of a number holds of the one that is read there
pub few_here : (cells : List HCell) (number : ℕ) (cell : HCell) → ((other : HCell) → IsCell cells number other → length other.joins ≤ 33554432) → number < length cells → cell ≡ get_or cells number cell → length cell.joins ≤ 33554432
few_here cells number cell few lt is = few cell (is_at cells number cell cell lt is)

-- and its classes are those of the cell of the number
pub classes_here : (cells : List HCell) (number : ℕ) (cell other : HCell) (classes : ClassTable) → AreClasses cell classes → number < length cells → cell ≡ get_or cells number cell → IsCell cells number other → AreClasses other classes
classes_here cells number cell other classes are lt is there = subst (λ (c : HCell). AreClasses c classes) (one_cell_there cells number cell other (is_at cells number cell cell lt is) there) are

-- ---- the next cell

-- the cell of this number stands at this place of the order, and is left as it was
pub record IsNext (design : Design) (left : List HCell) (place number : ℕ) : Type 0 where
  pub is_placed : slice_get design.order place ≡ Some number
  pub cell : HCell
  pub was_there : IsCell design.cells number cell
  pub is_there : IsCell left number cell
  pub as_it_was : (other : HCell) → IsCell left number other → IsCell design.cells number other

pub next_cell : (design : Design) (left : List HCell) (done d : ℕ) → IsValid design → AreLeft design.cells design.order done left → done < length design.order → IsNext design left done (get_or design.order done d)
next_cell design left done d valid are lt =
    let at : slice_get design.order done ≡ Some (get_or design.order done d) = slice_get-get_or design.order done d lt in
    let found = item_there design.cells (get_or design.order done d) (order_within design valid done (get_or design.order done d) at) in
    let same : slice_get left (get_or design.order done d) ≡ slice_get design.cells (get_or design.order done d) = are.others done (get_or design.order done d) (omega arith) at in
    record { is_placed = at; cell = found.0; was_there = found.1; is_there = same ∙ found.1; as_it_was = λ other there. sym same ∙ there }

-- the properties of a cell, and those of the design that stand behind them
pub props_behind : (design : Design) (number : ℕ) (cell : HCell) (more : List HProp) → more ≡ cond (number == design.top) design.props [] → cell.props ++ more ≡ cell_props design number cell
props_behind design number cell more e = ap (λ (l : List HProp). cell.props ++ l) e ∙ by (number == design.top)
  where
    by : (b : Bool) → cell.props ++ cond b design.props [] ≡ cond b (cell.props ++ design.props) cell.props
    by true = refl
    by false = append-nil cell.props
