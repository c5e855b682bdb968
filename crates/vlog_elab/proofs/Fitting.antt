-- The cells of a file that breaks no rule are as in a design.
use Rattle.std.proofs.Common.{◌≡◌, ℕ, zero, suc, ◌+◌, ◌<◌, ◌≤◌, List, [], ◌∷◌, All, map, flat_map, length, slice_get, sum_by, Some, None, sym, ap, ◌∙◌, subst, arith, length-append}
use Rattle.std.specs.Prelude.{option_map}
use Rattle.std.proofs.lemmas.List.{length-map}
use Rattle.std.proofs.lemmas.List.Sums.{sum_by-cons}
use Rattle.std.proofs.lemmas.Option.{slice_get-map, slice_get_within}
use Rattle.net_graph.specs.Graph.{IsReached, ReachesItself}
use Rattle.net_graph.specs.Marks.{marks_of}
use Rattle.net_hier.specs.Cells.{width_of}
use Rattle.net_hier.specs.Design.{IsCell, cells_below}
use Rattle.net_hier.specs.Units.{cell_units, units}
use Rattle.net_hier.specs.Valid.{CellsFit, Each, HasFewParts, IsGoodCell, IsPortWidth, unit_limit}
use Rattle.net_hier.specs.declared.cells.HCell.{HCell}
use Rattle.net_hier.specs.declared.cells.HInst.{HInst}
use Rattle.vlog_design.specs.Design.{instance_count, module_cell, module_instances, module_nets, module_ports, statement_instances, vlog_design}
use Rattle.vlog_design.specs.Names.{Name, instance_statement, instance_statements, net_signals, port_names, port_range, port_signals, signals, wires}
use Rattle.vlog_design.specs.Numbers.{HasNumbers}
use Rattle.vlog_design.specs.Reach.{module_number, modules_below, reached}
use Rattle.vlog_design.specs.Rules.{declared_twice, too_wide}
use Rattle.vlog_design.specs.declared.signals.SignalAt.TheVariants.{AtPort}
use Rattle.vlog_values.specs.Sizes.{item_size, module_size, vlog_size}
use Rattle.vlog_values.specs.Values.{IsVlogValue}
use Rattle.vlog_values.specs.declared.module.ItemV.{ItemV}
use Rattle.vlog_values.specs.declared.module.ItemV.TheVariants as items
use Rattle.vlog_values.specs.declared.module.Module.{Module}
use Rattle.vlog_values.specs.declared.module.VlogFile.{VlogFile}
use Rattle.vlog_checked.specs.Clean.{IsClean}
use Rattle.vlog_checked.proofs.Below.{KnowsModules, graph_is}
use Rattle.vlog_elab.proofs.Joins.{count_is, items_instances, joins_are, of_item}
use Rattle.vlog_checked.proofs.ListLaws.{each_flat, each_map, in_left, map_get, sum_part}
use Rattle.vlog_checked.proofs.Lookup.{marked_few, named_there}
use Rattle.vlog_elab.proofs.OwnNames.{own_instance_names, own_port_names}
use Rattle.vlog_checked.proofs.Reaching.{IsFrom, all_known, each_reached, none_reaches_itself, reached_from, top_within}
use Rattle.vlog_elab.proofs.Signals.{all_narrow, cell_sum, have_numbers, port_of, table_sum}

-- ---- few parts

count_small : (item : ItemV) → instance_count item ≤ item_size item
count_small (items.Instances statement) = omega arith
count_small (items.Port decl) = omega arith
count_small (items.Net decl) = omega arith
count_small (items.Param decl) = omega arith
count_small (items.Assign statement) = omega arith
count_small (items.Defparam statement) = omega arith

instances_small : (ms : List Module) (m : Module) (those : List ItemV) → length (flat_map (of_item ms m) those) ≤ sum_by item_size those
instances_small ms m [] = omega arith
instances_small ms m (item ∷ those) =
    omega (arith, length-append (of_item ms m item) (flat_map (of_item ms m) those), count_is ms m item, count_small item, instances_small ms m those, sum_by-cons item_size item those)

instances_few : (ms : List Module) (m : Module) → length (module_instances ms m) ≤ module_size m
unfolding module_instances instance_statements
instances_few ms m =
    let e : length (flat_map (of_item ms m) m.items) ≡ length (flat_map (statement_instances ms m) (flat_map instance_statement m.items)) = ap length (items_instances ms m m.items) in
    omega (arith, e, instances_small ms m m.items)

-- a module is not greater than its file
pub module_small : (file : VlogFile) (place : ℕ) (m : Module) → slice_get file.modules place ≡ Some m → module_size m ≤ vlog_size file
unfolding vlog_size
module_small file place m e = omega (arith, sum_part module_size file.modules place m e)

-- ---- a cell

-- each port of a module is narrow where none of its ports and nets is too wide
port_signal : (m : Module) (number : ℕ) (names : List Name) (i : ℕ) (name : Name) → slice_get names i ≡ Some name
    → slice_get (port_signals m number names) i ≡ Some (record { name = name; slot = record { range = port_range m name; place = AtPort (number + i) } })
port_signal m number [] i name e = absurd (cc)
port_signal m number (other ∷ names) zero name e =
    let s : other ≡ name = cc in
    (λ j. Some (record { name = s j; slot = record { range = port_range m (s j); place = AtPort ((let g : number ≡ number + 0 = omega arith in g) j) } }))
port_signal m number (other ∷ names) (suc i) name e =
    port_signal m (number + 1) names i name e ∙ ap (λ n. Some (record { name = name; slot = record { range = port_range m name; place = AtPort n } })) (let g : number + 1 + i ≡ number + suc i = omega arith in g)

one_bit : (range : _) → 1 ≤ width_of range
one_bit None = omega arith
one_bit (Some range) = omega arith

widths : (m : Module) → too_wide m ≡ [] → Each IsPortWidth (module_ports m)
unfolding module_ports signals
widths m narrow = each_map IsPortWidth (port_of m) (port_names m) (λ i name e. (
  one_bit (port_range m name),
  all_narrow m narrow i (record { name = name; slot = record { range = port_range m name; place = AtPort (0 + i) } })
      (in_left (port_signals m 0 (port_names m)) (net_signals 0 (wires m)) i _ (port_signal m 0 (port_names m) i name e)),
))

-- the instances of a module are of modules that are there
instances_within : (ms : List Module) (m : Module) → KnowsModules ms m → Each (λ instance. instance.cell < length ms) (module_instances ms m)
unfolding module_instances
instances_within ms m known = each_flat (λ (instance : HInst). instance.cell < length ms) (statement_instances ms m) (instance_statements m) (λ i statement e.
    (let b = known i statement e in
    each_map (λ (instance : HInst). instance.cell < length ms) _ statement.insts (λ j instance g. slice_get_within ms (module_number ms statement.module) b.0 (named_there ms statement.module b.0 b.1).0)))

cells_long : (ms : List Module) → length (map (module_cell ms) ms) ≡ length ms
cells_long ms = length-map ms (module_cell ms)

-- the cell of a module that knows the modules of its instances, declares nothing twice and has nothing too wide
pub good_cell : (ms : List Module) (m : Module) → KnowsModules ms m → declared_twice m ≡ [] → too_wide m ≡ [] → IsGoodCell (map (module_cell ms) ms) (module_cell ms m)
unfolding module_cell
good_cell ms m known once narrow = record {
  instances_in_range = λ i instance e. subst (λ n. instance.cell < n) (sym (cells_long ms)) (instances_within ms m known i instance e);
  joins_in_range = joins_are ms m;
  port_names = own_port_names m once;
  instance_names = own_instance_names m once ms;
  widths = widths m narrow;
}

-- ---- the cells of a file

module _ (file : VlogFile) (top : Name) (value : IsVlogValue file) (clean : IsClean file top) (small : vlog_size file ≤ 268435456) where
  abbrev those : List Module
  those = reached file top

  abbrev cells : List HCell
  cells = map (module_cell those) those

  -- the graph of the cells is that of the reached modules
  pub graph_same : cells_below cells ≡ modules_below those
  graph_same = graph_is those (all_known file top value clean)

  pub those_few : length those ≤ 268435456
  unfolding reached vlog_size
  those_few = omega (arith, marked_few (marks_of (modules_below file.modules) (module_number file.modules top)) file.modules, small)

  cells_few : length cells ≤ 268435456
  cells_few = omega (arith, cells_long those, those_few)

  pub those_small : Each (λ m. module_size m ≤ 268435456) those
  those_small i m e = let r : IsFrom file top clean.has_top clean.once m = reached_from file top clean.has_top clean.once i m e in omega (arith, module_small file r.place m r.is_there, small)

  pub few_parts : HasFewParts cells
  unfolding module_cell
  few_parts = record {
    few_cells = cells_few;
    few_instances = λ number cell e.
        (let r = map_get (module_cell those) those number cell e in
        subst (λ (c : HCell). length c.instances ≤ 268435456) r.1.1 (omega (arith, instances_few those r.0, those_small number r.0 r.1.0)));
  }

  pub good_cells : (number : ℕ) (cell : HCell) → IsCell cells number cell → IsGoodCell cells cell
  good_cells number cell e =
      let r = map_get (module_cell those) those number cell e in
      let c = clean.each number r.0 r.1.0 in
      subst (IsGoodCell cells) r.1.1 (good_cell those r.0 (all_known file top value clean number r.0 r.1.0) c.declared_once c.narrow)

  -- the cells fit
  pub those_fit : CellsFit cells (module_number those top)
  those_fit = record {
    few_parts = few_parts;
    has_top = subst (λ n. module_number those top < n) (sym (cells_long those)) (top_within file top clean.has_top clean.once);
    good_cells = good_cells;
    reached = λ number lt.
        subst (λ graph. IsReached graph (module_number those top) number) (sym graph_same) (each_reached file top value clean number (subst (λ n. number < n) (cells_long those) lt));
  }

  -- no cell reaches itself
  pub none_back : (number : ℕ) → ¬ ReachesItself (cells_below cells) number
  none_back number = subst (λ graph. ¬ ReachesItself graph number) (sym graph_same) (none_reaches_itself file top value clean number)

  -- the cells of the design of the file fit
  pub design_fits : CellsFit (vlog_design file top).cells (vlog_design file top).top
  unfolding vlog_design
  design_fits = those_fit

-- ---- the numbers of ports and nets

nets_in_units : (ms : List Module) (m : Module) → length (module_nets m) ≤ cell_units (module_cell ms m)
nets_in_units ms m = omega (arith, cell_sum m ms, table_sum m)

units_within : (cells : List HCell) → units cells ≤ unit_limit → sum_by cell_units cells ≤ unit_limit
units_within cells le = grind arith

-- where the units are within the limit, the numbers of ports and nets fit
pub numbers_fit : (ms : List Module) (i : ℕ) (m : Module) → slice_get ms i ≡ Some m → too_wide m ≡ [] → units (map (module_cell ms) ms) ≤ unit_limit → All (λ signal. HasNumbers signal.slot) (signals m)
numbers_fit ms i m e narrow few =
    let at : slice_get (map (module_cell ms) ms) i ≡ Some (module_cell ms m) = slice_get-map (module_cell ms) ms i ∙ ap (option_map (module_cell ms)) e in
    have_numbers m narrow (omega (arith, nets_in_units ms m, sum_part cell_units (map (module_cell ms) ms) i (module_cell ms m) at, units_within (map (module_cell ms) ms) few))
