-- The ports and nets of a module: their bits, their numbers, and what they are in the cell.
use Rattle.std.proofs.Common.{◌≡◌, ℕ, zero, suc, ◌+◌, ◌-◌, ◌<◌, ◌≤◌, ◌^◌, false, List, [], ◌∷◌, map, flat_map, filter, length, slice_get, sum_by, nat_lt, All, Some, refl, sym, ap, ◌∙◌, subst, arith, length-append}
use Rattle.std.specs.Prelude.{option_map, min}
use Rattle.std.specs.List.{range_with_len}
use Rattle.std.proofs.lemmas.Bool.Decides.{nat_tests}
use Rattle.std.proofs.lemmas.List.{length-map}
use Rattle.std.proofs.lemmas.List.Elements.{All-from_recursion}
use Rattle.std.proofs.lemmas.List.Sums.{sum_by-append, sum_by-cons}
use Rattle.std.proofs.lemmas.Option.{slice_get-map}
use Rattle.net_hier.specs.Cells.{IsPortBit, width_of}
use Rattle.net_hier.specs.Units.{cell_units, units}
use Rattle.net_hier.specs.Valid.{Each, IsNode}
use Rattle.net_hier.specs.declared.cells.HCell.{HCell}
use Rattle.net_hier.specs.declared.cells.HPort.{HPort}
use Rattle.vlog_design.specs.Design.{attr_props, module_cell, module_joins, module_nets, module_ports, net_name, port_attrs, port_dir, wire_nets}
use Rattle.vlog_design.specs.Exprs.{node_at}
use Rattle.vlog_design.specs.Names.{Name, Signal, Wire, net_signals, port_names, port_range, port_signals, signals, wires}
use Rattle.vlog_design.specs.Numbers.{HasNumbers, first_number}
use Rattle.vlog_design.specs.Rules.{too_wide}
use Rattle.vlog_design.specs.declared.signals.SignalAt.TheVariants.{AtPort, AtNet}
use Rattle.vlog_design.specs.declared.signals.Slot.{Slot}
use Rattle.vlog_values.specs.declared.module.Module.{Module}
use Rattle.vlog_ties.specs.Ties.{signal_width}
use Rattle.vlog_elab.specs.Units.{module_units}
use Rattle.vlog_checked.proofs.ListLaws.{all_of, each_both, filter_none, map_none}

-- ---- sums

length_range : (first count : ℕ) → length (range_with_len first count) ≡ count
length_range first zero = refl
length_range first (suc count) = ap suc (length_range (first + 1) count)

wire_long : (wire : Wire) → length (wire_nets wire) ≡ width_of wire.range
wire_long wire = length-map (range_with_len 0 (width_of wire.range)) (λ bit. record { name = net_name wire.name wire.range bit; props = attr_props wire.attrs }) ∙ length_range 0 (width_of wire.range)

-- there is a net for each bit of a wire
pub nets_long : (those : List Wire) → length (flat_map wire_nets those) ≡ sum_by (λ (wire : Wire). width_of wire.range) those
nets_long [] = refl
nets_long (wire ∷ those) =
    length-append (wire_nets wire) (flat_map wire_nets those) ∙ ((λ j. wire_long wire j + nets_long those j) ∙ sym (sum_by-cons (λ (w : Wire). width_of w.range) wire those))

net_sum : (first : ℕ) (those : List Wire) → sum_by signal_width (net_signals first those) ≡ sum_by (λ (wire : Wire). width_of wire.range) those
net_sum first [] = refl
net_sum first (wire ∷ those) =
    sum_by-cons signal_width (record { name = wire.name; slot = record { range = wire.range; place = AtNet first } }) (net_signals (first + width_of wire.range) those)
    ∙ (ap (λ n. width_of wire.range + n) (net_sum (first + width_of wire.range) those) ∙ sym (sum_by-cons (λ (w : Wire). width_of w.range) wire those))

module _ (m : Module) where
  abbrev pub port_of : Name → HPort
  port_of name = record { name = name; range = port_range m name; dir = port_dir m name; props = attr_props (port_attrs m name) }

  port_sum : (number : ℕ) (names : List Name) → sum_by signal_width (port_signals m number names) ≡ sum_by (λ (port : HPort). width_of port.range) (map port_of names)
  port_sum number [] = refl
  port_sum number (name ∷ names) =
      sum_by-cons signal_width (record { name = name; slot = record { range = port_range m name; place = AtPort number } }) (port_signals m (number + 1) names)
      ∙ (ap (λ n. width_of (port_range m name) + n) (port_sum (number + 1) names) ∙ sym (sum_by-cons (λ (port : HPort). width_of port.range) (port_of name) (map port_of names)))

  ports_sum : sum_by signal_width (port_signals m 0 (port_names m)) ≡ sum_by (λ (port : HPort). width_of port.range) (module_ports m)
  unfolding module_ports
  ports_sum = port_sum 0 (port_names m)

  wires_sum : sum_by signal_width (net_signals 0 (wires m)) ≡ length (module_nets m)
  unfolding module_nets
  wires_sum = net_sum 0 (wires m) ∙ sym (nets_long (wires m))

  -- the bits of ports and nets are those of the table
  pub table_sum : sum_by signal_width (signals m) ≡ sum_by (λ (port : HPort). width_of port.range) (module_ports m) + length (module_nets m)
  unfolding signals
  table_sum = sum_by-append signal_width (port_signals m 0 (port_names m)) (net_signals 0 (wires m)) ∙ (λ j. ports_sum j + wires_sum j)

  -- the units of a cell are the bits of its ports and nets, and its joins
  pub cell_sum : (ms : List Module) → cell_units (module_cell ms m) ≡ sum_by signal_width (signals m) + length (module_joins ms m)
  unfolding module_cell
  cell_sum ms = ap (λ n. n + length (module_joins ms m)) (sym table_sum)

-- the units of the cells, summed over the modules
pub units_sum : (ms some : List Module) → sum_by cell_units (map (module_cell ms) some) ≡ sum_by (module_units ms) some
units_sum ms [] = refl
units_sum ms (m ∷ some) =
    sum_by-cons cell_units (module_cell ms m) (map (module_cell ms) some)
    ∙ ((λ j. cell_sum m ms j + units_sum ms some j) ∙ sym (sum_by-cons (module_units ms) m some))

-- the units of a design, as the code counts them
pub units_are : (ms : List Module) → units (map (module_cell ms) ms) ≡ min (2 ^ 64 - 1) (sum_by (module_units ms) ms)
units_are ms = ap (min (2 ^ 64 - 1)) (units_sum ms ms)

-- ---- numbers

-- each width is small where no port or net is too wide
pub all_narrow : (m : Module) → too_wide m ≡ [] → Each (λ signal. signal_width signal ≤ 65536) (signals m)
unfolding too_wide
all_narrow m e i signal is =
    let r : nat_lt 65536 (width_of signal.slot.range) ≡ false =
    filter_none (λ (s : Signal). nat_lt 65536 (width_of s.slot.range)) (signals m) (map_none (λ (s : Signal). s.name ∷ []) (filter (λ (s : Signal). nat_lt 65536 (width_of s.slot.range)) (signals m)) e) i signal is in
    grind (arith, nat_tests)

ports_first : (m : Module) (number : ℕ) (names : List Name) → Each (λ signal. first_number signal.slot.place ≤ 0) (port_signals m number names)
ports_first m number [] i signal e = absurd (cc)
ports_first m number (name ∷ names) zero signal e = let s : record { name = name; slot = record { range = port_range m name; place = AtPort number } } ≡ signal = cc in subst (λ (t : Signal). first_number t.slot.place ≤ 0) s (omega arith)
ports_first m number (name ∷ names) (suc i) signal e = ports_first m (number + 1) names i signal e

nets_within : (first : ℕ) (those : List Wire) → Each (λ signal. first_number signal.slot.place + signal_width signal ≤ first + sum_by (λ (wire : Wire). width_of wire.range) those) (net_signals first those)
nets_within first [] i signal e = absurd (cc)
nets_within first (wire ∷ those) zero signal e =
    let s : record { name = wire.name; slot = record { range = wire.range; place = AtNet first } } ≡ signal = cc in
    subst (λ (t : Signal). first_number t.slot.place + signal_width t ≤ first + sum_by (λ (w : Wire). width_of w.range) (wire ∷ those)) s (omega (arith, sum_by-cons (λ (w : Wire). width_of w.range) wire those))
nets_within first (wire ∷ those) (suc i) signal e =
    omega (arith, sum_by-cons (λ (w : Wire). width_of w.range) wire those, nets_within (first + width_of wire.range) those i signal e)

-- the numbers of ports and nets fit, where no width is too great and the nets are few
pub have_numbers : (m : Module) → too_wide m ≡ [] → length (module_nets m) ≤ 2 ^ 32 → All (λ signal. HasNumbers signal.slot) (signals m)
unfolding signals module_nets
have_numbers m narrow few = All-from_recursion (λ (signal : Signal). HasNumbers signal.slot) (signals m) (all_of (λ (signal : Signal). HasNumbers signal.slot) (signals m)
    (λ i signal e. record { narrow = all_narrow m narrow i signal e; fits = fits i signal e (all_narrow m narrow i signal e) }))
  where
    ports_fit : Each (λ signal. signal_width signal ≤ 65536 → first_number signal.slot.place + signal_width signal ≤ 2 ^ 32) (port_signals m 0 (port_names m))
    ports_fit i signal e le = omega (arith, le, ports_first m 0 (port_names m) i signal e)

    nets_fit : Each (λ signal. signal_width signal ≤ 65536 → first_number signal.slot.place + signal_width signal ≤ 2 ^ 32) (net_signals 0 (wires m))
    nets_fit i signal e le = omega (arith, few, nets_long (wires m), nets_within 0 (wires m) i signal e)

    fits : Each (λ signal. signal_width signal ≤ 65536 → first_number signal.slot.place + signal_width signal ≤ 2 ^ 32) (signals m)
    fits = each_both (λ signal. signal_width signal ≤ 65536 → first_number signal.slot.place + signal_width signal ≤ 2 ^ 32) (port_signals m 0 (port_names m)) (net_signals 0 (wires m)) ports_fit nets_fit

-- ---- the bits of a port or net are nodes of the cell

module _ (cells : List HCell) (ms : List Module) (m : Module) where
  -- each bit is a node
  abbrev pub IsOfCell : Slot → Type 0
  IsOfCell slot = (bit : ℕ) → bit < width_of slot.range → IsNode cells (module_cell ms m) (node_at slot.place bit)

  -- the bit of a port of the module, by the port's number
  pub port_bit : (number : ℕ) (name : Name) (bit : ℕ) → slice_get (port_names m) number ≡ Some name → bit < width_of (port_range m name) → IsPortBit (module_cell ms m) number bit
  unfolding module_cell module_ports
  port_bit number name bit e lt = record {
    the_port = port_of m name;
    is_there = slice_get-map (port_of m) (port_names m) number ∙ ap (option_map (port_of m)) e;
    within = lt;
  }

  ports_are : (number : ℕ) (names : List Name) → ((i : ℕ) (name : Name) → slice_get names i ≡ Some name → slice_get (port_names m) (number + i) ≡ Some name) → Each (λ signal. IsOfCell signal.slot) (port_signals m number names)
  ports_are number [] at i signal e = absurd (cc)
  ports_are number (name ∷ names) at zero signal e =
      let s : record { name = name; slot = record { range = port_range m name; place = AtPort number } } ≡ signal = cc in
      subst (λ (t : Signal). IsOfCell t.slot) s (λ bit lt. port_bit number name bit (ap (slice_get (port_names m)) (let g : number ≡ number + 0 = omega arith in g) ∙ at 0 name refl) lt)
  ports_are number (name ∷ names) at (suc i) signal e =
      ports_are (number + 1) names (λ k n f. ap (slice_get (port_names m)) (let g : number + 1 + k ≡ number + suc k = omega arith in g) ∙ at (suc k) n f) i signal e

  nets_are : (first : ℕ) (those : List Wire) → first + sum_by (λ (wire : Wire). width_of wire.range) those ≤ length (module_nets m) → Each (λ signal. IsOfCell signal.slot) (net_signals first those)
  unfolding module_cell
  nets_are first [] le i signal e = absurd (cc)
  nets_are first (wire ∷ those) le zero signal e =
      let s : record { name = wire.name; slot = record { range = wire.range; place = AtNet first } } ≡ signal = cc in
      subst (λ (t : Signal). IsOfCell t.slot) s (λ bit lt. (let g : first + bit < length (module_nets m) = omega (arith, le, lt, sum_by-cons (λ (w : Wire). width_of w.range) wire those) in g))
  nets_are first (wire ∷ those) le (suc i) signal e = nets_are (first + width_of wire.range) those (omega (arith, le, sum_by-cons (λ (w : Wire). width_of w.range) wire those)) i signal e

  -- the bits of the ports and nets of a module are nodes of its cell
  pub slots_are : Each (λ signal. IsOfCell signal.slot) (signals m)
  unfolding signals module_nets
  slots_are = each_both (λ signal. IsOfCell signal.slot) (port_signals m 0 (port_names m)) (net_signals 0 (wires m))
      (ports_are 0 (port_names m) (λ i name e. ap (slice_get (port_names m)) (let g : 0 + i ≡ i = omega arith in g) ∙ e))
      (nets_are 0 (wires m) (omega (arith, nets_long (wires m))))
