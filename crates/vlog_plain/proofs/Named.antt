-- The names and selects of a plain module are good, and its ports and wires are narrow (4.5, 5.2.1).
use Rattle.std.proofs.Common.{◌≡◌, inl, inr, ℕ, ◌+◌, ◌≤◌, false, List, [], ◌∷◌, Option, None, Some, filter, map, nat_lt, sym, ap, ◌∙◌, arith, Contains}
use Rattle.std.specs.Prelude.{is_none}
use Rattle.std.specs.Option.{option_map_or}
use Rattle.std.proofs.lemmas.Bool.Decides.{nat_tests}
use Rattle.std.proofs.lemmas.List.Elements.{Contains-append_cases}
use Rattle.net_hier.specs.Cells.{width_of}
use Rattle.nl_base.specs.Ranges.{Bounds}
use Rattle.vlog_design.specs.Names.{Signal, Use, module_uses, signal_named, signals}
use Rattle.vlog_design.specs.Ranges.{selected}
use Rattle.vlog_design.specs.Rules.{bad_select_in, bad_selects, too_wide, unknown_names}
use Rattle.vlog_design.specs.declared.signals.SignalAt.TheVariants.{AtPort, AtNet}
use Rattle.vlog_design.specs.declared.signals.Slot.{Slot}
use Rattle.vlog_design.specs.declared.signals.Span.{Span}
use Rattle.vlog_written.specs.Written.{PlainModule, PlainPort, PlainWire, plain_module, plain_ports, plain_signals, plain_wires}
use Rattle.vlog_written.proofs.Exprs.{port_signal, selected_bit, wire_signal}
use Rattle.vlog_written.proofs.Members.{nothing_there, there_cases, there_here, there_later}
use Rattle.vlog_written.proofs.Names.{signals_are}
use Rattle.vlog_plain.specs.Plain.{IsPlainModule}
use Rattle.vlog_plain.proofs.Lists.{filter_none}
use Rattle.vlog_plain.proofs.Uses.{IsOwnUse, are_apart, own_use, uses_port, uses_wire}

-- a use of a name in a table that selects some bits
record IsGoodUse (table : List Signal) (u : Use) : Type 0 where
  slot : Slot
  is_slot : signal_named table u.name ≡ Some slot
  span : Span
  is_span : selected slot.range u.select ≡ Some span

-- a name of a plain module is a port or a wire
signal_of_port : (number : ℕ) (ports : List PlainPort) (s : Signal) → Contains (plain_ports number ports) s → (port : PlainPort) × Contains ports port × (s.slot.range ≡ port.range)
signal_of_port number [] s h = absurd (nothing_there s h)
signal_of_port number (port ∷ ports) s h =
    let here : Signal = record { name = port.name; slot = record { range = port.range; place = AtPort number } } in
    let rest : Contains (plain_ports (number + 1) ports) s → (port : PlainPort) × Contains ports port × (s.slot.range ≡ port.range) = signal_of_port (number + 1) ports s in
    elim (there_cases here (plain_ports (number + 1) ports) s h) as (λ _. (q : PlainPort) × Contains (port ∷ ports) q × (s.slot.range ≡ q.range)) [
      | inl e ↦ (port, there_here port ports, sym (ap (λ (t : Signal). t.slot.range) e))
      | inr m ↦ let r = rest m in (r.0, there_later port ports r.0 r.1, r.2)
    ]

signal_of_wire : (number : ℕ) (wires : List PlainWire) (s : Signal) → Contains (plain_wires number wires) s → s.slot.range ≡ None
signal_of_wire number [] s h = absurd (nothing_there s h)
signal_of_wire number (wire ∷ wires) s h =
    let here : Signal = record { name = wire.name; slot = record { range = None; place = AtNet number } } in
    let rest : Contains (plain_wires (number + 1) wires) s → s.slot.range ≡ None = signal_of_wire (number + 1) wires s in
    elim (there_cases here (plain_wires (number + 1) wires) s h) as (λ _. s.slot.range ≡ None) [
      | inl e ↦ sym (ap (λ (t : Signal). t.slot.range) e)
      | inr m ↦ rest m
    ]

not_wide : (range : Option Bounds) → width_of range ≤ 65536 → nat_lt 65536 (width_of range) ≡ false
not_wide range h = by (width_of range) h
  where
    by : (n : ℕ) → n ≤ 65536 → nat_lt 65536 n ≡ false
    by n h = grind (arith, nat_tests)

module _ (ps : List PlainModule) (place : ℕ) (p : PlainModule) (is : IsPlainModule ps place p) where
  pub table_is : signals (plain_module p) ≡ plain_signals p
  table_is = signals_are p (are_apart ps place p is)

  good : (u : Use) → IsOwnUse p u → IsGoodUse (signals (plain_module p)) u
  good u (uses_port number port bit e within same) = record {
    slot = record { range = port.range; place = AtPort number };
    is_slot = ap (λ (v : Use). signal_named (signals (plain_module p)) v.name) same ∙ (ap (λ table. signal_named table port.name) table_is ∙ port_signal p (are_apart ps place p is) number port e);
    span = record { first = bit; count = 1 };
    is_span = ap (λ (v : Use). selected port.range v.select) same ∙ selected_bit port.range bit within;
  }
  good u (uses_wire number wire e same) = record {
    slot = record { range = None; place = AtNet number };
    is_slot = ap (λ (v : Use). signal_named (signals (plain_module p)) v.name) same ∙ (ap (λ table. signal_named table wire.name) table_is ∙ wire_signal p (are_apart ps place p is) number wire e);
    span = record { first = 0; count = 1 };
    is_span = ap (λ (v : Use). selected None v.select) same ∙ selected_bit None 0 (omega arith);
  }

  pub names_known : unknown_names (plain_module p) ≡ []
  unfolding unknown_names
  names_known = ap (map (λ (u : Use). u.name ∷ [])) (filter_none (λ (u : Use). is_none (signal_named (signals (plain_module p)) u.name)) (module_uses (plain_module p)) known)
    where
      known : (u : Use) → Contains (module_uses (plain_module p)) u → is_none (signal_named (signals (plain_module p)) u.name) ≡ false
      known u h = let g : IsGoodUse (signals (plain_module p)) u = good u (own_use ps place p is u h) in ap is_none g.is_slot

  pub selects_good : bad_selects (plain_module p) ≡ []
  unfolding bad_selects
  selects_good = ap (map (λ (u : Use). u.name ∷ [])) (filter_none (bad_select_in (signals (plain_module p))) (module_uses (plain_module p)) selects)
    where
      selects : (u : Use) → Contains (module_uses (plain_module p)) u → bad_select_in (signals (plain_module p)) u ≡ false
      selects u h =
          let g : IsGoodUse (signals (plain_module p)) u = good u (own_use ps place p is u h) in
          ap (λ o. option_map_or (λ (slot : Slot). is_none (selected slot.range u.select)) o false) g.is_slot ∙ ap is_none g.is_span

  pub narrow_enough : too_wide (plain_module p) ≡ []
  unfolding too_wide
  narrow_enough = ap (map (λ (s : Signal). s.name ∷ [])) (ap (filter (λ (s : Signal). nat_lt 65536 (width_of s.slot.range))) table_is ∙ filter_none (λ (s : Signal). nat_lt 65536 (width_of s.slot.range)) (plain_signals p) narrow)
    where
      narrow : (s : Signal) → Contains (plain_signals p) s → nat_lt 65536 (width_of s.slot.range) ≡ false
      narrow s h = elim (Contains-append_cases (plain_ports 0 p.ports) (plain_wires 0 p.wires) s h) as (λ _. nat_lt 65536 (width_of s.slot.range) ≡ false) [
        | inl m ↦ let r = signal_of_port 0 p.ports s m in ap (λ range. nat_lt 65536 (width_of range)) r.2 ∙ not_wide r.0.range (is.narrow r.0 r.1)
        | inr m ↦ ap (λ range. nat_lt 65536 (width_of range)) (signal_of_wire 0 p.wires s m)
      ]
