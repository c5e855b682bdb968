-- The nets of a module by the table of its names.
use Rattle.std.proofs.Common.{◌≡◌, ℕ, ◌+◌, ◌<◌, ◌≤◌, Bool, true, false, not, ◌||◌, cond, List, [], ◌∷◌, ◌++◌, Option, None, Some, bytes_eq, filter, find, flat_map, length, map, option_map, refl, sym, ap, ◌∙◌, length-append, arith, append_assoc, if◌then◌else◌}
use Rattle.std.specs.Prelude.{nat_le}
use Rattle.std.specs.Option.{option_map_or}
use Rattle.std.proofs.lemmas.Bool.Decides.{nat_tests}
use Rattle.std.proofs.lemmas.Grind.{flat_map-append}
use Rattle.std.proofs.lemmas.List.FromFn.{length-map-range_with_len}
use Rattle.nl_base.specs.Ranges.{Bounds, index_at}
use Rattle.std.specs.Fmt.{signed_decimal}
use Rattle.net_hier.specs.Cells.{width_of}
use Rattle.net_hier.specs.declared.cells.HNet.{HNet}
use Rattle.vlog_design.specs.Design.{attr_props, module_nets, net_name, wire_nets}
use Rattle.vlog_design.specs.Names.{Name, Signal, Wire, decl_wires, has_name, implicit_names, net_decl, net_decls, net_signals, port_names, port_range, port_signals, signal_named, signals, wires}
use Rattle.vlog_design.specs.declared.signals.SignalAt.TheVariants.{AtPort, AtNet}
use Rattle.vlog_values.specs.declared.declaration.NetDecl.{NetDecl}
use Rattle.vlog_values.specs.declared.module.Module.{Module}
use Rattle.vlog_rules.specs.Redeclared.{is_port}
use Rattle.vlog_cells.specs.Nets.{late_nets, names_port, wires_in}

-- which names are those of ports

no_port : (key : Name) (first : ℕ) (ws : List Wire) → names_port (net_signals first ws) key ≡ false
unfolding names_port signal_named
no_port key first [] = refl
no_port key first (w ∷ ws) = by (bytes_eq key w.name) (no_port key (first + width_of w.range) ws)
  where
    rest : List Signal
    rest = net_signals (first + width_of w.range) ws

    by : (b : Bool) → option_map_or (λ slot. is_port slot.place) (option_map (λ (s : Signal). s.slot) (find (λ (s : Signal). bytes_eq key s.name) rest)) false ≡ false →
        option_map_or (λ slot. is_port slot.place) (option_map (λ (s : Signal). s.slot) (cond b (Some (record { name = w.name; slot = record { range = w.range; place = AtNet first } })) (find (λ (s : Signal). bytes_eq key s.name) rest))) false ≡ false
    by true h = refl
    by false h = h

port_or : (m : Module) (key : Name) (number : ℕ) (names : List Name) (rest : List Signal) → names_port (port_signals m number names ++ rest) key ≡ (has_name names key || names_port rest key)
unfolding names_port signal_named
port_or m key number [] rest = refl
port_or m key number (x ∷ xs) rest = by (bytes_eq key x) (port_or m key (number + 1) xs rest)
  where
    later : List Signal
    later = port_signals m (number + 1) xs ++ rest

    by : (b : Bool) → option_map_or (λ slot. is_port slot.place) (option_map (λ (s : Signal). s.slot) (find (λ (s : Signal). bytes_eq key s.name) later)) false ≡ (has_name xs key || option_map_or (λ slot. is_port slot.place) (option_map (λ (s : Signal). s.slot) (find (λ (s : Signal). bytes_eq key s.name) rest)) false) →
        option_map_or (λ slot. is_port slot.place) (option_map (λ (s : Signal). s.slot) (cond b (Some (record { name = x; slot = record { range = port_range m x; place = AtPort number } })) (find (λ (s : Signal). bytes_eq key s.name) later))) false
        ≡ (b || has_name xs key || option_map_or (λ slot. is_port slot.place) (option_map (λ (s : Signal). s.slot) (find (λ (s : Signal). bytes_eq key s.name) rest)) false)
    by true h = refl
    by false h = h

or_false : (b : Bool) → (b || false) ≡ b
or_false true = refl
or_false false = refl

pub port_is : (m : Module) (key : Name) → names_port (signals m) key ≡ has_name (port_names m) key
unfolding signals
port_is m key = port_or m key 0 (port_names m) (net_signals 0 (wires m)) ∙ (ap (λ b. has_name (port_names m) key || b) (no_port key 0 (wires m)) ∙ or_false (has_name (port_names m) key))

filter_same : {A : Type 0} (p q : A → Bool) (xs : List A) → ((x : A) → p x ≡ q x) → filter p xs ≡ filter q xs
filter_same p q [] same = refl
filter_same p q (x ∷ xs) same = (λ j. cond (same x j) (x ∷ filter_same p q xs same j) (filter_same p q xs same j))

wires_are : (m : Module) (decls : List NetDecl) → wires_in (signals m) decls ≡ flat_map (decl_wires m) decls
wires_are m [] = refl
wires_are m (decl ∷ decls) =
    (λ j. map (λ name. record { name = name; range = decl.range; attrs = decl.attrs }) (filter_same (λ name. not (names_port (signals m) name)) (λ name. not (has_name (port_names m) name)) decl.names (λ name. ap not (port_is m name)) j) ++ wires_are m decls j)

-- the nets without a declaration have the last numbers

ports_early : (from : ℕ) (m : Module) (number : ℕ) (names : List Name) (rest : List Signal) → late_nets from (port_signals m number names ++ rest) ≡ late_nets from rest
ports_early from m number [] rest = refl
ports_early from m number (x ∷ xs) rest = ports_early from m (number + 1) xs rest

some_bits : (range : Option Bounds) → 1 ≤ width_of range
some_bits None = omega arith
some_bits (Some range) = omega arith

net_count : (w : Wire) → length (wire_nets w) ≡ width_of w.range
net_count w = length-map-range_with_len (λ bit. record { name = net_name w.name w.range bit; props = attr_props w.attrs }) 0 (width_of w.range)

before_it : (from first : ℕ) → first < from → nat_le from first ≡ false
before_it from first h = grind (arith, nat_tests)

at_or_behind : (from first : ℕ) → from ≤ first → nat_le from first ≡ true
at_or_behind from first h = grind (arith, nat_tests)

wires_early : (from first : ℕ) (ws vs : List Wire) → first + length (flat_map wire_nets ws) ≡ from → late_nets from (net_signals first (ws ++ vs)) ≡ late_nets from (net_signals from vs)
wires_early from first [] vs e = let same : first ≡ from = omega (arith, e) in ap (λ n. late_nets from (net_signals n vs)) same
wires_early from first (w ∷ ws) vs e =
    let long : length (flat_map wire_nets (w ∷ ws)) ≡ length (wire_nets w) + length (flat_map wire_nets ws) = length-append (wire_nets w) (flat_map wire_nets ws) in
    let early : nat_le from first ≡ false = before_it from first (omega (arith, e, long, net_count w, some_bits w.range)) in
    ap (λ b. (if b then record { name = w.name; props = [] } ∷ [] else []) ++ late_nets from (net_signals (first + width_of w.range) (ws ++ vs))) early
    ∙ wires_early from (first + width_of w.range) ws vs (omega (arith, e, long, net_count w))

abbrev implicit_wire : Name → Wire
implicit_wire name = record { name = name; range = None; attrs = [] }

implicit_late : (from first : ℕ) (names : List Name) → from ≤ first → late_nets from (net_signals first (map implicit_wire names)) ≡ flat_map wire_nets (map implicit_wire names)
implicit_late from first [] h = refl
implicit_late from first (x ∷ xs) h =
    (λ j. (if at_or_behind from first h j then record { name = x; props = [] } ∷ [] else []) ++ implicit_late from (first + 1) xs (omega (arith, h)) j)

pub nets_are : (m : Module) (table : List Signal) (made : List HNet) → table ≡ signals m → made ≡ flat_map wire_nets (wires_in table (flat_map net_decl m.items)) → made ++ late_nets (length made) table ≡ module_nets m
unfolding module_nets signals wires net_decls
nets_are m table made whole is =
    let declared = flat_map (decl_wires m) (flat_map net_decl m.items) in
    let implicit = map implicit_wire (implicit_names m) in
    let first : made ≡ flat_map wire_nets declared = is ∙ (ap (λ t. flat_map wire_nets (wires_in t (flat_map net_decl m.items))) whole ∙ ap (flat_map wire_nets) (wires_are m (flat_map net_decl m.items))) in
    let late : late_nets (length made) table ≡ flat_map wire_nets implicit =
    ap (late_nets (length made)) whole
    ∙ (ports_early (length made) m 0 (port_names m) (net_signals 0 (declared ++ implicit))
    ∙ (wires_early (length made) 0 declared implicit (omega (arith, ap length first)) ∙ implicit_late (length made) (length made) (implicit_names m) (omega arith))) in
    (λ j. first j ++ late j) ∙ sym (flat_map-append wire_nets declared implicit)

-- the name of a bit, made of the name and a bracket
pub indexed : (name front : List ℕ) (range : Bounds) (bit : ℕ) → front ≡ name ++ 91 ∷ [] → front ++ signed_decimal (index_at range bit) ++ 93 ∷ [] ≡ net_name name (Some range) bit
indexed name front range bit e = rw e (ap (λ l. l ++ 93 ∷ []) (append_assoc name (91 ∷ []) (signed_decimal (index_at range bit))))
