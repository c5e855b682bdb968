-- Ports among the names of a module.
use Rattle.std.proofs.Common.{◌≡◌, ℕ, ◌+◌, Bool, true, false, not, ◌&&◌, ◌||◌, cond, List, [], ◌∷◌, ◌++◌, Option, Some, bytes_eq, filter, find, flat_map, map, option_map, refl, sym, ap, ◌∙◌}
use Rattle.std.specs.Option.{option_map_or}
use Rattle.std.proofs.lemmas.List.{map-append}
use Rattle.std.proofs.lemmas.Slice.Eq.{bytes_eq-Decides}
use Rattle.nl_base.specs.Ranges.{Bounds}
use Rattle.nl_base.specs.declared.rule.Rule.TheVariants.{G15}
use Rattle.net_hier.specs.Cells.{width_of}
use Rattle.vlog_design.specs.Names.{Name, Signal, Wire, has_name, net_decl, net_decls, net_signals, port_names, port_range, port_signals, signal_named, signals, wires}
use Rattle.vlog_design.specs.Rules.{each_alone, first_of, other_ranges, refused, same_range}
use Rattle.vlog_design.specs.declared.signals.SignalAt.TheVariants.{AtPort, AtNet}
use Rattle.vlog_rules.specs.Redeclared.{other_in, other_slot}
use Rattle.vlog_rules.proofs.StatementLaws.{first_alone}
use Rattle.vlog_values.specs.declared.declaration.NetDecl.{NetDecl}
use Rattle.vlog_values.specs.declared.module.ItemV.{ItemV}
use Rattle.vlog_values.specs.declared.module.Module.{Module}

-- a net is no port
net_no_port : (range : Option Bounds) (name : Name) (first : ℕ) (ws : List Wire) → option_map_or (other_slot range) (signal_named (net_signals first ws) name) false ≡ false
unfolding signal_named
net_no_port range name first [] = refl
net_no_port range name first (w ∷ ws) = by (bytes_eq name w.name) (net_no_port range name (first + width_of w.range) ws)
  where
    rest : List Signal
    rest = net_signals (first + width_of w.range) ws

    by : (b : Bool) → option_map_or (other_slot range) (option_map (λ (s : Signal). s.slot) (find (λ (s : Signal). bytes_eq name s.name) rest)) false ≡ false
        → option_map_or (other_slot range) (option_map (λ (s : Signal). s.slot) (cond b (Some (record { name = w.name; slot = record { range = w.range; place = AtNet first } })) (find (λ (s : Signal). bytes_eq name s.name) rest))) false ≡ false
    by true h = refl
    by false h = h

port_other : (m : Module) (range : Option Bounds) (name : Name) (number : ℕ) (names : List Name) (rest : List Signal) →
    option_map_or (other_slot range) (signal_named (port_signals m number names ++ rest) name) false
    ≡ cond (has_name names name) (not (same_range range (port_range m name))) (option_map_or (other_slot range) (signal_named rest name) false)
unfolding signal_named
port_other m range name number [] rest = refl
port_other m range name number (x ∷ xs) rest = by (bytes_eq name x) refl (port_other m range name (number + 1) xs rest)
  where
    later : List Signal
    later = port_signals m (number + 1) xs ++ rest

    by : (b : Bool) → bytes_eq name x ≡ b
        → option_map_or (other_slot range) (option_map (λ (s : Signal). s.slot) (find (λ (s : Signal). bytes_eq name s.name) later)) false
        ≡ cond (has_name xs name) (not (same_range range (port_range m name))) (option_map_or (other_slot range) (option_map (λ (s : Signal). s.slot) (find (λ (s : Signal). bytes_eq name s.name) rest)) false)
        → option_map_or (other_slot range) (option_map (λ (s : Signal). s.slot) (cond b (Some (record { name = x; slot = record { range = port_range m x; place = AtPort number } })) (find (λ (s : Signal). bytes_eq name s.name) later))) false
        ≡ cond (b || has_name xs name) (not (same_range range (port_range m name))) (option_map_or (other_slot range) (option_map (λ (s : Signal). s.slot) (find (λ (s : Signal). bytes_eq name s.name) rest)) false)
    by true e h = ap (λ n. not (same_range range (port_range m n))) (sym ((bytes_eq-Decides name x).0 e))
    by false e h = h

only_if : (b c : Bool) → cond b c false ≡ (b && c)
only_if true c = refl
only_if false c = refl

pub other_is : (m : Module) (range : Option Bounds) (name : Name) → other_in (signals m) range name ≡ (has_name (port_names m) name && not (same_range range (port_range m name)))
unfolding other_in signals
other_is m range name =
    port_other m range name 0 (port_names m) (net_signals 0 (wires m))
    ∙ (ap (cond (has_name (port_names m) name) (not (same_range range (port_range m name)))) (net_no_port range name 0 (wires m)) ∙ only_if (has_name (port_names m) name) (not (same_range range (port_range m name))))

filter_same : {A : Type 0} (p q : A → Bool) (xs : List A) → ((x : A) → p x ≡ q x) → filter p xs ≡ filter q xs
filter_same p q [] same = refl
filter_same p q (x ∷ xs) same = rw (same x, filter_same p q xs same) refl

flat_map_same : {A B : Type 0} (f g : A → List B) (xs : List A) → ((x : A) → f x ≡ g x) → flat_map f xs ≡ flat_map g xs
flat_map_same f g [] same = refl
flat_map_same f g (x ∷ xs) same = rw (same x, flat_map_same f g xs same) refl

alone_parts : {A : Type 0} (g : A → List Name) (xs : List A) → flat_map (λ x. each_alone (g x)) xs ≡ each_alone (flat_map g xs)
alone_parts g [] = refl
alone_parts g (x ∷ xs) = ap (λ rest. each_alone (g x) ++ rest) (alone_parts g xs) ∙ sym (map-append (λ name. name ∷ []) (g x) (flat_map g xs))

pub range_first : (m : Module) (table : List Signal) (items : List ItemV) (found : Option Name) → table ≡ signals m → items ≡ m.items →
    found ≡ first_of (flat_map (λ decl. filter (other_in table decl.range) decl.names) (flat_map net_decl items)) →
    first_of (map (refused G15 m.name) (other_ranges m)) ≡ option_map (λ name. refused G15 m.name (name ∷ [])) found
unfolding other_ranges net_decls
range_first m table items found e i f =
    let q : NetDecl → Name → Bool = λ decl name. has_name (port_names m) name && not (same_range decl.range (port_range m name)) in
    let decls : List NetDecl = flat_map net_decl m.items in
    let same : (decl : NetDecl) → filter (other_in table decl.range) decl.names ≡ filter (q decl) decl.names = λ decl. filter_same (other_in table decl.range) (q decl) decl.names (λ name. ap (λ t. other_in t decl.range name) e ∙ other_is m decl.range name) in
    let here : found ≡ first_of (flat_map (λ decl. filter (q decl) decl.names) decls) =
    f ∙ (ap (λ xs. first_of (flat_map (λ decl. filter (other_in table decl.range) decl.names) (flat_map net_decl xs))) i ∙ ap first_of (flat_map_same (λ decl. filter (other_in table decl.range) decl.names) (λ decl. filter (q decl) decl.names) decls same)) in
    ap (λ objects. first_of (map (refused G15 m.name) objects)) (alone_parts (λ decl. filter (q decl) decl.names) decls) ∙ first_alone G15 m (flat_map (λ decl. filter (q decl) decl.names) decls) found here
