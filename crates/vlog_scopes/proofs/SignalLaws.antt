-- The ports and nets of a module, as they are listed.
use Rattle.std.proofs.Common.{◌≡◌, ℕ, ◌+◌, Bool, true, false, not, ◌&&◌, ◌||◌, cond, List, [], ◌∷◌, ◌++◌, Option, None, Some, filter, find, flat_map, is_none, is_some, map, bytes_eq, option_map, refl, sym, ap, subst, ◌∙◌, append_assoc, append-nil, inl, inr}
use Rattle.std.proofs.lemmas.Bool.{both_ways, false_from_ne_true, false≢true, not-true, or_cases, or_from}
use Rattle.std.proofs.lemmas.List.{map-append}
use Rattle.std.proofs.lemmas.List.Elements.{filter-append}
use Rattle.net_hier.specs.Cells.{width_of}
use Rattle.nl_base.specs.Ranges.{Bounds}
use Rattle.vlog_design.specs.Names.{Name, Signal, Wire, decl_wires, has_name, implicit_names, is_declared, is_implicit, module_uses, net_decls, net_names, net_signals, port_names, port_range, port_signals, signal_named, signals, wires}
use Rattle.vlog_design.specs.Rules.{declared_twice}
use Rattle.vlog_design.specs.declared.signals.SignalAt.TheVariants.{AtNet}
use Rattle.vlog_scopes.specs.Signals.{declared_nets, declared_signals}
use Rattle.vlog_scopes.specs.Distinct.{Distinct, signal_names}
use Rattle.vlog_scopes.specs.Ranged.{RangedName, net_slots, number_behind, of_range, plain_names, port_slots, range_named, ranged_nets}
use Rattle.vlog_scopes.proofs.Declarations.{net_declared, nets_distinct, port_declared, ports_distinct}
use Rattle.vlog_scopes.proofs.DistinctLaws.{distinct_append, distinct_filter, distinct_first, has_all, has_append, has_first, has_passed}
use Rattle.vlog_values.specs.declared.declaration.NetDecl.{NetDecl}
use Rattle.vlog_values.specs.declared.module.Module.{Module}

-- ports

pub ports_slots : (m : Module) (ranged : List RangedName) → ((name : Name) → range_named ranged name ≡ port_range m name) → (number : ℕ) (names : List Name) → port_slots ranged number names ≡ port_signals m number names
ports_slots m ranged h number [] = refl
ports_slots m ranged h number (x ∷ xs) = rw (h x, ports_slots m ranged h (number + 1) xs) refl

-- nets

abbrev plain_wire : Wire → RangedName
plain_wire wire = record { name = wire.name; range = wire.range }

wires_slots : (first : ℕ) (ws : List Wire) → net_signals first ws ≡ net_slots first (map plain_wire ws)
wires_slots first [] = refl
wires_slots first (w ∷ ws) = ap (λ rest. record { name = w.name; slot = record { range = w.range; place = AtNet first } } ∷ rest) (wires_slots (first + width_of w.range) ws)

pub nets_append : (first : ℕ) (xs ys : List RangedName) → net_slots first (xs ++ ys) ≡ net_slots first xs ++ net_slots (number_behind first xs) ys
nets_append first [] ys = refl
nets_append first (x ∷ xs) ys = ap (λ rest. record { name = x.name; slot = record { range = x.range; place = AtNet first } } ∷ rest) (nets_append (first + width_of x.range) xs ys)

-- the names of nets

pub net_slot_names : (first : ℕ) (nets : List RangedName) → signal_names (net_slots first nets) ≡ plain_names nets
net_slot_names first [] = refl
net_slot_names first (x ∷ xs) = ap (λ rest. x.name ∷ rest) (net_slot_names (first + width_of x.range) xs)

pub plain_of_range : (range : Option Bounds) (names : List Name) → plain_names (of_range range names) ≡ names
plain_of_range range [] = refl
plain_of_range range (x ∷ xs) = ap (λ rest. x ∷ rest) (plain_of_range range xs)

pub plain_decls : (decls : List NetDecl) → plain_names (flat_map ranged_nets decls) ≡ flat_map (λ decl. decl.names) decls
plain_decls [] = refl
plain_decls (d ∷ ds) = map-append (λ (one : RangedName). one.name) (ranged_nets d) (flat_map ranged_nets ds) ∙ (λ j. plain_of_range d.range d.names j ++ plain_decls ds j)

module _ (m : Module) where
  decl_plain : (decl : NetDecl) (names : List Name) →
      map plain_wire (map (λ name. record { name = name; range = decl.range; attrs = decl.attrs }) (filter (λ name. not (has_name (port_names m) name)) names))
      ≡ filter (λ one. not (has_name (port_names m) one.name)) (of_range decl.range names)
  decl_plain decl [] = refl
  decl_plain decl (x ∷ xs) = by (not (has_name (port_names m) x)) (decl_plain decl xs)
    where
      by : (b : Bool) → map plain_wire (map (λ name. record { name = name; range = decl.range; attrs = decl.attrs }) (filter (λ name. not (has_name (port_names m) name)) xs)) ≡ filter (λ one. not (has_name (port_names m) one.name)) (of_range decl.range xs) →
          map plain_wire (map (λ name. record { name = name; range = decl.range; attrs = decl.attrs }) (cond b (x ∷ filter (λ name. not (has_name (port_names m) name)) xs) (filter (λ name. not (has_name (port_names m) name)) xs)))
          ≡ cond b (record { name = x; range = decl.range } ∷ filter (λ one. not (has_name (port_names m) one.name)) (of_range decl.range xs)) (filter (λ one. not (has_name (port_names m) one.name)) (of_range decl.range xs))
      by true h = ap (λ rest. record { name = x; range = decl.range } ∷ rest) h
      by false h = h

  decls_plain : (decls : List NetDecl) → map plain_wire (flat_map (decl_wires m) decls) ≡ filter (λ one. not (has_name (port_names m) one.name)) (flat_map ranged_nets decls)
  decls_plain [] = refl
  decls_plain (d ∷ ds) =
      map-append plain_wire (decl_wires m d) (flat_map (decl_wires m) ds)
      ∙ ((λ j. decl_plain d d.names j ++ decls_plain ds j)
      ∙ sym (filter-append (λ (one : RangedName). not (has_name (port_names m) one.name)) (ranged_nets d) (flat_map ranged_nets ds)))

  single_plain : (names : List Name) → map plain_wire (map (λ name. record { name = name; range = None; attrs = [] }) names) ≡ of_range None names
  single_plain [] = refl
  single_plain (x ∷ xs) = ap (λ rest. record { name = x; range = None } ∷ rest) (single_plain xs)

  wires_plain : map plain_wire (wires m) ≡ filter (λ one. not (has_name (port_names m) one.name)) (flat_map ranged_nets (net_decls m)) ++ of_range None (implicit_names m)
  unfolding wires
  wires_plain =
      map-append plain_wire (flat_map (decl_wires m) (net_decls m)) (map (λ name. record { name = name; range = None; attrs = [] }) (implicit_names m))
      ∙ (λ j. decls_plain (net_decls m) j ++ single_plain (implicit_names m) j)

  -- the signals: ports, declared nets that are no ports, and implicit nets
  pub signals_are : signals m ≡ declared_signals m ++ net_slots (number_behind 0 (declared_nets m)) (of_range None (implicit_names m))
  unfolding signals
  signals_are =
      ap (λ nets. port_signals m 0 (port_names m) ++ nets) (wires_slots 0 (wires m) ∙ (ap (net_slots 0) wires_plain
      ∙ nets_append 0 (filter (λ one. not (has_name (port_names m) one.name)) (flat_map ranged_nets (net_decls m))) (of_range None (implicit_names m))))
      ∙ sym (append_assoc (port_signals m 0 (port_names m)) (net_slots 0 (filter (λ one. not (has_name (port_names m) one.name)) (flat_map ranged_nets (net_decls m))))
      (net_slots (number_behind 0 (filter (λ one. not (has_name (port_names m) one.name)) (flat_map ranged_nets (net_decls m)))) (of_range None (implicit_names m))))

  -- their names

  pub port_signal_names : (number : ℕ) (names : List Name) → signal_names (port_signals m number names) ≡ names
  port_signal_names number [] = refl
  port_signal_names number (x ∷ xs) = ap (λ rest. x ∷ rest) (port_signal_names (number + 1) xs)

  plain_passed : (nets : List RangedName) → plain_names (filter (λ one. not (has_name (port_names m) one.name)) nets) ≡ filter (λ name. not (has_name (port_names m) name)) (plain_names nets)
  plain_passed [] = refl
  plain_passed (x ∷ xs) = by (not (has_name (port_names m) x.name)) (plain_passed xs)
    where
      by : (b : Bool) → plain_names (filter (λ one. not (has_name (port_names m) one.name)) xs) ≡ filter (λ name. not (has_name (port_names m) name)) (plain_names xs) →
          plain_names (cond b (x ∷ filter (λ one. not (has_name (port_names m) one.name)) xs) (filter (λ one. not (has_name (port_names m) one.name)) xs))
          ≡ cond b (x.name ∷ filter (λ name. not (has_name (port_names m) name)) (plain_names xs)) (filter (λ name. not (has_name (port_names m) name)) (plain_names xs))
      by true h = ap (λ rest. x.name ∷ rest) h
      by false h = h

  names_are : signal_names (signals m) ≡ port_names m ++ (filter (λ name. not (has_name (port_names m) name)) (net_names m) ++ implicit_names m)
  unfolding signals
  names_are =
      map-append (λ (s : Signal). s.name) (port_signals m 0 (port_names m)) (net_signals 0 (wires m))
      ∙ (λ j. port_signal_names 0 (port_names m) j ++
      (ap signal_names (wires_slots 0 (wires m)) ∙ (net_slot_names 0 (map plain_wire (wires m)) ∙ (ap plain_names wires_plain
      ∙ (map-append (λ (one : RangedName). one.name) (filter (λ one. not (has_name (port_names m) one.name)) (flat_map ranged_nets (net_decls m))) (of_range None (implicit_names m))
      ∙ (λ k. (plain_passed (flat_map ranged_nets (net_decls m)) ∙ ap (filter (λ name. not (has_name (port_names m) name))) (plain_decls (net_decls m))) k ++ plain_of_range None (implicit_names m) k))))) j)

  -- a port or declared net is declared
  pub declared_known : (name : Name) → has_name (signal_names (declared_signals m)) name ≡ true → is_declared m name ≡ true
  declared_known name h =
      let nets = filter (λ n. not (has_name (port_names m) n)) (net_names m) in
      let names : signal_names (declared_signals m) ≡ port_names m ++ nets =
      map-append (λ (s : Signal). s.name) (port_signals m 0 (port_names m)) (net_slots 0 (declared_nets m))
      ∙ (λ j. port_signal_names 0 (port_names m) j
      ++ (net_slot_names 0 (declared_nets m) ∙ (plain_passed (flat_map ranged_nets (net_decls m)) ∙ ap (filter (λ n. not (has_name (port_names m) n))) (plain_decls (net_decls m)))) j) in
      elim (or_cases (has_name (port_names m) name) (has_name nets name) (sym (has_append (port_names m) nets name) ∙ (ap (λ those. has_name those name) (sym names) ∙ h))) [
        | inl port ↦ port_declared m name port
        | inr net ↦ net_declared m name (has_all (λ n. not (has_name (port_names m) n)) (net_names m) name net)
      ]

  -- an implicit net is not declared
  not_declared : (name : Name) → has_name (implicit_names m) name ≡ true → is_declared m name ≡ false
  unfolding implicit_names is_implicit
  not_declared name h =
      let passed = has_passed (is_implicit m) (map (λ u. u.name) (module_uses m)) name (has_first (filter (is_implicit m) (map (λ u. u.name) (module_uses m))) name h) in
      by m.implicit (is_declared m name) _ passed
    where
      by : (b c d : Bool) → (b && not c && d) ≡ true → c ≡ false
      by true true d e = absurd (false≢true e)
      by true false d e = refl
      by false c d e = absurd (false≢true e)

  no_implicit : (name : Name) → is_declared m name ≡ true → has_name (implicit_names m) name ≡ false
  no_implicit name h = false_from_ne_true (has_name (implicit_names m) name) (λ e. both_ways (is_declared m name) (not_declared name e) h)

  -- where nothing is declared twice the names differ
  pub names_distinct : declared_twice m ≡ [] → Distinct (signal_names (signals m))
  unfolding implicit_names
  names_distinct once =
      let rest = distinct_append (filter (λ name. not (has_name (port_names m) name)) (net_names m)) (implicit_names m)
      (distinct_filter (λ name. not (has_name (port_names m) name)) (net_names m) (nets_distinct m once))
      (distinct_first (filter (is_implicit m) (map (λ u. u.name) (module_uses m))))
      (λ name e. no_implicit name (net_declared m name (has_all (λ n. not (has_name (port_names m) n)) (net_names m) name e))) in
      subst Distinct (sym names_are)
      (distinct_append (port_names m) (filter (λ name. not (has_name (port_names m) name)) (net_names m) ++ implicit_names m) (ports_distinct m once) rest
      (λ name e. has_append (filter (λ n. not (has_name (port_names m) n)) (net_names m)) (implicit_names m) name
      ∙ or_from (has_name (filter (λ n. not (has_name (port_names m) n)) (net_names m)) name) (has_name (implicit_names m) name)
      (false_from_ne_true (has_name (filter (λ n. not (has_name (port_names m) n)) (net_names m)) name)
      (λ f. both_ways (has_name (port_names m) name) (not-true (has_name (port_names m) name) (has_passed (λ n. not (has_name (port_names m) n)) (net_names m) name f)) e))
      (no_implicit name (port_declared m name e))))

  -- without implicit nets there are no other signals
  pub all_declared : implicit_names m ≡ [] → declared_signals m ≡ signals m
  all_declared none = sym (signals_are ∙ (ap (λ names. declared_signals m ++ net_slots (number_behind 0 (declared_nets m)) (of_range None names)) none ∙ append-nil (declared_signals m)))

-- a name is found where it is one of a table's
pub named_some : (table : List Signal) (name : Name) → is_some (signal_named table name) ≡ has_name (signal_names table) name
unfolding signal_named
named_some [] name = refl
named_some (s ∷ ss) name = by (bytes_eq name s.name) (named_some ss name)
  where
    by : (b : Bool) → is_some (option_map (λ (x : Signal). x.slot) (find (λ (x : Signal). bytes_eq name x.name) ss)) ≡ has_name (signal_names ss) name
        → is_some (option_map (λ (x : Signal). x.slot) (cond b (Some s) (find (λ (x : Signal). bytes_eq name x.name) ss))) ≡ (b || has_name (signal_names ss) name)
    by true h = refl
    by false h = h

none_not_some : {A : Type 0} (o : Option A) → is_none o ≡ not (is_some o)
none_not_some None = refl
none_not_some (Some x) = refl

-- and is new where it is none of them
pub named_none : (table : List Signal) (name : Name) → is_none (signal_named table name) ≡ not (has_name (signal_names table) name)
named_none table name = none_not_some (signal_named table name) ∙ ap not (named_some table name)
