-- The connections of an instance, found in the table of the module below.
use Rattle.std.proofs.Common.{◌≡◌, ℕ, suc, ◌+◌, ◌||◌, not, Bool, true, false, cond, List, [], ◌∷◌, ◌++◌, Option, None, Some, bytes_eq, find, flat_map, length, map, option_map, drop, get_or, ◌<◌, ◌≤◌, refl, sym, ap, ◌∙◌, arith, add-one, drop-cons, drop_of_length-le}
use Rattle.std.specs.List.{position_or_len}
use Rattle.std.specs.Option.{option_map_or}
use Rattle.std.proofs.lemmas.Slice.Eq.{bytes_eq-Decides}
use Rattle.std.proofs.lemmas.List.{map-append}
use Rattle.net_hier.specs.Cells.{width_of}
use Rattle.vlog_design.specs.Design.{Connection, connection_named, connections, connections_in_order}
use Rattle.vlog_design.specs.Names.{Name, Signal, Wire, has_name, net_signals, port_names, port_range, port_signals, signal_named, signals, wires}
use Rattle.vlog_design.specs.declared.signals.SignalAt.TheVariants.{AtPort, AtNet}
use Rattle.vlog_ties.specs.Ties.{connection_by_name, connection_by_place, connection_to, connections_among, connections_from, instance_ties, instances_ties, pin_of}
use Rattle.vlog_values.specs.declared.expression.Expr.{Expr}
use Rattle.vlog_values.specs.declared.module.Module.{Module}
use Rattle.vlog_values.specs.declared.statement.Conns.{Conns}
use Rattle.vlog_values.specs.declared.statement.NamedConn.{NamedConn}
use Rattle.vlog_values.specs.declared.statement.VInst.{VInst}
use Rattle.vlog_values.specs.declared.statement.Conns.TheVariants.{Named, Order}

-- by name

abbrev connected : Module → Name → Expr → ℕ → Connection
connected m name value number = record { number = number; port = name; range = port_range m name; value = value }

abbrev found_in : Name → Expr → List Signal → List Connection
found_in name value table = option_map_or (λ slot. connection_to name slot value) (option_map (λ (s : Signal). s.slot) (find (λ (s : Signal). bytes_eq name s.name) table)) []

port_found : (m : Module) (name : Name) (value : Expr) (number : ℕ) (names : List Name) (rest : List Signal) →
    found_in name value (port_signals m number names ++ rest)
    ≡ cond (has_name names name) (connected m name value (number + position_or_len (bytes_eq name) names) ∷ []) (found_in name value rest)
port_found m name value number [] rest = refl
port_found m name value number (x ∷ xs) rest = by (bytes_eq name x) refl (port_found m name value (number + 1) xs rest)
  where
    by : (b : Bool) → bytes_eq name x ≡ b
        → found_in name value (port_signals m (number + 1) xs ++ rest) ≡ cond (has_name xs name) (connected m name value (number + 1 + position_or_len (bytes_eq name) xs) ∷ []) (found_in name value rest)
        → option_map_or (λ slot. connection_to name slot value) (option_map (λ (s : Signal). s.slot) (cond b (Some (record { name = x; slot = record { range = port_range m x; place = AtPort number } })) (find (λ (s : Signal). bytes_eq name s.name) (port_signals m (number + 1) xs ++ rest)))) []
        ≡ cond (b || has_name xs name) (connected m name value (number + cond (not b) (1 + position_or_len (bytes_eq name) xs) 0) ∷ []) (found_in name value rest)
    by true e next =
        let same : x ≡ name = sym ((bytes_eq-Decides name x).0 e) in
        let k : number ≡ number + 0 = omega arith in
        ap (λ n. record { number = number; port = name; range = port_range m n; value = value } ∷ []) same ∙ ap (λ n. connected m name value n ∷ []) k
    by false e next =
        let k : number + 1 + position_or_len (bytes_eq name) xs ≡ number + (1 + position_or_len (bytes_eq name) xs) = omega arith in
        next ∙ ap (λ n. cond (has_name xs name) (connected m name value n ∷ []) (found_in name value rest)) k

net_found : (name : Name) (value : Expr) (first : ℕ) (ws : List Wire) → found_in name value (net_signals first ws) ≡ []
net_found name value first [] = refl
net_found name value first (w ∷ ws) = by (bytes_eq name w.name) (net_found name value (first + width_of w.range) ws)
  where
    by : (b : Bool) → found_in name value (net_signals (first + width_of w.range) ws) ≡ []
        → option_map_or (λ slot. connection_to name slot value) (option_map (λ (s : Signal). s.slot) (cond b (Some (record { name = w.name; slot = record { range = w.range; place = AtNet first } })) (find (λ (s : Signal). bytes_eq name s.name) (net_signals (first + width_of w.range) ws)))) [] ≡ []
    by true h = refl
    by false h = h

by_name : (m : Module) (name : Name) (value : Option Expr) → connection_by_name (signals m) name value ≡ connection_named m name value
unfolding signals signal_named
by_name m name None = refl
by_name m name (Some value) =
    let n = position_or_len (bytes_eq name) (port_names m) in
    let e : 0 + n ≡ n = omega arith in
    port_found m name value 0 (port_names m) (net_signals 0 (wires m))
    ∙ (ap (λ k. cond (has_name (port_names m) name) (connected m name value k ∷ []) (found_in name value (net_signals 0 (wires m)))) e
    ∙ ap (cond (has_name (port_names m) name) (connected m name value n ∷ [])) (net_found name value 0 (wires m)))

-- in order

shifted : (s : Signal) (table : List Signal) (place : ℕ) (values : List (Option Expr)) → connections_from (s ∷ table) (suc place) values ≡ connections_from table place values
unfolding connections_from
shifted s table place [] = refl
shifted s table place (None ∷ values) =
    let e : suc place + 1 ≡ suc (place + 1) = omega arith in
    ap (λ k. connections_from (s ∷ table) k values) e ∙ shifted s table (place + 1) values
shifted s table place (Some value ∷ values) =
    let e : suc place + 1 ≡ suc (place + 1) = omega arith in
    ap (λ l. connection_by_place table place (Some value) ++ l) (ap (λ k. connections_from (s ∷ table) k values) e ∙ shifted s table (place + 1) values)

none_from : (place : ℕ) (values : List (Option Expr)) → connections_from [] place values ≡ []
unfolding connections_from
none_from place [] = refl
none_from place (None ∷ values) = none_from (place + 1) values
none_from place (Some value ∷ values) = none_from (place + 1) values

nets_from : (first : ℕ) (ws : List Wire) (values : List (Option Expr)) → connections_from (net_signals first ws) 0 values ≡ []
unfolding connections_from
nets_from first [] values = none_from 0 values
nets_from first (w ∷ ws) [] = refl
nets_from first (w ∷ ws) (None ∷ values) = shifted _ (net_signals (first + width_of w.range) ws) 0 values ∙ nets_from (first + width_of w.range) ws values
nets_from first (w ∷ ws) (Some value ∷ values) = shifted _ (net_signals (first + width_of w.range) ws) 0 values ∙ nets_from (first + width_of w.range) ws values

ports_from : (m : Module) (first : ℕ) (ws : List Wire) (number : ℕ) (names : List Name) (values : List (Option Expr)) →
    connections_from (port_signals m number names ++ net_signals first ws) 0 values ≡ connections_in_order m number names values
unfolding connections_from
ports_from m first ws number [] values = nets_from first ws values
ports_from m first ws number (x ∷ xs) [] = refl
ports_from m first ws number (x ∷ xs) (None ∷ values) = shifted _ (port_signals m (number + 1) xs ++ net_signals first ws) 0 values ∙ ports_from m first ws (number + 1) xs values
ports_from m first ws number (x ∷ xs) (Some value ∷ values) =
    ap (λ l. connected m x value number ∷ l) (shifted _ (port_signals m (number + 1) xs ++ net_signals first ws) 0 values ∙ ports_from m first ws (number + 1) xs values)

-- the connections of an instance of the module

by_names : (m : Module) (conns : List NamedConn) → flat_map (λ conn. connection_by_name (signals m) conn.port conn.value) conns ≡ flat_map (λ conn. connection_named m conn.port conn.value) conns
by_names m [] = refl
by_names m (conn ∷ conns) = rw (by_name m conn.port conn.value, by_names m conns) refl

pub among_signals : (m : Module) (table : List Signal) (conns : Conns) → table ≡ signals m → connections_among table conns ≡ connections m conns
unfolding connections_among connections signals
among_signals m table (Named conns) e = ap (λ t. connections_among t (Named conns)) e ∙ by_names m conns
among_signals m table (Order values) e = ap (λ t. connections_among t (Order values)) e ∙ ports_from m 0 (wires m) 0 (port_names m) values

-- steps of the loops

pub order_step : (instance : Name) (number : ℕ) (table : List Signal) (values : List (Option Expr)) (i : ℕ) (value : Option Expr) → value ≡ get_or values i value → i < length values →
    map (pin_of instance number) (connections_from table i (drop i values)) ≡ map (pin_of instance number) (connection_by_place table i value) ++ map (pin_of instance number) (connections_from table (i + 1) (drop (i + 1) values))
unfolding connections_from
order_step instance number table values i value is h =
    ap (λ l. map (pin_of instance number) (connections_from table i l)) (drop-cons values i value h)
    ∙ (map-append (pin_of instance number) (connection_by_place table i (get_or values i value)) (connections_from table (i + 1) (drop (suc i) values))
    ∙ (ap (λ k. map (pin_of instance number) (connection_by_place table i (get_or values i value)) ++ map (pin_of instance number) (connections_from table (i + 1) (drop k values))) (sym (add-one i))
    ∙ ap (λ v. map (pin_of instance number) (connection_by_place table i v) ++ map (pin_of instance number) (connections_from table (i + 1) (drop (i + 1) values))) (sym is)))

pub order_done : (instance : Name) (number : ℕ) (table : List Signal) (values : List (Option Expr)) (i : ℕ) → length values ≤ i →
    map (pin_of instance number) (connections_from table i (drop i values)) ≡ []
unfolding connections_from
order_done instance number table values i h = ap (λ l. map (pin_of instance number) (connections_from table i l)) (drop_of_length-le values {i = i} h)

pub instances_step : (below : Module) (number : ℕ) (insts : List VInst) (i : ℕ) (instance : VInst) → instance ≡ get_or insts i instance → i < length insts →
    instances_ties below number (drop i insts) ≡ instance_ties below number instance ++ instances_ties below (number + 1) (drop (i + 1) insts)
unfolding instances_ties
instances_step below number insts i instance is h =
    ap (instances_ties below number) (drop-cons insts i instance h)
    ∙ (ap (λ k. instance_ties below number (get_or insts i instance) ++ instances_ties below (number + 1) (drop k insts)) (sym (add-one i))
    ∙ ap (λ x. instance_ties below number x ++ instances_ties below (number + 1) (drop (i + 1) insts)) (sym is))

pub instances_done : (below : Module) (number : ℕ) (insts : List VInst) (i : ℕ) → length insts ≤ i → instances_ties below number (drop i insts) ≡ []
unfolding instances_ties
instances_done below number insts i h = ap (instances_ties below number) (drop_of_length-le insts {i = i} h)
