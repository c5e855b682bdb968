-- What is in a table when the names of a module were added.
use Rattle.std.proofs.Common.{◌≡◌, ℕ, ◌+◌, ◌<◌, Bool, true, false, not, ◌||◌, cond, List, [], ◌∷◌, ◌++◌, Option, None, Result, Ok, Err, IfOk, OnErr, filter, flat_map, is_none, drop, get_or, length, bytes_eq, if◌then◌else◌, refl, sym, ap, subst, ◌∙◌, append_assoc, append-nil, arith}
use Rattle.std.specs.Borrow.{Bor}
use Rattle.std.proofs.lemmas.Bool.{both_ways, false_from_ne_true, not-true, or_parts}
use Rattle.std.proofs.lemmas.List.{drop_more, map-append}
use Rattle.std.proofs.lemmas.List.Concat.{flat_map-append}
use Rattle.net_hier.specs.Cells.{width_of}
use Rattle.nl_base.specs.Ranges.{Bounds}
use Rattle.vlog_design.specs.Names.{Name, Signal, has_name, implicit_names, net_decl, net_decls, port_names, port_signals, signal_named, signals}
use Rattle.vlog_design.specs.Rules.{declared_twice}
use Rattle.vlog_design.specs.Tables.{names_of}
use Rattle.vlog_design.specs.declared.signals.SignalAt.TheVariants.{AtNet, AtPort}
use Rattle.vlog_scopes.specs.Distinct.{Distinct, signal_names}
use Rattle.vlog_scopes.specs.Filled.{Numbered, item_nets, items_added, net_added, nets_added}
use Rattle.vlog_scopes.specs.Ranged.{RangedName, net_slots, number_behind, of_range, plain_names, port_slots, range_named, ranged_nets}
use Rattle.vlog_scopes.specs.Signals.{declared_nets, declared_signals}
use Rattle.vlog_scopes.proofs.Declarations.{nets_distinct}
use Rattle.vlog_scopes.proofs.DistinctLaws.{distinct_append, has_append, not_before, one_name, other_way}
use Rattle.vlog_scopes.proofs.SignalLaws.{named_none, names_distinct, net_slot_names, plain_decls, plain_of_range, port_signal_names, signals_are}
use Rattle.vlog_values.specs.declared.module.ItemV.{ItemV}
use Rattle.vlog_values.specs.declared.module.ItemV.TheVariants.{Port, Net, Param, Assign, Instances as InstancesItem, Defparam}
use Rattle.vlog_values.specs.declared.module.Module.{Module}

-- names differ also with one behind them that is none of them
one_more : (names : List Name) (name : Name) → Distinct names → has_name names name ≡ false → Distinct (names ++ name ∷ [])
one_more names name distinct new =
    distinct_append names (name ∷ []) distinct (refl, tt)
    (λ other here. false_from_ne_true (has_name (name ∷ []) other) (λ there. both_ways (has_name names other) (ap (has_name names) (one_name name other there) ∙ new) here))

-- few names differ also behind one that was added, or for which there was no memory
pub few_distinct : {A E : Type 0} (result : Result A E) (before after : List Signal) (s : Signal) → Distinct (signal_names before) → has_name (signal_names before) s.name ≡ false
    → IfOk result (λ _. after ≡ before ++ s ∷ []) → OnErr result (after ≡ before) → Distinct (signal_names after)
few_distinct (Ok x) before after s distinct new added kept =
    subst Distinct (sym (ap signal_names added ∙ map-append (λ (x : Signal). x.name) before (s ∷ []))) (one_more (signal_names before) s.name distinct new)
few_distinct (Err e) before after s distinct new added kept = subst Distinct (ap signal_names (sym kept)) distinct

-- a name that is not found in the table is none of these, where these are its names
pub new_there : {E : Type 0} (result : Result Bool E) (whole table : List Signal) (name : Name) → whole ≡ table
    → IfOk result (λ new. new ≡ is_none (signal_named table name)) → IfOk result (λ new. new ≡ not (has_name (signal_names whole) name))
new_there (Ok new) whole table name w h = h ∙ (named_none table name ∙ ap (λ those. not (has_name (signal_names those) name)) (sym w))
new_there (Err e) whole table name w h = tt

-- the next of signals whose names differ is new
next_new : (table after rest whole : List Signal) (s : Signal) (new : Bool) → Distinct (signal_names whole) → table ++ s ∷ rest ≡ whole
    → new ≡ not (has_name (signal_names table) s.name) → after ≡ table ++ (if new then s ∷ [] else []) → after ++ rest ≡ whole
next_new table after rest whole s new distinct made n a =
    let apart : Distinct (signal_names table ++ s.name ∷ signal_names rest) = subst Distinct (ap signal_names (sym made) ∙ map-append (λ (x : Signal). x.name) table (s ∷ rest)) distinct in
    ap (λ ys. ys ++ rest) (a ∙ ap (λ b. table ++ (if b then s ∷ [] else [])) (n ∙ ap not (not_before (signal_names table) s.name (signal_names rest) apart)))
    ∙ (append_assoc table (s ∷ []) rest ∙ made)

-- ports

port_slot_names : (ranged : List RangedName) (number : ℕ) (names : List Name) → signal_names (port_slots ranged number names) ≡ names
port_slot_names ranged number [] = refl
port_slot_names ranged number (x ∷ xs) = ap (λ rest. x ∷ rest) (port_slot_names ranged (number + 1) xs)

pub next_port : (ranged : List RangedName) (start table after : List Signal) (listed : List (Bor Name)) (i : ℕ) (d : Bor Name) (range : Option Bounds) (new : Bool) → i < length listed → Distinct (signal_names start ++ names_of listed)
    → table ++ port_slots ranged i (names_of (drop i listed)) ≡ start ++ port_slots ranged 0 (names_of listed)
    → range ≡ range_named ranged (get_or listed i d).now → new ≡ not (has_name (signal_names table) (get_or listed i d).now)
    → after ≡ table ++ (if new then record { name = (get_or listed i d).now; slot = record { range = range; place = AtPort i } } ∷ [] else [])
    → after ++ port_slots ranged (i + 1) (names_of (drop (i + 1) listed)) ≡ start ++ port_slots ranged 0 (names_of listed)
next_port ranged start table after listed i d range new h distinct made r n a =
    let name = (get_or listed i d).now in
    let rest = names_of (drop (i + 1) listed) in
    let whole = start ++ port_slots ranged 0 (names_of listed) in
    let names : signal_names whole ≡ signal_names start ++ names_of listed =
    map-append (λ (s : Signal). s.name) start (port_slots ranged 0 (names_of listed)) ∙ ap (λ those. signal_names start ++ those) (port_slot_names ranged 0 (names_of listed)) in
    next_new table after (port_slots ranged (i + 1) rest) whole (record { name = name; slot = record { range = range; place = AtPort i } }) new (subst Distinct (sym names) distinct)
    (ap (λ those. table ++ record { name = name; slot = record { range = those; place = AtPort i } } ∷ port_slots ranged (i + 1) rest) r
    ∙ (ap (λ those. table ++ port_slots ranged i (names_of those)) (sym (drop_more listed i d h)) ∙ made)) n a

-- nets without a declaration

pub next_single : (first : ℕ) (start table after : List Signal) (names : List (Bor Name)) (i : ℕ) (d : Bor Name) (new : Bool) → i < length names → Distinct (signal_names start ++ names_of names)
    → table ++ net_slots (first + i) (of_range None (names_of (drop i names))) ≡ start ++ net_slots first (of_range None (names_of names))
    → new ≡ not (has_name (signal_names table) (get_or names i d).now)
    → after ≡ table ++ (if new then record { name = (get_or names i d).now; slot = record { range = None; place = AtNet (first + i) } } ∷ [] else [])
    → after ++ net_slots (first + (i + 1)) (of_range None (names_of (drop (i + 1) names))) ≡ start ++ net_slots first (of_range None (names_of names))
next_single first start table after names i d new h distinct made n a =
    let whole = start ++ net_slots first (of_range None (names_of names)) in
    let are : signal_names whole ≡ signal_names start ++ names_of names =
    map-append (λ (s : Signal). s.name) start (net_slots first (of_range None (names_of names)))
    ∙ ap (λ rest. signal_names start ++ rest) (net_slot_names first (of_range None (names_of names)) ∙ plain_of_range None (names_of names)) in
    let further : first + i + 1 ≡ first + (i + 1) = omega arith in
    ap (λ k. after ++ net_slots k (of_range None (names_of (drop (i + 1) names)))) (sym further)
    ∙ next_new table after (net_slots (first + i + 1) (of_range None (names_of (drop (i + 1) names)))) whole
    (record { name = (get_or names i d).now; slot = record { range = None; place = AtNet (first + i) } }) new
    (subst Distinct (sym are) distinct) (ap (λ rest. table ++ net_slots (first + i) (of_range None (names_of rest))) (sym (drop_more names i d h)) ∙ made) n a

-- declared nets

abbrev net_signal : ℕ → RangedName → Signal
net_signal first one = record { name = one.name; slot = record { range = one.range; place = AtNet first } }

abbrev net_by : Bool → Numbered → RangedName → Numbered
net_by there numbered one = if there then numbered else (numbered.0 ++ net_signal numbered.1 one ∷ [], numbered.1 + width_of one.range)

net_is : (numbered : Numbered) (one : RangedName) → net_added numbered one ≡ net_by (has_name (signal_names numbered.0) one.name) numbered one
unfolding net_added
net_is numbered one = refl

pub net_new : (table after : List Signal) (first bits : ℕ) (one : RangedName) (new : Bool) → new ≡ not (has_name (signal_names table) one.name) → after ≡ table ++ (if new then net_signal first one ∷ [] else [])
    → new ≡ true → bits ≡ width_of one.range → (after, first + bits) ≡ net_added (table, first) one
net_new table after first bits one new n a t w =
    let gone : has_name (signal_names table) one.name ≡ false = not-true (has_name (signal_names table) one.name) (sym n ∙ t) in
    (λ j. ((a ∙ ap (λ b. table ++ (if b then net_signal first one ∷ [] else [])) t) j, first + w j))
    ∙ sym (net_is (table, first) one ∙ ap (λ b. net_by b (table, first) one) gone)

pub net_there : (table after : List Signal) (first : ℕ) (one : RangedName) (new : Bool) → new ≡ not (has_name (signal_names table) one.name) → after ≡ table ++ (if new then net_signal first one ∷ [] else [])
    → new ≡ false → (after, first) ≡ net_added (table, first) one
net_there table after first one new n a f =
    let there : has_name (signal_names table) one.name ≡ true = not-false (has_name (signal_names table) one.name) (sym n ∙ f) in
    (λ j. ((a ∙ (ap (λ b. table ++ (if b then net_signal first one ∷ [] else [])) f ∙ append-nil table)) j, first))
    ∙ sym (net_is (table, first) one ∙ ap (λ b. net_by b (table, first) one) there)
  where
    not-false : (b : Bool) → not b ≡ false → b ≡ true
    not-false true h = refl
    not-false false h = sym h

nets_both : (numbered : Numbered) (xs ys : List RangedName) → nets_added numbered (xs ++ ys) ≡ nets_added (nets_added numbered xs) ys
nets_both numbered [] ys = refl
nets_both numbered (x ∷ xs) ys = nets_both (net_added numbered x) xs ys

items_are : (numbered : Numbered) (items : List ItemV) → items_added numbered items ≡ nets_added numbered (flat_map item_nets items)
items_are numbered [] = refl
items_are numbered (item ∷ items) = items_are (nets_added numbered (item_nets item)) items ∙ sym (nets_both numbered (item_nets item) (flat_map item_nets items))

item_is : (item : ItemV) → item_nets item ≡ flat_map ranged_nets (net_decl item)
item_is (Net decl) = sym (append-nil (ranged_nets decl))
item_is (Port decl) = refl
item_is (Param decl) = refl
item_is (Assign statement) = refl
item_is (InstancesItem statement) = refl
item_is (Defparam statement) = refl

item_nets_are : (items : List ItemV) → flat_map item_nets items ≡ flat_map ranged_nets (flat_map net_decl items)
item_nets_are [] = refl
item_nets_are (item ∷ items) = (λ j. item_is item j ++ item_nets_are items j) ∙ sym (flat_map-append ranged_nets (net_decl item) (flat_map net_decl items))

-- those whose names are none of these
abbrev others : List Name → List RangedName → List RangedName
others names = filter (λ one. not (has_name names one.name))

-- a name that is none of theirs leaves out none of them
more_others : (names : List Name) (name : Name) (nets : List RangedName) → has_name (plain_names nets) name ≡ false → others (names ++ name ∷ []) nets ≡ others names nets
more_others names name [] h = refl
more_others names name (x ∷ xs) h =
    let parts = or_parts (bytes_eq name x.name) (has_name (plain_names xs) name) h in
    let same : has_name (names ++ name ∷ []) x.name ≡ has_name names x.name =
    has_append names (name ∷ []) x.name ∙ (ap (λ b. has_name names x.name || (b || false)) (other_way name x.name parts.0) ∙ or_none (has_name names x.name)) in
    (λ j. cond (not (same j)) (x ∷ more_others names name xs parts.1 j) (more_others names name xs parts.1 j))
  where
    or_none : (b : Bool) → (b || false) ≡ b
    or_none true = refl
    or_none false = refl

-- the nets are added to the table as these
abbrev AreAdded : List RangedName → List Signal → ℕ → List RangedName → Type 0
AreAdded nets table first those = nets_added (table, first) nets ≡ (table ++ net_slots first those, number_behind first those)

-- of nets whose names differ those are added whose names the table did not have
nets_are : (table : List Signal) (first : ℕ) (nets : List RangedName) → Distinct (plain_names nets) → AreAdded nets table first (others (signal_names table) nets)
nets_are table first [] h = λ j. (sym (append-nil table) j, first)
nets_are table first (x ∷ xs) h =
    ap (λ numbered. nets_added numbered xs) (net_is (table, first) x)
    ∙ by (has_name (signal_names table) x.name) (nets_are table first xs h.1) (nets_are (table ++ net_signal first x ∷ []) (first + width_of x.range) xs h.1)
  where
    by : (b : Bool) → AreAdded xs table first (others (signal_names table) xs)
        → AreAdded xs (table ++ net_signal first x ∷ []) (first + width_of x.range) (others (signal_names (table ++ net_signal first x ∷ [])) xs)
        → nets_added (net_by b (table, first) x) xs
        ≡ (table ++ net_slots first (cond (not b) (x ∷ others (signal_names table) xs) (others (signal_names table) xs)), number_behind first (cond (not b) (x ∷ others (signal_names table) xs) (others (signal_names table) xs)))
    by true there new = there
    by false there new =
        let more : others (signal_names (table ++ net_signal first x ∷ [])) xs ≡ others (signal_names table) xs =
        ap (λ those. others those xs) (map-append (λ (s : Signal). s.name) table (net_signal first x ∷ [])) ∙ more_others (signal_names table) x.name xs h.0 in
        let next = first + width_of x.range in
        new
        ∙ (λ j. (
          (ap (λ those. (table ++ net_signal first x ∷ []) ++ net_slots next those) more ∙ append_assoc table (net_signal first x ∷ []) (net_slots next (others (signal_names table) xs))) j,
          number_behind next (more j),
        ))

-- the table and the number when all items were added behind the ports
pub record IsDeclared (m : Module) (table : List Signal) (next : ℕ) : Type 0 where
  pub table_is : table ≡ declared_signals m
  pub next_is : next ≡ number_behind 0 (declared_nets m)

pub declared_are : (m : Module) (ports table : List Signal) (next : ℕ) (items : List ItemV) → declared_twice m ≡ [] → ports ≡ port_signals m 0 (port_names m) → items ≡ m.items
    → (table, next) ≡ items_added (ports, 0) items → IsDeclared m table next
unfolding net_decls
declared_are m ports table next items once p i h =
    let nets = flat_map ranged_nets (flat_map net_decl m.items) in
    let names : signal_names ports ≡ port_names m = ap signal_names p ∙ port_signal_names m 0 (port_names m) in
    let distinct : Distinct (plain_names nets) = subst Distinct (sym (plain_decls (flat_map net_decl m.items))) (nets_distinct m once) in
    let made : (table, next) ≡ (ports ++ net_slots 0 (others (port_names m) nets), number_behind 0 (others (port_names m) nets)) =
    h
    ∙ (ap (items_added (ports, 0)) i
    ∙ (items_are (ports, 0) m.items
    ∙ (ap (nets_added (ports, 0)) (item_nets_are m.items)
    ∙ (nets_are ports 0 nets distinct
    ∙ ap (λ those. (ports ++ net_slots 0 (others those nets), number_behind 0 (others those nets))) names)))) in
    record {
      table_is = ap (λ numbered. numbered.0) made ∙ ap (λ those. those ++ net_slots 0 (others (port_names m) nets)) p;
      next_is = ap (λ numbered. numbered.1) made;
    }

-- behind the declared ones stand the nets without a declaration

pub implicit_distinct : (m : Module) (table : List Signal) (names : List Name) → declared_twice m ≡ [] → table ≡ declared_signals m → names ≡ implicit_names m → Distinct (signal_names table ++ names)
implicit_distinct m table names once t n =
    let behind = net_slots (number_behind 0 (declared_nets m)) (of_range None (implicit_names m)) in
    let are : signal_names (signals m) ≡ signal_names (declared_signals m) ++ implicit_names m =
    ap signal_names (signals_are m)
    ∙ (map-append (λ (s : Signal). s.name) (declared_signals m) behind
    ∙ ap (λ rest. signal_names (declared_signals m) ++ rest) (net_slot_names (number_behind 0 (declared_nets m)) (of_range None (implicit_names m)) ∙ plain_of_range None (implicit_names m))) in
    subst Distinct (are ∙ (λ j. signal_names (sym t j) ++ sym n j)) (names_distinct m once)

pub implicit_added : (m : Module) (table after : List Signal) (first : ℕ) (names : List Name) → table ≡ declared_signals m → first ≡ number_behind 0 (declared_nets m) → names ≡ implicit_names m
    → after ≡ table ++ net_slots first (of_range None names) → after ≡ signals m
implicit_added m table after first names t f n a = a ∙ ((λ j. t j ++ net_slots (f j) (of_range None (n j))) ∙ sym (signals_are m))
