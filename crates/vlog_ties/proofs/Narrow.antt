-- The left side of an assignment is narrow: it holds few names, each of which is a port or net of at most 2^32 bits.
use Rattle.std.proofs.Common.{◌≡◌, ℕ, ℤ, ◌+◌, ◌*◌, ◌≤◌, ◌<◌, ◌-◌, ◌-ℤ◌, nat_abs, nat_le, All, Bool, true, false, cond, List, [], ◌∷◌, Option, None, Some, find, filter, flat_map, map, not, sum_by, refl, subst, sym, arith, if◌then◌else◌}
use Rattle.std.specs.Prelude.{IfSome}
use Rattle.std.specs.List.{AllByRecursion, list_all}
use Rattle.std.specs.Option.{option_and_then}
use Rattle.std.proofs.lemmas.Bool.{and_parts}
use Rattle.std.proofs.lemmas.Int.{ints}
use Rattle.std.proofs.lemmas.List.Elements.{All-from_recursion}
use Rattle.std.proofs.lemmas.List.Sums.{sum-map, sum_by-cons}
use Rattle.nl_base.specs.Ranges.{Bounds}
use Rattle.net_hier.specs.Cells.{width_of}
use Rattle.vlog_design.specs.Exprs.{span_count, span_of, width}
use Rattle.vlog_design.specs.Names.{Name, Signal, Wire, decl_wires, has_name, header_decls, implicit_names, net_decl, net_decls, net_signals, port_decl, port_decls, port_names, port_range, port_signals, signal_named, signals, wires}
use Rattle.vlog_design.specs.Ranges.{position_of, selected, span_between}
use Rattle.vlog_design.specs.declared.signals.Slot.{Slot}
use Rattle.vlog_design.proofs.ExprLemmas.{width-Cat, width-Ref}
use Rattle.vlog_design.proofs.Parts.{all_found}
use Rattle.vlog_design.proofs.Positions.{position_within}
use Rattle.vlog_values.specs.Sizes.{expr_size, list_size}
use Rattle.vlog_values.specs.Values.{IsHeader, IsItem, IsModule, IsNetDecl, IsPortDecl, IsRange, is_left}
use Rattle.vlog_values.proofs.Sizes.{size-Cat}
use Rattle.vlog_values.proofs.Values.{left-Cat, left-Lit, left-Loose, left-LooseNumber, left-Rep}
use Rattle.vlog_values.specs.declared.declaration.NetDecl.{NetDecl}
use Rattle.vlog_values.specs.declared.declaration.PortDecl.{PortDecl}
use Rattle.vlog_values.specs.declared.expression.Expr.{Expr}
use Rattle.vlog_values.specs.declared.expression.Expr.TheFolds.{ind-Expr, map-Expr}
use Rattle.vlog_values.specs.declared.expression.Expr.TheOpen.{Expr-F}
use Rattle.vlog_values.specs.declared.expression.Expr.TheVariants.{rolls-Ref, rolls-Lit, rolls-LooseNumber, rolls-Loose, rolls-Cat, rolls-Rep}
use Rattle.vlog_values.specs.declared.expression.Expr.TheViews.{roll-Expr}
use Rattle.vlog_values.specs.declared.expression.Select.{Select}
use Rattle.vlog_values.specs.declared.expression.Select.TheVariants as selects
use Rattle.vlog_values.specs.declared.module.Header.{Header}
use Rattle.vlog_values.specs.declared.module.Header.TheVariants as headers
use Rattle.vlog_values.specs.declared.module.ItemV.{ItemV}
use Rattle.vlog_values.specs.declared.module.ItemV.TheVariants as items
use Rattle.vlog_values.specs.declared.module.Module.{Module}
use Rattle.vlog_ties.specs.Ties.{HasNarrowLeft, Tied, Pin, Assign, Supply, all_tied, tied}
use Rattle.vlog_ties.specs.declared.tie.Tie.{Tie}
use Rattle.vlog_ties.proofs.Spelled.{every_append, every_part}
use Rattle.vlog_ties.proofs.Valid.{IsTied}

-- ranges

range_narrow : (left right : ℤ) → nat_abs left < 2147483648 → nat_abs right < 2147483648 → nat_abs (left -ℤ right) + 1 ≤ 4294967296
range_narrow left right h k = omega (arith, ints)

abbrev IsNarrow : Option Bounds → Type 0
IsNarrow range = width_of range ≤ 4294967296

narrow : (range : Option Bounds) → IfSome range IsRange → IsNarrow range
narrow None h = omega arith
narrow (Some r) h = range_narrow r.left r.right h.left h.right

-- ports

port_decl_is : (item : ItemV) → IsItem item → AllByRecursion IsPortDecl (port_decl item)
port_decl_is (items.Port d) good = (good, tt)
port_decl_is (items.Net d) good = tt
port_decl_is (items.Param d) good = tt
port_decl_is (items.Assign s) good = tt
port_decl_is (items.Instances s) good = tt
port_decl_is (items.Defparam s) good = tt

header_decls_are : (header : Header) → IsHeader header → AllByRecursion IsPortDecl (header_decls header)
header_decls_are (headers.Names ns) good = tt
header_decls_are (headers.Decls ds) good = good.all

port_decls_are : (m : Module) → IsModule m → AllByRecursion IsPortDecl (port_decls m)
unfolding port_decls
port_decls_are m good = every_append IsPortDecl (header_decls m.header) (flat_map port_decl m.items) (header_decls_are m.header good.header) (every_part IsItem IsPortDecl port_decl port_decl_is m.items good.items)

found_narrow : (p : PortDecl → Bool) (ds : List PortDecl) → AllByRecursion IsPortDecl ds → IsNarrow (option_and_then (λ (d : PortDecl). d.range) (find p ds))
found_narrow p [] good = omega arith
found_narrow p (d ∷ ds) good = by (p d) (found_narrow p ds good.1)
  where
    by : (b : Bool) → IsNarrow (option_and_then (λ (x : PortDecl). x.range) (find p ds)) → IsNarrow (option_and_then (λ (x : PortDecl). x.range) (cond b (Some d) (find p ds)))
    by true h = narrow d.range good.0.range
    by false h = h

port_narrow : (m : Module) (name : Name) → IsModule m → IsNarrow (port_range m name)
unfolding port_range
port_narrow m name good = found_narrow (λ decl. has_name decl.names name) (port_decls m) (port_decls_are m good)

abbrev IsNarrowSignal : Signal → Type 0
IsNarrowSignal signal = width_of signal.slot.range ≤ 4294967296

ports_narrow : (m : Module) (number : ℕ) (names : List Name) → IsModule m → AllByRecursion IsNarrowSignal (port_signals m number names)
ports_narrow m number [] good = tt
ports_narrow m number (name ∷ names) good = (port_narrow m name good, ports_narrow m (number + 1) names good)

-- nets

abbrev IsNarrowWire : Wire → Type 0
IsNarrowWire wire = width_of wire.range ≤ 4294967296

decl_narrow : (m : Module) (decl : NetDecl) → IsNetDecl decl → AllByRecursion IsNarrowWire (decl_wires m decl)
decl_narrow m decl good = each (filter (λ name. not (has_name (port_names m) name)) decl.names)
  where
    each : (names : List Name) → AllByRecursion IsNarrowWire (map (λ name. record { name = name; range = decl.range; attrs = decl.attrs }) names)
    each [] = tt
    each (name ∷ names) = (narrow decl.range good.range, each names)

net_decl_is : (item : ItemV) → IsItem item → AllByRecursion IsNetDecl (net_decl item)
net_decl_is (items.Port d) good = tt
net_decl_is (items.Net d) good = (good, tt)
net_decl_is (items.Param d) good = tt
net_decl_is (items.Assign s) good = tt
net_decl_is (items.Instances s) good = tt
net_decl_is (items.Defparam s) good = tt

implicit_narrow : (names : List Name) → AllByRecursion IsNarrowWire (map (λ name. record { name = name; range = None; attrs = [] }) names)
implicit_narrow [] = tt
implicit_narrow (name ∷ names) = (omega arith, implicit_narrow names)

wires_narrow : (m : Module) → IsModule m → AllByRecursion IsNarrowWire (wires m)
unfolding wires net_decls
wires_narrow m good = every_append IsNarrowWire (flat_map (decl_wires m) (net_decls m)) (map (λ name. record { name = name; range = None; attrs = [] }) (implicit_names m))
    (every_part IsNetDecl IsNarrowWire (decl_wires m) (decl_narrow m) (net_decls m) (every_part IsItem IsNetDecl net_decl net_decl_is m.items good.items)) (implicit_narrow (implicit_names m))

nets_narrow : (first : ℕ) (ws : List Wire) → AllByRecursion IsNarrowWire ws → AllByRecursion IsNarrowSignal (net_signals first ws)
nets_narrow first [] h = tt
nets_narrow first (w ∷ ws) h = (h.0, nets_narrow (first + width_of w.range) ws h.1)

signals_narrow_by_recursion : (m : Module) → IsModule m → AllByRecursion IsNarrowSignal (signals m)
unfolding signals
signals_narrow_by_recursion m good = every_append IsNarrowSignal (port_signals m 0 (port_names m)) (net_signals 0 (wires m)) (ports_narrow m 0 (port_names m) good) (nets_narrow 0 (wires m) (wires_narrow m good))

-- ports and nets have at most 2^32 bits
pub signals_narrow : (m : Module) → IsModule m → All (λ (signal : Signal). width_of signal.slot.range ≤ 4294967296) (signals m)
signals_narrow m good = All-from_recursion IsNarrowSignal (signals m) (signals_narrow_by_recursion m good)

-- selects

between_narrow : (limit : ℕ) (p q : Option ℕ) → ((n : ℕ) → q ≡ Some n → n < limit) → span_count (span_between p q) ≤ limit
between_narrow limit None q h = omega arith
between_narrow limit (Some p) None h = omega arith
between_narrow limit (Some p) (Some q) h = by (nat_le p q) (h q refl)
  where
    by : (b : Bool) → q < limit → span_count (if b then Some (record { first = p; count = q - p + 1 }) else None) ≤ limit
    by true lt = omega (arith, lt)
    by false lt = omega arith

-- a select means no more bits than there are
pub selected_narrow : (range : Option Bounds) (select : Select) → span_count (selected range select) ≤ width_of range
unfolding selected
selected_narrow range selects.All = omega arith
selected_narrow None (selects.One index) = omega arith
selected_narrow None (selects.Slice from to) = omega arith
selected_narrow (Some range) (selects.One index) = between_narrow (width_of (Some range)) (position_of range index) (position_of range index) (position_within range index)
selected_narrow (Some range) (selects.Slice from to) = between_narrow (width_of (Some range)) (position_of range from) (position_of range to) (position_within range to)

-- expressions

module _ (names : List Signal) (all : All (λ (signal : Signal). width_of signal.slot.range ≤ 4294967296) names) where
  use_narrow : (name : Name) (select : Select) (o : Option Slot) → signal_named names name ≡ o → span_count (span_of o select) ≤ 4294967296
  use_narrow name select None e = omega arith
  use_narrow name select (Some slot) e = omega (arith, selected_narrow slot.range select, all_found (λ s. width_of s.range ≤ 4294967296) names name slot all e)

  abbrev IsNarrowLeft : Expr → Type 0
  IsNarrowLeft e = is_left e ≡ true → width names e ≤ 4294967296 * (1 + expr_size e)

  parts_narrow : (parts : List ((e : Expr) × IsNarrowLeft e)) → list_all (λ l. l) (map is_left (map (λ p. p.0) parts)) ≡ true →
      sum_by (width names) (map (λ p. p.0) parts) ≤ 4294967296 * list_size expr_size (map (λ p. p.0) parts)
  parts_narrow [] h = omega arith
  parts_narrow (p ∷ parts) h =
      let es = map (λ q. q.0) parts in
      let both = and_parts (is_left p.0) (list_all (λ l. l) (map is_left es)) h in
      omega (arith, sum_by-cons (width names) p.0 es, sum_by-cons expr_size p.0 es, p.1 both.0, parts_narrow parts both.1)

  is_narrow : (y : Expr-F ((e : Expr) × IsNarrowLeft e)) → IsNarrowLeft (roll-Expr (map-Expr ((e : Expr) × IsNarrowLeft e) Expr (λ e. e.0) y))
  is_narrow (Expr-F.Ref select name) = rw (rolls-Ref, width-Ref) (λ h. omega (arith, use_narrow name select (signal_named names name) refl))
  is_narrow (Expr-F.Lit literal) = rw (rolls-Lit, left-Lit) (λ h. absurd cc)
  is_narrow (Expr-F.LooseNumber number) = rw (rolls-LooseNumber, left-LooseNumber) (λ h. absurd cc)
  is_narrow (Expr-F.Loose based) = rw (rolls-Loose, left-Loose) (λ h. absurd cc)
  is_narrow (Expr-F.Cat parts) = rw (rolls-Cat, left-Cat, width-Cat, size-Cat) (λ h. omega (arith, parts_narrow parts h, sum-map (width names) (map (λ p. p.0) parts)))
  is_narrow (Expr-F.Rep count parts) = rw (rolls-Rep, left-Rep) (λ h. absurd cc)

  left_narrow : (e : Expr) → IsNarrowLeft e
  left_narrow = ind-Expr IsNarrowLeft (λ x y is. subst (λ z. IsNarrowLeft (roll-Expr z)) is (is_narrow y))

  tied_narrow : (t : Tied) → IsTied t → HasNarrowLeft names t
  tied_narrow (Pin instance number port port_number size value) good = tt
  tied_narrow (Assign left right) good = omega (arith, left_narrow left good.assignable, good.small)
  tied_narrow (Supply name constant) good = tt

every_of_map : {A B : Type 0} (P : B → Type 0) (f : A → B) (xs : List A) → AllByRecursion P (map f xs) → AllByRecursion (λ x. P (f x)) xs
every_of_map P f [] h = tt
every_of_map P f (x ∷ xs) h = (h.0, every_of_map P f xs h.1)

every_weaker : {A : Type 0} (P Q : A → Type 0) → ((x : A) → P x → Q x) → (xs : List A) → AllByRecursion P xs → AllByRecursion Q xs
every_weaker P Q f [] h = tt
every_weaker P Q f (x ∷ xs) h = (f x h.0, every_weaker P Q f xs h.1)

-- the left sides in ties of a module
pub ties_narrow : (m : Module) (table : List Signal) (ties : List Tie) (ts : List Tied) → table ≡ signals m → all_tied ties ≡ ts → IsModule m → AllByRecursion IsTied ts → All (λ tie. HasNarrowLeft table (tied tie)) ties
ties_narrow m table ties ts e f good valid =
    let all = every_weaker IsTied (HasNarrowLeft (signals m)) (tied_narrow (signals m) (signals_narrow m good)) (all_tied ties) (subst (AllByRecursion IsTied) (sym f) valid) in
    subst (λ names. All (λ tie. HasNarrowLeft names (tied tie)) ties) (sym e) (All-from_recursion (λ tie. HasNarrowLeft (signals m) (tied tie)) ties (every_of_map (HasNarrowLeft (signals m)) tied ties all))
