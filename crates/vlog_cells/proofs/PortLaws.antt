-- The ports of a module by what is said of them.
use Rattle.std.proofs.Common.{◌≡◌, ℕ, ◌+◌, ◌≤◌, Bool, true, false, ◌||◌, cond, List, [], ◌∷◌, ◌++◌, None, Some, bytes_eq, filter, find, flat_map, length, map, option_map, refl, sym, ap, ◌∙◌, append-nil, append_assoc, arith, if◌then◌else◌}
use Rattle.std.specs.Option.{option_and_then, option_map_or}
use Rattle.std.proofs.lemmas.Bool.{false≢true}
use Rattle.std.proofs.lemmas.Grind.{flat_map-append}
use Rattle.std.proofs.lemmas.Slice.Eq.{bytes_eq-Decides}
use Rattle.nl_base.specs.declared.value.Dir.{Dir}
use Rattle.nl_base.specs.declared.value.Dir.TheVariants.{Inout}
use Rattle.vlog_design.specs.Design.{attr_props, attrs_if, attrs_in_header, attrs_in_item, module_ports, port_attrs, port_dir}
use Rattle.vlog_design.specs.Names.{Name, Signal, declared_in_header, declared_in_item, declared_port, has_name, header_decls, net_signals, port_decl, port_decls, port_names, port_range, port_signals, signal_named, signals, wires}
use Rattle.vlog_design.specs.Rules.{declared_twice}
use Rattle.vlog_design.specs.declared.signals.Kind.TheVariants.{Direction, NetDeclaration}
use Rattle.vlog_design.specs.declared.signals.SignalAt.TheVariants.{AtPort}
use Rattle.vlog_values.specs.declared.expression.Attr.{Attr}
use Rattle.vlog_values.specs.declared.declaration.PortDecl.{PortDecl}
use Rattle.vlog_values.specs.declared.module.Header.{Header}
use Rattle.vlog_values.specs.declared.module.Header.TheVariants as headers
use Rattle.vlog_values.specs.declared.module.ItemV.{ItemV}
use Rattle.vlog_values.specs.declared.module.ItemV.TheVariants as items
use Rattle.vlog_values.specs.declared.module.Module.{Module}
use Rattle.vlog_cells.specs.Nets.{names_port}
use Rattle.vlog_cells.specs.Ports.{Said, attrs_said, dir_said, port_by, port_said, range_in, said_in_header, said_in_item, said_in_module, said_in_names, said_of}
use Rattle.vlog_cells.specs.declared.mentions.Mention.{Mention}
use Rattle.vlog_cells.proofs.NetLaws.{port_is}
use Rattle.vlog_cells.proofs.OnceLaws.{count_both, count_declared, count_name, count_of, count_ports, direction_single, net_single, once, or_right}

-- attributes

none_said : (what : Said) (key : Name) (names : List Name) → count_name key names ≤ 0 → said_in_names what names key ≡ []
none_said what key [] few = refl
none_said what key (n ∷ ns) few = by (bytes_eq key n) (none_said what key ns) few
  where
    by : (b : Bool) → (count_name key ns ≤ 0 → said_in_names what ns key ≡ []) → length (cond b (n ∷ filter (bytes_eq key) ns) (filter (bytes_eq key) ns)) ≤ 0 → (if b then what ∷ [] else []) ++ said_in_names what ns key ≡ []
    by true next few = absurd (omega (arith, few))
    by false next few = next few

names_attrs : (what : Said) (key : Name) (names : List Name) → count_name key names ≤ 1 → attrs_said (said_in_names what names key) ≡ attrs_if (has_name names key) what.attrs
names_attrs what key [] few = refl
names_attrs what key (n ∷ ns) few = by (bytes_eq key n) (names_attrs what key ns) few
  where
    by : (b : Bool) → (count_name key ns ≤ 1 → attrs_said (said_in_names what ns key) ≡ attrs_if (has_name ns key) what.attrs) → length (cond b (n ∷ filter (bytes_eq key) ns) (filter (bytes_eq key) ns)) ≤ 1 →
        attrs_said ((if b then what ∷ [] else []) ++ said_in_names what ns key) ≡ attrs_if (b || has_name ns key) what.attrs
    by true next few = ap (λ l. attrs_said (what ∷ l)) (none_said what key ns (omega (arith, few))) ∙ append-nil what.attrs
    by false next few = next few

-- what is said of the ports alone
said_all : (table : List Signal) (what : Said) (key : Name) (names : List Name) → names_port table key ≡ true → said_in_names what (filter (names_port table) names) key ≡ said_in_names what names key
said_all table what key [] port = refl
said_all table what key (n ∷ ns) port = by (said_all table what key ns port) (names_port table n) refl (bytes_eq key n) refl
  where
    by : said_in_names what (filter (names_port table) ns) key ≡ said_in_names what ns key → (p : Bool) → names_port table n ≡ p → (b : Bool) → bytes_eq key n ≡ b →
        said_in_names what (cond p (n ∷ filter (names_port table) ns) (filter (names_port table) ns)) key ≡ (if bytes_eq key n then what ∷ [] else []) ++ said_in_names what ns key
    by next true is b e = ap (λ l. (if bytes_eq key n then what ∷ [] else []) ++ l) next
    by next false is true e = absurd (false≢true (sym is ∙ (ap (names_port table) (sym ((bytes_eq-Decides key n).0 e)) ∙ port)))
    by next false is false e = next ∙ ap (λ b. (if b then what ∷ [] else []) ++ said_in_names what ns key) (sym e)

item_attrs : (table : List Signal) (key : Name) (item : ItemV) → names_port table key ≡ true → count_of Direction key (declared_in_item item) ≤ 1 → count_of NetDeclaration key (declared_in_item item) ≤ 1 → attrs_said (said_in_item table key item) ≡ attrs_in_item key item
item_attrs table key (items.Port decl) port one net = names_attrs _ key decl.names (omega (arith, one, count_declared Direction key direction_single decl.names))
item_attrs table key (items.Net decl) port one net = ap attrs_said (said_all table _ key decl.names port) ∙ names_attrs _ key decl.names (omega (arith, net, count_declared NetDeclaration key net_single decl.names))
item_attrs table key (items.Param decl) port one net = refl
item_attrs table key (items.Assign statement) port one net = refl
item_attrs table key (items.Instances statement) port one net = refl
item_attrs table key (items.Defparam statement) port one net = refl

items_attrs : (table : List Signal) (key : Name) (is : List ItemV) → names_port table key ≡ true → count_of Direction key (flat_map declared_in_item is) ≤ 1 → count_of NetDeclaration key (flat_map declared_in_item is) ≤ 1 → attrs_said (flat_map (said_in_item table key) is) ≡ flat_map (attrs_in_item key) is
items_attrs table key [] port one net = refl
items_attrs table key (item ∷ is) port one net =
    let d = count_both Direction key (declared_in_item item) (flat_map declared_in_item is) in
    let n = count_both NetDeclaration key (declared_in_item item) (flat_map declared_in_item is) in
    flat_map-append (λ one. one.attrs) (said_in_item table key item) (flat_map (said_in_item table key) is)
    ∙ (λ j. item_attrs table key item port (omega (arith, one, d)) (omega (arith, net, n)) j ++ items_attrs table key is port (omega (arith, one, d)) (omega (arith, net, n)) j)

decls_attrs : (key : Name) (decls : List PortDecl) → count_of Direction key (flat_map (λ decl. flat_map declared_port decl.names) decls) ≤ 1 → attrs_said (flat_map (port_said key) decls) ≡ flat_map (λ decl. attrs_if (has_name decl.names key) decl.attrs) decls
decls_attrs key [] one = refl
decls_attrs key (decl ∷ decls) one =
    let d = count_both Direction key (flat_map declared_port decl.names) (flat_map (λ decl. flat_map declared_port decl.names) decls) in
    flat_map-append (λ one. one.attrs) (port_said key decl) (flat_map (port_said key) decls)
    ∙ (λ j. names_attrs (record { dir = Some decl.dir; attrs = decl.attrs }) key decl.names (omega (arith, one, d, count_ports key decl.names)) j ++ decls_attrs key decls (omega (arith, one, d)) j)

header_attrs : (key : Name) (header : Header) → count_of Direction key (declared_in_header header) ≤ 1 → attrs_said (said_in_header key header) ≡ attrs_in_header key header
header_attrs key (headers.Names names) one = refl
header_attrs key (headers.Decls decls) one = decls_attrs key decls one

attrs_are : (m : Module) (table : List Signal) (key : Name) → names_port table key ≡ true → declared_twice m ≡ [] → attrs_said (said_in_module table key m) ≡ port_attrs m key
unfolding port_attrs
attrs_are m table key port h =
    let d = once m Direction key direction_single h in
    let n = once m NetDeclaration key net_single h in
    flat_map-append (λ one. one.attrs) (said_in_header key m.header) (flat_map (said_in_item table key) m.items)
    ∙ (λ j. header_attrs key m.header (omega (arith, d)) j ++ items_attrs table key m.items port (omega (arith, d)) (omega (arith, n)) j)

-- directions

abbrev found_dir : Name → List PortDecl → Dir
found_dir key decls = option_map_or (λ decl. decl.dir) (find (λ decl. has_name decl.names key) decls) Inout

names_dir : (dir : Dir) (attrs : List Attr) (key : Name) (names : List Name) (rest : List Said) → dir_said (said_in_names (record { dir = Some dir; attrs = attrs }) names key ++ rest) ≡ cond (has_name names key) dir (dir_said rest)
names_dir dir attrs key [] rest = refl
names_dir dir attrs key (n ∷ ns) rest = by (bytes_eq key n) (names_dir dir attrs key ns rest)
  where
    said_later : List Said
    said_later = said_in_names (record { dir = Some dir; attrs = attrs }) ns key

    by : (b : Bool) → dir_said (said_later ++ rest) ≡ cond (has_name ns key) dir (dir_said rest) → dir_said (((if b then record { dir = Some dir; attrs = attrs } ∷ [] else []) ++ said_later) ++ rest) ≡ cond (b || has_name ns key) dir (dir_said rest)
    by true h = refl
    by false h = h

nets_dir : (attrs : List Attr) (key : Name) (names : List Name) (rest : List Said) → dir_said (said_in_names (record { dir = None; attrs = attrs }) names key ++ rest) ≡ dir_said rest
nets_dir attrs key [] rest = refl
nets_dir attrs key (n ∷ ns) rest = by (bytes_eq key n) (nets_dir attrs key ns rest)
  where
    said_later : List Said
    said_later = said_in_names (record { dir = None; attrs = attrs }) ns key

    by : (b : Bool) → dir_said (said_later ++ rest) ≡ dir_said rest → dir_said (((if b then record { dir = None; attrs = attrs } ∷ [] else []) ++ said_later) ++ rest) ≡ dir_said rest
    by true h = h
    by false h = h

first_found : (key : Name) (decl : PortDecl) (decls : List PortDecl) → cond (has_name decl.names key) decl.dir (found_dir key decls) ≡ found_dir key (decl ∷ decls)
first_found key decl decls = by (has_name decl.names key)
  where
    by : (b : Bool) → cond b decl.dir (found_dir key decls) ≡ option_map_or (λ (decl : PortDecl). decl.dir) (cond b (Some decl) (find (λ (decl : PortDecl). has_name decl.names key) decls)) Inout
    by true = refl
    by false = refl

item_dir : (table : List Signal) (key : Name) (item : ItemV) (later : List Said) (decls : List PortDecl) → dir_said later ≡ found_dir key decls → dir_said (said_in_item table key item ++ later) ≡ found_dir key (port_decl item ++ decls)
item_dir table key (items.Port decl) later decls h = names_dir decl.dir decl.attrs key decl.names later ∙ (ap (cond (has_name decl.names key) decl.dir) h ∙ first_found key decl decls)
item_dir table key (items.Net decl) later decls h = nets_dir decl.attrs key (filter (names_port table) decl.names) later ∙ h
item_dir table key (items.Param decl) later decls h = h
item_dir table key (items.Assign statement) later decls h = h
item_dir table key (items.Instances statement) later decls h = h
item_dir table key (items.Defparam statement) later decls h = h

items_dir : (table : List Signal) (key : Name) (is : List ItemV) → dir_said (flat_map (said_in_item table key) is) ≡ found_dir key (flat_map port_decl is)
items_dir table key [] = refl
items_dir table key (item ∷ is) = item_dir table key item (flat_map (said_in_item table key) is) (flat_map port_decl is) (items_dir table key is)

decls_dir : (key : Name) (decls : List PortDecl) (later : List Said) (others : List PortDecl) → dir_said later ≡ found_dir key others → dir_said (flat_map (port_said key) decls ++ later) ≡ found_dir key (decls ++ others)
decls_dir key [] later others h = h
decls_dir key (decl ∷ decls) later others h =
    ap dir_said (append_assoc (port_said key decl) (flat_map (port_said key) decls) later)
    ∙ (names_dir decl.dir decl.attrs key decl.names (flat_map (port_said key) decls ++ later)
    ∙ (ap (cond (has_name decl.names key) decl.dir) (decls_dir key decls later others h) ∙ first_found key decl (decls ++ others)))

dir_is : (m : Module) (table : List Signal) (key : Name) → dir_said (said_in_module table key m) ≡ port_dir m key
unfolding port_dir port_decls
dir_is m table key = by m.header
  where
    by : (header : Header) → dir_said (said_in_header key header ++ flat_map (said_in_item table key) m.items) ≡ found_dir key (header_decls header ++ flat_map port_decl m.items)
    by (headers.Names names) = items_dir table key m.items
    by (headers.Decls decls) = decls_dir key decls (flat_map (said_in_item table key) m.items) (flat_map port_decl m.items) (items_dir table key m.items)

-- ranges

port_found : (m : Module) (key : Name) (number : ℕ) (names : List Name) (rest : List Signal) → has_name names key ≡ true → range_in (port_signals m number names ++ rest) key ≡ port_range m key
unfolding signal_named
port_found m key number [] rest h = absurd (false≢true h)
port_found m key number (x ∷ xs) rest h = by (bytes_eq key x) refl (port_found m key (number + 1) xs rest) h
  where
    later : List Signal
    later = port_signals m (number + 1) xs ++ rest

    by : (b : Bool) → bytes_eq key x ≡ b → (has_name xs key ≡ true → range_in later key ≡ port_range m key) → (b || has_name xs key) ≡ true →
        option_and_then (λ slot. slot.range) (option_map (λ (s : Signal). s.slot) (cond b (Some (record { name = x; slot = record { range = port_range m x; place = AtPort number } })) (find (λ (s : Signal). bytes_eq key s.name) later))) ≡ port_range m key
    by true e next h = ap (port_range m) (sym ((bytes_eq-Decides key x).0 e))
    by false e next h = next h

range_is : (m : Module) (key : Name) → has_name (port_names m) key ≡ true → range_in (signals m) key ≡ port_range m key
unfolding signals
range_is m key h = port_found m key 0 (port_names m) (net_signals 0 (wires m)) h

-- ports

map_here : {B : Type 0} (f g : Name → B) (all names : List Name) → ((x : Name) → has_name all x ≡ true → f x ≡ g x) → ((x : Name) → has_name names x ≡ true → has_name all x ≡ true) → map f names ≡ map g names
map_here f g all [] same within = refl
map_here f g all (n ∷ ns) same within =
    (λ j. same n (within n (ap (λ b. b || has_name ns n) ((bytes_eq-Decides n n).1 refl))) j ∷ map_here f g all ns same (λ x h. within x (or_right (bytes_eq x n) (has_name ns x) h)) j)

pub ports_are : (m : Module) (table : List Signal) (found : List (Name × List Mention)) → table ≡ signals m → declared_twice m ≡ [] → ((key : Name) → said_of found key ≡ said_in_module table key m) → map (port_by table found) (port_names m) ≡ module_ports m
unfolding module_ports
ports_are m table found whole twice known =
    map_here (port_by table found) _ (port_names m) (port_names m)
    (λ name here.
    let r : range_in table name ≡ port_range m name = ap (λ t. range_in t name) whole ∙ range_is m name here in
    let d : dir_said (said_of found name) ≡ port_dir m name = ap dir_said (known name) ∙ dir_is m table name in
    let a : attrs_said (said_of found name) ≡ port_attrs m name = ap attrs_said (known name) ∙ attrs_are m table name (ap (λ t. names_port t name) whole ∙ (port_is m name ∙ here)) twice in
    (λ j. record { name = name; range = r j; dir = d j; props = attr_props (a j) }))
    (λ x h. h)
