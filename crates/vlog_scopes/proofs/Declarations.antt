-- The names of one kind among the declarations of a module.
use Rattle.std.proofs.Common.{◌≡◌, Bool, true, false, ◌&&◌, ◌||◌, not, cond, List, [], ◌∷◌, ◌++◌, flat_map, map, bytes_eq, refl, sym, ap, subst, ◌∙◌, inl, inr, append-nil}
use Rattle.std.specs.List.{list_any}
use Rattle.std.proofs.lemmas.Bool.{and_from, or_cases, or_left, or_right, false≢true}
use Rattle.std.proofs.lemmas.List.Concat.{flat_map-append}
use Rattle.std.proofs.lemmas.Slice.Eq.{bytes_eq-Decides}
use Rattle.vlog_design.specs.Names.{Declaration, Name, clashing, declarations, declared_as, declared_in_header, declared_in_item, declared_params, declared_port, direction_names, has_name, header_decls, header_names, is_declared, net_decl, net_decls, net_names, port_decl, port_decls, port_names}
use Rattle.vlog_design.specs.Rules.{clash, declared_twice, is_signal, same_kind}
use Rattle.vlog_design.specs.declared.signals.Kind.{Kind}
use Rattle.vlog_design.specs.declared.signals.Kind.TheVariants.{InHeader, Direction, NetDeclaration, Instance, Parameter}
use Rattle.vlog_scopes.specs.Distinct.{Distinct}
use Rattle.vlog_scopes.proofs.DistinctLaws.{has_append, one_name, parts_differ}
use Rattle.vlog_values.specs.declared.declaration.ParamDecl.{ParamDecl}
use Rattle.vlog_values.specs.declared.declaration.PortDecl.{PortDecl}
use Rattle.vlog_values.specs.declared.module.Header.{Header}
use Rattle.vlog_values.specs.declared.module.Header.TheVariants.{Names, Decls}
use Rattle.vlog_values.specs.declared.module.ItemV.{ItemV}
use Rattle.vlog_values.specs.declared.module.ItemV.TheVariants.{Port, Net, Param, Assign, Instances as InstancesItem, Defparam}
use Rattle.vlog_values.specs.declared.module.Module.{Module}

-- the name of a declaration of this kind
abbrev kind_name : Kind → Declaration → List Name
kind_name kind d = cond (same_kind kind d.kind) (d.name ∷ []) []

abbrev kind_names : Kind → List Declaration → List Name
kind_names kind = flat_map (kind_name kind)

kind_is : (a b : Kind) → same_kind a b ≡ true → a ≡ b
kind_is InHeader InHeader h = refl
kind_is InHeader Direction h = absurd (false≢true h)
kind_is InHeader NetDeclaration h = absurd (false≢true h)
kind_is InHeader Instance h = absurd (false≢true h)
kind_is InHeader Parameter h = absurd (false≢true h)
kind_is Direction InHeader h = absurd (false≢true h)
kind_is Direction Direction h = refl
kind_is Direction NetDeclaration h = absurd (false≢true h)
kind_is Direction Instance h = absurd (false≢true h)
kind_is Direction Parameter h = absurd (false≢true h)
kind_is NetDeclaration InHeader h = absurd (false≢true h)
kind_is NetDeclaration Direction h = absurd (false≢true h)
kind_is NetDeclaration NetDeclaration h = refl
kind_is NetDeclaration Instance h = absurd (false≢true h)
kind_is NetDeclaration Parameter h = absurd (false≢true h)
kind_is Instance InHeader h = absurd (false≢true h)
kind_is Instance Direction h = absurd (false≢true h)
kind_is Instance NetDeclaration h = absurd (false≢true h)
kind_is Instance Instance h = refl
kind_is Instance Parameter h = absurd (false≢true h)
kind_is Parameter InHeader h = absurd (false≢true h)
kind_is Parameter Direction h = absurd (false≢true h)
kind_is Parameter NetDeclaration h = absurd (false≢true h)
kind_is Parameter Instance h = absurd (false≢true h)
kind_is Parameter Parameter h = refl

alone_kind : (kind : Kind) (d : Declaration) → Distinct (kind_name kind d)
alone_kind kind d = by (same_kind kind d.kind)
  where
    by : (b : Bool) → Distinct (cond b (d.name ∷ []) [])
    by true = (refl, tt)
    by false = tt

-- what a name of a kind tells of its declaration
record IsOfKind (kind : Kind) (d : Declaration) (name : Name) : Type 0 where
  pub kind_is : same_kind kind d.kind ≡ true
  pub name_is : name ≡ d.name

of_kind : (kind : Kind) (d : Declaration) (name : Name) → has_name (kind_name kind d) name ≡ true → IsOfKind kind d name
of_kind kind d name h = by (same_kind kind d.kind) refl h
  where
    by : (b : Bool) → same_kind kind d.kind ≡ b → has_name (cond b (d.name ∷ []) []) name ≡ true → IsOfKind kind d name
    by true e g = record { kind_is = e; name_is = one_name d.name name g }
    by false e g = absurd (false≢true g)

meet_kind : (kind : Kind) (x y : Declaration) (name : Name) → has_name (kind_name kind x) name ≡ true → has_name (kind_name kind y) name ≡ true → clash x y ≡ true
meet_kind kind x y name e f =
    let one = of_kind kind x name e in
    let other = of_kind kind y name f in
    let same : same_kind x.kind y.kind ≡ true = ap (λ k. same_kind k y.kind) (sym (kind_is kind x.kind one.kind_is)) ∙ other.kind_is in
    and_from (bytes_eq x.name y.name) (same_kind x.kind y.kind || not (is_signal x.kind && is_signal y.kind))
    ((bytes_eq-Decides x.name y.name).1 (sym one.name_is ∙ other.name_is)) (or_left (same_kind x.kind y.kind) (not (is_signal x.kind && is_signal y.kind)) same)

no_clash : (ds : List Declaration) → map (λ (d : Declaration). d.name ∷ []) (clashing clash [] ds) ≡ [] → clashing clash [] ds ≡ []
no_clash ds h = by (clashing clash [] ds) h
  where
    by : (xs : List Declaration) → map (λ (d : Declaration). d.name ∷ []) xs ≡ [] → xs ≡ []
    by [] g = refl
    by (x ∷ xs) g = absurd cc

kind_distinct : (kind : Kind) (m : Module) → declared_twice m ≡ [] → Distinct (kind_names kind (declarations m))
unfolding declared_twice
kind_distinct kind m h = parts_differ clash (kind_name kind) (alone_kind kind) (meet_kind kind) (declarations m) (no_clash (declarations m) h)

kind_declared : (kind : Kind) (m : Module) (name : Name) → has_name (kind_names kind (declarations m)) name ≡ true → is_declared m name ≡ true
unfolding is_declared
kind_declared kind m name h = go (declarations m) h
  where
    go : (ds : List Declaration) → has_name (kind_names kind ds) name ≡ true → list_any (λ (d : Declaration). bytes_eq name d.name) ds ≡ true
    go [] h = absurd (false≢true h)
    go (d ∷ ds) h = elim (or_cases (has_name (kind_name kind d) name) (has_name (kind_names kind ds) name) (sym (has_append (kind_name kind d) (kind_names kind ds) name) ∙ h)) [
      | inl e ↦ or_left (bytes_eq name d.name) (list_any (λ (x : Declaration). bytes_eq name x.name) ds) ((bytes_eq-Decides name d.name).1 (of_kind kind d name e).name_is)
      | inr e ↦ or_right (bytes_eq name d.name) (list_any (λ (x : Declaration). bytes_eq name x.name) ds) (go ds e)
    ]

-- the names of each kind

fuse : {A B C : Type 0} (g : B → List C) (f : A → List B) (xs : List A) → flat_map g (flat_map f xs) ≡ flat_map (λ x. flat_map g (f x)) xs
fuse g f [] = refl
fuse g f (x ∷ xs) = flat_map-append g (f x) (flat_map f xs) ∙ ap (λ rest. flat_map g (f x) ++ rest) (fuse g f xs)

each_same : {A B : Type 0} (f g : A → List B) (xs : List A) → ((x : A) → f x ≡ g x) → flat_map f xs ≡ flat_map g xs
each_same f g [] same = refl
each_same f g (x ∷ xs) same = rw (same x, each_same f g xs same) refl

nothing : {A B : Type 0} (xs : List A) → flat_map {A = B} (λ x. []) xs ≡ []
nothing [] = refl
nothing (x ∷ xs) = nothing xs

of_this : (kind other : Kind) (names : List Name) → same_kind kind other ≡ true → kind_names kind (declared_as other names) ≡ names
of_this kind other [] h = refl
of_this kind other (x ∷ xs) h = ap (λ b. cond b (x ∷ []) [] ++ kind_names kind (declared_as other xs)) h ∙ ap (λ rest. x ∷ rest) (of_this kind other xs h)

of_other : (kind other : Kind) (names : List Name) → same_kind kind other ≡ false → kind_names kind (declared_as other names) ≡ []
of_other kind other [] h = refl
of_other kind other (x ∷ xs) h = ap (λ b. cond b (x ∷ []) [] ++ kind_names kind (declared_as other xs)) h ∙ of_other kind other xs h

no_params : (kind : Kind) (decls : List ParamDecl) → same_kind kind Parameter ≡ false → kind_names kind (flat_map declared_params decls) ≡ []
no_params kind decls h =
    fuse (kind_name kind) declared_params decls
    ∙ (each_same (λ decl. kind_names kind (declared_params decl)) (λ decl. []) decls (λ decl. of_other kind Parameter (map (λ set. set.name) decl.sets) h) ∙ nothing decls)

-- by the parts of a module
by_parts : (kind : Kind) (m : Module) (header items : List Name) → same_kind kind Parameter ≡ false → kind_names kind (declared_in_header m.header) ≡ header
    → kind_names kind (flat_map declared_in_item m.items) ≡ items → kind_names kind (declarations m) ≡ header ++ items
unfolding declarations
by_parts kind m header items p h i =
    flat_map-append (kind_name kind) (flat_map declared_params m.params ++ declared_in_header m.header) (flat_map declared_in_item m.items)
    ∙ (ap (λ front. front ++ kind_names kind (flat_map declared_in_item m.items)) (flat_map-append (kind_name kind) (flat_map declared_params m.params) (declared_in_header m.header)
    ∙ ap (λ front. front ++ kind_names kind (declared_in_header m.header)) (no_params kind m.params p))
    ∙ (λ j. h j ++ i j))

-- in headers

listed_ports : (names : List Name) → kind_names InHeader (flat_map declared_port names) ≡ names
listed_ports [] = refl
listed_ports (x ∷ xs) = ap (λ rest. x ∷ rest) (listed_ports xs)

listed_directions : (names : List Name) → kind_names Direction (flat_map declared_port names) ≡ names
listed_directions [] = refl
listed_directions (x ∷ xs) = ap (λ rest. x ∷ rest) (listed_directions xs)

listed_nets : (names : List Name) → kind_names NetDeclaration (flat_map declared_port names) ≡ []
listed_nets [] = refl
listed_nets (x ∷ xs) = listed_nets xs

header_ports : (header : Header) → kind_names InHeader (declared_in_header header) ≡ header_names header
unfolding header_names
header_ports (Names names) = of_this InHeader InHeader names refl
header_ports (Decls decls) = fuse (kind_name InHeader) (λ (decl : PortDecl). flat_map declared_port decl.names) decls ∙ each_same (λ (decl : PortDecl). kind_names InHeader (flat_map declared_port decl.names)) (λ (decl : PortDecl). decl.names) decls (λ decl. listed_ports decl.names)

header_directions : (header : Header) → kind_names Direction (declared_in_header header) ≡ flat_map (λ decl. decl.names) (header_decls header)
header_directions (Names names) = of_other Direction InHeader names refl
header_directions (Decls decls) = fuse (kind_name Direction) (λ (decl : PortDecl). flat_map declared_port decl.names) decls ∙ each_same (λ (decl : PortDecl). kind_names Direction (flat_map declared_port decl.names)) (λ (decl : PortDecl). decl.names) decls (λ decl. listed_directions decl.names)

header_nets : (header : Header) → kind_names NetDeclaration (declared_in_header header) ≡ []
header_nets (Names names) = of_other NetDeclaration InHeader names refl
header_nets (Decls decls) = fuse (kind_name NetDeclaration) (λ (decl : PortDecl). flat_map declared_port decl.names) decls ∙ (each_same (λ (decl : PortDecl). kind_names NetDeclaration (flat_map declared_port decl.names)) (λ (decl : PortDecl). []) decls (λ decl. listed_nets decl.names) ∙ nothing decls)

-- in items

item_ports : (item : ItemV) → kind_names InHeader (declared_in_item item) ≡ []
item_ports (Port decl) = of_other InHeader Direction decl.names refl
item_ports (Net decl) = of_other InHeader NetDeclaration decl.names refl
item_ports (Param decl) = of_other InHeader Parameter (map (λ set. set.name) decl.sets) refl
item_ports (Assign statement) = refl
item_ports (InstancesItem statement) = of_other InHeader Instance (map (λ instance. instance.name) statement.insts) refl
item_ports (Defparam statement) = refl

item_directions : (item : ItemV) → kind_names Direction (declared_in_item item) ≡ flat_map (λ decl. decl.names) (port_decl item)
item_directions (Port decl) = of_this Direction Direction decl.names refl ∙ sym (append-nil decl.names)
item_directions (Net decl) = of_other Direction NetDeclaration decl.names refl
item_directions (Param decl) = of_other Direction Parameter (map (λ set. set.name) decl.sets) refl
item_directions (Assign statement) = refl
item_directions (InstancesItem statement) = of_other Direction Instance (map (λ instance. instance.name) statement.insts) refl
item_directions (Defparam statement) = refl

item_nets : (item : ItemV) → kind_names NetDeclaration (declared_in_item item) ≡ flat_map (λ decl. decl.names) (net_decl item)
item_nets (Net decl) = of_this NetDeclaration NetDeclaration decl.names refl ∙ sym (append-nil decl.names)
item_nets (Port decl) = of_other NetDeclaration Direction decl.names refl
item_nets (Param decl) = of_other NetDeclaration Parameter (map (λ set. set.name) decl.sets) refl
item_nets (Assign statement) = refl
item_nets (InstancesItem statement) = of_other NetDeclaration Instance (map (λ instance. instance.name) statement.insts) refl
item_nets (Defparam statement) = refl

ports_are : (m : Module) → kind_names InHeader (declarations m) ≡ port_names m
ports_are m =
    by_parts InHeader m (header_names m.header) [] refl (header_ports m.header)
    (fuse (kind_name InHeader) declared_in_item m.items ∙ (each_same (λ item. kind_names InHeader (declared_in_item item)) (λ item. []) m.items item_ports ∙ nothing m.items))
    ∙ append-nil (header_names m.header)

directions_are : (m : Module) → kind_names Direction (declarations m) ≡ direction_names m
unfolding port_decls
directions_are m =
    by_parts Direction m (flat_map (λ decl. decl.names) (header_decls m.header)) (flat_map (λ decl. decl.names) (flat_map port_decl m.items)) refl (header_directions m.header)
    (fuse (kind_name Direction) declared_in_item m.items ∙ (each_same (λ item. kind_names Direction (declared_in_item item)) (λ item. flat_map (λ decl. decl.names) (port_decl item)) m.items item_directions ∙ sym (fuse (λ decl. decl.names) port_decl m.items)))
    ∙ sym (flat_map-append (λ decl. decl.names) (header_decls m.header) (flat_map port_decl m.items))

nets_are : (m : Module) → kind_names NetDeclaration (declarations m) ≡ net_names m
unfolding net_decls
nets_are m =
    by_parts NetDeclaration m [] (flat_map (λ decl. decl.names) (flat_map net_decl m.items)) refl (header_nets m.header)
    (fuse (kind_name NetDeclaration) declared_in_item m.items ∙ (each_same (λ item. kind_names NetDeclaration (declared_in_item item)) (λ item. flat_map (λ decl. decl.names) (net_decl item)) m.items item_nets ∙ sym (fuse (λ decl. decl.names) net_decl m.items)))

pub ports_distinct : (m : Module) → declared_twice m ≡ [] → Distinct (port_names m)
ports_distinct m h = subst Distinct (ports_are m) (kind_distinct InHeader m h)

pub directions_distinct : (m : Module) → declared_twice m ≡ [] → Distinct (direction_names m)
directions_distinct m h = subst Distinct (directions_are m) (kind_distinct Direction m h)

pub nets_distinct : (m : Module) → declared_twice m ≡ [] → Distinct (net_names m)
nets_distinct m h = subst Distinct (nets_are m) (kind_distinct NetDeclaration m h)

pub port_declared : (m : Module) (name : Name) → has_name (port_names m) name ≡ true → is_declared m name ≡ true
port_declared m name h = kind_declared InHeader m name (ap (λ names. has_name names name) (ports_are m) ∙ h)

pub net_declared : (m : Module) (name : Name) → has_name (net_names m) name ≡ true → is_declared m name ≡ true
net_declared m name h = kind_declared NetDeclaration m name (ap (λ names. has_name names name) (nets_are m) ∙ h)
