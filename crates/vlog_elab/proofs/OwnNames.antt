-- Ports and instances of a module that declares nothing twice have their own names.
use Rattle.std.proofs.Common.{◌≡◌, Bool, true, false, ◌&&◌, ◌||◌, not, cond, List, [], ◌∷◌, ◌++◌, map, filter, flat_map, bytes_eq, refl, sym, ap, ◌∙◌, subst}
use Rattle.std.proofs.lemmas.Bool.{false≢true}
use Rattle.std.proofs.lemmas.Grind.{flat_map-append}
use Rattle.std.proofs.lemmas.List.{map-append}
use Rattle.std.proofs.lemmas.List.Elements.{filter-append}
use Rattle.net_hier.specs.Valid.{HaveOwnNames}
use Rattle.net_hier.specs.declared.cells.HInst.{HInst}
use Rattle.net_hier.specs.declared.cells.HPort.{HPort}
use Rattle.vlog_design.specs.Design.{attr_props, defparam_props, module_instances, module_ports, param_props, port_attrs, port_dir, statement_instances}
use Rattle.vlog_design.specs.Names.{Declaration, Name, clashing, declarations, declared_as, declared_in_header, declared_in_item, declared_params, declared_port, header_names, instance_names, instance_statement, instance_statements, instances, port_names, port_range}
use Rattle.vlog_design.specs.Reach.{module_number}
use Rattle.vlog_design.specs.Rules.{clash, declared_twice, is_signal, same_kind}
use Rattle.vlog_design.specs.declared.signals.Kind.{Kind}
use Rattle.vlog_design.specs.declared.signals.Kind.TheVariants.{InHeader, Direction, NetDeclaration, Instance, Parameter}
use Rattle.vlog_values.specs.declared.declaration.ParamDecl.{ParamDecl}
use Rattle.vlog_values.specs.declared.declaration.PortDecl.{PortDecl}
use Rattle.vlog_values.specs.declared.module.Header.{Header}
use Rattle.vlog_values.specs.declared.module.Header.TheVariants as headers
use Rattle.vlog_values.specs.declared.module.ItemV.{ItemV}
use Rattle.vlog_values.specs.declared.module.ItemV.TheVariants as items
use Rattle.vlog_values.specs.declared.module.Module.{Module}
use Rattle.vlog_values.specs.declared.statement.Instances.{Instances}
use Rattle.vlog_values.specs.declared.statement.VInst.{VInst}
use Rattle.vlog_checked.proofs.Differing.{NoClash, kept_get, no_clash, no_clash_kept, own_names_of}
use Rattle.vlog_checked.proofs.ListLaws.{map_get, map_none}

-- the names that are declared as one kind
abbrev names_as : Kind → List Declaration → List Name
names_as kind ds = map (λ (d : Declaration). d.name) (filter (λ (d : Declaration). same_kind kind d.kind) ds)

names_both : (kind : Kind) (xs ys : List Declaration) → names_as kind (xs ++ ys) ≡ names_as kind xs ++ names_as kind ys
names_both kind xs ys =
    ap (map (λ (d : Declaration). d.name)) (filter-append (λ (d : Declaration). same_kind kind d.kind) xs ys)
    ∙ map-append (λ (d : Declaration). d.name) (filter (λ (d : Declaration). same_kind kind d.kind) xs) (filter (λ (d : Declaration). same_kind kind d.kind) ys)

names_flat : {A : Type 0} (kind : Kind) (f : A → List Declaration) (g : A → List Name) (xs : List A) → ((x : A) → names_as kind (f x) ≡ g x) → names_as kind (flat_map f xs) ≡ flat_map g xs
names_flat kind f g [] h = refl
names_flat kind f g (x ∷ xs) h = names_both kind (f x) (flat_map f xs) ∙ (λ j. h x j ++ names_flat kind f g xs h j)

flat_nothing : {A B : Type 0} (f : A → List B) (xs : List A) → ((x : A) → f x ≡ []) → flat_map f xs ≡ []
flat_nothing f [] h = refl
flat_nothing f (x ∷ xs) h = (λ j. h x j ++ flat_nothing f xs h j)

abbrev no_names : List Name
no_names = []

flat_alone : {A : Type 0} (xs : List A) → flat_map (λ (x : A). x ∷ []) xs ≡ xs
flat_alone [] = refl
flat_alone (x ∷ xs) = ap (λ ys. x ∷ ys) (flat_alone xs)

names_same : (kind : Kind) (names : List Name) → same_kind kind kind ≡ true → names_as kind (declared_as kind names) ≡ names
names_same kind [] h = refl
names_same kind (name ∷ names) h =
    ap (λ b. map (λ (d : Declaration). d.name) (cond b (record { kind = kind; name = name } ∷ filter (λ (d : Declaration). same_kind kind d.kind) (declared_as kind names)) (filter (λ (d : Declaration). same_kind kind d.kind) (declared_as kind names)))) h
    ∙ ap (λ ns. name ∷ ns) (names_same kind names h)

names_other : (kind other : Kind) (names : List Name) → same_kind kind other ≡ false → names_as kind (declared_as other names) ≡ []
names_other kind other [] h = refl
names_other kind other (name ∷ names) h =
    ap (λ b. map (λ (d : Declaration). d.name) (cond b (record { kind = other; name = name } ∷ filter (λ (d : Declaration). same_kind kind d.kind) (declared_as other names)) (filter (λ (d : Declaration). same_kind kind d.kind) (declared_as other names)))) h
    ∙ names_other kind other names h

names_three : (kind : Kind) (m : Module) (header rest : List Name) → ((d : ParamDecl) → names_as kind (declared_params d) ≡ []) → names_as kind (declared_in_header m.header) ≡ header → names_as kind (flat_map declared_in_item m.items) ≡ rest
    → names_as kind (declarations m) ≡ header ++ rest
unfolding declarations
names_three kind m header rest params in_header in_items =
    names_both kind (flat_map declared_params m.params ++ declared_in_header m.header) (flat_map declared_in_item m.items)
    ∙ ((λ j. names_both kind (flat_map declared_params m.params) (declared_in_header m.header) j ++ in_items j)
    ∙ (λ j. ((names_flat kind declared_params (λ d. []) m.params params ∙ flat_nothing (λ (d : ParamDecl). no_names) m.params (λ d. refl)) j ++ in_header j) ++ rest))

-- ---- ports

append_nothing : {A : Type 0} (xs : List A) → xs ++ [] ≡ xs
append_nothing [] = refl
append_nothing (x ∷ xs) = ap (λ ys. x ∷ ys) (append_nothing xs)

ports_in_header : (header : Header) → names_as InHeader (declared_in_header header) ≡ header_names header
unfolding header_names
ports_in_header (headers.Names names) = names_same InHeader names refl
ports_in_header (headers.Decls decls) =
    names_flat InHeader (λ (d : PortDecl). flat_map declared_port d.names) (λ (d : PortDecl). d.names) decls (λ d. names_flat InHeader declared_port (λ name. name ∷ []) d.names (λ name. refl) ∙ flat_alone d.names)

no_port : (item : ItemV) → names_as InHeader (declared_in_item item) ≡ []
no_port (items.Port d) = names_other InHeader Direction d.names refl
no_port (items.Net d) = names_other InHeader NetDeclaration d.names refl
no_port (items.Param d) = names_other InHeader Parameter (map (λ set. set.name) d.sets) refl
no_port (items.Instances s) = names_other InHeader Instance (map (λ instance. instance.name) s.insts) refl
no_port (items.Assign s) = refl
no_port (items.Defparam s) = refl

ports_declared : (m : Module) → names_as InHeader (declarations m) ≡ port_names m
ports_declared m =
    names_three InHeader m (header_names m.header) [] (λ d. names_other InHeader Parameter (map (λ set. set.name) d.sets) refl) (ports_in_header m.header)
    (names_flat InHeader declared_in_item (λ item. []) m.items no_port ∙ flat_nothing (λ (item : ItemV). no_names) m.items (λ item. refl))
    ∙ append_nothing (header_names m.header)

-- ---- instances

instances_in_header : (header : Header) → names_as Instance (declared_in_header header) ≡ []
instances_in_header (headers.Names names) = names_other Instance InHeader names refl
instances_in_header (headers.Decls decls) =
    names_flat Instance (λ (d : PortDecl). flat_map declared_port d.names) (λ (d : PortDecl). []) decls (λ d. names_flat Instance declared_port (λ name. []) d.names (λ name. refl) ∙ flat_nothing (λ (name : Name). no_names) d.names (λ name. refl)) ∙ flat_nothing (λ (d : PortDecl). no_names) decls (λ d. refl)

abbrev item_instances : ItemV → List Name
item_instances item = map (λ (instance : VInst). instance.name) (flat_map (λ (statement : Instances). statement.insts) (instance_statement item))

instances_in_item : (item : ItemV) → names_as Instance (declared_in_item item) ≡ item_instances item
instances_in_item (items.Port d) = names_other Instance Direction d.names refl
instances_in_item (items.Net d) = names_other Instance NetDeclaration d.names refl
instances_in_item (items.Param d) = names_other Instance Parameter (map (λ set. set.name) d.sets) refl
instances_in_item (items.Instances s) = names_same Instance (map (λ instance. instance.name) s.insts) refl ∙ ap (map (λ (instance : VInst). instance.name)) (sym (append_nothing s.insts))
instances_in_item (items.Assign s) = refl
instances_in_item (items.Defparam s) = refl

instances_in_items : (those : List ItemV) → flat_map item_instances those ≡ map (λ (instance : VInst). instance.name) (flat_map (λ (statement : Instances). statement.insts) (flat_map instance_statement those))
instances_in_items [] = refl
instances_in_items (item ∷ those) =
    ap (λ ns. item_instances item ++ ns) (instances_in_items those)
    ∙ (sym (map-append (λ (instance : VInst). instance.name) (flat_map (λ (statement : Instances). statement.insts) (instance_statement item)) (flat_map (λ (statement : Instances). statement.insts) (flat_map instance_statement those)))
    ∙ ap (map (λ (instance : VInst). instance.name)) (sym (flat_map-append (λ (statement : Instances). statement.insts) (instance_statement item) (flat_map instance_statement those))))

instances_declared : (m : Module) → names_as Instance (declarations m) ≡ instance_names m
unfolding instances instance_statements
instances_declared m =
    names_three Instance m [] (flat_map item_instances m.items) (λ d. names_other Instance Parameter (map (λ set. set.name) d.sets) refl) (instances_in_header m.header) (names_flat Instance declared_in_item item_instances m.items instances_in_item)
    ∙ instances_in_items m.items

-- ---- names that differ

kind_is : (kind : Kind) → same_kind InHeader kind ≡ true → kind ≡ InHeader
kind_is InHeader e = refl
kind_is Direction e = absurd (false≢true e)
kind_is NetDeclaration e = absurd (false≢true e)
kind_is Instance e = absurd (false≢true e)
kind_is Parameter e = absurd (false≢true e)

kind_is_instance : (kind : Kind) → same_kind Instance kind ≡ true → kind ≡ Instance
kind_is_instance InHeader e = absurd (false≢true e)
kind_is_instance Direction e = absurd (false≢true e)
kind_is_instance NetDeclaration e = absurd (false≢true e)
kind_is_instance Instance e = refl
kind_is_instance Parameter e = absurd (false≢true e)

not_both : (a b : Bool) → (a && (true || b)) ≡ false → a ≡ false
not_both true b e = absurd (false≢true (sym e))
not_both false b e = refl

-- declarations of one kind that do not clash have names that differ
names_differ : (kind : Kind) (ds : List Declaration) → same_kind kind kind ≡ true → ((other : Kind) → same_kind kind other ≡ true → other ≡ kind) → NoClash clash ds → NoClash bytes_eq (names_as kind ds)
names_differ kind ds same is free i j x y lt is_x is_y =
    let a = map_get (λ (d : Declaration). d.name) (filter (λ (d : Declaration). same_kind kind d.kind) ds) i x is_x in
    let b = map_get (λ (d : Declaration). d.name) (filter (λ (d : Declaration). same_kind kind d.kind) ds) j y is_y in
    let one : Declaration = b.0 in
    let other : Declaration = a.0 in
    let e : clash one other ≡ false = no_clash_kept clash (λ (d : Declaration). same_kind kind d.kind) ds free i j other one lt a.1.0 b.1.0 in
    let p = is other.kind (kept_get clash (λ (d : Declaration). same_kind kind d.kind) ds i other a.1.0).1.1 in
    let q = is one.kind (kept_get clash (λ (d : Declaration). same_kind kind d.kind) ds j one b.1.0).1.1 in
    let s : same_kind one.kind other.kind ≡ true = (λ k. same_kind (q k) (p k)) ∙ same in
    (λ k. bytes_eq (sym b.1.1 k) (sym a.1.1 k))
    ∙ not_both (bytes_eq one.name other.name) (not (is_signal one.kind && is_signal other.kind)) (ap (λ t. bytes_eq one.name other.name && (t || not (is_signal one.kind && is_signal other.kind))) (sym s) ∙ e)

module _ (m : Module) (once : declared_twice m ≡ []) where
  all_free : NoClash clash (declarations m)
  unfolding declared_twice
  all_free = no_clash clash [] (declarations m) (map_none (λ (d : Declaration). d.name ∷ []) (clashing clash [] (declarations m)) once)

  pub port_names_differ : NoClash bytes_eq (port_names m)
  port_names_differ = subst (NoClash bytes_eq) (ports_declared m) (names_differ InHeader (declarations m) refl kind_is all_free)

  pub instance_names_differ : NoClash bytes_eq (instance_names m)
  instance_names_differ = subst (NoClash bytes_eq) (instances_declared m) (names_differ Instance (declarations m) refl kind_is_instance all_free)

  names_back : (name : Name → HPort) (names : List Name) → ((n : Name) → (name n).name ≡ n) → map (λ (port : HPort). port.name) (map name names) ≡ names
  names_back name [] h = refl
  names_back name (n ∷ names) h = (λ j. h n j ∷ names_back name names h j)

  -- the ports of the module have their own names
  pub own_port_names : HaveOwnNames (λ (port : HPort). port.name) (module_ports m)
  unfolding module_ports
  own_port_names = own_names_of (λ (port : HPort). port.name) (module_ports m) (subst (NoClash bytes_eq) (sym (names_back (λ name. record { name = name; range = port_range m name; dir = port_dir m name; props = attr_props (port_attrs m name) }) (port_names m) (λ n. refl))) port_names_differ)

  of_statement : (ms : List Module) (statement : Instances) (insts : List VInst) → (made : VInst → HInst) → ((i : VInst) → (made i).name ≡ i.name) → map (λ (i : HInst). i.name) (map made insts) ≡ map (λ (i : VInst). i.name) insts
  of_statement ms statement [] made h = refl
  of_statement ms statement (i ∷ insts) made h = (λ j. h i j ∷ of_statement ms statement insts made h j)

  of_statements : (ms : List Module) (statements : List Instances) → map (λ (i : HInst). i.name) (flat_map (statement_instances ms m) statements) ≡ map (λ (i : VInst). i.name) (flat_map (λ (s : Instances). s.insts) statements)
  of_statements ms [] = refl
  of_statements ms (s ∷ statements) =
      map-append (λ (i : HInst). i.name) (statement_instances ms m s) (flat_map (statement_instances ms m) statements)
      ∙ ((λ j. of_statement ms s s.insts (λ i. record { name = i.name; cell = module_number ms s.module; props = attr_props s.attrs ++ param_props s.params ++ defparam_props m i.name }) (λ i. refl) j ++ of_statements ms statements j)
      ∙ sym (map-append (λ (i : VInst). i.name) s.insts (flat_map (λ (o : Instances). o.insts) statements)))

  -- the instances of the module have their own names
  pub own_instance_names : (ms : List Module) → HaveOwnNames (λ (i : HInst). i.name) (module_instances ms m)
  unfolding module_instances instances
  own_instance_names ms = own_names_of (λ (i : HInst). i.name) (module_instances ms m) (subst (NoClash bytes_eq) (sym (of_statements ms (instance_statements m))) instance_names_differ)
