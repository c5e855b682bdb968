-- What a module shows is no greater than the module, and declares nothing twice where the module does not.
use Rattle.std.proofs.Common.{◌≡◌, ◌≤◌, Bool, true, false, cond, List, [], ◌∷◌, ◌++◌, map, filter, flat_map, refl, sym, ap, ◌∙◌, subst, arith}
use Rattle.std.specs.List.{list_any}
use Rattle.std.proofs.lemmas.Bool.{or_from, or_parts}
use Rattle.std.proofs.lemmas.List.{append-nil}
use Rattle.std.proofs.lemmas.List.Elements.{filter-append}
use Rattle.std.proofs.lemmas.List.Sums.{sum_by-cons}
use Rattle.vlog_design.specs.Names.{Declaration, Name, clashing, declarations, declared_as, declared_in_header, declared_in_item, declared_params, declared_port}
use Rattle.vlog_design.specs.Rules.{clash, declared_twice}
use Rattle.vlog_design.specs.declared.signals.Kind.{Kind}
use Rattle.vlog_design.specs.declared.signals.Kind.TheVariants.{InHeader, Direction, NetDeclaration, Instance, Parameter}
use Rattle.vlog_values.specs.Sizes.{header_size, item_size, list_size, module_size, port_size}
use Rattle.vlog_values.specs.declared.declaration.ParamDecl.{ParamDecl}
use Rattle.vlog_values.specs.declared.declaration.PortDecl.{PortDecl}
use Rattle.vlog_values.specs.declared.module.Header.{Header}
use Rattle.vlog_values.specs.declared.module.Header.TheVariants as headers
use Rattle.vlog_values.specs.declared.module.ItemV.{ItemV}
use Rattle.vlog_values.specs.declared.module.ItemV.TheVariants as items
use Rattle.vlog_values.specs.declared.module.Module.{Module}
use Rattle.vlog_shown.specs.Interfaces.{bare_header, bare_item, bare_port, interface}

-- ---- items of which no two clash, without some of them

module _ {A : Type 0} (hits : A → A → Bool) (keep : A → Bool) where
  any_kept : (q : A → Bool) (xs : List A) → list_any q xs ≡ false → list_any q (filter keep xs) ≡ false
  any_kept q [] h = refl
  any_kept q (x ∷ xs) h = by (keep x) (any_kept q xs (or_parts (q x) (list_any q xs) h).1)
    where
      by : (b : Bool) → list_any q (filter keep xs) ≡ false → list_any q (cond b (x ∷ filter keep xs) (filter keep xs)) ≡ false
      by true e = or_from (q x) (list_any q (filter keep xs)) (or_parts (q x) (list_any q xs) h).0 e
      by false e = e

  free_first : (before : List A) (x : A) (xs : List A) → clashing hits before (x ∷ xs) ≡ [] → (list_any (hits x) before ≡ false) × (clashing hits (before ++ x ∷ []) xs ≡ [])
  unfolding clashing
  free_first before x xs e = by (list_any (hits x) before) e
    where
      by : (b : Bool) → cond b (x ∷ clashing hits (before ++ x ∷ []) xs) (clashing hits (before ++ x ∷ []) xs) ≡ [] → (b ≡ false) × (clashing hits (before ++ x ∷ []) xs ≡ [])
      by true e = absurd (cc)
      by false e = (refl, e)

  free_more : (before : List A) (x : A) (xs : List A) → list_any (hits x) before ≡ false → clashing hits (before ++ x ∷ []) xs ≡ [] → clashing hits before (x ∷ xs) ≡ []
  unfolding clashing
  free_more before x xs h e = ap (λ b. cond b (x ∷ clashing hits (before ++ x ∷ []) xs) (clashing hits (before ++ x ∷ []) xs)) h ∙ e

  none_at_end : (before : List A) → clashing hits before [] ≡ []
  unfolding clashing
  none_at_end before = refl

  kept_free : (before xs : List A) → clashing hits before xs ≡ [] → clashing hits (filter keep before) (filter keep xs) ≡ []
  kept_free before [] e = none_at_end (filter keep before)
  kept_free before (x ∷ xs) e = by (keep x) (subst (λ l. clashing hits l (filter keep xs) ≡ []) (filter-append keep before (x ∷ [])) (kept_free (before ++ x ∷ []) xs (free_first before x xs e).1))
    where
      by : (b : Bool) → clashing hits (filter keep before ++ cond b (x ∷ []) []) (filter keep xs) ≡ [] → clashing hits (filter keep before) (cond b (x ∷ filter keep xs) (filter keep xs)) ≡ []
      by true h = free_more (filter keep before) x (filter keep xs) (any_kept (hits x) before (free_first before x xs e).0) h
      by false h = subst (λ l. clashing hits l (filter keep xs) ≡ []) (append-nil (filter keep before)) h

-- ---- the declarations that a module shows

-- a port in a header, or its direction
abbrev of_port : Kind → Bool
of_port InHeader = true
of_port Direction = true
of_port NetDeclaration = false
of_port Instance = false
of_port Parameter = false

abbrev port_part : List Declaration → List Declaration
port_part = filter (λ (d : Declaration). of_port d.kind)

part_all : (kind : Kind) (names : List Name) → of_port kind ≡ true → port_part (declared_as kind names) ≡ declared_as kind names
part_all kind [] h = refl
part_all kind (name ∷ names) h =
    ap (λ b. cond b (record { kind = kind; name = name } ∷ port_part (declared_as kind names)) (port_part (declared_as kind names))) h
    ∙ ap (λ ds. record { kind = kind; name = name } ∷ ds) (part_all kind names h)

part_none : (kind : Kind) (names : List Name) → of_port kind ≡ false → port_part (declared_as kind names) ≡ []
part_none kind [] h = refl
part_none kind (name ∷ names) h =
    ap (λ b. cond b (record { kind = kind; name = name } ∷ port_part (declared_as kind names)) (port_part (declared_as kind names))) h
    ∙ part_none kind names h

part_flat : {A : Type 0} (f g : A → List Declaration) (xs : List A) → ((x : A) → port_part (f x) ≡ g x) → port_part (flat_map f xs) ≡ flat_map g xs
part_flat f g [] h = refl
part_flat f g (x ∷ xs) h = filter-append (λ (d : Declaration). of_port d.kind) (f x) (flat_map f xs) ∙ (λ j. h x j ++ part_flat f g xs h j)

abbrev no_declarations : List Declaration
no_declarations = []

flat_nothing : {A : Type 0} (xs : List A) → flat_map (λ (x : A). no_declarations) xs ≡ []
flat_nothing [] = refl
flat_nothing (x ∷ xs) = flat_nothing xs

in_params : (params : List ParamDecl) → port_part (flat_map declared_params params) ≡ []
in_params params = part_flat declared_params (λ d. no_declarations) params (λ d. part_none Parameter (map (λ set. set.name) d.sets) refl) ∙ flat_nothing params

abbrev in_decl : PortDecl → List Declaration
in_decl d = flat_map declared_port d.names

bare_decls : (decls : List PortDecl) → flat_map in_decl (map bare_port decls) ≡ flat_map in_decl decls
bare_decls [] = refl
bare_decls (d ∷ decls) = ap (λ ds. in_decl d ++ ds) (bare_decls decls)

in_header : (header : Header) → port_part (declared_in_header header) ≡ declared_in_header (bare_header header)
unfolding bare_header
in_header (headers.Names names) = part_all InHeader names refl
in_header (headers.Decls decls) = part_flat in_decl in_decl decls (λ d. part_flat declared_port declared_port d.names (λ name. refl)) ∙ sym (bare_decls decls)

abbrev shown_in_item : ItemV → List Declaration
shown_in_item item = flat_map declared_in_item (bare_item item)

in_item : (item : ItemV) → port_part (declared_in_item item) ≡ shown_in_item item
unfolding bare_item
in_item (items.Port decl) = part_all Direction decl.names refl ∙ sym (append-nil (declared_as Direction decl.names))
in_item (items.Net decl) = part_none NetDeclaration decl.names refl
in_item (items.Param decl) = part_none Parameter (map (λ set. set.name) decl.sets) refl
in_item (items.Instances statement) = part_none Instance (map (λ instance. instance.name) statement.insts) refl
in_item (items.Assign statement) = refl
in_item (items.Defparam statement) = refl

flat_flat : (those : List ItemV) → flat_map shown_in_item those ≡ flat_map declared_in_item (flat_map bare_item those)
unfolding bare_item
flat_flat [] = refl
flat_flat (items.Port decl ∷ those) = (λ j. append-nil (declared_as Direction decl.names) j ++ flat_flat those j)
flat_flat (items.Net decl ∷ those) = flat_flat those
flat_flat (items.Param decl ∷ those) = flat_flat those
flat_flat (items.Instances statement ∷ those) = flat_flat those
flat_flat (items.Assign statement ∷ those) = flat_flat those
flat_flat (items.Defparam statement ∷ those) = flat_flat those

-- a module shows its declarations of ports
pub declarations_shown : (m : Module) → port_part (declarations m) ≡ declarations (interface m)
unfolding declarations
declarations_shown m =
    filter-append (λ (d : Declaration). of_port d.kind) (flat_map declared_params m.params ++ declared_in_header m.header) (flat_map declared_in_item m.items)
    ∙ ((λ j. filter-append (λ (d : Declaration). of_port d.kind) (flat_map declared_params m.params) (declared_in_header m.header) j ++ part_flat declared_in_item shown_in_item m.items in_item j)
    ∙ (λ j. (in_params m.params j ++ in_header m.header j) ++ flat_flat m.items j))

map_empty : {A B : Type 0} (f : A → B) (xs : List A) → map f xs ≡ [] → xs ≡ []
map_empty f [] e = refl
map_empty f (x ∷ xs) e = absurd (cc)

-- what a module shows declares nothing twice where the module does not
pub shown_once : (m : Module) → declared_twice m ≡ [] → declared_twice (interface m) ≡ []
unfolding declared_twice
shown_once m once =
    let free : clashing clash [] (declarations m) ≡ [] = map_empty (λ (d : Declaration). d.name ∷ []) (clashing clash [] (declarations m)) once in
    ap (λ ds. map (λ (d : Declaration). d.name ∷ []) (clashing clash [] ds)) (sym (declarations_shown m))
    ∙ ap (map (λ (d : Declaration). d.name ∷ [])) (kept_free clash (λ (d : Declaration). of_port d.kind) [] (declarations m) free)

-- ---- sizes

bare_size : (decls : List PortDecl) → list_size port_size (map bare_port decls) ≤ list_size port_size decls
bare_size [] = omega arith
bare_size (d ∷ decls) = omega (arith, sum_by-cons port_size (bare_port d) (map bare_port decls), sum_by-cons port_size d decls, bare_size decls)

header_small : (header : Header) → header_size (bare_header header) ≤ header_size header
unfolding bare_header
header_small (headers.Names names) = omega arith
header_small (headers.Decls decls) = bare_size decls

items_small : (those : List ItemV) → list_size item_size (flat_map bare_item those) ≤ list_size item_size those
unfolding bare_item
items_small [] = omega arith
items_small (items.Port d ∷ those) = omega (arith, sum_by-cons item_size (items.Port (bare_port d)) (flat_map bare_item those), sum_by-cons item_size (items.Port d) those, items_small those)
items_small (items.Net d ∷ those) = omega (arith, sum_by-cons item_size (items.Net d) those, items_small those)
items_small (items.Param d ∷ those) = omega (arith, sum_by-cons item_size (items.Param d) those, items_small those)
items_small (items.Assign s ∷ those) = omega (arith, sum_by-cons item_size (items.Assign s) those, items_small those)
items_small (items.Instances s ∷ those) = omega (arith, sum_by-cons item_size (items.Instances s) those, items_small those)
items_small (items.Defparam s ∷ those) = omega (arith, sum_by-cons item_size (items.Defparam s) those, items_small those)

-- what a module shows is no greater than the module
pub shown_small : (m : Module) → module_size (interface m) ≤ module_size m
shown_small m = omega (arith, header_small m.header, items_small m.items)
