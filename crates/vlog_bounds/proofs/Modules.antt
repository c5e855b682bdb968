-- What headers, modules and files spell from the tokens of a text are such as can be written.
use Rattle.std.proofs.Common.{◌≡◌, refl, subst, ℕ, Bool, true, List, [], ◌∷◌, ◌++◌, Option, Some, None, codes, arith}
use Rattle.std.specs.Prelude.{⊤, IfSome}
use Rattle.std.specs.List.{AllByRecursion}
use Rattle.grammar.specs.Part.{takes}
use Rattle.grammar.specs.Whole.{whole, the_end}
use Rattle.nl_base.specs.Case.{same_bytes}
use Rattle.nl_base.specs.Place.{place_at_start}
use Rattle.nl_base.specs.declared.value.Dir.{Dir}
use Rattle.nl_bytes.proofs.Uses.{AllByRecursion-push}
use Rattle.vlog_values.specs.declared.expression.Attr.{Attr}
use Rattle.vlog_values.specs.declared.declaration.PortDecl.{PortDecl}
use Rattle.vlog_values.specs.declared.declaration.ParamDecl.{ParamDecl}
use Rattle.vlog_values.specs.declared.declaration.ParamSet.{ParamSet}
use Rattle.vlog_values.specs.declared.module.Header.TheVariants as headers
use Rattle.vlog_values.specs.declared.module.ItemV.{ItemV}
use Rattle.vlog_values.specs.declared.module.Module.{Module}
use Rattle.vlog_values.specs.declared.module.VlogFile.{VlogFile}
use Rattle.vlog_values.specs.Values.{AreSome, IsName, AreAttrs, IsPortDecl, IsParamSet, IsParamGroup, IsItem, IsHeader, IsModule, IsVlogValue}
use Rattle.vlog_tokens.specs.declared.token.VToken.{VToken}
use Rattle.vlog_tokens.specs.declared.token.VToken.TheVariants as token
use Rattle.vlog_tokens.specs.Language.{stream_from}
use Rattle.vlog_exprs.specs.Reasons as say
use Rattle.vlog_exprs.specs.Grammar.{mark, keyword, choice}
use Rattle.vlog_items.specs.declared.item.ItemWord.{ItemWord}
use Rattle.vlog_items.specs.Grammar.{signed, port_kind, item_words}
use Rattle.vlog_modules.specs.Text.{VlogReads}
use Rattle.vlog_modules.specs.Grammar.{dir_words, port_rest, port_decl, with_name, with_decl, port_turn, port_decls, name_header, decl_header, some_header, header, param_group, with_set, with_group, more_set, param_turn, param_groups, params_rest, params, ItemStart, at_group, at_module_name, at_word, word_start, at_item, item_rest, items, module_rest, module_of, net_type, directive_of, directive, with_module, with_implicit, PieceStart, at_piece, piece_rest, pieces, file}
use Rattle.vlog_tokens.specs.Proper.{AreBytes, IsProper}
use Rattle.vlog_bounds.proofs.Tokens.{tokens_sound}
use Rattle.vlog_exprs.proofs.Known.{taken_name_is, some_push}
use Rattle.vlog_bounds.proofs.Kept.{Kept, kept_gives, kept_then, kept_after, kept_if, kept_while, kept_name, kept_mark, kept_commas}
use Rattle.vlog_bounds.proofs.Starts.{PortDecls, ParamGroups, SoFar, choose, piece_cases}
use Rattle.vlog_bounds.proofs.Expressions.{kept_maybe_range, kept_constant, kept_group, kept_groups, kept_attrs}
use Rattle.vlog_bounds.proofs.Items.{kept_param_type, kept_param_set, kept_word_item, kept_instances_item, kept_item_of}

-- one item
one : {A : Type 0} {Good : A → Type 0} {a : A} → Good a → AreSome Good (a ∷ [])
one is = record { some = omega arith; all = (is, tt) }

-- ---- the ports of a header

kept_port_rest : (attrs : List Attr) (dir : Dir) → AreAttrs attrs → Kept (port_rest attrs dir) IsPortDecl
unfolding port_rest
kept_port_rest attrs dir are =
    kept_after port_kind (λ k. kept_after signed (λ s. kept_then kept_maybe_range (λ r is_range. kept_then kept_name (λ n is_name. kept_gives _ (record { attrs = are; range = is_range; names = one is_name })))))

kept_port_decl : Kept port_decl IsPortDecl
unfolding port_decl
kept_port_decl = kept_then kept_attrs (λ attrs are. kept_after (choice dir_words) (λ dir. kept_port_rest attrs dir are))

-- these declarations are such
abbrev ArePorts : PortDecls → Type 0
ArePorts ds = AllByRecursion IsPortDecl ds.before × IsPortDecl ds.last

more_name : (ds : PortDecls) (n : List ℕ) → ArePorts ds → IsName n → ArePorts (with_name ds n)
more_name ds n are is = (are.0, record { attrs = are.1.attrs; range = are.1.range; names = some_push IsName ds.last.names n are.1.names.all is })

more_decl : (ds : PortDecls) (d : PortDecl) → ArePorts ds → IsPortDecl d → ArePorts (with_decl ds d)
more_decl ds d are is = (AllByRecursion-push IsPortDecl ds.before ds.last are.0 are.1, is)

kept_port_turn : (ds : PortDecls) → ArePorts ds → Kept (port_turn ds) ArePorts
unfolding port_turn
kept_port_turn ds are = kept_if _ _ _ (λ x n is h. kept_gives (with_name ds n) (more_name ds n are (taken_name_is x.token is n h))) (kept_then kept_port_decl (λ d is. kept_gives (with_decl ds d) (more_decl ds d are is)))

kept_port_decls : (ds : PortDecls) → ArePorts ds → Kept (port_decls ds) (AreSome IsPortDecl)
unfolding port_decls
kept_port_decls ds are =
    kept_while ArePorts _ _ _ (λ s hold x c is h. kept_port_turn s hold) (λ s hold. kept_after (mark 41) (λ _. kept_gives (s.before ++ s.last ∷ []) (some_push IsPortDecl s.before s.last hold.0 hold.1))) ds are

kept_name_header : (n : List ℕ) → IsName n → Kept (name_header n) IsHeader
unfolding name_header
kept_name_header n is = kept_then (kept_commas kept_name (mark 41) (n ∷ []) (one is)) (λ ns are. kept_gives (headers.Names ns) are.all)

kept_decl_header : Kept decl_header IsHeader
unfolding decl_header
kept_decl_header = kept_then kept_port_decl (λ d is. kept_then (kept_port_decls (record { before = []; last = d }) (tt, is)) (λ ds are. kept_gives (headers.Decls ds) are))

kept_some_header : Kept some_header IsHeader
unfolding some_header
kept_some_header = kept_if _ _ _ (λ x n is h. kept_name_header n (taken_name_is x.token is n h)) kept_decl_header

kept_header : Kept header IsHeader
unfolding header
kept_header = kept_mark 40 (kept_mark 41 (kept_gives (headers.Names []) tt) kept_some_header) (kept_gives (headers.Names []) tt)

-- ---- the parameters of a header

kept_param_group : Kept param_group IsParamGroup
unfolding param_group
kept_param_group =
    kept_after (keyword (codes "parameter")) (λ _. kept_then kept_param_type (λ t is_type. kept_then kept_param_set (λ s is_set.
    kept_gives _ (record { declaration = record { attrs = tt; kind = is_type; sets = one is_set }; plain = refl }))))

-- these groups are such
abbrev AreGroups : ParamGroups → Type 0
AreGroups gs = AllByRecursion IsParamGroup gs.before × IsParamGroup gs.last

set_added : (gs : ParamGroups) (s : ParamSet) → AreGroups gs → IsParamSet s → AreGroups (with_set gs s)
set_added gs s are is = (
  are.0,
  record {
    declaration = record { attrs = are.1.declaration.attrs; kind = are.1.declaration.kind; sets = some_push IsParamSet gs.last.sets s are.1.declaration.sets.all is };
    plain = are.1.plain;
  },
)

group_added : (gs : ParamGroups) (g : ParamDecl) → AreGroups gs → IsParamGroup g → AreGroups (with_group gs g)
group_added gs g are is = (AllByRecursion-push IsParamGroup gs.before gs.last are.0 are.1, is)

kept_more_set : (gs : ParamGroups) (n : List ℕ) → AreGroups gs → IsName n → Kept (more_set gs n) AreGroups
unfolding more_set
kept_more_set gs n are is_name = kept_after (mark 61) (λ _. kept_then kept_constant (λ v is_value. kept_gives _ (set_added gs (record { name = n; value = v }) are (record { name = is_name; value = is_value }))))

kept_param_turn : (gs : ParamGroups) → AreGroups gs → Kept (param_turn gs) AreGroups
unfolding param_turn
kept_param_turn gs are = kept_if _ _ _ (λ x n is h. kept_more_set gs n are (taken_name_is x.token is n h)) (kept_then kept_param_group (λ g is. kept_gives (with_group gs g) (group_added gs g are is)))

kept_param_groups : (gs : ParamGroups) → AreGroups gs → Kept (param_groups gs) (λ gs. AllByRecursion IsParamGroup gs)
unfolding param_groups
kept_param_groups gs are =
    kept_while AreGroups _ _ _ (λ s hold x c is h. kept_param_turn s hold) (λ s hold. kept_after (mark 41) (λ _. kept_gives (s.before ++ s.last ∷ []) (AllByRecursion-push IsParamGroup s.before s.last hold.0 hold.1))) gs are

kept_params_rest : Kept params_rest (λ gs. AllByRecursion IsParamGroup gs)
unfolding params_rest
kept_params_rest = kept_after (mark 40) (λ _. kept_then kept_param_group (λ g is. kept_param_groups (record { before = []; last = g }) (tt, is)))

kept_params : Kept params (λ gs. AllByRecursion IsParamGroup gs)
unfolding params
kept_params = kept_mark 35 kept_params_rest (kept_gives [] tt)

-- ---- modules

-- with what an item begins
abbrev IsItemStart : ItemStart → Type 0
IsItemStart at_group = ⊤
IsItemStart (at_module_name n) = IsName n
IsItemStart (at_word word) = ⊤

word_start_is : (o : Option ItemWord) (s : ItemStart) → word_start o ≡ takes s → IsItemStart s
word_start_is (Some word) s h = let same : at_word word ≡ s = cc in subst IsItemStart same tt
word_start_is None s h = absurd cc

item_start_is : (t : VToken) (s : ItemStart) → IsProper t → at_item t ≡ takes s → IsItemStart s
item_start_is (token.Name n) s is h = let same : at_module_name n ≡ s = cc in subst IsItemStart same is
item_start_is (token.Keyword w) s is h = word_start_is (say.meant_by item_words w) s h
item_start_is token.AttrStart s is h = let same : at_group ≡ s = cc in subst IsItemStart same tt
item_start_is (token.Number n) s is h = absurd cc
item_start_is (token.Real r) s is h = absurd cc
item_start_is (token.Based b) s is h = absurd cc
item_start_is (token.Str t) s is h = absurd cc
item_start_is (token.Punct b) s is h = absurd cc
item_start_is token.AttrStop s is h = absurd cc
item_start_is (token.Symbol b) s is h = absurd cc
item_start_is (token.Directive w) s is h = absurd cc

kept_item_rest : (s : ItemStart) → IsItemStart s → Kept (item_rest s) IsItem
unfolding item_rest
kept_item_rest at_group is = kept_then (kept_then (kept_group [] tt) (λ so_far are. kept_groups so_far are)) (λ attrs are. kept_item_of attrs are)
kept_item_rest (at_module_name m) is = kept_instances_item [] m tt is
kept_item_rest (at_word word) is = kept_word_item [] tt word

kept_module_items : (so_far : List ItemV) → AllByRecursion IsItem so_far → Kept (items so_far) (λ is. AllByRecursion IsItem is)
unfolding items
kept_module_items so_far all =
    kept_while (λ is. AllByRecursion IsItem is) _ _ _ (λ s are x c is h. kept_then (kept_item_rest c (item_start_is x.token c is h)) (λ i good. kept_gives (s ++ i ∷ []) (AllByRecursion-push IsItem s i are good)))
    (λ s are. kept_after (keyword (codes "endmodule")) (λ _. kept_gives s are)) so_far all

kept_module_rest : (implicit : Bool) (attrs : List Attr) → AreAttrs attrs → Kept (module_rest implicit attrs) IsModule
unfolding module_rest
kept_module_rest implicit attrs are =
    kept_then kept_name (λ n is_name. kept_then kept_params (λ ps are_params. kept_then kept_header (λ h is_header. kept_after (mark 59) (λ _. kept_then (kept_module_items [] tt) (λ is are_items.
    kept_gives _ (record { attrs = are; name = is_name; params = are_params; header = is_header; items = are_items }))))))

kept_module_of : (implicit : Bool) (attrs : List Attr) → AreAttrs attrs → Kept (module_of implicit attrs) IsModule
unfolding module_of
kept_module_of implicit attrs are = kept_after (keyword (codes "module")) (λ _. kept_module_rest implicit attrs are)

-- ---- the file

-- these modules are such
abbrev AreModules : SoFar → Type 0
AreModules s = AllByRecursion IsModule s.modules

module_added : (s : SoFar) (m : Module) → AreModules s → IsModule m → AreModules (with_module s m)
module_added s m are is = AllByRecursion-push IsModule s.modules m are is

kept_directive : (s : SoFar) → AreModules s → (w : List ℕ) → IfSome (directive_of w) (λ d. Kept (directive s d) AreModules)
unfolding directive
kept_directive s are w =
    choose (λ o. IfSome o (λ d. Kept (directive s d) AreModules)) (same_bytes w (codes "`default_nettype")) _ _ (kept_after net_type (λ implicit. kept_gives (with_implicit s implicit) are))
    (choose (λ o. IfSome o (λ d. Kept (directive s d) AreModules)) (same_bytes w (codes "`resetall")) _ _ (kept_gives (with_implicit s true) are) tt)

kept_piece_rest : (s : SoFar) → AreModules s → (t : VToken) (start : PieceStart) → at_piece t ≡ takes start → Kept (piece_rest s start) AreModules
unfolding piece_rest
kept_piece_rest s are =
    piece_cases (λ start. Kept (piece_rest s start) AreModules) (kept_directive s are)
    (kept_then (kept_then (kept_then (kept_group [] tt) (λ so_far all. kept_groups so_far all)) (λ attrs all. kept_module_of s.implicit attrs all)) (λ m is. kept_gives (with_module s m) (module_added s m are is)))
    (kept_then (kept_module_rest s.implicit [] tt) (λ m is. kept_gives (with_module s m) (module_added s m are is)))

kept_file : Kept file IsVlogValue
unfolding file pieces
kept_file = kept_while AreModules _ _ _ (λ s are x c is h. kept_piece_rest s are x.token c h) (λ s are. kept_gives _ are) (record { modules = []; implicit = true }) tt

kept_whole : Kept (whole say.trailing file) IsVlogValue
unfolding whole
kept_whole = kept_then kept_file (λ v is. kept_after (the_end say.trailing) (λ _. kept_gives v is))

-- A text of bytes reads as a file that can be written.
pub file_is_value : (bs : List ℕ) (v : VlogFile) → AreBytes bs → VlogReads bs v → IsVlogValue v
file_is_value bs v all reads = kept_whole.kept (stream_from place_at_start bs).tokens v (tokens_sound place_at_start bs all) reads.0
