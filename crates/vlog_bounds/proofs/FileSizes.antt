-- Headers, modules and files have no more items than tokens.
use Rattle.std.proofs.Common.{◌≡◌, ℕ, suc, ◌+◌, ◌≤◌, Bool, true, List, [], ◌∷◌, ◌++◌, length, length-append, codes, arith}
use Rattle.std.specs.Prelude.{IfSome}
use Rattle.grammar.specs.Part.{takes}
use Rattle.nl_base.specs.Case.{same_bytes}
use Rattle.nl_base.specs.declared.value.Dir.{Dir}
use Rattle.vlog_values.specs.declared.expression.Attr.{Attr}
use Rattle.vlog_values.specs.declared.module.Header.TheVariants as headers
use Rattle.vlog_values.specs.declared.module.ItemV.{ItemV}
use Rattle.vlog_values.specs.declared.module.Module.{Module}
use Rattle.vlog_values.specs.Sizes.{list_size, port_size, param_size, item_size, header_size, module_size, vlog_size}
use Rattle.vlog_tokens.specs.declared.token.VToken.{VToken}
use Rattle.vlog_exprs.specs.Grammar.{name, mark, keyword, choice, maybe_range, constant}
use Rattle.vlog_items.specs.Grammar.{signed, port_kind, param_type, param_set}
use Rattle.vlog_modules.specs.Grammar.{dir_words, port_rest, port_decl, with_name, with_decl, port_turn, port_decls, name_header, decl_header, some_header, header, param_group, with_group, more_set, param_turn, param_groups, params_rest, params, ItemStart, at_group, at_module_name, at_word, item_rest, items, module_rest, module_of, net_type, directive_of, directive, with_module, with_implicit, PieceStart, at_piece, piece_rest, pieces, file}
use Rattle.vlog_bounds.proofs.Starts.{PortDecls, ParamGroups, SoFar, choose, piece_cases}
use Rattle.vlog_bounds.proofs.Bounds.{Bounded, bounded_gives, bounded_then, bounded_after, bounded_behind, bounded_more, bounded_pred, bounded_suc, bounded_one, bounded_if, bounded_while, bounded_mark, one_item, bounded_commas, held_none, bounded_free, length_within}
use Rattle.vlog_bounds.proofs.ItemSizes.{bounded_name, bounded_due, bounded_group, bounded_groups, bounded_attrs, bounded_word_item, bounded_instances_item, bounded_item}

-- ---- the ports of a header

bounded_dir : Bounded (choice dir_words) (λ _. 1) 0
bounded_dir = bounded_one _

bounded_port_rest : (attrs : List Attr) (dir : Dir) → Bounded (port_rest attrs dir) port_size (length attrs)
unfolding port_rest
bounded_port_rest attrs dir =
    bounded_after port_kind (λ k. bounded_after signed (λ s. bounded_after maybe_range (λ r. bounded_then (bounded_behind (length attrs) bounded_name) (λ n. bounded_gives _ (omega arith)))))

-- the direction is the token of the declaration itself
bounded_port_decl : Bounded port_decl (λ d. suc (port_size d)) 0
unfolding port_decl
bounded_port_decl =
    bounded_then bounded_attrs (λ attrs. bounded_then (bounded_behind (length attrs) bounded_dir) (λ dir. bounded_more (1 + length attrs) (omega arith) (bounded_suc (bounded_port_rest attrs dir))))

-- declarations so far
abbrev ports_size : PortDecls → ℕ
ports_size ds = list_size port_size ds.before + suc (port_size ds.last)

bounded_port_turn : (ds : PortDecls) → Bounded (port_turn ds) ports_size (suc (ports_size ds))
unfolding port_turn
bounded_port_turn ds =
    bounded_if _ _ _ (λ x n h. bounded_gives (with_name ds n) (let l = length-append ds.last.names (n ∷ []) in omega (arith, l)))
    (bounded_then (bounded_behind (suc (ports_size ds)) bounded_port_decl) (λ d. bounded_gives (with_decl ds d) (let o = one_item port_size ds.before ds.last in omega (arith, o))))

bounded_port_decls : (ds : PortDecls) → Bounded (port_decls ds) (list_size port_size) (ports_size ds)
unfolding port_decls
bounded_port_decls ds =
    bounded_while ports_size _ _ _ (λ s x c h. bounded_port_turn s) (λ s. bounded_after (mark 41) (λ _. bounded_gives (s.before ++ s.last ∷ []) (let o = one_item port_size s.before s.last in omega (arith, o)))) ds

bounded_name_header : (n : List ℕ) → Bounded (name_header n) header_size 0
unfolding name_header
bounded_name_header n = bounded_then (bounded_pred (bounded_more 1 (omega arith) (bounded_commas held_none (bounded_free name) (bounded_due 41) (n ∷ [])))) (λ ns. bounded_gives (headers.Names ns) (length_within ns))

bounded_decl_header : Bounded decl_header header_size 0
unfolding decl_header
bounded_decl_header = bounded_then bounded_port_decl (λ d. bounded_then (bounded_more (suc (port_size d)) (omega arith) (bounded_port_decls (record { before = []; last = d }))) (λ ds. bounded_gives (headers.Decls ds) (omega arith)))

bounded_some_header : Bounded some_header header_size 0
unfolding some_header
bounded_some_header = bounded_if _ _ _ (λ x n h. bounded_more 1 (omega arith) (bounded_name_header n)) bounded_decl_header

bounded_header : Bounded header header_size 0
unfolding header
bounded_header = bounded_mark 40 (bounded_mark 41 (bounded_gives (headers.Names []) (omega arith)) bounded_some_header) (bounded_gives (headers.Names []) (omega arith))

-- ---- the parameters of a header

bounded_parameter : Bounded (keyword (codes "parameter")) (λ _. 1) 0
bounded_parameter = bounded_one _

bounded_param_set : Bounded param_set (λ _. 1) 0
unfolding param_set
bounded_param_set = bounded_then bounded_name (λ n. bounded_after (mark 61) (λ _. bounded_after constant (λ v. bounded_gives _ (omega arith))))

-- `parameter` is the token of the group itself
bounded_param_group : Bounded param_group (λ g. suc (param_size g)) 0
unfolding param_group
bounded_param_group = bounded_then bounded_parameter (λ _. bounded_after param_type (λ t. bounded_then (bounded_behind 1 bounded_param_set) (λ s. bounded_gives _ (omega arith))))

-- groups so far
abbrev groups_size : ParamGroups → ℕ
groups_size gs = list_size param_size gs.before + suc (param_size gs.last)

bounded_more_set : (gs : ParamGroups) (n : List ℕ) → Bounded (more_set gs n) groups_size (suc (groups_size gs))
unfolding more_set
bounded_more_set gs n = bounded_after (mark 61) (λ _. bounded_after constant (λ v. bounded_gives _ (let l = length-append gs.last.sets (record { name = n; value = v } ∷ []) in omega (arith, l))))

bounded_param_turn : (gs : ParamGroups) → Bounded (param_turn gs) groups_size (suc (groups_size gs))
unfolding param_turn
bounded_param_turn gs =
    bounded_if _ _ _ (λ x n h. bounded_more (suc (suc (groups_size gs))) (omega arith) (bounded_more_set gs n))
    (bounded_then (bounded_behind (suc (groups_size gs)) bounded_param_group) (λ g. bounded_gives (with_group gs g) (let o = one_item param_size gs.before gs.last in omega (arith, o))))

bounded_param_groups : (gs : ParamGroups) → Bounded (param_groups gs) (list_size param_size) (groups_size gs)
unfolding param_groups
bounded_param_groups gs =
    bounded_while groups_size _ _ _ (λ s x c h. bounded_param_turn s) (λ s. bounded_after (mark 41) (λ _. bounded_gives (s.before ++ s.last ∷ []) (let o = one_item param_size s.before s.last in omega (arith, o)))) gs

bounded_params_rest : Bounded params_rest (list_size param_size) 0
unfolding params_rest
bounded_params_rest = bounded_after (mark 40) (λ _. bounded_then bounded_param_group (λ g. bounded_more (suc (param_size g)) (omega arith) (bounded_param_groups (record { before = []; last = g }))))

bounded_params : Bounded params (list_size param_size) 0
unfolding params
bounded_params = bounded_mark 35 bounded_params_rest (bounded_gives [] (omega arith))

-- ---- modules

bounded_item_rest : (s : ItemStart) → Bounded (item_rest s) item_size 0
unfolding item_rest
bounded_item_rest at_group = bounded_then (bounded_then (bounded_group []) bounded_groups) bounded_item
bounded_item_rest (at_module_name m) = bounded_instances_item [] m
bounded_item_rest (at_word word) = bounded_word_item [] word

bounded_module_items : (s : List ItemV) → Bounded (items s) (list_size item_size) (list_size item_size s)
unfolding items
bounded_module_items s =
    bounded_while (list_size item_size) _ _ _ (λ s x c h. bounded_then (bounded_behind (suc (list_size item_size s)) (bounded_item_rest c)) (λ i. bounded_gives (s ++ i ∷ []) (one_item item_size s i)))
    (λ s. bounded_after (keyword (codes "endmodule")) (λ _. bounded_gives s (omega arith))) s

bounded_module_rest : (implicit : Bool) (attrs : List Attr) → Bounded (module_rest implicit attrs) module_size (length attrs)
unfolding module_rest
bounded_module_rest implicit attrs =
    bounded_after name (λ n. bounded_then (bounded_behind (length attrs) bounded_params) (λ ps. bounded_then (bounded_behind (list_size param_size ps + length attrs) bounded_header) (λ h. bounded_after (mark 59) (λ _.
    bounded_then (bounded_behind (header_size h + (list_size param_size ps + length attrs)) (bounded_module_items [])) (λ is. bounded_gives _ (omega arith))))))

bounded_module_of : (implicit : Bool) (attrs : List Attr) → Bounded (module_of implicit attrs) module_size (length attrs)
unfolding module_of
bounded_module_of implicit attrs = bounded_after (keyword (codes "module")) (λ _. bounded_module_rest implicit attrs)

-- ---- the file

-- the modules so far
abbrev modules_size : SoFar → ℕ
modules_size s = list_size module_size s.modules

-- a module behind others
bounded_added : (s : SoFar) (m : Module) → modules_size (with_module s m) ≤ module_size m + suc (modules_size s)
bounded_added s m = one_item module_size s.modules m

bounded_directive : (s : SoFar) (w : List ℕ) → IfSome (directive_of w) (λ d. Bounded (directive s d) modules_size (suc (modules_size s)))
unfolding directive
bounded_directive s w =
    choose (λ o. IfSome o (λ d. Bounded (directive s d) modules_size (suc (modules_size s)))) (same_bytes w (codes "`default_nettype")) _ _ (bounded_after net_type (λ implicit. bounded_gives (with_implicit s implicit) (omega arith)))
    (choose (λ o. IfSome o (λ d. Bounded (directive s d) modules_size (suc (modules_size s)))) (same_bytes w (codes "`resetall")) _ _ (bounded_gives (with_implicit s true) (omega arith)) tt)

bounded_piece_rest : (s : SoFar) (t : VToken) (start : PieceStart) → at_piece t ≡ takes start → Bounded (piece_rest s start) modules_size (suc (modules_size s))
unfolding piece_rest
bounded_piece_rest s =
    piece_cases (λ start. Bounded (piece_rest s start) modules_size (suc (modules_size s))) (bounded_directive s)
    (bounded_then (bounded_behind (suc (modules_size s)) (bounded_then (bounded_then (bounded_group []) bounded_groups) (λ attrs. bounded_module_of s.implicit attrs))) (λ m. bounded_gives (with_module s m) (bounded_added s m)))
    (bounded_then (bounded_behind (suc (modules_size s)) (bounded_module_rest s.implicit [])) (λ m. bounded_gives (with_module s m) (bounded_added s m)))

pub bounded_file : Bounded file vlog_size 0
unfolding file pieces vlog_size
bounded_file = bounded_while modules_size _ _ _ (λ s x c h. bounded_piece_rest s x.token c h) (λ s. bounded_gives _ (omega arith)) (record { modules = []; implicit = true })
