-- From each place in a file some tokens lead to its end.
use Rattle.std.proofs.Common.{refl, ℕ, Bool, true, List, [], ◌∷◌, ◌++◌, codes}
use Rattle.grammar.specs.Part.{gives, sequence}
use Rattle.readers.specs.Parts.{while_next}
use Rattle.readers.proofs.Shapes.{live_one, live_if, live_while}
use Rattle.nl_base.specs.declared.value.Dir.TheVariants as dirs
use Rattle.vlog_tokens.specs.declared.token.VToken.TheVariants as token
use Rattle.vlog_values.specs.declared.expression.Attr.{Attr}
use Rattle.vlog_values.specs.declared.module.ItemV.{ItemV}
use Rattle.vlog_exprs.specs.Reasons as say
use Rattle.vlog_exprs.specs.Reasons.{meant_by}
use Rattle.vlog_exprs.specs.Grammar.{name, mark, keyword, choice, group, groups}
use Rattle.vlog_exprs.proofs.Live.{Lives, found, live_name, live_mark, live_after, live_commas, live_maybe_range, live_constant, live_groups}
use Rattle.vlog_items.proofs.Live.{live_signed, live_port_kind, live_param_type, live_param_set, live_word_item, live_instances_item, live_item}
use Rattle.vlog_modules.specs.declared.header.PortDecls.{PortDecls}
use Rattle.vlog_modules.specs.declared.parameter.ParamGroups.{ParamGroups}
use Rattle.vlog_modules.specs.declared.file.Directive.{Directive}
use Rattle.vlog_modules.specs.declared.file.Directive.TheVariants as directives
use Rattle.vlog_modules.specs.declared.file.SoFar.{SoFar}
use Rattle.vlog_modules.specs.Grammar.{dir_words, port_rest, port_decl, with_name, with_decl, port_turn, port_decls, name_header, decl_header, some_header, header, param_group, more_set, with_group, param_turn, param_groups, params_rest, params, ItemStart, at_group, at_module_name, at_word, at_item, item_rest, items, module_rest, module_of, net_type_of, net_type, directive, PieceStart, at_word_of, at_attributes, at_module, at_piece, piece_rest, pieces, file}

-- ---- headers

live_dir : Lives (choice dir_words)
unfolding meant_by
live_dir = live_one (λ _ x. say.choice_of dir_words x.token) tt (found (token.Keyword (codes "input"))) dirs.Input refl

live_port_decl : Lives port_decl
unfolding port_decl port_rest
live_port_decl = (live_groups [], λ a. (live_dir, λ d. (live_port_kind, λ k. (live_signed, λ s. (live_maybe_range, λ r. (live_name, λ n. tt))))))

live_port_turn : (ds : PortDecls) → Lives (port_turn ds)
unfolding port_turn
live_port_turn ds = live_if (λ _ x. say.at_name x.token) (λ n. gives (with_name ds n)) (sequence port_decl (λ d. gives (with_decl ds d))) tt (λ n. tt) (live_port_decl, λ d. tt)

live_port_decls : (ds : PortDecls) → Lives (port_decls ds)
unfolding port_decls
live_port_decls ds = live_while (λ _ _ x. say.at_mark 44 x.token) (λ ds _. port_turn ds) (λ ds. sequence (mark 41) (λ _. gives (ds.before ++ ds.last ∷ []))) ds tt (λ ds _. live_port_turn ds) (λ ds. (live_mark 41, λ _. tt))

live_name_header : (n : List ℕ) → Lives (name_header n)
unfolding name_header
live_name_header n = (live_commas name (mark 41) (n ∷ []) live_name (live_mark 41), λ ns. tt)

live_decl_header : Lives decl_header
unfolding decl_header
live_decl_header = (live_port_decl, λ d. (live_port_decls _, λ ds. tt))

live_some_header : Lives some_header
unfolding some_header
live_some_header = live_if (λ _ x. say.at_name x.token) name_header decl_header tt live_name_header live_decl_header

live_header : Lives header
unfolding header
live_header = live_after 40 _ _ (live_after 41 _ _ tt live_some_header) tt

-- ---- parameters

live_parameter : Lives (keyword (codes "parameter"))
live_parameter = live_one (λ _ x. say.keyword_of (codes "parameter") x.token) tt (found (token.Keyword (codes "parameter"))) tt refl

live_param_group : Lives param_group
unfolding param_group
live_param_group = (live_parameter, λ _. (live_param_type, λ t. (live_param_set, λ s. tt)))

live_more_set : (gs : ParamGroups) (n : List ℕ) → Lives (more_set gs n)
unfolding more_set
live_more_set gs n = (live_mark 61, λ _. (live_constant, λ v. tt))

live_param_turn : (gs : ParamGroups) → Lives (param_turn gs)
unfolding param_turn
live_param_turn gs = live_if (λ _ x. say.at_name x.token) (more_set gs) (sequence param_group (λ g. gives (with_group gs g))) tt (live_more_set gs) (live_param_group, λ g. tt)

live_param_groups : (gs : ParamGroups) → Lives (param_groups gs)
unfolding param_groups
live_param_groups gs = live_while (λ _ _ x. say.at_mark 44 x.token) (λ gs _. param_turn gs) (λ gs. sequence (mark 41) (λ _. gives (gs.before ++ gs.last ∷ []))) gs tt (λ gs _. live_param_turn gs) (λ gs. (live_mark 41, λ _. tt))

live_params_rest : Lives params_rest
unfolding params_rest
live_params_rest = (live_mark 40, λ _. (live_param_group, λ g. live_param_groups _))

live_params : Lives params
unfolding params
live_params = live_after 35 params_rest (gives []) live_params_rest tt

-- ---- modules

-- attributes behind their first token
live_group : Lives (group [])
unfolding groups while_next
live_group = (live_groups []).0 [] tt

live_behind : Lives (sequence (group []) groups)
live_behind = (live_group, λ a. live_groups a)

live_item_rest : (start : ItemStart) → Lives (item_rest start)
unfolding item_rest
live_item_rest at_group = (live_behind, λ a. live_item a)
live_item_rest (at_module_name m) = live_instances_item [] m
live_item_rest (at_word word) = live_word_item [] word

live_endmodule : Lives (keyword (codes "endmodule"))
live_endmodule = live_one (λ _ x. say.keyword_of (codes "endmodule") x.token) tt (found (token.Keyword (codes "endmodule"))) tt refl

live_items : (so_far : List ItemV) → Lives (items so_far)
unfolding items
live_items so_far = live_while (λ _ _ x. at_item x.token) (λ so_far start. sequence (item_rest start) (λ i. gives (so_far ++ i ∷ []))) (λ so_far. sequence (keyword (codes "endmodule")) (λ _. gives so_far)) so_far tt (λ s start. (live_item_rest start, λ i. tt)) (λ s. (live_endmodule, λ _. tt))

live_module_rest : (implicit : Bool) (attrs : List Attr) → Lives (module_rest implicit attrs)
unfolding module_rest
live_module_rest implicit attrs = (live_name, λ n. (live_params, λ ps. (live_header, λ h. (live_mark 59, λ _. (live_items [], λ is. tt)))))

live_module_word : Lives (keyword (codes "module"))
live_module_word = live_one (λ _ x. say.keyword_of (codes "module") x.token) tt (found (token.Keyword (codes "module"))) tt refl

live_module : (implicit : Bool) (attrs : List Attr) → Lives (module_of implicit attrs)
unfolding module_of
live_module implicit attrs = (live_module_word, λ _. live_module_rest implicit attrs)

-- ---- the file

live_net_type : Lives net_type
live_net_type = live_one (λ _ x. net_type_of x.token) tt (found (token.Keyword (codes "wire"))) true refl

live_directive : (s : SoFar) (d : Directive) → Lives (directive s d)
unfolding directive
live_directive s directives.Nettype = (live_net_type, λ implicit. tt)
live_directive s directives.Reset = tt

live_piece_rest : (s : SoFar) (start : PieceStart) → Lives (piece_rest s start)
unfolding piece_rest
live_piece_rest s (at_word_of d) = live_directive s d
live_piece_rest s at_attributes = ((live_behind, λ a. live_module s.implicit a), λ m. tt)
live_piece_rest s at_module = (live_module_rest s.implicit [], λ m. tt)

live_pieces : (s : SoFar) → Lives (pieces s)
unfolding pieces
live_pieces s = live_while (λ _ _ x. at_piece x.token) piece_rest (λ s. gives (record { modules = s.modules })) s tt live_piece_rest (λ s. tt)

-- A file is live.
pub live_file : Lives file
unfolding file
live_file = live_pieces _
