-- The productions of modules and files are live by tokens that bytes can spell, and depend on no place; and so is a whole text.
use Rattle.std.proofs.Common.{◌≡◌, refl, ap, ℕ, Bool, true, List, [], ◌∷◌, ◌++◌, codes, Result, Err, arith}
use Rattle.std.specs.Prelude.{IfSome}
use Rattle.grammar.specs.Part.{gives, sequence, takes}
use Rattle.grammar.specs.Whole.{Terminal, proper, end, end_of, the_end, whole}
use Rattle.readers.specs.Parts.{at_token, while_next}
use Rattle.nl_base.specs.Case.{same_bytes}
use Rattle.nl_base.specs.declared.value.Dir.TheVariants as dirs
use Rattle.nl_base.specs.declared.fault.Reason.{Reason}
use Rattle.nl_base.specs.declared.place.Place.{Place}
use Rattle.nl_base.specs.Place.{place_at_start}
use Rattle.vlog_tokens.specs.Keywords.{is_keyword}
use Rattle.vlog_tokens.specs.declared.token.VFound.{VFound}
use Rattle.vlog_tokens.specs.declared.token.VToken.{VToken}
use Rattle.vlog_tokens.specs.declared.token.VToken.TheVariants as token
use Rattle.vlog_values.specs.declared.expression.Attr.{Attr}
use Rattle.vlog_values.specs.declared.module.ItemV.{ItemV}
use Rattle.vlog_exprs.specs.Reasons as say
use Rattle.vlog_exprs.specs.Reasons.{meant_by, trailing}
use Rattle.vlog_exprs.specs.Grammar.{name, mark, keyword, choice, group, groups}
use Rattle.vlog_bounds.proofs.Starts.{PortDecls, ParamGroups, SoFar, choose, piece_cases}
use Rattle.vlog_modules.specs.Grammar.{dir_words, port_rest, port_decl, with_name, with_decl, port_turn, port_decls, name_header, decl_header, some_header, header, param_group, more_set, with_group, param_turn, param_groups, params_rest, params, ItemStart, at_group, at_module_name, at_word, at_item, item_rest, items, module_rest, module_of, net_type_of, net_type, directive_of, directive, PieceStart, at_piece, piece_rest, pieces, file}
use Rattle.vlog_lexing.specs.Tokens.{IsWord}
use Rattle.vlog_writer.specs.Spelling.{is_simple}
use Rattle.vlog_goes_on.proofs.ExprsLive.{SameToken, Lives, look_alike, one_lives, if_lives, while_lives, name_lives, mark_lives, after_lives, commas_lives, maybe_range_lives, constant_lives, group_lives, groups_lives}
use Rattle.vlog_goes_on.proofs.ItemsLive.{input_word, signed_lives, port_kind_lives, param_type_lives, param_set_lives, word_item_lives, instances_item_lives, item_lives}

parameter_word : IsWord (codes "parameter")
unfolding is_simple is_keyword
parameter_word = record { simple = refl; keyword = refl; short = omega arith }

endmodule_word : IsWord (codes "endmodule")
unfolding is_simple is_keyword
endmodule_word = record { simple = refl; keyword = refl; short = omega arith }

module_word : IsWord (codes "module")
unfolding is_simple is_keyword
module_word = record { simple = refl; keyword = refl; short = omega arith }

wire_word : IsWord (codes "wire")
unfolding is_simple is_keyword
wire_word = record { simple = refl; keyword = refl; short = omega arith }

-- ---- headers

dir_lives : Lives (choice dir_words)
unfolding meant_by
dir_lives = one_lives (say.choice_of dir_words) (token.Keyword (codes "input")) dirs.Input refl input_word

port_decl_lives : Lives port_decl
unfolding port_decl port_rest
port_decl_lives =
    (groups_lives [], λ a. (dir_lives, λ d. (port_kind_lives, λ k. (signed_lives, λ s. (maybe_range_lives, λ r. (name_lives, λ n. tt))))))

port_turn_lives : (ds : PortDecls) → Lives (port_turn ds)
unfolding port_turn
port_turn_lives ds =
    if_lives say.at_name (λ n. gives (with_name ds n)) (sequence port_decl (λ d. gives (with_decl ds d))) (λ n. tt) (port_decl_lives, λ d. tt)

port_decls_lives : (ds : PortDecls) → Lives (port_decls ds)
unfolding port_decls while_next
port_decls_lives ds = (λ s. look_alike (say.at_mark 44), λ s x c i. port_turn_lives s, λ s. (mark_lives 41 refl, λ u. tt))

name_header_lives : (n : List ℕ) → Lives (name_header n)
unfolding name_header
name_header_lives n = (commas_lives name (mark 41) (n ∷ []) name_lives (mark_lives 41 refl), λ ns. tt)

decl_header_lives : Lives decl_header
unfolding decl_header
decl_header_lives = (port_decl_lives, λ d. (port_decls_lives _, λ ds. tt))

some_header_lives : Lives some_header
unfolding some_header
some_header_lives = if_lives say.at_name name_header decl_header name_header_lives decl_header_lives

header_lives : Lives header
unfolding header
header_lives = after_lives 40 _ _ (after_lives 41 _ _ tt some_header_lives) tt

-- ---- parameters

parameter_lives : Lives (keyword (codes "parameter"))
parameter_lives = one_lives (say.keyword_of (codes "parameter")) (token.Keyword (codes "parameter")) tt refl parameter_word

param_group_lives : Lives param_group
unfolding param_group
param_group_lives = (parameter_lives, λ _. (param_type_lives, λ t. (param_set_lives, λ s. tt)))

more_set_lives : (gs : ParamGroups) (n : List ℕ) → Lives (more_set gs n)
unfolding more_set
more_set_lives gs n = (mark_lives 61 refl, λ _. (constant_lives, λ v. tt))

param_turn_lives : (gs : ParamGroups) → Lives (param_turn gs)
unfolding param_turn
param_turn_lives gs =
    if_lives say.at_name (more_set gs) (sequence param_group (λ g. gives (with_group gs g))) (more_set_lives gs) (param_group_lives, λ g. tt)

param_groups_lives : (gs : ParamGroups) → Lives (param_groups gs)
unfolding param_groups while_next
param_groups_lives gs = (λ s. look_alike (say.at_mark 44), λ s x c i. param_turn_lives s, λ s. (mark_lives 41 refl, λ u. tt))

params_rest_lives : Lives params_rest
unfolding params_rest
params_rest_lives = (mark_lives 40 refl, λ _. (param_group_lives, λ g. param_groups_lives _))

params_lives : Lives params
unfolding params
params_lives = after_lives 35 params_rest (gives []) params_rest_lives tt

-- ---- modules

-- attributes behind their first token
behind_lives : Lives (sequence (group []) groups)
behind_lives = (group_lives [], λ a. groups_lives a)

item_rest_lives : (start : ItemStart) → Lives (item_rest start)
unfolding item_rest
item_rest_lives at_group = (behind_lives, λ a. item_lives a)
item_rest_lives (at_module_name m) = instances_item_lives [] m
item_rest_lives (at_word word) = word_item_lives [] word

endmodule_lives : Lives (keyword (codes "endmodule"))
endmodule_lives = one_lives (say.keyword_of (codes "endmodule")) (token.Keyword (codes "endmodule")) tt refl endmodule_word

items_lives : (so_far : List ItemV) → Lives (items so_far)
unfolding items
items_lives so_far =
    while_lives at_item (λ so_far start. sequence (item_rest start) (λ i. gives (so_far ++ i ∷ []))) (λ so_far. sequence (keyword (codes "endmodule")) (λ _. gives so_far)) so_far (λ s start. (item_rest_lives start, λ i. tt)) (λ s. (endmodule_lives, λ _. tt))

module_rest_lives : (implicit : Bool) (attrs : List Attr) → Lives (module_rest implicit attrs)
unfolding module_rest
module_rest_lives implicit attrs = (name_lives, λ n. (params_lives, λ ps. (header_lives, λ h. (mark_lives 59 refl, λ _. (items_lives [], λ is. tt)))))

module_keyword_lives : Lives (keyword (codes "module"))
module_keyword_lives = one_lives (say.keyword_of (codes "module")) (token.Keyword (codes "module")) tt refl module_word

module_lives : (implicit : Bool) (attrs : List Attr) → Lives (module_of implicit attrs)
unfolding module_of
module_lives implicit attrs = (module_keyword_lives, λ _. module_rest_lives implicit attrs)

-- ---- the file

net_type_lives : Lives net_type
net_type_lives = one_lives net_type_of (token.Keyword (codes "wire")) true refl wire_word

directive_lives : (s : SoFar) (w : List ℕ) → IfSome (directive_of w) (λ d. Lives (directive s d))
unfolding directive
directive_lives s w =
    choose (λ o. IfSome o (λ d. Lives (directive s d))) (same_bytes w (codes "`default_nettype")) _ _ (net_type_lives, λ implicit. tt)
    (choose (λ o. IfSome o (λ d. Lives (directive s d))) (same_bytes w (codes "`resetall")) _ _ tt tt)

piece_lives : (s : SoFar) (t : VToken) (start : PieceStart) → at_piece t ≡ takes start → Lives (piece_rest s start)
unfolding piece_rest
piece_lives s =
    piece_cases (λ start. Lives (piece_rest s start)) (directive_lives s) ((behind_lives, λ a. module_lives s.implicit a), λ m. tt) (module_rest_lives s.implicit [], λ m. tt)

-- a directive or a module, by its first token
turn_lives : (s : SoFar) (x : Terminal VFound Place) (start : PieceStart) → at_token (λ (x : VFound). at_piece x.token) x ≡ takes start
    → Lives (piece_rest s start)
turn_lives s (proper x) start e = piece_lives s x.token start e
turn_lives s (end p) start e = absurd cc

file_lives : Lives file
unfolding file pieces while_next
file_lives = (λ s. look_alike at_piece, λ s x start e. turn_lives s x start e, λ s. tt)

-- a token where the end is due
abbrev refused_end : VToken → Result (Unit {0}) Reason
refused_end t = Err (say.misplaced t)

end_alike : (x y : Terminal VFound Place) → SameToken x y → end_of trailing x ≡ end_of trailing y
end_alike (proper x) (proper y) e = ap refused_end e
end_alike (proper x) (end q) e = absurd e
end_alike (end p) (proper y) e = absurd e
end_alike (end p) (end q) e = refl

-- a whole text, with the end of the input
pub text_lives : Lives (whole trailing file)
unfolding whole the_end
text_lives = (file_lives, λ v. (((end place_at_start, tt, refl, tt), end_alike), λ _. tt))
