-- What the productions of modules and files refuse fits.
use Rattle.std.proofs.Common.{◌≡◌, ℕ, Bool, List, [], ◌∷◌, Err, subst}
use Rattle.std.specs.Prelude.{codes, IfSome}
use Rattle.grammar.specs.Part.{takes}
use Rattle.grammar.specs.Whole.{Terminal, proper, end, whole, the_end, end_of}
use Rattle.readers.specs.Parts.{if_next, while_next, at_token}
use Rattle.nl_base.specs.Case.{same_bytes}
use Rattle.vlog_tokens.specs.declared.token.VToken.{VToken}
use Rattle.nl_base.specs.declared.place.Place.{Place}
use Rattle.nl_base.specs.declared.value.Dir.{Dir}
use Rattle.nl_base.specs.declared.fault.Reason.{Reason}
use Rattle.vlog_values.specs.declared.expression.Attr.{Attr}
use Rattle.vlog_values.specs.declared.module.ItemV.{ItemV}
use Rattle.vlog_tokens.specs.declared.token.VFound.{VFound}
use Rattle.vlog_exprs.specs.Language.{Vlog}
use Rattle.vlog_exprs.specs.Reasons as say
use Rattle.vlog_exprs.specs.Reasons.{trailing}
use Rattle.vlog_exprs.specs.Grammar.{name, mark}
use Rattle.vlog_bounds.proofs.Starts.{PortDecls, ParamGroups, SoFar, choose, piece_cases}
use Rattle.vlog_modules.specs.Grammar.{dir_words, port_rest, port_decl, port_turn, port_decls, name_header, decl_header, some_header, header, param_group, more_set, param_turn, param_groups, params_rest, params, ItemStart, at_group, at_module_name, at_word, at_item, item_rest, items, module_rest, module_of, net_type_of, directive_of, directive, PieceStart, at_piece, piece_rest, pieces, file}
use Rattle.vlog_faults.specs.Fitting.{Fits}
use Rattle.grammar_laws.proofs.Ending.{IsToken}
use Rattle.grammar_laws.proofs.Refusing.{AllFit, fewer_fit}
use Rattle.vlog_faults.proofs.Judges.{one_fits, glance_fits_by, look_takes, at_name_fits, at_mark_fits, err_of, misplaced_fits}
use Rattle.vlog_faults.proofs.FileJudges.{at_item_fits, at_piece_fits, net_type_fits}
use Rattle.vlog_faults.proofs.Productions.{Fit, after_fit, mark_fit, commas_fit, constant_fit, group_fit, groups_fit, attrs_fit}
use Rattle.vlog_faults.proofs.ItemProductions.{name_fit, choice_fit, keyword_fit, maybe_range_fit, signed_fit, port_kind_fit, param_type_fit, param_set_fit, word_item_fit, instances_item_fit, item_fit}

port_rest_fit : (as_written : List Attr) (dir : Dir) → Fit (port_rest as_written dir)
unfolding port_rest
port_rest_fit as_written dir = (port_kind_fit, λ k. (signed_fit, λ s. (maybe_range_fit, λ r. (name_fit, λ n. tt))))

port_decl_fit : Fit port_decl
unfolding port_decl
port_decl_fit = (attrs_fit, λ as_written. (choice_fit dir_words, λ dir. port_rest_fit as_written dir))

port_turn_fit : (ds : PortDecls) → Fit (port_turn ds)
unfolding port_turn if_next
port_turn_fit ds = (λ x r e. glance_fits_by say.at_name at_name_fits x r e, λ x c e. look_takes say.at_name x c e, λ n. tt, (port_decl_fit, λ d. tt))

port_decls_fit : (ds : PortDecls) → Fit (port_decls ds)
unfolding port_decls while_next
port_decls_fit ds = (λ s x r e. glance_fits_by (say.at_mark 44) (at_mark_fits 44) x r e, λ s x c e. look_takes (say.at_mark 44) x c e, λ s x c e. port_turn_fit s, λ s. (mark_fit 41, λ u. tt))

name_header_fit : (n : List ℕ) → Fit (name_header n)
unfolding name_header
name_header_fit n = (commas_fit name (mark 41) (n ∷ []) name_fit (mark_fit 41), λ ns. tt)

decl_header_fit : Fit decl_header
unfolding decl_header
decl_header_fit = (port_decl_fit, λ d. (port_decls_fit (record { before = []; last = d }), λ ds. tt))

some_header_fit : Fit some_header
unfolding some_header if_next
some_header_fit = (λ x r e. glance_fits_by say.at_name at_name_fits x r e, λ x c e. look_takes say.at_name x c e, λ n. name_header_fit n, decl_header_fit)

header_fit : Fit header
unfolding header
header_fit = after_fit 40 _ _ (after_fit 41 _ some_header tt some_header_fit) tt

param_group_fit : Fit param_group
unfolding param_group
param_group_fit = (keyword_fit (codes "parameter"), λ u. (param_type_fit, λ t. (param_set_fit, λ s. tt)))

more_set_fit : (gs : ParamGroups) (n : List ℕ) → Fit (more_set gs n)
unfolding more_set
more_set_fit gs n = (mark_fit 61, λ u. (constant_fit, λ v. tt))

param_turn_fit : (gs : ParamGroups) → Fit (param_turn gs)
unfolding param_turn if_next
param_turn_fit gs = (λ x r e. glance_fits_by say.at_name at_name_fits x r e, λ x c e. look_takes say.at_name x c e, λ n. more_set_fit gs n, (param_group_fit, λ g. tt))

param_groups_fit : (gs : ParamGroups) → Fit (param_groups gs)
unfolding param_groups while_next
param_groups_fit gs = (λ s x r e. glance_fits_by (say.at_mark 44) (at_mark_fits 44) x r e, λ s x c e. look_takes (say.at_mark 44) x c e, λ s x c e. param_turn_fit s, λ s. (mark_fit 41, λ u. tt))

params_rest_fit : Fit params_rest
unfolding params_rest
params_rest_fit = (mark_fit 40, λ u. (param_group_fit, λ g. param_groups_fit (record { before = []; last = g })))

params_fit : Fit params
unfolding params
params_fit = after_fit 35 params_rest _ params_rest_fit tt

item_rest_fit : (start : ItemStart) → Fit (item_rest start)
unfolding item_rest
item_rest_fit at_group = ((group_fit [], λ so_far. groups_fit so_far), λ as_written. item_fit as_written)
item_rest_fit (at_module_name m) = instances_item_fit [] m
item_rest_fit (at_word word) = word_item_fit [] word

items_fit : (so_far : List ItemV) → Fit (items so_far)
unfolding items while_next
items_fit so_far = (λ s x r e. glance_fits_by at_item at_item_fits x r e, λ s x c e. look_takes at_item x c e, λ s x start e. (item_rest_fit start, λ i. tt), λ s. (keyword_fit (codes "endmodule"), λ u. tt))

module_rest_fit : (implicit : Bool) (as_written : List Attr) → Fit (module_rest implicit as_written)
unfolding module_rest
module_rest_fit implicit as_written = (name_fit, λ n. (params_fit, λ ps. (header_fit, λ h. (mark_fit 59, λ u. (items_fit [], λ is. tt)))))

module_of_fit : (implicit : Bool) (as_written : List Attr) → Fit (module_of implicit as_written)
unfolding module_of
module_of_fit implicit as_written = (keyword_fit (codes "module"), λ u. module_rest_fit implicit as_written)

directive_fit : (s : SoFar) (w : List ℕ) → IfSome (directive_of w) (λ d. Fit (directive s d))
unfolding directive
directive_fit s w =
    choose (λ o. IfSome o (λ d. Fit (directive s d))) (same_bytes w (codes "`default_nettype")) _ _ (one_fits net_type_of net_type_fits, λ implicit. tt)
    (choose (λ o. IfSome o (λ d. Fit (directive s d))) (same_bytes w (codes "`resetall")) _ _ tt tt)

piece_fit : (s : SoFar) (t : VToken) (start : PieceStart) → at_piece t ≡ takes start → Fit (piece_rest s start)
unfolding piece_rest
piece_fit s =
    piece_cases (λ start. Fit (piece_rest s start)) (directive_fit s)
    (((group_fit [], λ so_far. groups_fit so_far), λ as_written. module_of_fit s.implicit as_written), λ m. tt)
    (module_rest_fit s.implicit [], λ m. tt)

-- a directive or a module, by its first token
turn_fit : (s : SoFar) (x : Terminal VFound Place) (start : PieceStart) → at_token (λ (x : VFound). at_piece x.token) x ≡ takes start → Fit (piece_rest s start)
turn_fit s (proper x) start e = piece_fit s x.token start e
turn_fit s (end p) start e = absurd cc

pub file_fit : Fit file
unfolding file pieces while_next
file_fit = (λ s x r e. glance_fits_by at_piece at_piece_fits x r e, λ s x c e. look_takes at_piece x c e, λ s x start e. turn_fit s x start e, λ s. tt)

end_by : (x : Terminal VFound Place) (r : Reason) → end_of trailing x ≡ Err r → Fits x r
end_by (proper x) r e = subst (λ (z : Reason). Fits (proper x) z) (err_of {A = Unit {0}} (say.misplaced x.token) r e) (misplaced_fits x.token)
end_by (end p) r e = absurd cc

abbrev pub Every : Terminal VFound Place → Type 0
Every x = Unit {0}

-- of what is taken nothing is said: the end is taken too
any_token : {A : Type 0} (p : Vlog A) → Fit p → AllFit Fits Every tt p
any_token p h = fewer_fit Fits IsToken Every (λ x i. tt) tt p h

pub whole_fit : AllFit Fits Every tt (whole trailing file)
unfolding whole the_end
whole_fit = (any_token file file_fit, λ v. ((λ x r e. end_by x r e, λ x a e. tt), λ u. tt))
