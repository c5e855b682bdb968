-- What the items of a module spell from the tokens of a text are such as can be written.
use Rattle.std.proofs.Common.{ℕ, true, false, List, [], ◌∷◌, Option, Some, None, arith}
use Rattle.std.specs.Prelude.{IfSome}
use Rattle.std.specs.List.{AllByRecursion}
use Rattle.nl_base.specs.declared.value.Dir.{Dir}
use Rattle.vlog_values.specs.declared.expression.Attr.{Attr}
use Rattle.vlog_values.specs.declared.expression.Expr.{Expr}
use Rattle.vlog_values.specs.declared.declaration.NetKind.{NetKind}
use Rattle.vlog_values.specs.declared.statement.Conns.TheVariants as conns_of
use Rattle.vlog_values.specs.declared.module.ItemV.TheVariants as items
use Rattle.vlog_values.specs.Values.{IsName, AreAttrs, IsExpr, IsPortDecl, IsNetDecl, IsParamType, IsParamSet, IsParamDecl, IsNamedConn, IsConns, IsInstance, AreInstances, IsAssignment, AreAssigns, IsDefSet, AreDefparams, IsItem}
use Rattle.vlog_exprs.specs.Grammar.{mark, choice}
use Rattle.vlog_items.specs.declared.item.ItemWord.{ItemWord}
use Rattle.vlog_items.specs.declared.item.ItemWord.TheVariants as words
use Rattle.vlog_items.specs.Grammar.{signed, port_kind, param_type_words, plain_type, param_type, param_set, port_item, net_item, param_item, assignment, assigns, named_rest, named, order_of, named_conns, ordered_conns, conns, instance, override_rest, override_set, overrides, instances, def_value, def_set, defparams, item_words, word_item, instances_item, item}
use Rattle.vlog_exprs.proofs.Known.{taken_name_is}
use Rattle.vlog_bounds.proofs.Kept.{Kept, kept_gives, kept_then, kept_after, kept_weaker, kept_if, kept_name, choice_is, kept_mark, kept_commas, kept_list}
use Rattle.vlog_bounds.proofs.Expressions.{kept_maybe_range, kept_expr, kept_maybe_expr, kept_constant}

-- ---- declarations

kept_plain_type : Kept plain_type IsParamType
unfolding plain_type
kept_plain_type = kept_after signed (λ s. kept_then kept_maybe_range (λ r is. kept_gives _ is))

pub kept_param_type : Kept param_type IsParamType
unfolding param_type
kept_param_type = kept_if _ _ _ (λ x t is h. kept_gives t (choice_is IsParamType param_type_words (tt, (tt, tt)) x.token t h)) kept_plain_type

pub kept_param_set : Kept param_set IsParamSet
unfolding param_set
kept_param_set = kept_then kept_name (λ n is_name. kept_after (mark 61) (λ _. kept_then kept_constant (λ v is_value. kept_gives _ (record { name = is_name; value = is_value }))))

kept_port_item : (attrs : List Attr) (dir : Dir) → AreAttrs attrs → Kept (port_item attrs dir) IsPortDecl
unfolding port_item
kept_port_item attrs dir are =
    kept_after port_kind (λ k. kept_after signed (λ s. kept_then kept_maybe_range (λ r is_range. kept_then (kept_list kept_name (mark 59)) (λ ns are_names. kept_gives _ (record { attrs = are; range = is_range; names = are_names })))))

kept_net_item : (attrs : List Attr) (kind : NetKind) → AreAttrs attrs → Kept (net_item attrs kind) IsNetDecl
unfolding net_item
kept_net_item attrs kind are =
    kept_after signed (λ s. kept_then kept_maybe_range (λ r is_range. kept_then (kept_list kept_name (mark 59)) (λ ns are_names. kept_gives _ (record { attrs = are; range = is_range; names = are_names }))))

kept_param_item : (attrs : List Attr) → AreAttrs attrs → Kept (param_item attrs) IsParamDecl
unfolding param_item
kept_param_item attrs are = kept_then kept_param_type (λ t is_type. kept_then (kept_list kept_param_set (mark 59)) (λ ss are_sets. kept_gives _ (record { attrs = are; kind = is_type; sets = are_sets })))

-- ---- assignments

kept_assignment : Kept assignment IsAssignment
unfolding assignment
kept_assignment = kept_then (kept_expr true) (λ l is_left. kept_after (mark 61) (λ _. kept_then (kept_expr false) (λ r is_right. kept_gives _ (record { left = is_left.within; assignable = is_left.side; right = is_right.within }))))

kept_assigns : (attrs : List Attr) → AreAttrs attrs → Kept (assigns attrs) AreAssigns
unfolding assigns
kept_assigns attrs are = kept_then (kept_list kept_assignment (mark 59)) (λ ss are_sets. kept_gives _ (record { attrs = are; sets = are_sets }))

-- ---- connections

kept_named_rest : Kept named_rest IsNamedConn
unfolding named_rest
kept_named_rest =
    kept_then kept_name (λ n is_name. kept_after (mark 40) (λ _. kept_then kept_maybe_expr (λ e is_expr. kept_after (mark 41) (λ _. kept_gives _ (record { port = is_name; value = is_expr })))))

kept_named : Kept named IsNamedConn
unfolding named
kept_named = kept_after (mark 46) (λ _. kept_named_rest)

kept_named_conns : Kept named_conns IsConns
unfolding named_conns
kept_named_conns = kept_then kept_named_rest (λ first is. kept_then (kept_commas kept_named (mark 41) (first ∷ []) (record { some = omega arith; all = (is, tt) })) (λ all are. kept_gives (conns_of.Named all) are))

-- one lone open connection is left out
order_kept : (es : List (Option Expr)) → AllByRecursion (λ e. IfSome e IsExpr) es → IsConns (conns_of.Order (order_of es))
order_kept [] all = (tt, λ h. h)
order_kept (None ∷ []) all = (tt, λ h. h)
order_kept (None ∷ e ∷ es) all = (all, λ h. h)
order_kept (Some e ∷ es) all = (all, λ h. h)

kept_ordered_conns : Kept ordered_conns IsConns
unfolding ordered_conns
kept_ordered_conns = kept_then (kept_list kept_maybe_expr (mark 41)) (λ es are. kept_gives (conns_of.Order (order_of es)) (order_kept es are.all))

kept_conns : Kept conns IsConns
unfolding conns
kept_conns = kept_mark 46 kept_named_conns kept_ordered_conns

-- ---- instances

kept_instance : Kept instance IsInstance
unfolding instance
kept_instance = kept_then kept_name (λ n is_name. kept_after (mark 40) (λ _. kept_then kept_conns (λ cs are. kept_gives _ (record { name = is_name; conns = are }))))

kept_override_rest : Kept override_rest IsParamSet
unfolding override_rest
kept_override_rest =
    kept_then kept_name (λ n is_name. kept_after (mark 40) (λ _. kept_then kept_constant (λ v is_value. kept_after (mark 41) (λ _. kept_gives _ (record { name = is_name; value = is_value })))))

kept_override_set : Kept override_set IsParamSet
unfolding override_set
kept_override_set = kept_after (mark 46) (λ _. kept_override_rest)

kept_overrides : Kept overrides (λ ps. AllByRecursion IsParamSet ps)
unfolding overrides
kept_overrides = kept_mark 35 (kept_after (mark 40) (λ _. kept_weaker (kept_list kept_override_set (mark 41)) (λ ps are. are.all))) (kept_gives [] tt)

kept_instances : (attrs : List Attr) (m : List ℕ) → AreAttrs attrs → IsName m → Kept (instances attrs m) AreInstances
unfolding instances
kept_instances attrs m are is_name =
    kept_then kept_overrides (λ ps are_params. kept_then (kept_list kept_instance (mark 59)) (λ us are_instances. kept_gives _ (record { attrs = are; of_module = is_name; params = are_params; insts = are_instances })))

-- ---- defparam

kept_def_value : (u : List ℕ) → IsName u → Kept (def_value u) IsDefSet
unfolding def_value
kept_def_value u is_instance = kept_then kept_name (λ n is_name. kept_after (mark 61) (λ _. kept_then kept_constant (λ v is_value. kept_gives _ (record { instance = is_instance; name = is_name; value = is_value }))))

kept_def_set : Kept def_set IsDefSet
unfolding def_set
kept_def_set = kept_then kept_name (λ u is_name. kept_after (mark 46) (λ _. kept_def_value u is_name))

kept_defparams : (attrs : List Attr) → AreAttrs attrs → Kept (defparams attrs) AreDefparams
unfolding defparams
kept_defparams attrs are = kept_then (kept_list kept_def_set (mark 59)) (λ ss are_sets. kept_gives _ (record { attrs = are; sets = are_sets }))

-- ---- items

pub kept_word_item : (attrs : List Attr) → AreAttrs attrs → (word : ItemWord) → Kept (word_item attrs word) IsItem
unfolding word_item
kept_word_item attrs are (words.Port dir) = kept_then (kept_port_item attrs dir are) (λ d is. kept_gives (items.Port d) is)
kept_word_item attrs are (words.Net kind) = kept_then (kept_net_item attrs kind are) (λ d is. kept_gives (items.Net d) is)
kept_word_item attrs are words.Param = kept_then (kept_param_item attrs are) (λ d is. kept_gives (items.Param d) is)
kept_word_item attrs are words.Assign = kept_then (kept_assigns attrs are) (λ s is. kept_gives (items.Assign s) is)
kept_word_item attrs are words.Defparam = kept_then (kept_defparams attrs are) (λ s is. kept_gives (items.Defparam s) is)

pub kept_instances_item : (attrs : List Attr) (m : List ℕ) → AreAttrs attrs → IsName m → Kept (instances_item attrs m) IsItem
unfolding instances_item
kept_instances_item attrs m are is_name = kept_then (kept_instances attrs m are is_name) (λ s is. kept_gives (items.Instances s) is)

pub kept_item_of : (attrs : List Attr) → AreAttrs attrs → Kept (item attrs) IsItem
unfolding item
kept_item_of attrs are = kept_if _ _ _ (λ x m is h. kept_instances_item attrs m are (taken_name_is x.token is m h)) (kept_after (choice item_words) (λ word. kept_word_item attrs are word))
