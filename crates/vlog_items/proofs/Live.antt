-- From each place in an item some tokens lead to its end.
use Rattle.std.proofs.Common.{refl, ℕ, true, false, List, [], ◌∷◌, codes}
use Rattle.grammar.specs.Part.{gives, sequence}
use Rattle.readers.specs.Parts.{maybe}
use Rattle.readers.proofs.Shapes.{live_one, live_if}
use Rattle.nl_base.specs.declared.value.Dir.{Dir}
use Rattle.nl_base.specs.declared.value.Dir.TheVariants as dirs
use Rattle.vlog_tokens.specs.declared.token.VToken.TheVariants as token
use Rattle.vlog_values.specs.declared.expression.Attr.{Attr}
use Rattle.vlog_values.specs.declared.declaration.NetKind.{NetKind}
use Rattle.vlog_exprs.specs.Reasons as say
use Rattle.vlog_exprs.specs.Reasons.{meant_by}
use Rattle.vlog_exprs.specs.Grammar.{name, mark, choice, list, maybe_expr}
use Rattle.vlog_exprs.proofs.Live.{Lives, found, live_name, live_mark, live_after, live_commas, live_list, live_maybe_range, live_expr, live_maybe_expr, live_constant}
use Rattle.vlog_items.specs.declared.item.ItemWord.{ItemWord}
use Rattle.vlog_items.specs.declared.item.ItemWord.TheVariants as words
use Rattle.vlog_items.specs.Grammar.{signed, port_kind, param_type_words, plain_type, param_type, param_set, port_item, net_item, param_item, assignment, assigns, named_rest, named, named_conns, ordered_conns, conns, instance, override_rest, override_set, overrides, instances, def_value, def_set, defparams, item_words, word_item, instances_item, item}

pub live_signed : Lives signed
unfolding signed maybe
live_signed = ((λ _. tt, tt), λ _. tt)

pub live_port_kind : Lives port_kind
unfolding port_kind maybe
live_port_kind = (λ _. tt, tt)

live_plain_type : Lives plain_type
unfolding plain_type
live_plain_type = (live_signed, λ s. (live_maybe_range, λ r. tt))

pub live_param_type : Lives param_type
unfolding param_type
live_param_type = live_if (λ _ x. say.at_choice param_type_words x.token) (λ t. gives t) plain_type tt (λ _. tt) live_plain_type

pub live_param_set : Lives param_set
unfolding param_set
live_param_set = (live_name, λ n. (live_mark 61, λ _. (live_constant, λ v. tt)))

live_port_item : (attrs : List Attr) (dir : Dir) → Lives (port_item attrs dir)
unfolding port_item
live_port_item attrs dir = (live_port_kind, λ k. (live_signed, λ s. (live_maybe_range, λ r. (live_list name (mark 59) live_name (live_mark 59), λ ns. tt))))

live_net_item : (attrs : List Attr) (kind : NetKind) → Lives (net_item attrs kind)
unfolding net_item
live_net_item attrs kind = (live_signed, λ s. (live_maybe_range, λ r. (live_list name (mark 59) live_name (live_mark 59), λ ns. tt)))

live_param_item : (attrs : List Attr) → Lives (param_item attrs)
unfolding param_item
live_param_item attrs = (live_param_type, λ t. (live_list param_set (mark 59) live_param_set (live_mark 59), λ ss. tt))

live_assignment : Lives assignment
unfolding assignment
live_assignment = (live_expr true 64, λ l. (live_mark 61, λ _. (live_expr false 64, λ r. tt)))

live_assigns : (attrs : List Attr) → Lives (assigns attrs)
unfolding assigns
live_assigns attrs = (live_list assignment (mark 59) live_assignment (live_mark 59), λ ss. tt)

live_named_rest : Lives named_rest
unfolding named_rest
live_named_rest = (live_name, λ n. (live_mark 40, λ _. (live_maybe_expr, λ e. (live_mark 41, λ _. tt))))

live_named : Lives named
unfolding named
live_named = (live_mark 46, λ _. live_named_rest)

live_named_conns : Lives named_conns
unfolding named_conns
live_named_conns = (live_named_rest, λ first. (live_commas named (mark 41) (first ∷ []) live_named (live_mark 41), λ all. tt))

live_ordered_conns : Lives ordered_conns
unfolding ordered_conns
live_ordered_conns = (live_list maybe_expr (mark 41) live_maybe_expr (live_mark 41), λ es. tt)

live_conns : Lives conns
unfolding conns
live_conns = live_after 46 named_conns ordered_conns live_named_conns live_ordered_conns

live_instance : Lives instance
unfolding instance
live_instance = (live_name, λ n. (live_mark 40, λ _. (live_conns, λ cs. tt)))

live_override : Lives override_set
unfolding override_set override_rest
live_override = (live_mark 46, λ _. (live_name, λ n. (live_mark 40, λ _. (live_constant, λ v. (live_mark 41, λ _. tt)))))

live_overrides : Lives overrides
unfolding overrides
live_overrides = live_after 35 (sequence (mark 40) (λ _. list override_set (mark 41))) (gives []) (live_mark 40, λ _. live_list override_set (mark 41) live_override (live_mark 41)) tt

live_instances : (attrs : List Attr) (m : List ℕ) → Lives (instances attrs m)
unfolding instances
live_instances attrs m = (live_overrides, λ ps. (live_list instance (mark 59) live_instance (live_mark 59), λ us. tt))

live_def_set : Lives def_set
unfolding def_set def_value
live_def_set = (live_name, λ u. (live_mark 46, λ _. (live_name, λ n. (live_mark 61, λ _. (live_constant, λ v. tt)))))

live_defparams : (attrs : List Attr) → Lives (defparams attrs)
unfolding defparams
live_defparams attrs = (live_list def_set (mark 59) live_def_set (live_mark 59), λ ss. tt)

live_word : Lives (choice item_words)
unfolding meant_by
live_word = live_one (λ _ x. say.choice_of item_words x.token) tt (found (token.Keyword (codes "input"))) (words.Port dirs.Input) refl

-- An item is live behind its first word.
pub live_word_item : (attrs : List Attr) (word : ItemWord) → Lives (word_item attrs word)
unfolding word_item
live_word_item attrs (words.Port dir) = (live_port_item attrs dir, λ d. tt)
live_word_item attrs (words.Net kind) = (live_net_item attrs kind, λ d. tt)
live_word_item attrs words.Param = (live_param_item attrs, λ d. tt)
live_word_item attrs words.Assign = (live_assigns attrs, λ s. tt)
live_word_item attrs words.Defparam = (live_defparams attrs, λ s. tt)

-- Instances are live behind the name of their module.
pub live_instances_item : (attrs : List Attr) (m : List ℕ) → Lives (instances_item attrs m)
unfolding instances_item
live_instances_item attrs m = (live_instances attrs m, λ s. tt)

-- An item is live.
pub live_item : (attrs : List Attr) → Lives (item attrs)
unfolding item
live_item attrs = live_if (λ _ x. say.at_name x.token) (instances_item attrs) (sequence (choice item_words) (word_item attrs)) tt (λ m. live_instances_item attrs m) (live_word, λ word. live_word_item attrs word)
