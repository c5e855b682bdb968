-- What the productions of items refuse fits.
use Rattle.std.proofs.Common.{ℕ, true, false, List, [], ◌∷◌}
use Rattle.readers.specs.Parts.{if_next, maybe}
use Rattle.nl_base.specs.declared.value.Dir.{Dir}
use Rattle.vlog_values.specs.declared.expression.Attr.{Attr}
use Rattle.vlog_values.specs.declared.declaration.NetKind.{NetKind}
use Rattle.vlog_exprs.specs.Reasons as say
use Rattle.vlog_exprs.specs.Grammar.{name, mark, choice, keyword, range_rest, maybe_range, maybe_expr, inside}
use Rattle.vlog_items.specs.declared.item.ItemWord.{ItemWord}
use Rattle.vlog_items.specs.declared.item.ItemWord.TheVariants as words
use Rattle.vlog_items.specs.Grammar.{signed_word, signed, port_kind_words, port_kind, param_type_words, plain_type, param_type, param_set, port_item, net_item, param_item, assignment, assigns, named_rest, named, named_conns, ordered_conns, conns, instance, override_rest, override_set, overrides, instances, def_value, def_set, defparams, item_words, word_item, instances_item, item}
use Rattle.vlog_faults.proofs.Judges.{one_fits, glance_fits_by, look_takes, name_fits, choice_fits, keyword_fits, at_choice_fits, at_name_fits, at_expr_fits}
use Rattle.vlog_faults.proofs.Productions.{Fit, after_fit, mark_fit, commas_fit, list_fit, bound_fit, rest_fit, inside_fit, expr_fit, constant_fit}

pub name_fit : Fit name
name_fit = one_fits say.name_of name_fits

pub choice_fit : {A : Type 0} (ws : List (List ℕ × A)) → Fit (choice ws)
choice_fit ws = one_fits (say.choice_of ws) (choice_fits ws)

pub keyword_fit : (due : List ℕ) → Fit (keyword due)
keyword_fit due = one_fits (say.keyword_of due) (keyword_fits due)

range_rest_fit : Fit range_rest
unfolding range_rest
range_rest_fit = (bound_fit, λ l. (mark_fit 58, λ u. (bound_fit, λ r. (mark_fit 93, λ v. tt))))

pub maybe_range_fit : Fit maybe_range
unfolding maybe_range
maybe_range_fit = after_fit 91 _ _ (range_rest_fit, λ r. tt) tt

maybe_expr_fit : Fit maybe_expr
unfolding maybe_expr if_next
maybe_expr_fit = (λ x r e. glance_fits_by say.at_expr at_expr_fits x r e, λ x c e. look_takes say.at_expr x c e, λ start. (rest_fit (inside false 64) (inside_fit false 64) start, λ e. tt), tt)

pub signed_fit : Fit signed
unfolding signed maybe
signed_fit = ((λ x r e. glance_fits_by (say.at_choice signed_word) (at_choice_fits signed_word) x r e, λ x c e. look_takes (say.at_choice signed_word) x c e, λ c. tt, tt), λ s. tt)

pub port_kind_fit : Fit port_kind
unfolding port_kind maybe
port_kind_fit = (λ x r e. glance_fits_by (say.at_choice port_kind_words) (at_choice_fits port_kind_words) x r e, λ x c e. look_takes (say.at_choice port_kind_words) x c e, λ c. tt, tt)

plain_fit : Fit plain_type
unfolding plain_type
plain_fit = (signed_fit, λ s. (maybe_range_fit, λ r. tt))

pub param_type_fit : Fit param_type
unfolding param_type if_next
param_type_fit = (λ x r e. glance_fits_by (say.at_choice param_type_words) (at_choice_fits param_type_words) x r e, λ x c e. look_takes (say.at_choice param_type_words) x c e, λ c. tt, plain_fit)

pub param_set_fit : Fit param_set
unfolding param_set
param_set_fit = (name_fit, λ n. (mark_fit 61, λ u. (constant_fit, λ v. tt)))

port_item_fit : (as_written : List Attr) (dir : Dir) → Fit (port_item as_written dir)
unfolding port_item
port_item_fit as_written dir = (port_kind_fit, λ k. (signed_fit, λ s. (maybe_range_fit, λ r. (list_fit name (mark 59) name_fit (mark_fit 59), λ ns. tt))))

net_item_fit : (as_written : List Attr) (kind : NetKind) → Fit (net_item as_written kind)
unfolding net_item
net_item_fit as_written kind = (signed_fit, λ s. (maybe_range_fit, λ r. (list_fit name (mark 59) name_fit (mark_fit 59), λ ns. tt)))

param_item_fit : (as_written : List Attr) → Fit (param_item as_written)
unfolding param_item
param_item_fit as_written = (param_type_fit, λ t. (list_fit param_set (mark 59) param_set_fit (mark_fit 59), λ ss. tt))

assignment_fit : Fit assignment
unfolding assignment
assignment_fit = (expr_fit true 64, λ l. (mark_fit 61, λ u. (expr_fit false 64, λ r. tt)))

assigns_fit : (as_written : List Attr) → Fit (assigns as_written)
unfolding assigns
assigns_fit as_written = (list_fit assignment (mark 59) assignment_fit (mark_fit 59), λ ss. tt)

named_rest_fit : Fit named_rest
unfolding named_rest
named_rest_fit = (name_fit, λ n. (mark_fit 40, λ u. (maybe_expr_fit, λ e. (mark_fit 41, λ v. tt))))

named_fit : Fit named
unfolding named
named_fit = (mark_fit 46, λ u. named_rest_fit)

named_conns_fit : Fit named_conns
unfolding named_conns
named_conns_fit = (named_rest_fit, λ first. (commas_fit named (mark 41) (first ∷ []) named_fit (mark_fit 41), λ all. tt))

ordered_fit : Fit ordered_conns
unfolding ordered_conns
ordered_fit = (list_fit maybe_expr (mark 41) maybe_expr_fit (mark_fit 41), λ es. tt)

conns_fit : Fit conns
unfolding conns
conns_fit = after_fit 46 named_conns ordered_conns named_conns_fit ordered_fit

instance_fit : Fit instance
unfolding instance
instance_fit = (name_fit, λ n. (mark_fit 40, λ u. (conns_fit, λ cs. tt)))

override_rest_fit : Fit override_rest
unfolding override_rest
override_rest_fit = (name_fit, λ n. (mark_fit 40, λ u. (constant_fit, λ v. (mark_fit 41, λ w. tt))))

override_fit : Fit override_set
unfolding override_set
override_fit = (mark_fit 46, λ u. override_rest_fit)

overrides_fit : Fit overrides
unfolding overrides
overrides_fit = after_fit 35 _ _ (mark_fit 40, λ u. list_fit override_set (mark 41) override_fit (mark_fit 41)) tt

instances_fit : (as_written : List Attr) (m : List ℕ) → Fit (instances as_written m)
unfolding instances
instances_fit as_written m = (overrides_fit, λ ps. (list_fit instance (mark 59) instance_fit (mark_fit 59), λ us. tt))

def_value_fit : (u : List ℕ) → Fit (def_value u)
unfolding def_value
def_value_fit u = (name_fit, λ n. (mark_fit 61, λ v. (constant_fit, λ c. tt)))

def_set_fit : Fit def_set
unfolding def_set
def_set_fit = (name_fit, λ u. (mark_fit 46, λ v. def_value_fit u))

defparams_fit : (as_written : List Attr) → Fit (defparams as_written)
unfolding defparams
defparams_fit as_written = (list_fit def_set (mark 59) def_set_fit (mark_fit 59), λ ss. tt)

pub word_item_fit : (as_written : List Attr) (word : ItemWord) → Fit (word_item as_written word)
unfolding word_item
word_item_fit as_written (words.Port dir) = (port_item_fit as_written dir, λ d. tt)
word_item_fit as_written (words.Net kind) = (net_item_fit as_written kind, λ d. tt)
word_item_fit as_written words.Param = (param_item_fit as_written, λ d. tt)
word_item_fit as_written words.Assign = (assigns_fit as_written, λ s. tt)
word_item_fit as_written words.Defparam = (defparams_fit as_written, λ s. tt)

pub instances_item_fit : (as_written : List Attr) (m : List ℕ) → Fit (instances_item as_written m)
unfolding instances_item
instances_item_fit as_written m = (instances_fit as_written m, λ s. tt)

pub item_fit : (as_written : List Attr) → Fit (item as_written)
unfolding item if_next
item_fit as_written = (λ x r e. glance_fits_by say.at_name at_name_fits x r e, λ x c e. look_takes say.at_name x c e, λ m. instances_item_fit as_written m, (choice_fit item_words, λ word. word_item_fit as_written word))
