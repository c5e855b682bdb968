-- The productions of items are live by tokens that bytes can spell, and depend on no place.
use Rattle.std.proofs.Common.{refl, ℕ, true, false, List, [], ◌∷◌, codes, arith}
use Rattle.grammar.specs.Part.{gives, sequence}
use Rattle.nl_base.specs.declared.value.Dir.{Dir}
use Rattle.nl_base.specs.declared.value.Dir.TheVariants as dirs
use Rattle.vlog_tokens.specs.Keywords.{is_keyword}
use Rattle.vlog_tokens.specs.declared.token.VToken.TheVariants as token
use Rattle.vlog_values.specs.declared.expression.Attr.{Attr}
use Rattle.vlog_values.specs.declared.declaration.NetKind.{NetKind}
use Rattle.vlog_exprs.specs.Reasons as say
use Rattle.vlog_exprs.specs.Reasons.{meant_by}
use Rattle.vlog_exprs.specs.Grammar.{name, mark, choice, list, maybe_expr}
use Rattle.vlog_items.specs.declared.item.ItemWord.{ItemWord}
use Rattle.vlog_items.specs.declared.item.ItemWord.TheVariants as words
use Rattle.vlog_items.specs.Grammar.{signed_word, signed, port_kind_words, port_kind, param_type_words, plain_type, param_type, param_set, port_item, net_item, param_item, assignment, assigns, named_rest, named, named_conns, ordered_conns, conns, instance, override_rest, override_set, overrides, instances, def_value, def_set, defparams, item_words, word_item, instances_item, item}
use Rattle.vlog_lexing.specs.Tokens.{IsWord}
use Rattle.vlog_writer.specs.Spelling.{is_simple}
use Rattle.vlog_goes_on.proofs.ExprsLive.{Lives, one_lives, if_lives, maybe_lives, name_lives, mark_lives, after_lives, commas_lives, list_lives, maybe_range_lives, expr_lives, maybe_expr_lives, constant_lives}

pub input_word : IsWord (codes "input")
unfolding is_simple is_keyword
input_word = record { simple = refl; keyword = refl; short = omega arith }

pub signed_lives : Lives signed
unfolding signed
signed_lives = (maybe_lives (say.at_choice signed_word), λ _. tt)

pub port_kind_lives : Lives port_kind
unfolding port_kind
port_kind_lives = maybe_lives (say.at_choice port_kind_words)

plain_type_lives : Lives plain_type
unfolding plain_type
plain_type_lives = (signed_lives, λ s. (maybe_range_lives, λ r. tt))

pub param_type_lives : Lives param_type
unfolding param_type
param_type_lives = if_lives (say.at_choice param_type_words) (λ t. gives t) plain_type (λ _. tt) plain_type_lives

pub param_set_lives : Lives param_set
unfolding param_set
param_set_lives = (name_lives, λ n. (mark_lives 61 refl, λ _. (constant_lives, λ v. tt)))

port_item_lives : (attrs : List Attr) (dir : Dir) → Lives (port_item attrs dir)
unfolding port_item
port_item_lives attrs dir =
    (port_kind_lives, λ k. (signed_lives, λ s. (maybe_range_lives, λ r. (list_lives name (mark 59) name_lives (mark_lives 59 refl), λ ns. tt))))

net_item_lives : (attrs : List Attr) (kind : NetKind) → Lives (net_item attrs kind)
unfolding net_item
net_item_lives attrs kind = (signed_lives, λ s. (maybe_range_lives, λ r. (list_lives name (mark 59) name_lives (mark_lives 59 refl), λ ns. tt)))

param_item_lives : (attrs : List Attr) → Lives (param_item attrs)
unfolding param_item
param_item_lives attrs = (param_type_lives, λ t. (list_lives param_set (mark 59) param_set_lives (mark_lives 59 refl), λ ss. tt))

assignment_lives : Lives assignment
unfolding assignment
assignment_lives = (expr_lives true 64, λ l. (mark_lives 61 refl, λ _. (expr_lives false 64, λ r. tt)))

assigns_lives : (attrs : List Attr) → Lives (assigns attrs)
unfolding assigns
assigns_lives attrs = (list_lives assignment (mark 59) assignment_lives (mark_lives 59 refl), λ ss. tt)

named_rest_lives : Lives named_rest
unfolding named_rest
named_rest_lives = (name_lives, λ n. (mark_lives 40 refl, λ _. (maybe_expr_lives, λ e. (mark_lives 41 refl, λ _. tt))))

named_lives : Lives named
unfolding named
named_lives = (mark_lives 46 refl, λ _. named_rest_lives)

named_conns_lives : Lives named_conns
unfolding named_conns
named_conns_lives = (named_rest_lives, λ first. (commas_lives named (mark 41) (first ∷ []) named_lives (mark_lives 41 refl), λ all. tt))

ordered_conns_lives : Lives ordered_conns
unfolding ordered_conns
ordered_conns_lives = (list_lives maybe_expr (mark 41) maybe_expr_lives (mark_lives 41 refl), λ es. tt)

conns_lives : Lives conns
unfolding conns
conns_lives = after_lives 46 named_conns ordered_conns named_conns_lives ordered_conns_lives

instance_lives : Lives instance
unfolding instance
instance_lives = (name_lives, λ n. (mark_lives 40 refl, λ _. (conns_lives, λ cs. tt)))

override_lives : Lives override_set
unfolding override_set override_rest
override_lives = (mark_lives 46 refl, λ _. (name_lives, λ n. (mark_lives 40 refl, λ _. (constant_lives, λ v. (mark_lives 41 refl, λ _. tt)))))

overrides_lives : Lives overrides
unfolding overrides
overrides_lives =
    after_lives 35 (sequence (mark 40) (λ _. list override_set (mark 41))) (gives []) (mark_lives 40 refl, λ _. list_lives override_set (mark 41) override_lives (mark_lives 41 refl)) tt

instances_lives : (attrs : List Attr) (m : List ℕ) → Lives (instances attrs m)
unfolding instances
instances_lives attrs m = (overrides_lives, λ ps. (list_lives instance (mark 59) instance_lives (mark_lives 59 refl), λ us. tt))

def_set_lives : Lives def_set
unfolding def_set def_value
def_set_lives = (name_lives, λ u. (mark_lives 46 refl, λ _. (name_lives, λ n. (mark_lives 61 refl, λ _. (constant_lives, λ v. tt)))))

defparams_lives : (attrs : List Attr) → Lives (defparams attrs)
unfolding defparams
defparams_lives attrs = (list_lives def_set (mark 59) def_set_lives (mark_lives 59 refl), λ ss. tt)

word_lives : Lives (choice item_words)
unfolding meant_by
word_lives = one_lives (say.choice_of item_words) (token.Keyword (codes "input")) (words.Port dirs.Input) refl input_word

pub word_item_lives : (attrs : List Attr) (word : ItemWord) → Lives (word_item attrs word)
unfolding word_item
word_item_lives attrs (words.Port dir) = (port_item_lives attrs dir, λ d. tt)
word_item_lives attrs (words.Net kind) = (net_item_lives attrs kind, λ d. tt)
word_item_lives attrs words.Param = (param_item_lives attrs, λ d. tt)
word_item_lives attrs words.Assign = (assigns_lives attrs, λ s. tt)
word_item_lives attrs words.Defparam = (defparams_lives attrs, λ s. tt)

pub instances_item_lives : (attrs : List Attr) (m : List ℕ) → Lives (instances_item attrs m)
unfolding instances_item
instances_item_lives attrs m = (instances_lives attrs m, λ s. tt)

pub item_lives : (attrs : List Attr) → Lives (item attrs)
unfolding item
item_lives attrs =
    if_lives say.at_name (instances_item attrs) (sequence (choice item_words) (word_item attrs)) (λ m. instances_item_lives attrs m) (word_lives, λ word. word_item_lives attrs word)
