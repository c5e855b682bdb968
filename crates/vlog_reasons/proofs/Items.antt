-- What the items of a module read where they stand.
use Rattle.std.proofs.Common.{◌≡◌, refl, ℕ, true, false, List, [], ◌∷◌}
use Rattle.grammar.specs.Part.{sequence}
use Rattle.grammar.specs.Whole.{proper}
use Rattle.readers.specs.Parts.{maybe}
use Rattle.nl_base.specs.declared.value.Dir.{Dir}
use Rattle.vlog_values.specs.declared.expression.Attr.{Attr}
use Rattle.vlog_values.specs.declared.declaration.NetKind.{NetKind}
use Rattle.vlog_tokens.specs.declared.token.VToken.TheVariants as t
use Rattle.vlog_exprs.specs.Language.{Vlog}
use Rattle.vlog_exprs.specs.Reasons as say
use Rattle.vlog_exprs.specs.Grammar.{name, mark, choice, after as if_mark, list, maybe_expr}
use Rattle.vlog_items.specs.declared.item.ItemWord.{ItemWord}
use Rattle.vlog_items.specs.declared.item.ItemWord.TheVariants as words
use Rattle.vlog_items.specs.Grammar.{signed_word, signed, port_kind_words, port_kind, param_type_words, plain_type, param_type, param_set, port_item, net_item, param_item, assignment, assigns, named_rest, named, named_conns, ordered_conns, conns, instance, override_rest, override_set, overrides, instances, def_value, def_set, defparams, item_words, word_item, instances_item, item}
use Rattle.vlog_reasons.specs.Context.{Tokens, Context, after}
use Rattle.vlog_reasons.proofs.Tracking.{Tracks, tracks_then, tracks_if, tracks_maybe}
use Rattle.vlog_reasons.proofs.Standing.{Ahead, Out, ahead_out, IsQuiet}
use Rattle.vlog_reasons.proofs.Judges.{at_choice_by, at_name_by, at_mark_by}
use Rattle.vlog_reasons.proofs.Parts.{Stays, then_keeps, keeps_name, keeps_mark, tracks_mark, choice_ahead, tracks_if_mark, tracks_commas, tracks_list, then_stays, gives_stays, behind_ahead, behind_quiet, behind_comma, out_comma, from_out, stays_range}
use Rattle.vlog_reasons.proofs.Expressions.{expr_out, maybe_expr_out, constant_out, behind_equals}

-- ---- marks

quiet_end : IsQuiet 59
quiet_end = record { no_bound = refl; no_minus = refl; no_start = refl; braces = λ c. refl }

pub quiet_open : IsQuiet 40
quiet_open = record { no_bound = refl; no_minus = refl; no_start = refl; braces = λ c. refl }

pub quiet_close : IsQuiet 41
quiet_close = record { no_bound = refl; no_minus = refl; no_start = refl; braces = λ c. refl }

quiet_point : IsQuiet 46
quiet_point = record { no_bound = refl; no_minus = refl; no_start = refl; braces = λ c. refl }

pub quiet_hash : IsQuiet 35
quiet_hash = record { no_bound = refl; no_minus = refl; no_start = refl; braces = λ c. refl }

behind_open : (c : Context) (b : Tokens) → c.braces ≡ [] → Ahead (after c (t.Punct 40)) b
behind_open = behind_ahead 40 quiet_open (record { no_bound = refl; no_minus = refl; no_size = refl; no_number = refl; sizes = refl })

pub name_stays : Stays name
name_stays = keeps_name []

pub end_stays : Stays (mark 59)
end_stays = keeps_mark [] 59 quiet_end

pub open_stays : Stays (mark 40)
open_stays = keeps_mark [] 40 quiet_open

pub close_stays : Stays (mark 41)
close_stays = keeps_mark [] 41 quiet_close

point_stays : Stays (mark 46)
point_stays = keeps_mark [] 46 quiet_point

-- a mark, and what stands behind it where an expression or a constant may
pub then_ahead : {A : Type 0} {due : ℕ} {q : Unit {0} → Vlog A} → ((c : Context) (b : Tokens) → c.braces ≡ [] → Ahead (after c (t.Punct due)) b)
    → Tracks (q tt) Ahead (λ _. Out) → Stays (sequence (mark due) q)
then_ahead {due = due} {q = q} h k = tracks_then (mark due) q Out (λ _. Ahead) (λ _. Out) (tracks_mark [] due Ahead h) (λ _. k)

-- such a part, and then others
pub ahead_then : {A B : Type 0} {p : Vlog A} {q : A → Vlog B} → Tracks p Ahead (λ _. Out) → ((v : A) → Stays (q v))
    → Tracks (sequence p q) Ahead (λ _. Out)
ahead_then h all = then_keeps [] Ahead h all

pub list_stays : {A : Type 0} (p : Vlog A) (due : ℕ) → IsQuiet due → Stays p → Stays (list p (mark due))
list_stays p due q h = tracks_list [] p (mark due) Out Out out_comma h (keeps_mark [] due q) Out h

-- a list of what may begin with an expression
list_ahead : {A : Type 0} (p : Vlog A) (due : ℕ) → IsQuiet due → Tracks p Ahead (λ _. Out)
    → Tracks (list p (mark due)) Ahead (λ _. Out)
list_ahead p due q h = tracks_list [] p (mark due) Ahead Out behind_comma h (keeps_mark [] due q) Ahead h

-- ---- declarations

-- a word that need not stand there
maybe_stays : {A : Type 0} (ws : List (List ℕ × A)) → Stays (maybe (λ _ x. say.at_choice ws x.token))
maybe_stays ws =
    tracks_maybe (say.at_choice ws) Out (λ _. Ahead) Out (λ _. Out) (λ c x b i. at_choice_by c b i.0 ws (Out c (proper x ∷ b)) x.token i)
    (λ c p b i. (i.0, tt)) (λ v c b i. ahead_out c b i) (λ c b i. i)

pub signed_stays : Stays signed
unfolding signed
signed_stays = then_stays (maybe_stays signed_word) (λ s. gives_stays)

pub port_kind_stays : Stays port_kind
unfolding port_kind
port_kind_stays = maybe_stays port_kind_words

plain_stays : Stays plain_type
unfolding plain_type
plain_stays = then_stays signed_stays (λ s. then_stays stays_range (λ r. gives_stays))

pub param_type_stays : Stays param_type
unfolding param_type
param_type_stays =
    tracks_if (say.at_choice param_type_words) _ plain_type Out (λ _. Ahead) Out (λ _. Out)
    (λ c x b i. at_choice_by c b i.0 param_type_words (Out c (proper x ∷ b)) x.token i) (λ c p b i. (i.0, tt))
    (λ v. from_out _ gives_stays) plain_stays

pub param_set_stays : Stays param_set
unfolding param_set
param_set_stays = then_stays name_stays (λ n. then_ahead behind_equals (ahead_then constant_out (λ v. gives_stays)))

port_item_stays : (attrs : List Attr) (dir : Dir) → Stays (port_item attrs dir)
unfolding port_item
port_item_stays attrs dir =
    then_stays port_kind_stays (λ k. then_stays signed_stays (λ s. then_stays stays_range
    (λ r. then_stays (list_stays name 59 quiet_end name_stays) (λ ns. gives_stays))))

net_item_stays : (attrs : List Attr) (kind : NetKind) → Stays (net_item attrs kind)
unfolding net_item
net_item_stays attrs kind =
    then_stays signed_stays (λ s. then_stays stays_range (λ r. then_stays (list_stays name 59 quiet_end name_stays) (λ ns. gives_stays)))

param_item_stays : (attrs : List Attr) → Stays (param_item attrs)
unfolding param_item
param_item_stays attrs = then_stays param_type_stays (λ t. then_stays (list_stays param_set 59 quiet_end param_set_stays) (λ ss. gives_stays))

-- ---- assignments

assignment_out : Tracks assignment Ahead (λ _. Out)
unfolding assignment
assignment_out = ahead_then (expr_out true) (λ l. then_ahead behind_equals (ahead_then (expr_out false) (λ r. gives_stays)))

assigns_out : (attrs : List Attr) → Tracks (assigns attrs) Ahead (λ _. Out)
unfolding assigns
assigns_out attrs = ahead_then (list_ahead assignment 59 quiet_end assignment_out) (λ ss. gives_stays)

-- ---- connections

named_rest_stays : Stays named_rest
unfolding named_rest
named_rest_stays = then_stays name_stays (λ n. then_ahead behind_open (ahead_then maybe_expr_out (λ e. then_stays close_stays (λ v. gives_stays))))

named_stays : Stays named
unfolding named
named_stays = then_stays point_stays (λ u. named_rest_stays)

named_conns_stay : Stays named_conns
unfolding named_conns
named_conns_stay =
    then_stays named_rest_stays (λ first. then_stays (tracks_commas [] named (mark 41) Out Out out_comma named_stays close_stays (first ∷ []))
    (λ all. gives_stays))

ordered_out : Tracks ordered_conns Ahead (λ _. Out)
unfolding ordered_conns
ordered_out = ahead_then (list_ahead maybe_expr 41 quiet_close maybe_expr_out) (λ es. gives_stays)

conns_out : Tracks conns Ahead (λ _. Out)
unfolding conns if_mark
conns_out =
    tracks_if (say.at_mark 46) (λ _. named_conns) ordered_conns Ahead (λ _. Out) Ahead (λ _. Out)
    (λ c x b i. at_mark_by Out c b 46 (behind_quiet [] 46 quiet_point c b i.2) (Ahead c (proper x ∷ b)) x.token i) (λ c p b i. i)
    (λ _. named_conns_stay) ordered_out

-- ---- instances

instance_stays : Stays instance
unfolding instance
instance_stays = then_stays name_stays (λ n. then_ahead behind_open (ahead_then conns_out (λ cs. gives_stays)))

override_rest_stays : Stays override_rest
unfolding override_rest
override_rest_stays = then_stays name_stays (λ n. then_ahead behind_open (ahead_then constant_out (λ v. then_stays close_stays (λ w. gives_stays))))

override_stays : Stays override_set
unfolding override_set
override_stays = then_stays point_stays (λ u. override_rest_stays)

overrides_stay : Stays overrides
unfolding overrides
overrides_stay =
    tracks_if_mark [] 35 _ _ Out (λ _. Out) (behind_quiet [] 35 quiet_hash)
    (then_stays open_stays (λ u. list_stays override_set 41 quiet_close override_stays)) gives_stays

instances_stay : (attrs : List Attr) (m : List ℕ) → Stays (instances attrs m)
unfolding instances
instances_stay attrs m = then_stays overrides_stay (λ ps. then_stays (list_stays instance 59 quiet_end instance_stays) (λ us. gives_stays))

-- ---- defparam

def_value_stays : (u : List ℕ) → Stays (def_value u)
unfolding def_value
def_value_stays u = then_stays name_stays (λ n. then_ahead behind_equals (ahead_then constant_out (λ v. gives_stays)))

def_set_stays : Stays def_set
unfolding def_set
def_set_stays = then_stays name_stays (λ u. then_stays point_stays (λ v. def_value_stays u))

defparams_stay : (attrs : List Attr) → Stays (defparams attrs)
unfolding defparams
defparams_stay attrs = then_stays (list_stays def_set 59 quiet_end def_set_stays) (λ ss. gives_stays)

-- ---- items

pub word_item_out : (attrs : List Attr) (word : ItemWord) → Tracks (word_item attrs word) Ahead (λ _. Out)
unfolding word_item
word_item_out attrs (words.Port dir) = from_out _ (then_stays (port_item_stays attrs dir) (λ d. gives_stays))
word_item_out attrs (words.Net kind) = from_out _ (then_stays (net_item_stays attrs kind) (λ d. gives_stays))
word_item_out attrs words.Param = from_out _ (then_stays (param_item_stays attrs) (λ d. gives_stays))
word_item_out attrs words.Assign = ahead_then (assigns_out attrs) (λ s. gives_stays)
word_item_out attrs words.Defparam = from_out _ (then_stays (defparams_stay attrs) (λ s. gives_stays))

pub instances_item_stays : (attrs : List Attr) (m : List ℕ) → Stays (instances_item attrs m)
unfolding instances_item
instances_item_stays attrs m = then_stays (instances_stay attrs m) (λ s. gives_stays)

pub item_stays : (attrs : List Attr) → Stays (item attrs)
unfolding item
item_stays attrs =
    tracks_if say.at_name (instances_item attrs) _ Out (λ _. Ahead) Out (λ _. Out) (λ c x b i. at_name_by c b i.0 (Out c (proper x ∷ b)) x.token i)
    (λ c p b i. (i.0, tt)) (λ m. from_out _ (instances_item_stays attrs m))
    (tracks_then (choice item_words) (word_item attrs) Out (λ _. Ahead) (λ _. Out) (choice_ahead item_words) (word_item_out attrs))
