-- Attributes, ranges and the words of declarations are read as the extended BNF has them.
use Rattle.std.proofs.Common.{◌≡◌, ◌∙◌, sym, ap, subst, refl, inl, inr, Bool, true, false, ℤ, pos, neg_ℤ, List, [], ◌∷◌, ◌++◌, append_assoc, append-nil, Some, None, is_some, Ok, Err, codes}
use Rattle.std.specs.List.{flat_map}
use Rattle.grammar.specs.Part.{gives, sequence}
use Rattle.grammar.specs.Texts.{Spells, ends, goes}
use Rattle.grammar.specs.Whole.{proper, end}
use Rattle.nl_base.specs.Ranges.{Bounds}
use Rattle.nl_base.specs.declared.fault.Reason.TheVariants as reasons
use Rattle.readers.specs.Parts.{one, while_next}
use Rattle.vlog_tokens.specs.declared.token.VToken.{VToken}
use Rattle.vlog_tokens.specs.declared.token.VToken.TheVariants as token
use Rattle.vlog_values.specs.declared.expression.Const.TheVariants as consts
use Rattle.vlog_values.specs.declared.expression.Attr.{Attr}
use Rattle.vlog_values.specs.declared.declaration.ParamType.TheVariants as param_types
use Rattle.vlog_exprs.specs.Reasons as say
use Rattle.vlog_exprs.specs.Reasons.{meant_by}
use Rattle.vlog_exprs.specs.Grammar as grammar
use Rattle.vlog_exprs.specs.Grammar.{choice, range_rest, maybe_range, attr_value}
use Rattle.vlog_exprs.specs.Expressions.{Tokens, IsToken}
use Rattle.vlog_exprs.proofs.TokenKinds.{group_end_is, group_is}
use Rattle.vlog_exprs.proofs.Constants as read_constants
use Rattle.vlog_items.specs.Grammar as item_grammar
use Rattle.vlog_items.specs.Grammar.{signed_word, port_kind_words, param_type_words, plain_type, param_type, param_set}
use Rattle.vlog_modules.specs.Grammar.{dir_words}
use Rattle.vlog_modules.specs.Productions as pieces
use Rattle.vlog_productions.specs.Production.{Production, nothing, optional, many, meaning, left_out, there, ◌·◌, ◌∣◌, Texts, bound_number, mark, one_of, constant, HasTextsOf}
use Rattle.vlog_productions.specs.Declarations.{attr, group_end, group, attrs, bound, range, signed, port_kind, dir, ptype, pset}
use Rattle.vlog_productions.proofs.Combining.{then_so, gives_so, gives_of, given, names, marks, IsTable, meant_so, choices, if_word, maybe_choice, as_is, after_so, optional_so, first_and_more, headed, commas_text, text_commas}

pub constants : HasTextsOf grammar.constant constant
constants = record { is_text = λ ts c s. (read_constants.constants ts c).0 s; is_spelled = λ ts c t. (read_constants.constants ts c).1 t }

-- ---- bounds and ranges

number_by : (n v : ℤ) (b : Bool) → say.is_bound n ≡ b → say.bound_of (token.Number n) ≡ Ok v → (token.Number n ≡ token.Number v)
    × (say.is_bound v ≡ true)
number_by n v true e h =
    let k : say.bound_of (token.Number n) ≡ Ok n = rw e refl in
    let same : n ≡ v = cc in
    (ap token.Number same, ap say.is_bound (sym same) ∙ e)
number_by n v false e h = let k : say.bound_of (token.Number n) ≡ Err reasons.NumberRange = rw e refl in let m = sym k ∙ h in absurd cc

number_is : (t : VToken) (v : ℤ) → say.bound_of t ≡ Ok v → (t ≡ token.Number v) × (say.is_bound v ≡ true)
number_is (token.Number n) v h = number_by n v (say.is_bound n) refl h
number_is (token.Punct b) v h = absurd cc
number_is (token.Name a) v h = absurd cc
number_is (token.Keyword a) v h = absurd cc
number_is (token.Real a) v h = absurd cc
number_is (token.Based a) v h = absurd cc
number_is (token.Str a) v h = absurd cc
number_is token.AttrStart v h = absurd cc
number_is token.AttrStop v h = absurd cc
number_is (token.Symbol a) v h = absurd cc
number_is (token.Directive a) v h = absurd cc

bound_number_text : (ts : Tokens) (n : ℤ) → Spells tt grammar.bound_number ts n → Texts bound_number ts n
unfolding one
bound_number_text ts n (proper y, e, h) = let k = number_is y.token n h in ((y, e, k.0), k.1)
bound_number_text ts n (end p, e, h) = absurd cc

text_bound_number : (ts : Tokens) (n : ℤ) → Texts bound_number ts n → Spells tt grammar.bound_number ts n
unfolding one
text_bound_number ts n ((y, e, is), b) = let k : say.bound_of (token.Number n) ≡ Ok n = rw b refl in (proper y, e, ap say.bound_of is ∙ k)

bound_numbers : HasTextsOf grammar.bound_number bound_number
bound_numbers = record { is_text = bound_number_text; is_spelled = text_bound_number }

bounds : HasTextsOf grammar.bound bound
unfolding grammar.bound
bounds = after_so 45 (λ n. neg_ℤ n) (gives_so (λ n. neg_ℤ n) bound_numbers) bound_numbers

-- bound ":" bound "]"
abbrev Behind : Production (ℤ × (Unit {0} × (ℤ × Unit {0})))
Behind = bound · mark 58 · bound · mark 93

-- its value
abbrev bounds_of : ℤ × (Unit {0} × (ℤ × Unit {0})) → Bounds
bounds_of x = record { left = x.0; right = x.1.1.0 }

ranges_behind : HasTextsOf range_rest (meaning bounds_of Behind)
unfolding range_rest
ranges_behind =
    then_so (λ l x. bounds_of (l, x)) bounds
    (λ l. then_so (λ u x. bounds_of (l, (u, x))) (marks 58)
    (λ u. then_so (λ r x. bounds_of (l, (u, (r, x)))) bounds (λ r. gives_so (λ x. bounds_of (l, (u, (r, x)))) (marks 93))))

pub maybe_ranges : HasTextsOf maybe_range (optional range)
unfolding maybe_range range
maybe_ranges = optional_so (λ x. bounds_of x.1) (after_so 91 (λ x. Some (bounds_of x)) (some_ranges) (given None))
  where
    some_ranges : HasTextsOf (sequence range_rest (λ r. gives (Some r))) (meaning (λ x. Some (bounds_of x)) Behind)
    some_ranges = gives_of bounds_of (λ r. Some r) ranges_behind

-- ---- words

only_signed : IsTable signed_word
unfolding meant_by
only_signed w v (inl (e, f)) = meant_so signed_word (codes "signed") w true v refl e f
only_signed w v (inr row) = absurd row

signed_text : (ts : Tokens) (v : Bool) → Texts (meaning (λ o. is_some o) (optional (one_of signed_word))) ts v → Texts signed ts v
signed_text ts v (o, left_out e m, f) = inr (e, f ∙ ap is_some m)
signed_text ts v (o, there b (w, t, inl (e, g)) m, f) = inl (tt, subst (λ z. IsToken (token.Keyword z) ts) e t, f ∙ ap is_some m)
signed_text ts v (o, there b (w, t, inr row) m, f) = absurd row

text_signed : (ts : Tokens) (v : Bool) → Texts signed ts v → Texts (meaning (λ o. is_some o) (optional (one_of signed_word))) ts v
text_signed ts v (inl (u, t, f)) = (Some true, there true (codes "signed", t, inl (refl, refl)) refl, f)
text_signed ts v (inr (e, f)) = (None, left_out e refl, f)

pub signs : HasTextsOf item_grammar.signed signed
unfolding item_grammar.signed
signs =
    let h = gives_so (λ o. is_some o) (maybe_choice signed_word only_signed) in
    record { is_text = λ ts v s. signed_text ts v (h.is_text ts v s); is_spelled = λ ts v t. h.is_spelled ts v (text_signed ts v t) }

port_kinds_apart : IsTable port_kind_words
unfolding meant_by
port_kinds_apart w v (inl (e, f)) = meant_so port_kind_words (codes "wire") w _ v refl e f
port_kinds_apart w v (inr (inl (e, f))) = meant_so port_kind_words (codes "tri") w _ v refl e f
port_kinds_apart w v (inr (inr row)) = absurd row

pub kinds : HasTextsOf item_grammar.port_kind port_kind
unfolding item_grammar.port_kind
kinds = maybe_choice port_kind_words port_kinds_apart

dirs_apart : IsTable dir_words
unfolding meant_by
dirs_apart w v (inl (e, f)) = meant_so dir_words (codes "input") w _ v refl e f
dirs_apart w v (inr (inl (e, f))) = meant_so dir_words (codes "output") w _ v refl e f
dirs_apart w v (inr (inr (inl (e, f)))) = meant_so dir_words (codes "inout") w _ v refl e f
dirs_apart w v (inr (inr (inr row))) = absurd row

pub directions : HasTextsOf (choice dir_words) dir
directions = choices dir_words dirs_apart

types_apart : IsTable param_type_words
unfolding meant_by
types_apart w v (inl (e, f)) = meant_so param_type_words (codes "integer") w _ v refl e f
types_apart w v (inr (inl (e, f))) = meant_so param_type_words (codes "real") w _ v refl e f
types_apart w v (inr (inr row)) = absurd row

plain_types : HasTextsOf plain_type (meaning (λ x. param_types.Plain x.0 x.1) (signed · optional range))
unfolding plain_type
plain_types = then_so (λ s r. param_types.Plain s r) signs (λ s. gives_so (λ r. param_types.Plain s r) maybe_ranges)

pub types : HasTextsOf param_type ptype
unfolding param_type ptype
types = if_word param_type_words types_apart plain_types

pub sets : HasTextsOf param_set pset
unfolding param_set pset
sets =
    then_so (λ n x. record { name = n; value = x.1 }) names
    (λ n. then_so (λ _ v. record { name = n; value = v }) (marks 61) (λ _. gives_so (λ v. record { name = n; value = v }) constants))

-- ---- attributes

attr_values : HasTextsOf attr_value (meaning (λ x. x.1) (mark 61 · constant) ∣ nothing (consts.Number (pos 1)))
unfolding attr_value
attr_values = after_so 61 (λ c. c) (as_is constants) (given (consts.Number (pos 1)))

all_attrs : HasTextsOf grammar.attr attr
unfolding grammar.attr attr
all_attrs = then_so (λ n v. record { name = n; value = v }) names (λ n. gives_so (λ v. record { name = n; value = v }) attr_values)

group_end_text : (ts : Tokens) (u : Unit {0}) → Spells tt grammar.group_end ts u → Texts group_end ts u
unfolding one
group_end_text ts u (proper x, e, h) = (x, e, group_end_is x.token u h)
group_end_text ts u (end p, e, h) = absurd cc

text_group_end : (ts : Tokens) (u : Unit {0}) → Texts group_end ts u → Spells tt grammar.group_end ts u
unfolding one
text_group_end ts u (x, e, is) = (proper x, e, ap say.group_end_of is)

group_ends : HasTextsOf grammar.group_end group_end
group_ends = record { is_text = group_end_text; is_spelled = text_group_end }

-- groups behind attributes
record Groups (before : List Attr) (ts : Tokens) (all : List Attr) : Type 0 where
  groups : List (List Attr)
  value : all ≡ before ++ flat_map (λ g. g) groups
  text : Texts (many group) ts groups

groups_text : (before : List Attr) (ts : Tokens) (all : List Attr) → Spells tt (grammar.groups before) ts all → Groups before ts all
unfolding grammar.groups grammar.group while_next
groups_text before ts all (ends (n, f)) = record { groups = []; value = f ∙ sym (append-nil before); text = pieces.nothing n refl }
groups_text before ts all (goes t a b (proper x, u, r, m, taken, (first, c, d, e, s, k)) rounds w) =
    let later = groups_text t b all rounds in
    let g = commas_text all_attrs group_ends (before ++ first ∷ []) d t k in
    let whole : Texts group a (first ∷ g.later) = (
      (tt, (first ∷ g.later, tt)),
      (
        proper x ∷ [],
        r,
        m,
        (x, refl, group_is x.token u taken),
        (
          c ++ g.inside,
          g.behind,
          e ∙ ap (λ z. c ++ z) g.is
              ∙ sym (append_assoc c g.inside g.behind),
          first_and_more (Texts attr) c first
              (all_attrs.is_text c first s) g.inside g.later g.text,
          g.closes,
        ),
      ),
      refl,
    ) in
    let made : t ≡ before ++ (first ∷ g.later) = g.value ∙ append_assoc before (first ∷ []) g.later in
    record {
      groups = (first ∷ g.later) ∷ later.groups;
      value = later.value ∙ ap (λ z. z ++ flat_map (λ y. y) later.groups) made
          ∙ append_assoc before (first ∷ g.later) (flat_map (λ y. y) later.groups);
      text = pieces.another (first ∷ g.later) later.groups a b w whole later.text refl;
    }
groups_text before ts all (goes t a b (end p, u, r, m, taken, s) rounds w) = absurd cc

text_groups : (before : List Attr) (ts : Tokens) (gs : List (List Attr)) → Texts (many group) ts gs
    → Spells tt (grammar.groups before) ts (before ++ flat_map (λ g. g) gs)
unfolding grammar.groups grammar.group while_next
text_groups before ts gs (pieces.nothing e n) = ends (e, ap (λ z. before ++ flat_map (λ g. g) z) n ∙ append-nil before)
text_groups before ts gs (pieces.another g later a b e (v, (c, d, w, (x, m, is), (i, j, q, l, closes)), f) rounds n) =
    let r = headed (Texts attr) i v.1.0 l in
    let made : (before ++ r.value ∷ []) ++ r.others ≡ before ++ g = append_assoc before (r.value ∷ []) r.others
    ∙ ap (λ z. before ++ z) (sym (f ∙ r.values)) in
    let group_is : Spells tt (grammar.group before) d (before ++ g) = (
      r.value,
      r.first,
      r.rest ++ j,
      q ∙ ap (λ z. z ++ j) r.is ∙ append_assoc r.first r.rest j,
      all_attrs.is_spelled r.first r.value r.head,
      subst (λ z. Spells tt (grammar.commas grammar.attr grammar.group_end (before ++ r.value ∷ [])) (r.rest ++ j) z) made
          (text_commas all_attrs group_ends (before ++ r.value ∷ []) r.rest j r.others r.tail closes),
    ) in
    let all : (before ++ g) ++ flat_map (λ z. z) later ≡ before ++ flat_map (λ z. z) gs = append_assoc before g (flat_map (λ z. z) later)
    ∙ ap (λ z. before ++ flat_map (λ y. y) z) (sym n) in
    goes (before ++ g) (proper x ∷ d) b (proper x, tt, d, refl, ap say.at_group is, group_is)
    (subst (λ z. Spells tt (grammar.groups (before ++ g)) b z) all (text_groups (before ++ g) b later rounds))
    (e ∙ ap (λ z. z ++ b) (w ∙ ap (λ z. z ++ d) m))

pub attributes : HasTextsOf grammar.attrs attrs
unfolding attrs
attributes = record {
  is_text = λ ts v s. let r = groups_text [] ts v s in (r.groups, r.text, r.value);
  is_spelled = λ ts v t. subst (λ z. Spells tt grammar.attrs ts z) (sym t.2) (text_groups [] ts t.0 t.1);
}
