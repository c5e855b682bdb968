-- The parts that all forms are made of say the same of one token at two places.
use Rattle.std.proofs.Common.{◌≡◌, refl, ap, Bool, true, false, cond, List, [], ◌∷◌, ◌++◌, ℤ, Result}
use Rattle.grammar.specs.Part.{Glance, gives, sequence}
use Rattle.grammar.specs.Whole.{Terminal, proper, end}
use Rattle.grammar_alike.specs.Alike.{Respects}
use Rattle.nl_base.specs.declared.fault.Reason.{Reason}
use Rattle.nl_base.specs.declared.place.Place.{Place}
use Rattle.readers.specs.Items.{as_item}
use Rattle.readers.specs.Parts.{one, at_token, if_next, while_next}
use Rattle.edif_tokens.specs.declared.token.Found.{Found}
use Rattle.edif_values.specs.declared.token.Token.{Token}
use Rattle.edif_values.specs.declared.keyword.Keyword.{Keyword}
use Rattle.edif_values.specs.declared.keyword.Keyword.TheVariants as k
use Rattle.edif_values.specs.Keywords.{same_keyword}
use Rattle.edif_keywords.specs.Aliases.{Alias}
use Rattle.edif_keywords.specs.Language.{Edif}
use Rattle.edif_keywords.specs.Reasons as say
use Rattle.edif_keywords.specs.Grammar.{word, string, integer, opening, closing, choice, keyword, begin, forms, form_or, items, strings, comment, version, level, keyword_level, alias, map_keywords, map_form, map_item, map_items, keyword_map, header}

-- one token, wherever it stands; or the end of the input, wherever it is
abbrev pub SameToken : Terminal Found Place → Terminal Found Place → Type 0
SameToken (proper x) (proper y) = x.token ≡ y.token
SameToken (proper x) (end q) = ⊥
SameToken (end p) (proper y) = ⊥
SameToken (end p) (end q) = Unit {0}

pub same_token_self : (x : Terminal Found Place) → SameToken x x
same_token_self (proper x) = refl
same_token_self (end p) = tt

-- the part depends on no place
abbrev pub Alike : {A : Type 0} → Edif A → Type 0
Alike p = (table : List Alias) → Respects SameToken table p

pub one_alike : {A : Type 0} (f : List Alias → Token → Result A Reason) → Alike (one (λ table x. f table x.token))
unfolding one
one_alike f table (proper x) (proper y) e = ap (f table) e
one_alike f table (proper x) (end q) e = absurd e
one_alike f table (end p) (proper y) e = absurd e
one_alike f table (end p) (end q) e = refl

look_alike : {C : Type 0} (f : Token → Glance C Reason) (x y : Terminal Found Place) → SameToken x y
    → at_token (λ x. f x.token) x ≡ at_token (λ x. f x.token) y
look_alike f (proper x) (proper y) e = ap f e
look_alike f (proper x) (end q) e = absurd e
look_alike f (end p) (proper y) e = absurd e
look_alike f (end p) (end q) e = refl

pub if_alike : {A C : Type 0} (f : Token → Glance C Reason) (p : C → Edif A) (q : Edif A) → ((c : C) → Alike (p c)) → Alike q
    → Alike (if_next (λ _ x. f x.token) p q)
unfolding if_next
if_alike f p q h l table = (look_alike f, λ x c i. h c table, l table)

pub while_alike : {A C S : Type 0} (f : Token → Glance C Reason) (q : S → C → Edif S) (e : S → Edif A) (s : S) → ((s : S) (c : C) → Alike (q s c))
    → ((s : S) → Alike (e s)) → Alike (while_next (λ _ _ x. f x.token) q e s)
unfolding while_next
while_alike f q e s h l table = (λ s. look_alike f, λ s x c i. h s c table, λ s. l s table)

-- a part as one form of an item, whichever form it is
pub as_item_alike : {A : Type 0} (part : Edif A) → Alike part → Alike (as_item (λ v. v) part)
as_item_alike part alike table = (alike table, λ _. tt)

pub either_alike : {A : Type 0} (b : Bool) (p q : Edif A) → Alike p → Alike q → Alike (cond b p q)
either_alike true p q h l = h
either_alike false p q h l = l

-- ---- tokens and forms

pub word_alike : Alike word
word_alike = one_alike (λ _ t. say.word_of t)

pub string_alike : Alike string
string_alike = one_alike (λ _ t. say.string_of t)

pub integer_alike : Alike integer
integer_alike = one_alike (λ _ t. say.integer_of t)

pub opening_alike : Alike opening
opening_alike = one_alike (λ _ t. say.opening_of t)

pub closing_alike : Alike closing
closing_alike = one_alike (λ _ t. say.closing_of t)

pub choice_alike : {A : Type 0} (words : List (List _ × A)) → Alike (choice words)
choice_alike words = one_alike (λ _ t. say.choice_of words t)

pub keyword_alike : (allowed : List Keyword) → Alike (keyword allowed)
keyword_alike allowed = one_alike (λ table t. say.keyword_of allowed table t)

pub begin_alike : (allowed : List Keyword) → Alike (begin allowed)
unfolding begin
begin_alike allowed table = (opening_alike table, λ _. keyword_alike allowed table)

pub end_alike : {A : Type 0} (a : A) → Alike (sequence closing (λ _. gives a))
end_alike a table = (closing_alike table, λ _. tt)

pub form_or_alike : {A : Type 0} (allowed : List Keyword) (rest : Keyword → Edif A) (other : Edif A) → ((q : Keyword) → Alike (rest q)) → Alike other
    → Alike (form_or allowed rest other)
unfolding form_or
form_or_alike allowed rest other h l =
    if_alike say.at_opening (λ _. sequence (keyword allowed) rest) other (λ _ table. (keyword_alike allowed table, λ q. h q table)) l

pub forms_alike : {S A : Type 0} (round : S → Edif S) (rest : S → Edif A) (s : S) → ((s : S) → Alike (round s)) → ((s : S) → Alike (rest s))
    → Alike (forms round rest s)
unfolding forms
forms_alike round rest s h l = while_alike say.at_opening (λ s _. round s) rest s (λ s _. h s) l

pub items_alike : {I : Type 0} (allowed : List I → List Keyword) (rest : Keyword → Edif I) (so_far : List I) → ((q : Keyword) → Alike (rest q))
    → Alike (items allowed rest so_far)
unfolding items
items_alike allowed rest so_far h =
    forms_alike (λ so_far. sequence (sequence (keyword (allowed so_far)) rest) (λ i. gives (so_far ++ i ∷ []))) (λ so_far. sequence closing (λ _. gives so_far)) so_far
    (λ s table. ((keyword_alike (allowed s) table, λ q. h q table), λ i. tt)) end_alike

pub comment_alike : Alike comment
unfolding strings
comment_alike =
    while_alike say.at_string (λ so_far s. gives (so_far ++ s ∷ [])) (λ so_far. sequence closing (λ _. gives so_far)) [] (λ s c table. tt) end_alike

-- ---- the header

pub level_alike : Alike level
unfolding level
level_alike table = (begin_alike (k.EdifLevel ∷ []) table, λ _. (one_alike (λ _ t. say.level_of t) table, λ _. closing_alike table))

version_number_alike : (due : ℤ) → Alike (one (λ _ x. say.version_of due x.token))
version_number_alike due = one_alike (λ _ t. say.version_of due t)

version_alike : Alike version
unfolding version
version_alike table =
    (begin_alike (k.EdifVersion ∷ []) table, λ _. (version_number_alike _ table, λ _. (version_number_alike _ table, λ _. (version_number_alike _ table, λ _. closing_alike table))))

keyword_level_alike : Alike keyword_level
unfolding keyword_level
keyword_level_alike table =
    (begin_alike (k.KeywordLevel ∷ []) table, λ _. (one_alike (λ _ t. say.keyword_level_of t) table, λ n. (closing_alike table, λ _. tt)))

alias_alike : (t : List Alias) → Alike (alias t)
unfolding alias
alias_alike t table = (one_alike say.new_word_of table, λ w. (one_alike say.known_word_of table, λ q. (closing_alike table, λ _. tt)))

map_form_alike : (t : List Alias) (b : Bool) → Alike (map_form t b)
map_form_alike t true table = alias_alike t table
map_form_alike t false table = (comment_alike table, λ _. tt)

map_item_alike : (b : Bool) (t : List Alias) → Alike (map_item b t)
unfolding map_item
map_item_alike b t table = (one_alike (say.map_keyword_of (map_keywords b)) t, λ q. map_form_alike t (same_keyword q k.KeywordAlias) t)

map_items_alike : (b : Bool) (t : List Alias) → Alike (map_items b t)
unfolding map_items
map_items_alike b t = forms_alike (map_item b) (λ table. sequence closing (λ _. gives table)) t (map_item_alike b) end_alike

keyword_map_alike : (t : List Alias) → Alike (keyword_map t)
unfolding keyword_map
keyword_map_alike t table = (begin_alike (k.KeywordMap ∷ []) table, λ _. (keyword_level_alike table, λ n. map_items_alike n t table))

pub header_alike : (t : List Alias) → Alike (header t)
unfolding header
header_alike t table = (version_alike table, λ _. (level_alike table, λ _. keyword_map_alike t table))
