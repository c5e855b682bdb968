-- What the values keep that a part spells from the tokens of a text: one fact for each way in which a part is made.
use Rattle.std.proofs.Common.{◌≡◌, sym, refl, subst, ℕ, Bool, true, false, cond, List, [], ◌∷◌, ◌++◌, Option, Some, None, Result, Ok, Err, ℤ, inl, inr}
use Rattle.std.specs.Prelude.{if◌then◌else◌}
use Rattle.std.specs.List.{AllByRecursion}
use Rattle.grammar.specs.Part.{Glance, gives, sequence, takes}
use Rattle.grammar.specs.Texts.{Spells, Rounds, ends, goes, TakenText}
use Rattle.grammar.specs.Whole.{Terminal, proper, end}
use Rattle.nl_base.specs.declared.place.Place.{Place}
use Rattle.nl_base.specs.declared.fault.Reason.{Reason}
use Rattle.nl_bytes.proofs.Uses.{AllByRecursion-push}
use Rattle.edif_tokens.specs.declared.token.Found.{Found}
use Rattle.edif_values.specs.declared.token.Token.{Token}
use Rattle.edif_values.specs.declared.token.Token.TheVariants.{LeftParen, RightParen, Word, Number, Str}
use Rattle.edif_values.specs.Proper.{IsProper}
use Rattle.edif_tokens.specs.Proper.{AreSound}
use Rattle.readers.specs.Parts.{at_token, of_token, one, if_next, while_next}
use Rattle.edif_values.specs.declared.keyword.Keyword.{Keyword}
use Rattle.edif_values.specs.Keywords.{has}
use Rattle.edif_keywords.specs.Aliases.{Alias, means}
use Rattle.edif_keywords.specs.Language.{Edif}
use Rattle.edif_values.specs.Values.{IsWord, IsInteger, IsString, AreStrings}
use Rattle.edif_keywords.specs.Reasons as say
use Rattle.edif_keywords.specs.Grammar.{word, string, integer, opening, closing, keyword, begin, forms, item, items, strings, comment, form_or}

-- What the part spells from tokens of a text is good.
pub record Kept {A : Type 0} (part : Edif A) (Good : A → Type 0) : Type 0 where
  pub kept : (table : List Alias) (ts : List (Terminal Found Place)) (v : A) → AreSound ts → Spells table part ts v → Good v

-- both sides of a list of tokens
sides : (a b : List (Terminal Found Place)) → AreSound (a ++ b) → AreSound a × AreSound b
sides [] b all = (tt, all)
sides (x ∷ a) b all = let rest = sides a b all.1 in ((all.0, rest.0), rest.1)

split : (ts a b : List (Terminal Found Place)) → ts ≡ a ++ b → AreSound ts → AreSound a × AreSound b
split ts a b e all = sides a b (subst AreSound e all)

-- ---- how a part is made

pub kept_gives : {A : Type 0} {Good : A → Type 0} (a : A) → Good a → Kept (gives a) Good
kept_gives {Good = Good} a good = record { kept = λ table ts v all spells. subst Good (sym spells.1) good }

pub kept_then : {A B : Type 0} {p : Edif A} {q : A → Edif B} {P : A → Type 0} {Q : B → Type 0} → Kept p P → ((u : A) → P u → Kept (q u) Q) → Kept (sequence p q) Q
kept_then first next = record {
  kept = λ table ts v all spells. let both = split ts spells.1 spells.2 spells.3 all in
      (next spells.0 (first.kept table spells.1 spells.0 both.0 spells.4)).kept table spells.2 v both.1 spells.5;
}

-- the same where nothing of the first part is needed
pub kept_after : {A B : Type 0} {q : A → Edif B} {Q : B → Type 0} (p : Edif A) → ((u : A) → Kept (q u) Q) → Kept (sequence p q) Q
kept_after p next = record {
  kept = λ table ts v all spells. let both = split ts spells.1 spells.2 spells.3 all in (next spells.0).kept table spells.2 v both.1 spells.5;
}

-- one part or another
pub kept_cond : {A : Type 0} {Good : A → Type 0} (b : Bool) (p q : Edif A) → Kept p Good → Kept q Good → Kept (cond b p q) Good
kept_cond true p q h l = h
kept_cond false p q h l = l

-- what is good is so in a weaker sense
pub kept_weaker : {A : Type 0} {p : Edif A} {P Q : A → Type 0} → Kept p P → ((v : A) → P v → Q v) → Kept p Q
kept_weaker known next = record { kept = λ table ts v all spells. next v (known.kept table ts v all spells) }

-- one token that says a good value
pub kept_one : {A : Type 0} {Good : A → Type 0} (f : List Alias → Found → Result A Reason) → ((table : List Alias) (x : Found) (v : A) → IsProper x.token → f table x ≡ Ok v → Good v) → Kept (one f) Good
unfolding one
kept_one {A = A} {Good = Good} f says = record { kept = λ table ts v all spells. by table ts v spells.0 all spells.1 spells.2 }
  where
    by : (table : List Alias) (ts : List (Terminal Found Place)) (v : A) (x : Terminal Found Place) → AreSound ts → ts ≡ x ∷ [] → of_token (f table) x ≡ Ok v → Good v
    by table ts v (proper x) all is h = says table x v (subst AreSound is all).0 h
    by table ts v (end p) all is h = absurd cc

-- a value that holds where the part is kept so under each good token that f takes
module _ {A C : Type 0} {Good : A → Type 0} (f : List Alias → Found → Glance C Reason) (p : C → Edif A) where
  taken : (table : List Alias) → ((x : Found) (c : C) → IsProper x.token → f table x ≡ takes c → Kept (p c) Good)
      → (ts : List (Terminal Found Place)) (v : A) → AreSound ts → TakenText (λ t. at_token (f table) t) (λ c. Spells table (p c)) ts v → Good v
  taken table way ts v all text = by text.0 (subst AreSound text.3 all) text.4
    where
      by : (x : Terminal Found Place) → AreSound (x ∷ text.2) → at_token (f table) x ≡ takes text.1 → Good v
      by (proper x) all h = (way x text.1 all.0 h).kept table text.2 v all.1 text.5
      by (end p) all h = absurd cc

-- [ ] and |
pub kept_if : {A C : Type 0} {Good : A → Type 0} (f : List Alias → Found → Glance C Reason) (p : C → Edif A) (q : Edif A)
    → ((table : List Alias) (x : Found) (c : C) → IsProper x.token → f table x ≡ takes c → Kept (p c) Good) → Kept q Good → Kept (if_next f p q) Good
unfolding if_next
kept_if {A = A} {Good = Good} f p q one_way other = record { kept = λ table ts v all spells. by table ts v all spells }
  where
    by : (table : List Alias) (ts : List (Terminal Found Place)) (v : A) → AreSound ts → Spells table (if_next f p q) ts v → Good v
    by table ts v all (inl text) = taken f p table (one_way table) ts v all text
    by table ts v all (inr text) = other.kept table ts v all text

-- { }, where each round keeps what is known of the state
pub kept_while : {A C S : Type 0} {Good : A → Type 0} (Holds : S → Type 0) (f : S → List Alias → Found → Glance C Reason) (q : S → C → Edif S) (e : S → Edif A)
    → ((s : S) → Holds s → (table : List Alias) (x : Found) (c : C) → IsProper x.token → f s table x ≡ takes c → Kept (q s c) Holds) → ((s : S) → Holds s → Kept (e s) Good) → (s : S) → Holds s → Kept (while_next f q e s) Good
unfolding while_next
kept_while {A = A} {C = C} {S = S} {Good = Good} Holds f q e round last s holds = record { kept = λ table ts v all spells. by table s holds ts v all spells }
  where
    by : (table : List Alias) (s : S) → Holds s → (ts : List (Terminal Found Place)) (v : A) → AreSound ts
        → Rounds (λ s. λ t. at_token (f s table) t) (λ s c. Spells table (q s c)) (λ s. Spells table (e s)) s ts v → Good v
    by table s holds ts v all (ends text) = (last s holds).kept table ts v all text
    by table s holds ts v all (goes t a b text rest is) =
        let both = split ts a b is all in
        by table t (taken {Good = Holds} (f s) (q s) table (round s holds table) a t both.0 text) b v both.1 rest

-- ---- tokens

pub word_is : (t : Token) (w : List ℕ) → IsProper t → say.word_of t ≡ Ok w → IsWord w
word_is LeftParen w is h = absurd cc
word_is RightParen w is h = absurd cc
word_is (Word v) w is h = let same : v ≡ w = cc in subst IsWord same is
word_is (Number n) w is h = absurd cc
word_is (Str s) w is h = absurd cc

pub string_is : (t : Token) (s : List ℕ) → IsProper t → say.string_of t ≡ Ok s → IsString s
string_is LeftParen s is h = absurd cc
string_is RightParen s is h = absurd cc
string_is (Word w) s is h = absurd cc
string_is (Number n) s is h = absurd cc
string_is (Str r) s is h = let same : r ≡ s = cc in subst IsString same is

pub integer_is : (t : Token) (n : ℤ) → IsProper t → say.integer_of t ≡ Ok n → IsInteger n
integer_is LeftParen n is h = absurd cc
integer_is RightParen n is h = absurd cc
integer_is (Word w) n is h = absurd cc
integer_is (Number m) n is h = let same : m ≡ n = cc in subst IsInteger same is
integer_is (Str s) n is h = absurd cc

taken_string_is : (t : Token) (s : List ℕ) → IsProper t → say.at_string t ≡ takes s → IsString s
taken_string_is LeftParen s is h = absurd cc
taken_string_is RightParen s is h = absurd cc
taken_string_is (Word w) s is h = absurd cc
taken_string_is (Number n) s is h = absurd cc
taken_string_is (Str r) s is h = let same : r ≡ s = cc in subst IsString same is

pub kept_word : Kept word IsWord
kept_word = kept_one _ (λ table x w is h. word_is x.token w is h)

pub kept_string : Kept string IsString
kept_string = kept_one _ (λ table x s is h. string_is x.token s is h)

pub kept_integer : Kept integer IsInteger
kept_integer = kept_one _ (λ table x n is h. integer_is x.token n is h)

-- a keyword that may stand there
module _ (allowed : List Keyword) where
  by_test : (q v : Keyword) (w : List ℕ) (t : Bool) → has allowed q ≡ t → (if t then Ok q else Err (say.elsewhere q w)) ≡ Ok v → has allowed v ≡ true
  by_test q v w true is h = let same : q ≡ v = cc in subst (λ u. has allowed u ≡ true) same is
  by_test q v w false is h = absurd cc

  by_meaning : (w : List ℕ) (v : Keyword) (m : Option Keyword) → say.keyword_by say.elsewhere allowed w m ≡ Ok v → has allowed v ≡ true
  by_meaning w v None h = absurd cc
  by_meaning w v (Some q) h = by_test q v w (has allowed q) refl h

  pub keyword_is : (table : List Alias) (t : Token) (v : Keyword) → say.keyword_of allowed table t ≡ Ok v → has allowed v ≡ true
  keyword_is table LeftParen v h = absurd cc
  keyword_is table RightParen v h = absurd cc
  keyword_is table (Word w) v h = by_meaning w v (means table w) h
  keyword_is table (Number n) v h = absurd cc
  keyword_is table (Str s) v h = absurd cc

  pub kept_keyword : Kept (keyword allowed) (λ q. has allowed q ≡ true)
  kept_keyword = kept_one _ (λ table x q is h. keyword_is table x.token q h)

  pub kept_begin : Kept (begin allowed) (λ q. has allowed q ≡ true)
  unfolding begin
  kept_begin = kept_after opening (λ _. kept_keyword)

  -- a form with one of some keywords
  pub kept_item : {I : Type 0} {rest : Keyword → Edif I} {Good : I → Type 0} → ((q : Keyword) → has allowed q ≡ true → Kept (rest q) Good) → Kept (item allowed rest) Good
  kept_item r = kept_then kept_begin r

  -- a form with one of some keywords, or another part
  pub kept_form_or : {A : Type 0} {Good : A → Type 0} {rest : Keyword → Edif A} {other : Edif A} → ((q : Keyword) → has allowed q ≡ true → Kept (rest q) Good) → Kept other Good → Kept (form_or allowed rest other) Good
  unfolding form_or
  kept_form_or r other = kept_if _ _ _ (λ table x c is h. kept_then kept_keyword r) other

-- ---- forms and strings

-- the items of a form, where each keeps what is known of those before it
pub kept_items : {I : Type 0} (Good : List I → Type 0) (allowed : List I → List Keyword) (rest : Keyword → Edif I)
    → ((s : List I) → Good s → (q : Keyword) → has (allowed s) q ≡ true → Kept (rest q) (λ i. Good (s ++ i ∷ []))) → (s : List I) → Good s → Kept (items allowed rest s) Good
unfolding items forms
kept_items Good allowed rest r s good =
    kept_while Good _ _ _ (λ s good table x c is h. kept_then (kept_then (kept_keyword (allowed s)) (λ q has_q. r s good q has_q)) (λ i next. kept_gives (s ++ i ∷ []) next)) (λ s good. kept_after closing (λ _. kept_gives s good)) s good

-- the items of a form, each of which is good by itself
pub kept_all : {I : Type 0} (Good : I → Type 0) (allowed : List I → List Keyword) (rest : Keyword → Edif I)
    → ((s : List I) (q : Keyword) → has (allowed s) q ≡ true → Kept (rest q) Good) → (s : List I) → AllByRecursion Good s → Kept (items allowed rest s) (λ is. AllByRecursion Good is)
kept_all Good allowed rest r s good =
    kept_items (λ is. AllByRecursion Good is) allowed rest (λ so_far all q has_q. kept_weaker (r so_far q has_q) (λ i is. AllByRecursion-push Good so_far i all is)) s good

-- the strings of a form
pub kept_strings : (so_far : List (List ℕ)) → AreStrings so_far → Kept (strings so_far) AreStrings
unfolding strings
kept_strings so_far all =
    kept_while AreStrings _ _ _ (λ s all table x t is h. kept_gives (s ++ t ∷ []) (AllByRecursion-push IsString s t all (taken_string_is x.token t is h)))
    (λ s all. kept_after closing (λ _. kept_gives s all)) so_far all

pub kept_comment : Kept comment AreStrings
kept_comment = kept_strings [] tt
