-- Tokens that spell a value of a part, wherever they stand and whatever aliases there are.
use Rattle.std.proofs.Common.{◌≡◌, ℕ, true, false, List, [], ◌∷◌, ◌++◌, Some, Result, Ok, refl, sym, ap, ◌∙◌, subst, append_assoc, append-nil, inl, inr}
use Rattle.std.specs.Prelude.{⊤, ℤ, pos, codes}
use Rattle.std.specs.List.{AllByRecursion}
use Rattle.grammar.specs.Part.{gives, sequence, under, Glance, takes}
use Rattle.grammar.specs.Texts.{Spells, ends, goes}
use Rattle.grammar.specs.Whole.{Terminal, proper, end}
use Rattle.nl_base.specs.declared.place.Place.{Place}
use Rattle.nl_base.specs.declared.fault.Reason.{Reason}
use Rattle.edif_tokens.specs.declared.token.Found.{Found}
use Rattle.edif_values.specs.declared.token.Token.{Token}
use Rattle.edif_values.specs.declared.token.Token.TheVariants as t
use Rattle.readers.specs.Parts.{one, if_next, while_next}
use Rattle.edif_values.specs.declared.keyword.Keyword.{Keyword}
use Rattle.edif_values.specs.Keywords.{spelling, has}
use Rattle.edif_keywords.specs.Aliases.{Alias}
use Rattle.edif_keywords.specs.Language.{Edif}
use Rattle.edif_keywords.specs.Reasons as say
use Rattle.edif_keywords.specs.Grammar.{word, string, integer, opening, closing, choice, view_type, keyword, version_number, level_number, keyword_level_number, begin, forms, form_or, items, strings}
use Rattle.edif_keywords.proofs.Live.{means_itself}
use Rattle.edif_writer.specs.Layout.{Form, Str, Block, each, all}
use Rattle.edif_lexing.specs.Tokens.{tokens, part_tokens, block_tokens, line_tokens}

-- some tokens of a text are these, in order
abbrev pub Row : List (Terminal Found Place) → List Token → Type 0
Row [] [] = ⊤
Row [] (c ∷ ts) = ⊥
Row (x ∷ xs) [] = ⊥
Row (proper f ∷ xs) (c ∷ ts) = (f.token ≡ c) × Row xs ts
Row (end p ∷ xs) (c ∷ ts) = ⊥

-- The tokens spell the value, wherever they stand.
pub record Spelled {A : Type 0} (p : Edif A) (ts : List Token) (v : A) : Type 0 where
  pub by : (table : List Alias) (xs : List (Terminal Found Place)) → Row xs ts → Spells table p xs v

split : (xs : List (Terminal Found Place)) (a b : List Token) → Row xs (a ++ b)
    → (x : List (Terminal Found Place)) × (y : List (Terminal Found Place)) × (xs ≡ x ++ y) × Row x a × Row y b
split xs [] b row = ([], xs, refl, tt, row)
split [] (c ∷ a) b row = absurd row
split (end p ∷ xs) (c ∷ a) b row = absurd row
split (proper f ∷ xs) (c ∷ a) b row =
    let s = split xs a b row.1 in
    (proper f ∷ s.0, s.1, ap (λ (z : List (Terminal Found Place)). proper f ∷ z) s.2, (row.0, s.3), s.4)

none_of : (xs : List (Terminal Found Place)) → Row xs [] → xs ≡ []
none_of [] row = refl
none_of (x ∷ xs) row = absurd row

first_of : (xs : List (Terminal Found Place)) (c : Token) (b : List Token) → Row xs (c ∷ b)
    → (f : Found) × (y : List (Terminal Found Place)) × (xs ≡ proper f ∷ y) × (f.token ≡ c) × Row y b
first_of [] c b row = absurd row
first_of (end p ∷ xs) c b row = absurd row
first_of (proper f ∷ xs) c b row = (f, xs, refl, row.0, row.1)

-- ---- parts one after the other

pub nothing : {A : Type 0} (a : A) → Spelled (gives a) [] a
nothing a = record { by = λ table xs row. (none_of xs row, refl) }

pub then : {A B : Type 0} {p : Edif A} {q : A → Edif B} {a b : List Token} {u : A} {v : B} → Spelled p a u → Spelled (q u) b v → Spelled (sequence p q) (a ++ b) v
then {A} {B} {p} {q} {a} {b} {u} {v} x y = record { by = λ table xs row. let s = split xs a b row in (u, s.0, s.1, s.2, x.by table s.0 s.3, y.by table s.1 s.4) }

-- one token, and then others
pub after : {A B : Type 0} {p : Edif A} {q : A → Edif B} {c : Token} {b : List Token} {u : A} {v : B} → Spelled p (c ∷ []) u → Spelled (q u) b v → Spelled (sequence p q) (c ∷ b) v
after x y = then x y

-- the last part of a sequence
pub at_last : {A B : Type 0} {p : Edif A} {g : A → B} {a : List Token} {u : A} → Spelled p a u → Spelled (sequence p (λ u. gives (g u))) a (g u)
at_last {A} {B} {p} {g} {a} {u} x = subst (λ (z : List Token). Spelled (sequence p (λ u. gives (g u))) z (g u)) (append-nil a) (then x (nothing (g u)))

pub in_context : {A : Type 0} {p : Edif A} {ts : List Token} {v : A} (table : List Alias) → Spelled p ts v → Spelled (under table p) ts v
in_context table x = record { by = λ other xs row. x.by table xs row }

-- ---- one token

by_token : {A : Type 0} (f : List Alias → Found → Result A Reason) (c : Token) (v : A) → ((table : List Alias) (x : Found) → x.token ≡ c → f table x ≡ Ok v) → Spelled (one f) (c ∷ []) v
unfolding one
by_token f c v says = record {
  by = λ table xs row.
      let o = first_of xs c [] row in
      (proper o.0, o.2 ∙ ap (λ (z : List (Terminal Found Place)). proper o.0 ∷ z) (none_of o.1 o.4), says table o.0 o.3);
}

pub a_word : (w : List ℕ) → Spelled word (t.Word w ∷ []) w
a_word w = by_token (λ _ x. say.word_of x.token) (t.Word w) w (λ table x e. ap say.word_of e)

pub a_string : (s : List ℕ) → Spelled string (t.Str s ∷ []) s
a_string s = by_token (λ _ x. say.string_of x.token) (t.Str s) s (λ table x e. ap say.string_of e)

pub an_integer : (n : ℤ) → Spelled integer (t.Number n ∷ []) n
an_integer n = by_token (λ _ x. say.integer_of x.token) (t.Number n) n (λ table x e. ap say.integer_of e)

pub an_opening : Spelled opening (t.LeftParen ∷ []) tt
an_opening = by_token (λ _ x. say.opening_of x.token) t.LeftParen tt (λ table x e. ap say.opening_of e)

pub a_close : Spelled closing (t.RightParen ∷ []) tt
a_close = by_token (λ _ x. say.closing_of x.token) t.RightParen tt (λ table x e. ap say.closing_of e)

pub a_choice : {A : Type 0} (words : List (List ℕ × A)) (w : List ℕ) (a : A) → say.meant_by words w ≡ Some a → Spelled (choice words) (t.Word w ∷ []) a
a_choice words w a h = by_token (λ _ x. say.choice_of words x.token) (t.Word w) a (λ table x e. ap (say.choice_of words) e ∙ ap say.choice_by h)

pub a_view_type : Spelled view_type (t.Word (codes "NETLIST") ∷ []) tt
a_view_type = by_token (λ _ x. say.view_type_of x.token) (t.Word (codes "NETLIST")) tt (λ table x e. ap say.view_type_of e)

pub a_level : Spelled level_number (t.Number (pos 0) ∷ []) tt
a_level = by_token (λ _ x. say.level_of x.token) (t.Number (pos 0)) tt (λ table x e. ap say.level_of e)

pub version_two : Spelled (version_number (pos 2)) (t.Number (pos 2) ∷ []) tt
version_two = by_token (λ _ x. say.version_of (pos 2) x.token) (t.Number (pos 2)) tt (λ table x e. ap (say.version_of (pos 2)) e)

pub version_zero : Spelled (version_number (pos 0)) (t.Number (pos 0) ∷ []) tt
version_zero = by_token (λ _ x. say.version_of (pos 0) x.token) (t.Number (pos 0)) tt (λ table x e. ap (say.version_of (pos 0)) e)

pub keyword_level_zero : Spelled keyword_level_number (t.Number (pos 0) ∷ []) false
keyword_level_zero = by_token (λ _ x. say.keyword_level_of x.token) (t.Number (pos 0)) false (λ table x e. ap say.keyword_level_of e)

pub closes : {A : Type 0} (v : A) → Spelled (sequence closing (λ _. gives v)) (t.RightParen ∷ []) v
closes v = at_last {g = λ _. v} a_close

-- ---- keywords and forms

a_keyword : (allowed : List Keyword) (a : Keyword) → has allowed a ≡ true → Spelled (keyword allowed) (t.Word (spelling a) ∷ []) a
a_keyword allowed a h = by_token (λ table x. say.keyword_of allowed table x.token) (t.Word (spelling a)) a (λ table x e. ap (say.keyword_of allowed table) e ∙ said table)
  where
    said : (table : List Alias) → say.keyword_of allowed table (t.Word (spelling a)) ≡ Ok a
    said table = rw (means_itself table a, h) refl

-- ( and a keyword
pub begins : {B : Type 0} (allowed : List Keyword) {q : Keyword → Edif B} {b : List Token} {v : B} (a : Keyword) → has allowed a ≡ true → Spelled (q a) b v
    → Spelled (sequence (begin allowed) q) (t.LeftParen ∷ t.Word (spelling a) ∷ b) v
unfolding begin
begins allowed a h y = then (after an_opening (a_keyword allowed a h)) y

module _ {A : Type 0} (allowed : List Keyword) (rest : Keyword → Edif A) (other : Edif A) where
  -- a form, where one may stand
  pub form_here : {b : List Token} {v : A} (a : Keyword) → has allowed a ≡ true → Spelled (rest a) b v → Spelled (form_or allowed rest other) (t.LeftParen ∷ t.Word (spelling a) ∷ b) v
  unfolding form_or if_next
  form_here {b} {v} a h y = record {
    by = λ table xs row.
        let o = first_of xs t.LeftParen (t.Word (spelling a) ∷ b) row in
        let inner : Spelled (sequence (keyword allowed) rest) (t.Word (spelling a) ∷ b) v = after (a_keyword allowed a h) y in
        inl (proper o.0, tt, o.1, o.2, ap say.at_opening o.3, inner.by table o.1 o.4);
  }

  -- another part, where a form may stand
  pub other_here : {b : List Token} {v : A} → Spelled other b v → Spelled (form_or allowed rest other) b v
  unfolding form_or if_next
  other_here y = record { by = λ table xs row. inr (y.by table xs row) }

-- ---- rounds

module _ {S C A : Type 0} (f : Token → Glance C Reason) (q : S → C → Edif S) (e : S → Edif A) (s : S) where
  pub last_round : {ts : List Token} {v : A} → Spelled (e s) ts v → Spelled (while_next (λ _ _ x. f x.token) q e s) ts v
  unfolding while_next
  last_round x = record { by = λ table xs row. ends (x.by table xs row) }

  -- a round, and the others
  pub next_round : {c : Token} {a b : List Token} {v : A} (after_it : S) (u : C) → f c ≡ takes u → Spelled (q s u) a after_it
      → Spelled (while_next (λ _ _ x. f x.token) q e after_it) b v → Spelled (while_next (λ _ _ x. f x.token) q e s) (c ∷ (a ++ b)) v
  unfolding while_next
  next_round {c} {a} {b} {v} after_it u h x y = record {
    by = λ table xs row.
        let both = split xs (c ∷ a) b row in
        let o = first_of both.0 c a both.3 in
        goes after_it both.0 both.1 (proper o.0, u, o.1, o.2, ap f o.3 ∙ h, x.by table o.1 o.4) (y.by table both.1 both.4) both.2;
  }

-- ---- items of a form

-- an item's tokens: ( and the form of one of these keywords
pub record IsItem {I : Type 0} (allowed : List Keyword) (rest : Keyword → Edif I) (ts : List Token) (i : I) : Type 0 where
  pub inner : List Token
  pub opens : ts ≡ t.LeftParen ∷ inner
  pub spelled : Spelled (sequence (keyword allowed) rest) inner i

pub item : {I : Type 0} {allowed : List Keyword} {rest : Keyword → Edif I} {b : List Token} {i : I} (a : Keyword) → has allowed a ≡ true → Spelled (rest a) b i
    → IsItem allowed rest (t.LeftParen ∷ t.Word (spelling a) ∷ b) i
item {allowed = allowed} {b = b} a h y = record { inner = t.Word (spelling a) ∷ b; opens = refl; spelled = after (a_keyword allowed a h) y }

module _ {I : Type 0} (allowed : List I → List Keyword) (rest : Keyword → Edif I) where
  ends_items : (so_far : List I) → Spelled (items allowed rest so_far) (t.RightParen ∷ []) so_far
  unfolding items forms
  ends_items so_far = last_round say.at_opening _ _ so_far (closes so_far)

  next_item : (so_far is : List I) (i : I) (ts b : List Token) → IsItem (allowed so_far) rest ts i → Spelled (items allowed rest (so_far ++ i ∷ [])) b ((so_far ++ i ∷ []) ++ is)
      → Spelled (items allowed rest so_far) (ts ++ b) (so_far ++ i ∷ is)
  unfolding items forms
  next_item so_far is i ts b k others =
      subst (λ (z : List Token). Spelled (items allowed rest so_far) (z ++ b) (so_far ++ i ∷ is)) (sym k.opens)
      (subst (λ (v : List I). Spelled (items allowed rest so_far) (t.LeftParen ∷ (k.inner ++ b)) v) (append_assoc so_far (i ∷ []) is)
      (next_round say.at_opening _ _ so_far (so_far ++ i ∷ []) tt refl (at_last k.spelled) others))

  -- all items, where each may stand after those before it
  pub all_items : (of_one : I → List Token) (of_all : List I → List Token) (Good : List I → List I → Type 0)
      → of_all [] ≡ t.RightParen ∷ [] → ((i : I) (is : List I) → of_all (i ∷ is) ≡ of_one i ++ of_all is)
      → ((so_far : List I) (i : I) (is : List I) → Good so_far (i ∷ is) → IsItem (allowed so_far) rest (of_one i) i × Good (so_far ++ i ∷ []) is)
      → (so_far is : List I) → Good so_far is → Spelled (items allowed rest so_far) (of_all is) (so_far ++ is)
  all_items of_one of_all Good none more step so_far [] good =
      subst (λ (v : List I). Spelled (items allowed rest so_far) (of_all []) v) (sym (append-nil so_far))
      (subst (λ (ts : List Token). Spelled (items allowed rest so_far) ts so_far) (sym none) (ends_items so_far))
  all_items of_one of_all Good none more step so_far (i ∷ is) good =
      let now = step so_far i is good in
      subst (λ (ts : List Token). Spelled (items allowed rest so_far) ts (so_far ++ i ∷ is)) (sym (more i is))
      (next_item so_far is i (of_one i) (of_all is) now.0 (all_items of_one of_all Good none more step (so_far ++ i ∷ []) is now.1))

-- items on one line, in any order
pub line_items : {I : Type 0} (allowed : List Keyword) (rest : Keyword → Edif I) (form : I → Form) (Good : I → Type 0) → ((i : I) → Good i → IsItem allowed rest (tokens (form i)) i)
    → (is : List I) → AllByRecursion Good is → Spelled (items (λ _. allowed) rest []) (part_tokens (each form is)) is
line_items allowed rest form Good one_item is good =
    all_items (λ _. allowed) rest (λ i. tokens (form i)) (λ is. part_tokens (each form is)) (λ _ is. AllByRecursion Good is) refl (λ i is. refl) (λ s i is g. (one_item i g.0, g.1)) [] is good

-- items on lines of their own, in any order
pub block_items : {I : Type 0} (allowed : List Keyword) (rest : Keyword → Edif I) (block : I → Block) (Good : I → Type 0) → ((i : I) → Good i → IsItem allowed rest (block_tokens (block i)) i)
    → (is : List I) → AllByRecursion Good is → Spelled (items (λ _. allowed) rest []) (line_tokens (all block is)) is
block_items allowed rest block Good one_item is good =
    all_items (λ _. allowed) rest (λ i. block_tokens (block i)) (λ is. line_tokens (all block is)) (λ _ is. AllByRecursion Good is) refl (λ i is. refl) (λ s i is g. (one_item i g.0, g.1)) [] is good

-- ---- strings

pub strings_spelled : (so_far ts : List (List ℕ)) → Spelled (strings so_far) (part_tokens (each Str ts)) (so_far ++ ts)
unfolding strings
strings_spelled so_far [] = subst (λ (v : List (List ℕ)). Spelled (strings so_far) (t.RightParen ∷ []) v) (sym (append-nil so_far)) (last_round say.at_string _ _ so_far (closes so_far))
strings_spelled so_far (s ∷ ts) =
    subst (λ (v : List (List ℕ)). Spelled (strings so_far) (t.Str s ∷ part_tokens (each Str ts)) v) (append_assoc so_far (s ∷ []) ts)
    (next_round say.at_string _ _ so_far {a = []} (so_far ++ s ∷ []) s refl (nothing (so_far ++ s ∷ [])) (strings_spelled (so_far ++ s ∷ []) ts))
