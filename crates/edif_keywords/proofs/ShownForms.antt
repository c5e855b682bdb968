-- The call that takes the `(` and the keyword of the form that is next, where what is held shows the keyword as the standard spells it.
use Rattle.std.proofs.Common.{◌≡◌, ◌∙◌, sym, ap, subst, refl, ℕ, ◌<◌, ◌≤◌, Bool, true, false, cond, ◌||◌, ◌&&◌, List, [], ◌∷◌, length, drop, take, Option, Some, None, Ok, arith}
use Rattle.std.specs.List.{find, list_all}
use Rattle.nl_bytes.specs.Bytes.{Window}
use Rattle.edif_tokens.specs.declared.form.FormAt.{FormAt}
use Rattle.edif_tokens.specs.declared.form.OpenAt.{OpenAt}
use Rattle.edif_tokens.specs.declared.token.Found.{Found}
use Rattle.edif_tokens.specs.Held as tokens
use Rattle.edif_tokens.specs.Held.{word_length}
use Rattle.edif_tokens.specs.HeldForm.{no_form, opened_by}
use Rattle.edif_tokens.specs.HeldForm as forms
use Rattle.edif_tokens.proofs.HeldForms as held
use Rattle.edif_tokens.proofs.OpenForms.{is_plain, open_form, shown, shown_length}
use Rattle.nl_io.specs.Sources.{Supply}
use Rattle.readers.specs.Readers.{Reader, Reads, same}
use Rattle.edif_values.specs.declared.keyword.Keyword.{Keyword}
use Rattle.edif_values.specs.Keywords.{spelling, keywords, keyword_of, is_spelled, same_keyword, has, if_allowed, allowed_keyword}
use Rattle.edif_values.proofs.Spelled.{found_by_spelling}
use Rattle.edif_values.proofs.Same.{same_as_itself}
use Rattle.edif_keywords.specs.Aliases.{Alias}
use Rattle.edif_keywords.specs.Calls.{is_unlooked, form_at, form_word, past_form, open_at, shows_keyword}
use Rattle.edif_keywords.specs.Grammar.{begin}
use Rattle.edif_keywords.specs.Language.{edif}
use Rattle.edif_keywords.proofs.HeldTokens.{held_live}
use Rattle.edif_keywords.proofs.HeldForms.{live_unlooked, begin_held}
use Rattle.edif_keywords.proofs.Slots.{find_passes}

-- ---- keywords

-- what is found passes a test that all pass
found_passes : (test other : Keyword → Bool) (x : Keyword) (xs : List Keyword) → find test xs ≡ Some x → list_all other xs ≡ true → other x ≡ true
found_passes test other x [] e each = absurd cc
found_passes test other x (y ∷ ys) e each = go (test y) (other y) refl (found_passes test other x ys) e each
  where
    go : (t u : Bool) → other y ≡ u → (find test ys ≡ Some x → list_all other ys ≡ true → other x ≡ true) → cond t (Some y) (find test ys) ≡ Some x → (u && list_all other ys) ≡ true → other x ≡ true
    go true true is later e each = let same : y ≡ x = cc in subst (λ z. other z ≡ true) same is
    go false true is later e each = later e each
    go true false is later e each = absurd cc
    go false false is later e each = absurd cc

abbrev plain_keyword : Keyword → Bool
plain_keyword a = is_plain (spelling a)

all_plain : list_all plain_keyword keywords ≡ true
all_plain = refl

-- each keyword is spelled as a plain word
keyword_plain : (a : Keyword) → is_plain (spelling a) ≡ true
unfolding keyword_of
keyword_plain a = found_passes (is_spelled (spelling a)) plain_keyword a keywords (found_by_spelling a) all_plain

plain_some : (w : List ℕ) → is_plain w ≡ true → 0 < length w
plain_some [] e = absurd cc
plain_some (x ∷ xs) e = omega arith

-- what is found among some is one of them
found_is : (test : Keyword → Bool) (q : Keyword) (allowed : List Keyword) → find test allowed ≡ Some q → has allowed q ≡ true
unfolding has
found_is test q [] e = absurd cc
found_is test q (y ∷ ys) e = go (test y) (found_is test q ys) e
  where
    either : (s t : Bool) → t ≡ true → (s || t) ≡ true
    either true t h = refl
    either false t h = h

    go : (t : Bool) → (find test ys ≡ Some q → has ys q ≡ true) → cond t (Some y) (find test ys) ≡ Some q → (same_keyword y q || has ys q) ≡ true
    go true later e = let is : y ≡ q = cc in ap (λ (b : Bool). b || has ys q) (same_as_itself y q is)
    go false later e = either (same_keyword y q) (has ys q) (later e)

pub shown_is : (bs : List ℕ) (allowed : List Keyword) (q : Keyword) → Some q ≡ find (shows_keyword bs) allowed → has allowed q ≡ true
shown_is bs allowed q e = found_is (shows_keyword bs) q allowed (sym e)

allowed_spelled : (allowed : List Keyword) (q : Keyword) → has allowed q ≡ true → allowed_keyword allowed (spelling q) ≡ Some q
allowed_spelled allowed q h = ap (if_allowed allowed) (found_by_spelling q) ∙ ap (λ (b : Bool). cond b (Some q) None) h

-- ---- the form

-- a reader of which a `(` is held is not spent, and has looked at no token
open_live : (a : Reader (List Alias) Found) (at : OpenAt) → open_at a ≡ Some at → (a.spent ≡ false) × (a.ahead ≡ None) × (forms.open_at a.window ≡ Some at)
unfolding open_at
open_live a at e =
    let l = held_live None (forms.open_at a.window) a (λ n. let m = sym n ∙ e in absurd cc) in
    (l.0, l.1, sym l.2 ∙ e)

-- the same of what a reader is made of
pub inside_open : (w : Window) (h : Option Found) (k : List Alias) (b : Bool) (a : Reader (List Alias) Found) → record { window = w; ahead = h; context = k; spent = b } ≡ a → (at : OpenAt) → open_at a ≡ Some at → forms.open_at w ≡ Some at
inside_open w h k b a e at is = let l = open_live (record { window = w; ahead = h; context = k; spent = b }) at (ap open_at e ∙ is) in l.2

live_form : (a : Reader (List Alias) Found) → is_unlooked a ≡ true → form_at a ≡ forms.form_at a.window
unfolding form_at
live_form a e = ap (λ (t : Bool). cond t (forms.form_at a.window) no_form) e

-- a form whose keyword is shown
abbrev pub form_of : OpenAt → List ℕ → FormAt
form_of at word = record { space = at.space; inner = at.inner; count = length word }

-- it is the form that is next
pub record FormShown (a : Reader (List Alias) Found) (at : FormAt) (word : List ℕ) : Type 0 where
  pub is : at ≡ form_at a
  pub some : 0 < at.count
  pub text : form_word a ≡ word

pub form_shown : (a : Reader (List Alias) Found) (at : OpenAt) (bs : List ℕ) (q : Keyword) → open_at a ≡ Some at → bs ≡ opened_by at a.window.held → shows_keyword bs q ≡ true → FormShown a (form_of at (spelling q)) (spelling q)
form_shown a at bs q stands inside e =
    let l = open_live a at stands in
    let word = spelling q in
    let plain = keyword_plain q in
    let count : word_length (opened_by at a.window.held) ≡ length word = ap word_length (sym inside) ∙ shown_length bs word plain e in
    let is_held : form_of at word ≡ forms.form_at a.window = sym (open_form a.window at l.2 ∙ ap (λ (n : ℕ). record { space = at.space; inner = at.inner; count = n }) count) in
    let some = plain_some word plain in
    let h = held.form_held a.window (form_of at word) is_held some in
    let behind : drop at.inner (tokens.past_mark a.window).held ≡ bs = ap (λ (xs : List ℕ). drop at.inner xs) h.behind ∙ sym inside in
    record {
      is = is_held ∙ sym (live_form a (live_unlooked a l.0 l.1));
      some = some;
      text = h.word ∙ ap (λ (xs : List ℕ). take (length word) xs) behind ∙ (shown bs word e).front;
    }

-- the same of the first keyword that is shown, of those that are allowed
pub shown_form : (a : Reader (List Alias) Found) (at : OpenAt) (bs word : List ℕ) (allowed : List Keyword) (q : Keyword) → open_at a ≡ Some at → bs ≡ opened_by at a.window.held → Some q ≡ find (shows_keyword bs) allowed → word ≡ spelling q → FormShown a (form_of at word) (spelling q)
shown_form a at bs word allowed q stands inside e is = subst (λ (w : List ℕ). FormShown a (form_of at w) (spelling q)) (sym is) (form_shown a at bs q stands inside (find_passes (shows_keyword bs) q allowed (sym e)))

-- the `(` and that keyword are taken
pub begin_shown : (a b : Reader (List Alias) Found) (at : OpenAt) (bs : List ℕ) (allowed : List Keyword) (q : Keyword) → open_at a ≡ Some at → bs ≡ opened_by at a.window.held → Some q ≡ find (shows_keyword bs) allowed → length a.window.held ≤ 4096 → (i : Supply) → b ≡ past_form a → Reads edif same (begin allowed) (Ok q) a b i i
begin_shown a b at bs allowed q stands inside e small i left =
    let f = shown_form a at bs (spelling q) allowed q stands inside e refl in
    begin_held a b (form_of at (spelling q)) allowed q f.is f.some small i (ap (allowed_keyword allowed) f.text ∙ allowed_spelled allowed q (shown_is bs allowed q e)) left
