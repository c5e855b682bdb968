-- The call that takes the `(` and the keyword of the form that is next, where the bytes that are held show both.
use Rattle.std.proofs.Common.{◌≡◌, ◌∙◌, sym, ap, refl, ℕ, ◌<◌, ◌≤◌, Bool, true, false, cond, not, ◌&&◌, List, [], length, Option, Some, None, is_none, Ok, arith}
use Rattle.nl_bytes.specs.Bytes.{Window}
use Rattle.edif_tokens.specs.declared.form.FormAt.{FormAt}
use Rattle.edif_tokens.specs.declared.token.Found.{Found}
use Rattle.edif_tokens.specs.Held as tokens
use Rattle.edif_tokens.specs.HeldForm.{no_form}
use Rattle.edif_tokens.specs.HeldForm as forms
use Rattle.edif_tokens.proofs.HeldForms as held
use Rattle.nl_io.specs.Sources.{Supply}
use Rattle.readers.specs.Readers.{Reader, Reads, same}
use Rattle.readers.proofs.Chain.{reads_then, maybe_reads}
use Rattle.edif_values.specs.declared.keyword.Keyword.{Keyword}
use Rattle.edif_keywords.specs.Aliases.{Alias}
use Rattle.edif_values.specs.Keywords.{allowed_keyword}
use Rattle.edif_keywords.specs.Calls.{is_unlooked, held_mark, past_mark, held_word, past_word, form_at, form_word, past_form}
use Rattle.edif_keywords.specs.Grammar.{opening, keyword, begin}
use Rattle.edif_keywords.specs.Language.{edif}
use Rattle.edif_keywords.proofs.HeldTokens.{held_live, opening_taken, keyword_held}

-- a reader of which a form is held is not spent, and has looked at no token
form_live : (a : Reader (List Alias) Found) (at : FormAt) → at ≡ form_at a → 0 < at.count → (a.spent ≡ false) × (a.ahead ≡ None) × (at ≡ forms.form_at a.window)
unfolding form_at
form_live a at is some =
    let l = held_live no_form (forms.form_at a.window) a (λ n. absurd (omega (arith, some, ap (λ (x : FormAt). x.count) (is ∙ n)))) in
    (l.0, l.1, is ∙ l.2)

pub live_unlooked : (a : Reader (List Alias) Found) → a.spent ≡ false → a.ahead ≡ None → is_unlooked a ≡ true
live_unlooked a live none = ap (λ (s : Bool). not s && is_none a.ahead) live ∙ ap (λ (x : Option Found). is_none x) none

live_mark : (a : Reader (List Alias) Found) → is_unlooked a ≡ true → held_mark a ≡ tokens.held_mark a.window
unfolding held_mark
live_mark a e = ap (λ (t : Bool). cond t (tokens.held_mark a.window) None) e

live_word : (a : Reader (List Alias) Found) → is_unlooked a ≡ true → held_word a ≡ tokens.held_word a.window
unfolding held_word
live_word a e = ap (λ (t : Bool). cond t (tokens.held_word a.window) []) e

-- the same of what a reader is made of
pub inside_form : (w : Window) (h : Option Found) (k : List Alias) (b : Bool) (a : Reader (List Alias) Found) → record { window = w; ahead = h; context = k; spent = b } ≡ a → (at : FormAt) → at ≡ form_at a → 0 < at.count → (at ≡ forms.form_at w) × (h ≡ None)
inside_form w h k b a e at is some = let l = form_live (record { window = w; ahead = h; context = k; spent = b }) at (is ∙ ap form_at (sym e)) some in (l.2, l.1)

-- the `(` and the keyword of the form are taken
pub begin_held : (a b : Reader (List Alias) Found) (at : FormAt) (allowed : List Keyword) (q : Keyword) → at ≡ form_at a → 0 < at.count → length a.window.held ≤ 4096 → (i : Supply) → allowed_keyword allowed (form_word a) ≡ Some q → b ≡ past_form a → Reads edif same (begin allowed) (Ok q) a b i i
unfolding begin
begin_held a b at allowed q is some small i e left =
    let l = form_live a at is some in
    let h = held.form_held a.window at l.2 some in
    let m = past_mark a in
    let mark : held_mark a ≡ Some 40 = live_mark a (live_unlooked a l.0 l.1) ∙ h.mark in
    let word : held_word m ≡ form_word a = live_word m (live_unlooked m l.0 l.1) in
    let count : 0 < length (held_word m) = omega (arith, some, h.count, ap (λ (w : List ℕ). length w) word) in
    let first = opening_taken a m mark small i refl in
    let second = keyword_held m (past_word m) allowed q count (held.form_small a.window at l.2 some small) i (ap (allowed_keyword allowed) word ∙ e) refl in
    rw left (reads_then edif same same opening (λ _. keyword allowed) (Ok q) first (maybe_reads edif same (keyword allowed) (Ok q) m (past_word m) i i second))
