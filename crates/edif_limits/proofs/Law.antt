-- What a text reads as, its first fault and its cut at the limit of an input, by all its tokens.
use Rattle.std.proofs.Common.{◌≡◌, ◌∙◌, refl, sym, ap, subst, ℕ, ◌≤◌, ◌<◌, List, [], ◌∷◌, ◌++◌, length, Ok, Err, inl, inr, arith, append_assoc}
use Rattle.std.specs.Prelude.{◌↔◌}
use Rattle.std.proofs.lemmas.Bool.{cases_lt}
use Rattle.grammar.specs.Clear.{IsLive, IsClear, IsClosed}
use Rattle.grammar.specs.Reading.{refused, ended, Found as Read, read}
use Rattle.grammar.specs.Texts.{Begins, Spells}
use Rattle.grammar.specs.Faults.{Faults}
use Rattle.grammar.specs.Whole.{Terminal, end, whole, Finish, Done, Bad, Over, IsText, at_token}
use Rattle.grammar.proofs.Exact.{text_from_read}
use Rattle.grammar.proofs.Follow.{clear_fewer}
use Rattle.grammar.proofs.Whole as grammar
use Rattle.nl_base.specs.Place.{place_at_start}
use Rattle.nl_base.specs.declared.place.Place.{Place}
use Rattle.nl_base.specs.declared.fault.Reason.{Reason}
use Rattle.nl_base.specs.declared.fault.TextFault.{TextFault}
use Rattle.nl_bytes.specs.declared.bytes.TheConstants.{LIMIT}
use Rattle.nl_bytes.specs.Tokens.{Ahead}
use Rattle.nl_bytes.proofs.Limited.{done_there}
use Rattle.readers.specs.Parts.{PartOf}
use Rattle.readers.specs.Readers.{fault_at}
use Rattle.readers.specs.Rises.{Rises}
use Rattle.readers.specs.Texts.{tokens_of}
use Rattle.readers.proofs.Limited.{ends_there, fault_within, fault_looked}
use Rattle.edif_tokens.specs.declared.token.Found.{Found}
use Rattle.edif_tokens.specs.Language.{stop_of, stream_from, all_tokens}
use Rattle.edif_tokens.proofs.Limits.{tokens_whole, over_long}
use Rattle.edif_keywords.specs.Aliases.{Alias}
use Rattle.edif_keywords.specs.Language.{edif}
use Rattle.edif_keywords.specs.Reasons.{trailing}
use Rattle.edif_values.specs.declared.file.EdifFile.{EdifFile}
use Rattle.edif_library.specs.Grammar.{file}
use Rattle.edif_library.specs.Text.{EdifReads, EdifFault, EdifCut}
use Rattle.edif_library.proofs.Live.{live_file, closed_file}
use Rattle.edif_library.specs.AnyLength.{EdifSpells, EdifFails}
use Rattle.grammar_laws.proofs.Ending.{whole_ends}
use Rattle.grammar_laws.proofs.Existing.{fault_exists}
use Rattle.edif_limits.proofs.Stops.{rises}
use Rattle.edif_limits.proofs.Tokens.{read_within}

abbrev Tokens : Type 0
Tokens = List (Terminal Found Place)

abbrev text : PartOf (List Alias) Found EdifFile
text = whole trailing (file [])

file_clear : IsClear [] (file []) (λ _ t. (p : Place) × (t ≡ end p))
file_clear = clear_fewer [] (file []) (λ _ t. (p : Place) × (t ≡ end p)) (λ _ _. Unit {0}) (λ _ _ _. tt) (closed_file [] []).closed

lives : IsLive [] text
lives = grammar.live_whole trailing [] (file []) place_at_start (live_file [] [])

closed : IsClosed [] text
closed = grammar.closed_whole trailing [] (file []) (λ _ t. (p : Place) × (t ≡ end p)) (λ v at. (at, refl)) file_clear

at_last : Terminal Found Place
at_last = end place_at_start

clear : IsClear [] text (λ _ x. x ≡ at_last)
clear = clear_fewer [] text (λ _ x. x ≡ at_last) (λ _ _. Unit {0}) (λ _ _ _. tt) closed

short : (bs : List ℕ) (v : EdifFile) → EdifReads bs v → length bs ≤ LIMIT
short bs v h = let l = read_within place_at_start bs h.1 in omega (arith, l)

pub reads : (bs : List ℕ) (v : EdifFile) → EdifReads bs v ↔ (EdifSpells bs v × (length bs ≤ LIMIT))
reads bs v = (
  λ h. let le = short bs v h in (subst (λ (s : Ahead Found). IsText [] text s v) (tokens_whole bs le) h, le),
  λ h. subst (λ (s : Ahead Found). IsText [] text s v) (sym (tokens_whole bs h.1)) h.0,
)

within : (bs : List ℕ) (f : TextFault) → EdifFault bs f → EdifFails bs f × (f.stop ≤ LIMIT)
unfolding stream_from
within bs f h = fault_within edif [] text (all_tokens bs) f h

looked : (bs : List ℕ) (f : TextFault) → EdifFails bs f → f.stop ≤ LIMIT → EdifFault bs f
unfolding stream_from
looked bs f h le = fault_looked edif [] text (all_tokens bs) f (rises bs) h le

pub faults : (bs : List ℕ) (f : TextFault) → EdifFault bs f ↔ (EdifFails bs f × (f.stop ≤ LIMIT))
faults bs f = (λ h. within bs f h, λ h. looked bs f h.0 h.1)

late : (bs : List ℕ) (f : TextFault) → EdifCut bs → EdifFails bs f → LIMIT < f.stop
late bs f c h = elim (cases_lt LIMIT f.stop) [
  | inl lt ↦ lt
  | inr le ↦ absurd (grammar.fault_or_cut (fault_at edif) [] text lives at_last closed (tokens_of edif bs) f (looked bs f h le) c)
]

abbrev AllLate : List ℕ → Type 0
AllLate bs = (f : TextFault) → EdifFails bs f → LIMIT < f.stop

-- where all first faults are past the limit, none is looked at
none_within : (bs : List ℕ) (f : TextFault) → AllLate bs → EdifFault bs f → ⊥
none_within bs f h g = let w = within bs f g in let l = h f w.0 in omega (arith, w.1, l)

is_long : (bs : List ℕ) → LIMIT < length bs → (tokens_of edif bs).finish ≡ Done → ⊥
is_long bs long e = let w = read_within place_at_start bs e in omega (arith, long, w)

done_at : (bs : List ℕ) (before rest : Tokens) (p : Place) → (tokens_of edif bs).tokens ≡ before ++ end p ∷ rest → (tokens_of edif bs).finish ≡ Done
unfolding stream_from
done_at bs before rest p e = done_there stop_of (all_tokens bs) before rest p e

cut_by : (bs : List ℕ) → LIMIT < length bs → AllLate bs → (r : Read (Terminal Found Place) Reason EdifFile) → read [] text (tokens_of edif bs).tokens ≡ r → EdifCut bs
cut_by bs long h (Ok w) e =
    let t = text_from_read [] text lives at_last clear (tokens_of edif bs).tokens w.1 w.0 e in
    let n = whole_ends trailing [] (file []) t.text w.0 t.is_text in
    absurd (is_long bs long (done_at bs n.0 w.1 n.1 (t.place ∙ ap (λ (z : Tokens). z ++ w.1) n.2 ∙ append_assoc n.0 (end n.1 ∷ []) w.1)))
cut_by bs long h (Err (refused x r)) e = absurd (none_within bs (fault_at edif x r) h (grammar.fault_is (fault_at edif) [] text lives at_last closed (tokens_of edif bs) x r e))
cut_by bs long h (Err ended) e = by (tokens_of edif bs).finish refl
  where
    by : (finish : Finish TextFault) → (tokens_of edif bs).finish ≡ finish → EdifCut bs
    by Done d = absurd (is_long bs long d)
    by (Bad f) d = absurd (none_within bs f h (grammar.bad_is (fault_at edif) [] text lives at_last closed (tokens_of edif bs) f e d))
    by Over d = grammar.cut_is (fault_at edif) [] text lives at_last closed (tokens_of edif bs) e d

pub cut : (bs : List ℕ) → EdifCut bs ↔ ((LIMIT < length bs) × ((f : TextFault) → EdifFails bs f → LIMIT < f.stop))
cut bs = (λ c. (let l = over_long place_at_start bs c.1 in omega (arith, l), λ f h. late bs f c h), λ h. cut_by bs h.0 h.1 (read [] text (tokens_of edif bs).tokens) refl)

-- ---- a first fault

no_text : (bs : List ℕ) (before after : Tokens) (x : Terminal Found Place) → (all_tokens bs).tokens ≡ before ++ x ∷ after → (v : EdifFile) → Spells [] text before v → ⊥
no_text bs before after x e v h =
    let n = whole_ends trailing [] (file []) before v h in
    let place : (all_tokens bs).tokens ≡ n.0 ++ end n.1 ∷ (x ∷ after) = e ∙ ap (λ (z : Tokens). z ++ x ∷ after) n.2 ∙ append_assoc n.0 (end n.1 ∷ []) (x ∷ after) in
    let none = (ends_there stop_of 0 n.0 (x ∷ after) n.1 (all_tokens bs).finish (subst (λ (z : Tokens). Rises stop_of 0 z (all_tokens bs).finish) place (rises bs))).nothing in
    absurd cc

pub first_fault : (bs : List ℕ) (before after : Tokens) (x : Terminal Found Place) → (all_tokens bs).tokens ≡ before ++ x ∷ after → Begins [] text before → (Begins [] text (before ++ x ∷ []) → ⊥)
    → (reason : Reason) × EdifFails bs (fault_at edif x reason)
first_fault bs before after x e g s =
    let there = fault_exists [] text lives at_last clear before after x g s (no_text bs before after x e) in
    (there.0, at_token x there.0 (subst (λ (z : Tokens). Faults [] text z x there.0) (sym e) there.1) refl)
