-- What a text reads as, its first fault and its cut at the limit of an input, by all its tokens.
use Rattle.std.proofs.Common.{◌≡◌, ◌∙◌, refl, sym, ap, subst, ℕ, ◌≤◌, ◌<◌, List, [], ◌∷◌, ◌++◌, length, Ok, Err, inl, inr, arith, append_assoc}
use Rattle.std.specs.Prelude.{◌↔◌}
use Rattle.std.proofs.lemmas.Bool.{cases_lt}
use Rattle.grammar.specs.Clear.{IsLive, IsClear, IsClosed}
use Rattle.grammar.specs.Reading.{refused, ended, Found, read}
use Rattle.grammar.specs.Texts.{Begins, Spells}
use Rattle.grammar.specs.Faults.{Faults}
use Rattle.grammar.specs.Whole.{Terminal, end, Finish, Done, Bad, Over, whole, at_token}
use Rattle.grammar.proofs.Exact.{text_from_read}
use Rattle.grammar.proofs.Follow.{clear_fewer}
use Rattle.grammar.proofs.Whole as grammar
use Rattle.nl_base.specs.Place.{place_at_start}
use Rattle.nl_base.specs.declared.fault.Reason.{Reason}
use Rattle.nl_base.specs.declared.fault.TextFault.{TextFault}
use Rattle.nl_base.specs.declared.place.Place.{Place}
use Rattle.nl_bytes.specs.declared.bytes.TheConstants.{LIMIT}
use Rattle.readers.specs.Parts.{PartOf}
use Rattle.nl_bytes.proofs.Limited.{done_there}
use Rattle.readers.specs.Readers.{fault_at}
use Rattle.readers.specs.Rises.{Rises}
use Rattle.readers.proofs.Limited.{ends_there, fault_within, fault_looked}
use Rattle.vlog_tokens.specs.declared.token.VFound.{VFound}
use Rattle.vlog_tokens.specs.Language.{vlog, stop_of, stream_from, all_tokens, vtokens}
use Rattle.vlog_exprs.specs.Reasons.{trailing}
use Rattle.vlog_values.specs.declared.module.VlogFile.{VlogFile}
use Rattle.vlog_modules.specs.Grammar.{file}
use Rattle.vlog_modules.specs.Text.{VlogReads, VlogFault, VlogCut}
use Rattle.vlog_modules.proofs.Live.{live_file}
use Rattle.vlog_modules.proofs.Clear.{clear_file}
use Rattle.vlog_bounds.proofs.TokenCount.{read_within}
use Rattle.vlog_modules.specs.AnyLength.{VlogSpells, VlogFails}
use Rattle.grammar_laws.proofs.Ending.{whole_ends}
use Rattle.grammar_laws.proofs.Existing.{fault_exists}
use Rattle.vlog_limits.proofs.Limits.{over_long}
use Rattle.vlog_limits.proofs.Rising.{rises}
use Rattle.vlog_limits.proofs.Looked.{text_within, text_looked}

abbrev Tokens : Type 0
Tokens = List (Terminal VFound Place)

abbrev text : PartOf (Unit {0}) VFound VlogFile
text = whole trailing file

lives : IsLive tt text
lives = grammar.live_whole trailing tt file place_at_start live_file

closed : IsClosed tt text
closed = grammar.closed_whole trailing tt file (λ _ t. (p : Place) × (t ≡ end p)) (λ v at. (at, refl)) clear_file

last : Terminal VFound Place
last = end place_at_start

clear : IsClear tt text (λ _ x. x ≡ last)
clear = clear_fewer tt text (λ _ x. x ≡ last) (λ _ _. Unit {0}) (λ _ _ _. tt) closed

pub reads : (bs : List ℕ) (v : VlogFile) → VlogReads bs v ↔ (VlogSpells bs v × (length bs ≤ LIMIT))
reads bs v = (λ h. text_within tt text bs v h, λ h. text_looked tt text bs v h.0 h.1)

within : (bs : List ℕ) (f : TextFault) → VlogFault bs f → VlogFails bs f × (f.stop ≤ LIMIT)
unfolding stream_from
within bs f h = fault_within vlog tt text (all_tokens bs) f h

looked : (bs : List ℕ) (f : TextFault) → VlogFails bs f → f.stop ≤ LIMIT → VlogFault bs f
unfolding stream_from
looked bs f h le = fault_looked vlog tt text (all_tokens bs) f (rises bs) h le

pub faults : (bs : List ℕ) (f : TextFault) → VlogFault bs f ↔ (VlogFails bs f × (f.stop ≤ LIMIT))
faults bs f = (λ h. within bs f h, λ h. looked bs f h.0 h.1)

late : (bs : List ℕ) (f : TextFault) → VlogCut bs → VlogFails bs f → LIMIT < f.stop
late bs f c h = elim (cases_lt LIMIT f.stop) [
  | inl lt ↦ lt
  | inr le ↦ absurd (grammar.fault_or_cut (fault_at vlog) tt text lives last closed (vtokens bs) f (looked bs f h le) c)
]

abbrev AllLate : List ℕ → Type 0
AllLate bs = (f : TextFault) → VlogFails bs f → LIMIT < f.stop

-- where all first faults are past the limit, none is looked at
none_within : (bs : List ℕ) (f : TextFault) → AllLate bs → VlogFault bs f → ⊥
none_within bs f h g = let w = within bs f g in let l = h f w.0 in omega (arith, w.1, l)

is_long : (bs : List ℕ) → LIMIT < length bs → (vtokens bs).finish ≡ Done → ⊥
is_long bs long e = let w = read_within place_at_start bs e in omega (arith, long, w)

done_at : (bs : List ℕ) (before rest : Tokens) (p : Place) → (vtokens bs).tokens ≡ before ++ end p ∷ rest → (vtokens bs).finish ≡ Done
unfolding stream_from
done_at bs before rest p e = done_there stop_of (all_tokens bs) before rest p e

cut_by : (bs : List ℕ) → LIMIT < length bs → AllLate bs → (r : Found (Terminal VFound Place) Reason VlogFile) → read tt text (vtokens bs).tokens ≡ r → VlogCut bs
cut_by bs long h (Ok w) e =
    let t = text_from_read tt text lives last clear (vtokens bs).tokens w.1 w.0 e in
    let n = whole_ends trailing tt file t.text w.0 t.is_text in
    absurd (is_long bs long (done_at bs n.0 w.1 n.1 (t.place ∙ ap (λ (z : Tokens). z ++ w.1) n.2 ∙ append_assoc n.0 (end n.1 ∷ []) w.1)))
cut_by bs long h (Err (refused x r)) e = absurd (none_within bs (fault_at vlog x r) h (grammar.fault_is (fault_at vlog) tt text lives last closed (vtokens bs) x r e))
cut_by bs long h (Err ended) e = by (vtokens bs).finish refl
  where
    by : (finish : Finish TextFault) → (vtokens bs).finish ≡ finish → VlogCut bs
    by Done d = absurd (is_long bs long d)
    by (Bad f) d = absurd (none_within bs f h (grammar.bad_is (fault_at vlog) tt text lives last closed (vtokens bs) f e d))
    by Over d = grammar.cut_is (fault_at vlog) tt text lives last closed (vtokens bs) e d

pub cut : (bs : List ℕ) → VlogCut bs ↔ ((LIMIT < length bs) × ((f : TextFault) → VlogFails bs f → LIMIT < f.stop))
cut bs = (λ c. (over_long bs c.1, λ f h. late bs f c h), λ h. cut_by bs h.0 h.1 (read tt text (vtokens bs).tokens) refl)

-- ---- a first fault

no_text : (bs : List ℕ) (before after : Tokens) (x : Terminal VFound Place) → (all_tokens bs).tokens ≡ before ++ x ∷ after → (v : VlogFile) → Spells tt text before v → ⊥
no_text bs before after x e v h =
    let n = whole_ends trailing tt file before v h in
    let place : (all_tokens bs).tokens ≡ n.0 ++ end n.1 ∷ (x ∷ after) = e ∙ ap (λ (z : Tokens). z ++ x ∷ after) n.2 ∙ append_assoc n.0 (end n.1 ∷ []) (x ∷ after) in
    let none = (ends_there stop_of 0 n.0 (x ∷ after) n.1 (all_tokens bs).finish (subst (λ (z : Tokens). Rises stop_of 0 z (all_tokens bs).finish) place (rises bs))).nothing in
    absurd cc

pub first_fault : (bs : List ℕ) (before after : Tokens) (x : Terminal VFound Place) → (all_tokens bs).tokens ≡ before ++ x ∷ after → Begins tt text before → (Begins tt text (before ++ x ∷ []) → ⊥)
    → (reason : Reason) × VlogFails bs (fault_at vlog x reason)
first_fault bs before after x e g s =
    let there = fault_exists tt text lives last clear before after x g s (no_text bs before after x e) in
    (there.0, at_token x there.0 (subst (λ (z : Tokens). Faults tt text z x there.0) (sym e) there.1) refl)
