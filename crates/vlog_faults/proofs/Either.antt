-- Bytes of any length spell a file or have a first fault.
use Rattle.std.proofs.Common.{◌≡◌, ◌∙◌, refl, sym, ap, subst, ℕ, List, [], ◌∷◌, ◌++◌, Ok, Err, ◌⊎◌, inl, inr, append-nil, append_assoc}
use Rattle.grammar.specs.Clear.{IsLive, IsClear, IsClosed}
use Rattle.grammar.specs.Reading.{refused, ended, Found, read}
use Rattle.grammar.specs.Texts.{Begins, Spells}
use Rattle.grammar.specs.Whole.{Terminal, end, Finish, Done, Bad, Over, whole}
use Rattle.grammar.proofs.Exact.{text_from_read, begins_from_read}
use Rattle.grammar.proofs.Follow.{clear_fewer}
use Rattle.grammar.proofs.Whole as grammar
use Rattle.nl_base.specs.Place.{place_at_start}
use Rattle.nl_base.specs.declared.fault.Reason.{Reason}
use Rattle.nl_base.specs.declared.fault.TextFault.{TextFault}
use Rattle.nl_base.specs.declared.place.Place.{Place}
use Rattle.readers.specs.Parts.{PartOf}
use Rattle.readers.specs.Readers.{fault_at}
use Rattle.vlog_tokens.specs.declared.token.VFound.{VFound}
use Rattle.vlog_tokens.specs.Language.{vlog, stop_of, all_tokens}
use Rattle.vlog_exprs.specs.Reasons.{trailing}
use Rattle.vlog_values.specs.declared.module.VlogFile.{VlogFile}
use Rattle.vlog_modules.specs.Grammar.{file}
use Rattle.vlog_modules.proofs.Live.{live_file}
use Rattle.vlog_modules.proofs.Clear.{clear_file}
use Rattle.vlog_modules.specs.AnyLength.{VlogSpells, VlogFails}
use Rattle.grammar_laws.specs.GoesOn.{AllOf}
use Rattle.grammar_laws.proofs.Ending.{IsToken, one_end, none_more, whole_ends}
use Rattle.grammar_laws.proofs.Refusing.{text_has}
use Rattle.readers.specs.Rises.{Rises}
use Rattle.readers.proofs.Limited.{ends_there, has_last}
use Rattle.vlog_limits.proofs.Limits.{never_over}
use Rattle.vlog_limits.proofs.Rising.{rises}
use Rattle.vlog_faults.specs.Fitting.{Fits}
use Rattle.vlog_faults.proofs.FileProductions.{file_fit}

abbrev Tokens : Type 0
Tokens = List (Terminal VFound Place)

abbrev text : PartOf (Unit {0}) VFound VlogFile
text = whole trailing file

lives : IsLive tt text
lives = grammar.live_whole trailing tt file place_at_start live_file

closed : IsClosed tt text
closed = grammar.closed_whole trailing tt file (λ _ t. (p : Place) × (t ≡ end p)) (λ v at. (at, refl)) clear_file

last : Terminal VFound Place
last = end place_at_start

clear : IsClear tt text (λ _ x. x ≡ last)
clear = clear_fewer tt text (λ _ x. x ≡ last) (λ _ _. Unit {0}) (λ _ _ _. tt) closed

-- a file has tokens alone
tokens_alone : (ts : Tokens) (v : VlogFile) → Spells tt file ts v → AllOf IsToken ts
tokens_alone ts v h = text_has Fits IsToken tt file file_fit ts v h

-- what is told up to the end has it
abbrev HasLast : Tokens → Type 0
HasLast ts = (before : Tokens) × (p : Place) × (ts ≡ before ++ end p ∷ [])

-- tokens up to the end that can go on are a text
complete : (ts : Tokens) → HasLast ts → Begins tt text ts → (v : VlogFile) × Spells tt text ts v
complete ts l h =
    let n = one_end trailing tt file tokens_alone (ts ++ h.0) h.1 h.2 in
    let place : l.0 ++ end l.1 ∷ h.0 ≡ n.0 ++ end n.1 ∷ [] = sym (append_assoc l.0 (end l.1 ∷ []) h.0) ∙ ap (λ (z : Tokens). z ++ h.0) (sym l.2) ∙ n.2 in
    let none = none_more l.0 h.0 n.0 l.1 n.1 n.3 place in
    (h.1, subst (λ (z : Tokens). Spells tt text z h.1) (ap (λ (z : Tokens). ts ++ z) none ∙ append-nil ts) h.2)

abbrev IsEither : List ℕ → Type 0
IsEither bs = ((v : VlogFile) × VlogSpells bs v) ⊎ ((f : TextFault) × VlogFails bs f)

by_reading : (bs : List ℕ) (r : Found (Terminal VFound Place) Reason VlogFile) → read tt text (all_tokens bs).tokens ≡ r → IsEither bs
by_reading bs (Ok w) e =
    let t = text_from_read tt text lives last clear (all_tokens bs).tokens w.1 w.0 e in
    let n = whole_ends trailing tt file t.text w.0 t.is_text in
    let place : (all_tokens bs).tokens ≡ n.0 ++ end n.1 ∷ w.1 = t.place ∙ ap (λ (z : Tokens). z ++ w.1) n.2 ∙ append_assoc n.0 (end n.1 ∷ []) w.1 in
    let there = ends_there stop_of 0 n.0 w.1 n.1 (all_tokens bs).finish (subst (λ (z : Tokens). Rises stop_of 0 z (all_tokens bs).finish) place (rises bs)) in
    let whole_text : (all_tokens bs).tokens ≡ t.text = t.place ∙ ap (λ (z : Tokens). t.text ++ z) there.nothing ∙ append-nil t.text in
    inl (w.0, (subst (λ (z : Tokens). Spells tt text z w.0) (sym whole_text) t.is_text, there.done))
by_reading bs (Err (refused x r)) e = inr (fault_at vlog x r, grammar.fault_is (fault_at vlog) tt text lives last closed (all_tokens bs) x r e)
by_reading bs (Err ended) e = by (all_tokens bs).finish refl
  where
    by : (finish : Finish TextFault) → (all_tokens bs).finish ≡ finish → IsEither bs
    by Done d =
        let whole_text = complete (all_tokens bs).tokens (has_last stop_of 0 (all_tokens bs).tokens (all_tokens bs).finish d (rises bs)) (begins_from_read tt text lives last clear (all_tokens bs).tokens e) in
        inl (whole_text.0, (whole_text.1, d))
    by (Bad f) d = inr (f, grammar.bad_is (fault_at vlog) tt text lives last closed (all_tokens bs) f e d)
    by Over d = absurd (never_over 0 place_at_start bs d)

pub either : (bs : List ℕ) → ((v : VlogFile) × VlogSpells bs v) ⊎ ((f : TextFault) × VlogFails bs f)
either bs = by_reading bs (read tt text (all_tokens bs).tokens) refl
