-- Bytes of any length spell a file or have a first fault.
use Rattle.std.proofs.Common.{◌≡◌, ◌∙◌, refl, sym, ap, subst, ℕ, List, [], ◌∷◌, ◌++◌, Ok, Err, ◌⊎◌, inl, inr, append-nil, append_assoc}
use Rattle.grammar.specs.Clear.{IsLive, IsClear, IsClosed}
use Rattle.grammar.specs.Reading.{refused, ended, Found as Read, read}
use Rattle.grammar.specs.Texts.{Begins, Spells}
use Rattle.grammar.specs.Whole.{Terminal, end, Finish, Done, Bad, Over, whole}
use Rattle.grammar.proofs.Exact.{text_from_read, begins_from_read}
use Rattle.grammar.proofs.Follow.{clear_fewer}
use Rattle.grammar.proofs.Whole as grammar
use Rattle.nl_base.specs.Place.{place_at_start}
use Rattle.nl_base.specs.declared.fault.Reason.{Reason}
use Rattle.nl_base.specs.declared.fault.TextFault.{TextFault}
use Rattle.nl_base.specs.declared.place.Place.{Place}
use Rattle.readers.specs.Parts.{PartOf}
use Rattle.readers.specs.Readers.{fault_at}
use Rattle.readers.specs.Rises.{Rises}
use Rattle.readers.proofs.Limited.{ends_there, has_last}
use Rattle.edif_tokens.specs.declared.token.Found.{Found}
use Rattle.edif_tokens.specs.Language.{stop_of, all_tokens}
use Rattle.edif_keywords.specs.Aliases.{Alias}
use Rattle.edif_keywords.specs.Language.{edif}
use Rattle.edif_keywords.specs.Reasons.{trailing}
use Rattle.edif_values.specs.declared.file.EdifFile.{EdifFile}
use Rattle.edif_library.specs.Grammar.{file}
use Rattle.edif_library.proofs.Live.{live_file, closed_file}
use Rattle.edif_library.specs.AnyLength.{EdifSpells, EdifFails}
use Rattle.grammar_laws.proofs.Ending.{HasEnd, one_end, none_more, whole_ends}
use Rattle.edif_limits.proofs.Stops.{rises, never_over}
use Rattle.edif_faults.proofs.Taking.{tokens_alone}

abbrev Tokens : Type 0
Tokens = List (Terminal Found Place)

abbrev text : PartOf (List Alias) Found EdifFile
text = whole trailing (file [])

file_clear : IsClear [] (file []) (λ _ t. (p : Place) × (t ≡ end p))
file_clear = clear_fewer [] (file []) (λ _ t. (p : Place) × (t ≡ end p)) (λ _ _. Unit {0}) (λ _ _ _. tt) (closed_file [] []).closed

lives : IsLive [] text
lives = grammar.live_whole trailing [] (file []) place_at_start (live_file [] [])

closed : IsClosed [] text
closed = grammar.closed_whole trailing [] (file []) (λ _ t. (p : Place) × (t ≡ end p)) (λ v at. (at, refl)) file_clear

at_last : Terminal Found Place
at_last = end place_at_start

clear : IsClear [] text (λ _ x. x ≡ at_last)
clear = clear_fewer [] text (λ _ x. x ≡ at_last) (λ _ _. Unit {0}) (λ _ _ _. tt) closed

-- tokens up to the end that can go on are a text
complete : (ts : Tokens) → HasEnd ts → Begins [] text ts → (v : EdifFile) × Spells [] text ts v
complete ts l h =
    let n = one_end trailing [] (file []) tokens_alone (ts ++ h.0) h.1 h.2 in
    let place : l.0 ++ end l.1 ∷ h.0 ≡ n.0 ++ end n.1 ∷ [] = sym (append_assoc l.0 (end l.1 ∷ []) h.0) ∙ ap (λ (z : Tokens). z ++ h.0) (sym l.2) ∙ n.2 in
    let none = none_more l.0 h.0 n.0 l.1 n.1 n.3 place in
    (h.1, subst (λ (z : Tokens). Spells [] text z h.1) (ap (λ (z : Tokens). ts ++ z) none ∙ append-nil ts) h.2)

abbrev IsEither : List ℕ → Type 0
IsEither bs = ((v : EdifFile) × EdifSpells bs v) ⊎ ((f : TextFault) × EdifFails bs f)

by_reading : (bs : List ℕ) (r : Read (Terminal Found Place) Reason EdifFile) → read [] text (all_tokens bs).tokens ≡ r → IsEither bs
by_reading bs (Ok w) e =
    let t = text_from_read [] text lives at_last clear (all_tokens bs).tokens w.1 w.0 e in
    let n = whole_ends trailing [] (file []) t.text w.0 t.is_text in
    let place : (all_tokens bs).tokens ≡ n.0 ++ end n.1 ∷ w.1 = t.place ∙ ap (λ (z : Tokens). z ++ w.1) n.2 ∙ append_assoc n.0 (end n.1 ∷ []) w.1 in
    let there = ends_there stop_of 0 n.0 w.1 n.1 (all_tokens bs).finish (subst (λ (z : Tokens). Rises stop_of 0 z (all_tokens bs).finish) place (rises bs)) in
    let whole_text : (all_tokens bs).tokens ≡ t.text = t.place ∙ ap (λ (z : Tokens). t.text ++ z) there.nothing ∙ append-nil t.text in
    inl (w.0, (subst (λ (z : Tokens). Spells [] text z w.0) (sym whole_text) t.is_text, there.done))
by_reading bs (Err (refused x r)) e = inr (fault_at edif x r, grammar.fault_is (fault_at edif) [] text lives at_last closed (all_tokens bs) x r e)
by_reading bs (Err ended) e = by (all_tokens bs).finish refl
  where
    by : (finish : Finish TextFault) → (all_tokens bs).finish ≡ finish → IsEither bs
    by Done d =
        let whole_text = complete (all_tokens bs).tokens (has_last stop_of 0 (all_tokens bs).tokens (all_tokens bs).finish d (rises bs)) (begins_from_read [] text lives at_last clear (all_tokens bs).tokens e) in
        inl (whole_text.0, (whole_text.1, d))
    by (Bad f) d = inr (f, grammar.bad_is (fault_at edif) [] text lives at_last closed (all_tokens bs) f e d)
    by Over d = absurd (never_over bs d)

pub either : (bs : List ℕ) → ((v : EdifFile) × EdifSpells bs v) ⊎ ((f : TextFault) × EdifFails bs f)
either bs = by_reading bs (read [] text (all_tokens bs).tokens) refl
