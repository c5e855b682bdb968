-- The first fault of a text has the reason of the first row that fits, and each first token that no file has there is a first fault.
use Rattle.std.proofs.Common.{◌≡◌, ◌∙◌, refl, sym, ap, subst, ℕ, List, [], ◌∷◌, ◌++◌, length, length-append, Err, arith, append_assoc}
use Rattle.std.specs.Prelude.{◌↔◌}
use Rattle.grammar.specs.Clear.{IsLive, IsClear, IsClosed}
use Rattle.grammar.specs.Faults.{Faults}
use Rattle.grammar.specs.Reading.{refused, read}
use Rattle.grammar.specs.Texts.{Spells, Begins}
use Rattle.grammar.specs.Whole.{Terminal, end, whole, at_token, at_bad}
use Rattle.grammar.proofs.Exact.{Places, one_place, before_it, behind_it, fault_from_read, read_from_fault, fault_or_begins}
use Rattle.grammar.proofs.Follow.{clear_fewer}
use Rattle.grammar.proofs.Whole as grammar
use Rattle.grammar_laws.proofs.Ending.{whole_ends}
use Rattle.grammar_laws.proofs.Existing.{fault_exists}
use Rattle.nl_base.specs.Place.{place_at_start}
use Rattle.nl_base.specs.declared.place.Place.{Place}
use Rattle.nl_base.specs.declared.fault.Reason.{Reason}
use Rattle.nl_base.specs.declared.fault.TextFault.{TextFault}
use Rattle.readers.specs.Parts.{PartOf}
use Rattle.readers.specs.Readers.{fault_at}
use Rattle.readers.specs.Rises.{Rises}
use Rattle.readers.proofs.Limited.{ends_there}
use Rattle.edif_tokens.specs.declared.token.Found.{Found}
use Rattle.edif_tokens.specs.Language.{stop_of, all_tokens}
use Rattle.edif_keywords.specs.Aliases.{Alias}
use Rattle.edif_keywords.specs.Language.{edif}
use Rattle.edif_keywords.specs.Reasons as say
use Rattle.edif_values.specs.declared.file.EdifFile.{EdifFile}
use Rattle.edif_library.specs.Grammar.{file}
use Rattle.edif_library.specs.Text.{EdifFault}
use Rattle.edif_library.proofs.Live.{live_file, closed_file}
use Rattle.edif_library.specs.AnyLength.{EdifFails}
use Rattle.edif_limits.proofs.Law.{faults}
use Rattle.edif_limits.proofs.Stops.{rises}
use Rattle.edif_reasons.specs.Context.{Tokens, at_start}
use Rattle.edif_reasons.specs.Rows.{reason_row}
use Rattle.edif_reasons.specs.FirstFault.{GoesOn, FailsByTable, FailsEarlyByTable, of_token, of_no_token}
use Rattle.edif_reasons.proofs.Tracking.{Says}
use Rattle.edif_reasons.proofs.File.{tracks_whole}

abbrev text : PartOf (List Alias) Found EdifFile
text = whole say.trailing (file [])

file_clear : IsClear [] (file []) (λ _ t. (p : Place) × (t ≡ end p))
file_clear = clear_fewer [] (file []) (λ _ t. (p : Place) × (t ≡ end p)) (λ _ _. Unit {0}) (λ _ _ _. tt) (closed_file [] []).closed

lives : IsLive [] text
lives = grammar.live_whole say.trailing [] (file []) place_at_start (live_file [] [])

closed : IsClosed [] text
closed = grammar.closed_whole say.trailing [] (file []) (λ _ t. (p : Place) × (t ≡ end p)) (λ v at. (at, refl)) file_clear

at_last : Terminal Found Place
at_last = end place_at_start

clear : IsClear [] text (λ _ x. x ≡ at_last)
clear = clear_fewer [] text (λ _ x. x ≡ at_last) (λ _ _. Unit {0}) (λ _ _ _. tt) closed

-- of two ways to part a list, either the places are one, or one part begins the other
places : {X : Type 0} (a : List X) (x : X) (c b : List X) (y : X) (d : List X) → a ++ x ∷ c ≡ b ++ y ∷ d → Places a x c b y d
places [] x c [] y d e = let k : x ≡ y = cc in let l : c ≡ d = cc in one_place refl k l
places [] x c (z ∷ b) y d e = let k : z ≡ x = cc in before_it b (ap (λ w. w ∷ b) k)
places (z ∷ a) x c [] y d e = let k : z ≡ y = cc in behind_it a (ap (λ w. w ∷ a) k)
places (z ∷ a) x c (w ∷ b) y d e = let k : z ≡ w = cc in let l : a ++ x ∷ c ≡ b ++ y ∷ d = cc in more k (places a x c b y d l)
  where
    more : z ≡ w → Places a x c b y d → Places (z ∷ a) x c (w ∷ b) y d
    more k (one_place e f g) = one_place (cc) f g
    more k (before_it m e) = before_it m (cc)
    more k (behind_it m e) = behind_it m (cc)

fewer_begins : (a b m : Tokens) → b ≡ a ++ m → Begins [] text b → Begins [] text a
fewer_begins a b m e h = (m ++ h.0, h.1, subst (λ (z : Tokens). Spells [] text z h.1) (ap (λ (z : Tokens). z ++ h.0) e ∙ append_assoc a m h.0) h.2)

-- a token that is refused behind some tokens is not gone on with
not_on : (a : Tokens) (x : Terminal Found Place) (r : Reason) → read [] text (a ++ x ∷ []) ≡ Err (refused x r) → Begins [] text (a ++ x ∷ []) → ⊥
not_on a x r e h = fault_or_begins [] text lives at_last clear (a ++ x ∷ []) x r (fault_from_read [] text lives at_last clear (a ++ x ∷ []) x r e) h

module _ (before : Tokens) (x : Terminal Found Place) (r : Reason) (goes_on : Begins [] text before) where
  by_places : (a b : Tokens) → before ++ x ∷ [] ≡ a ++ x ∷ b → r ≡ reason_row a x → read [] text (a ++ x ∷ []) ≡ Err (refused x r)
      → Places before x [] a x b → r ≡ reason_row before x
  by_places a b parts is e (one_place f g h) = is ∙ ap (λ (z : Tokens). reason_row z x) (sym f)
  by_places a b parts is e (before_it m f) = absurd (omega
      (arith, ap length f, ap length parts, length-append before (x ∷ []), length-append a (x ∷ b), length-append (before ++ x ∷ []) m))
  by_places a b parts is e (behind_it m f) = absurd (not_on a x r e (fewer_begins (a ++ x ∷ []) before m f goes_on))

  -- a token that is refused behind tokens that go on has the reason of the table
  pub reason_is_row : read [] text (before ++ x ∷ []) ≡ Err (refused x r) → r ≡ reason_row before x
  reason_is_row e =
      let s = subst (Says [] text at_start (λ _ _. Unit {0}) (before ++ x ∷ [])) e (tracks_whole.says (before ++ x ∷ [])) in
      by_places s.0 s.1 s.2 s.3 (s.4 []) (places before x [] s.0 x s.1 s.2)

abbrev all_ahead : List ℕ → Tokens
all_ahead bs = (all_tokens bs).tokens

-- what has a token behind it is no whole text
no_text : (bs : List ℕ) (before after : Tokens) (x : Terminal Found Place) → all_ahead bs ≡ before ++ x ∷ after → (v : EdifFile)
    → Spells [] text before v → ⊥
no_text bs before after x e v h =
    let n = whole_ends say.trailing [] (file []) before v h in
    let place : all_ahead bs ≡ n.0 ++ end n.1 ∷ (x ∷ after) = e ∙ ap (λ (z : Tokens). z ++ x ∷ after) n.2 ∙ append_assoc n.0 (end n.1 ∷ [])
    (x ∷ after) in
    let none = (ends_there stop_of 0 n.0 (x ∷ after) n.1 (all_tokens bs).finish (subst (λ (z : Tokens). Rises stop_of 0 z (all_tokens bs).finish) place (rises bs))).nothing in
    absurd cc

to_table : (bs : List ℕ) (f : TextFault) → EdifFails bs f → FailsByTable bs f
to_table bs f (at_token x r h e) = of_token h.before h.after x h.place h.goes_on h.stops
    (e ∙ ap (λ z. fault_at edif x z) (reason_is_row h.before x r h.goes_on h.reason_is))
to_table bs f (at_bad h e) = of_no_token h e

module _ (bs : List ℕ) (before after : Tokens) (x : Terminal Found Place) (place : all_ahead bs ≡ before ++ x ∷ after) (goes_on : GoesOn before)
    (stops : ¬ GoesOn (before ++ x ∷ [])) where
  there : (r : Reason) × Faults [] text (before ++ x ∷ []) x r
  there = fault_exists [] text lives at_last clear before [] x goes_on stops (no_text bs before after x place)

  refusal : read [] text (before ++ x ∷ []) ≡ Err (refused x there.0)
  refusal = read_from_fault [] text lives at_last clear (before ++ x ∷ []) x there.0 there.1

  faults_there : Faults [] text (all_ahead bs) x there.0
  faults_there = record {
    before = before;
    after = after;
    place = place;
    goes_on = goes_on;
    stops = stops;
    is_due = λ v spells. absurd (no_text bs before after x place v spells);
    reason_is = refusal;
  }

  pub fails_there : (f : TextFault) → f ≡ fault_at edif x (reason_row before x) → EdifFails bs f
  fails_there f e = at_token x there.0 faults_there (e ∙ ap (λ z. fault_at edif x z) (sym (reason_is_row before x there.0 goes_on refusal)))

from_table : (bs : List ℕ) (f : TextFault) → FailsByTable bs f → EdifFails bs f
from_table bs f (of_token before after x place goes_on stops e) = fails_there bs before after x place goes_on stops f e
from_table bs f (of_no_token h e) = at_bad h e

pub fit : (bs : List ℕ) (f : TextFault) → EdifFails bs f ↔ FailsByTable bs f
fit bs f = (to_table bs f, from_table bs f)

pub fit_within : (bs : List ℕ) (f : TextFault) → EdifFault bs f ↔ FailsEarlyByTable bs f
fit_within bs f = (λ h. let w = (faults bs f).0 h in (to_table bs f w.0, w.1), λ h. (faults bs f).1 (from_table bs f h.0, h.1))
