-- The tokens of a text within the limit of an input that can be gone on with can be so by tokens that a text can have.
use Rattle.std.proofs.Common.{◌≡◌, ◌∙◌, ap, refl, ℕ, ◌+◌, ◌<◌, ◌^◌, List, [], ◌++◌, length, length-append, arith}
use Rattle.std.specs.Prelude.{◌↔◌}
use Rattle.grammar.specs.Clear.{IsLive, IsClear, IsClosed}
use Rattle.grammar.specs.Reading.{read}
use Rattle.grammar.specs.Texts.{Begins}
use Rattle.grammar.specs.Whole.{Terminal, end, whole}
use Rattle.grammar.proofs.Whole as grammar
use Rattle.grammar.proofs.Follow.{clear_fewer}
use Rattle.nl_base.specs.Place.{place_at_start}
use Rattle.nl_base.specs.declared.place.Place.{Place}
use Rattle.readers.specs.Texts.{tokens_of}
use Rattle.edif_tokens.specs.declared.token.Found.{Found}
use Rattle.edif_keywords.specs.Language.{edif}
use Rattle.edif_keywords.specs.Reasons.{trailing}
use Rattle.edif_keywords.proofs.Free.{is_word}
use Rattle.edif_names.specs.Grammar.{name}
use Rattle.edif_library.specs.Grammar.{file, file_body}
use Rattle.edif_library.proofs.Live.{live_file, closed_file}
use Rattle.edif_faults.specs.GoesOn.{CanStand, GoesOn}
use Rattle.grammar_laws.proofs.GoingOn.{SaysBy}
use Rattle.edif_faults.proofs.Header.{says_whole}
use Rattle.grammar_laws.proofs.Agreeing.{begins_by}
use Rattle.edif_faults.proofs.Count.{fewer_than_words}
use Rattle.edif_faults.proofs.NamesLive.{live_name}
use Rattle.edif_faults.proofs.FileLive.{live_file_body}

clear : IsClear [] (file []) (λ _ t. (p : Place) × (t ≡ end p))
clear = clear_fewer [] (file []) (λ _ t. (p : Place) × (t ≡ end p)) (λ _ _. Unit {0}) (λ _ _ _. tt) (closed_file [] []).closed

lives : IsLive [] (whole trailing (file []))
lives = grammar.live_whole trailing [] (file []) place_at_start (live_file [] [])

closed : IsClosed [] (whole trailing (file []))
closed = grammar.closed_whole trailing [] (file []) (λ _ t. (p : Place) × (t ≡ end p)) (λ v at. (at, refl)) clear

says : (ts : List (Terminal Found Place)) → 0 + length ts < 2 ^ 1000 → SaysBy CanStand [] (whole trailing (file [])) ts (read [] (whole trailing (file [])) ts)
unfolding file
says ts few = says_whole (2 ^ 1000) is_word name file_body live_name live_file_body [] ts few

pub goes_on : (ts : List (Terminal Found Place)) → 0 + length ts < 2 ^ 1000 → Begins [] (whole trailing (file [])) ts → GoesOn ts
goes_on ts few h = begins_by CanStand [] (whole trailing (file [])) lives (end place_at_start) closed ts (says ts few) h

shorter : (front rest ts : List (Terminal Found Place)) (n : ℕ) → ts ≡ front ++ rest → 0 + length ts < n → 0 + length front < n
shorter front rest ts n is few = let l = ap length is ∙ length-append front rest in omega (arith, l, few)

pub front_goes_on : (bs : List ℕ) (front rest : List (Terminal Found Place)) → (tokens_of edif bs).tokens ≡ front ++ rest → Begins [] (whole trailing (file [])) front → GoesOn front
front_goes_on bs front rest is h = goes_on front (shorter front rest (tokens_of edif bs).tokens (2 ^ 1000) is (fewer_than_words bs)) h

pub fronts : (bs : List ℕ) (front rest : List (Terminal Found Place)) → (tokens_of edif bs).tokens ≡ front ++ rest → Begins [] (whole trailing (file [])) front ↔ GoesOn front
fronts bs front rest is = (λ h. front_goes_on bs front rest is h, λ h. (h.0, h.1, h.3))
