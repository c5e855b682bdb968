-- The bytes are the text of at most one file, or have at most one first fault, or go on past the limit without one, and never two of these.
use Rattle.std.proofs.Common.{◌≡◌, ℕ, List, [], refl}
use Rattle.grammar.specs.Clear.{IsLive, IsClear, IsClosed}
use Rattle.grammar.specs.Whole.{end, whole}
use Rattle.grammar.proofs.Whole as grammar
use Rattle.grammar.proofs.Follow.{clear_fewer}
use Rattle.nl_base.specs.Place.{place_at_start}
use Rattle.nl_base.specs.declared.place.Place.{Place}
use Rattle.nl_base.specs.declared.fault.TextFault.{TextFault}
use Rattle.readers.specs.Readers.{fault_at}
use Rattle.readers.specs.Texts.{tokens_of}
use Rattle.edif_keywords.specs.Language.{edif}
use Rattle.edif_keywords.specs.Reasons.{trailing}
use Rattle.edif_values.specs.declared.file.EdifFile.{EdifFile}
use Rattle.edif_library.specs.Grammar.{file}
use Rattle.edif_library.specs.Text.{EdifReads, EdifFault, EdifCut}
use Rattle.edif_library.proofs.Live.{live_file, closed_file}

-- From each place in a file some tokens lead to its end.
pub live : IsLive [] (file [])
live = live_file [] []

-- No text of a file goes on to another where the end of the input follows it.
pub clear : IsClear [] (file []) (λ _ t. (p : Place) × (t ≡ end p))
clear = clear_fewer [] (file []) (λ _ t. (p : Place) × (t ≡ end p)) (λ _ _. Unit {0}) (λ _ _ _. tt) (closed_file [] []).closed

lives : IsLive [] (whole trailing (file []))
lives = grammar.live_whole trailing [] (file []) place_at_start live

closed : IsClosed [] (whole trailing (file []))
closed = grammar.closed_whole trailing [] (file []) (λ _ t. (p : Place) × (t ≡ end p)) (λ v at. (at, refl)) clear

-- The bytes are the text of at most one file.
pub one_file : (bs : List ℕ) (v w : EdifFile) → EdifReads bs v → EdifReads bs w → v ≡ w
one_file bs v w = grammar.one_text (fault_at edif) [] (whole trailing (file [])) lives (end place_at_start) closed (tokens_of edif bs) v w

-- The bytes have at most one first fault.
pub one_first_fault : (bs : List ℕ) (f g : TextFault) → EdifFault bs f → EdifFault bs g → f ≡ g
one_first_fault bs f g = grammar.one_first_fault (fault_at edif) [] (whole trailing (file [])) lives (end place_at_start) closed (tokens_of edif bs) f g

-- The text of a file has no first fault.
pub file_or_fault : (bs : List ℕ) (v : EdifFile) (f : TextFault) → EdifReads bs v → EdifFault bs f → ⊥
file_or_fault bs v f = grammar.text_or_fault (fault_at edif) [] (whole trailing (file [])) lives (end place_at_start) closed (tokens_of edif bs) v f

-- The text of a file does not go on past the limit.
pub file_or_cut : (bs : List ℕ) (v : EdifFile) → EdifReads bs v → EdifCut bs → ⊥
file_or_cut bs v = grammar.text_or_cut (fault_at edif) [] (whole trailing (file [])) lives (end place_at_start) closed (tokens_of edif bs) v

-- Bytes that go on past the limit have no first fault within it.
pub fault_or_cut : (bs : List ℕ) (f : TextFault) → EdifFault bs f → EdifCut bs → ⊥
fault_or_cut bs f = grammar.fault_or_cut (fault_at edif) [] (whole trailing (file [])) lives (end place_at_start) closed (tokens_of edif bs) f
