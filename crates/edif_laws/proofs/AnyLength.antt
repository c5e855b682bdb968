-- Bytes of any length are the text of at most one file, or have at most one first fault, and never both.
use Rattle.std.proofs.Common.{◌≡◌, ℕ, List, [], refl}
use Rattle.grammar.specs.Clear.{IsLive, IsClear, IsClosed}
use Rattle.grammar.specs.Whole.{end, whole}
use Rattle.grammar.proofs.Whole as grammar
use Rattle.grammar.proofs.Follow.{clear_fewer}
use Rattle.nl_base.specs.Place.{place_at_start}
use Rattle.nl_base.specs.declared.place.Place.{Place}
use Rattle.nl_base.specs.declared.fault.TextFault.{TextFault}
use Rattle.readers.specs.Readers.{fault_at}
use Rattle.edif_tokens.specs.Language.{all_tokens}
use Rattle.edif_keywords.specs.Language.{edif}
use Rattle.edif_keywords.specs.Reasons.{trailing}
use Rattle.edif_values.specs.declared.file.EdifFile.{EdifFile}
use Rattle.edif_library.specs.Grammar.{file}
use Rattle.edif_library.proofs.Live.{live_file, closed_file}
use Rattle.edif_library.specs.AnyLength.{EdifSpells, EdifFails}

clear : IsClear [] (file []) (λ _ t. (p : Place) × (t ≡ end p))
clear = clear_fewer [] (file []) (λ _ t. (p : Place) × (t ≡ end p)) (λ _ _. Unit {0}) (λ _ _ _. tt) (closed_file [] []).closed

lives : IsLive [] (whole trailing (file []))
lives = grammar.live_whole trailing [] (file []) place_at_start (live_file [] [])

closed : IsClosed [] (whole trailing (file []))
closed = grammar.closed_whole trailing [] (file []) (λ _ t. (p : Place) × (t ≡ end p)) (λ v at. (at, refl)) clear

pub one_file : (bs : List ℕ) (v w : EdifFile) → EdifSpells bs v → EdifSpells bs w → v ≡ w
one_file bs v w = grammar.one_text (fault_at edif) [] (whole trailing (file [])) lives (end place_at_start) closed (all_tokens bs) v w

pub one_first_fault : (bs : List ℕ) (f g : TextFault) → EdifFails bs f → EdifFails bs g → f ≡ g
one_first_fault bs f g = grammar.one_first_fault (fault_at edif) [] (whole trailing (file [])) lives (end place_at_start) closed (all_tokens bs) f g

pub file_or_fault : (bs : List ℕ) (v : EdifFile) (f : TextFault) → EdifSpells bs v → EdifFails bs f → ⊥
file_or_fault bs v f = grammar.text_or_fault (fault_at edif) [] (whole trailing (file [])) lives (end place_at_start) closed (all_tokens bs) v f
