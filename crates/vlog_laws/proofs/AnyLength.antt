-- Bytes of any length are the text of at most one file, or have at most one first fault, and never both.
use Rattle.std.proofs.Common.{◌≡◌, ℕ, List, refl}
use Rattle.grammar.specs.Clear.{IsLive, IsClosed}
use Rattle.grammar.specs.Whole.{end, whole}
use Rattle.grammar.proofs.Whole as grammar
use Rattle.nl_base.specs.Place.{place_at_start}
use Rattle.nl_base.specs.declared.place.Place.{Place}
use Rattle.nl_base.specs.declared.fault.TextFault.{TextFault}
use Rattle.readers.specs.Readers.{fault_at}
use Rattle.vlog_tokens.specs.Language.{vlog, all_tokens}
use Rattle.vlog_exprs.specs.Reasons.{trailing}
use Rattle.vlog_values.specs.declared.module.VlogFile.{VlogFile}
use Rattle.vlog_modules.specs.Grammar.{file}
use Rattle.vlog_modules.proofs.Live.{live_file}
use Rattle.vlog_modules.proofs.Clear.{clear_file}
use Rattle.vlog_modules.specs.AnyLength.{VlogSpells, VlogFails}

lives : IsLive tt (whole trailing file)
lives = grammar.live_whole trailing tt file place_at_start live_file

closed : IsClosed tt (whole trailing file)
closed = grammar.closed_whole trailing tt file (λ _ t. (p : Place) × (t ≡ end p)) (λ v at. (at, refl)) clear_file

pub one_file : (bs : List ℕ) (v w : VlogFile) → VlogSpells bs v → VlogSpells bs w → v ≡ w
one_file bs v w = grammar.one_text (fault_at vlog) tt (whole trailing file) lives (end place_at_start) closed (all_tokens bs) v w

pub one_first_fault : (bs : List ℕ) (f g : TextFault) → VlogFails bs f → VlogFails bs g → f ≡ g
one_first_fault bs f g = grammar.one_first_fault (fault_at vlog) tt (whole trailing file) lives (end place_at_start) closed (all_tokens bs) f g

pub file_or_fault : (bs : List ℕ) (v : VlogFile) (f : TextFault) → VlogSpells bs v → VlogFails bs f → ⊥
file_or_fault bs v f = grammar.text_or_fault (fault_at vlog) tt (whole trailing file) lives (end place_at_start) closed (all_tokens bs) v f
