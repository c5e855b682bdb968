-- The bytes are the text of at most one file, or have at most one first fault, or go on past the limit without one, and never two of these.
use Rattle.std.proofs.Common.{◌≡◌, ℕ, List, refl}
use Rattle.grammar.specs.Clear.{IsLive, IsClear, IsClosed}
use Rattle.grammar.specs.Whole.{end, whole}
use Rattle.grammar.proofs.Whole as grammar
use Rattle.nl_base.specs.Place.{place_at_start}
use Rattle.nl_base.specs.declared.place.Place.{Place}
use Rattle.nl_base.specs.declared.fault.TextFault.{TextFault}
use Rattle.readers.specs.Readers.{fault_at}
use Rattle.readers.specs.Texts.{tokens_of}
use Rattle.vlog_tokens.specs.Language.{vlog}
use Rattle.vlog_exprs.specs.Reasons.{trailing}
use Rattle.vlog_values.specs.declared.module.VlogFile.{VlogFile}
use Rattle.vlog_modules.specs.Grammar.{file}
use Rattle.vlog_modules.specs.Text.{VlogReads, VlogFault, VlogCut}
use Rattle.vlog_modules.proofs.Live.{live_file}
use Rattle.vlog_modules.proofs.Clear.{clear_file}

-- From each place in a file some tokens lead to its end.
pub live : IsLive tt file
live = live_file

-- No text of a file goes on to another where the end of the input follows it.
pub clear : IsClear tt file (λ _ t. (p : Place) × (t ≡ end p))
clear = clear_file

lives : IsLive tt (whole trailing file)
lives = grammar.live_whole trailing tt file place_at_start live

closed : IsClosed tt (whole trailing file)
closed = grammar.closed_whole trailing tt file (λ _ t. (p : Place) × (t ≡ end p)) (λ v at. (at, refl)) clear

-- The bytes are the text of at most one file.
pub one_file : (bs : List ℕ) (v w : VlogFile) → VlogReads bs v → VlogReads bs w → v ≡ w
one_file bs v w = grammar.one_text (fault_at vlog) tt (whole trailing file) lives (end place_at_start) closed (tokens_of vlog bs) v w

-- The bytes have at most one first fault.
pub one_first_fault : (bs : List ℕ) (f g : TextFault) → VlogFault bs f → VlogFault bs g → f ≡ g
one_first_fault bs f g = grammar.one_first_fault (fault_at vlog) tt (whole trailing file) lives (end place_at_start) closed (tokens_of vlog bs) f g

-- The text of a file has no first fault.
pub file_or_fault : (bs : List ℕ) (v : VlogFile) (f : TextFault) → VlogReads bs v → VlogFault bs f → ⊥
file_or_fault bs v f = grammar.text_or_fault (fault_at vlog) tt (whole trailing file) lives (end place_at_start) closed (tokens_of vlog bs) v f

-- The text of a file does not go on past the limit.
pub file_or_cut : (bs : List ℕ) (v : VlogFile) → VlogReads bs v → VlogCut bs → ⊥
file_or_cut bs v = grammar.text_or_cut (fault_at vlog) tt (whole trailing file) lives (end place_at_start) closed (tokens_of vlog bs) v

-- Bytes that go on past the limit have no first fault within it.
pub fault_or_cut : (bs : List ℕ) (f : TextFault) → VlogFault bs f → VlogCut bs → ⊥
fault_or_cut bs f = grammar.fault_or_cut (fault_at vlog) tt (whole trailing file) lives (end place_at_start) closed (tokens_of vlog bs) f
