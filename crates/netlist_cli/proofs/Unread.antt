-- What a command does that reads nothing.
use Rattle.std.proofs.Common.{ℕ, List, Option, Result, Ok, Err, refl}
use Rattle.nl_io.specs.Sinks.{Receipt}
use Rattle.nl_io.specs.declared.source.Failed.{Failed}
use Rattle.nl_output.specs.Writing.{Writes}
use Rattle.nl_io.specs.Sources.{Supply}
use Rattle.netlist_words.specs.declared.command.Command.TheVariants as commands
use Rattle.netlist_cli.specs.Generated.{IsGeneratedLine}
use Rattle.netlist_cli.specs.Meanings.{meaning_of}
use Rattle.netlist_cli.specs.Outcomes.{IsTextFrom}
use Rattle.netlist_cli.specs.Runs.{Does, EndsUnread}
use Rattle.netlist_cli.specs.Statuses.{after_writing}
use Rattle.netlist_cli.proofs.Told.{any_told}

-- the line is one that may be written, whatever the input is
is_line : (seed cells : ℕ) (left : Option (List ℕ)) (line : List ℕ) → IsGeneratedLine seed cells line → IsTextFrom (meaning_of (commands.Generate seed cells)) left line
is_line seed cells left line h = record { file = tt; reads_as = any_told left _ (λ bytes. tt); is_fine = refl; made = h }

module _ {O : Type 0} (receipt : O → Receipt) (old new : O) (seed cells : ℕ) (line : List ℕ) where
  -- the line is written, or a front of it
  pub line_is_put : (r : Result (Unit {0}) Failed) → IsGeneratedLine seed cells line → Writes receipt old new line r → (i : Supply)
      → Does receipt (meaning_of (commands.Generate seed cells)) i i old new (after_writing r)
  line_is_put (Ok done) h w i = record { text = line; is_text = is_line seed cells i.left line h; ended = refl; put = w }
  line_is_put (Err failed) h w i = (failed, record { text = line; is_text = is_line seed cells i.left line h; ended = refl; put = w })

-- and nothing else happens
pub ends_by_writing : (r : Result (Unit {0}) Failed) → EndsUnread (after_writing r)
ends_by_writing (Ok done) = tt
ends_by_writing (Err failed) = tt
