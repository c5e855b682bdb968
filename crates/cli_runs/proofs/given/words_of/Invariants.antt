use Rattle.std.proofs.Common.{◌≡◌, ◌++◌, List, ℕ, drop, map}
use Rattle.std.specs.Borrow.{Bor}
use Rattle.cli_runs.proofs.given.words_of.Given as goal

abbrev pub invariant-loop-word : goal.invariant-loop-word
invariant-loop-word l = l.words ++ map (λ (word : Bor (List ℕ)). word.now) (drop l.word-index l.line) ≡ map (λ (word : Bor (List ℕ)). word.now) l.line
