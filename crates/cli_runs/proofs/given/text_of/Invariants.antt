use Rattle.std.proofs.Common.{◌≡◌, ◌++◌, List, ℕ, drop, flat_map}
use Rattle.std.specs.Borrow.{Bor}
use Rattle.cli_runs.proofs.given.text_of.Given as goal

abbrev pub invariant-loop-piece : goal.invariant-loop-piece
invariant-loop-piece l = l.text.items ++ flat_map (λ (piece : Bor (List ℕ)). piece.now) (drop l.piece-index l.pieces) ≡ flat_map (λ (piece : Bor (List ℕ)). piece.now) l.pieces
