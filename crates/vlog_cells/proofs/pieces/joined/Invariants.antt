use Rattle.std.proofs.Common.{◌≡◌, flat_map}
use Rattle.vlog_cells.proofs.pieces.joined.Given as goal

abbrev pub invariant-loop-piece : goal.invariant-loop-piece
invariant-loop-piece g l = l.all.items ≡ flat_map (λ piece. piece.items) l.yielded
