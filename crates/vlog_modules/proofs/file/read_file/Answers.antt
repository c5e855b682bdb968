use Rattle.std.proofs.Common.{refl, ap, arith}
use Rattle.readers.specs.Readers.{room}
use Rattle.vlog_values.specs.Values.{IsModule}
use Rattle.vlog_values.specs.Sizes.{module_size, vlog_size}
use Rattle.vlog_items.proofs.Lists.{none_are, none_size, collects}
use Rattle.vlog_modules.specs.Grammar.{file}
use Rattle.vlog_modules.proofs.Pieces.{piece_is, piece_sized, piece_loops}
use Rattle.vlog_modules.proofs.Sizes.{none_below, none_before}
use Rattle.vlog_modules.proofs.file.read_file.Goals as goal

pub loop-so_far-init : goal.loop-so_far-init
unfolding file
loop-so_far-init g c =
    let none = none_size module_size c.empty.ensures in
    collects (grind (arith, piece_loops)) (none_are IsModule c.empty.ensures, none_below _ _ none) (none_before _ _ _ none refl)

pub loop-so_far-preserved : goal.loop-so_far-preserved
unfolding file
loop-so_far-preserved g c =
    let added = c.in_ok-so_far.ensures.added in
    let size = piece_sized c.loop-so_far.so_far c.in_ok-so_far.so_far c.in_ok-piece.piece added.0 in
    let kept = ap room added.1 in
    collects (grind (arith, piece_loops))
    (piece_is c.loop-so_far.so_far c.in_ok-so_far.so_far c.in_ok-piece.piece added.0 c.loop-so_far.invariant.good.0 c.in_ok-piece.ensures.value, omega (arith, size, kept, c.in_ok-at_piece.ensures.value.1, c.in_ok-piece.ensures.size))
    (omega (arith, size, kept, c.in_ok-at_piece.ensures.value.1, c.in_ok-piece.ensures.size))

pub returns-clause-size : goal.returns-clause-size
unfolding vlog_size
returns-clause-size g c = c.loop-so_far.invariant.good.1
