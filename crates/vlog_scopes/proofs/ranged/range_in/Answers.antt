use Rattle.std.proofs.Common.{sym}
use Rattle.vlog_scopes.proofs.RangeLaws.{no_range_placed, range_placed}
use Rattle.vlog_scopes.proofs.ranged.range_in.Goals as goal

pub returns-in-None : goal.returns-in-None
returns-in-None c = sym (no_range_placed c.args.ranged.now c.args.name.now c.args.names.now c.requires (sym c.in-None.ensures))

pub returns-in-Some : goal.returns-in-Some
returns-in-Some c =
    let placed = range_placed c.args.ranged.now c.args.name.now c.in-Some.place c.args.names.now c.requires (sym c.in-Some.ensures) in
    sym (placed.range c.index-ranged-place.result)
