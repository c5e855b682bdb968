use Rattle.std.proofs.Common.{take}
use Rattle.vlog_design.specs.Tables.{modules_of}
use Rattle.vlog_ties.specs.Ties.{modules_in}
use Rattle.vlog_checked.specs.ByTables.{AreLooked}
use Rattle.vlog_checked.proofs.looks.looks_at.Given as goal

abbrev pub invariant-loop-m : goal.invariant-loop-m
invariant-loop-m l = AreLooked (modules_in l.shown) (modules_of (take l.m-index l.modules)) l.look
