use Rattle.std.proofs.Common.{◌≡◌, drop}
use Rattle.vlog_design.specs.Rules.{first_of}
use Rattle.vlog_ties.proofs.Broken.{names_in}
use Rattle.vlog_ties.proofs.expressions.+first.Given as goal

abbrev pub invariant-first_use_in-loop-part : goal.invariant-first_use_in-loop-part
invariant-first_use_in-loop-part l = first_of (names_in (drop l.part-index l.parts)) ≡ first_of (names_in l.parts)
