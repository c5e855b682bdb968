use Rattle.std.proofs.Common.{◌≡◌, ◌++◌, drop}
use Rattle.vlog_rules.specs.NameDigests.{met_again}
use Rattle.vlog_rules.specs.Seen.{declarations_of}
use Rattle.vlog_rules.proofs.noting.keep_all.Given as goal

abbrev pub invariant-loop-declaration : goal.invariant-loop-declaration
invariant-loop-declaration l = declarations_of l.found.items ++ met_again l.digests (declarations_of (drop l.declaration-index l.declarations)) ≡ declarations_of l.initial.found.items ++ met_again l.digests (declarations_of l.declarations)
