use Rattle.std.proofs.Common.{◌≡◌, drop}
use Rattle.net_flatten_rules.specs.Rules.{first_of}
use Rattle.net_flatten_refusals.specs.LongNames.{refused_stubs}
use Rattle.net_flatten_refusals.proofs.long_names.long_in_stubs.Given as goal

abbrev pub invariant-loop-number : goal.invariant-loop-number
invariant-loop-number l = first_of (refused_stubs l.hier.cells (drop l.number-index l.numbers)) ≡ first_of (refused_stubs l.hier.cells l.numbers)
