use Rattle.std.proofs.Common.{◌≡◌, ◌++◌, drop, map}
use Rattle.vlog_scopes.specs.Instances.{links_of}
use Rattle.vlog_scopes.proofs.recursion.numbers_of.Given as goal

abbrev pub invariant-loop-link : goal.invariant-loop-link
invariant-loop-link l = l.numbers.items ++ map (λ link. link.1) (links_of (drop l.link-index l.links)) ≡ map (λ link. link.1) (links_of l.links)
