use Rattle.std.proofs.Common.{◌≡◌, map, take}
use Rattle.net_lint.specs.Roles.{role_of}
use Rattle.net_lint.proofs.findings.roles_of.Given as goal

abbrev pub invariant-loop-terminal : goal.invariant-loop-terminal
invariant-loop-terminal l = l.roles.items ≡ map (role_of l.hier.cells l.flat.spots) (take l.terminal-index l.flat.terminals)
