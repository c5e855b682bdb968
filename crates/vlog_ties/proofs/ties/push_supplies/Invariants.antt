use Rattle.std.proofs.Common.{◌≡◌, ◌++◌, drop, map}
use Rattle.vlog_ties.specs.Ties.{Supply, all_tied}
use Rattle.vlog_ties.proofs.ties.push_supplies.Given as goal

abbrev pub invariant-loop-name : goal.invariant-loop-name
invariant-loop-name l = all_tied l.out.items ++ map (λ name. Supply name l.constant) (drop l.name-index l.names) ≡ all_tied l.initial.out.items ++ map (λ name. Supply name l.constant) l.names
