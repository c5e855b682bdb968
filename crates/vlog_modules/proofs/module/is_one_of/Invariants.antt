use Rattle.std.proofs.Common.{◌≡◌, drop}
use Rattle.std.specs.List.{list_any}
use Rattle.nl_base.specs.Case.{same_bytes}
use Rattle.vlog_modules.proofs.module.is_one_of.Given as goal

abbrev pub invariant-loop-spelling : goal.invariant-loop-spelling
invariant-loop-spelling l = list_any (λ q. same_bytes l.word q.now) (drop l.spelling-index l.words) ≡ list_any (λ q. same_bytes l.word q.now) l.words
