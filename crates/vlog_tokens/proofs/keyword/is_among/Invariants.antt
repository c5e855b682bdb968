use Rattle.std.proofs.Common.{◌≡◌, ◌-◌}
use Rattle.std.specs.List.{list_any}
use Rattle.nl_base.specs.Case.{same_bytes}
use Rattle.vlog_tokens.specs.Keywords.{words_from}
use Rattle.vlog_tokens.proofs.keyword.is_among.Given as goal

abbrev pub invariant-loop-number : goal.invariant-loop-number
invariant-loop-number l = list_any (same_bytes l.name) (words_from (l.end - l.number) l.number) ≡ list_any (same_bytes l.name) (words_from (l.end - l.start) l.start)
