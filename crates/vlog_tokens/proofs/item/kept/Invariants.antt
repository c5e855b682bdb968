use Rattle.std.proofs.Common.{◌≡◌, ◌++◌, drop}
use Rattle.std.specs.List.{filter}
use Rattle.vlog_tokens.specs.Items.{is_kept}
use Rattle.vlog_tokens.proofs.item.kept.Given as goal

abbrev pub invariant-loop-b : goal.invariant-loop-b
invariant-loop-b l = l.digits.items ++ filter is_kept (drop l.b-index l.bytes) ≡ filter is_kept l.bytes
