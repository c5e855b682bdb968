use Rattle.std.proofs.Common.{arith}
use Rattle.std.proofs.lemmas.List.Sums.{prefix_len-le-length}
use Rattle.nl_bytes.specs.Classes.{is_verilog_space}
use Rattle.vlog_tokens.proofs.ahead.held_mark.Goals as goal

pub split_at-requires : goal.split_at-requires
split_at-requires c = omega (arith, c.front.ensures, prefix_len-le-length is_verilog_space c.held-held.result.now)
