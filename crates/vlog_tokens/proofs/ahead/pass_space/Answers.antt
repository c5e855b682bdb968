use Rattle.std.proofs.Common.{◌∙◌, sym, ap, arith}
use Rattle.std.proofs.lemmas.List.Sums.{prefix_len-le-length}
use Rattle.std.specs.List.{prefix_len}
use Rattle.nl_bytes.proofs.Fronts.{front-all}
use Rattle.nl_bytes.specs.Classes.{is_verilog_space}
use Rattle.vlog_tokens.proofs.Held.{held_within}
use Rattle.vlog_tokens.proofs.HeldMarks.{one_space_past}
use Rattle.vlog_tokens.proofs.ahead.pass_space.Goals as goal

pub pass-requires-clause-held : goal.pass-requires-clause-held
pass-requires-clause-held c = omega (arith, c.front-count.ensures ∙ ap (prefix_len is_verilog_space) c.held.ensures, prefix_len-le-length is_verilog_space c.args.bytes.now.held)

pub pass-requires-clause-within : goal.pass-requires-clause-within
pass-requires-clause-within c = omega (arith, c.front-count.ensures ∙ ap (prefix_len is_verilog_space) c.held.ensures, prefix_len-le-length is_verilog_space c.args.bytes.now.held, held_within c.args.bytes.now c.requires.near)

pub pass-requires-clause-each : goal.pass-requires-clause-each
pass-requires-clause-each c = rw (c.front-count.ensures, c.held.ensures) (front-all is_verilog_space c.args.bytes.now.held)

pub advance-requires-clause-held : goal.advance-requires-clause-held
advance-requires-clause-held c = omega (arith, c.if-count-eq1.true, c.front-count.ensures ∙ ap (prefix_len is_verilog_space) c.held.ensures, prefix_len-le-length is_verilog_space c.args.bytes.now.held)

pub advance-requires-clause-within : goal.advance-requires-clause-within
advance-requires-clause-within c = omega (arith, c.if-count-eq1.true, c.front-count.ensures ∙ ap (prefix_len is_verilog_space) c.held.ensures, prefix_len-le-length is_verilog_space c.args.bytes.now.held, held_within c.args.bytes.now c.requires.near)

pub returns-then-count-eq1 : goal.returns-then-count-eq1
returns-then-count-eq1 c = one_space_past c.args.bytes.now _ (sym (c.front-count.ensures ∙ ap (prefix_len is_verilog_space) c.held.ensures) ∙ c.if-count-eq1.true) c.advance.ensures.held c.advance.ensures.place
