use Rattle.std.proofs.Common.{◌++◌, codes}
use Rattle.netlist_cli.proofs.Lines.{reason_with, reason_without}
use Rattle.netlist_cli.proofs.line.put_reason.Goals as goal

pub returns-in-Some : goal.returns-in-Some
returns-in-Some g c = λ b rest h. c.put-in-Some-2.ensures b rest (c.put-in-Some.ensures b (c.in-Some.word.now ++ rest) (c.put.ensures b (codes " " ++ (c.in-Some.word.now ++ rest))
    (rw (← reason_with c.args.reason.now c.name.result.now c.in-Some.word.now c.name.ensures c.in-Some.ensures rest) h)))

pub returns-in_default : goal.returns-in_default
returns-in_default g c = λ b rest h. c.put.ensures b rest (rw (← reason_without c.args.reason.now c.name.result.now c.name.ensures c.in_default.ensures rest) h)
