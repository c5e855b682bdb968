use Rattle.std.proofs.Common.{◌++◌, codes}
use Rattle.nl_output.specs.Writing.{state}
use Rattle.nl_output.proofs.Whole.{writes_whole}
use Rattle.netlist_cli.specs.Lines.{line, message_then}
use Rattle.netlist_cli.proofs.line.put_line.Goals as goal

pub returns : goal.returns
unfolding line
returns g c =
    let message = rw c.new-output.ensures at c.put_message.ensures in
    writes_whole g.E.Sink.receipt c.args.errors.now c.finish-result.new.sink
    (state g.E.Sink.receipt c.put.new.sink c.put.new.self)
    (λ rest. message_then c.args.failure.now (codes "\n" ++ rest)) c.finish-result.result
    (λ b rest h. c.put.ensures b rest (message b (codes "\n" ++ rest) h)) c.finish-result.ensures
