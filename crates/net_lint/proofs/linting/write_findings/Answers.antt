use Rattle.nl_output.specs.Writing.{state}
use Rattle.nl_output.proofs.Whole.{writes_whole}
use Rattle.net_lint.specs.Found.{several_in}
use Rattle.net_lint.specs.Lint.{lint_then}
use Rattle.net_lint.proofs.linting.write_findings.Goals as goal

pub returns : goal.returns
returns g c = λ paths of.
    writes_whole g.O.Sink.receipt c.args.sink.now c.finish-result.new.sink
    (state g.O.Sink.receipt c.put_findings.new.sink c.put_findings.new.output)
    (lint_then c.args.hier.now c.args.flat.now paths c.args.found.now.undriven.items c.args.found.now.floating.items (several_in c.args.flat.now c.args.found.now)) c.finish-result.result
    (λ b rest h. rw c.new-output.ensures at c.put_findings.ensures paths of b rest h) c.finish-result.ensures
