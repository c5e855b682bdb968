use Rattle.nl_output.specs.Writing.{state}
use Rattle.nl_output.proofs.Whole.{writes_whole}
use Rattle.flat_report.specs.Report.{report_then}
use Rattle.flat_report.proofs.reporting.write_report.Goals as goal

pub returns : goal.returns
returns g c = λ paths of.
    writes_whole g.O.Sink.receipt c.args.sink.now c.finish-result.new.sink
    (state g.O.Sink.receipt c.put_report.new.sink c.put_report.new.output)
    (report_then c.args.hier.now c.args.flat.now paths) c.finish-result.result
    (λ b rest h. rw c.new-output.ensures at c.put_report.ensures paths of b rest h) c.finish-result.ensures
