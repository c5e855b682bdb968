use Rattle.std.proofs.Common.{[], refl}
use Rattle.flat_report.specs.Report.{report_then}
use Rattle.flat_report.proofs.OneReport.{some_paths}
use Rattle.flat_report.proofs.reporting.report.Goals as goal

pub returns-in-Ok-write_report : goal.returns-in-Ok-write_report
returns-in-Ok-write_report g c =
    let paths = some_paths c.args.hier.now c.cells-cells.ensures.valid.valid c.in-Ok.flat.spots c.in-Ok.ensures.classes.0.are_spots in
    record {
      few = c.in-Ok.ensures.classes.1;
      text = report_then c.args.hier.now c.in-Ok.flat paths.0 [];
      is_report = record { flat = c.in-Ok.flat; are_classes = c.in-Ok.ensures.classes.0; paths = paths.0; are_paths = paths.1; is = refl };
      writes = c.in-Ok-write_report.ensures paths.0 paths.1;
    }

pub returns : goal.returns
returns g c =
    let paths = some_paths c.args.hier.now c.cells-cells.ensures.valid.valid c.in-Ok.flat.spots c.in-Ok.ensures.classes.0.are_spots in (
      c.in-Err.field-0,
      record {
        few = c.in-Ok.ensures.classes.1;
        text = report_then c.args.hier.now c.in-Ok.flat paths.0 [];
        is_report = record { flat = c.in-Ok.flat; are_classes = c.in-Ok.ensures.classes.0; paths = paths.0; are_paths = paths.1; is = refl };
        writes = c.in-Err.ensures paths.0 paths.1;
      },
    )
