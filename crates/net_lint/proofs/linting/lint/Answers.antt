use Rattle.std.proofs.Common.{[], refl}
use Rattle.flat_report.proofs.OneReport.{some_paths}
use Rattle.net_lint.specs.Found.{several_in}
use Rattle.net_lint.specs.Lint.{lint_then}
use Rattle.net_lint.proofs.linting.lint.Goals as goal

pub returns-in-Ok-write_findings : goal.returns-in-Ok-write_findings
returns-in-Ok-write_findings g c =
    let paths = some_paths c.args.hier.now c.cells-cells.ensures.valid.valid c.in-Ok.flat.spots c.in-Ok.ensures.classes.0.are_spots in
    record {
      few = c.in-Ok.ensures.classes.1;
      text = lint_then c.args.hier.now c.in-Ok.flat paths.0 c.in_ok-found.found.undriven.items c.in_ok-found.found.floating.items (several_in c.in-Ok.flat c.in_ok-found.found) [];
      is_lint = record {
        flat = c.in-Ok.flat;
        are_classes = c.in-Ok.ensures.classes.0;
        paths = paths.0;
        are_paths = paths.1;
        undriven = c.in_ok-found.found.undriven.items;
        floating = c.in_ok-found.found.floating.items;
        several = several_in c.in-Ok.flat c.in_ok-found.found;
        found = c.in_ok-found.ensures.found;
        is = refl;
      };
      writes = c.in-Ok-write_findings.ensures paths.0 paths.1;
    }

pub returns : goal.returns
returns g c =
    let paths = some_paths c.args.hier.now c.cells-cells.ensures.valid.valid c.in-Ok.flat.spots c.in-Ok.ensures.classes.0.are_spots in (
      c.in-Err.field-0,
      record {
        few = c.in-Ok.ensures.classes.1;
        text = lint_then c.args.hier.now c.in-Ok.flat paths.0 c.in_ok-found.found.undriven.items c.in_ok-found.found.floating.items (several_in c.in-Ok.flat c.in_ok-found.found) [];
        is_lint = record {
          flat = c.in-Ok.flat;
          are_classes = c.in-Ok.ensures.classes.0;
          paths = paths.0;
          are_paths = paths.1;
          undriven = c.in_ok-found.found.undriven.items;
          floating = c.in_ok-found.found.floating.items;
          several = several_in c.in-Ok.flat c.in_ok-found.found;
          found = c.in_ok-found.ensures.found;
          is = refl;
        };
        writes = c.in-Err.ensures paths.0 paths.1;
      },
    )
