use Rattle.std.proofs.Common.{subst, sym, ◌∙◌}
use Rattle.flat_report.proofs.OneReport.{some_paths}
use Rattle.net_flatten.proofs.Whole.{flattening_made, nothing_first}
use Rattle.net_flatten.specs.Flattening.{IsFlattenError}
use Rattle.net_flatten_rules.specs.Rules.{refusals}
use Rattle.net_flatten.proofs.flattening.flatten_by.Goals as goal

pub flattened-requires-clause-kept : goal.flattened-requires-clause-kept
flattened-requires-clause-kept c = λ paths of. nothing_first (refusals c.args.hier.now paths c.args.flat.now) (sym (c.in_ok-found.ensures paths of) ∙ c.in-None.is)

pub returns-in-Some : goal.returns-in-Some
returns-in-Some c = λ names are.
    let p = some_paths c.args.hier.now c.cells-cells.ensures.valid.valid c.args.flat.now.spots are.are_spots in
    subst (IsFlattenError names c.args.hier.now) (sym c.refused.ensures) (record {
      few = c.requires.few;
      flat = c.args.flat.now;
      are_classes = are;
      paths = p.0;
      are_paths = p.1;
      is_first = sym (c.in_ok-found.ensures p.0 p.1) ∙ c.in-Some.is;
    })

pub returns-in_ok-design-in-None : goal.returns-in_ok-design-in-None
returns-in_ok-design-in-None c = λ names are.
    let p = some_paths c.args.hier.now c.cells-cells.ensures.valid.valid c.args.flat.now.spots are.are_spots in
    flattening_made names c.args.hier.now c.cells-cells.ensures.valid c.requires.few c.args.flat.now are p.0 c.in_ok-design-in-None.design p.1
    (nothing_first (refusals c.args.hier.now p.0 c.args.flat.now) (sym (c.in_ok-found.ensures p.0 p.1) ∙ c.in-None.is)) (c.in_ok-design-in-None.ensures p.0 p.1)
