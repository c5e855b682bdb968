use Rattle.std.proofs.Common.{◌∙◌}
use Rattle.nl_bytes.proofs.Fronts.{same_place}
use Rattle.nl_bytes.proofs.bytes.Bytes.pass_lines.Goals as goal

pub returns-clause-place : goal.returns-clause-place
returns-clause-place c = same_place c.passed-place.result c.passed-place.ensures.column ∙ c.passed-place.ensures.place
