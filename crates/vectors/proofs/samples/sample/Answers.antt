use Rattle.std.proofs.Common.{ap, sym}
use Rattle.vectors.specs.Samples.{sample_at}
use Rattle.vectors.proofs.samples.sample.Goals as goal

pub returns-in-3 : goal.returns-in-3
returns-in-3 c = sym (ap sample_at c.in-3.is)
