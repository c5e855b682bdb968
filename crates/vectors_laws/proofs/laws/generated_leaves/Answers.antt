use Rattle.vectors_laws.proofs.Leaves.{leaves_are}
use Rattle.vectors_laws.proofs.laws.generated_leaves.Goals as goal

pub returns : goal.returns
returns c = leaves_are
