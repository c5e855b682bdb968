use Rattle.edif_values.proofs.Names.{ranged}
use Rattle.edif_values.proofs.original_name.array_name.Goals as goal

pub returns-in-Some : goal.returns-in-Some
returns-in-Some c = ranged c.args.text.now c.args.size c.in-Some.form.0 c.in-Some.form.1 c.in-Some.ensures.value
