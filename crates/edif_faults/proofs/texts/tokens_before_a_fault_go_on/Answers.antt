use Rattle.std.specs.Prelude.{◌∷◌}
use Rattle.edif_faults.proofs.File.{front_goes_on}
use Rattle.edif_faults.proofs.texts.tokens_before_a_fault_go_on.Goals as goal

pub returns : goal.returns
returns c = λ bytes x reason fault. front_goes_on bytes fault.before (x ∷ fault.after) fault.place fault.goes_on
