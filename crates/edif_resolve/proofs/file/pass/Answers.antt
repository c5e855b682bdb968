use Rattle.std.proofs.Common.{◌++◌, ◌∷◌, [], sym, subst}
use Rattle.edif_resolve.specs.Walk.{HasPassed}
use Rattle.edif_resolve.proofs.Walking.{passed_note, passed_status}
use Rattle.edif_resolve.proofs.file.pass.Goals as goal

pub returns-in-Status : goal.returns-in-Status
returns-in-Status c before passed = subst (λ item. HasPassed c.args.tabled.now (before ++ item ∷ []) c.args.walk) (sym c.in-Status.is) (passed_status c.args.tabled.now before c.args.walk passed _)

pub returns-in-Note : goal.returns-in-Note
returns-in-Note c before passed = subst (λ item. HasPassed c.args.tabled.now (before ++ item ∷ []) c.args.walk) (sym c.in-Note.is) (passed_note c.args.tabled.now before c.args.walk passed _)
