use Rattle.edif_resolve.proofs.Walking.{passed_design}
use Rattle.edif_resolve.proofs.file.pass_design.Goals as goal

pub returns : goal.returns
returns c before passed = passed_design c.args.tabled.now before c.args.walk passed c.args.design.now c.in_ok-next.next c.lower.result c.in_ok-next.ensures c.lower.ensures
