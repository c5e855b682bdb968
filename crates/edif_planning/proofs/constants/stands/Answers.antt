use Rattle.edif_planning.proofs.ConstantLaws.{stands_none, stands_some}
use Rattle.edif_planning.proofs.constants.stands.Goals as goal

pub returns-in-None : goal.returns-in-None
returns-in-None c = λ cell is. stands_none c.args.constants.now cell c.constant_of.result (c.constant_of.ensures.zero cell is) (c.constant_of.ensures.one cell is) c.args.value c.in-None.is

pub returns-in-Some : goal.returns-in-Some
returns-in-Some c = λ cell is. stands_some c.args.constants.now cell c.constant_of.result (c.constant_of.ensures.zero cell is) (c.constant_of.ensures.one cell is) c.in-Some.found c.args.value c.in-Some.is
