use Rattle.edif_productions.proofs.NetTexts.{designators, ports, instances, nets}
use Rattle.edif_productions.proofs.nets.nets_are_read.Goals as goal

pub returns-clause-designator : goal.returns-clause-designator
returns-clause-designator c = designators

pub returns-clause-port : goal.returns-clause-port
returns-clause-port c = ports

pub returns-clause-instances : goal.returns-clause-instances
returns-clause-instances c = instances

pub returns-clause-net : goal.returns-clause-net
returns-clause-net c = nets
