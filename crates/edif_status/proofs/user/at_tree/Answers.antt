use Rattle.std.proofs.Common.{arith}
use Rattle.edif_status.proofs.Trees.{trees_next}
use Rattle.edif_status.proofs.user.at_tree.Goals as goal

-- src/user.rt:137:5
pub returns-in_err-look : goal.returns-in_err-look
returns-in_err-look g c = grind (arith, trees_next)

-- src/user.rt:139:9
pub returns-in-Some : goal.returns-in-Some
returns-in-Some g c = grind (arith, trees_next)

-- src/user.rt:133:1
pub returns : goal.returns
returns g c = grind (arith, trees_next)
