use Rattle.std.proofs.Common.{arith}
use Rattle.edif_status.proofs.Trees.{numbers_next}
use Rattle.edif_status.proofs.user.at_number.Goals as goal

-- src/user.rt:153:5
pub returns-in_err-look : goal.returns-in_err-look
returns-in_err-look g c = grind (arith, numbers_next)

-- src/user.rt:155:9
pub returns-in-Some : goal.returns-in-Some
returns-in-Some g c = grind (arith, numbers_next)

-- src/user.rt:145:1
pub returns : goal.returns
returns g c = grind (arith, numbers_next)
