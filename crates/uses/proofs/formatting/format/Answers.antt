use Rattle.std.proofs.Common.{rules, inr}
use Rattle.uses.proofs.formatting.format.Goals as goal

-- src/formatting.rt:13:1
pub returns-in-Ok-clause-written : goal.returns-in-Ok-clause-written
returns-in-Ok-clause-written g c = λ h. inr (record { file = c.in-Ok.file; spelt = search rules; answer = c.write_edif-written.result; put = c.write_edif-written.ensures })
