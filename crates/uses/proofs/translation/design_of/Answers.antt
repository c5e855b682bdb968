use Rattle.std.proofs.Common.{rules}
use Rattle.uses.proofs.Told.{told}
use Rattle.uses.proofs.translation.design_of.Goals as goal

-- src/translation.rt:17:1
pub returns : goal.returns
returns g c = told (g.S.Source.supply c.args.source.now).left c.in_ok-file.file (search rules) c.resolve.result c.resolve.ensures c.ok-2.result c.ok-2.ensures.value
