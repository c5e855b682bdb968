use Rattle.std.proofs.Common.{rules}
use Rattle.edif_parts.proofs.AddedLaws.{fresh_short}
use Rattle.edif_parts.proofs.added.free_name.Goals as goal

pub returns-clause-short : goal.returns-clause-short
returns-clause-short c = let is = c.in_ok-name-2.ensures in λ stem. fresh_short _ _ _ _ is (search rules) stem
