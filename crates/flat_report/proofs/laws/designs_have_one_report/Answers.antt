use Rattle.flat_report.proofs.OneReport.{one_report}
use Rattle.flat_report.proofs.laws.designs_have_one_report.Goals as goal

pub returns : goal.returns
returns c = λ names design a b valid of_a of_b. one_report names design valid a b of_a of_b
