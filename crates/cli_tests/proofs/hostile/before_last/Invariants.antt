use Rattle.std.proofs.Common.{length}
use Rattle.cli_tests.proofs.hostile.before_last.Given as goal

abbrev pub decreases-loop-front : goal.decreases-loop-front
decreases-loop-front l = length l.front
