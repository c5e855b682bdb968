use Rattle.std.proofs.Common.{◌≡◌, drop, map}
use Rattle.vlog_cells.specs.Ports.{dir_said, said}
use Rattle.vlog_cells.proofs.ports.first_dir.Given as goal

abbrev pub invariant-loop-mention : goal.invariant-loop-mention
invariant-loop-mention l = dir_said (map said (drop l.mention-index l.mentions)) ≡ dir_said (map said l.mentions)
