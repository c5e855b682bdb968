use Rattle.vlog_partners.proofs.Example.{tied_names, tied_written}
use Rattle.vlog_partners.proofs.OverExample.{over_names, over_written}
use Rattle.vlog_partners.proofs.laws.example_files.Goals as goal

pub returns : goal.returns
returns c = record { tied = (tied_written, tied_names); over = (over_written, over_names) }
