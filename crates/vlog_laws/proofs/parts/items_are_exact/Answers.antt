use Rattle.vlog_items.specs.Grammar.{item}
use Rattle.vlog_items.proofs.Live.{live_item}
use Rattle.vlog_items.proofs.Clear.{clear_item}
use Rattle.vlog_laws.specs.Exact.{Any}
use Rattle.vlog_laws.proofs.Reading.{exact}
use Rattle.vlog_laws.proofs.parts.items_are_exact.Goals as goal

pub returns : goal.returns
returns c = λ before. exact (item before) Any (live_item before) (clear_item before _) tt
