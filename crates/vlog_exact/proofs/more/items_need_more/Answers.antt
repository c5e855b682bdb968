use Rattle.vlog_items.specs.Grammar.{item}
use Rattle.vlog_items.proofs.Live.{live_item}
use Rattle.vlog_items.proofs.Clear.{clear_item}
use Rattle.vlog_laws.specs.Exact.{Any}
use Rattle.vlog_exact.proofs.Wholly.{more}
use Rattle.vlog_exact.proofs.more.items_need_more.Goals as goal

pub returns : goal.returns
returns c = λ before. more (item before) Any (live_item before) (clear_item before _) tt
