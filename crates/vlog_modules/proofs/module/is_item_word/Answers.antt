use Rattle.std.proofs.Common.{◌∙◌, sym}
use Rattle.vlog_items.specs.Grammar.{item_words}
use Rattle.vlog_modules.proofs.Items.{meant_any}
use Rattle.vlog_modules.proofs.module.is_item_word.Goals as goal

pub returns : goal.returns
returns c = c.is_one_of.ensures ∙ sym (meant_any item_words c.args.word.now)
