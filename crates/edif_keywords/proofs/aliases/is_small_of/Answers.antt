use Rattle.std.proofs.Common.{◌∙◌}
use Rattle.edif_keywords.proofs.Letters.{is_small}
use Rattle.edif_keywords.proofs.aliases.is_small_of.Goals as goal

pub returns-then-letters-word : goal.returns-then-letters-word
returns-then-letters-word c = c.pairs_agree.ensures ∙ is_small c.args.word.now c.args.letters.now c.if-letters-word.true
