use Rattle.edif_spaces.proofs.Numbered.{one_spelled}
use Rattle.edif_spaces.proofs.plain.one_digit.Goals as goal

pub returns : goal.returns
returns c = one_spelled c.args.number _ _ c.requires c.digit_of-ones.ensures c.in_ok-text.ensures
