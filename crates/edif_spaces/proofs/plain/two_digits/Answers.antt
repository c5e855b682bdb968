use Rattle.edif_spaces.proofs.Numbered.{two_spelled}
use Rattle.edif_spaces.proofs.plain.two_digits.Goals as goal

pub returns : goal.returns
returns c = two_spelled c.args.number _ _ _ c.requires.more c.requires.fewer c.digit_of-tens.ensures c.digit_of-ones.ensures c.in_ok-text.ensures
