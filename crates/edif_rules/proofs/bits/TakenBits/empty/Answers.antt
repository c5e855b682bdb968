use Rattle.std.proofs.Common.{◌∙◌, ◌++◌}
use Rattle.edif_rules.specs.Spots.{own_nodes, pin_nodes}
use Rattle.edif_rules.proofs.BitLaws.{none_taken}
use Rattle.edif_rules.proofs.bits.TakenBits.empty.Goals as goal

pub returns : goal.returns
returns c =
    (λ j. own_nodes (c.new.ensures.empty j) ++ pin_nodes c.in_ok-firsts.firsts.items (c.new-2.ensures.empty j))
    ∙ none_taken c.in_ok-firsts.firsts.items c.args.instances c.in_ok-firsts.ensures
