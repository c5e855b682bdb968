use Rattle.std.proofs.Common.{arith, ◌-◌, ◌<◌, length, ap, sym, ◌∙◌}
use Rattle.net_bits.specs.Classes.{ClassTable, members_of}
use Rattle.net_bits.specs.Parts.{part}
use Rattle.net_bits.proofs.PartLaws.{part_at}
use Rattle.net_bits.proofs.classes.Classes.members.Goals as goal

pub returns : goal.returns
returns c =
    let starts = c.self.inside.starts.items in
    let count = ap (λ (t : ClassTable). t.count) c.self.view_is in
    let below : c.args.class < length starts - 1 = omega (arith, count, c.requires) in
    c.part_of.ensures
    ∙ ((λ i. part (c.as_slice.ensures.value i) (c.as_slice-2.ensures.value i) c.args.class)
    ∙ (sym (part_at starts c.self.inside.members.items c.args.class (omega (arith, below)))
    ∙ (c.self.invariant.are_members.members c.args.class below
    ∙ ap (λ (t : ClassTable). members_of t c.args.class) c.self.view_is)))
