use Rattle.std.proofs.Common.{rules, ◌≡◌, ◌∙◌, ◌%◌, true, false, length, ap}
use Rattle.edif_rules.specs.Spots.{has_bit, has_first, is_first, mask_of}
use Rattle.edif_rules.proofs.BitLaws.{has_own, has_first_pin, has_other_pin, pin_key}
use Rattle.edif_rules.proofs.bits.TakenBits.has.Goals as goal

pub returns-in-None : goal.returns-in-None
returns-in-None c =
    c.has_bit.ensures
    ∙ (ap (λ mask. has_bit mask (c.args.spot.bit % 64)) (c.mask_of.ensures ∙ ap (mask_of c.self.inside.own.entries) c.own_word-word.ensures)
    ∙ has_own c.args.spot c.self.inside.own.entries c.self.inside.firsts.items c.self.inside.others.keys c.args.self.now c.self.invariant c.in-None.is c.self.view_is)

pub returns-then-is_first : goal.returns-then-is_first
returns-then-is_first c =
    let key = pin_key c.args.spot c.in-Some.instance in
    let first : is_first key (length c.self.inside.firsts.items) ≡ true = search rules in
    c.has_first.ensures
    ∙ (ap (λ masks. has_first masks key) c.deref.ensures.value
    ∙ has_first_pin c.args.spot c.in-Some.instance c.self.inside.own.entries c.self.inside.firsts.items c.self.inside.others.keys c.args.self.now c.self.invariant c.in-Some.is c.self.view_is first)

pub returns-else-is_first : goal.returns-else-is_first
returns-else-is_first c =
    let other : is_first (pin_key c.args.spot c.in-Some.instance) (length c.self.inside.firsts.items) ≡ false = search rules in
    c.contains.ensures
    ∙ has_other_pin c.args.spot c.in-Some.instance c.self.inside.own.entries c.self.inside.firsts.items c.self.inside.others.keys c.args.self.now c.in-Some.is c.self.view_is other
