use Rattle.std.proofs.Common.{rules, ◌≡◌, ◌∙◌, ap, sym, get_or, true, false, length}
use Rattle.std.proofs.lemmas.Result.{on_ok_weaker}
use Rattle.std.proofs.lemmas.List.{with_items_is}
use Rattle.std.proofs.Math.ListN.{length-set}
use Rattle.edif_rules.specs.Spots.{is_first, with_bit, with_first}
use Rattle.edif_rules.proofs.BitLaws.{one_more_own, one_more_first_pin, one_more_other_pin, other_kept, own_kept, pin_key}
use Rattle.edif_rules.proofs.bits.TakenBits.add.Goals as goal

pub invariant_of-self : goal.invariant_of-self
invariant_of-self c =
    own_kept c.add_own.result c.self.inside.own.entries c.add_own.new.words.entries c.self.inside.firsts.items c.self.inside.others.keys
    c.args.spot.port c.args.spot.bit c.self.invariant c.add_own.ensures.added c.add_own.ensures.kept c.add_own.ensures.apart

pub invariant_of-self-in-Some : goal.invariant_of-self-in-Some
invariant_of-self-in-Some c =
    let key = pin_key c.args.spot c.in-Some.instance in
    let other : is_first key (length c.self.inside.firsts.items) ≡ false = search rules in
    other_kept c.add_key.result c.self.inside.own.entries c.self.inside.firsts.items c.self.inside.others.keys c.add_key.new.set.keys key
    c.self.invariant other c.add_key.ensures.added c.add_key.ensures.kept

pub returns-in-None-clause-added : goal.returns-in-None-clause-added
returns-in-None-clause-added c =
    on_ok_weaker c.add_own.result
    (one_more_own c.args.spot c.self.inside.own.entries c.add_own.new.words.entries c.self.inside.firsts.items c.self.inside.others.keys
    c.args.self.now c.in-None.is c.self.view_is)
    c.add_own.ensures.added

pub returns-then-is_first-clause-added : goal.returns-then-is_first-clause-added
returns-then-is_first-clause-added c =
    let key = pin_key c.args.spot c.in-Some.instance in
    let first : is_first key (length c.self.inside.firsts.items) ≡ true = search rules in
    let masks = c.self.inside.firsts.items in
    let with : c.add_first.new.masks ≡ with_first masks key = c.add_first.ensures ∙ ap (λ m. with_first m key) c.deref_mut.ensures.value in
    let kept = length-set masks key.instance (with_bit (get_or masks key.instance 0) key.port) in
    let len : length c.add_first.new.masks ≡ c.self.inside.firsts.len = ap length with ∙ (kept ∙ sym c.self.inside.firsts.ok.0) in
    let more = with_items_is c.self.inside.firsts c.add_first.new.masks len ∙ with in
    one_more_first_pin c.args.spot c.in-Some.instance c.self.inside.own.entries c.self.inside.firsts.items _ c.self.inside.others.keys
    c.args.self.now c.in-Some.is c.self.view_is first more

pub returns-else-is_first-clause-added : goal.returns-else-is_first-clause-added
returns-else-is_first-clause-added c =
    let other : is_first (pin_key c.args.spot c.in-Some.instance) (length c.self.inside.firsts.items) ≡ false = search rules in
    on_ok_weaker c.add_key.result
    (one_more_other_pin c.args.spot c.in-Some.instance c.self.inside.own.entries c.self.inside.firsts.items c.self.inside.others.keys c.add_key.new.set.keys
    c.args.self.now c.in-Some.is c.self.view_is)
    c.add_key.ensures.added
