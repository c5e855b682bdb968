use Rattle.std.proofs.Common.{◌≡◌, ◌<◌, ap, arith, length, reverse, ◌∙◌}
use Rattle.std.specs.Vec.{vec_len}
use Rattle.std.proofs.lemmas.List.{length-reverse, reverse-reverse}
use Rattle.edif_making.specs.CellPlans.{cell_plan_of}
use Rattle.edif_making.proofs.MadeNets.{all_behind, ident_taken, none_behind, one_behind}
use Rattle.edif_making.proofs.nets.with_nets.Goals as goal

pub loop-ident-init : goal.loop-ident-init
loop-ident-init c = record {
  others = ap reverse c.reverse.ensures.items ∙ (reverse-reverse c.into_vec-left.result.items ∙ c.into_vec-left.ensures);
  counted = omega (arith, ap length c.reverse.ensures.items, length-reverse c.into_vec-left.result.items, ap length c.into_vec-left.ensures);
  have = none_behind (cell_plan_of c.args.scope.now) c.args.first.items;
}

pub loop-ident-preserved : goal.loop-ident-preserved
loop-ident-preserved c =
    let taken = ident_taken c.args.idents c.loop-ident.place c.in-Some.ident c.loop-ident.left.items c.pop.new.self.items c.in-Some.ensures.items c.loop-ident.invariant.others c.loop-ident.invariant.counted in
    let there : c.loop-ident.place < length c.args.members.now = omega (arith, taken.named, c.requires.idents) in
    record {
      others = ap reverse c.give_back.ensures ∙ taken.others;
      counted = omega (arith, taken.counted, ap length c.give_back.ensures);
      have = one_behind (cell_plan_of c.args.scope.now) c.args.idents c.args.members.now c.loop-ident.place c.in-Some.ident c.get.result.now c.args.first.items c.loop-ident.items.items _ c.in_ok-net.net
          taken.named there taken.is_ident c.get.ensures c.in_ok-push.ensures.items c.in_ok-net.ensures c.loop-ident.invariant.have;
    }

pub returns : goal.returns
returns c =
    let left = c.loop-ident.left in
    let none : vec_len left ≡ 0 = c.in_default.ensures.cases.0 in
    all_behind (cell_plan_of c.args.scope.now) c.args.idents c.args.members.now c.loop-ident.place left.items c.args.first.items c.loop-ident.items.items (omega (arith, none, left.ok)) c.loop-ident.invariant.counted c.requires.idents c.loop-ident.invariant.have
