use Rattle.std.proofs.Common.{◌≡◌, ◌<◌, ◌-◌, ◌++◌, suc, [], length, reverse, drop, arith, sym, ap, ◌∙◌, get_or}
use Rattle.std.proofs.lemmas.List.{append-nil, drop_all}
use Rattle.flat_numbers.specs.Spots.{spots_below}
use Rattle.std.proofs.lemmas.Option.{slice_get-get_or}
use Rattle.flat_numbers.proofs.SpotWalk.{below_long, push_step}
use Rattle.flat_numbers.proofs.walk.push_below.Goals as goal

pub loop-place-init : goal.loop-place-init
loop-place-init c =
    let d : drop (length c.args.instances.now) (spots_below c.args.parent 0 c.args.instances.now) ≡ [] = drop_all (length c.args.instances.now) (spots_below c.args.parent 0 c.args.instances.now) (below_long c.args.parent 0 c.args.instances.now) in
    record { within = omega arith; pushed = sym (ap (λ w. c.args.stack.now.items ++ reverse w) d ∙ append-nil c.args.stack.now.items) }

pub loop-place-preserved : goal.loop-place-preserved
loop-place-preserved c =
    let w : c.loop-place.place - 1 < length c.args.instances.now = omega (arith, c.loop-place.invariant.within, c.loop-place-test.true) in
    let s : c.loop-place.place ≡ suc (c.loop-place.place - 1) = omega (arith, c.loop-place-test.true) in
    let there = slice_get-get_or c.args.instances.now (c.loop-place.place - 1) c.index-instances-place.result w in
    record {
      within = omega (arith, w);
      pushed = c.in_ok-push.ensures.items
          ∙ push_step c.args.parent c.args.instances.now c.args.stack.now.items c.loop-place.stack.items (c.loop-place.place - 1) (get_or c.args.instances.now (c.loop-place.place - 1) c.index-instances-place.result) there
          (c.loop-place.invariant.pushed ∙ ap (λ n. c.args.stack.now.items ++ reverse (drop n (spots_below c.args.parent 0 c.args.instances.now))) s);
    }
