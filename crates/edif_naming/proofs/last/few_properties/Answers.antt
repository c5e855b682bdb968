use Rattle.std.proofs.Common.{arith, ◌++◌, ap, map, subst, sym}
use Rattle.std.specs.List.{AllByRecursion}
use Rattle.edif_written.specs.Naming.{value_of}
use Rattle.edif_naming.proofs.LastLaws.{last_end, last_turn, none_plain, plain_idents, sound_there}
use Rattle.edif_values.specs.Values.{IsProperty}
use Rattle.net_live.specs.Last.{last_of}
use Rattle.edif_naming.proofs.last.few_properties.Goals as goal

pub loop-place-init : goal.loop-place-init
loop-place-init c = record {
  values = ap (λ l. map value_of l ++ last_of c.args.props.now) c.in_ok-made.ensures.items;
  plain = none_plain c.in_ok-made.made.items c.in_ok-made.ensures.items;
  few = omega arith;
  sound = λ _. subst (AllByRecursion IsProperty) (sym c.in_ok-made.ensures.items) tt;
}

pub loop-place-preserved : goal.loop-place-preserved
loop-place-preserved c =
    let props = c.args.props.now in
    let place = c.loop-place.place in
    let prop = c.index-props-place.result in
    record {
      values = last_turn props place prop prop (map value_of c.loop-place.made.items) (map value_of c.add_last.new.made.items) c.loop-place-test.true c.index-props-place.is c.loop-place.invariant.values c.in_ok-from.ensures.value;
      plain = c.in_ok-from.ensures.plain;
      few = omega (arith, c.in_ok-from.ensures.step, c.loop-place.invariant.few);
      sound = λ all. c.in_ok-from.ensures.sound (sound_there props place prop prop all c.loop-place-test.true c.index-props-place.is) (c.loop-place.invariant.sound all);
    }

pub returns-clause-values : goal.returns-clause-values
returns-clause-values c = last_end c.args.props.now c.loop-place.place (map value_of c.loop-place.made.items) c.loop-place-test.false c.loop-place.invariant.values

pub returns-clause-idents : goal.returns-clause-idents
returns-clause-idents c = plain_idents c.loop-place.made.items c.loop-place.from (last_of c.args.props.now) c.loop-place.invariant.plain
    (last_end c.args.props.now c.loop-place.place (map value_of c.loop-place.made.items) c.loop-place-test.false c.loop-place.invariant.values)
