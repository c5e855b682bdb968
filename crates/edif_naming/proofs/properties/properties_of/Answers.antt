use Rattle.std.proofs.Common.{arith, ◌<◌, ◌≤◌, ap, length}
use Rattle.edif_naming.proofs.NamingLaws.{ident_turn, idents_end, property_turn}
use Rattle.edif_naming.proofs.SoundLaws.{properties_sound}
use Rattle.edif_naming.proofs.properties.properties_of.Goals as goal

pub loop-place-preserved : goal.loop-place-preserved
loop-place-preserved c =
    let same = ap length c.items-words.ensures in
    let within : c.loop-place.place < length c.items-words.result.now = omega (arith, c.loop-place-test.true, c.in_ok-idents.ensures.count, same) in record {
      values = property_turn c.args.props.now c.loop-place.place c.index-props-place.result c.index-props-place.result _ _ c.in_ok-property.property _ c.loop-place-test.true c.index-props-place.is c.loop-place.invariant.values c.in_ok-push.ensures.items c.in_ok-property.ensures.property;
      idents = ident_turn c.items-words.result.now c.loop-place.place c.index-words-place.result c.index-words-place.result _ _ c.in_ok-property.property _ within c.index-words-place.is c.loop-place.invariant.idents c.in_ok-push.ensures.items c.in_ok-property.ensures.property;
      sound = properties_sound c.args.props.now c.loop-place.place c.index-props-place.result c.index-props-place.result _ _ c.in_ok-property.property c.loop-place-test.true c.index-props-place.is c.loop-place.invariant.sound c.in_ok-push.ensures.items c.in_ok-property.ensures.sound;
    }

pub returns-clause-idents : goal.returns-clause-idents
returns-clause-idents c =
    let same = ap length c.items-words.ensures in
    let past : length c.items-words.result.now ≤ c.loop-place.place = omega (arith, c.loop-place-test.false, c.in_ok-idents.ensures.count, same) in
    idents_end _ _ _ _ _ c.in_ok-idents.ensures.idents c.items-words.ensures past c.loop-place.invariant.idents
