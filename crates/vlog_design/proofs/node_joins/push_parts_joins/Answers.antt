use Rattle.std.proofs.Common.{◌≡◌, ◌++◌, All, ap, drop, get_or, length, subst, sym, ◌∙◌}
use Rattle.vlog_design.specs.Design.{joins_between}
use Rattle.vlog_design.specs.Exprs.{bits, literals}
use Rattle.vlog_design.specs.Numbers.{HasDigits}
use Rattle.vlog_design.proofs.JoinLaws.{part_joined, part_passed, parts_joined, parts_passed}
use Rattle.vlog_design.proofs.Parts.{all_of_part}
use Rattle.vlog_design.proofs.node_joins.push_parts_joins.Goals as goal

pub push_part_joins-requires-clause-digits : goal.push_part_joins-requires-clause-digits
push_part_joins-requires-clause-digits c =
    subst (λ e. All HasDigits (literals e)) (sym c.part-item.is) (all_of_part HasDigits literals c.args.parts.now c.loop-part.part-index c.part-item.result c.loop-part-test.true c.requires.digits)

pub loop-part-preserved : goal.loop-part-preserved
loop-part-preserved c =
    let f = bits c.args.table.now in
    let parts = c.args.parts.now in
    let i = c.loop-part.part-index in
    let part = get_or parts i c.part-item.result in
    let passed : c.in_ok-rest.rest ≡ drop (length (f part)) c.loop-part.rest = c.in_ok-rest.ensures.left ∙ ap (λ e. drop (length (f e)) c.loop-part.rest) c.part-item.is in
    let added : c.push_part_joins.new.out.items ≡ c.loop-part.out.items ++ joins_between c.loop-part.rest (f part) =
    c.in_ok-rest.ensures.added ∙ ap (λ e. c.loop-part.out.items ++ joins_between c.loop-part.rest (f e)) c.part-item.is in
    record {
      joined = part_joined f c.loop-part.rest c.in_ok-rest.rest parts i c.part-item.result c.loop-part-test.true passed c.loop-part.out.items c.push_part_joins.new.out.items c.loop-part.invariant.joined added;
      left = part_passed f c.loop-part.rest c.in_ok-rest.rest parts i c.part-item.result c.loop-part-test.true passed c.loop-part.invariant.left;
    }

pub returns : goal.returns
returns c = record {
  added = parts_joined (bits c.args.table.now) c.loop-part.rest c.args.parts.now c.loop-part.part-index c.loop-part-test.false c.loop-part.out.items c.loop-part.invariant.joined;
  left = parts_passed (bits c.args.table.now) c.loop-part.rest c.args.parts.now c.loop-part.part-index c.loop-part-test.false c.loop-part.invariant.left;
}
