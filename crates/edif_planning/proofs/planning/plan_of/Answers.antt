use Rattle.std.proofs.Common.{arith, ◌≡◌, ◌≤◌, length, refl}
use Rattle.edif_planning.proofs.ConstantLaws.{few_missing, place_small}
use Rattle.edif_planning.proofs.PlanLaws.{planned_by}
use Rattle.edif_planning.proofs.planning.plan_of.Goals as goal

pub number_of-requires : goal.number_of-requires
number_of-requires c =
    let count : c.len-count.result ≡ length c.in_ok-missing.missing.items = omega arith in
    let few : length c.in_ok-missing.missing.items ≤ 2 = few_missing c.of-zero.result c.of-one.result c.in_ok-missing.missing.items c.in_ok-missing.ensures in
    place_small c.args.constants.now c.args.hier.now c.cells-cells.ensures.valid _ c.of-zero.result.place c.of-zero.ensures.place c.len-count.result (omega (arith, count, few))

pub number_of-requires-2 : goal.number_of-requires-2
number_of-requires-2 c =
    let count : c.len-count.result ≡ length c.in_ok-missing.missing.items = omega arith in
    let few : length c.in_ok-missing.missing.items ≤ 2 = few_missing c.of-zero.result c.of-one.result c.in_ok-missing.missing.items c.in_ok-missing.ensures in
    place_small c.args.constants.now c.args.hier.now c.cells-cells.ensures.valid _ c.of-one.result.place c.of-one.ensures.place c.len-count.result (omega (arith, count, few))

pub returns : goal.returns
returns c =
    let count : c.len-count.result ≡ length c.in_ok-missing.missing.items = omega arith in
    planned_by c.args.constants.now c.args.hier.now c.cells-cells.ensures.valid c.of-zero.result c.of-one.result c.of-zero.ensures c.of-one.ensures c.in_ok-missing.missing.items c.as_slice.result.now c.in_ok-missing.ensures c.as_slice.ensures.value c.len-count.result count
    c.in_ok-heads.heads.space c.in_ok-heads.heads.made.items c.in_ok-heads.ensures c.in_ok-numbers.numbers.items c.in_ok-numbers.ensures _ c.of.ensures c.of-2.ensures c.number_of.ensures c.count.result c.count.ensures c.number_of-2.ensures _ refl refl
