use Rattle.std.proofs.Common.{ap, sym, ◌∙◌, ◌<◌, ◌≡◌, length, arith}
use Rattle.flat_numbers.specs.declared.spots.Spot.{Spot}
use Rattle.net_flatten_rules.specs.Joined.{name_at}
use Rattle.net_flatten_refusals.specs.Digests.{digest_from, digest_of}
use Rattle.net_flatten_refusals.proofs.NameDigests.{digest_below, digest_below_top, digest_of_top, inner_there, parent_less}
use Rattle.net_flatten_refusals.proofs.digests.digest_at.Goals as goal

abbrev no_spot : Spot
no_spot = record { parent = 0; instance = 0; cell = 0 }

pub returns-then-spot-eq0 : goal.returns-then-spot-eq0
returns-then-spot-eq0 c = λ paths of so_far.
    let lt : 0 < length c.args.spots.now = let some = c.requires.spot in omega (arith, some) in
    digest_of_top c.args.hier.now c.cells-cells.ensures.valid.valid c.args.spots.now c.requires.spots paths of lt ∙ ap (λ n. digest_of (name_at paths n)) (sym c.if-spot-eq0.true)

pub instance_at-requires : goal.instance_at-requires
instance_at-requires c = inner_there c.args.hier.now c.cells-cells.ensures.valid.valid c.args.spots.now c.requires.spots c.args.spot c.requires.spot c.if-spot-eq0.false

pub returns-then-parent-eq0 : goal.returns-then-parent-eq0
returns-then-parent-eq0 c = λ paths of so_far.
    c.extended.ensures ∙ digest_below_top c.args.hier.now c.cells-cells.ensures.valid.valid c.args.spots.now c.requires.spots paths of c.args.spot no_spot c.bytes-name.result.now
    c.requires.spot c.if-spot-eq0.false c.if-parent-eq0.true (c.instance_at.ensures.name ∙ sym c.bytes-name.ensures)

pub bounds-digests-parent : goal.bounds-digests-parent
bounds-digests-parent c =
    let less = parent_less c.args.hier.now c.cells-cells.ensures.valid.valid c.args.spots.now c.requires.spots c.args.spot no_spot c.requires.spot c.if-spot-eq0.false in
    let long : length c.args.digests.now ≡ c.args.spot = c.requires.before in
    omega (arith, less, long)

pub returns : goal.returns
returns c = λ paths of so_far.
    c.extended-3.ensures ∙ (ap (λ d. digest_from d c.bytes-name.result.now) c.extended-2.ensures
    ∙ digest_below c.args.hier.now c.cells-cells.ensures.valid.valid c.args.spots.now c.requires.spots paths of c.args.spot no_spot c.bytes-name.result.now c.args.digests.now
    c.requires.spot c.if-spot-eq0.false c.if-parent-eq0.false (c.instance_at.ensures.name ∙ sym c.bytes-name.ensures) so_far)
