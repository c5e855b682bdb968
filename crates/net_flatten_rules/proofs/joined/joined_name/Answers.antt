use Rattle.std.proofs.Common.{◌∙◌, ap, map, subst}
use Rattle.std.specs.Prelude.{Contains}
use Rattle.flat_classes.specs.Ways.{instance_name}
use Rattle.flat_classes.proofs.WayLaws.{some_way, way_of_path}
use Rattle.net_flatten_rules.proofs.JoinedLaws.{one_way}
use Rattle.net_flatten_rules.specs.Joined.{joined}
use Rattle.net_flatten_rules.proofs.joined.joined_name.Goals as goal

pub way_up-requires : goal.way_up-requires
way_up-requires c =
    let w = some_way c.args.hier.now c.cells-cells.ensures.valid.valid c.args.spots.now c.requires.spots c.args.spot c.requires.spot in
    (w.2, w.3)

pub joined_way-requires : goal.joined_way-requires
joined_way-requires c = λ number in_way.
    let w = some_way c.args.hier.now c.cells-cells.ensures.valid.valid c.args.spots.now c.requires.spots c.args.spot c.requires.spot in
    let o = way_of_path c.args.hier.now c.cells-cells.ensures.valid.valid c.args.spots.now c.requires.spots w.0 c.args.spot w.1 in
    o.inner number (subst (λ ws. Contains ws number) (c.as_slice.ensures.value ∙ one_way c.args.spots.now c.args.spot _ o.way c.in_ok-way.ensures o.is_way) in_way)

pub returns : goal.returns
returns c = λ path at.
    let o = way_of_path c.args.hier.now c.cells-cells.ensures.valid.valid c.args.spots.now c.requires.spots path c.args.spot at in
    c.in_ok-name.ensures ∙ (ap (λ ws. joined (map (instance_name c.args.hier.now.cells c.args.spots.now) ws)) (c.as_slice.ensures.value ∙ one_way c.args.spots.now c.args.spot _ o.way c.in_ok-way.ensures o.is_way) ∙ ap joined o.names)
