use Rattle.std.proofs.Common.{ap, sym, ◌∙◌, ◌≡◌, ◌∷◌, [], List, ℕ, Some, codes, true, false}
use Rattle.net_flatten_rules.specs.Rules.{is_long, long_props, refused}
use Rattle.net_flatten_rules.specs.declared.refusal.FlattenRule.TheVariants.{F2}
use Rattle.net_flatten_refusals.proofs.LongLaws.{leaf_is_long, leaf_is_short}
use Rattle.net_flatten_refusals.proofs.NameDigests.{inner_there}
use Rattle.net_flatten_refusals.proofs.long_names.long_in_leaf.Goals as goal

pub instance_at-instance-requires : goal.instance_at-instance-requires
instance_at-instance-requires c = inner_there c.args.hier.now c.cells-cells.ensures.valid.valid c.args.spots.now c.requires.spots c.args.leaf c.requires.leaf c.requires.below

pub returns-then-is_long : goal.returns-then-is_long
returns-then-is_long c = λ paths of.
    let name : List ℕ = c.in_ok-name.name in
    let long : is_long name ≡ true = ap is_long (sym c.bytes.ensures) ∙ (sym c.is_long.ensures ∙ c.if-is_long.true) in
    ap Some (c.in_ok-broken.ensures ∙ ap (λ n. refused F2 c.args.cell.now (codes "instance" ∷ n ∷ [])) c.bytes-then-is_long.ensures)
    ∙ leaf_is_long c.args.hier.now.cells c.args.spots.now paths c.args.cell.now c.args.leaf name (c.in_ok-name.ensures paths of) long

pub returns : goal.returns
returns c = λ paths of.
    let name : List ℕ = c.in_ok-name.name in
    let short : is_long name ≡ false = ap is_long (sym c.bytes.ensures) ∙ (sym c.is_long.ensures ∙ c.if-is_long.false) in
    c.in_ok-broken-2.ensures (long_props c.items.result.now) c.in_props.ensures
    ∙ leaf_is_short c.args.hier.now.cells c.args.spots.now paths c.args.cell.now c.args.leaf name (c.in_ok-name.ensures paths of) short
    c.instance_at-instance.result.now c.items.result.now c.instance_at-instance.ensures.instance c.items.ensures
