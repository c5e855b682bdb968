use Rattle.std.proofs.Common.{ap, subst, sym, ◌∙◌, ◌<◌, ◌≡◌, ◌∷◌, [], ℕ, List, true, Some, get_or, length}
use Rattle.net_hier.specs.Design.{top_name}
use Rattle.net_hier.specs.declared.cells.HProp.{HProp}
use Rattle.net_flatten_rules.specs.Rules.{is_long, refused}
use Rattle.net_flatten_rules.specs.declared.refusal.FlattenRule.TheVariants.{F2}
use Rattle.net_flatten_refusals.proofs.LongLaws.{prop_here, named_top}
use Rattle.net_flatten_refusals.proofs.long_names.long_in_design.Goals as goal

pub returns-then-is_long : goal.returns-then-is_long
returns-then-is_long c =
    let props : List HProp = c.args.hier.now.props in
    let i : ℕ = c.loop-prop.prop-index in
    let prop : HProp = c.prop-item.result in
    let same : c.props-prop-items.result.now ≡ props = c.props-prop-items.ensures.props in
    let is : prop ≡ get_or props i prop = c.prop-item.is ∙ ap (λ ps. get_or ps i prop) same in
    let lt : i < length props = subst (λ ps. i < length ps) same c.loop-prop-test.true in
    let top : c.bytes-name.result.now ≡ top_name c.args.hier.now.cells c.args.hier.now.top =
    c.bytes-name.ensures ∙ named_top c.args.hier.now c.cells.ensures.valid.valid c.cells.result.now c.top.result c.index-cells-top.result c.cells.ensures.cells c.top.ensures.top c.index-cells-top.is in
    let name : c.bytes-then-is_long.result.now ≡ (get_or props i prop).name = c.bytes-then-is_long.ensures ∙ ap (λ (p : HProp). p.name) is in
    let long : is_long (get_or props i prop).name ≡ true = ap is_long (sym (c.bytes.ensures ∙ ap (λ (p : HProp). p.name) is)) ∙ (sym c.is_long.ensures ∙ c.if-is_long.true) in
    ap Some (c.in_ok-broken.ensures ∙ (λ j. refused F2 (top j) (name j ∷ [])))
    ∙ (prop_here (top_name c.args.hier.now.cells c.args.hier.now.top) props i prop lt long ∙ c.loop-prop.invariant)
