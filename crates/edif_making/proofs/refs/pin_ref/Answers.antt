use Rattle.std.proofs.Common.{◌≡◌, ◌<◌, Some, [], length, get_or, subst, sym, ap, ◌∙◌}
use Rattle.edif_plans.specs.Plans.{HasHead, head_of}
use Rattle.edif_plans.specs.References.{below_at, member_for, ports_at, range_at}
use Rattle.edif_making.specs.CellPlans.{cell_plan_of}
use Rattle.edif_making.proofs.RefLaws.{pin_there}
use Rattle.edif_making.proofs.refs.pin_ref.Goals as goal

pub head-head-requires : goal.head-head-requires
head-head-requires c =
    let facts = pin_there (cell_plan_of c.args.scope.now) c.args.instance c.args.port c.args.bit c.requires.fits c.requires.bit in
    subst (HasHead c.args.scope.now.plan.now) (sym c.below_of-below.ensures) facts.head

pub inner_ref-requires-clause-port : goal.inner_ref-requires-clause-port
inner_ref-requires-clause-port c =
    let facts = pin_there (cell_plan_of c.args.scope.now) c.args.instance c.args.port c.args.bit c.requires.fits c.requires.bit in
    let is_below : c.below_of-below.result ≡ below_at (cell_plan_of c.args.scope.now).cell.instances c.args.instance = c.below_of-below.ensures in
    subst (λ l. c.args.port < length l) (sym (c.items-idents.ensures ∙ (ap (λ h. h.ports) c.head-head.ensures ∙ ap (λ n. (head_of c.args.scope.now.plan.now n).ports) is_below))) facts.port_there

pub inner_ref-requires-clause-instance : goal.inner_ref-requires-clause-instance
inner_ref-requires-clause-instance c =
    let facts = pin_there (cell_plan_of c.args.scope.now) c.args.instance c.args.port c.args.bit c.requires.fits c.requires.bit in
    subst (λ l. c.args.instance < length l) (sym c.items-instances.ensures) facts.instance_there

pub returns-clause-made : goal.returns-clause-made
returns-clause-made c =
    let is_below : c.below_of-below.result ≡ below_at (cell_plan_of c.args.scope.now).cell.instances c.args.instance = c.below_of-below.ensures in
    let idents = c.items-idents.ensures ∙ (ap (λ h. h.ports) c.head-head.ensures ∙ ap (λ n. (head_of c.args.scope.now.plan.now n).ports) is_below) in
    let ports = c.ports_of-ports.ensures ∙ ap (ports_at c.args.scope.now.cells.now) is_below in
    c.in_ok-made.ensures.made ∙ (λ j. record { port = get_or (idents j) c.args.port []; member = member_for (range_at (ports j) c.args.port) c.args.bit; instance = Some (get_or (c.items-instances.ensures j) c.args.instance []) })
