use Rattle.std.proofs.Common.{◌<◌, None, [], length, get_or, subst, sym, ◌∙◌}
use Rattle.edif_plans.specs.References.{member_for, range_at}
use Rattle.edif_making.specs.CellPlans.{cell_plan_of}
use Rattle.edif_making.proofs.RefLaws.{port_there}
use Rattle.edif_making.proofs.refs.port_ref.Goals as goal

pub own_ref-requires : goal.own_ref-requires
own_ref-requires c = subst (λ l. c.args.port < length l) (sym c.items-idents.ensures) (port_there (cell_plan_of c.args.scope.now) c.args.port c.args.bit c.requires.fits c.requires.bit)

pub returns-clause-made : goal.returns-clause-made
returns-clause-made c = c.in_ok-made.ensures.made ∙ (λ j. record { port = get_or (c.items-idents.ensures j) c.args.port []; member = member_for (range_at (c.items-ports.ensures j) c.args.port) c.args.bit; instance = None })
