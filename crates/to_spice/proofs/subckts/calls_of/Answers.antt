use Rattle.std.proofs.Common.{◌≡◌, [], Some, length, refl, slice_get, subst, sym}
use Rattle.std.proofs.lemmas.Option.{slice_get_read}
use Rattle.to_spice.specs.Giving.{GivesCalls}
use Rattle.to_spice.proofs.Making.{all_made, more_made, none_made}
use Rattle.to_spice.proofs.subckts.calls_of.Goals as goal

pub loop-number-init : goal.loop-number-init
loop-number-init c = (
  subst (GivesCalls c.args.hier.now.cells c.args.cell.now c.args.classes.now [] c.args.nodes.now c.args.nodes.now) (sym c.empty-calls.ensures)
      (none_made c.args.hier.now.cells c.args.cell.now c.args.classes.now c.args.nodes.now),
  c.requires.next,
)

pub call_of-requires-clause-there : goal.call_of-requires-clause-there
call_of-requires-clause-there c =
    let instances = c.items-instances.result.now in
    c.requires.there c.loop-number.number c.index-instances-number.result (subst (λ l. slice_get l c.loop-number.number ≡ Some c.index-instances-number.result) c.items-instances.ensures
    (slice_get_read instances (length instances) c.loop-number.number c.index-instances-number.result refl c.loop-number-test.true c.index-instances-number.is))

pub loop-number-preserved : goal.loop-number-preserved
loop-number-preserved c = (
  more_made c.args.hier.now.cells c.args.cell.now c.args.classes.now c.items-instances.result.now c.loop-number.number c.index-instances-number.result c.index-instances-number.result c.args.nodes.now c.loop-number.nodes
      c.call_of.new.nodes c.loop-number.calls c.push.new.self c.in_ok-call.call c.loop-number-test.true (sym c.index-instances-number.is) c.loop-number.invariant.0 c.in_ok-call.ensures.call c.in_ok-push.ensures.added,
  c.in_ok-call.ensures.next,
)

pub returns : goal.returns
returns c =
    subst (λ l. GivesCalls c.args.hier.now.cells c.args.cell.now c.args.classes.now l c.args.nodes.now c.loop-number.nodes c.loop-number.calls) c.items-instances.ensures
    (all_made c.args.hier.now.cells c.args.cell.now c.args.classes.now c.items-instances.result.now c.loop-number.number c.args.nodes.now c.loop-number.nodes c.loop-number.calls c.loop-number-test.false c.loop-number.invariant.0)
