use Rattle.std.proofs.Common.{◌<◌, None, Some, [], length, get_or, subst, sym, ap, ◌∙◌}
use Rattle.edif_making.specs.CellPlans.{cell_plan_of}
use Rattle.edif_making.proofs.RefLaws.{added_fit, added_there}
use Rattle.edif_making.proofs.refs.constant_ref.Goals as goal

pub added_place-place-requires-clause-fit : goal.added_place-place-requires-clause-fit
added_place-place-requires-clause-fit c = added_fit (cell_plan_of c.args.scope.now) c.requires.fits

pub constant-head-requires : goal.constant-head-requires
constant-head-requires c = c.requires.pin.constant.is_there

pub scalar_ref-requires-clause-port : goal.scalar_ref-requires-clause-port
scalar_ref-requires-clause-port c = subst (λ l. 0 < length l) (sym (c.items-idents.ensures ∙ ap (λ h. h.ports) c.constant-head.ensures)) c.requires.pin.constant.has_port

pub scalar_ref-requires-clause-instance : goal.scalar_ref-requires-clause-instance
scalar_ref-requires-clause-instance c =
    subst (λ l. c.added_place-place.result < length l) (sym c.items-instances.ensures) (subst (λ n. n < length c.args.scope.now.instances.now.idents) (sym c.added_place-place.ensures)
    (added_there c.args.scope.now.instances.now c.args.value c.requires.pin.is_added (added_fit (cell_plan_of c.args.scope.now) c.requires.fits)))

pub returns-clause-made : goal.returns-clause-made
returns-clause-made c = c.in_ok-made.ensures.made ∙ (λ j. record { port = get_or ((c.items-idents.ensures ∙ ap (λ h. h.ports) c.constant-head.ensures) j) 0 []; member = None; instance = Some (get_or (c.items-instances.ensures j) (c.added_place-place.ensures j) []) })
