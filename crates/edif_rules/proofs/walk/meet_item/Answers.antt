use Rattle.std.proofs.Common.{◌∙◌, ◌++◌, ◌∷◌, [], ap, sym, subst}
use Rattle.edif_lookup.specs.Refusals.{is_in, lowest}
use Rattle.edif_design.specs.CellRules.{contents_refusals}
use Rattle.edif_design.specs.References.{linked_cell, place_in}
use Rattle.edif_rules.specs.Scopes.{lists_of}
use Rattle.edif_rules.specs.Walks.{HasMet, has_ident_before, instance_refusals_by, is_name_taken, net_refusals_by, net_ident}
use Rattle.edif_rules.proofs.WalkLaws.{instance_met, instance_refused, net_met, net_refused, note_met}
use Rattle.edif_rules.proofs.walk.meet_item.Goals as goal

pub meet_instance-requires : goal.meet_instance-requires
meet_instance-requires c = c.requires.few

pub returns-in_ok-found-in-Instance-clause-refusal : goal.returns-in_ok-found-in-Instance-clause-refusal
returns-in_ok-found-in-Instance-clause-refusal c before after whole met =
    let u = c.in-Instance.instance in
    let old = c.args.met.now in
    let lists = lists_of c.args.scope.now in
    let taken = has_ident_before lists.instances old.instances u in
    c.in_ok-found-in-Instance.ensures.refusal
    ∙ (ap (λ name. lowest (instance_refusals_by c.args.tables.now c.args.home name taken (is_name_taken taken old.renamed old.originals u) u)) c.original-name.ensures
    ∙ (instance_refused c.args.tables.now c.args.home c.args.cell.now before old met lists c.requires.scope u after (ap (λ item. before ++ item ∷ after) (sym c.in-Instance.is) ∙ whole)
    ∙ ap (λ item. lowest (contents_refusals c.args.tables.now (place_in c.args.home c.args.cell.now) before item)) (sym c.in-Instance.is)))

pub returns-in_ok-found-in-Instance-clause-met : goal.returns-in_ok-found-in-Instance-clause-met
returns-in_ok-found-in-Instance-clause-met c before met =
    let linked = linked_cell c.args.tables.now (place_in c.args.home c.args.cell.now) in
    let e = c.in_ok-found-in-Instance.ensures in
    subst (λ item. HasMet linked (before ++ item ∷ []) c.meet_instance.new.met) (sym c.in-Instance.is)
    (instance_met linked before c.args.met.now c.meet_instance.new.met met c.in-Instance.instance e.number e.renamed e.original e.nets e.taken)

pub returns-in_ok-found-in-Net-clause-refusal : goal.returns-in_ok-found-in-Net-clause-refusal
returns-in_ok-found-in-Net-clause-refusal c before after whole met =
    let n = c.in-Net.net in
    let old = c.args.met.now in
    c.in_ok-found-in-Net.ensures.refusal
    ∙ (ap (λ name. lowest (net_refusals_by (lists_of c.args.scope.now) name (is_in (net_ident n) old.nets) old.taken n)) c.original.ensures
    ∙ (net_refused c.args.tables.now c.args.home c.args.cell.now before old met (lists_of c.args.scope.now) c.requires.scope n
    ∙ ap (λ item. lowest (contents_refusals c.args.tables.now (place_in c.args.home c.args.cell.now) before item)) (sym c.in-Net.is)))

pub returns-in_ok-found-in-Net-clause-met : goal.returns-in_ok-found-in-Net-clause-met
returns-in_ok-found-in-Net-clause-met c before met =
    let linked = linked_cell c.args.tables.now (place_in c.args.home c.args.cell.now) in
    let e = c.in_ok-found-in-Net.ensures in
    subst (λ item. HasMet linked (before ++ item ∷ []) c.meet_net.new.met) (sym c.in-Net.is)
    (net_met linked before c.args.met.now c.meet_net.new.met met (lists_of c.args.scope.now) c.requires.scope c.in-Net.net e.ident e.bits e.instances e.renamed e.originals)

pub returns-in-Note-clause-refusal : goal.returns-in-Note-clause-refusal
returns-in-Note-clause-refusal c before after whole met =
    c.unbroken.ensures ∙ ap (λ item. lowest (contents_refusals c.args.tables.now (place_in c.args.home c.args.cell.now) before item)) (sym c.in-Note.is)

pub returns-in-Note-clause-met : goal.returns-in-Note-clause-met
returns-in-Note-clause-met c before met =
    let linked = linked_cell c.args.tables.now (place_in c.args.home c.args.cell.now) in
    subst (λ item. HasMet linked (before ++ item ∷ []) c.args.met.now) (sym c.in-Note.is) (note_met linked before c.args.met.now c.args.met.now met c.in-Note.field-0)
