use Rattle.std.proofs.Common.{◌≡◌, ◌++◌, ◌∷◌, ℕ, List, [], arith, map, subst, ap, ◌∙◌}
use Rattle.net_bits.specs.Classes.{members_of}
use Rattle.net_hier.specs.declared.nodes.Node.{Node}
use Rattle.edif_plans.specs.Made.{live_below}
use Rattle.edif_making.specs.Members.{AreLaid}
use Rattle.edif_making.proofs.MemberLaws.{live_members_more, no_lists}
use Rattle.edif_making.proofs.members.live_members.Goals as goal

pub loop-class-init : goal.loop-class-init
loop-class-init c = no_lists c.args.cell.now.nets c.args.classes.now c.push.new.self.items c.in_ok-nodes.nodes.items (c.in_ok-push.ensures.items ∙ ap (λ (l : List ℕ). l ++ 0 ∷ []) c.in_ok-starts.ensures.items) c.in_ok-nodes.ensures.items

pub loop-class-preserved : goal.loop-class-preserved
loop-class-preserved c =
    let nets = c.args.cell.now.nets in
    let before : List (List Node) = map (members_of c.args.classes.now) (live_below nets c.args.classes.now c.loop-class.class) in
    subst (λ (lists : List (List Node)). AreLaid lists c.add_live.new.starts.items c.add_live.new.nodes.items) (live_members_more nets c.args.classes.now c.loop-class.class c.members-members.result.now c.members-members.ensures)
    (c.in_ok-add_live.ensures before c.loop-class.invariant)

pub invariant_of-result : goal.invariant_of-result
invariant_of-result c = c.loop-class.invariant.is_laid

pub returns : goal.returns
returns c =
    let all : c.loop-class.class ≡ c.args.classes.now.count = omega (arith, c.loop-class-test.false, c.loop-class.auto.class-end, c.count-class-end.ensures) in
    c.loop-class.invariant.are ∙ ap (λ n. map (members_of c.args.classes.now) (live_below c.args.cell.now.nets c.args.classes.now n)) all
