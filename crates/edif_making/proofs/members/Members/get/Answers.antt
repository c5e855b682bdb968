use Rattle.std.proofs.Common.{◌<◌, List, [], get_or, length, subst, sym, ap, ◌∙◌}
use Rattle.net_hier.specs.declared.nodes.Node.{Node}
use Rattle.edif_making.specs.Members.{IsListAt, lists_of}
use Rattle.edif_making.proofs.MemberLaws.{list_at}
use Rattle.edif_making.proofs.members.Members.get.Goals as goal

pub nodes_at-requires : goal.nodes_at-requires
nodes_at-requires c =
    let starts = c.self.inside.starts.items in
    let nodes = c.self.inside.nodes.items in
    subst (λ s. IsListAt s c.as_slice-2.result.now c.args.place) (sym c.as_slice.ensures.value) (subst (λ n. IsListAt starts n c.args.place) (sym c.as_slice-2.ensures.value)
    (list_at starts nodes c.args.place c.self.invariant (subst (λ (l : List (List Node)). c.args.place < length l) (sym c.self.view_is) c.requires)))

pub returns : goal.returns
returns c = c.nodes_at.ensures ∙ ((λ j. get_or (lists_of (c.as_slice.ensures.value j) (c.as_slice-2.ensures.value j)) c.args.place []) ∙ ap (λ (l : List (List Node)). get_or l c.args.place []) c.self.view_is)
