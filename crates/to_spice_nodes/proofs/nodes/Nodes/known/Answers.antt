use Rattle.std.proofs.Common.{◌∙◌, Some, ap, option_copied, sym}
use Rattle.to_spice_nodes.specs.Table.{NodeTable, name_in}
use Rattle.to_spice_nodes.proofs.Giving.{looked_up}
use Rattle.to_spice_nodes.proofs.nodes.Nodes.known.Goals as goal

pub returns-in-None : goal.returns-in-None
returns-in-None c =
    sym (ap option_copied c.in-None.is) ∙ (c.get.ensures.value ∙ (looked_up c.self.inside.names.entries c.args.root.now ∙ ap (λ (t : NodeTable). name_in t.names c.args.root.now) c.self.view_is))

pub returns-in_ok-name-in-Some : goal.returns-in_ok-name-in-Some
returns-in_ok-name-in-Some c =
    ap Some (c.in_ok-name-in-Some.ensures ∙ c.bytes.ensures) ∙ (sym (ap option_copied c.in-Some.is) ∙ (c.get.ensures.value ∙ (looked_up c.self.inside.names.entries c.args.root.now ∙ ap (λ (t : NodeTable). name_in t.names c.args.root.now) c.self.view_is)))
