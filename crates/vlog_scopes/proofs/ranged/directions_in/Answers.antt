use Rattle.std.proofs.Common.{◌∙◌, ◌++◌, ap, flat_map}
use Rattle.vlog_design.specs.Names.{header_decls, port_decl}
use Rattle.vlog_scopes.specs.Ranged.{ranged_names, ranged_ports}
use Rattle.vlog_scopes.proofs.RangeLaws.{directions_are}
use Rattle.vlog_scopes.proofs.ranged.directions_in.Goals as goal

pub returns : goal.returns
returns c =
    directions_are c.args.m.now _
    (c.in_ok-push_items_ports.ensures.added
    ∙ (λ j. (c.in_ok-push_header.ensures.added ∙ ap (λ items. ranged_names items ++ flat_map ranged_ports (header_decls c.args.m.now.header)) c.in_ok-found.ensures.items) j
    ++ flat_map ranged_ports (flat_map port_decl (c.items.ensures j))))
