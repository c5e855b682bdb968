use Rattle.std.proofs.Common.{None, Some, [], ◌∷◌, ◌∙◌, ap, filter, not, sym}
use Rattle.nl_base.specs.declared.rule.Rule.TheVariants.{G9}
use Rattle.vlog_design.specs.Names.{has_name}
use Rattle.vlog_design.specs.Rules.{conn_names, ports_named, refused}
use Rattle.vlog_design.specs.Tables.{modules_of}
use Rattle.vlog_rules.proofs.RuleLaws.{first_filter}
use Rattle.vlog_rules.proofs.StatementLaws.{first_made}
use Rattle.vlog_rules.proofs.connections.UnknownPortsInstanceRule.first.Goals as goal

pub returns-in-None : goal.returns-in-None
returns-in-None c =
    let instance = c.args.instance.now in
    let names = conn_names instance.conns in
    let ports = ports_named (modules_of c.args.self.now.library.now.modules.items) c.args.of.now in
    sym (first_made G9 c.args.cell.now (λ port. instance.name ∷ port ∷ []) (filter (λ port. not (has_name ports port)) names) None (c.in-None.ensures ∙ sym (first_filter (λ port. not (has_name ports port)) names)))

pub returns-in_ok-refuse_two-in-Some : goal.returns-in_ok-refuse_two-in-Some
returns-in_ok-refuse_two-in-Some c =
    let instance = c.args.instance.now in
    let names = conn_names instance.conns in
    let ports = ports_named (modules_of c.args.self.now.library.now.modules.items) c.args.of.now in
    let port = c.in-Some.port.now in
    ap Some (c.in_ok-refuse_two-in-Some.ensures ∙ ap (λ name. refused G9 c.args.cell.now (name ∷ port ∷ [])) c.bytes.ensures)
    ∙ sym (first_made G9 c.args.cell.now (λ p. instance.name ∷ p ∷ []) (filter (λ p. not (has_name ports p)) names) (Some port) (c.in-Some.ensures ∙ sym (first_filter (λ p. not (has_name ports p)) names)))
