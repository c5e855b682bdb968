use Rattle.std.proofs.Common.{◌≡◌, ◌∙◌, ap, find, map}
use Rattle.net_hier.specs.declared.cells.HInst.{HInst}
use Rattle.net_hier.specs.declared.cells.HPort.{HPort}
use Rattle.vlog_design.specs.Names.{has_name}
use Rattle.vlog_design.specs.Tables.{names_of}
use Rattle.to_verilog_rules.proofs.Firsts.{first_by}
use Rattle.to_verilog_rules.proofs.twice.port_and_instance.Goals as goal

pub returns : goal.returns
returns c =
    let same : names_of c.deref.result.now ≡ map (λ (i : HInst). i.name) c.args.cell.now.instances = ap names_of c.deref.ensures.value ∙ (c.in_ok-names.ensures ∙ ap (map (λ (i : HInst). i.name)) c.items.ensures) in
    first_by c.in_ok-set.set (map (λ (port : HPort). port.name) c.args.cell.now.ports) (has_name (map (λ (i : HInst). i.name) c.args.cell.now.instances)) _
    (c.port_named-found.ensures ∙ ap (λ ps. find (has_name c.in_ok-set.set) (map (λ (port : HPort). port.name) ps)) c.items-2.ensures)
    (λ name. c.in_ok-set.ensures name ∙ ap (λ l. has_name l name) same)
