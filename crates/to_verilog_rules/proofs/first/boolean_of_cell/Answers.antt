use Rattle.std.proofs.Common.{◌∙◌, ap, map, flat_map, sym}
use Rattle.nl_base.specs.declared.rule.Rule.TheVariants.{V5}
use Rattle.net_bits.specs.Names.{has_name}
use Rattle.net_hier.specs.declared.cells.HInst.{HInst}
use Rattle.vlog_design.specs.Rules.{first_of, refused}
use Rattle.to_verilog_rules.specs.Rules.{boolean_params_of}
use Rattle.to_verilog_rules.proofs.Firsts.{booleans_are}
use Rattle.to_verilog_rules.proofs.first.boolean_of_cell.Goals as goal

pub returns : goal.returns
returns c =
    c.in_ok-found.ensures
    ∙ (ap (λ name. first_of (flat_map (λ (instance : HInst). map (refused V5 name) (boolean_params_of (has_name c.args.params.now) instance)) c.items.result.now)) c.bytes.ensures
    ∙ (ap (λ is. first_of (flat_map (λ (instance : HInst). map (refused V5 c.args.cell.now.name) (boolean_params_of (has_name c.args.params.now) instance)) is)) c.items.ensures
    ∙ ap first_of (sym (booleans_are (has_name c.args.params.now) c.args.cell.now))))
