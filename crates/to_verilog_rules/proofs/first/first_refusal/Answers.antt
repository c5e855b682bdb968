use Rattle.std.proofs.Common.{◌≡◌, ◌∙◌, ap, sym, subst}
use Rattle.std.specs.Prelude.{IfOk}
use Rattle.nl_base.specs.declared.rule.Rule.TheVariants.{V5}
use Rattle.net_bits.specs.Names.{has_name}
use Rattle.net_hier.specs.Design.{top_name}
use Rattle.vlog_design.specs.Rules.{first_of}
use Rattle.to_verilog_rules.specs.Rules.{boolean_parameters, in_cells, unwritable_of_design}
use Rattle.to_verilog_rules.proofs.Firsts.{first_V_is, of_cells, three_first, three_last, three_second}
use Rattle.to_verilog_rules.proofs.first.first_refusal.Goals as goal

pub returns-in-Some : goal.returns-in-Some
returns-in-Some c =
    let d = c.args.hier.now in
    let fourth = unwritable_of_design (top_name d.cells d.top) d.props in
    let fifth = in_cells V5 (boolean_parameters (has_name c.args.params.now)) d.cells in
    three_first (of_cells d.cells) fourth fifth c.in_ok-refusal.field-0 (c.in_ok-refusal.ensures ∙ ap (λ cs. first_of (of_cells cs)) c.cells.ensures.cells) c.in-Some.refusal c.in-Some.is
    ∙ sym (first_V_is d.cells d.top d.props (has_name c.args.params.now))

pub returns-in-Some-2 : goal.returns-in-Some-2
returns-in-Some-2 c =
    let d = c.args.hier.now in
    let fourth = unwritable_of_design (top_name d.cells d.top) d.props in
    let fifth = in_cells V5 (boolean_parameters (has_name c.args.params.now)) d.cells in
    three_second (of_cells d.cells) fourth fifth c.in_ok-refusal.field-0 (c.in_ok-refusal.ensures ∙ ap (λ cs. first_of (of_cells cs)) c.cells.ensures.cells)
    c.in_default.is c.in_ok-refusal-2.field-0 c.in_ok-refusal-2.ensures c.in-Some-2.refusal c.in-Some-2.is
    ∙ sym (first_V_is d.cells d.top d.props (has_name c.args.params.now))

pub returns : goal.returns
returns c =
    let d = c.args.hier.now in
    let fourth = unwritable_of_design (top_name d.cells d.top) d.props in
    let fifth = in_cells V5 (boolean_parameters (has_name c.args.params.now)) d.cells in
    subst (λ o. IfOk c.first_boolean.result (λ found. found ≡ o)) (sym (first_V_is d.cells d.top d.props (has_name c.args.params.now)))
    (three_last (of_cells d.cells) fourth fifth c.in_ok-refusal.field-0 (c.in_ok-refusal.ensures ∙ ap (λ cs. first_of (of_cells cs)) c.cells.ensures.cells)
    c.in_default.is c.in_ok-refusal-2.field-0 c.in_ok-refusal-2.ensures c.in_default-2.is c.first_boolean.result
    (subst (λ cs. IfOk c.first_boolean.result (λ found. found ≡ first_of (in_cells V5 (boolean_parameters (has_name c.args.params.now)) cs))) c.cells-2.ensures.cells c.first_boolean.ensures))
