use Rattle.std.proofs.Common.{Some, ◌∙◌, ap, refl, sym}
use Rattle.vlog_design.specs.Names.{has_name}
use Rattle.vlog_rules.proofs.LibraryLaws.{is_named}
use Rattle.vlog_rules.proofs.StatementLaws.{module_known, module_unknown}
use Rattle.vlog_rules.proofs.modules.UnknownModulesStatementRule.first.Goals as goal

pub returns-then-has : goal.returns-then-has
returns-then-has c =
    let self = c.args.self.now in
    let there = sym (is_named self.modules.now c.args.statement.now.module) ∙ (sym (c.if-has.ensures ∙ (ap (has_name self.names) c.bytes-of.ensures ∙ ap (λ names. has_name names c.args.statement.now.module) self.are_named))) in
    module_known self.modules.now c.args.statement.now c.args.cell.now there

pub returns : goal.returns
returns c =
    let self = c.args.self.now in
    let statement = c.args.statement.now in
    let gone = sym (is_named self.modules.now statement.module) ∙ (sym (c.if-has.ensures ∙ (ap (has_name self.names) c.bytes-of.ensures ∙ ap (λ names. has_name names statement.module) self.are_named))) in
    ap Some (c.in_ok-refuse_in_statement.ensures ∙ rw (c.bytes-of.ensures, c.items-insts.ensures) refl) ∙ module_unknown self.modules.now statement c.args.cell.now gone
