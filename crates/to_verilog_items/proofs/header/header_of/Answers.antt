use Rattle.std.proofs.Common.{◌∙◌, ap, sym}
use Rattle.vlog_values.specs.declared.module.Header.TheVariants.{Decls}
use Rattle.to_verilog_items.proofs.HeaderLaws.{header_is, is_some}
use Rattle.to_verilog_items.proofs.header.header_of.Goals as goal

pub returns : goal.returns
returns c = ap Decls c.in_ok-decls.ensures ∙ header_is c.args.ports.now (is_some c.args.ports.now (sym c.is_empty.ensures ∙ c.if-is_empty.false))
