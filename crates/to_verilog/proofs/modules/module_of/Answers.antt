use Rattle.std.proofs.Common.{◌∙◌}
use Rattle.to_verilog.proofs.Fits.{cell_there, module_is}
use Rattle.to_verilog.proofs.Partner.{written_for}
use Rattle.to_verilog.proofs.modules.module_of.Goals as goal

pub returns-clause-plain : goal.returns-clause-plain
returns-clause-plain c =
    let is = cell_there c.args.hier.now.cells c.cells.result.now c.args.number c.index-cells-number.result c.cells.ensures.cells c.requires.is_cell c.index-cells-number.is in
    module_is c.args.hier.now c.args.params.now c.args.number c.index-cells-number.result is c.in_ok-items.items c.in_ok-items.ensures c.in_ok-attrs.attrs c.in_ok-attrs.ensures
    c.in_ok-header.header _ c.in_ok-header.ensures c.items-2.ensures c.in_ok-name.name (c.in_ok-name.ensures ∙ c.bytes.ensures) c.empty.result c.empty.ensures

pub returns-clause-written : goal.returns-clause-written
returns-clause-written c = written_for c.args.hier.now c.args.params.now c.args.number _ c.cells.ensures.valid.valid c.requires.writable (returns-clause-plain c)
