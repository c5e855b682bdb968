use Rattle.std.proofs.Common.{◌≡◌, ◌+◌, arith, ap, sum_by}
use Rattle.net_hier.specs.Cells.{width_of}
use Rattle.net_hier.specs.declared.cells.HPort.{HPort}
use Rattle.flat_numbers.proofs.Offsets.{offset_fits, offsets_first, offsets_next, offsets_whole}
use Rattle.flat_numbers.proofs.Reading.{element_read}
use Rattle.flat_numbers.proofs.tables.offsets_of_cell.Goals as goal

pub loop-port-init : goal.loop-port-init
loop-port-init c = offsets_first c.items-ports.result.now c.in_ok-row.row.items c.in_ok-row.ensures.items

pub overflow_add-before : goal.overflow_add-before
overflow_add-before c =
    let there = element_read c.items-ports.result.now c.loop-port.port-index c.port-item.result c.loop-port-test.true c.port-item.is in
    let f = offset_fits c.items-ports.result.now c.loop-port.port-index c.loop-port.row.items c.loop-port.before c.port-item.result there c.loop-port.invariant in
    let e : sum_by (λ (port : HPort). width_of port.range) c.items-ports.result.now ≡ sum_by (λ (port : HPort). width_of port.range) c.args.cell.now.ports = ap (sum_by (λ (port : HPort). width_of port.range)) c.items-ports.ensures in
    let w : c.port_width.result ≡ width_of c.port-item.result.range = c.port_width.ensures.width in
    omega (arith, f, e, w, c.requires)

pub loop-port-preserved : goal.loop-port-preserved
loop-port-preserved c =
    let there = element_read c.items-ports.result.now c.loop-port.port-index c.port-item.result c.loop-port-test.true c.port-item.is in
    let w : c.port_width.result ≡ width_of c.port-item.result.range = c.port_width.ensures.width in
    offsets_next c.items-ports.result.now c.loop-port.port-index c.loop-port.row.items c.push.new.self.items c.loop-port.before (c.loop-port.before + c.port_width.result) c.port-item.result there c.in_ok-push.ensures.items
    (ap (λ n. c.loop-port.before + n) w) c.loop-port.invariant

pub returns : goal.returns
returns c = offsets_whole c.args.cell.now c.items-ports.result.now c.loop-port.port-index c.loop-port.row.items c.push-2.new.self.items c.loop-port.before c.items-ports.ensures c.loop-port-test.false c.in_ok-push-2.ensures.items c.loop-port.invariant
