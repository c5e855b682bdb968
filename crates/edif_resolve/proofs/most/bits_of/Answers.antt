use Rattle.std.proofs.Common.{◌-◌, ◌^◌, arith}
use Rattle.edif_cells.specs.Values.{is_bad_port}
use Rattle.edif_resolve.specs.Most.{port_width}
use Rattle.edif_resolve.proofs.Bounding.{not_at, sum_done, sum_more}
use Rattle.edif_resolve.proofs.most.bits_of.Goals as goal

pub port_width-requires : goal.port_width-requires
port_width-requires c = not_at is_bad_port c.args.ports.now c.loop-port.port-index c.port-item.result (omega arith) c.port-item.is c.requires

pub loop-port-preserved : goal.loop-port-preserved
loop-port-preserved c =
    sum_more (λ port. port_width port.now) c.args.ports.now c.loop-port.port-index c.port-item.result (omega arith) c.port-item.is (2 ^ 64 - 1) c.loop-port.bits c.port_width.result c.saturating_add-bits.result
    c.loop-port.invariant c.port_width.ensures c.saturating_add-bits.ensures

pub returns : goal.returns
returns c = sum_done port_width c.args.ports.now c.loop-port.port-index (omega arith) (2 ^ 64 - 1) c.loop-port.bits c.loop-port.invariant
