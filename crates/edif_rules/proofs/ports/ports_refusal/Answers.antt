use Rattle.std.proofs.Common.{arith}
use Rattle.edif_rules.proofs.TableTurns.{idents_turn, originals_turn, ports_turn}
use Rattle.edif_rules.proofs.ports.ports_refusal.Goals as goal

pub loop-port-preserved : goal.loop-port-preserved
loop-port-preserved c =
    let v = c.loop-port.invariant in
    record {
      best = ports_turn c.args.cell.now c.args.ports.now c.loop-port.port-index c.port-item.result (omega arith) c.port-item.is c.loop-port.idents c.loop-port.names v.idents v.names
          c.port_ident.result.now c.port_name.result.now c.port_ident.ensures c.port_name.ensures c.in_ok-ident_taken.ident_taken c.in_ok-name_taken.name_taken c.in_ok-ident_taken.ensures.known c.in_ok-name_taken.ensures.known
          c.loop-port.best c.in_ok-next.next c.lower-best.result v.best c.in_ok-next.ensures c.lower-best.ensures;
      idents = idents_turn c.args.cell.now c.args.ports.now c.loop-port.port-index c.port-item.result (omega arith) c.port-item.is c.loop-port.idents _ c.port_ident.result.now c.port_ident.ensures v.idents c.in_ok-ident_taken.ensures.noted;
      names = originals_turn c.args.cell.now c.args.ports.now c.loop-port.port-index c.port-item.result (omega arith) c.port-item.is c.loop-port.names _ c.port_name.result.now c.port_name.ensures v.names c.in_ok-name_taken.ensures.noted;
    }
