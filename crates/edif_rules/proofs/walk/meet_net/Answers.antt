use Rattle.edif_rules.specs.Scopes.{lists_of}
use Rattle.edif_rules.proofs.WalkLaws.{net_found}
use Rattle.edif_rules.proofs.walk.meet_net.Goals as goal

pub returns-clause-refusal : goal.returns-clause-refusal
returns-clause-refusal c =
    net_found (lists_of c.args.scope.now) c.args.cell.now c.args.met.now.nets c.args.met.now.taken c.args.net.now c.bytes-ident.result.now c.original.result.now c.items-joined.result.now
    c.in_ok-ident_taken.ident_taken c.in_ok-second.second c.in_ok-first.first c.lower.result c.bytes-ident.ensures.bytes c.original.ensures c.items-joined.ensures c.in_ok-ident_taken.ensures.known
    c.in_ok-second.ensures c.in_ok-first.ensures.refusal c.lower.ensures
