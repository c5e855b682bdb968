use Rattle.std.proofs.Common.{refl, ap, sym, arith}
use Rattle.nl_bytes.specs.Bytes.{Window}
use Rattle.nl_bytes.proofs.Fronts.{passed-along, moved_along}
use Rattle.nl_bytes.proofs.bytes.Bytes.pass_along.Goals as goal

pub returns-clause-place : goal.returns-clause-place
returns-clause-place c =
    let i = c.self.inside in
    passed-along c.args.class c.args.self.now.place c.args.self.now.place _ _ _ c.requires.along c.requires.held c.requires.each refl
    (moved_along i.offset i.line i.begin c.args.count (omega (arith, c.self.invariant)) c.args.self.now.place (sym (ap (λ (w : Window). w.place) c.self.view_is)))
