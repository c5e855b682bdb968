use Rattle.std.proofs.Common.{◌≡◌, ℕ, Some, slice_get, subst}
use Rattle.std.specs.Prelude.{◌↔◌, IsTrue}
use Rattle.net_hier.proofs.Fitting.{fresh_is}
use Rattle.net_hier.proofs.names.NameSet.add.Goals as goal

pub returns-in-Ok-clause-new : goal.returns-in-Ok-clause-new
returns-in-Ok-clause-new c =
    subst (λ names. IsTrue c.in-Ok.fresh ↔ ((place : ℕ) → ¬ (slice_get names place ≡ Some c.args.name.now))) c.self.view_is (fresh_is c.self.inside.set.keys c.args.name.now c.in-Ok.fresh c.in-Ok.ensures.added)
