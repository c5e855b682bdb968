use Rattle.std.proofs.Common.{sym, subst, ◌<◌, ◌^◌}
use Rattle.std.specs.Prelude.{IfSome, nat_abs}
use Rattle.edif_tokens.proofs.Proper.{integer_small}
use Rattle.edif_tokens.proofs.lexeme.number_found.Goals as goal

pub returns-in-Some-clause-proper : goal.returns-in-Some-clause-proper
returns-in-Some-clause-proper c = subst (λ n. IfSome n (λ z. nat_abs z < 2 ^ 63)) (sym c.in-Some.ensures) (integer_small c.args.digits.now)
