use Rattle.std.proofs.Common.{◌≡◌, ℕ, List, length, subst, arith}
use Rattle.std.proofs.lemmas.Bool.Decides.{nat_tests}
use Rattle.nl_output.specs.Writing.{state, ToCome}
use Rattle.edif_writer.proofs.Escapes.{string_end}
use Rattle.edif_writer.proofs.string.write_runs.Goals as goal

pub returns : goal.returns
returns g c b rest s =
    let none : length c.loop-rest.rest.now ≡ 0 = grind (arith, nat_tests, c.is_empty.ensures, c.loop-rest-test.false) in
    subst (λ (z : List ℕ). ToCome b (state g.O.Sink.receipt c.loop-rest.sink c.loop-rest.output) z)
    (string_end c.loop-rest.rest.now rest none) (c.loop-rest.invariant b rest s)
