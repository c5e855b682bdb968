use Rattle.std.proofs.Common.{◌∙◌, Some, Ok, ℤ, SFits, w32, sym, ap, subst, rules}
use Rattle.std.proofs.Math.Facts.{to_z-of_z}
use Rattle.readers.specs.Readers.{Reads, same}
use Rattle.vlog_tokens.specs.Language.{vlog}
use Rattle.vlog_exprs.specs.Grammar.{bound}
use Rattle.vlog_exprs.proofs.HeldPlains.{number_bound}
use Rattle.vlog_exprs.proofs.bound.read_bound.Goals as goal

pub returns-in-Some-bound_in-clause-reads : goal.returns-in-Some-bound_in-clause-reads
returns-in-Some-bound_in-clause-reads g c =
    let supply = g.S.Source.supply c.args.source.now in
    let number = c.in-Some-bound_in.bound in
    let fits : SFits w32 number = search rules in
    let reads = number_bound c.args.cursor.now c.take_plain.new.self c.in-Number.number number (sym c.in-Some.ensures.plain ∙ ap Some c.in-Number.is) c.held_plain.ensures.held supply c.in-Some-bound_in.ensures.bound c.take_plain.ensures in
    subst (λ (n : ℤ). Reads vlog same bound (Ok n) c.args.cursor.now c.take_plain.new.self supply supply) (sym (to_z-of_z fits)) reads
