use Rattle.std.proofs.Common.{◌∙◌, Some, refl, sym, ap}
use Rattle.vlog_tokens.specs.declared.plain.Plain.TheVariants as plains
use Rattle.vlog_tokens.specs.Plains.{plain_token}
use Rattle.vlog_exprs.specs.declared.start.ConstStart.TheVariants as starts
use Rattle.vlog_exprs.specs.Reasons.{const_start}
use Rattle.vlog_exprs.proofs.HeldPlains.{plain_says}
use Rattle.vlog_exprs.proofs.Known.{const_start_is}
use Rattle.vlog_exprs.proofs.constant.take_const_start.Goals as goal

pub returns-in-Number-clause-reads : goal.returns-in-Number-clause-reads
returns-in-Number-clause-reads g c =
    plain_says c.args.cursor.now c.take_plain.new.self (plains.Number c.in-Number.number) (sym c.in-Some.ensures.plain ∙ ap Some c.in-Number.is) c.held_plain.ensures.held _ const_start (starts.Number c.in-Number.number) refl c.take_plain.ensures

pub returns-in-Number-clause-value : goal.returns-in-Number-clause-value
returns-in-Number-clause-value g c = const_start_is (plain_token (plains.Number c.in-Number.number)) (rw c.in-Number.is at c.in-Some.ensures.proper) (starts.Number c.in-Number.number) refl
