use Rattle.std.proofs.Common.{◌∙◌, Some, refl, sym, ap}
use Rattle.vlog_tokens.specs.declared.plain.Plain.TheVariants as plains
use Rattle.vlog_exprs.specs.Reasons.{group_end_of}
use Rattle.vlog_exprs.proofs.HeldPlains.{plain_says}
use Rattle.vlog_exprs.proofs.attr.take_group_end.Goals as goal

pub returns-in-AttrStop : goal.returns-in-AttrStop
returns-in-AttrStop g c =
    plain_says c.args.cursor.now c.take_plain.new.self plains.AttrStop (sym c.in-Some.ensures.plain ∙ ap Some c.in-AttrStop.is) c.held_plain.ensures.held _ group_end_of tt refl c.take_plain.ensures
