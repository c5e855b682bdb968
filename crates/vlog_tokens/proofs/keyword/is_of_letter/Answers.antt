use Rattle.std.proofs.Common.{arith, ◌∙◌}
use Rattle.vlog_tokens.proofs.Keywords.{like_first, first_within, by_table, end_most}
use Rattle.vlog_tokens.proofs.keyword.is_of_letter.Goals as goal

pub bounds-name-0 : goal.bounds-name-0
bounds-name-0 c = (like_first c.args.name.now 0 c.requires).0

pub overflow_sub-name : goal.overflow_sub-name
overflow_sub-name c = (first_within c.args.name.now 0 c.requires).0

pub start_at-requires : goal.start_at-requires
start_at-requires c = omega (arith, c.from-letter.ensures, (first_within c.args.name.now 0 c.requires).1)

pub start_at-requires-2 : goal.start_at-requires-2
start_at-requires-2 c = omega (arith, c.from-letter.ensures, (first_within c.args.name.now 0 c.requires).1)

pub is_among-requires : goal.is_among-requires
is_among-requires c = record { within = end_most c.args.name.now 0 _ _ c.requires c.from-letter.ensures c.start_at-2.ensures; shape = c.shape_of.ensures }

pub returns : goal.returns
returns c = c.is_among.ensures ∙ by_table c.args.name.now 0 _ _ _ c.requires c.from-letter.ensures c.start_at.ensures c.start_at-2.ensures
