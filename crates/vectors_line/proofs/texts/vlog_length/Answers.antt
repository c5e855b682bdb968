use Rattle.std.proofs.Common.{[], ◌∙◌}
use Rattle.vectors_line.proofs.texts.vlog_length.Goals as goal

pub returns : goal.returns
returns c = c.total.ensures ∙ c.in-Ok.ensures.all [] c.new-sink.ensures
