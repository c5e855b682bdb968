use Rattle.std.proofs.Common.{[], ap, sym, ◌∙◌}
use Rattle.nl_io.specs.Memory.{Room}
use Rattle.vectors_line.proofs.texts.text_of.Goals as goal

pub returns : goal.returns
returns c =
    c.in_ok-text-in-Ok.ensures.items ∙ (c.taken.ensures ∙ sym (c.in-Ok.ensures.all [] (sym (ap (λ (s : Room). s.taken) c.new-sink.ensures))))
