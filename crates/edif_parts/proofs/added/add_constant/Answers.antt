use Rattle.std.proofs.Common.{sym, ◌∙◌}
use Rattle.edif_parts.proofs.added.add_constant.Goals as goal

pub returns-clause-first : goal.returns-clause-first
returns-clause-first c = λ names same are. c.in_ok-add_instance.ensures.first names (same ∙ sym c.bytes.ensures) are
