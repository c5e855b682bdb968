use Rattle.std.proofs.Common.{refl, sym, ◌∙◌}
use Rattle.vlog_design.specs.Numbers.{HasNumbers}
use Rattle.vlog_design.proofs.ExprLemmas.{bits-Ref}
use Rattle.vlog_design.proofs.JoinLaws.{nothing_met}
use Rattle.vlog_design.proofs.Parts.{all_found}
use Rattle.vlog_design.proofs.node_joins.push_part_joins.Goals as goal

pub push_selected_joins-requires : goal.push_selected_joins-requires
push_selected_joins-requires c = all_found HasNumbers _ _ _ c.requires.numbers (sym c.find_near.ensures ∙ c.in-Some.is)

pub returns-in-None-clause-added : goal.returns-in-None-clause-added
returns-in-None-clause-added c = rw (c.in-Ref.is, bits-Ref, ← c.bytes.ensures, ← c.find_near.ensures, c.in-None.is) (nothing_met _ _ _ refl)

pub returns-in-None-clause-left : goal.returns-in-None-clause-left
returns-in-None-clause-left c = rw (c.in-Ref.is, bits-Ref, ← c.bytes.ensures, ← c.find_near.ensures, c.in-None.is) refl

pub returns-in-Some-clause-added : goal.returns-in-Some-clause-added
returns-in-Some-clause-added c = rw (c.in-Ref.is, bits-Ref, ← c.bytes.ensures, ← c.find_near.ensures, c.in-Some.is) c.push_selected_joins.ensures.added

pub returns-in-Some-clause-left : goal.returns-in-Some-clause-left
returns-in-Some-clause-left c = rw (c.in-Ref.is, bits-Ref, ← c.bytes.ensures, ← c.find_near.ensures, c.in-Some.is) c.push_selected_joins.ensures.left
