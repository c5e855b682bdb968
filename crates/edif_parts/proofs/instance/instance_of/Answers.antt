use Rattle.edif_parts.proofs.InstanceLaws.{summary_read, ident_read, no_spare_text}
use Rattle.edif_parts.proofs.instance.instance_of.Goals as goal

pub returns-clause-ident : goal.returns-clause-ident
returns-clause-ident c = ident_read _ _ _ _ _ c.in_ok-made.ensures.made

pub returns-clause-summary : goal.returns-clause-summary
returns-clause-summary c = summary_read _ _ _ _ _ c.in_ok-made.ensures.made

pub returns-clause-no_spare_text : goal.returns-clause-no_spare_text
returns-clause-no_spare_text c = no_spare_text _ _ _ _ _ c.in_ok-made.ensures.made
