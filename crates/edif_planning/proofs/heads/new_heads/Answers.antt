use Rattle.edif_planning.proofs.HeadLaws.{no_heads}
use Rattle.edif_planning.proofs.heads.new_heads.Goals as goal

pub loop-value-init : goal.loop-value-init
loop-value-init c = no_heads c.new.result c.new-2.result.items c.new.ensures c.new-2.ensures.items
