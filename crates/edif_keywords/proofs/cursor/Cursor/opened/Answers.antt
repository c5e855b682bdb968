use Rattle.edif_keywords.proofs.ShownForms.{inside_open}
use Rattle.edif_keywords.proofs.cursor.Cursor.opened.Goals as goal

pub opened-requires : goal.opened-requires
opened-requires c = inside_open _ _ _ _ _ c.self.view_is _ c.requires
