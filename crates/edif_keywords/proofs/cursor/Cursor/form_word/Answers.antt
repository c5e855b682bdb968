use Rattle.edif_keywords.proofs.HeldForms.{inside_form}
use Rattle.edif_keywords.proofs.cursor.Cursor.form_word.Goals as goal

pub form_word-requires-clause-form : goal.form_word-requires-clause-form
form_word-requires-clause-form c = let l = inside_form _ _ _ _ _ c.self.view_is _ c.requires.form c.requires.some in l.0
