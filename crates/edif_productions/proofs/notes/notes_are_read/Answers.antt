use Rattle.edif_productions.proofs.NoteTexts.{user_forms, all_notes, written_forms, status_forms}
use Rattle.edif_productions.proofs.notes.notes_are_read.Goals as goal

pub returns-clause-user_data : goal.returns-clause-user_data
returns-clause-user_data c = user_forms

pub returns-clause-note : goal.returns-clause-note
returns-clause-note c = all_notes

pub returns-clause-written : goal.returns-clause-written
returns-clause-written c = written_forms

pub returns-clause-status : goal.returns-clause-status
returns-clause-status c = status_forms
