use Rattle.std.proofs.Common.{sym}
use Rattle.edif_keywords.proofs.ShownForms.{shown_form, begin_shown, shown_is}
use Rattle.edif_keywords.proofs.cursor.Cursor.begin.Goals as goal

pub take_form-requires-clause-some : goal.take_form-requires-clause-some
take_form-requires-clause-some g c = (shown_form c.args.self.now c.in-Some.open _ _ c.args.allowed.now _ (sym c.in-Some.ensures.at) c.opened.ensures c.in-Some-find_shown.ensures c.spelling.ensures.spelled).some

pub take_form-requires-clause-form : goal.take_form-requires-clause-form
take_form-requires-clause-form g c = (shown_form c.args.self.now c.in-Some.open _ _ c.args.allowed.now _ (sym c.in-Some.ensures.at) c.opened.ensures c.in-Some-find_shown.ensures c.spelling.ensures.spelled).is

pub returns-in-Some-find_shown-clause-reads : goal.returns-in-Some-find_shown-clause-reads
returns-in-Some-find_shown-clause-reads g c = begin_shown c.args.self.now c.take_form.new.self c.in-Some.open _ c.args.allowed.now _ (sym c.in-Some.ensures.at) c.opened.ensures c.in-Some-find_shown.ensures c.open_at.ensures.held _ c.take_form.ensures

pub returns-in-Some-find_shown-clause-allowed : goal.returns-in-Some-find_shown-clause-allowed
returns-in-Some-find_shown-clause-allowed g c = shown_is _ c.args.allowed.now _ c.in-Some-find_shown.ensures
