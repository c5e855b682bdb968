use Rattle.std.proofs.Common.{◌∙◌, sym, ap}
use Rattle.edif_values.specs.Keywords.{allowed_keyword}
use Rattle.edif_keywords.proofs.Allowed.{allowed_is}
use Rattle.edif_keywords.proofs.HeldForms.{begin_held}
use Rattle.edif_keywords.proofs.cursor.Cursor.begin_up_to_case.Goals as goal

pub returns-in-Some-clause-reads : goal.returns-in-Some-clause-reads
returns-in-Some-clause-reads g c =
    begin_held c.args.self.now c.take_form.new.self _ c.args.allowed.now c.in-Some.keyword c.form_at-at.ensures.at c.if-at-gt0.true c.form_at-at.ensures.held _
    (ap (allowed_keyword c.args.allowed.now) (sym c.form_word-word.ensures) ∙ sym c.in-Some.ensures) c.take_form.ensures

pub returns-in-Some-clause-allowed : goal.returns-in-Some-clause-allowed
returns-in-Some-clause-allowed g c = allowed_is c.args.allowed.now _ c.in-Some.keyword (sym c.in-Some.ensures)
