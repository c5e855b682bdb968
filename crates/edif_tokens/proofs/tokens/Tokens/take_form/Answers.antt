use Rattle.edif_tokens.proofs.HeldForms.{form_taken, form_within}
use Rattle.edif_tokens.proofs.tokens.Tokens.take_form.Goals as goal

pub returns-clause-reads : goal.returns-clause-reads
returns-clause-reads c = λ unspent i. rw c.pass_form.ensures (form_taken _ _ _ c.self.view_is c.place-here.ensures.held c.args.at c.requires.form c.requires.some unspent i)

pub returns-clause-limit : goal.returns-clause-limit
returns-clause-limit c = rw c.pass_form.ensures (form_within _ _ _ c.self.view_is c.args.at c.requires.form c.requires.some)
