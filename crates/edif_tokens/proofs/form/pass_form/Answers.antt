use Rattle.std.proofs.Common.{◌∙◌, sym, ap, length}
use Rattle.nl_bytes.specs.Bytes.{Window}
use Rattle.edif_tokens.specs.Held.{space_length, held_word, past_word}
use Rattle.edif_tokens.proofs.HeldForms.{form_held}
use Rattle.edif_tokens.proofs.form.pass_form.Goals as goal

pub pass_mark_behind-requires-clause-mark : goal.pass_mark_behind-requires-clause-mark
pass_mark_behind-requires-clause-mark c = let h = form_held c.args.bytes.now c.args.at c.requires.form c.requires.some in (40, h.mark)

pub pass_mark_behind-requires-clause-space : goal.pass_mark_behind-requires-clause-space
pass_mark_behind-requires-clause-space c = (form_held c.args.bytes.now c.args.at c.requires.form c.requires.some).space

pub pass_word_behind-requires-clause-word : goal.pass_word_behind-requires-clause-word
pass_word_behind-requires-clause-word c =
    let h = form_held c.args.bytes.now c.args.at c.requires.form c.requires.some in
    h.count ∙ ap (λ (w : Window). length (held_word w)) (sym c.pass_mark_behind.ensures)

pub pass_word_behind-requires-clause-space : goal.pass_word_behind-requires-clause-space
pass_word_behind-requires-clause-space c =
    let h = form_held c.args.bytes.now c.args.at c.requires.form c.requires.some in
    h.inner ∙ ap (λ (w : Window). space_length w.held) (sym c.pass_mark_behind.ensures)

pub returns : goal.returns
returns c = c.pass_word_behind.ensures ∙ ap (λ (w : Window). past_word w) c.pass_mark_behind.ensures
