use Rattle.std.proofs.Common.{refl}
use Rattle.std.proofs.lemmas.Result.{err_from_is_err_and}
use Rattle.edif_tokens.proofs.Answering.{led_refused, led_given, led_halted, led_no_memory}
use Rattle.edif_tokens.proofs.lexeme.pieced_text.Goals as goal

pub returns-in_err-begin-clause-text : goal.returns-in_err-begin-clause-text
returns-in_err-begin-clause-text g c =
    let p = err_from_is_err_and c.from_residual.result c.from_residual.ensures.1 in
    rw (p.1, p.2) (led_refused c.in_err-begin.ensures.begins)

pub returns-in_err-stop-clause-text : goal.returns-in_err-stop-clause-text
returns-in_err-stop-clause-text g c =
    let p = err_from_is_err_and c.from_residual-in_err-stop.result c.from_residual-in_err-stop.ensures.1 in
    rw (p.1, p.2) (led_halted c.in_ok-begin.ensures.begins c.in_err-stop.ensures.spans)

pub returns-in_err-text-clause-text : goal.returns-in_err-text-clause-text
returns-in_err-text-clause-text g c =
    let p = err_from_is_err_and c.from_residual-in_err-text.result c.from_residual-in_err-text.ensures.1 in
    rw (p.1, p.2) (led_no_memory c.in_ok-begin.ensures.begins c.in_ok-stop.ensures.spans)

pub returns-clause-text : goal.returns-clause-text
returns-clause-text g c = led_given c.in_ok-begin.ensures.begins c.in_ok-stop.ensures.spans c.requires.ahead.1 _ c.in_ok-text.ensures refl
