use Rattle.std.proofs.Common.{refl}
use Rattle.std.proofs.lemmas.Result.{err_from_is_err_and}
use Rattle.vlog_tokens.proofs.Parts.{Steps}
use Rattle.vlog_tokens.proofs.Strings.{string_refused, string_no_memory, string_given}
use Rattle.vlog_tokens.proofs.string.string.Goals as goal

pub returns-in_err-parts-clause-reads : goal.returns-in_err-parts-clause-reads
returns-in_err-parts-clause-reads g c =
    let p = err_from_is_err_and c.from_residual.result c.from_residual.ensures.1 in
    let quote : Steps c.args.bytes.now c.advance.new.self c.requires.ahead.0 = record { tail = c.requires.ahead.1; ahead = c.requires.ahead.2; held = c.advance.ensures.held; place = c.advance.ensures.place } in
    rw (p.1, p.2) (string_refused _ _ quote c.new-value.ensures.items c.place-place.ensures.place c.in_err-parts.ensures.part)

pub returns-in_err-text-clause-reads : goal.returns-in_err-text-clause-reads
returns-in_err-text-clause-reads g c =
    let p = err_from_is_err_and c.from_residual-in_err-text.result c.from_residual-in_err-text.ensures.1 in
    let quote : Steps c.args.bytes.now c.advance.new.self c.requires.ahead.0 = record { tail = c.requires.ahead.1; ahead = c.requires.ahead.2; held = c.advance.ensures.held; place = c.advance.ensures.place } in
    let closing : Steps c.parts.new.bytes c.advance-2.new.self 34 = record { tail = c.in_ok-parts.ensures.quote.0; ahead = c.in_ok-parts.ensures.quote.1; held = c.advance-2.ensures.held; place = c.advance-2.ensures.place } in
    rw (p.1, p.2) (string_no_memory quote c.in_ok-parts.ensures.part.uses closing)

pub returns-clause-reads : goal.returns-clause-reads
returns-clause-reads g c =
    let quote : Steps c.args.bytes.now c.advance.new.self c.requires.ahead.0 = record { tail = c.requires.ahead.1; ahead = c.requires.ahead.2; held = c.advance.ensures.held; place = c.advance.ensures.place } in
    let closing : Steps c.parts.new.bytes c.advance-2.new.self 34 = record { tail = c.in_ok-parts.ensures.quote.0; ahead = c.in_ok-parts.ensures.quote.1; held = c.advance-2.ensures.held; place = c.advance-2.ensures.place } in
    string_given _ quote c.new-value.ensures.items c.place-place.ensures.place c.in_ok-parts.ensures.part closing _ (rw (c.str_token.ensures.token, c.place-here.ensures.place, c.in_ok-text.ensures) refl)
