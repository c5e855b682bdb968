use Rattle.std.proofs.Common.{arith, ap, sym, ◌∙◌}
use Rattle.std.proofs.lemmas.Result.{err_from_is_err_and}
use Rattle.nl_base.specs.declared.place.Place.{Place}
use Rattle.nl_bytes.proofs.Uses.{offset_grows}
use Rattle.vlog_tokens.proofs.Parts.{steps, part_halted, part_no_memory}
use Rattle.vlog_tokens.proofs.Strings.{backslash_part, escape_ends, escape_no_byte, escape_full, escape_bad, escape_stands, coded, coded_halted, coded_over, coded_full, coded_added, coded_part, refused_add, string_seen, at_err}
use Rattle.vlog_tokens.specs.Strings.{Escape}
use Rattle.vlog_tokens.proofs.string.escape.Goals as goal

pub returns-in_err-next-clause-part : goal.returns-in_err-next-clause-part
returns-in_err-next-clause-part g c =
    let p = err_from_is_err_and c.from_residual.result c.from_residual.ensures.1 in
    let s = steps (c.requires.ahead.1) (c.advance.ensures.held) (c.advance.ensures.place) in
    rw (p.1, p.2) (part_halted (backslash_part _ _ s c.in_err-next.ensures.none_used) _ _ (λ is. c.in_err-next.ensures.too_long (ap at_err is)) (λ is. c.in_err-next.ensures.used_up (ap at_err is)) (λ n rest. string_seen Escape _ n rest))

pub returns-in_default-clause-part : goal.returns-in_default-clause-part
returns-in_default-clause-part g c =
    let s = steps (c.requires.ahead.1) (c.advance.ensures.held) (c.advance.ensures.place) in
    rw (c.refuse.ensures, c.place-here.ensures.place) (escape_ends _ _ _ s c.in_ok-next.ensures.none_used (rw c.in_default.is at c.in_ok-next.ensures.ahead))

pub returns-in_err-add-in-Stands-clause-part : goal.returns-in_err-add-in-Stands-clause-part
returns-in_err-add-in-Stands-clause-part g c =
    let p = err_from_is_err_and c.from_residual-in_err-add-in-Stands.result c.from_residual-in_err-add-in-Stands.ensures.1 in
    let s = steps (c.requires.ahead.1) (c.advance.ensures.held) (c.advance.ensures.place) in
    let u = c.in_ok-next.ensures.none_used in
    rw (p.1, p.2) (refused_add _ _ _ (rw c.place-here.ensures.place at c.in_err-add-in-Stands.ensures.refused) (part_no_memory (backslash_part _ _ s u) _)
    (λ full. escape_full _ _ _ c.in-Some.b _ s u (rw c.in-Some.is at c.in_ok-next.ensures.ahead) (sym c.escaped_by.ensures ∙ c.in-Stands.is) full))

pub returns-in_ok-add-in-Stands-clause-part : goal.returns-in_ok-add-in-Stands-clause-part
returns-in_ok-add-in-Stands-clause-part g c =
    let s = steps (c.requires.ahead.1) (c.advance.ensures.held) (c.advance.ensures.place) in
    let ahead = rw c.in-Some.is at c.in_ok-next.ensures.ahead in
    let t = steps (ahead.1) (c.advance-in-Stands.ensures.held) (c.advance-in-Stands.ensures.place) in
    escape_stands _ _ _ c.in-Some.b c.in-Stands.c s c.in_ok-next.ensures.none_used t (sym c.escaped_by.ensures ∙ c.in-Stands.is) c.in_ok-add-in-Stands.ensures.added.0 c.in_ok-add-in-Stands.ensures.added.1

pub returns-in_err-code-in-Octal-clause-part : goal.returns-in_err-code-in-Octal-clause-part
returns-in_err-code-in-Octal-clause-part g c =
    let p = err_from_is_err_and c.from_residual-in_err-code-in-Octal.result c.from_residual-in_err-code-in-Octal.ensures.1 in
    let s = steps (c.requires.ahead.1) (c.advance.ensures.held) (c.advance.ensures.place) in
    let ahead = rw c.in-Some.is at c.in_ok-next.ensures.ahead in
    let t = steps (ahead.1) (c.advance-in-Octal.ensures.held) (c.advance-in-Octal.ensures.place) in
    rw (p.1, p.2) (coded_halted (coded _ c.in-Some.b c.in-Octal.digit s c.in_ok-next.ensures.none_used t (sym c.escaped_by.ensures ∙ c.in-Octal.is) c.in_err-code-in-Octal.ensures.codes) _ _)

pub returns-in_default-code-clause-part : goal.returns-in_default-code-clause-part
returns-in_default-code-clause-part g c =
    let s = steps (c.requires.ahead.1) (c.advance.ensures.held) (c.advance.ensures.place) in
    let ahead = rw c.in-Some.is at c.in_ok-next.ensures.ahead in
    let t = steps (ahead.1) (c.advance-in-Octal.ensures.held) (c.advance-in-Octal.ensures.place) in
    rw (c.refuse-in_default-code.ensures, c.place-start.ensures.place, c.place-after.ensures.place)
    (coded_over (coded _ c.in-Some.b c.in-Octal.digit s c.in_ok-next.ensures.none_used t (sym c.escaped_by.ensures ∙ c.in-Octal.is) (rw c.in_default-code.is at c.in_ok-code-in-Octal.ensures.codes)) _ _)

pub returns-in_err-add-in-Octal-clause-part : goal.returns-in_err-add-in-Octal-clause-part
returns-in_err-add-in-Octal-clause-part g c =
    let p = err_from_is_err_and c.from_residual-in_err-add-in-Octal.result c.from_residual-in_err-add-in-Octal.ensures.1 in
    let s = steps (c.requires.ahead.1) (c.advance.ensures.held) (c.advance.ensures.place) in
    let ahead = rw c.in-Some.is at c.in_ok-next.ensures.ahead in
    let t = steps (ahead.1) (c.advance-in-Octal.ensures.held) (c.advance-in-Octal.ensures.place) in
    let k = coded _ c.in-Some.b c.in-Octal.digit s c.in_ok-next.ensures.none_used t (sym c.escaped_by.ensures ∙ c.in-Octal.is) (rw c.in-Some-code.is at c.in_ok-code-in-Octal.ensures.codes) in
    rw (p.1, p.2) (refused_add _ _ _ (rw c.place-after.ensures.place at c.in_err-add-in-Octal.ensures.refused) (part_no_memory (coded_part k _) _) (λ full. coded_full k _ _ full))

pub returns-in_ok-add-in-Octal-clause-part : goal.returns-in_ok-add-in-Octal-clause-part
returns-in_ok-add-in-Octal-clause-part g c =
    let s = steps (c.requires.ahead.1) (c.advance.ensures.held) (c.advance.ensures.place) in
    let ahead = rw c.in-Some.is at c.in_ok-next.ensures.ahead in
    let t = steps (ahead.1) (c.advance-in-Octal.ensures.held) (c.advance-in-Octal.ensures.place) in
    let k = coded _ c.in-Some.b c.in-Octal.digit s c.in_ok-next.ensures.none_used t (sym c.escaped_by.ensures ∙ c.in-Octal.is) (rw c.in-Some-code.is at c.in_ok-code-in-Octal.ensures.codes) in
    coded_added k _ _ c.in_ok-add-in-Octal.ensures.added.0 c.in_ok-add-in-Octal.ensures.added.1

pub returns-in_ok-add-in-Octal-clause-moved : goal.returns-in_ok-add-in-Octal-clause-moved
returns-in_ok-add-in-Octal-clause-moved g c =
    omega (arith, ap (λ (q : Place). q.offset) c.advance.ensures.place, offset_grows c.in_ok-next.ensures.none_used, ap (λ (q : Place). q.offset) c.advance-in-Octal.ensures.place, offset_grows c.in_ok-code-in-Octal.ensures.codes.uses)

pub returns-in-NoEscape-clause-part : goal.returns-in-NoEscape-clause-part
returns-in-NoEscape-clause-part g c =
    let s = steps (c.requires.ahead.1) (c.advance.ensures.held) (c.advance.ensures.place) in
    rw (c.refuse-in-NoEscape.ensures, c.place-start.ensures.place, c.place-here.ensures.place)
    (escape_bad _ _ _ c.in-Some.b s c.in_ok-next.ensures.none_used (rw c.in-Some.is at c.in_ok-next.ensures.ahead) (sym c.escaped_by.ensures ∙ c.in-NoEscape.is))

pub returns-in-NoByte-clause-part : goal.returns-in-NoByte-clause-part
returns-in-NoByte-clause-part g c =
    let s = steps (c.requires.ahead.1) (c.advance.ensures.held) (c.advance.ensures.place) in
    rw (c.refuse-in-NoByte.ensures, c.place-here.ensures.place)
    (escape_no_byte _ _ _ c.in-Some.b s c.in_ok-next.ensures.none_used (rw c.in-Some.is at c.in_ok-next.ensures.ahead) (sym c.escaped_by.ensures ∙ c.in-NoByte.is))
