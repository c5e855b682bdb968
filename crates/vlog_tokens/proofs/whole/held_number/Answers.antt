use Rattle.std.proofs.Common.{◌≡◌, List, ℕ, ◌∙◌, ap, take, length, arith}
use Rattle.vlog_tokens.specs.Numbers.{number_of}
use Rattle.vlog_tokens.proofs.Held.{numbered, number_finds, number_bounded}
use Rattle.vlog_tokens.proofs.Proper.{number_proper}
use Rattle.vlog_tokens.proofs.whole.held_number.Goals as goal

pub split_at-requires : goal.split_at-requires
split_at-requires c = let w = numbered _ _ c.requires.whole c.requires.some in omega (arith, w.more, ap (λ (xs : List ℕ). length xs) c.held.ensures)

pub pass-requires-clause-each : goal.pass-requires-clause-each
pass-requires-clause-each c = (numbered _ _ c.requires.whole c.requires.some).each

pub returns-clause-finds : goal.returns-clause-finds
returns-clause-finds c =
    let digits : c.split_at.result.0.now ≡ take c.args.count c.args.bytes.now.held = c.split_at.ensures.front ∙ ap (λ (xs : List ℕ). take c.args.count xs) c.held.ensures in
    λ left. rw c.number_found-found.ensures (number_finds left _ c.requires.ahead.1 c.requires.begins c.requires.near c.place-place.ensures.held c.requires.some c.requires.whole c.pass.ensures.held c.pass.ensures.place _ c.place-place.ensures.place _ digits)

pub returns-clause-bounded : goal.returns-clause-bounded
returns-clause-bounded c =
    let w = numbered _ _ c.requires.whole c.requires.some in
    rw c.number_found-found.ensures (number_bounded c.args.bytes.now c.pass.new.self {n = c.args.count} (omega (arith, w.more)) c.pass.ensures.place _ c.place-place.ensures.place (number_of c.split_at.result.0.now))

pub returns-clause-proper : goal.returns-clause-proper
returns-clause-proper c = rw c.number_found-found.ensures (number_proper _ _ c.split_at.result.0.now)
