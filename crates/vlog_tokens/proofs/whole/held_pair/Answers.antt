use Rattle.std.proofs.Common.{List, ℕ, ap, length, arith}
use Rattle.vlog_tokens.proofs.Held.{paired, pair_found}
use Rattle.vlog_tokens.proofs.whole.held_pair.Goals as goal

pub pass-requires-clause-held : goal.pass-requires-clause-held
pass-requires-clause-held c = let w = paired _ _ _ c.requires.ahead.1 c.requires.pair in omega (arith, ap (λ (xs : List ℕ). length xs) w.front)

pub pass-requires-clause-each : goal.pass-requires-clause-each
pass-requires-clause-each c = let w = paired _ _ _ c.requires.ahead.1 c.requires.pair in rw w.front w.each

pub returns-clause-finds : goal.returns-clause-finds
returns-clause-finds c = λ left. pair_found left _ c.requires.ahead.1 c.requires.near c.requires.pair c.pass.ensures.held c.pass.ensures.place _ c.place-place.ensures.place _ c.pair_token.ensures
