use Rattle.std.proofs.Common.{ℕ, List, ◌∙◌, ◌+◌, ap, take, length-take, arith}
use Rattle.nl_base.specs.declared.place.Place.{Place}
use Rattle.nl_base.proofs.Places.{place_past-offset}
use Rattle.edif_tokens.proofs.Held.{number_whole, whole_each, number_bounded, number_ended}
use Rattle.edif_tokens.specs.Spelling.{integer_of}
use Rattle.edif_tokens.proofs.whole.held_number.Goals as goal

pub pass-requires-clause-each : goal.pass-requires-clause-each
pass-requires-clause-each g c = whole_each c.requires.whole

pub returns-clause-reads : goal.returns-clause-reads
returns-clause-reads g c =
    let front = c.split_at.ensures.front ∙ ap (λ (xs : List ℕ). take c.args.count xs) c.held.ensures in
    rw (c.number_found-found.ensures.found, c.place-place.ensures.place, front) (number_whole _ c.requires.whole c.requires.some c.pass.ensures.held c.pass.ensures.place)

pub returns-clause-bounded : goal.returns-clause-bounded
returns-clause-bounded g c =
    let moved = ap (λ (q : Place). q.offset) c.pass.ensures.place ∙ place_past-offset c.args.bytes.now.place (take c.args.count c.args.bytes.now.held) in
    rw c.number_found-found.ensures.found (number_bounded c.place-place.result (c.place-place.result.offset + c.args.count + 1) c.pass.new.self.place.offset (integer_of c.split_at.result.0.now) (omega (arith, moved, length-take c.args.count c.args.bytes.now.held, ap (λ (q : Place). q.offset) c.place-place.ensures.place)))

pub returns-clause-ended : goal.returns-clause-ended
returns-clause-ended g c =
    let moved = ap (λ (q : Place). q.offset) c.pass.ensures.place ∙ place_past-offset c.args.bytes.now.place (take c.args.count c.args.bytes.now.held) in
    rw c.number_found-found.ensures.found (number_ended c.place-place.result (c.place-place.result.offset + c.args.count + 1) c.pass.new.self.place.offset (integer_of c.split_at.result.0.now) (omega (arith, moved, length-take c.args.count c.args.bytes.now.held, ap (λ (q : Place). q.offset) c.place-place.ensures.place)))
