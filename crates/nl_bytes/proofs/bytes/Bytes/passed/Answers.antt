use Rattle.std.proofs.Common.{◌≡◌, List, ℕ, ap, ◌∙◌, sym, take, length, subst, arith, length-take}
use Rattle.nl_base.specs.declared.place.Place.{Place}
use Rattle.nl_base.specs.Place.{place_past}
use Rattle.nl_base.proofs.Places.{Near, place_past-near}
use Rattle.nl_bytes.proofs.bytes.Bytes.passed.Goals as goal

pub returns : goal.returns
returns c =
    let p = c.args.self.now.place in
    let xs = take c.args.count c.args.self.now.held in
    let is : c.past.result ≡ place_past p xs = c.past.ensures ∙ ap (λ (q : Place). place_past q c.split_at.result.0.now) c.place.ensures.place ∙ ap (place_past p) (c.split_at.ensures.front ∙ ap (λ (ys : List ℕ). take c.args.count ys) c.held.ensures) in
    let near : Near p c.past.result (length xs) = subst (λ (q : Place). Near p q (length xs)) (sym is) (place_past-near p xs) in
    let len : length xs ≡ c.args.count = omega (arith, length-take c.args.count c.args.self.now.held, c.requires.held) in
    record {
      place = is;
      offset = omega (arith, near.offset, len);
      line = omega (arith, near.offset, near.line, c.place.ensures.line);
      column = omega (arith, near.offset, near.column, c.place.ensures.column.1);
      some = near.some c.place.ensures.column.0;
    }
