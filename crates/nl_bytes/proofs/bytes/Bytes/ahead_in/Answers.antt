use Rattle.std.proofs.Common.{List, length, ℕ, ap, ◌∙◌, take, arith}
use Rattle.nl_base.specs.declared.place.Place.{Place}
use Rattle.nl_bytes.proofs.Fronts.{Found, front-found}
use Rattle.nl_bytes.proofs.bytes.Bytes.ahead_in.Goals as goal

pub returns : goal.returns
returns c =
    let found : Found c.args.class c.args.self.now.held c.min-2.result c.front.result = front-found _ _ _ _ _ (c.split_at.ensures.front ∙ ap (take c.min-2.result) c.held-held.ensures) c.front.ensures in
    let offset = ap (λ (p : Place). p.offset) c.place.ensures.place in
    let len = ap (λ (xs : List ℕ). length xs) c.held-held.ensures in
    record {
      held = found.enough;
      most = omega (arith, found.most, c.min.ensures, c.min-2.ensures);
      within = omega (arith, found.most, c.min.ensures, c.min-2.ensures, offset);
      each = found.each;
      stops = λ zero some. found.stops zero (omega (arith, c.min.ensures, c.min-2.ensures, offset, len)) c.requires.held;
    }
