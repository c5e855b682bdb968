use Rattle.std.proofs.Common.{[], ◌∷◌, take, get_or, ap, ◌∙◌, sym, arith}
use Rattle.std.proofs.lemmas.List.{take_more}
use Rattle.nl_base.specs.declared.place.Place.{Place}
use Rattle.nl_base.specs.Place.{place_after, place_past}
use Rattle.nl_base.proofs.Places.{place_past-append}
use Rattle.nl_base.proofs.place.Place.past.Goals as goal

pub loop-byte-preserved : goal.loop-byte-preserved
loop-byte-preserved c =
    let xs = c.args.bytes.now in
    let i = c.loop-byte.byte-index in
    record {
      place = c.after-place.ensures ∙ ap (λ (p : Place). place_after p (get_or xs i 0)) c.loop-byte.invariant.place ∙ sym (place_past-append c.args.self.now (take i xs) (get_or xs i 0 ∷ [])) ∙ ap (place_past c.args.self.now) (sym (take_more xs i 0 c.loop-byte-test.true));
      offset = grind (arith, c.after-place.ensures);
      line = grind (arith, c.after-place.ensures);
      column = grind (arith, c.after-place.ensures);
    }
