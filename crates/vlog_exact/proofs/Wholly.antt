-- A production that is live, and clear where what may follow it does, is read wholly.
use Rattle.std.proofs.Common.{◌≡◌, List, [], ◌∷◌, ◌++◌, Ok, Err, refl, sym, ap, subst, ◌∙◌, append_assoc, append-nil}
use Rattle.grammar.specs.Clear.{IsClear, IsLive}
use Rattle.grammar.specs.Faults.{GoesOnInto}
use Rattle.grammar.specs.Part.{Part}
use Rattle.grammar.specs.Reading.{refused, ended, Found, read}
use Rattle.grammar.specs.Texts.{Spells, Begins}
use Rattle.grammar.specs.Whole.{Terminal, end}
use Rattle.grammar.proofs.Exact.{ok_or_err, text_from_read, fault_from_read, fault_or_begins}
use Rattle.grammar.proofs.Follow.{clear_fewer}
use Rattle.grammar.proofs.Parts.{exact}
use Rattle.grammar_laws.proofs.Opening.{is_open, open_begins}
use Rattle.nl_base.specs.Place.{place_at_start}
use Rattle.nl_base.specs.declared.place.Place.{Place}
use Rattle.vlog_tokens.specs.declared.token.VFound.{VFound}
use Rattle.vlog_exprs.specs.Language.{Vlog}
use Rattle.vlog_exprs.proofs.Live.{Lives}
use Rattle.vlog_exact.specs.Open.{NeedsMore, IsReadWholly}

module _ {K X R A : Type 0} (k : K) (p : Part K X R A) (Follows : X → Type 0) (live : IsLive k p) (clear : IsClear k p (λ _ x. Follows x)) (last : X) (at_last : Follows last) where
  clear_last : IsClear k p (λ _ x. x ≡ last)
  clear_last = clear_fewer k p (λ _ x. x ≡ last) (λ _ x. Follows x) (λ v x e. subst Follows (sym e) at_last) clear

  not_text : (text rest : List X) (next : X) (v : A) → Follows next → read k p (text ++ next ∷ rest) ≡ Err ended → Spells k p text v → ⊥
  not_text text rest next v f e h = ok_or_err (read k p (text ++ next ∷ rest)) (v, next ∷ rest) ended ((exact k p Follows live clear last at_last).is_read text rest next v h f) e

  -- a front of a text goes on into what is left of it
  onward : (text front rest : List X) (v : A) → text ≡ front ++ rest → Spells k p text v → GoesOnInto k p text [] → GoesOnInto k p front rest
  onward text front [] v e h g = subst (λ (z : List X). GoesOnInto k p z []) (e ∙ append-nil front) g
  onward text front (x ∷ rest) v e h g = (rest, v, subst (λ (z : List X). Spells k p z v) (e ∙ sym (append_assoc front (x ∷ []) rest)) h)

  by_reading : (text : List X) (v : A) (r : Found X R A) → read k p text ≡ r → Spells k p text v → GoesOnInto k p text [] → read k p text ≡ Err ended
  by_reading text v (Ok x) e h g = let t = text_from_read k p live last clear_last text x.1 x.0 e in absurd (t.stops (onward text t.text x.1 v t.place h g))
  by_reading text v (Err (refused x r)) e h g =
      absurd (fault_or_begins k p live last clear_last text x r (fault_from_read k p live last clear_last text x r e) ([], v, subst (λ (z : List X). Spells k p z v) (sym (append-nil text)) h))
  by_reading text v (Err ended) e h g = e

  pub needs_more : NeedsMore k p Follows
  needs_more = record {
    begins = open_begins k p live last clear_last;
    no_text = not_text;
    is_open = is_open k p live last clear_last;
    goes_on = λ text v h g. by_reading text v (read k p text) refl h g;
  }

pub more : {A : Type 0} (p : Vlog A) (Follows : Terminal VFound Place → Type 0) → Lives p → IsClear tt p (λ _ x. Follows x) → Follows (end place_at_start) → NeedsMore tt p Follows
more p Follows live clear at_end = needs_more tt p Follows live clear (end place_at_start) at_end

pub wholly : {A : Type 0} (p : Vlog A) (Follows : Terminal VFound Place → Type 0) → Lives p → IsClear tt p (λ _ x. Follows x) → Follows (end place_at_start) → IsReadWholly p Follows
wholly p Follows live clear at_end = (exact tt p Follows live clear (end place_at_start) at_end, more p Follows live clear at_end)
