-- Where the reading of a part needs one more token.
use Rattle.std.proofs.Common.{◌≡◌, List, ◌++◌, Ok, Err, refl}
use Rattle.grammar.specs.Part.{Part}
use Rattle.grammar.specs.Texts.{Spells, Begins}
use Rattle.grammar.specs.Reading.{refused, ended, Found, read}
use Rattle.grammar.specs.Clear.{IsLive, IsClear}
use Rattle.grammar.proofs.Exact.{fault_from_read, fault_or_begins, text_from_read, begins_from_read}

module _ {K X R A : Type 0} (κ : K) (p : Part K X R A) (live : IsLive κ p) (last : X) (clear : IsClear κ p (λ _ x. x ≡ last)) where
  by_reading : (ts : List X) (r : Found X R A) → read κ p ts ≡ r → Begins κ p ts → ((text rest : List X) (v : A) → ts ≡ text ++ rest → ¬ Spells κ p text v) → read κ p ts ≡ Err ended
  by_reading ts (Ok x) is h none = let t = text_from_read κ p live last clear ts x.1 x.0 is in absurd (none t.text x.1 x.0 t.place t.is_text)
  by_reading ts (Err (refused x r)) is h none = absurd (fault_or_begins κ p live last clear ts x r (fault_from_read κ p live last clear ts x r is) h)
  by_reading ts (Err ended) is h none = is

  -- tokens that begin a text, of which no front is a text, are read to their end, and one more is needed
  pub is_open : (ts : List X) → Begins κ p ts → ((text rest : List X) (v : A) → ts ≡ text ++ rest → ¬ Spells κ p text v) → read κ p ts ≡ Err ended
  is_open ts h none = by_reading ts (read κ p ts) refl h none

  -- tokens of which one more is needed begin a text
  pub open_begins : (ts : List X) → read κ p ts ≡ Err ended → Begins κ p ts
  open_begins ts e = begins_from_read κ p live last clear ts e
