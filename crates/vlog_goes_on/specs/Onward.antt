-- Texts that go on from a front of the tokens of some bytes (IEEE 1364-2005, 3 and A.1.2).
use Rattle.std.specs.Prelude.{◌≡◌, ◌≤◌, ℕ, List, [], ◌∷◌, ◌++◌, map, length}
use Rattle.grammar.specs.Whole.{Terminal, proper, end, Finish, Done, Bad, Over}
use Rattle.grammar_alike.specs.Alike.{AreAlike}
use Rattle.nl_base.specs.declared.fault.TextFault.{TextFault}
use Rattle.nl_base.specs.declared.place.Place.{Place}
use Rattle.nl_bytes.specs.declared.bytes.TheConstants.{LIMIT}
use Rattle.vlog_tokens.specs.declared.token.VFound.{VFound}
use Rattle.vlog_tokens.specs.Language.{all_tokens}
use Rattle.vlog_tokens.specs.Proper.{AreBytes}
use Rattle.vlog_values.specs.declared.module.VlogFile.{VlogFile}
use Rattle.vlog_modules.specs.Text.{VlogReads}
use Rattle.vlog_modules.specs.AnyLength.{VlogSpells}

-- the same token at the same place; the byte behind it, which may show its end, may be another or
-- none
pub record IsSame (x y : VFound) : Type 0 where
  pub token : x.token ≡ y.token
  pub place : x.place ≡ y.place

-- The text goes on where a front of the tokens of some bytes ends. It begins with the bytes up to
-- the end of the front's last token: these have the tokens of the front and no others, and the
-- text's tokens begin with those of the front, at their places.
pub record GoesOnFrom (bytes : List ℕ) (front : List VFound) (text : List ℕ) : Type 0 where
  -- the bytes of the front, those behind them, and what goes on in their stead
  pub used : List ℕ
  pub behind : List ℕ
  pub more : List ℕ
  pub of_bytes : bytes ≡ used ++ behind
  pub of_text : text ≡ used ++ more
  -- the bytes of the front have its tokens and no others
  pub alone : List VFound
  pub last : Place
  pub used_tokens : (all_tokens used).tokens ≡ map proper alone ++ end last ∷ []
  pub used_are : AreAlike IsSame front alone
  -- the tokens of the text begin with them
  pub same : List VFound
  pub others : List (Terminal VFound Place)
  pub tokens : (all_tokens text).tokens ≡ map proper same ++ others
  pub are_same : AreAlike IsSame front same

-- some text goes on so and is a file; where the limit of an input allows it, it reads as the file
abbrev pub GoesOnToFile : List ℕ → List VFound → Type 0
GoesOnToFile bytes front =
    (text : List ℕ) × (file : VlogFile) × GoesOnFrom bytes front text
    × (AreBytes bytes → AreBytes text) × VlogSpells text file
    × (length text ≤ LIMIT → VlogReads text file)

-- the fault stands at the next token or the end, or at bytes that are no token, behind the last
abbrev pub StandsAt : TextFault → List (Terminal VFound Place) → Finish TextFault → Type 0
StandsAt fault (proper x ∷ rest) finish = (fault.place ≡ x.place) × (fault.stop ≡ x.stop)
StandsAt fault (end p ∷ rest) finish = (fault.place ≡ p) × (fault.stop ≡ p.offset)
StandsAt fault [] Done = ⊥
StandsAt fault [] (Bad other) = fault ≡ other
StandsAt fault [] Over = ⊥

-- What stands before a first fault goes on to a file: the tokens at the front, behind which the
-- fault stands.
abbrev pub GoesOnBefore : List ℕ → TextFault → Type 0
GoesOnBefore bytes fault =
    (front : List VFound) × (rest : List (Terminal VFound Place))
    × ((all_tokens bytes).tokens ≡ map proper front ++ rest)
    × StandsAt fault rest (all_tokens bytes).finish × GoesOnToFile bytes front
