-- Texts that go on from a front of the tokens of some bytes (EDIF 2 0 0, basic syntax and edif).
use Rattle.std.specs.Prelude.{◌≡◌, ◌≤◌, ℕ, List, [], ◌∷◌, ◌++◌, map, length}
use Rattle.grammar.specs.Whole.{Terminal, proper, end, Finish, Done, Bad, Over}
use Rattle.grammar_alike.specs.Alike.{AreAlike}
use Rattle.nl_base.specs.declared.fault.TextFault.{TextFault}
use Rattle.nl_base.specs.declared.place.Place.{Place}
use Rattle.nl_bytes.specs.declared.bytes.TheConstants.{LIMIT}
use Rattle.edif_tokens.specs.declared.token.Found.{Found}
use Rattle.edif_tokens.specs.Language.{all_tokens, tokens}
use Rattle.edif_values.specs.Proper.{AreBytes}
use Rattle.edif_values.specs.declared.file.EdifFile.{EdifFile}
use Rattle.edif_library.specs.Text.{EdifReads}
use Rattle.edif_library.specs.AnyLength.{EdifSpells}

-- the same token at the same place; the byte behind a word or an integer, which shows its end, may
-- be another or none
pub record IsSame (x y : Found) : Type 0 where
  pub token : x.token ≡ y.token
  pub place : x.place ≡ y.place

-- The text goes on where a front of the tokens of some bytes ends. It begins with the bytes up to
-- the end of the front's last token: these have the tokens of the front and no others, and the
-- text's tokens begin with those of the front, at their places.
pub record GoesOnFrom (bytes : List ℕ) (front : List Found) (text : List ℕ) : Type 0 where
  -- the bytes of the front, those behind them, and what goes on in their stead
  pub used : List ℕ
  pub behind : List ℕ
  pub more : List ℕ
  pub of_bytes : bytes ≡ used ++ behind
  pub of_text : text ≡ used ++ more
  -- the bytes of the front have its tokens and no others
  pub alone : List Found
  pub last : Place
  pub used_tokens : (all_tokens used).tokens ≡ map proper alone ++ end last ∷ []
  pub used_are : AreAlike IsSame front alone
  -- the tokens of the text begin with them
  pub same : List Found
  pub others : List (Terminal Found Place)
  pub tokens : (all_tokens text).tokens ≡ map proper same ++ others
  pub are_same : AreAlike IsSame front same

-- some text goes on so and is a file; where the limit of an input allows it, it reads as the file
abbrev pub GoesOnToFile : List ℕ → List Found → Type 0
GoesOnToFile bytes front =
    (text : List ℕ) × (file : EdifFile) × GoesOnFrom bytes front text
    × (AreBytes bytes → AreBytes text) × EdifSpells text file
    × (length text ≤ LIMIT → EdifReads text file)

-- the fault stands at the next token or the end, or at bytes that are no token, behind the last
abbrev pub StandsAt : TextFault → List (Terminal Found Place) → Finish TextFault → Type 0
StandsAt fault (proper x ∷ rest) finish = (fault.place ≡ x.place) × (fault.stop ≡ x.stop)
StandsAt fault (end p ∷ rest) finish = (fault.place ≡ p) × (fault.stop ≡ p.offset)
StandsAt fault [] Done = ⊥
StandsAt fault [] (Bad other) = fault ≡ other
StandsAt fault [] Over = ⊥

-- What stands before a first fault goes on to a file: the tokens at the front, behind which the
-- fault stands.
abbrev pub GoesOnBefore : List ℕ → TextFault → Type 0
GoesOnBefore bytes fault =
    (front : List Found) × (rest : List (Terminal Found Place))
    × ((tokens bytes).tokens ≡ map proper front ++ rest)
    × StandsAt fault rest (tokens bytes).finish × GoesOnToFile bytes front
