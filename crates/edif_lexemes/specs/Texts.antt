-- The tokens of a text by the table of tokens, and how they end: white space, a lexeme that is the
-- longest that stands there, and then the rest (EDIF 2 0 0, basic syntax).
use Rattle.std.specs.Prelude.{◌≡◌, ℕ, ◌+◌, List, [], ◌∷◌, ◌++◌, length, take}
use Rattle.grammar.specs.Whole.{Terminal, proper, end, Finish, Done, Bad, Over}
use Rattle.nl_base.specs.declared.place.Place.{Place}
use Rattle.nl_base.specs.declared.fault.Reason.{Reason}
use Rattle.nl_base.specs.declared.fault.TextFault.{TextFault}
use Rattle.nl_base.specs.Place.{place_past}
use Rattle.nl_bytes.specs.Tokens.{Ahead, limited}
use Rattle.edif_tokens.specs.declared.token.Found.{Found}
use Rattle.edif_values.specs.declared.token.Token.{Token}
use Rattle.edif_tokens.specs.Language.{stop_of}
use Rattle.edif_lexemes.specs.Strings.{AreWhite}
use Rattle.edif_lexemes.specs.Lexemes.{IsNext, seen_behind}
use Rattle.edif_lexemes.specs.Faults.{IsFault}

-- the first token of a text that begins at a place
pub record IsFirst (p : Place) (text : List ℕ) (found : Found) : Type 0 where
  pub white : List ℕ
  pub lexeme : List ℕ
  pub rest : List ℕ
  pub parts : text ≡ white ++ (lexeme ++ rest)
  pub blank : AreWhite white
  pub next : IsNext lexeme found.token rest
  pub place : found.place ≡ place_past p white
  pub stop :
      found.stop ≡ (place_past p white).offset + (length lexeme + seen_behind found.token rest)

-- white space, and then bytes at whose front no token stands
pub record Fails (p : Place) (text : List ℕ) (fault : TextFault) : Type 0 where
  pub white : List ℕ
  pub rest : List ℕ
  pub before : ℕ
  pub seen : ℕ
  pub parts : text ≡ white ++ rest
  pub blank : AreWhite white
  pub why : IsFault rest fault.reason before seen
  pub place : fault.place ≡ place_past (place_past p white) (take before rest)
  pub stop : fault.stop ≡ (place_past p white).offset + seen

-- these are the tokens of a text that begins at a place, up to its end, which is the last of them,
-- or up to a fault
abbrev pub AreLexemes : Place → List ℕ → List (Terminal Found Place) → Finish TextFault → Type 0
AreLexemes p text [] Done = ⊥
AreLexemes p text [] (Bad fault) = Fails p text fault
AreLexemes p text [] Over = ⊥
AreLexemes p text (proper found ∷ others) finish =
    (one : IsFirst p text found)
    × AreLexemes (place_past p (one.white ++ one.lexeme)) one.rest others finish
AreLexemes p text (end q ∷ others) finish =
    AreWhite text × (q ≡ place_past p text) × (others ≡ []) × (finish ≡ Done)

-- these are what a reader tells of the tokens: those before the first whose stop lies past the
-- limit of an input
pub record AreTold (p : Place) (text : List ℕ) (s : Ahead Found) : Type 0 where
  pub all : Ahead Found
  pub lexemes : AreLexemes p text all.tokens all.finish
  pub told : s ≡ limited stop_of all

-- at the front of some bytes stands a token
pub record Stands (bytes : List ℕ) : Type 0 where
  pub lexeme : List ℕ
  pub token : Token
  pub rest : List ℕ
  pub parts : bytes ≡ lexeme ++ rest
  pub next : IsNext lexeme token rest

-- some bytes have a lexical fault
pub record IsFaulty (bytes : List ℕ) : Type 0 where
  pub reason : Reason
  pub before : ℕ
  pub seen : ℕ
  pub why : IsFault bytes reason before seen
