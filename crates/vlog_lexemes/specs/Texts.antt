-- The tokens of a text by the table of tokens: white space, a lexeme that is the longest that
-- stands there, and then the rest (IEEE 1364-2005, 3).
use Rattle.std.specs.Prelude.{◌≡◌, ℕ, ◌+◌, ◌<◌, List, [], ◌∷◌, ◌++◌, length, map, take}
use Rattle.std.specs.List.{concat}
use Rattle.grammar.specs.Whole.{proper, end, Done, Bad}
use Rattle.nl_base.specs.declared.place.Place.{Place}
use Rattle.nl_base.specs.declared.fault.TextFault.{TextFault}
use Rattle.nl_base.specs.Place.{place_past}
use Rattle.nl_bytes.specs.Tokens.{Ahead}
use Rattle.vlog_tokens.specs.declared.token.VFound.{VFound}
use Rattle.vlog_tokens.specs.declared.token.VToken.{VToken}
use Rattle.vlog_lexemes.specs.Lexemes.{IsNext, IsBlank, AreBlanks, seen_behind}
use Rattle.vlog_lexemes.specs.Faults.{IsFault}

-- the first token of a text that begins at a place
pub record IsFirst (p : Place) (text : List ℕ) (found : VFound) : Type 0 where
  pub blanks : List (List ℕ)
  pub lexeme : List ℕ
  pub rest : List ℕ
  pub parts : text ≡ concat blanks ++ (lexeme ++ rest)
  pub blank : AreBlanks blanks (lexeme ++ rest)
  pub next : IsNext lexeme found.token rest
  pub place : found.place ≡ place_past p (concat blanks)
  pub stop :
      found.stop
      ≡ (place_past p (concat blanks)).offset + (length lexeme + seen_behind found.token rest)

-- these are the tokens of a text that begins at a place, and of what is behind them this holds
abbrev pub AreLexemes : (Place → List ℕ → Type 0) → Place → List ℕ → List VFound → Type 0
AreLexemes Behind p text [] = Behind p text
AreLexemes Behind p text (found ∷ others) =
    (one : IsFirst p text found)
    × AreLexemes Behind (place_past p (concat one.blanks ++ one.lexeme)) one.rest others

-- white space alone, up to the end
pub record EndsAt (last p : Place) (text : List ℕ) : Type 0 where
  pub blanks : List (List ℕ)
  pub parts : text ≡ concat blanks
  pub blank : AreBlanks blanks []
  pub place : last ≡ place_past p text

-- at the front of some bytes stands a token
pub record Stands (bytes : List ℕ) : Type 0 where
  pub lexeme : List ℕ
  pub token : VToken
  pub rest : List ℕ
  pub parts : bytes ≡ lexeme ++ rest
  pub next : IsNext lexeme token rest

-- at the front of some bytes stands white space
pub record IsBlankFirst (bytes : List ℕ) : Type 0 where
  pub piece : List ℕ
  pub rest : List ℕ
  pub parts : bytes ≡ piece ++ rest
  pub blank : IsBlank piece rest

-- white space, and then bytes at whose front neither a token nor white space stands
pub record Fails (p : Place) (text : List ℕ) : Type 0 where
  pub blanks : List (List ℕ)
  pub rest : List ℕ
  pub parts : text ≡ concat blanks ++ rest
  pub blank : AreBlanks blanks rest
  pub some : 0 < length rest
  pub no_token : Stands rest → ⊥
  pub no_blank : IsBlankFirst rest → ⊥

-- white space, and then bytes that have a fault of the table
pub record FailsBy (fault : TextFault) (p : Place) (text : List ℕ) : Type 0 where
  pub blanks : List (List ℕ)
  pub rest : List ℕ
  pub before : ℕ
  pub seen : ℕ
  pub parts : text ≡ concat blanks ++ rest
  pub blank : AreBlanks blanks rest
  pub why : IsFault rest fault.reason before seen
  pub place : fault.place ≡ place_past (place_past p (concat blanks)) (take before rest)
  pub stop : fault.stop ≡ (place_past p (concat blanks)).offset + seen

-- the tokens up to the end of the input
abbrev pub whole_text : List VFound → Place → Ahead VFound
whole_text found last = record { tokens = map proper found ++ end last ∷ []; finish = Done }

-- the tokens up to a lexical fault
abbrev pub cut_text : List VFound → TextFault → Ahead VFound
cut_text found fault = record { tokens = map proper found; finish = Bad fault }
