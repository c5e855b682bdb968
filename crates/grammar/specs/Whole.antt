-- Whole texts: the tokens of an input up to its end, what they spell, and their first fault.
use Rattle.std.specs.Prelude.{◌≡◌, List, Result, Ok, Err}
use Rattle.grammar.specs.Part.{Part, gives, token, sequence}
use Rattle.grammar.specs.Texts.{Spells, Begins}
use Rattle.grammar.specs.Faults.{Faults}

-- a token of the text, or the end of the input at a place, which the grammar sees as one more token
pub data Terminal (X P : Type 0) : Type 0 where
  proper : X → Terminal X P
  end : P → Terminal X P

-- what comes behind the last token: nothing behind the end of the input; bytes that are no token; or what is not looked at
pub data Finish (F : Type 0) : Type 0 where
  Done : Finish F
  Bad : F → Finish F
  Over : Finish F

-- the tokens of an input from the left, and what comes behind the last of them
pub record Stream (X F : Type 0) : Type 0 where
  pub tokens : List X
  pub finish : Finish F

-- The tokens, up to the end of the input, spell the value.
abbrev pub IsText : {K X R F A : Type 0} → K → Part K X R A → Stream X F → A → Type 0
IsText k p s v = Spells k p s.tokens v × (s.finish ≡ Done)

-- The first fault, where `fault` says what is answered for a token and a reason.
pub data IsFirstFault {K X R F A : Type 0} (fault : X → R → F) (k : K) (p : Part K X R A) (s : Stream X F) (f : F) : Type 0 where
  -- at the first token that no text has there
  at_token : (x : X) (reason : R) → Faults k p s.tokens x reason → f ≡ fault x reason → IsFirstFault fault k p s f
  -- where bytes that are no token come behind tokens that can go on
  at_bad : Begins k p s.tokens → s.finish ≡ Bad f → IsFirstFault fault k p s f

-- The tokens can go on to a text, and what comes behind them is not looked at.
abbrev pub IsCut : {K X R F A : Type 0} → K → Part K X R A → Stream X F → Type 0
IsCut k p s = Begins k p s.tokens × (s.finish ≡ Over)

-- the end of the input; a proper token is refused
abbrev pub end_of : {X P R : Type 0} → (X → R) → Terminal X P → Result (Unit {0}) R
end_of trailing (proper x) = Err (trailing x)
end_of trailing (end p) = Ok tt

-- the end of the input, where a proper token is refused for the reason that `trailing` says
unfoldable pub the_end : {K X P R : Type 0} → (X → R) → Part K (Terminal X P) R (Unit {0})
the_end trailing = token (λ _ x. end_of trailing x)

-- the part up to the end of the input
unfoldable pub whole : {K X P R A : Type 0} → (X → R) → Part K (Terminal X P) R A → Part K (Terminal X P) R A
whole trailing p = sequence p (λ v. sequence (the_end trailing) (λ _. gives v))
