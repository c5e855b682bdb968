-- What the tokens before a token of a Verilog text say of where it stands: which two stand directly
-- before it, and which braces are open (IEEE 1364-2005, A.8.1).
use Rattle.std.specs.Prelude.{ℕ, ◌==◌, ◌+◌, Bool, true, false, ◌&&◌, if◌then◌else◌, List, [], ◌∷◌, Option, Some, None}
use Rattle.grammar.specs.Whole.{Terminal, proper, end}
use Rattle.nl_base.specs.declared.place.Place.{Place}
use Rattle.vlog_tokens.specs.declared.token.VFound.{VFound}
use Rattle.vlog_tokens.specs.declared.token.VToken.{VToken}
use Rattle.vlog_tokens.specs.declared.token.VToken.TheVariants.{Number, Punct}

-- tokens of a text, of which the end of the input may be the last
abbrev pub Tokens : Type 0
Tokens = List (Terminal VFound Place)

-- an open brace: the first one of a concatenation or a replication, which opens a level, or the
-- second one of a replication, which opens none
pub data Brace : Type 0 where
  Level : Brace
  Second : Brace

-- where a token stands: the open braces from the innermost one out, and the two tokens before it
pub record Context : Type 0 where
  pub braces : List Brace
  pub last : Option VToken
  pub earlier : Option VToken

-- whether a token is this punctuation mark
abbrev pub is_mark : ℕ → Option VToken → Bool
is_mark due (Some (Punct b)) = b == due
is_mark due token = false

-- whether a token is a number
abbrev pub is_number : Option VToken → Bool
is_number (Some (Number n)) = true
is_number token = false

-- how many levels braces open
abbrev pub levels : List Brace → ℕ
levels [] = 0
levels (Level ∷ around) = levels around + 1
levels (Second ∷ around) = levels around

-- ---- one token further

-- a `{` (123) directly behind a number that stands directly behind a `{` is the second one of a
-- replication
abbrev pub opened : Option VToken → Option VToken → Brace
opened last earlier = if is_number last && is_mark 123 earlier then Second else Level

-- the braces around the innermost one
abbrev pub closed : List Brace → List Brace
closed [] = []
closed (b ∷ around) = around

-- the open braces behind a token, of which `{` (123) opens one and `}` (125) closes one
abbrev pub braces_behind : Context → VToken → List Brace
braces_behind c (Punct b) =
    if b == 123 then opened c.last c.earlier ∷ c.braces
    else (if b == 125 then closed c.braces else c.braces)
braces_behind c t = c.braces

-- behind one more token
abbrev pub after : Context → VToken → Context
after c t = record { braces = braces_behind c t; last = Some t; earlier = c.last }

-- the same, where the end of the input changes nothing
abbrev pub behind : Context → Terminal VFound Place → Context
behind c (proper x) = after c x.token
behind c (end p) = c

-- behind some tokens, one after the other
abbrev pub behind_all : Context → Tokens → Context
behind_all c [] = c
behind_all c (x ∷ xs) = behind_all (behind c x) xs

-- nothing has been read
abbrev pub at_start : Context
at_start = record { braces = []; last = None; earlier = None }
