-- How a string is written (EDIF 2 0 0, stringToken).
use Rattle.nl_output.specs.Writing.{Begin, State, ToCome}
use Rattle.std.specs.Prelude.{ℕ, Bool, true, false, ◌&&◌, ◌==◌, not, nat_le, if◌then◌else◌, List, [], ◌∷◌, ◌++◌, decimal}

-- what stands for itself in a written string: the bytes 32 to 126 other than `"` and `%`
unfoldable pub is_plain : ℕ → Bool
is_plain b = nat_le 32 b && nat_le b 126 && not (b == 34) && not (b == 37)

-- The bytes of a string and its end, before what follows. Bytes that are not plain are codes of one escape, as many as follow one another;
-- such an escape is open or not.
unfoldable pub written : Bool → List ℕ → List ℕ → List ℕ
written false [] rest = 34 ∷ rest
written true [] rest = 37 ∷ 34 ∷ rest
written false (b ∷ bs) rest = if is_plain b then b ∷ written false bs rest else 37 ∷ (decimal b ++ written true bs rest)
written true (b ∷ bs) rest = if is_plain b then 37 ∷ b ∷ written false bs rest else 32 ∷ (decimal b ++ written true bs rest)

-- a string in quotes, before what follows
abbrev pub quoted : List ℕ → List ℕ → List ℕ
quoted s rest = 34 ∷ written false s rest

-- further codes of an escape, before what follows
abbrev pub codes_text : List ℕ → List ℕ → List ℕ
codes_text [] rest = rest
codes_text (c ∷ cs) rest = 32 ∷ (decimal c ++ codes_text cs rest)

-- an escape of these codes, if there are any, before what follows
abbrev pub escape_text : List ℕ → List ℕ → List ℕ
escape_text [] rest = rest
escape_text (c ∷ cs) rest = 37 ∷ (decimal c ++ codes_text cs (37 ∷ rest))

-- Of a text that comes next, whatever follows it, a rest is to come.
abbrev pub PutsUntil : (List ℕ → List ℕ) → (List ℕ → List ℕ) → State → State → Type 0
PutsUntil text left old new = (b : Begin) (rest : List ℕ) → ToCome b old (text rest) → ToCome b new (left rest)
