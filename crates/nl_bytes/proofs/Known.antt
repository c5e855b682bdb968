-- What the calls of a reader say where the source tells its bytes.
use Rattle.std.proofs.Common.{◌≡◌, ℕ, List, [], ◌∷◌, ◌++◌, Option, Some, None, refl, sym, ap, ◌∙◌}
use Rattle.std.specs.Io.KnownBytes.{Consumes}
use Rattle.nl_bytes.specs.Bytes.{Window, Uses, IsAhead, input, first}

Consumes-known : (a b : Option (List ℕ)) (used bs : List ℕ) → Consumes a b used → a ≡ Some bs → (rest : List ℕ) × (b ≡ Some rest) × (bs ≡ used ++ rest)
Consumes-known None b used bs h e = absurd cc
Consumes-known (Some x) None used bs h e = absurd h
Consumes-known (Some x) (Some y) used bs h e = let p : x ≡ bs = cc in (y, refl, sym p ∙ h)

-- what was used stood at the front of the input
pub Uses-known : (old new : Window) (l m : Option (List ℕ)) (used bs : List ℕ) → Uses old new l m used → input old l ≡ Some bs → (rest : List ℕ) × (input new m ≡ Some rest) × (bs ≡ used ++ rest)
Uses-known old new l m used bs uses known = Consumes-known (input old l) (input new m) used bs uses.bytes known

-- the byte ahead is the first of the input
pub IsAhead-known : (w : Window) (left : Option (List ℕ)) (next : Option ℕ) (bs : List ℕ) → IsAhead w left next → input w left ≡ Some bs → first bs ≡ next
IsAhead-known w None next bs ahead known = absurd cc
IsAhead-known w (Some left) None bs ahead known =
    let e : w.held ++ left ≡ bs = cc in
    let n : bs ≡ [] = sym e ∙ ap (λ (xs : List ℕ). xs ++ left) ahead.0 ∙ ahead.1 in
    ap first n
IsAhead-known w (Some left) (Some b) bs ahead known =
    let e : w.held ++ left ≡ bs = cc in
    let n : bs ≡ b ∷ (ahead.0 ++ left) = sym e ∙ ap (λ (xs : List ℕ). xs ++ left) ahead.1 in
    ap first n
