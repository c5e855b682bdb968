-- Comparing a word with a spelling in small letters.
use Rattle.std.proofs.Common.{arith, ◌≡◌, refl, ap, ℕ, ◌==◌, List, [], ◌∷◌, ◌&&◌, map, zip, length}
use Rattle.std.specs.List.{list_all}
use Rattle.nl_base.specs.Case.{small, same_bytes}

pub is_small : (word letters : List ℕ) → length letters ≡ length word → list_all (λ pair. small pair.0 == pair.1) (zip word letters) ≡ same_bytes (map small word) letters
is_small [] [] e = refl
is_small [] (y ∷ ys) e = absurd (omega arith)
is_small (x ∷ xs) [] e = absurd (omega arith)
is_small (x ∷ xs) (y ∷ ys) e = let h : length ys ≡ length xs = omega arith in ap (λ b. (small x == y) && b) (is_small xs ys h)
