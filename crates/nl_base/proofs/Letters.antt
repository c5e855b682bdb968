-- Comparing texts up to case, byte by byte.
use Rattle.std.proofs.Common.{arith, ◌≡◌, refl, ap, ℕ, ◌==◌, List, [], ◌∷◌, ◌&&◌, zip, length}
use Rattle.std.specs.List.{list_all}
use Rattle.nl_base.specs.Case.{small, same_up_to_case}

-- texts of one length are alike up to case exactly where their bytes at each place are
pub pairs_alike : (a b : List ℕ) → length a ≡ length b → list_all (λ pair. small pair.0 == small pair.1) (zip a b) ≡ same_up_to_case a b
pairs_alike [] [] e = refl
pairs_alike [] (y ∷ ys) e = absurd (omega arith)
pairs_alike (x ∷ xs) [] e = absurd (omega arith)
pairs_alike (x ∷ xs) (y ∷ ys) e = let h : length xs ≡ length ys = omega arith in ap (λ b. (small x == small y) && b) (pairs_alike xs ys h)
