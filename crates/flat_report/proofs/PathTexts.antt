-- the texts of paths
use Rattle.std.proofs.Common.{◌≡◌, ℕ, suc, ◌+◌, ◌<◌, List, [], ◌∷◌, ◌++◌, refl, sym, ◌∙◌, ap, get_or, length, map, take, arith}
use Rattle.std.specs.Prelude.{codes}
use Rattle.std.proofs.lemmas.List.{take_more}
use Rattle.edif_writer.specs.Strings.{quoted}
use Rattle.flat_report.specs.Report.{names_then}

-- the last of the names comes first
names_last : (f : ℕ → List ℕ) (xs : List ℕ) (x : ℕ) (rest : List ℕ) → names_then (map f (xs ++ x ∷ [])) rest ≡ quoted (f x) (codes "/" ++ names_then (map f xs) rest)
names_last f [] x rest = refl
names_last f (y ∷ ys) x rest = names_last f ys x (quoted (f y) (codes "/" ++ rest))

pub names_taken : (f : ℕ → List ℕ) (xs : List ℕ) (place : ℕ) (rest : List ℕ) → place < length xs → names_then (map f (take (suc place) xs)) rest ≡ quoted (f (get_or xs place 0)) (codes "/" ++ names_then (map f (take place xs)) rest)
names_taken f xs place rest lt =
    let z : suc place ≡ place + 1 = omega arith in
    ap (λ n. names_then (map f (take n xs)) rest) z ∙ (ap (λ w. names_then (map f w) rest) (take_more xs place 0 lt) ∙ names_last f (take place xs) (get_or xs place 0) rest)
