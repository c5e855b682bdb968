-- Places past some bytes.
use Rattle.std.proofs.Common.{◌≡◌, ◌≤◌, Bool, true, if◌then◌else◌, ℕ, ◌+◌, ◌==◌, false, suc, List, [], ◌∷◌, ◌++◌, length, refl, ap, ◌∙◌, arith}
use Rattle.std.specs.List.{AllByRecursion}
use Rattle.nl_base.specs.declared.place.Place.{Place}
use Rattle.nl_base.specs.Place.{place_after, place_past, place_along}

pub place_past-append : (p : Place) (xs ys : List ℕ) → place_past p (xs ++ ys) ≡ place_past (place_past p xs) ys
place_past-append p [] ys = refl
place_past-append p (x ∷ xs) ys = place_past-append (place_after p x) xs ys

pub place_past-offset : (p : Place) (xs : List ℕ) → (place_past p xs).offset ≡ p.offset + length xs
place_past-offset p [] = omega arith
place_past-offset p (x ∷ xs) = omega (arith, place_past-offset (place_after p x) xs)

-- no line or column beyond the bytes passed
pub record Near (p q : Place) (n : ℕ) : Type 0 where
  pub offset : q.offset ≡ p.offset + n
  pub line : q.line ≤ p.line + n
  pub column : q.column ≤ p.column + n
  pub some : 1 ≤ p.column → 1 ≤ q.column

place_after-near : (p : Place) (b : ℕ) → Near p (place_after p b) 1
place_after-near p b = go (b == 10)
  where
    go : (t : Bool) → Near p (record { offset = p.offset + 1; line = if t then p.line + 1 else p.line; column = if t then 1 else p.column + 1 }) 1
    go true = record { offset = refl; line = omega arith; column = omega arith; some = λ h. omega arith }
    go false = record { offset = refl; line = omega arith; column = omega arith; some = λ h. omega arith }

pub place_past-near : (p : Place) (xs : List ℕ) → Near p (place_past p xs) (length xs)
place_past-near p [] = record { offset = omega arith; line = omega arith; column = omega arith; some = λ h. h }
place_past-near p (x ∷ xs) =
    let here = place_after-near p x in
    let rest = place_past-near (place_after p x) xs in
    record { offset = omega arith; line = omega arith; column = omega arith; some = λ h. rest.some (here.some h) }

along-along : (p : Place) (n : ℕ) → place_along (place_along p 1) n ≡ place_along p (suc n)
along-along p n =
    let offset : (p.offset + 1) + n ≡ p.offset + suc n = omega arith in
    let column : (p.column + 1) + n ≡ p.column + suc n = omega arith in
    rw (offset, column) refl

-- bytes without a line feed
pub place_past-along : (p : Place) (xs : List ℕ) → AllByRecursion (λ b. (b == 10) ≡ false) xs → place_past p xs ≡ place_along p (length xs)
place_past-along p [] h =
    let offset : p.offset + 0 ≡ p.offset = omega arith in
    let column : p.column + 0 ≡ p.column = omega arith in
    rw (offset, column) refl
place_past-along p (x ∷ xs) h =
    let here : place_after p x ≡ place_along p 1 = rw h.0 refl in
    let rest = place_past-along (place_after p x) xs h.1 in
    rest ∙ ap (λ (q : Place). place_along q (length xs)) here ∙ along-along p (length xs)
