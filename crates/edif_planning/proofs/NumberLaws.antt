-- The numbers of the cells of a design in a file, written one after another.
use Rattle.std.proofs.Common.{arith, ◌≡◌, ◌≢◌, ◌⊎◌, inl, inr, ℕ, zero, suc, ◌+◌, ◌<◌, ◌≤◌, List, [], ◌∷◌, Option, Some, get_or, length, set, slice_get, refl, sym, ap, ◌∙◌, subst}
use Rattle.std.proofs.lemmas.List.{length-set}
use Rattle.std.proofs.lemmas.Option.{slice_get_within}
use Rattle.net_hier.specs.Design.{Design}
use Rattle.net_hier.specs.Valid.{IsValid}
use Rattle.edif_planning.specs.Numbers.{AreNumbers}
use Rattle.edif_planning.proofs.OrderLaws.{order_once, order_within}

-- the numbers at the first places of the order
pub record AreNumbersUpTo (design : Design) (count done : ℕ) (numbers : List ℕ) : Type 0 where
  pub as_many : length numbers ≡ length design.cells
  pub each : (place number : ℕ) → place < done → slice_get design.order place ≡ Some number → get_or numbers number 0 ≡ count + place

set_there : (xs : List ℕ) (i v : ℕ) → i < length xs → get_or (set xs i v) i 0 ≡ v
set_there [] i v lt = absurd (omega arith)
set_there (x ∷ xs) zero v lt = refl
set_there (x ∷ xs) (suc i) v lt = set_there xs i v (omega arith)

set_other : (xs : List ℕ) (i j v : ℕ) → i ≢ j → get_or (set xs i v) j 0 ≡ get_or xs j 0
set_other [] i j v h = refl
set_other (x ∷ xs) zero zero v h = absurd (h refl)
set_other (x ∷ xs) zero (suc j) v h = refl
set_other (x ∷ xs) (suc i) zero v h = refl
set_other (x ∷ xs) (suc i) (suc j) v h = set_other xs i j v (λ e. h (ap suc e))

pub none_numbered : (design : Design) (count : ℕ) (numbers : List ℕ) → length numbers ≡ length design.cells → AreNumbersUpTo design count 0 numbers
none_numbered design count numbers e = record { as_many = e; each = λ place number lt there. absurd (omega (arith, lt)) }

earlier_or_last : (place done : ℕ) → place < done + 1 → (place < done) ⊎ (place ≡ done)
earlier_or_last place done lt = grind arith

-- one number more
pub one_numbered : (design : Design) → IsValid design → (count done number : ℕ) (numbers new : List ℕ) → slice_get design.order done ≡ Some number → new ≡ set numbers number (count + done) → AreNumbersUpTo design count done numbers →
    AreNumbersUpTo design count (done + 1) new
one_numbered design valid count done number numbers new here is are = subst (AreNumbersUpTo design count (done + 1)) (sym is) (record {
  as_many = length-set numbers number (count + done) ∙ are.as_many;
  each = λ place other lt there. elim (earlier_or_last place done lt) as (λ _. get_or (set numbers number (count + done)) other 0 ≡ count + place) [
    | inl before ↦
        set_other numbers number other (count + done) (λ same.
        let at : place ≡ done = order_once design valid place done other there (here ∙ ap Some same) in
        omega (arith, at, before))
        ∙ are.each place other before there
    | inr last ↦
        let same : number ≡ other = only (slice_get design.order done) number other here (ap (slice_get design.order) (sym last) ∙ there) in
        subst (λ n. get_or (set numbers number (count + done)) n 0 ≡ count + place) same
        (set_there numbers number (count + done) (let lt : number < length design.cells = order_within design valid done number here in omega (arith, lt, are.as_many)) ∙ ap (λ n. count + n) (sym last))
  ];
})
  where
    only : (o : Option ℕ) (a b : ℕ) → o ≡ Some a → o ≡ Some b → a ≡ b
    only o a b e f = cc

pub all_numbered : (design : Design) (count done : ℕ) (numbers : List ℕ) → length design.order ≤ done → AreNumbersUpTo design count done numbers → AreNumbers design count numbers
all_numbered design count done numbers le are = record {
  as_many = are.as_many;
  each = λ place number there. are.each place number (let lt : place < length design.order = slice_get_within design.order place number there in omega (arith, lt, le)) there;
}
