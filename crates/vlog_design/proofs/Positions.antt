-- The positions of a range.
use Rattle.std.proofs.Common.{◌≡◌, ℕ, ℤ, ◌-ℤ◌, nat_abs, int_le, ◌&&◌, ◌||◌, ◌≤◌, ◌<◌, ◌≤ℤ◌, true, false, arith, inl, inr, Some, None, refl, Bool, cond}
use Rattle.std.proofs.lemmas.Int.{ints}
use Rattle.std.proofs.lemmas.Bool.{and_parts, or_cases}
use Rattle.std.proofs.lemmas.Bool.Decides.{nat_tests}
use Rattle.nl_base.specs.Ranges.{Bounds}
use Rattle.net_hier.specs.Cells.{width_of}
use Rattle.vlog_design.specs.Ranges.{position_of}

between : (l r i : ℤ) → r ≤ℤ i → i ≤ℤ l → nat_abs (l -ℤ i) ≤ nat_abs (l -ℤ r)
between l r i a b = omega (arith, ints)

between_up : (l r i : ℤ) → l ≤ℤ i → i ≤ℤ r → nat_abs (l -ℤ i) ≤ nat_abs (l -ℤ r)
between_up l r i a b = omega (arith, ints)

holds : (b : Bool) (x p : ℕ) → cond b (Some x) None ≡ Some p → (b ≡ true) × (x ≡ p)
holds true x p e = (refl, cc)
holds false x p e = cc

less : (a b : ℤ) → int_le a b ≡ true → a ≤ℤ b
less a b h = first_of (omega (arith, ints), grind (arith, ints, nat_tests))

within : (l r i : ℤ) → ((int_le r i && int_le i l) || (int_le l i && int_le i r)) ≡ true → nat_abs (l -ℤ i) ≤ nat_abs (l -ℤ r)
within l r i h = elim (or_cases (int_le r i && int_le i l) (int_le l i && int_le i r) h) [
  | inl a ↦ let p = and_parts (int_le r i) (int_le i l) a in between l r i (less _ _ p.0) (less _ _ p.1)
  | inr a ↦ let p = and_parts (int_le l i) (int_le i r) a in between_up l r i (less _ _ p.0) (less _ _ p.1)
]

-- a position is one of the range's
pub position_within : (range : Bounds) (index : ℤ) (p : ℕ) → position_of range index ≡ Some p → p < width_of (Some range)
unfolding position_of
position_within range index p e =
    let h = holds ((int_le range.right index && int_le index range.left) || (int_le range.left index && int_le index range.right)) (nat_abs (range.left -ℤ index)) p e in
    omega (arith, within range.left range.right index h.0, h.1)
