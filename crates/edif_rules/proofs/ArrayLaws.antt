-- The names of arrays of any size.
use Rattle.std.proofs.Common.{◌≡◌, ◌∙◌, sym, ap, refl, ℕ, ◌<◌, ◌≤◌, ◌^◌, List, take, length, Option, Some, None, option_map, ℤ, pos, negsuc, nat_abs, arith}
use Rattle.std.proofs.lemmas.Int.{ints}
use Rattle.std.specs.Prelude.{◌<ℤ◌, ◌≤ℤ◌, ◌-ℤ◌}
use Rattle.std.proofs.Math.Seq.{take-append_seam}
use Rattle.nl_base.specs.Ranges.{Bounds, bracketed, HasRangeForm, range_bits}
use Rattle.nl_base.specs.RangeForm.{range_form}
use Rattle.nl_base.proofs.RangeForm.{range_form-is}
use Rattle.edif_values.specs.Names.{array_name, named_array, sized_form}

-- a size below 0 is that of no range
pub no_form_below : (text : List ℕ) (size : ℤ) → (size <ℤ pos 0) → sized_form text size ≡ None
no_form_below text (pos n) below = absurd (omega (arith, ints, below))
no_form_below text (negsuc n) below = refl

few_bits : (range : Bounds) → nat_abs range.left < 2 ^ 31 → nat_abs range.right < 2 ^ 31 → range_bits range < 2 ^ 32
few_bits range l r = omega (arith, ints, l, r)

-- a size above 2^32-1 is that of no range
pub no_form_above : (text : List ℕ) (size : ℤ) → (pos 4294967295 <ℤ size) → sized_form text size ≡ None
no_form_above text (pos n) above = by (range_form text n) refl
  where
    by : (o : Option (List ℕ × Bounds)) → range_form text n ≡ o → o ≡ None
    by None is = refl
    by (Some form) is =
        let has = range_form-is text n form.0 form.1 is in
        absurd (omega (arith, ints, above, has.is_size, few_bits form.1 has.left_fits has.right_fits))
no_form_above text (negsuc n) above = refl

abbrev count_of : ℕ × Bounds → Option (ℕ × Bounds) → ℕ
count_of other None = other.0
count_of other (Some split) = split.0

abbrev range_of : ℕ × Bounds → Option (ℕ × Bounds) → Bounds
range_of other None = other.1
range_of other (Some split) = split.1

-- a text in range form is its base and its range
pub ranged : (text : List ℕ) (size : ℤ) (count : ℕ) (range : Bounds) → ◌≡◌ {A = Option (ℕ × Bounds)} (Some (count, range)) (option_map (λ form. (length form.0, form.1)) (sized_form text size)) → ◌≡◌ {A = List ℕ × Bounds} (take count text, range) (array_name text size)
ranged text (negsuc n) count range e = absurd cc
ranged text (pos n) count range e = by (range_form text n) refl e
  where
    by : (o : Option (List ℕ × Bounds)) → range_form text n ≡ o → ◌≡◌ {A = Option (ℕ × Bounds)} (Some (count, range)) (option_map (λ form. (length form.0, form.1)) o) → ◌≡◌ {A = List ℕ × Bounds} (take count text, range) (named_array text (pos n) o)
    by None is e = absurd cc
    by (Some form) is e =
        let has = range_form-is text n form.0 form.1 is in
        let base : take (length form.0) text ≡ form.0 = ap (take (length form.0)) has.is_text ∙ take-append_seam form.0 (bracketed has.bracket form.1) in
        let counts : count ≡ length form.0 = ap (count_of (count, range)) e in
        let ranges : range ≡ form.1 = ap (range_of (count, range)) e in
        rw (counts, ranges, base) refl

-- any other text is the name itself
pub unranged : (text : List ℕ) (size : ℤ) → ◌≡◌ {A = Option (ℕ × Bounds)} None (option_map (λ form. (length form.0, form.1)) (sized_form text size)) → ◌≡◌ {A = List ℕ × Bounds} (text, record { left = size -ℤ pos 1; right = pos 0 }) (array_name text size)
unranged text size e = by (sized_form text size) e
  where
    by : (o : Option (List ℕ × Bounds)) → ◌≡◌ {A = Option (ℕ × Bounds)} None (option_map (λ form. (length form.0, form.1)) o) → ◌≡◌ {A = List ℕ × Bounds} (text, record { left = size -ℤ pos 1; right = pos 0 }) (named_array text size o)
    by None e = refl
    by (Some form) e = absurd cc
