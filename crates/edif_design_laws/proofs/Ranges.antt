-- The ranges of array ports.
use Rattle.std.proofs.Common.{◌≡◌, inl, inr, ℕ, ◌<◌, ◌≤◌, ◌^◌, false, List, IfSome, pos, negsuc, sym, subst, arith}
use Rattle.std.specs.Prelude.{◌-ℤ◌, nat_abs}
use Rattle.std.proofs.lemmas.Int.{ints}
use Rattle.edif_values.specs.Names.{array_name, original, port_original}
use Rattle.edif_values.specs.declared.name.PortName.{PortName}
use Rattle.edif_values.specs.declared.name.PortName.TheVariants.{Single, Array}
use Rattle.edif_values.proofs.Names.{array_named}
use Rattle.edif_cells.proofs.GoodSizes.{good_name}
use Rattle.edif_design.specs.CellRules.{is_bad_size, size_of}
use Rattle.vlog_values.specs.Values.{IsRange}

small_left : (size : ℕ) → 1 ≤ size → size ≤ 65536 → nat_abs (pos size -ℤ pos 1) < 2 ^ 31
small_left size some few = omega (arith, ints, some, few)

whole_range : (size : ℕ) → 1 ≤ size → size ≤ 65536 → IsRange (record { left = pos size -ℤ pos 1; right = pos 0 })
whole_range size some few = record { left = small_left size some few; right = omega arith }

array_range : (text : List ℕ) (size : ℕ) → 1 ≤ size → size ≤ 65536 → IsRange (array_name text (pos size)).1
array_range text size some few = elim (array_named text size) [
  | inl form ↦ record { left = form.left_fits; right = form.right_fits }
  | inr whole ↦ subst IsRange (sym whole.2) (whole_range size some few)
]

-- a port of a good size has a range of both languages, where it has one
pub range_sound : (name : PortName) → is_bad_size (size_of name) ≡ false → IfSome (port_original name).1 IsRange
range_sound (Single name) h = tt
range_sound (Array name (pos size)) h = let good = good_name (Array name (pos size)) h in array_range (original name) size good.0 good.1
range_sound (Array name (negsuc n)) h = absurd (good_name (Array name (negsuc n)) h)
