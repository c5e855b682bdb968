-- The name and the range of an array, by what the split of its text answers.
use Rattle.std.proofs.Common.{◌≡◌, ◌∙◌, sym, ap, refl, subst, inl, inr, ℕ, List, take, length, Option, Some, None, option_map, pos}
use Rattle.std.specs.Prelude.{negsuc}
use Rattle.std.proofs.Math.Seq.{take-append_seam}
use Rattle.nl_base.specs.Ranges.{Bounds, bracketed, HasNoRangeForm}
use Rattle.nl_base.specs.RangeForm.{range_form}
use Rattle.nl_base.proofs.RangeForm.{range_form-is, range_form-complete}
use Rattle.edif_values.specs.Names.{HasSize, NamesArray, NamesPort, named_array, array_name, original, port_original}
use Rattle.edif_values.specs.declared.name.PortName.{PortName}
use Rattle.edif_values.specs.declared.name.PortName.TheVariants.{Single, Array}

abbrev count_of : ℕ × Bounds → Option (ℕ × Bounds) → ℕ
count_of other None = other.0
count_of other (Some split) = split.0

abbrev range_of : ℕ × Bounds → Option (ℕ × Bounds) → Bounds
range_of other None = other.1
range_of other (Some split) = split.1

-- a text in range form is its base and its range
pub ranged : (text : List ℕ) (size count : ℕ) (range : Bounds) → ◌≡◌ {A = Option (ℕ × Bounds)} (Some (count, range)) (option_map (λ form. (length form.0, form.1)) (range_form text size)) → ◌≡◌ {A = List ℕ × Bounds} (take count text, range) (array_name text (pos size))
ranged text size count range e = by (range_form text size) refl e
  where
    by : (o : Option (List ℕ × Bounds)) → range_form text size ≡ o → ◌≡◌ {A = Option (ℕ × Bounds)} (Some (count, range)) (option_map (λ form. (length form.0, form.1)) o) → ◌≡◌ {A = List ℕ × Bounds} (take count text, range) (named_array text (pos size) o)
    by None is e = absurd cc
    by (Some form) is e =
        let has = range_form-is text size form.0 form.1 is in
        let base : take (length form.0) text ≡ form.0 = ap (take (length form.0)) has.is_text ∙ take-append_seam form.0 (bracketed has.bracket form.1) in
        let counts : count ≡ length form.0 = ap (count_of (count, range)) e in
        let ranges : range ≡ form.1 = ap (range_of (count, range)) e in
        rw (counts, ranges, base) refl

-- the name and the range of an array are those that the range form says
pub array_named : (text : List ℕ) (size : ℕ) → NamesArray text size (array_name text (pos size)).0 (array_name text (pos size)).1
array_named text size = by (range_form text size) refl
  where
    by : (o : Option (List ℕ × Bounds)) → range_form text size ≡ o → NamesArray text size (named_array text (pos size) o).0 (named_array text (pos size) o).1
    by None is =
        let none : HasNoRangeForm text size = λ base range form.
        let same : ◌≡◌ {A = Option (List ℕ × Bounds)} None (Some (base, range)) = sym is ∙ range_form-complete text size base range form in
        absurd cc in
        inr (none, refl, refl)
    by (Some form) is = inl (range_form-is text size form.0 form.1 is)

-- what is the original name of a port and its range names the port
pub port_named : (name : PortName) (text : List ℕ) (range : Option Bounds) → HasSize name → ◌≡◌ {A = List ℕ × Option Bounds} (text, range) (port_original name) → NamesPort name text range
port_named name text range sized e = subst (λ (z : List ℕ × Option Bounds). NamesPort name z.0 z.1) (sym e) (by name sized)
  where
    by : (name : PortName) → HasSize name → NamesPort name (port_original name).0 (port_original name).1
    by (Single name) sized = (refl, refl)
    by (Array name (pos size)) sized = array_named (original name) size
    by (Array name (negsuc n)) sized = sized
