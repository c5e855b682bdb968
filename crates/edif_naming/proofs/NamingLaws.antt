-- What is read of the names that are written.
use Rattle.std.proofs.Common.{◌≡◌, ℕ, suc, ◌+◌, ◌<◌, ◌≤◌, ◌^◌, add-one, append-nil, append_assoc, drop, drop-cons, get_or, length, map, Bool, true, false, cond, List, [], ◌∷◌, ◌++◌, Option, Some, None, pos, refl, sym, ap, ◌∙◌, subst}
use Rattle.std.specs.Borrow.{Bor}
use Rattle.std.proofs.lemmas.List.{map-append}
use Rattle.std.proofs.lemmas.Slice.Eq.{bytes_eq-Decides}
use Rattle.std.specs.Prelude.{nat_abs}
use Rattle.nl_base.specs.Case.{same_bytes}
use Rattle.nl_base.specs.Ranges.{Bounds, range_bits, square}
use Rattle.nl_base.specs.RangeForm.{range_form}
use Rattle.nl_base.proofs.RangeForm.{range_form-complete}
use Rattle.edif_values.specs.Names.{named_array, original, port_original, renamed_as}
use Rattle.edif_values.specs.declared.property.Property.{Property}
use Rattle.net_hier.specs.declared.cells.HProp.{HProp}
use Rattle.std.proofs.Math.ListN.{drop_of_length-le}
use Rattle.edif_spaces.specs.Spaces.{AreIdents}
use Rattle.edif_written.specs.Naming.{IsSmallRange, array_text, ident_of, name_for, port_name_for, property_for, seen, value_of}

-- the original name is the one that was handed in
pub original_name_for : (ident name : List ℕ) → original (name_for ident name) ≡ name
original_name_for ident name = by (same_bytes ident name) refl
  where
    by : (b : Bool) → same_bytes ident name ≡ b → renamed_as (cond b None (Some name)) ident ≡ name
    by true e = (bytes_eq-Decides ident name).0 e
    by false e = refl

-- the name of an identifier that is the original name
pub own_name : (ident name : List ℕ) → ident ≡ name → record { ident = ident; text = None } ≡ name_for ident name
own_name ident name is = ap (λ (b : Bool). record { ident = ident; text = cond b None (Some name) }) (sym ((bytes_eq-Decides ident name).1 is))

array_form : (name : List ℕ) (range : Bounds) → nat_abs range.left < 2 ^ 31 → nat_abs range.right < 2 ^ 31 → range_form (array_text name range) (range_bits range) ≡ Some (name, range)
array_form name range left right = range_form-complete (array_text name range) (range_bits range) name range (record { bracket = square; is_text = refl; left_fits = left; right_fits = right; is_size = refl })

-- a port's name and range are read back
pub port_original_for : (ident name : List ℕ) (range : Option Bounds) → IsSmallRange range → port_original (port_name_for ident name range) ≡ (name, range)
port_original_for ident name None small = ap (λ n. (n, None)) (original_name_for ident name)
port_original_for ident name (Some range) small =
    let text : List ℕ = array_text name range in
    ap (λ form. ((named_array text (pos (range_bits range)) form).0, Some (named_array text (pos (range_bits range)) form).1)) (array_form name range small.0 small.1)

-- and so is a property
pub value_of_made : (ident : List ℕ) (prop : HProp) → value_of (property_for ident prop) ≡ prop
value_of_made ident prop = ap (λ n. record { name = n; value = prop.value }) (original_name_for ident prop.name)

-- one property more
pub property_turn : (props : List (Bor HProp)) (place : ℕ) (d x : Bor HProp) (made new : List Property) (property : Property) (ident : List ℕ) → place < length props → x ≡ get_or props place d
    → map value_of made ++ seen (drop place props) ≡ seen props → new ≡ made ++ property ∷ [] → property ≡ property_for ident x.now → map value_of new ++ seen (drop (place + 1) props) ≡ seen props
property_turn props place d x made new property ident within is before is_new is_property =
    let made_so : map value_of new ≡ map value_of made ++ x.now ∷ [] = ap (map value_of) is_new ∙ (map-append value_of made (property ∷ []) ∙ ap (λ p. map value_of made ++ p ∷ []) (ap value_of is_property ∙ value_of_made ident x.now)) in
    (λ j. made_so j ++ seen (drop (add-one place j) props))
    ∙ (append_assoc (map value_of made) (x.now ∷ []) (seen (drop (suc place) props))
    ∙ (ap (λ ps. map value_of made ++ ps) (ap (λ y. y.now ∷ seen (drop (suc place) props)) is ∙ ap seen (sym (drop-cons props place d within))) ∙ before))

-- the identifiers of one property more
pub ident_turn : (words : List (List ℕ)) (place : ℕ) (d x : List ℕ) (made new : List Property) (property : Property) (prop : HProp) → place < length words → x ≡ get_or words place d
    → map ident_of made ++ drop place words ≡ words → new ≡ made ++ property ∷ [] → property ≡ property_for x prop → map ident_of new ++ drop (place + 1) words ≡ words
ident_turn words place d x made new property prop within is before is_new is_property =
    let shown : map ident_of new ≡ map ident_of made ++ x ∷ [] = ap (map ident_of) is_new ∙ (map-append ident_of made (property ∷ []) ∙ ap (λ (p : Property). map ident_of made ++ ident_of p ∷ []) is_property) in
    (λ j. shown j ++ drop (add-one place j) words)
    ∙ (append_assoc (map ident_of made) (x ∷ []) (drop (suc place) words)
    ∙ (ap (λ ys. map ident_of made ++ ys) (ap (λ y. y ∷ drop (suc place) words) is ∙ sym (drop-cons words place d within)) ∙ before))

-- and those of all
pub idents_end : (names idents words : List (List ℕ)) (place : ℕ) (made : List Property) → AreIdents names idents → words ≡ idents → length words ≤ place → map ident_of made ++ drop place words ≡ words → AreIdents names (map ident_of made)
idents_end names idents words place made are shown past whole =
    subst (AreIdents names) (sym (sym (append-nil (map ident_of made)) ∙ (ap (λ l. map ident_of made ++ l) (sym (drop_of_length-le words past)) ∙ (whole ∙ shown)))) are
