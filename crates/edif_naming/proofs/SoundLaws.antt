-- Names and properties that are written are values.
use Rattle.std.proofs.Common.{arith, lit<, ◌≡◌, ℕ, zero, suc, ◌+◌, ◌<◌, ◌≤◌, ◌^◌, Bool, true, false, cond, List, [], ◌∷◌, ◌++◌, Option, Some, None, get_or, length, length-append, ℤ, pos, negsuc, sym, subst}
use Rattle.std.specs.Borrow.{Bor}
use Rattle.std.specs.Prelude.{IfSome, nat_abs}
use Rattle.std.specs.Fmt.{signed_decimal}
use Rattle.std.specs.List.{AllByRecursion}
use Rattle.std.proofs.lemmas.Fmt.{IsAscii-signed, length_signed_le}
use Rattle.std.proofs.lemmas.Int.{ints}
use Rattle.std.specs.Int.Signed.{mag}
use Rattle.std.specs.Str.{IsAscii}
use Rattle.nl_base.specs.Case.{same_bytes}
use Rattle.nl_base.specs.Ranges.{Bounds, bracketed, range_bits, square}
use Rattle.edif_values.specs.Proper.{AreBytes}
use Rattle.edif_values.specs.Values.{IsString, IsWord, IsNameDef, IsPortName, IsProperty}
use Rattle.edif_values.specs.declared.property.Property.{Property}
use Rattle.net_hier.specs.declared.cells.HProp.{HProp}
use Rattle.edif_written.specs.Naming.{IsSmallRange, array_text, name_for, port_name_for, property_for, seen}
use Rattle.edif_written.specs.Sound.{AreSoundProps, IsShort, IsSoundProp}
use Rattle.edif_written.proofs.Lists.{all_append, all_push}

-- ---- names

pub short_string : (name : List ℕ) → IsShort name → IsString name
short_string name h = (h.bytes, omega (arith, h.short))

pub sound_name : (ident name : List ℕ) → IsWord ident → IsString name → IsNameDef (name_for ident name)
sound_name ident name word string = record { ident = word; text = by (same_bytes ident name) }
  where
    by : (b : Bool) → IfSome (cond b None (Some name)) IsString
    by true = tt
    by false = string

pub ascii_bytes : (bs : List ℕ) → IsAscii bs → AreBytes bs
ascii_bytes [] h = tt
ascii_bytes (b ∷ bs) h = (let first : b < 128 = h 0 in omega (arith, first), ascii_bytes bs (λ i. h (suc i)))

small_mag : (z : ℤ) → nat_abs z < 2 ^ 31 → mag z < 2 ^ 63
small_mag (pos n) small = omega (arith, small)
small_mag (negsuc n) small = omega (arith, small)

few_digits : (z : ℤ) → nat_abs z < 2 ^ 31 → mag z + 1 < 10 ^ 10
few_digits (pos n) small = omega (arith, small)
few_digits (negsuc n) small = omega (arith, small)

number_bytes : (z : ℤ) → nat_abs z < 2 ^ 31 → AreBytes (signed_decimal z)
number_bytes z small = ascii_bytes (signed_decimal z) (IsAscii-signed z (small_mag z small))

number_short : (z : ℤ) → nat_abs z < 2 ^ 31 → length (signed_decimal z) ≤ 11
number_short z small = let e : length (signed_decimal z) ≤ 10 + 1 = length_signed_le 10 z (few_digits z small) (small_mag z small) in omega (arith, e)

array_string : (name : List ℕ) (range : Bounds) → IsShort name → IsSmallRange (Some range) → IsString (array_text name range)
array_string name range h small =
    let left = number_short range.left small.0 in
    let right = number_short range.right small.1 in
    let inner = length-append (signed_decimal range.right) (93 ∷ []) in
    let outer = length-append (signed_decimal range.left) (58 ∷ (signed_decimal range.right ++ 93 ∷ [])) in
    let whole = length-append name (bracketed square range) in (
      all_append (λ b. b < 256) name (bracketed square range) h.bytes (
        lit< tt,
        all_append (λ b. b < 256) (signed_decimal range.left) (58 ∷ (signed_decimal range.right ++ 93 ∷ [])) (number_bytes range.left small.0)
            (lit< tt, all_append (λ b. b < 256) (signed_decimal range.right) (93 ∷ []) (number_bytes range.right small.1) (lit< tt, tt)),
      ),
      omega (arith, h.short, left, right, inner, outer, whole),
    )

bits_small : (range : Bounds) → nat_abs range.left < 2 ^ 31 → nat_abs range.right < 2 ^ 31 → range_bits range < 2 ^ 63
bits_small range left right = omega (arith, ints, left, right)

pub sound_port_name : (ident name : List ℕ) (range : Option Bounds) → IsWord ident → IsShort name → IsSmallRange range → IsPortName (port_name_for ident name range)
sound_port_name ident name None word h small = sound_name ident name word (short_string name h)
sound_port_name ident name (Some range) word h small = (record { ident = word; text = array_string name range h small }, bits_small range small.0 small.1)

-- ---- properties

pub sound_property : (ident : List ℕ) (prop : HProp) → IsWord ident → IsSoundProp prop → IsProperty (property_for ident prop)
sound_property ident prop word h = record { name = sound_name ident prop.name word (short_string prop.name h.name); value = h.value; tail = tt }

-- a property of these parts
pub made_sound : (ident : List ℕ) (prop : HProp) (made : Property) → made ≡ property_for ident prop → IsWord ident → IsSoundProp prop → IsProperty made
made_sound ident prop made is word h = subst IsProperty (sym is) (sound_property ident prop word h)

-- one property more
pub properties_sound : (props : List (Bor HProp)) (place : ℕ) (d x : Bor HProp) (made new : List Property) (property : Property) → place < length props → x ≡ get_or props place d
    → (AreSoundProps (seen props) → AllByRecursion IsProperty made) → new ≡ made ++ property ∷ [] → (IsSoundProp x.now → IsProperty property) → AreSoundProps (seen props) → AllByRecursion IsProperty new
properties_sound props place d x made new property within is before is_new sound all = all_push IsProperty made new property (before all) (sound (seen_at props place x d all within is)) is_new
  where
    seen_at : (ps : List (Bor HProp)) (i : ℕ) (x d : Bor HProp) → AreSoundProps (seen ps) → i < length ps → x ≡ get_or ps i d → IsSoundProp x.now
    seen_at [] i x d h within is = absurd (omega arith)
    seen_at (y ∷ ys) zero x d h within is = subst (λ (b : Bor HProp). IsSoundProp b.now) (sym is) h.0
    seen_at (y ∷ ys) (suc i) x d h within is = seen_at ys i x d h.1 (omega arith) is
