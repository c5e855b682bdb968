-- Texts cut at a byte.
use Rattle.std.proofs.Common.{◌≡◌, ℕ, ◌+◌, ◌<◌, ◌==◌, Bool, true, false, if◌then◌else◌, List, [], ◌∷◌, ◌++◌, take, drop, length, length-drop, drop-cons, slice_get, suc, ◌-◌, subst, Option, Some, None, option_map, refl, sym, ◌∙◌, ap, eq-eqb, arith}
use Rattle.std.proofs.lemmas.Bool.{eqb-true}
use Rattle.std.proofs.lemmas.List.{take-append-drop}
use Rattle.std.proofs.Math.Seq.{take-length}
use Rattle.std.proofs.lemmas.Option.{get_or_from_slice_get}
use Rattle.std.specs.Option.{option_and_then}
use Rattle.nl_base.specs.RangeForm.{IsFreeOf, cut_at_first, cut_at_last, cut_at_end}

pub free-append : (byte : ℕ) (xs ys : List ℕ) → IsFreeOf byte xs → IsFreeOf byte ys → IsFreeOf byte (xs ++ ys)
free-append byte [] ys h k = k
free-append byte (x ∷ xs) ys h k = (h.0, free-append byte xs ys h.1 k)

pub cut_first-none : (byte : ℕ) (xs : List ℕ) → IsFreeOf byte xs → cut_at_first byte xs ≡ None
cut_first-none byte [] h = refl
cut_first-none byte (x ∷ xs) h = rw (h.0, cut_first-none byte xs h.1) refl

pub cut_first-at : (byte : ℕ) (before after : List ℕ) → IsFreeOf byte before → cut_at_first byte (before ++ byte ∷ after) ≡ Some (before, after)
cut_first-at byte [] after h = rw (eq-eqb byte byte refl) refl
cut_first-at byte (x ∷ xs) after h = rw (h.0, cut_first-at byte xs after h.1) refl

pub cut_last-none : (byte : ℕ) (xs : List ℕ) → IsFreeOf byte xs → cut_at_last byte xs ≡ None
cut_last-none byte [] h = refl
cut_last-none byte (x ∷ xs) h = rw (cut_last-none byte xs h.1, h.0) refl

pub cut_last-at : (byte : ℕ) (before after : List ℕ) → IsFreeOf byte after → cut_at_last byte (before ++ byte ∷ after) ≡ Some (before, after)
cut_last-at byte [] after h = rw (cut_last-none byte after h, eq-eqb byte byte refl) refl
cut_last-at byte (x ∷ xs) after h = rw (cut_last-at byte xs after h) refl

pub cut_end-at : (xs : List ℕ) (x : ℕ) → cut_at_end (xs ++ x ∷ []) ≡ Some (xs, x)
cut_end-at [] x = refl
cut_end-at (y ∷ ys) x = rw (cut_end-at ys x) refl

-- the bytes round a place, in the words of a slice's parts
around : (byte : ℕ) (xs : List ℕ) (at : ℕ) → at < length xs → slice_get xs at ≡ Some byte → take at xs ++ byte ∷ drop (suc at) xs ≡ xs
around byte xs at within e =
    let here : byte ∷ drop (suc at) xs ≡ drop at xs = ap (λ b. b ∷ drop (suc at) xs) (sym (get_or_from_slice_get xs at byte byte e)) ∙ sym (drop-cons xs at byte within) in
    ap (λ rest. take at xs ++ rest) here ∙ take-append-drop at xs

rest_of : (xs : List ℕ) (at : ℕ) → drop (suc at) xs ≡ take (length xs - (at + 1)) (drop (at + 1) xs)
rest_of xs at =
    let one : at + 1 ≡ suc at = omega arith in
    rw one (rw (sym (length-drop (suc at) xs)) (sym (take-length (drop (suc at) xs))))

-- a place where a byte stands first, or last, is where the bytes are cut
pub cut_first-place : (byte : ℕ) (xs : List ℕ) (at : ℕ) → at < length xs → slice_get xs at ≡ Some byte → IsFreeOf byte (take at xs)
    → cut_at_first byte xs ≡ Some (take at xs, take (length xs - (at + 1)) (drop (at + 1) xs))
cut_first-place byte xs at within e free =
    let cut = cut_first-at byte (take at xs) (drop (suc at) xs) free in
    subst (λ ys. cut_at_first byte xs ≡ Some (take at xs, ys)) (rest_of xs at) (subst (λ ys. cut_at_first byte ys ≡ Some (take at xs, drop (suc at) xs)) (around byte xs at within e) cut)

pub cut_last-place : (byte : ℕ) (xs : List ℕ) (at : ℕ) → at < length xs → slice_get xs at ≡ Some byte → IsFreeOf byte (drop (at + 1) xs)
    → cut_at_last byte xs ≡ Some (take at xs, take (length xs - (at + 1)) (drop (at + 1) xs))
cut_last-place byte xs at within e free =
    let one : at + 1 ≡ suc at = omega arith in
    let cut = cut_last-at byte (take at xs) (drop (suc at) xs) (rw one at free) in
    subst (λ ys. cut_at_last byte xs ≡ Some (take at xs, ys)) (rest_of xs at) (subst (λ ys. cut_at_last byte ys ≡ Some (take at xs, drop (suc at) xs)) (around byte xs at within e) cut)

-- what an answer came from

pub option_and_then-Some : {A B : Type 0} (f : A → Option B) (o : Option A) (y : B) → option_and_then f o ≡ Some y → (x : A) × (o ≡ Some x) × (f x ≡ Some y)
option_and_then-Some f None y e = absurd cc
option_and_then-Some f (Some x) y e = (x, refl, e)

pub option_map-Some : {A B : Type 0} (f : A → B) (o : Option A) (y : B) → option_map f o ≡ Some y → (x : A) × (o ≡ Some x) × (f x ≡ y)
option_map-Some f None y e = absurd cc
option_map-Some f (Some x) y e = (x, refl, cc)

-- the two sides of a cut, or nothing
abbrev first_side : Option (List ℕ × List ℕ) → List ℕ
first_side None = []
first_side (Some sides) = sides.0

abbrev second_side : Option (List ℕ × List ℕ) → List ℕ
second_side None = []
second_side (Some sides) = sides.1

pub cut_first-is : (byte : ℕ) (xs before after : List ℕ) → cut_at_first byte xs ≡ Some (before, after) → xs ≡ before ++ byte ∷ after
cut_first-is byte [] before after e = absurd cc
cut_first-is byte (x ∷ xs) before after e = go (x == byte) refl (cut_at_first byte xs) refl (cut_first-is byte xs) e
  where
    go : (t : Bool) → (x == byte) ≡ t → (o : Option (List ℕ × List ℕ)) → cut_at_first byte xs ≡ o → ((b a : List ℕ) → cut_at_first byte xs ≡ Some (b, a) → xs ≡ b ++ byte ∷ a)
        → ◌≡◌ {A = Option (List ℕ × List ℕ)} (if◌then◌else◌ {A = Option (List ℕ × List ℕ)} t (Some ([], xs)) (option_map (λ sides. (x ∷ sides.0, sides.1)) o)) (Some (before, after)) → x ∷ xs ≡ before ++ byte ∷ after
    go true t o c more h = rw (sym (ap first_side h), sym (ap second_side h), eqb-true x byte t) refl
    go false t None c more h = absurd cc
    go false t (Some sides) c more h = rw (sym (ap first_side h), sym (ap second_side h)) (ap (λ rest. x ∷ rest) (more sides.0 sides.1 c))

pub cut_last-is : (byte : ℕ) (xs before after : List ℕ) → cut_at_last byte xs ≡ Some (before, after) → xs ≡ before ++ byte ∷ after
cut_last-is byte [] before after e = absurd cc
cut_last-is byte (x ∷ xs) before after e = go (x == byte) refl (cut_at_last byte xs) refl (cut_last-is byte xs) e
  where
    go : (t : Bool) → (x == byte) ≡ t → (o : Option (List ℕ × List ℕ)) → cut_at_last byte xs ≡ o → ((b a : List ℕ) → cut_at_last byte xs ≡ Some (b, a) → xs ≡ b ++ byte ∷ a)
        → ◌≡◌ {A = Option (List ℕ × List ℕ)} (elim o [ None ↦ if◌then◌else◌ {A = Option (List ℕ × List ℕ)} t (Some ([], xs)) None | Some sides ↦ Some (x ∷ sides.0, sides.1) ]) (Some (before, after)) → x ∷ xs ≡ before ++ byte ∷ after
    go t u (Some sides) c more h = rw (sym (ap first_side h), sym (ap second_side h)) (ap (λ rest. x ∷ rest) (more sides.0 sides.1 c))
    go true t None c more h = rw (sym (ap first_side h), sym (ap second_side h), eqb-true x byte t) refl
    go false t None c more h = absurd cc

-- the front and the last byte of a cut, or nothing
abbrev front_of : Option (List ℕ × ℕ) → List ℕ
front_of None = []
front_of (Some ends) = ends.0

abbrev last_of : Option (List ℕ × ℕ) → ℕ
last_of None = 0
last_of (Some ends) = ends.1

pub cut_end-is : (xs front : List ℕ) (last : ℕ) → cut_at_end xs ≡ Some (front, last) → xs ≡ front ++ last ∷ []
cut_end-is [] front last e = absurd cc
cut_end-is (x ∷ []) front last e = rw (sym (ap front_of e), sym (ap last_of e)) refl
cut_end-is (x ∷ (y ∷ ys)) front last e = go (cut_at_end (y ∷ ys)) refl (cut_end-is (y ∷ ys)) e
  where
    go : (o : Option (List ℕ × ℕ)) → cut_at_end (y ∷ ys) ≡ o → ((f : List ℕ) (l : ℕ) → cut_at_end (y ∷ ys) ≡ Some (f, l) → y ∷ ys ≡ f ++ l ∷ [])
        → ◌≡◌ {A = Option (List ℕ × ℕ)} (elim o [ None ↦ Some ([], x) | Some ends ↦ Some (x ∷ ends.0, ends.1) ]) (Some (front, last)) → x ∷ (y ∷ ys) ≡ front ++ last ∷ []
    go (Some ends) c more h = rw (sym (ap front_of h), sym (ap last_of h)) (ap (λ rest. x ∷ rest) (more ends.0 ends.1 c))
    go None c more h = absurd (never (cut_at_end ys) c)
      where
        never : (p : Option (List ℕ × ℕ)) → ◌≡◌ {A = Option (List ℕ × ℕ)} (elim p [ None ↦ Some ([], y) | Some ends ↦ Some (y ∷ ends.0, ends.1) ]) None → ⊥
        never None n = absurd cc
        never (Some ends) n = absurd cc
