-- The bytes of a class at the front.
use Rattle.std.proofs.Common.{◌≡◌, ◌≤◌, ℕ, zero, suc, ◌+◌, ◌-◌, ◌<◌, ◌==◌, Bool, true, false, cond, List, [], ◌∷◌, length, get_or, take, drop, drop-cons, Option, Some, Ok, IsTrue, refl, sym, ap, ◌∙◌, arith, length-take, eqb-true}
use Rattle.std.proofs.lemmas.List.Sums.{prefix_len-le-length, prefix_len_stops}
use Rattle.nl_bytes.proofs.Uses.{Uses-front}
use Rattle.nl_bytes.specs.declared.bytes.TheConstants.{LIMIT}
use Rattle.std.specs.List.{AllByRecursion, prefix_len}
use Rattle.nl_base.specs.declared.place.Place.{Place}
use Rattle.nl_base.specs.Place.{place_past, place_along}
use Rattle.nl_base.proofs.Places.{place_past-along, place_past-offset}
use Rattle.nl_bytes.specs.declared.class.Class.{Class}
use Rattle.nl_bytes.specs.Classes.{in_class, AreIn}
use Rattle.nl_bytes.specs.Bytes.{Window, Runs}

one_more : (n : ℕ) → 1 + n ≡ suc n
one_more n = omega arith

pub front-in : (p : ℕ → Bool) (m : ℕ) (xs : List ℕ) → AllByRecursion (λ b. IsTrue (p b)) (take (prefix_len p (take m xs)) xs)
front-in p zero xs = tt
front-in p (suc m) [] = tt
front-in p (suc m) (x ∷ xs) = go (p x) refl (front-in p m xs)
  where
    go : (t : Bool) → p x ≡ t → AllByRecursion (λ b. IsTrue (p b)) (take (prefix_len p (take m xs)) xs) → AllByRecursion (λ b. IsTrue (p b)) (take (cond t (1 + prefix_len p (take m xs)) 0) (x ∷ xs))
    go true e rest = rw (one_more (prefix_len p (take m xs))) (e, rest)
    go false e rest = tt

pub front-stops : (p : ℕ → Bool) (m : ℕ) (xs : List ℕ) → 0 < m → 0 < length xs → prefix_len p (take m xs) ≡ 0 → p (get_or xs 0 0) ≡ false
front-stops p zero xs h k e = absurd (omega arith)
front-stops p (suc m) [] h k e = absurd (omega arith)
front-stops p (suc m) (x ∷ xs) h k e = go (p x) e
  where
    go : (t : Bool) → cond t (1 + prefix_len p (take m xs)) 0 ≡ 0 → t ≡ false
    go true e = absurd (omega arith)
    go false e = refl

not-line_feed : (p : ℕ → Bool) → p 10 ≡ false → (xs : List ℕ) → AllByRecursion (λ b. IsTrue (p b)) xs → AllByRecursion (λ b. (b == 10) ≡ false) xs
not-line_feed p h [] each = tt
not-line_feed p h (x ∷ xs) each = (go (x == 10) refl, not-line_feed p h xs each.1)
  where
    go : (t : Bool) → (x == 10) ≡ t → t ≡ false
    go false e = refl
    go true e = let ten : x ≡ 10 = eqb-true x 10 e in cc (ap p ten, h, each.0)

pub place-along : (class : Class) (p : Place) (xs : List ℕ) → in_class class 10 ≡ false → AreIn class xs → place_past p xs ≡ place_along p (length xs)
place-along class p xs h each = place_past-along p xs (not-line_feed (in_class class) h xs each)

-- what a scan of the first m held bytes found
pub record Found (class : Class) (held : List ℕ) (m n : ℕ) : Type 0 where
  pub most : n ≤ m
  pub enough : n ≤ length held
  pub each : AreIn class (take n held)
  pub stops : n ≡ 0 → 0 < m → 0 < length held → in_class class (get_or held 0 0) ≡ false

pub front-found : (class : Class) (held front : List ℕ) (m n : ℕ) → front ≡ take m held → n ≡ prefix_len (in_class class) front → Found class held m n
front-found class held front m n is count =
    let e : n ≡ prefix_len (in_class class) (take m held) = count ∙ ap (prefix_len (in_class class)) is in
    let within : n ≤ length (take m held) = rw e (prefix_len-le-length (in_class class) (take m held)) in
    record {
      most = omega (arith, length-take m held);
      enough = omega (arith, length-take m held);
      each = rw e (front-in (in_class class) m held);
      stops = λ z some any. front-stops (in_class class) m held some any (sym e ∙ z);
    }

-- held bytes of a class without a line feed are passed
pub passed-along : (class : Class) (p here next : Place) (held : List ℕ) (n : ℕ) → in_class class 10 ≡ false → n ≤ length held → AreIn class (take n held) → here ≡ p → next ≡ place_along here n → next ≡ place_past p (take n held)
passed-along class p here next held n h enough each e f =
    let len : length (take n held) ≡ n = omega (arith, length-take n held) in
    f ∙ ap (λ (q : Place). place_along q n) e ∙ ap (place_along p) (sym len) ∙ sym (place-along class p (take n held) h each)

-- all the bytes at the front
pub front-all : (p : ℕ → Bool) (xs : List ℕ) → AllByRecursion (λ b. IsTrue (p b)) (take (prefix_len p xs) xs)
front-all p [] = tt
front-all p (x ∷ xs) = go (p x) refl (front-all p xs)
  where
    go : (t : Bool) → p x ≡ t → AllByRecursion (λ b. IsTrue (p b)) (take (prefix_len p xs) xs) → AllByRecursion (λ b. IsTrue (p b)) (take (cond t (1 + prefix_len p xs) 0) (x ∷ xs))
    go true e rest = rw (one_more (prefix_len p xs)) (e, rest)
    go false e rest = tt

-- a whole run is held, and a byte after it
pub held_run : {class : Class} {most : ℕ} {old new : Window} {n next : ℕ} {text : List ℕ} (l : Option (List ℕ)) → n ≡ prefix_len (in_class class) old.held → n < length old.held → n ≤ most → old.place.offset + n ≤ LIMIT
    → new.held ≡ drop n old.held → new.place ≡ place_past old.place (take n old.held) → text ≡ take n old.held → next ≡ get_or old.held n 0
    → Runs class most old new l l [] text (Ok (Some next))
held_run {class} {most} {old} {new} {n} {next} {text} l run more enough limit held place text-is next-is =
    let used = take n old.held in
    let len : length used ≡ n = omega (arith, length-take n old.held) in
    let out : in_class class next ≡ false = ap (in_class class) next-is ∙ (rw run (prefix_len_stops (in_class class) old.held 0 (omega (arith, run)))) in
    record {
      used = used;
      uses = Uses-front old new l n held place;
      each = rw run (front-all (in_class class) old.held);
      bounded = omega arith;
      added = text-is;
      ahead = (drop (suc n) old.held, held ∙ drop-cons old.held n 0 more ∙ ap (λ (x : ℕ). x ∷ drop (suc n) old.held) (sym next-is));
      longest = λ inside. absurd (cc (out, inside));
      within = omega (arith, ap (λ (p : Place). p.offset) place, place_past-offset old.place used);
      too_long = λ h. absurd cc;
      used_up = λ h. absurd cc;
    }

-- a place whose column is told by the line's first byte
pub same_place : (p : Place) → p.column ≤ p.offset + 1 → record { offset = p.offset; line = p.line; column = p.offset + 1 - (p.offset + 1 - p.column) } ≡ p
same_place p le = let column : p.offset + 1 - (p.offset + 1 - p.column) ≡ p.column = omega arith in rw column refl

pub moved_along : (offset line begin n : ℕ) → begin ≤ offset → (p : Place) → p ≡ record { offset = offset; line = line; column = offset + 1 - begin }
    → record { offset = offset + n; line = line; column = offset + n + 1 - begin } ≡ place_along p n
moved_along offset line begin n le p is =
    let column : offset + n + 1 - begin ≡ (offset + 1 - begin) + n = omega arith in
    rw (is, column) refl
