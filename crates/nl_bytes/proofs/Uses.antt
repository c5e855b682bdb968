-- One call after another uses up bytes.
use Rattle.std.proofs.Common.{◌≡◌, ℕ, ◌+◌, ◌-◌, ◌≤◌, List, [], ◌∷◌, ◌++◌, length, get_or, take, drop, Option, Some, None, refl, sym, ap, ◌∙◌, subst, inl, inr, append_assoc, append-nil, length-take, length-drop, arith}
use Rattle.std.proofs.KnownBytes.{Consumes-trans, Consumes-nil}
use Rattle.std.proofs.lemmas.List.{take-append-drop, drop-drop}
use Rattle.std.specs.Io.KnownBytes.{Consumes, prepend_known}
use Rattle.std.specs.List.{AllByRecursion}
use Rattle.nl_base.specs.declared.place.Place.{Place}
use Rattle.nl_base.specs.Place.{place_after, place_past}
use Rattle.nl_base.proofs.Places.{place_past-append, place_past-offset}
use Rattle.nl_io.specs.Sources.{left_past}
use Rattle.nl_bytes.specs.Bytes.{Window, Uses, TakesWhenUsed, input, given}

-- ---- what a source has left

pub left_past-none : (l : Option (List ℕ)) → left_past 0 l ≡ l
left_past-none None = refl
left_past-none (Some x) = refl

pub left_past-past : (m n : ℕ) (l : Option (List ℕ)) → left_past n (left_past m l) ≡ left_past (m + n) l
left_past-past m n None = refl
left_past-past m n (Some x) = ap Some (drop-drop n m x)

-- a source after no more bytes were taken
pub left_past-same : (x y : ℕ) (l : Option (List ℕ)) → y ≡ x → l ≡ left_past (y - x) l
left_past-same x y l e =
    let none : 0 ≡ y - x = omega arith in
    sym (left_past-none l) ∙ ap (λ (n : ℕ). left_past n l) none

left_past-trans : (x y z : ℕ) (l m n : Option (List ℕ)) → x ≤ y → y ≤ z → m ≡ left_past (y - x) l → n ≡ left_past (z - y) m → n ≡ left_past (z - x) l
left_past-trans x y z l m n p q e f =
    let sum : (y - x) + (z - y) ≡ z - x = omega arith in
    f ∙ ap (left_past (z - y)) e ∙ left_past-past (y - x) (z - y) l ∙ ap (λ (k : ℕ). left_past k l) sum

-- ---- calls

-- nothing was used, and nothing was taken
pub Uses-none : (w : Window) (l : Option (List ℕ)) → Uses w w l l []
Uses-none w l = record {
  bytes = Consumes-nil (input w l);
  place = refl;
  taken = omega arith;
  suffix = left_past-same (given w) (given w) l refl;
  lazy = inl refl;
}

-- nothing was held, and what was taken is held
pub Uses-taken : (a b : Window) (l m : Option (List ℕ)) (taken : List ℕ) → a.held ≡ [] → b.held ≡ taken → b.place ≡ a.place → Consumes l m taken → m ≡ left_past (length taken) l → Uses a b l m []
Uses-taken a b l m taken none held place bytes left =
    let before : length a.held ≡ 0 = ap (λ (xs : List ℕ). length xs) none in
    let after : length b.held ≡ length taken = ap (λ (xs : List ℕ). length xs) held in
    let offset : b.place.offset ≡ a.place.offset = ap (λ (p : Place). p.offset) place in
    let count : length taken ≡ given b - given a = omega arith in
    record {
      bytes = subst (λ (xs : List ℕ). Consumes (prepend_known xs l) (prepend_known b.held m) []) (sym none) (subst (λ (xs : List ℕ). Consumes (prepend_known [] l) (prepend_known xs m) []) (sym held) (go l m bytes));
      place = place;
      taken = omega arith;
      suffix = left ∙ ap (λ (n : ℕ). left_past n l) count;
      lazy = inr (omega arith);
    }
  where
    go : (l m : Option (List ℕ)) → Consumes l m taken → Consumes (prepend_known [] l) (prepend_known taken m) []
    go None m h = tt
    go (Some x) None h = absurd h
    go (Some x) (Some y) h = h

-- the bytes that are used take the reader on
pub offset_grows : {old new : Window} {l m : Option (List ℕ)} {used : List ℕ} → Uses old new l m used → new.place.offset ≡ old.place.offset + length used
offset_grows {old} {new} {l} {m} {used} u = ap (λ (q : Place). q.offset) u.place ∙ place_past-offset old.place used

-- over two calls too bytes are taken only where all that were taken before are used
pub takes_then : (a b c : Window) → b.place.offset ≤ c.place.offset → TakesWhenUsed a b → TakesWhenUsed b c → TakesWhenUsed a c
takes_then a b c on (inl e) (inl f) = inl (f ∙ e)
takes_then a b c on (inl e) (inr f) = inr (omega (arith, e, f))
takes_then a b c on (inr e) q = inr (omega (arith, on, e))

pub Uses-trans : (a b c : Window) (l m n : Option (List ℕ)) (xs ys : List ℕ) → Uses a b l m xs → Uses b c m n ys → Uses a c l n (xs ++ ys)
Uses-trans a b c l m n xs ys p q =
    let offset : c.place.offset ≡ b.place.offset + length ys = ap (λ (p : Place). p.offset) q.place ∙ place_past-offset b.place ys in
    record {
      bytes = Consumes-trans (input a l) (input b m) (input c n) xs ys p.bytes q.bytes;
      place = q.place ∙ ap (λ (p : Place). place_past p ys) p.place ∙ sym (place_past-append a.place xs ys);
      taken = omega (arith, p.taken, q.taken);
      suffix = left_past-trans (given a) (given b) (given c) l m n p.taken q.taken p.suffix q.suffix;
      lazy = takes_then a b c (omega (arith, offset)) p.lazy q.lazy;
    }

-- bytes that are held are used
pub Uses-front : (a b : Window) (left : Option (List ℕ)) (n : ℕ) → b.held ≡ drop n a.held → b.place ≡ place_past a.place (take n a.held) → Uses a b left left (take n a.held)
Uses-front a b left n held place =
    let used = take n a.held in
    let offset : b.place.offset ≡ a.place.offset + length used = ap (λ (p : Place). p.offset) place ∙ place_past-offset a.place used in
    let kept : length b.held ≡ length (drop n a.held) = ap (λ (xs : List ℕ). length xs) held in
    let same : given b ≡ given a = omega (arith, offset, kept, length-take n a.held, length-drop n a.held) in
    record {
      bytes = go left;
      place = place;
      taken = omega (arith, same);
      suffix = left_past-same (given a) (given b) left same;
      lazy = inl same;
    }
  where
    go : (left : Option (List ℕ)) → Consumes (input a left) (input b left) (take n a.held)
    go None = tt
    go (Some left) = ap (λ (xs : List ℕ). xs ++ left) (sym (take-append-drop n a.held)) ∙ append_assoc (take n a.held) (drop n a.held) left ∙ ap (λ (xs : List ℕ). take n a.held ++ (xs ++ left)) (sym held)

-- the byte ahead is used
pub Uses-byte : (a b : Window) (left : Option (List ℕ)) (byte : ℕ) (rest : List ℕ) → a.held ≡ byte ∷ rest → b.held ≡ drop 1 a.held → b.place ≡ place_after a.place (get_or a.held 0 0) → Uses a b left left (byte ∷ [])
Uses-byte a b left byte rest ahead held place =
    let used : take 1 a.held ≡ byte ∷ [] = ap (λ (xs : List ℕ). take 1 xs) ahead in
    let past : b.place ≡ place_past a.place (take 1 a.held) = place ∙ ap (λ (xs : List ℕ). place_after a.place (get_or xs 0 0)) ahead ∙ ap (place_past a.place) (sym used) in
    subst (Uses a b left left) used (Uses-front a b left 1 held past)

-- after a look, the byte ahead is used
pub Uses-next : (a b c d : Window) (l m n : Option (List ℕ)) (xs : List ℕ) (byte : ℕ) (rest : List ℕ) → Uses a b l m xs → Uses b c m n [] → c.held ≡ byte ∷ rest → d.held ≡ drop 1 c.held → d.place ≡ place_after c.place (get_or c.held 0 0) → Uses a d l n (xs ++ byte ∷ [])
Uses-next a b c d l m n xs byte rest p q ahead held place =
    Uses-trans a b d l m n xs (byte ∷ []) p (Uses-trans b c d m n n [] (byte ∷ []) q (Uses-byte c d n byte rest ahead held place))

-- after a look, bytes that are held are used
pub Uses-passed : {a b c : Window} {l m n : Option (List ℕ)} {xs : List ℕ} → Uses a b l m xs → Uses b c m n [] → (d : Window) (k : ℕ) → d.held ≡ drop k c.held → d.place ≡ place_past c.place (take k c.held) → Uses a d l n (xs ++ take k c.held)
Uses-passed {a} {b} {c} {l} {m} {n} {xs} p q d k held place =
    Uses-trans a b d l m n xs (take k c.held) p (Uses-trans b c d m n n [] (take k c.held) q (Uses-front c d n k held place))

-- after a look, nothing more is used
pub Uses-looked : {a b c : Window} {l m n : Option (List ℕ)} {xs : List ℕ} → Uses a b l m xs → Uses b c m n [] → Uses a c l n xs
Uses-looked {a} {b} {c} {l} {m} {n} {xs} p q = subst (Uses a c l n) (append-nil xs) (Uses-trans a b c l m n xs [] p q)

pub AllByRecursion-push : {X : Type 0} (P : X → Type 0) (xs : List X) (x : X) → AllByRecursion P xs → P x → AllByRecursion P (xs ++ x ∷ [])
AllByRecursion-push P [] x h p = (p, tt)
AllByRecursion-push P (y ∷ ys) x h p = (h.0, AllByRecursion-push P ys x h.1 p)

pub AllByRecursion-append : {X : Type 0} (P : X → Type 0) (xs ys : List X) → AllByRecursion P xs → AllByRecursion P ys → AllByRecursion P (xs ++ ys)
AllByRecursion-append P [] ys h k = k
AllByRecursion-append P (x ∷ xs) ys h k = (h.0, AllByRecursion-append P xs ys h.1 k)
