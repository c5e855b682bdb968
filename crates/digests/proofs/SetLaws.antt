-- Sets of bits, and one digest more.
use Rattle.std.proofs.Common.{◌≡◌, ◌≢◌, ℕ, Bool, true, false, ◌==◌, ◌+◌, ◌-◌, ◌/◌, ◌%◌, ◌^◌, ◌<◌, ◌≤◌, max, cond, nat_eq, List, [], ◌∷◌, ◌++◌, get_or, length, refl, sym, ap, subst, ◌∙◌, arith}
use Rattle.std.specs.Int.{bit_at}
use Rattle.std.proofs.Math.ListN.{length-set}
use Rattle.std.proofs.lemmas.Bool.{eqb-true, eq-eqb, false≢true}
use Rattle.std.proofs.lemmas.List.{get_or-set_other, get_or-set_same}
use Rattle.std.proofs.lemmas.List.Sums.{sum_by_push}
use Rattle.std.proofs.lemmas.Nat.{and_le_r}
use Rattle.std.proofs.lemmas.Nat.Bits.{bit_at_or, bit_at-pow_other, bit_at-pow_same}
use Rattle.digests.specs.Sets.{AreNoted, DigestSets, HasRoom, has_bit, has_digest, place_of, times, with_bit, with_digest}

-- bits

with_bit_has : (mask i : ℕ) → has_bit (with_bit mask i) i ≡ true
with_bit_has mask i =
    let e : bit_at (with_bit mask i) i ≡ max (bit_at mask i) 1 = bit_at_or mask (2 ^ i) i ∙ ap (max (bit_at mask i)) (bit_at-pow_same i) in
    eq-eqb (bit_at (with_bit mask i) i) 1 (e ∙ omega arith)

with_bit_keeps : (mask i n : ℕ) → n ≢ i → has_bit (with_bit mask i) n ≡ has_bit mask n
with_bit_keeps mask i n other =
    let e : bit_at (with_bit mask i) n ≡ max (bit_at mask n) 0 = bit_at_or mask (2 ^ i) n ∙ ap (max (bit_at mask n)) (bit_at-pow_other i n other) in
    ap (λ b. b == 1) (e ∙ omega arith)

-- a bit that is there stays
bit_stays : (mask i n : ℕ) → has_bit mask n ≡ true → has_bit (with_bit mask i) n ≡ true
bit_stays mask i n h = by (n == i) refl
  where
    by : (b : Bool) → (n == i) ≡ b → has_bit (with_bit mask i) n ≡ true
    by true e = ap (has_bit (with_bit mask i)) (eqb-true n i e) ∙ with_bit_has mask i
    by false e = with_bit_keeps mask i n (λ same. false≢true (sym e ∙ eq-eqb n i same)) ∙ h

-- words

pub place_within : (words digest : ℕ) → 0 < words → place_of words digest < words
place_within words digest h = let below = and_le_r (digest / 64) (words - 1) in omega (arith, h, below)

module _ (words : List ℕ) (digest : ℕ) (some : 0 < length words) where
  abbrev place : ℕ
  place = place_of (length words) digest

  abbrev mask : ℕ
  mask = with_bit (get_or words place 0) (digest % 64)

  pub length_with : length (with_digest words digest) ≡ length words
  length_with = length-set words place mask

  -- a digest that is added is there
  pub digest_added : has_digest (with_digest words digest) digest ≡ true
  digest_added =
      ap (λ n. has_bit (get_or (with_digest words digest) (place_of n digest) 0) (digest % 64)) length_with
      ∙ (ap (λ m. has_bit m (digest % 64)) (get_or-set_same words place mask 0 (place_within (length words) digest some))
      ∙ with_bit_has (get_or words place 0) (digest % 64))

  -- one that is there stays
  pub digest_stays : (other : ℕ) → has_digest words other ≡ true → has_digest (with_digest words digest) other ≡ true
  digest_stays other h =
      ap (λ n. has_bit (get_or (with_digest words digest) (place_of n other) 0) (other % 64)) length_with
      ∙ by (place_of (length words) other == place) refl
    where
      by : (b : Bool) → (place_of (length words) other == place) ≡ b → has_bit (get_or (with_digest words digest) (place_of (length words) other) 0) (other % 64) ≡ true
      by true e =
          let same = eqb-true (place_of (length words) other) place e in
          ap (λ p. has_bit (get_or (with_digest words digest) p 0) (other % 64)) same
          ∙ (ap (λ m. has_bit m (other % 64)) (get_or-set_same words place mask 0 (place_within (length words) digest some))
          ∙ bit_stays (get_or words place 0) (digest % 64) (other % 64) (ap (λ p. has_bit (get_or words p 0) (other % 64)) (sym same) ∙ h))
      by false e =
          ap (λ m. has_bit m (other % 64)) (get_or-set_other words place (place_of (length words) other) mask 0 (λ same. false≢true (sym e ∙ eq-eqb (place_of (length words) other) place same)))
          ∙ h

-- what is noted

pub none_noted : (sets : DigestSets) → AreNoted sets []
none_noted sets = record { met = λ digest h. absurd (omega (arith, h)); again = λ digest h. absurd (omega (arith, h)) }

-- another digest that is the one at hand, or stands as often as before
counted : (digest other : ℕ) (noted : List ℕ) (least : ℕ) → least ≤ times (noted ++ digest ∷ []) other → ({c : Type 0} → (digest ≡ other → least ≤ times noted other + 1 → c) → (least ≤ times noted other → c) → c)
counted digest other noted least h = by (nat_eq other digest) refl (subst (λ n. least ≤ n) (sum_by_push (λ x. cond (nat_eq other x) 1 0) noted digest) h)
  where
    by : (b : Bool) → nat_eq other digest ≡ b → least ≤ times noted other + cond b 1 0 → ({c : Type 0} → (digest ≡ other → least ≤ times noted other + 1 → c) → (least ≤ times noted other → c) → c)
    by true e more = λ here there. here (sym (eqb-true other digest e)) more
    by false e same = λ here there. there (omega (arith, same))

module _ (old : DigestSets) (noted : List ℕ) (digest : ℕ) (room : HasRoom old) (are : AreNoted old noted) where
  -- a digest that was met
  pub noted_again : (met again : List ℕ) → has_digest old.met digest ≡ true → met ≡ old.met → again ≡ with_digest old.again digest → AreNoted (record { met = met; again = again }) (noted ++ digest ∷ [])
  noted_again met again there same more =
      let some : 0 < length old.again = subst (λ n. 0 < n) (sym room.1) room.0 in
      record {
        met = λ other h. ap (λ words. has_digest words other) same
            ∙ counted digest other noted 1 h
            (λ is _. ap (has_digest old.met) (sym is) ∙ there)
            (λ before. are.met other before);
        again = λ other h. ap (λ words. has_digest words other) more
            ∙ counted digest other noted 2 h
            (λ is _. ap (has_digest (with_digest old.again digest)) (sym is) ∙ digest_added old.again digest some)
            (λ before. digest_stays old.again digest some other (are.again other before));
      }

  -- one that was not met
  pub noted_first : (met again : List ℕ) → has_digest old.met digest ≡ false → met ≡ with_digest old.met digest → again ≡ old.again → AreNoted (record { met = met; again = again }) (noted ++ digest ∷ [])
  noted_first met again absent more same = record {
    met = λ other h. ap (λ words. has_digest words other) more
        ∙ counted digest other noted 1 h
        (λ is _. ap (has_digest (with_digest old.met digest)) (sym is) ∙ digest_added old.met digest room.0)
        (λ before. digest_stays old.met digest room.0 other (are.met other before));
    again = λ other h. ap (λ words. has_digest words other) same
        ∙ counted digest other noted 2 h
        (λ is twice. absurd (false≢true (sym absent ∙ (ap (has_digest old.met) is ∙ are.met other (omega (arith, twice))))))
        (λ before. are.again other before);
  }
