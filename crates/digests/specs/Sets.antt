-- Sets of digests, of each of which a bit is kept.
use Rattle.std.specs.Prelude.{◌≡◌, ℕ, ◌-◌, ◌/◌, ◌%◌, ◌^◌, ◌<◌, ◌≤◌, Bool, true, ◌==◌, List, bit_and, bit_or, count_by, length, nat_eq, slice_index_or, slice_set}
use Rattle.std.specs.Int.{bit_at}

-- the place of the word that has the bit of a digest, among so many words
abbrev pub place_of : ℕ → ℕ → ℕ
place_of words digest = bit_and (digest / 64) (words - 1)

-- whether the mask has the bit of this number
abbrev pub has_bit : ℕ → ℕ → Bool
has_bit mask i = bit_at mask i == 1

-- the mask with the bit of this number
abbrev pub with_bit : ℕ → ℕ → ℕ
with_bit mask i = bit_or mask (2 ^ i)

-- whether the words have the bit of the digest
abbrev pub has_digest : List ℕ → ℕ → Bool
has_digest words digest = has_bit (slice_index_or words (place_of (length words) digest) 0) (digest % 64)

-- the words with the bit of the digest
abbrev pub with_digest : List ℕ → ℕ → List ℕ
with_digest words digest = slice_set words (place_of (length words) digest) (with_bit (slice_index_or words (place_of (length words) digest) 0) (digest % 64))

-- the words of the digests that were noted, and of those that were noted again
pub record DigestSets : Type 0 where
  pub met : List ℕ
  pub again : List ℕ

-- there are words for both, and as many
abbrev pub HasRoom : DigestSets → Type 0
HasRoom sets = (0 < length sets.met) × (length sets.again ≡ length sets.met)

-- whether the digest is among those that were noted again
abbrev pub is_again : DigestSets → ℕ → Bool
is_again sets digest = has_digest sets.again digest

-- how often the digest stands among these
abbrev pub times : List ℕ → ℕ → ℕ
times noted digest = count_by (nat_eq digest) noted

-- these digests are noted, and those that stand among them at least twice are noted again
pub record AreNoted (sets : DigestSets) (noted : List ℕ) : Type 0 where
  pub met : (digest : ℕ) → 1 ≤ times noted digest → has_digest sets.met digest ≡ true
  pub again : (digest : ℕ) → 2 ≤ times noted digest → is_again sets digest ≡ true
