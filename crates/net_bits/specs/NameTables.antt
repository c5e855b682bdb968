-- How a set of names is kept: each name with the place of the last one before it that has the same digest.
use Rattle.std.specs.Prelude.{◌≡◌, ◌≢◌, ℕ, ◌*◌, ◌%◌, ◌^◌, ◌<◌, List, Bool, true, false, Option, Some, None, bit_xor, length, map, nat_eq, slice_index_or}
use Rattle.std.specs.List.{fold}
use Rattle.indexmap.specs.IndexMap.{IndexMap, get}
use Rattle.nl_base.specs.Case.{small}
use Rattle.net_bits.specs.Names.{NameSet}

-- a byte as it counts where names are told apart: up to case a capital letter counts as the small one
abbrev pub key_byte : Bool → ℕ → ℕ
key_byte false byte = byte
key_byte true byte = small byte

-- the digest with one more byte (the hash FNV-1a of 64 bits)
abbrev pub digest_step : ℕ → ℕ → ℕ
digest_step hash byte = (bit_xor hash byte * 1099511628211) % 2 ^ 64

-- the digest of a name, the same for names that are alike
abbrev pub digest_of : Bool → List ℕ → ℕ
digest_of up_to_case name = fold digest_step 14695981039346656037 (map (key_byte up_to_case) name)

-- the digests of the names
abbrev pub digests : NameSet → List ℕ
digests set = map (digest_of set.up_to_case) set.names

-- the last place before `bound` at which the digest stands, if there is one
abbrev pub IsLast : List ℕ → ℕ → ℕ → Option ℕ → Type 0
IsLast all digest bound None = (k : ℕ) → k < bound → slice_index_or all k 0 ≢ digest
IsLast all digest bound (Some place) = (place < bound) × (slice_index_or all place 0 ≡ digest) × ((k : ℕ) → place < k → k < bound → slice_index_or all k 0 ≢ digest)

-- for each digest the last place at which it stands, and for each name the last place before it with its digest
pub record HasLinks {S : Type 0} (set : NameSet) (earlier : List (Option ℕ)) (latest : IndexMap ℕ ℕ S) : Type 0 where
  pub len : length earlier ≡ length set.names
  pub latest_is : (digest : ℕ) → IsLast (digests set) digest (length set.names) (get nat_eq latest digest)
  pub earlier_is : (place : ℕ) → place < length set.names → IsLast (digests set) (slice_index_or (digests set) place 0) place (slice_index_or earlier place None)
