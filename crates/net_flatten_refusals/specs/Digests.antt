-- Digests of texts, and numbers by their digests.
use Rattle.std.specs.Prelude.{ℕ, ◌*◌, ◌%◌, ◌^◌, List, [], Option, Some, None, bit_xor, nat_eq}
use Rattle.std.specs.List.{fold}
use Rattle.std.specs.declared.alloc.Global.{Global}
use Rattle.std.specs.declared.vec.Vec.{Vec}
use Rattle.indexmap.specs.IndexMap.{get}
use Rattle.net_flatten_refusals.specs.declared.digested.Digested.{Digested}

-- the digest with one more byte (the hash FNV-1a of 64 bits)
abbrev pub digest_step : ℕ → ℕ → ℕ
digest_step digest byte = (bit_xor digest byte * 1099511628211) % 2 ^ 64

-- the digest of a text with these bytes behind it, from that of the text
abbrev pub digest_from : ℕ → List ℕ → ℕ
digest_from digest bytes = fold digest_step digest bytes

-- the digest of no bytes
abbrev pub no_bytes : ℕ
no_bytes = 14695981039346656037

-- the digest of a text
abbrev pub digest_of : List ℕ → ℕ
digest_of text = digest_from no_bytes text

-- the items of a list, where there is one
abbrev pub items_of : Option (Vec ℕ Global) → List ℕ
items_of None = []
items_of (Some list) = list.items

-- the spots under a digest
unfoldable pub under : Digested → ℕ → List ℕ
under table digest = items_of (get nat_eq table.lists digest)
