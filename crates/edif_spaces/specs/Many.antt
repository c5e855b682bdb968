-- Names that are told apart by their digests (EDIF 2 0 0, identifiers).
use Rattle.std.specs.Prelude.{ℕ, ◌&&◌, not, Bool, true, List, if◌then◌else◌}
use Rattle.digests.specs.Sets.{DigestSets, is_again}
use Rattle.net_bits.specs.Names.{NameSet, has_name, with_name}
use Rattle.net_bits.specs.NameTables.{digest_of}
use Rattle.edif_spaces.specs.Spaces.{can_be_own}

-- whether the digest of a name, which is that of names alike it up to case, is noted again
abbrev pub is_met_again : DigestSets → List ℕ → Bool
is_met_again sets name = is_again sets (digest_of true name)

-- whether a name is its own identifier, where a set has those of the names whose digests are noted again
abbrev pub is_own_by : DigestSets → NameSet → List ℕ → Bool
is_own_by sets given name = can_be_own name && not (is_met_again sets name && has_name given name)

-- the set with the name, where it can be an identifier and its digest is noted again
abbrev pub given_with : DigestSets → NameSet → List ℕ → NameSet
given_with sets given name = if can_be_own name && is_met_again sets name then with_name given name else given
