-- Digests of names.
use Rattle.std.specs.Prelude.{ℕ, List, filter, map}
use Rattle.std.specs.Hash.FoldHasher.{initial, write, finish}
use Rattle.digests.specs.Sets.{DigestSets, is_again}
use Rattle.vlog_design.specs.Names.{Declaration, Name}

-- the digest of a name, by the hash of the library's tables
abbrev pub digest_of : Name → ℕ
digest_of name = finish (write initial name)

-- the digests of the names that are declared
abbrev pub digests_of : List Declaration → List ℕ
digests_of declarations = map (λ declaration. digest_of declaration.name) declarations

-- the declarations of names whose digests were noted again
abbrev pub met_again : DigestSets → List Declaration → List Declaration
met_again sets declarations = filter (λ declaration. is_again sets (digest_of declaration.name)) declarations
