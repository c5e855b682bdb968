-- The digests of joined names.
use Rattle.std.specs.Prelude.{ℕ, ◌==◌, List, map, slice_index}
use Rattle.std.specs.List.{filter}
use Rattle.net_hier.specs.Paths.{Path}
use Rattle.net_flatten_rules.specs.Joined.{joined}
use Rattle.net_flatten_refusals.specs.Digests.{digest_of}

-- the digest of the joined name of a path
abbrev pub path_digest : Path → ℕ
path_digest path = digest_of (joined path)

-- the digests of the joined names of paths
abbrev pub digests_of : List Path → List ℕ
digests_of paths = map path_digest paths

-- the spots of this digest, where the list has the digest of each spot
abbrev pub of_digest : List ℕ → ℕ → List ℕ → List ℕ
of_digest digests digest spots = filter (λ spot. slice_index digests spot == digest) spots
