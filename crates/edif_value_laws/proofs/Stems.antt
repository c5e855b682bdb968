-- The names of constants are stems.
use Rattle.std.proofs.Common.{ℕ, ◌<◌, All, List}
use Rattle.std.proofs.lemmas.List.Elements.{recursion_from_All}
use Rattle.edif_plans.specs.Sound.{IsStem}
use Rattle.net_hier.specs.Constants.{IsNameLength}

pub is_stem : (text : List ℕ) → All (λ b. b < 256) text → IsNameLength text → IsStem text
is_stem text bytes len = record { bytes = recursion_from_All (λ b. b < 256) text bytes; short = len.1 }
