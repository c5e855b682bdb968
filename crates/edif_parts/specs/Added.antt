-- The instances that are added for the constants, while they are chosen.
use Rattle.std.specs.Prelude.{◌≡◌, ℕ, false, List, map}
use Rattle.std.specs.List.{AllByRecursion}
use Rattle.edif_lookup.specs.Refusals.{is_in}
use Rattle.net_bits.specs.Names.{NameSet, has_name}
use Rattle.net_hier.specs.declared.cells.HInst.{HInst}
use Rattle.edif_written.specs.Sound.{IsShort}
use Rattle.edif_plans.specs.Made.{AreFree}
use Rattle.edif_plans.specs.declared.added.Added.{Added}

-- the set has these names, told apart byte for byte
pub record HasNames (set : NameSet) (names : List (List ℕ)) : Type 0 where
  pub by_bytes : set.up_to_case ≡ false
  pub has : (name : List ℕ) → has_name set name ≡ is_in name names

-- each is added under a short name that no instance has before it
pub record AreAdded (own : List HInst) (added : List Added) : Type 0 where
  pub free : AreFree (map (λ instance. instance.name) own) (map (λ one. one.name) added)
  pub short : AllByRecursion (λ one. IsShort one.name) added
