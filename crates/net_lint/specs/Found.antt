-- The places that findings hold.
use Rattle.std.specs.Prelude.{◌≡◌, ◌<◌, List, All, length, ℕ}
use Rattle.flat_classes.specs.Terminals.{FlatValue}
use Rattle.net_lint.specs.Groups.{sets_of}
use Rattle.net_lint.specs.declared.findings.Findings.{Findings}

-- these are places of terminals
abbrev pub AreTerminals : FlatValue → List ℕ → Type 0
AreTerminals flat places = All (λ place. place < length flat.terminals) places

-- all places are those of terminals, and each group has its list of drivers
pub record FindingsFit (flat : FlatValue) (found : Findings) : Type 0 where
  pub undriven : AreTerminals flat found.undriven.items
  pub floating : AreTerminals flat found.floating.items
  pub firsts : AreTerminals flat found.firsts.items
  pub drivers : All (AreTerminals flat) found.drivers
  pub groups : length found.drivers ≡ flat.count

-- the sets of several drivers
abbrev pub several_in : FlatValue → Findings → List (List ℕ)
several_in flat found = sets_of flat.groups found.drivers found.firsts.items
