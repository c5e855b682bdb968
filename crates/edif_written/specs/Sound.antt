-- Names and values that can be written in EDIF: names of at most 1,048,000 bytes, and strings of at most 1,048,576 (EDIF 2 0 0, rename, array, property).
use Rattle.std.specs.Prelude.{ℕ, ◌≤◌, List, length}
use Rattle.std.specs.List.{AllByRecursion}
use Rattle.edif_values.specs.Proper.{AreBytes}
use Rattle.edif_values.specs.Values.{IsPropValue}
use Rattle.net_hier.specs.declared.cells.HProp.{HProp}

-- bytes, of which there are at most 1,048,000
pub record IsShort (name : List ℕ) : Type 0 where
  pub bytes : AreBytes name
  pub short : length name ≤ 1048000

-- a property whose name and value can be written
pub record IsSoundProp (prop : HProp) : Type 0 where
  pub name : IsShort prop.name
  pub value : IsPropValue prop.value

abbrev pub AreSoundProps : List HProp → Type 0
AreSoundProps props = AllByRecursion IsSoundProp props
