-- What `flatten` answers.
use Rattle.std.specs.Prelude.{◌≡◌, ℕ, List, [], Some}
use Rattle.flat_classes.specs.FlatFaults.{IsFlatFault}
use Rattle.flat_classes.specs.FlatSums.{IsFewFlat}
use Rattle.flat_classes.specs.Terminals.{AreFlatClasses, FlatValue}
use Rattle.flat_classes.specs.declared.flat.FlatFault.{FlatFault}
use Rattle.flat_classes.specs.declared.flat.FlatFault.TheVariants as faults
use Rattle.flat_classes.specs.Ways.{ArePaths}
use Rattle.net_flatten.specs.declared.flattening.FlattenError.{FlattenError}
use Rattle.net_flatten.specs.declared.flattening.FlattenError.TheVariants.{FlatTooLarge, Refused, NoMemory}
use Rattle.net_flatten_rules.specs.FlatDesign.{IsFlattened}
use Rattle.net_flatten_rules.specs.Rules.{first_of, refusals, refused}
use Rattle.net_flatten_rules.specs.declared.refusal.Broken.{Broken}
use Rattle.net_flatten_rules.specs.declared.refusal.FlattenRule.{FlattenRule}
use Rattle.net_hier.specs.Constants.{ConstantNames}
use Rattle.net_hier.specs.Design.{Design}
use Rattle.net_hier.specs.Paths.{Path}

-- the other design is the flattened one, whose flat count is within the limit, and no rule is broken
pub record IsFlattening (names : ConstantNames) (design other : Design) : Type 0 where
  pub few : IsFewFlat design
  pub is_flattened : IsFlattened names design other.cells other.top other.props
  pub no_refusals : refusals design is_flattened.paths is_flattened.flat ≡ []

-- the flat count is within the limit, and this is the first refusal
pub record IsFirstRefusal (names : ConstantNames) (design : Design) (rule : FlattenRule) (cell : List ℕ) (words : List (List ℕ)) : Type 0 where
  pub few : IsFewFlat design
  pub flat : FlatValue
  pub are_classes : AreFlatClasses names design flat
  pub paths : List Path
  pub are_paths : ArePaths design.cells flat.spots paths
  pub is_first : first_of (refusals design paths flat) ≡ Some (refused rule cell words)

-- why the design is not flattened; want of memory has no cause
abbrev pub IsFlattenError : ConstantNames → Design → FlattenError → Type 0
IsFlattenError names design (FlatTooLarge count) = IsFlatFault design (faults.TooLarge count)
IsFlattenError names design (Refused rule cell words) = IsFirstRefusal names design rule cell words
IsFlattenError names design NoMemory = Unit {0}

-- the answer for a design that is not taken apart
abbrev pub flatten_fault : FlatFault → FlattenError
flatten_fault (faults.TooLarge count) = FlatTooLarge count
flatten_fault faults.NoMemory = NoMemory

-- the answer for an object that breaks a rule
abbrev pub refusal_of : Broken → FlattenError
refusal_of broken = Refused broken.rule broken.cell broken.names
