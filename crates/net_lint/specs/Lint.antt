-- The text of the findings.
use Rattle.std.specs.Prelude.{◌≡◌, ℕ, List, [], codes, length, slice_get}
use Rattle.net_hier.specs.Constants.{ConstantNames}
use Rattle.net_hier.specs.Design.{Design}
use Rattle.net_hier.specs.Paths.{Path}
use Rattle.flat_classes.specs.Terminals.{AreFlatClasses, FlatValue}
use Rattle.flat_report.specs.Report.{count_then, design_then, nets_then, terminals_then}
use Rattle.flat_classes.specs.Ways.{ArePaths}
use Rattle.net_lint.specs.Findings.{FoundIn, View}

-- the terminals that flat classes list
abbrev pub view_of : ConstantNames → Design → FlatValue → View
view_of names design flat = record { names = names; design = design; spots = flat.spots; terminals = flat.terminals }

-- the lines of the findings: how many there are of each kind, and their terminals
abbrev pub lint_then : Design → FlatValue → List Path → List ℕ → List ℕ → List (List ℕ) → List ℕ → List ℕ
lint_then design flat paths undriven floating several rest =
    design_then (slice_get design.cells design.top)
    (count_then (codes "undriven") (length undriven) (terminals_then design.cells flat.spots paths flat.terminals undriven
    (count_then (codes "floating") (length floating) (terminals_then design.cells flat.spots paths flat.terminals floating
    (count_then (codes "several") (length several) (nets_then design.cells flat.spots paths flat.terminals several rest))))))

-- the text tells exactly what is found in the design
pub record IsLint (names : ConstantNames) (design : Design) (text : List ℕ) : Type 0 where
  pub flat : FlatValue
  pub are_classes : AreFlatClasses names design flat
  pub paths : List Path
  pub are_paths : ArePaths design.cells flat.spots paths
  pub undriven : List ℕ
  pub floating : List ℕ
  pub several : List (List ℕ)
  pub found : FoundIn (view_of names design flat) undriven floating several
  pub is : text ≡ lint_then design flat paths undriven floating several []
