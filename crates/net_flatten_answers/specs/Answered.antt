-- Cells that are those of a design, and what is answered for a design that is flattened.
use Rattle.std.specs.Prelude.{ℕ, ◌<◌, List, length}
use Rattle.net_flatten.specs.Flattening.{IsFirstRefusal, IsFlattening}
use Rattle.net_flatten_rules.specs.declared.refusal.FlattenRule.{FlattenRule}
use Rattle.net_graph.specs.Graph.{IsReached, ReachesItself}
use Rattle.net_hier.specs.Constants.{ConstantNames}
use Rattle.net_hier.specs.Design.{Design, IsCell, cells_below}
use Rattle.net_hier.specs.Valid.{IsGoodCell}
use Rattle.net_hier.specs.declared.cells.HCell.{HCell}

-- what holds of the cells of a valid design and the number of its top: all conditions of a design but its order and its size
pub record AreOfDesign (cells : List HCell) (top : ℕ) : Type 0 where
  pub has_top : top < length cells
  pub good_cells : (number : ℕ) (cell : HCell) → IsCell cells number cell → IsGoodCell cells cell
  pub reached : (number : ℕ) → number < length cells → IsReached (cells_below cells) top number
  pub no_recursion : (number : ℕ) → ¬ ReachesItself (cells_below cells) number

-- the design has a flattened one, and breaks no rule, or a first object that breaks a rule of flattened designs
pub data IsAnswered (names : ConstantNames) (design : Design) : Type 0 where
  flattened : (flat : Design) → IsFlattening names design flat → IsAnswered names design
  refused : (rule : FlattenRule) (cell : List ℕ) (words : List (List ℕ)) → IsFirstRefusal names design rule cell words → IsAnswered names design
