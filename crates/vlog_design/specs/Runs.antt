-- Bits as runs of nodes that follow one another, with so many bits that are nothing before each run.
use Rattle.std.specs.Prelude.{◌≡◌, ℕ, zero, suc, ◌+◌, ◌≤◌, ◌<◌, ◌^◌, List, [], ◌∷◌, ◌++◌, All, drop, flat_map, replicate, Option, Some, None}
use Rattle.net_hier.specs.declared.nodes.Node.{Node}
use Rattle.net_hier.specs.declared.nodes.Node.TheVariants.{Port, Pin, Net, Zero, One}
use Rattle.vlog_design.specs.declared.runs.Run.{Run}

-- the node so many places to the right: another bit of the port or pin, or another net; a constant is the same everywhere
abbrev pub node_after : Node → ℕ → Node
node_after (Port port bit) places = Port port (bit + places)
node_after (Pin «instance» port bit) places = Pin «instance» port (bit + places)
node_after (Net number) places = Net (number + places)
node_after Zero places = Zero
node_after One places = One

-- so many bits, from a node on
unfoldable pub nodes_from : Node → ℕ → List (Option Node)
nodes_from first zero = []
nodes_from first (suc count) = Some first ∷ nodes_from (node_after first 1) count

-- the number of a bit among those of its port or pin, or of a net among the nets
abbrev pub node_number : Node → ℕ
node_number (Port port bit) = bit
node_number (Pin «instance» port bit) = bit
node_number (Net number) = number
node_number Zero = 0
node_number One = 0

-- the bits of a run
unfoldable pub run_bits : Run → List (Option Node)
run_bits run = replicate run.gap None ++ nodes_from run.first run.count

-- a run whose numbers fit: those of its nodes, and that of the bits before them
pub record IsRun (run : Run) : Type 0 where
  pub numbers : node_number run.first + run.count ≤ 2 ^ 32
  pub gap_fits : run.gap < 2 ^ 64

-- the bits of runs, and then so many that are nothing
abbrev pub runs_bits : List Run → ℕ → List (Option Node)
runs_bits runs gap = flat_map run_bits runs ++ replicate gap None

-- the bits of runs behind so many of them
abbrev pub bits_behind : ℕ → List Run → List (Option Node)
bits_behind passed runs = drop passed (flat_map run_bits runs)

-- fewer bits are passed than the first run has, and none where no run is left
abbrev pub IsWithin : ℕ → List Run → Type 0
IsWithin passed [] = passed ≡ 0
IsWithin passed (run ∷ runs) = passed < run.gap + run.count

-- runs of which so many bits are passed
pub record ArePassed (passed : ℕ) (runs : List Run) : Type 0 where
  pub are_runs : All IsRun runs
  pub within : IsWithin passed runs
