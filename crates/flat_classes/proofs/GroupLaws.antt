-- the groups of the terminals are the classes of their numbers
use Rattle.std.proofs.Common.{◌≡◌, ℕ, List, [], refl, sym, ◌∙◌, get_or}
use Rattle.std.specs.Prelude.{slice_index}
use Rattle.flat_classes.specs.Groups.{AreSame}
use Rattle.flat_numbers.specs.Linked.{label}
use Rattle.net_hier.specs.Constants.{ConstantNames}
use Rattle.net_hier.specs.Design.{Design}
use Rattle.net_hier.specs.Flat.{FlatNode}
use Rattle.net_hier.specs.Valid.{IsValid}
use Rattle.net_hier.specs.declared.nodes.Node.TheVariants.{Port as PortNode, Zero as ZeroNode, One as OneNode}
use Rattle.flat_numbers.specs.Numbers.{AreBases, IsNumber, of_zero, of_one, of_own, port_place}
use Rattle.flat_numbers.specs.Spots.{top_spot}
use Rattle.flat_classes.specs.TerminalNumbers.{AreFlatLabels, AreNumbered, HaveLabels, TerminalNumber, zero_number, one_number, port_number, pin_number}
use Rattle.flat_classes.specs.Terminals.{AreGroups, IsNodeOf, of_port, of_pin, of_zero as zero_node, of_one as one_node}
use Rattle.flat_classes.specs.declared.flat.Terminal.{Terminal}
use Rattle.flat_numbers.specs.declared.spots.Spot.{Spot}
use Rattle.flat_numbers.proofs.NumberLaws.{known}
use Rattle.flat_numbers.proofs.SpotLaws.{SpotFacts}
use Rattle.std.proofs.lemmas.Option.{get_or_from_slice_get, slice_get_within}

module _ (names : ConstantNames) (design : Design) (valid : IsValid design) (spots : List Spot) (facts : SpotFacts design.cells design.top spots) (base : ℕ → ℕ) (count : ℕ) (bases : AreBases design.cells spots base count) where
  -- the number of a terminal is that of its flat node
  pub terminal_is : (t : Terminal) (x : FlatNode) (u : ℕ) → IsNodeOf design.cells spots t x → TerminalNumber design.cells spots base t u → IsNumber design.cells spots base x u
  terminal_is t x u zero_node zero_number = let (cell, is) = known names design valid spots facts base count bases 0 (top_spot design.top) facts.first in
      record { path = []; number = 0; at = refl; cell = cell; of_cell = record { spot = top_spot design.top; is_spot = facts.first; is_cell = is }; node = ZeroNode; x_is = refl; node_number = of_zero }
  terminal_is t x u one_node one_number = let (cell, is) = known names design valid spots facts base count bases 0 (top_spot design.top) facts.first in
      record { path = []; number = 0; at = refl; cell = cell; of_cell = record { spot = top_spot design.top; is_spot = facts.first; is_cell = is }; node = OneNode; x_is = refl; node_number = of_one }
  terminal_is t x u of_port (port_number {cell = cell} {port = port} {bit = bit} of is) =
      record { path = []; number = 0; at = refl; cell = cell; of_cell = of; node = PortNode port bit; x_is = refl; node_number = of_own (port_place is) }
  terminal_is t x u (of_pin {path = path} at) (pin_number {spot = spot} {cell = cell} {port = port} {bit = bit} of is) =
      record { path = path; number = spot; at = at; cell = cell; of_cell = of; node = PortNode port bit; x_is = refl; node_number = of_own (port_place is) }

  -- equal groups are connection
  pub groups_are : (labels : List ℕ) → AreFlatLabels names design spots base count labels → (terminals : List Terminal) (groups found : List ℕ) → AreNumbered design.cells spots base terminals → HaveLabels design.cells spots base labels terminals found → AreSame found groups → AreGroups names design spots terminals (slice_index groups)
  groups_are labels are terminals groups found numbered have same i j s t x y is_s is_t x_of y_of =
      let (u, nu) = numbered i s is_s in
      let (v, nv) = numbered j t is_t in
      let fi = have.are i s u is_s nu in
      let fj = have.are j t v is_t nv in
      let ei : get_or found i 0 ≡ label labels u = get_or_from_slice_get found i (label labels u) 0 fi in
      let ej : get_or found j 0 ≡ label labels v = get_or_from_slice_get found j (label labels v) 0 fj in
      let g = same.same i j (slice_get_within found i (label labels u) fi) (slice_get_within found j (label labels v) fj) in
      let c = are.connected x y u v (terminal_is s x u x_of nu) (terminal_is t y v y_of nv) in
      (λ e. c.0 (sym ei ∙ (g.0 e ∙ ej)), λ h. g.1 (ei ∙ (c.1 h ∙ sym ej)))
