-- The sizes of the cells of a design, and the nodes in their joins.
use Rattle.std.proofs.Common.{◌≡◌, ℕ, zero, suc, ◌<◌, ◌≤◌, List, [], ◌∷◌, None, Some, length, slice_get, get_or, refl, ◌∙◌, ap, arith, sum_by}
use Rattle.std.proofs.lemmas.List.Sums.{sum_by-cons}
use Rattle.std.proofs.lemmas.Option.{slice_get_read}
use Rattle.net_bits.specs.Classes.{AreClasses, ClassTable}
use Rattle.net_bits.specs.Neighbours.{IsJoined}
use Rattle.net_hier.specs.Cells.{IsPortBit, width_of}
use Rattle.net_hier.specs.Design.{Design, IsCell}
use Rattle.net_hier.specs.Units.{cell_units, port_bits}
use Rattle.net_hier.specs.Valid.{Each, IsHier, IsPortWidth}
use Rattle.net_hier.specs.declared.cells.HCell.{HCell}
use Rattle.net_hier.specs.declared.cells.HPort.{HPort}
use Rattle.net_hier.specs.declared.nodes.Node.TheVariants.{Port, Net}
use Rattle.net_live.proofs.LiveLaws.{joined_node}

part_of_sum : {X : Type 0} (f : X → ℕ) (xs : List X) (i : ℕ) (x : X) → slice_get xs i ≡ Some x → f x ≤ sum_by f xs
part_of_sum f [] i x e = absurd (let g : None ≡ Some x = e in cc)
part_of_sum f (y ∷ xs) zero x e = let g : Some y ≡ Some x = e in let p : y ≡ x = cc in let q = ap f p in omega (arith, q, sum_by-cons f y xs)
part_of_sum f (y ∷ xs) (suc i) x e = let le = part_of_sum f xs i x e in omega (arith, le, sum_by-cons f y xs)

many_ports : (ports : List HPort) → Each IsPortWidth ports → length ports ≤ sum_by (λ (port : HPort). width_of port.range) ports
many_ports [] widths = omega arith
many_ports (port ∷ ports) widths =
    let one : 1 ≤ width_of port.range = (widths 0 port refl).0 in
    let rest = many_ports ports (λ place item e. widths (suc place) item e) in
    omega (arith, one, rest, sum_by-cons (λ (p : HPort). width_of p.range) port ports)

module _ (design : Design) (hier : IsHier design) (number : ℕ) (cell : HCell) (is_cell : IsCell design.cells number cell) where
  units_of : cell_units cell ≤ 33554432
  units_of = let le = part_of_sum cell_units design.cells number cell is_cell in omega (arith, le, hier.few_units)

  pub few_joins : length cell.joins ≤ 33554432
  few_joins = let h = units_of in omega (arith, h)

  pub few_ports : length cell.ports ≤ 33554432
  few_ports =
      let h : cell_units cell ≤ 33554432 = units_of in
      let m : length cell.ports ≤ port_bits cell = many_ports cell.ports (hier.valid.good_cells number cell is_cell).widths in
      omega (arith, h, m)

  -- the port bits and nets in joins are the cell's own
  module _ (classes : ClassTable) (are : AreClasses cell classes) where
    pub own_port : (port bit : ℕ) → IsJoined cell (Port port bit) → IsPortBit cell port bit
    own_port port bit h = let c = (are.joined (Port port bit)).0 h in joined_node design.cells cell classes are (hier.valid.good_cells number cell is_cell).joins_in_range (Port port bit) c.0 c.1

    pub own_net : (net : ℕ) → IsJoined cell (Net net) → net < length cell.nets
    own_net net h = let c = (are.joined (Net net)).0 h in joined_node design.cells cell classes are (hier.valid.good_cells number cell is_cell).joins_in_range (Net net) c.0 c.1

-- the cell that was read
pub cell_there : (cells read : List HCell) (number : ℕ) (cell : HCell) → read ≡ cells → number < length cells → cell ≡ get_or read number cell → IsCell cells number cell
cell_there cells read number cell same lt is = slice_get_read cells (length cells) number cell refl lt (is ∙ ap (λ l. get_or l number cell) same)
