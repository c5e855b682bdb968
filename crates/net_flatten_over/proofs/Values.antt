-- equal facts give equal values of properties
use Rattle.std.proofs.Common.{◌≡◌, ℕ, List, [], ◌∷◌, ◌++◌, ◌==◌, Bool, false, refl, sym, ◌∙◌, ap, subst, subst₂, slice_get, Some, cond, arith}
use Rattle.std.specs.Prelude.{◌↔◌}
use Rattle.nl_base.specs.declared.value.PropValue.{PropValue}
use Rattle.net_hier.specs.Cells.{IsAnyConstantCell, IsConstantInstance, IsLeaf}
use Rattle.net_hier.specs.Constants.{ConstantNames}
use Rattle.net_hier.specs.Design.{Design, IsCell}
use Rattle.net_hier.specs.Facts.{Fact, OfCell, OfPort, OfInstance, CellFact, HasLastValue, InstanceFact, IsConstantPath, IsFact, PortFact, SameValues, cell_props}
use Rattle.net_hier.specs.Paths.{Path, CellAt}
use Rattle.net_hier.specs.SameDesign.{SamePorts}
use Rattle.net_hier.specs.Valid.{HasPaths, HaveOwnNames}
use Rattle.net_hier.specs.declared.cells.HCell.{HCell}
use Rattle.net_hier.specs.declared.cells.HInst.{HInst}
use Rattle.net_hier.specs.declared.cells.HPort.{HPort}
use Rattle.net_hier.specs.declared.cells.HProp.{HProp}
use Rattle.net_hier.proofs.Pairs.{signature_there, no_element}
use Rattle.net_hier.proofs.PathLaws.{one_cell, one_number, same_element}
use Rattle.net_flatten_rules.specs.SameFlat.{IsTop, SameInterface, TopInstance}

pub same_along : (a b c : List HProp) → SameValues a b → SameValues b c → SameValues a c
same_along a b c ab bc name value = (λ h. (bc name value).0 ((ab name value).0 h), λ h. (ab name value).1 ((bc name value).1 h))

pub interface_along : (a b c : HCell) → SameInterface a b → SameInterface b c → SameInterface a c
interface_along a b c ab bc = record {
  same_ports = ab.same_ports ∙ bc.same_ports;
  same_port_props = λ place port counterpart there othere.
      let (middle, mthere, signature) = signature_there a b ab.same_ports place port there in
      same_along port.props middle.props counterpart.props (ab.same_port_props place port middle there mthere) (bc.same_port_props place middle counterpart mthere othere);
}

-- the path of a cell that stands for no constant
pub no_constant_path : (names : ConstantNames) (design : Design) → HasPaths design → (path : Path) (cell : HCell) → CellAt design path cell → ¬ IsAnyConstantCell names cell → ¬ IsConstantPath names design path
no_constant_path names design paths path cell at none c = none (subst (IsAnyConstantCell names) (one_cell design paths path c.cell cell c.at at) c.is_constant)

pub no_constant_top : (names : ConstantNames) (design : Design) → ¬ IsConstantPath names design []
no_constant_top names design c = c.below_top refl

abbrev pub at_top : (design : Design) (top : HCell) → IsTop design top → CellAt design [] top
at_top design top is = record { number = design.top; leads = refl; is_cell = is }

-- the cell of an instance of the top, at the path of the instance's name
abbrev pub at_instance : (design : Design) (place : ℕ) (instance : HInst) (cell : HCell) → TopInstance design place instance cell → (name : List ℕ) → instance.name ≡ name → CellAt design (name ∷ []) cell
at_instance design place instance cell t name named = record {
  number = instance.cell;
  leads = (design.top, refl, record { cell = t.top; is_cell = t.is_top; number = place; instance = instance; is_there = t.is_there; is_named = named; is_of = refl });
  is_cell = t.is_of;
}

other_number : (a b : ℕ) → ¬ (a ≡ b) → (a == b) ≡ false
other_number a b differ = grind (arith, differ)

-- the design's properties stand on the top alone, which is no leaf that it has
pub leaf_props : (design : Design) (place : ℕ) (instance : HInst) (cell : HCell) → TopInstance design place instance cell → IsLeaf cell → cell_props design instance.cell cell ≡ cell.props
leaf_props design place instance cell t leaf =
    ap (λ b. cond b (cell.props ++ design.props) cell.props) (other_number instance.cell design.top (λ e.
    let p : cell ≡ t.top = same_element design.cells design.top cell t.top (subst (λ n. IsCell design.cells n cell) e t.is_of) t.is_top in
    no_element t.top.instances place instance (subst (λ c. c.instances ≡ []) p leaf.no_instances) t.is_there))

module _ (names : ConstantNames) (a b : Design) (paths : HasPaths b) (forth : (fact : Fact) → IsFact names a fact → IsFact names b fact) (path : Path) (free : ¬ IsConstantPath names a path)
    (cell other : HCell) (at : CellAt a path cell) (oat : CellAt b path other) where
  port_value : HaveOwnNames (λ port. port.name) other.ports → (place : ℕ) (port counterpart : HPort) → slice_get cell.ports place ≡ Some port → slice_get other.ports place ≡ Some counterpart → port.name ≡ counterpart.name →
      (name : List ℕ) (value : PropValue) → HasLastValue port.props name value → HasLastValue counterpart.props name value
  port_value own place port counterpart there othere same name value h =
      let f : PortFact b path port.name name value = (forth (OfPort path port.name name value) (free, record { cell = cell; at = at; number = place; the_port = port; is_there = there; is_named = refl; is_value = h })).1 in
      let e : f.cell ≡ other = one_cell b paths path f.cell other f.at oat in
      let found : slice_get other.ports f.number ≡ Some f.the_port = subst (λ c. slice_get c.ports f.number ≡ Some f.the_port) e f.is_there in
      let number : f.number ≡ place = own f.number place f.the_port counterpart found othere (f.is_named ∙ same) in
      let p : f.the_port ≡ counterpart = same_element other.ports place f.the_port counterpart (subst (λ n. slice_get other.ports n ≡ Some f.the_port) number found) othere in
      subst (λ t. HasLastValue t.props name value) p f.is_value

  cell_value : (name : List ℕ) (value : PropValue) → HasLastValue (cell_props a at.number cell) name value → HasLastValue (cell_props b oat.number other) name value
  cell_value name value h =
      let f : CellFact b path name value = (forth (OfCell path name value) (free, record { number = at.number; leads = at.leads; cell = cell; is_cell = at.is_cell; is_value = h })).1 in
      let n : f.number ≡ oat.number = one_number b paths path f.number oat.number f.leads oat.leads in
      let e : f.cell ≡ other = same_element b.cells oat.number f.cell other (subst (λ m. IsCell b.cells m f.cell) n f.is_cell) oat.is_cell in
      subst₂ (λ m c. HasLastValue (cell_props b m c) name value) n e f.is_value

  instance_value : (place oplace : ℕ) (instance counterpart : HInst) → slice_get cell.instances place ≡ Some instance → slice_get other.instances oplace ≡ Some counterpart → instance.name ≡ counterpart.name →
      ((constant : Bool) → ¬ IsConstantInstance names a.cells cell constant place) → (name : List ℕ) (value : PropValue) → HasLastValue instance.props name value → HasLastValue counterpart.props name value
  instance_value place oplace instance counterpart there othere same none name value h =
      let f : InstanceFact names b path instance.name name value =
      (forth (OfInstance path instance.name name value) (free, record { cell = cell; at = at; number = place; the_instance = instance; is_there = there; is_named = refl; no_constant = none; is_value = h })).1 in
      let e : f.cell ≡ other = one_cell b paths path f.cell other f.at oat in
      let found : slice_get other.instances f.number ≡ Some f.the_instance = subst (λ c. slice_get c.instances f.number ≡ Some f.the_instance) e f.is_there in
      let number : f.number ≡ oplace = paths.own_instances oat.number other oat.is_cell f.number oplace f.the_instance counterpart found othere (f.is_named ∙ same) in
      let p : f.the_instance ≡ counterpart = same_element other.instances oplace f.the_instance counterpart (subst (λ n. slice_get other.instances n ≡ Some f.the_instance) number found) othere in
      subst (λ t. HasLastValue t.props name value) p f.is_value

-- the cells at a path of two designs with equal facts
module _ (names : ConstantNames) (a b : Design) (paths : HasPaths a) (opaths : HasPaths b) (facts : (fact : Fact) → IsFact names a fact ↔ IsFact names b fact) (path : Path) (free : ¬ IsConstantPath names a path)
    (ofree : ¬ IsConstantPath names b path) (cell other : HCell) (at : CellAt a path cell) (oat : CellAt b path other) where
  pub same_port_values : HaveOwnNames (λ port. port.name) cell.ports → HaveOwnNames (λ port. port.name) other.ports → (place : ℕ) (port counterpart : HPort) → slice_get cell.ports place ≡ Some port → slice_get other.ports place ≡ Some counterpart → port.name ≡ counterpart.name → SameValues port.props counterpart.props
  same_port_values own oown place port counterpart there othere same name value = (
    port_value names a b opaths (λ f. (facts f).0) path free cell other at oat oown place port counterpart there othere same name value,
    port_value names b a paths (λ f. (facts f).1) path ofree other cell oat at own place counterpart port othere there (sym same) name value,
  )

  pub same_interface : HaveOwnNames (λ port. port.name) cell.ports → HaveOwnNames (λ port. port.name) other.ports → SamePorts cell other → SameInterface cell other
  same_interface own oown same = record {
    same_ports = same;
    same_port_props = λ place port counterpart there othere.
        let (found, fthere, signature) = signature_there cell other same place port there in
        let e : found ≡ counterpart = same_element other.ports place found counterpart fthere othere in
        same_port_values own oown place port counterpart there othere (sym (ap (λ f. f.name) signature) ∙ ap (λ t. t.name) e);
  }

  pub same_cell_values : SameValues (cell_props a at.number cell) (cell_props b oat.number other)
  same_cell_values name value = (
    cell_value names a b opaths (λ f. (facts f).0) path free cell other at oat name value,
    cell_value names b a paths (λ f. (facts f).1) path ofree other cell oat at name value,
  )

  pub same_instance_values : (place oplace : ℕ) (instance counterpart : HInst) → slice_get cell.instances place ≡ Some instance → slice_get other.instances oplace ≡ Some counterpart → instance.name ≡ counterpart.name →
      ((constant : Bool) → ¬ IsConstantInstance names a.cells cell constant place) → ((constant : Bool) → ¬ IsConstantInstance names b.cells other constant oplace) → SameValues instance.props counterpart.props
  same_instance_values place oplace instance counterpart there othere same none onone name value = (
    instance_value names a b opaths (λ f. (facts f).0) path free cell other at oat place oplace instance counterpart there othere same none name value,
    instance_value names b a paths (λ f. (facts f).1) path ofree other cell oat at oplace place counterpart instance othere there (sym same) onone name value,
  )
