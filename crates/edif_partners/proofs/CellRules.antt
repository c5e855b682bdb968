-- What is made of a cell breaks no rule.
use Rattle.std.proofs.Common.{arith, ◌≡◌, ℕ, zero, suc, ◌<◌, Bool, true, List, [], ◌∷◌, Some, length, refl, sym, subst}
use Rattle.std.specs.Prelude.{slice_get}
use Rattle.edif_values.specs.declared.name.NameDef.{NameDef}
use Rattle.edif_values.specs.declared.cell.Cell.{Cell}
use Rattle.net_bits.specs.Classes.{AreClasses, ClassTable}
use Rattle.net_hier.specs.Valid.{IsGoodCell}
use Rattle.net_hier.specs.declared.cells.HCell.{HCell}
use Rattle.net_hier.specs.declared.cells.HProp.{HProp}
use Rattle.net_live.specs.Live.{needs_constant}
use Rattle.edif_meanings.specs.Apart.{AreApart}
use Rattle.edif_design.specs.CellRules.{cell_refusals}
use Rattle.edif_design.specs.References.{place_in}
use Rattle.edif_written.specs.Written.{file_of}
use Rattle.edif_written.proofs.CellLaws.{cell_none}
use Rattle.edif_written.specs.Naming.{name_for}
use Rattle.edif_plans.specs.Made.{IsMadeCell}
use Rattle.edif_plans.specs.References.{CellPlan}
use Rattle.edif_plans.specs.declared.head.Head.{Head}
use Rattle.edif_plans.specs.declared.plan.Plan.{Plan}
use Rattle.edif_partners.specs.Placed.{ArePlaced, ConstantStands}
use Rattle.edif_partners.proofs.InstanceRules.{instances_good}
use Rattle.edif_partners.proofs.NetRules.{nets_good}
use Rattle.edif_partners.proofs.PortRules.{ports_good}

item_there : {A : Type 0} (xs : List A) (i : ℕ) → i < length xs → (x : A) × (slice_get xs i ≡ Some x)
item_there [] i h = absurd (omega (arith, h))
item_there (x ∷ xs) zero h = (x, refl)
item_there (x ∷ xs) (suc i) h = item_there xs i (omega (arith, h))

pub made_none : (name design_name : NameDef) (cells : List Cell) (top : List ℕ) (design_cells : List HCell) (plan : Plan) → ArePlaced design_cells plan cells → (head : Head) (cell : HCell) (props : List HProp) (classes : ClassTable) (made : Cell)
    → IsMadeCell design_cells plan head cell props classes made → AreApart head.ports → AreClasses cell classes → IsGoodCell design_cells cell → ((value : Bool) → needs_constant classes value ≡ true → ConstantStands plan cells value)
    → cell_refusals (file_of name design_name cells top) (place_in 0 made) ≡ []
made_none name design_name cells top design_cells plan placed head cell props classes made is ports_apart are good constants =
    let cell_plan : CellPlan = record { cells = design_cells; plan = plan; cell = cell; head = head; instances = is.instances } in
    subst (λ (d : Cell). cell_refusals (file_of name design_name cells top) (place_in 0 d) ≡ []) (sym is.is_cell)
    (cell_none name design_name cells top placed.apart placed.viewed (name_for head.cell cell.name) is.ports is.made_instances is.nets is.properties
    (ports_good head cell is.ports is.are_ports ports_apart good.port_names good.widths)
    (instances_good name design_name cells top design_cells plan placed cell classes is.instances is.made_instances good is.are_added is.are_instances constants
    (λ place instance there. item_there design_cells instance.cell (good.instances_in_range place instance there)))
    (nets_good name design_name cells top cell_plan placed (name_for head.cell cell.name) is.ports is.made_instances is.nets is.properties is.are_ports is.are_instances ports_apart is.are_added.idents.apart classes is.are_added constants are good is.live is.are_nets))
