-- What a reference names is there.
use Rattle.std.proofs.Common.{arith, ◌≡◌, ℕ, zero, suc, ◌<◌, ◌≤◌, ◌^◌, Bool, true, false, List, [], ◌∷◌, Option, Some, None, length, sym, ap, subst}
use Rattle.std.specs.Prelude.{IfSome, slice_get}
use Rattle.std.specs.Option.{option_map_or}
use Rattle.nl_base.specs.Ranges.{Bounds}
use Rattle.edif_values.specs.Values.{IsInteger}
use Rattle.net_hier.specs.Cells.{IsPinBit, IsPortBit}
use Rattle.net_hier.specs.declared.cells.HInst.{HInst}
use Rattle.edif_plans.specs.Plans.{HasHead, head_of}
use Rattle.edif_plans.specs.References.{FitsCellPlan, CellPlan, added_place, below_at, member_for}
use Rattle.edif_plans.specs.declared.added.Instances.{Instances}

pub within : {A : Type 0} (xs : List A) (i : ℕ) (x : A) → slice_get xs i ≡ Some x → i < length xs
within [] i x there = absurd cc
within (y ∷ ys) zero x there = omega arith
within (y ∷ ys) (suc i) x there = let e = within ys i x there in omega (arith, e)

-- what the reference to a pin bit names
pub record IsPinThere (cell_plan : CellPlan) (instance port : ℕ) : Type 0 where
  pub head : HasHead cell_plan.plan (below_at cell_plan.cell.instances instance)
  pub port_there : port < length (head_of cell_plan.plan (below_at cell_plan.cell.instances instance)).ports
  pub instance_there : instance < length cell_plan.instances.idents

pub pin_there : (cell_plan : CellPlan) (instance port bit : ℕ) → FitsCellPlan cell_plan → IsPinBit cell_plan.cells cell_plan.cell instance port bit → IsPinThere cell_plan instance port
pin_there cell_plan instance port bit fits is =
    let e : is.the_instance.cell ≡ below_at cell_plan.cell.instances instance = sym (ap (λ o. option_map_or (λ (one : HInst). one.cell) o 0) is.is_there) in
    let in_range : is.the_instance.cell < length cell_plan.cells = fits.in_range instance is.the_instance is.is_there in
    let inside : port < length is.below.ports = within is.below.ports port is.is_bit.the_port is.is_bit.is_there in
    let same : length (head_of cell_plan.plan is.the_instance.cell).ports ≡ length is.below.ports = fits.plan_fits.ports is.the_instance.cell is.below is.is_below in
    let first : instance < length cell_plan.cell.instances = within cell_plan.cell.instances instance is.the_instance is.is_there in
    record {
      head = subst (HasHead cell_plan.plan) e (fits.plan_fits.heads is.the_instance.cell in_range);
      port_there = subst (λ n. port < length (head_of cell_plan.plan n).ports) e (subst (λ n. port < n) (sym same) inside);
      instance_there = omega (arith, first, fits.idents_fit);
    }

pub port_there : (cell_plan : CellPlan) (port bit : ℕ) → FitsCellPlan cell_plan → IsPortBit cell_plan.cell port bit → port < length cell_plan.head.ports
port_there cell_plan port bit fits is = subst (λ n. port < n) (sym fits.ports_fit) (within cell_plan.cell.ports port is.the_port is.is_there)

pub added_fit : (cell_plan : CellPlan) → FitsCellPlan cell_plan → length cell_plan.instances.added ≤ length cell_plan.instances.idents
added_fit cell_plan fits = omega (arith, fits.idents_fit)

pub added_there : (instances : Instances) (value : Bool) → 0 < length instances.added → length instances.added ≤ length instances.idents → added_place instances value < length instances.idents
added_there instances false some fit = omega (arith, some, fit)
added_there instances true some fit = omega (arith, some, fit)

pub member_sound : (range : Option Bounds) (bit : ℕ) → bit < 2 ^ 32 → IfSome (member_for range bit) IsInteger
member_sound None bit small = tt
member_sound (Some range) bit small = omega (arith, small)
