-- Plain connection is connection for constant names that no cell has.
use Rattle.std.proofs.Common.{◌≡◌, ℕ, inl, inr, Bool, true, false, []}
use Rattle.net_graph.proofs.WalkLaws.{linked_by, linked_map}
use Rattle.net_hier.specs.Cells.{IsConstantCell}
use Rattle.net_hier.specs.Constants.{ConstantNames}
use Rattle.net_hier.specs.Design.{Design, IsCell}
use Rattle.net_hier.specs.Flat.{FlatLink, FlatNode, FlatStep, IsConnected, by_constant, by_join, by_pin}
use Rattle.net_hier.specs.declared.cells.HCell.{HCell}
use Rattle.spice_partners.specs.Plain.{IsPlainlyConnected, PlainLink, PlainStep, plain_join, plain_pin}

-- names of no bytes
abbrev pub nameless : ConstantNames
nameless = record { zero = record { cell = []; port = [] }; one = record { cell = []; port = [] } }

-- no cell has a name of no bytes
abbrev pub HasNames : Design → Type 0
HasNames design = (number : ℕ) (cell : HCell) → IsCell design.cells number cell → ¬ (cell.name ≡ [])

pub no_constant : (design : Design) → HasNames design → (value : Bool) (number : ℕ) (cell : HCell) → IsCell design.cells number cell → ¬ IsConstantCell nameless value cell
no_constant design named false number cell is_cell c = named number cell is_cell c.is_named
no_constant design named true number cell is_cell c = named number cell is_cell c.is_named

module _ (design : Design) (named : HasNames design) where
  to_link : (x y : FlatNode) → PlainLink design x y → FlatLink nameless design x y
  to_link x y (plain_join at step) = by_join at step
  to_link x y (plain_pin at pin) = by_pin at pin

  of_link : (x y : FlatNode) → FlatLink nameless design x y → PlainLink design x y
  of_link x y (by_join at step) = plain_join at step
  of_link x y (by_pin at pin) = plain_pin at pin
  of_link x y (by_constant {value = value} at c) = absurd (no_constant design named value c.the_instance.cell c.below c.is_below c.is_constant)

  to_step : (x y : FlatNode) → PlainStep design x y → FlatStep nameless design x y
  to_step x y step = elim step as (λ _. FlatStep nameless design x y) [ inl l ↦ inl (to_link x y l) | inr l ↦ inr (to_link y x l) ]

  of_step : (x y : FlatNode) → FlatStep nameless design x y → PlainStep design x y
  of_step x y step = elim step as (λ _. PlainStep design x y) [ inl l ↦ inl (of_link x y l) | inr l ↦ inr (of_link y x l) ]

  pub to_connected : (x y : FlatNode) → IsPlainlyConnected design x y → IsConnected nameless design x y
  to_connected x y link = linked_map (PlainStep design) (FlatStep nameless design) (λ z. z) (λ a b step. linked_by (to_step a b step)) link

  pub to_plain : (x y : FlatNode) → IsConnected nameless design x y → IsPlainlyConnected design x y
  to_plain x y link = linked_map (FlatStep nameless design) (PlainStep design) (λ z. z) (λ a b step. linked_by (of_step a b step)) link
