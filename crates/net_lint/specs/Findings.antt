-- What is found of the terminals of a design, by their connection over all paths and by nothing else. A terminal is named by its place in
-- the list of the terminals.
use Rattle.std.specs.Prelude.{◌≡◌, ◌↔◌, ℕ, ◌<◌, ◌≤◌, List, [], ◌∷◌, length, slice_get, Some, Contains}
use Rattle.std.specs.List.{range_with_len}
use Rattle.net_hier.specs.Constants.{ConstantNames}
use Rattle.net_hier.specs.Design.{Design}
use Rattle.net_hier.specs.Flat.{FlatNode, IsConnected}
use Rattle.flat_numbers.specs.declared.spots.Spot.{Spot}
use Rattle.flat_classes.specs.Terminals.{IsNodeOf}
use Rattle.flat_classes.specs.declared.flat.Terminal.{Terminal}
use Rattle.net_lint.specs.Roles.{role_of}
use Rattle.net_lint.specs.declared.role.Role.{Role}
use Rattle.net_lint.specs.declared.role.Role.TheVariants.{Driver, Sink, Both}

-- the terminals of a design, and what their connection rests on
pub record View : Type 0 where
  pub names : ConstantNames
  pub design : Design
  pub spots : List Spot
  pub terminals : List Terminal

-- the terminals at the two places are connected over all paths
pub record AreConnected (view : View) (place other : ℕ) : Type 0 where
  pub first : Terminal
  pub is_first : slice_get view.terminals place ≡ Some first
  pub second : Terminal
  pub is_second : slice_get view.terminals other ≡ Some second
  pub x : FlatNode
  pub of_first : IsNodeOf view.design.cells view.spots first x
  pub y : FlatNode
  pub of_second : IsNodeOf view.design.cells view.spots second y
  pub connected : IsConnected view.names view.design x y

-- the terminal at the place is a driver, is a sink, or goes both ways
pub record HasRole (view : View) (role : Role) (place : ℕ) : Type 0 where
  pub terminal : Terminal
  pub is_there : slice_get view.terminals place ≡ Some terminal
  pub is : role_of view.design.cells view.spots terminal ≡ role

-- a sink that is connected to no other terminal
pub record IsFloating (view : View) (place : ℕ) : Type 0 where
  pub is_sink : HasRole view Sink place
  pub alone : (other : ℕ) → AreConnected view place other → other ≡ place

-- a sink that is connected to another terminal, to no driver, and to none that goes both ways
pub record IsUndriven (view : View) (place : ℕ) : Type 0 where
  pub is_sink : HasRole view Sink place
  pub another : ℕ
  pub is_other : ¬ (another ≡ place)
  pub connected : AreConnected view place another
  pub no_driver : (other : ℕ) → AreConnected view place other → ¬ HasRole view Driver other
  pub none_both : (other : ℕ) → AreConnected view place other → ¬ HasRole view Both other

-- a driver that is connected to the terminal at the place
pub record IsDriverOf (view : View) (place driver : ℕ) : Type 0 where
  pub is_driver : HasRole view Driver driver
  pub connected : AreConnected view place driver

-- those of a list of which this holds, in order
pub data AreThose {A : Type 0} (Holds : A → Type 0) : List A → List A → Type 0 where
  at_end : AreThose Holds [] []
  listed : {item : A} {items chosen : List A} → Holds item → AreThose Holds items chosen → AreThose Holds (item ∷ items) (item ∷ chosen)
  passed : {item : A} {items chosen : List A} → ¬ Holds item → AreThose Holds items chosen → AreThose Holds (item ∷ items) chosen

-- the terminals of which this holds, in order
abbrev pub AreFound : (View → ℕ → Type 0) → View → List ℕ → Type 0
AreFound Holds view found = AreThose (Holds view) (range_with_len 0 (length view.terminals)) found

-- all drivers that are connected to one terminal, in order, where they are two or more
pub record IsSeveral (view : View) (drivers : List ℕ) : Type 0 where
  pub place : ℕ
  pub is_there : place < length view.terminals
  pub are : AreThose (IsDriverOf view place) (range_with_len 0 (length view.terminals)) drivers
  pub two : 2 ≤ length drivers

-- all sets of several drivers, in the order of their first drivers
pub record AreSeveral (view : View) (sets : List (List ℕ)) : Type 0 where
  pub are : (drivers : List ℕ) → Contains sets drivers ↔ IsSeveral view drivers
  pub in_order : (i j first other : ℕ) (rest others : List ℕ) → i < j → slice_get sets i ≡ Some (first ∷ rest) → slice_get sets j ≡ Some (other ∷ others) → first < other

-- what is found in a design
pub record FoundIn (view : View) (undriven floating : List ℕ) (several : List (List ℕ)) : Type 0 where
  pub undriven_are : AreFound IsUndriven view undriven
  pub floating_are : AreFound IsFloating view floating
  pub several_are : AreSeveral view several
