-- Groups of two or more terminals.
use Rattle.std.specs.Prelude.{ℕ, ◌<◌, List, All, nat_le, filter, length}
use Rattle.flat_classes.specs.declared.flat.Terminal.{Terminal}
use Rattle.flat_classes.specs.declared.flat.Terminal.TheVariants.{Port, Pin, Zero, One}

-- the groups of two or more places
abbrev pub wide : List (List ℕ) → List (List ℕ)
wide groups = filter (λ members. nat_le 2 (length members)) groups

-- the spot of a pin is below the count
abbrev pub HasSpot : ℕ → Terminal → Type 0
HasSpot count (Port port bit) = Unit {0}
HasSpot count (Pin spot port bit) = spot < count
HasSpot count Zero = Unit {0}
HasSpot count One = Unit {0}

-- the spots of the pins are below the count
abbrev pub HaveSpots : ℕ → List Terminal → Type 0
HaveSpots count terminals = All (HasSpot count) terminals

-- each place of the groups is below the bound
abbrev pub AreWithin : ℕ → List (List ℕ) → Type 0
AreWithin bound groups = All (All (λ place. place < bound)) groups
