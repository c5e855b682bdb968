-- The findings by the groups of the terminals. Each is told of the places of a group, in order.
use Rattle.std.specs.Prelude.{ℕ, List, [], ◌∷◌, ◌&&◌, ◌==◌, Bool, true, false, if◌then◌else◌, length, map, nat_le, slice_index_or}
use Rattle.std.specs.List.{filter, range_with_len}
use Rattle.flat_classes.specs.Groups.{group_at}
use Rattle.flat_classes.specs.Terminals.{FlatValue}
use Rattle.net_hier.specs.declared.cells.HCell.{HCell}
use Rattle.net_lint.specs.Roles.{is_driver, is_sink, role_of}
use Rattle.net_lint.specs.declared.findings.Finding.{Finding}
use Rattle.net_lint.specs.declared.findings.Finding.TheVariants.{Undriven, Floating, Driven}
use Rattle.net_lint.specs.declared.role.Role.{Role}
use Rattle.net_lint.specs.declared.role.Role.TheVariants.{Both}

-- the role of each terminal
abbrev pub roles_of : List HCell → FlatValue → List Role
roles_of cells flat = map (role_of cells flat.spots) flat.terminals

-- the role of the terminal at a place
abbrev pub role_at : List Role → ℕ → Role
role_at roles place = slice_index_or roles place Both

-- these are sinks alone
abbrev pub all_sinks : List Role → List ℕ → Bool
all_sinks roles [] = true
all_sinks roles (place ∷ places) = is_sink (role_at roles place) && all_sinks roles places

-- those of these that are drivers
abbrev pub drivers_among : List Role → List ℕ → List ℕ
drivers_among roles places = filter (λ place. is_driver (role_at roles place)) places

-- what is found of each terminal of a group
abbrev pub finding_of : List Role → List ℕ → Finding
finding_of roles places = if all_sinks roles places then (if nat_le 2 (length places) then Undriven else Floating) else Driven

-- whether this is the one that is asked for
abbrev pub same_finding : Finding → Finding → Bool
same_finding Undriven Undriven = true
same_finding Undriven Floating = false
same_finding Undriven Driven = false
same_finding Floating Undriven = false
same_finding Floating Floating = true
same_finding Floating Driven = false
same_finding Driven Undriven = false
same_finding Driven Floating = false
same_finding Driven Driven = true

-- the terminals in whose groups this is found, in order
abbrev pub places_found : List ℕ → List Finding → Finding → List ℕ
places_found groups findings finding = filter (λ place. same_finding finding (slice_index_or findings (group_at groups place) Driven)) (range_with_len 0 (length groups))

-- the drivers are two or more, and this is the first of them
abbrev pub is_first : List ℕ → ℕ → Bool
is_first [] place = false
is_first (first ∷ []) place = false
is_first (first ∷ second ∷ others) place = first == place

-- the drivers of the group of a place
abbrev pub drivers_at : List ℕ → List (List ℕ) → ℕ → List ℕ
drivers_at groups drivers place = slice_index_or drivers (group_at groups place) []

-- the first drivers of the groups that have two or more, in order
abbrev pub first_drivers : List ℕ → List (List ℕ) → List ℕ
first_drivers groups drivers = filter (λ place. is_first (drivers_at groups drivers place) place) (range_with_len 0 (length groups))

-- the sets of several drivers, by their first ones
abbrev pub sets_of : List ℕ → List (List ℕ) → List ℕ → List (List ℕ)
sets_of groups drivers firsts = map (drivers_at groups drivers) firsts
