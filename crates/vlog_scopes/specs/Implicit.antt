-- Nets without a declaration (IEEE 1364-2005, 4.5).
use Rattle.std.specs.Prelude.{Bool, not, ◌&&◌, List, [], ◌∷◌, ◌++◌, map, filter, if◌then◌else◌}
use Rattle.vlog_design.specs.Names.{Declaration, Name, Signal, Use, has_name, is_whole}
use Rattle.vlog_scopes.specs.Distinct.{signal_names}

-- the names that are declared
abbrev pub declared_names : List Declaration → List Name
declared_names = map (λ declaration. declaration.name)

-- the names that are used
abbrev pub used_names : List Use → List Name
used_names = map (λ u. u.name)

-- the names that are used without a select and are none of the declared ones
abbrev pub undeclared : List Name → List Use → List Name
undeclared declared uses = used_names (filter (λ u. is_whole u.select && not (has_name declared u.name)) uses)

-- the name, where the test holds and it is not among these
abbrev pub new_place : (Name → Bool) → List Name → Name → List Name
new_place test before name = if test name && not (has_name before name) then name ∷ [] else []

-- the names for which the test holds and that are not among these, each at its first place
abbrev pub new_places : (Name → Bool) → List Name → List Name → List Name
new_places test before [] = []
new_places test before (name ∷ names) = new_place test before name ++ new_places test (before ++ new_place test before name) names

-- the name stands whole and is none of these
abbrev pub is_unknown : List Signal → Use → Bool
is_unknown signals u = is_whole u.select && not (has_name (signal_names signals) u.name)
