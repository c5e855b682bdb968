-- The kinds of declarations of each name.
use Rattle.std.specs.Prelude.{Bool, true, false, ◌||◌, bytes_eq, map, List, ℕ}
use Rattle.std.specs.Borrow.{Bor}
use Rattle.std.specs.List.{list_any}
use Rattle.std.specs.Map.{lookup}
use Rattle.std.specs.Option.{option_map_or}
use Rattle.vlog_design.specs.Names.{Declaration, Name}
use Rattle.vlog_design.specs.Rules.{same_declaration}
use Rattle.vlog_design.specs.declared.signals.Kind.{Kind}
use Rattle.vlog_design.specs.declared.signals.Kind.TheVariants.{InHeader, Direction, NetDeclaration, Instance, Parameter}
use Rattle.vlog_rules.specs.declared.kinds.Kinds.{Kinds}

abbrev pub no_kinds : Kinds
no_kinds = record { header = false; direction = false; net = false; instance = false; parameter = false }

-- one more
abbrev pub with_kind : Kind → Kinds → Kinds
with_kind InHeader kinds = record { header = true; direction = kinds.direction; net = kinds.net; instance = kinds.instance; parameter = kinds.parameter }
with_kind Direction kinds = record { header = kinds.header; direction = true; net = kinds.net; instance = kinds.instance; parameter = kinds.parameter }
with_kind NetDeclaration kinds = record { header = kinds.header; direction = kinds.direction; net = true; instance = kinds.instance; parameter = kinds.parameter }
with_kind Instance kinds = record { header = kinds.header; direction = kinds.direction; net = kinds.net; instance = true; parameter = kinds.parameter }
with_kind Parameter kinds = record { header = kinds.header; direction = kinds.direction; net = kinds.net; instance = kinds.instance; parameter = true }

-- a declaration of this kind clashes with one of these of the same name
abbrev pub clashes_with : Kind → Kinds → Bool
clashes_with InHeader kinds = kinds.header || kinds.instance || kinds.parameter
clashes_with Direction kinds = kinds.direction || kinds.instance || kinds.parameter
clashes_with NetDeclaration kinds = kinds.net || kinds.instance || kinds.parameter
clashes_with Instance kinds = kinds.header || kinds.direction || kinds.net || kinds.instance || kinds.parameter
clashes_with Parameter kinds = kinds.header || kinds.direction || kinds.net || kinds.instance || kinds.parameter

-- whether a declaration of this kind and name is there
abbrev pub is_there : List Declaration → Name → Kind → Bool
is_there declarations name kind = list_any (same_declaration (record { kind = kind; name = name })) declarations

-- the kinds of the declarations of this name
abbrev pub kinds_among : List Declaration → Name → Kinds
kinds_among declarations name = record {
  header = is_there declarations name InHeader;
  direction = is_there declarations name Direction;
  net = is_there declarations name NetDeclaration;
  instance = is_there declarations name Instance;
  parameter = is_there declarations name Parameter;
}

-- what is kept of each name
abbrev pub named_kinds : List (Bor (List ℕ) × Kinds) → List (Name × Kinds)
named_kinds = map (λ entry. (entry.0.now, entry.1))

-- the kinds that are kept of this name
abbrev pub kept_kinds : List (Name × Kinds) → Name → Kinds
kept_kinds entries name = option_map_or (λ kinds. kinds) (lookup (bytes_eq name) entries) no_kinds
