-- Names in expressions that break a rule: each has to be a port or net, and its select has to mean bits.
use Rattle.std.specs.Prelude.{Bool, true, List, is_none}
use Rattle.std.specs.List.{list_any}
use Rattle.std.specs.Option.{option_map_or}
use Rattle.vlog_design.specs.Names.{Signal, Use, module_uses, signal_named, signals}
use Rattle.vlog_design.specs.Ranges.{selected}
use Rattle.vlog_values.specs.declared.module.Module.{Module}

-- the name is no port and no net, or the select means no bits
abbrev pub is_wrong : List Signal → Use → Bool
is_wrong names u = option_map_or (λ slot. is_none (selected slot.range u.select)) (signal_named names u.name) true

-- one of the uses in the module is wrong
unfoldable pub has_wrong_use : Module → Bool
has_wrong_use m = list_any (is_wrong (signals m)) (module_uses m)
