-- Properties as attributes and parameters (IEEE 1364-2005, 3.8 and 12.2).
use Rattle.std.specs.Prelude.{◌≡◌, ℕ, Bool, true, List, map, filter, not}
use Rattle.net_bits.specs.Names.{NameSet, has_name}
use Rattle.net_hier.specs.Facts.{HasLastValue}
use Rattle.net_hier.specs.declared.cells.HProp.{HProp}
use Rattle.net_live.specs.Last.{last_of}
use Rattle.nl_base.specs.declared.value.PropValue.TheVariants.{Flag}
use Rattle.vlog_values.specs.declared.declaration.ParamSet.{ParamSet}
use Rattle.vlog_values.specs.declared.expression.Attr.{Attr}
use Rattle.to_verilog_props.specs.Constants.{attr_const, param_const}

-- the attribute that a property is
abbrev pub attr_of : HProp → Attr
attr_of prop = record { name = prop.name; value = attr_const prop.value }

-- the value of a parameter that a property is
abbrev pub param_of : HProp → ParamSet
param_of prop = record { name = prop.name; value = param_const prop.value }

-- the attributes of properties
abbrev pub attrs_of : List HProp → List Attr
attrs_of props = map attr_of (last_of props)

-- whether the property is to be a parameter
abbrev pub is_param : NameSet → HProp → Bool
is_param params prop = has_name params prop.name

-- the properties of an instance that are attributes, and those that are parameters
abbrev pub given_attrs : NameSet → List HProp → List Attr
given_attrs params props = map attr_of (filter (λ prop. not (is_param params prop)) props)

abbrev pub given_params : NameSet → List HProp → List ParamSet
given_params params props = map param_of (filter (is_param params) props)

-- no property that is to be a parameter has a boolean as its last value
abbrev pub HaveNoFlags : NameSet → List HProp → Type 0
HaveNoFlags params props = (name : List ℕ) (one : Bool) → has_name params name ≡ true → ¬ HasLastValue props name (Flag one)
