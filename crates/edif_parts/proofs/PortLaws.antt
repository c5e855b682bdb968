-- What is read of a port that is written.
use Rattle.std.proofs.Common.{arith, ◌≡◌, ◌≤◌, ℕ, List, [], ◌∷◌, Option, None, Some, map, length, refl, sym, ap, ◌∙◌, subst}
use Rattle.std.specs.List.{AllByRecursion, filter_map}
use Rattle.nl_base.specs.Ranges.{Bounds}
use Rattle.nl_base.specs.declared.value.Dir.{Dir}
use Rattle.edif_values.specs.Values.{IsPortName, IsProperty, ArePortItems, IsPort, IsPortItem}
use Rattle.edif_values.specs.declared.property.Property.{Property}
use Rattle.edif_values.specs.Directions.{direction_of, directions, told}
use Rattle.edif_values.specs.declared.name.PortName.{PortName}
use Rattle.edif_values.specs.declared.port.Port.{Port}
use Rattle.edif_values.specs.declared.port.PortItem.{PortItem}
use Rattle.edif_values.specs.declared.port.PortItem.TheVariants as port_items
use Rattle.net_hier.specs.declared.cells.HPort.{HPort}
use Rattle.net_live.specs.Last.{last_of}
use Rattle.edif_written.specs.Naming.{IsSmallRange, port_name_for, value_of}
use Rattle.edif_naming.proofs.NamingLaws.{port_original_for}
use Rattle.edif_design.specs.CellRules.{ident_of, port_ident, size_of}
use Rattle.edif_design.specs.Design.{port_property, property_value}
use Rattle.edif_plans.specs.Summaries.{summary_for, summary_of, size_for}
use Rattle.edif_plans.specs.PortNames.{HasPlainText}

props_read : (ps : List Property) → filter_map port_property (map port_items.Property ps) ≡ map property_value ps
props_read [] = refl
props_read (p ∷ ps) = ap (λ l. property_value p ∷ l) (props_read ps)

dir_read : (dir : Dir) (rest : List PortItem) → direction_of (port_items.Direction dir ∷ rest) ≡ dir
unfolding direction_of told
dir_read dir rest = refl

size_read : (ident name : List ℕ) (range : Option Bounds) → size_of (port_name_for ident name range) ≡ size_for range
size_read ident name None = refl
size_read ident name (Some range) = refl

ident_read : (ident name : List ℕ) (range : Option Bounds) (items : List PortItem) → port_ident (record { name = port_name_for ident name range; items = items }) ≡ ident
ident_read ident name None items = refl
ident_read ident name (Some range) items = refl

-- a port of these parts has this identifier and this summary
pub port_read_ident : (ident : List ℕ) (port : HPort) (made : Port) → made.name ≡ port_name_for ident port.name port.range → port_ident made ≡ ident
port_read_ident ident port made is_name = ap (λ n. port_ident (record { name = n; items = made.items })) is_name ∙ ident_read ident port.name port.range made.items

pub port_read : (ident : List ℕ) (port : HPort) (made : Port) (properties : List Property) → made.name ≡ port_name_for ident port.name port.range → IsSmallRange port.range
    → made.items ≡ port_items.Direction port.dir ∷ map port_items.Property properties → map value_of properties ≡ last_of port.props → summary_of made ≡ summary_for port
port_read ident port made properties is_name small is_items values =
    (λ j. summary_of (record { name = is_name j; items = is_items j }))
    ∙ (λ j. record {
      value = record {
        name = (port_original_for ident port.name port.range small j).0;
        range = (port_original_for ident port.name port.range small j).1;
        dir = dir_read port.dir (map port_items.Property properties) j;
        props = (props_read properties ∙ values) j;
      };
      size = size_read ident port.name port.range j;
    })

-- and its name has no other text
named_ident : (ident name : List ℕ) (range : Option Bounds) → ident_of (port_name_for ident name range) ≡ ident
named_ident ident name None = refl
named_ident ident name (Some range) = refl

pub plain_text : (ident : List ℕ) (port : HPort) (made : PortName) → made ≡ port_name_for ident port.name port.range → IsSmallRange port.range → HasPlainText made
plain_text ident port made is small = subst HasPlainText (sym is) (sym (λ j. port_name_for (named_ident ident port.name port.range j) (port_original_for ident port.name port.range small j).0 (port_original_for ident port.name port.range small j).1))

-- ---- what can be written

items_sound : (ps : List Property) → AllByRecursion IsProperty ps → AllByRecursion IsPortItem (map port_items.Property ps)
items_sound [] all = tt
items_sound (p ∷ ps) all = (all.0, items_sound ps all.1)

no_directions : (ps : List Property) → directions (map port_items.Property ps) ≡ []
unfolding told
no_directions [] = refl
no_directions (p ∷ ps) = no_directions ps

one_direction : (dir : Dir) (ps : List Property) → length (directions (port_items.Direction dir ∷ map port_items.Property ps)) ≤ 1
unfolding told
one_direction dir ps = let e : length (dir ∷ directions (map port_items.Property ps)) ≡ 1 = ap (λ ds. length (dir ∷ ds)) (no_directions ps) in omega (arith, e)

pub sound_port : (dir : Dir) (made : Port) (properties : List Property) → made.items ≡ port_items.Direction dir ∷ map port_items.Property properties → IsPortName made.name → AllByRecursion IsProperty properties → IsPort made
sound_port dir made properties is_items name all = record { name = name; items = subst ArePortItems (sym is_items) ((tt, items_sound properties all), one_direction dir properties) }
