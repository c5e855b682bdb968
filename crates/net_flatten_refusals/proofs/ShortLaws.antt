-- Where there is no refusal, names differ and are short.
use Rattle.std.proofs.Common.{◌≡◌, ℕ, Bool, true, false, cond, List, [], ◌∷◌, ◌++◌, filter, length, map, flat_map, codes, refl}
use Rattle.std.proofs.lemmas.Bool.{ltb-false}
use Rattle.net_hier.specs.Design.{Design, top_name}
use Rattle.net_hier.specs.Paths.{Path}
use Rattle.net_hier.specs.Valid.{Each}
use Rattle.net_hier.specs.declared.cells.HCell.{HCell}
use Rattle.net_hier.specs.declared.cells.HInst.{HInst}
use Rattle.net_hier.specs.declared.cells.HPort.{HPort}
use Rattle.net_hier.specs.declared.cells.HProp.{HProp}
use Rattle.flat_classes.specs.Terminals.{FlatValue}
use Rattle.net_flatten_rules.specs.FlatDesign.{flat_cells, inner}
use Rattle.net_flatten_rules.specs.Joined.{name_at}
use Rattle.net_flatten_rules.specs.Rules.{is_long, long, long_stub, long_in_cell, long_in_design, long_instances, long_names, long_object, long_ports, long_props, names_twice, refusals, refused, repeated}
use Rattle.net_flatten_rules.specs.declared.refusal.FlattenRule.TheVariants.{F1, F2}
use Rattle.net_flatten_refusals.specs.Named.{HasShortNames, HaveOwnJoinedNames, HaveShortNames, IsShort, IsShortInstance, IsShortPort}
use Rattle.net_flatten_refusals.proofs.Lists.{NoneRepeated, both_empty, each_empty, map_empty, none_pass, none_repeated}

short_name : (name : List ℕ) → is_long name ≡ false → IsShort name
short_name name e = ltb-false 1024 (length name) e

short_object : (kind name : List ℕ) → long kind name ≡ [] → IsShort name
short_object kind name e = by (is_long name) refl e
  where
    by : (b : Bool) → is_long name ≡ b → cond b ((kind ∷ name ∷ []) ∷ []) [] ≡ [] → IsShort name
    by true t f = absurd cc
    by false t f = short_name name t

short_props : (props : List HProp) → long_props props ≡ [] → HaveShortNames props
short_props props e place prop at = short_object (codes "property") prop.name (each_empty (λ (p : HProp). long (codes "property") p.name) props e place prop at)

short_port : (port : HPort) → long_object (codes "port") port.name port.props ≡ [] → IsShortPort port
short_port port e =
    let parts = both_empty (long (codes "port") port.name) (long_props port.props) e in
    record { name = short_object (codes "port") port.name parts.0; props = short_props port.props parts.1 }

short_instance : (instance : HInst) → long_object (codes "instance") instance.name instance.props ≡ [] → IsShortInstance instance
short_instance instance e =
    let parts = both_empty (long (codes "instance") instance.name) (long_props instance.props) e in
    record { name = short_object (codes "instance") instance.name parts.0; props = short_props instance.props parts.1 }

short_cell : (cell : HCell) → long_names cell ≡ [] → HasShortNames cell
short_cell cell e =
    let parts = both_empty (long_stub cell) (long_instances cell.instances) e in
    let stub = both_empty (long_object (codes "cell") cell.name cell.props) (long_ports cell.ports) parts.0 in
    let own = both_empty (long (codes "cell") cell.name) (long_props cell.props) stub.0 in
    record {
      name = short_object (codes "cell") cell.name own.0;
      props = short_props cell.props own.1;
      ports = λ place port at. short_port port (each_empty (λ (p : HPort). long_object (codes "port") p.name p.props) cell.ports stub.1 place port at);
      instances = λ place instance at. short_instance instance (each_empty (λ (i : HInst). long_object (codes "instance") i.name i.props) cell.instances parts.1 place instance at);
    }

module _ (design : Design) (paths : List Path) (flat : FlatValue) (none : refusals design paths flat ≡ []) where
  parts : (names_twice design paths flat ≡ []) × (flat_map long_in_cell (flat_cells design paths flat) ++ long_in_design design ≡ [])
  parts = both_empty (names_twice design paths flat) (flat_map long_in_cell (flat_cells design paths flat) ++ long_in_design design) none

  rest : (flat_map long_in_cell (flat_cells design paths flat) ≡ []) × (long_in_design design ≡ [])
  rest = both_empty (flat_map long_in_cell (flat_cells design paths flat)) (long_in_design design) parts.1

  pub own_names : HaveOwnJoinedNames paths (inner flat.leaves)
  own_names =
      let once : NoneRepeated (name_at paths) [] (inner flat.leaves) = none_repeated (name_at paths) [] (inner flat.leaves)
      (map_empty (λ name. refused F1 (top_name design.cells design.top) (name ∷ [])) (repeated [] (map (name_at paths) (inner flat.leaves))) parts.0) in
      once.own

  pub short_names : Each HasShortNames (flat_cells design paths flat)
  short_names place cell at = short_cell cell (map_empty (refused F2 cell.name) (long_names cell) (each_empty long_in_cell (flat_cells design paths flat) rest.0 place cell at))

  pub short_design : HaveShortNames design.props
  short_design place prop at = short_name prop.name (none_pass (λ (p : HProp). is_long p.name) design.props
      (map_empty (λ (p : HProp). refused F2 (top_name design.cells design.top) (p.name ∷ [])) (filter (λ (p : HProp). is_long p.name) design.props) rest.1) place prop at)
