-- The names of the design of a Verilog file that is a value are short.
use Rattle.std.proofs.Common.{◌≡◌, ℕ, suc, ◌+◌, ◌<◌, ◌≤◌, ◌^◌, ℤ, pos, List, [], ◌∷◌, ◌++◌, filter, flat_map, length, Option, Some, None, IfSome, sym, ap, subst, ◌∙◌, arith, negsuc, length-append}
use Rattle.std.specs.Prelude.{nat_abs, bytes_eq}
use Rattle.std.specs.Fmt.{signed_decimal}
use Rattle.std.specs.List.{AllByRecursion, range_with_len}
use Rattle.std.specs.Int.Signed.{mag}
use Rattle.std.proofs.lemmas.Fmt.{IsAscii-signed, length_signed_le}
use Rattle.nl_base.specs.Ranges.{Bounds, index_at}
use Rattle.net_hier.specs.Cells.{width_of}
use Rattle.net_hier.specs.Design.{Design}
use Rattle.net_hier.specs.declared.cells.HInst.{HInst}
use Rattle.net_hier.specs.declared.cells.HNet.{HNet}
use Rattle.net_hier.specs.declared.cells.HPort.{HPort}
use Rattle.net_hier.specs.declared.cells.HProp.{HProp}
use Rattle.vlog_design.specs.Design.{attr_props, def_sets, defparam_props, module_cell, module_instances, module_nets, module_ports, net_name, param_props, port_attrs, statement_instances, vlog_design, wire_nets}
use Rattle.vlog_design.specs.Names.{Name, Wire, header_names, instance_statement, instance_statements, port_names, wires}
use Rattle.vlog_design.specs.Reach.{reached}
use Rattle.vlog_values.specs.Values.{AreAttrs, AreInstances, IsAttr, IsDefSet, IsHeader, IsInstance, IsModule, IsName, IsParamSet, IsPortDecl, IsRange, IsVlogValue}
use Rattle.vlog_values.specs.declared.expression.Attr.{Attr}
use Rattle.vlog_values.specs.declared.module.Header.{Header}
use Rattle.vlog_values.specs.declared.module.Header.TheVariants as headers
use Rattle.vlog_values.specs.declared.module.Module.{Module}
use Rattle.vlog_values.specs.declared.module.VlogFile.{VlogFile}
use Rattle.vlog_values.specs.declared.statement.Instances.{Instances}
use Rattle.vlog_values.specs.declared.declaration.ParamSet.{ParamSet}
use Rattle.vlog_design_laws.specs.Designs.{IsVlogDesign}
use Rattle.net_values.specs.ShortNames.{HasShortNames, HaveShortNames, IsShort, IsShortCell}
use Rattle.vlog_design_laws.proofs.Parts.{IsWire, port_attrs_good, sets_good, statements_good, wires_good}
use Rattle.vlog_design_laws.proofs.Lists.{all_append, all_below, all_filter, all_flat, all_map, all_marked, all_such, ascii_bytes}

short_name : (name : List ℕ) → IsName name → IsShort name
short_name name h = let s : length name ≤ 1024 = h.short in
    record { bytes = all_such (λ b. (33 ≤ b) × (b ≤ 126)) (λ b. b < 256) (λ b k. let le = k.1 in omega (arith, le)) name h.graphic; short = omega (arith, s) }

-- ---- properties

attrs_short : (attrs : List Attr) → AreAttrs attrs → HaveShortNames (attr_props attrs)
attrs_short attrs h = all_map IsAttr (λ (prop : HProp). IsShort prop.name) _ (λ attr k. short_name attr.name k.name) attrs h

params_short : (sets : List ParamSet) → AllByRecursion IsParamSet sets → HaveShortNames (param_props sets)
params_short sets h = all_map IsParamSet (λ (prop : HProp). IsShort prop.name) _ (λ set k. short_name set.name k.name) sets h

header_named : (header : Header) → IsHeader header → AllByRecursion IsName (header_names header)
unfolding header_names
header_named (headers.Names ns) h = h
header_named (headers.Decls ds) h = all_flat IsPortDecl IsName (λ d. d.names) (λ d k. k.names.all) ds h.all

-- ---- the names of nets

index_small : (r : Bounds) (i : ℕ) → IsRange r → i < 2 ^ 33 → nat_abs (index_at r i) < 2 ^ 34
index_small r i h lt = let l : nat_abs r.left < 2 ^ 31 = h.left in grind (arith, l, lt)

mag_le : (z : ℤ) → mag z ≤ nat_abs z
mag_le (pos n) = omega arith
mag_le (negsuc n) = omega arith

index_length : (z : ℤ) → nat_abs z < 2 ^ 34 → length (signed_decimal z) ≤ 12
index_length z lt = let le : mag z ≤ nat_abs z = mag_le z in length_signed_le 11 z (omega (arith, le, lt)) (omega (arith, le, lt))

index_bytes : (z : ℤ) → nat_abs z < 2 ^ 34 → AllByRecursion (λ d. d < 256) (signed_decimal z)
index_bytes z lt = let le : mag z ≤ nat_abs z = mag_le z in ascii_bytes (signed_decimal z) (IsAscii-signed z (omega (arith, le, lt)))

bits_few : (range : Option Bounds) → IfSome range IsRange → width_of range < 2 ^ 33
bits_few None h = omega arith
bits_few (Some r) h = let l : nat_abs r.left < 2 ^ 31 = h.left in let k : nat_abs r.right < 2 ^ 31 = h.right in grind (arith, l, k)

net_name_short : (name : Name) (range : Option Bounds) (bit : ℕ) → IsName name → IfSome range IsRange → bit < 2 ^ 33 → IsShort (net_name name range bit)
net_name_short name None bit h k lt = short_name name h
net_name_short name (Some r) bit h k lt =
    let s : length name ≤ 1024 = h.short in
    let d : length (signed_decimal (index_at r bit)) ≤ 12 = index_length (index_at r bit) (index_small r bit k lt) in
    let a = length-append (name ++ (91 ∷ signed_decimal (index_at r bit))) (93 ∷ []) in
    let b = length-append name (91 ∷ signed_decimal (index_at r bit)) in
    let e : length (net_name name (Some r) bit) ≡ length name + suc (length (signed_decimal (index_at r bit))) + 1 = a ∙ ap (λ n. n + 1) b in
    record {
      bytes = all_append (λ b. b < 256) (name ++ (91 ∷ signed_decimal (index_at r bit))) (93 ∷ [])
          (all_append (λ b. b < 256) name (91 ∷ signed_decimal (index_at r bit)) (short_name name h).bytes (omega arith, index_bytes (index_at r bit) (index_small r bit k lt))) (omega arith, tt);
      short = omega (arith, s, d, e);
    }

-- ---- the cell of a module

module _ (ms : List Module) (m : Module) (good : IsModule m) where
  port_short : (name : Name) → IsName name → IsShort name × HaveShortNames (attr_props (port_attrs m name))
  port_short name h = (short_name name h, attrs_short (port_attrs m name) (port_attrs_good m good name))

  ports_short : AllByRecursion (λ (port : HPort). IsShort port.name × HaveShortNames port.props) (module_ports m)
  unfolding module_ports
  ports_short = all_map IsName (λ (port : HPort). IsShort port.name × HaveShortNames port.props) _ (λ name h. port_short name h) (port_names m) (header_named m.header good.header)

  -- instances
  defparams_short : (instance : Name) → HaveShortNames (defparam_props m instance)
  defparams_short instance = all_map IsDefSet (λ (prop : HProp). IsShort prop.name) _ (λ set k. short_name set.name k.name) (filter (λ set. bytes_eq instance set.instance) (def_sets m)) (all_filter IsDefSet (λ set. bytes_eq instance set.instance) (def_sets m) (sets_good m good))

  instance_short : (statement : Instances) → AreInstances statement → AllByRecursion (λ (instance : HInst). IsShort instance.name × HaveShortNames instance.props) (statement_instances ms m statement)
  instance_short statement h = all_map IsInstance (λ (instance : HInst). IsShort instance.name × HaveShortNames instance.props) _
      (λ instance k. (
        short_name instance.name k.name,
        all_append (λ (prop : HProp). IsShort prop.name) (attr_props statement.attrs ++ param_props statement.params) (defparam_props m instance.name)
            (all_append (λ (prop : HProp). IsShort prop.name) (attr_props statement.attrs) (param_props statement.params) (attrs_short statement.attrs h.attrs) (params_short statement.params h.params)) (defparams_short instance.name),
      ))
      statement.insts h.insts.all

  instances_short : AllByRecursion (λ (instance : HInst). IsShort instance.name × HaveShortNames instance.props) (module_instances ms m)
  unfolding module_instances instance_statements
  instances_short = all_flat AreInstances (λ (instance : HInst). IsShort instance.name × HaveShortNames instance.props) (statement_instances ms m) instance_short (flat_map instance_statement m.items) (statements_good m good)

  -- nets
  wire_short : (wire : Wire) → IsWire wire → AllByRecursion (λ (net : HNet). IsShort net.name × HaveShortNames net.props) (wire_nets wire)
  wire_short wire h = all_map (λ bit. bit < 0 + width_of wire.range) (λ (net : HNet). IsShort net.name × HaveShortNames net.props) _
      (λ bit lt. (net_name_short wire.name wire.range bit h.name h.range (let few = bits_few wire.range h.range in omega (arith, lt, few)), attrs_short wire.attrs h.attrs))
      (range_with_len 0 (width_of wire.range)) (all_below 0 (width_of wire.range))

  nets_short : AllByRecursion (λ (net : HNet). IsShort net.name × HaveShortNames net.props) (module_nets m)
  unfolding module_nets
  nets_short = all_flat IsWire (λ (net : HNet). IsShort net.name × HaveShortNames net.props) wire_nets wire_short (wires m) (wires_good m good)

  cell_short : IsShortCell (module_cell ms m)
  unfolding module_cell
  cell_short = record { name = short_name m.name good.name; props = attrs_short m.attrs good.attrs; ports = ports_short; instances = instances_short; nets = nets_short }

-- ---- the design

module _ (file : VlogFile) (top : Name) (value : IsVlogValue file) where
  cells_short : AllByRecursion IsShortCell (vlog_design file top).cells
  unfolding vlog_design reached
  cells_short = all_map IsModule IsShortCell (module_cell (reached file top)) (λ m h. cell_short (reached file top) m h) (reached file top) (all_marked IsModule _ file.modules value)

  no_props : HaveShortNames (vlog_design file top).props
  unfolding vlog_design
  no_props = tt

  -- each design of a Verilog file that is a value has short names, however large it is
  pub short_names : (design : Design) → IsVlogDesign file top design → HasShortNames design
  short_names design h = record { cells = subst (AllByRecursion IsShortCell) (sym h.same_cells) cells_short; props = subst HaveShortNames (sym h.same_props) no_props }
