-- The values of the design of a Verilog file that is a value are sound.
use Rattle.std.proofs.Common.{ℕ, ◌+◌, ◌<◌, ◌≤◌, ◌^◌, Bool, true, false, List, [], ◌∷◌, ◌++◌, filter, flat_map, length, sym, subst, arith, length-append, inl, inr, All}
use Rattle.std.specs.Prelude.{bytes_eq, codes, IsTrue, if◌then◌else◌}
use Rattle.std.specs.Fmt.{decimal}
use Rattle.std.specs.List.{AllByRecursion, range_with_len}
use Rattle.std.proofs.lemmas.Fmt.{IsAscii-decimal, length-decimal-le}
use Rattle.std.proofs.lemmas.List.Elements.{recursion_from_All}
use Rattle.std.proofs.lemmas.Bool.Decides.{nat_tests}
use Rattle.nl_base.specs.declared.value.PropValue.TheVariants as values
use Rattle.vlog_values.specs.Bits.{AreDigits, IsBased, based_length, is_digit, is_open}
use Rattle.vlog_values.specs.Spelling.{base_letter, based_spelling, literal_spelling}
use Rattle.vlog_values.specs.declared.literal.Base.{Base}
use Rattle.vlog_values.specs.declared.literal.Base.TheVariants.{Binary, Octal, Decimal, Hex}
use Rattle.vlog_values.specs.declared.expression.Const.{Const}
use Rattle.vlog_values.specs.declared.expression.Const.TheVariants as consts
use Rattle.net_hier.specs.Cells.{width_of}
use Rattle.net_hier.specs.Design.{Design}
use Rattle.net_hier.specs.declared.cells.HInst.{HInst}
use Rattle.net_hier.specs.declared.cells.HNet.{HNet}
use Rattle.net_hier.specs.declared.cells.HProp.{HProp}
use Rattle.vlog_design.specs.Design.{attr_props, attr_value, param_value, def_sets, defparam_props, module_cell, module_instances, module_nets, module_ports, param_props, port_attrs, statement_instances, vlog_design, wire_nets}
use Rattle.vlog_design.specs.Names.{Name, Wire, instance_statement, instance_statements, port_names, wires}
use Rattle.vlog_design.specs.Reach.{reached}
use Rattle.vlog_values.specs.Values.{AreAttrs, AreInstances, IsAttr, IsConst, IsLiteral, IsString, IsDefSet, IsInstance, IsModule, IsParamSet, IsVlogValue}
use Rattle.vlog_values.specs.declared.expression.Attr.{Attr}
use Rattle.vlog_values.specs.declared.literal.Based.{Based}
use Rattle.vlog_values.specs.declared.literal.Literal.{Literal}
use Rattle.vlog_values.specs.declared.module.Module.{Module}
use Rattle.vlog_values.specs.declared.module.VlogFile.{VlogFile}
use Rattle.vlog_values.specs.declared.statement.Instances.{Instances}
use Rattle.vlog_values.specs.declared.declaration.ParamSet.{ParamSet}
use Rattle.vlog_design_laws.specs.Designs.{IsVlogDesign}
use Rattle.net_values.specs.Sound.{AreSoundProps, IsSound, IsSoundCell, IsSoundPort, IsSoundValue}
use Rattle.vlog_design_laws.proofs.Parts.{IsWire, port_attrs_good, range_good, sets_good, statements_good, wires_good}
use Rattle.vlog_design_laws.proofs.Lists.{all_append, all_below, all_filter, all_flat, all_map, all_marked, all_such, ascii_bytes}

-- ---- bytes of normal spellings

digit_byte : (base : Base) (d : ℕ) → IsTrue (is_digit base d) → d < 256
digit_byte Binary d h = grind (arith, nat_tests, h)
digit_byte Octal d h = grind (arith, nat_tests, h)
digit_byte Decimal d h = grind (arith, nat_tests, h)
digit_byte Hex d h = grind (arith, nat_tests, h)

open_byte : (d : ℕ) → IsTrue (is_open d) → d < 256
open_byte d h = grind (arith, nat_tests, h)

all_bytes : (base : Base) (ds : List ℕ) → All (λ d. IsTrue (is_digit base d)) ds → AllByRecursion (λ d. d < 256) ds
all_bytes base ds h = all_such (λ d. IsTrue (is_digit base d)) (λ d. d < 256) (digit_byte base) ds (recursion_from_All (λ d. IsTrue (is_digit base d)) ds h)

digit_bytes : (base : Base) (ds : List ℕ) → AreDigits base ds → AllByRecursion (λ d. d < 256) ds
unfolding AreDigits
digit_bytes base [] h = tt
digit_bytes Binary (c ∷ rest) h = all_bytes Binary (c ∷ rest) h
digit_bytes Octal (c ∷ rest) h = all_bytes Octal (c ∷ rest) h
digit_bytes Decimal (c ∷ rest) h = elim h [
  | inl one ↦ (open_byte c one.1, subst (AllByRecursion (λ d. d < 256)) (sym one.0) tt)
  | inr many ↦ all_bytes Decimal (c ∷ rest) many.0
]
digit_bytes Hex (c ∷ rest) h = all_bytes Hex (c ∷ rest) h

letter_byte : (base : Base) → base_letter base < 256
letter_byte Binary = omega arith
letter_byte Octal = omega arith
letter_byte Decimal = omega arith
letter_byte Hex = omega arith

sign_bytes : (signed : Bool) → AllByRecursion (λ d. d < 256) (if signed then 115 ∷ [] else [])
sign_bytes true = (omega arith, tt)
sign_bytes false = tt

sign_short : (signed : Bool) → length {A = ℕ} (if signed then 115 ∷ [] else []) ≤ 1
sign_short true = omega arith
sign_short false = omega arith

digits_short : (b : Based) → IsBased b → length b.digits ≤ 131072
digits_short b h = let s : based_length b ≤ 131072 = h.short in grind (arith, s)

based_bytes : (b : Based) → IsBased b → AllByRecursion (λ d. d < 256) (based_spelling b)
unfolding based_spelling
based_bytes b h = all_append (λ d. d < 256) (39 ∷ (if b.signed then 115 ∷ [] else [])) (base_letter b.base ∷ b.digits) (omega arith, sign_bytes b.signed) (letter_byte b.base, digit_bytes b.base b.digits h.spelled)

based_short : (b : Based) → IsBased b → length (based_spelling b) ≤ 131080
unfolding based_spelling
based_short b h =
    let a = length-append (39 ∷ (if b.signed then 115 ∷ [] else [])) (base_letter b.base ∷ b.digits) in
    let s = sign_short b.signed in
    let d = digits_short b h in
    omega (arith, a, s, d)

based_string : (b : Based) → IsBased b → IsString (based_spelling b)
based_string b h = let s = based_short b h in record { bytes = based_bytes b h; short = omega (arith, s) }

decimal_bytes : (n : ℕ) → n < 2 ^ 64 → AllByRecursion (λ d. d < 256) (decimal n)
decimal_bytes n small = ascii_bytes (decimal n) (IsAscii-decimal n small)

literal_string : (l : Literal) → IsLiteral l → IsString (literal_spelling l)
unfolding literal_spelling
literal_string l h =
    let most : l.size ≤ 65536 = h.most in
    let a = length-append (decimal l.size) (based_spelling l.based) in
    let d : length (decimal l.size) ≤ 5 = length-decimal-le 5 l.size (omega arith) (omega (arith, most)) (omega (arith, most)) in
    let b = based_short l.based h.based in
    record { bytes = all_append (λ d. d < 256) (decimal l.size) (based_spelling l.based) (decimal_bytes l.size (omega (arith, most))) (based_bytes l.based h.based); short = omega (arith, a, b, d) }

-- ---- constants

param_sound : (c : Const) → IsConst c → IsSoundValue (param_value c)
unfolding param_value
param_sound (consts.Str s) h = h
param_sound (consts.Number n) h = h
param_sound (consts.Real r) h = h
param_sound (consts.Lit l) h = literal_string l h
param_sound (consts.Loose b) h = based_string b h

attr_sound : (c : Const) → IsConst c → IsSoundValue (attr_value c)
unfolding attr_value
attr_sound (consts.Str s) h = h
attr_sound (consts.Number n) h = h
attr_sound (consts.Real r) h = h
attr_sound (consts.Loose b) h = based_string b h
attr_sound (consts.Lit l) h = by (bytes_eq (literal_spelling l) (codes "1'b0")) (bytes_eq (literal_spelling l) (codes "1'b1"))
  where
    by : (s t : Bool) → IsSoundValue (if s then values.Flag false else (if t then values.Flag true else values.Str (literal_spelling l)))
    by true t = tt
    by false true = tt
    by false false = literal_string l h

-- ---- properties

attrs_sound : (attrs : List Attr) → AreAttrs attrs → AreSoundProps (attr_props attrs)
attrs_sound attrs h = all_map IsAttr (λ (prop : HProp). IsSoundValue prop.value) _ (λ attr k. attr_sound attr.value k.value) attrs h

params_sound : (sets : List ParamSet) → AllByRecursion IsParamSet sets → AreSoundProps (param_props sets)
params_sound sets h = all_map IsParamSet (λ (prop : HProp). IsSoundValue prop.value) _ (λ set k. param_sound set.value k.value) sets h

-- ---- the cell of a module

module _ (ms : List Module) (m : Module) (good : IsModule m) where
  port_sound : (name : Name) → AreSoundProps (attr_props (port_attrs m name))
  port_sound name = attrs_sound (port_attrs m name) (port_attrs_good m good name)

  any_name : (names : List Name) → AllByRecursion (λ name. Unit {0}) names
  any_name [] = tt
  any_name (name ∷ names) = (tt, any_name names)

  ports_sound : AllByRecursion IsSoundPort (module_ports m)
  unfolding module_ports
  ports_sound = all_map (λ name. Unit {0}) IsSoundPort _ (λ name h. record { range = range_good m good name; props = port_sound name }) (port_names m) (any_name (port_names m))

  -- instances
  defparams_sound : (instance : Name) → AreSoundProps (defparam_props m instance)
  defparams_sound instance = all_map IsDefSet (λ (prop : HProp). IsSoundValue prop.value) _ (λ set k. param_sound set.value k.value) (filter (λ set. bytes_eq instance set.instance) (def_sets m)) (all_filter IsDefSet (λ set. bytes_eq instance set.instance) (def_sets m) (sets_good m good))

  instance_sound : (statement : Instances) → AreInstances statement → AllByRecursion (λ (instance : HInst). AreSoundProps instance.props) (statement_instances ms m statement)
  instance_sound statement h = all_map IsInstance (λ (instance : HInst). AreSoundProps instance.props) _
      (λ instance k.
      all_append (λ (prop : HProp). IsSoundValue prop.value) (attr_props statement.attrs ++ param_props statement.params) (defparam_props m instance.name)
      (all_append (λ (prop : HProp). IsSoundValue prop.value) (attr_props statement.attrs) (param_props statement.params) (attrs_sound statement.attrs h.attrs) (params_sound statement.params h.params)) (defparams_sound instance.name))
      statement.insts h.insts.all

  instances_sound : AllByRecursion (λ (instance : HInst). AreSoundProps instance.props) (module_instances ms m)
  unfolding module_instances instance_statements
  instances_sound = all_flat AreInstances (λ (instance : HInst). AreSoundProps instance.props) (statement_instances ms m) instance_sound (flat_map instance_statement m.items) (statements_good m good)

  -- nets
  wire_sound : (wire : Wire) → IsWire wire → AllByRecursion (λ (net : HNet). AreSoundProps net.props) (wire_nets wire)
  wire_sound wire h = all_map (λ bit. bit < 0 + width_of wire.range) (λ (net : HNet). AreSoundProps net.props) _
      (λ bit lt. attrs_sound wire.attrs h.attrs)
      (range_with_len 0 (width_of wire.range)) (all_below 0 (width_of wire.range))

  nets_sound : AllByRecursion (λ (net : HNet). AreSoundProps net.props) (module_nets m)
  unfolding module_nets
  nets_sound = all_flat IsWire (λ (net : HNet). AreSoundProps net.props) wire_nets wire_sound (wires m) (wires_good m good)

  cell_sound : IsSoundCell (module_cell ms m)
  unfolding module_cell
  cell_sound = record { props = attrs_sound m.attrs good.attrs; ports = ports_sound; instances = instances_sound; nets = nets_sound }

-- ---- the design

module _ (file : VlogFile) (top : Name) (value : IsVlogValue file) where
  cells_sound : AllByRecursion IsSoundCell (vlog_design file top).cells
  unfolding vlog_design reached
  cells_sound = all_map IsModule IsSoundCell (module_cell (reached file top)) (λ m h. cell_sound (reached file top) m h) (reached file top) (all_marked IsModule _ file.modules value)

  no_props : AreSoundProps (vlog_design file top).props
  unfolding vlog_design
  no_props = tt

  -- each design of a Verilog file that is a value has short names, however large it is
  pub sound : (design : Design) → IsVlogDesign file top design → IsSound design
  sound design h = record { cells = subst (AllByRecursion IsSoundCell) (sym h.same_cells) cells_sound; props = subst AreSoundProps (sym h.same_props) no_props }
