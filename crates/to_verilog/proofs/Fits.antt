-- The sizes of a cell, and the parts of its module.
use Rattle.std.proofs.Common.{◌≡◌, ℕ, zero, suc, ◌+◌, ◌<◌, ◌≤◌, ◌^◌, true, List, [], ◌∷◌, ◌++◌, Some, None, Result, Ok, Err, IfOk, map, length, get_or, slice_get, refl, sym, ◌∙◌, ap, arith, sum_by, append_assoc}
use Rattle.std.specs.Option.{option_map_or}
use Rattle.std.proofs.lemmas.List.Sums.{sum_by-cons}
use Rattle.std.proofs.lemmas.Option.{get_or_from_slice_get}
use Rattle.net_bits.specs.Names.{NameSet}
use Rattle.net_hier.specs.Cells.{width_of}
use Rattle.net_hier.specs.Design.{Design, IsCell}
use Rattle.net_hier.specs.Units.{cell_units, port_bits}
use Rattle.net_hier.specs.Valid.{Each, IsHier, IsPortWidth}
use Rattle.net_hier.specs.declared.cells.HCell.{HCell}
use Rattle.net_hier.specs.declared.cells.HInst.{HInst}
use Rattle.net_hier.specs.declared.cells.HPort.{HPort}
use Rattle.to_verilog_wires.specs.IsWiring.{IsWiring}
use Rattle.to_verilog_wires.specs.Wiring.{WiringTable}
use Rattle.vlog_values.specs.declared.module.ItemV.{ItemV}
use Rattle.vlog_values.specs.declared.declaration.ParamDecl.{ParamDecl}
use Rattle.vlog_values.specs.declared.expression.Attr.{Attr}
use Rattle.vlog_values.specs.declared.module.Header.{Header}
use Rattle.vlog_written.specs.Written.{assign_item, instance_item, plain_header}
use Rattle.to_verilog_props.specs.Written.{attrs_of}
use Rattle.net_hier.specs.Facts.{cell_props}
use Rattle.to_verilog_items.specs.Assigns.{assigns_of}
use Rattle.to_verilog_items.specs.Header.{plain_port}
use Rattle.to_verilog_items.specs.Instances.{below_ports, instances_of}
use Rattle.to_verilog.specs.Modules.{AreItems, IsModuleOf}
use Rattle.to_verilog.proofs.Listed.{there_below}

-- ---- sizes
part_of_sum : {X : Type 0} (f : X → ℕ) (xs : List X) (i : ℕ) (x : X) → slice_get xs i ≡ Some x → f x ≤ sum_by f xs
part_of_sum f [] i x e = absurd (let g : None ≡ Some x = e in cc)
part_of_sum f (y ∷ xs) zero x e = let g : Some y ≡ Some x = e in let p : y ≡ x = cc in let q = ap f p in omega (arith, q, sum_by-cons f y xs)
part_of_sum f (y ∷ xs) (suc i) x e = let le = part_of_sum f xs i x e in omega (arith, le, sum_by-cons f y xs)

many_ports : (ports : List HPort) → Each IsPortWidth ports → length ports ≤ sum_by (λ (port : HPort). width_of port.range) ports
many_ports [] widths = omega arith
many_ports (port ∷ ports) widths =
    let one : 1 ≤ width_of port.range = (widths 0 port refl).0 in
    let rest = many_ports ports (λ place item e. widths (suc place) item e) in
    omega (arith, one, rest, sum_by-cons (λ (p : HPort). width_of p.range) port ports)

units_of : (design : Design) → IsHier design → (number : ℕ) (cell : HCell) → IsCell design.cells number cell → cell_units cell ≤ 33554432
units_of design hier number cell is = let le = part_of_sum cell_units design.cells number cell is in omega (arith, le, hier.few_units)

pub few_joins : (design : Design) → IsHier design → (number : ℕ) (cell : HCell) → IsCell design.cells number cell → length cell.joins ≤ 33554432
few_joins design hier number cell is = let h = units_of design hier number cell is in omega (arith, h)

few_ports : (design : Design) → IsHier design → (number : ℕ) (cell : HCell) → IsCell design.cells number cell → length cell.ports ≤ 2 ^ 32
few_ports design hier number cell is =
    let h : cell_units cell ≤ 33554432 = units_of design hier number cell is in
    let m : length cell.ports ≤ port_bits cell = many_ports cell.ports (hier.valid.good_cells number cell is).widths in
    omega (arith, h, m)

pub few_below : (design : Design) → IsHier design → (number : ℕ) (cell : HCell) → IsCell design.cells number cell → (instance : HInst) → instance.cell < length design.cells → length (below_ports design.cells instance) ≤ 2 ^ 32
few_below design hier number cell is instance h =
    let below = there_below design.cells instance.cell h in
    let e : length (below_ports design.cells instance) ≡ length below.0.ports = ap (λ o. length (option_map_or (λ (b : HCell). b.ports) o [])) below.1 in
    let le = few_ports design hier instance.cell below.0 below.1 in
    omega (arith, e, le)

-- ---- the items and the module
-- the assigns and the instances behind the declarations
pub added_items : (ports : List HPort) (cells : List HCell) (cell : HCell) (params : NameSet) (wiring : WiringTable) (decls with_assigns with_instances : List ItemV) →
    ports ≡ cell.ports → with_assigns ≡ decls ++ map assign_item (assigns_of ports wiring) →
    with_instances ≡ with_assigns ++ map instance_item (instances_of cells cell wiring params) →
    with_instances ≡ (decls ++ map assign_item (assigns_of cell.ports wiring)) ++ map instance_item (instances_of cells cell wiring params)
added_items ports cells cell params wiring decls with_assigns with_instances of_ports e f =
    f ∙ ap (λ l. l ++ map instance_item (instances_of cells cell wiring params)) (e ∙ ap (λ l. decls ++ map assign_item (assigns_of l wiring)) of_ports)

items_are : (design : Design) (params : NameSet) (number : ℕ) (cell : HCell) (wiring : WiringTable) (decls items : List ItemV) (cells : List HCell) →
    IsWiring design.cells cell wiring decls → cells ≡ design.cells →
    items ≡ (decls ++ map assign_item (assigns_of cell.ports wiring)) ++ map instance_item (instances_of cells cell wiring params) → AreItems design params number cell items
items_are design params number cell wiring decls items cells w of_cells e = record {
  wiring = wiring;
  decls = decls;
  is_wiring = w;
  items_are =
      let assigns : List ItemV = map assign_item (assigns_of cell.ports wiring) in
      let instances : List ItemV = map instance_item (instances_of design.cells cell wiring params) in
      let f : items ≡ (decls ++ assigns) ++ instances = e ∙ ap (λ l. (decls ++ assigns) ++ map instance_item (instances_of l cell wiring params)) of_cells in
      f ∙ (append_assoc decls assigns instances ∙ ap (λ l. l ++ (assigns ++ instances)) w.decls_are);
}

pub made_items : {E : Type 0} (design : Design) (params : NameSet) (number : ℕ) (cell : HCell) (wiring : WiringTable) (decls : List ItemV) (cells : List HCell) →
    IsWiring design.cells cell wiring decls → cells ≡ design.cells → (answer : Result (List ItemV) E) →
    IfOk answer (λ items. items ≡ (decls ++ map assign_item (assigns_of cell.ports wiring)) ++ map instance_item (instances_of cells cell wiring params)) →
    IfOk answer (AreItems design params number cell)
made_items design params number cell wiring decls cells w of_cells (Ok items) e = items_are design params number cell wiring decls items cells w of_cells e
made_items design params number cell wiring decls cells w of_cells (Err fault) e = tt

pub cell_there : (cells : List HCell) (seen : List HCell) (number : ℕ) (cell : HCell) → seen ≡ cells → number < length cells → cell ≡ get_or seen number cell → IsCell cells number cell
cell_there cells seen number cell e h is =
    let there = there_below cells number h in
    there.1 ∙ ap Some (sym (is ∙ (ap (λ l. get_or l number cell) e ∙ get_or_from_slice_get cells number there.0 cell there.1)))

pub module_is : (design : Design) (params : NameSet) (number : ℕ) (cell : HCell) → IsCell design.cells number cell → (items : List ItemV) → AreItems design params number cell items →
    (attrs : List Attr) → attrs ≡ attrs_of (cell_props design number cell) → (header : Header) (ports : List HPort) → header ≡ plain_header (map plain_port ports) → ports ≡ cell.ports →
    (name : List ℕ) → name ≡ cell.name → (declared : List ParamDecl) → declared ≡ [] →
    IsModuleOf design params number (record { attrs = attrs; name = name; implicit = true; params = declared; header = header; items = items })
module_is design params number cell is items are attrs a header ports h of_ports name n declared d =
    let g : header ≡ plain_header (map plain_port cell.ports) = h ∙ ap (λ l. plain_header (map plain_port l)) of_ports in
    record {
      cell = cell;
      is_cell = is;
      wiring = are.wiring;
      decls = are.decls;
      is_wiring = are.is_wiring;
      is_plain = λ i. record { attrs = a i; name = n i; implicit = true; params = d i; header = g i; items = are.items_are i };
    }
