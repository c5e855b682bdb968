-- Plain modules, and the expressions in them, that can be written.
use Rattle.std.proofs.Common.{◌≡◌, ℕ, ◌+◌, ◌≤◌, ◌<◌, ◌^◌, Bool, true, false, if◌then◌else◌, List, [], ◌∷◌, ◌++◌, Option, Some, None, IfSome, map, length, ℤ, pos, ◌+ℤ◌, ◌-ℤ◌, ◌≤ℤ◌, nat_abs, int_lt, refl, arith}
use Rattle.std.specs.List.{AllByRecursion}
use Rattle.std.proofs.lemmas.Bool.Decides.{nat_tests}
use Rattle.std.proofs.lemmas.Int.{ints}
use Rattle.nl_base.specs.Ranges.{Bounds, index_at, range_bits}
use Rattle.net_hier.specs.Cells.{width_of}
use Rattle.to_verilog_values.specs.Writable.{IsGoodInstance, IsGoodModule, IsGoodPort, IsGoodWire}
use Rattle.to_verilog_values.proofs.Written.{bit_is}
use Rattle.vlog_values.proofs.Values.{is_expr, left-Ref, out-Cat, out-Lit, out-Ref}
use Rattle.vlog_values.specs.Values.{IsAssignment, IsBound, IsConns, IsExpr, IsExprWithin, IsHeader, IsItem, IsModule, IsName, IsNamedConn, IsPortDecl, IsRange, IsSelect, is_left}
use Rattle.vlog_values.specs.declared.expression.Expr.{Expr}
use Rattle.vlog_values.specs.declared.expression.Expr.TheOpen.{Expr-F}
use Rattle.vlog_values.specs.declared.expression.Expr.TheVariants.{Cat, Lit, Ref}
use Rattle.vlog_values.specs.declared.expression.Select.TheVariants.{All}
use Rattle.vlog_values.specs.declared.statement.Assignment.{Assignment}
use Rattle.vlog_values.specs.declared.statement.NamedConn.{NamedConn}
use Rattle.vlog_written.specs.Written.{PlainInstance, PlainModule, PlainPort, PlainWire, assign_item, bit_literal, instance_item, plain_conns, plain_header, plain_module, port_decl_of, port_expr, select_of, wire_expr, wire_item}

-- an index of a range is between its bounds
between : (l r i : ℤ) → l ≤ℤ i → i ≤ℤ r → nat_abs l < 2 ^ 31 → nat_abs r < 2 ^ 31 → nat_abs i < 2 ^ 31
between l r i a b c d = omega (arith, ints)

rises : (l r : ℤ) → int_lt l r ≡ true → l ≤ℤ r
rises l r h = first_of (omega (arith, ints), grind (arith, ints, nat_tests))

falls : (l r : ℤ) → int_lt l r ≡ false → r ≤ℤ l
falls l r h = first_of (omega (arith, ints), grind (arith, ints, nat_tests))

upward : (l r : ℤ) (n : ℕ) → l ≤ℤ r → n < nat_abs (l -ℤ r) + 1 → (l ≤ℤ (l +ℤ pos n)) × ((l +ℤ pos n) ≤ℤ r)
upward l r n h k = (omega (arith, ints), omega (arith, ints))

downward : (l r : ℤ) (n : ℕ) → r ≤ℤ l → n < nat_abs (l -ℤ r) + 1 → (r ≤ℤ (l -ℤ pos n)) × ((l -ℤ pos n) ≤ℤ l)
downward l r n h k = (omega (arith, ints), omega (arith, ints))

index_within : (l r : ℤ) (n : ℕ) → nat_abs l < 2 ^ 31 → nat_abs r < 2 ^ 31 → n < nat_abs (l -ℤ r) + 1 → (b : Bool) → int_lt l r ≡ b → nat_abs (if b then l +ℤ pos n else l -ℤ pos n) < 2 ^ 31
index_within l r n a b h true e = let u = upward l r n (rises l r e) h in between l r (l +ℤ pos n) u.0 u.1 a b
index_within l r n a b h false e = let d = downward l r n (falls l r e) h in between r l (l -ℤ pos n) d.0 d.1 b a

pub index_is : (range : Bounds) (bit : ℕ) → IsRange range → bit < range_bits range → IsBound (index_at range bit)
index_is range bit h within = index_within range.left range.right bit h.left h.right within (int_lt range.left range.right) refl

select_is : (range : Option Bounds) (bit : ℕ) → IfSome range IsRange → bit < width_of range → IsSelect (select_of range bit)
select_is None bit h within = tt
select_is (Some range) bit h within = index_is range bit h within

-- a bit of a port, a wire, a constant
pub port_is : (levels : ℕ) (port : PlainPort) (bit : ℕ) → IsName port.name → IfSome port.range IsRange → bit < width_of port.range → IsExprWithin levels (port_expr port bit)
port_is levels port bit name range within = is_expr levels (Ref (select_of port.range bit) port.name) (Expr-F.Ref (select_of port.range bit) port.name) (out-Ref port.name (select_of port.range bit)) (name, select_is port.range bit range within)

pub port_is_left : (port : PlainPort) (bit : ℕ) → is_left (port_expr port bit) ≡ true
port_is_left port bit = left-Ref port.name (select_of port.range bit)

pub wire_is : (levels : ℕ) (wire : PlainWire) → IsName wire.name → IsExprWithin levels (wire_expr wire)
wire_is levels wire name = is_expr levels (Ref All wire.name) (Expr-F.Ref All wire.name) (out-Ref wire.name All) (name, tt)

pub wire_is_left : (wire : PlainWire) → is_left (wire_expr wire) ≡ true
wire_is_left wire = left-Ref wire.name All

pub constant_is : (levels : ℕ) (one : Bool) → IsExprWithin levels (Lit (bit_literal one))
constant_is levels one = is_expr levels (Lit (bit_literal one)) (Expr-F.Lit (bit_literal one)) (out-Lit (bit_literal one)) (bit_is one)

pub cat_is : (exprs : List Expr) → 1 ≤ length exprs → AllByRecursion (IsExprWithin 63) exprs → IsExpr (Cat exprs)
cat_is exprs some all = is_expr 64 (Cat exprs) (Expr-F.Cat exprs) (out-Cat exprs) (record { some = some; all = all })

-- what holds of each element
mapped_all : {A B : Type 0} (P : A → Type 0) (Q : B → Type 0) (f : A → B) → ((x : A) → P x → Q (f x)) → (xs : List A) → AllByRecursion P xs → AllByRecursion Q (map f xs)
mapped_all P Q f h [] all = tt
mapped_all P Q f h (x ∷ xs) all = (h x all.0, mapped_all P Q f h xs all.1)

both_all : {A : Type 0} (P : A → Type 0) (xs ys : List A) → AllByRecursion P xs → AllByRecursion P ys → AllByRecursion P (xs ++ ys)
both_all P [] ys a b = b
both_all P (x ∷ xs) ys a b = (a.0, both_all P xs ys a.1 b)

decl_is : (port : PlainPort) → IsGoodPort port → IsPortDecl (port_decl_of port)
decl_is port h = record { attrs = h.attrs; range = h.range; names = record { some = omega arith; all = (h.name, tt) } }

header_is : (ports : List PlainPort) → AllByRecursion IsGoodPort ports → IsHeader (plain_header ports)
header_is [] h = tt
header_is (port ∷ ports) h = record { some = omega arith; all = mapped_all IsGoodPort IsPortDecl port_decl_of decl_is (port ∷ ports) h }

wire_item_is : (wire : PlainWire) → IsGoodWire wire → IsItem (wire_item wire)
wire_item_is wire h = record { attrs = h.attrs; range = tt; names = record { some = omega arith; all = (h.name, tt) } }

assign_item_is : (set : Assignment) → IsAssignment set → IsItem (assign_item set)
assign_item_is set h = record { attrs = tt; sets = record { some = omega arith; all = (h, tt) } }

conns_are : (conns : List NamedConn) → AllByRecursion IsNamedConn conns → IsConns (plain_conns conns)
conns_are [] h = (tt, λ alone. alone)
conns_are (conn ∷ conns) h = record { some = omega arith; all = h }

instance_item_is : (instance : PlainInstance) → IsGoodInstance instance → IsItem (instance_item instance)
instance_item_is instance h = record {
  attrs = h.attrs;
  of_module = h.of_module;
  params = h.params;
  insts = record { some = omega arith; all = (record { name = h.name; conns = conns_are instance.conns h.conns }, tt) };
}

pub module_is : (p : PlainModule) → IsGoodModule p → IsModule (plain_module p)
module_is p h = record {
  attrs = h.attrs;
  name = h.name;
  params = tt;
  header = header_is p.ports h.ports;
  items = both_all IsItem (map wire_item p.wires) (map assign_item p.assigns ++ map instance_item p.instances) (mapped_all IsGoodWire IsItem wire_item wire_item_is p.wires h.wires)
      (both_all IsItem (map assign_item p.assigns) (map instance_item p.instances) (mapped_all IsAssignment IsItem assign_item assign_item_is p.assigns h.assigns) (mapped_all IsGoodInstance IsItem instance_item instance_item_is p.instances h.instances));
}
