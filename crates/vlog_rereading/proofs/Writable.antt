-- The forms of a file that can be written have names, keywords, numbers, literals and strings as such, and no two of them touch.
use Rattle.std.proofs.Common.{◌≡◌, ◌≤◌, ◌<◌, ◌^◌, ℕ, zero, suc, Bool, true, false, List, [], ◌∷◌, Option, Some, None, refl, sym, subst, arith, lit≤}
use Rattle.std.specs.Prelude.{ℤ, nat_abs, codes, ◌||◌, IfSome}
use Rattle.std.specs.List.{AllByRecursion}
use Rattle.nl_base.specs.Ranges.{Bounds}
use Rattle.nl_base.specs.declared.value.Dir.{Dir}
use Rattle.nl_base.specs.declared.value.Dir.TheVariants as dirs
use Rattle.vlog_values.specs.declared.expression.Attr.{Attr}
use Rattle.vlog_values.specs.declared.expression.Const.{Const}
use Rattle.vlog_values.specs.declared.expression.Const.TheVariants as consts
use Rattle.vlog_values.specs.declared.expression.Select.{Select}
use Rattle.vlog_values.specs.declared.expression.Select.TheVariants as selects
use Rattle.vlog_values.specs.declared.expression.Expr.{Expr}
use Rattle.vlog_values.specs.declared.expression.Expr.TheOpen.{Expr-F}
use Rattle.vlog_values.specs.declared.expression.Expr.TheVariants as expr
use Rattle.vlog_values.specs.declared.declaration.PortKind.{PortKind}
use Rattle.vlog_values.specs.declared.declaration.PortKind.TheVariants as port_kinds
use Rattle.vlog_values.specs.declared.declaration.NetKind.{NetKind}
use Rattle.vlog_values.specs.declared.declaration.NetKind.TheVariants as net_kinds
use Rattle.vlog_values.specs.declared.declaration.PortDecl.{PortDecl}
use Rattle.vlog_values.specs.declared.declaration.NetDecl.{NetDecl}
use Rattle.vlog_values.specs.declared.declaration.ParamType.{ParamType}
use Rattle.vlog_values.specs.declared.declaration.ParamType.TheVariants as param_types
use Rattle.vlog_values.specs.declared.declaration.ParamSet.{ParamSet}
use Rattle.vlog_values.specs.declared.declaration.ParamDecl.{ParamDecl}
use Rattle.vlog_values.specs.declared.statement.NamedConn.{NamedConn}
use Rattle.vlog_values.specs.declared.statement.Conns.{Conns}
use Rattle.vlog_values.specs.declared.statement.Conns.TheVariants as conns
use Rattle.vlog_values.specs.declared.statement.VInst.{VInst}
use Rattle.vlog_values.specs.declared.statement.Instances.{Instances}
use Rattle.vlog_values.specs.declared.statement.Assignment.{Assignment}
use Rattle.vlog_values.specs.declared.statement.Assigns.{Assigns}
use Rattle.vlog_values.specs.declared.statement.DefSet.{DefSet}
use Rattle.vlog_values.specs.declared.statement.Defparams.{Defparams}
use Rattle.vlog_values.specs.declared.module.ItemV.{ItemV}
use Rattle.vlog_values.specs.declared.module.ItemV.TheVariants as items
use Rattle.vlog_values.specs.declared.module.Header.{Header}
use Rattle.vlog_values.specs.declared.module.Header.TheVariants as headers
use Rattle.vlog_values.specs.declared.module.Module.{Module}
use Rattle.vlog_values.specs.declared.module.VlogFile.{VlogFile}
use Rattle.vlog_values.specs.Values.{AreSome, IsName, IsNumber, IsCount, IsBound, IsRange, IsConst, IsAttr, AreAttrs, IsSelect, IsExprWithin, IsExpr, IsPortDecl, IsNetDecl, IsParamType, IsParamSet, IsParamDecl, IsParamGroup, IsNamedConn, IsConns, IsInstance, AreInstances, IsAssignment, AreAssigns, IsDefSet, AreDefparams, IsItem, IsHeader, IsModule, IsVlogValue}
use Rattle.vlog_values.proofs.Values.{is_layer, out-Ref, out-Lit, out-LooseNumber, out-Loose, out-Cat, out-Rep}
use Rattle.vlog_tokens.specs.Keywords.{is_keyword}
use Rattle.vlog_writer.specs.Spelling.{is_simple}
use Rattle.vlog_writer.specs.Forms as form
use Rattle.vlog_writer.specs.Layout.{Form, Name, Word, Mark, Number, Listed, ◌▸◌, Forms, none, more, each, all}
use Rattle.vlog_writer.proofs.Expressions.{ref_is, lit_is, number_is, loose_is, cat_is, rep_is}
use Rattle.vlog_lexing.specs.Tokens.{IsWord, IsWritable, AreParts, AreWritable, CanBeLaid, is_alone}
use Rattle.vlog_rereading.proofs.Expressions.{expr_cases}

-- ---- forms

or_true : (a : Bool) → (a || true) ≡ true
or_true true = refl
or_true false = refl

each_writable : {I : Type 0} (of : I → Form) (Good : I → Type 0) → ((i : I) → Good i → IsWritable (of i)) → (is : List I) → AllByRecursion Good is → AreWritable (each of is)
each_writable of Good one [] good = tt
each_writable of Good one (i ∷ is) good = (one i good.0, each_writable of Good one is good.1)

round_writable : (f : Form) → IsWritable f → IsWritable (form.round f)
round_writable f h = (refl, (h, refl, or_true (is_alone f)), refl)

braced_writable : (f : Form) → IsWritable f → IsWritable (form.braced f)
braced_writable f h = (refl, (h, refl, or_true (is_alone f)), refl)

given_writable : (port : List ℕ) (f : Form) → IsName port → IsWritable f → IsWritable (form.given port f)
given_writable port f name h = (refl, (name, round_writable f h, refl), refl)

hashed_writable : (fs : Forms) → AreWritable fs → AreParts (form.hashed fs)
hashed_writable none h = tt
hashed_writable (more f fs) h = (refl, round_writable (Listed (more f fs)) h, refl)

-- ---- keywords

input_word : IsWord (codes "input")
unfolding is_simple is_keyword
input_word = record { simple = refl; keyword = refl; short = lit≤ tt }

output_word : IsWord (codes "output")
unfolding is_simple is_keyword
output_word = record { simple = refl; keyword = refl; short = lit≤ tt }

inout_word : IsWord (codes "inout")
unfolding is_simple is_keyword
inout_word = record { simple = refl; keyword = refl; short = lit≤ tt }

wire_word : IsWord (codes "wire")
unfolding is_simple is_keyword
wire_word = record { simple = refl; keyword = refl; short = lit≤ tt }

tri_word : IsWord (codes "tri")
unfolding is_simple is_keyword
tri_word = record { simple = refl; keyword = refl; short = lit≤ tt }

supply0_word : IsWord (codes "supply0")
unfolding is_simple is_keyword
supply0_word = record { simple = refl; keyword = refl; short = lit≤ tt }

supply1_word : IsWord (codes "supply1")
unfolding is_simple is_keyword
supply1_word = record { simple = refl; keyword = refl; short = lit≤ tt }

signed_word : IsWord (codes "signed")
unfolding is_simple is_keyword
signed_word = record { simple = refl; keyword = refl; short = lit≤ tt }

parameter_word : IsWord (codes "parameter")
unfolding is_simple is_keyword
parameter_word = record { simple = refl; keyword = refl; short = lit≤ tt }

integer_word : IsWord (codes "integer")
unfolding is_simple is_keyword
integer_word = record { simple = refl; keyword = refl; short = lit≤ tt }

real_word : IsWord (codes "real")
unfolding is_simple is_keyword
real_word = record { simple = refl; keyword = refl; short = lit≤ tt }

assign_word : IsWord (codes "assign")
unfolding is_simple is_keyword
assign_word = record { simple = refl; keyword = refl; short = lit≤ tt }

defparam_word : IsWord (codes "defparam")
unfolding is_simple is_keyword
defparam_word = record { simple = refl; keyword = refl; short = lit≤ tt }

module_word : IsWord (codes "module")
unfolding is_simple is_keyword
module_word = record { simple = refl; keyword = refl; short = lit≤ tt }

endmodule_word : IsWord (codes "endmodule")
unfolding is_simple is_keyword
endmodule_word = record { simple = refl; keyword = refl; short = lit≤ tt }

none_name : IsName (codes "none")
none_name = record { some = lit≤ tt; short = lit≤ tt; graphic = ((lit≤ tt, lit≤ tt), ((lit≤ tt, lit≤ tt), ((lit≤ tt, lit≤ tt), ((lit≤ tt, lit≤ tt), tt)))) }

-- ---- constants, attributes and expressions

const_writable : (c : Const) → IsConst c → IsWritable (form.const_form c)
const_writable (consts.Str s) good = good
const_writable (consts.Number n) good = good
const_writable (consts.Real r) good = good
const_writable (consts.Lit l) good = good
const_writable (consts.Loose b) good = good

attr_writable : (a : Attr) → IsAttr a → IsWritable (form.attr_form a)
attr_writable a good = (good.name, (refl, const_writable a.value good.value))

attrs_writable : (as_written : List Attr) → AreAttrs as_written → AreWritable (each form.attr_form as_written)
attrs_writable as_written good = each_writable form.attr_form IsAttr attr_writable as_written good

bound_number : (n : ℤ) → IsBound n → IsNumber n
bound_number n good = omega (arith, good)

bounds_writable : (left right : ℤ) → IsBound left → IsBound right → IsWritable (form.square (form.bounds_form left right))
bounds_writable left right l r = (refl, ((bound_number left l, (refl, bound_number right r, refl), refl), refl, refl), refl)

range_writable : (r : Option Bounds) → IfSome r IsRange → AreParts (form.range_part r)
range_writable None good = tt
range_writable (Some r) good = bounds_writable r.left r.right good.left good.right

ref_writable : (name : List ℕ) (s : Select) → IsName name → IsSelect s → IsWritable (form.ref_form name s)
ref_writable name selects.All good select = good
ref_writable name (selects.One index) good select = (good, (refl, (bound_number index select, refl, refl), refl), refl)
ref_writable name (selects.Slice left right) good select = (good, bounds_writable left right select.0 select.1, refl)

abbrev Fits : ℕ → Expr → Type 0
Fits levels e = IsExprWithin levels e → IsWritable (form.expr_form e)

plain_writable : (levels : ℕ) → ((es : List Expr) → Fits levels (expr.Cat es)) → ((n : ℤ) (es : List Expr) → Fits levels (expr.Rep n es)) → (e : Expr) → Fits levels e
plain_writable levels cat rep e = expr_cases (Fits levels)
    (λ name s h. let good = is_layer levels (expr.Ref s name) (Expr-F.Ref s name) (out-Ref name s) h in rw (ref_is name s) (ref_writable name s good.0 good.1))
    (λ l h. let good = is_layer levels (expr.Lit l) (Expr-F.Lit l) (out-Lit l) h in rw (lit_is l) good)
    (λ n h. let good = is_layer levels (expr.LooseNumber n) (Expr-F.LooseNumber n) (out-LooseNumber n) h in rw (number_is n) good.number)
    (λ b h. let good = is_layer levels (expr.Loose b) (Expr-F.Loose b) (out-Loose b) h in rw (loose_is b) good)
    cat rep e

expr_writable_within : (levels : ℕ) (e : Expr) → Fits levels e
expr_writable_within zero e = plain_writable zero
    (λ es h. absurd (is_layer zero (expr.Cat es) (Expr-F.Cat es) (out-Cat es) h))
    (λ n es h. absurd (is_layer zero (expr.Rep n es) (Expr-F.Rep n es) (out-Rep n es) h).1) e
expr_writable_within (suc levels) e = plain_writable (suc levels)
    (λ es h.
    let good = is_layer (suc levels) (expr.Cat es) (Expr-F.Cat es) (out-Cat es) h in
    let inner = each_writable form.expr_form (IsExprWithin levels) (expr_writable_within levels) es good.all in
    rw (cat_is es) (braced_writable (Listed (each form.expr_form es)) inner))
    (λ n es h.
    let good = is_layer (suc levels) (expr.Rep n es) (Expr-F.Rep n es) (out-Rep n es) h in
    let inner = each_writable form.expr_form (IsExprWithin levels) (expr_writable_within levels) es good.1.all in
    rw (rep_is n es) (braced_writable (Number n ▸ form.cat_form (each form.expr_form es)) (good.0.number, braced_writable (Listed (each form.expr_form es)) inner, refl))) e

expr_writable : (e : Expr) → IsExpr e → IsWritable (form.expr_form e)
expr_writable e good = expr_writable_within 64 e good

value_writable : (e : Option Expr) → IfSome e IsExpr → IsWritable (form.value_form e)
value_writable None good = tt
value_writable (Some e) good = expr_writable e good

-- ---- declarations

names_writable : (ns : List (List ℕ)) → AllByRecursion IsName ns → AreWritable (each Name ns)
names_writable ns good = each_writable Name IsName (λ n good. good) ns good

dir_writable : (d : Dir) → IsWritable (form.dir_form d)
dir_writable dirs.Input = input_word
dir_writable dirs.Output = output_word
dir_writable dirs.Inout = inout_word

port_kind_writable : (k : Option PortKind) → AreParts (form.port_kind_part k)
port_kind_writable None = tt
port_kind_writable (Some port_kinds.Wire) = wire_word
port_kind_writable (Some port_kinds.Tri) = tri_word

net_kind_writable : (k : NetKind) → IsWritable (form.net_kind_form k)
net_kind_writable net_kinds.Wire = wire_word
net_kind_writable net_kinds.Tri = tri_word
net_kind_writable net_kinds.Supply0 = supply0_word
net_kind_writable net_kinds.Supply1 = supply1_word

signed_writable : (s : Bool) → AreParts (form.word_where s (codes "signed"))
signed_writable true = signed_word
signed_writable false = tt

vector_writable : (s : Bool) (r : Option Bounds) → IfSome r IsRange → AreParts (form.vector_parts s r)
vector_writable s r good = (signed_writable s, range_writable r good)

port_writable : (d : PortDecl) → IsPortDecl d → IsWritable (form.port_form d)
port_writable d good = (attrs_writable d.attrs good.attrs, (dir_writable d.dir, (port_kind_writable d.kind, (vector_writable d.signed d.range good.range, names_writable d.names good.names.all))))

net_writable : (d : NetDecl) → IsNetDecl d → IsWritable (form.net_form d)
net_writable d good = (attrs_writable d.attrs good.attrs, (net_kind_writable d.kind, (vector_writable d.signed d.range good.range, names_writable d.names good.names.all)))

type_writable : (k : ParamType) → IsParamType k → AreParts (form.type_parts k)
type_writable (param_types.Plain s r) good = vector_writable s r good
type_writable param_types.Integer good = integer_word
type_writable param_types.Real good = real_word

set_writable : (s : ParamSet) → IsParamSet s → IsWritable (form.set_form s)
set_writable s good = (good.name, (refl, const_writable s.value good.value))

group_writable : (p : ParamDecl) → IsParamDecl p → IsWritable (form.group_form p)
group_writable p good = (parameter_word, (type_writable p.kind good.kind, each_writable form.set_form IsParamSet set_writable p.sets good.sets.all))

param_writable : (p : ParamDecl) → IsParamDecl p → IsWritable (form.param_form p)
param_writable p good = (attrs_writable p.attrs good.attrs, group_writable p good)

-- ---- statements

assignment_writable : (a : Assignment) → IsAssignment a → IsWritable (form.assignment_form a)
assignment_writable a good = (expr_writable a.left good.left, (refl, expr_writable a.right good.right))

assigns_writable : (a : Assigns) → AreAssigns a → IsWritable (form.assigns_form a)
assigns_writable a good = (attrs_writable a.attrs good.attrs, (assign_word, each_writable form.assignment_form IsAssignment assignment_writable a.sets good.sets.all))

conn_writable : (c : NamedConn) → IsNamedConn c → IsWritable (form.conn_form c)
conn_writable c good = given_writable c.port (form.value_form c.value) good.port (value_writable c.value good.value)

conns_writable : (cs : Conns) → IsConns cs → IsWritable (form.conns_form cs)
conns_writable (conns.Named cs) good = each_writable form.conn_form IsNamedConn conn_writable cs good.all
conns_writable (conns.Order es) good = each_writable form.value_form (λ e. IfSome e IsExpr) value_writable es good.0

inst_writable : (i : VInst) → IsInstance i → IsWritable (form.inst_form i)
inst_writable i good = (good.name, round_writable (form.conns_form i.conns) (conns_writable i.conns good.conns))

override_writable : (s : ParamSet) → IsParamSet s → IsWritable (form.override_form s)
override_writable s good = given_writable s.name (form.const_form s.value) good.name (const_writable s.value good.value)

instances_writable : (i : Instances) → AreInstances i → IsWritable (form.instances_form i)
instances_writable i good = (
  attrs_writable i.attrs good.attrs,
  (
    good.of_module,
    (hashed_writable (each form.override_form i.params) (each_writable form.override_form IsParamSet override_writable i.params good.params), each_writable form.inst_form IsInstance inst_writable i.insts good.insts.all),
  ),
)

def_writable : (d : DefSet) → IsDefSet d → IsWritable (form.def_form d)
def_writable d good = ((good.instance, good.name), (refl, const_writable d.value good.value))

defparams_writable : (d : Defparams) → AreDefparams d → IsWritable (form.defparams_form d)
defparams_writable d good = (attrs_writable d.attrs good.attrs, (defparam_word, each_writable form.def_form IsDefSet def_writable d.sets good.sets.all))

-- ---- modules and files

item_writable : (i : ItemV) → IsItem i → IsWritable (form.item_form i)
item_writable (items.Port d) good = port_writable d good
item_writable (items.Net d) good = net_writable d good
item_writable (items.Param d) good = param_writable d good
item_writable (items.Assign a) good = assigns_writable a good
item_writable (items.Instances i) good = instances_writable i good
item_writable (items.Defparam d) good = defparams_writable d good

items_laid : (is : List ItemV) → AllByRecursion IsItem is → CanBeLaid (all form.item_lines is)
items_laid [] good = tt
items_laid (i ∷ is) good = ((item_writable i good.0, refl, or_true (is_alone (form.item_form i))), items_laid is good.1)

decl_laid : (d : PortDecl) (others : List PortDecl) → IsPortDecl d → IsWritable (form.before_others (form.port_form d) others)
decl_laid d [] good = port_writable d good
decl_laid d (e ∷ others) good = (port_writable d good, refl, or_true (is_alone (form.port_form d)))

decls_laid : (ds : List PortDecl) → AllByRecursion IsPortDecl ds → CanBeLaid (form.decl_lines ds)
decls_laid [] good = tt
decls_laid (d ∷ others) good = (decl_laid d others good.0, decls_laid others good.1)

heading_writable : (m : Module) (last : Form) → IsModule m → IsWritable last → IsWritable (form.heading m last)
heading_writable m last good h = (
  module_word,
  (good.name, (hashed_writable (each form.group_form m.params) (each_writable form.group_form IsParamGroup (λ p g. group_writable p g.declaration) m.params good.params), h)),
)

header_laid : (m : Module) (h : Header) → IsModule m → IsHeader h → CanBeLaid (form.header_lines m h)
header_laid m (headers.Names ns) good header = heading_writable m (form.round (form.names_form ns) ▸ Mark 59) good (round_writable (form.names_form ns) (names_writable ns header), refl, refl)
header_laid m (headers.Decls ds) good header = (heading_writable m (Mark 40) good refl, (decls_laid ds header.all, (refl, refl, refl)))

attribute_lines_laid : (fs : Forms) → AreWritable fs → CanBeLaid (form.attribute_lines fs)
attribute_lines_laid none h = tt
attribute_lines_laid (more f fs) h = h

module_laid : (m : Module) → IsModule m → CanBeLaid (form.module_lines m)
module_laid m good = (attribute_lines_laid (each form.attr_form m.attrs) (attrs_writable m.attrs good.attrs), (header_laid m m.header good good.header, (items_laid m.items good.items, endmodule_word)))

nettype_laid : (before implicit : Bool) → CanBeLaid (form.nettype_lines before implicit)
nettype_laid true true = tt
nettype_laid true false = (refl, none_name)
nettype_laid false true = (refl, wire_word)
nettype_laid false false = tt

modules_laid : (before : Bool) (ms : List Module) → AllByRecursion IsModule ms → CanBeLaid (form.file_lines before ms)
modules_laid before [] good = tt
modules_laid before (m ∷ ms) good = (nettype_laid before m.implicit, (module_laid m good.0, modules_laid m.implicit ms good.1))

pub file_laid : (v : VlogFile) → IsVlogValue v → CanBeLaid (form.file_lines true v.modules)
file_laid v good = modules_laid true v.modules good
