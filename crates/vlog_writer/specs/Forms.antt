-- The written text of a file: the form of each value, and the lines of a module.
use Rattle.std.specs.Prelude.{ℕ, ℤ, Bool, true, false, List, [], ◌∷◌, Option, Some, None, codes, if◌then◌else◌}
use Rattle.nl_base.specs.Ranges.{Bounds}
use Rattle.nl_base.specs.declared.value.Dir.{Dir}
use Rattle.nl_base.specs.declared.value.Dir.TheVariants as dir
use Rattle.vlog_values.specs.declared.expression.Attr.{Attr}
use Rattle.vlog_values.specs.declared.expression.Const.{Const}
use Rattle.vlog_values.specs.declared.expression.Const.TheVariants as const
use Rattle.vlog_values.specs.declared.expression.Select.{Select}
use Rattle.vlog_values.specs.declared.expression.Select.TheVariants as select
use Rattle.vlog_values.specs.declared.expression.Expr.{Expr}
use Rattle.vlog_values.specs.declared.expression.Expr.TheFolds.{fold-Expr}
use Rattle.vlog_values.specs.declared.expression.Expr.TheOpen.{Expr-F}
use Rattle.vlog_values.specs.declared.declaration.PortKind.{PortKind}
use Rattle.vlog_values.specs.declared.declaration.PortKind.TheVariants as port_kind
use Rattle.vlog_values.specs.declared.declaration.NetKind.{NetKind}
use Rattle.vlog_values.specs.declared.declaration.NetKind.TheVariants as net_kind
use Rattle.vlog_values.specs.declared.declaration.PortDecl.{PortDecl}
use Rattle.vlog_values.specs.declared.declaration.NetDecl.{NetDecl}
use Rattle.vlog_values.specs.declared.declaration.ParamType.{ParamType}
use Rattle.vlog_values.specs.declared.declaration.ParamType.TheVariants as param_type
use Rattle.vlog_values.specs.declared.declaration.ParamSet.{ParamSet}
use Rattle.vlog_values.specs.declared.declaration.ParamDecl.{ParamDecl}
use Rattle.vlog_values.specs.declared.statement.NamedConn.{NamedConn}
use Rattle.vlog_values.specs.declared.statement.Conns.{Conns}
use Rattle.vlog_values.specs.declared.statement.Conns.TheVariants as conns
use Rattle.vlog_values.specs.declared.statement.VInst.{VInst}
use Rattle.vlog_values.specs.declared.statement.Instances.{Instances}
use Rattle.vlog_values.specs.declared.statement.Assignment.{Assignment}
use Rattle.vlog_values.specs.declared.statement.Assigns.{Assigns}
use Rattle.vlog_values.specs.declared.statement.DefSet.{DefSet}
use Rattle.vlog_values.specs.declared.statement.Defparams.{Defparams}
use Rattle.vlog_values.specs.declared.module.ItemV.{ItemV}
use Rattle.vlog_values.specs.declared.module.ItemV.TheVariants as item
use Rattle.vlog_values.specs.declared.module.Header.{Header}
use Rattle.vlog_values.specs.declared.module.Header.TheVariants as header
use Rattle.vlog_values.specs.declared.module.Module.{Module}
use Rattle.vlog_values.specs.declared.module.VlogFile.{VlogFile}
use Rattle.vlog_writer.specs.Layout.{Form, Empty, Name, Word, Directive, Mark, Number, Real, Sized, Loose, Str, Path, ◌▸◌, Row, Listed, Attributes, Attributed, Parts, no_part, part, both, Forms, none, more, Lines, nothing, line, ◌below◌, together, each, all, laid}

-- a form in `(` and `)`
abbrev pub round : Form → Form
round f = Mark 40 ▸ f ▸ Mark 41

-- a form in `[` and `]`
abbrev pub square : Form → Form
square f = Mark 91 ▸ f ▸ Mark 93

-- a form in `{` and `}`
abbrev pub braced : Form → Form
braced f = Mark 123 ▸ f ▸ Mark 125

-- `left = right`
abbrev pub equal : Form → Form → Form
equal left right = Row left (both (part (Mark 61)) (part right))

-- `.port(value)`
abbrev pub given : List ℕ → Form → Form
given port value = Mark 46 ▸ Name port ▸ round value

-- a word where it is said
abbrev pub word_where : Bool → List ℕ → Parts
word_where b word = if b then part (Word word) else no_part

-- names with commas between them
abbrev pub names_form : List (List ℕ) → Form
names_form names = Listed (each Name names)

-- ---- constants, attributes and expressions

-- a constant (IEEE 1364-2005, 3.5 and 3.6)
abbrev pub const_form : Const → Form
const_form (const.Str s) = Str s
const_form (const.Number n) = Number n
const_form (const.Real r) = Real r
const_form (const.Lit literal) = Sized literal
const_form (const.Loose based) = Loose based

-- an attribute (3.8)
abbrev pub attr_form : Attr → Form
attr_form a = equal (Name a.name) (const_form a.value)

-- an object behind its attributes
abbrev pub with_attributes : List Attr → Form → Form
with_attributes attrs f = Attributed (each attr_form attrs) f

-- `left:right`
abbrev pub bounds_form : ℤ → ℤ → Form
bounds_form left right = Number left ▸ Mark 58 ▸ Number right

-- a range (4.3.1)
abbrev pub range_form : Bounds → Form
range_form r = square (bounds_form r.left r.right)

-- a range where there is one
abbrev pub range_part : Option Bounds → Parts
range_part None = no_part
range_part (Some r) = part (range_form r)

-- a name with a select directly behind it (5.2.1)
abbrev pub ref_form : List ℕ → Select → Form
ref_form name select.All = Name name
ref_form name (select.One index) = Name name ▸ square (Number index)
ref_form name (select.Slice left right) = Name name ▸ square (bounds_form left right)

-- expressions in braces (5.1.14)
abbrev pub cat_form : Forms → Form
cat_form fs = braced (Listed fs)

-- an expression, from the forms of its expressions (5.1.14)
abbrev pub expr_step : Expr-F Form → Form
expr_step (Expr-F.Ref select name) = ref_form name select
expr_step (Expr-F.Lit literal) = Sized literal
expr_step (Expr-F.LooseNumber n) = Number n
expr_step (Expr-F.Loose based) = Loose based
expr_step (Expr-F.Cat fs) = cat_form (together fs)
expr_step (Expr-F.Rep count fs) = braced (Number count ▸ cat_form (together fs))

-- an expression
abbrev pub expr_form : Expr → Form
expr_form = fold-Expr Form expr_step

-- ---- declarations

-- the word of a direction
abbrev pub dir_form : Dir → Form
dir_form dir.Input = Word (codes "input")
dir_form dir.Output = Word (codes "output")
dir_form dir.Inout = Word (codes "inout")

-- the word of a port's kind where it is said
abbrev pub port_kind_part : Option PortKind → Parts
port_kind_part None = no_part
port_kind_part (Some port_kind.Wire) = part (Word (codes "wire"))
port_kind_part (Some port_kind.Tri) = part (Word (codes "tri"))

-- the word of a net's kind
abbrev pub net_kind_form : NetKind → Form
net_kind_form net_kind.Wire = Word (codes "wire")
net_kind_form net_kind.Tri = Word (codes "tri")
net_kind_form net_kind.Supply0 = Word (codes "supply0")
net_kind_form net_kind.Supply1 = Word (codes "supply1")

-- `signed`, a range and names, each where it is said
abbrev pub vector_parts : Bool → Option Bounds → Parts
vector_parts signed range = both (word_where signed (codes "signed")) (range_part range)

-- a declaration of ports (12.3.3)
abbrev pub port_form : PortDecl → Form
port_form d = with_attributes d.attrs (Row (dir_form d.dir) (both (port_kind_part d.kind) (both (vector_parts d.signed d.range) (part (names_form d.names)))))

-- a declaration of nets (4.2)
abbrev pub net_form : NetDecl → Form
net_form d = with_attributes d.attrs (Row (net_kind_form d.kind) (both (vector_parts d.signed d.range) (part (names_form d.names))))

-- the type of parameters (4.10.1)
abbrev pub type_parts : ParamType → Parts
type_parts (param_type.Plain signed range) = vector_parts signed range
type_parts param_type.Integer = part (Word (codes "integer"))
type_parts param_type.Real = part (Word (codes "real"))

-- a parameter and its value
abbrev pub set_form : ParamSet → Form
set_form s = equal (Name s.name) (const_form s.value)

-- parameters of one type (4.10.1)
abbrev pub group_form : ParamDecl → Form
group_form p = Row (Word (codes "parameter")) (both (type_parts p.kind) (part (Listed (each set_form p.sets))))

-- a declaration of parameters
abbrev pub param_form : ParamDecl → Form
param_form p = with_attributes p.attrs (group_form p)

-- ---- statements

-- an assignment
abbrev pub assignment_form : Assignment → Form
assignment_form a = equal (expr_form a.left) (expr_form a.right)

-- a continuous assignment (6.1)
abbrev pub assigns_form : Assigns → Form
assigns_form a = with_attributes a.attrs (Row (Word (codes "assign")) (part (Listed (each assignment_form a.sets))))

-- what a port is connected to; nothing where it is open
abbrev pub value_form : Option Expr → Form
value_form None = Empty
value_form (Some e) = expr_form e

-- a connection by name (12.3.6)
abbrev pub conn_form : NamedConn → Form
conn_form c = given c.port (value_form c.value)

-- connections by name, or in the order of the ports (12.3.5, 12.3.6)
abbrev pub conns_form : Conns → Form
conns_form (conns.Named cs) = Listed (each conn_form cs)
conns_form (conns.Order values) = Listed (each value_form values)

-- an instance (12.1.2)
abbrev pub inst_form : VInst → Form
inst_form i = Row (Name i.name) (part (round (conns_form i.conns)))

-- the value of a parameter of an instance (12.2.2.2)
abbrev pub override_form : ParamSet → Form
override_form s = given s.name (const_form s.value)

-- `#` and a list in `(` and `)`, where the list is not empty
abbrev pub hashed : Forms → Parts
hashed none = no_part
hashed (more f fs) = part (Mark 35 ▸ round (Listed (more f fs)))

-- instances of one module (12.1.2)
abbrev pub instances_form : Instances → Form
instances_form i = with_attributes i.attrs (Row (Name i.module) (both (hashed (each override_form i.params)) (part (Listed (each inst_form i.insts)))))

-- the value of a parameter of a named instance (12.2.1)
abbrev pub def_form : DefSet → Form
def_form d = equal (Path d.instance d.name) (const_form d.value)

-- values of parameters of named instances (12.2.1)
abbrev pub defparams_form : Defparams → Form
defparams_form d = with_attributes d.attrs (Row (Word (codes "defparam")) (part (Listed (each def_form d.sets))))

-- ---- modules and files

-- an item of a module (12.1)
abbrev pub item_form : ItemV → Form
item_form (item.Port d) = port_form d
item_form (item.Net d) = net_form d
item_form (item.Param p) = param_form p
item_form (item.Assign a) = assigns_form a
item_form (item.Instances i) = instances_form i
item_form (item.Defparam d) = defparams_form d

-- an item and its `;` on a line
abbrev pub item_lines : ItemV → Lines
item_lines i = line 2 (item_form i ▸ Mark 59)

-- a comma where another declaration follows
abbrev pub before_others : Form → List PortDecl → Form
before_others f [] = f
before_others f (d ∷ ds) = f ▸ Mark 44

-- declarations in a header, each on a line, with a comma behind all but the last (12.3.4)
abbrev pub decl_lines : List PortDecl → Lines
decl_lines [] = nothing
decl_lines (d ∷ ds) = line 2 (before_others (port_form d) ds) below decl_lines ds

-- the first line of a module, with its parameters where it has some, up to a last part (12.1, 12.2)
abbrev pub heading : Module → Form → Form
heading m last = Row (Word (codes "module")) (both (part (Name m.name)) (both (hashed (each group_form m.params)) (part last)))

-- the header of a module: names, or declarations (12.3.1, 12.3.2)
abbrev pub header_lines : Module → Header → Lines
header_lines m (header.Names names) = line 0 (heading m (round (names_form names) ▸ Mark 59))
header_lines m (header.Decls decls) = line 0 (heading m (Mark 40)) below decl_lines decls below line 0 (Mark 41 ▸ Mark 59)

-- attributes on a line of their own, where there are some (3.8)
abbrev pub attribute_lines : Forms → Lines
attribute_lines none = nothing
attribute_lines (more f fs) = line 0 (Attributes (more f fs))

-- the last line of a module (12.1)
abbrev pub end_line : Lines
end_line = line 0 (Word (codes "endmodule"))

-- a module (12.1)
abbrev pub module_lines : Module → Lines
module_lines m = attribute_lines (each attr_form m.attrs) below header_lines m m.header below all item_lines m.items below end_line

-- the net type of names without a declaration: `wire`, or `none` where there is none (19.2)
abbrev pub nettype_form : Bool → Form
nettype_form true = Word (codes "wire")
nettype_form false = Name (codes "none")

-- the line that says it (19.2)
abbrev pub nettype_line : Bool → Lines
nettype_line implicit = line 0 (Row (Directive (codes "`default_nettype")) (part (nettype_form implicit)))

-- that line, where it changes what was so before
abbrev pub nettype_lines : Bool → Bool → Lines
nettype_lines true true = nothing
nettype_lines true false = nettype_line false
nettype_lines false true = nettype_line true
nettype_lines false false = nothing

-- the lines of a module up to its items, behind modules for the last of which that was so
abbrev pub start_lines : Bool → Module → Lines
start_lines before m = nettype_lines before m.implicit below attribute_lines (each attr_form m.attrs) below header_lines m m.header

-- modules behind one for which that was so
abbrev pub file_lines : Bool → List Module → Lines
file_lines before [] = nothing
file_lines before (m ∷ ms) = nettype_lines before m.implicit below module_lines m below file_lines m.implicit ms

-- the written text of a file
abbrev pub vlog_text : VlogFile → List ℕ
vlog_text file = laid (file_lines true file.modules) []
