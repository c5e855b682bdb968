-- The size of a file: the number of items in all its lists at every depth. The bytes of a text are no items.
use Rattle.std.specs.Prelude.{ℕ, ◌+◌, List, length, sum, sum_by, Option, Some, None}
use Rattle.vlog_values.specs.declared.expression.Expr.{Expr}
use Rattle.vlog_values.specs.declared.expression.Expr.TheFolds.{fold-Expr}
use Rattle.vlog_values.specs.declared.expression.Expr.TheOpen.{Expr-F}
use Rattle.vlog_values.specs.declared.declaration.PortDecl.{PortDecl}
use Rattle.vlog_values.specs.declared.declaration.NetDecl.{NetDecl}
use Rattle.vlog_values.specs.declared.declaration.ParamDecl.{ParamDecl}
use Rattle.vlog_values.specs.declared.statement.NamedConn.{NamedConn}
use Rattle.vlog_values.specs.declared.statement.Conns.{Conns}
use Rattle.vlog_values.specs.declared.statement.Conns.TheVariants as conns
use Rattle.vlog_values.specs.declared.statement.VInst.{VInst}
use Rattle.vlog_values.specs.declared.statement.Instances.{Instances}
use Rattle.vlog_values.specs.declared.statement.Assignment.{Assignment}
use Rattle.vlog_values.specs.declared.statement.Assigns.{Assigns}
use Rattle.vlog_values.specs.declared.statement.Defparams.{Defparams}
use Rattle.vlog_values.specs.declared.module.ItemV.{ItemV}
use Rattle.vlog_values.specs.declared.module.ItemV.TheVariants as items
use Rattle.vlog_values.specs.declared.module.Header.{Header}
use Rattle.vlog_values.specs.declared.module.Header.TheVariants as headers
use Rattle.vlog_values.specs.declared.module.Module.{Module}
use Rattle.vlog_values.specs.declared.module.VlogFile.{VlogFile}

-- the items of a list, and those in the lists of its items
abbrev pub list_size : {A : Type 0} → (A → ℕ) → List A → ℕ
list_size size xs = sum_by size xs + length xs

-- an expression, by the sizes of those in its braces
abbrev pub expr_step : Expr-F ℕ → ℕ
expr_step (Expr-F.Ref select name) = 0
expr_step (Expr-F.Lit literal) = 0
expr_step (Expr-F.LooseNumber n) = 0
expr_step (Expr-F.Loose based) = 0
expr_step (Expr-F.Cat ns) = sum ns + length ns
expr_step (Expr-F.Rep count ns) = sum ns + length ns

-- an expression (IEEE 1364-2005, 5.1.14)
unfoldable pub expr_size : Expr → ℕ
expr_size = fold-Expr ℕ expr_step

-- ---- declarations (IEEE 1364-2005, 3.2, 4.10 and 12.3)

-- a declaration of ports
abbrev pub port_size : PortDecl → ℕ
port_size d = length d.attrs + length d.names

-- a declaration of nets
abbrev pub net_size : NetDecl → ℕ
net_size d = length d.attrs + length d.names

-- a declaration of parameters
abbrev pub param_size : ParamDecl → ℕ
param_size d = length d.attrs + length d.sets

-- ---- statements (IEEE 1364-2005, 6.1, 12.1.2 and 12.2.1)

-- an expression that may be left out
abbrev pub maybe_size : Option Expr → ℕ
maybe_size None = 0
maybe_size (Some e) = expr_size e

-- a connection by name
abbrev pub conn_size : NamedConn → ℕ
conn_size c = maybe_size c.value

-- the connections of an instance
abbrev pub conns_size : Conns → ℕ
conns_size (conns.Named cs) = list_size conn_size cs
conns_size (conns.Order es) = list_size maybe_size es

-- an instance
abbrev pub instance_size : VInst → ℕ
instance_size u = conns_size u.conns

-- a statement of instances
abbrev pub instances_size : Instances → ℕ
instances_size s = length s.attrs + length s.params + list_size instance_size s.insts

-- an assignment
abbrev pub assignment_size : Assignment → ℕ
assignment_size a = expr_size a.left + expr_size a.right

-- a statement of assignments
abbrev pub assigns_size : Assigns → ℕ
assigns_size s = length s.attrs + list_size assignment_size s.sets

-- a `defparam`
abbrev pub defparams_size : Defparams → ℕ
defparams_size s = length s.attrs + length s.sets

-- ---- modules (IEEE 1364-2005, 12.1)

-- what may stand in a module
abbrev pub item_size : ItemV → ℕ
item_size (items.Port d) = port_size d
item_size (items.Net d) = net_size d
item_size (items.Param d) = param_size d
item_size (items.Assign s) = assigns_size s
item_size (items.Instances s) = instances_size s
item_size (items.Defparam s) = defparams_size s

-- the ports of a module
abbrev pub header_size : Header → ℕ
header_size (headers.Names ns) = length ns
header_size (headers.Decls ds) = list_size port_size ds

-- a module
abbrev pub module_size : Module → ℕ
module_size m = length m.attrs + list_size param_size m.params + header_size m.header + list_size item_size m.items

-- a file
unfoldable pub vlog_size : VlogFile → ℕ
vlog_size file = list_size module_size file.modules
