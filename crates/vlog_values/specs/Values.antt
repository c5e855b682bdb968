-- The files that are read from a text or can be written: what the types of a value do not keep (IEEE 1364-2005, 3, 5.1.14 and 12).
use Rattle.std.specs.Prelude.{◌≡◌, ◌≤◌, ◌<◌, ◌^◌, ⊤, ℕ, zero, suc, ℤ, pos, nat_abs, ◌≤ℤ◌, Bool, true, false, List, [], ◌∷◌, length, Option, Some, None, IfSome}
use Rattle.std.specs.List.{AllByRecursion, list_all}
use Rattle.nl_base.specs.Ranges.{Bounds}
use Rattle.nl_base.specs.declared.number.Scaled.{Scaled}
use Rattle.vlog_values.specs.Bits.{IsBased}
use Rattle.vlog_values.specs.declared.literal.Literal.{Literal}
use Rattle.vlog_values.specs.declared.expression.Const.{Const}
use Rattle.vlog_values.specs.declared.expression.Const.TheVariants as consts
use Rattle.vlog_values.specs.declared.expression.Attr.{Attr}
use Rattle.vlog_values.specs.declared.expression.Select.{Select}
use Rattle.vlog_values.specs.declared.expression.Select.TheVariants as selects
use Rattle.vlog_values.specs.declared.expression.Expr.{Expr}
use Rattle.vlog_values.specs.declared.expression.Expr.TheFolds.{fold-Expr}
use Rattle.vlog_values.specs.declared.expression.Expr.TheOpen.{Expr-F}
use Rattle.vlog_values.specs.declared.expression.Expr.TheViews.{out-Expr}
use Rattle.vlog_values.specs.declared.declaration.PortDecl.{PortDecl}
use Rattle.vlog_values.specs.declared.declaration.NetDecl.{NetDecl}
use Rattle.vlog_values.specs.declared.declaration.ParamType.{ParamType}
use Rattle.vlog_values.specs.declared.declaration.ParamType.TheVariants as types
use Rattle.vlog_values.specs.declared.declaration.ParamSet.{ParamSet}
use Rattle.vlog_values.specs.declared.declaration.ParamDecl.{ParamDecl}
use Rattle.vlog_values.specs.declared.statement.NamedConn.{NamedConn}
use Rattle.vlog_values.specs.declared.statement.Conns.{Conns}
use Rattle.vlog_values.specs.declared.statement.Conns.TheVariants as conns
use Rattle.vlog_values.specs.declared.statement.VInst.{VInst}
use Rattle.vlog_values.specs.declared.statement.Instances.{Instances}
use Rattle.vlog_values.specs.declared.statement.Assignment.{Assignment}
use Rattle.vlog_values.specs.declared.statement.Assigns.{Assigns}
use Rattle.vlog_values.specs.declared.statement.DefSet.{DefSet}
use Rattle.vlog_values.specs.declared.statement.Defparams.{Defparams}
use Rattle.vlog_values.specs.declared.module.ItemV.{ItemV}
use Rattle.vlog_values.specs.declared.module.ItemV.TheVariants as items
use Rattle.vlog_values.specs.declared.module.Header.{Header}
use Rattle.vlog_values.specs.declared.module.Header.TheVariants as headers
use Rattle.vlog_values.specs.declared.module.Module.{Module}
use Rattle.vlog_values.specs.declared.module.VlogFile.{VlogFile}

-- one item or more, each of which is such
pub record AreSome {A : Type 0} (Good : A → Type 0) (xs : List A) : Type 0 where
  pub some : 1 ≤ length xs
  pub all : AllByRecursion Good xs

-- ---- names, strings and numbers (IEEE 1364-2005, 3.5 to 3.7)

-- a name: 1 to 1,024 bytes of 33 to 126, as those of an escaped name
pub record IsName (name : List ℕ) : Type 0 where
  pub some : 1 ≤ length name
  pub short : length name ≤ 1024
  pub graphic : AllByRecursion (λ b. (33 ≤ b) × (b ≤ 126)) name

-- a string: at most 1,048,576 bytes
pub record IsString (text : List ℕ) : Type 0 where
  pub bytes : AllByRecursion (λ b. b < 256) text
  pub short : length text ≤ 1048576

-- a whole number of an absolute value of at most 2^63-1
abbrev pub IsNumber : ℤ → Type 0
IsNumber n = nat_abs n < 2 ^ 63

-- such a number that is not negative
pub record IsCount (n : ℤ) : Type 0 where
  pub number : IsNumber n
  pub sign : pos 0 ≤ℤ n

-- a real's mantissa and exponent
pub record IsReal (r : Scaled) : Type 0 where
  pub mantissa : IsNumber r.mantissa
  pub exponent : IsNumber r.exponent

-- a bound of a range or an index of a select: an absolute value of at most 2^31-1
abbrev pub IsBound : ℤ → Type 0
IsBound n = nat_abs n < 2 ^ 31

-- a range
pub record IsRange (r : Bounds) : Type 0 where
  pub left : IsBound r.left
  pub right : IsBound r.right

-- ---- constants and attributes (IEEE 1364-2005, 3.5.1 and 3.8)

-- a based literal of a size of 1 to 65,536
pub record IsLiteral (l : Literal) : Type 0 where
  pub least : 1 ≤ l.size
  pub most : l.size ≤ 65536
  pub based : IsBased l.based

-- the value of an attribute or a parameter
abbrev pub IsConst : Const → Type 0
IsConst (consts.Str s) = IsString s
IsConst (consts.Number n) = IsNumber n
IsConst (consts.Real r) = IsReal r
IsConst (consts.Lit l) = IsLiteral l
IsConst (consts.Loose b) = IsBased b

-- an attribute
pub record IsAttr (a : Attr) : Type 0 where
  pub name : IsName a.name
  pub value : IsConst a.value

-- attributes
abbrev pub AreAttrs : List Attr → Type 0
AreAttrs as_written = AllByRecursion IsAttr as_written

-- ---- expressions (IEEE 1364-2005, 5.1.14 and 5.2.1)

-- the bits of a name that are meant
abbrev pub IsSelect : Select → Type 0
IsSelect selects.All = ⊤
IsSelect (selects.One index) = IsBound index
IsSelect (selects.Slice left right) = IsBound left × IsBound right

-- an expression, where those in its braces are such
abbrev pub IsLayer : (List Expr → Type 0) → Expr-F Expr → Type 0
IsLayer Inside (Expr-F.Ref select name) = IsName name × IsSelect select
IsLayer Inside (Expr-F.Lit literal) = IsLiteral literal
IsLayer Inside (Expr-F.LooseNumber n) = IsCount n
IsLayer Inside (Expr-F.Loose based) = IsBased based
IsLayer Inside (Expr-F.Cat es) = Inside es
IsLayer Inside (Expr-F.Rep count es) = IsCount count × Inside es

-- an expression with at most so many braces in one another; the lists of its concatenations and replications are not empty
unfoldable pub IsExprWithin : ℕ → Expr → Type 0
IsExprWithin zero e = IsLayer (λ es. ⊥) (out-Expr e)
IsExprWithin (suc levels) e = IsLayer (AreSome (IsExprWithin levels)) (out-Expr e)

-- an expression, whose braces are at most 64 deep
abbrev pub IsExpr : Expr → Type 0
IsExpr e = IsExprWithin 64 e

-- whether an expression is a reference or a concatenation of such, by those in its braces
abbrev pub left_step : Expr-F Bool → Bool
left_step (Expr-F.Ref select name) = true
left_step (Expr-F.Lit literal) = false
left_step (Expr-F.LooseNumber n) = false
left_step (Expr-F.Loose based) = false
left_step (Expr-F.Cat ls) = list_all (λ l. l) ls
left_step (Expr-F.Rep count ls) = false

-- whether an expression may stand on the left of an assignment: it holds references and concatenations alone (6.1)
unfoldable pub is_left : Expr → Bool
is_left = fold-Expr Bool left_step

-- ---- declarations (IEEE 1364-2005, 3.2, 4.10 and 12.3)

-- a declaration of one port or more
pub record IsPortDecl (d : PortDecl) : Type 0 where
  pub attrs : AreAttrs d.attrs
  pub range : IfSome d.range IsRange
  pub names : AreSome IsName d.names

-- a declaration of one net or more
pub record IsNetDecl (d : NetDecl) : Type 0 where
  pub attrs : AreAttrs d.attrs
  pub range : IfSome d.range IsRange
  pub names : AreSome IsName d.names

-- the type of a parameter
abbrev pub IsParamType : ParamType → Type 0
IsParamType (types.Plain signed range) = IfSome range IsRange
IsParamType types.Integer = ⊤
IsParamType types.Real = ⊤

-- a name and its value
pub record IsParamSet (s : ParamSet) : Type 0 where
  pub name : IsName s.name
  pub value : IsConst s.value

-- a declaration of one parameter or more
pub record IsParamDecl (d : ParamDecl) : Type 0 where
  pub attrs : AreAttrs d.attrs
  pub kind : IsParamType d.kind
  pub sets : AreSome IsParamSet d.sets

-- a parameter group of a header has no attributes
pub record IsParamGroup (d : ParamDecl) : Type 0 where
  pub declaration : IsParamDecl d
  pub plain : d.attrs ≡ []

-- ---- statements (IEEE 1364-2005, 6.1, 12.1.2 and 12.2.1)

-- a connection by name, which may be open
pub record IsNamedConn (c : NamedConn) : Type 0 where
  pub port : IsName c.port
  pub value : IfSome c.value IsExpr

-- one lone open connection
abbrev pub IsLoneOpen : List (Option Expr) → Type 0
IsLoneOpen [] = ⊥
IsLoneOpen (None ∷ []) = ⊤
IsLoneOpen (None ∷ e ∷ es) = ⊥
IsLoneOpen (Some e ∷ es) = ⊥

-- the connections of an instance: by name, at least one, or in order, and then not one lone open connection
abbrev pub IsConns : Conns → Type 0
IsConns (conns.Named cs) = AreSome IsNamedConn cs
IsConns (conns.Order es) = AllByRecursion (λ e. IfSome e IsExpr) es × (IsLoneOpen es → ⊥)

-- an instance
pub record IsInstance (u : VInst) : Type 0 where
  pub name : IsName u.name
  pub conns : IsConns u.conns

-- a statement of one instance or more
pub record AreInstances (s : Instances) : Type 0 where
  pub attrs : AreAttrs s.attrs
  pub of_module : IsName s.module
  pub params : AllByRecursion IsParamSet s.params
  pub insts : AreSome IsInstance s.insts

-- an assignment
pub record IsAssignment (a : Assignment) : Type 0 where
  pub left : IsExpr a.left
  pub assignable : is_left a.left ≡ true
  pub right : IsExpr a.right

-- a statement of one assignment or more
pub record AreAssigns (s : Assigns) : Type 0 where
  pub attrs : AreAttrs s.attrs
  pub sets : AreSome IsAssignment s.sets

-- a value for a parameter of an instance
pub record IsDefSet (s : DefSet) : Type 0 where
  pub instance : IsName s.instance
  pub name : IsName s.name
  pub value : IsConst s.value

-- a `defparam` of one value or more
pub record AreDefparams (s : Defparams) : Type 0 where
  pub attrs : AreAttrs s.attrs
  pub sets : AreSome IsDefSet s.sets

-- ---- modules (IEEE 1364-2005, 12.1)

-- what may stand in a module
abbrev pub IsItem : ItemV → Type 0
IsItem (items.Port d) = IsPortDecl d
IsItem (items.Net d) = IsNetDecl d
IsItem (items.Param d) = IsParamDecl d
IsItem (items.Assign s) = AreAssigns s
IsItem (items.Instances s) = AreInstances s
IsItem (items.Defparam s) = AreDefparams s

-- the ports of a module: names, or at least one declaration
abbrev pub IsHeader : Header → Type 0
IsHeader (headers.Names ns) = AllByRecursion IsName ns
IsHeader (headers.Decls ds) = AreSome IsPortDecl ds

-- a module
pub record IsModule (m : Module) : Type 0 where
  pub attrs : AreAttrs m.attrs
  pub name : IsName m.name
  pub params : AllByRecursion IsParamGroup m.params
  pub header : IsHeader m.header
  pub items : AllByRecursion IsItem m.items

-- a file
abbrev pub IsVlogValue : VlogFile → Type 0
IsVlogValue file = AllByRecursion IsModule file.modules
