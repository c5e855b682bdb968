-- The items of a module: declarations of ports, nets and parameters, assignments, instances and `defparam` (IEEE 1364-2005, A.1.3, A.1.4, A.2.1,
-- A.4.1 and A.6.1): a definition for each production, with the production before it. NAME is a token.
use Rattle.std.specs.Prelude.{ℕ, Bool, true, false, List, [], ◌∷◌, Option, Some, None, is_some, codes}
use Rattle.grammar.specs.Part.{gives, sequence, ◌>>=◌}
use Rattle.readers.specs.Parts.{if_next, maybe}
use Rattle.nl_base.specs.declared.value.Dir.{Dir}
use Rattle.nl_base.specs.declared.value.Dir.TheVariants as dirs
use Rattle.vlog_values.specs.declared.expression.Attr.{Attr}
use Rattle.vlog_values.specs.declared.expression.Expr.{Expr}
use Rattle.vlog_values.specs.declared.declaration.PortKind.{PortKind}
use Rattle.vlog_values.specs.declared.declaration.PortKind.TheVariants as port_kinds
use Rattle.vlog_values.specs.declared.declaration.NetKind.{NetKind}
use Rattle.vlog_values.specs.declared.declaration.NetKind.TheVariants as net_kinds
use Rattle.vlog_values.specs.declared.declaration.PortDecl.{PortDecl}
use Rattle.vlog_values.specs.declared.declaration.NetDecl.{NetDecl}
use Rattle.vlog_values.specs.declared.declaration.ParamType.{ParamType}
use Rattle.vlog_values.specs.declared.declaration.ParamType.TheVariants as param_types
use Rattle.vlog_values.specs.declared.declaration.ParamSet.{ParamSet}
use Rattle.vlog_values.specs.declared.declaration.ParamDecl.{ParamDecl}
use Rattle.vlog_values.specs.declared.statement.NamedConn.{NamedConn}
use Rattle.vlog_values.specs.declared.statement.Conns.{Conns}
use Rattle.vlog_values.specs.declared.statement.Conns.TheVariants as conns_of
use Rattle.vlog_values.specs.declared.statement.VInst.{VInst}
use Rattle.vlog_values.specs.declared.statement.Instances.{Instances}
use Rattle.vlog_values.specs.declared.statement.Assignment.{Assignment}
use Rattle.vlog_values.specs.declared.statement.Assigns.{Assigns}
use Rattle.vlog_values.specs.declared.statement.DefSet.{DefSet}
use Rattle.vlog_values.specs.declared.statement.Defparams.{Defparams}
use Rattle.vlog_values.specs.declared.module.ItemV.{ItemV}
use Rattle.vlog_values.specs.declared.module.ItemV.TheVariants as items
use Rattle.vlog_exprs.specs.Language.{Vlog}
use Rattle.vlog_exprs.specs.Reasons as say
use Rattle.vlog_exprs.specs.Grammar.{name, mark, choice, after, commas, list, maybe_range, maybe_expr, expr, constant}
use Rattle.vlog_items.specs.declared.item.ItemWord.{ItemWord}
use Rattle.vlog_items.specs.declared.item.ItemWord.TheVariants as words

-- ---- the words of declarations

-- the word that says a declaration's numbers have signs
abbrev pub signed_word : List (List ℕ × Bool)
signed_word = (codes "signed", true) ∷ []

-- ["signed"]
unfoldable pub signed : Vlog Bool
signed = sequence (maybe (λ _ x. say.at_choice signed_word x.token)) (λ s. gives (is_some s))

-- the net kinds of a port
abbrev pub port_kind_words : List (List ℕ × PortKind)
port_kind_words = (codes "wire", port_kinds.Wire) ∷ (codes "tri", port_kinds.Tri) ∷ []

-- ["wire"|"tri"]
unfoldable pub port_kind : Vlog (Option PortKind)
port_kind = maybe (λ _ x. say.at_choice port_kind_words x.token)

-- the types of a parameter that are one word
abbrev pub param_type_words : List (List ℕ × ParamType)
param_type_words = (codes "integer", param_types.Integer) ∷ (codes "real", param_types.Real) ∷ []

-- ["signed"] [range]
unfoldable pub plain_type : Vlog ParamType
plain_type = do
  s ← signed
  r ← maybe_range
  gives (param_types.Plain s r)

-- ptype   = "integer" | "real" | ["signed"] [range]
unfoldable pub param_type : Vlog ParamType
param_type = if_next (λ _ x. say.at_choice param_type_words x.token) (λ t. gives t) plain_type

-- pset    = NAME "=" const
unfoldable pub param_set : Vlog ParamSet
param_set = do
  n ← name
  _ ← mark 61
  v ← constant
  gives (record { name = n; value = v })

-- ---- declarations, behind their attributes and their first word

-- ["wire"|"tri"] ["signed"] [range] NAME {"," NAME} ";"
unfoldable pub port_item : List Attr → Dir → Vlog PortDecl
port_item attrs dir = do
  k ← port_kind
  s ← signed
  r ← maybe_range
  ns ← list name (mark 59)
  gives (record { attrs = attrs; dir = dir; kind = k; signed = s; range = r; names = ns })

-- ["signed"] [range] NAME {"," NAME} ";"
unfoldable pub net_item : List Attr → NetKind → Vlog NetDecl
net_item attrs kind = do
  s ← signed
  r ← maybe_range
  ns ← list name (mark 59)
  gives (record { attrs = attrs; kind = kind; signed = s; range = r; names = ns })

-- ptype pset {"," pset} ";"
unfoldable pub param_item : List Attr → Vlog ParamDecl
param_item attrs = do
  t ← param_type
  ss ← list param_set (mark 59)
  gives (record { attrs = attrs; kind = t; sets = ss })

-- ---- assignments

-- lval "=" expr
unfoldable pub assignment : Vlog Assignment
assignment = do
  l ← expr true 64
  _ ← mark 61
  r ← expr false 64
  gives (record { left = l; right = r })

-- lval "=" expr {"," lval "=" expr} ";", behind "assign"
unfoldable pub assigns : List Attr → Vlog Assigns
assigns attrs = do
  ss ← list assignment (mark 59)
  gives (record { attrs = attrs; sets = ss })

-- ---- connections

-- NAME "(" [expr] ")", behind the point
unfoldable pub named_rest : Vlog NamedConn
named_rest = do
  n ← name
  _ ← mark 40
  e ← maybe_expr
  _ ← mark 41
  gives (record { port = n; value = e })

-- named   = "." NAME "(" [expr] ")"
unfoldable pub named : Vlog NamedConn
named = sequence (mark 46) (λ _. named_rest)

-- connections in order: one open connection alone is none at all
abbrev pub order_of : List (Option Expr) → List (Option Expr)
order_of [] = []
order_of (None ∷ []) = []
order_of (None ∷ e ∷ es) = None ∷ e ∷ es
order_of (Some e ∷ es) = Some e ∷ es

-- named {"," named} ")", behind the point of the first
unfoldable pub named_conns : Vlog Conns
named_conns = do
  first ← named_rest
  all ← commas named (mark 41) (first ∷ [])
  gives (conns_of.Named all)

-- [expr] {"," [expr]} ")"
unfoldable pub ordered_conns : Vlog Conns
ordered_conns = do
  es ← list maybe_expr (mark 41)
  gives (conns_of.Order (order_of es))

-- conns ")"
-- conns   = named {"," named} | [expr] {"," [expr]}
unfoldable pub conns : Vlog Conns
conns = after 46 named_conns ordered_conns

-- ---- instances

-- inst    = NAME "(" conns ")"
unfoldable pub instance : Vlog VInst
instance = do
  n ← name
  _ ← mark 40
  cs ← conns
  gives (record { name = n; conns = cs })

-- NAME "(" const ")", behind the point
unfoldable pub override_rest : Vlog ParamSet
override_rest = do
  n ← name
  _ ← mark 40
  v ← constant
  _ ← mark 41
  gives (record { name = n; value = v })

-- over    = "." NAME "(" const ")"
unfoldable pub override_set : Vlog ParamSet
override_set = sequence (mark 46) (λ _. override_rest)

-- ["#" "(" over {"," over} ")"]
unfoldable pub overrides : Vlog (List ParamSet)
overrides = after 35 (sequence (mark 40) (λ _. list override_set (mark 41))) (gives [])

-- ["#" "(" over {"," over} ")"] inst {"," inst} ";", behind the name of a module
unfoldable pub instances : List Attr → List ℕ → Vlog Instances
instances attrs m = do
  ps ← overrides
  us ← list instance (mark 59)
  gives (record { attrs = attrs; «module» = m; params = ps; insts = us })

-- ---- defparam

-- NAME "=" const, behind the name of an instance and the point
unfoldable pub def_value : List ℕ → Vlog DefSet
def_value u = do
  n ← name
  _ ← mark 61
  v ← constant
  gives (record { instance = u; name = n; value = v })

-- dset    = NAME "." NAME "=" const
unfoldable pub def_set : Vlog DefSet
def_set = do
  u ← name
  _ ← mark 46
  def_value u

-- dset {"," dset} ";", behind "defparam"
unfoldable pub defparams : List Attr → Vlog Defparams
defparams attrs = do
  ss ← list def_set (mark 59)
  gives (record { attrs = attrs; sets = ss })

-- ---- items

-- the first words of items
abbrev pub item_words : List (List ℕ × ItemWord)
item_words =
    (codes "input", words.Port dirs.Input) ∷ (codes "output", words.Port dirs.Output) ∷ (codes "inout", words.Port dirs.Inout)
    ∷ (codes "wire", words.Net net_kinds.Wire) ∷ (codes "tri", words.Net net_kinds.Tri) ∷ (codes "supply0", words.Net net_kinds.Supply0) ∷ (codes "supply1", words.Net net_kinds.Supply1)
    ∷ (codes "parameter", words.Param) ∷ (codes "assign", words.Assign) ∷ (codes "defparam", words.Defparam) ∷ []

-- an item of these attributes, behind its first word
unfoldable pub word_item : List Attr → ItemWord → Vlog ItemV
word_item attrs (words.Port dir) = sequence (port_item attrs dir) (λ d. gives (items.Port d))
word_item attrs (words.Net kind) = sequence (net_item attrs kind) (λ d. gives (items.Net d))
word_item attrs words.Param = sequence (param_item attrs) (λ d. gives (items.Param d))
word_item attrs words.Assign = sequence (assigns attrs) (λ s. gives (items.Assign s))
word_item attrs words.Defparam = sequence (defparams attrs) (λ s. gives (items.Defparam s))

-- instances of these attributes, behind the name of their module
unfoldable pub instances_item : List Attr → List ℕ → Vlog ItemV
instances_item attrs m = sequence (instances attrs m) (λ s. gives (items.Instances s))

-- item    = pdecl-without-attrs ";"
--         | ("wire"|"tri"|"supply0"|"supply1") ["signed"] [range] NAME {"," NAME} ";"
--         | "parameter" ptype pset {"," pset} ";"
--         | "assign" lval "=" expr {"," lval "=" expr} ";"
--         | "defparam" dset {"," dset} ";"
--         | NAME ["#" "(" over {"," over} ")"] inst {"," inst} ";"
-- with the attributes before it
unfoldable pub item : List Attr → Vlog ItemV
item attrs = if_next (λ _ x. say.at_name x.token) (instances_item attrs) (sequence (choice item_words) (word_item attrs))
