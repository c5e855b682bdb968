-- The items of a module in the words of the extended BNF (IEEE 1364-2005, A.1.4, A.2.1, A.4.1 and
-- A.6.1).
use Rattle.std.specs.Prelude.{List, [], ◌∷◌, codes}
use Rattle.vlog_values.specs.declared.expression.Attr.{Attr}
use Rattle.vlog_values.specs.declared.declaration.NetKind.{NetKind}
use Rattle.vlog_values.specs.declared.declaration.NetKind.TheVariants as net_kinds
use Rattle.vlog_values.specs.declared.declaration.PortDecl.{PortDecl}
use Rattle.vlog_values.specs.declared.declaration.NetDecl.{NetDecl}
use Rattle.vlog_values.specs.declared.declaration.ParamSet.{ParamSet}
use Rattle.vlog_values.specs.declared.declaration.ParamDecl.{ParamDecl}
use Rattle.vlog_values.specs.declared.statement.NamedConn.{NamedConn}
use Rattle.vlog_values.specs.declared.statement.Conns.{Conns}
use Rattle.vlog_values.specs.declared.statement.Conns.TheVariants as conns_of
use Rattle.vlog_values.specs.declared.statement.VInst.{VInst}
use Rattle.vlog_values.specs.declared.statement.Instances.{Instances}
use Rattle.vlog_values.specs.declared.statement.Assignment.{Assignment}
use Rattle.vlog_values.specs.declared.statement.Assigns.{Assigns}
use Rattle.vlog_values.specs.declared.statement.DefSet.{DefSet}
use Rattle.vlog_values.specs.declared.statement.Defparams.{Defparams}
use Rattle.vlog_values.specs.declared.module.ItemV.{ItemV}
use Rattle.vlog_values.specs.declared.module.ItemV.TheVariants as items
use Rattle.vlog_items.specs.Grammar.{order_of}
use Rattle.vlog_productions.specs.Production.{Production, nothing, optional, list, meaning, ◌·◌, ◌∣◌, name, mark, keyword, one_of, expr, lval, constant}
use Rattle.vlog_productions.specs.Declarations.{attrs, range, signed, port_kind, dir, ptype, pset}

-- named   = "." NAME "(" [expr] ")"
unfoldable pub named : Production NamedConn
named =
    meaning (λ x. record { port = x.1.0; value = x.1.1.1.0 })
    (mark 46 · name · mark 40 · optional expr · mark 41)

-- conns   = named {"," named} | [expr] {"," [expr]}
-- One open connection alone is none at all.
unfoldable pub conns : Production Conns
conns =
    meaning (λ cs. conns_of.Named cs) (list named)
    ∣ meaning (λ es. conns_of.Order (order_of es)) (list (optional expr))

-- inst    = NAME "(" conns ")"
unfoldable pub inst : Production VInst
inst = meaning (λ x. record { name = x.0; conns = x.1.1.0 }) (name · mark 40 · conns · mark 41)

-- over    = "." NAME "(" const ")"
unfoldable pub over : Production ParamSet
over =
    meaning (λ x. record { name = x.1.0; value = x.1.1.1.0 })
    (mark 46 · name · mark 40 · constant · mark 41)

-- ["#" "(" over {"," over} ")"]
unfoldable pub overrides : Production (List ParamSet)
overrides = meaning (λ x. x.1.1.0) (mark 35 · mark 40 · list over · mark 41) ∣ nothing []

-- lval "=" expr
unfoldable pub assignment : Production Assignment
assignment = meaning (λ x. record { left = x.0; right = x.1.1 }) (lval · mark 61 · expr)

-- dset    = NAME "." NAME "=" const
unfoldable pub dset : Production DefSet
dset =
    meaning (λ x. record { instance = x.0; name = x.1.1.0; value = x.1.1.1.1 })
    (name · mark 46 · name · mark 61 · constant)

-- "wire"|"tri"|"supply0"|"supply1"
abbrev pub net_kind : Production NetKind
net_kind =
    one_of ((codes "wire", net_kinds.Wire) ∷ (codes "tri", net_kinds.Tri)
    ∷ (codes "supply0", net_kinds.Supply0) ∷ (codes "supply1", net_kinds.Supply1) ∷ [])

-- pdecl-without-attrs ";"
unfoldable pub port_item : Production PortDecl
port_item =
    meaning (λ x. record {
      attrs = [];
      dir = x.0;
      kind = x.1.0;
      signed = x.1.1.0;
      range = x.1.1.1.0;
      names = x.1.1.1.1.0;
    })
    (dir · port_kind · signed · optional range · list name · mark 59)

-- ("wire"|"tri"|"supply0"|"supply1") ["signed"] [range] NAME {"," NAME} ";"
unfoldable pub net_item : Production NetDecl
net_item =
    meaning (λ x. record {
      attrs = [];
      kind = x.0;
      signed = x.1.0;
      range = x.1.1.0;
      names = x.1.1.1.0;
    })
    (net_kind · signed · optional range · list name · mark 59)

-- "parameter" ptype pset {"," pset} ";"
unfoldable pub param_item : Production ParamDecl
param_item =
    meaning (λ x. record { attrs = []; kind = x.1.0; sets = x.1.1.0 })
    (keyword (codes "parameter") · ptype · list pset · mark 59)

-- "assign" lval "=" expr {"," lval "=" expr} ";"
unfoldable pub assigns : Production Assigns
assigns =
    meaning (λ x. record { attrs = []; sets = x.1.0 })
    (keyword (codes "assign") · list assignment · mark 59)

-- "defparam" dset {"," dset} ";"
unfoldable pub defparams : Production Defparams
defparams =
    meaning (λ x. record { attrs = []; sets = x.1.0 })
    (keyword (codes "defparam") · list dset · mark 59)

-- NAME ["#" "(" over {"," over} ")"] inst {"," inst} ";"
unfoldable pub instances : Production Instances
instances =
    meaning (λ x. record { attrs = []; «module» = x.0; params = x.1.0; insts = x.1.1.0 })
    (name · overrides · list inst · mark 59)

-- item    = pdecl-without-attrs ";"
--         | ("wire"|"tri"|"supply0"|"supply1") ["signed"] [range] NAME {"," NAME} ";"
--         | "parameter" ptype pset {"," pset} ";"
--         | "assign" lval "=" expr {"," lval "=" expr} ";"
--         | "defparam" dset {"," dset} ";"
--         | NAME ["#" "(" over {"," over} ")"] inst {"," inst} ";"
unfoldable pub item : Production ItemV
item =
    meaning (λ d. items.Port d) port_item
    ∣ meaning (λ d. items.Net d) net_item
    ∣ meaning (λ d. items.Param d) param_item
    ∣ meaning (λ s. items.Assign s) assigns
    ∣ meaning (λ s. items.Defparam s) defparams
    ∣ meaning (λ s. items.Instances s) instances

-- the item with these attributes
abbrev pub with_attrs : List Attr → ItemV → ItemV
with_attrs as_written (items.Port d) = items.Port (record d { attrs = as_written })
with_attrs as_written (items.Net d) = items.Net (record d { attrs = as_written })
with_attrs as_written (items.Param d) = items.Param (record d { attrs = as_written })
with_attrs as_written (items.Assign s) = items.Assign (record s { attrs = as_written })
with_attrs as_written (items.Instances s) = items.Instances (record s { attrs = as_written })
with_attrs as_written (items.Defparam s) = items.Defparam (record s { attrs = as_written })

-- attrs item
unfoldable pub attributed : Production ItemV
attributed = meaning (λ x. with_attrs x.0 x.1) (attrs · item)
