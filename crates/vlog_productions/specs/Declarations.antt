-- Attributes, ranges, the words of declarations and headers in the words of the extended BNF (IEEE
-- 1364-2005, A.1.2, A.1.3, A.2.1, A.2.4, A.2.5 and A.9.1).
use Rattle.std.specs.Prelude.{Bool, true, false, List, [], ◌∷◌, codes, Option, ℤ, pos, neg_ℤ}
use Rattle.std.specs.List.{flat_map}
use Rattle.nl_base.specs.Ranges.{Bounds}
use Rattle.nl_base.specs.declared.value.Dir.{Dir}
use Rattle.nl_base.specs.declared.value.Dir.TheVariants as dirs
use Rattle.vlog_tokens.specs.declared.token.VToken.TheVariants as token
use Rattle.vlog_values.specs.declared.expression.Const.TheVariants as consts
use Rattle.vlog_values.specs.declared.expression.Attr.{Attr}
use Rattle.vlog_values.specs.declared.declaration.PortKind.{PortKind}
use Rattle.vlog_values.specs.declared.declaration.PortKind.TheVariants as port_kinds
use Rattle.vlog_values.specs.declared.declaration.PortDecl.{PortDecl}
use Rattle.vlog_values.specs.declared.declaration.ParamType.{ParamType}
use Rattle.vlog_values.specs.declared.declaration.ParamType.TheVariants as param_types
use Rattle.vlog_values.specs.declared.declaration.ParamSet.{ParamSet}
use Rattle.vlog_values.specs.declared.declaration.ParamDecl.{ParamDecl}
use Rattle.vlog_values.specs.declared.module.Header.{Header}
use Rattle.vlog_values.specs.declared.module.Header.TheVariants as headers
use Rattle.vlog_exprs.specs.Expressions.{IsToken}
use Rattle.vlog_productions.specs.Production.{Production, told, nothing, optional, many, list, meaning, ◌·◌, ◌∣◌, name, bound_number, mark, keyword, one_of, constant}

-- ---- attributes

-- NAME ["=" const]; a value that is left out is the number 1
unfoldable pub attr : Production Attr
attr =
    meaning (λ x. record { name = x.0; value = x.1 })
    (name · (meaning (λ x. x.1) (mark 61 · constant) ∣ nothing (consts.Number (pos 1))))

-- "(*"
abbrev pub group_start : Production (Unit {0})
group_start = told (λ ts _. IsToken token.AttrStart ts)

-- "*)"
abbrev pub group_end : Production (Unit {0})
group_end = told (λ ts _. IsToken token.AttrStop ts)

-- "(*" NAME ["=" const] {"," NAME ["=" const]} "*)"
abbrev pub group : Production (List Attr)
group = meaning (λ x. x.1.0) (group_start · list attr · group_end)

-- attrs   = {"(*" NAME ["=" const] {"," NAME ["=" const]} "*)"}
-- Several groups are one list.
unfoldable pub attrs : Production (List Attr)
attrs = meaning (λ gs. flat_map (λ g. g) gs) (many group)

-- ---- ranges and words

-- bound   = ["-"] NUM
abbrev pub bound : Production ℤ
bound = meaning (λ x. neg_ℤ x.1) (mark 45 · bound_number) ∣ bound_number

-- range   = "[" bound ":" bound "]"
unfoldable pub range : Production Bounds
range =
    meaning (λ x. record { left = x.1.0; right = x.1.1.1.0 })
    (mark 91 · bound · mark 58 · bound · mark 93)

-- ["signed"]
abbrev pub signed : Production Bool
signed = meaning (λ _. true) (keyword (codes "signed")) ∣ nothing false

-- ["wire"|"tri"]
abbrev pub port_kind : Production (Option PortKind)
port_kind = optional (one_of ((codes "wire", port_kinds.Wire) ∷ (codes "tri", port_kinds.Tri) ∷ []))

-- "input"|"output"|"inout"
abbrev pub dir : Production Dir
dir =
    one_of ((codes "input", dirs.Input) ∷ (codes "output", dirs.Output)
    ∷ (codes "inout", dirs.Inout) ∷ [])

-- ptype   = "integer" | "real" | ["signed"] [range]
unfoldable pub ptype : Production ParamType
ptype =
    one_of ((codes "integer", param_types.Integer) ∷ (codes "real", param_types.Real) ∷ [])
    ∣ meaning (λ x. param_types.Plain x.0 x.1) (signed · optional range)

-- pset    = NAME "=" const
unfoldable pub pset : Production ParamSet
pset = meaning (λ x. record { name = x.0; value = x.1.1 }) (name · mark 61 · constant)

-- ---- headers

-- pgroup  = "parameter" ptype pset {"," pset}
unfoldable pub pgroup : Production ParamDecl
pgroup =
    meaning (λ x. record { attrs = []; kind = x.1.0; sets = x.1.1 })
    (keyword (codes "parameter") · ptype · list pset)

-- ["#" "(" pgroup {"," pgroup} ")"]
unfoldable pub params : Production (List ParamDecl)
params = meaning (λ x. x.1.1.0) (mark 35 · mark 40 · list pgroup · mark 41) ∣ nothing []

-- pdecl   = attrs ("input"|"output"|"inout") ["wire"|"tri"] ["signed"] [range] NAME {"," NAME}
unfoldable pub pdecl : Production PortDecl
pdecl =
    meaning (λ x. record {
      attrs = x.0;
      dir = x.1.0;
      kind = x.1.1.0;
      signed = x.1.1.1.0;
      range = x.1.1.1.1.0;
      names = x.1.1.1.1.1;
    })
    (attrs · dir · port_kind · signed · optional range · list name)

-- header  = "(" ")" | "(" NAME {"," NAME} ")" | "(" pdecl {"," pdecl} ")"
unfoldable pub header : Production Header
header =
    meaning (λ _. headers.Names []) (mark 40 · mark 41)
    ∣ meaning (λ x. headers.Names x.1.0) (mark 40 · list name · mark 41)
    ∣ meaning (λ x. headers.Decls x.1.0) (mark 40 · list pdecl · mark 41)
