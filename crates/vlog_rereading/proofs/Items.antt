-- What is written of the items of a module spells them.
use Rattle.std.proofs.Common.{◌≡◌, ◌≤◌, ℕ, zero, suc, Bool, true, false, List, [], ◌∷◌, length, Option, Some, None, refl, sym, ap, ◌∙◌, subst, arith}
use Rattle.std.specs.Prelude.{⊤, codes, is_some, IfSome}
use Rattle.std.specs.List.{AllByRecursion}
use Rattle.grammar.specs.Part.{gives, sequence, Glance, takes}
use Rattle.nl_base.specs.Ranges.{Bounds}
use Rattle.nl_base.specs.declared.value.Dir.{Dir}
use Rattle.nl_base.specs.declared.value.Dir.TheVariants as dirs
use Rattle.vlog_values.specs.declared.expression.Attr.{Attr}
use Rattle.vlog_values.specs.declared.expression.Expr.{Expr}
use Rattle.vlog_values.specs.declared.declaration.PortKind.{PortKind}
use Rattle.vlog_values.specs.declared.declaration.PortKind.TheVariants as port_kinds
use Rattle.vlog_values.specs.declared.declaration.NetKind.{NetKind}
use Rattle.vlog_values.specs.declared.declaration.NetKind.TheVariants as net_kinds
use Rattle.vlog_values.specs.declared.declaration.PortDecl.{PortDecl}
use Rattle.vlog_values.specs.declared.declaration.NetDecl.{NetDecl}
use Rattle.vlog_values.specs.declared.declaration.ParamType.{ParamType}
use Rattle.vlog_values.specs.declared.declaration.ParamType.TheVariants as param_types
use Rattle.vlog_values.specs.declared.declaration.ParamSet.{ParamSet}
use Rattle.vlog_values.specs.declared.declaration.ParamDecl.{ParamDecl}
use Rattle.vlog_values.specs.declared.statement.NamedConn.{NamedConn}
use Rattle.vlog_values.specs.declared.statement.Conns.{Conns}
use Rattle.vlog_values.specs.declared.statement.Conns.TheVariants as conns_of
use Rattle.vlog_values.specs.declared.statement.VInst.{VInst}
use Rattle.vlog_values.specs.declared.statement.Instances.{Instances}
use Rattle.vlog_values.specs.declared.statement.Assignment.{Assignment}
use Rattle.vlog_values.specs.declared.statement.Assigns.{Assigns}
use Rattle.vlog_values.specs.declared.statement.DefSet.{DefSet}
use Rattle.vlog_values.specs.declared.statement.Defparams.{Defparams}
use Rattle.vlog_values.specs.declared.module.ItemV.{ItemV}
use Rattle.vlog_values.specs.declared.module.ItemV.TheVariants as items
use Rattle.vlog_values.specs.Values.{AreSome, IsName, IsRange, IsExpr, AreAttrs, IsPortDecl, IsNetDecl, IsParamType, IsParamSet, IsParamDecl, IsNamedConn, IsLoneOpen, IsConns, IsInstance, AreInstances, IsAssignment, AreAssigns, IsDefSet, AreDefparams, IsItem}
use Rattle.vlog_tokens.specs.declared.token.VToken.{VToken}
use Rattle.vlog_tokens.specs.declared.token.VToken.TheVariants as t
use Rattle.vlog_exprs.specs.Language.{Vlog}
use Rattle.vlog_exprs.specs.Reasons as say
use Rattle.vlog_exprs.specs.Grammar.{name, mark, choice, maybe_range, maybe_expr, expr, constant, group, groups, commas, list}
use Rattle.vlog_items.specs.Grammar as g
use Rattle.vlog_items.specs.Grammar.{signed_word, signed, port_kind_words, port_kind, param_type_words, plain_type, param_type, param_set, port_item, net_item, param_item, assignment, assigns, named_rest, named, order_of, named_conns, ordered_conns, conns, instance, override_set, overrides, instances, def_set, defparams, item_words, word_item, instances_item, item}
use Rattle.vlog_items.specs.declared.item.ItemWord.{ItemWord}
use Rattle.vlog_items.specs.declared.item.ItemWord.TheVariants as words
use Rattle.vlog_writer.specs.Forms as form
use Rattle.vlog_writer.specs.Layout.{Form, Name, Word, Row, Listed, part, both, each}
use Rattle.vlog_lexing.specs.Tokens.{tokens, part_tokens, listed_tokens, further_tokens}
use Rattle.vlog_rereading.proofs.Expressions.{maybe_range_front, const_front, groups_front, expr_front, maybe_expr_front}
use Rattle.vlog_rereading.proofs.Fronts.{Front, nothing, then, at_last, as_value, a_name, a_mark, a_choice, taken, left, some_taken, none_taken, after_mark, no_mark, commas_front, list_front}

-- ---- the words of declarations

pub signed_front : (s : Bool) (ts : List VToken) → Front signed s (part_tokens (form.word_where s (codes "signed")) ts) ts
unfolding signed say.meant_by
signed_front true ts = at_last {g = is_some} (some_taken (say.at_choice signed_word) (t.Keyword (codes "signed")) true ts refl)
signed_front false ts = at_last {g = is_some} (none_taken (say.at_choice signed_word) ts)

pub port_kind_front : (k : Option PortKind) (ts : List VToken) → Front port_kind k (part_tokens (form.port_kind_part k) ts) ts
unfolding port_kind say.meant_by
port_kind_front None ts = none_taken (say.at_choice port_kind_words) ts
port_kind_front (Some port_kinds.Wire) ts = some_taken (say.at_choice port_kind_words) (t.Keyword (codes "wire")) port_kinds.Wire ts refl
port_kind_front (Some port_kinds.Tri) ts = some_taken (say.at_choice port_kind_words) (t.Keyword (codes "tri")) port_kinds.Tri ts refl

plain_type_front : (s : Bool) (r : Option Bounds) (ts : List VToken) → IfSome r IsRange → Front plain_type (param_types.Plain s r) (part_tokens (form.vector_parts s r) ts) ts
unfolding plain_type
plain_type_front s r ts good = then (signed_front s (part_tokens (form.range_part r) ts)) (at_last {g = λ r. param_types.Plain s r} (maybe_range_front r ts good))

pub param_type_front : (k : ParamType) (ts : List VToken) → IsParamType k → Front param_type k (part_tokens (form.type_parts k) ts) ts
unfolding param_type say.meant_by
param_type_front (param_types.Plain s r) ts good = left (say.at_choice param_type_words) (λ t. gives t) plain_type (plain_type_front s r ts good)
param_type_front param_types.Integer ts good = taken (say.at_choice param_type_words) (λ t. gives t) plain_type (t.Keyword (codes "integer")) param_types.Integer refl (nothing param_types.Integer ts)
param_type_front param_types.Real ts good = taken (say.at_choice param_type_words) (λ t. gives t) plain_type (t.Keyword (codes "real")) param_types.Real refl (nothing param_types.Real ts)

pub param_set_front : (s : ParamSet) (ts : List VToken) → IsParamSet s → Front param_set s (tokens (form.set_form s) ts) ts
unfolding param_set
param_set_front s ts good =
    then (a_name s.name (t.Punct 61 ∷ tokens (form.const_form s.value) ts)) (then (a_mark 61 (tokens (form.const_form s.value) ts) refl) (at_last {g = λ v. record { name = s.name; value = v }} (const_front s.value ts good.value)))

-- names up to a mark
names_front : (ns : List (List ℕ)) (ts : List VToken) → AreSome IsName ns → Front (list name (mark 59)) ns (listed_tokens (each Name ns) (t.Punct 59 ∷ ts)) ts
names_front ns ts good = list_front name (mark 59) (t.Punct 59) Name IsName (λ ts. a_mark 59 ts refl) (λ n ts good. a_name n ts) ns ts good

-- ---- declarations

port_front : (d : PortDecl) (ts : List VToken) → IsPortDecl d
    → Front (port_item d.attrs d.dir) d (part_tokens (form.port_kind_part d.kind) (part_tokens (form.vector_parts d.signed d.range) (listed_tokens (each Name d.names) (t.Punct 59 ∷ ts)))) ts
unfolding port_item
port_front d ts good =
    let names = listed_tokens (each Name d.names) (t.Punct 59 ∷ ts) in
    then (port_kind_front d.kind (part_tokens (form.vector_parts d.signed d.range) names)) (then (signed_front d.signed (part_tokens (form.range_part d.range) names)) (then (maybe_range_front d.range names good.range)
    (at_last {g = λ ns. record { attrs = d.attrs; dir = d.dir; kind = d.kind; signed = d.signed; range = d.range; names = ns }} (names_front d.names ts good.names))))

net_front : (d : NetDecl) (ts : List VToken) → IsNetDecl d → Front (net_item d.attrs d.kind) d (part_tokens (form.vector_parts d.signed d.range) (listed_tokens (each Name d.names) (t.Punct 59 ∷ ts))) ts
unfolding net_item
net_front d ts good =
    let names = listed_tokens (each Name d.names) (t.Punct 59 ∷ ts) in
    then (signed_front d.signed (part_tokens (form.range_part d.range) names)) (then (maybe_range_front d.range names good.range)
    (at_last {g = λ ns. record { attrs = d.attrs; kind = d.kind; signed = d.signed; range = d.range; names = ns }} (names_front d.names ts good.names)))

param_front : (d : ParamDecl) (ts : List VToken) → IsParamDecl d → Front (param_item d.attrs) d (part_tokens (form.type_parts d.kind) (listed_tokens (each form.set_form d.sets) (t.Punct 59 ∷ ts))) ts
unfolding param_item
param_front d ts good =
    then (param_type_front d.kind (listed_tokens (each form.set_form d.sets) (t.Punct 59 ∷ ts)) good.kind)
    (at_last {g = λ ss. record { attrs = d.attrs; kind = d.kind; sets = ss }} (list_front param_set (mark 59) (t.Punct 59) form.set_form IsParamSet (λ ts. a_mark 59 ts refl) param_set_front d.sets ts good.sets))

-- ---- assignments and defparam

assignment_front : (a : Assignment) (ts : List VToken) → IsAssignment a → Front assignment a (tokens (form.assignment_form a) ts) ts
unfolding assignment
assignment_front a ts good =
    then (expr_front true a.left (t.Punct 61 ∷ tokens (form.expr_form a.right) ts) good.left (λ h. good.assignable)) (then (a_mark 61 (tokens (form.expr_form a.right) ts) refl)
    (at_last {g = λ r. record { left = a.left; right = r }} (expr_front false a.right ts good.right (λ h. absurd cc))))

assigns_front : (a : Assigns) (ts : List VToken) → AreAssigns a → Front (assigns a.attrs) a (listed_tokens (each form.assignment_form a.sets) (t.Punct 59 ∷ ts)) ts
unfolding assigns
assigns_front a ts good =
    at_last {g = λ ss. record { attrs = a.attrs; sets = ss }} (list_front assignment (mark 59) (t.Punct 59) form.assignment_form IsAssignment (λ ts. a_mark 59 ts refl) assignment_front a.sets ts good.sets)

def_front : (d : DefSet) (ts : List VToken) → IsDefSet d → Front def_set d (tokens (form.def_form d) ts) ts
unfolding def_set g.def_value
def_front d ts good =
    let value = tokens (form.const_form d.value) ts in
    then (a_name d.instance (t.Punct 46 ∷ t.Name d.name ∷ t.Punct 61 ∷ value)) (then (a_mark 46 (t.Name d.name ∷ t.Punct 61 ∷ value) refl) (then (a_name d.name (t.Punct 61 ∷ value)) (then (a_mark 61 value refl)
    (at_last {g = λ v. record { instance = d.instance; name = d.name; value = v }} (const_front d.value ts good.value)))))

defparams_front : (d : Defparams) (ts : List VToken) → AreDefparams d → Front (defparams d.attrs) d (listed_tokens (each form.def_form d.sets) (t.Punct 59 ∷ ts)) ts
unfolding defparams
defparams_front d ts good =
    at_last {g = λ ss. record { attrs = d.attrs; sets = ss }} (list_front def_set (mark 59) (t.Punct 59) form.def_form IsDefSet (λ ts. a_mark 59 ts refl) def_front d.sets ts good.sets)

-- ---- instances

named_rest_front : (c : NamedConn) (ts : List VToken) → IsNamedConn c → Front named_rest c (t.Name c.port ∷ t.Punct 40 ∷ tokens (form.value_form c.value) (t.Punct 41 ∷ ts)) ts
unfolding named_rest
named_rest_front c ts good =
    let value = tokens (form.value_form c.value) (t.Punct 41 ∷ ts) in
    then (a_name c.port (t.Punct 40 ∷ value)) (then (a_mark 40 value refl) (then (maybe_expr_front c.value (t.Punct 41 ∷ ts) good.value) (at_last {g = λ _. record { port = c.port; value = c.value }} (a_mark 41 ts refl))))

named_front : (c : NamedConn) (ts : List VToken) → IsNamedConn c → Front named c (tokens (form.conn_form c) ts) ts
unfolding named
named_front c ts good = then (a_mark 46 (t.Name c.port ∷ t.Punct 40 ∷ tokens (form.value_form c.value) (t.Punct 41 ∷ ts)) refl) (named_rest_front c ts good)

named_conns_front : (cs : List NamedConn) (ts : List VToken) → AreSome IsNamedConn cs → Front conns (conns_of.Named cs) (listed_tokens (each form.conn_form cs) (t.Punct 41 ∷ ts)) ts
unfolding conns named_conns
named_conns_front [] ts good = absurd (omega (arith, good.some))
named_conns_front (c ∷ cs) ts good =
    after_mark 46 named_conns ordered_conns refl (then (named_rest_front c (further_tokens (each form.conn_form cs) (t.Punct 41 ∷ ts)) good.all.0)
    (at_last {g = λ all. conns_of.Named all} (commas_front named (mark 41) (t.Punct 41) form.conn_form IsNamedConn (λ ts. a_mark 41 ts refl) named_front (c ∷ []) cs ts good.all.1)))

abbrev IsValue : Option Expr → Type 0
IsValue e = IfSome e IsExpr

values_front : (es : List (Option Expr)) (ts : List VToken) → AreSome IsValue es → Front conns (conns_of.Order (order_of es)) (listed_tokens (each form.value_form es) (t.Punct 41 ∷ ts)) ts
unfolding conns ordered_conns
values_front es ts good =
    no_mark 46 named_conns ordered_conns (at_last {g = λ es. conns_of.Order (order_of es)} (list_front maybe_expr (mark 41) (t.Punct 41) form.value_form IsValue (λ ts. a_mark 41 ts refl) maybe_expr_front es ts good))

order_front : (es : List (Option Expr)) (ts : List VToken) → AllByRecursion IsValue es → (IsLoneOpen es → ⊥) → Front conns (conns_of.Order es) (listed_tokens (each form.value_form es) (t.Punct 41 ∷ ts)) ts
order_front [] ts good many = values_front (None ∷ []) ts (record { some = omega arith; all = (tt, tt) })
order_front (None ∷ []) ts good many = absurd (many tt)
order_front (None ∷ e ∷ es) ts good many = values_front (None ∷ e ∷ es) ts (record { some = omega arith; all = good })
order_front (Some e ∷ es) ts good many = values_front (Some e ∷ es) ts (record { some = omega arith; all = good })

conns_front : (cs : Conns) (ts : List VToken) → IsConns cs → Front conns cs (tokens (form.conns_form cs) (t.Punct 41 ∷ ts)) ts
conns_front (conns_of.Named cs) ts good = named_conns_front cs ts good
conns_front (conns_of.Order es) ts good = order_front es ts good.0 good.1

instance_front : (i : VInst) (ts : List VToken) → IsInstance i → Front instance i (tokens (form.inst_form i) ts) ts
unfolding instance
instance_front i ts good =
    let connected = tokens (form.conns_form i.conns) (t.Punct 41 ∷ ts) in
    then (a_name i.name (t.Punct 40 ∷ connected)) (then (a_mark 40 connected refl) (at_last {g = λ cs. record { name = i.name; conns = cs }} (conns_front i.conns ts good.conns)))

override_front : (s : ParamSet) (ts : List VToken) → IsParamSet s → Front override_set s (tokens (form.override_form s) ts) ts
unfolding override_set g.override_rest
override_front s ts good =
    let value = tokens (form.const_form s.value) (t.Punct 41 ∷ ts) in
    then (a_mark 46 (t.Name s.name ∷ t.Punct 40 ∷ value) refl) (then (a_name s.name (t.Punct 40 ∷ value)) (then (a_mark 40 value refl) (then (const_front s.value (t.Punct 41 ∷ ts) good.value)
    (at_last {g = λ _. record { name = s.name; value = s.value }} (a_mark 41 ts refl)))))

overrides_front : (ps : List ParamSet) (ts : List VToken) → AllByRecursion IsParamSet ps → Front overrides ps (part_tokens (form.hashed (each form.override_form ps)) ts) ts
unfolding overrides
overrides_front [] ts good = no_mark 35 (sequence (mark 40) (λ _. list override_set (mark 41))) (gives []) (nothing [] ts)
overrides_front (p ∷ ps) ts good =
    after_mark 35 (sequence (mark 40) (λ _. list override_set (mark 41))) (gives []) refl (then (a_mark 40 (listed_tokens (each form.override_form (p ∷ ps)) (t.Punct 41 ∷ ts)) refl)
    (list_front override_set (mark 41) (t.Punct 41) form.override_form IsParamSet (λ ts. a_mark 41 ts refl) override_front (p ∷ ps) ts (record { some = omega arith; all = good })))

instances_front : (i : Instances) (ts : List VToken) → AreInstances i
    → Front (instances i.attrs i.«module») i (part_tokens (form.hashed (each form.override_form i.params)) (listed_tokens (each form.inst_form i.insts) (t.Punct 59 ∷ ts))) ts
unfolding instances
instances_front i ts good =
    then (overrides_front i.params (listed_tokens (each form.inst_form i.insts) (t.Punct 59 ∷ ts)) good.params)
    (at_last {g = λ us. record { attrs = i.attrs; «module» = i.«module»; params = i.params; insts = us }} (list_front instance (mark 59) (t.Punct 59) form.inst_form IsInstance (λ ts. a_mark 59 ts refl) instance_front i.insts ts good.insts))

-- ---- items, behind their attributes and their first word

-- the word of a direction
abbrev pub dir_word : Dir → List ℕ
dir_word dirs.Input = codes "input"
dir_word dirs.Output = codes "output"
dir_word dirs.Inout = codes "inout"

pub dir_tokens : (d : Dir) (ts : List VToken) → tokens (form.dir_form d) ts ≡ t.Keyword (dir_word d) ∷ ts
dir_tokens dirs.Input ts = refl
dir_tokens dirs.Output ts = refl
dir_tokens dirs.Inout ts = refl

-- the word of a net's kind
abbrev kind_word : NetKind → List ℕ
kind_word net_kinds.Wire = codes "wire"
kind_word net_kinds.Tri = codes "tri"
kind_word net_kinds.Supply0 = codes "supply0"
kind_word net_kinds.Supply1 = codes "supply1"

kind_tokens : (k : NetKind) (ts : List VToken) → tokens (form.net_kind_form k) ts ≡ t.Keyword (kind_word k) ∷ ts
kind_tokens net_kinds.Wire ts = refl
kind_tokens net_kinds.Tri ts = refl
kind_tokens net_kinds.Supply0 ts = refl
kind_tokens net_kinds.Supply1 ts = refl

-- an item without its attributes: its first token, with which an item begins, and the rest of it behind that token
pub record Plain (as_written : List Attr) (i : ItemV) (body ts : List VToken) : Type 0 where
  pub word : List ℕ
  pub meant : ItemWord
  pub mid : List VToken
  pub is : body ≡ t.Keyword word ∷ mid
  pub says : say.meant_by item_words word ≡ Some meant
  pub front : Front (word_item as_written meant) i mid ts

-- the same of a statement of instances, which begins with the name of their module
pub record Named (as_written : List Attr) (i : ItemV) (body ts : List VToken) : Type 0 where
  pub of_module : List ℕ
  pub mid : List VToken
  pub is : body ≡ t.Name of_module ∷ mid
  pub front : Front (instances_item as_written of_module) i mid ts

port_means : (d : Dir) → say.meant_by item_words (dir_word d) ≡ Some (words.Port d)
unfolding say.meant_by
port_means dirs.Input = refl
port_means dirs.Output = refl
port_means dirs.Inout = refl

net_means : (k : NetKind) → say.meant_by item_words (kind_word k) ≡ Some (words.Net k)
unfolding say.meant_by
net_means net_kinds.Wire = refl
net_means net_kinds.Tri = refl
net_means net_kinds.Supply0 = refl
net_means net_kinds.Supply1 = refl

-- the form of an item behind its attributes
abbrev pub port_body : PortDecl → Form
port_body d = Row (form.dir_form d.dir) (both (form.port_kind_part d.kind) (both (form.vector_parts d.signed d.range) (part (form.names_form d.names))))

abbrev pub net_body : NetDecl → Form
net_body d = Row (form.net_kind_form d.kind) (both (form.vector_parts d.signed d.range) (part (form.names_form d.names)))

abbrev pub instances_body : Instances → Form
instances_body i = Row (Name i.«module») (both (form.hashed (each form.override_form i.params)) (part (Listed (each form.inst_form i.insts))))

abbrev pub assigns_body : Assigns → Form
assigns_body a = Row (Word (codes "assign")) (part (Listed (each form.assignment_form a.sets)))

abbrev pub defparams_body : Defparams → Form
defparams_body d = Row (Word (codes "defparam")) (part (Listed (each form.def_form d.sets)))

pub port_plain : (d : PortDecl) (ts : List VToken) → IsPortDecl d → Plain d.attrs (items.Port d) (tokens (port_body d) (t.Punct 59 ∷ ts)) ts
unfolding word_item
port_plain d ts good = record { word = dir_word d.dir; meant = words.Port d.dir; mid = _; is = dir_tokens d.dir _; says = port_means d.dir; front = at_last {g = λ d. items.Port d} (port_front d ts good) }

pub net_plain : (d : NetDecl) (ts : List VToken) → IsNetDecl d → Plain d.attrs (items.Net d) (tokens (net_body d) (t.Punct 59 ∷ ts)) ts
unfolding word_item
net_plain d ts good = record { word = kind_word d.kind; meant = words.Net d.kind; mid = _; is = kind_tokens d.kind _; says = net_means d.kind; front = at_last {g = λ d. items.Net d} (net_front d ts good) }

pub param_plain : (d : ParamDecl) (ts : List VToken) → IsParamDecl d → Plain d.attrs (items.Param d) (tokens (form.group_form d) (t.Punct 59 ∷ ts)) ts
unfolding word_item say.meant_by
param_plain d ts good = record { word = codes "parameter"; meant = words.Param; mid = _; is = refl; says = refl; front = at_last {g = λ d. items.Param d} (param_front d ts good) }

pub assigns_plain : (a : Assigns) (ts : List VToken) → AreAssigns a → Plain a.attrs (items.Assign a) (tokens (assigns_body a) (t.Punct 59 ∷ ts)) ts
unfolding word_item say.meant_by
assigns_plain a ts good = record { word = codes "assign"; meant = words.Assign; mid = _; is = refl; says = refl; front = at_last {g = λ a. items.Assign a} (assigns_front a ts good) }

pub defparams_plain : (d : Defparams) (ts : List VToken) → AreDefparams d → Plain d.attrs (items.Defparam d) (tokens (defparams_body d) (t.Punct 59 ∷ ts)) ts
unfolding word_item say.meant_by
defparams_plain d ts good = record { word = codes "defparam"; meant = words.Defparam; mid = _; is = refl; says = refl; front = at_last {g = λ d. items.Defparam d} (defparams_front d ts good) }

pub instances_named : (i : Instances) (ts : List VToken) → AreInstances i → Named i.attrs (items.Instances i) (tokens (instances_body i) (t.Punct 59 ∷ ts)) ts
unfolding instances_item
instances_named i ts good = record { of_module = i.«module»; mid = _; is = refl; front = at_last {g = λ i. items.Instances i} (instances_front i ts good) }

-- an item behind attributes
pub plain_item : {as_written : List Attr} {i : ItemV} {body ts : List VToken} → Plain as_written i body ts → Front (item as_written) i body ts
unfolding item
plain_item {as_written} {i} {body} {ts} p =
    subst (λ (z : List VToken). Front (item as_written) i z ts) (sym p.is)
    (left say.at_name (instances_item as_written) (sequence (choice item_words) (word_item as_written)) (then (a_choice item_words p.word p.meant p.mid p.says) p.front))

pub named_item : {as_written : List Attr} {i : ItemV} {body ts : List VToken} → Named as_written i body ts → Front (item as_written) i body ts
unfolding item
named_item {as_written} {i} {body} {ts} p =
    subst (λ (z : List VToken). Front (item as_written) i z ts) (sym p.is)
    (taken say.at_name (instances_item as_written) (sequence (choice item_words) (word_item as_written)) (t.Name p.of_module) p.of_module refl p.front)
