-- The names that a plain module uses, and the items in which they stand.
use Rattle.std.proofs.Common.{◌≡◌, inl, inr, ℕ, ◌<◌, List, [], ◌∷◌, ◌++◌, Option, None, Some, flat_map, map, slice_get, sym, ap, subst, ◌∙◌, append-nil, Contains}
use Rattle.std.specs.Prelude.{option_to_list}
use Rattle.std.proofs.lemmas.List.Elements.{Contains-append_cases}
use Rattle.net_hier.specs.Cells.{width_of}
use Rattle.vlog_design.specs.Names.{Use, conn_exprs, item_exprs, module_uses, uses}
use Rattle.vlog_design.proofs.ExprLemmas.{uses-Cat, uses-Lit, uses-Ref}
use Rattle.vlog_values.specs.declared.expression.Expr.{Expr}
use Rattle.vlog_values.specs.declared.expression.Expr.TheVariants.{Cat}
use Rattle.vlog_values.specs.declared.expression.Select.TheVariants.{All}
use Rattle.vlog_values.specs.declared.module.ItemV.{ItemV}
use Rattle.vlog_values.specs.declared.statement.Assignment.{Assignment}
use Rattle.vlog_values.specs.declared.statement.NamedConn.{NamedConn}
use Rattle.vlog_written.specs.OwnNames.{AreApart, IsKnown}
use Rattle.vlog_written.specs.Written.{PlainInstance, PlainModule, PlainPort, PlainWire, assign_item, bit_literal, instance_item, plain_conns, plain_items, plain_module, select_of, wire_item}
use Rattle.vlog_written.proofs.Contents.{image_of, part_of}
use Rattle.vlog_written.proofs.Members.{nothing_there, there_at, there_cases, there_mapped}
use Rattle.vlog_plain.specs.Plain.{IsBitExpr, IsPinValue, IsPlainConn, IsPlainInstance, IsPlainModule, each_bit, of_constant, of_port, of_wire, one_bit, open_pin}

-- an item of a plain module is a wire, an assign or an instance
pub data IsItemOf (p : PlainModule) (item : ItemV) : Type 0 where
  a_wire : (wire : PlainWire) → Contains p.wires wire → item ≡ wire_item wire → IsItemOf p item
  an_assign : (set : Assignment) → Contains p.assigns set → item ≡ assign_item set → IsItemOf p item
  an_instance : (instance : PlainInstance) → Contains p.instances instance → item ≡ instance_item instance → IsItemOf p item

pub item_of : (p : PlainModule) (item : ItemV) → Contains (plain_items p) item → IsItemOf p item
item_of p item h = elim (Contains-append_cases (map wire_item p.wires) (map assign_item p.assigns ++ map instance_item p.instances) item h) as (λ _. IsItemOf p item) [
  | inl m ↦ let r = image_of wire_item p.wires item m in a_wire r.0 r.1 (sym r.2)
  | inr m ↦ elim (Contains-append_cases (map assign_item p.assigns) (map instance_item p.instances) item m) as (λ _. IsItemOf p item) [
    | inl k ↦ let r = image_of assign_item p.assigns item k in an_assign r.0 r.1 (sym r.2)
    | inr k ↦ let r = image_of instance_item p.instances item k in an_instance r.0 r.1 (sym r.2)
  ]
]

-- an expression of a plain module: of one bit, or a concatenation of such
pub data IsPlainExpr (p : PlainModule) (expr : Expr) : Type 0 where
  alone : IsBitExpr p expr → IsPlainExpr p expr
  together : (exprs : List Expr) → ((part : Expr) → Contains exprs part → IsBitExpr p part) → expr ≡ Cat exprs → IsPlainExpr p expr

-- the only element of a list
pub only_one : {A : Type 0} (x y : A) → Contains (x ∷ []) y → x ≡ y
only_one x y h = elim (there_cases x [] y h) as (λ _. x ≡ y) [
  | inl e ↦ e
  | inr m ↦ absurd (nothing_there y m)
]

pub some_same : {A : Type 0} (x y : A) → Some x ≡ Some y → x ≡ y
some_same x y e = cc

pub none_some : {A : Type 0} (x : A) → None ≡ Some x → ⊥
none_some x e = cc

-- a connection that is not open
pub pin_expr : (p : PlainModule) (width : ℕ) (value : Option Expr) (expr : Expr) → IsPinValue p width value → value ≡ Some expr → IsPlainExpr p expr
pin_expr p width value expr (open_pin e) v = absurd (none_some expr (sym e ∙ v))
pin_expr p width value expr (one_bit other is w e) v = alone (subst (IsBitExpr p) (some_same other expr (sym e ∙ v)) is)
pin_expr p width value expr (each_bit exprs are w e) v = together exprs are (sym (some_same (Cat exprs) expr (sym e ∙ v)))

value_there : (o : Option Expr) (expr : Expr) → Contains (option_to_list o) expr → o ≡ Some expr
value_there None expr h = absurd (nothing_there expr h)
value_there (Some other) expr h = ap Some (only_one other expr h)

-- the expressions of connections
conn_of : (conns : List NamedConn) (expr : Expr) → Contains (conn_exprs (plain_conns conns)) expr → (conn : NamedConn) × Contains conns conn × (conn.value ≡ Some expr)
conn_of [] expr h = absurd (nothing_there expr h)
conn_of (conn ∷ conns) expr h =
    let r = part_of (λ (c : NamedConn). option_to_list c.value) (conn ∷ conns) expr h in
    (r.0, r.1, value_there r.0.value expr r.2)

module _ (ps : List PlainModule) (place : ℕ) (p : PlainModule) (is : IsPlainModule ps place p) where
  of_assign : (set : Assignment) → Contains p.assigns set → (expr : Expr) → Contains (set.left ∷ set.right ∷ []) expr → IsPlainExpr p expr
  of_assign set m expr h =
      let both = is.assigns set m in
      elim (there_cases set.left (set.right ∷ []) expr h) as (λ _. IsPlainExpr p expr) [
        | inl e ↦ alone (subst (IsBitExpr p) e both.0)
        | inr k ↦ alone (subst (IsBitExpr p) (only_one set.right expr k) both.1)
      ]

  of_instance : (instance : PlainInstance) → Contains p.instances instance → (expr : Expr) → Contains (item_exprs (instance_item instance)) expr → IsPlainExpr p expr
  of_instance instance m expr h =
      let one : IsPlainInstance ps place p instance = is.instances instance m in
      let c = conn_of instance.conns expr (subst (λ l. Contains l expr) (append-nil (conn_exprs (plain_conns instance.conns))) h) in
      let conn : IsPlainConn p one.below c.0 = one.conns c.0 c.1 in
      pin_expr p (width_of conn.port.range) c.0.value expr conn.is_value c.2

  of_item : (item : ItemV) (expr : Expr) → Contains (item_exprs item) expr → IsItemOf p item → IsPlainExpr p expr
  of_item item expr h (a_wire wire m e) = absurd (nothing_there expr (subst (λ i. Contains (item_exprs i) expr) e h))
  of_item item expr h (an_assign set m e) = of_assign set m expr (subst (λ i. Contains (item_exprs i) expr) e h)
  of_item item expr h (an_instance instance m e) = of_instance instance m expr (subst (λ i. Contains (item_exprs i) expr) e h)

  -- all expressions are of these kinds
  pub expr_of : (expr : Expr) → Contains (flat_map item_exprs (plain_items p)) expr → IsPlainExpr p expr
  expr_of expr h =
      let r = part_of item_exprs (plain_items p) expr h in
      of_item r.0 expr r.2 (item_of p r.0 r.1)

-- a name as it is used: a bit of a port, or a wire
pub data IsOwnUse (p : PlainModule) (u : Use) : Type 0 where
  uses_port : (place : ℕ) (port : PlainPort) (bit : ℕ) → slice_get p.ports place ≡ Some port → bit < width_of port.range → u ≡ record { name = port.name; select = select_of port.range bit } → IsOwnUse p u
  uses_wire : (place : ℕ) (wire : PlainWire) → slice_get p.wires place ≡ Some wire → u ≡ record { name = wire.name; select = All } → IsOwnUse p u

bit_uses : (p : PlainModule) (expr : Expr) (u : Use) → Contains (uses expr) u → IsBitExpr p expr → IsOwnUse p u
bit_uses p expr u h (node, of_port place port bit e within n is) =
    uses_port place port bit e within (sym (only_one (record { name = port.name; select = select_of port.range bit }) u (subst (λ us. Contains us u) (ap uses is ∙ uses-Ref port.name (select_of port.range bit)) h)))
bit_uses p expr u h (node, of_wire place wire e n is) =
    uses_wire place wire e (sym (only_one (record { name = wire.name; select = All }) u (subst (λ us. Contains us u) (ap uses is ∙ uses-Ref wire.name All) h)))
bit_uses p expr u h (node, of_constant one n is) = absurd (nothing_there u (subst (λ us. Contains us u) (ap uses is ∙ uses-Lit (bit_literal one)) h))

expr_uses : (p : PlainModule) (expr : Expr) (u : Use) → Contains (uses expr) u → IsPlainExpr p expr → IsOwnUse p u
expr_uses p expr u h (alone is) = bit_uses p expr u h is
expr_uses p expr u h (together exprs are e) =
    let r = part_of uses exprs u (subst (λ us. Contains us u) (ap uses e ∙ uses-Cat exprs) h) in
    bit_uses p r.0 u r.2 (are r.0 r.1)

use_known : (p : PlainModule) (u : Use) → IsOwnUse p u → IsKnown p u.name
use_known p u (uses_port place port bit e within is) =
    inl (subst (Contains (map (λ (port : PlainPort). port.name) p.ports)) (sym (ap (λ (v : Use). v.name) is)) (there_mapped (λ (port : PlainPort). port.name) p.ports port (there_at p.ports place port e)))
use_known p u (uses_wire place wire e is) =
    inr (subst (Contains (map (λ (wire : PlainWire). wire.name) p.wires)) (sym (ap (λ (v : Use). v.name) is)) (there_mapped (λ (wire : PlainWire). wire.name) p.wires wire (there_at p.wires place wire e)))

module _ (ps : List PlainModule) (place : ℕ) (p : PlainModule) (is : IsPlainModule ps place p) where
  -- all uses are of ports and wires
  pub own_use : (u : Use) → Contains (module_uses (plain_module p)) u → IsOwnUse p u
  unfolding module_uses
  own_use u h =
      let r = part_of uses (flat_map item_exprs (plain_items p)) u h in
      expr_uses p r.0 u r.2 (expr_of ps place p is r.0 r.1)

  -- the names are apart, and those in expressions known
  pub are_apart : AreApart p
  are_apart = record { distinct = is.distinct; known = λ u h. use_known p u (own_use u h) }
