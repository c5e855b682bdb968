-- Expressions, attributes and the items of a module have no more items than tokens.
use Rattle.std.proofs.Common.{ℕ, zero, suc, ◌+◌, ◌≤◌, Bool, true, false, List, [], ◌∷◌, ◌++◌, length, length-append, Option, Some, None, ℤ, pos, arith}
use Rattle.nl_base.specs.declared.value.Dir.{Dir}
use Rattle.vlog_values.specs.declared.literal.Literal.{Literal}
use Rattle.vlog_values.specs.declared.expression.Attr.{Attr}
use Rattle.vlog_values.specs.declared.expression.Expr.{Expr}
use Rattle.vlog_values.specs.declared.expression.Expr.TheVariants as exprs
use Rattle.vlog_values.specs.declared.declaration.NetKind.{NetKind}
use Rattle.vlog_values.specs.declared.statement.Conns.TheVariants as conns_of
use Rattle.vlog_values.specs.declared.module.ItemV.TheVariants as items
use Rattle.vlog_values.specs.Sizes.{list_size, expr_size, maybe_size, port_size, net_size, param_size, conn_size, conns_size, instance_size, instances_size, assignment_size, assigns_size, defparams_size, item_size}
use Rattle.vlog_values.proofs.Sizes.{size-Ref, size-Lit, size-LooseNumber, size-Loose, size-Cat, size-Rep}
use Rattle.vlog_exprs.specs.declared.start.ExprStart.{ExprStart}
use Rattle.vlog_exprs.specs.declared.start.ExprStart.TheVariants as starts
use Rattle.vlog_exprs.specs.Language.{Vlog}
use Rattle.vlog_exprs.specs.Grammar.{name, mark, choice, group_end, list, maybe_range, select, digits, expr_of_number, sized, expr_start, expr_rest, expr_by, cat_rest, rep_rest, braced, inside, expr, maybe_expr, attr, group, groups, attrs}
use Rattle.vlog_items.specs.declared.item.ItemWord.{ItemWord}
use Rattle.vlog_items.specs.declared.item.ItemWord.TheVariants as words
use Rattle.vlog_items.specs.Grammar.{signed, port_kind, param_type, param_set, port_item, net_item, param_item, assignment, assigns, named_rest, named, order_of, named_conns, ordered_conns, conns, instance, override_set, overrides, instances, def_set, defparams, item_words, word_item, instances_item, item}
use Rattle.vlog_bounds.proofs.Bounds.{Bounded, bounded_gives, bounded_then, bounded_after, bounded_behind, bounded_more, bounded_less, bounded_pred, bounded_one, bounded_if, bounded_while, bounded_mark, bounded_commas, bounded_list, held_none, bounded_free, free_size, bounded_items}

-- ---- one token

pub bounded_name : Bounded name (λ _. 1) 0
bounded_name = bounded_one _

pub bounded_due : (due : ℕ) → Bounded (mark due) (λ _. 1) 0
bounded_due due = bounded_one _

bounded_group_end : Bounded group_end (λ _. 1) 0
bounded_group_end = bounded_one _

-- ---- expressions

number_size : (n : ℤ) (l : Option Literal) → expr_size (expr_of_number n l) ≤ 0
number_size n (Some l) = let e = size-Lit l in omega (arith, e)
number_size n None = let e = size-LooseNumber n in omega (arith, e)

bounded_sized : (n : ℤ) → Bounded (sized n) expr_size 0
unfolding sized
bounded_sized n = bounded_after (digits n) (λ l. bounded_gives (expr_of_number n l) (number_size n l))

bounded_expr_rest : (inner : Vlog Expr) → Bounded inner expr_size 0 → (s : ExprStart) → Bounded (expr_rest inner s) expr_size 0
unfolding expr_rest
bounded_expr_rest inner within (starts.Name n) = bounded_after select (λ s. bounded_gives (exprs.Ref s n) (let e = size-Ref n s in omega (arith, e)))
bounded_expr_rest inner within (starts.Number n) = bounded_sized n
bounded_expr_rest inner within (starts.Based b) = bounded_gives (exprs.Loose b) (let e = size-Loose b in omega (arith, e))
bounded_expr_rest inner within starts.Brace = within

bounded_expr_by : (left : Bool) (room : ℕ) (inner : Vlog Expr) → Bounded inner expr_size 0 → Bounded (expr_by left room inner) expr_size 0
unfolding expr_by
bounded_expr_by left room inner within = bounded_after (expr_start left room) (λ s. bounded_expr_rest inner within s)

module _ (p inner : Vlog Expr) (each : Bounded p expr_size 0) (within : Bounded inner expr_size 0) where
  bounded_cat_rest : (e : Expr) → Bounded (cat_rest p e) expr_size (expr_size e)
  unfolding cat_rest
  bounded_cat_rest e =
      bounded_then (bounded_pred (bounded_more (suc (expr_size e)) (omega arith) (bounded_commas expr_size each (bounded_due 125) (e ∷ [])))) (λ es. bounded_gives (exprs.Cat es) (let s = size-Cat es in omega (arith, s)))

  bounded_rep_rest : (n : ℤ) → Bounded (rep_rest p n) expr_size 0
  unfolding rep_rest
  bounded_rep_rest n = bounded_then (bounded_list expr_size each (bounded_due 125)) (λ es. bounded_after (mark 125) (λ _. bounded_gives (exprs.Rep n es) (let s = size-Rep n es in omega (arith, s))))

  bounded_braced : (s : ExprStart) → Bounded (braced p inner s) expr_size 0
  unfolding braced
  bounded_braced (starts.Number n) = bounded_mark 123 (bounded_rep_rest n) (bounded_then (bounded_sized n) bounded_cat_rest)
  bounded_braced (starts.Name n) = bounded_then (bounded_expr_rest inner within (starts.Name n)) bounded_cat_rest
  bounded_braced (starts.Based b) = bounded_then (bounded_expr_rest inner within (starts.Based b)) bounded_cat_rest
  bounded_braced starts.Brace = bounded_then (bounded_expr_rest inner within starts.Brace) bounded_cat_rest

bounded_inside : (left : Bool) (room : ℕ) → Bounded (inside left room) expr_size 0
unfolding inside
bounded_inside left zero = bounded_gives _ (let e = size-LooseNumber (pos 0) in omega (arith, e))
bounded_inside left (suc room) =
    bounded_after (expr_start left room) (λ s. bounded_braced (expr_by left room (inside left room)) (inside left room) (bounded_expr_by left room (inside left room) (bounded_inside left room)) (bounded_inside left room) s)

bounded_expr : (left : Bool) (room : ℕ) → Bounded (expr left room) expr_size 0
unfolding expr
bounded_expr left room = bounded_expr_by left room (inside left room) (bounded_inside left room)

bounded_maybe_expr : Bounded maybe_expr maybe_size 0
unfolding maybe_expr
bounded_maybe_expr =
    bounded_if _ _ _ (λ x s h. bounded_then (bounded_more 1 (omega arith) (bounded_expr_rest (inside false 64) (bounded_inside false 64) s)) (λ e. bounded_gives (Some e) (omega arith))) (bounded_gives None (omega arith))

-- ---- attributes

pub bounded_group : (s : List Attr) → Bounded (group s) length (length s)
unfolding group
bounded_group s =
    bounded_after attr (λ a. bounded_pred (bounded_more (suc (length s)) (let l = length-append s (a ∷ []) in let e = free_size (s ++ a ∷ []) in omega (arith, l, e)) (bounded_less (bounded_commas held_none (bounded_free attr) bounded_group_end (s ++ a ∷ [])) (λ v. omega arith))))

pub bounded_groups : (s : List Attr) → Bounded (groups s) length (length s)
unfolding groups
bounded_groups s = bounded_while length _ _ _ (λ s x c h. bounded_more (suc (length s)) (omega arith) (bounded_group s)) (λ s. bounded_gives s (omega arith)) s

pub bounded_attrs : Bounded attrs length 0
bounded_attrs = bounded_groups []

-- ---- declarations

bounded_names : Bounded (list name (mark 59)) length 0
bounded_names = bounded_items name (bounded_due 59)

bounded_port_item : (attrs : List Attr) (dir : Dir) → Bounded (port_item attrs dir) port_size (length attrs)
unfolding port_item
bounded_port_item attrs dir = bounded_after port_kind (λ k. bounded_after signed (λ s. bounded_after maybe_range (λ r. bounded_then (bounded_behind (length attrs) bounded_names) (λ ns. bounded_gives _ (omega arith)))))

bounded_net_item : (attrs : List Attr) (kind : NetKind) → Bounded (net_item attrs kind) net_size (length attrs)
unfolding net_item
bounded_net_item attrs kind = bounded_after signed (λ s. bounded_after maybe_range (λ r. bounded_then (bounded_behind (length attrs) bounded_names) (λ ns. bounded_gives _ (omega arith))))

bounded_param_item : (attrs : List Attr) → Bounded (param_item attrs) param_size (length attrs)
unfolding param_item
bounded_param_item attrs = bounded_after param_type (λ t. bounded_then (bounded_behind (length attrs) (bounded_items param_set (bounded_due 59))) (λ ss. bounded_gives _ (omega arith)))

-- ---- assignments

bounded_assignment : Bounded assignment assignment_size 0
unfolding assignment
bounded_assignment = bounded_then (bounded_expr true 64) (λ l. bounded_after (mark 61) (λ _. bounded_then (bounded_behind (expr_size l) (bounded_expr false 64)) (λ r. bounded_gives _ (omega arith))))

bounded_assigns : (attrs : List Attr) → Bounded (assigns attrs) assigns_size (length attrs)
unfolding assigns
bounded_assigns attrs = bounded_then (bounded_behind (length attrs) (bounded_list assignment_size bounded_assignment (bounded_due 59))) (λ ss. bounded_gives _ (omega arith))

-- ---- connections

bounded_named_rest : Bounded named_rest conn_size 0
unfolding named_rest
bounded_named_rest = bounded_after name (λ n. bounded_after (mark 40) (λ _. bounded_then bounded_maybe_expr (λ e. bounded_after (mark 41) (λ _. bounded_gives _ (omega arith)))))

bounded_named : Bounded named conn_size 0
unfolding named
bounded_named = bounded_after (mark 46) (λ _. bounded_named_rest)

bounded_named_conns : Bounded named_conns conns_size 0
unfolding named_conns
bounded_named_conns =
    bounded_then bounded_named_rest (λ first. bounded_then (bounded_pred (bounded_more (suc (conn_size first)) (omega arith) (bounded_commas conn_size bounded_named (bounded_due 41) (first ∷ [])))) (λ all. bounded_gives (conns_of.Named all) (omega arith)))

order_size : (es : List (Option Expr)) → list_size maybe_size (order_of es) ≤ list_size maybe_size es
order_size [] = omega arith
order_size (None ∷ []) = omega arith
order_size (None ∷ e ∷ es) = omega arith
order_size (Some e ∷ es) = omega arith

bounded_ordered_conns : Bounded ordered_conns conns_size 0
unfolding ordered_conns
bounded_ordered_conns = bounded_then (bounded_list maybe_size bounded_maybe_expr (bounded_due 41)) (λ es. bounded_gives (conns_of.Order (order_of es)) (order_size es))

bounded_conns : Bounded conns conns_size 0
unfolding conns
bounded_conns = bounded_mark 46 bounded_named_conns bounded_ordered_conns

-- ---- instances

bounded_instance : Bounded instance instance_size 0
unfolding instance
bounded_instance = bounded_after name (λ n. bounded_after (mark 40) (λ _. bounded_then bounded_conns (λ cs. bounded_gives _ (omega arith))))

bounded_overrides : Bounded overrides length 0
unfolding overrides
bounded_overrides = bounded_mark 35 (bounded_after (mark 40) (λ _. bounded_items override_set (bounded_due 41))) (bounded_gives [] (omega arith))

bounded_instances : (attrs : List Attr) (m : List ℕ) → Bounded (instances attrs m) instances_size (length attrs)
unfolding instances
bounded_instances attrs m =
    bounded_then (bounded_behind (length attrs) bounded_overrides) (λ ps. bounded_then (bounded_behind (length ps + length attrs) (bounded_list instance_size bounded_instance (bounded_due 59))) (λ us. bounded_gives _ (omega arith)))

-- ---- defparam

bounded_defparams : (attrs : List Attr) → Bounded (defparams attrs) defparams_size (length attrs)
unfolding defparams
bounded_defparams attrs = bounded_then (bounded_behind (length attrs) (bounded_items def_set (bounded_due 59))) (λ ss. bounded_gives _ (omega arith))

-- ---- items

pub bounded_word_item : (attrs : List Attr) (word : ItemWord) → Bounded (word_item attrs word) item_size (length attrs)
unfolding word_item
bounded_word_item attrs (words.Port dir) = bounded_then (bounded_port_item attrs dir) (λ d. bounded_gives (items.Port d) (omega arith))
bounded_word_item attrs (words.Net kind) = bounded_then (bounded_net_item attrs kind) (λ d. bounded_gives (items.Net d) (omega arith))
bounded_word_item attrs words.Param = bounded_then (bounded_param_item attrs) (λ d. bounded_gives (items.Param d) (omega arith))
bounded_word_item attrs words.Assign = bounded_then (bounded_assigns attrs) (λ s. bounded_gives (items.Assign s) (omega arith))
bounded_word_item attrs words.Defparam = bounded_then (bounded_defparams attrs) (λ s. bounded_gives (items.Defparam s) (omega arith))

pub bounded_instances_item : (attrs : List Attr) (m : List ℕ) → Bounded (instances_item attrs m) item_size (length attrs)
unfolding instances_item
bounded_instances_item attrs m = bounded_then (bounded_instances attrs m) (λ s. bounded_gives (items.Instances s) (omega arith))

pub bounded_item : (attrs : List Attr) → Bounded (item attrs) item_size (length attrs)
unfolding item
bounded_item attrs =
    bounded_if _ _ _ (λ x m h. bounded_more (suc (length attrs)) (omega arith) (bounded_instances_item attrs m)) (bounded_after (choice item_words) (λ word. bounded_word_item attrs word))
