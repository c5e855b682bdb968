-- the joins of a cell are links that connect what they connect
use Rattle.std.proofs.Common.{◌≡◌, ℕ, ◌⊎◌, inl, inr, List, [], ◌∷◌, refl, sym, ◌∙◌, ap, subst}
use Rattle.std.specs.Prelude.{Contains}
use Rattle.net_graph.specs.Walks.{IsLinked}
use Rattle.net_graph.proofs.WalkLaws.{linked_along, linked_by, linked_itself}
use Rattle.net_hier.specs.Cells.{HasLocalStep, IsLocallyConnected}
use Rattle.net_hier.specs.Design.{IsCell}
use Rattle.net_hier.specs.Valid.{IsGoodCell, IsNode}
use Rattle.net_hier.specs.declared.cells.HCell.{HCell}
use Rattle.net_hier.specs.declared.nodes.Join.{Join}
use Rattle.net_hier.specs.declared.nodes.Node.{Node}
use Rattle.flat_numbers.specs.FlatJoins.{joins_in, joins_of, or_own}
use Rattle.flat_numbers.specs.Numbers.{AreLinks, HasLink}
use Rattle.flat_numbers.proofs.NumberLaws.{joined_nodes, linked_keeps}

join_is : (join : Join) (x y : Node) → join.a ≡ x → join.b ≡ y → join ≡ record { a = x; b = y }
join_is join x y p q = ap (λ w. record { a = w; b = join.b }) p ∙ ap (λ w. record { a = x; b = w }) q

step_links : (cell : HCell) (x y : Node) → HasLocalStep cell x y → HasLink cell.joins x y
step_links cell x y step = elim step.has_both as (λ _. HasLink cell.joins x y) [
  | inl e ↦ inl (subst (Contains cell.joins) (join_is step.join x y e.0 e.1) step.is_join)
  | inr e ↦ inr (subst (Contains cell.joins) (join_is step.join y x e.0 e.1) step.is_join)
]

link_steps : (cell : HCell) (x y : Node) → HasLink cell.joins x y → HasLocalStep cell x y
link_steps cell x y (inl there) = record { join = record { a = x; b = y }; is_join = there; has_both = inl (refl, refl) }
link_steps cell x y (inr there) = record { join = record { a = y; b = x }; is_join = there; has_both = inr (refl, refl) }

joins_are_links : (cells : List HCell) (cell : HCell) → IsGoodCell cells cell → AreLinks cells cell cell.joins
joins_are_links cells cell good = record {
  in_range = λ x y link. elim link as (λ _. IsNode cells cell x × IsNode cells cell y) [
    | inl there ↦ joined_nodes cells cell good (record { a = x; b = y }) there
    | inr there ↦ let r = joined_nodes cells cell good (record { a = y; b = x }) there in (r.1, r.0)
  ];
  same = λ x y. (
    λ h. linked_keeps (HasLocalStep cell) (IsLinked (HasLink cell.joins) x) (λ a b s c. linked_along c (linked_by (step_links cell a b s))) x y h (linked_itself (HasLink cell.joins) x),
    λ h. linked_keeps (HasLink cell.joins) (IsLocallyConnected cell x) (λ a b s c. linked_along c (linked_by (link_steps cell a b s))) x y h (linked_itself (HasLocalStep cell) x),
  );
}

-- an empty row stands for the cell's own joins, which are links of it
pub row_links : (cells : List HCell) (number : ℕ) (cell : HCell) → IsCell cells number cell → IsGoodCell cells cell → (row : List Join) → (row ≡ []) ⊎ AreLinks cells cell row → AreLinks cells cell (or_own row (joins_in cells number))
row_links cells number cell is good [] told = subst (AreLinks cells cell) (sym (ap joins_of is)) (joins_are_links cells cell good)
row_links cells number cell is good (link ∷ links) (inl none) = absurd (cc)
row_links cells number cell is good (link ∷ links) (inr are) = are
