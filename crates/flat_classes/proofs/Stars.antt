-- links from the first member of each class to its other members connect what the joins connect
use Rattle.std.proofs.Common.{◌≡◌, ℕ, ◌⊎◌, ◌↔◌, inl, inr, List, [], ◌∷◌, refl, sym, subst, Option, Some, arith}
use Rattle.std.specs.Prelude.{Contains}
use Rattle.std.proofs.lemmas.List.Elements.{Contains-append_left, Contains-append_right, Contains-append_cases, Contains-push, Contains-push_cases}
use Rattle.net_hier.specs.Cells.{IsLocallyConnected}
use Rattle.net_hier.specs.Valid.{IsNode}
use Rattle.net_graph.specs.Walks.{IsLinked}
use Rattle.net_hier.specs.declared.cells.HCell.{HCell}
use Rattle.net_hier.specs.declared.nodes.Join.{Join}
use Rattle.net_hier.specs.declared.nodes.Node.{Node}
use Rattle.net_graph.proofs.WalkLaws.{linked_along, linked_back, linked_by, linked_itself}
use Rattle.flat_numbers.specs.Numbers.{AreLinks, HasLink}
use Rattle.flat_numbers.proofs.NumberLaws.{linked_keeps}

-- the classes of a cell and their members, and links from each first member to the others
pub record AreStarLinks (cells : List HCell) (cell : HCell) (class_of : Node → Option ℕ) (members : ℕ → List Node) (links : List Join) : Type 0 where
  pub same : (x y : Node) → IsLocallyConnected cell x y ↔ ((x ≡ y) ⊎ ((k : ℕ) × (class_of x ≡ Some k) × (class_of y ≡ Some k)))
  pub are_nodes : (x : Node) (k : ℕ) → class_of x ≡ Some k → IsNode cells cell x
  pub are_members : (k : ℕ) (x : Node) → Contains (members k) x ↔ (class_of x ≡ Some k)
  pub are_links : (a b : Node) → Contains links (record { a = a; b = b }) ↔ ((k : ℕ) × (rest : List Node) × (members k ≡ a ∷ rest) × Contains rest b)

one_class : (o : Option ℕ) (j k : ℕ) → o ≡ Some j → o ≡ Some k → j ≡ k
one_class o j k p q = cc

none_in : (x : Node) → ¬ Contains [] x
none_in x c = let lt = c.1 in omega (arith, lt)

only : (a b : Node) → Contains (a ∷ []) b → a ≡ b
only a b c = elim (Contains-push_cases [] a b c) [ inl n ↦ absurd (none_in b n) | inr e ↦ e ]

head_in : (a : Node) (rest : List Node) → Contains (a ∷ rest) a
head_in a rest = Contains-append_left (a ∷ []) rest a (Contains-push [] a)

rest_in : (a b : Node) (rest : List Node) → Contains rest b → Contains (a ∷ rest) b
rest_in a b rest c = Contains-append_right (a ∷ []) rest b c

head_or_rest : (a b : Node) (rest : List Node) → Contains (a ∷ rest) b → (a ≡ b) ⊎ Contains rest b
head_or_rest a b rest c = elim (Contains-append_cases (a ∷ []) rest b c) [ inl h ↦ inl (only a b h) | inr r ↦ inr r ]

module _ (cells : List HCell) (cell : HCell) (class_of : Node → Option ℕ) (members : ℕ → List Node) (links : List Join) (stars : AreStarLinks cells cell class_of members links) where
  -- the ends of a link are of one class
  link_class : (a b : Node) → Contains links (record { a = a; b = b }) → (k : ℕ) × (class_of a ≡ Some k) × (class_of b ≡ Some k)
  link_class a b c =
      let (k, rest, e, there) = (stars.are_links a b).0 c in
      (k, (stars.are_members k a).0 (subst (λ w. Contains w a) (sym e) (head_in a rest)), (stars.are_members k b).0 (subst (λ w. Contains w b) (sym e) (rest_in a b rest there)))

  step_class : (x y : Node) → HasLink links x y → (k : ℕ) × (class_of x ≡ Some k) × (class_of y ≡ Some k)
  step_class x y (inl c) = link_class x y c
  step_class x y (inr c) = let (k, p, q) = link_class y x c in (k, q, p)

  -- each member of a class is linked to its first
  to_first : (k : ℕ) (first : Node) (rest : List Node) → members k ≡ first ∷ rest → (x : Node) → class_of x ≡ Some k → IsLinked (HasLink links) first x
  to_first k first rest e x p = elim (head_or_rest first x rest (subst (λ w. Contains w x) e ((stars.are_members k x).1 p))) [
    | inl same ↦ subst (IsLinked (HasLink links) first) same (linked_itself (HasLink links) first)
    | inr there ↦ linked_by (inl ((stars.are_links first x).1 (k, rest, e, there)))
  ]

  turn : (x y : Node) → HasLink links x y → HasLink links y x
  turn x y link = elim link as (λ _. HasLink links y x) [ inl c ↦ inr c | inr c ↦ inl c ]

  by_class : (k : ℕ) (all : List Node) → members k ≡ all → (x y : Node) → class_of x ≡ Some k → class_of y ≡ Some k → IsLinked (HasLink links) x y
  by_class k [] e x y p q = absurd (none_in x (subst (λ w. Contains w x) e ((stars.are_members k x).1 p)))
  by_class k (first ∷ rest) e x y p q = linked_along (linked_back (HasLink links) turn (to_first k first rest e x p)) (to_first k first rest e y q)

  pub star_links : AreLinks cells cell links
  star_links = record {
    in_range = λ x y link. let (k, p, q) = step_class x y link in (stars.are_nodes x k p, stars.are_nodes y k q);
    same = λ x y. (
      λ h. elim ((stars.same x y).0 h) [
        | inl e ↦ subst (IsLinked (HasLink links) x) e (linked_itself (HasLink links) x)
        | inr (k, p, q) ↦ by_class k (members k) refl x y p q
      ],
      λ h. linked_keeps (HasLink links) (IsLocallyConnected cell x)
          (λ a b s c. let (k, p, q) = step_class a b s in linked_along c ((stars.same a b).1 (inr (k, p, q))))
          x y h (linked_itself _ x),
    );
  }
