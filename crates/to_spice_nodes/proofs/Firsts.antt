-- The first nodes of a class: the one that stands for it, and its first net.
use Rattle.std.proofs.Common.{◌≡◌, ℕ, ◌<◌, ◌⊎◌, inl, inr, Bool, true, false, cond, List, [], ◌∷◌, Option, None, Some, find, get_or, slice_get, option_map, refl, sym, ◌∙◌, ap, subst, arith, Contains}
use Rattle.std.specs.Cmp.{nat_cmp_is}
use Rattle.std.specs.List.Sorted.{IsStrictlySortedBy}
use Rattle.std.specs.Option.{option_and_then, option_map_or}
use Rattle.std.specs.Ordering.{ordering_then}
use Rattle.std.specs.declared.cmp.Ordering.TheVariants.{Less, Equal}
use Rattle.std.proofs.lemmas.List.Kept.{IsStrictlySortedBy-filter}
use Rattle.net_graph.proofs.ListLaws.{element_there}
use Rattle.net_graph.proofs.WalkLaws.{linked_along, linked_back, linked_itself}
use Rattle.net_bits.specs.Classes.{AreClasses, ClassTable, class_of, is_number, members_of}
use Rattle.net_bits.specs.Neighbours.{IsJoined}
use Rattle.net_bits.proofs.CallerLaws.{connected_classes, member_of_class}
use Rattle.net_hier.specs.Cells.{HasLocalStep, IsLocallyConnected, IsPortBit}
use Rattle.net_hier.specs.Nodes.{node_cmp}
use Rattle.net_hier.specs.declared.cells.HCell.{HCell}
use Rattle.net_hier.specs.declared.cells.HNet.{HNet}
use Rattle.net_hier.specs.declared.nodes.Node.{Node}
use Rattle.net_hier.specs.declared.nodes.Node.TheVariants.{Port, Pin, Net, Zero, One}
use Rattle.net_hier.proofs.Near.{local_turn}
use Rattle.net_live.specs.Live.{is_net, net_of}
use Rattle.net_stars.proofs.Lists.{contains_cases, contains_first, contains_later}
use Rattle.to_spice_rules.proofs.PortOrder.{before_back, head_least, only_ports_before}
use Rattle.to_spice_nodes.specs.Naming.{IsNetOf}
use Rattle.to_spice_nodes.specs.Table.{HasOwnNodes, IsPinNode, IsPortNode, around, net_name, root}

no_element : {X : Type 0} (x : X) → ¬ Contains [] x
no_element x h = let l = h.1 in omega (arith, l)

-- a net found first among nodes in order is before each other net
found_least : (nodes : List Node) (z : Node) → IsStrictlySortedBy node_cmp nodes → find is_net nodes ≡ Some z → (y : Node) → Contains nodes y → is_net y ≡ true → (z ≡ y) ⊎ (node_cmp z y ≡ Less)
unfolding IsStrictlySortedBy
found_least [] z sorted e y h t = absurd cc
found_least (m ∷ ms) z sorted e y h t = by (is_net m) refl e (λ f rest. found_least ms z sorted.1 f y rest t)
  where
    by : (b : Bool) → is_net m ≡ b → cond b (Some m) (find is_net ms) ≡ Some z → (find is_net ms ≡ Some z → Contains ms y → (z ≡ y) ⊎ (node_cmp z y ≡ Less)) → (z ≡ y) ⊎ (node_cmp z y ≡ Less)
    by true is f rest = let same : m ≡ z = cc in subst (λ w. (w ≡ y) ⊎ (node_cmp w y ≡ Less)) same (head_least m ms sorted y h)
    by false is f rest = elim (contains_cases m y ms h) as (λ _. (z ≡ y) ⊎ (node_cmp z y ≡ Less)) [
      | inl same ↦ absurd (let g : false ≡ true = sym is ∙ (ap is_net same ∙ t) in cc)
      | inr later ↦ rest f later
    ]

found_is : (nodes : List Node) (z : Node) → find is_net nodes ≡ Some z → Contains nodes z × (is_net z ≡ true)
found_is [] z e = absurd cc
found_is (m ∷ ms) z e = by (is_net m) refl e (λ f. found_is ms z f)
  where
    by : (b : Bool) → is_net m ≡ b → cond b (Some m) (find is_net ms) ≡ Some z → (find is_net ms ≡ Some z → Contains ms z × (is_net z ≡ true)) → Contains (m ∷ ms) z × (is_net z ≡ true)
    by true is f rest = let same : m ≡ z = cc in (subst (Contains (m ∷ ms)) same (contains_first m ms), ap is_net (sym same) ∙ is)
    by false is f rest = let r = rest f in (contains_later m z ms r.0, r.1)

none_found : (nodes : List Node) → find is_net nodes ≡ None → (y : Node) → Contains nodes y → is_net y ≡ true → ⊥
none_found [] e y h t = no_element y h
none_found (m ∷ ms) e y h t = by (is_net m) refl e (λ f rest. none_found ms f y rest t)
  where
    by : (b : Bool) → is_net m ≡ b → cond b (Some m) (find is_net ms) ≡ None → (find is_net ms ≡ None → Contains ms y → ⊥) → ⊥
    by true is f rest = cc
    by false is f rest = elim (contains_cases m y ms h) as (λ _. ⊥) [
      | inl same ↦ let g : false ≡ true = sym is ∙ (ap is_net same ∙ t) in cc
      | inr later ↦ rest f later
    ]

net_is_of : (z : Node) → is_net z ≡ true → (n : ℕ) × (z ≡ Net n)
net_is_of (Port p b) t = absurd cc
net_is_of (Pin i p b) t = absurd cc
net_is_of (Net n) t = (n, refl)
net_is_of Zero t = absurd cc
net_is_of One t = absurd cc

net_before : (l n : ℕ) → l < n → node_cmp (Net l) (Net n) ≡ Less
net_before l n lt = ap (λ o. ordering_then o Equal) (sym (nat_cmp_is l n Less lt))

module _ (cell : HCell) (classes : ClassTable) (are : AreClasses cell classes) where
  sorted : (class : ℕ) → IsStrictlySortedBy node_cmp (members_of classes class)
  sorted class = IsStrictlySortedBy-filter node_cmp (λ node. is_number class (class_of classes node)) classes.nodes are.nodes.in_order

  around_is : (x : Node) (class : ℕ) → class_of classes x ≡ Some class → around classes x ≡ members_of classes class
  around_is x class e = ap (λ o. option_map_or (members_of classes) o []) e

  head_of : (x : Node) (class : ℕ) → class_of classes x ≡ Some class → (m : Node) × (ms : List Node) × (members_of classes class ≡ m ∷ ms) × (root classes x ≡ m)
  head_of x class e = by (members_of classes class) refl
    where
      by : (nodes : List Node) → members_of classes class ≡ nodes → (m : Node) × (ms : List Node) × (members_of classes class ≡ m ∷ ms) × (root classes x ≡ m)
      by [] is = absurd (no_element x (subst (λ l. Contains l x) is ((member_of_class cell classes are x class).0 e)))
      by (m ∷ ms) is = (m, ms, is, ap (λ l. get_or l 0 x) (around_is x class e ∙ is))

  alone : (x : Node) → class_of classes x ≡ None → root classes x ≡ x
  alone x e = ap (λ o. get_or (option_map_or (members_of classes) o []) 0 x) e

  pub root_connected : (x : Node) → IsLocallyConnected cell x (root classes x)
  root_connected x = by (class_of classes x) refl
    where
      by : (o : Option ℕ) → class_of classes x ≡ o → IsLocallyConnected cell x (root classes x)
      by None e = subst (IsLocallyConnected cell x) (sym (alone x e)) (linked_itself (HasLocalStep cell) x)
      by (Some class) e =
          let h = head_of x class e in
          let here : Contains (members_of classes class) h.0 = subst (λ l. Contains l h.0) (sym h.2) (contains_first h.0 h.1) in
          subst (IsLocallyConnected cell x) (sym h.3) ((connected_classes cell classes are x h.0).1 (inr (class, e, (member_of_class cell classes are h.0 class).1 here)))

  -- connected nodes have one node that stands for both, and the other way round
  pub same_root : (x y : Node) → IsLocallyConnected cell x y → root classes x ≡ root classes y
  same_root x y link = elim ((connected_classes cell classes are x y).0 link) as (λ _. root classes x ≡ root classes y) [
    | inl e ↦ ap (root classes) e
    | inr k ↦
        let h = head_of x k.0 k.1 in
        let g = head_of y k.0 k.2 in
        let same : h.0 ∷ h.1 ≡ g.0 ∷ g.1 = sym h.2 ∙ g.2 in
        let first : h.0 ≡ g.0 = cc in
        h.3 ∙ (first ∙ sym g.3)
  ]

  pub root_back : (x y : Node) → root classes x ≡ root classes y → IsLocallyConnected cell x y
  root_back x y e = linked_along (subst (IsLocallyConnected cell x) e (root_connected x)) (linked_back (HasLocalStep cell) (λ a b s. local_turn s) (root_connected y))

  not_itself : (x : Node) → IsPinNode x → (port bit : ℕ) → ¬ (x ≡ Port port bit)
  not_itself x pin port bit e = let f : Pin pin.0 pin.1 pin.2 ≡ Port port bit = sym pin.3 ∙ e in cc

  not_net : (x : Node) → IsPinNode x → (n : ℕ) → ¬ (x ≡ Net n)
  not_net x pin n e = let f : Pin pin.0 pin.1 pin.2 ≡ Net n = sym pin.3 ∙ e in cc

  module _ (own : HasOwnNodes cell) where
    -- a port bit that stands for a pin is one of the cell's, and connected to it
    pub port_root : (x : Node) → IsPinNode x → (port bit : ℕ) → root classes x ≡ Port port bit → IsPortBit cell port bit × IsLocallyConnected cell x (Port port bit)
    port_root x pin port bit e = by (class_of classes x) refl
      where
        by : (o : Option ℕ) → class_of classes x ≡ o → IsPortBit cell port bit × IsLocallyConnected cell x (Port port bit)
        by None is = absurd (not_itself x pin port bit (sym (alone x is) ∙ e))
        by (Some class) is =
            let h = head_of x class is in
            let here : Contains (members_of classes class) (Port port bit) = subst (Contains (members_of classes class)) (sym h.3 ∙ e) (subst (λ l. Contains l h.0) (sym h.2) (contains_first h.0 h.1)) in
            (own.ports port bit ((are.joined (Port port bit)).1 (class, (member_of_class cell classes are (Port port bit) class).1 here)), subst (IsLocallyConnected cell x) e (root_connected x))

  -- where no port bit stands for a pin, none is connected to it
  pub no_port_root : (x : Node) → IsPinNode x → ¬ IsPortNode (root classes x) → (port bit : ℕ) → ¬ IsLocallyConnected cell x (Port port bit)
  no_port_root x pin none port bit link = elim ((connected_classes cell classes are x (Port port bit)).0 link) as (λ _. ⊥) [
    | inl e ↦ not_itself x pin port bit e
    | inr k ↦
        let h = head_of x k.0 k.1 in
        let member : Contains (h.0 ∷ h.1) (Port port bit) = subst (λ l. Contains l (Port port bit)) h.2 ((member_of_class cell classes are (Port port bit) k.0).0 k.2) in
        elim (head_least h.0 h.1 (subst (IsStrictlySortedBy node_cmp) h.2 (sorted k.0)) (Port port bit) member) as (λ _. ⊥) [
          | inl e ↦ none (port, bit, h.3 ∙ e)
          | inr less ↦ let p = only_ports_before h.0 port bit less in none (p.0, p.1, h.3 ∙ p.2)
        ]
  ]

  -- a net that is connected to a pin is among the nodes of its class
  net_member : (x : Node) → IsPinNode x → (class : ℕ) → class_of classes x ≡ Some class → (n : ℕ) → IsLocallyConnected cell x (Net n) → Contains (members_of classes class) (Net n)
  net_member x pin class is n link = elim ((connected_classes cell classes are x (Net n)).0 link) as (λ _. Contains (members_of classes class) (Net n)) [
    | inl e ↦ absurd (not_net x pin n e)
    | inr k ↦ let same : k.0 ≡ class = (let f : Some k.0 ≡ Some class = sym k.1 ∙ is in cc) in (member_of_class cell classes are (Net n) class).0 (k.2 ∙ ap Some same)
  ]

  -- the first net of the class of a pin is the first that is connected to it
  module _ (own : HasOwnNodes cell) (x : Node) (pin : IsPinNode x) where
    found_net : (class : ℕ) → class_of classes x ≡ Some class → (n : ℕ) → find is_net (members_of classes class) ≡ Some (Net n) → IsNetOf cell x (option_map (λ (net : HNet). net.name) (slice_get cell.nets n))
    found_net class is n found =
        let f = found_is (members_of classes class) (Net n) found in
        let own_class : class_of classes (Net n) ≡ Some class = (member_of_class cell classes are (Net n) class).1 f.0 in
        let joined : IsJoined cell (Net n) = (are.joined (Net n)).1 (class, own_class) in
        let net = element_there cell.nets n (own.nets n joined) in
        subst (IsNetOf cell x) (ap (option_map (λ (w : HNet). w.name)) (sym net.1)) (record {
          number = n;
          net = net.0;
          is_there = net.1;
          is_named = refl;
          is_connected = (connected_classes cell classes are x (Net n)).1 (inr (class, is, own_class));
          is_first = λ lesser lt link. elim (found_least (members_of classes class) (Net n) (sorted class) found (Net lesser) (net_member x pin class is lesser link) refl) as (λ _. ⊥) [
            | inl e ↦ let same : n ≡ lesser = cc in omega (arith, lt, same)
            | inr less ↦ before_back (Net lesser) (Net n) (net_before lesser n lt) less
          ];
        })

    by_found : (class : ℕ) → class_of classes x ≡ Some class → (o : Option Node) → find is_net (members_of classes class) ≡ o → IsNetOf cell x (option_map (λ (net : HNet). net.name) (option_and_then (slice_get cell.nets) (option_and_then net_of o)))
    by_found class is None found = λ n lt link. none_found (members_of classes class) found (Net n) (net_member x pin class is n link) refl
    by_found class is (Some z) found =
        let n = net_is_of z (found_is (members_of classes class) z found).1 in
        subst (λ w. IsNetOf cell x (option_map (λ (net : HNet). net.name) (option_and_then (slice_get cell.nets) (net_of w)))) (sym n.1) (found_net class is n.0 (found ∙ ap Some n.1))

    by_class : (o : Option ℕ) → class_of classes x ≡ o → IsNetOf cell x (net_name cell (option_map_or (members_of classes) o []))
    by_class None is = λ n lt link. elim ((connected_classes cell classes are x (Net n)).0 link) as (λ _. ⊥) [
      | inl e ↦ not_net x pin n e
      | inr k ↦ let f : None ≡ Some k.0 = sym is ∙ k.1 in cc
    ]
    by_class (Some class) is = by_found class is (find is_net (members_of classes class)) refl

    pub net_is : IsNetOf cell x (net_name cell (around classes x))
    net_is = by_class (class_of classes x) refl
