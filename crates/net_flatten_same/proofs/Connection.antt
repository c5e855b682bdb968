-- terminals are connected in the flattened design exactly where they are of one group
use Rattle.std.proofs.Common.{◌≡◌, ◌⊎◌, ℕ, ◌+◌, ◌<◌, inl, inr, List, [], ◌∷◌, refl, sym, ◌∙◌, ap, subst, subst₂, slice_get, Some, Bool, length, arith}
use Rattle.std.specs.Prelude.{Contains, ◌↔◌, slice_index_or}
use Rattle.std.proofs.lemmas.Option.{get_or_from_slice_get, slice_get_within, slice_get-get_or}
use Rattle.net_graph.proofs.WalkLaws.{linked_along, linked_by, linked_itself}
use Rattle.net_graph.specs.Walks.{Leads}
use Rattle.net_hier.specs.Cells.{HasLocalStep, IsAnyConstantCell, IsConstantInstance, IsPinBit, IsPortBit}
use Rattle.net_hier.specs.Constants.{ConstantNames}
use Rattle.net_hier.specs.Design.{Design}
use Rattle.net_hier.specs.Flat.{FlatNode, At, FlatLink, by_join, by_pin, by_constant, FlatStep, IsConnected, taken_at}
use Rattle.net_hier.specs.Paths.{Path, CellAt}
use Rattle.net_hier.specs.declared.cells.HCell.{HCell}
use Rattle.net_hier.specs.declared.cells.HInst.{HInst}
use Rattle.net_hier.specs.declared.nodes.Join.{Join}
use Rattle.net_hier.specs.declared.nodes.Node.{Node}
use Rattle.net_hier.specs.declared.nodes.Node.TheVariants.{Port as PortNode, Pin as PinNode, Net}
use Rattle.net_hier.proofs.Near.{connected_back}
use Rattle.net_hier.proofs.Pairs.{no_element}
use Rattle.net_hier.proofs.PathLaws.{same_element}
use Rattle.flat_classes.specs.Groups.{group_at}
use Rattle.flat_classes.specs.declared.flat.Terminal.{Terminal}
use Rattle.flat_classes.specs.declared.flat.Terminal.TheVariants.{Port, Pin, Zero, One}
use Rattle.flat_classes.proofs.KindLaws.{nothing_in}
use Rattle.flat_classes.proofs.OneFlat.{place_has_node}
use Rattle.net_flatten_rules.specs.FlatDesign.{stub, join_at, node_of, place_in, wired}
use Rattle.net_flatten_rules.specs.Joined.{name_at}
use Rattle.net_flatten_rules.specs.SameFlat.{IsTop, Partner, TopInstance}
use Rattle.net_flatten_same.proofs.Ends.{IsInside, Meets, end_is_hub, end_of, hub_of, inside_at, meets, net_is_no_end, net_is_no_hub, pin_listed, same_end, same_hub}
use Rattle.net_flatten_same.proofs.Flattened.{FromTop, at_is, stub_constant, from_top, instance_for, instance_there, leaf_top, other, the_top, top_there}
use Rattle.net_flatten_same.proofs.Leaves.{Flattening, leaf_place, leaf_spot, leaves_of, place_inside}
use Rattle.net_flatten_same.proofs.Lists.{IsGroup, IsNetJoin, Together, from_joins, from_wired, member_group, to_joins, together}

module _ (names : ConstantNames) (design : Design) (f : Flattening names design) (order : List ℕ) where
  abbrev flat_design : Design
  flat_design = other names design f order

  -- the terminal at a place
  abbrev terminal_at : ℕ → Terminal
  terminal_at place = slice_index_or f.flat.terminals place Zero

  zero_net : (n : ℕ) → 0 + n ≡ n
  zero_net n = omega arith

  -- equal terminals are of one group
  one_group : (i j : ℕ) (t : Terminal) → slice_get f.flat.terminals i ≡ Some t → slice_get f.flat.terminals j ≡ Some t → group_at f.flat.groups i ≡ group_at f.flat.groups j
  one_group i j t at_i at_j =
      let (s, is_s, x, is_node) = place_has_node names design f.valid f.flat f.are i (slice_get_within f.flat.terminals i t at_i) in
      let e : s ≡ t = same_element f.flat.terminals i s t is_s at_i in
      (f.are.are_groups i j s s x x is_s (subst (λ w. slice_get f.flat.terminals j ≡ Some w) (sym e) at_j) is_node is_node).1 (linked_itself (FlatStep names design) x)

  group_length : (place : ℕ) (t : Terminal) → slice_get f.flat.terminals place ≡ Some t → place < length f.flat.groups
  group_length place t e = let lt = slice_get_within f.flat.terminals place t e in omega (arith, lt, f.are.are_numbers.len)

  -- ---- from groups to connection
  top_path : CellAt flat_design [] (the_top names design f order)
  top_path = record { number = flat_design.top; leads = refl; is_cell = top_there names design f order }

  net_step : (net : ℕ) (members : List ℕ) (place : ℕ) (t : Terminal) → slice_get (wired f.flat) net ≡ Some members → Contains members place → slice_get f.flat.terminals place ≡ Some t →
      HasLocalStep (the_top names design f order) (Net net) (node_of (leaves_of f.flat) t)
  net_step net members place t is member there =
      let e : terminal_at place ≡ t = get_or_from_slice_get f.flat.terminals place t Zero there in
      record {
        join = join_at f.flat.terminals (leaves_of f.flat) (0 + net) place;
        is_join = to_joins f.flat.terminals (leaves_of f.flat) 0 (wired f.flat) net members place is member;
        has_both = inl (ap Net (zero_net net), ap (node_of (leaves_of f.flat)) e);
      }

  net_hub : (net : ℕ) (members : List ℕ) (place : ℕ) (t : Terminal) → slice_get (wired f.flat) net ≡ Some members → Contains members place → slice_get f.flat.terminals place ≡ Some t →
      IsConnected names flat_design (At [] (Net net)) (hub_of names design f t)
  net_hub net members place t is member there = linked_by (inl (by_join top_path (net_step net members place t is member there)))

  pin_step : (leaf port bit : ℕ) (c : Contains (leaves_of f.flat) leaf) → IsPortBit (leaf_spot names design f leaf c).spot.cell port bit → FlatLink names flat_design (At [] (PinNode (place_in (leaves_of f.flat) leaf) port bit)) (At (name_at f.paths leaf ∷ []) (PortNode port bit))
  pin_step leaf port bit c b =
      let t : TopInstance flat_design (place_in (leaves_of f.flat) leaf) (instance_for names design f order leaf) (stub (leaf_spot names design f leaf c).spot.cell) =
      leaf_top names design f order (place_in (leaves_of f.flat) leaf) leaf (place_inside names design f leaf c) (leaf_spot names design f leaf c) in
      by_pin top_path (record {
        the_instance = instance_for names design f order leaf;
        is_there = instance_there names design f order (place_in (leaves_of f.flat) leaf) leaf (place_inside names design f leaf c);
        below = stub (leaf_spot names design f leaf c).spot.cell;
        is_below = t.is_of;
        is_bit = record { the_port = b.the_port; is_there = b.is_there; within = b.within };
      })

  hub_end : (t : Terminal) → IsInside names design f t → IsConnected names flat_design (hub_of names design f t) (end_of names design f t)
  hub_end (Port port bit) h = linked_itself (FlatStep names flat_design) (At [] (PortNode port bit))
  hub_end (Pin leaf port bit) h = linked_by (inl (pin_step leaf port bit h.0 h.1))
  hub_end Zero h = linked_itself (FlatStep names flat_design) (hub_of names design f Zero)
  hub_end One h = linked_itself (FlatStep names flat_design) (hub_of names design f One)

  -- two terminals of one group are connected
  group_connects : (i j : ℕ) (s t : Terminal) → slice_get f.flat.terminals i ≡ Some s → slice_get f.flat.terminals j ≡ Some t → group_at f.flat.groups i ≡ group_at f.flat.groups j →
      IsConnected names flat_design (end_of names design f s) (end_of names design f t)
  group_connects i j s t at_i at_j e = elim (same_or_other i j) [
    | inl same ↦
        let p : s ≡ t = same_element f.flat.terminals j s t (subst (λ n. slice_get f.flat.terminals n ≡ Some s) same at_i) at_j in
        subst (λ w. IsConnected names flat_design (end_of names design f s) (end_of names design f w)) p (linked_itself (FlatStep names flat_design) (end_of names design f s))
    | inr differ ↦
        let both : Together f.flat i j = together f.flat f.are.are_numbers.in_order i j (group_length i s at_i) (group_length j t at_j) differ e in
        let up : IsConnected names flat_design (At [] (Net both.net)) (end_of names design f s) =
        linked_along (net_hub both.net both.members i s both.is_there both.first at_i) (hub_end s (inside_at names design f i s at_i)) in
        let down : IsConnected names flat_design (At [] (Net both.net)) (end_of names design f t) =
        linked_along (net_hub both.net both.members j t both.is_there both.second at_j) (hub_end t (inside_at names design f j t at_j)) in
        linked_along (connected_back names flat_design up) down
  ]
    where
      same_or_other : (a b : ℕ) → (a ≡ b) ⊎ (¬ (a ≡ b))
      same_or_other a b = elim (order_of a b) [ inl lt ↦ inr (λ p. omega (arith, lt, p)) | inr (inl p) ↦ inl p | inr (inr lt) ↦ inr (λ p. omega (arith, lt, p)) ]
        where
          order_of : (m n : ℕ) → (m < n) ⊎ ((m ≡ n) ⊎ (n < m))
          order_of m n = grind arith

  -- ---- from connection to groups
  -- the node is an end or the hub of a terminal of the group, or the net of one
  data InGroup (z : FlatNode) (group : ℕ) : Type 0 where
    as_end : (place : ℕ) (t : Terminal) → slice_get f.flat.terminals place ≡ Some t → z ≡ end_of names design f t → group_at f.flat.groups place ≡ group → InGroup z group
    as_hub : (place : ℕ) (t : Terminal) → slice_get f.flat.terminals place ≡ Some t → z ≡ hub_of names design f t → group_at f.flat.groups place ≡ group → InGroup z group
    as_net : (net : ℕ) (members : List ℕ) (place : ℕ) → slice_get (wired f.flat) net ≡ Some members → Contains members place → z ≡ At [] (Net net) → group_at f.flat.groups place ≡ group → InGroup z group

  -- a place of the terminal has the group
  record IsOfGroup (t : Terminal) (group : ℕ) : Type 0 where
    place : ℕ
    is_there : slice_get f.flat.terminals place ≡ Some t
    is : group_at f.flat.groups place ≡ group

  at_end : (t : Terminal) (group : ℕ) (z : FlatNode) → IsInside names design f t → z ≡ end_of names design f t → InGroup z group → IsOfGroup t group
  at_end t group z h z_is (as_end place s there e g) =
      let p : s ≡ t = same_end names design f s t (inside_at names design f place s there) h (sym e ∙ z_is) in
      record { place = place; is_there = subst (λ w. slice_get f.flat.terminals place ≡ Some w) p there; is = g }
  at_end t group z h z_is (as_hub place s there e g) =
      let p : t ≡ s = end_is_hub names design f t s (sym z_is ∙ e) in
      record { place = place; is_there = subst (λ w. slice_get f.flat.terminals place ≡ Some w) (sym p) there; is = g }
  at_end t group z h z_is (as_net net members place is member e g) = absurd (net_is_no_end names design f net t (sym e ∙ z_is))

  at_hub : (t : Terminal) (group : ℕ) (z : FlatNode) → IsInside names design f t → z ≡ hub_of names design f t → InGroup z group → IsOfGroup t group
  at_hub t group z h z_is (as_end place s there e g) =
      let p : s ≡ t = end_is_hub names design f s t (sym e ∙ z_is) in
      record { place = place; is_there = subst (λ w. slice_get f.flat.terminals place ≡ Some w) p there; is = g }
  at_hub t group z h z_is (as_hub place s there e g) =
      let p : s ≡ t = same_hub names design f s t (inside_at names design f place s there) h (sym e ∙ z_is) in
      record { place = place; is_there = subst (λ w. slice_get f.flat.terminals place ≡ Some w) p there; is = g }
  at_hub t group z h z_is (as_net net members place is member e g) = absurd (net_is_no_hub names design f net t (sym e ∙ z_is))

  one_net : (m n : ℕ) → At [] (Net m) ≡ At [] (Net n) → m ≡ n
  one_net m n e = cc

  -- the members of a net are of one group
  at_net : (net : ℕ) (members : List ℕ) (place : ℕ) (group : ℕ) (z : FlatNode) → slice_get (wired f.flat) net ≡ Some members → Contains members place → z ≡ At [] (Net net) → InGroup z group → group_at f.flat.groups place ≡ group
  at_net net members place group z is member z_is (as_end other_place s there e g) = absurd (net_is_no_end names design f net s (sym z_is ∙ e))
  at_net net members place group z is member z_is (as_hub other_place s there e g) = absurd (net_is_no_hub names design f net s (sym z_is ∙ e))
  at_net net members place group z is member z_is (as_net onet omembers oplace ois omember e g) =
      let n : onet ≡ net = one_net onet net (sym e ∙ z_is) in
      let m : omembers ≡ members = same_element (wired f.flat) net omembers members (subst (λ k. slice_get (wired f.flat) k ≡ Some omembers) n ois) is in
      let listed : IsGroup f.flat members = from_wired f.flat net members is in
      let here = member_group f.flat members listed place member in
      let there = member_group f.flat members listed oplace (subst (λ k. Contains k oplace) m omember) in
      here.0 ∙ (sym there.0 ∙ g)

  -- the two are of the same groups
  abbrev Keeps : FlatNode → FlatNode → Type 0
  Keeps z w = (group : ℕ) → InGroup z group ↔ InGroup w group

  turned : (z w : FlatNode) → Keeps z w → Keeps w z
  turned z w k group = ((k group).1, (k group).0)

  join_keeps : (net : ℕ) (members : List ℕ) (place : ℕ) (z w : FlatNode) → slice_get (wired f.flat) net ≡ Some members → Contains members place → z ≡ At [] (Net net) → w ≡ hub_of names design f (terminal_at place) → Keeps z w
  join_keeps net members place z w is member z_is w_is group =
      let inside = member_group f.flat members (from_wired f.flat net members is) place member in
      let there : slice_get f.flat.terminals place ≡ Some (terminal_at place) = slice_get-get_or f.flat.terminals place Zero (omega (arith, inside.1, f.are.are_numbers.len)) in (
        λ h. as_hub place (terminal_at place) there w_is (at_net net members place group z is member z_is h),
        λ h.
            let r : IsOfGroup (terminal_at place) group = at_hub (terminal_at place) group w (inside_at names design f place (terminal_at place) there) w_is h in
            as_net net members place is member z_is (one_group place r.place (terminal_at place) there r.is_there ∙ r.is),
      )

  pin_keeps : (leaf port bit : ℕ) (z w : FlatNode) → IsInside names design f (Pin leaf port bit) → z ≡ hub_of names design f (Pin leaf port bit) → w ≡ end_of names design f (Pin leaf port bit) → Keeps z w
  pin_keeps leaf port bit z w h z_is w_is group = (
    λ g. let r : IsOfGroup (Pin leaf port bit) group = at_hub (Pin leaf port bit) group z h z_is g in as_end r.place (Pin leaf port bit) r.is_there w_is r.is,
    λ g. let r : IsOfGroup (Pin leaf port bit) group = at_end (Pin leaf port bit) group w h w_is g in as_hub r.place (Pin leaf port bit) r.is_there z_is r.is,
  )

  -- a join of the top
  top_join : (path : Path) (x y : Node) → path ≡ [] → HasLocalStep (the_top names design f order) x y → Keeps (taken_at path x) (taken_at path y)
  top_join path x y p step =
      let j : IsNetJoin f.flat.terminals (leaves_of f.flat) 0 (wired f.flat) step.join = from_joins f.flat.terminals (leaves_of f.flat) 0 (wired f.flat) step.join step.is_join in
      let a : step.join.a ≡ Net j.number = ap (λ (k : Join). k.a) j.is ∙ ap Net (zero_net j.number) in
      let b : step.join.b ≡ node_of (leaves_of f.flat) (terminal_at j.place) = ap (λ (k : Join). k.b) j.is in
      elim step.has_both [
        | inl both ↦ join_keeps j.number j.members j.place (taken_at path x) (taken_at path y) j.is_there j.is_member (subst₂ (λ q n. taken_at q n ≡ At [] (Net j.number)) (sym p) (sym a ∙ both.0) refl) (subst₂ (λ q n. taken_at q n ≡ hub_of names design f (terminal_at j.place)) (sym p) (sym b ∙ both.1) refl)
        | inr both ↦ turned (taken_at path y) (taken_at path x) (join_keeps j.number j.members j.place (taken_at path y) (taken_at path x) j.is_there j.is_member
            (subst₂ (λ q n. taken_at q n ≡ At [] (Net j.number)) (sym p) (sym a ∙ both.0) refl) (subst₂ (λ q n. taken_at q n ≡ hub_of names design f (terminal_at j.place)) (sym p) (sym b ∙ both.1) refl))
      ]

  -- a pin of the top
  top_pin : (path : Path) (cell : HCell) (instance port bit : ℕ) → path ≡ [] → cell ≡ the_top names design f order → (pin : IsPinBit flat_design.cells cell instance port bit) → Keeps (At path (PinNode instance port bit)) (At (pin.the_instance.name ∷ path) (PortNode port bit))
  top_pin path cell instance port bit p q pin =
      let t : TopInstance flat_design instance pin.the_instance pin.below = record { top = cell; is_top = subst (IsTop flat_design) (sym q) (top_there names design f order); is_there = pin.is_there; is_of = pin.is_below } in
      let r : FromTop names design f order instance pin.the_instance pin.below = from_top names design f order instance pin.the_instance pin.below t in
      let b : IsPortBit (stub r.at.spot.cell) port bit = subst (λ c. IsPortBit c port bit) r.partner_is pin.is_bit in
      let there = pin_listed names design f r.leaf r.at.spot.cell port bit r.is_leaf r.at.spot.of_cell (record { the_port = b.the_port; is_there = b.is_there; within = b.within }) in
      let h : IsInside names design f (Pin r.leaf port bit) = inside_at names design f there.place (Pin r.leaf port bit) there.is_there in
      pin_keeps r.leaf port bit (At path (PinNode instance port bit)) (At (pin.the_instance.name ∷ path) (PortNode port bit)) h
      (subst₂ (λ u n. At u (PinNode n port bit) ≡ hub_of names design f (Pin r.leaf port bit)) (sym p) (leaf_place names design f instance r.leaf r.is_there) refl)
      (subst₂ (λ (u : Path) (i : HInst). At (i.name ∷ u) (PortNode port bit) ≡ end_of names design f (Pin r.leaf port bit)) (sym p) (sym r.counterpart_is) refl)

  -- the top has no instance of a constant cell
  no_constant : (cell : HCell) (instance : ℕ) (value : Bool) → cell ≡ the_top names design f order → ¬ IsConstantInstance names flat_design.cells cell value instance
  no_constant cell instance value q c =
      let t : TopInstance flat_design instance c.the_instance c.below = record { top = cell; is_top = subst (IsTop flat_design) (sym q) (top_there names design f order); is_there = c.is_there; is_of = c.is_below } in
      let r : FromTop names design f order instance c.the_instance c.below = from_top names design f order instance c.the_instance c.below t in
      r.at.spot.no_constant (stub_constant names r.at.spot.cell r.at.spot.is_leaf (subst (IsAnyConstantCell names) r.partner_is (value, c.is_constant)))

  link_keeps : (z w : FlatNode) → FlatLink names flat_design z w → Keeps z w
  link_keeps z w (by_join {path = path} {cell = cell} {x = x} {y = y} at step) = elim (at_is names design f order path cell at) [
    | inl top ↦ top_join path x y top.0 (subst (λ c. HasLocalStep c x y) top.1 step)
    | inr bare ↦ absurd (nothing_in step.join (subst (λ js. Contains js step.join) bare.1 step.is_join))
  ]
  link_keeps z w (by_pin {path = path} {cell = cell} {instance = instance} {port = port} {bit = bit} at pin) = elim (at_is names design f order path cell at) [
    | inl top ↦ top_pin path cell instance port bit top.0 top.1 pin
    | inr bare ↦ absurd (no_element cell.instances instance pin.the_instance bare.0 pin.is_there)
  ]
  link_keeps z w (by_constant {path = path} {cell = cell} {instance = instance} {value = value} at c) = elim (at_is names design f order path cell at) [
    | inl top ↦ absurd (no_constant cell instance value top.1 c)
    | inr bare ↦ absurd (no_element cell.instances instance c.the_instance bare.0 c.is_there)
  ]

  step_keeps : (z w : FlatNode) → FlatStep names flat_design z w → (group : ℕ) → InGroup z group → InGroup w group
  step_keeps z w step group h = elim step [ inl l ↦ (link_keeps z w l group).0 h | inr l ↦ (link_keeps w z l group).1 h ]

  walk_keeps : (z : FlatNode) (places : List FlatNode) (w : FlatNode) → Leads (FlatStep names flat_design) z places w → (group : ℕ) → InGroup z group → InGroup w group
  walk_keeps z [] w lead group h = subst (λ v. InGroup v group) lead h
  walk_keeps z (next ∷ rest) w lead group h = walk_keeps next rest w lead.1 group (step_keeps z next lead.0 group h)

  connects_group : (i j : ℕ) (s t : Terminal) → slice_get f.flat.terminals i ≡ Some s → slice_get f.flat.terminals j ≡ Some t → IsConnected names flat_design (end_of names design f s) (end_of names design f t) →
      group_at f.flat.groups i ≡ group_at f.flat.groups j
  connects_group i j s t at_i at_j link =
      let h : InGroup (end_of names design f t) (group_at f.flat.groups i) = walk_keeps (end_of names design f s) link.places (end_of names design f t) link.lead (group_at f.flat.groups i) (as_end i s at_i refl refl) in
      let r : IsOfGroup t (group_at f.flat.groups i) = at_end t (group_at f.flat.groups i) (end_of names design f t) (inside_at names design f j t at_j) refl h in
      sym r.is ∙ one_group r.place j t r.is_there at_j

  -- ---- both together
  pub same_connection : (x y ox oy : FlatNode) → Partner names design x ox → Partner names design y oy → IsConnected names design x y ↔ IsConnected names flat_design ox oy
  same_connection x y ox oy px py =
      let a : Meets names design f x ox = meets names design f x ox px in
      let b : Meets names design f y oy = meets names design f y oy py in
      let g = f.are.are_groups a.is_listed.place b.is_listed.place a.terminal b.terminal x y a.is_listed.is_there b.is_listed.is_there a.is_node b.is_node in (
        λ c. subst₂ (IsConnected names flat_design) (sym a.is_end) (sym b.is_end) (group_connects a.is_listed.place b.is_listed.place a.terminal b.terminal a.is_listed.is_there b.is_listed.is_there (g.1 c)),
        λ c. g.0 (connects_group a.is_listed.place b.is_listed.place a.terminal b.terminal a.is_listed.is_there b.is_listed.is_there (subst₂ (IsConnected names flat_design) a.is_end b.is_end c)),
      )
