use Rattle.std.proofs.Common.{◌≡◌, ◌⊎◌, inl, inr, refl, sym, ◌∙◌, ap, subst, subst₂, Bool, true, false}
use Rattle.net_hier.specs.Cells.{HasLocalStep, IsLocallyConnected}
use Rattle.net_hier.specs.Constants.{ConstantNames}
use Rattle.net_hier.specs.Design.{Design}
use Rattle.net_hier.specs.Flat.{FlatNode, Constant, At, FlatLink, by_join, FlatStep, IsConnected, taken_at}
use Rattle.net_hier.specs.Paths.{Path, CellAt}
use Rattle.net_hier.specs.Valid.{HasPaths}
use Rattle.net_hier.proofs.PathLaws.{one_cell}
use Rattle.net_graph.proofs.WalkLaws.{Crosses, partners_linked, linked_along, linked_by, linked_map, linked_back}
use Rattle.net_hier.specs.declared.cells.HCell.{HCell}
use Rattle.net_hier.specs.declared.nodes.Node.{Node}
use Rattle.net_hier.specs.declared.nodes.Node.TheVariants.{Port, Pin, Net, Zero, One}

-- the two are nodes of the cell at one path, and locally connected there
pub record IsNear (design : Design) (x y : FlatNode) : Type 0 where
  pub path : Path
  pub cell : HCell
  pub at : CellAt design path cell
  pub a : Node
  pub b : Node
  pub x_is : x ≡ taken_at path a
  pub y_is : y ≡ taken_at path b
  pub connected : IsLocallyConnected cell a b

pub taken_injective : (p q : Path) (y x : Node) → At q x ≡ taken_at p y → (p ≡ q) × (y ≡ x)
taken_injective p q (Port a b) x e = (cc, cc)
taken_injective p q (Pin i a b) x e = (cc, cc)
taken_injective p q (Net n) x e = (cc, cc)
taken_injective p q Zero x e = cc
taken_injective p q One x e = cc

module _ (names : ConstantNames) (design : Design) where
  pub flat_turn : (x y : FlatNode) → FlatStep names design x y → FlatStep names design y x
  flat_turn x y step = elim step [ inl l ↦ inr l | inr r ↦ inl r ]

  pub connected_back : {x y : FlatNode} → IsConnected names design x y → IsConnected names design y x
  connected_back link = linked_back (FlatStep names design) flat_turn link

  -- what is locally connected is connected
  pub connected_at : {path : Path} {cell : HCell} {x y : Node} → CellAt design path cell → IsLocallyConnected cell x y → IsConnected names design (taken_at path x) (taken_at path y)
  connected_at {path = path} {cell = cell} at link =
      linked_map (HasLocalStep cell) (FlatStep names design) (taken_at path) (λ a b s. linked_by (inl (by_join at s))) link

module _ (design : Design) (valid : HasPaths design) where
  near_more : (from : FlatNode) (path : Path) (cell : HCell) (x y : Node) → IsNear design from (At path x) → CellAt design path cell → HasLocalStep cell x y → IsNear design from (taken_at path y)
  near_more from path cell x y near at step =
      let e : (near.path ≡ path) × (near.b ≡ x) = taken_injective near.path path near.b x near.y_is in
      let same : near.cell ≡ cell = one_cell design valid path near.cell cell (subst (λ p. CellAt design p near.cell) e.0 near.at) at in
      let step_there : HasLocalStep near.cell near.b y = subst (λ v. HasLocalStep near.cell v y) (sym e.1) (subst (λ c. HasLocalStep c x y) (sym same) step) in
      record {
        path = near.path;
        cell = near.cell;
        at = near.at;
        a = near.a;
        b = y;
        x_is = near.x_is;
        y_is = ap (λ p. taken_at p y) (sym e.0);
        connected = linked_along near.connected (linked_by step_there);
      }

  -- a join leads on near the same node, unless it begins at a constant
  pub near_join : (from : FlatNode) (path : Path) (cell : HCell) (x y : Node) → IsNear design from (taken_at path x) → CellAt design path cell → HasLocalStep cell x y →
      IsNear design from (taken_at path y) ⊎ ((v : Bool) × (taken_at path x ≡ Constant v))
  near_join from path cell (Port a b) y near at step = inl (near_more from path cell (Port a b) y near at step)
  near_join from path cell (Pin i a b) y near at step = inl (near_more from path cell (Pin i a b) y near at step)
  near_join from path cell (Net n) y near at step = inl (near_more from path cell (Net n) y near at step)
  near_join from path cell Zero y near at step = inr (false, refl)
  near_join from path cell One y near at step = inr (true, refl)

  -- a join's two nodes are near one another
  pub near_by_join : (path : Path) (cell : HCell) (x y : Node) → CellAt design path cell → HasLocalStep cell x y → IsNear design (taken_at path x) (taken_at path y)
  near_by_join path cell x y at step = record { path = path; cell = cell; at = at; a = x; b = y; x_is = refl; y_is = refl; connected = linked_by step }

-- the two are the nodes of a join
pub record IsJoined (design : Design) (z w : FlatNode) : Type 0 where
  pub path : Path
  pub cell : HCell
  pub at : CellAt design path cell
  pub x : Node
  pub y : Node
  pub step : HasLocalStep cell x y
  pub z_is : z ≡ taken_at path x
  pub w_is : w ≡ taken_at path y

-- both have partners, which are linked
pub record Bridges (design : Design) (Linked Partner : FlatNode → FlatNode → Type 0) (z w : FlatNode) : Type 0 where
  pub z_partner : FlatNode
  pub w_partner : FlatNode
  pub of_z : Partner z z_partner
  pub of_w : Partner w w_partner
  pub near_z : IsNear design z z
  pub near_w : IsNear design w w
  pub linked : Linked z_partner w_partner
  pub linked_again : Linked w_partner z_partner

pub local_turn : {cell : HCell} {x y : Node} → HasLocalStep cell x y → HasLocalStep cell y x
local_turn step = record { join = step.join; is_join = step.is_join; has_both = elim step.has_both [ inl a ↦ inr a | inr b ↦ inl b ] }

module _ (names : ConstantNames) (design : Design) (valid : HasPaths design) (Linked Partner : FlatNode → FlatNode → Type 0)
    (itself : (x : FlatNode) → Linked x x) (along : (x y z : FlatNode) → Linked x y → Linked y z → Linked x z) (constants : (v : Bool) → Partner (Constant v) (Constant v))
    (near : (b z b' z' : FlatNode) → Partner b b' → IsNear design b z → Partner z z' → Linked b' z')
    (bridge : (z w : FlatNode) → FlatLink names design z w → IsJoined design z w ⊎ Bridges design Linked Partner z w) where
  joined_step : (b z w : FlatNode) → IsNear design b z → IsJoined design z w → IsNear design b w ⊎ Crosses Linked Partner (IsNear design) z w
  joined_step b z w n j = elim (near_join design valid b j.path j.cell j.x j.y (subst (IsNear design b) j.z_is n) j.at j.step) [
    | inl near_w ↦ inl (subst (IsNear design b) (sym j.w_is) near_w)
    | inr found ↦
        let e : Constant found.0 ≡ z = sym found.1 ∙ sym j.z_is in
        inr (record {
          z_partner = Constant found.0;
          of_z = subst (λ v. Partner v (Constant found.0)) e (constants found.0);
          e = z;
          e_partner = Constant found.0;
          of_e = subst (λ v. Partner v (Constant found.0)) e (constants found.0);
          near_w = subst₂ (IsNear design) (sym j.z_is) (sym j.w_is) (near_by_join design valid j.path j.cell j.x j.y j.at j.step);
          linked = itself (Constant found.0);
        })
  ]

  link_step : (b z w : FlatNode) → IsNear design b z → FlatLink names design z w → IsNear design b w ⊎ Crosses Linked Partner (IsNear design) z w
  link_step b z w n l = elim (bridge z w l) [
    | inl j ↦ joined_step b z w n j
    | inr br ↦ inr (record { z_partner = br.z_partner; of_z = br.of_z; e = w; e_partner = br.w_partner; of_e = br.of_w; near_w = br.near_w; linked = br.linked })
  ]

  link_step_back : (b z w : FlatNode) → IsNear design b z → FlatLink names design w z → IsNear design b w ⊎ Crosses Linked Partner (IsNear design) z w
  link_step_back b z w n l = elim (bridge w z l) [
    | inl j ↦ joined_step b z w n (record { path = j.path; cell = j.cell; at = j.at; x = j.y; y = j.x; step = local_turn j.step; z_is = j.w_is; w_is = j.z_is })
    | inr br ↦ inr (record { z_partner = br.w_partner; of_z = br.of_w; e = w; e_partner = br.z_partner; of_e = br.of_z; near_w = br.near_z; linked = br.linked_again })
  ]

  pub connection_goes_over : (s t s' t' : FlatNode) → IsConnected names design s t → IsNear design s s → Partner s s' → Partner t t' → Linked s' t'
  connection_goes_over s t s' t' link n ps pt =
      partners_linked (FlatStep names design) Linked Partner (IsNear design) along near
      (λ b z w m step. elim step [ inl l ↦ link_step b z w m l | inr l ↦ link_step_back b z w m l ])
      s link.places t link.lead s s' t' ps n pt
