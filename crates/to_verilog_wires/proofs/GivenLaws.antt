-- A node more is given its hub.
use Rattle.std.proofs.Common.{◌≡◌, ℕ, zero, suc, ◌<◌, ◌⊎◌, inl, inr, Bool, true, false, cond, if◌then◌else◌, List, [], ◌∷◌, ◌++◌, Option, Some, None, find, length, slice_get, refl, sym, ◌∙◌, ap, subst, arith, Contains}
use Rattle.std.specs.Option.{option_and_then}
use Rattle.std.specs.Map.{lookup}
use Rattle.std.proofs.lemmas.Bool.{false≢true}
use Rattle.std.proofs.lemmas.List.Elements.{Contains-append_left, Contains-push, Contains-push_cases}
use Rattle.std.proofs.lemmas.Option.{slice_get_within}
use Rattle.net_hier.specs.NodeTies.{node_ties}
use Rattle.net_hier.specs.contracts.nodes.NodePartialEq.TheImpl.{eq-value}
use Rattle.net_hier.specs.declared.cells.HCell.{HCell}
use Rattle.net_hier.specs.declared.nodes.Node.{Node}
use Rattle.net_hier.specs.declared.nodes.Node.TheVariants.{Port, Pin, Net, Zero, One}
use Rattle.net_bits.specs.Neighbours.{same_node}
use Rattle.to_verilog_classes.proofs.NodeLaws.{same_node-Decides}
use Rattle.net_live.specs.Live.{have_property}
use Rattle.to_verilog_wires.specs.Given.{AreGiven, IsWireOf}
use Rattle.to_verilog_classes.specs.Groups.{GroupTable, around}
use Rattle.to_verilog_wires.specs.Hubs.{first_port, hub_node, is_input, is_port_bit, or_else, port_bit, port_hub}
use Rattle.to_verilog_wires.specs.Naming.{wire_attrs}
use Rattle.to_verilog_wires.specs.Wiring.{hub_in}
use Rattle.to_verilog_wires.specs.declared.hubs.Hub.{Hub}
use Rattle.to_verilog_wires.specs.declared.hubs.Hub.TheVariants as hubs
use Rattle.vlog_written.specs.Written.{PlainWire}

-- a node found among nodes is one of them, and passes
found_there : (test : Node → Bool) (nodes : List Node) (hub : Hub) → option_and_then port_bit (find test nodes) ≡ Some hub → (node : Node) × Contains nodes node × (port_bit node ≡ Some hub)
found_there test [] hub e = absurd (let f : None ≡ Some hub = e in cc)
found_there test (node ∷ nodes) hub e = by (test node) e (found_there test nodes hub)
  where
    later : (x : Node) → Contains nodes x → Contains (node ∷ nodes) x
    later x (k, h, s) = (suc k, omega (arith, h), s)

    by : (b : Bool) → option_and_then port_bit (cond b (Some node) (find test nodes)) ≡ Some hub → (option_and_then port_bit (find test nodes) ≡ Some hub → (x : Node) × Contains nodes x × (port_bit x ≡ Some hub)) → (x : Node) × Contains (node ∷ nodes) x × (port_bit x ≡ Some hub)
    by true e rest = (node, (0, omega arith, refl), e)
    by false e rest = let r = rest e in (r.0, later r.0 r.1, r.2)

-- the port bit of a hub is that node
port_bit_is : (node : Node) (hub : Hub) → port_bit node ≡ Some hub → hub_node hub ≡ node
port_bit_is (Port port bit) hub e = let f : Some (hubs.Port port bit) ≡ Some hub = e in let s : hub ≡ hubs.Port port bit = cc in ap hub_node s
port_bit_is (Pin instance port bit) hub e = absurd (let f : None ≡ Some hub = e in cc)
port_bit_is (Net net) hub e = absurd (let f : None ≡ Some hub = e in cc)
port_bit_is Zero hub e = absurd (let f : None ≡ Some hub = e in cc)
port_bit_is One hub e = absurd (let f : None ≡ Some hub = e in cc)

no_wire_bit : (node : Node) (number : ℕ) → port_bit node ≡ Some (hubs.Wire number) → ⊥
no_wire_bit (Port port bit) number e = let f : Some (hubs.Port port bit) ≡ Some (hubs.Wire number) = e in cc
no_wire_bit (Pin instance port bit) number e = let f : None ≡ Some (hubs.Wire number) = e in cc
no_wire_bit (Net net) number e = let f : None ≡ Some (hubs.Wire number) = e in cc
no_wire_bit Zero number e = let f : None ≡ Some (hubs.Wire number) = e in cc
no_wire_bit One number e = let f : None ≡ Some (hubs.Wire number) = e in cc

-- the port bit that stands for a class is one of its nodes
pub hub_there : (cell : HCell) (nodes : List Node) (hub : Hub) → port_hub cell nodes ≡ Some hub → (node : Node) × Contains nodes node × (port_bit node ≡ Some hub)
hub_there cell nodes hub = by (have_property cell.nets nodes)
  where
    either : (one other : Option Hub) → option_and_then port_bit (find (is_input cell) nodes) ≡ one → option_and_then port_bit (find is_port_bit nodes) ≡ other → or_else one other ≡ Some hub → (node : Node) × Contains nodes node × (port_bit node ≡ Some hub)
    either None other f g e = found_there is_port_bit nodes hub (g ∙ e)
    either (Some h) other f g e = found_there (is_input cell) nodes hub (f ∙ e)

    by : (b : Bool) → (if b then None else first_port cell nodes) ≡ Some hub → (node : Node) × Contains nodes node × (port_bit node ≡ Some hub)
    by true e = absurd (let f : None ≡ Some hub = e in cc)
    by false e = either (option_and_then port_bit (find (is_input cell) nodes)) (option_and_then port_bit (find is_port_bit nodes)) refl refl e

pub hub_node_there : (cell : HCell) (nodes : List Node) (port bit : ℕ) → port_hub cell nodes ≡ Some (hubs.Port port bit) → Contains nodes (Port port bit)
hub_node_there cell nodes port bit e =
    let r = hub_there cell nodes (hubs.Port port bit) e in
    subst (Contains nodes) (sym (port_bit_is r.0 (hubs.Port port bit) r.2)) r.1

pub no_wire_hub : (cell : HCell) (nodes : List Node) (number : ℕ) → port_hub cell nodes ≡ Some (hubs.Wire number) → ⊥
no_wire_hub cell nodes number e = let r = hub_there cell nodes (hubs.Wire number) e in no_wire_bit r.0 number r.2

-- the two tests of whether nodes are the same
pub looked_up : (hubs_of : List (Node × Hub)) (node : Node) → lookup (eq-value.it node) hubs_of ≡ hub_in hubs_of node
looked_up hubs_of node = λ i. lookup (λ x. node_ties node x i) hubs_of

-- a hub that is put into the table
pub given_at : (old new : List (Node × Hub)) (root : Node) (hub : Hub) → ((node : Node) → lookup (eq-value.it node) new ≡ cond (eq-value.it root node) (Some hub) (lookup (eq-value.it node) old)) →
    (node : Node) → hub_in new node ≡ cond (same_node root node) (Some hub) (hub_in old node)
given_at old new root hub h node =
    sym (looked_up new node) ∙ (h node
    ∙ (ap (λ b. cond b (Some hub) (lookup (eq-value.it node) old)) (node_ties root node)
    ∙ ap (λ o. cond (same_node root node) (Some hub) o) (looked_up old node)))

-- a wire of the list stays at its place
pub still_there : {X : Type 0} (xs ys : List X) (k : ℕ) (x : X) → slice_get xs k ≡ Some x → slice_get (xs ++ ys) k ≡ Some x
still_there [] ys k x e = absurd (let f : None ≡ Some x = e in cc)
still_there (z ∷ xs) ys zero x e = e
still_there (z ∷ xs) ys (suc k) x e = still_there xs ys k x e

pub last_there : {X : Type 0} (xs : List X) (x : X) → slice_get (xs ++ x ∷ []) (length xs) ≡ Some x
last_there [] x = refl
last_there (z ∷ xs) x = last_there xs x

module _ (cell : HCell) (groups : GroupTable) (done : List Node) (old new : Node → Option Hub) (wires : List PlainWire) (given : AreGiven cell groups done old wires)
    (root : Node) (hub : Hub) (at : (node : Node) → new node ≡ cond (same_node root node) (Some hub) (old node)) where
  -- where a hub comes from
  came : (r : Node) (a : Hub) → new r ≡ Some a → ((root ≡ r) × (hub ≡ a)) ⊎ (old r ≡ Some a)
  came r a e = by (same_node root r) refl (sym (at r) ∙ e)
    where
      by : (b : Bool) → same_node root r ≡ b → cond b (Some hub) (old r) ≡ Some a → ((root ≡ r) × (hub ≡ a)) ⊎ (old r ≡ Some a)
      by true s e = let f : Some hub ≡ Some a = e in inl ((same_node-Decides root r).0 s, cc)
      by false s e = inr e

  only_more : (r : Node) (a : Hub) → new r ≡ Some a → Contains (done ++ root ∷ []) r
  only_more r a e = elim (came r a e) as (λ _. Contains (done ++ root ∷ []) r) [
    | inl here ↦ subst (Contains (done ++ root ∷ [])) here.0 (Contains-push done root)
    | inr before ↦ Contains-append_left done (root ∷ []) r (given.only r a before)
  ]

  all_more : (r : Node) → Contains (done ++ root ∷ []) r → (a : Hub) × (new r ≡ Some a)
  all_more r h = by (same_node root r) refl (Contains-push_cases done root r h)
    where
      by : (b : Bool) → same_node root r ≡ b → Contains done r ⊎ (root ≡ r) → (a : Hub) × (new r ≡ Some a)
      by true s h = (hub, at r ∙ ap (λ b. cond b (Some hub) (old r)) s)
      by false s (inl m) = let o = given.all r m in (o.0, at r ∙ (ap (λ b. cond b (Some hub) (old r)) s ∙ o.1))
      by false s (inr e) = absurd (false≢true (sym s ∙ (same_node-Decides root r).1 e))

  -- where the hub is a port bit
  pub with_port : port_hub cell (around groups root) ≡ Some hub → AreGiven cell groups (done ++ root ∷ []) new wires
  with_port is = record {
    only = only_more;
    all = all_more;
    ports = λ r port bit e. elim (came r (hubs.Port port bit) e) as (λ _. port_hub cell (around groups r) ≡ Some (hubs.Port port bit)) [
      | inl here ↦ subst (λ n. port_hub cell (around groups n) ≡ Some (hubs.Port port bit)) here.0 (is ∙ ap Some here.1)
      | inr before ↦ given.ports r port bit before
    ];
    wires_of = λ r number e. elim (came r (hubs.Wire number) e) as (λ _. IsWireOf cell (around groups r) wires number) [
      | inl here ↦ absurd (no_wire_hub cell (around groups root) number (is ∙ ap Some here.1))
      | inr before ↦ given.wires_of r number before
    ];
    apart = λ r s number e f. elim (came r (hubs.Wire number) e) as (λ _. r ≡ s) [
      | inl here ↦ absurd (no_wire_hub cell (around groups root) number (is ∙ ap Some here.1))
      | inr before ↦ elim (came s (hubs.Wire number) f) as (λ _. r ≡ s) [
        | inl here ↦ absurd (no_wire_hub cell (around groups root) number (is ∙ ap Some here.1))
        | inr too ↦ given.apart r s number before too
      ]
    ];
  }

  -- where it is a new wire
  module _ (no_port : port_hub cell (around groups root) ≡ None) (is : hub ≡ hubs.Wire (length wires)) (wire : PlainWire) (attrs : wire.attrs ≡ wire_attrs cell (around groups root)) where
    number_is : (number : ℕ) → hub ≡ hubs.Wire number → length wires ≡ number
    number_is number e = cc

    old_number : (r : Node) → old r ≡ Some (hubs.Wire (length wires)) → ⊥
    old_number r e = let w = given.wires_of r (length wires) e in let h : length wires < length wires = slice_get_within wires (length wires) w.wire w.is_there in omega (arith, h)

    pub with_wire : AreGiven cell groups (done ++ root ∷ []) new (wires ++ wire ∷ [])
    with_wire = record {
      only = only_more;
      all = all_more;
      ports = λ r port bit e. elim (came r (hubs.Port port bit) e) as (λ _. port_hub cell (around groups r) ≡ Some (hubs.Port port bit)) [
        | inl here ↦ absurd (let f : hubs.Wire (length wires) ≡ hubs.Port port bit = sym is ∙ here.1 in cc)
        | inr before ↦ given.ports r port bit before
      ];
      wires_of = λ r number e. elim (came r (hubs.Wire number) e) as (λ _. IsWireOf cell (around groups r) (wires ++ wire ∷ []) number) [
        | inl here ↦ subst (λ n. IsWireOf cell (around groups n) (wires ++ wire ∷ []) number) here.0 (record {
          no_port = no_port;
          wire = wire;
          is_there = ap (slice_get (wires ++ wire ∷ [])) (sym (number_is number here.1)) ∙ last_there wires wire;
          attrs = attrs;
        })
        | inr before ↦ let w = given.wires_of r number before in record { no_port = w.no_port; wire = w.wire; is_there = still_there wires (wire ∷ []) number w.wire w.is_there; attrs = w.attrs }
      ];
      apart = λ r s number e f. elim (came r (hubs.Wire number) e) as (λ _. r ≡ s) [
        | inl here ↦ elim (came s (hubs.Wire number) f) as (λ _. r ≡ s) [
          | inl there ↦ sym here.0 ∙ there.0
          | inr before ↦ absurd (old_number s (before ∙ ap (λ n. Some (hubs.Wire n)) (sym (number_is number here.1))))
        ]
        | inr before ↦ elim (came s (hubs.Wire number) f) as (λ _. r ≡ s) [
          | inl here ↦ absurd (old_number r (before ∙ ap (λ n. Some (hubs.Wire n)) (sym (number_is number here.1))))
          | inr too ↦ given.apart r s number before too
        ]
      ];
    }
