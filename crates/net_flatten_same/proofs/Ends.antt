-- the terminals of a design, and where they stand in the flattened one
use Rattle.std.proofs.Common.{◌≡◌, ℕ, ◌+◌, ◌<◌, inl, inr, List, [], ◌∷◌, ◌++◌, refl, sym, ◌∙◌, ap, subst, subst₂, slice_get, Some, true, false, arith}
use Rattle.std.specs.Prelude.{Contains}
use Rattle.std.specs.List.{flat_map}
use Rattle.std.proofs.lemmas.List.Elements.{Contains-append_cases, Contains-append_left, Contains-append_right}
use Rattle.net_graph.proofs.OrderLaws.{StandsIn, contained}
use Rattle.net_hier.specs.Cells.{IsPortBit, width_of}
use Rattle.net_hier.specs.Constants.{ConstantNames}
use Rattle.net_hier.specs.Design.{Design}
use Rattle.net_hier.specs.Flat.{FlatNode, Constant, At, taken_at}
use Rattle.net_hier.specs.declared.cells.HCell.{HCell}
use Rattle.net_hier.specs.declared.cells.HPort.{HPort}
use Rattle.net_hier.specs.declared.nodes.Node.TheVariants.{Port as PortNode, Net}
use Rattle.net_hier.proofs.PathLaws.{same_element}
use Rattle.flat_numbers.specs.Numbers.{CellOf}
use Rattle.flat_numbers.specs.Spots.{top_spot}
use Rattle.flat_numbers.proofs.Linking.{contains_there}
use Rattle.flat_classes.specs.Terminals.{IsNodeOf, of_port, of_pin, of_zero, of_one, bits_of_ports, ports_at, terminals_of}
use Rattle.flat_classes.specs.declared.flat.Terminal.{Terminal}
use Rattle.flat_classes.specs.declared.flat.Terminal.TheVariants.{Port, Pin, Zero, One}
use Rattle.flat_classes.proofs.KindLaws.{first_or_rest, from_flat, in_first, in_rest, nothing_in}
use Rattle.flat_classes.proofs.LeafLists.{from_bits}
use Rattle.flat_classes.proofs.TerminalLaws.{ports_read}
use Rattle.net_flatten_rules.specs.FlatDesign.{node_of, place_in}
use Rattle.net_flatten_rules.specs.Joined.{joined, name_at}
use Rattle.net_flatten_rules.specs.SameFlat.{IsTop, Partner, constant, top_bit, leaf_bit, flat_path}
use Rattle.net_flatten_same.proofs.Leaves.{Flattening, LeafSpot, SpotFor, facts, leaf_spot, leaves_of, one_leaf, place_inside, spot_for}
use Rattle.net_flatten_same.proofs.Lists.{to_bits, to_flat}

module _ (names : ConstantNames) (design : Design) (f : Flattening names design) where
  -- the pins stand on leaves below the top
  abbrev pub IsInside : Terminal → Type 0
  IsInside (Port port bit) = Unit {0}
  IsInside (Pin leaf port bit) = (c : Contains (leaves_of f.flat) leaf) × IsPortBit (leaf_spot names design f leaf c).spot.cell port bit
  IsInside Zero = Unit {0}
  IsInside One = Unit {0}

  -- where the terminal stands in the flattened design: a leaf's bits at its joined name
  abbrev pub end_of : Terminal → FlatNode
  end_of (Port port bit) = At [] (PortNode port bit)
  end_of (Pin leaf port bit) = At (name_at f.paths leaf ∷ []) (PortNode port bit)
  end_of Zero = Constant false
  end_of One = Constant true

  -- the node of the flattened top that is joined to the terminal's net
  abbrev pub hub_of : Terminal → FlatNode
  hub_of t = taken_at [] (node_of (leaves_of f.flat) t)

  zero_first : (i : ℕ) → i ≡ 0 + i
  zero_first i = omega arith

  pin_bit : (leaf : ℕ) (c : Contains (leaves_of f.flat) leaf) (i bit : ℕ) (port : HPort) → slice_get (ports_at design.cells f.flat.spots leaf) i ≡ Some port → bit < width_of port.range → IsPortBit (leaf_spot names design f leaf c).spot.cell (0 + i) bit
  pin_bit leaf c i bit port e lt =
      let h : LeafSpot names design f leaf = leaf_spot names design f leaf c in
      record { the_port = port; is_there = subst₂ (λ ps n. slice_get ps n ≡ Some port) (ports_read design.cells f.flat.spots leaf h.spot.cell h.spot.of_cell) (zero_first i) e; within = lt }

  abbrev top_bits : List Terminal
  top_bits = bits_of_ports (λ port bit. Port port bit) 0 (ports_at design.cells f.flat.spots 0)

  abbrev leaf_bits : List Terminal
  leaf_bits = flat_map (λ leaf. bits_of_ports (λ port bit. Pin leaf port bit) 0 (ports_at design.cells f.flat.spots leaf)) (leaves_of f.flat)

  is_inside : (t : Terminal) → Contains (terminals_of design.cells f.flat.spots f.flat.leaves) t → IsInside t
  is_inside t c = elim (Contains-append_cases (top_bits ++ leaf_bits) (Zero ∷ One ∷ []) t c) as (λ _. IsInside t) [
    | inl ahead ↦ elim (Contains-append_cases top_bits leaf_bits t ahead) as (λ _. IsInside t) [
      | inl top ↦
          let (i, port, bit, there, lt, e) = from_bits (λ port bit. Port port bit) 0 (ports_at design.cells f.flat.spots 0) t top in
          subst IsInside e tt
      | inr pins ↦
          let (leaf, member, there) = from_flat (λ leaf. bits_of_ports (λ port bit. Pin leaf port bit) 0 (ports_at design.cells f.flat.spots leaf)) (leaves_of f.flat) t pins in
          let (i, port, bit, is_port, lt, e) = from_bits (λ port bit. Pin leaf port bit) 0 (ports_at design.cells f.flat.spots leaf) t there in
          subst IsInside e (member, pin_bit leaf member i bit port is_port lt)
    ]
    | inr constants ↦ elim (first_or_rest Zero (One ∷ []) t constants) as (λ _. IsInside t) [
      | inl e ↦ subst IsInside e tt
      | inr rest ↦ elim (first_or_rest One [] t rest) as (λ _. IsInside t) [
        | inl e ↦ subst IsInside e tt
        | inr none ↦ absurd (nothing_in t none)
      ]
    ]
  ]

  pub inside_at : (place : ℕ) (t : Terminal) → slice_get f.flat.terminals place ≡ Some t → IsInside t
  inside_at place t e = is_inside t (contains_there (terminals_of design.cells f.flat.spots f.flat.leaves) place t (subst (λ ts. slice_get ts place ≡ Some t) f.are.are_terminals e))

  -- a terminal is listed
  pub record IsListed (t : Terminal) : Type 0 where
    pub place : ℕ
    pub is_there : slice_get f.flat.terminals place ≡ Some t

  listed : (t : Terminal) → Contains (terminals_of design.cells f.flat.spots f.flat.leaves) t → IsListed t
  listed t c =
      let s : StandsIn (terminals_of design.cells f.flat.spots f.flat.leaves) t = contained (terminals_of design.cells f.flat.spots f.flat.leaves) t c in
      record { place = s.place; is_there = subst (λ ts. slice_get ts s.place ≡ Some t) (sym f.are.are_terminals) s.is_there }

  constant_listed : (t : Terminal) → Contains (Zero ∷ One ∷ []) t → IsListed t
  constant_listed t c = listed t (Contains-append_right (top_bits ++ leaf_bits) (Zero ∷ One ∷ []) t c)

  port_listed : (top : HCell) (port bit : ℕ) → IsTop design top → IsPortBit top port bit → IsListed (Port port bit)
  port_listed top port bit is b =
      let of : CellOf design.cells f.flat.spots 0 top = record { spot = top_spot design.top; is_spot = (facts names design f).first; is_cell = is } in
      let there : slice_get (ports_at design.cells f.flat.spots 0) port ≡ Some b.the_port = subst (λ ps. slice_get ps port ≡ Some b.the_port) (sym (ports_read design.cells f.flat.spots 0 top of)) b.is_there in
      let c : Contains top_bits (Port (0 + port) bit) = to_bits (λ p n. Port p n) 0 (ports_at design.cells f.flat.spots 0) port bit b.the_port there b.within in
      listed (Port port bit) (Contains-append_left (top_bits ++ leaf_bits) (Zero ∷ One ∷ []) (Port port bit)
      (Contains-append_left top_bits leaf_bits (Port port bit) (subst (λ n. Contains top_bits (Port n bit)) (sym (zero_first port)) c)))

  pub pin_listed : (leaf : ℕ) (cell : HCell) (port bit : ℕ) → Contains (leaves_of f.flat) leaf → CellOf design.cells f.flat.spots leaf cell → IsPortBit cell port bit → IsListed (Pin leaf port bit)
  pin_listed leaf cell port bit member of b =
      let there : slice_get (ports_at design.cells f.flat.spots leaf) port ≡ Some b.the_port = subst (λ ps. slice_get ps port ≡ Some b.the_port) (sym (ports_read design.cells f.flat.spots leaf cell of)) b.is_there in
      let c : Contains (bits_of_ports (λ p n. Pin leaf p n) 0 (ports_at design.cells f.flat.spots leaf)) (Pin leaf (0 + port) bit) =
      to_bits (λ p n. Pin leaf p n) 0 (ports_at design.cells f.flat.spots leaf) port bit b.the_port there b.within in
      let d : Contains leaf_bits (Pin leaf port bit) = to_flat (λ l. bits_of_ports (λ p n. Pin l p n) 0 (ports_at design.cells f.flat.spots l)) (leaves_of f.flat) leaf (Pin leaf port bit) member
      (subst (λ n. Contains (bits_of_ports (λ p m. Pin leaf p m) 0 (ports_at design.cells f.flat.spots leaf)) (Pin leaf n bit)) (sym (zero_first port)) c) in
      listed (Pin leaf port bit) (Contains-append_left (top_bits ++ leaf_bits) (Zero ∷ One ∷ []) (Pin leaf port bit) (Contains-append_right top_bits leaf_bits (Pin leaf port bit) d))

  -- the terminal whose node in the design and whose end in the flattened design are these
  pub record Meets (x y : FlatNode) : Type 0 where
    pub terminal : Terminal
    pub is_listed : IsListed terminal
    pub is_node : IsNodeOf design.cells f.flat.spots terminal x
    pub is_end : y ≡ end_of terminal

  path_joined : (path outer : List (List ℕ)) (name : List ℕ) → path ≡ name ∷ outer → flat_path path ≡ joined path ∷ []
  path_joined path outer name e = subst (λ p. flat_path p ≡ joined p ∷ []) (sym e) refl

  pub meets : (x y : FlatNode) → Partner names design x y → Meets x y
  meets x y (constant false) = record { terminal = Zero; is_listed = constant_listed Zero (in_first Zero (One ∷ [])); is_node = of_zero; is_end = refl }
  meets x y (constant true) = record { terminal = One; is_listed = constant_listed One (in_rest Zero (One ∷ []) One (in_first One [])); is_node = of_one; is_end = refl }
  meets x y (top_bit {top = top} {port = port} {bit = bit} is b) = record { terminal = Port port bit; is_listed = port_listed top port bit is b; is_node = of_port; is_end = refl }
  meets x y (leaf_bit {path = path} {instance = instance} {cell = cell} {port = port} {bit = bit} h b) =
      let s : SpotFor names design f path instance cell = spot_for names design f path instance cell h in
      let e : flat_path path ≡ joined path ∷ [] = path_joined path h.outer h.name h.path_is in
      record {
        terminal = Pin s.leaf port bit;
        is_listed = pin_listed s.leaf cell port bit s.is_leaf s.of_cell b;
        is_node = of_pin s.at;
        is_end = ap (λ p. At p (PortNode port bit)) (e ∙ ap (λ p. joined p ∷ []) (sym s.path_is_listed));
      }

  -- ---- the ends and the hubs of different terminals differ
  pub same_end : (s t : Terminal) → IsInside s → IsInside t → end_of s ≡ end_of t → s ≡ t
  same_end (Port a b) (Port c d) hs ht e = cc
  same_end (Port a b) (Pin l c d) hs ht e = absurd (cc)
  same_end (Port a b) Zero hs ht e = absurd (cc)
  same_end (Port a b) One hs ht e = absurd (cc)
  same_end (Pin k a b) (Port c d) hs ht e = absurd (cc)
  same_end (Pin k a b) (Pin l c d) hs ht e =
      let n : name_at f.paths k ≡ name_at f.paths l = cc in
      let p : a ≡ c = cc in
      let q : b ≡ d = cc in
      let o : k ≡ l = one_leaf names design f k l hs.0 ht.0 n in
      subst₂ (λ u v. Pin k a b ≡ Pin l u v) p q (ap (λ m. Pin m a b) o)
  same_end (Pin k a b) Zero hs ht e = absurd (cc)
  same_end (Pin k a b) One hs ht e = absurd (cc)
  same_end Zero (Port c d) hs ht e = absurd (cc)
  same_end Zero (Pin l c d) hs ht e = absurd (cc)
  same_end Zero Zero hs ht e = refl
  same_end Zero One hs ht e = absurd (cc)
  same_end One (Port c d) hs ht e = absurd (cc)
  same_end One (Pin l c d) hs ht e = absurd (cc)
  same_end One Zero hs ht e = absurd (cc)
  same_end One One hs ht e = refl

  one_inside : (k l : ℕ) → Contains (leaves_of f.flat) k → Contains (leaves_of f.flat) l → place_in (leaves_of f.flat) k ≡ place_in (leaves_of f.flat) l → k ≡ l
  one_inside k l ck cl e = same_element (leaves_of f.flat) (place_in (leaves_of f.flat) l) k l
      (subst (λ n. slice_get (leaves_of f.flat) n ≡ Some k) e (place_inside names design f k ck)) (place_inside names design f l cl)

  pub same_hub : (s t : Terminal) → IsInside s → IsInside t → hub_of s ≡ hub_of t → s ≡ t
  same_hub (Port a b) (Port c d) hs ht e = cc
  same_hub (Port a b) (Pin l c d) hs ht e = absurd (cc)
  same_hub (Port a b) Zero hs ht e = absurd (cc)
  same_hub (Port a b) One hs ht e = absurd (cc)
  same_hub (Pin k a b) (Port c d) hs ht e = absurd (cc)
  same_hub (Pin k a b) (Pin l c d) hs ht e =
      let n : place_in (leaves_of f.flat) k ≡ place_in (leaves_of f.flat) l = cc in
      let p : a ≡ c = cc in
      let q : b ≡ d = cc in
      let o : k ≡ l = one_inside k l hs.0 ht.0 n in
      subst₂ (λ u v. Pin k a b ≡ Pin l u v) p q (ap (λ m. Pin m a b) o)
  same_hub (Pin k a b) Zero hs ht e = absurd (cc)
  same_hub (Pin k a b) One hs ht e = absurd (cc)
  same_hub Zero (Port c d) hs ht e = absurd (cc)
  same_hub Zero (Pin l c d) hs ht e = absurd (cc)
  same_hub Zero Zero hs ht e = refl
  same_hub Zero One hs ht e = absurd (cc)
  same_hub One (Port c d) hs ht e = absurd (cc)
  same_hub One (Pin l c d) hs ht e = absurd (cc)
  same_hub One Zero hs ht e = absurd (cc)
  same_hub One One hs ht e = refl

  -- the end of one terminal is the hub of itself alone
  pub end_is_hub : (s t : Terminal) → end_of s ≡ hub_of t → s ≡ t
  end_is_hub (Port a b) (Port c d) e = cc
  end_is_hub (Port a b) (Pin l c d) e = absurd (cc)
  end_is_hub (Port a b) Zero e = absurd (cc)
  end_is_hub (Port a b) One e = absurd (cc)
  end_is_hub (Pin k a b) (Port c d) e = absurd (cc)
  end_is_hub (Pin k a b) (Pin l c d) e = absurd (cc)
  end_is_hub (Pin k a b) Zero e = absurd (cc)
  end_is_hub (Pin k a b) One e = absurd (cc)
  end_is_hub Zero (Port c d) e = absurd (cc)
  end_is_hub Zero (Pin l c d) e = absurd (cc)
  end_is_hub Zero Zero e = refl
  end_is_hub Zero One e = absurd (cc)
  end_is_hub One (Port c d) e = absurd (cc)
  end_is_hub One (Pin l c d) e = absurd (cc)
  end_is_hub One Zero e = absurd (cc)
  end_is_hub One One e = refl

  pub net_is_no_end : (net : ℕ) (t : Terminal) → ¬ (At [] (Net net) ≡ end_of t)
  net_is_no_end net (Port a b) e = cc
  net_is_no_end net (Pin k a b) e = cc
  net_is_no_end net Zero e = cc
  net_is_no_end net One e = cc

  pub net_is_no_hub : (net : ℕ) (t : Terminal) → ¬ (At [] (Net net) ≡ hub_of t)
  net_is_no_hub net (Port a b) e = cc
  net_is_no_hub net (Pin k a b) e = cc
  net_is_no_hub net Zero e = cc
  net_is_no_hub net One e = cc
