-- the cells of a flattened design fit one another, where no joined name is repeated
use Rattle.std.proofs.Common.{◌≡◌, ℕ, zero, suc, ◌+◌, ◌<◌, ◌⊎◌, inl, inr, List, [], ◌∷◌, ◌++◌, Bool, true, false, cond, eqb, refl, sym, ◌∙◌, ap, subst, slice_get, get_or, Some, length, map, arith}
use Rattle.std.specs.Prelude.{Contains}
use Rattle.std.specs.List.{flat_map}
use Rattle.std.specs.Option.{option_map_or}
use Rattle.std.proofs.lemmas.Bool.{eqb-true, eqb-false}
use Rattle.std.proofs.lemmas.Bool.Decides.{nat_tests}
use Rattle.std.proofs.lemmas.List.{length-append, length-map}
use Rattle.std.proofs.lemmas.List.Elements.{Contains-append_cases}
use Rattle.std.proofs.lemmas.List.Folds.{Any-from_list_any, list_any_at}
use Rattle.std.proofs.lemmas.List.FromFn.{length-map-range_with_len}
use Rattle.std.proofs.lemmas.Option.{slice_get-get_or, slice_get_within}
use Rattle.flat_classes.proofs.KindLaws.{first_or_rest, from_flat, in_first, in_rest, nothing_in}
use Rattle.flat_classes.proofs.LeafLists.{from_bits, from_filter, to_filter}
use Rattle.flat_classes.proofs.TerminalLaws.{ports_read}
use Rattle.flat_classes.specs.FlatSums.{IsFewFlat}
use Rattle.flat_classes.specs.Terminals.{AreFlatClasses, FlatValue, IsLeafSpot, bits_of_ports, ports_at, terminals_of}
use Rattle.flat_classes.specs.declared.flat.Terminal.{Terminal}
use Rattle.flat_classes.specs.declared.flat.Terminal.TheVariants.{Port, Pin, Zero, One}
use Rattle.flat_numbers.proofs.Counting.{good_order, map_there}
use Rattle.flat_numbers.proofs.Linking.{contains_there}
use Rattle.flat_numbers.proofs.Rows.{last_or_less}
use Rattle.flat_numbers.proofs.SpotLaws.{SpotFacts, in_either, spot_facts}
use Rattle.flat_numbers.specs.Spots.{top_spot}
use Rattle.flat_numbers.specs.declared.spots.Spot.{Spot}
use Rattle.net_flatten.proofs.Sums.{once_filter}
use Rattle.net_flatten_cells.proofs.FlatLaws.{inner_leaf}
use Rattle.net_flatten_cells.proofs.OrderLaws.{StandOnce, order_all, order_once}
use Rattle.net_flatten_refusals.specs.Named.{HaveOwnJoinedNames}
use Rattle.net_flatten_rules.specs.FlatDesign.{cell_at, cell_or_none, stub, flat_cells, flat_top, inner, join_at, joins_from, leaf_cells, leaf_instance, no_cell, node_of, numbered_net, place_in, stands_at, wired}
use Rattle.net_flatten_same.proofs.Lists.{mapped_at}
use Rattle.net_graph.proofs.ListLaws.{element_there}
use Rattle.net_graph.proofs.OrderLaws.{StandsIn, contained, front_or_last, get_front, get_last}
use Rattle.net_graph.proofs.WalkLaws.{linked_by, linked_itself}
use Rattle.net_graph.specs.Graph.{IsAbove, IsReached, ReachesItself}
use Rattle.net_graph.specs.Walks.{Leads}
use Rattle.net_hier.specs.Cells.{IsPinBit, IsPortBit, width_of}
use Rattle.net_hier.specs.Constants.{ConstantNames}
use Rattle.net_hier.specs.Design.{Design, IsCell, below_of, cells_below}
use Rattle.net_hier.specs.Paths.{Path}
use Rattle.net_hier.specs.Valid.{IsGoodCell, IsHier, IsJoinOf, IsNode}
use Rattle.net_hier.specs.declared.cells.HCell.{HCell}
use Rattle.net_hier.specs.declared.cells.HInst.{HInst}
use Rattle.net_hier.specs.declared.cells.HPort.{HPort}
use Rattle.net_hier.specs.declared.nodes.Join.{Join}

-- ---- lists

-- a number that is there stands at its place
pub place_there : (numbers : List ℕ) (number : ℕ) → Contains numbers number → slice_get numbers (place_in numbers number) ≡ Some number
place_there [] number c = absurd (nothing_in number c)
place_there (first ∷ rest) number c = by (eqb first number) refl (λ d. place_there rest number d)
  where
    by : (b : Bool) → eqb first number ≡ b → (Contains rest number → slice_get rest (place_in rest number) ≡ Some number) → slice_get (first ∷ rest) (cond b 0 (suc (place_in rest number))) ≡ Some number
    by true e later = ap Some (eqb-true first number e)
    by false e later = elim (first_or_rest first rest number c) [
      | inl same ↦ absurd (eqb-false first number e same)
      | inr r ↦ later r
    ]

-- what is read is an element or the default
read_or_default : {A : Type 0} (xs : List A) (i : ℕ) (d : A) → Contains xs (get_or xs i d) ⊎ (get_or xs i d ≡ d)
read_or_default [] i d = inr refl
read_or_default (x ∷ xs) zero d = inl (in_first x xs)
read_or_default (x ∷ xs) (suc i) d = elim (read_or_default xs i d) [ inl c ↦ inl (in_rest x xs (get_or xs i d) c) | inr e ↦ inr e ]

-- a join of the groups is that of one of their nets and a terminal
record FromGroup (terminals : List Terminal) (leaves : List ℕ) (least bound : ℕ) (join : Join) : Type 0 where
  net : ℕ
  within : net < bound
  place : ℕ
  is : join_at terminals leaves net place ≡ join

from_group : (terminals : List Terminal) (leaves : List ℕ) (least : ℕ) (groups : List (List ℕ)) (i : ℕ) (join : Join) → slice_get (joins_from terminals leaves least groups) i ≡ Some join → FromGroup terminals leaves least (least + length groups) join
from_group terminals leaves least [] i join e = absurd (cc)
from_group terminals leaves least (members ∷ groups) i join e = elim (in_either (map (join_at terminals leaves least) members) (joins_from terminals leaves (suc least) groups) i join e) [
  | inl f ↦ let (place, there, is) = mapped_at (join_at terminals leaves least) members i join f in record { net = least; within = omega arith; place = place; is = is }
  | inr (j, at, f) ↦
      let g : FromGroup terminals leaves (suc least) (suc least + length groups) join = from_group terminals leaves (suc least) groups j join f in
      let lt = g.within in
      record { net = g.net; within = omega (arith, lt); place = g.place; is = g.is }
]

same_test : (a b : ℕ) → a ≡ b → eqb a b ≡ true
same_test a b e = grind (arith, nat_tests)

zero_first : (i : ℕ) → i ≡ 0 + i
zero_first i = omega arith

module _ (names : ConstantNames) (design : Design) (hier : IsHier design) (few : IsFewFlat design) (flat : FlatValue) (are : AreFlatClasses names design flat) (paths : List Path) where
  abbrev pub leaves : List ℕ
  leaves = inner flat.leaves

  abbrev pub numbers : List ℕ
  numbers = leaf_cells design.order flat.spots leaves

  abbrev pub the_stub : ℕ → HCell
  the_stub number = stub (cell_or_none design.cells number)

  abbrev pub the_leaf : ℕ → HInst
  the_leaf leaf = leaf_instance design.cells flat.spots paths numbers leaf

  abbrev pub the_top : HCell
  the_top = flat_top design paths flat

  abbrev pub cells : List HCell
  cells = flat_cells design paths flat

  -- ---- which cells there are

  stubs_long : length (map the_stub numbers) ≡ length numbers
  stubs_long = length-map numbers the_stub

  pub long : length cells ≡ length numbers + 1
  long = let a = length-append (map the_stub numbers) (the_top ∷ []) in let l = stubs_long in omega (arith, a, l)

  pub top_there : IsCell cells (length numbers) the_top
  top_there = subst (λ n. slice_get cells n ≡ Some the_top) stubs_long (get_last (map the_stub numbers) the_top)

  pub stub_there : (place number : ℕ) → slice_get numbers place ≡ Some number → IsCell cells place (the_stub number)
  stub_there place number e = get_front (map the_stub numbers) (the_top ∷ []) place (the_stub number) (map_there the_stub numbers place number e)

  pub record IsStub (place : ℕ) (cell : HCell) : Type 0 where
    pub number : ℕ
    pub is_there : slice_get numbers place ≡ Some number
    pub is : the_stub number ≡ cell

  pub stub_or_top : (place : ℕ) (cell : HCell) → IsCell cells place cell → IsStub place cell ⊎ ((place ≡ length numbers) × (the_top ≡ cell))
  stub_or_top place cell e = elim (front_or_last (map the_stub numbers) the_top place cell e) as (λ _. IsStub place cell ⊎ ((place ≡ length numbers) × (the_top ≡ cell))) [
    | inl f ↦ let (number, there, is) = mapped_at the_stub numbers place cell f in inl (record { number = number; is_there = there; is = is })
    | inr f ↦ inr (f.0 ∙ stubs_long, f.1)
  ]

  -- ---- the numbers of the cells, and the leaves

  pub numbers_once : StandOnce numbers
  numbers_once = once_filter (stands_at flat.spots leaves) design.order (order_once design hier.valid)

  pub number_cell : (number : ℕ) → Contains numbers number → IsCell design.cells number (cell_or_none design.cells number)
  number_cell number c =
      let (there, stands) = from_filter (stands_at flat.spots leaves) design.order number c in
      let s : StandsIn design.order number = contained design.order number there in
      slice_get-get_or design.cells number no_cell ((good_order design hier.valid).in_range s.place number s.is_there)

  pub top_cell : IsCell design.cells design.top (cell_or_none design.cells design.top)
  top_cell = slice_get-get_or design.cells design.top no_cell hier.valid.has_top

  -- each of them is that of a leaf
  pub number_leaf : (number : ℕ) → Contains numbers number → (leaf : ℕ) × Contains leaves leaf × (cell_at flat.spots leaf ≡ number)
  number_leaf number c =
      let (there, stands) = from_filter (stands_at flat.spots leaves) design.order number c in
      let any = Any-from_list_any (λ leaf. eqb (cell_at flat.spots leaf) number) leaves stands in
      (any.1, (any.0, any.2, any.3), eqb-true (cell_at flat.spots any.1) number any.4)

  pub leaf_spot : (leaf : ℕ) → Contains leaves leaf → IsLeafSpot names design.cells flat.spots leaf
  leaf_spot leaf c = (inner_leaf names design flat are leaf c).1

  pub leaf_at : (leaf : ℕ) (c : Contains leaves leaf) → cell_at flat.spots leaf ≡ (leaf_spot leaf c).of_cell.spot.cell
  leaf_at leaf c = ap (λ o. option_map_or (λ (s : Spot). s.cell) o 0) (leaf_spot leaf c).of_cell.is_spot

  pub leaf_number : (leaf : ℕ) → Contains leaves leaf → Contains numbers (cell_at flat.spots leaf)
  leaf_number leaf c =
      let h : IsLeafSpot names design.cells flat.spots leaf = leaf_spot leaf c in
      let lt : cell_at flat.spots leaf < length design.cells = subst (λ n. n < length design.cells) (sym (leaf_at leaf c)) (slice_get_within design.cells h.of_cell.spot.cell h.cell h.of_cell.is_cell) in
      let s : StandsIn design.order (cell_at flat.spots leaf) = order_all design hier.valid (cell_at flat.spots leaf) lt in
      to_filter (stands_at flat.spots leaves) design.order (cell_at flat.spots leaf) (contains_there design.order s.place (cell_at flat.spots leaf) s.is_there)
      (list_any_at (λ l. eqb (cell_at flat.spots l) (cell_at flat.spots leaf)) leaves c.0 leaf c.1 (same_test (cell_at flat.spots (get_or leaves c.0 leaf)) (cell_at flat.spots leaf) (ap (cell_at flat.spots) c.2)))

  pub leaf_within : (leaf : ℕ) → Contains leaves leaf → place_in numbers (cell_at flat.spots leaf) < length numbers
  leaf_within leaf c = slice_get_within numbers (place_in numbers (cell_at flat.spots leaf)) (cell_at flat.spots leaf) (place_there numbers (cell_at flat.spots leaf) (leaf_number leaf c))

  -- ---- the nodes of the terminals

  facts : SpotFacts design.cells design.top flat.spots
  facts = spot_facts design.cells design.top flat.spots are.are_spots

  top_ports : ports_at design.cells flat.spots 0 ≡ the_top.ports
  top_ports = ports_read design.cells flat.spots 0 (cell_or_none design.cells design.top) (record { spot = top_spot design.top; is_spot = facts.first; is_cell = top_cell })

  leaf_ports : (leaf : ℕ) → Contains leaves leaf → ports_at design.cells flat.spots leaf ≡ (the_stub (cell_at flat.spots leaf)).ports
  leaf_ports leaf c =
      let h : IsLeafSpot names design.cells flat.spots leaf = leaf_spot leaf c in
      ports_read design.cells flat.spots leaf (cell_or_none design.cells (cell_at flat.spots leaf)) (record {
        spot = h.of_cell.spot;
        is_spot = h.of_cell.is_spot;
        is_cell = subst (λ n. IsCell design.cells n (cell_or_none design.cells (cell_at flat.spots leaf))) (leaf_at leaf c) (number_cell (cell_at flat.spots leaf) (leaf_number leaf c));
      })

  pin_there : (leaf : ℕ) → Contains leaves leaf → (i : ℕ) (port : HPort) (bit : ℕ) → slice_get (ports_at design.cells flat.spots leaf) i ≡ Some port → bit < width_of port.range → IsPinBit cells the_top (place_in leaves leaf) i bit
  pin_there leaf c i port bit there lt = record {
    the_instance = the_leaf leaf;
    is_there = map_there the_leaf leaves (place_in leaves leaf) leaf (place_there leaves leaf c);
    below = the_stub (cell_at flat.spots leaf);
    is_below = stub_there (place_in numbers (cell_at flat.spots leaf)) (cell_at flat.spots leaf) (place_there numbers (cell_at flat.spots leaf) (leaf_number leaf c));
    is_bit = record { the_port = port; is_there = subst (λ ps. slice_get ps i ≡ Some port) (leaf_ports leaf c) there; within = lt };
  }

  abbrev top_bits : List Terminal
  top_bits = bits_of_ports (λ port bit. Port port bit) 0 (ports_at design.cells flat.spots 0)

  abbrev pins_at : ℕ → List Terminal
  pins_at leaf = bits_of_ports (λ port bit. Pin leaf port bit) 0 (ports_at design.cells flat.spots leaf)

  terminal_node : (t : Terminal) → Contains (terminals_of design.cells flat.spots flat.leaves) t → IsNode cells the_top (node_of leaves t)
  terminal_node t c = elim (Contains-append_cases (top_bits ++ flat_map pins_at leaves) (Zero ∷ One ∷ []) t c) as (λ _. IsNode cells the_top (node_of leaves t)) [
    | inl front ↦ elim (Contains-append_cases top_bits (flat_map pins_at leaves) t front) as (λ _. IsNode cells the_top (node_of leaves t)) [
      | inl bits ↦
          let (i, port, bit, there, lt, e) = from_bits (λ port bit. Port port bit) 0 (ports_at design.cells flat.spots 0) t bits in
          let at : IsPortBit the_top i bit = record { the_port = port; is_there = subst (λ ps. slice_get ps i ≡ Some port) top_ports there; within = lt } in
          subst (λ s. IsNode cells the_top (node_of leaves s)) e (subst (λ n. IsPortBit the_top n bit) (zero_first i) at)
      | inr pins ↦
          let (leaf, member, there) = from_flat pins_at leaves t pins in
          let (i, port, bit, is_port, lt, e) = from_bits (λ port bit. Pin leaf port bit) 0 (ports_at design.cells flat.spots leaf) t there in
          subst (λ s. IsNode cells the_top (node_of leaves s)) e (subst (λ n. IsPinBit cells the_top (place_in leaves leaf) n bit) (zero_first i) (pin_there leaf member i port bit is_port lt))
    ]
    | inr constants ↦ elim (first_or_rest Zero (One ∷ []) t constants) as (λ _. IsNode cells the_top (node_of leaves t)) [
      | inl e ↦ subst (λ s. IsNode cells the_top (node_of leaves s)) e tt
      | inr rest ↦ elim (first_or_rest One [] t rest) as (λ _. IsNode cells the_top (node_of leaves t)) [
        | inl e ↦ subst (λ s. IsNode cells the_top (node_of leaves s)) e tt
        | inr none ↦ absurd (nothing_in t none)
      ]
    ]
  ]

  read_node : (place : ℕ) → IsNode cells the_top (node_of leaves (get_or flat.terminals place Zero))
  read_node place = elim (read_or_default flat.terminals place Zero) as (λ _. IsNode cells the_top (node_of leaves (get_or flat.terminals place Zero))) [
    | inl c ↦ terminal_node (get_or flat.terminals place Zero) (subst (λ ts. Contains ts (get_or flat.terminals place Zero)) are.are_terminals c)
    | inr e ↦ subst (λ s. IsNode cells the_top (node_of leaves s)) (sym e) tt
  ]

  join_good : (i : ℕ) (join : Join) → slice_get the_top.joins i ≡ Some join → IsJoinOf cells the_top join
  join_good i join e =
      let g : FromGroup flat.terminals leaves 0 (0 + length (wired flat)) join = from_group flat.terminals leaves 0 (wired flat) i join e in
      let nets = length-map-range_with_len numbered_net 0 (length (wired flat)) in
      let lt : g.net < length the_top.nets = let w = g.within in omega (arith, w, nets) in
      subst (IsJoinOf cells the_top) g.is (lt, read_node g.place)

  -- ---- each cell is good

  stub_good : (number : ℕ) → Contains numbers number → IsGoodCell cells (the_stub number)
  stub_good number c =
      let good : IsGoodCell design.cells (cell_or_none design.cells number) = hier.valid.good_cells number (cell_or_none design.cells number) (number_cell number c) in
      record {
        instances_in_range = λ place item e. absurd (cc);
        joins_in_range = λ place item e. absurd (cc);
        port_names = good.port_names;
        instance_names = λ place oplace item oitem e f same. absurd (cc);
        widths = good.widths;
      }

  module _ (own : HaveOwnJoinedNames paths leaves) where
    joined_differ : (place oplace : ℕ) (a b : HInst) → slice_get the_top.instances place ≡ Some a → slice_get the_top.instances oplace ≡ Some b → a.name ≡ b.name → place ≡ oplace
    joined_differ place oplace a b e f same =
        let (leaf, there, is) = mapped_at the_leaf leaves place a e in
        let (other, othere, ois) = mapped_at the_leaf leaves oplace b f in
        own place oplace leaf other there othere (ap (λ (i : HInst). i.name) is ∙ (same ∙ sym (ap (λ (i : HInst). i.name) ois)))

    top_good : IsGoodCell cells the_top
    top_good =
        let good : IsGoodCell design.cells (cell_or_none design.cells design.top) = hier.valid.good_cells design.top (cell_or_none design.cells design.top) top_cell in
        record {
          instances_in_range = λ place instance e.
              let (leaf, there, is) = mapped_at the_leaf leaves place instance e in
              let lt = leaf_within leaf (contains_there leaves place leaf there) in
              let l = long in
              let below : place_in numbers (cell_at flat.spots leaf) < length cells = omega (arith, lt, l) in
              subst (λ (i : HInst). i.cell < length cells) is below;
          joins_in_range = join_good;
          port_names = good.port_names;
          instance_names = joined_differ;
          widths = good.widths;
        }

    pub good : (place : ℕ) (cell : HCell) → IsCell cells place cell → IsGoodCell cells cell
    good place cell e = elim (stub_or_top place cell e) as (λ _. IsGoodCell cells cell) [
      | inl f ↦ subst (IsGoodCell cells) f.is (stub_good f.number (contains_there numbers place f.number f.is_there))
      | inr t ↦ subst (IsGoodCell cells) t.1 top_good
    ]

  -- ---- reach

  stub_above : (place : ℕ) → place < length numbers → IsAbove (cells_below cells) (length numbers) place
  stub_above place lt =
      let (number, there) = element_there numbers place lt in
      let (leaf, member, same) = number_leaf number (contains_there numbers place number there) in
      let s : StandsIn leaves leaf = contained leaves leaf member in
      let here : place_in numbers (cell_at flat.spots leaf) ≡ place = ap (place_in numbers) same ∙ numbers_once (place_in numbers number) place number (place_there numbers number (contains_there numbers place number there)) there in
      record {
        numbers = below_of the_top;
        are_below = map_there below_of cells (length numbers) the_top top_there;
        place = s.place;
        is_there = map_there (λ (i : HInst). i.cell) the_top.instances s.place (the_leaf leaf) (map_there the_leaf leaves s.place leaf s.is_there) ∙ ap Some here;
      }

  pub all_reached : (place : ℕ) → place < length cells → IsReached (cells_below cells) (length numbers) place
  all_reached place lt = elim (last_or_less place (length numbers) (let l = long in omega (arith, lt, l))) as (λ _. IsReached (cells_below cells) (length numbers) place) [
    | inl less ↦ linked_by (stub_above place less)
    | inr e ↦ subst (IsReached (cells_below cells) (length numbers)) (sym e) (linked_itself (IsAbove (cells_below cells)) (length numbers))
  ]

  only_top_above : (outer inner : ℕ) → IsAbove (cells_below cells) outer inner → (outer ≡ length numbers) × (inner < length numbers)
  only_top_above outer inner above =
      let (cell, is_cell, are_numbers) = mapped_at below_of cells outer above.numbers above.are_below in
      let there : slice_get (below_of cell) above.place ≡ Some inner = subst (λ ns. slice_get ns above.place ≡ Some inner) (sym are_numbers) above.is_there in
      elim (stub_or_top outer cell is_cell) as (λ _. (outer ≡ length numbers) × (inner < length numbers)) [
        | inl f ↦ absurd (nothing_below (subst (λ (c : HCell). slice_get (below_of c) above.place ≡ Some inner) (sym f.is) there))
        | inr t ↦
            let (instance, is_instance, is_inner) = mapped_at (λ (i : HInst). i.cell) the_top.instances above.place inner (subst (λ (c : HCell). slice_get (below_of c) above.place ≡ Some inner) (sym t.1) there) in
            let (leaf, is_leaf, is) = mapped_at the_leaf leaves above.place instance is_instance in
            (t.0, subst (λ n. n < length numbers) (ap (λ (i : HInst). i.cell) is ∙ is_inner) (leaf_within leaf (contains_there leaves above.place leaf is_leaf)))
      ]
    where
      nothing_below : slice_get [] above.place ≡ Some inner → ⊥
      nothing_below e = cc

  leads_nowhere : (below number : ℕ) (places : List ℕ) → below < length numbers → number ≡ length numbers → Leads (IsAbove (cells_below cells)) below places number → ⊥
  leads_nowhere below number [] lt e lead = omega (arith, lt, e, lead)
  leads_nowhere below number (next ∷ places) lt e lead = let same = (only_top_above below next lead.0).0 in omega (arith, lt, same)

  pub no_recursion : (number : ℕ) → ¬ ReachesItself (cells_below cells) number
  no_recursion number r = let (e, lt) = only_top_above number r.below r.first in leads_nowhere r.below number r.back.places lt e r.back.lead
