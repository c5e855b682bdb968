-- The cell of a subcircuit connects what stands for the bits of a cell as that connects these.
use Rattle.std.proofs.Common.{◌≡◌, ℕ, ◌+◌, ◌<◌, ◌⊎◌, inl, inr, Bool, true, false, List, Option, None, Some, flat_map, length, slice_get, option_map, refl, sym, ◌∙◌, ap, subst, arith, Contains}
use Rattle.std.specs.Prelude.{◌≢◌, ◌↔◌}
use Rattle.std.specs.List.{enumerate_from}
use Rattle.std.specs.Option.{option_and_then, option_map_or}
use Rattle.std.proofs.lemmas.List.Elements.{Contains-append_cases, Contains-append_left, Contains-append_right}
use Rattle.std.proofs.lemmas.Option.{slice_get_within}
use Rattle.nl_base.specs.Case.{same_up_to_case}
use Rattle.net_graph.proofs.ListLaws.{element_there, same_element}
use Rattle.net_graph.proofs.WalkLaws.{linked_back}
use Rattle.net_hier.specs.Cells.{HasLocalStep, IsBitOrConstant, IsLocallyConnected, IsPinBit, IsPortBit, constant_node}
use Rattle.net_hier.specs.declared.cells.HCell.{HCell}
use Rattle.net_hier.specs.declared.cells.HInst.{HInst}
use Rattle.net_hier.specs.declared.nodes.Join.{Join}
use Rattle.net_hier.specs.declared.nodes.Node.{Node}
use Rattle.net_hier.specs.declared.nodes.Node.TheVariants.{Port, Pin, Net, Zero, One}
use Rattle.net_hier.proofs.Near.{local_turn}
use Rattle.net_live.specs.Live.{bit_word}
use Rattle.net_stars.specs.StandIns.{StandsFor}
use Rattle.net_stars.specs.Stars.{AreHubs, HasHub, HaveHub, IsBit, IsSpoke, JoinsHubs}
use Rattle.net_stars.proofs.Lists.{contains_map, map_contains, net_number, node_cases}
use Rattle.net_stars.proofs.Spokes.{stars_connect}
use Rattle.spice_text.specs.declared.file.Call.{Call}
use Rattle.spice_text.specs.declared.file.Subckt.{Subckt}
use Rattle.to_spice_rules.specs.Connections.{IsUntied}
use Rattle.to_spice_rules.specs.PortWords.{port_words}
use Rattle.spice_partners.specs.Partners.{IsCallFor, IsSubcktFor, node_in, pin_place, scalar_node, word_for}
use Rattle.spice_partners.specs.Places.{place_of}
use Rattle.spice_partners.specs.SpiceDesign.{call_joins, cell_in, different, join_to, number_in, port_joins, words_in}
use Rattle.spice_partners.proofs.Lists.{HasPlace, IsBitOf, IsNumbered, bit_at, element_at, numbered_there, one_bit, part_there, there_numbered, there_part, word_there}
use Rattle.spice_partners.proofs.Words.{alike_number, number_alike}

-- a port bit, by the ports
abbrev pub bit_of : (cell : HCell) (port bit : ℕ) → IsPortBit cell port bit → IsBitOf cell.ports port bit
bit_of cell port bit is = record { the_port = is.the_port; is_there = is.is_there; within = is.within }

abbrev pub bit_back : (cell : HCell) (port bit : ℕ) → IsBitOf cell.ports port bit → IsPortBit cell port bit
bit_back cell port bit is = record { the_port = is.the_port; is_there = is.is_there; within = is.within }

-- the place of a pin bit is that of the bit in the cell of the instance
pub pin_place_is : (cells : List HCell) (cell : HCell) (instance port bit : ℕ) (pin : IsPinBit cells cell instance port bit) → pin_place cells cell instance port bit ≡ place_of pin.below port bit
pin_place_is cells cell instance port bit pin =
    ap (λ o. option_map_or (λ (below : HCell). place_of below port bit) o 0) (ap (option_and_then (λ (i : HInst). slice_get cells i.cell)) pin.is_there ∙ pin.is_below)

same_pin : (i j p q a b : ℕ) → Pin i p a ≡ Pin j q b → (i ≡ j) × (p ≡ q)
same_pin i j p q a b e = (cc, cc)

same_port : (p q a b : ℕ) → Port p a ≡ Port q b → p ≡ q
same_port p q a b e = cc

module _ (cells : List HCell) (cell : HCell) where
  -- what stands for bits
  apart_pins : (i p b q c : ℕ) → IsPinBit cells cell i p b → IsPinBit cells cell i q c → pin_place cells cell i p b ≡ pin_place cells cell i q c → Pin i p b ≡ Pin i q c
  apart_pins i p b q c x y e =
      let instances : x.the_instance ≡ y.the_instance = same_element cell.instances i x.the_instance y.the_instance x.is_there y.is_there in
      let belows : y.below ≡ x.below = same_element cells x.the_instance.cell y.below x.below (subst (λ (n : HInst). slice_get cells n.cell ≡ Some y.below) (sym instances) y.is_below) x.is_below in
      let f : place_of x.below p b ≡ place_of x.below q c = sym (pin_place_is cells cell i p b x) ∙ (e ∙ (pin_place_is cells cell i q c y ∙ ap (λ (w : HCell). place_of w q c) belows)) in
      let r = one_bit x.below.ports p b q c (bit_of x.below p b x.is_bit) (bit_of x.below q c (subst (λ w. IsPortBit w q c) belows y.is_bit)) f in
      λ k. Pin i (r.0 k) (r.1 k)

  apart : (x y : Node) → IsBitOrConstant cells cell x → IsBitOrConstant cells cell y → scalar_node cells cell x ≡ scalar_node cells cell y → x ≡ y
  apart (Port p b) (Port q c) hx hy e =
      let r = one_bit cell.ports p b q c (bit_of cell p b hx) (bit_of cell q c hy) (same_port _ _ _ _ e) in
      λ k. Port (r.0 k) (r.1 k)
  apart (Port p b) (Pin j q c) hx hy e = absurd cc
  apart (Port p b) Zero hx hy e = absurd cc
  apart (Port p b) One hx hy e = absurd cc
  apart (Pin i p b) (Port q c) hx hy e = absurd cc
  apart (Pin i p b) (Pin j q c) hx hy e =
      let r = same_pin _ _ _ _ _ _ e in
      let moved : IsPinBit cells cell i q c = subst (λ n. IsPinBit cells cell n q c) (sym r.0) hy in
      apart_pins i p b q c hx moved (r.1 ∙ ap (λ n. pin_place cells cell n q c) (sym r.0)) ∙ ap (λ n. Pin n q c) r.0
  apart (Pin i p b) Zero hx hy e = absurd cc
  apart (Pin i p b) One hx hy e = absurd cc
  apart Zero (Port q c) hx hy e = absurd cc
  apart Zero (Pin j q c) hx hy e = absurd cc
  apart Zero Zero hx hy e = refl
  apart Zero One hx hy e = absurd cc
  apart One (Port q c) hx hy e = absurd cc
  apart One (Pin j q c) hx hy e = absurd cc
  apart One Zero hx hy e = absurd cc
  apart One One hx hy e = refl
  apart (Net n) y hx hy e = absurd hx
  apart x (Net n) hx hy e = absurd hy

  no_net : (x : Node) (net : ℕ) → IsBitOrConstant cells cell x → scalar_node cells cell x ≢ Net net
  no_net (Port p b) net hx = λ e. cc
  no_net (Pin i p b) net hx = λ e. cc
  no_net (Net n) net hx = absurd hx
  no_net Zero net hx = λ e. cc
  no_net One net hx = λ e. cc

  stands : StandsFor cells cell (scalar_node cells cell)
  stands = record { apart = apart; no_net = no_net }

  -- a bit or a constant
  bit_or_constant : (x : Node) → IsBitOrConstant cells cell x → IsBit cells cell x ⊎ ((value : Bool) × (x ≡ constant_node value))
  bit_or_constant (Port p b) h = inl h
  bit_or_constant (Pin i p b) h = inl h
  bit_or_constant (Net n) h = absurd h
  bit_or_constant Zero h = inr (false, refl)
  bit_or_constant One h = inr (true, refl)

  pub bit_is : (x : Node) → IsBit cells cell x → IsBitOrConstant cells cell x
  bit_is (Port p b) h = h
  bit_is (Pin i p b) h = h
  bit_is (Net n) h = absurd h
  bit_is Zero h = absurd h
  bit_is One h = absurd h

  module _ (subckt : Subckt) (is : IsSubcktFor cells cell subckt) where
    -- the word of a bit is one of the subcircuit's
    pub record HasWord (x : Node) : Type 0 where
      pub word : List ℕ
      pub is_word : word_for cells cell subckt x ≡ Some word
      pub among : Contains (words_in subckt) word

    port_word : (port bit : ℕ) → IsPortBit cell port bit → HasWord (Port port bit)
    port_word port bit h =
        let there = word_there cell.ports port bit (bit_of cell port bit h) in
        let e : slice_get subckt.ports (place_of cell port bit) ≡ Some (bit_word h.the_port bit) = ap (λ l. slice_get l (place_of cell port bit)) is.same_ports ∙ there in
        record { word = bit_word h.the_port bit; is_word = e; among = Contains-append_left subckt.ports _ _ (element_at subckt.ports (place_of cell port bit) (bit_word h.the_port bit) e) }

    -- the call of an instance
    pub call_of : (place : ℕ) (instance : HInst) → slice_get cell.instances place ≡ Some instance → (call : Call) × (slice_get subckt.calls place ≡ Some call) × IsCallFor cells instance call
    call_of place instance e =
        let lt = slice_get_within cell.instances place instance e in
        let long = is.as_many in
        let c = element_there subckt.calls place (omega (arith, lt, long)) in
        (c.0, c.1, is.calls place instance c.0 e c.1)

    pin_word : (instance port bit : ℕ) → IsPinBit cells cell instance port bit → HasWord (Pin instance port bit)
    pin_word instance port bit pin =
        let c = call_of instance pin.the_instance pin.is_there in
        let belows : c.2.below ≡ pin.below = same_element cells pin.the_instance.cell c.2.below pin.below c.2.is_below pin.is_below in
        let place : ℕ = pin_place cells cell instance port bit in
        let there = word_there pin.below.ports port bit (bit_of pin.below port bit pin.is_bit) in
        let within : place_of pin.below port bit < length (port_words pin.below) = slice_get_within (port_words pin.below) (place_of pin.below port bit) _ there in
        let long : length c.0.nodes ≡ length (port_words pin.below) = c.2.as_many ∙ ap (λ (w : HCell). length (port_words w)) belows in
        let at : place ≡ place_of pin.below port bit = pin_place_is cells cell instance port bit pin in
        let w = element_there c.0.nodes place (omega (arith, within, long, at)) in
        record {
          word = w.0;
          is_word = ap (λ o. node_in o place) c.1 ∙ w.1;
          among = Contains-append_right subckt.ports (flat_map (λ (call : Call). call.nodes) subckt.calls) w.0
              (part_there (λ (call : Call). call.nodes) subckt.calls c.0 w.0 (element_at subckt.calls instance c.0 c.1) (element_at c.0.nodes place w.0 w.1));
        }

    pub word_of_bit : (x : Node) → IsBit cells cell x → HasWord x
    word_of_bit (Port port bit) h = port_word port bit h
    word_of_bit (Pin instance port bit) h = pin_word instance port bit h
    word_of_bit (Net n) h = absurd h
    word_of_bit Zero h = absurd h
    word_of_bit One h = absurd h

    -- the net of the word of a node
    abbrev net_for : List ℕ → Node
    net_for word = Net (number_in (different (words_in subckt)) word)

    abbrev hubs : Node → Option Node
    hubs x = option_map net_for (word_for cells cell subckt x)

    hub_is : (x hub : Node) (h : HasWord x) → hubs x ≡ Some hub → hub ≡ net_for h.word
    hub_is x hub h e = let f : Some (net_for h.word) ≡ Some hub = sym (ap (option_map net_for) h.is_word) ∙ e in cc

    hub_there : (x : Node) (h : HasWord x) → hubs x ≡ Some (net_for h.word)
    hub_there x h = ap (option_map net_for) h.is_word

    no_hub : (value : Bool) (hub : Node) → ¬ (hubs (constant_node value) ≡ Some hub)
    no_hub false hub e = let f : None ≡ Some hub = e in cc
    no_hub true hub e = let f : None ≡ Some hub = e in cc

    -- what has a hub is a bit
    hub_bit : (x hub : Node) → IsBitOrConstant cells cell x → hubs x ≡ Some hub → IsBit cells cell x
    hub_bit x hub h e = elim (bit_or_constant x h) as (λ _. IsBit cells cell x) [
      | inl b ↦ b
      | inr c ↦ absurd (no_hub c.0 hub (subst (λ y. hubs y ≡ Some hub) c.1 e))
    ]

    module _ (untied : IsUntied cells cell) where
      free : (value : Bool) (y : Node) → IsBitOrConstant cells cell y → y ≢ constant_node value → IsLocallyConnected cell (constant_node value) y → ⊥
      free value y h other link = untied value (record { node = y; is_bit = h; is_other = other; is_connected = link })

      both_bits : (x y : Node) → IsBit cells cell x → IsBit cells cell y → IsLocallyConnected cell x y → HaveHub (HasHub hubs) x y
      both_bits x y hx hy link =
          let u : HasWord x = word_of_bit x hx in
          let v : HasWord y = word_of_bit y hy in
          let alike : same_up_to_case u.word v.word ≡ true = (is.nodes x y u.word v.word hx hy u.is_word v.is_word).1 link in
          let same : number_in (different (words_in subckt)) v.word ≡ number_in (different (words_in subckt)) u.word = sym (alike_number (different (words_in subckt)) u.word v.word alike) in
          record { hub = net_for u.word; of_x = hub_there x u; of_y = hub_there y v ∙ ap (λ n. Some (Net n)) same }

      whole : (x y : Node) → IsBitOrConstant cells cell x → IsBitOrConstant cells cell y → IsLocallyConnected cell x y → (x ≡ y) ⊎ HaveHub (HasHub hubs) x y
      whole x y hx hy link = elim (node_cases x y) as (λ _. (x ≡ y) ⊎ HaveHub (HasHub hubs) x y) [
        | inl e ↦ inl e
        | inr other ↦ elim (bit_or_constant x hx) as (λ _. (x ≡ y) ⊎ HaveHub (HasHub hubs) x y) [
          | inr c ↦ absurd (free c.0 y hy (λ e. other (c.1 ∙ sym e)) (subst (λ z. IsLocallyConnected cell z y) c.1 link))
          | inl bx ↦ elim (bit_or_constant y hy) as (λ _. (x ≡ y) ⊎ HaveHub (HasHub hubs) x y) [
            | inr c ↦ absurd (free c.0 x hx (λ e. other (e ∙ sym c.1)) (subst (λ z. IsLocallyConnected cell z x) c.1 (linked_back (HasLocalStep cell) (λ a b s. local_turn s) link)))
            | inl by ↦ inr (both_bits x y bx by link)
          ]
        ]
      ]

      once : (x y hub : Node) → IsBitOrConstant cells cell x → IsBitOrConstant cells cell y → hubs x ≡ Some hub → hubs y ≡ Some hub → IsLocallyConnected cell x y
      once x y hub hx hy ex ey =
          let bx = hub_bit x hub hx ex in
          let by = hub_bit y hub hy ey in
          let u : HasWord x = word_of_bit x bx in
          let v : HasWord y = word_of_bit y by in
          let same = net_number _ _ (sym (hub_is x hub u ex) ∙ hub_is y hub v ey) in
          (is.nodes x y u.word v.word bx by u.is_word v.is_word).0 (number_alike (words_in subckt) u.word v.word u.among v.among same)

      own : (x hub : Node) → IsBitOrConstant cells cell x → hubs x ≡ Some hub → (number : ℕ) × (hub ≡ Net number)
      own x hub hx e = let u : HasWord x = word_of_bit x (hub_bit x hub hx e) in (number_in (different (words_in subckt)) u.word, hub_is x hub u e)

      are_hubs : AreHubs cells cell (scalar_node cells cell) (HasHub hubs)
      are_hubs = record { own = λ x hub hx e. inl (own x hub hx e); one = λ x hub other hx e f. cc; once = once; whole = whole }

      module _ (subckts : List Subckt) where
        abbrev partner : HCell
        partner = cell_in subckts subckt

        abbrev nets : List (List ℕ)
        nets = different (words_in subckt)

        spoke_of : (join : Join) (x : Node) (word : List ℕ) → IsBit cells cell x → word_for cells cell subckt x ≡ Some word → join_to nets (scalar_node cells cell x) word ≡ join → IsSpoke cells cell (scalar_node cells cell) (HasHub hubs) join
        spoke_of join x word h e is_join = record {
          terminal = x;
          hub = net_for word;
          is_terminal = bit_is x h;
          is_hub = ap (option_map net_for) e;
          between = inr (sym (ap (λ (j : Join). j.a) is_join), sym (ap (λ (j : Join). j.b) is_join));
        }

        port_spoke : (join : Join) → Contains (port_joins nets subckt.ports) join → IsSpoke cells cell (scalar_node cells cell) (HasHub hubs) join
        port_spoke join has =
            let f = map_contains (λ (port : ℕ × List ℕ). join_to nets (Port port.0 0) port.1) (enumerate_from 0 subckt.ports) join has in
            let n : IsNumbered 0 subckt.ports f.0 = there_numbered 0 subckt.ports f.0 f.1 in
            let lt : n.place < length subckt.ports = slice_get_within subckt.ports n.place f.0.1 n.is_there in
            let place : HasPlace cell.ports n.place = bit_at cell.ports n.place (subst (λ l. n.place < length l) is.same_ports lt) in
            let number : f.0.0 ≡ place_of cell place.port place.bit = n.is_number ∙ (let k = n.place in let z : 0 + k ≡ k = omega arith in z) ∙ sym place.is_place in
            spoke_of join (Port place.port place.bit) f.0.1 (bit_back cell place.port place.bit place.is_bit) (ap (slice_get subckt.ports) place.is_place ∙ n.is_there)
            (ap (λ k. join_to nets (Port k 0) f.0.1) (sym number) ∙ f.2)

        pin_spoke : (join : Join) (call : ℕ × Call) → Contains (enumerate_from 0 subckt.calls) call → Contains (call_joins nets call) join → IsSpoke cells cell (scalar_node cells cell) (HasHub hubs) join
        pin_spoke join call listed has =
            let c : IsNumbered 0 subckt.calls call = there_numbered 0 subckt.calls call listed in
            let f = map_contains (λ (node : ℕ × List ℕ). join_to nets (Pin call.0 node.0 0) node.1) (enumerate_from 0 call.1.nodes) join has in
            let n : IsNumbered 0 call.1.nodes f.0 = there_numbered 0 call.1.nodes f.0 f.1 in
            let call_lt : c.place < length subckt.calls = slice_get_within subckt.calls c.place call.1 c.is_there in
            let long = is.as_many in
            let i = element_there cell.instances c.place (omega (arith, call_lt, long)) in
            let for_call : IsCallFor cells i.0 call.1 = is.calls c.place i.0 call.1 i.1 c.is_there in
            let lt : n.place < length call.1.nodes = slice_get_within call.1.nodes n.place f.0.1 n.is_there in
            let many = for_call.as_many in
            let place : HasPlace for_call.below.ports n.place = bit_at for_call.below.ports n.place (omega (arith, lt, many)) in
            let pin : IsPinBit cells cell c.place place.port place.bit = record { the_instance = i.0; is_there = i.1; below = for_call.below; is_below = for_call.is_below; is_bit = bit_back for_call.below place.port place.bit place.is_bit } in
            let at : pin_place cells cell c.place place.port place.bit ≡ n.place = pin_place_is cells cell c.place place.port place.bit pin ∙ place.is_place in
            let call_number : call.0 ≡ c.place = c.is_number ∙ (let k = c.place in let z : 0 + k ≡ k = omega arith in z) in
            let number : f.0.0 ≡ pin_place cells cell c.place place.port place.bit = n.is_number ∙ (let k = n.place in let z : 0 + k ≡ k = omega arith in z) ∙ sym at in
            spoke_of join (Pin c.place place.port place.bit) f.0.1 pin (ap (λ o. node_in o (pin_place cells cell c.place place.port place.bit)) c.is_there ∙ (ap (slice_get call.1.nodes) at ∙ n.is_there))
            (ap (λ k. join_to nets (Pin k (pin_place cells cell c.place place.port place.bit) 0) f.0.1) (sym call_number) ∙ (ap (λ k. join_to nets (Pin call.0 k 0) f.0.1) (sym number) ∙ f.2))

        spokes : (join : Join) → Contains partner.joins join → IsSpoke cells cell (scalar_node cells cell) (HasHub hubs) join
        spokes join has = elim (Contains-append_cases (port_joins nets subckt.ports) (flat_map (call_joins nets) (enumerate_from 0 subckt.calls)) join has) as (λ _. IsSpoke cells cell (scalar_node cells cell) (HasHub hubs) join) [
          | inl h ↦ port_spoke join h
          | inr h ↦ let r = there_part (call_joins nets) (enumerate_from 0 subckt.calls) join h in pin_spoke join r.0 r.1 r.2
        ]

        -- the join of a bit to its net
        port_joined : (port bit : ℕ) (h : HasWord (Port port bit)) → Contains partner.joins (join_to nets (scalar_node cells cell (Port port bit)) h.word)
        port_joined port bit h =
            let place : ℕ = place_of cell port bit in
            let z : 0 + place ≡ place = omega arith in
            Contains-append_left (port_joins nets subckt.ports) _ _
            (contains_map (λ (p : ℕ × List ℕ). join_to nets (Port p.0 0) p.1) (enumerate_from 0 subckt.ports) (place, h.word)
            (subst (λ n. Contains (enumerate_from 0 subckt.ports) (n, h.word)) z (numbered_there 0 subckt.ports place h.word h.is_word)))

        node_there : (o : Option Call) (place : ℕ) (word : List ℕ) → node_in o place ≡ Some word → (call : Call) × (o ≡ Some call) × (slice_get call.nodes place ≡ Some word)
        node_there None place word e = absurd cc
        node_there (Some call) place word e = (call, refl, e)

        pin_joined : (instance port bit : ℕ) (h : HasWord (Pin instance port bit)) → Contains partner.joins (join_to nets (scalar_node cells cell (Pin instance port bit)) h.word)
        pin_joined instance port bit h =
            let place : ℕ = pin_place cells cell instance port bit in
            let c = node_there (slice_get subckt.calls instance) place h.word h.is_word in
            let z : 0 + place ≡ place = omega arith in
            let y : 0 + instance ≡ instance = omega arith in
            Contains-append_right (port_joins nets subckt.ports) (flat_map (call_joins nets) (enumerate_from 0 subckt.calls)) _
            (part_there (call_joins nets) (enumerate_from 0 subckt.calls) (instance, c.0) _
            (subst (λ n. Contains (enumerate_from 0 subckt.calls) (n, c.0)) y (numbered_there 0 subckt.calls instance c.0 c.1))
            (contains_map (λ (p : ℕ × List ℕ). join_to nets (Pin instance p.0 0) p.1) (enumerate_from 0 c.0.nodes) (place, h.word)
            (subst (λ n. Contains (enumerate_from 0 c.0.nodes) (n, h.word)) z (numbered_there 0 c.0.nodes place h.word c.2))))

        bit_joined : (x : Node) → IsBit cells cell x → (h : HasWord x) → Contains partner.joins (join_to nets (scalar_node cells cell x) h.word)
        bit_joined (Port port bit) b h = port_joined port bit h
        bit_joined (Pin instance port bit) b h = pin_joined instance port bit h
        bit_joined (Net n) b h = absurd b
        bit_joined Zero b h = absurd b
        bit_joined One b h = absurd b

        near : (x hub : Node) → IsBitOrConstant cells cell x → hubs x ≡ Some hub → (scalar_node cells cell x ≡ hub) ⊎ HasLocalStep partner (scalar_node cells cell x) hub
        near x hub hx e =
            let b = hub_bit x hub hx e in
            let h : HasWord x = word_of_bit x b in
            let step : HasLocalStep partner (scalar_node cells cell x) (net_for h.word) = record { join = join_to nets (scalar_node cells cell x) h.word; is_join = bit_joined x b h; has_both = inr (refl, refl) } in
            inr (subst (HasLocalStep partner (scalar_node cells cell x)) (sym (hub_is x hub h e)) step)

        joins_hubs : JoinsHubs cells cell partner (scalar_node cells cell) (HasHub hubs)
        joins_hubs = record { spokes = spokes; near = near }

        -- the cell of the subcircuit connects what stands for two bits or constants exactly where the cell connects these
        pub same_local : (x y : Node) → IsBitOrConstant cells cell x → IsBitOrConstant cells cell y → IsLocallyConnected cell x y ↔ IsLocallyConnected (cell_in subckts subckt) (scalar_node cells cell x) (scalar_node cells cell y)
        same_local = stars_connect cells cell partner (scalar_node cells cell) (HasHub hubs) stands are_hubs joins_hubs
