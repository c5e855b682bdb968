-- The bits of a cell: port bits that are connected are one, and each pin stands at its place.
use Rattle.std.proofs.Common.{◌≡◌, ℕ, zero, suc, ◌+◌, ◌<◌, inl, inr, List, [], ◌∷◌, ◌++◌, Some, flat_map, length, slice_get, refl, sym, ◌∙◌, ap, subst, arith, Contains}
use Rattle.std.specs.List.{enumerate_from, range_with_len}
use Rattle.std.proofs.lemmas.Bool.{cases_eq, cases_lt}
use Rattle.std.proofs.lemmas.List.{length-append}
use Rattle.std.proofs.lemmas.List.FromFn.{get_or-map-range_with_len, length-map-range_with_len}
use Rattle.std.proofs.lemmas.Option.{slice_get-get_or}
use Rattle.net_graph.proofs.OrderLaws.{get_front}
use Rattle.net_graph.proofs.WalkLaws.{linked_back}
use Rattle.net_hier.specs.Cells.{HasLocalStep, IsLocallyConnected, IsPortBit, width_of}
use Rattle.net_hier.specs.declared.cells.HCell.{HCell}
use Rattle.net_hier.specs.declared.cells.HPort.{HPort}
use Rattle.net_hier.specs.declared.nodes.Node.{Node}
use Rattle.net_hier.specs.declared.nodes.Node.TheVariants.{Port, Pin}
use Rattle.net_hier.proofs.Near.{local_turn}
use Rattle.net_live.specs.Live.{bit_word}
use Rattle.net_stars.proofs.Lists.{contains_first, contains_later, map_contains}
use Rattle.spice_partners.specs.Places.{place_in}
use Rattle.spice_partners.proofs.Lists.{IsBitOf, element_at, get_behind, there_part}
use Rattle.to_spice_nodes.specs.Nodes.{paired, pins_of, port_pins}
use Rattle.to_spice_nodes.specs.Table.{IsPinNode}
use Rattle.to_spice_rules.specs.Connections.{HasPortsApart}
use Rattle.to_spice_rules.specs.PortWords.{bit_words}
use Rattle.to_spice_rules.proofs.PortOrder.{earlier_bit, earlier_port}

-- where no two port bits are connected, two that are connected are one
pub one_port : (cell : HCell) → HasPortsApart cell → (p b q c : ℕ) → IsPortBit cell p b → IsPortBit cell q c → IsLocallyConnected cell (Port p b) (Port q c) → (p ≡ q) × (b ≡ c)
one_port cell apart p b q c x y link =
    let back : IsLocallyConnected cell (Port q c) (Port p b) = linked_back (HasLocalStep cell) (λ v w s. local_turn s) link in
    elim (cases_lt p q) as (λ _. (p ≡ q) × (b ≡ c)) [
      | inl lt ↦ absurd (apart (Port p b) (Port q c) (record { is_first = x; is_later = y; in_order = earlier_port p b q c lt; connected = link }))
      | inr ge ↦ elim (cases_eq p q) as (λ _. (p ≡ q) × (b ≡ c)) [
        | inr ne ↦ absurd (let more : q < p = grind (arith, ge, ne) in apart (Port q c) (Port p b) (record { is_first = y; is_later = x; in_order = earlier_port q c p b more; connected = back }))
        | inl e ↦ elim (cases_lt b c) as (λ _. (p ≡ q) × (b ≡ c)) [
          | inl lt ↦ absurd (apart (Port p b) (Port q c) (record { is_first = x; is_later = y; in_order = earlier_bit p b q c e lt; connected = link }))
          | inr le ↦ elim (cases_eq b c) as (λ _. (p ≡ q) × (b ≡ c)) [
            | inl f ↦ (e, f)
            | inr ne ↦ absurd (let more : c < b = grind (arith, le, ne) in apart (Port q c) (Port p b) (record { is_first = y; is_later = x; in_order = earlier_bit q c p b (sym e) more; connected = back }))
          ]
        ]
      ]
    ]

-- ---- pins
pins_long : (instance number : ℕ) (p : HPort) → length (port_pins instance (number, p)) ≡ width_of p.range
pins_long instance number p = length-map-range_with_len (λ bit. Pin instance number bit) 0 (width_of p.range)

pin_in_port : (instance number bit : ℕ) (p : HPort) → bit < width_of p.range → slice_get (port_pins instance (number, p)) bit ≡ Some (Pin instance number bit)
pin_in_port instance number bit p lt =
    let long = pins_long instance number p in
    slice_get-get_or (port_pins instance (number, p)) bit (Pin 0 0 0) (omega (arith, long, lt))
    ∙ ap Some (get_or-map-range_with_len (λ b. Pin instance number b) 0 (width_of p.range) bit bit (Pin 0 0 0) lt (omega arith))

pin_from : (instance n : ℕ) (ports : List HPort) (port bit : ℕ) → IsBitOf ports port bit → slice_get (flat_map (port_pins instance) (enumerate_from n ports)) (place_in ports port bit) ≡ Some (Pin instance (n + port) bit)
pin_from instance n [] port bit is = absurd (let e = is.is_there in cc)
pin_from instance n (first ∷ ports) zero bit is =
    let e : first ≡ is.the_port = (let h = is.is_there in cc) in
    let z : n ≡ n + 0 = omega arith in
    get_front (port_pins instance (n, first)) (flat_map (port_pins instance) (enumerate_from (n + 1) ports)) bit (Pin instance (n + 0) bit)
    (pin_in_port instance n bit first (subst (λ p. bit < width_of p.range) (sym e) is.within) ∙ ap (λ k. Some (Pin instance k bit)) z)
pin_from instance n (first ∷ ports) (suc port) bit is =
    let long : width_of first.range ≡ length (port_pins instance (n, first)) = sym (pins_long instance n first) in
    let rest : List Node = flat_map (port_pins instance) (enumerate_from (n + 1) ports) in
    let z : n + 1 + port ≡ n + suc port = omega arith in
    ap (λ k. slice_get (port_pins instance (n, first) ++ rest) (k + place_in ports port bit)) long
    ∙ (get_behind (port_pins instance (n, first)) rest (place_in ports port bit)
    ∙ (pin_from instance (n + 1) ports port bit (record { the_port = is.the_port; is_there = is.is_there; within = is.within }) ∙ ap (λ k. Some (Pin instance k bit)) z))

-- a pin stands at the place of its bit
pub pin_there : (instance : ℕ) (below : HCell) (port bit : ℕ) → IsBitOf below.ports port bit → slice_get (pins_of instance below) (place_in below.ports port bit) ≡ Some (Pin instance port bit)
pin_there instance below port bit is = let z : 0 + port ≡ port = omega arith in pin_from instance 0 below.ports port bit is ∙ ap (λ k. Some (Pin instance k bit)) z

words_long : (p : HPort) → length (bit_words p) ≡ width_of p.range
words_long p = length-map-range_with_len (bit_word p) 0 (width_of p.range)

all_long : (instance n : ℕ) (ports : List HPort) → length (flat_map (port_pins instance) (enumerate_from n ports)) ≡ length (flat_map bit_words ports)
all_long instance n [] = refl
all_long instance n (first ∷ ports) =
    let a = length-append (port_pins instance (n, first)) (flat_map (port_pins instance) (enumerate_from (n + 1) ports)) in
    let b = length-append (bit_words first) (flat_map bit_words ports) in
    let c = pins_long instance n first in
    let d = words_long first in
    let rest = all_long instance (n + 1) ports in
    omega (arith, a, b, c, d, rest)

-- an instance has as many pins as its cell has port bits
pub as_many_pins : (instance : ℕ) (below : HCell) → length (pins_of instance below) ≡ length (flat_map bit_words below.ports)
as_many_pins instance below = all_long instance 0 below.ports

-- a pin and the node at its place are a pair
pub pair_there : (pins : List Node) (names : List (List ℕ)) (place : ℕ) (pin : Node) (name : List ℕ) → slice_get pins place ≡ Some pin → slice_get names place ≡ Some name → Contains (paired pins names) (pin, name)
pair_there [] names place pin name e f = absurd cc
pair_there (first ∷ pins) [] place pin name e f = absurd cc
pair_there (first ∷ pins) (fname ∷ names) zero pin name e f =
    let g : first ≡ pin = cc in
    let h : fname ≡ name = cc in
    subst (λ n. Contains (paired (first ∷ pins) (fname ∷ names)) (pin, n)) h (subst (λ x. Contains (paired (first ∷ pins) (fname ∷ names)) (x, fname)) g (contains_first (first, fname) (paired pins names)))
pair_there (first ∷ pins) (fname ∷ names) (suc place) pin name e f = contains_later (first, fname) (pin, name) (paired pins names) (pair_there pins names place pin name e f)

-- each of them is a pin
pub pins_are : (instance : ℕ) (below : HCell) (pins : List Node) → pins ≡ pins_of instance below → (place : ℕ) (pin : Node) → slice_get pins place ≡ Some pin → IsPinNode pin
pins_are instance below pins same place pin e =
    let listed : Contains (pins_of instance below) pin = subst (λ l. Contains l pin) same (element_at pins place pin e) in
    let part = there_part (port_pins instance) (enumerate_from 0 below.ports) pin listed in
    let bit = map_contains (λ b. Pin instance part.0.0 b) (range_with_len 0 (width_of part.0.1.range)) pin part.2 in
    (instance, part.0.0, bit.0, sym bit.2)
