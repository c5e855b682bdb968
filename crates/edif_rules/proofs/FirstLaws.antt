-- The first bits of ports of instances, of which each instance has a mask.
use Rattle.std.proofs.Common.{◌≡◌, ◌≢◌, ℕ, zero, suc, Bool, true, false, ◌||◌, ◌&&◌, ◌==◌, ◌+◌, ◌<◌, ◌≤◌, nat_lt, List, [], ◌∷◌, ◌++◌, map, length, get_or, replicate, refl, sym, ap, ◌∙◌, arith}
use Rattle.std.specs.Prelude.{slice_set}
use Rattle.std.specs.List.{list_any}
use Rattle.std.proofs.lemmas.Bool.{eqb-true, eq-eqb, false≢true, lt-ltb, ltb-true}
use Rattle.std.proofs.lemmas.List.Elements.{All-head, All-tail}
use Rattle.std.proofs.lemmas.List.Folds.{list_any-append}
use Rattle.edif_design.specs.CellRules.{same_node}
use Rattle.edif_rules.specs.Spots.{AreOthers, first_node, first_nodes, has_bit, has_first, is_first, nodes_from, pin_node, with_bit, with_first}
use Rattle.edif_rules.specs.declared.bits.PinBit.{PinBit}
use Rattle.edif_rules.proofs.WordLaws.{both, both_are, first_more, in_mask, is_false, no_nodes, none_first, or_first, or_none, or_second}
use Rattle.net_hier.specs.declared.nodes.Node.{Node}
use Rattle.net_hier.specs.declared.nodes.Node.TheVariants.{Pin, Port}

-- masks of no bits have no nodes
pub no_firsts : (instance n : ℕ) → nodes_from instance (replicate n 0) ≡ []
no_firsts instance zero = refl
no_firsts instance (suc n) = λ j. no_nodes (first_node instance) 64 j ++ no_firsts (suc instance) n j

-- no node of the masks passes a test that none of theirs can pass
none_from : (test : Node → Bool) (instance : ℕ) (masks : List ℕ)
    → ((i port : ℕ) → instance ≤ i → i < instance + length masks → port < 64 → test (first_node i port) ≡ false)
    → list_any test (nodes_from instance masks) ≡ false
none_from test instance [] none = refl
none_from test instance (mask ∷ masks) none =
    let first = none_first test (first_node instance) mask 64 (λ port below. none instance port (omega arith) (omega arith) below) in
    let rest = none_from test (suc instance) masks (λ i port from to below. none i port (omega arith) (omega arith) below) in
    list_any-append test (first_nodes (first_node instance) mask 64) (nodes_from (suc instance) masks)
    ∙ λ j. first j || rest j

-- no own bit is among them
pub no_port : (port bit instance : ℕ) (masks : List ℕ) → list_any (same_node (Port port bit)) (nodes_from instance masks) ≡ false
no_port port bit instance masks = none_from (same_node (Port port bit)) instance masks (λ i p from to below. refl)

-- the test is for the first bit of this port of the instance of this number
module _ (number port : ℕ) (small : port < 64) where
  other_instance : (i p : ℕ) → number ≢ i → same_node (Pin number port 0) (first_node i p) ≡ false
  other_instance i p apart = is_false (number == i && (port == p && 0 == 0)) (λ h. apart (eqb-true number i (both (number == i) (port == p && 0 == 0) h).0))

  other_port : (instance p : ℕ) → p ≢ port → same_node (Pin number port 0) (first_node instance p) ≡ false
  other_port instance p apart = is_false (number == instance && (port == p && 0 == 0)) (λ h.
      let e = both (number == instance) (port == p && 0 == 0) h in
      apart (sym (eqb-true port p (both (port == p) (0 == 0) e.1).0)))

  this_port : (instance : ℕ) → number ≡ instance → same_node (Pin number port 0) (first_node instance port) ≡ true
  this_port instance same =
      both_are (number == instance) (port == port && 0 == 0) (eq-eqb number instance same) (both_are (port == port) (0 == 0) (eq-eqb port port refl) refl)

  -- it is there where the mask of its instance has it
  in_masks : (instance place : ℕ) (masks : List ℕ) → number ≡ instance + place → place < length masks
      → list_any (same_node (Pin number port 0)) (nodes_from instance masks) ≡ has_bit (get_or masks place 0) port
  in_masks instance place [] at within = absurd (omega arith)
  in_masks instance zero (mask ∷ masks) at within =
      let test = same_node (Pin number port 0) in
      let rest = none_from test (suc instance) masks (λ i p from to below. other_instance i p (λ e. absurd (omega arith))) in
      list_any-append test (first_nodes (first_node instance) mask 64) (nodes_from (suc instance) masks)
      ∙ (sym (or_none (list_any test (first_nodes (first_node instance) mask 64)) (list_any test (nodes_from (suc instance) masks)) rest)
      ∙ in_mask test (first_node instance) port (this_port instance (omega arith)) (other_port instance) mask 64 small)
  in_masks instance (suc place) (mask ∷ masks) at within =
      let test = same_node (Pin number port 0) in
      let first = none_first test (first_node instance) mask 64 (λ p below. other_instance instance p (λ e. absurd (omega arith))) in
      list_any-append test (first_nodes (first_node instance) mask 64) (nodes_from (suc instance) masks)
      ∙ (ap (λ b. b || list_any test (nodes_from (suc instance) masks)) first
      ∙ in_masks (suc instance) place masks (omega arith) (omega arith))

  -- one more first bit is one more node
  in_more : (test : Node → Bool) (instance place : ℕ) (masks : List ℕ) → number ≡ instance + place → place < length masks
      → list_any test (nodes_from instance (slice_set masks place (with_bit (get_or masks place 0) port)))
      ≡ (test (Pin number port 0) || list_any test (nodes_from instance masks))
  in_more test instance place [] at within = absurd (omega arith)
  in_more test instance zero (mask ∷ masks) at within =
      let same : instance ≡ number = omega arith in
      let of_first = list_any test (first_nodes (first_node instance) mask 64) in
      let of_rest = list_any test (nodes_from (suc instance) masks) in
      list_any-append test (first_nodes (first_node instance) (with_bit mask port) 64) (nodes_from (suc instance) masks)
      ∙ (ap (λ b. b || of_rest) (first_more test (first_node instance) mask port 64 small)
      ∙ (or_first (test (first_node instance port)) of_first of_rest
      ∙ λ j. test (first_node (same j) port) || sym (list_any-append test (first_nodes (first_node instance) mask 64) (nodes_from (suc instance) masks)) j))
  in_more test instance (suc place) (mask ∷ masks) at within =
      let of_first = list_any test (first_nodes (first_node instance) mask 64) in
      let of_rest = list_any test (nodes_from (suc instance) masks) in
      let more = slice_set masks place (with_bit (get_or masks place 0) port) in
      list_any-append test (first_nodes (first_node instance) mask 64) (nodes_from (suc instance) more)
      ∙ (ap (λ b. of_first || b) (in_more test (suc instance) place masks (omega arith) (omega arith))
      ∙ (or_second (test (Pin number port 0)) of_first of_rest
      ∙ ap (λ b. test (Pin number port 0) || b) (sym (list_any-append test (first_nodes (first_node instance) mask 64) (nodes_from (suc instance) masks)))))

-- what it says of a bit that it is a first one
pub record IsFirst (key : PinBit) (instances : ℕ) : Type 0 where
  pub bit : key.bit ≡ 0
  pub port : key.port < 64
  pub instance : key.instance < instances

pub first_is : (key : PinBit) (instances : ℕ) → is_first key instances ≡ true → IsFirst key instances
first_is key instances h =
    let e = both (key.bit == 0) (nat_lt key.port 64 && nat_lt key.instance instances) h in
    let f = both (nat_lt key.port 64) (nat_lt key.instance instances) e.1 in
    record { bit = eqb-true key.bit 0 e.0; port = ltb-true key.port 64 f.0; instance = ltb-true key.instance instances f.1 }

is_first_of : (key : PinBit) (instances : ℕ) → key.bit ≡ 0 → key.port < 64 → key.instance < instances → is_first key instances ≡ true
is_first_of key instances bit port instance =
    both_are (key.bit == 0) (nat_lt key.port 64 && nat_lt key.instance instances) (eq-eqb key.bit 0 bit)
    (both_are (nat_lt key.port 64) (nat_lt key.instance instances) (lt-ltb key.port 64 port) (lt-ltb key.instance instances instance))

-- the node of a first bit
first_node_is : (key : PinBit) → key.bit ≡ 0 → Pin key.instance key.port 0 ≡ pin_node key
first_node_is key bit = ap (Pin key.instance key.port) (sym bit)

-- a first bit is there where the masks have it
pub has_first_node : (key : PinBit) (masks : List ℕ) → IsFirst key (length masks)
    → list_any (same_node (pin_node key)) (nodes_from 0 masks) ≡ has_first masks key
has_first_node key masks first =
    ap (λ node. list_any (same_node node) (nodes_from 0 masks)) (sym (first_node_is key first.bit))
    ∙ in_masks key.instance key.port first.port 0 key.instance masks (omega arith) first.instance

-- one more first bit is one more node
pub one_more_first : (test : Node → Bool) (key : PinBit) (masks : List ℕ) → IsFirst key (length masks)
    → list_any test (nodes_from 0 (with_first masks key)) ≡ (test (pin_node key) || list_any test (nodes_from 0 masks))
one_more_first test key masks first =
    in_more key.instance key.port first.port test 0 key.instance masks (omega arith) first.instance
    ∙ ap (λ node. test node || list_any test (nodes_from 0 masks)) (first_node_is key first.bit)

-- what a test of two bits of instances tells
pub record AreSameBits (key other : PinBit) : Type 0 where
  pub instance : key.instance ≡ other.instance
  pub port : key.port ≡ other.port
  pub bit : key.bit ≡ other.bit

same_bits : (key other : PinBit) → same_node (pin_node key) (pin_node other) ≡ true → AreSameBits key other
same_bits key other h =
    let e = both (key.instance == other.instance) (key.port == other.port && key.bit == other.bit) h in
    let f = both (key.port == other.port) (key.bit == other.bit) e.1 in
    record { instance = eqb-true key.instance other.instance e.0; port = eqb-true key.port other.port f.0; bit = eqb-true key.bit other.bit f.1 }

-- a bit that is no first one is in no mask
pub not_in_masks : (key : PinBit) (masks : List ℕ) → is_first key (length masks) ≡ false → list_any (same_node (pin_node key)) (nodes_from 0 masks) ≡ false
not_in_masks key masks other =
    none_from (same_node (pin_node key)) 0 masks (λ i p from to below. is_false (same_node (pin_node key) (first_node i p)) (λ h.
    let same = same_bits key (record { instance = i; port = p; bit = 0 }) h in
    false≢true (sym other ∙ is_first_of key (length masks) same.bit (omega (arith, same.port)) (omega (arith, same.instance)))))

-- a first bit is not among the others
pub not_in_others : (key : PinBit) (instances : ℕ) (keys : List PinBit) → is_first key instances ≡ true → AreOthers instances keys
    → list_any (same_node (pin_node key)) (map pin_node keys) ≡ false
not_in_others key instances [] first others = refl
not_in_others key instances (k ∷ keys) first others =
    let Other = λ (key : PinBit). is_first key instances ≡ false in
    let apart = is_false (same_node (pin_node key) (pin_node k)) (λ h.
    let same = same_bits key k h in
    let is = first_is key instances first in
    false≢true (sym (All-head Other k keys others) ∙ is_first_of k instances (sym same.bit ∙ is.bit) (omega (arith, same.port, is.port)) (omega (arith, same.instance, is.instance)))) in
    let rest = not_in_others key instances keys first (All-tail Other k keys others) in
    λ j. apart j || rest j
