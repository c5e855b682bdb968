-- One more bit in a set of bits.
use Rattle.std.proofs.Common.{◌≡◌, ℕ, Bool, true, false, ◌||◌, ◌&&◌, ◌==◌, ◌%◌, cond, List, [], ◌∷◌, ◌++◌, map, length, replicate, Result, Ok, Err, Some, None, OnOk, OnErr, refl, sym, ap, subst, ◌∙◌}
use Rattle.std.specs.List.{IsDistinct, list_any}
use Rattle.std.specs.Map.{keys_of}
use Rattle.std.proofs.lemmas.Bool.{eqb-true, false≢true}
use Rattle.std.proofs.lemmas.List.{map-append}
use Rattle.std.proofs.lemmas.List.Elements.{All-append, All-cons, All-nil, All-same}
use Rattle.std.proofs.lemmas.List.Folds.{list_any-append}
use Rattle.indexmap.specs.IndexSet.{insert_key}
use Rattle.edif_design.specs.CellRules.{same_node}
use Rattle.edif_rules.specs.Spots.{AreOthers, AreTaken, HasHalves, first_nodes, has_bit, has_first, is_first, mask_of, node_at, node_of_bit, nodes_from, own_nodes, own_word, pin_node, pin_nodes, same_word, with_first, with_own, word_node}
use Rattle.edif_rules.specs.contracts.bits.PinBitPartialEq.TheImpl.{eq-value as pin_eq}
use Rattle.edif_rules.specs.declared.bits.BitSpot.{BitSpot}
use Rattle.edif_rules.specs.declared.bits.OwnWord.{OwnWord}
use Rattle.edif_rules.specs.declared.bits.PinBit.{PinBit}
use Rattle.edif_rules.proofs.FirstLaws.{first_is, has_first_node, no_firsts, no_port, not_in_masks, not_in_others, one_more_first}
use Rattle.edif_rules.proofs.WordLaws.{both, halves_with, has_words, none_first, one_more, or_first, or_none, or_second}
use Rattle.net_hier.specs.declared.nodes.Node.{Node}
use Rattle.net_hier.specs.declared.nodes.Node.TheVariants.{Port, Pin, Net, Zero, One}

or_again : (a b : Bool) → (a ≡ true → b ≡ true) → b ≡ (a || b)
or_again true b h = h refl
or_again false b h = refl

or_comm : (a b : Bool) → (b || (a || false)) ≡ (a || b)
or_comm true true = refl
or_comm true false = refl
or_comm false true = refl
or_comm false false = refl

-- nodes that the test takes for one are one
pub same_node-is : (x y : Node) → same_node x y ≡ true → x ≡ y
same_node-is (Port p b) (Port q c) h = let e = both (p == q) (b == c) h in λ j. Port (eqb-true p q e.0 j) (eqb-true b c e.1 j)
same_node-is (Pin i p b) (Pin k q c) h =
    let e = both (i == k) (p == q && b == c) h in
    let f = both (p == q) (b == c) e.1 in
    λ j. Pin (eqb-true i k e.0 j) (eqb-true p q f.0 j) (eqb-true b c f.1 j)
same_node-is (Net m) (Net n) h = ap Net (eqb-true m n h)
same_node-is Zero Zero h = refl
same_node-is One One h = refl
same_node-is x y h = absurd (false≢true h)

-- two bits of instances are the same where their nodes are
any_pin : (x : PinBit) (keys : List PinBit) → list_any (pin_eq.it x) keys ≡ list_any (same_node (pin_node x)) (map pin_node keys)
any_pin x [] = refl
any_pin x (key ∷ keys) = λ j. pin_eq.it x key || any_pin x keys j

-- no bit of an instance is an own bit
no_pin : (port bit : ℕ) (pins : List PinBit) → list_any (same_node (Port port bit)) (map pin_node pins) ≡ false
no_pin port bit [] = refl
no_pin port bit (pin ∷ pins) = no_pin port bit pins

-- no own bit is a bit of an instance
no_own : (instance port bit : ℕ) (own : List (OwnWord × ℕ)) → list_any (same_node (Pin instance port bit)) (own_nodes own) ≡ false
no_own instance port bit [] = refl
no_own instance port bit (e ∷ es) =
    list_any-append (same_node (Pin instance port bit)) (first_nodes (word_node e.0) e.1 64) (own_nodes es)
    ∙ λ j. none_first (same_node (Pin instance port bit)) (word_node e.0) e.1 64 (λ i below. refl) j || no_own instance port bit es j

-- the key of a bit of an instance
abbrev pub pin_key : BitSpot → ℕ → PinBit
pin_key spot instance = record { instance = instance; port = spot.port; bit = spot.bit }

own_node_is : (spot : BitSpot) → spot.instance ≡ None → Port spot.port spot.bit ≡ node_at spot
own_node_is spot is_own = ap (λ i. node_of_bit i spot.port spot.bit) (sym is_own)

pin_node_is : (spot : BitSpot) (instance : ℕ) → spot.instance ≡ Some instance → pin_node (pin_key spot instance) ≡ node_at spot
pin_node_is spot instance is_pin = ap (λ i. node_of_bit i spot.port spot.bit) (sym is_pin)

-- a test passes among the three where it passes in one of them
three : (test : Node → Bool) (own : List (OwnWord × ℕ)) (masks : List ℕ) (keys : List PinBit)
    → list_any test (own_nodes own ++ pin_nodes masks keys)
    ≡ (list_any test (own_nodes own) || (list_any test (nodes_from 0 masks) || list_any test (map pin_node keys)))
three test own masks keys =
    list_any-append test (own_nodes own) (pin_nodes masks keys)
    ∙ ap (λ b. list_any test (own_nodes own) || b) (list_any-append test (nodes_from 0 masks) (map pin_node keys))

-- an own bit is there where the mask of its word has it
pub has_own : (spot : BitSpot) (own : List (OwnWord × ℕ)) (masks : List ℕ) (keys : List PinBit) (all : List Node) → AreTaken own masks keys
    → spot.instance ≡ None → own_nodes own ++ pin_nodes masks keys ≡ all
    → has_bit (mask_of own (own_word spot.port spot.bit)) (spot.bit % 64) ≡ list_any (same_node (node_at spot)) all
has_own spot own masks keys all taken is_own is_all =
    let test = same_node (Port spot.port spot.bit) in
    let none : (list_any test (nodes_from 0 masks) || list_any test (map pin_node keys)) ≡ false =
    λ j. no_port spot.port spot.bit 0 masks j || no_pin spot.port spot.bit keys j in
    sym (has_words spot.port spot.bit own taken.words)
    ∙ (or_none (list_any test (own_nodes own)) (list_any test (nodes_from 0 masks) || list_any test (map pin_node keys)) none
    ∙ (sym (three test own masks keys)
    ∙ λ j. list_any (same_node (own_node_is spot is_own j)) (is_all j)))

-- a bit of an instance is none of the own bits
among_pins : (spot : BitSpot) (instance : ℕ) (own : List (OwnWord × ℕ)) (masks : List ℕ) (keys : List PinBit) (all : List Node)
    → spot.instance ≡ Some instance → own_nodes own ++ pin_nodes masks keys ≡ all
    → (list_any (same_node (pin_node (pin_key spot instance))) (nodes_from 0 masks) || list_any (same_node (pin_node (pin_key spot instance))) (map pin_node keys))
    ≡ list_any (same_node (node_at spot)) all
among_pins spot instance own masks keys all is_pin is_all =
    let test = same_node (pin_node (pin_key spot instance)) in
    ap (λ b. b || (list_any test (nodes_from 0 masks) || list_any test (map pin_node keys))) (sym (no_own instance spot.port spot.bit own))
    ∙ (sym (three test own masks keys)
    ∙ λ j. list_any (same_node (pin_node_is spot instance is_pin j)) (is_all j))

-- a first bit of an instance is there where its mask has it
pub has_first_pin : (spot : BitSpot) (instance : ℕ) (own : List (OwnWord × ℕ)) (masks : List ℕ) (keys : List PinBit) (all : List Node) → AreTaken own masks keys
    → spot.instance ≡ Some instance → own_nodes own ++ pin_nodes masks keys ≡ all → is_first (pin_key spot instance) (length masks) ≡ true
    → has_first masks (pin_key spot instance) ≡ list_any (same_node (node_at spot)) all
has_first_pin spot instance own masks keys all taken is_pin is_all first =
    let key = pin_key spot instance in
    let test = same_node (pin_node key) in
    sym (has_first_node key masks (first_is key (length masks) first))
    ∙ (or_none (list_any test (nodes_from 0 masks)) (list_any test (map pin_node keys)) (not_in_others key (length masks) keys first taken.others)
    ∙ among_pins spot instance own masks keys all is_pin is_all)

-- another bit of an instance is there where its key is
pub has_other_pin : (spot : BitSpot) (instance : ℕ) (own : List (OwnWord × ℕ)) (masks : List ℕ) (keys : List PinBit) (all : List Node)
    → spot.instance ≡ Some instance → own_nodes own ++ pin_nodes masks keys ≡ all → is_first (pin_key spot instance) (length masks) ≡ false
    → list_any (pin_eq.it (pin_key spot instance)) keys ≡ list_any (same_node (node_at spot)) all
has_other_pin spot instance own masks keys all is_pin is_all other =
    let key = pin_key spot instance in
    any_pin key keys
    ∙ (ap (λ b. b || list_any (same_node (pin_node key)) (map pin_node keys)) (sym (not_in_masks key masks other))
    ∙ among_pins spot instance own masks keys all is_pin is_all)

-- one more key, in a list where keys are the same as their nodes are
one_more_key : {T : Type 0} (eq : T → T → Bool) (node : T → Node) (keys new : List T) (key : T)
    → list_any (eq key) keys ≡ list_any (same_node (node key)) (map node keys)
    → new ≡ insert_key eq keys key
    → (other : Node) → list_any (same_node other) (map node new) ≡ (same_node other (node key) || list_any (same_node other) (map node keys))
one_more_key eq node keys new key agrees is_new other = ap (λ ks. list_any (same_node other) (map node ks)) is_new ∙ by (list_any (eq key) keys) refl
  where
    by : (b : Bool) → list_any (eq key) keys ≡ b → list_any (same_node other) (map node (cond b keys (keys ++ key ∷ []))) ≡ (same_node other (node key) || list_any (same_node other) (map node keys))
    by true h = or_again (same_node other (node key)) (list_any (same_node other) (map node keys))
        (λ e. ap (λ n. list_any (same_node n) (map node keys)) (same_node-is other (node key) e) ∙ (sym agrees ∙ h))
    by false h =
        ap (list_any (same_node other)) (map-append node keys (key ∷ []))
        ∙ (list_any-append (same_node other) (map node keys) (node key ∷ []) ∙ or_comm (same_node other (node key)) (list_any (same_node other) (map node keys)))

-- one more own bit
pub one_more_own : (spot : BitSpot) (own new : List (OwnWord × ℕ)) (masks : List ℕ) (keys : List PinBit) (all : List Node)
    → spot.instance ≡ None → own_nodes own ++ pin_nodes masks keys ≡ all → new ≡ with_own own spot.port spot.bit
    → (other : Node) → list_any (same_node other) (own_nodes new ++ pin_nodes masks keys) ≡ (same_node other (node_at spot) || list_any (same_node other) all)
one_more_own spot own new masks keys all is_own is_all is_new other =
    let test = same_node other in
    let of_pins = list_any test (nodes_from 0 masks) || list_any test (map pin_node keys) in
    three test new masks keys
    ∙ (ap (λ b. b || of_pins) (ap (λ entries. list_any test (own_nodes entries)) is_new ∙ one_more test own spot.port spot.bit)
    ∙ (or_first (test (Port spot.port spot.bit)) (list_any test (own_nodes own)) of_pins
    ∙ (ap (λ b. test (Port spot.port spot.bit) || b) (sym (three test own masks keys))
    ∙ λ j. test (own_node_is spot is_own j) || list_any test (is_all j))))

-- one more first bit of an instance
pub one_more_first_pin : (spot : BitSpot) (instance : ℕ) (own : List (OwnWord × ℕ)) (masks new : List ℕ) (keys : List PinBit) (all : List Node)
    → spot.instance ≡ Some instance → own_nodes own ++ pin_nodes masks keys ≡ all → is_first (pin_key spot instance) (length masks) ≡ true
    → new ≡ with_first masks (pin_key spot instance)
    → (other : Node) → list_any (same_node other) (own_nodes own ++ pin_nodes new keys) ≡ (same_node other (node_at spot) || list_any (same_node other) all)
one_more_first_pin spot instance own masks new keys all is_pin is_all first is_new other =
    let key = pin_key spot instance in
    let test = same_node other in
    let of_own = list_any test (own_nodes own) in
    let of_masks = list_any test (nodes_from 0 masks) in
    let of_keys = list_any test (map pin_node keys) in
    let more = ap (λ m. list_any test (nodes_from 0 m)) is_new ∙ one_more_first test key masks (first_is key (length masks) first) in
    three test own new keys
    ∙ (ap (λ b. of_own || b) (ap (λ b. b || of_keys) more ∙ or_first (test (pin_node key)) of_masks of_keys)
    ∙ (or_second (test (pin_node key)) of_own (of_masks || of_keys)
    ∙ (ap (λ b. test (pin_node key) || b) (sym (three test own masks keys))
    ∙ λ j. test (pin_node_is spot instance is_pin j) || list_any test (is_all j))))

-- one more other bit of an instance
pub one_more_other_pin : (spot : BitSpot) (instance : ℕ) (own : List (OwnWord × ℕ)) (masks : List ℕ) (keys new : List PinBit) (all : List Node)
    → spot.instance ≡ Some instance → own_nodes own ++ pin_nodes masks keys ≡ all → new ≡ insert_key pin_eq.it keys (pin_key spot instance)
    → (other : Node) → list_any (same_node other) (own_nodes own ++ pin_nodes masks new) ≡ (same_node other (node_at spot) || list_any (same_node other) all)
one_more_other_pin spot instance own masks keys new all is_pin is_all is_new other =
    let key = pin_key spot instance in
    let test = same_node other in
    let of_own = list_any test (own_nodes own) in
    let of_masks = list_any test (nodes_from 0 masks) in
    let of_keys = list_any test (map pin_node keys) in
    let more = one_more_key pin_eq.it pin_node keys new key (any_pin key keys) is_new other in
    three test own masks new
    ∙ (ap (λ b. of_own || b) (ap (λ b. of_masks || b) more ∙ or_second (test (pin_node key)) of_masks of_keys)
    ∙ (or_second (test (pin_node key)) of_own (of_masks || of_keys)
    ∙ (ap (λ b. test (pin_node key) || b) (sym (three test own masks keys))
    ∙ λ j. test (pin_node_is spot instance is_pin j) || list_any test (is_all j))))

-- an own bit that is put, or not for want of memory, leaves each bit its place
pub own_kept : {E : Type 0} (result : Result (Unit {0}) E) (own new : List (OwnWord × ℕ)) (masks : List ℕ) (keys : List PinBit) (port bit : ℕ) → AreTaken own masks keys
    → OnOk result (new ≡ with_own own port bit) → OnErr result (new ≡ own) → IsDistinct same_word (keys_of new)
    → AreTaken new masks keys
own_kept (Ok done) own new masks keys port bit taken is_new is_same distinct = record {
  words = record {
    halves = All-same HasHalves (keys_of new) (keys_of (with_own own port bit)) (ap keys_of is_new) (halves_with own port bit taken.words.halves);
    apart = distinct;
  };
  others = taken.others;
}
own_kept (Err failed) own new masks keys port bit taken is_new is_same distinct = record {
  words = record {
    halves = All-same HasHalves (keys_of new) (keys_of own) (ap keys_of is_same) taken.words.halves;
    apart = distinct;
  };
  others = taken.others;
}

-- so does another bit of an instance
pub other_kept : {E : Type 0} (result : Result (Unit {0}) E) (own : List (OwnWord × ℕ)) (masks : List ℕ) (keys new : List PinBit) (key : PinBit) → AreTaken own masks keys
    → is_first key (length masks) ≡ false → OnOk result (new ≡ insert_key pin_eq.it keys key) → OnErr result (new ≡ keys)
    → AreTaken own masks new
other_kept (Ok done) own masks keys new key taken other is_new is_same = record {
  words = taken.words;
  others = subst (AreOthers (length masks)) (sym is_new) (by (list_any (pin_eq.it key) keys));
}
  where
    by : (b : Bool) → AreOthers (length masks) (cond b keys (keys ++ key ∷ []))
    by true = taken.others
    by false = All-append (λ k. is_first k (length masks) ≡ false) keys (key ∷ []) taken.others (All-cons (λ k. is_first k (length masks) ≡ false) key [] other (All-nil (λ k. is_first k (length masks) ≡ false)))
other_kept (Err failed) own masks keys new key taken other is_new is_same = record {
  words = taken.words;
  others = subst (AreOthers (length masks)) (sym is_same) taken.others;
}

-- no bits are taken at first
pub none_taken : (masks : List ℕ) (instances : ℕ) → masks ≡ replicate instances 0 → own_nodes [] ++ pin_nodes masks [] ≡ []
none_taken masks instances are = ap (λ m. pin_nodes m []) are ∙ ap (λ l. l ++ []) (no_firsts 0 instances)

pub none_apart : (masks : List ℕ) → AreTaken [] masks []
unfolding IsDistinct
none_apart masks = record {
  words = record { halves = All-nil HasHalves; apart = tt };
  others = All-nil (λ key. is_first key (length masks) ≡ false);
}
