-- Sets of nodes to which others are added.
use Rattle.std.proofs.Common.{◌≡◌, ℕ, ◌+◌, ◌<◌, ◌≤◌, ◌||◌, Bool, true, false, cond, List, [], ◌∷◌, ◌++◌, flat_map, take, length, get_or, refl, sym, ◌∙◌, ap, subst, arith, append-nil}
use Rattle.std.specs.List.{list_any, range_with_len}
use Rattle.std.proofs.lemmas.Bool.{false≢true}
use Rattle.std.proofs.lemmas.List.{take_more, take_all}
use Rattle.std.proofs.lemmas.List.Concat.{flat_map-append}
use Rattle.std.proofs.lemmas.List.Folds.{list_any-append}
use Rattle.net_hier.specs.NodeTies.{node_ties}
use Rattle.net_hier.specs.contracts.nodes.NodePartialEq.TheImpl.{eq-value}
use Rattle.net_hier.specs.declared.nodes.Node.{Node}
use Rattle.net_bits.specs.Neighbours.{same_node}
use Rattle.to_verilog_classes.specs.Roots.{AddsKeys}
use Rattle.to_verilog_classes.proofs.GroupLaws.{range_more}
use Rattle.to_verilog_classes.proofs.NodeLaws.{same_node-symm}

-- the two tests of whether nodes are the same
any_same : (node : Node) (nodes : List Node) → list_any (eq-value.it node) nodes ≡ list_any (same_node node) nodes
any_same node nodes = λ i. list_any (λ x. node_ties node x i) nodes

or_none : (a : Bool) → a ≡ (a || false)
or_none true = refl
or_none false = refl

or_assoc : (a b c : Bool) → ((a || b) || c) ≡ (a || (b || c))
or_assoc true b c = refl
or_assoc false b c = refl

-- the set that stays has nothing more
pub keys_none : (keys : List Node) → AddsKeys keys keys []
keys_none keys node = or_none (list_any (same_node node) keys)

chosen : (a b c : Bool) → a ≡ b → cond a true c ≡ (c || (b || false))
chosen true true true e = refl
chosen true true false e = refl
chosen false false true e = refl
chosen false false false e = refl
chosen true false c e = absurd (false≢true (sym e))
chosen false true c e = absurd (false≢true e)

-- a key that is put into the set
pub key_added : (old new : List Node) (key : Node) → ((node : Node) → list_any (eq-value.it node) new ≡ cond (eq-value.it key node) true (list_any (eq-value.it node) old)) → AddsKeys old new (key ∷ [])
key_added old new key h node =
    sym (any_same node new) ∙ (h node
    ∙ (ap (λ b. cond (eq-value.it key node) true b) (any_same node old)
    ∙ chosen (eq-value.it key node) (same_node node key) (list_any (same_node node) old) (node_ties key node ∙ same_node-symm key node)))

-- one part after another
pub keys_more : (old now new xs ys : List Node) → AddsKeys old now xs → AddsKeys now new ys → AddsKeys old new (xs ++ ys)
keys_more old now new xs ys f g node =
    g node ∙ (ap (λ b. b || list_any (same_node node) ys) (f node)
    ∙ (or_assoc (list_any (same_node node) old) (list_any (same_node node) xs) (list_any (same_node node) ys)
    ∙ ap (λ b. list_any (same_node node) old || b) (sym (list_any-append (same_node node) xs ys))))

pub keys_turn : {X : Type 0} (part : X → List Node) (items : List X) (i : ℕ) (d : X) → i < length items → (old now new : List Node) →
    AddsKeys old now (flat_map part (take i items)) → AddsKeys now new (part (get_or items i d)) → AddsKeys old new (flat_map part (take (i + 1) items))
keys_turn part items i d h old now new f g =
    subst (AddsKeys old new) (sym (ap (flat_map part) (take_more items i d h) ∙ (flat_map-append part (take i items) (get_or items i d ∷ []) ∙ ap (λ l. flat_map part (take i items) ++ l) (append-nil (part (get_or items i d))))))
    (keys_more old now new (flat_map part (take i items)) (part (get_or items i d)) f g)

pub keys_all : {X : Type 0} (part : X → List Node) (items : List X) (i : ℕ) → length items ≤ i → (old new : List Node) → AddsKeys old new (flat_map part (take i items)) → AddsKeys old new (flat_map part items)
keys_all part items i h old new f = subst (λ l. AddsKeys old new (flat_map part l)) (take_all i items h) f

pub keys_of_class : (part : ℕ → List Node) (class : ℕ) (now new : List Node) → AddsKeys [] now (flat_map part (range_with_len 0 class)) → AddsKeys now new (part class) → AddsKeys [] new (flat_map part (range_with_len 0 (class + 1)))
keys_of_class part class now new f g =
    let z : 0 + class ≡ class = omega arith in
    subst (AddsKeys [] new) (sym (ap (flat_map part) (range_more 0 class ∙ ap (λ k. range_with_len 0 class ++ k ∷ []) z) ∙ (flat_map-append part (range_with_len 0 class) (class ∷ []) ∙ ap (λ l. flat_map part (range_with_len 0 class) ++ l) (append-nil (part class)))))
    (keys_more [] now new (flat_map part (range_with_len 0 class)) (part class) f g)
