-- Ports, instances and nets have no more items than tokens.
use Rattle.std.proofs.Common.{ℕ, [], ◌∷◌, length, arith}
use Rattle.edif_values.specs.declared.keyword.Keyword.{Keyword}
use Rattle.edif_values.specs.declared.keyword.Keyword.TheVariants as k
use Rattle.edif_values.specs.Keywords.{same_keyword}
use Rattle.edif_keywords.specs.Grammar.{closing, choice, begin}
use Rattle.edif_names.specs.Grammar.{name, port_name}
use Rattle.edif_values.specs.declared.net.PortRef.{PortRef}
use Rattle.edif_nets.specs.Grammar.{designator, direction_words, direction, port_item, has_direction, port_keywords, port_rest, port, view_ref, instance_item, instance_keywords, instance_rest, instance, port_or_member, maybe_instance, port_ref, joined_keywords, joined_rest, joined, net_item, net_keywords, net_rest, net}
use Rattle.edif_values.specs.Sizes.{list_size, port_item_size, port_size, instance_item_size, instance_size, net_item_size, net_size}
use Rattle.edif_bounds.proofs.Bounds.{Bounded, bounded_gives, bounded_then, bounded_after, bounded_cond, bounded_items, bounded_behind, bounded_less}
use Rattle.edif_bounds.proofs.Status.{bounded_property, bounded_note}

-- ---- ports

bounded_direction : Bounded direction port_item_size 0
unfolding direction
bounded_direction = bounded_after (choice direction_words) (λ d. bounded_after closing (λ _. bounded_gives _ (omega arith)))

bounded_port_item : (q : Keyword) → Bounded (port_item q) port_item_size 0
unfolding port_item
bounded_port_item q =
    bounded_cond (same_keyword q k.Direction) direction _ bounded_direction
    (bounded_cond (same_keyword q k.Property) _ _ (bounded_then bounded_property (λ p. bounded_gives _ (omega arith)))
    (bounded_cond (same_keyword q k.Designator) _ _ (bounded_after designator (λ s. bounded_gives _ (omega arith))) (bounded_then (bounded_note q) (λ n. bounded_gives _ (omega arith)))))

bounded_port_rest : Bounded (port_rest []) (list_size port_item_size) 0
unfolding port_rest
bounded_port_rest = bounded_items port_item_size (λ is. port_keywords (has_direction is)) port_item bounded_port_item []

pub bounded_port : Bounded port port_size 0
unfolding port
bounded_port = bounded_after port_name (λ n. bounded_then bounded_port_rest (λ is. bounded_gives _ (omega arith)))

-- ---- instances

bounded_instance_item : (q : Keyword) → Bounded (instance_item q) instance_item_size 0
unfolding instance_item
bounded_instance_item q =
    bounded_cond (same_keyword q k.Property) _ _ (bounded_then bounded_property (λ p. bounded_gives _ (omega arith)))
    (bounded_cond (same_keyword q k.Designator) _ _ (bounded_after designator (λ s. bounded_gives _ (omega arith))) (bounded_then (bounded_note q) (λ n. bounded_gives _ (omega arith))))

bounded_instance_rest : Bounded (instance_rest []) (list_size instance_item_size) 0
unfolding instance_rest
bounded_instance_rest = bounded_items instance_item_size (λ _. instance_keywords) instance_item bounded_instance_item []

pub bounded_instance : Bounded instance instance_size 0
unfolding instance
bounded_instance = bounded_after name (λ n. bounded_after view_ref (λ v. bounded_then bounded_instance_rest (λ is. bounded_gives _ (omega arith))))

-- ---- nets

-- a reference to a port has no items
abbrev no_size : PortRef → ℕ
no_size r = 0

bounded_port_ref : Bounded port_ref no_size 0
unfolding port_ref
bounded_port_ref = bounded_after port_or_member (λ p. bounded_after maybe_instance (λ u. bounded_gives _ (omega arith)))

bounded_joined_rest : Bounded (joined_rest []) length 0
unfolding joined_rest
bounded_joined_rest = bounded_less (bounded_items no_size (λ _. joined_keywords) (λ _. port_ref) (λ _. bounded_port_ref) []) (λ rs. omega arith)

bounded_joined : Bounded joined length 0
unfolding joined
bounded_joined = bounded_after (begin (k.Joined ∷ [])) (λ _. bounded_joined_rest)

bounded_net_item : (q : Keyword) → Bounded (net_item q) net_item_size 0
unfolding net_item
bounded_net_item q = bounded_cond (same_keyword q k.Property) _ _ (bounded_then bounded_property (λ p. bounded_gives _ (omega arith))) (bounded_then (bounded_note q) (λ n. bounded_gives _ (omega arith)))

bounded_net_rest : Bounded (net_rest []) (list_size net_item_size) 0
unfolding net_rest
bounded_net_rest = bounded_items net_item_size (λ _. net_keywords) net_item bounded_net_item []

pub bounded_net : Bounded net net_size 0
unfolding net
bounded_net = bounded_after name (λ n. bounded_then bounded_joined (λ j. bounded_then (bounded_behind (length j) bounded_net_rest) (λ is. bounded_gives _ (omega arith))))
