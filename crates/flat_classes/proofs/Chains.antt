-- No way down through a graph without recursion is longer than the graph.
use Rattle.std.proofs.Common.{◌≡◌, ℕ, zero, suc, ◌<◌, ◌≤◌, List, [], ◌∷◌, refl, sym, subst, length, get_or, arith}
use Rattle.indexmap.proofs.IndexTableLemmas.Probe.{pigeonhole}
use Rattle.net_graph.specs.Graph.{IsAbove, IsReached, ReachesItself}
use Rattle.net_graph.proofs.WalkLaws.{linked_along, linked_by, linked_itself}

-- the number at a place of a chain
abbrev pub chain_at : List ℕ → ℕ → ℕ
chain_at chain place = get_or chain place 0

-- numbers of the graph that differ, from each of which steps down lead to the last one
pub record IsChain (graph : List (List ℕ)) (chain : List ℕ) (last : ℕ) : Type 0 where
  pub below : (i : ℕ) → i < length chain → chain_at chain i < length graph
  pub differ : (i j : ℕ) → i < length chain → j < length chain → chain_at chain i ≡ chain_at chain j → i ≡ j
  pub reach : (i : ℕ) → i < length chain → IsReached graph (chain_at chain i) last

pub chain_few : {graph : List (List ℕ)} {chain : List ℕ} {last : ℕ} → IsChain graph chain last → length chain ≤ length graph
chain_few {graph = graph} {chain = chain} is = pigeonhole (length chain) (length graph) (chain_at chain) is.below is.differ

pub chain_first : (graph : List (List ℕ)) (number : ℕ) → number < length graph → IsChain graph (number ∷ []) number
chain_first graph number lt = record { below = below; differ = differ; reach = reach } where
  below : (i : ℕ) → i < 1 → chain_at (number ∷ []) i < length graph
  below zero less = lt
  below (suc i) less = absurd (omega arith)

  differ : (i j : ℕ) → i < 1 → j < 1 → chain_at (number ∷ []) i ≡ chain_at (number ∷ []) j → i ≡ j
  differ i j less lesser e = omega arith

  reach : (i : ℕ) → i < 1 → IsReached graph (chain_at (number ∷ []) i) number
  reach zero less = linked_itself (IsAbove graph) number
  reach (suc i) less = absurd (omega arith)

-- a chain goes on with a number that stands below its last one, where that one does not reach itself
pub chain_next : (graph : List (List ℕ)) (chain : List ℕ) (last number : ℕ) → ¬ ReachesItself graph last → IsAbove graph last number → number < length graph → IsChain graph chain last → IsChain graph (number ∷ chain) number
chain_next graph chain last number free above lt is = record { below = below; differ = differ; reach = reach } where
  below : (i : ℕ) → i < length (number ∷ chain) → chain_at (number ∷ chain) i < length graph
  below zero less = lt
  below (suc i) less = is.below i (omega arith)

  is_new : (i : ℕ) → i < length chain → number ≡ chain_at chain i → ⊥
  is_new i less e = free (record { below = number; first = above; back = subst (λ n. IsReached graph n last) (sym e) (is.reach i less) })

  differ : (i j : ℕ) → i < length (number ∷ chain) → j < length (number ∷ chain) → chain_at (number ∷ chain) i ≡ chain_at (number ∷ chain) j → i ≡ j
  differ zero zero less lesser e = refl
  differ zero (suc j) less lesser e = absurd (is_new j (omega arith) e)
  differ (suc i) zero less lesser e = absurd (is_new i (omega arith) (sym e))
  differ (suc i) (suc j) less lesser e = let z : i ≡ j = is.differ i j (omega arith) (omega arith) e in omega arith

  reach : (i : ℕ) → i < length (number ∷ chain) → IsReached graph (chain_at (number ∷ chain) i) number
  reach zero less = linked_itself (IsAbove graph) number
  reach (suc i) less = linked_along (is.reach i (omega arith)) (linked_by above)
