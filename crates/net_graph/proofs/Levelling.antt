-- The walk that finds levels, and what levels show.
use Rattle.std.proofs.Common.{◌≡◌, ℕ, zero, suc, ◌+◌, ◌<◌, ◌≤◌, Bool, true, false, List, [], ◌∷◌, ◌++◌, length, get_or, replicate, set, slice_get, Some, refl, sym, ◌∙◌, ap, subst, arith}
use Rattle.std.proofs.lemmas.List.{length-replicate}
use Rattle.std.proofs.Math.ListN.{length-set}
use Rattle.net_graph.specs.Graph.{HasList, IsAbove, IsInRange, ReachesItself}
use Rattle.net_graph.specs.Levels.{FallsAt, LevelsFall, level_at}
use Rattle.net_graph.specs.Walks.{Leads}
use Rattle.net_graph.specs.declared.order.Visit.{Visit}
use Rattle.net_graph.proofs.Walking.{Each, each_front, each_last, each_more}

-- the numbers of the path are in the graph
pub record StaysIn (graph : List (List ℕ)) (seen : List Bool) (stack : List Visit) : Type 0 where
  pub seen_length : length seen ≡ length graph
  pub stack_in : Each (λ visit. visit.number < length graph) stack

module _ (graph : List (List ℕ)) (in_range : IsInRange graph) where
  pub stays_first : (start : ℕ) (seen : List Bool) (stack : List Visit) → start < length graph → seen ≡ replicate (length graph) false → stack ≡ record { number = start; followed = 0 } ∷ [] → StaysIn graph (set seen start true) stack
  stays_first start seen stack lt is_seen is_stack = record {
    seen_length = length-set seen start true ∙ (ap length is_seen ∙ length-replicate (length graph) false);
    stack_in = subst (Each (λ visit. visit.number < length graph)) (sym is_stack) (each_more (λ visit. visit.number < length graph) [] (record { number = start; followed = 0 }) (λ place v e. absurd (cc)) lt);
  }

  pub stays_within : (seen : List Bool) (stack rest : List Visit) (visit : Visit) → StaysIn graph seen stack → stack ≡ rest ++ visit ∷ [] → visit.number < length graph
  stays_within seen stack rest visit s e = each_last (λ v. v.number < length graph) rest visit (subst (Each (λ v. v.number < length graph)) e s.stack_in)

  pub stays_left : (seen : List Bool) (stack rest : List Visit) (visit : Visit) → StaysIn graph seen stack → stack ≡ rest ++ visit ∷ [] → StaysIn graph seen rest
  stays_left seen stack rest visit s e = record { seen_length = s.seen_length; stack_in = each_front (λ v. v.number < length graph) rest visit (subst (Each (λ v. v.number < length graph)) e s.stack_in) }

  pub stays_on : (seen : List Bool) (stack rest new : List Visit) (visit : Visit) → StaysIn graph seen stack → stack ≡ rest ++ visit ∷ [] → new ≡ rest ++ record { number = visit.number; followed = visit.followed + 1 } ∷ [] → StaysIn graph seen new
  stays_on seen stack rest new visit s e f = record {
    seen_length = s.seen_length;
    stack_in = subst (Each (λ v. v.number < length graph)) (sym f)
        (each_more (λ v. v.number < length graph) rest (record { number = visit.number; followed = visit.followed + 1 }) (stays_left seen stack rest visit s e).stack_in (stays_within seen stack rest visit s e));
  }

  pub stays_new : (seen : List Bool) (stack new : List Visit) (number : ℕ) → StaysIn graph seen stack → number < length graph → new ≡ stack ++ record { number = number; followed = 0 } ∷ [] → StaysIn graph (set seen number true) new
  stays_new seen stack new number s lt f = record {
    seen_length = length-set seen number true ∙ s.seen_length;
    stack_in = subst (Each (λ v. v.number < length graph)) (sym f) (each_more (λ v. v.number < length graph) stack (record { number = number; followed = 0 }) s.stack_in lt);
  }

  pub below_within : (number : ℕ) (list : List ℕ) (followed d : ℕ) → HasList graph number list → followed < length list → get_or list followed d < length graph
  below_within number list followed d has h =
      in_range number (get_or list followed d) (record { numbers = list; are_below = has; place = followed; is_there = read_within list followed d h })
    where
      read_within : (xs : List ℕ) (i e : ℕ) → i < length xs → slice_get xs i ≡ Some (get_or xs i e)
      read_within [] i e h = absurd (omega arith)
      read_within (x ∷ xs) zero e h = refl
      read_within (x ∷ xs) (suc i) e h = read_within xs i e (omega arith)

-- the fact holds of the numbers before a place
pub record Before (Holds : ℕ → Type 0) (numbers : List ℕ) (i : ℕ) : Type 0 where
  pub before : (place number : ℕ) → place < i → slice_get numbers place ≡ Some number → Holds number

levels_descend : (graph : List (List ℕ)) (levels : List ℕ) → LevelsFall graph levels → (a : ℕ) (places : List ℕ) (b : ℕ) → Leads (IsAbove graph) a places b → level_at levels b ≤ level_at levels a
levels_descend graph levels fall a [] b lead = subst (λ m. level_at levels m ≤ level_at levels a) lead (omega arith)
levels_descend graph levels fall a (middle ∷ places) b lead =
    let above : IsAbove graph a middle = lead.0 in
    let here : level_at levels middle ≤ level_at levels a = fall a above.numbers above.are_below above.place middle above.is_there in
    let rest : level_at levels b ≤ level_at levels middle = levels_descend graph levels fall middle places b lead.1 in
    omega arith

-- a number whose steps all lead to a lesser level does not reach itself
pub falls_free : (graph : List (List ℕ)) (levels : List ℕ) (number : ℕ) → LevelsFall graph levels → FallsAt graph levels number → ¬ ReachesItself graph number
falls_free graph levels number fall falls reaches =
    let above : IsAbove graph number reaches.below = reaches.first in
    let here : level_at levels reaches.below < level_at levels number = falls above.numbers above.are_below above.place reaches.below above.is_there in
    let back : level_at levels number ≤ level_at levels reaches.below = levels_descend graph levels fall reaches.below reaches.back.places number reaches.back.lead in
    omega arith
