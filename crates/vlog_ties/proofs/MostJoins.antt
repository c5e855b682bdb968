-- A module has no more joins than its left sides have bits.
use Rattle.std.proofs.Common.{◌≡◌, ◌+◌, ◌<◌, ◌≤◌, ℕ, List, [], ◌∷◌, ◌++◌, None, Option, Some, ap, arith, flat_map, get_or, length, length-append, map, min, subst, sum_by, sym, take, ◌∙◌}
use Rattle.std.specs.List.{range_with_len}
use Rattle.std.proofs.lemmas.List.{length-map, map_more, take_all}
use Rattle.std.proofs.lemmas.List.Sums.{sum_by-cons, sum_by_push}
use Rattle.net_hier.specs.declared.nodes.Node.{Node}
use Rattle.net_hier.specs.declared.nodes.Node.TheVariants.{Pin as PinNode}
use Rattle.vlog_design.specs.Design.{join_of, joins_between, module_joins}
use Rattle.vlog_design.specs.Exprs.{bits}
use Rattle.vlog_design.specs.Names.{Signal, signal_named, signals}
use Rattle.vlog_design.proofs.BitCounts.{bits_width}
use Rattle.vlog_values.specs.declared.module.Module.{Module}
use Rattle.vlog_ties.specs.Ties.{Tied, Pin, Assign, Supply, all_tied, module_ties, most_joins, tied, tied_joins, tied_most}
use Rattle.vlog_ties.specs.declared.tie.Tie.{Tie}
use Rattle.vlog_ties.proofs.Counted.{length-range, slot_counted}
use Rattle.vlog_ties.proofs.ModuleLaws.{module_joined}

-- two bits are joined once at most
one_few : (a b : Option Node) → length (join_of a b) ≤ 1
one_few (Some a) (Some b) = omega arith
one_few (Some a) None = omega arith
one_few None b = omega arith

between_few : (left right : List (Option Node)) → length (joins_between left right) ≤ length left
unfolding joins_between
between_few [] right = omega arith
between_few (a ∷ left) [] = omega arith
between_few (a ∷ left) (b ∷ right) = omega (arith, length-append (join_of a b) (joins_between left right), one_few a b, between_few left right)

module _ (names : List Signal) where
  tie_few : (t : Tied) → length (tied_joins names t) ≤ tied_most names t
  tie_few (Pin instance number port port_number size value) =
      let pins : List (Option Node) = map (λ bit. Some (PinNode number port_number bit)) (range_with_len 0 size) in
      let e : length pins ≡ size = length-map (range_with_len 0 size) _ ∙ length-range 0 size in
      subst (λ n. length (joins_between pins (bits names value)) ≤ n) e (between_few pins (bits names value))
  tie_few (Assign left right) = subst (λ n. length (joins_between (bits names left) (bits names right)) ≤ n) (bits_width names left) (between_few (bits names left) (bits names right))
  tie_few (Supply name constant) = let e = slot_counted constant (signal_named names name) in omega (arith, e)

  ties_few : (ts : List Tied) → length (flat_map (tied_joins names) ts) ≤ sum_by (tied_most names) ts
  ties_few [] = omega arith
  ties_few (t ∷ ts) = omega (arith, length-append (tied_joins names t) (flat_map (tied_joins names) ts), sum_by-cons (tied_most names) t ts, tie_few t, ties_few ts)

  -- the bits of one more left side
  pub most_more : (ties : List Tie) (i : ℕ) (tie : Tie) (limit most more : ℕ) → tie ≡ get_or ties i tie → i < length ties → most ≡ min limit (sum_by (tied_most names) (all_tied (take i ties)))
      → more ≡ min limit (tied_most names (tied tie)) → min (most + more) limit ≡ min limit (sum_by (tied_most names) (all_tied (take (i + 1) ties)))
  most_more ties i tie limit most more is lt so_far is_more =
      let e : sum_by (tied_most names) (all_tied (take (i + 1) ties)) ≡ sum_by (tied_most names) (all_tied (take i ties)) + tied_most names (tied tie) =
      ap (sum_by (tied_most names)) (map_more tied ties i tie lt ∙ ap (λ t. all_tied (take i ties) ++ tied t ∷ []) (sym is)) ∙ sum_by_push (tied_most names) (all_tied (take i ties)) (tied tie) in
      grind arith

  pub most_done : (ties : List Tie) (i limit most : ℕ) → length ties ≤ i → most ≡ min limit (sum_by (tied_most names) (all_tied (take i ties))) → most ≡ min limit (sum_by (tied_most names) (all_tied ties))
  most_done ties i limit most le so_far = so_far ∙ ap (λ those. min limit (sum_by (tied_most names) (all_tied those))) (take_all i ties le)

-- a module has no more joins
pub joins_few : (modules : List Module) (m : Module) → length (module_joins modules m) ≤ most_joins modules m
unfolding most_joins
joins_few modules m = subst (λ joins. length joins ≤ sum_by (tied_most (signals m)) (module_ties modules m)) (module_joined modules m) (ties_few (signals m) (module_ties modules m))

-- the bits of the left sides of one module, by its ties
pub module_most : (modules : List Module) (m : Module) (table : List Signal) (ts : List Tied) (limit n : ℕ) → table ≡ signals m → ts ≡ module_ties modules m → n ≡ min limit (sum_by (tied_most table) ts) → n ≡ min limit (sum_by (most_joins modules) (m ∷ []))
unfolding most_joins
module_most modules m table ts limit n e f is =
    let same : sum_by (tied_most table) ts ≡ most_joins modules m = (λ j. sum_by (tied_most (e j)) (f j)) in
    let one : sum_by (most_joins modules) (m ∷ []) ≡ most_joins modules m = omega (arith, sum_by-cons (most_joins modules) m []) in
    is ∙ ap (min limit) (same ∙ sym one)
