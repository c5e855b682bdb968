-- the nets of groups, and their joins
use Rattle.std.proofs.Common.{◌≡◌, ℕ, ◌+◌, ◌<◌, ◌≤◌, List, [], ◌∷◌, ◌++◌, true, sym, ◌∙◌, ap, subst, get_or, length, drop, filter, map, leb, eqb, arith, All}
use Rattle.std.specs.List.{range_with_len}
use Rattle.std.proofs.lemmas.Bool.Decides.{nat_tests}
use Rattle.std.proofs.lemmas.List.Folds.{list_any_at}
use Rattle.std.proofs.lemmas.List.FromFn.{map-range_with_len_more}
use Rattle.std.proofs.lemmas.Map.Steps.{le-length_from_below}
use Rattle.std.proofs.lemmas.Option.{get_or_from_slice_get, slice_get-get_or}
use Rattle.flat_classes.specs.Groups.{AreGroupNumbers, AreMembers}
use Rattle.flat_classes.specs.Terminals.{FlatValue}
use Rattle.flat_classes.specs.declared.flat.Terminal.{Terminal}
use Rattle.flat_report.proofs.GroupTexts.{member_within, members_are}
use Rattle.net_flatten_cells.specs.Wired.{AreWithin, wide}
use Rattle.net_flatten_rules.specs.FlatDesign.{joins_from, numbered_net, wired}
use Rattle.net_hier.specs.declared.cells.HNet.{HNet}
use Rattle.net_hier.specs.declared.nodes.Join.{Join}

-- the joins of the groups before this place are made, and their nets have the numbers below `net`
pub record JoinsMade (terminals : List Terminal) (leaves : List ℕ) (groups : List (List ℕ)) (place : ℕ) (joins : List Join) (net : ℕ) : Type 0 where
  pub few : net ≤ place
  pub count : net + length (wide (drop place groups)) ≡ length (wide groups)
  pub made : joins ++ joins_from terminals leaves net (wide (drop place groups)) ≡ joins_from terminals leaves 0 (wide groups)

pub nets_more : (nets more : List HNet) (number : ℕ) (net : HNet) → nets ≡ map numbered_net (range_with_len 0 number) → net ≡ numbered_net number → more ≡ nets ++ net ∷ [] → more ≡ map numbered_net (range_with_len 0 (number + 1))
nets_more nets more number net are is added =
    added
    ∙ (ap (λ l. l ++ net ∷ []) are
    ∙ (ap (λ n. map numbered_net (range_with_len 0 number) ++ n ∷ []) is
    ∙ sym (map-range_with_len_more numbered_net 0 number number (omega arith))))

-- ---- the groups of a design

-- there are at most as many groups as places
pub groups_few : (groups : List ℕ) (count places : ℕ) → AreGroupNumbers groups count places → count ≤ places
groups_few groups count places are =
    let le = le-length_from_below groups count (λ group lt.
    let (place, within, is) = are.in_order.used group lt in
    list_any_at (eqb group) groups place 0 within (same group (get_or groups place 0) is)) in
    omega (arith, le, are.len)
  where
    same : (a b : ℕ) → b ≡ a → eqb a b ≡ true
    same a b e = grind (arith, nat_tests)

module _ (flat : FlatValue) (lists : List (List ℕ)) (are : AreMembers flat.groups flat.count lists) where
  pub wide_wired : wide lists ≡ wired flat
  wide_wired = ap (filter (λ members. leb 2 (length members))) (members_are flat lists are)

  pub lists_few : (places : ℕ) → AreGroupNumbers flat.groups flat.count places → length lists ≤ places
  lists_few places numbers = let f = groups_few flat.groups flat.count places numbers in omega (arith, f, are.len)

  pub lists_within : (bound : ℕ) → length flat.groups ≡ bound → AreWithin bound lists
  lists_within bound e k d lt =
      let one : get_or lists k [] ≡ get_or lists k d = get_or_from_slice_get lists k (get_or lists k d) [] (slice_get-get_or lists k d lt) in
      subst (All (λ place. place < bound)) one (member_within flat lists k bound are lt e)
