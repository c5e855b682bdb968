-- ways up from a spot, and joined names
use Rattle.std.proofs.Common.{◌≡◌, ℕ, ◌+◌, ◌-◌, ◌<◌, ◌≤◌, List, [], ◌∷◌, ◌++◌, refl, sym, ◌∙◌, ap, subst, slice_get, get_or, Some, length, map, drop, append_assoc, arith}
use Rattle.std.specs.Prelude.{codes}
use Rattle.std.proofs.lemmas.List.{append-nil, drop_more}
use Rattle.std.proofs.lemmas.Option.{get_or_from_slice_get, slice_get_within}
use Rattle.net_graph.proofs.ListLaws.{same_element}
use Rattle.flat_numbers.specs.declared.spots.Spot.{Spot}
use Rattle.flat_classes.specs.Ways.{IsWay, at_top, below}
use Rattle.flat_classes.proofs.WayLaws.{WayStep, way_step}
use Rattle.net_flatten_rules.specs.Joined.{names_before}

-- the spots so far are the first of the way from the start, and what is left of it begins at the spot
pub record WayGrown (spots : List Spot) (start at : ℕ) (way : List ℕ) : Type 0 where
  pub left : List ℕ
  pub is_way : IsWay spots at left
  pub grown : (rest : List ℕ) → IsWay spots at rest → IsWay spots start (way ++ rest)

module _ (spots : List Spot) (start : ℕ) where
  pub way_begins : (way : List ℕ) → IsWay spots start way → WayGrown spots start start []
  way_begins way is = record { left = way; is_way = is; grown = λ rest r. r }

  module _ (at : ℕ) (way : List ℕ) (g : WayGrown spots start at way) where
    pub way_there : ¬ (at ≡ 0) → at < length spots
    way_there differ = let s : WayStep spots at g.left = way_step spots at g.left g.is_way differ in slice_get_within spots at s.spot s.is_spot

    module _ (differ : ¬ (at ≡ 0)) (d : Spot) where
      step : WayStep spots at g.left
      step = way_step spots at g.left g.is_way differ

      same_spot : step.spot ≡ get_or spots at d
      same_spot = sym (get_or_from_slice_get spots at step.spot d step.is_spot)

      pub way_more : WayGrown spots start (get_or spots at d).parent (way ++ at ∷ [])
      way_more = subst (λ (w : Spot). WayGrown spots start w.parent (way ++ at ∷ [])) same_spot (record {
        left = step.rest;
        is_way = step.is_way;
        grown = λ rest r. subst (IsWay spots start) (sym (append_assoc way (at ∷ []) rest)) (g.grown (at ∷ rest) (below step.is_spot step.less r));
      })

      pub way_less : (get_or spots at d).parent < at
      way_less = subst (λ (w : Spot). w.parent < at) same_spot step.less

    pub way_done : at ≡ 0 → IsWay spots start way
    way_done e = subst (IsWay spots start) (append-nil way) (g.grown [] (subst (λ n. IsWay spots n []) (sym e) at_top))

-- a spot has one way
pub one_way : (spots : List Spot) (start : ℕ) (a b : List ℕ) → IsWay spots start a → IsWay spots start b → a ≡ b
one_way spots start a b at_top of_b = by 0 b refl of_b
  where
    by : (n : ℕ) (b : List ℕ) → n ≡ 0 → IsWay spots n b → [] ≡ b
    by n b e at_top = refl
    by n b e (below is less up) = absurd (omega (arith, less, e))
one_way spots start a b (below {spot = spot} {way = rest} is less up) of_b = by start b is less refl (λ orest oup. one_way spots spot.parent rest orest up oup) of_b
  where
    by : (n : ℕ) (b : List ℕ) → slice_get spots n ≡ Some spot → spot.parent < n → n ≡ start → ((orest : List ℕ) → IsWay spots spot.parent orest → rest ≡ orest) → IsWay spots n b → start ∷ rest ≡ b
    by n b e lt f same_rest at_top = absurd (omega (arith, lt))
    by n b e lt f same_rest (below {spot = other} {way = orest} there oless oup) =
        let same : other ≡ spot = same_element spots n other spot there e in
        ap (λ m. m ∷ rest) (sym f) ∙ ap (λ r. n ∷ r) (same_rest orest (subst (λ (s : Spot). IsWay spots s.parent orest) same oup))

-- the names of the last spots are written
pub record NamesMade (name : ℕ → List ℕ) (above : List ℕ) (place : ℕ) (names : List ℕ) : Type 0 where
  pub within : place ≤ length above
  pub made : names ≡ names_before (map name (drop place above))

module _ (name : ℕ → List ℕ) (above : List ℕ) where
  pub names_start : (names : List ℕ) (place : ℕ) → place ≡ length above → drop place above ≡ [] → names ≡ [] → NamesMade name above place names
  names_start names place e none is = record { within = omega (arith, e); made = is ∙ ap (λ l. names_before (map name l)) (sym none) }

  pub names_more : (place : ℕ) (names more new : List ℕ) (spot : ℕ) (d : ℕ) → NamesMade name above place names → 0 < place → get_or above (place - 1) d ≡ spot →
      more ≡ names ++ name spot → new ≡ more ++ codes "/" → NamesMade name above (place - 1) new
  names_more place names more new spot d made pos is e f =
      let lt : place - 1 < length above = omega (arith, pos, made.within) in
      let z : place - 1 + 1 ≡ place = omega (arith, pos) in
      let parts : drop (place - 1) above ≡ spot ∷ drop place above = drop_more above (place - 1) d lt ∙ (ap (λ s. s ∷ drop (place - 1 + 1) above) is ∙ ap (λ n. spot ∷ drop n above) z) in
      record {
        within = omega (arith, lt);
        made = f ∙ (ap (λ w. w ++ codes "/") (e ∙ ap (λ w. w ++ name spot) made.made)
            ∙ (append_assoc (names_before (map name (drop place above))) (name spot) (codes "/") ∙ ap (λ l. names_before (map name l)) (sym parts)));
      }
