-- Places that an equivalence joins are groups, numbered in the order of their first places, up to double negation.
use Rattle.std.proofs.Common.{◌≡◌, ℕ, zero, suc, ◌<◌, ◌⊎◌, inl, inr, List, [], ◌∷◌, ◌++◌, refl, sym, ◌∙◌, ap, subst, length, arith}
use Rattle.std.specs.Prelude.{◌↔◌}
use Rattle.std.proofs.Math.Seq.{get_or-append_seam}
use Rattle.std.proofs.lemmas.Bool.{cases_lt}
use Rattle.std.proofs.lemmas.List.{get_or_append_left, length-append}
use Rattle.flat_classes.specs.Groups.{AreInOrder, group_at}
use Rattle.net_flatten_answers.proofs.Chosen.{either_way}

pub record IsEquivalence (R : ℕ → ℕ → Type 0) : Type 0 where
  pub itself : (i : ℕ) → R i i
  pub back : (i j : ℕ) → R i j → R j i
  pub along : (i j k : ℕ) → R i j → R j k → R i k

-- so many groups of so many places
pub record AreGrouped (R : ℕ → ℕ → Type 0) (places : ℕ) (groups : List ℕ) (count : ℕ) : Type 0 where
  pub len : length groups ≡ places
  pub in_order : AreInOrder groups count
  pub same : (i j : ℕ) → i < places → j < places → (group_at groups i ≡ group_at groups j) ↔ R i j

module _ (R : ℕ → ℕ → Type 0) (is : IsEquivalence R) (n : ℕ) (groups : List ℕ) (count : ℕ) (grouped : AreGrouped R n groups count) (group : ℕ) where
  abbrev more : List ℕ
  more = groups ++ group ∷ []

  longer : length more ≡ suc n
  longer = let a = length-append groups (group ∷ []) in let l = grouped.len in omega (arith, a, l)

  at_front : (i : ℕ) → i < n → group_at more i ≡ group_at groups i
  at_front i lt = let l = grouped.len in get_or_append_left groups (group ∷ []) 0 i (omega (arith, lt, l))

  at_last : group_at more n ≡ group
  at_last = ap (group_at more) (sym grouped.len) ∙ get_or-append_seam groups group [] 0

  -- a place is one of those before, or the last one
  which : (i : ℕ) → i < suc n → (i < n) ⊎ (i ≡ n)
  which i lt = elim (cases_lt i n) [ inl less ↦ inl less | inr ge ↦ inr (omega (arith, lt, ge)) ]

  module _ (with_last : (j : ℕ) → j < n → (group ≡ group_at groups j) ↔ R n j) where
    last_to : (j : ℕ) → j < n → (group_at more n ≡ group_at more j) ↔ R n j
    last_to j lt = (λ e. (with_last j lt).0 (sym at_last ∙ (e ∙ at_front j lt)), λ r. at_last ∙ ((with_last j lt).1 r ∙ sym (at_front j lt)))

    both : (i j : ℕ) → i < suc n → j < suc n → (group_at more i ≡ group_at more j) ↔ R i j
    both i j li lj = elim (which i li) as (λ _. (group_at more i ≡ group_at more j) ↔ R i j) [
      | inl less ↦ elim (which j lj) as (λ _. (group_at more i ≡ group_at more j) ↔ R i j) [
        | inl other ↦ (
          λ e. (grouped.same i j less other).0 (sym (at_front i less) ∙ (e ∙ at_front j other)),
          λ r. at_front i less ∙ ((grouped.same i j less other).1 r ∙ sym (at_front j other)),
        )
        | inr last ↦ (
          λ e. subst (R i) (sym last) (is.back n i ((last_to i less).0 (sym (subst (λ k. group_at more i ≡ group_at more k) last e)))),
          λ r. subst (λ k. group_at more i ≡ group_at more k) (sym last) (sym ((last_to i less).1 (is.back i n (subst (R i) last r)))),
        )
      ]
      | inr last ↦ elim (which j lj) as (λ _. (group_at more i ≡ group_at more j) ↔ R i j) [
        | inl other ↦ (
          λ e. subst (λ k. R k j) (sym last) ((last_to j other).0 (subst (λ k. group_at more k ≡ group_at more j) last e)),
          λ r. subst (λ k. group_at more k ≡ group_at more j) (sym last) ((last_to j other).1 (subst (λ k. R k j) last r)),
        )
        | inr too ↦ (λ e. subst (R i) (last ∙ sym too) (is.itself i), λ r. ap (group_at more) (last ∙ sym too))
      ]
    ]

  -- the last place is in the group of a place before it
  joined : (i : ℕ) → i < n → R n i → group ≡ group_at groups i → AreGrouped R (suc n) more count
  joined i lt near e = record {
    len = longer;
    in_order = record { within = within; used = used; ordered = ordered };
    same = both (λ j lj. (
      λ f. is.along n i j near ((grouped.same i j lt lj).0 (sym e ∙ f)),
      λ r. e ∙ (grouped.same i j lt lj).1 (is.along i n j (is.back n i near) r),
    ));
  }
    where
      inside : i < length groups
      inside = let l = grouped.len in omega (arith, lt, l)

      within : (place : ℕ) → place < length more → group_at more place < count
      within place lp = elim (which place (let l = longer in omega (arith, lp, l))) as (λ _. group_at more place < count) [
        | inl less ↦ subst (λ g. g < count) (sym (at_front place less)) (grouped.in_order.within place (let l = grouped.len in omega (arith, less, l)))
        | inr last ↦ subst (λ g. g < count) (sym (ap (group_at more) last ∙ (at_last ∙ e))) (grouped.in_order.within i inside)
      ]

      used : (g : ℕ) → g < count → (place : ℕ) × (place < length more) × (group_at more place ≡ g)
      used g lg = let (place, lp, f) = grouped.in_order.used g lg in let l = grouped.len in let m = longer in
          let less : place < n = omega (arith, lp, l) in
          (place, omega (arith, less, m), at_front place less ∙ f)

      ordered : (place lesser : ℕ) → place < length more → lesser < group_at more place → (earlier : ℕ) × (earlier < place) × (group_at more earlier ≡ lesser)
      ordered place lesser lp ll = elim (which place (let l = longer in omega (arith, lp, l))) as (λ _. (earlier : ℕ) × (earlier < place) × (group_at more earlier ≡ lesser)) [
        | inl less ↦
            let (earlier, before, f) = grouped.in_order.ordered place lesser (let l = grouped.len in omega (arith, less, l)) (subst (λ g. lesser < g) (at_front place less) ll) in
            (earlier, before, at_front earlier (omega (arith, before, less)) ∙ f)
        | inr last ↦
            let (earlier, before, f) = grouped.in_order.ordered i lesser inside (subst (λ g. lesser < g) (ap (group_at more) last ∙ (at_last ∙ e)) ll) in
            (earlier, omega (arith, before, lt, last), at_front earlier (omega (arith, before, lt)) ∙ f)
      ]

  -- the last place is in no group of the places before it
  alone : ((i : ℕ) → i < n → ¬ R n i) → group ≡ count → AreGrouped R (suc n) more (suc count)
  alone far e = record {
    len = longer;
    in_order = record { within = within; used = used; ordered = ordered };
    same = both (λ j lj. (
      λ f. let less = grouped.in_order.within j (let l = grouped.len in omega (arith, lj, l)) in absurd (omega (arith, less, e, f)),
      λ r. absurd (far j lj r),
    ));
  }
    where
      within : (place : ℕ) → place < length more → group_at more place < suc count
      within place lp = elim (which place (let l = longer in omega (arith, lp, l))) as (λ _. group_at more place < suc count) [
        | inl less ↦ let w = grouped.in_order.within place (let l = grouped.len in omega (arith, less, l)) in let f = at_front place less in omega (arith, w, f)
        | inr last ↦ let f : group_at more place ≡ group = ap (group_at more) last ∙ at_last in omega (arith, f, e)
      ]

      used : (g : ℕ) → g < suc count → (place : ℕ) × (place < length more) × (group_at more place ≡ g)
      used g lg = elim (cases_lt g count) [
        | inl less ↦
            let (place, lp, f) = grouped.in_order.used g less in let l = grouped.len in let m = longer in
            let lt : place < n = omega (arith, lp, l) in
            (place, omega (arith, lt, m), at_front place lt ∙ f)
        | inr ge ↦ let m = longer in (n, omega (arith, m), at_last ∙ omega (arith, e, ge, lg))
      ]

      ordered : (place lesser : ℕ) → place < length more → lesser < group_at more place → (earlier : ℕ) × (earlier < place) × (group_at more earlier ≡ lesser)
      ordered place lesser lp ll = elim (which place (let l = longer in omega (arith, lp, l))) as (λ _. (earlier : ℕ) × (earlier < place) × (group_at more earlier ≡ lesser)) [
        | inl less ↦
            let (earlier, before, f) = grouped.in_order.ordered place lesser (let l = grouped.len in omega (arith, less, l)) (subst (λ g. lesser < g) (at_front place less) ll) in
            (earlier, before, at_front earlier (omega (arith, before, less)) ∙ f)
        | inr last ↦
            let g : group_at more place ≡ group = ap (group_at more) last ∙ at_last in
            let (earlier, le, f) = grouped.in_order.used lesser (omega (arith, ll, g, e)) in let l = grouped.len in
            let less : earlier < n = omega (arith, le, l) in
            (earlier, omega (arith, less, last), at_front earlier less ∙ f)
      ]

-- what there is of groups
pub record Grouping (R : ℕ → ℕ → Type 0) (places : ℕ) : Type 0 where
  pub groups : List ℕ
  pub count : ℕ
  pub are : AreGrouped R places groups count

pub groups_there : (R : ℕ → ℕ → Type 0) → IsEquivalence R → (places : ℕ) → ¬ ¬ Grouping R places
groups_there R is zero never = never (record {
  groups = [];
  count = 0;
  are = record {
    len = refl;
    in_order = record { within = λ place lt. absurd (omega (arith, lt)); used = λ group lt. absurd (omega (arith, lt)); ordered = λ place lesser lt. absurd (omega (arith, lt)) };
    same = λ i j li lj. absurd (omega (arith, li));
  };
})
groups_there R is (suc n) never = groups_there R is n (λ (before : Grouping R n).
    either_way ((i : ℕ) × (i < n) × R n i) (λ way. elim way as (λ _. ⊥) [
      | inl near ↦ never (record {
        groups = before.groups ++ group_at before.groups near.0 ∷ [];
        count = before.count;
        are = joined R is n before.groups before.count before.are (group_at before.groups near.0) near.0 near.1 near.2 refl;
      })
      | inr far ↦ never (record {
        groups = before.groups ++ before.count ∷ [];
        count = suc before.count;
        are = alone R is n before.groups before.count before.are before.count (λ i lt r. far (i, lt, r)) refl;
      })
    ]))
