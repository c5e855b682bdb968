-- numbers of values in the order of first values
use Rattle.std.proofs.Common.{◌≡◌, ◌≢◌, ℕ, zero, suc, ◌+◌, ◌<◌, ◌≤◌, inl, inr, List, [], ◌∷◌, ◌++◌, refl, sym, ◌∙◌, ap, subst, set, get_or, Some, None, Option, Bool, true, false, cond, ◌==◌, length, replicate, arith}
use Rattle.std.proofs.lemmas.List.{length-append, length-replicate, length-set, get_or_append_left}
use Rattle.std.proofs.lemmas.Bool.{eqb-true}
use Rattle.flat_classes.specs.Groups.{AreInOrder, AreSame, group_at, known_number, known_numbers}
use Rattle.flat_numbers.proofs.Forests.{same_or_other}
use Rattle.flat_numbers.proofs.Rows.{last_or_less}

set_at : (xs : List (Option ℕ)) (i : ℕ) (x : Option ℕ) → i < length xs → get_or (set xs i x) i None ≡ x
set_at [] i x lt = absurd (omega arith)
set_at (y ∷ xs) zero x lt = refl
set_at (y ∷ xs) (suc i) x lt = set_at xs i x (omega arith)

set_away : (xs : List (Option ℕ)) (i : ℕ) (x : Option ℕ) (j : ℕ) → i ≢ j → get_or (set xs i x) j None ≡ get_or xs j None
set_away [] i x j differ = refl
set_away (y ∷ xs) zero x zero differ = absurd (differ refl)
set_away (y ∷ xs) zero x (suc j) differ = refl
set_away (y ∷ xs) (suc i) x zero differ = refl
set_away (y ∷ xs) (suc i) x (suc j) differ = set_away xs i x j (λ e. differ (ap suc e))

one_of : (o : Option ℕ) (m n : ℕ) → o ≡ Some m → o ≡ Some n → m ≡ n
one_of o m n e f = cc

pub none_some : (o : Option ℕ) (n : ℕ) → o ≡ None → o ≡ Some n → ⊥
none_some o n e f = cc

pub some_same : (m n : ℕ) → Some m ≡ Some n → m ≡ n
some_same m n e = cc

-- the numbers of the first values
pub record AreOrdered (values : List ℕ) (bound done : ℕ) (known : List (Option ℕ)) (numbers : List ℕ) (count : ℕ) : Type 0 where
  pub len : length numbers ≡ done
  pub known_len : length known ≡ bound
  pub few : count ≤ done
  pub seen : (i : ℕ) → i < done → get_or known (get_or values i 0) None ≡ Some (group_at numbers i)
  pub within : (v n : ℕ) → get_or known v None ≡ Some n → n < count
  pub once : (v w n : ℕ) → get_or known v None ≡ Some n → get_or known w None ≡ Some n → v ≡ w
  pub used : (n : ℕ) → n < count → (i : ℕ) × (i < done) × (group_at numbers i ≡ n)
  pub ordered : (i lesser : ℕ) → i < done → lesser < group_at numbers i → (earlier : ℕ) × (earlier < i) × (group_at numbers earlier ≡ lesser)

module _ (values : List ℕ) (bound done : ℕ) (known : List (Option ℕ)) (numbers : List ℕ) (count : ℕ) (are : AreOrdered values bound done known numbers count) (number : ℕ) (more : List ℕ) (is_more : more ≡ numbers ++ number ∷ []) where
  before : (i : ℕ) → i < done → group_at more i ≡ group_at numbers i
  before i lt = ap (λ w. get_or w i 0) is_more ∙ get_or_append_left numbers (number ∷ []) 0 i (omega (arith, lt, are.len))

  last_of : (xs : List ℕ) → get_or (xs ++ number ∷ []) (length xs) 0 ≡ number
  last_of [] = refl
  last_of (x ∷ xs) = last_of xs

  here : group_at more done ≡ number
  here = ap (λ w. get_or w done 0) is_more ∙ (ap (λ n. get_or (numbers ++ number ∷ []) n 0) (sym are.len) ∙ last_of numbers)

  more_len : length more ≡ done + 1
  more_len = let l = length-append numbers (number ∷ []) in let e = ap length is_more in omega (arith, l, e, are.len)

  -- the value was seen before
  again : get_or known (get_or values done 0) None ≡ Some number → AreOrdered values bound (done + 1) known more count
  again e = record {
    len = more_len;
    known_len = are.known_len;
    few = omega (arith, are.few);
    seen = λ i lt. elim (last_or_less i done lt) as (λ _. get_or known (get_or values i 0) None ≡ Some (group_at more i)) [
      | inl less ↦ are.seen i less ∙ ap Some (sym (before i less))
      | inr p ↦ subst (λ k. get_or known (get_or values k 0) None ≡ Some (group_at more k)) (sym p) (e ∙ ap Some (sym here))
    ];
    within = are.within;
    once = are.once;
    used = λ n lt. let (i, i_lt, f) = are.used n lt in (i, omega (arith, i_lt), before i i_lt ∙ f);
    ordered = λ i lesser lt less. elim (last_or_less i done lt) as (λ _. (earlier : ℕ) × (earlier < i) × (group_at more earlier ≡ lesser)) [
      | inl l ↦
          let b = before i l in
          let (k, k_lt, f) = are.ordered i lesser l (omega (arith, less, b)) in
          (k, k_lt, before k (omega (arith, k_lt, l)) ∙ f)
      | inr p ↦
          let h = here in
          let g : group_at more i ≡ number = ap (group_at more) p ∙ h in
          let n_lt = are.within (get_or values done 0) number e in
          let (k, k_lt, f) = are.used lesser (omega (arith, less, g, n_lt)) in
          (k, omega (arith, k_lt, p), before k k_lt ∙ f)
    ];
  }

  -- the value is new
  anew : get_or values done 0 < bound → get_or known (get_or values done 0) None ≡ None → number ≡ count → AreOrdered values bound (done + 1) (set known (get_or values done 0) (Some count)) more (count + 1)
  anew lt none is =
      let v : ℕ = get_or values done 0 in
      let inside : v < length known = omega (arith, lt, are.known_len) in
      record {
        len = more_len;
        known_len = length-set known v (Some count) ∙ are.known_len;
        few = omega (arith, are.few);
        seen = λ i i_lt. elim (last_or_less i done i_lt) as (λ _. get_or (set known v (Some count)) (get_or values i 0) None ≡ Some (group_at more i)) [
          | inl less ↦ elim (same_or_other v (get_or values i 0)) as (λ _. get_or (set known v (Some count)) (get_or values i 0) None ≡ Some (group_at more i)) [
            | inl e ↦ absurd (none_some (get_or known v None) (group_at numbers i) none (ap (λ w. get_or known w None) e ∙ are.seen i less))
            | inr n ↦ set_away known v (Some count) (get_or values i 0) n ∙ (are.seen i less ∙ ap Some (sym (before i less)))
          ]
          | inr p ↦ subst (λ k. get_or (set known v (Some count)) (get_or values k 0) None ≡ Some (group_at more k)) (sym p) (set_at known v (Some count) inside ∙ ap Some (sym (here ∙ is)))
        ];
        within = λ w n e. elim (same_or_other v w) as (λ _. n < count + 1) [
          | inl s ↦ let q = some_same count n (sym (set_at known v (Some count) inside) ∙ (ap (λ x. get_or (set known v (Some count)) x None) s ∙ e)) in omega (arith, q)
          | inr d ↦ let l = are.within w n (sym (set_away known v (Some count) w d) ∙ e) in omega (arith, l)
        ];
        once = λ a b n e f. elim (same_or_other v a) as (λ _. a ≡ b) [
          | inl s ↦ elim (same_or_other v b) as (λ _. a ≡ b) [
            | inl t ↦ sym s ∙ t
            | inr d ↦
                let q = some_same count n (sym (set_at known v (Some count) inside) ∙ (ap (λ x. get_or (set known v (Some count)) x None) s ∙ e)) in
                let l = are.within b n (sym (set_away known v (Some count) b d) ∙ f) in
                absurd (omega (arith, q, l))
          ]
          | inr c ↦ elim (same_or_other v b) as (λ _. a ≡ b) [
            | inl t ↦
                let q = some_same count n (sym (set_at known v (Some count) inside) ∙ (ap (λ x. get_or (set known v (Some count)) x None) t ∙ f)) in
                let l = are.within a n (sym (set_away known v (Some count) a c) ∙ e) in
                absurd (omega (arith, q, l))
            | inr d ↦ are.once a b n (sym (set_away known v (Some count) a c) ∙ e) (sym (set_away known v (Some count) b d) ∙ f)
          ]
        ];
        used = λ n n_lt. elim (last_or_less n count n_lt) as (λ _. (i : ℕ) × (i < done + 1) × (group_at more i ≡ n)) [
          | inl less ↦ let (i, i_lt, f) = are.used n less in (i, omega (arith, i_lt), before i i_lt ∙ f)
          | inr p ↦ (done, omega arith, here ∙ (is ∙ sym p))
        ];
        ordered = λ i lesser i_lt less. elim (last_or_less i done i_lt) as (λ _. (earlier : ℕ) × (earlier < i) × (group_at more earlier ≡ lesser)) [
          | inl l ↦
              let b = before i l in
              let (k, k_lt, f) = are.ordered i lesser l (omega (arith, less, b)) in
              (k, k_lt, before k (omega (arith, k_lt, l)) ∙ f)
          | inr p ↦
              let g : group_at more i ≡ count = ap (group_at more) p ∙ (here ∙ is) in
              let (k, k_lt, f) = are.used lesser (omega (arith, less, g)) in
              (k, omega (arith, k_lt, p), before k k_lt ∙ f)
        ];
      }

  pub ordered_next : (table : List (Option ℕ)) (next : ℕ) → get_or values done 0 < bound →
      ((n : ℕ) → get_or known (get_or values done 0) None ≡ Some n → (number ≡ n) × (table ≡ known)) → (get_or known (get_or values done 0) None ≡ None → (number ≡ count) × (table ≡ set known (get_or values done 0) (Some count))) →
      (number ≡ count → next ≡ count + 1) → (number ≢ count → next ≡ count) → AreOrdered values bound (done + 1) table more next
  ordered_next table next lt if_known if_new up stays = by (get_or known (get_or values done 0) None) refl
    where
      by : (o : Option ℕ) → get_or known (get_or values done 0) None ≡ o → AreOrdered values bound (done + 1) table more next
      by None e =
          let r = if_new e in
          subst (λ t. AreOrdered values bound (done + 1) t more next) (sym r.1) (subst (AreOrdered values bound (done + 1) (set known (get_or values done 0) (Some count)) more) (sym (up r.0)) (anew lt e r.0))
      by (Some n) e =
          let r = if_known n e in
          let n_lt = are.within (get_or values done 0) n e in
          let m : number ≢ count = λ s. let q = r.0 in omega (arith, s, q, n_lt) in
          subst (λ t. AreOrdered values bound (done + 1) t more next) (sym r.1) (subst (AreOrdered values bound (done + 1) known more) (sym (stays m)) (again (e ∙ ap Some (sym r.0))))

pub ordered_same : (values : List ℕ) (bound done : ℕ) (known : List (Option ℕ)) (numbers : List ℕ) (count : ℕ) → done ≡ length values → AreOrdered values bound done known numbers count → AreSame values numbers
ordered_same values bound done known numbers count e are = record {
  len = are.len ∙ e;
  same = λ i j i_lt j_lt.
      let si = are.seen i (omega (arith, i_lt, e)) in
      let sj = are.seen j (omega (arith, j_lt, e)) in (
        λ g. are.once (get_or values i 0) (get_or values j 0) (group_at numbers i) si (sj ∙ ap Some (sym g)),
        λ v. some_same (group_at numbers i) (group_at numbers j) (sym si ∙ (ap (λ w. get_or known w None) v ∙ sj)),
      );
}

pub ordered_whole : (values : List ℕ) (bound done : ℕ) (known : List (Option ℕ)) (numbers : List ℕ) (count : ℕ) → AreOrdered values bound done known numbers count → AreInOrder numbers count
ordered_whole values bound done known numbers count are = record {
  within = λ place lt. are.within (get_or values place 0) (group_at numbers place) (are.seen place (omega (arith, lt, are.len)));
  used = λ group lt. let (i, i_lt, f) = are.used group lt in (i, omega (arith, i_lt, are.len), f);
  ordered = λ place lesser lt less. are.ordered place lesser (omega (arith, lt, are.len)) less;
}

-- ---- the list that the code keeps, in which the greatest value stands for none
pub told : (number : ℕ) → number ≢ 4294967295 → known_number number ≡ Some number
told number differ = by (number == 4294967295) refl
  where
    by : (b : Bool) → (number == 4294967295) ≡ b → known_number number ≡ Some number
    by true e = absurd (differ (eqb-true number 4294967295 e))
    by false e = ap (λ b. cond b None (Some number)) e

pub untold : (number : ℕ) → number ≡ 4294967295 → known_number number ≡ None
untold number e = ap known_number e

pub read_known : (known : List ℕ) (value number : ℕ) → value < length known → number ≡ get_or known value 0 → get_or (known_numbers known) value None ≡ known_number number
read_known [] value number lt e = absurd (omega arith)
read_known (first ∷ known) zero number lt e = ap known_number (sym e)
read_known (first ∷ known) (suc value) number lt e = read_known known value number (omega arith) e

pub all_untold : (n : ℕ) → known_numbers (replicate n 4294967295) ≡ replicate n None
all_untold zero = refl
all_untold (suc n) = ap (λ w. None ∷ w) (all_untold n)

nothing_known : (n v : ℕ) (o : Option ℕ) → o ≡ None → get_or (replicate n o) v None ≡ None
nothing_known zero v o e = refl
nothing_known (suc n) zero o e = e
nothing_known (suc n) (suc v) o e = nothing_known n v o e

pub ordered_first : (values known : List ℕ) (bound : ℕ) → known ≡ replicate bound 4294967295 → AreOrdered values bound 0 (known_numbers known) [] 0
ordered_first values known bound e =
    let all : known_numbers known ≡ replicate bound None = ap known_numbers e ∙ all_untold bound in
    let none : (v : ℕ) → get_or (known_numbers known) v None ≡ None = λ v. ap (λ w. get_or w v None) all ∙ nothing_known bound v None refl in
    record {
      len = refl;
      known_len = ap length all ∙ length-replicate bound None;
      few = omega arith;
      seen = λ i lt. absurd (omega (arith, lt));
      within = λ v n f. absurd (none_some (get_or (known_numbers known) v None) n (none v) f);
      once = λ v w n f g. absurd (none_some (get_or (known_numbers known) v None) n (none v) f);
      used = λ n lt. absurd (omega (arith, lt));
      ordered = λ i lesser lt less. absurd (omega (arith, lt));
    }
