-- the transitions of a flood: a node gets a number, a node is taken from the work, a node has been visited
use Rattle.std.proofs.Common.{◌≡◌, ◌≢◌, ℕ, zero, suc, ◌+◌, ◌<◌, ◌≤◌, ◌++◌, ◌⊎◌, inl, inr, List, [], ◌∷◌, Option, Some, None, length, replicate, set, refl, sym, ◌∙◌, ap, subst, arith, get_or-set_same, get_or-set_other, Contains}
use Rattle.std.proofs.lemmas.List.Elements.{Contains-push_cases, Contains-append_left, Contains-push}
use Rattle.std.proofs.lemmas.Bool.{cases_eq}
use Rattle.net_graph.specs.Walks.{IsLinked}
use Rattle.net_bits.specs.Flood.{number, IsNumbered, AreNumbered}
use Rattle.net_bits.proofs.Items.{Contains-cons_cases, Contains-cons_there, Contains-cons_here, no_member}
use Rattle.net_bits.proofs.Links.{linked-self, linked-step, linked-trans, linked-keeps}

-- what a node that gets the number `k` changes
module _ (step : ℕ → ℕ → Type 0) (numbers : List (Option ℕ)) (w k : ℕ) (in' : w < length numbers) (none : number numbers w ≡ None) where
  pub kept : (v c : ℕ) → number numbers v ≡ Some c → number (set numbers w (Some k)) v ≡ Some c
  kept v c h =
      elim (cases_eq v w) as (λ _. number (set numbers w (Some k)) v ≡ Some c) [
        | inl e ↦ let f : number numbers w ≡ Some c = subst (λ t. number numbers t ≡ Some c) e h in cc
        | inr ne ↦ get_or-set_other numbers w v (Some k) None ne ∙ h
      ]

  pub newly : (v c : ℕ) → number (set numbers w (Some k)) v ≡ Some c → ((v ≡ w) × (c ≡ k)) ⊎ (number numbers v ≡ Some c)
  newly v c h =
      elim (cases_eq v w) as (λ _. ((v ≡ w) × (c ≡ k)) ⊎ (number numbers v ≡ Some c)) [
        | inl e ↦ let f : number (set numbers w (Some k)) w ≡ Some c = subst (λ t. number (set numbers w (Some k)) t ≡ Some c) e h in
            let g = get_or-set_same numbers w (Some k) None in' in
            let r : c ≡ k = cc in inl (e, r)
        | inr ne ↦ inr (sym (get_or-set_other numbers w v (Some k) None ne) ∙ h)
      ]

  pub still_none : (v : ℕ) → number (set numbers w (Some k)) v ≡ None → (v ≢ w) × (number numbers v ≡ None)
  still_none v h =
      elim (cases_eq v w) as (λ _. (v ≢ w) × (number numbers v ≡ None)) [
        | inl e ↦ let f : number (set numbers w (Some k)) w ≡ None = subst (λ t. number (set numbers w (Some k)) t ≡ None) e h in
            let g = get_or-set_same numbers w (Some k) None in' in absurd (cc)
        | inr ne ↦ (ne, sym (get_or-set_other numbers w v (Some k) None ne) ∙ h)
      ]

  pub same-more : ((u v c : ℕ) → number numbers u ≡ Some c → number numbers v ≡ Some c → IsLinked step u v)
      → ((v : ℕ) → number numbers v ≡ Some k → IsLinked step v w × IsLinked step w v)
      → (u v c : ℕ) → number (set numbers w (Some k)) u ≡ Some c → number (set numbers w (Some k)) v ≡ Some c → IsLinked step u v
  same-more same near u v c hu hv =
      elim (newly u c hu) as (λ _. IsLinked step u v) [
        | inl e ↦ elim (newly v c hv) as (λ _. IsLinked step u v) [
          | inl f ↦ subst (λ t. IsLinked step u t) (e.0 ∙ sym f.0) (linked-self step u)
          | inr g ↦ subst (λ t. IsLinked step t v) (sym e.0) (near v (subst (λ t. number numbers v ≡ Some t) e.1 g)).1
        ]
        | inr h ↦ elim (newly v c hv) as (λ _. IsLinked step u v) [
          | inl f ↦ subst (λ t. IsLinked step u t) (sym f.0) (near u (subst (λ t. number numbers u ≡ Some t) f.1 h)).0
          | inr g ↦ same u v c h g
        ]
      ]

  pub closed-more : (waiting : List ℕ)
      → ((v c : ℕ) → number numbers v ≡ Some c → Contains waiting v ⊎ ((x : ℕ) → step v x → number numbers x ≡ Some c))
      → (v c : ℕ) → number (set numbers w (Some k)) v ≡ Some c → Contains (waiting ++ w ∷ []) v ⊎ ((x : ℕ) → step v x → number (set numbers w (Some k)) x ≡ Some c)
  closed-more waiting closed v c hv =
      elim (newly v c hv) as (λ _. Contains (waiting ++ w ∷ []) v ⊎ ((x : ℕ) → step v x → number (set numbers w (Some k)) x ≡ Some c)) [
        | inl e ↦ inl (subst (λ t. Contains (waiting ++ w ∷ []) t) (sym e.0) (Contains-push waiting w))
        | inr h ↦ elim (closed v c h) as (λ _. Contains (waiting ++ w ∷ []) v ⊎ ((x : ℕ) → step v x → number (set numbers w (Some k)) x ≡ Some c)) [
          | inl i ↦ inl (Contains-append_left waiting (w ∷ []) v i)
          | inr n ↦ inr (λ x s. kept x c (n x s))
        ]
      ]

  pub ordered-more : ((v c d : ℕ) → number numbers v ≡ Some c → d < c → (u : ℕ) × (u < v) × (number numbers u ≡ Some d))
      → ((d : ℕ) → d < k → (u : ℕ) × (u < w) × (number numbers u ≡ Some d))
      → (v c d : ℕ) → number (set numbers w (Some k)) v ≡ Some c → d < c → (u : ℕ) × (u < v) × (number (set numbers w (Some k)) u ≡ Some d)
  ordered-more ordered lesser v c d hv l =
      elim (newly v c hv) as (λ _. (u : ℕ) × (u < v) × (number (set numbers w (Some k)) u ≡ Some d)) [
        | inl e ↦ let r = lesser d (subst (λ t. d < t) e.1 l) in (r.0, subst (λ t. r.0 < t) (sym e.0) r.1, kept r.0 d r.2)
        | inr h ↦ let r = ordered v c d h l in (r.0, r.1, kept r.0 d r.2)
      ]

-- a root gets a new number
pub numbered-root : (step : ℕ → ℕ → Type 0) (numbers : List (Option ℕ)) (root class : ℕ) → root < length numbers → number numbers root ≡ None
    → IsNumbered step numbers root class [] → IsNumbered step (set numbers root (Some class)) (root + 1) (class + 1) (root ∷ [])
numbered-root step numbers root class in' none i = record {
  before = λ v h. let r = still_none step numbers root class in' none v h in let b = i.before v r.1 in let ne : v ≢ root = r.0 in omega arith;
  within = λ v c h. elim (newly step numbers root class in' none v c h) as (λ _. c < class + 1) [ inl e ↦ omega (arith, e.1) | inr g ↦ omega (arith, i.within v c g) ];
  used = λ c l. elim (cases_eq c class) as (λ _. (v : ℕ) × (v < root + 1) × (number (set numbers root (Some class)) v ≡ Some c)) [
    | inl e ↦ (root, omega arith, get_or-set_same numbers root (Some class) None in' ∙ ap Some (sym e))
    | inr ne ↦ let r = i.used c (omega arith) in (r.0, omega (arith, r.1), kept step numbers root class in' none r.0 c r.2)
  ];
  same = same-more step numbers root class in' none i.same (λ v h. absurd (omega (arith, i.within v class h)));
  closed = closed-more step numbers root class in' none [] i.closed;
  ordered = ordered-more step numbers root class in' none i.ordered (λ d l. i.used d l);
}

-- a neighbour gets the number of a node
pub numbered-neighbour : (step : ℕ → ℕ → Type 0) (numbers : List (Option ℕ)) (done class : ℕ) (waiting : List ℕ) (v w : ℕ) → w < length numbers → number numbers w ≡ None
    → number numbers v ≡ Some class → step v w → step w v
    → IsNumbered step numbers done (class + 1) waiting → IsNumbered step (set numbers w (Some class)) done (class + 1) (waiting ++ w ∷ [])
numbered-neighbour step numbers done class waiting v w in' none hv there back i = record {
  before = λ u h. i.before u (still_none step numbers w class in' none u h).1;
  within = λ u c h. elim (newly step numbers w class in' none u c h) as (λ _. c < class + 1) [ inl e ↦ omega (arith, e.1) | inr g ↦ i.within u c g ];
  used = λ c l. let r = i.used c l in (r.0, r.1, kept step numbers w class in' none r.0 c r.2);
  same = same-more step numbers w class in' none i.same (λ u h. (
    linked-trans step u v w (i.same u v class h hv) (linked-step step v w there),
    linked-trans step w v u (linked-step step w v back) (i.same v u class hv h),
  ));
  closed = closed-more step numbers w class in' none waiting i.closed;
  ordered = ordered-more step numbers w class in' none i.ordered
      (λ d l. let r = i.used d (omega arith) in (r.0, omega (arith, r.1, i.before w none), r.2));
}

-- the last of the waiting nodes is taken in hand
pub numbered-pop : (step : ℕ → ℕ → Type 0) (numbers : List (Option ℕ)) (done count : ℕ) (waiting : List ℕ) (v : ℕ)
    → IsNumbered step numbers done count (waiting ++ v ∷ []) → IsNumbered step numbers done count (v ∷ waiting)
numbered-pop step numbers done count waiting v i = record {
  before = i.before;
  within = i.within;
  used = i.used;
  same = i.same;
  ordered = i.ordered;
  closed = λ u c h. elim (i.closed u c h) as (λ _. Contains (v ∷ waiting) u ⊎ ((x : ℕ) → step u x → number numbers x ≡ Some c)) [
    | inl m ↦ inl (elim (Contains-push_cases waiting v u m) as (λ _. Contains (v ∷ waiting) u) [
      | inl m ↦ Contains-cons_there v waiting u m
      | inr e ↦ subst (λ t. Contains (v ∷ waiting) t) e (Contains-cons_here v waiting)
    ])
    | inr n ↦ inr n
  ];
}

-- a node whose neighbours have its number waits no longer
pub numbered-visited : (step : ℕ → ℕ → Type 0) (numbers : List (Option ℕ)) (done count class : ℕ) (waiting : List ℕ) (v : ℕ)
    → number numbers v ≡ Some class → ((x : ℕ) → step v x → number numbers x ≡ Some class)
    → IsNumbered step numbers done count (v ∷ waiting) → IsNumbered step numbers done count waiting
numbered-visited step numbers done count class waiting v hv all i = record {
  before = i.before;
  within = i.within;
  used = i.used;
  same = i.same;
  ordered = i.ordered;
  closed = λ u c h. elim (i.closed u c h) as (λ _. Contains waiting u ⊎ ((x : ℕ) → step u x → number numbers x ≡ Some c)) [
    | inl m ↦ elim (Contains-cons_cases v waiting u m) as (λ _. Contains waiting u ⊎ ((x : ℕ) → step u x → number numbers x ≡ Some c)) [
      | inl e ↦ inr (λ x s.
          let hu : number numbers v ≡ Some c = subst (λ t. number numbers t ≡ Some c) (sym e) h in
          let k : class ≡ c = cc in
          subst (λ t. number numbers x ≡ Some t) k (all x (subst (λ t. step t x) (sym e) s)))
      | inr m ↦ inl m
    ]
    | inr n ↦ inr n
  ];
}

-- no node has a number
number-none : (n v : ℕ) → number (replicate n None) v ≡ None
number-none zero v = refl
number-none (suc n) zero = refl
number-none (suc n) (suc v) = number-none n v

pub numbered-none : (step : ℕ → ℕ → Type 0) (n : ℕ) → IsNumbered step (replicate n None) 0 0 []
numbered-none step n = record {
  before = λ v h. omega arith;
  within = λ v c h. absurd (let e = number-none n v in cc);
  used = λ c l. absurd (omega arith);
  same = λ v w c h k. absurd (let e = number-none n v in cc);
  closed = λ v c h. absurd (let e = number-none n v in cc);
  ordered = λ v c d h l. absurd (let e = number-none n v in cc);
}

-- the next node has a number already
pub numbered-skip : (step : ℕ → ℕ → Type 0) (numbers : List (Option ℕ)) (done count c : ℕ) → number numbers done ≡ Some c
    → IsNumbered step numbers done count [] → IsNumbered step numbers (done + 1) count []
numbered-skip step numbers done count c h i = record {
  before = λ v n. let b = i.before v n in
      elim (cases_eq v done) as (λ _. done + 1 ≤ v) [ inl e ↦ absurd (let f = subst (λ t. number numbers t ≡ None) e n in cc) | inr ne ↦ omega (arith, ne) ];
  within = i.within;
  used = λ c l. let r = i.used c l in (r.0, omega (arith, r.1), r.2);
  same = i.same;
  closed = i.closed;
  ordered = i.ordered;
}

some_or_none : (o : Option ℕ) → (o ≡ None) ⊎ ((c : ℕ) × (o ≡ Some c))
some_or_none None = inl refl
some_or_none (Some c) = inr (c, refl)

-- where nothing waits and all nodes are numbered
pub are_numbered : (step : ℕ → ℕ → Type 0) (numbers : List (Option ℕ)) (done count : ℕ) → length numbers ≤ done
    → IsNumbered step numbers done count [] → AreNumbered step numbers count
are_numbered step numbers done count all i =
    let has : (v : ℕ) → v < length numbers → (c : ℕ) × (number numbers v ≡ Some c) = λ v l.
    elim (some_or_none (number numbers v)) as (λ _. (c : ℕ) × (number numbers v ≡ Some c)) [ inl n ↦ absurd (omega (arith, i.before v n)) | inr s ↦ s ] in
    let closed : (v c w : ℕ) → number numbers v ≡ Some c → step v w → number numbers w ≡ Some c = λ v c w h s.
    elim (i.closed v c h) as (λ _. number numbers w ≡ Some c) [ inl m ↦ absurd (no_member v m) | inr n ↦ n w s ] in record {
      all = λ v l. let r = has v l in (r.0, i.within v r.0 r.1, r.1);
      same = λ v w l k. let r = has v l in (
        λ e. i.same v w r.0 r.1 (sym e ∙ r.1),
        λ h. r.1 ∙ sym (linked-keeps step (λ x. number numbers x ≡ Some r.0) (λ x y s p. closed x r.0 y p s) v w h r.1),
      );
      used = λ c l. let r = i.used c l in (r.0, r.2);
      ordered = i.ordered;
    }
