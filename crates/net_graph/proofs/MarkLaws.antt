-- The rounds of marking reach just what is reachable.
use Rattle.std.proofs.Common.{◌≡◌, ℕ, zero, suc, ◌+◌, ◌<◌, ◌≤◌, ◌⊎◌, inl, inr, Bool, true, false, ◌||◌, ◌&&◌, List, [], ◌∷◌, length, replicate, refl, sym, ap, ◌∙◌, subst, arith, add-zero}
use Rattle.std.specs.Prelude.{◌==◌}
use Rattle.std.specs.List.{list_any}
use Rattle.std.proofs.lemmas.Bool.{false≢true}
use Rattle.std.proofs.lemmas.List.{ext_get_or, get_or-set_same, length-set, length-replicate}
use Rattle.net_graph.specs.Marks.{count}
use Rattle.net_graph.specs.Marks.{IsReachable, itself, below, has_below, is_marked, is_next, marks_of, only_mark, spread, spread_from, spread_times}

pub or_left : (a b : Bool) → a ≡ true → (a || b) ≡ true
or_left true b h = refl
or_left false b h = absurd (false≢true h)

pub or_right : (a b : Bool) → b ≡ true → (a || b) ≡ true
or_right true b h = refl
or_right false b h = h

and_both : (a b : Bool) → a ≡ true → b ≡ true → (a && b) ≡ true
and_both true b h k = k
and_both false b h k = absurd (false≢true h)

pub or_cases : (a b : Bool) → (a || b) ≡ true → (a ≡ true) ⊎ (b ≡ true)
or_cases true b h = inl refl
or_cases false b h = inr h

and_first : (a b : Bool) → (a && b) ≡ true → a ≡ true
and_first true b h = refl
and_first false b h = absurd (false≢true h)

and_second : (a b : Bool) → (a && b) ≡ true → b ≡ true
and_second true b h = h
and_second false b h = absurd (false≢true h)

same_bool : (a b : Bool) → (a ≡ true → b ≡ true) → (b ≡ true → a ≡ true) → a ≡ b
same_bool true b f g = sym (f refl)
same_bool false true f g = g refl
same_bool false false f g = refl

pub marked_within : (marks : List Bool) (k : ℕ) → is_marked marks k ≡ true → k < length marks
marked_within [] k h = absurd (false≢true h)
marked_within (mark ∷ marks) zero h = omega arith
marked_within (mark ∷ marks) (suc k) h = let r : k < length marks = marked_within marks k h in omega arith

is_next_from : (marks : List Bool) (graph : List (List ℕ)) (outer number : ℕ) → is_marked marks outer ≡ true → has_below graph outer number ≡ true → is_next marks graph number ≡ true
is_next_from [] graph outer number h b = absurd (false≢true h)
is_next_from (mark ∷ marks) [] outer number h b = absurd (false≢true b)
is_next_from (mark ∷ marks) (numbers ∷ graph) zero number h b = or_left _ (is_next marks graph number) (and_both mark _ h b)
is_next_from (mark ∷ marks) (numbers ∷ graph) (suc outer) number h b = or_right _ _ (is_next_from marks graph outer number h b)

is_next_gives : (marks : List Bool) (graph : List (List ℕ)) (number : ℕ) → is_next marks graph number ≡ true → (outer : ℕ) × (is_marked marks outer ≡ true) × (has_below graph outer number ≡ true)
is_next_gives [] graph number h = absurd (false≢true h)
is_next_gives (mark ∷ marks) [] number h = absurd (false≢true h)
is_next_gives (mark ∷ marks) (numbers ∷ graph) number h =
    elim (or_cases (mark && list_any (λ n. n == number) numbers) (is_next marks graph number) h) [
      | inl e ↦ (0, and_first mark _ e, and_second mark _ e)
      | inr e ↦ (let r : (outer : ℕ) × (is_marked marks outer ≡ true) × (has_below graph outer number ≡ true) = is_next_gives marks graph number e in (suc r.0, r.1, r.2))
    ]

spread_marked : (graph : List (List ℕ)) (all : List Bool) (i : ℕ) (marks : List Bool) (k : ℕ) → k < length marks → is_marked (spread_from graph all i marks) k ≡ (is_marked marks k || is_next all graph (i + k))
spread_marked graph all i [] k h = absurd (omega arith)
spread_marked graph all i (mark ∷ marks) zero h = ap (λ n. mark || is_next all graph n) (sym (add-zero i))
spread_marked graph all i (mark ∷ marks) (suc k) h =
    let e : i + 1 + k ≡ i + suc k = omega arith in
    spread_marked graph all (i + 1) marks k (omega arith) ∙ ap (λ n. is_marked marks k || is_next all graph n) e

length_spread : (graph : List (List ℕ)) (all : List Bool) (i : ℕ) (marks : List Bool) → length (spread_from graph all i marks) ≡ length marks
length_spread graph all i [] = refl
length_spread graph all i (mark ∷ marks) = ap suc (length_spread graph all (i + 1) marks)

pub count_within : (marks : List Bool) → count marks ≤ length marks
count_within [] = omega arith
count_within (true ∷ marks) = let r = count_within marks in omega arith
count_within (false ∷ marks) = let r = count_within marks in omega arith

grows_by : (m n : Bool) (ms sp : List Bool) → ((sp ≡ ms) ⊎ (count ms + 1 ≤ count sp)) → (((m || n) ∷ sp ≡ m ∷ ms) ⊎ (count (m ∷ ms) + 1 ≤ count ((m || n) ∷ sp)))
grows_by true n ms sp (inl e) = inl (ap (λ l. true ∷ l) e)
grows_by true n ms sp (inr h) = inr (omega arith)
grows_by false false ms sp (inl e) = inl (ap (λ l. false ∷ l) e)
grows_by false false ms sp (inr h) = inr (omega arith)
grows_by false true ms sp (inl e) = inr (omega (arith, ap count e))
grows_by false true ms sp (inr h) = inr (omega arith)

grows : (graph : List (List ℕ)) (all : List Bool) (i : ℕ) (marks : List Bool) → (spread_from graph all i marks ≡ marks) ⊎ (count marks + 1 ≤ count (spread_from graph all i marks))
grows graph all i [] = inl refl
grows graph all i (mark ∷ marks) = grows_by mark (is_next all graph i) marks (spread_from graph all (i + 1) marks) (grows graph all (i + 1) marks)

module _ (graph : List (List ℕ)) where
  still_by : (t : ℕ) (marks : List Bool) → ((spread graph marks ≡ marks) ⊎ (t ≤ count marks)) → ((spread graph marks ≡ marks) ⊎ (count marks + 1 ≤ count (spread graph marks)))
      → (spread graph (spread graph marks) ≡ spread graph marks) ⊎ (suc t ≤ count (spread graph marks))
  still_by t marks (inl e) r = inl (ap (spread graph) e)
  still_by t marks (inr g) (inl e) = inl (ap (spread graph) e)
  still_by t marks (inr g) (inr h) = inr (omega arith)

  still : (start : List Bool) (t : ℕ) → (spread graph (spread_times graph t start) ≡ spread_times graph t start) ⊎ (t ≤ count (spread_times graph t start))
  still start zero = inr (omega arith)
  still start (suc t) = still_by t (spread_times graph t start) (still start t) (grows graph (spread_times graph t start) 0 (spread_times graph t start))

  length_times : (start : List Bool) (t : ℕ) → length (spread_times graph t start) ≡ length start
  length_times start zero = refl
  length_times start (suc t) = length_spread graph (spread_times graph t start) 0 (spread_times graph t start) ∙ length_times start t

  -- as many rounds as there are marks reach all
  settled_by : (n : ℕ) (marks : List Bool) → length marks ≡ n → ((spread graph marks ≡ marks) ⊎ (n ≤ count marks)) → ((spread graph marks ≡ marks) ⊎ (count marks + 1 ≤ count (spread graph marks))) → spread graph marks ≡ marks
  settled_by n marks l (inl e) r = e
  settled_by n marks l (inr g) (inl e) = e
  settled_by n marks l (inr g) (inr h) = absurd (omega (arith, count_within (spread graph marks), length_spread graph marks 0 marks))

  settled : (start : List Bool) → spread graph (spread_times graph (length start) start) ≡ spread_times graph (length start) start
  settled start =
      settled_by (length start) (spread_times graph (length start) start) (length_times start (length start)) (still start (length start)) (grows graph (spread_times graph (length start) start) 0 (spread_times graph (length start) start))

  spread_keeps : (marks : List Bool) (k : ℕ) → is_marked marks k ≡ true → is_marked (spread graph marks) k ≡ true
  spread_keeps marks k h = spread_marked graph marks 0 marks k (marked_within marks k h) ∙ or_left (is_marked marks k) _ h

  times_keep : (start : List Bool) (t k : ℕ) → is_marked start k ≡ true → is_marked (spread_times graph t start) k ≡ true
  times_keep start zero k h = h
  times_keep start (suc t) k h = spread_keeps (spread_times graph t start) k (times_keep start t k h)

  spread_adds : (marks : List Bool) (outer number : ℕ) → is_marked marks outer ≡ true → has_below graph outer number ≡ true → number < length marks → is_marked (spread graph marks) number ≡ true
  spread_adds marks outer number h b within =
      spread_marked graph marks 0 marks number within
      ∙ or_right (is_marked marks number) _ (is_next_from marks graph outer (0 + number) h (subst (λ n. has_below graph outer n ≡ true) (let e : number ≡ 0 + number = omega arith in e) b))

pub no_mark : (n k : ℕ) → is_marked (replicate n false) k ≡ true → ⊥
no_mark zero k h = false≢true h
no_mark (suc n) zero h = false≢true h
no_mark (suc n) (suc k) h = no_mark n k h

pub only_mark_is : (n start k : ℕ) → is_marked (only_mark n start) k ≡ true → k ≡ start
only_mark_is zero start k h = absurd (false≢true h)
only_mark_is (suc n) zero zero h = refl
only_mark_is (suc n) zero (suc k) h = absurd (no_mark n k h)
only_mark_is (suc n) (suc start) zero h = absurd (false≢true h)
only_mark_is (suc n) (suc start) (suc k) h = ap suc (only_mark_is n start k h)

module _ (graph : List (List ℕ)) (start : ℕ) where
  abbrev size : ℕ
  size = length graph

  length_only : length (only_mark size start) ≡ size
  length_only = length-set (replicate size false) start true ∙ length-replicate size false

  pub length_marks : length (marks_of graph start) ≡ size
  length_marks = length_times graph (only_mark size start) size ∙ length_only

  marks_settled : spread graph (marks_of graph start) ≡ marks_of graph start
  marks_settled = subst (λ n. spread graph (spread_times graph n (only_mark size start)) ≡ spread_times graph n (only_mark size start)) length_only (settled graph (only_mark size start))

  reachable_by : (t : ℕ) (k : ℕ) → is_marked (spread_times graph t (only_mark size start)) k ≡ true → IsReachable graph start k
  reachable_by zero k h = subst (IsReachable graph start) (sym (only_mark_is size start k h)) itself
  reachable_by (suc t) k h =
      let marks = spread_times graph t (only_mark size start) in
      let within : k < length marks = subst (λ n. k < n) (length_spread graph marks 0 marks) (marked_within (spread graph marks) k h) in
      elim (or_cases (is_marked marks k) (is_next marks graph (0 + k)) (sym (spread_marked graph marks 0 marks k within) ∙ h)) [
        | inl e ↦ reachable_by t k e
        | inr e ↦ (let r = is_next_gives marks graph (0 + k) e in
            below (reachable_by t r.0 r.1) (subst (λ n. has_below graph r.0 n ≡ true) (let z : 0 + k ≡ k = omega arith in z) r.2))
      ]

  -- what is marked is reachable
  pub reachable-marked : (k : ℕ) → is_marked (marks_of graph start) k ≡ true → IsReachable graph start k
  reachable-marked = reachable_by size

  -- what is reachable is marked
  pub marked-reachable : start < size → ((outer number : ℕ) → has_below graph outer number ≡ true → number < size) → (k : ℕ) → IsReachable graph start k → is_marked (marks_of graph start) k ≡ true
  marked-reachable within in_range k itself = times_keep graph (only_mark size start) size start (get_or-set_same (replicate size false) start true false (subst (λ n. start < n) (sym (length-replicate size false)) within))
  marked-reachable within in_range k (below {outer = outer} r b) =
      subst (λ marks. is_marked marks k ≡ true) marks_settled
      (spread_adds graph (marks_of graph start) outer k (marked-reachable within in_range outer r) b (subst (λ n. k < n) (sym length_marks) (in_range outer k b)))

  -- marks that are on just the reachable numbers are those marks
  pub marks_are : start < size → ((outer number : ℕ) → has_below graph outer number ≡ true → number < size) → (marks : List Bool) → length marks ≡ size
      → ((k : ℕ) → is_marked marks k ≡ true → IsReachable graph start k) → ((k : ℕ) → IsReachable graph start k → is_marked marks k ≡ true) → marks ≡ marks_of graph start
  marks_are within in_range marks long sound complete =
      ext_get_or false marks (marks_of graph start) (long ∙ sym length_marks)
      (λ k h. same_bool (is_marked marks k) (is_marked (marks_of graph start) k) (λ e. marked-reachable within in_range k (sound k e)) (λ e. complete k (reachable-marked k e)))
