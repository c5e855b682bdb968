-- The first refusal of a design in which a cell reaches itself.
use Rattle.std.proofs.Common.{◌≡◌, ℕ, zero, suc, ◌+◌, ◌<◌, Bool, true, false, List, [], ◌∷◌, ◌++◌, length, slice_get, cond, Option, Some, None, refl, sym, ap, ◌∙◌, subst, arith}
use Rattle.std.specs.Prelude.{option_map, nat_lt}
use Rattle.std.specs.List.{AllByRecursion, enumerate_from, flat_map}
use Rattle.std.proofs.lemmas.Bool.{false≢true}
use Rattle.std.proofs.lemmas.Bool.Decides.{nat_tests}
use Rattle.std.proofs.lemmas.Option.{slice_get-map}
use Rattle.nl_base.specs.Rules.{rule_number}
use Rattle.nl_base.specs.declared.rule.Refusal.{Refusal}
use Rattle.nl_base.specs.declared.rule.Rule.TheVariants.{E13}
use Rattle.net_graph.specs.Graph.{IsAbove, IsFirstRecursion, IsInRange, IsReached, ReachesItself}
use Rattle.net_graph.specs.Marks.{has_below, is_marked, marks_of}
use Rattle.net_graph.proofs.MarkLaws.{marked-reachable, reachable-marked}
use Rattle.net_graph.proofs.WorkLaws.{has_above, marked_by_reach, reached_by_marks}
use Rattle.net_hier.specs.Design.{below_of, cells_below}
use Rattle.net_hier.specs.declared.cells.HCell.{HCell}
use Rattle.net_hier.specs.declared.cells.HInst.{HInst}
use Rattle.edif_lookup.specs.Refusals.{broken, first_refusal, lower, lowest}
use Rattle.edif_lookup.proofs.FirstLaws.{first-lowest}
use Rattle.edif_values.specs.declared.file.EdifFile.{EdifFile}
use Rattle.edif_design.specs.Design.{edif_cells}
use Rattle.edif_design.specs.FileRules.{closing_refusals, first_E, recursion_refusals, refusals}

-- the first of a list of lists that is not empty gives the first item
first_some : {A B : Type 0} (f : A → List B) (xs : List A) (i : ℕ) (x : A) (y : B) → slice_get xs i ≡ Some x → ((j : ℕ) (z : A) → j < i → slice_get xs j ≡ Some z → f z ≡ []) → slice_get (f x) 0 ≡ Some y → slice_get (flat_map f xs) 0 ≡ Some y
first_some f [] i x y e none h = absurd (cc)
first_some f (z ∷ xs) zero x y e none h = let g : z ≡ x = cc in front (f z) (flat_map f xs) y (ap (λ w. slice_get (f w) 0) g ∙ h)
  where
    front : {B : Type 0} (ys zs : List B) (y : B) → slice_get ys 0 ≡ Some y → slice_get (ys ++ zs) 0 ≡ Some y
    front [] zs y e = absurd (cc)
    front (w ∷ ys) zs y e = e
first_some f (z ∷ xs) (suc i) x y e none h =
    ap (λ ys. slice_get (ys ++ flat_map f xs) 0) (none 0 z (omega arith) refl) ∙ first_some f xs i x y e (λ j w lt g. none (suc j) w (omega (arith, lt)) g) h

none_at_all : {A B : Type 0} (f : A → List B) (xs : List A) → ((j : ℕ) (z : A) → slice_get xs j ≡ Some z → f z ≡ []) → flat_map f xs ≡ []
none_at_all f [] none = refl
none_at_all f (z ∷ xs) none = (λ j. none 0 z refl j ++ none_at_all f xs (λ i. none (suc i)) j)

pub numbered_get : {A : Type 0} (n : ℕ) (xs : List A) (i : ℕ) (x : A) → slice_get xs i ≡ Some x → slice_get (enumerate_from n xs) i ≡ Some (n + i, x)
numbered_get n [] i x e = absurd (cc)
numbered_get n (y ∷ xs) zero x e = let f : y ≡ x = cc in (λ j. Some ((let g : n ≡ n + 0 = omega arith in g) j, f j))
numbered_get n (y ∷ xs) (suc i) x e = numbered_get (n + 1) xs i x e ∙ ap (λ m. Some (m, x)) (let g : n + 1 + i ≡ n + suc i = omega arith in g)

pub numbered_is : {A : Type 0} (n : ℕ) (xs : List A) (i : ℕ) (item : ℕ × A) → slice_get (enumerate_from n xs) i ≡ Some item → (item.0 ≡ n + i) × (slice_get xs i ≡ Some item.1)
numbered_is n [] i item e = absurd (cc)
numbered_is {A = A} n (y ∷ xs) zero item e = let f : ◌≡◌ {A = ℕ × A} (n, y) item = cc in ((sym (ap (λ p. p.0) f) ∙ (let g : n ≡ n + 0 = omega arith in g)), ap (λ p. Some p.1) f)
numbered_is n (y ∷ xs) (suc i) item e = let r = numbered_is (n + 1) xs i item e in ((r.0 ∙ (let g : n + 1 + i ≡ n + suc i = omega arith in g)), r.1)

module _ (cells : List HCell) (in_range : IsInRange (cells_below cells)) where
  graph : List (List ℕ)
  graph = cells_below cells

  -- the numbers of a cell's instances stand below it
  below_there : (n : ℕ) (cell : HCell) (i : ℕ) (instance : HInst) → slice_get cells n ≡ Some cell → slice_get cell.instances i ≡ Some instance → IsAbove (cells_below cells) n instance.cell
  below_there n cell i instance e g = record {
    numbers = below_of cell;
    are_below = slice_get-map below_of cells n ∙ ap (option_map below_of) e;
    place = i;
    is_there = slice_get-map (λ u. u.cell) cell.instances i ∙ ap (option_map (λ u. u.cell)) g;
  }

  bounds : (outer number : ℕ) → has_below (cells_below cells) outer number ≡ true → number < length (cells_below cells)
  bounds outer number h = in_range outer number (has_above (cells_below cells) outer number h)

  marked_is : (start k : ℕ) → start < length (cells_below cells) → IsReached (cells_below cells) start k → is_marked (marks_of (cells_below cells) start) k ≡ true
  marked_is start k lt r = marked-reachable (cells_below cells) start lt bounds k (marked_by_reach (cells_below cells) start k r)

  is_marked_so : (start k : ℕ) → is_marked (marks_of (cells_below cells) start) k ≡ true → IsReached (cells_below cells) start k
  is_marked_so start k h = reached_by_marks (cells_below cells) start k (reachable-marked (cells_below cells) start k h)

  unmarked : (b : Bool) → (b ≡ true → ⊥) → b ≡ false
  unmarked true h = absurd (h refl)
  unmarked false h = refl

  silent : (b : Bool) (name : List ℕ) (names : List (List ℕ)) → b ≡ false → broken b E13 name names ≡ []
  silent true name names h = absurd (false≢true (sym h))
  silent false name names h = refl

  aloud : (b : Bool) (name : List ℕ) (names : List (List ℕ)) → b ≡ true → broken b E13 name names ≡ record { rule = E13; cell = name; names = names } ∷ []
  aloud true name names h = refl
  aloud false name names h = absurd (false≢true h)

  -- a cell that does not reach itself closes nothing
  quiet_cell : (n : ℕ) (cell : HCell) → slice_get cells n ≡ Some cell → ¬ ReachesItself (cells_below cells) n → flat_map (closing_refusals cells n cell.name) cell.instances ≡ []
  quiet_cell n cell e free = none_at_all (closing_refusals cells n cell.name) cell.instances
      (λ i instance g. silent (is_marked (marks_of (cells_below cells) instance.cell) n) cell.name (instance.name ∷ [])
      (unmarked (is_marked (marks_of (cells_below cells) instance.cell) n) (λ h. free (record { below = instance.cell; first = below_there n cell i instance e g; back = is_marked_so instance.cell n h }))))

  -- where no cell reaches itself, nothing closes
  pub no_recursion_refusals : ((n : ℕ) → ¬ ReachesItself (cells_below cells) n) → recursion_refusals cells ≡ []
  no_recursion_refusals free = none_at_all (λ item. flat_map (closing_refusals cells item.0 item.1.name) item.1.instances) (enumerate_from 0 cells)
      (λ j item e. (let r = numbered_is 0 cells j item e in quiet_cell item.0 item.1 (ap (slice_get cells) (r.0 ∙ (let g : 0 + j ≡ j = omega arith in g)) ∙ r.1) (free item.0)))

  -- the first cell that reaches itself and its closing instance are the first refusal
  pub first_recursion_refusal : (n i : ℕ) → IsFirstRecursion (cells_below cells) n i → (cell : HCell) (instance : HInst) → slice_get cells n ≡ Some cell → slice_get cell.instances i ≡ Some instance
      → slice_get (recursion_refusals cells) 0 ≡ Some (record { rule = E13; cell = cell.name; names = instance.name ∷ [] })
  first_recursion_refusal n i first cell instance e g =
      first_some (λ item. flat_map (closing_refusals cells item.0 item.1.name) item.1.instances) (enumerate_from 0 cells) n (n, cell) (record { rule = E13; cell = cell.name; names = instance.name ∷ [] })
      (numbered_get 0 cells n cell e ∙ ap (λ m. Some (m, cell)) (let f : 0 + n ≡ n = omega arith in f))
      (λ j item lt h. (let r = numbered_is 0 cells j item h in
      let same : item.0 ≡ j = r.0 ∙ (let f : 0 + j ≡ j = omega arith in f) in
      quiet_cell item.0 item.1 (ap (slice_get cells) same ∙ r.1) (first.first_number item.0 (omega (arith, same, lt)))))
      (first_some (closing_refusals cells n cell.name) cell.instances i instance (record { rule = E13; cell = cell.name; names = instance.name ∷ [] }) g
      (λ j other lt h. silent (is_marked (marks_of (cells_below cells) other.cell) n) cell.name (other.name ∷ [])
      (unmarked (is_marked (marks_of (cells_below cells) other.cell) n) (λ m. first.closing.first_place j other.cell lt (place_of_instance j other h) (is_marked_so other.cell n m))))
      (ap (λ refusals. slice_get refusals 0)
      (aloud (is_marked (marks_of (cells_below cells) instance.cell) n) cell.name (instance.name ∷ []) (marked_is instance.cell n (in_range n instance.cell (below_there n cell i instance e g)) closes))))
    where
      are : first.closing.numbers ≡ below_of cell
      are = let a : slice_get (cells_below cells) n ≡ Some (below_of cell) = slice_get-map below_of cells n ∙ ap (option_map below_of) e in
          let b : slice_get (cells_below cells) n ≡ Some first.closing.numbers = first.closing.are_below in cc

      place_of_instance : (j : ℕ) (other : HInst) → slice_get cell.instances j ≡ Some other → slice_get first.closing.numbers j ≡ Some other.cell
      place_of_instance j other h = ap (λ ns. slice_get ns j) are ∙ (slice_get-map (λ u. u.cell) cell.instances j ∙ ap (option_map (λ u. u.cell)) h)

      inner_is : first.closing.inner ≡ instance.cell
      inner_is = let a : slice_get first.closing.numbers i ≡ Some instance.cell = place_of_instance i instance g in
          let b : slice_get first.closing.numbers i ≡ Some first.closing.inner = first.closing.is_there in cc

      closes : IsReached (cells_below cells) instance.cell n
      closes = subst (λ m. IsReached (cells_below cells) m n) inner_is first.closing.closes

-- the lowest of refusals that all are of one rule is the first
pub same_rule_lowest : (xs : List Refusal) → ((i : ℕ) (x : Refusal) → slice_get xs i ≡ Some x → rule_number x.rule ≡ 12) → lowest xs ≡ slice_get xs 0
unfolding lower lowest
same_rule_lowest [] h = refl
same_rule_lowest (x ∷ xs) h = ap (lower (Some x)) (same_rule_lowest xs (λ i. h (suc i))) ∙ by (slice_get xs 0) (λ y e. h 1 y e)
  where
    by : (o : Option Refusal) → ((y : Refusal) → o ≡ Some y → rule_number y.rule ≡ 12) → lower (Some x) o ≡ Some x
    by None g = refl
    by (Some y) g = pick (nat_lt (rule_number y.rule) (rule_number x.rule)) (let a : rule_number y.rule ≡ 12 = g y refl in let b : rule_number x.rule ≡ 12 = h 0 x refl in let e : nat_lt (rule_number y.rule) (rule_number x.rule) ≡ false = grind (arith, nat_tests) in e)
      where
        pick : (b : Bool) → b ≡ false → cond b (Some y) (Some x) ≡ Some x
        pick true e = absurd (false≢true (sym e))
        pick false e = refl

all_joined : {B : Type 0} (P : B → Type 0) (ys zs : List B) → AllByRecursion P ys → AllByRecursion P zs → AllByRecursion P (ys ++ zs)
all_joined P [] zs a b = b
all_joined P (y ∷ ys) zs a b = (a.0, all_joined P ys zs a.1 b)

all_flat : {A B : Type 0} (P : B → Type 0) (f : A → List B) (xs : List A) → ((x : A) → AllByRecursion P (f x)) → AllByRecursion P (flat_map f xs)
all_flat P f [] h = tt
all_flat P f (x ∷ xs) h = all_joined P (f x) (flat_map f xs) (h x) (all_flat P f xs h)

pub recursion_rule : (cells : List HCell) → AllByRecursion (λ refusal. rule_number refusal.rule ≡ 12) (recursion_refusals cells)
recursion_rule cells = all_flat (λ refusal. rule_number refusal.rule ≡ 12) (λ item. flat_map (closing_refusals cells item.0 item.1.name) item.1.instances) (enumerate_from 0 cells)
    (λ item. all_flat (λ refusal. rule_number refusal.rule ≡ 12) (closing_refusals cells item.0 item.1.name) item.1.instances (λ instance. one (is_marked (marks_of (cells_below cells) instance.cell) item.0) item.1.name (instance.name ∷ [])))
  where
    one : (b : Bool) (name : List ℕ) (names : List (List ℕ)) → AllByRecursion (λ refusal. rule_number refusal.rule ≡ 12) (broken b E13 name names)
    one true name names = (refl, tt)
    one false name names = tt

pub all_get : {A : Type 0} (P : A → Type 0) (xs : List A) (i : ℕ) (x : A) → AllByRecursion P xs → slice_get xs i ≡ Some x → P x
all_get P [] i x h e = absurd (cc)
all_get P (y ∷ xs) zero x h e = let f : y ≡ x = cc in subst P f h.0
all_get P (y ∷ xs) (suc i) x h e = all_get P xs i x h.1 e

-- where no rule up to E12 is broken, the first refusal is that of the design
pub first_of_design : (file : EdifFile) → refusals file ≡ [] → first_E file ≡ slice_get (recursion_refusals (edif_cells file)) 0
unfolding first_E
first_of_design file h =
    ap (λ rs. first_refusal (rs ++ recursion_refusals (edif_cells file))) h
    ∙ (first-lowest (recursion_refusals (edif_cells file))
    ∙ same_rule_lowest (recursion_refusals (edif_cells file)) (λ i x e. all_get (λ refusal. rule_number refusal.rule ≡ 12) (recursion_refusals (edif_cells file)) i x (recursion_rule (edif_cells file)) e))
