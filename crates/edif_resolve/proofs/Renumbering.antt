-- The numbers of the reached cells in the design.
use Rattle.std.proofs.Common.{◌≡◌, ℕ, zero, suc, ◌+◌, ◌<◌, Bool, true, false, cond, List, [], ◌∷◌, length, filter, get_or, slice_get, Some, refl, sym, ap, ◌∙◌, subst, arith}
use Rattle.std.specs.Prelude.{option_map}
use Rattle.std.specs.List.{enumerate_from}
use Rattle.std.proofs.lemmas.List.{length-map}
use Rattle.std.proofs.lemmas.Option.{slice_get-map, slice_get_within}
use Rattle.net_graph.specs.Graph.{IsAbove}
use Rattle.net_graph.specs.Marks.{IsReachable, itself, below, has_below, is_marked, marks_of}
use Rattle.net_graph.proofs.ListLaws.{element_there, same_element}
use Rattle.net_graph.proofs.MarkLaws.{length_marks, marked-reachable, marked_within, reachable-marked}
use Rattle.net_graph.proofs.WorkLaws.{above_has, has_above}
use Rattle.net_hier.specs.declared.cells.HCell.{HCell}
use Rattle.edif_values.specs.declared.file.EdifFile.{EdifFile}
use Rattle.edif_design.specs.Design.{cell_value, counts_from, edif_cells, numbers_in_design}
use Rattle.edif_design.specs.Reach.{cells_below, is_reached, marks_below, reached_cells, reached_marks, those_meant}
use Rattle.edif_design.specs.References.{CellPlace, all_cells, linked_cell, numbers_meant, top}
use Rattle.edif_resolve.proofs.Clean.{map_get}
use Rattle.edif_resolve.proofs.Numbers.{below_in_range, top_stands}

-- how many numbers from one on, of so many, pass a test
abbrev pub passing : (ℕ → Bool) → ℕ → ℕ → ℕ
passing test n zero = 0
passing test n (suc m) = cond (test n) 1 0 + passing test (n + 1) m

module _ {A : Type 0} (test : ℕ → Bool) where
  -- an item that passes stands in the chosen list after those before it that pass
  chosen_at : (n : ℕ) (xs : List A) (i : ℕ) (x : A) → slice_get xs i ≡ Some x → test (n + i) ≡ true → slice_get (filter (λ item. test item.0) (enumerate_from n xs)) (passing test n i) ≡ Some (n + i, x)
  chosen_at n [] i x e h = absurd (cc)
  chosen_at n (y ∷ xs) zero x e h =
      let f : y ≡ x = cc in
      let g : n + 0 ≡ n = omega arith in
      ap (λ b. slice_get (cond b ((n, y) ∷ filter (λ item. test item.0) (enumerate_from (n + 1) xs)) (filter (λ item. test item.0) (enumerate_from (n + 1) xs))) 0) (ap test (sym g) ∙ h)
      ∙ (λ j. Some (sym g j, f j))
  chosen_at n (y ∷ xs) (suc i) x e h =
      let g : n + 1 + i ≡ n + suc i = omega arith in
      step (test n) (filter (λ item. test item.0) (enumerate_from (n + 1) xs)) (passing test (n + 1) i) ∙ (chosen_at (n + 1) xs i x e (ap test g ∙ h) ∙ ap (λ m. Some (m, x)) g)
    where
      step : (b : Bool) (rest : List (ℕ × A)) (k : ℕ) → slice_get (cond b ((n, y) ∷ rest) rest) (cond b 1 0 + k) ≡ slice_get rest k
      step true rest k = ap (slice_get ((n, y) ∷ rest)) (let g : 1 + k ≡ suc k = omega arith in g)
      step false rest k = ap (slice_get rest) (let g : 0 + k ≡ k = omega arith in g)

  -- an item of the chosen list is one that passes
  chosen_from : (n : ℕ) (xs : List A) (m : ℕ) (item : ℕ × A) → slice_get (filter (λ other. test other.0) (enumerate_from n xs)) m ≡ Some item
      → (i : ℕ) × ((item.0 ≡ n + i) × ((slice_get xs i ≡ Some item.1) × ((test item.0 ≡ true) × (passing test n i ≡ m))))
  chosen_from n [] m item e = absurd (cc)
  chosen_from n (y ∷ xs) m item e = by (test n) refl m e (λ k g. chosen_from (n + 1) xs k item g)
    where
      rest : List (ℕ × A)
      rest = filter (λ other. test other.0) (enumerate_from (n + 1) xs)

      later : ((k : ℕ) → slice_get rest k ≡ Some item → (i : ℕ) × ((item.0 ≡ n + 1 + i) × ((slice_get xs i ≡ Some item.1) × ((test item.0 ≡ true) × (passing test (n + 1) i ≡ k))))) → (b : Bool) → test n ≡ b → (k : ℕ) → slice_get rest k ≡ Some item → (m : ℕ) → m ≡ cond b 1 0 + k → (i : ℕ) × ((item.0 ≡ n + i) × ((slice_get (y ∷ xs) i ≡ Some item.1) × ((test item.0 ≡ true) × (passing test n i ≡ m))))
      later further b h k e m is_m =
          let r = further k e in
          (suc r.0, ((r.1.0 ∙ (let g : n + 1 + r.0 ≡ n + suc r.0 = omega arith in g)), (r.1.1.0, (r.1.1.1.0, ((λ j. cond (h j) 1 0 + r.1.1.1.1 j) ∙ sym is_m)))))

      by : (b : Bool) → test n ≡ b → (m : ℕ) → slice_get (cond b ((n, y) ∷ rest) rest) m ≡ Some item → ((k : ℕ) → slice_get rest k ≡ Some item → (i : ℕ) × ((item.0 ≡ n + 1 + i) × ((slice_get xs i ≡ Some item.1) × ((test item.0 ≡ true) × (passing test (n + 1) i ≡ k))))) → (i : ℕ) × ((item.0 ≡ n + i) × ((slice_get (y ∷ xs) i ≡ Some item.1) × ((test item.0 ≡ true) × (passing test n i ≡ m))))
      by true h zero e further =
          let f : ◌≡◌ {A = ℕ × A} (n, y) item = cc in
          (0, ((sym (ap (λ p. p.0) f) ∙ (let g : n ≡ n + 0 = omega arith in g)), ((ap (λ p. Some p.1) f), ((ap test (sym (ap (λ p. p.0) f)) ∙ h), refl))))
      by true h (suc k) e further = later further true h k e (suc k) (let g : suc k ≡ 1 + k = omega arith in g)
      by false h m e further = later further false h m e m (let g : m ≡ 0 + m = omega arith in g)

-- the counts before each mark are those of the numbers that pass
counts_at : (test : ℕ → Bool) (marks : List Bool) (n c i : ℕ) → ((k : ℕ) → get_or marks k false ≡ test (n + k)) → i < length marks → get_or (counts_from c marks) i 0 ≡ c + passing test n i
counts_at test [] n c i agree h = absurd (omega arith)
counts_at test (mark ∷ marks) n c zero agree h = (let g : c ≡ c + 0 = omega arith in g)
counts_at test (mark ∷ marks) n c (suc i) agree h =
    counts_at test marks (n + 1) (c + cond mark 1 0) i (λ k. agree (suc k) ∙ ap test (let g : n + suc k ≡ n + 1 + k = omega arith in g)) (omega (arith, h))
    ∙ (ap (λ b. c + cond b 1 0 + passing test (n + 1) i) (agree 0 ∙ ap test (let g : n + 0 ≡ n = omega arith in g))
    ∙ (let g : c + cond (test n) 1 0 + passing test (n + 1) i ≡ c + (cond (test n) 1 0 + passing test (n + 1) i) = omega arith in g))

module _ (file : EdifFile) where
  number_is : (n : ℕ) → is_reached file n ≡ true → get_or (numbers_in_design file) n 0 ≡ passing (is_reached file) 0 n
  number_is n h =
      counts_at (is_reached file) (reached_marks file) 0 0 n (λ k. ap (is_reached file) (let g : k ≡ 0 + k = omega arith in g)) (marked_within (reached_marks file) n h)
      ∙ (let g : 0 + passing (is_reached file) 0 n ≡ passing (is_reached file) 0 n = omega arith in g)

  -- a reached cell stands in the design under its new number
  pub design_at : (n : ℕ) (place : CellPlace) → slice_get (all_cells file) n ≡ Some place → is_reached file n ≡ true
      → slice_get (edif_cells file) (get_or (numbers_in_design file) n 0) ≡ Some (cell_value (numbers_in_design file) (linked_cell file place))
  unfolding edif_cells
  design_at n place e h =
      slice_get-map (λ item. cell_value (numbers_in_design file) (linked_cell file item.1)) (reached_cells file) (get_or (numbers_in_design file) n 0)
      ∙ ap (option_map (λ item. cell_value (numbers_in_design file) (linked_cell file item.1)))
      (ap (slice_get (reached_cells file)) (number_is n h) ∙ chosen_at (is_reached file) 0 (all_cells file) n place e (ap (is_reached file) (let g : 0 + n ≡ n = omega arith in g) ∙ h))

  -- a cell of the design is a reached cell
  pub record ComesFrom (number : ℕ) (cell : HCell) : Type 0 where
    pub old : ℕ
    pub place : CellPlace
    pub stands : slice_get (all_cells file) old ≡ Some place
    pub reached : is_reached file old ≡ true
    pub renumbered : get_or (numbers_in_design file) old 0 ≡ number
    pub value : cell_value (numbers_in_design file) (linked_cell file place) ≡ cell

  pub design_from : (m : ℕ) (cell : HCell) → slice_get (edif_cells file) m ≡ Some cell → ComesFrom m cell
  unfolding edif_cells
  design_from m cell e =
      let found = map_get (λ item. cell_value (numbers_in_design file) (linked_cell file item.1)) (reached_cells file) m cell e in
      let item : ℕ × CellPlace = found.0 in
      let r = chosen_from (is_reached file) 0 (all_cells file) m item found.1.0 in
      let same : item.0 ≡ r.0 = r.1.0 ∙ (let g : 0 + r.0 ≡ r.0 = omega arith in g) in
      record {
        old = item.0;
        place = item.1;
        stands = ap (slice_get (all_cells file)) same ∙ r.1.1.0;
        reached = r.1.1.1.0;
        renumbered = number_is item.0 r.1.1.1.0 ∙ (ap (passing (is_reached file) 0) same ∙ r.1.1.1.1);
        value = found.1.1;
      }

  module _ (start : ℕ × CellPlace) (is_top : top file ≡ Some start) where
    marks_are : reached_marks file ≡ marks_of (cells_below file) start.0
    unfolding reached_marks
    marks_are = ap (marks_below file) is_top

    -- a reached cell stands in the file
    place_there : (n : ℕ) → is_reached file n ≡ true → (place : CellPlace) × (slice_get (all_cells file) n ≡ Some place)
    place_there n h =
        let within : n < length (reached_marks file) = marked_within (reached_marks file) n h in
        let long : length (reached_marks file) ≡ length (cells_below file) = ap length marks_are ∙ length_marks (cells_below file) start.0 in
        let same : length (cells_below file) ≡ length (all_cells file) = length-map (all_cells file) (λ place. those_meant (numbers_meant file place)) in
        element_there (all_cells file) n (omega (arith, within, long, same))

    -- two reached cells have two numbers in the design
    pub numbers_apart : (n m : ℕ) → is_reached file n ≡ true → is_reached file m ≡ true → get_or (numbers_in_design file) n 0 ≡ get_or (numbers_in_design file) m 0 → n ≡ m
    numbers_apart n m h g same =
        let first = place_there n h in
        let second = place_there m g in
        let zero_more : (k : ℕ) → 0 + k ≡ k = λ k. (let e : 0 + k ≡ k = omega arith in e) in
        let a : slice_get (reached_cells file) (passing (is_reached file) 0 n) ≡ Some (0 + n, first.0) = chosen_at (is_reached file) 0 (all_cells file) n first.0 first.1 (ap (is_reached file) (zero_more n) ∙ h) in
        let b : slice_get (reached_cells file) (passing (is_reached file) 0 m) ≡ Some (0 + m, second.0) = chosen_at (is_reached file) 0 (all_cells file) m second.0 second.1 (ap (is_reached file) (zero_more m) ∙ g) in
        let e : passing (is_reached file) 0 n ≡ passing (is_reached file) 0 m = sym (number_is n h) ∙ (same ∙ number_is m g) in
        let one : ◌≡◌ {A = ℕ × CellPlace} (0 + n, first.0) (0 + m, second.0) = same_element (reached_cells file) (passing (is_reached file) 0 m) (0 + n, first.0) (0 + m, second.0) (ap (slice_get (reached_cells file)) (sym e) ∙ a) b in
        sym (zero_more n) ∙ (ap (λ item. item.0) one ∙ zero_more m)

    start_within : start.0 < length (cells_below file)
    start_within = subst (λ m. start.0 < m) (sym (length-map (all_cells file) (λ place. those_meant (numbers_meant file place)))) (slice_get_within (all_cells file) start.0 start.1 (top_stands file start is_top))

    below_bounds : (outer number : ℕ) → has_below (cells_below file) outer number ≡ true → number < length (cells_below file)
    below_bounds outer number h = below_in_range file outer number (has_above (cells_below file) outer number h)

    pub reach_of : (n : ℕ) → is_reached file n ≡ true → IsReachable (cells_below file) start.0 n
    reach_of n h = reachable-marked (cells_below file) start.0 n (ap (λ marks. is_marked marks n) (sym marks_are) ∙ h)

    pub reached_by : (n : ℕ) → IsReachable (cells_below file) start.0 n → is_reached file n ≡ true
    reached_by n r = ap (λ marks. is_marked marks n) marks_are ∙ marked-reachable (cells_below file) start.0 start_within below_bounds n r

    pub top_reached : is_reached file start.0 ≡ true
    top_reached = reached_by start.0 itself

    -- what stands below a reached cell is reached
    pub below_reached : (outer inner : ℕ) → is_reached file outer ≡ true → IsAbove (cells_below file) outer inner → is_reached file inner ≡ true
    below_reached outer inner h above = reached_by inner (below (reach_of outer h) (above_has (cells_below file) outer inner above))
