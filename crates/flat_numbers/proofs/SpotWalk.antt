-- what the walk that lists the spots keeps
use Rattle.std.proofs.Common.{◌≡◌, ℕ, zero, suc, ◌+◌, ◌<◌, ◌≤◌, inl, inr, List, [], ◌∷◌, ◌++◌, refl, sym, ◌∙◌, ap, subst, subst₂, slice_get, get_or, drop, Some, length, append_assoc, map, reverse, arith}
use Rattle.std.proofs.lemmas.List.{append-nil, length-map, reverse-append, reverse-reverse}
use Rattle.std.proofs.Math.Seq.{drop-cons}
use Rattle.std.proofs.lemmas.Option.{slice_get_within, get_or_from_slice_get}
use Rattle.flat_numbers.proofs.SpotLaws.{below_there, spot_of}
use Rattle.net_hier.specs.FlatCount.{FlatCount, of_cell, FlatCountEach, no_instance, an_instance}
use Rattle.net_hier.specs.Units.{port_bits}
use Rattle.net_hier.specs.Design.{IsCell}
use Rattle.net_hier.specs.declared.cells.HCell.{HCell}
use Rattle.net_hier.specs.declared.cells.HInst.{HInst}
use Rattle.net_graph.proofs.OrderLaws.{front_or_last}
use Rattle.net_hier.proofs.PathLaws.{same_element}
use Rattle.flat_numbers.specs.Numbers.{AreBases, numbers_of}
use Rattle.flat_numbers.specs.Spots.{spots_below, Walks, ends, lists, top_spot}
use Rattle.flat_numbers.specs.declared.spots.Spot.{Spot}

abbrev pub cells_of : List Spot → List ℕ
cells_of spots = map (λ s. s.cell) spots

pub record KeepsSpots (cells : List HCell) (top count : ℕ) (spots stack : List Spot) (bases : List ℕ) (base : ℕ) : Type 0 where
  pub whole : (after : List Spot) → Walks cells (length spots) (reverse stack) after → Walks cells 0 (top_spot top ∷ []) (spots ++ after)
  pub left : ℕ
  pub counted : FlatCountEach cells (cells_of (reverse stack)) left
  pub total : left + (length spots + base) ≡ count + 2
  pub len : length bases ≡ length spots
  pub are_bases : AreBases cells spots (λ s. get_or bases s base) base

below_cells : (parent place : ℕ) (instances : List HInst) → cells_of (spots_below parent place instances) ≡ map (λ i. i.cell) instances
below_cells parent place [] = refl
below_cells parent place (instance ∷ rest) = ap (λ w. instance.cell ∷ w) (below_cells parent (suc place) rest)

map_both : {A B : Type 0} (f : A → B) (xs ys : List A) → map f (xs ++ ys) ≡ map f xs ++ map f ys
map_both f [] ys = refl
map_both f (x ∷ xs) ys = ap (λ w. f x ∷ w) (map_both f xs ys)

each_both : {cells : List HCell} (xs ys : List ℕ) (m n : ℕ) → FlatCountEach cells xs m → FlatCountEach cells ys n → FlatCountEach cells (xs ++ ys) (m + n)
each_both {cells = cells} [] ys m n no_instance k = let e : n ≡ 0 + n = omega arith in subst (FlatCountEach cells ys) e k
each_both {cells = cells} (x ∷ xs) ys m n (an_instance {count = a} {more = more} h rest) k =
    let e : a + (more + n) ≡ (a + more) + n = omega arith in
    subst (FlatCountEach cells (x ∷ (xs ++ ys))) e (an_instance h (each_both xs ys more n rest k))

pub each_long : {cells : List HCell} (xs : List ℕ) (m : ℕ) → FlatCountEach cells xs m → length xs ≤ m
each_long [] m no_instance = omega arith
each_long (x ∷ xs) m (an_instance {more = more} (of_cell is each) rest) = let l = each_long xs more rest in omega (arith, l)

pub keeps_first : (cells : List HCell) (top count : ℕ) → FlatCount cells top count → KeepsSpots cells top count [] (top_spot top ∷ []) [] 2
keeps_first cells top count c = record {
  whole = λ after walk. walk;
  left = count + 0;
  counted = an_instance c no_instance;
  total = omega arith;
  len = refl;
  are_bases = record { first = refl; next = λ number spot cell e is. absurd (cc); last = refl };
}

last_first : (front : List Spot) (spot : Spot) → reverse (front ++ spot ∷ []) ≡ spot ∷ reverse front
last_first front spot = reverse-append front (spot ∷ [])

-- what is known of the spot that is taken
pub record Taken (cells : List HCell) (count : ℕ) (spots front : List Spot) (spot : Spot) (base : ℕ) : Type 0 where
  pub cell : HCell
  pub is_cell : IsCell cells spot.cell cell
  pub below : ℕ
  pub is_below : FlatCountEach cells (map (λ i. i.cell) cell.instances) below
  pub more : ℕ
  pub is_more : FlatCountEach cells (cells_of (reverse front)) more
  pub total : (1 + port_bits cell + length cell.nets + below) + more + (length spots + base) ≡ count + 2

taken_apart : (cells : List HCell) (count : ℕ) (spots front : List Spot) (spot : Spot) (base left : ℕ) → FlatCountEach cells (spot.cell ∷ cells_of (reverse front)) left → left + (length spots + base) ≡ count + 2 → Taken cells count spots front spot base
taken_apart cells count spots front spot base left (an_instance {more = more} (of_cell {below = below} {cell = cell} is each) rest) total = record { cell = cell; is_cell = is; below = below; is_below = each; more = more; is_more = rest; total = total }

length_more : {A : Type 0} (xs : List A) (x : A) → length (xs ++ x ∷ []) ≡ suc (length xs)
length_more [] x = refl
length_more (y ∷ xs) x = ap suc (length_more xs x)

read_more : (xs : List ℕ) (d e i : ℕ) → i ≤ length xs → get_or (xs ++ d ∷ []) i e ≡ get_or xs i d
read_more [] d e zero le = refl
read_more [] d e (suc i) le = absurd (omega arith)
read_more (x ∷ xs) d e zero le = refl
read_more (x ∷ xs) d e (suc i) le = read_more xs d e i (omega arith)

read_past : (xs : List ℕ) (d : ℕ) → get_or xs (length xs) d ≡ d
read_past [] d = refl
read_past (x ∷ xs) d = read_past xs d

bases_next : (cells : List HCell) (spots : List Spot) (spot : Spot) (bases : List ℕ) (base : ℕ) → length bases ≡ length spots → AreBases cells spots (λ s. get_or bases s base) base → (cell : HCell) → IsCell cells spot.cell cell →
    AreBases cells (spots ++ spot ∷ []) (λ s. get_or (bases ++ base ∷ []) s (base + numbers_of cell)) (base + numbers_of cell)
bases_next cells spots spot bases base len are cell is = record {
  first = read_more bases base (base + numbers_of cell) 0 (omega arith) ∙ are.first;
  next = λ number found other e is_other. elim (front_or_last spots spot number found e) [
    | inl f ↦
        let lt : number < length spots = slice_get_within spots number found f in
        let p : get_or (bases ++ base ∷ []) number (base + numbers_of cell) ≡ get_or bases number base = read_more bases base (base + numbers_of cell) number (omega (arith, len, lt)) in
        let q : get_or (bases ++ base ∷ []) (suc number) (base + numbers_of cell) ≡ get_or bases (suc number) base = read_more bases base (base + numbers_of cell) (suc number) (omega (arith, len, lt)) in
        q ∙ (are.next number found other f is_other ∙ ap (λ w. w + numbers_of other) (sym p))
    | inr f ↦
        let n : number ≡ length bases = f.0 ∙ sym len in
        let same : other ≡ cell = same_element cells spot.cell other cell (subst (λ (s : Spot). IsCell cells s.cell other) (sym f.1) is_other) is in
        let p : get_or (bases ++ base ∷ []) number (base + numbers_of cell) ≡ base = ap (λ m. get_or (bases ++ base ∷ []) m (base + numbers_of cell)) n ∙ (read_more bases base (base + numbers_of cell) (length bases) (omega arith) ∙ read_past bases base) in
        let q : get_or (bases ++ base ∷ []) (suc number) (base + numbers_of cell) ≡ base + numbers_of cell =
        ap (λ m. get_or (bases ++ base ∷ []) m (base + numbers_of cell)) (ap suc n ∙ sym (length_more bases base)) ∙ read_past (bases ++ base ∷ []) (base + numbers_of cell) in
        q ∙ (ap (λ (w : HCell). base + numbers_of w) (sym same) ∙ ap (λ w. w + numbers_of other) (sym p))
  ];
  last = ap (λ m. get_or (bases ++ base ∷ []) m (base + numbers_of cell)) (length_more spots spot ∙ (ap suc (sym len) ∙ sym (length_more bases base))) ∙ read_past (bases ++ base ∷ []) (base + numbers_of cell);
}

nothing_left : {cells : List HCell} {left rest count : ℕ} → FlatCountEach cells [] left → left + rest ≡ count → rest ≡ count
nothing_left no_instance e = omega (arith, e)

module _ (cells : List HCell) (top count : ℕ) (spots stack front : List Spot) (spot : Spot) (bases : List ℕ) (base : ℕ) (keeps : KeepsSpots cells top count spots stack bases base) (is_stack : stack ≡ front ++ spot ∷ []) where
  pub taken : Taken cells count spots front spot base
  taken = taken_apart cells count spots front spot base keeps.left (subst (λ w. FlatCountEach cells (cells_of w) keeps.left) (ap reverse is_stack ∙ last_first front spot) keeps.counted) keeps.total

  same_taken : (cell : HCell) → IsCell cells spot.cell cell → taken.cell ≡ cell
  same_taken cell is = same_element cells spot.cell taken.cell cell taken.is_cell is

  pub taken_within : spot.cell < length cells
  taken_within = slice_get_within cells spot.cell taken.cell taken.is_cell

  pub taken_few : (cell : HCell) → IsCell cells spot.cell cell → (1 + numbers_of cell) + (length cell.instances + (length spots + base)) ≤ count + 2
  taken_few cell is = subst (λ (w : HCell). (1 + numbers_of w) + (length w.instances + (length spots + base)) ≤ count + 2) (same_taken cell is)
      (let l = each_long (map (λ i. i.cell) taken.cell.instances) taken.below taken.is_below in
      let m : length (map (λ i. i.cell) taken.cell.instances) ≡ length taken.cell.instances = length-map taken.cell.instances (λ i. i.cell) in
      let t = taken.total in
      omega (arith, l, m, t))

  -- the spot is listed, and those below it wait
  pub keeps_next : (cell : HCell) → IsCell cells spot.cell cell → KeepsSpots cells top count (spots ++ spot ∷ []) (front ++ reverse (spots_below (length spots) 0 cell.instances)) (bases ++ base ∷ []) (base + numbers_of cell)
  keeps_next cell is =
      let children : List Spot = spots_below (length spots) 0 cell.instances in
      let rev : reverse (front ++ reverse children) ≡ children ++ reverse front = reverse-append front (reverse children) ∙ ap (λ w. w ++ reverse front) (reverse-reverse children) in
      let back : spot ∷ reverse front ≡ reverse stack = sym (ap reverse is_stack ∙ last_first front spot) in
      let longer : length (spots ++ spot ∷ []) ≡ suc (length spots) = length_more spots spot in
      let same : taken.cell ≡ cell = same_taken cell is in
      let below : FlatCountEach cells (map (λ i. i.cell) cell.instances) taken.below = subst (λ (w : HCell). FlatCountEach cells (map (λ i. i.cell) w.instances) taken.below) same taken.is_below in
      let both : FlatCountEach cells (cells_of children ++ cells_of (reverse front)) (taken.below + taken.more) =
      each_both (cells_of children) (cells_of (reverse front)) taken.below taken.more (subst (λ w. FlatCountEach cells w taken.below) (sym (below_cells (length spots) 0 cell.instances)) below) taken.is_more in
      let t : (1 + port_bits cell + length cell.nets + taken.below) + taken.more + (length spots + base) ≡ count + 2 = subst (λ (w : HCell). (1 + port_bits w + length w.nets + taken.below) + taken.more + (length spots + base) ≡ count + 2) same taken.total in
      record {
        whole = λ after walk.
            let there : Walks cells (suc (length spots)) (children ++ reverse front) after = subst₂ (λ n w. Walks cells n w after) longer rev walk in
            subst (Walks cells 0 (top_spot top ∷ [])) (sym (append_assoc spots (spot ∷ []) after)) (keeps.whole (spot ∷ after) (subst (λ w. Walks cells (length spots) w (spot ∷ after)) back (lists is there)));
        left = taken.below + taken.more;
        counted = subst (λ w. FlatCountEach cells w (taken.below + taken.more)) (sym (ap cells_of rev ∙ map_both (λ s. s.cell) children (reverse front))) both;
        total = omega (arith, t, longer);
        len = length_more bases base ∙ (ap suc keeps.len ∙ sym longer);
        are_bases = bases_next cells spots spot bases base keeps.len keeps.are_bases cell is;
      }

pub keeps_ends : (cells : List HCell) (top count : ℕ) (spots : List Spot) (bases : List ℕ) (base : ℕ) → KeepsSpots cells top count spots [] bases base → Walks cells 0 (top_spot top ∷ []) spots × (length spots + base ≡ count + 2)
keeps_ends cells top count spots bases base keeps = (
  subst (Walks cells 0 (top_spot top ∷ [])) (append-nil spots) (keeps.whole [] ends),
  nothing_left keeps.counted keeps.total,
)

pub below_long : (parent place : ℕ) (instances : List HInst) → length (spots_below parent place instances) ≤ length instances
below_long parent place [] = omega arith
below_long parent place (instance ∷ rest) = let l = below_long parent (suc place) rest in omega (arith, l)

pub push_step : (parent : ℕ) (instances : List HInst) (first stack : List Spot) (p : ℕ) (instance : HInst) → slice_get instances p ≡ Some instance → stack ≡ first ++ reverse (drop (suc p) (spots_below parent 0 instances)) →
    stack ++ spot_of parent p instance ∷ [] ≡ first ++ reverse (drop p (spots_below parent 0 instances))
push_step parent instances first stack p instance there e =
    let all : List Spot = spots_below parent 0 instances in
    let at : slice_get all p ≡ Some (spot_of parent (0 + p) instance) = below_there parent 0 instances p instance there in
    let z : 0 + p ≡ p = omega arith in
    let at' : slice_get all p ≡ Some (spot_of parent p instance) = subst (λ n. slice_get all p ≡ Some (spot_of parent n instance)) z at in
    let d : drop p all ≡ spot_of parent p instance ∷ drop (suc p) all = drop-cons all p (spot_of parent p instance) (slice_get_within all p (spot_of parent p instance) at')
    ∙ ap (λ w. w ∷ drop (suc p) all) (get_or_from_slice_get all p (spot_of parent p instance) (spot_of parent p instance) at') in
    let r : reverse (drop p all) ≡ reverse (drop (suc p) all) ++ spot_of parent p instance ∷ [] = ap reverse d ∙ reverse-append (spot_of parent p instance ∷ []) (drop (suc p) all) in
    ap (λ w. w ++ spot_of parent p instance ∷ []) e ∙ (append_assoc first (reverse (drop (suc p) all)) (spot_of parent p instance ∷ []) ∙ ap (λ w. first ++ w) (sym r))

pub keeps_same : (cells : List HCell) (top count : ℕ) (spots stack : List Spot) (bases : List ℕ) (base : ℕ) (spots' stack' : List Spot) (bases' : List ℕ) (base' : ℕ) → spots' ≡ spots → stack' ≡ stack → bases' ≡ bases → base' ≡ base →
    KeepsSpots cells top count spots stack bases base → KeepsSpots cells top count spots' stack' bases' base'
keeps_same cells top count spots stack bases base spots' stack' bases' base' a b c d keeps =
    subst (λ w. KeepsSpots cells top count w stack' bases' base') (sym a)
    (subst (λ w. KeepsSpots cells top count spots w bases' base') (sym b) (subst₂ (KeepsSpots cells top count spots stack) (sym c) (sym d) keeps))
