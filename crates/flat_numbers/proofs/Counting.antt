-- the flat count
use Rattle.std.proofs.Common.{◌≡◌, ◌≢◌, set, ℕ, zero, suc, ◌+◌, ◌-◌, ◌^◌, ◌<◌, ◌≤◌, ◌⊎◌, inl, inr, List, [], ◌∷◌, ◌++◌, refl, sym, ◌∙◌, ap, subst, subst₂, slice_get, Some, length, map, min, take, arith}
use Rattle.net_hier.specs.FlatCount.{FlatCount, of_cell, FlatCountEach, no_instance, an_instance}
use Rattle.net_hier.specs.Units.{port_bits}
use Rattle.net_hier.specs.Design.{Design, IsCell, below_of, cells_below}
use Rattle.net_hier.specs.Valid.{IsValid}
use Rattle.net_graph.specs.Graph.{Visits, VisitsEach, again, first, none, next}
use Rattle.net_graph.proofs.OrderLaws.{HasBelow, StandsIn, front_or_last, visits_below, visits_lists}
use Rattle.flat_numbers.proofs.Reading.{get_set_same, get_set_other}
use Rattle.std.proofs.lemmas.List.{length-map, length-set}
use Rattle.std.proofs.lemmas.Option.{slice_get_within}
use Rattle.net_hier.specs.declared.cells.HCell.{HCell}
use Rattle.net_hier.specs.declared.cells.HInst.{HInst}
use Rattle.net_hier.proofs.PathLaws.{same_element}
use Rattle.flat_numbers.specs.FlatCounts.{IsCountBelow, IsCountOf, IsFlatCountOf}

each_last : {cells : List HCell} (numbers : List ℕ) (number m n : ℕ) → FlatCountEach cells numbers m → FlatCount cells number n → FlatCountEach cells (numbers ++ number ∷ []) (m + n)
each_last {cells = cells} [] number m n no_instance one = let e : n + 0 ≡ 0 + n = omega arith in subst (FlatCountEach cells (number ∷ [])) e (an_instance one no_instance)
each_last {cells = cells} (head ∷ numbers) number m n (an_instance {count = one_first} {more = more} h rest) one =
    let e : one_first + (more + n) ≡ (one_first + more) + n = omega arith in
    subst (FlatCountEach cells (head ∷ (numbers ++ number ∷ []))) e (an_instance h (each_last numbers number more n rest one))

take_next : {A B : Type 0} (f : A → B) (xs : List A) (i : ℕ) (x : A) → slice_get xs i ≡ Some x → map f (take (i + 1) xs) ≡ map f (take i xs) ++ f x ∷ []
take_next f [] i x e = absurd (cc)
take_next f (y ∷ xs) zero x e = let p : y ≡ x = cc in ap (λ w. f w ∷ []) p
take_next f (y ∷ xs) (suc i) x e = let z : suc i + 1 ≡ suc (i + 1) = omega arith in ap (λ n. map f (take n (y ∷ xs))) z ∙ ap (λ w. f y ∷ w) (take_next f xs i x e)

pub count_first : (cells : List HCell) (instances : List HInst) (own : ℕ) (count : ℕ) → count ≡ min (2 ^ 64 - 1) own → IsCountBelow cells (take 0 instances) own count
count_first cells instances own count e = record { exact = 0; is_count = no_instance; is = omega (arith, e) }

pub count_next : (cells : List HCell) (instances : List HInst) (i : ℕ) (instance : HInst) (own count : ℕ) (counts : List ℕ) (read more : ℕ) → slice_get instances i ≡ Some instance → IsCountOf cells counts instance.cell →
    slice_get counts instance.cell ≡ Some read → more ≡ min (2 ^ 64 - 1) (count + read) → IsCountBelow cells (take i instances) own count → IsCountBelow cells (take (i + 1) instances) own more
count_next cells instances i instance own count counts read more there known reads e below =
    let r : known.count ≡ read = cc in
    let c : IsFlatCountOf cells instance.cell known.count = known.is_count in
    record {
      exact = below.exact + c.exact;
      is_count = subst (λ w. FlatCountEach cells w (below.exact + c.exact)) (sym (take_next (λ h. h.cell) instances i instance there)) (each_last (map (λ h. h.cell) (take i instances)) instance.cell below.exact c.exact below.is_count c.is_count);
      is = omega (arith, e, r, below.is, c.is);
    }

pub count_whole : (cells : List HCell) (number : ℕ) (cell : HCell) (own count : ℕ) → IsCell cells number cell → own ≡ min (2 ^ 64 - 1) (port_bits cell + length cell.nets) → IsCountBelow cells cell.instances (1 + own) count → IsFlatCountOf cells number count
count_whole cells number cell own count is e below = record { exact = 1 + port_bits cell + length cell.nets + below.exact; is_count = of_cell is below.is_count; is = omega (arith, e, below.is) }

-- a cell has one count
mutual
  pub one_count : {cells : List HCell} {number m n : ℕ} → FlatCount cells number m → FlatCount cells number n → m ≡ n
  one_count {cells = cells} {number = number} (of_cell {below = a} {cell = c} is each) (of_cell {below = b} {cell = d} js others) =
      let e : d ≡ c = same_element cells number d c js is in
      let f : a ≡ b = one_count_each each (subst (λ w. FlatCountEach cells (map (λ i. i.cell) w.instances) b) e others) in
      let p : port_bits d ≡ port_bits c = ap port_bits e in
      let q : length d.nets ≡ length c.nets = ap (λ w. length w.nets) e in
      omega (arith, f, p, q)

  pub one_count_each : {cells : List HCell} {numbers : List ℕ} {m n : ℕ} → FlatCountEach cells numbers m → FlatCountEach cells numbers n → m ≡ n
  one_count_each no_instance no_instance = refl
  one_count_each (an_instance {count = a} {more = m} h rest) (an_instance {count = b} {more = n} k others) =
      let p : a ≡ b = one_count h k in
      let q : m ≡ n = one_count_each rest others in
      omega (arith, p, q)

-- the cells that are listed up to here have their counts in the table
pub record KnowsCounts (cells : List HCell) (order : List ℕ) (done : ℕ) (counts : List ℕ) : Type 0 where
  pub len : length counts ≡ length cells
  pub known : (place number : ℕ) → place < done → slice_get order place ≡ Some number → IsCountOf cells counts number

-- each number of the list is one of the graph
abbrev pub AreListed : List (List ℕ) → List ℕ → Type 0
AreListed graph order = (place number : ℕ) → slice_get order place ≡ Some number → number < length graph

mutual
  visits_in : {graph : List (List ℕ)} {before after : List ℕ} {number : ℕ} → Visits graph before number after → AreListed graph before → AreListed graph after
  visits_in (again h) are place found e = are place found e
  visits_in {graph = graph} (first {middle = middle} {number = number} {numbers = list} fresh is_list each) are place found e = elim (front_or_last middle number place found e) [
    | inl f ↦ visits_each_in each are place found f
    | inr f ↦ subst (λ n. n < length graph) f.1 (slice_get_within graph number list is_list)
  ]

  visits_each_in : {graph : List (List ℕ)} {before after : List ℕ} {numbers : List ℕ} → VisitsEach graph before numbers after → AreListed graph before → AreListed graph after
  visits_each_in none are place found e = are place found e
  visits_each_in (next one rest) are place found e = visits_each_in rest (visits_in one are) place found e

-- what is mapped stands at its place
pub map_there : {A B : Type 0} (f : A → B) (xs : List A) (i : ℕ) (x : A) → slice_get xs i ≡ Some x → slice_get (map f xs) i ≡ Some (f x)
map_there f [] i x e = absurd (cc)
map_there f (y ∷ xs) zero x e = let p : y ≡ x = cc in ap (λ w. Some (f w)) p
map_there f (y ∷ xs) (suc i) x e = map_there f xs i x e

-- what the order of a design gives to the walk over it
pub record IsGoodOrder (cells : List HCell) (top : ℕ) (order : List ℕ) : Type 0 where
  pub in_range : (place number : ℕ) → slice_get order place ≡ Some number → number < length cells
  pub below : HasBelow (cells_below cells) order
  pub has_top : StandsIn order top

pub good_order : (design : Design) → IsValid design → IsGoodOrder design.cells design.top design.order
good_order design valid = record {
  in_range = λ place number e. let lt = visits_in valid.postorder (λ p n f. absurd (cc)) place number e in omega (arith, lt, length-map design.cells below_of);
  below = visits_below (cells_below design.cells) design.top valid.postorder (λ place number list at inner e. absurd (cc));
  has_top = visits_lists (cells_below design.cells) design.top valid.postorder;
}

nat_order : (a b : ℕ) → (a < b) ⊎ ((a ≡ b) ⊎ (b < a))
nat_order a b = grind arith

same_or_other : (a b : ℕ) → (a ≡ b) ⊎ (a ≢ b)
same_or_other a b = elim (nat_order a b) [ inl lt ↦ inr (λ e. omega arith) | inr (inl e) ↦ inl e | inr (inr lt) ↦ inr (λ e. omega arith) ]

last_or_less : (place done : ℕ) → place < done + 1 → (place < done) ⊎ (place ≡ done)
last_or_less place done lt = grind arith

same_read : (order : List ℕ) (i j number other : ℕ) → slice_get order i ≡ Some number → slice_get order j ≡ Some other → j ≡ i → number ≡ other
same_read order i j number other e f p = cc

module _ (cells : List HCell) (top : ℕ) (order : List ℕ) (good : IsGoodOrder cells top order) (done : ℕ) (counts : List ℕ) (knows : KnowsCounts cells order done counts) where
  pub number_there : (number : ℕ) → slice_get order done ≡ Some number → number < length cells
  number_there number e = good.in_range done number e

  pub count_below : (number : ℕ) → slice_get order done ≡ Some number → (cell : HCell) (place : ℕ) (instance : HInst) → IsCell cells number cell → slice_get cell.instances place ≡ Some instance → IsCountOf cells counts instance.cell
  count_below number e cell place instance is there =
      let (before, lt, f) = good.below done number (below_of cell) place instance.cell e (map_there below_of cells number cell is) (map_there (λ (i : HInst). i.cell) cell.instances place instance there) in
      knows.known before instance.cell lt f

  pub count_set : (number count : ℕ) → slice_get order done ≡ Some number → IsFlatCountOf cells number count → KnowsCounts cells order (done + 1) (set counts number count)
  count_set number count e is =
      let lt : number < length counts = let l = number_there number e in omega (arith, l, knows.len) in
      record {
        len = length-set counts number count ∙ knows.len;
        known = λ place other less f. elim (same_or_other number other) [
          | inl same ↦ record { count = count; is_there = subst (λ n. slice_get (set counts number count) n ≡ Some count) same (get_set_same counts number count lt); is_count = subst (λ n. IsFlatCountOf cells n count) same is }
          | inr differ ↦
              let lp : place < done = elim (last_or_less place done less) [ inl l ↦ l | inr p ↦ absurd (differ (same_read order done place number other e f p)) ] in
              let k : IsCountOf cells counts other = knows.known place other lp f in
              record { count = k.count; is_there = get_set_other counts number other count differ ∙ k.is_there; is_count = k.is_count }
        ];
      }

pub counts_first : (cells : List HCell) (order : List ℕ) (counts : List ℕ) → length counts ≡ length cells → KnowsCounts cells order 0 counts
counts_first cells order counts len = record { len = len; known = λ place number less e. absurd (omega arith) }

pub counts_whole : (cells : List HCell) (top : ℕ) (order : List ℕ) (done : ℕ) (counts : List ℕ) → IsGoodOrder cells top order → length order ≤ done → KnowsCounts cells order done counts → IsCountOf cells counts top
counts_whole cells top order done counts good le knows =
    let s : StandsIn order top = good.has_top in
    knows.known s.place top (let l = slice_get_within order s.place top s.is_there in omega arith) s.is_there

pub order_there : (design : Design) (cells : List HCell) (order : List ℕ) → IsValid design → cells ≡ design.cells → order ≡ design.order → IsGoodOrder cells design.top order
order_there design cells order valid e f = subst₂ (λ (cs : List HCell) (o : List ℕ). IsGoodOrder cs design.top o) (sym e) (sym f) (good_order design valid)
