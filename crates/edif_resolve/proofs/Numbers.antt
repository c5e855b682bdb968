-- Cells that are meant stand in the file under their numbers.
use Rattle.std.proofs.Common.{◌≡◌, ℕ, zero, suc, ◌+◌, ◌<◌, ◌≤◌, Bool, true, false, cond, List, [], ◌∷◌, ◌++◌, map, length, filter, take, slice_get, Option, Some, None, refl, sym, ap, ◌∙◌, subst, arith, append_assoc}
use Rattle.std.specs.Prelude.{option_map}
use Rattle.std.specs.List.{AllByRecursion, cons_option, enumerate_from}
use Rattle.std.specs.Option.{option_and_then}
use Rattle.std.proofs.lemmas.Option.{slice_get-map, slice_get_within}
use Rattle.std.proofs.lemmas.List.{length-map}
use Rattle.net_graph.proofs.OrderLaws.{get_front, get_last}
use Rattle.edif_lookup.specs.Candidates.{candidates, first_or_all, the_only}
use Rattle.edif_values.specs.declared.file.EdifFile.{EdifFile}
use Rattle.edif_values.specs.declared.file.Design.{Design}
use Rattle.edif_values.specs.declared.instance.Instance.{Instance}
use Rattle.edif_values.specs.declared.port.Port.{Port}
use Rattle.net_graph.specs.Graph.{IsInRange}
use Rattle.net_graph.specs.Marks.{marks_of}
use Rattle.edif_design.specs.Parts.{designs, instances, ports}
use Rattle.edif_design.specs.Reach.{cells_below, marks_below, reached_marks, those_meant}
use Rattle.edif_design.specs.Tables.{place_of}
use Rattle.edif_design.specs.declared.tables.PlacedCell.{PlacedCell}
use Rattle.edif_design.specs.References.{cell_meant, first_meant, number_meant, numbers_meant, top, top_meant, CellPlace, all_cells, cell_candidates, cells_of_library, file_cells, library_meant, link_meant}

-- the item of this number stands in the list
abbrev pub StandsAt : {A : Type 0} → List A → ℕ × A → Type 0
StandsAt xs item = slice_get xs item.0 ≡ Some item.1

module _ {A : Type 0} (P : ℕ × A → Type 0) where
  all_filter : (p : ℕ × A → Bool) (xs : List (ℕ × A)) → AllByRecursion P xs → AllByRecursion P (filter p xs)
  all_filter p [] h = h
  all_filter p (x ∷ xs) h = by (p x) (all_filter p xs h.1)
    where
      by : (b : Bool) → AllByRecursion P (filter p xs) → AllByRecursion P (cond b (x ∷ filter p xs) (filter p xs))
      by true rest = (h.0, rest)
      by false rest = rest

  all_first : (xs ys : List (ℕ × A)) → AllByRecursion P xs → AllByRecursion P ys → AllByRecursion P (first_or_all xs ys)
  all_first [] ys h g = g
  all_first (x ∷ xs) ys h g = (h.0, tt)

  pub all_candidates : (name : A → List ℕ) (xs : List (ℕ × A)) (spelling : List ℕ) → AllByRecursion P xs → AllByRecursion P (candidates name xs spelling)
  all_candidates name xs spelling h = all_first _ _ (all_filter _ xs h) (all_filter _ xs h)

  pub the_only_is : (xs : List (ℕ × A)) (x : ℕ × A) → AllByRecursion P xs → the_only xs ≡ Some x → P x
  the_only_is [] x h e = absurd (cc)
  the_only_is (one ∷ []) x h e = let f : one ≡ x = cc in subst P f h.0
  the_only_is (one ∷ (two ∷ rest)) x h e = absurd (cc)

all_numbered : {A : Type 0} (before xs : List A) → AllByRecursion (StandsAt (before ++ xs)) (enumerate_from (length before) xs)
all_numbered before [] = tt
all_numbered {A = A} before (x ∷ xs) =
    let e : (before ++ x ∷ []) ++ xs ≡ before ++ (x ∷ xs) = append_assoc before (x ∷ []) xs in
    let n : length (before ++ x ∷ []) ≡ length before + 1 = length_push before x in (
      subst (λ ys. slice_get ys (length before) ≡ Some x) e (get_front (before ++ x ∷ []) xs (length before) x (get_last before x)),
      subst (λ ys. AllByRecursion (StandsAt ys) (enumerate_from (length before + 1) xs)) e (subst (λ m. AllByRecursion (StandsAt ((before ++ x ∷ []) ++ xs)) (enumerate_from m xs)) n (all_numbered (before ++ x ∷ []) xs)),
    )
  where
    length_push : (ys : List A) (y : A) → length (ys ++ y ∷ []) ≡ length ys + 1
    length_push [] y = refl
    length_push (z ∷ ys) y = let e : length (ys ++ y ∷ []) ≡ length ys + 1 = length_push ys y in omega (arith, e)

pub numbered_stand : {A : Type 0} (xs : List A) → AllByRecursion (StandsAt xs) (enumerate_from 0 xs)
numbered_stand xs = all_numbered [] xs

module _ (file : EdifFile) where
  candidates_stand : (library : ℕ) (spelling : List ℕ) → AllByRecursion (StandsAt (all_cells file)) (cell_candidates file library spelling)
  candidates_stand library spelling =
      all_candidates (StandsAt (all_cells file)) (λ place. place.cell.name.ident) (cells_of_library file library) spelling
      (all_filter (StandsAt (all_cells file)) _ (enumerate_from 0 (all_cells file)) (numbered_stand (all_cells file)))

  -- a cell that is meant stands in the file under its number
  pub meant_stands : (home : ℕ) (library : Option (List ℕ)) (spelling : List ℕ) (place : ℕ × CellPlace) → link_meant file home library spelling ≡ Some place → slice_get (all_cells file) place.0 ≡ Some place.1
  meant_stands home library spelling place e = by (library_meant file home library) e
    where
      by : (o : Option ℕ) → option_and_then (λ number. the_only (cell_candidates file number spelling)) o ≡ Some place → slice_get (all_cells file) place.0 ≡ Some place.1
      by None e = absurd (cc)
      by (Some number) e = the_only_is (StandsAt (all_cells file)) (cell_candidates file number spelling) place (candidates_stand number spelling) e

pub map_twice : {A B C : Type 0} (f : B → C) (g : A → B) (xs : List A) → map f (map g xs) ≡ map (λ x. f (g x)) xs
map_twice f g [] = refl
map_twice f g (x ∷ xs) = ap (λ ys. f (g x) ∷ ys) (map_twice f g xs)

all_taken : {A : Type 0} (xs : List A) (i : ℕ) → length xs ≤ i → take i xs ≡ xs
all_taken [] zero h = refl
all_taken [] (suc i) h = refl
all_taken (x ∷ xs) zero h = absurd (omega arith)
all_taken (x ∷ xs) (suc i) h = ap (λ ys. x ∷ ys) (all_taken xs i (omega arith))

-- the graph that is made place by place
pub graph_done : (file : EdifFile) (places : List PlacedCell) → map place_of places ≡ all_cells file → (i : ℕ) → length places ≤ i → (made : List (List ℕ))
    → made ≡ map (λ place. those_meant (numbers_meant file (place_of place))) (take i places) → made ≡ cells_below file
graph_done file places are i h made is =
    is ∙ (ap (map (λ place. those_meant (numbers_meant file (place_of place)))) (all_taken places i h)
    ∙ (sym (map_twice (λ place. those_meant (numbers_meant file place)) place_of places) ∙ ap (map (λ place. those_meant (numbers_meant file place))) are))

-- the ports that are listed place by place
pub port_tables_done : (file : EdifFile) (places : List PlacedCell) → map place_of places ≡ all_cells file → (i : ℕ) → length places ≤ i → (made : List (List Port))
    → made ≡ map (λ place. ports place.cell.now) (take i places) → made ≡ map ports (file_cells file)
port_tables_done file places are i h made is =
    is ∙ (ap (map (λ place. ports place.cell.now)) (all_taken places i h)
    ∙ (sym (map_twice (λ place. ports place.cell) place_of places) ∙ (ap (map (λ place. ports place.cell)) are ∙ sym (map_twice ports (λ place. place.cell) (all_cells file)))))

module _ (file : EdifFile) where
  -- the number of a cell that is meant is one of the file's
  pub meant_within : (home : ℕ) (library : Option (List ℕ)) (spelling : List ℕ) (place : ℕ × CellPlace) → link_meant file home library spelling ≡ Some place → place.0 < length (all_cells file)
  meant_within home library spelling place e = slice_get_within (all_cells file) place.0 place.1 (meant_stands file home library spelling place e)

  below_all : (home : ℕ) (inner : List Instance) → AllByRecursion (λ n. n < length (all_cells file)) (those_meant (map (λ instance. number_meant (cell_meant file home instance)) inner))
  below_all home [] = tt
  below_all home (instance ∷ inner) = by (cell_meant file home instance) refl (below_all home inner)
    where
      by : (o : Option (ℕ × CellPlace)) → cell_meant file home instance ≡ o → AllByRecursion (λ n. n < length (all_cells file)) (those_meant (map (λ other. number_meant (cell_meant file home other)) inner))
          → AllByRecursion (λ n. n < length (all_cells file)) (cons_option (number_meant o) (those_meant (map (λ other. number_meant (cell_meant file home other)) inner)))
      by None e rest = rest
      by (Some place) e rest = (meant_within home instance.library instance.cell place e, rest)

  all_there : (m : ℕ) (xs : List ℕ) (i x : ℕ) → AllByRecursion (λ n. n < m) xs → slice_get xs i ≡ Some x → x < m
  all_there m [] i x h e = absurd (cc)
  all_there m (y ∷ xs) zero x h e = let f : y ≡ x = cc in subst (λ n. n < m) f h.0
  all_there m (y ∷ xs) (suc i) x h e = all_there m xs i x h.1 e

  cells_below_long : length (cells_below file) ≡ length (all_cells file)
  cells_below_long = length-map (all_cells file) (λ place. those_meant (numbers_meant file place))

  of_place : (o : Option CellPlace) (numbers : List ℕ) → option_map (λ place. those_meant (numbers_meant file place)) o ≡ Some numbers → AllByRecursion (λ n. n < length (all_cells file)) numbers
  of_place None numbers e = absurd (cc)
  of_place (Some place) numbers e = let f : those_meant (numbers_meant file place) ≡ numbers = cc in subst (AllByRecursion (λ n. n < length (all_cells file))) f (below_all place.library (instances place.cell))

  -- the numbers below a cell are cells of the file
  pub below_in_range : IsInRange (cells_below file)
  below_in_range outer inner above =
      subst (λ m. inner < m) (sym cells_below_long)
      (all_there (length (all_cells file)) above.numbers above.place inner
      (of_place (slice_get (all_cells file) outer) above.numbers (sym (slice_get-map (λ place. those_meant (numbers_meant file place)) (all_cells file) outer) ∙ above.are_below)) above.is_there)

  first_within : (found : List Design) (place : ℕ × CellPlace) → first_meant (map (top_meant file) found) ≡ Some place → slice_get (all_cells file) place.0 ≡ Some place.1
  first_within [] place e = absurd (cc)
  first_within (design ∷ rest) place e = meant_stands file 0 (Some design.library) design.cell place e

  -- the top stands in the file under its number
  pub top_stands : (place : ℕ × CellPlace) → top file ≡ Some place → slice_get (all_cells file) place.0 ≡ Some place.1
  top_stands place e = first_within (designs file) place e

  -- without a top no cell is reached
  pub marks_none : None ≡ number_meant (top file) → [] ≡ reached_marks file
  unfolding reached_marks
  marks_none e = by (top file) refl e
    where
      by : (o : Option (ℕ × CellPlace)) → top file ≡ o → None ≡ number_meant o → [] ≡ marks_below file o
      by None e g = refl
      by (Some place) e g = absurd (cc)

  -- the marks are those of what is reached from the top
  pub marks_some : (n : ℕ) → Some n ≡ number_meant (top file) → marks_of (cells_below file) n ≡ reached_marks file
  unfolding reached_marks
  marks_some n e = by (top file) e
    where
      by : (o : Option (ℕ × CellPlace)) → Some n ≡ number_meant o → marks_of (cells_below file) n ≡ marks_below file o
      by None g = absurd (cc)
      by (Some place) g = let f : n ≡ place.0 = cc in ap (marks_of (cells_below file)) f

  pub top_within : (n : ℕ) → Some n ≡ number_meant (top file) → n < length (cells_below file)
  top_within n e = by (top file) refl e
    where
      by : (o : Option (ℕ × CellPlace)) → top file ≡ o → Some n ≡ number_meant o → n < length (cells_below file)
      by None e g = absurd (cc)
      by (Some place) e g =
          let f : n ≡ place.0 = cc in
          let w : place.0 < length (all_cells file) = slice_get_within (all_cells file) place.0 place.1 (top_stands place e) in
          omega (arith, f, w, cells_below_long)
