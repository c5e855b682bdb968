-- What the identifiers of the views of a cell say of a viewRef is what it means.
use Rattle.std.proofs.Common.{◌≡◌, ℕ, suc, ◌+◌, ◌<◌, Bool, true, false, cond, ◌||◌, ◌==◌, List, [], ◌∷◌, ◌++◌, map, length, take, get_or, is_some, filter, refl, sym, ap, ◌∙◌, arith}
use Rattle.std.specs.Prelude.{option_to_list}
use Rattle.std.specs.Borrow.{Bor}
use Rattle.std.specs.List.{enumerate_from, filter_map, list_any}
use Rattle.std.proofs.lemmas.Bool.{ne_eqb}
use Rattle.std.proofs.lemmas.List.{map-append, map-id}
use Rattle.std.proofs.lemmas.Slice.Eq.{bytes_eq-Decides}
use Rattle.nl_base.specs.Case.{same_bytes, same_up_to_case, small}
use Rattle.edif_lookup.specs.Candidates.{candidates, first_or_all, the_only}
use Rattle.edif_lookup.specs.Tables.{meaning, meant_by, written}
use Rattle.edif_lookup.proofs.ListLaws.{filter_map_more}
use Rattle.edif_values.specs.declared.cell.Cell.{Cell}
use Rattle.edif_values.specs.declared.cell.CellItem.{CellItem}
use Rattle.edif_design.specs.CellRules.{means_view}
use Rattle.edif_design.specs.Parts.{numbered, view_in, views}
use Rattle.edif_design.specs.Views.{entry_names, is_one, means_one, view_ident, view_names}

-- ---- whether a spelling means one of some definitions depends on their names alone

-- one name is alike byte for byte, or just one is alike up to case
abbrev is_met : List (List ℕ) → List ℕ → Bool
is_met names spelling = list_any (λ name. same_bytes name spelling) names || (length (filter (λ name. same_up_to_case name spelling) names) == 1)

only_one : {X : Type 0} (xs : List X) → is_some (the_only xs) ≡ (length xs == 1)
only_one [] = refl
only_one (x ∷ []) = refl
only_one (x ∷ (y ∷ xs)) = sym (ne_eqb (length (x ∷ (y ∷ xs))) 1 (λ e. omega (arith, e)))

one_meant : {X : Type 0} (xs : List (ℕ × X)) → is_one (meant_by xs) ≡ is_some (the_only xs)
one_meant [] = refl
one_meant (x ∷ []) = refl
one_meant (x ∷ (y ∷ xs)) = refl

module _ {A : Type 0} (name : A → List ℕ) where
  abbrev names_of : List (ℕ × A) → List (List ℕ)
  names_of = map (λ definition. name definition.1)

  count_names : (p : List ℕ → Bool) (ds : List (ℕ × A)) → length (filter (λ d. p (name d.1)) ds) ≡ length (filter p (names_of ds))
  count_names p [] = refl
  count_names p (d ∷ ds) = by (p (name d.1)) (count_names p ds)
    where
      by : (b : Bool) → length (filter (λ e. p (name e.1)) ds) ≡ length (filter p (names_of ds))
          → length (cond b (d ∷ filter (λ e. p (name e.1)) ds) (filter (λ e. p (name e.1)) ds)) ≡ length (cond b (name d.1 ∷ filter p (names_of ds)) (filter p (names_of ds)))
      by true h = ap suc h
      by false h = h

  first_or_only : (p : List ℕ → Bool) (alike ds : List (ℕ × A)) → is_some (the_only (first_or_all (filter (λ d. p (name d.1)) ds) alike)) ≡ (list_any p (names_of ds) || (length alike == 1))
  first_or_only p alike [] = only_one alike
  first_or_only p alike (d ∷ ds) = by (p (name d.1)) (first_or_only p alike ds)
    where
      by : (b : Bool) → is_some (the_only (first_or_all (filter (λ e. p (name e.1)) ds) alike)) ≡ (list_any p (names_of ds) || (length alike == 1))
          → is_some (the_only (first_or_all (cond b (d ∷ filter (λ e. p (name e.1)) ds) (filter (λ e. p (name e.1)) ds)) alike)) ≡ ((b || list_any p (names_of ds)) || (length alike == 1))
      by true h = refl
      by false h = h

  one_candidate : (ds : List (ℕ × A)) (spelling : List ℕ) → is_some (the_only (candidates name ds spelling)) ≡ is_met (names_of ds) spelling
  one_candidate ds spelling =
      first_or_only (λ n. same_bytes n spelling) (filter (λ d. same_up_to_case (name d.1) spelling) ds) ds
      ∙ ap (λ n. list_any (λ m. same_bytes m spelling) (names_of ds) || (n == 1)) (count_names (λ n. same_up_to_case n spelling) ds)

  numbers_off : (n : ℕ) (xs : List A) → names_of (enumerate_from n xs) ≡ map name xs
  numbers_off n [] = refl
  numbers_off n (x ∷ xs) = ap (λ rest. name x ∷ rest) (numbers_off (n + 1) xs)

-- one of some names is meant
names_met : (names : List (List ℕ)) (spelling : List ℕ) → means_one names spelling ≡ is_met names spelling
names_met names spelling = one_candidate (λ name. name) (numbered names) spelling ∙ ap (λ ns. is_met ns spelling) (numbers_off (λ name. name) 0 names ∙ map-id names)

-- a table says whether one of its names is meant
pub means_table : (table : List (ℕ × List ℕ)) (spelling : List ℕ) → is_one (meaning table spelling) ≡ means_one (map (λ entry. entry.1) table) spelling
means_table table spelling =
    one_meant (candidates (λ name. name) table spelling) ∙ (one_candidate (λ name. name) table spelling ∙ sym (names_met (map (λ entry. entry.1) table) spelling))

-- the identifiers of the views say whether a viewRef means a view
pub means_views : (cell : Cell) (spelling : List ℕ) → means_one (view_names cell) spelling ≡ means_view cell spelling
means_views cell spelling =
    names_met (view_names cell) spelling ∙ (ap (λ ns. is_met ns spelling) (sym (numbers_off view_ident 0 (views cell))) ∙ sym (one_candidate view_ident (numbered (views cell)) spelling))

-- the only name is meant where it is alike up to case
pub means_only : (name spelling : List ℕ) → same_up_to_case name spelling ≡ means_one (name ∷ []) spelling
means_only name spelling = by (same_bytes name spelling) (same_up_to_case name spelling) alike ∙ sym (names_met (name ∷ []) spelling)
  where
    alike : same_bytes name spelling ≡ true → same_up_to_case name spelling ≡ true
    alike e = (bytes_eq-Decides (map small name) (map small spelling)).1 (ap (map small) ((bytes_eq-Decides name spelling).0 e))

    by : (same folded : Bool) → (same ≡ true → folded ≡ true) → folded ≡ ((same || false) || (length (cond folded (name ∷ []) []) == 1))
    by true true h = refl
    by true false h = h refl
    by false true h = refl
    by false false h = refl

-- ---- the identifiers that are held

pub written_names : (entries : List (ℕ × Bor (List ℕ))) → map (λ entry. entry.1) (written entries) ≡ entry_names entries
written_names [] = refl
written_names (entry ∷ entries) = ap (λ names. entry.1.now ∷ names) (written_names entries)

-- one more of the names of the views of a cell
pub viewed : (items : List CellItem) (i : ℕ) (x : CellItem) → i < length items → x ≡ get_or items i x → (old new : List (List ℕ)) → old ≡ map view_ident (filter_map view_in (take i items))
    → new ≡ old ++ map view_ident (option_to_list (view_in x)) → new ≡ map view_ident (filter_map view_in (take (i + 1) items))
viewed items i x within is old new is_old is_new =
    is_new
    ∙ ((λ j. is_old j ++ map view_ident (option_to_list (view_in (is j))))
    ∙ (sym (map-append view_ident (filter_map view_in (take i items)) (option_to_list (view_in (get_or items i x))))
    ∙ ap (map view_ident) (sym (filter_map_more view_in items i x within))))
