-- What a design has that keeps the rules.
use Rattle.std.proofs.Common.{◌≡◌, ℕ, zero, suc, ◌<◌, ◌⊎◌, inl, inr, ◌||◌, Bool, true, false, cond, if◌then◌else◌, List, [], ◌∷◌, ◌++◌, None, Some, flat_map, map, slice_get, option_map, codes, refl, sym, ◌∙◌, ap, arith, Contains}
use Rattle.std.specs.List.{list_any}
use Rattle.std.proofs.lemmas.Bool.{cases_eq, cases_lt}
use Rattle.std.proofs.lemmas.List.Elements.{Contains-append_left, Contains-append_right}
use Rattle.std.proofs.lemmas.Option.{slice_get-map}
use Rattle.std.proofs.lemmas.Slice.Eq.{bytes_eq-Decides}
use Rattle.nl_base.specs.Case.{same_up_to_case, small}
use Rattle.net_hier.specs.Design.{IsCell}
use Rattle.net_hier.specs.declared.cells.HCell.{HCell}
use Rattle.net_hier.specs.declared.cells.HInst.{HInst}
use Rattle.net_stars.proofs.Lists.{contains_cases, contains_first}
use Rattle.spice_text.specs.Words.{is_spice_word}
use Rattle.to_spice_rules.specs.Answers.{KeepsRules}
use Rattle.to_spice_rules.specs.Names.{alike_again, cells_again, first_by_names, first_of, in_cells, instances_again, name_refusals, no_ports, no_word, no_words, refused, words_again}
use Rattle.to_spice_rules.specs.PortWords.{port_words}
use Rattle.to_spice_rules.specs.declared.refusal.SpiceRule.TheVariants.{S1, S2, S3, S4}

-- ---- lists of nothing
first_none : {A : Type 0} (xs : List A) → first_of xs ≡ None → xs ≡ []
first_none [] e = refl
first_none (x ∷ xs) e = absurd cc

left_none : {A : Type 0} (xs ys : List A) → xs ++ ys ≡ [] → xs ≡ []
left_none [] ys e = refl
left_none (x ∷ xs) ys e = absurd cc

right_none : {A : Type 0} (xs ys : List A) → xs ++ ys ≡ [] → ys ≡ []
right_none [] ys e = e
right_none (x ∷ xs) ys e = absurd cc

map_none : {A B : Type 0} (f : A → B) (xs : List A) → map f xs ≡ [] → xs ≡ []
map_none f [] e = refl
map_none f (x ∷ xs) e = absurd cc

part_none : {A B : Type 0} (f : A → List B) (xs : List A) → flat_map f xs ≡ [] → (i : ℕ) (x : A) → slice_get xs i ≡ Some x → f x ≡ []
part_none f [] e i x h = absurd cc
part_none f (y ∷ ys) e zero x h = let same : y ≡ x = cc in ap f (sym same) ∙ left_none (f y) (flat_map f ys) e
part_none f (y ∷ ys) e (suc i) x h = part_none f ys (right_none (f y) (flat_map f ys) e) i x h

-- ---- names that are alike to no earlier one
any_has : {X : Type 0} (p : X → Bool) (xs : List X) (x : X) → Contains xs x → p x ≡ true → list_any p xs ≡ true
any_has p [] x h t = absurd (let l = h.1 in omega (arith, l))
any_has p (y ∷ ys) x h t = by (p y) refl (contains_cases y x ys h) (λ m. any_has p ys x m t)
  where
    by : (b : Bool) → p y ≡ b → (y ≡ x) ⊎ Contains ys x → (Contains ys x → list_any p ys ≡ true) → (b || list_any p ys) ≡ true
    by true e c rest = refl
    by false e (inl same) rest = absurd (let f : false ≡ true = sym e ∙ (ap p same ∙ t) in cc)
    by false e (inr m) rest = rest m

rest_none : (b : Bool) (name : List ℕ) (rest : List (List ℕ)) → cond b (name ∷ rest) rest ≡ [] → (b ≡ false) × (rest ≡ [])
rest_none true name rest e = absurd cc
rest_none false name rest e = (refl, e)

again_rest : (before : List (List ℕ)) (name : List ℕ) (names : List (List ℕ)) → alike_again before (name ∷ names) ≡ [] → (list_any (same_up_to_case name) before ≡ false) × (alike_again (before ++ name ∷ []) names ≡ [])
unfolding alike_again
again_rest before name names e = rest_none (list_any (same_up_to_case name) before) name (alike_again (before ++ name ∷ []) names) e

not_before : (before names : List (List ℕ)) → alike_again before names ≡ [] → (j : ℕ) (y : List ℕ) → slice_get names j ≡ Some y → (b : List ℕ) → Contains before b → same_up_to_case y b ≡ true → ⊥
not_before before [] e j y h b m t = cc
not_before before (name ∷ names) e zero y h b m t =
    let same : name ≡ y = cc in
    let r = again_rest before name names e in
    let any : list_any (same_up_to_case name) before ≡ true = any_has (same_up_to_case name) before b m (ap (λ n. same_up_to_case n b) same ∙ t) in
    let clash : false ≡ true = sym r.0 ∙ any in
    cc
not_before before (name ∷ names) e (suc j) y h b m t = not_before (before ++ name ∷ []) names (again_rest before name names e).1 j y h b (Contains-append_left before (name ∷ []) b m) t

earlier_alike : (before names : List (List ℕ)) → alike_again before names ≡ [] → (i j : ℕ) (x y : List ℕ) → slice_get names i ≡ Some x → slice_get names j ≡ Some y → same_up_to_case y x ≡ true → i < j → ⊥
earlier_alike before [] e i j x y hi hj t lt = cc
earlier_alike before (name ∷ names) e i zero x y hi hj t lt = omega (arith, lt)
earlier_alike before (name ∷ names) e zero (suc j) x y hi hj t lt =
    let same : name ≡ x = cc in
    not_before (before ++ name ∷ []) names (again_rest before name names e).1 j y hj name (Contains-append_right before (name ∷ []) name (contains_first name [])) (ap (same_up_to_case y) same ∙ t)
earlier_alike before (name ∷ names) e (suc i) (suc j) x y hi hj t lt = earlier_alike (before ++ name ∷ []) names (again_rest before name names e).1 i j x y hi hj t (omega (arith, lt))

alike_back : (a b : List ℕ) → same_up_to_case a b ≡ true → same_up_to_case b a ≡ true
alike_back a b h = (bytes_eq-Decides (map small b) (map small a)).1 (sym ((bytes_eq-Decides (map small a) (map small b)).0 h))

-- of such names no two are alike
pub one_place : (names : List (List ℕ)) → alike_again [] names ≡ [] → (i j : ℕ) (x y : List ℕ) → slice_get names i ≡ Some x → slice_get names j ≡ Some y → same_up_to_case x y ≡ true → i ≡ j
one_place names e i j x y hi hj t = elim (cases_eq i j) as (λ _. i ≡ j) [
  | inl same ↦ same
  | inr ne ↦ elim (cases_lt i j) as (λ _. i ≡ j) [
    | inl lt ↦ absurd (earlier_alike [] names e i j x y hi hj (alike_back x y t) lt)
    | inr ge ↦ absurd (earlier_alike [] names e j i y x hj hi t (grind (arith, ge, ne)))
  ]
]

-- ---- the rules of names
is_word : (kind name : List ℕ) → no_word kind name ≡ [] → is_spice_word name ≡ true
is_word kind name e = by (is_spice_word name) refl e
  where
    by : (b : Bool) → is_spice_word name ≡ b → (if b then [] else (kind ∷ name ∷ []) ∷ []) ≡ [] → is_spice_word name ≡ true
    by true is h = is
    by false is h = absurd cc

no_empty : is_spice_word [] ≡ true → ⊥
unfolding is_spice_word
no_empty e = cc

none_of : (cells : List HCell) → first_by_names cells ≡ None → name_refusals cells ≡ []
unfolding first_by_names
none_of cells e = first_none (name_refusals cells) e

cell_words : (cell : HCell) → no_words cell ≡ [] → (is_spice_word cell.name ≡ true)
    × ((i : ℕ) (word : List ℕ) → slice_get (port_words cell) i ≡ Some word → is_spice_word word ≡ true)
    × ((i : ℕ) (instance : HInst) → slice_get cell.instances i ≡ Some instance → is_spice_word instance.name ≡ true)
unfolding no_words
cell_words cell e =
    let rest = right_none (no_word (codes "cell") cell.name) _ e in (
      is_word (codes "cell") cell.name (left_none (no_word (codes "cell") cell.name) _ e),
      λ i word h. is_word (codes "port") word (part_none (no_word (codes "port")) (port_words cell) (left_none (no_ports (port_words cell)) _ rest) i word h),
      λ i instance h. is_word (codes "instance") instance.name (part_none (λ (x : HInst). no_word (codes "instance") x.name) cell.instances (right_none (no_ports (port_words cell)) _ rest) i instance h),
    )

module _ (cells : List HCell) (keeps : KeepsRules cells) where
  all : name_refusals cells ≡ []
  all = none_of cells keeps.names

  behind_words : cells_again cells ++ (in_cells S3 words_again cells ++ in_cells S4 instances_again cells) ≡ []
  behind_words = right_none (in_cells S1 no_words cells) _ all

  behind_cells : in_cells S3 words_again cells ++ in_cells S4 instances_again cells ≡ []
  behind_cells = right_none (cells_again cells) _ behind_words

  -- the names of a cell, of its port bits and of its instances are SPICE words
  pub are_words : (number : ℕ) (cell : HCell) → IsCell cells number cell → (is_spice_word cell.name ≡ true)
      × ((i : ℕ) (word : List ℕ) → slice_get (port_words cell) i ≡ Some word → is_spice_word word ≡ true)
      × ((i : ℕ) (instance : HInst) → slice_get cell.instances i ≡ Some instance → is_spice_word instance.name ≡ true)
  are_words number cell is_cell = cell_words cell (map_none (refused S1 cell.name) (no_words cell)
      (part_none (λ (c : HCell). map (refused S1 c.name) (no_words c)) cells (left_none (in_cells S1 no_words cells) _ all) number cell is_cell))

  -- no cell has a name of no bytes
  pub has_name : (number : ℕ) (cell : HCell) → IsCell cells number cell → ¬ (cell.name ≡ [])
  has_name number cell is_cell e = no_empty (ap is_spice_word (sym e) ∙ (are_words number cell is_cell).0)

  -- no two cells have names that are alike
  pub one_of_name : (number onumber : ℕ) (cell ocell : HCell) → IsCell cells number cell → IsCell cells onumber ocell → same_up_to_case cell.name ocell.name ≡ true → number ≡ onumber
  one_of_name number onumber cell ocell is_cell is_ocell alike =
      let name_of : HCell → List ℕ = λ c. c.name in
      let none : alike_again [] (map name_of cells) ≡ [] = map_none (λ name. refused S2 name []) (alike_again [] (map name_of cells)) (left_none (cells_again cells) _ behind_words) in
      one_place (map name_of cells) none number onumber cell.name ocell.name (slice_get-map name_of cells number ∙ ap (option_map name_of) is_cell) (slice_get-map name_of cells onumber ∙ ap (option_map name_of) is_ocell) alike

  -- no two port bits of a cell have words that are alike
  pub one_of_word : (number : ℕ) (cell : HCell) → IsCell cells number cell → (i j : ℕ) (x y : List ℕ) → slice_get (port_words cell) i ≡ Some x → slice_get (port_words cell) j ≡ Some y → same_up_to_case x y ≡ true → i ≡ j
  one_of_word number cell is_cell =
      one_place (port_words cell) (map_none (λ (name : List ℕ). name ∷ []) (alike_again [] (port_words cell)) (map_none (refused S3 cell.name) (words_again cell)
      (part_none (λ (c : HCell). map (refused S3 c.name) (words_again c)) cells (left_none (in_cells S3 words_again cells) _ behind_cells) number cell is_cell)))
