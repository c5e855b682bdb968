-- A walk of a cell's contents is put together from walks of their parts.
use Rattle.std.proofs.Common.{◌≡◌, ◌≤◌, ℕ, ◌+◌, ◌<◌, List, [], ◌∷◌, ◌++◌, length, drop, take, get_or, Option, sym, ap, ◌∙◌, subst, append_assoc, arith}
use Rattle.std.proofs.lemmas.List.{append-nil, length-append, take-append-drop, take_more}
use Rattle.nl_base.specs.declared.rule.Refusal.{Refusal}
use Rattle.edif_lookup.specs.Refusals.{each_after, in_order, lower, lowest}
use Rattle.edif_lookup.proofs.Orders.{lowest_both}
use Rattle.edif_values.specs.declared.file.EdifFile.{EdifFile}
use Rattle.edif_values.specs.declared.view.ContentsItem.{ContentsItem}
use Rattle.edif_design.specs.CellRules.{contents_refusals}
use Rattle.edif_design.specs.Parts.{cell_contents}
use Rattle.edif_design.specs.References.{CellPlace, linked_cell}
use Rattle.edif_rules.specs.Walks.{HasMet, Walks}
use Rattle.edif_rules.specs.declared.walk.Met.{Met}

-- what is given of the items of two lists, of the second after the first
each_after_append : {A B : Type 0} (f : List A → A → List B) (before xs ys : List A) → each_after f before (xs ++ ys) ≡ each_after f before xs ++ each_after f (before ++ xs) ys
each_after_append f before [] ys = ap (λ b. each_after f b ys) (sym (append-nil before))
each_after_append f before (x ∷ xs) ys =
    ap (λ l. f before x ++ l) (each_after_append f (before ++ x ∷ []) xs ys ∙ ap (λ b. each_after f (before ++ x ∷ []) xs ++ each_after f b ys) (append_assoc before (x ∷ []) xs))
    ∙ sym (append_assoc (f before x) (each_after f (before ++ x ∷ []) xs) (each_after f (before ++ x ∷ xs) ys))

module _ (file : EdifFile) (place : CellPlace) where
  -- a walk of no parts
  pub walks_none : (old : Met) (found : Option Refusal) → found ≡ lowest [] → Walks file place [] old found old
  walks_none old found is = record {
    refused = λ before after whole met. is;
    all_met = λ before met. subst (λ b. HasMet (linked_cell file place) b old) (sym (append-nil before)) met;
    few_met = omega arith;
  }

  -- a walk of one part
  pub walks_item : (item : ContentsItem) (old new : Met) (found : Option Refusal)
      → ((before after : List ContentsItem) → before ++ item ∷ after ≡ cell_contents place.cell → HasMet (linked_cell file place) before old → found ≡ lowest (contents_refusals file place before item))
      → ((before : List ContentsItem) → HasMet (linked_cell file place) before old → HasMet (linked_cell file place) (before ++ item ∷ []) new) → new.instances ≤ old.instances + 1 → Walks file place (item ∷ []) old found new
  walks_item item old new found refused all_met few = record {
    refused = λ before after whole met. refused before after whole met ∙ ap lowest (sym (append-nil (contents_refusals file place before item)));
    all_met = all_met;
    few_met = few;
  }

  -- a walk of some parts and of those after them
  pub walks_both : (xs ys : List ContentsItem) (old mid new : Met) (first next found : Option Refusal) → Walks file place xs old first mid → Walks file place ys mid next new → found ≡ lower first next → Walks file place (xs ++ ys) old found new
  walks_both xs ys old mid new first next found earlier later is = record {
    refused = λ before after whole met.
        is
        ∙ (lowest_both (each_after (contents_refusals file place) before xs) (each_after (contents_refusals file place) (before ++ xs) ys) first next
        (earlier.refused before (ys ++ after) (ap (λ l. before ++ l) (sym (append_assoc xs ys after)) ∙ whole) met)
        (later.refused (before ++ xs) after (append_assoc before xs (ys ++ after) ∙ (ap (λ l. before ++ l) (sym (append_assoc xs ys after)) ∙ whole)) (earlier.all_met before met))
        ∙ ap lowest (sym (each_after_append (contents_refusals file place) before xs ys)));
    all_met = λ before met. subst (λ b. HasMet (linked_cell file place) b new) (append_assoc before xs ys) (later.all_met (before ++ xs) (earlier.all_met before met));
    few_met = omega (arith, earlier.few_met, later.few_met, length-append xs ys);
  }

  -- the walk of a whole cell from its start
  pub walks_whole : (old new : Met) (found : Option Refusal) → Walks file place (cell_contents place.cell) old found new → HasMet (linked_cell file place) [] old → found ≡ lowest (in_order (contents_refusals file place) (cell_contents place.cell))
  walks_whole old new found walk met = walk.refused [] [] (append-nil (cell_contents place.cell)) met

-- a loop over items in which parts of the contents stand
module _ {A : Type 0} (g : List A → List ContentsItem) (h : A → List ContentsItem) (grows : (xs : List A) (x : A) → g (xs ++ x ∷ []) ≡ g xs ++ h x) where
  more : (items read : List A) → read ≡ items → (i : ℕ) (x : A) → i < length read → x ≡ get_or read i x → g (take (i + 1) items) ≡ g (take i items) ++ h x
  more items read same i x within at =
      ap g (take_more items i x (subst (λ xs. i < length xs) same within)) ∙ (grows (take i items) (get_or items i x)
      ∙ ap (λ y. g (take i items) ++ h y) (sym (at ∙ ap (λ xs. get_or xs i x) same)))

  longer : (ys xs : List A) → length (g xs) ≤ length (g (xs ++ ys))
  longer [] xs = subst (λ zs. length (g xs) ≤ length (g zs)) (sym (append-nil xs)) (omega arith)
  longer (y ∷ ys) xs =
      let one : length (g (xs ++ y ∷ [])) ≡ length (g xs) + length (h y) = ap length (grows xs y) ∙ length-append (g xs) (h y) in
      let rest : length (g (xs ++ y ∷ [])) ≤ length (g (xs ++ y ∷ ys)) = subst (λ zs. length (g (xs ++ y ∷ [])) ≤ length (g zs)) (append_assoc xs (y ∷ []) ys) (longer ys (xs ++ y ∷ [])) in
      omega (arith, one, rest)

  -- there is room for the parts that stand in an item
  pub room : (items read : List A) (same : read ≡ items) (i : ℕ) (x : A) (within : i < length read) (at : x ≡ get_or read i x) (old now most : ℕ)
      → now ≤ old + length (g (take i items)) → old + length (g items) ≤ most → now + length (h x) ≤ most
  room items read same i x within at old now most met few =
      let one : length (g (take (i + 1) items)) ≡ length (g (take i items)) + length (h x) = ap length (more items read same i x within at) ∙ length-append (g (take i items)) (h x) in
      let all : length (g (take (i + 1) items)) ≤ length (g items) = subst (λ xs. length (g (take (i + 1) items)) ≤ length (g xs)) (take-append-drop (i + 1) items) (longer (drop (i + 1) items) (take (i + 1) items)) in
      omega (arith, one, all, met, few)

  -- one more turn, at an item of a list that was read
  pub walks_turn : (file : EdifFile) (place : CellPlace) (items read : List A) (same : read ≡ items) (i : ℕ) (x : A) (within : i < length read) (at : x ≡ get_or read i x) (old mid new : Met) (best next now : Option Refusal)
      → Walks file place (g (take i items)) old best mid → Walks file place (h x) mid next new → now ≡ lower best next → Walks file place (g (take (i + 1) items)) old now new
  walks_turn file place items read same i x within at old mid new best next now earlier later is =
      subst (λ xs. Walks file place xs old now new) (sym (more items read same i x within at)) (walks_both file place (g (take i items)) (h x) old mid new best next now earlier later is)
