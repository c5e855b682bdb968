-- The classes of all cells, and whether some cell needs a constant.
use Rattle.std.proofs.Common.{arith, ◌≡◌, inl, inr, ℕ, zero, suc, ◌+◌, ◌<◌, ◌||◌, Bool, true, false, List, [], ◌∷◌, ◌++◌, Option, Some, get_or, length, length-append, slice_get, refl, sym, ap, ◌∙◌, subst}
use Rattle.std.specs.Prelude.{◌↔◌}
use Rattle.std.specs.List.{list_any}
use Rattle.std.proofs.lemmas.Bool.{false≢true}
use Rattle.std.proofs.lemmas.Map.Keys.{any_passes_from_place}
use Rattle.std.proofs.lemmas.Option.{slice_get-get_or, slice_get_within}
use Rattle.net_graph.proofs.OrderLaws.{front_or_last}
use Rattle.net_bits.specs.Classes.{AreClasses, AreClassesAt, ClassTable}
use Rattle.net_hier.specs.Design.{Design, IsCell}
use Rattle.net_hier.specs.Valid.{IsGoodCell, IsValid}
use Rattle.net_hier.specs.declared.cells.HCell.{HCell}
use Rattle.net_live.specs.Live.{AreCounted, needs_constant}
use Rattle.net_live.proofs.NeedLaws.{need_is}
use Rattle.edif_plans.specs.Missing.{IsNeeded}
use Rattle.edif_planning.specs.Classes.{AreAllClasses}

only : {A : Type 0} (o : Option A) (a b : A) → o ≡ Some a → o ≡ Some b → a ≡ b
only o a b e f = cc

nothing_there : {A : Type 0} (place : ℕ) (x : A) → slice_get [] place ≡ Some x → ⊥
nothing_there place x e = absurd cc

-- the item at a place below the length
pub item_there : {A : Type 0} (xs : List A) (place : ℕ) → place < length xs → (x : A) × (slice_get xs place ≡ Some x)
item_there [] place lt = absurd (omega arith)
item_there (x ∷ xs) zero lt = (x, refl)
item_there (x ∷ xs) (suc place) lt = item_there xs place (omega arith)

-- the cell at a place of the cells that are shown
pub cell_here : (cells shown : List HCell) (place : ℕ) (cell d : HCell) → shown ≡ cells → place < length shown → cell ≡ get_or shown place d → IsCell cells place cell
cell_here cells shown place cell d e lt is = ap (λ l. slice_get l place) (sym e) ∙ (slice_get-get_or shown place d lt ∙ ap Some (sym is))

-- and the classes at a place
pub classes_here : (all : List ClassTable) (place : ℕ) (classes d : ClassTable) → place < length all → classes ≡ get_or all place d → slice_get all place ≡ Some classes
classes_here all place classes d lt is = slice_get-get_or all place d lt ∙ ap Some (sym is)

-- ---- one cell after another

-- the classes of the first cells
pub record AreClassesUpTo (cells : List HCell) (done : ℕ) (all : List ClassTable) : Type 0 where
  pub as_many : length all ≡ done
  pub each : (number : ℕ) (cell : HCell) (classes : ClassTable) → IsCell cells number cell → slice_get all number ≡ Some classes → AreClasses cell classes

pub no_classes : (cells : List HCell) (all : List ClassTable) → all ≡ [] → AreClassesUpTo cells 0 all
no_classes cells all e = record { as_many = ap length e; each = λ number cell classes is there. absurd (nothing_there number classes (sym (ap (λ l. slice_get l number) e) ∙ there)) }

pub one_class : (cells : List HCell) (done : ℕ) (cell : HCell) (classes : ClassTable) (all new : List ClassTable) → IsCell cells done cell → AreClasses cell classes → new ≡ all ++ classes ∷ [] → AreClassesUpTo cells done all → AreClassesUpTo cells (done + 1) new
one_class cells done cell classes all new is are e before = subst (AreClassesUpTo cells (done + 1)) (sym e) (record {
  as_many = length-append all (classes ∷ []) ∙ ap (λ n. n + 1) before.as_many;
  each = λ number other found there at. elim (front_or_last all classes number found at) as (λ _. AreClasses other found) [
    | inl earlier ↦ before.each number other found there earlier
    | inr last ↦
        let same : cell ≡ other = only (slice_get cells done) cell other is (ap (slice_get cells) (sym (last.0 ∙ before.as_many)) ∙ there) in
        subst (λ (c : HCell). AreClasses c found) same (subst (AreClasses cell) last.1 are)
  ];
})

pub each_class : (cells : List HCell) (done : ℕ) (all : List ClassTable) → length cells ≡ done → AreClassesUpTo cells done all → AreAllClasses cells all
each_class cells done all e are = record { as_many = are.as_many ∙ sym e; each = are.each }

-- ---- the classes of one cell

module _ (cells : List HCell) (all : List ClassTable) (are : AreAllClasses cells all) where
  -- the classes at a place are those of the cell of this number
  pub classes_at : (number : ℕ) (classes : ClassTable) → slice_get all number ≡ Some classes → AreClassesAt cells number classes
  classes_at number classes there cell is = are.each number cell classes is there

  pub counted_at : (number : ℕ) (classes : ClassTable) → slice_get all number ≡ Some classes → AreCounted classes
  counted_at number classes there =
      let cell = item_there cells number (let lt : number < length all = slice_get_within all number classes there in omega (arith, lt, are.as_many)) in
      (are.each number cell.0 classes cell.1 there).below

-- ---- whether some cell needs a constant

-- an item of a list that passes a test
record Passes {A : Type 0} (p : A → Bool) (xs : List A) : Type 0 where
  place : ℕ
  item : A
  is_there : slice_get xs place ≡ Some item
  passes : p item ≡ true

passes_later : {A : Type 0} (p : A → Bool) (x : A) (xs : List A) → Passes p xs → Passes p (x ∷ xs)
passes_later p x xs found = record { place = suc found.place; item = found.item; is_there = found.is_there; passes = found.passes }

any_passes : {A : Type 0} (p : A → Bool) (xs : List A) → list_any p xs ≡ true → Passes p xs
any_passes p [] h = absurd (false≢true h)
any_passes {A} p (x ∷ xs) h = by (p x) refl h (any_passes p xs)
  where
    by : (b : Bool) → p x ≡ b → (b || list_any p xs) ≡ true → (list_any p xs ≡ true → Passes p xs) → Passes p (x ∷ xs)
    by true e t rest = record { place = 0; item = x; is_there = refl; passes = e }
    by false e t rest = passes_later p x xs (rest t)

-- the test over all classes tells whether some cell needs the constant
pub needed_is : (design : Design) (all : List ClassTable) → IsValid design → AreAllClasses design.cells all → (value : Bool) → (list_any (λ classes. needs_constant classes value) all ≡ true) ↔ IsNeeded design value
needed_is design all valid are value = (
  λ h.
      let found : Passes (λ classes. needs_constant classes value) all = any_passes (λ classes. needs_constant classes value) all h in
      let cell = item_there design.cells found.place (let lt : found.place < length all = slice_get_within all found.place found.item found.is_there in omega (arith, lt, are.as_many)) in
      let good : IsGoodCell design.cells cell.0 = valid.good_cells found.place cell.0 cell.1 in
      record {
        number = found.place;
        cell = cell.0;
        is_there = cell.1;
        needs = (need_is design.cells cell.0 found.item (are.each found.place cell.0 found.item cell.1 found.is_there) good.joins_in_range value).0 found.passes;
      },
  λ needed.
      let classes = item_there all needed.number (let lt : needed.number < length design.cells = slice_get_within design.cells needed.number needed.cell needed.is_there in omega (arith, lt, are.as_many)) in
      let good : IsGoodCell design.cells needed.cell = valid.good_cells needed.number needed.cell needed.is_there in
      any_passes_from_place (λ found. needs_constant found value) all needed.number classes.0 classes.1
      ((need_is design.cells needed.cell classes.0 (are.each needed.number needed.cell classes.0 needed.is_there classes.1) good.joins_in_range value).1 needed.needs),
)
