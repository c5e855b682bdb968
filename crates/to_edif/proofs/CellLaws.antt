-- The cells of the file of a design, made one after another.
use Rattle.std.proofs.Common.{arith, ◌≡◌, ◌⊎◌, inl, inr, ℕ, zero, suc, ◌+◌, ◌<◌, ◌≤◌, Bool, List, [], ◌∷◌, ◌++◌, Option, None, Some, get_or, length, map, set, length-append, take, refl, sym, ap, ◌∙◌, subst}
use Rattle.std.specs.Prelude.{slice_get, IfSome}
use Rattle.std.proofs.lemmas.List.{take_all, take_more}
use Rattle.std.proofs.lemmas.Option.{slice_get_within}
use Rattle.net_graph.proofs.OrderLaws.{front_or_last}
use Rattle.net_hier.specs.Constants.{ConstantNames, name_of_constant}
use Rattle.net_hier.specs.Design.{Design, IsCell}
use Rattle.net_hier.specs.Facts.{cell_props}
use Rattle.net_hier.specs.declared.cells.HCell.{HCell}
use Rattle.net_bits.specs.Classes.{AreClasses, AreClassesAt, ClassTable}
use Rattle.edif_values.specs.declared.cell.Cell.{Cell}
use Rattle.edif_plans.specs.Planned.{AreCells, IsMadeOf}
use Rattle.edif_plans.specs.Made.{IsMadeUnder, new_cell_for}
use Rattle.edif_plans.specs.Plans.{head_at, head_of, no_head}
use Rattle.edif_plans.specs.declared.head.Head.{Head}
use Rattle.edif_plans.proofs.Lists.{get_within}
use Rattle.edif_plans.specs.declared.plan.Plan.{Plan}
use Rattle.edif_value_laws.specs.Named.{HasWords}
use Rattle.edif_planning.specs.Classes.{AreAllClasses}
use Rattle.to_edif.specs.Cells.{AreKept, AreNewCells}
use Rattle.to_edif.proofs.Left.{other_kept}

nothing_there : {A : Type 0} (place : ℕ) (x : A) → slice_get [] place ≡ Some x → ⊥
nothing_there place x e = absurd cc

-- ---- the new cells

pub no_new : (names : ConstantNames) (plan : Plan) (cells : List Cell) → cells ≡ [] → AreNewCells names plan [] cells
no_new names plan cells none = record {
  as_many = ap length none;
  each = λ place value made there at. absurd (nothing_there place value there);
  words = λ place lt. absurd (omega (arith, lt));
}

new_more : (names : ConstantNames) (plan : Plan) (values : List Bool) (value : Bool) (cells : List Cell) (cell : Cell) → AreNewCells names plan values cells → cell ≡ new_cell_for (head_at plan (length values)) (name_of_constant names value) → HasWords (head_at plan (length values))
    → AreNewCells names plan (values ++ value ∷ []) (cells ++ cell ∷ [])
new_more names plan values value cells cell are is words = record {
  as_many = length-append cells (cell ∷ []) ∙ (ap (λ n. n + 1) are.as_many ∙ sym (length-append values (value ∷ [])));
  each = λ place other made there at. elim (front_or_last values value place other there) as (λ _. made ≡ new_cell_for (head_at plan place) (name_of_constant names other)) [
    | inl before ↦ elim (front_or_last cells cell place made at) as (λ _. made ≡ new_cell_for (head_at plan place) (name_of_constant names other)) [
      | inl earlier ↦ are.each place other made before earlier
      | inr last ↦ absurd (let lt = slice_get_within values place other before in let n = are.as_many in let p = last.0 in omega (arith, lt, n, p))
    ]
    | inr here ↦ elim (front_or_last cells cell place made at) as (λ _. made ≡ new_cell_for (head_at plan place) (name_of_constant names other)) [
      | inl earlier ↦ absurd (let lt = slice_get_within cells place made earlier in let n = are.as_many in let p = here.0 in omega (arith, lt, n, p))
      | inr last ↦ sym last.1 ∙ (is ∙ (λ j. new_cell_for (head_at plan (sym here.0 j)) (name_of_constant names (here.1 j))))
    ]
  ];
  words = λ place lt. elim (earlier_or_last place (length values) (let n = length-append values (value ∷ []) in omega (arith, lt, n))) as (λ _. HasWords (head_at plan place)) [
    | inl before ↦ are.words place before
    | inr here ↦ subst (λ p. HasWords (head_at plan p)) (sym here) words
  ];
}
  where
    earlier_or_last : (place done : ℕ) → place < done + 1 → (place < done) ⊎ (place ≡ done)
    earlier_or_last place done lt = grind arith

taken : (values : List Bool) (place : ℕ) → place < length values → length (take place values) ≡ place
taken [] place lt = absurd (omega arith)
taken (value ∷ values) zero lt = refl
taken (value ∷ values) (suc place) lt = ap suc (taken values place (omega arith))

-- one new cell more
pub one_new : (names : ConstantNames) (plan : Plan) (values : List Bool) (place : ℕ) (d : Bool) (cells new : List Cell) (cell : Cell) → place < length values → AreNewCells names plan (take place values) cells → new ≡ cells ++ cell ∷ []
    → cell ≡ new_cell_for (head_at plan place) (name_of_constant names (get_or values place d)) → HasWords (head_at plan place) → AreNewCells names plan (take (place + 1) values) new
one_new names plan values place d cells new cell lt are e is words =
    let at : length (take place values) ≡ place = taken values place lt in
    subst (AreNewCells names plan (take (place + 1) values)) (sym e) (subst (λ (l : List Bool). AreNewCells names plan l (cells ++ cell ∷ [])) (sym (take_more values place d lt))
    (new_more names plan (take place values) (get_or values place d) cells cell are (is ∙ (λ j. new_cell_for (head_at plan (sym at j)) (name_of_constant names (get_or values place d)))) (subst (λ p. HasWords (head_at plan p)) (sym at) words)))

pub all_new : (names : ConstantNames) (plan : Plan) (values : List Bool) (place : ℕ) (cells : List Cell) → length values ≤ place → AreNewCells names plan (take place values) cells → AreNewCells names plan values cells
all_new names plan values place cells le are = subst (λ (l : List Bool). AreNewCells names plan l cells) (take_all place values le) are

-- ---- the classes that are kept

some_here : {A : Type 0} (xs : List A) (place : ℕ) (x : A) → slice_get (map Some xs) place ≡ Some (Some x) → slice_get xs place ≡ Some x
some_here [] place x e = absurd cc
some_here (y ∷ ys) zero x e = cc
some_here (y ∷ ys) (suc place) x e = some_here ys place x e

pub kept_all : (cells : List HCell) (all : List ClassTable) (kept : List (Option ClassTable)) → kept ≡ map Some all → AreAllClasses cells all → AreKept cells kept
kept_all cells all kept e are = λ number cell classes is at. are.each number cell classes is (some_here all number classes (subst (λ (l : List (Option ClassTable)). slice_get l number ≡ Some (Some classes)) e at))

less_here : {A : Type 0} (xs : List (Option A)) (taken place : ℕ) (x : A) → slice_get (set xs taken None) place ≡ Some (Some x) → slice_get xs place ≡ Some (Some x)
less_here [] taken place x e = e
less_here (y ∷ ys) zero zero x e = absurd cc
less_here (y ∷ ys) zero (suc place) x e = e
less_here (y ∷ ys) (suc taken) zero x e = e
less_here (y ∷ ys) (suc taken) (suc place) x e = less_here ys taken place x e

elsewhere : {A : Type 0} (xs : List (Option A)) (taken place : ℕ) (x : A) → slice_get (set xs taken None) place ≡ Some (Some x) → ¬ (place ≡ taken)
elsewhere [] taken place x e = absurd cc
elsewhere (y ∷ ys) zero zero x e = absurd cc
elsewhere (y ∷ ys) zero (suc place) x e = λ same. omega (arith, same)
elsewhere (y ∷ ys) (suc taken) zero x e = λ same. omega (arith, same)
elsewhere (y ∷ ys) (suc taken) (suc place) x e = λ same. elsewhere ys taken place x e (omega (arith, same))

-- where those of one cell are taken and another cell stands in its place, those of the others are kept
pub kept_less : (cells others : List HCell) (kept less : List (Option ClassTable)) (taken : ℕ) (other : HCell) → less ≡ set kept taken None → others ≡ set cells taken other → AreKept cells kept → AreKept others less
kept_less cells others kept less taken other e f are = λ number cell classes is at.
    let here : slice_get (set kept taken None) number ≡ Some (Some classes) = subst (λ (l : List (Option ClassTable)). slice_get l number ≡ Some (Some classes)) e at in
    let same : slice_get others number ≡ slice_get cells number = ap (λ (l : List HCell). slice_get l number) f ∙ other_kept cells taken other number (elsewhere kept taken number classes here) in
    are number cell classes (sym same ∙ is) (less_here kept taken number classes here)

-- what is taken for a cell is its classes
pub taken_are : (cells : List HCell) (kept : List (Option ClassTable)) (number : ℕ) (slot : Option ClassTable) → slice_get kept number ≡ Some slot → AreKept cells kept → IfSome slot (AreClassesAt cells number)
taken_are cells kept number None at are = tt
taken_are cells kept number (Some classes) at are = λ cell is. are number cell classes is at

-- ---- the cells of the design

module _ (names : ConstantNames) (design : Design) (plan : Plan) (values : List Bool) where
  pub new_alone : (cells : List Cell) → AreNewCells names plan values cells → AreCells names design plan values [] cells
  new_alone cells are = record {
    as_many = are.as_many ∙ omega arith;
    new = are.each;
    old = λ place number made there at. absurd (nothing_there place number there);
  }

  cell_more : (numbers : List ℕ) (number : ℕ) (cells : List Cell) (cell : Cell) → AreCells names design plan values numbers cells → IsMadeOf names design plan number cell → AreCells names design plan values (numbers ++ number ∷ []) (cells ++ cell ∷ [])
  cell_more numbers number cells cell are is = record {
    as_many = let n = are.as_many in let a = length-append cells (cell ∷ []) in let b = length-append numbers (number ∷ []) in omega (arith, n, a, b);
    new = λ place value made there at. elim (front_or_last cells cell place made at) as (λ _. made ≡ new_cell_for (head_at plan place) (name_of_constant names value)) [
      | inl earlier ↦ are.new place value made there earlier
      | inr last ↦ absurd (let lt = slice_get_within values place value there in let n = are.as_many in let p = last.0 in omega (arith, lt, n, p))
    ];
    old = λ place other made there at. elim (front_or_last numbers number place other there) as (λ _. IsMadeOf names design plan other made) [
      | inl before ↦ elim (front_or_last cells cell (length values + place) made at) as (λ _. IsMadeOf names design plan other made) [
        | inl earlier ↦ are.old place other made before earlier
        | inr last ↦ absurd (let lt = slice_get_within numbers place other before in let n = are.as_many in let p = last.0 in omega (arith, lt, n, p))
      ]
      | inr here ↦ elim (front_or_last cells cell (length values + place) made at) as (λ _. IsMadeOf names design plan other made) [
        | inl earlier ↦ absurd (let lt = slice_get_within cells (length values + place) made earlier in let n = are.as_many in let p = here.0 in omega (arith, lt, n, p))
        | inr last ↦ subst (λ (c : Cell). IsMadeOf names design plan other c) last.1 (subst (λ (m : ℕ). IsMadeOf names design plan m cell) here.1 is)
      ]
    ];
  }

  -- what is made of one cell more
  pub one_cell : (numbers : List ℕ) (place d : ℕ) (cells new : List Cell) (cell : Cell) → place < length numbers → new ≡ cells ++ cell ∷ [] → IsMadeOf names design plan (get_or numbers place d) cell → AreCells names design plan values (take place numbers) cells
      → AreCells names design plan values (take (place + 1) numbers) new
  one_cell numbers place d cells new cell lt e is are =
      subst (AreCells names design plan values (take (place + 1) numbers)) (sym e) (subst (λ (l : List ℕ). AreCells names design plan values l (cells ++ cell ∷ [])) (sym (take_more numbers place d lt))
      (cell_more (take place numbers) (get_or numbers place d) cells cell are is))

  pub all_cells : (numbers order : List ℕ) (place : ℕ) (cells : List Cell) → numbers ≡ order → length numbers ≤ place → AreCells names design plan values (take place numbers) cells → AreCells names design plan values order cells
  all_cells numbers order place cells e le are = subst (λ (l : List ℕ). AreCells names design plan values l cells) (take_all place numbers le ∙ e) are

-- ---- what is read for one cell

-- the head at a place of the heads that are shown
pub head_here : (plan : Plan) (heads : List Head) (place : ℕ) (head d : Head) → heads ≡ plan.heads → place < length heads → head ≡ get_or heads place d → head ≡ head_at plan place
head_here plan heads place head d e lt is = is ∙ (get_within heads place d no_head lt ∙ ap (λ l. get_or l place no_head) e)

-- what is made of a cell of the design, where it is the cell of this number
pub made_of : (names : ConstantNames) (design : Design) (plan : Plan) (number : ℕ) (classes : ClassTable) (made : Cell) → (cell : HCell) → IsCell design.cells number cell → AreClasses cell classes → IsMadeUnder names design.cells plan (head_of plan number) cell (cell_props design number cell) classes made → IsMadeOf names design plan number made
made_of names design plan number classes made cell there are is = record { cell = cell; is_there = there; classes = classes; are_classes = are; is_made = is.is_made; are_named = is.are_named }
