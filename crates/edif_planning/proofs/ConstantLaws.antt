-- What is known of the constants in a design.
use Rattle.std.proofs.Common.{arith, ◌≡◌, ◌⊎◌, inl, inr, ℕ, ◌+◌, ◌^◌, ◌<◌, ◌≤◌, ◌&&◌, Bool, true, false, cond, List, [], ◌∷◌, ◌++◌, Option, Some, None, length, filter, slice_get, refl, sym, ap, ◌∙◌, subst}
use Rattle.std.specs.Prelude.{◌↔◌, IfSome, IsTrue, is_none}
use Rattle.std.specs.Cmp.{booleans_Decides}
use Rattle.std.proofs.Math.Bool.{beq}
use Rattle.std.proofs.lemmas.Bool.{false≢true}
use Rattle.std.proofs.lemmas.Option.{slice_get_within}
use Rattle.net_graph.proofs.OrderLaws.{StandsIn}
use Rattle.net_hier.specs.Cells.{IsConstantCell}
use Rattle.net_hier.specs.Constants.{ConstantNames}
use Rattle.net_hier.specs.Design.{Design, IsCell}
use Rattle.net_hier.specs.Valid.{IsHier, IsValid}
use Rattle.net_hier.specs.declared.cells.HCell.{HCell}
use Rattle.edif_plans.specs.Missing.{AreMissing, IsMissing, IsNeeded}
use Rattle.edif_planning.specs.Constants.{IsConstantAt, IsFirstPlace, IsKnown, is_missing, missing_of}
use Rattle.edif_planning.specs.declared.constants.Known.{Known}
use Rattle.edif_planning.proofs.OrderLaws.{order_all, place_fits}

-- a cell stands for a constant where the test names the constant
pub tells : (names : ConstantNames) (cell : HCell) (found : Option Bool) → ((found ≡ Some false) ↔ IsConstantCell names false cell) → ((found ≡ Some true) ↔ IsConstantCell names true cell) → (value : Bool) → (found ≡ Some value) ↔ IsConstantCell names value cell
tells names cell found zeros ones false = zeros
tells names cell found zeros ones true = ones

-- ---- one place of the order after another

only : {A : Type 0} (o : Option A) (a b : A) → o ≡ Some a → o ≡ Some b → a ≡ b
only o a b e f = cc

-- no cell at the first places stands for the constant
abbrev pub NoneUpTo : ConstantNames → Design → Bool → ℕ → Type 0
NoneUpTo names design value done = (place : ℕ) → place < done → ¬ IsConstantAt names design value place

earlier_or_last : (place done : ℕ) → place < done + 1 → (place < done) ⊎ (place ≡ done)
earlier_or_last place done lt = grind arith

-- what stands at a place of the order is for the constant exactly where the cell of its number is
pub constant_at : (names : ConstantNames) (design : Design) (value : Bool) (place number : ℕ) (cell : HCell) → slice_get design.order place ≡ Some number → IsCell design.cells number cell → IsConstantAt names design value place ↔ IsConstantCell names value cell
constant_at names design value place number cell here is = (
  λ at.
      let same : at.number ≡ number = only (slice_get design.order place) at.number number at.is_placed here in
      subst (IsConstantCell names value) (only (slice_get design.cells number) at.cell cell (ap (slice_get design.cells) (sym same) ∙ at.is_cell) is) at.is_constant,
  λ constant. record { number = number; cell = cell; is_placed = here; is_cell = is; is_constant = constant },
)

pub one_passed : (names : ConstantNames) (design : Design) (value : Bool) (done : ℕ) → NoneUpTo names design value done → ¬ IsConstantAt names design value done → NoneUpTo names design value (done + 1)
one_passed names design value done none not_here place lt at = elim (earlier_or_last place done lt) as (λ _. ⊥) [
  | inl before ↦ none place before at
  | inr last ↦ not_here (subst (IsConstantAt names design value) last at)
]

pub first_found : (names : ConstantNames) (design : Design) (value : Bool) (place : ℕ) → NoneUpTo names design value place → IsConstantAt names design value place → IsFirstPlace names design value (Some place)
first_found names design value place none at = record { stands = at; is_first = none }

pub none_found : (names : ConstantNames) (design : Design) (value : Bool) (done : ℕ) → length design.order ≤ done → NoneUpTo names design value done → IsFirstPlace names design value None
none_found names design value done le none place at = none place (let lt : place < length design.order = slice_get_within design.order place at.number at.is_placed in omega (arith, lt, le)) at

-- ---- which constants are missing

both : (a b : Bool) → (a && b) ≡ true → (a ≡ true) × (b ≡ true)
both true b h = (refl, h)
both false b h = absurd (false≢true h)

of_both : (a b : Bool) → a ≡ true → b ≡ true → (a && b) ≡ true
of_both true b h k = k
of_both false b h k = absurd (false≢true h)

module _ (names : ConstantNames) (design : Design) (valid : IsValid design) where
  none_there : (value : Bool) (place : Option ℕ) → IsFirstPlace names design value place → is_none place ≡ true → (number : ℕ) (cell : HCell) → IsCell design.cells number cell → ¬ IsConstantCell names value cell
  none_there value None first h number cell is constant =
      let listed : StandsIn design.order number = order_all design valid number (slice_get_within design.cells number cell is) in
      first listed.place ((constant_at names design value listed.place number cell listed.is_there is).1 constant)
  none_there value (Some place) first h number cell is constant = absurd (false≢true h)

  no_place : (value : Bool) (place : Option ℕ) → IsFirstPlace names design value place → ((number : ℕ) (cell : HCell) → IsCell design.cells number cell → ¬ IsConstantCell names value cell) → is_none place ≡ true
  no_place value None first none = refl
  no_place value (Some place) first none = absurd (none first.stands.number first.stands.cell first.stands.is_cell first.stands.is_constant)

  missing_is : (value : Bool) (known : Known) → IsKnown names design value known → (is_missing known ≡ true) ↔ IsMissing names design value
  missing_is value known is = (
    λ h. let parts = both known.needed (is_none known.place) h in record { needed = is.needed.0 parts.0; none_there = none_there value known.place is.place parts.1 },
    λ missing. of_both known.needed (is_none known.place) (is.needed.1 missing.needed) (no_place value known.place is.place missing.none_there),
  )

  those : (zeros ones : Bool) → cond zeros (false ∷ []) [] ++ cond ones (true ∷ []) [] ≡ filter (λ value. cond value ones zeros) (false ∷ (true ∷ []))
  those true true = refl
  those true false = refl
  those false true = refl
  those false false = refl

  -- those that are missing, the zeros first
  pub are_missing : (zeros ones : Known) (values : List Bool) → IsKnown names design false zeros → IsKnown names design true ones → values ≡ missing_of zeros ones → AreMissing names design values
  are_missing zeros ones values of_zeros of_ones e = record {
    is_missing = λ value. cond value (is_missing ones) (is_missing zeros);
    tells = λ value. elim value as (λ v. (cond v (is_missing ones) (is_missing zeros) ≡ true) ↔ IsMissing names design v) [ false ↦ missing_is false zeros of_zeros | true ↦ missing_is true ones of_ones ];
    are_those = e ∙ those (is_missing zeros) (is_missing ones);
  }

-- ---- whether one cell stands for a constant

pub stands_none : (names : ConstantNames) (cell : HCell) (found : Option Bool) → ((found ≡ Some false) ↔ IsConstantCell names false cell) → ((found ≡ Some true) ↔ IsConstantCell names true cell) → (value : Bool) → found ≡ None → IsTrue false ↔ IsConstantCell names value cell
stands_none names cell found zeros ones value none = (
  λ t. absurd (false≢true t),
  λ constant. absurd (let e : found ≡ Some value = (tells names cell found zeros ones value).1 constant in cc),
)

pub stands_some : (names : ConstantNames) (cell : HCell) (found : Option Bool) → ((found ≡ Some false) ↔ IsConstantCell names false cell) → ((found ≡ Some true) ↔ IsConstantCell names true cell) → (other value : Bool) → found ≡ Some other → IsTrue (beq other value) ↔ IsConstantCell names value cell
stands_some names cell found zeros ones other value some = (
  λ t. (tells names cell found zeros ones value).0 (some ∙ ap Some ((booleans_Decides other value).0 t)),
  λ constant. (booleans_Decides other value).1 (let e : found ≡ Some value = (tells names cell found zeros ones value).1 constant in cc),
)

-- ---- numbers of cells

-- what is known of a constant
pub known_is : (names : ConstantNames) (design : Design) (value : Bool) (known : Known) (needed test : Bool) → known.needed ≡ needed → needed ≡ test → ((test ≡ true) ↔ IsNeeded design value) → IsFirstPlace names design value known.place → IsKnown names design value known
known_is names design value known needed test e f is first = record { needed = subst (λ b. (b ≡ true) ↔ IsNeeded design value) (sym (e ∙ f)) is; place = first }

pub few_missing : (zeros ones : Known) (values : List Bool) → values ≡ missing_of zeros ones → length values ≤ 2
few_missing zeros ones values e = let few = few_of (is_missing zeros) (is_missing ones) in let same = ap length e in omega (arith, few, same)
  where
    few_of : (a b : Bool) → length (cond a (false ∷ []) [] ++ cond b (true ∷ []) []) ≤ 2
    few_of true true = omega arith
    few_of true false = omega arith
    few_of false true = omega arith
    few_of false false = omega arith

-- the place of a cell that stands for a constant, behind at most two new cells, is a number of a cell
pub place_small : (names : ConstantNames) (design : Design) → IsHier design → (value : Bool) (place : Option ℕ) → IsFirstPlace names design value place → (count : ℕ) → count ≤ 2 → IfSome place (λ at. count + at < 2 ^ 32)
place_small names design hier value None first count two = tt
place_small names design hier value (Some place) first count two = place_fits design hier design.order refl count place two (slice_get_within design.order place first.stands.number first.stands.is_placed)
