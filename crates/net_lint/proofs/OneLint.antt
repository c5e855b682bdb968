-- A design has one text of its findings.
use Rattle.std.proofs.Common.{◌≡◌, ℕ, suc, ◌<◌, ◌≤◌, inl, inr, List, [], ◌∷◌, refl, sym, ◌∙◌, ap, subst, subst₂, slice_get, Some, length, arith}
use Rattle.std.specs.Prelude.{Contains, codes, ◌↔◌}
use Rattle.std.proofs.lemmas.List.{length-map}
use Rattle.net_hier.specs.Constants.{ConstantNames}
use Rattle.net_hier.specs.Design.{Design}
use Rattle.net_hier.specs.Paths.{Path}
use Rattle.net_hier.specs.Valid.{IsValid}
use Rattle.net_graph.proofs.OrderLaws.{contained}
use Rattle.flat_classes.specs.Terminals.{FlatValue}
use Rattle.flat_classes.proofs.KindLaws.{first_or_rest, in_first, in_rest, nothing_in}
use Rattle.flat_classes.proofs.OneFlat.{one_flat}
use Rattle.flat_report.specs.Report.{count_then, design_then, nets_then, terminals_then}
use Rattle.flat_classes.specs.Ways.{ArePaths}
use Rattle.flat_report.proofs.OneReport.{one_paths}
use Rattle.net_lint.specs.Findings.{AreSeveral, FoundIn, View}
use Rattle.net_lint.specs.Groups.{drivers_at, sets_of}
use Rattle.net_lint.specs.Lint.{IsLint, lint_then, view_of}
use Rattle.net_lint.proofs.Chosen.{one_those}

-- ---- lists of lists in the order of their first numbers
abbrev AreFilled : List (List ℕ) → Type 0
AreFilled sets = (set : List ℕ) → Contains sets set → 2 ≤ length set

abbrev AreOrdered : List (List ℕ) → Type 0
AreOrdered sets = (i j first other : ℕ) (rest others : List ℕ) → i < j → slice_get sets i ≡ Some (first ∷ rest) → slice_get sets j ≡ Some (other ∷ others) → first < other

-- a list that is not empty is a first number and the rest
record Begins (set : List ℕ) : Type 0 where
  first : ℕ
  rest : List ℕ
  is : set ≡ first ∷ rest

begins : (set : List ℕ) → 2 ≤ length set → Begins set
begins [] two = absurd (omega (arith, two))
begins (first ∷ rest) two = record { first = first; rest = rest; is = refl }

-- the first set comes before each other
comes_first : (set : List ℕ) (sets : List (List ℕ)) → AreOrdered (set ∷ sets) → (a b : Begins set) (other : List ℕ) → Contains sets other → (o : Begins other) → a.first < o.first
comes_first set sets ordered a b other c o =
    let s = contained sets other c in
    ordered 0 (suc s.place) a.first o.first a.rest o.rest (omega arith) (ap Some a.is) (s.is_there ∙ ap Some o.is)

one_order : (xs ys : List (List ℕ)) → AreFilled xs → AreFilled ys → AreOrdered xs → AreOrdered ys → ((set : List ℕ) → Contains xs set ↔ Contains ys set) → xs ≡ ys
one_order [] [] fx fy ox oy same = refl
one_order [] (y ∷ ys) fx fy ox oy same = absurd (nothing_in y ((same y).1 (in_first y ys)))
one_order (x ∷ xs) [] fx fy ox oy same = absurd (nothing_in x ((same x).0 (in_first x xs)))
one_order (x ∷ xs) (y ∷ ys) fx fy ox oy same =
    let bx : Begins x = begins x (fx x (in_first x xs)) in
    let by : Begins y = begins y (fy y (in_first y ys)) in
    let first : x ≡ y = elim (first_or_rest y ys x ((same x).0 (in_first x xs))) [
      | inl e ↦ sym e
      | inr in_ys ↦ elim (first_or_rest x xs y ((same y).1 (in_first y ys))) [
        | inl e ↦ e
        | inr in_xs ↦ let a = comes_first y ys oy by by x in_ys bx in let b = comes_first x xs ox bx bx y in_xs by in absurd (omega (arith, a, b))
      ]
    ] in
    let later_x : (set : List ℕ) → Contains xs set → x ≡ set → ⊥ = λ set c e.
    let bs : Begins set = begins set (fx set (in_rest x xs set c)) in
    let a = comes_first x xs ox bx bx set c bs in
    let b = comes_first x xs ox (record { first = bs.first; rest = bs.rest; is = e ∙ bs.is }) bx set c bs in
    omega (arith, b) in
    let later_y : (set : List ℕ) → Contains ys set → y ≡ set → ⊥ = λ set c e.
    let bs : Begins set = begins set (fy set (in_rest y ys set c)) in
    let b = comes_first y ys oy (record { first = bs.first; rest = bs.rest; is = e ∙ bs.is }) by set c bs in
    omega (arith, b) in
    let rest : xs ≡ ys = one_order xs ys (λ set c. fx set (in_rest x xs set c)) (λ set c. fy set (in_rest y ys set c))
    (λ i j a b r s lt e f. ox (suc i) (suc j) a b r s (omega (arith, lt)) e f) (λ i j a b r s lt e f. oy (suc i) (suc j) a b r s (omega (arith, lt)) e f)
    (λ set. (
      λ c. elim (first_or_rest y ys set ((same set).0 (in_rest x xs set c))) [ inl e ↦ absurd (later_x set c (first ∙ e)) | inr r ↦ r ],
      λ c. elim (first_or_rest x xs set ((same set).1 (in_rest y ys set c))) [ inl e ↦ absurd (later_y set c (sym first ∙ e)) | inr r ↦ r ],
    )) in
    subst (λ w. x ∷ xs ≡ w ∷ ys) first (ap (λ w. x ∷ w) rest)

-- what is found in a design is found once
one_several : (view : View) (a b : List (List ℕ)) → AreSeveral view a → AreSeveral view b → a ≡ b
one_several view a b of_a of_b = one_order a b (λ set c. ((of_a.are set).0 c).two) (λ set c. ((of_b.are set).0 c).two) of_a.in_order of_b.in_order (λ set. (λ c. (of_b.are set).1 ((of_a.are set).0 c), λ c. (of_a.are set).1 ((of_b.are set).0 c)))

pub one_lint : (names : ConstantNames) (design : Design) → IsValid design → (a b : List ℕ) → IsLint names design a → IsLint names design b → a ≡ b
one_lint names design valid a b of_a of_b =
    let flats : of_a.flat ≡ of_b.flat = one_flat names design valid of_a.flat of_b.flat of_a.are_classes of_b.are_classes in
    let here : ArePaths design.cells of_b.flat.spots of_a.paths = subst (λ (f : FlatValue). ArePaths design.cells f.spots of_a.paths) flats of_a.are_paths in
    let paths : of_a.paths ≡ of_b.paths = one_paths design valid of_b.flat.spots of_b.are_classes.are_spots of_a.paths of_b.paths here of_b.are_paths in
    let found : FoundIn (view_of names design of_b.flat) of_a.undriven of_a.floating of_a.several = subst (λ (f : FlatValue). FoundIn (view_of names design f) of_a.undriven of_a.floating of_a.several) flats of_a.found in
    let undriven : of_a.undriven ≡ of_b.undriven = one_those found.undriven_are of_b.found.undriven_are in
    let floating : of_a.floating ≡ of_b.floating = one_those found.floating_are of_b.found.floating_are in
    let several : of_a.several ≡ of_b.several = one_several (view_of names design of_b.flat) of_a.several of_b.several found.several_are of_b.found.several_are in
    let there = subst₂ (λ (f : FlatValue) (p : List Path). lint_then design of_a.flat of_a.paths of_a.undriven of_a.floating of_a.several [] ≡ lint_then design f p of_a.undriven of_a.floating of_a.several []) flats paths refl in
    let lists = subst₂ (λ u f. lint_then design of_b.flat of_b.paths of_a.undriven of_a.floating of_a.several [] ≡ lint_then design of_b.flat of_b.paths u f of_a.several []) undriven floating refl in
    let sets = ap (λ s. lint_then design of_b.flat of_b.paths of_b.undriven of_b.floating s []) several in
    of_a.is ∙ (there ∙ (lists ∙ (sets ∙ sym of_b.is)))

-- the lines of equal lists
pub same_lines : (design : Design) (flat : FlatValue) (paths : List Path) (undriven floating firsts : List ℕ) (drivers : List (List ℕ)) (u f s : List ℕ) (d : List (List ℕ)) (rest : List ℕ) → u ≡ undriven → f ≡ floating → s ≡ firsts → d ≡ drivers →
    lint_then design flat paths undriven floating (sets_of flat.groups drivers firsts) rest ≡
    design_then (slice_get design.cells design.top)
    (count_then (codes "undriven") (length u) (terminals_then design.cells flat.spots paths flat.terminals u
    (count_then (codes "floating") (length f) (terminals_then design.cells flat.spots paths flat.terminals f
    (count_then (codes "several") (length s) (nets_then design.cells flat.spots paths flat.terminals (sets_of flat.groups d s) rest))))))
same_lines design flat paths undriven floating firsts drivers u f s d rest eu ef es ed =
    rw (eu, ef, es, ed) (ap (λ n. design_then (slice_get design.cells design.top)
    (count_then (codes "undriven") (length undriven) (terminals_then design.cells flat.spots paths flat.terminals undriven
    (count_then (codes "floating") (length floating) (terminals_then design.cells flat.spots paths flat.terminals floating
    (count_then (codes "several") n (nets_then design.cells flat.spots paths flat.terminals (sets_of flat.groups drivers firsts) rest)))))))
    (length-map firsts (drivers_at flat.groups drivers)))
