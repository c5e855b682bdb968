-- The design of a generated file is within the limit of a design, and can be written in Verilog.
use Rattle.std.proofs.Common.{arith, append_assoc, ◌≡◌, ℕ, zero, suc, ◌+◌, ◌*◌, ◌<◌, ◌≤◌, ◌^◌, ◌%◌, Bool, true, false, cond, List, [], ◌∷◌, ◌++◌, length, map, refl, sym, ap, ◌∙◌, subst}
use Rattle.std.specs.Prelude.{◌&&◌, bytes_eq, codes, nat_le, None, sum_by}
use Rattle.std.specs.Fmt.{decimal}
use Rattle.std.specs.List.{list_all, range_with_len}
use Rattle.std.proofs.lemmas.Bool.{and_from, false≢true, le-leb}
use Rattle.std.proofs.lemmas.Bool.Decides.{nat_tests}
use Rattle.std.proofs.lemmas.Fmt.{decimal_by_steps, length-decimal-le}
use Rattle.std.proofs.lemmas.List.Folds.{list_all-append}
use Rattle.std.proofs.lemmas.List.Sums.{sum_by-cons}
use Rattle.std.proofs.lemmas.Nat.{mod_below}
use Rattle.net_hier.specs.Units.{cell_units, units}
use Rattle.net_hier.specs.declared.cells.HCell.{HCell}
use Rattle.nl_base.specs.declared.rule.Rule.{Rule}
use Rattle.nl_base.specs.declared.rule.Rule.TheVariants.{V1, V2, V3, V5}
use Rattle.to_verilog_rules.specs.Rules.{boolean_parameters, cells_twice, first_V, in_cells, is_graphic, is_name, refusals, shared_names, unwritable_names}
use Rattle.vlog_design.specs.Names.{Name, clashing}
use Rattle.vlog_design.specs.Rules.{Objects, first_of, refused}
use Rattle.edif_meanings.specs.Apart.{AreApart}
use Rattle.edif_meanings.proofs.ApartLaws.{apart_before}
use Rattle.vectors.specs.Cells.{cell_ident}
use Rattle.vectors.specs.Numbers.{is_swapped}
use Rattle.vectors_laws.specs.Designs.{cell_above, design_cell, design_cells}
use Rattle.vectors_laws.proofs.Idents.{idents_apart}
use Rattle.vectors_laws.proofs.Lists.{map_map, none_made, range_same}

-- ---- units

units_above : (swapped : Bool) (below : ℕ) → cell_units (cell_above swapped below) ≡ 11
units_above true below = refl
units_above false below = refl

few_units : (seed k : ℕ) → cell_units (design_cell seed k) ≤ 11
few_units seed zero = omega arith
few_units seed (suc below) = (let e = units_above (is_swapped seed (suc below)) below in omega (arith, e))

units_from : (seed a n : ℕ) → sum_by cell_units (map (design_cell seed) (range_with_len a n)) ≤ 11 * n
units_from seed a zero = omega arith
units_from seed a (suc n) =
    let e = sum_by-cons cell_units (design_cell seed a) (map (design_cell seed) (range_with_len (a + 1) n)) in
    let first = few_units seed a in
    let rest = units_from seed (a + 1) n in
    omega (arith, e, first, rest)

pub units_are_few : (seed count : ℕ) → units (design_cells seed count) ≤ 11 * count
units_are_few seed count = (let le = units_from seed 0 count in omega (arith, le))

-- ---- names

digit_graphic : (d : ℕ) → d < 10 → is_graphic (48 + d) ≡ true
digit_graphic d h = grind (arith, nat_tests)

number_graphic : (n : ℕ) → n < 2 ^ 64 → list_all is_graphic (decimal n) ≡ true
number_graphic n h = decimal_by_steps (λ n ds. list_all is_graphic ds ≡ true) one more n h
  where
    one : (n : ℕ) → n < 10 → list_all is_graphic ((48 + n) ∷ []) ≡ true
    one n h = ap (λ b. b && true) (digit_graphic n h)

    more : (n : ℕ) (ds : List ℕ) → 10 ≤ n → list_all is_graphic ds ≡ true → list_all is_graphic (ds ++ (48 + n % 10) ∷ []) ≡ true
    more n ds h rest =
        let m : n % 10 < 10 = mod_below n 10 (omega arith) in
        list_all-append is_graphic ds ((48 + n % 10) ∷ []) ∙ (ap (λ b. b && (is_graphic (48 + n % 10) && true)) rest ∙ ap (λ b. b && true) (digit_graphic (n % 10) m))

cell_named : (k : ℕ) → k < 2 ^ 64 → is_name (cell_ident k) ≡ true
unfolding is_name
cell_named k lt =
    let most : length (decimal k) ≤ 20 = length-decimal-le 20 k (omega arith) (omega arith) lt in
    and_from (nat_le 1 (length (cell_ident k)) && nat_le (length (cell_ident k)) 1024) (list_all is_graphic (cell_ident k))
    (and_from (nat_le 1 (length (cell_ident k))) (nat_le (length (cell_ident k)) 1024) (le-leb 1 (length (cell_ident k)) (omega arith)) (le-leb (length (cell_ident k)) 1024 (omega (arith, most))))
    (number_graphic k lt)

unwritable_none : (k : ℕ) (b : Bool) → b ≡ true → cond {A = Objects} b [] ((codes "cell" ∷ (cell_ident k ∷ [])) ∷ []) ≡ []
unwritable_none k true e = refl
unwritable_none k false e = absurd (false≢true e)

none_unwritable : (seed k : ℕ) → k < 2 ^ 64 → unwritable_names (design_cell seed k) ≡ []
unfolding unwritable_names is_name
none_unwritable seed zero lt = λ j. unwritable_none 0 (is_name (cell_ident 0)) (cell_named 0 lt) j ++ [] ++ [] ++ []
none_unwritable seed (suc below) lt = λ j. unwritable_none (suc below) (is_name (cell_ident (suc below))) (cell_named (suc below) lt) j ++ [] ++ [] ++ []

none_shared : (seed k : ℕ) → shared_names (design_cell seed k) ≡ []
unfolding shared_names
none_shared seed zero = refl
none_shared seed (suc below) = refl

none_boolean : (is_param : Name → Bool) (seed k : ℕ) → boolean_parameters is_param (design_cell seed k) ≡ []
unfolding boolean_parameters
none_boolean is_param seed zero = refl
none_boolean is_param seed (suc below) = refl

-- names that differ up to case do not clash
no_clash : (before names : List (List ℕ)) → AreApart (before ++ names) → clashing bytes_eq before names ≡ []
unfolding clashing
no_clash before [] apart = refl
no_clash before (name ∷ names) apart =
    let rest : List (List ℕ) = clashing bytes_eq (before ++ name ∷ []) names in
    (λ j. cond (apart_before before name names apart j) (name ∷ rest) rest) ∙ no_clash (before ++ name ∷ []) names (subst AreApart (sym (append_assoc before (name ∷ []) names)) apart)

cell_name : (seed k : ℕ) → (design_cell seed k).name ≡ cell_ident k
cell_name seed zero = refl
cell_name seed (suc below) = refl

-- ---- the rules

none_in : (rule : Rule) (objects : HCell → Objects) (seed count : ℕ) → ((k : ℕ) → k < count → objects (design_cell seed k) ≡ []) → in_cells rule objects (design_cells seed count) ≡ []
none_in rule objects seed count none = none_made (design_cell seed) (λ cell. map (refused rule cell.name) (objects cell)) 0 count
    (λ k lt. let e : 0 + k ≡ k = omega arith in subst (λ m. map (refused rule (design_cell seed m).name) (objects (design_cell seed m)) ≡ []) (sym e) (ap (map (refused rule (design_cell seed k).name)) (none k lt)))

none_twice : (seed count : ℕ) → count ≤ 2 ^ 64 → cells_twice (design_cells seed count) ≡ []
none_twice seed count small =
    let names : map (λ cell. cell.name) (design_cells seed count) ≡ map cell_ident (range_with_len 0 count) =
    map_map (λ (cell : HCell). cell.name) (design_cell seed) (range_with_len 0 count) ∙ range_same (λ k. (design_cell seed k).name) cell_ident 0 count (λ k lt. cell_name seed (0 + k)) in
    ap (λ ns. map (λ name. refused V2 name []) (clashing bytes_eq [] ns)) names
    ∙ ap (map (λ name. refused V2 name [])) (no_clash [] (map cell_ident (range_with_len 0 count)) (idents_apart 0 count (omega (arith, small))))

pub first_none : (seed count top : ℕ) (is_param : Name → Bool) → count ≤ 2 ^ 64 → first_V (design_cells seed count) top [] is_param ≡ None
unfolding first_V refusals
first_none seed count top is_param small = λ j. first_of (
    none_in V1 unwritable_names seed count (λ k lt. none_unwritable seed k (omega (arith, lt, small))) j
    ++ none_twice seed count small j
    ++ none_in V3 shared_names seed count (λ k lt. none_shared seed k) j
    ++ []
    ++ none_in V5 (boolean_parameters is_param) seed count (λ k lt. none_boolean is_param seed k) j)
