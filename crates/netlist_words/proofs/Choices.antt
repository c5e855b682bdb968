-- The constants that options choose.
use Rattle.std.proofs.Common.{◌≡◌, ◌≢◌, ℕ, List, Bool, true, false, ◌&&◌, if◌then◌else◌, not, codes, Option, Some, None, refl, sym, subst, ◌∙◌, arith}
use Rattle.std.specs.Option.{option_and_then}
use Rattle.std.proofs.lemmas.Slice.Eq.{bytes_eq-Decides}
use Rattle.nl_base.specs.Case.{same_bytes}
use Rattle.net_hier.specs.Constants.{AreConstantNames, ConstantNames, IsNameLength, usual_names}
use Rattle.net_hier.specs.declared.constants.ConstName.{ConstName}
use Rattle.netlist_words.specs.Commands.{IsChosen}
use Rattle.netlist_words.specs.Parsing.{are_constants, cell_port, constants_of, has_name_length, if_constants, word_or}
use Rattle.netlist_words.proofs.Dots.{cell_port_is, is_cell_port}

-- ---- names of constants, as a test

length_is : (text : List ℕ) → has_name_length text ≡ true → IsNameLength text
length_is text e = grind (arith, e)

is_length : (text : List ℕ) → IsNameLength text → has_name_length text ≡ true
is_length text h = grind (arith, h.0, h.1)

both : (s t : Bool) → (s && t) ≡ true → (s ≡ true) × (t ≡ true)
both true t e = (refl, e)
both false t e = absurd cc

not_true : (t : Bool) → not t ≡ true → t ≡ false
not_true true e = absurd cc
not_true false e = refl

pub constants_are : (names : ConstantNames) → are_constants names ≡ true → AreConstantNames names
constants_are names e =
    let parts = both (not (same_bytes names.zero.cell names.one.cell)) _ e in
    let lengths = both _ _ parts.1 in
    let zeros = both _ _ lengths.0 in
    let ones = both _ _ lengths.1 in
    record {
      differ = λ (h : names.zero.cell ≡ names.one.cell). let t : true ≡ false = sym ((bytes_eq-Decides names.zero.cell names.one.cell).1 h) ∙ not_true (same_bytes names.zero.cell names.one.cell) parts.0 in cc;
      zero_cell = length_is names.zero.cell zeros.0;
      zero_port = length_is names.zero.port zeros.1;
      one_cell = length_is names.one.cell ones.0;
      one_port = length_is names.one.port ones.1;
    }

differ_so : (a b : List ℕ) → a ≢ b → same_bytes a b ≡ false
differ_so a b h = go (same_bytes a b) refl
  where
    go : (t : Bool) → same_bytes a b ≡ t → t ≡ false
    go true t = absurd (h ((bytes_eq-Decides a b).0 t))
    go false t = refl

pub are_those : (names : ConstantNames) → AreConstantNames names → are_constants names ≡ true
are_those names h =
    rw (differ_so names.zero.cell names.one.cell h.differ, is_length names.zero.cell h.zero_cell, is_length names.zero.port h.zero_port, is_length names.one.cell h.one_cell, is_length names.one.port h.one_port) refl

-- ---- the choice

-- a word that is left out has the names of the usual one
chosen_is : (usual : ConstName) (word : List ℕ) → cell_port word ≡ Some usual → (given : Option (List ℕ)) (name : ConstName) → cell_port (word_or given word) ≡ Some name → IsChosen usual given name
chosen_is usual word is None name e = let s : Some name ≡ Some usual = sym e ∙ is in cc
chosen_is usual word is (Some given) name e = cell_port_is given name e

is_chosen : (usual : ConstName) (word : List ℕ) → cell_port word ≡ Some usual → (given : Option (List ℕ)) (name : ConstName) → IsChosen usual given name → cell_port (word_or given word) ≡ Some name
is_chosen usual word is None name e = rw e is
is_chosen usual word is (Some given) name e = is_cell_port given name e

-- what the constants of two options are
pub record Chooses (zero one : Option (List ℕ)) (names : ConstantNames) : Type 0 where
  pub is_zero : IsChosen usual_names.zero zero names.zero
  pub is_one : IsChosen usual_names.one one names.one
  pub are_names : AreConstantNames names

pub chooses : (zero one : Option (List ℕ)) (names : ConstantNames) → constants_of zero one ≡ Some names → Chooses zero one names
chooses zero one names e = go_zero (cell_port (word_or zero (codes "GND.G"))) refl e
  where
    go_names : (z o : ConstName) → cell_port (word_or zero (codes "GND.G")) ≡ Some z → cell_port (word_or one (codes "VCC.P")) ≡ Some o
        → (t : Bool) → are_constants (record { zero = z; one = o }) ≡ t → (if t then Some (record { zero = z; one = o }) else None) ≡ Some names → Chooses zero one names
    go_names z o ez eo true t e =
        let same : record { zero = z; one = o } ≡ names = cc in
        subst (λ (n : ConstantNames). Chooses zero one n) same (record {
          is_zero = chosen_is usual_names.zero (codes "GND.G") refl zero z ez;
          is_one = chosen_is usual_names.one (codes "VCC.P") refl one o eo;
          are_names = constants_are (record { zero = z; one = o }) t;
        })
    go_names z o ez eo false t e = absurd cc

    go_one : (z : ConstName) → cell_port (word_or zero (codes "GND.G")) ≡ Some z → (found : Option ConstName) → cell_port (word_or one (codes "VCC.P")) ≡ found
        → option_and_then (λ o. if_constants (record { zero = z; one = o })) found ≡ Some names → Chooses zero one names
    go_one z ez None eo e = absurd cc
    go_one z ez (Some o) eo e = go_names z o ez eo (are_constants (record { zero = z; one = o })) refl e

    go_zero : (found : Option ConstName) → cell_port (word_or zero (codes "GND.G")) ≡ found
        → option_and_then (λ z. option_and_then (λ o. if_constants (record { zero = z; one = o })) (cell_port (word_or one (codes "VCC.P")))) found ≡ Some names → Chooses zero one names
    go_zero None ez e = absurd cc
    go_zero (Some z) ez e = go_one z ez (cell_port (word_or one (codes "VCC.P"))) refl e

pub chosen : (zero one : Option (List ℕ)) (names : ConstantNames) → Chooses zero one names → constants_of zero one ≡ Some names
chosen zero one names h =
    rw (is_chosen usual_names.zero (codes "GND.G") refl zero names.zero h.is_zero, is_chosen usual_names.one (codes "VCC.P") refl one names.one h.is_one, are_those names h.are_names) refl
