-- A word that is cut at its last `.`.
use Rattle.std.proofs.Common.{◌≡◌, ℕ, ◌+◌, ◌<◌, ◌==◌, Bool, true, false, if◌then◌else◌, List, [], ◌∷◌, ◌++◌, length, take, drop, slice_get, ◌-◌, Option, Some, None, option_map, refl, sym, ap, subst, ◌∙◌}
use Rattle.nl_base.specs.RangeForm.{IsFreeOf, cut_at_last}
use Rattle.nl_base.proofs.Cuts.{cut_last-at, cut_last-is, cut_last-none, cut_last-place}
use Rattle.net_hier.specs.declared.constants.ConstName.{ConstName}
use Rattle.netlist_words.specs.Commands.{IsCellPort, IsName}
use Rattle.netlist_words.specs.Parsing.{cell_port}

-- where no such byte is found there is none
cut_none : (byte : ℕ) (xs : List ℕ) → cut_at_last byte xs ≡ None → IsFreeOf byte xs
cut_none byte [] e = tt
cut_none byte (x ∷ xs) e = go (cut_at_last byte xs) refl (cut_none byte xs) (x == byte) refl e
  where
    go : (o : Option (List ℕ × List ℕ)) → cut_at_last byte xs ≡ o → (cut_at_last byte xs ≡ None → IsFreeOf byte xs) → (t : Bool) → (x == byte) ≡ t
        → ◌≡◌ {A = Option (List ℕ × List ℕ)} (elim o [ None ↦ if t then Some ([], xs) else None | Some sides ↦ Some (x ∷ sides.0, sides.1) ]) None → IsFreeOf byte (x ∷ xs)
    go None o more true t e = absurd cc
    go None o more false t e = (t, more o)
    go (Some sides) o more t b e = absurd cc

abbrev second_side : Option (List ℕ × List ℕ) → List ℕ
second_side None = []
second_side (Some sides) = sides.1

-- no such byte stands behind the last one
cut_free : (byte : ℕ) (xs before after : List ℕ) → cut_at_last byte xs ≡ Some (before, after) → IsFreeOf byte after
cut_free byte [] before after e = absurd cc
cut_free byte (x ∷ xs) before after e = go (cut_at_last byte xs) refl (cut_free byte xs) (x == byte) e
  where
    go : (o : Option (List ℕ × List ℕ)) → cut_at_last byte xs ≡ o → ((b a : List ℕ) → cut_at_last byte xs ≡ Some (b, a) → IsFreeOf byte a) → (t : Bool)
        → ◌≡◌ {A = Option (List ℕ × List ℕ)} (elim o [ None ↦ if t then Some ([], xs) else None | Some sides ↦ Some (x ∷ sides.0, sides.1) ]) (Some (before, after)) → IsFreeOf byte after
    go None o more true e = subst (λ (rest : List ℕ). IsFreeOf byte rest) (ap second_side e) (cut_none byte xs o)
    go None o more false e = absurd cc
    go (Some sides) o more t e = subst (λ (rest : List ℕ). IsFreeOf byte rest) (ap second_side e) (more sides.0 sides.1 o)

pub cell_port_is : (word : List ℕ) (name : ConstName) → cell_port word ≡ Some name → IsCellPort word name
cell_port_is word name e = go (cut_at_last 46 word) refl e
  where
    go : (o : Option (List ℕ × List ℕ)) → cut_at_last 46 word ≡ o → option_map (λ sides. record { cell = sides.0; port = sides.1 }) o ≡ Some name → IsCellPort word name
    go None o e = absurd cc
    go (Some sides) o e =
        let same : record { cell = sides.0; port = sides.1 } ≡ name = cc in
        subst (λ (n : ConstName). IsCellPort word n) same (record { is = cut_last-is 46 word sides.0 sides.1 o; is_last = cut_free 46 word sides.0 sides.1 o })

-- the same by the place of the last `.`
pub cell_port_none : (word : List ℕ) → IsFreeOf 46 word → cell_port word ≡ None
cell_port_none word h = rw (cut_last-none 46 word h) refl

pub cell_port_at : (word : List ℕ) (at : ℕ) → at < length word → slice_get word at ≡ Some 46 → IsFreeOf 46 (drop (at + 1) word)
    → cell_port word ≡ Some (record { cell = take at word; port = take (length word - (at + 1)) (drop (at + 1) word) })
cell_port_at word at within e free = rw (cut_last-place 46 word at within e free) refl

pub is_cell_port : (word : List ℕ) (name : ConstName) → IsCellPort word name → cell_port word ≡ Some name
is_cell_port word name h = rw h.is (rw (cut_last-at 46 name.cell name.port h.is_last) refl)

-- a word with a `.` has a byte
pub cell_port_named : (word : List ℕ) (name : ConstName) → IsCellPort word name → IsName word
cell_port_named word name h e = go name.cell (sym (e) ∙ h.is)
  where
    go : (cell : List ℕ) → [] ≡ cell ++ (46 ∷ name.port) → ⊥
    go [] e = cc
    go (b ∷ bs) e = cc
