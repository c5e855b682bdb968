-- The heads of the cells of a file, made one after another.
use Rattle.std.proofs.Common.{arith, ◌≡◌, inl, inr, ℕ, zero, suc, ◌+◌, ◌<◌, ◌≤◌, append_assoc, false, List, [], ◌∷◌, ◌++◌, Option, Some, get_or, length, length-append, map, take, refl, sym, ap, ◌∙◌, subst}
use Rattle.std.specs.Prelude.{slice_get}
use Rattle.std.specs.Option.{option_map_or}
use Rattle.std.proofs.lemmas.List.{map-append, take_all, take_more}
use Rattle.net_graph.proofs.OrderLaws.{front_or_last}
use Rattle.edif_meanings.specs.Apart.{is_alike_any}
use Rattle.edif_meanings.proofs.ApartLaws.{apart_more, apart_none}
use Rattle.edif_spaces.specs.Spaces.{AreIdents, IsIdentFor}
use Rattle.edif_spaces.proofs.IdentLaws.{behind_more, behind_none}
use Rattle.edif_plans.specs.Plans.{IsHeadOf}
use Rattle.edif_plans.specs.declared.head.Head.{Head}
use Rattle.net_hier.specs.Design.{IsCell}
use Rattle.net_hier.specs.declared.cells.HCell.{HCell}
use Rattle.net_hier.specs.declared.cells.HPort.{HPort}
use Rattle.edif_planning.specs.Numbers.{AreHeads, CellNames, names_with, old_names}

only : {A : Type 0} (o : Option A) (a b : A) → o ≡ Some a → o ≡ Some b → a ≡ b
only o a b e f = cc

nothing_there : {A : Type 0} (place : ℕ) (x : A) → slice_get [] place ≡ Some x → ⊥
nothing_there place x e = absurd cc

last_item : {A : Type 0} (xs : List A) (x y : A) → slice_get (xs ++ x ∷ []) (length xs) ≡ Some y → x ≡ y
last_item [] x y e = cc
last_item (z ∷ xs) x y e = last_item xs x y e

past : {A : Type 0} (xs : List A) (place : ℕ) (x : A) → slice_get xs place ≡ Some x → length xs ≤ place → ⊥
past [] place x e le = absurd (nothing_there place x e)
past (y ∷ xs) zero x e le = omega (arith, le)
past (y ∷ xs) (suc place) x e le = past xs place x e (omega (arith, le))

no_idents : AreIdents [] []
no_idents = record { len = refl; apart = apart_none; each = behind_none }

-- one name more, and its identifier
idents_more : (names idents : List (List ℕ)) (name ident : List ℕ) → AreIdents names idents → IsIdentFor idents name ident → is_alike_any ident idents ≡ false → AreIdents (names ++ name ∷ []) (idents ++ ident ∷ [])
idents_more names idents name ident are fits new = record {
  len = length-append idents (ident ∷ []) ∙ (ap (λ n. n + 1) are.len ∙ sym (length-append names (name ∷ [])));
  apart = apart_more idents ident are.apart new;
  each = behind_more [] names idents name ident are.each fits;
}

pub no_heads : (space : List (List ℕ)) (heads : List Head) → space ≡ [] → heads ≡ [] → AreHeads [] space heads
no_heads space heads none_named none_made = record {
  as_many = ap length none_made;
  is_space = none_named ∙ ap (map (λ (head : Head). head.cell)) (sym none_made);
  idents = subst (AreIdents []) (sym none_named) no_idents;
  ports = λ place names head there at. absurd (nothing_there place names there);
}

-- one head more, under an identifier that is alike none before
pub one_head : (wanted : List CellNames) (names : CellNames) (space new_space : List (List ℕ)) (heads new_heads : List Head) (ident : List ℕ) (head : Head) → AreHeads wanted space heads
    → IsIdentFor space names.cell ident → is_alike_any ident space ≡ false → new_space ≡ space ++ ident ∷ [] → IsHeadOf ident names.ports head → new_heads ≡ heads ++ head ∷ [] → AreHeads (wanted ++ names ∷ []) new_space new_heads
one_head wanted names space new_space heads new_heads ident head are fits new is_space is is_heads =
    subst (AreHeads (wanted ++ names ∷ []) new_space) (sym is_heads) (subst (λ (s : List (List ℕ)). AreHeads (wanted ++ names ∷ []) s (heads ++ head ∷ [])) (sym is_space) (record {
      as_many = length-append heads (head ∷ []) ∙ (ap (λ n. n + 1) are.as_many ∙ sym (length-append wanted (names ∷ [])));
      is_space = ap (λ s. s ++ ident ∷ []) are.is_space ∙ (ap (λ i. map (λ (h : Head). h.cell) heads ++ i ∷ []) (sym is.cell) ∙ sym (map-append (λ (h : Head). h.cell) heads (head ∷ [])));
      idents = subst (λ (l : List (List ℕ)). AreIdents l (space ++ ident ∷ [])) (sym (map-append (λ (n : CellNames). n.cell) wanted (names ∷ [])))
          (idents_more (map (λ (n : CellNames). n.cell) wanted) space names.cell ident are.idents fits new);
      ports = λ place other found there at. elim (front_or_last heads head place found at) as (λ _. AreIdents other.ports found.ports) [
        | inl earlier ↦ elim (front_or_last wanted names place other there) as (λ _. AreIdents other.ports found.ports) [
          | inl before ↦ are.ports place other found before earlier
          | inr last ↦ absurd (past heads place found earlier (let n = are.as_many in let p = last.0 in omega (arith, n, p)))
        ]
        | inr last ↦
            let same : names ≡ other = last_item wanted names other (ap (slice_get (wanted ++ names ∷ [])) (let n = are.as_many in let p = last.0 in let q : length wanted ≡ place = sym n ∙ sym p in q) ∙ there) in
            subst (λ (h : Head). AreIdents other.ports h.ports) last.1 (subst (λ (n : CellNames). AreIdents n.ports head.ports) same is.ports)
      ];
    }))

-- ---- what is wanted up to one place more

pub map_take : {A B : Type 0} (f : A → B) (xs : List A) (place : ℕ) (d : A) → place < length xs → map f (take (place + 1) xs) ≡ map f (take place xs) ++ f (get_or xs place d) ∷ []
map_take f xs place d lt = ap (map f) (take_more xs place d lt) ∙ map-append f (take place xs) (get_or xs place d ∷ [])

pub map_all : {A B : Type 0} (f : A → B) (xs : List A) (place : ℕ) → length xs ≤ place → map f (take place xs) ≡ map f xs
map_all f xs place le = ap (map f) (take_all place xs le)

-- the names of one cell more at the end of those of the first places
pub wanted_more : {A : Type 0} (f : A → CellNames) (wanted : List CellNames) (xs : List A) (place : ℕ) (d : A) (space : List (List ℕ)) (heads : List Head) (names : CellNames) → place < length xs → names ≡ f (get_or xs place d)
    → AreHeads ((wanted ++ map f (take place xs)) ++ names ∷ []) space heads → AreHeads (wanted ++ map f (take (place + 1) xs)) space heads
wanted_more f wanted xs place d space heads names lt is are =
    let same : (wanted ++ map f (take place xs)) ++ names ∷ [] ≡ wanted ++ map f (take (place + 1) xs) =
    append_assoc wanted (map f (take place xs)) (names ∷ []) ∙ ap (λ l. wanted ++ l) (ap (λ n. map f (take place xs) ++ n ∷ []) is ∙ sym (map_take f xs place d lt)) in
    subst (λ (l : List CellNames). AreHeads l space heads) same are

-- the names of a cell and of its ports by its number
pub names_at : (cells : List HCell) (number : ℕ) (cell : HCell) → IsCell cells number cell → old_names cells number ≡ names_with cell.name (map (λ (port : HPort). port.name) cell.ports)
names_at cells number cell is = ap (λ o. names_with (option_map_or (λ (c : HCell). c.name) o []) (map (λ (port : HPort). port.name) (option_map_or (λ (c : HCell). c.ports) o []))) is
