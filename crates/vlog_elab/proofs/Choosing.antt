-- The modules of a file that are reached are those whose names are among theirs.
use Rattle.std.proofs.Common.{◌≡◌, ℕ, zero, suc, ◌≤◌, Bool, true, false, cond, ◌||◌, List, [], ◌∷◌, ◌++◌, map, flat_map, slice_get, bytes_eq, Some, refl, sym, ap, ◌∙◌, arith}
use Rattle.std.proofs.lemmas.Bool.{false≢true, or_from, or_parts}
use Rattle.std.proofs.lemmas.Slice.Eq.{bytes_eq-Decides}
use Rattle.vlog_design.specs.Design.{module_cell}
use Rattle.vlog_design.specs.Names.{Name, has_name}
use Rattle.vlog_design.specs.Reach.{marked}
use Rattle.vlog_values.specs.declared.module.Module.{Module}
use Rattle.vlog_scopes.specs.Distinct.{Distinct, module_names}
use Rattle.vlog_shown.specs.Interfaces.{cell_shown, cells_shown, interface}
use Rattle.vlog_shown.proofs.Lists.{names_same}
use Rattle.vlog_shown.proofs.Showing.{cell_same}

-- ---- items that are chosen by a test

module _ {A : Type 0} (f : Module → A) where
  abbrev chosen : (Module → Bool) → List Module → List A
  chosen test = flat_map (λ m. cond (test m) (f m ∷ []) [])

  chosen_alike : (p q : Module → Bool) (ms : List Module) → ((i : ℕ) (m : Module) → slice_get ms i ≡ Some m → p m ≡ q m) → chosen p ms ≡ chosen q ms
  chosen_alike p q [] h = refl
  chosen_alike p q (m ∷ ms) h = λ j. cond (h 0 m refl j) (f m ∷ []) [] ++ chosen_alike p q ms (λ i x e. h (suc i) x e) j

  none_chosen : (ms : List Module) → chosen (λ m. false) ms ≡ []
  none_chosen [] = refl
  none_chosen (m ∷ ms) = none_chosen ms

  other_name : (name : Name) (ms : List Module) → has_name (module_names ms) name ≡ false → (i : ℕ) (m : Module) → slice_get ms i ≡ Some m → bytes_eq m.name name ≡ false
  other_name name [] h i m e = absurd (cc)
  other_name name (x ∷ ms) h (suc i) m e = other_name name ms (or_parts (bytes_eq name x.name) (has_name (module_names ms) name) h).1 i m e
  other_name name (x ∷ ms) h zero m e =
      let s : x ≡ m = cc in
      by (bytes_eq m.name name) refl (ap (λ (o : Module). bytes_eq name o.name) (sym s) ∙ (or_parts (bytes_eq name x.name) (has_name (module_names ms) name) h).0)
    where
      by : (b : Bool) → bytes_eq m.name name ≡ b → bytes_eq name m.name ≡ false → b ≡ false
      by false is differs = refl
      by true is differs = absurd (false≢true (sym differs ∙ (bytes_eq-Decides name m.name).1 (sym ((bytes_eq-Decides m.name name).0 is))))

  not_marked : (marks : List Bool) (ms : List Module) (name : Name) → has_name (module_names ms) name ≡ false → has_name (module_names (marked marks ms)) name ≡ false
  not_marked [] ms name h = refl
  not_marked (mark ∷ marks) [] name h = refl
  not_marked (true ∷ marks) (m ∷ ms) name h =
      let parts = or_parts (bytes_eq name m.name) (has_name (module_names ms) name) h in
      or_from (bytes_eq name m.name) (has_name (module_names (marked marks ms)) name) parts.0 (not_marked marks ms name parts.1)
  not_marked (false ∷ marks) (m ∷ ms) name h = not_marked marks ms name (or_parts (bytes_eq name m.name) (has_name (module_names ms) name) h).1

  -- marked modules whose names differ are those whose names are among theirs
  pub marked_chosen : (marks : List Bool) (ms : List Module) → Distinct (module_names ms) → chosen (λ m. has_name (module_names (marked marks ms)) m.name) ms ≡ map f (marked marks ms)
  marked_chosen [] ms d = none_chosen ms
  marked_chosen (mark ∷ marks) [] d = refl
  marked_chosen (true ∷ marks) (m ∷ ms) d =
      λ j. cond (here j) (f m ∷ []) [] ++ (rest ∙ marked_chosen marks ms d.1) j
    where
      here : has_name (module_names (m ∷ marked marks ms)) m.name ≡ true
      here = ap (λ b. b || has_name (module_names (marked marks ms)) m.name) ((bytes_eq-Decides m.name m.name).1 refl)

      rest : chosen (λ x. has_name (module_names (m ∷ marked marks ms)) x.name) ms ≡ chosen (λ x. has_name (module_names (marked marks ms)) x.name) ms
      rest = chosen_alike (λ x. has_name (module_names (m ∷ marked marks ms)) x.name) (λ x. has_name (module_names (marked marks ms)) x.name) ms
          (λ i x e. ap (λ b. b || has_name (module_names (marked marks ms)) x.name) (other_name m.name ms d.0 i x e))
  marked_chosen (false ∷ marks) (m ∷ ms) d =
      λ j. cond (not_marked marks ms m.name d.0 j) (f m ∷ []) [] ++ marked_chosen marks ms d.1 j

-- a module of the list has the name
pub record IsNamed (name : Name) (ms : List Module) : Type 0 where
  pub place : ℕ
  pub item : Module
  pub is_there : slice_get ms place ≡ Some item
  pub has_it : name ≡ item.name

pub name_there : (name : Name) (ms : List Module) → has_name (module_names ms) name ≡ true → IsNamed name ms
name_there name [] h = absurd (false≢true h)
name_there name (m ∷ ms) h = by (bytes_eq name m.name) refl h (name_there name ms)
  where
    by : (b : Bool) → bytes_eq name m.name ≡ b → (b || has_name (module_names ms) name) ≡ true → (has_name (module_names ms) name ≡ true → IsNamed name ms) → IsNamed name (m ∷ ms)
    by true is h rest = record { place = 0; item = m; is_there = refl; has_it = (bytes_eq-Decides name m.name).0 is }
    by false is h rest = let r = rest h in record { place = suc r.place; item = r.item; is_there = r.is_there; has_it = r.has_it }

-- ---- what modules show

-- the cells of marked modules, by what they show
pub marked_cells : (marks : List Bool) (ms : List Module) → Distinct (module_names ms) → cells_shown (map interface (marked marks ms)) ms ≡ map (module_cell (marked marks ms)) (marked marks ms)
unfolding cell_shown
marked_cells marks ms d =
    (λ j. chosen (λ m. cell_same (marked marks ms) m j) (λ m. has_name (names_same (marked marks ms) j) m.name) ms)
    ∙ marked_chosen (module_cell (marked marks ms)) marks ms d
