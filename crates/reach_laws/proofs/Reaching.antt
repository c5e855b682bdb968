-- The marks of the modules of a Verilog file.
use Rattle.std.proofs.Common.{◌≡◌, ℕ, suc, ◌<◌, ◌+◌, Bool, true, false, cond, nat_lt, List, [], ◌∷◌, length, Some, None, bytes_eq, refl, sym, subst, ◌∙◌, arith}
use Rattle.std.specs.Prelude.{◌↔◌, find, flat_map}
use Rattle.std.specs.List.{position_or_len}
use Rattle.std.specs.Option.{option_map_or}
use Rattle.std.proofs.lemmas.Bool.{lt-ltb, ltb-true}
use Rattle.net_graph.specs.Graph.{IsReached}
use Rattle.net_graph.specs.Marks.{is_marked, marks_of}
use Rattle.net_graph.proofs.MarkLaws.{length_marks, marked_within}
use Rattle.vlog_design.specs.Names.{Name, instance_statements}
use Rattle.vlog_design.specs.Reach.{marked, module_number, module_place, modules_below, reached, reaches}
use Rattle.vlog_design.specs.Rules.{recursions, statement_names}
use Rattle.vlog_reach.proofs.ReachLaws.{graph_long, in_range}
use Rattle.vlog_values.specs.declared.module.Module.{Module}
use Rattle.vlog_values.specs.declared.module.VlogFile.{VlogFile}
use Rattle.reach_laws.specs.Modules.{AreThose, no_more, that, not_that, IsFirstOf, none_closes, closes, does_not, IsFirstClosing, IsReachedFrom, IsUnder, Reaches}
use Rattle.reach_laws.proofs.Marking.{marks_reach}

module _ (P : ℕ → Type 0) where
  at : (n m : ℕ) → m ≡ n → P m → P n
  at n m e p = subst P e p

  not_here : (n : ℕ) → (false ≡ true) ↔ P (n + 0) → ¬ P n
  not_here n h p = let e : false ≡ true = h.1 (at (n + 0) n (omega arith) p) in absurd cc

  behind : (n k : ℕ) (marks : List Bool) → (is_marked marks k ≡ true) ↔ P (n + suc k) → (is_marked marks k ≡ true) ↔ P (suc n + k)
  behind n k marks h = (λ m. at (suc n + k) (n + suc k) (omega arith) (h.0 m), λ p. h.1 (at (n + suc k) (suc n + k) (omega arith) p))

-- the marked items are those of which the marks are known
module _ {A : Type 0} (P : ℕ → Type 0) where
  pub those_marked : (n : ℕ) (marks : List Bool) (items : List A) → length marks ≡ length items → ((k : ℕ) → (is_marked marks k ≡ true) ↔ P (n + k)) → AreThose P n items (marked marks items)
  those_marked n [] [] long are = no_more
  those_marked n [] (x ∷ items) long are = absurd cc
  those_marked n (mark ∷ marks) [] long are = absurd cc
  those_marked n (true ∷ marks) (x ∷ items) long are =
      let even : length marks ≡ length items = omega (arith, long) in
      let further : (k : ℕ) → (is_marked marks k ≡ true) ↔ P (suc n + k) = λ k. behind P n k marks (are (suc k)) in
      let rest : AreThose P (suc n) items (marked marks items) = those_marked (suc n) marks items even further in
      that (at P n (n + 0) (omega arith) ((are 0).0 refl)) rest
  those_marked n (false ∷ marks) (x ∷ items) long are =
      let even : length marks ≡ length items = omega (arith, long) in
      let further : (k : ℕ) → (is_marked marks k ≡ true) ↔ P (suc n + k) = λ k. behind P n k marks (are (suc k)) in
      let rest : AreThose P (suc n) items (marked marks items) = those_marked (suc n) marks items even further in
      not_that (not_here P n (are 0)) rest

  pub those_same : (Q : ℕ → Type 0) (n : ℕ) (items found : List A) → ((k : ℕ) → P k ↔ Q k) → AreThose P n items found → AreThose Q n items found
  those_same Q n items found same no_more = no_more
  those_same Q n items found same (that {xs = xs} {ys = ys} p rest) = that ((same n).0 p) (those_same Q (suc n) xs ys same rest)
  those_same Q n items found same (not_that {xs = xs} {ys = ys} p rest) = not_that (λ q. p ((same n).1 q)) (those_same Q (suc n) xs ys same rest)

module _ (modules : List Module) where
  under : (top number : ℕ) → (is_marked (marks_of (modules_below modules) top) number ≡ true) ↔ IsUnder modules top number
  under top number = subst (λ m. (is_marked (marks_of (modules_below modules) top) number ≡ true) ↔ ((top < m) × IsReached (modules_below modules) top number)) (graph_long modules)
      (marks_reach (modules_below modules) top number (in_range modules (modules_below modules) refl))

  pub marked_modules : (top : ℕ) → AreThose (IsUnder modules top) 0 modules (marked (marks_of (modules_below modules) top) modules)
  marked_modules top = those_marked (IsUnder modules top) 0 (marks_of (modules_below modules) top) modules (length_marks (modules_below modules) top ∙ graph_long modules) (λ k. let e : k ≡ 0 + k = omega arith in subst (λ m. (is_marked (marks_of (modules_below modules) top) k ≡ true) ↔ IsUnder modules top m) e (under top k))

  -- a module's place is its number, where it is there
  place_there : (name : Name) → module_number modules name < length modules → module_place modules name ≡ Some (module_number modules name)
  unfolding module_number
  place_there name lt = rw (lt-ltb (position_or_len (λ (m : Module). bytes_eq name m.name) modules) (length modules) lt) refl

  place_number : (name : Name) (number : ℕ) → module_place modules name ≡ Some number → (number ≡ module_number modules name) × (number < length modules)
  unfolding module_number
  place_number name number e = by (nat_lt (position_or_len (λ (m : Module). bytes_eq name m.name) modules) (length modules)) refl e
    where
      by : (b : Bool) → nat_lt (position_or_len (λ (m : Module). bytes_eq name m.name) modules) (length modules) ≡ b → cond b (Some (position_or_len (λ (m : Module). bytes_eq name m.name) modules)) None ≡ Some number
          → (number ≡ position_or_len (λ (m : Module). bytes_eq name m.name) modules) × (number < length modules)
      by true is e = let same : position_or_len (λ (m : Module). bytes_eq name m.name) modules ≡ number = cc in (sym same, subst (λ n. n < length modules) same (ltb-true _ _ is))
      by false is e = absurd cc

  from_name : (from : Name) (number : ℕ) → IsUnder modules (module_number modules from) number ↔ IsReachedFrom modules from number
  from_name from number = (
    λ h. (module_number modules from, place_there from h.0, h.1),
    λ h. let p = place_number from h.0 h.1 in (subst (λ n. n < length modules) p.0 p.1, subst (λ n. IsReached (modules_below modules) n number) p.0 h.2),
  )

  pub names_reach : (from to : Name) → (reaches modules from to ≡ true) ↔ Reaches modules from to
  unfolding reaches
  names_reach from to = (
    λ h. let within = marked_within (marks_of (modules_below modules) (module_number modules from)) (module_number modules to) h in
        let long = length_marks (modules_below modules) (module_number modules from) ∙ graph_long modules in
        (module_number modules to, place_there to (omega (arith, within, long)), (from_name from (module_number modules to)).0 ((under (module_number modules from) (module_number modules to)).0 h)),
    λ h. let p = place_number to h.0 h.1 in (under (module_number modules from) (module_number modules to)).1 (subst (λ n. IsUnder modules (module_number modules from) n) p.0 ((from_name from h.0).1 h.2)),
  )

  first_of : (to : Name) (instances : List (Name × Name)) → IsFirstOf modules to instances (option_map_or (λ instance. (instance.0 ∷ []) ∷ []) (find (λ instance. reaches modules instance.1 to) instances) [])
  first_of to [] = none_closes
  first_of to (instance ∷ rest) = by (reaches modules instance.1 to) refl (first_of to rest)
    where
      by : (b : Bool) → reaches modules instance.1 to ≡ b → IsFirstOf modules to rest (option_map_or (λ instance. (instance.0 ∷ []) ∷ []) (find (λ instance. reaches modules instance.1 to) rest) [])
          → IsFirstOf modules to (instance ∷ rest) (option_map_or (λ instance. (instance.0 ∷ []) ∷ []) (cond b (Some instance) (find (λ instance. reaches modules instance.1 to) rest)) [])
      by true e further = closes ((names_reach instance.1 to).0 e)
      by false e further = does_not (λ h. let t : reaches modules instance.1 to ≡ true = (names_reach instance.1 to).1 h in absurd cc) further

  pub recursion : (m : Module) → IsFirstClosing modules m (recursions modules m)
  unfolding recursions
  recursion m = first_of m.name (flat_map statement_names (instance_statements m))

pub reached_modules : (file : VlogFile) (top : Name) → AreThose (IsReachedFrom file.modules top) 0 file.modules (reached file top)
unfolding reached
reached_modules file top =
    those_same (IsUnder file.modules (module_number file.modules top)) (IsReachedFrom file.modules top) 0 file.modules (marked (marks_of (modules_below file.modules) (module_number file.modules top)) file.modules)
    (from_name file.modules top) (marked_modules file.modules (module_number file.modules top))
