-- Where no use of a name is wrong, no module breaks a rule on the names in expressions.
use Rattle.std.proofs.Common.{◌≡◌, ◌++◌, ◌+◌, ◌<◌, ◌≤◌, ◌||◌, ℕ, Bool, true, false, cond, List, [], ◌∷◌, Option, None, Some, drop, drop_of_length-le, filter, flat_map, get_or, is_none, length, map, refl, sym, ap, ◌∙◌}
use Rattle.std.specs.List.{list_any}
use Rattle.std.specs.Option.{option_map_or}
use Rattle.std.proofs.lemmas.Bool.{false≢true, or_parts}
use Rattle.std.proofs.lemmas.List.Concat.{flat_map-append}
use Rattle.std.proofs.lemmas.List.Folds.{list_any-append}
use Rattle.nl_base.specs.declared.rule.Rule.TheVariants.{G6, G7}
use Rattle.vlog_design.specs.Names.{Signal, Use, item_exprs, module_uses, signal_named, signals, uses}
use Rattle.vlog_design.specs.Ranges.{selected}
use Rattle.vlog_design.specs.Rules.{bad_select_in, bad_selects, in_modules, refused, unknown_names}
use Rattle.vlog_design.specs.declared.signals.Slot.{Slot}
use Rattle.vlog_design.proofs.Steps.{flat_map_left}
use Rattle.vlog_values.specs.declared.module.ItemV.{ItemV}
use Rattle.vlog_values.specs.declared.module.Module.{Module}
use Rattle.vlog_rules.specs.WrongUses.{has_wrong_use, is_wrong}

-- a condition on the parts of the parts of a list, tried one element after the other
module _ {A B C : Type 0} (p : C → Bool) (g : B → List C) (f : A → List B) (xs : List A) (i : ℕ) where
  -- it holds of a part of this element
  pub any_here : (x : A) → x ≡ get_or xs i x → i < length xs → true ≡ list_any p (flat_map g (f x)) → true ≡ list_any p (flat_map g (flat_map f (drop i xs)))
  any_here x is lt h =
      let rest = flat_map f (drop (i + 1) xs) in
      let e : flat_map f (drop i xs) ≡ f x ++ rest = flat_map_left f xs i x lt ∙ ap (λ y. f y ++ rest) (sym is) in
      sym (ap (λ ys. list_any p (flat_map g ys)) e
      ∙ (ap (list_any p) (flat_map-append g (f x) rest)
      ∙ (list_any-append p (flat_map g (f x)) (flat_map g rest) ∙ ap (λ b. b || list_any p (flat_map g rest)) (sym h))))

  -- no element is left
  pub any_done : length xs ≤ i → false ≡ list_any p (flat_map g (flat_map f (drop i xs)))
  any_done h = sym (ap (λ ys. list_any p (flat_map g (flat_map f ys))) (drop_of_length-le xs {i = i} h))

-- one of the uses in the items of a module is wrong
pub wrong_is : (m : Module) (table : List Signal) (items : List ItemV) → table ≡ signals m → items ≡ m.items → list_any (is_wrong table) (flat_map uses (flat_map item_exprs items)) ≡ has_wrong_use m
unfolding has_wrong_use module_uses
wrong_is m table items e f = (λ j. list_any (is_wrong (e j)) (flat_map uses (flat_map item_exprs (f j))))

-- what is never true where another test is not
none_kept : {A : Type 0} (p q : A → Bool) → ((x : A) → p x ≡ true → q x ≡ true) → (xs : List A) → list_any q xs ≡ false → filter p xs ≡ []
none_kept p q sub [] h = refl
none_kept p q sub (x ∷ xs) h = let parts = or_parts (q x) (list_any q xs) h in by (p x) refl parts.0 (none_kept p q sub xs parts.1)
  where
    by : (b : Bool) → p x ≡ b → q x ≡ false → filter p xs ≡ [] → cond b (x ∷ filter p xs) (filter p xs) ≡ []
    by true e g rest = absurd (false≢true (sym g ∙ sub x e))
    by false e g rest = rest

unknown_wrong : (f : Slot → Bool) (o : Option Slot) → is_none o ≡ true → option_map_or f o true ≡ true
unknown_wrong f None h = refl
unknown_wrong f (Some slot) h = absurd (false≢true h)

bad_wrong : (f : Slot → Bool) (o : Option Slot) → option_map_or f o false ≡ true → option_map_or f o true ≡ true
bad_wrong f None h = absurd (false≢true h)
bad_wrong f (Some slot) h = h

module _ (m : Module) (h : has_wrong_use m ≡ false) where
  none_unknown : unknown_names m ≡ []
  unfolding unknown_names has_wrong_use
  none_unknown =
      let names = signals m in
      ap (map (λ (u : Use). u.name ∷ []))
      (none_kept (λ u. is_none (signal_named names u.name)) (is_wrong names) (λ u e. unknown_wrong (λ slot. is_none (selected slot.range u.select)) (signal_named names u.name) e) (module_uses m) h)

  none_bad : bad_selects m ≡ []
  unfolding bad_selects has_wrong_use
  none_bad =
      let names = signals m in
      ap (map (λ (u : Use). u.name ∷ []))
      (none_kept (bad_select_in names) (is_wrong names) (λ u e. bad_wrong (λ slot. is_none (selected slot.range u.select)) (signal_named names u.name) e) (module_uses m) h)

-- no module breaks one of the two rules
pub none_refused : (modules : List Module) → list_any has_wrong_use modules ≡ false → (in_modules G6 unknown_names modules ≡ []) × (in_modules G7 bad_selects modules ≡ [])
none_refused [] h = (refl, refl)
none_refused (m ∷ modules) h =
    let parts = or_parts (has_wrong_use m) (list_any has_wrong_use modules) h in
    let rest = none_refused modules parts.1 in (
      (λ j. map (refused G6 m.name) (none_unknown m parts.0 j) ++ rest.0 j),
      (λ j. map (refused G7 m.name) (none_bad m parts.0 j) ++ rest.1 j),
    )
