-- One more reference of a net.
use Rattle.std.proofs.Common.{◌≡◌, ℕ, ◌+◌, ◌<◌, Bool, ◌||◌, List, [], ◌∷◌, ◌++◌, length, map, take, get_or, Option, sym, ap, ◌∙◌, append_assoc}
use Rattle.std.specs.List.{flat_map, list_any}
use Rattle.std.proofs.lemmas.List.{take_more}
use Rattle.std.proofs.lemmas.List.Folds.{list_any-append}
use Rattle.nl_base.specs.declared.rule.Refusal.{Refusal}
use Rattle.edif_lookup.specs.Refusals.{lower, lowest}
use Rattle.edif_lookup.proofs.NameLaws.{or_comm}
use Rattle.edif_lookup.proofs.Orders.{lowest-append}
use Rattle.edif_rules.proofs.Turns.{flat_grows, map_grows}

module _ {A : Type 0} (items : List A) (i : ℕ) (x : A) (within : i < length items) (at : x ≡ get_or items i x) where
  pub lowest_more : (f : A → List Refusal) (best next now : Option Refusal) → best ≡ lowest (flat_map f (take i items)) → next ≡ lowest (f x) → now ≡ lower best next → now ≡ lowest (flat_map f (take (i + 1) items))
  lowest_more f best next now is_best is_next is_now =
      is_now
      ∙ ((λ j. lower (is_best j) (is_next j))
      ∙ (ap (λ y. lower (lowest (flat_map f (take i items))) (lowest (f y))) at
      ∙ (sym (lowest-append (flat_map f (take i items)) (f (get_or items i x)))
      ∙ ap lowest (sym (ap (flat_map f) (take_more items i x within) ∙ flat_grows f (take i items) (get_or items i x))))))

-- one more bit of a list of bits
pub any_more : {A N : Type 0} (items : List A) (i : ℕ) (d : A) → i < length items → (p : N → Bool) (g : A → N) (start old new : List N) → list_any p old ≡ list_any p (start ++ map g (take i items))
    → list_any p new ≡ (p (g (get_or items i d)) || list_any p old) → list_any p new ≡ list_any p (start ++ map g (take (i + 1) items))
any_more items i d within p g start old new is_old is_new =
    is_new
    ∙ (ap (λ b. p (g (get_or items i d)) || b) is_old
    ∙ (sym (or_comm (p (g (get_or items i d))) (list_any p (start ++ map g (take i items))))
    ∙ (sym (list_any-append p (start ++ map g (take i items)) (g (get_or items i d) ∷ []))
    ∙ (ap (list_any p) (append_assoc start (map g (take i items)) (g (get_or items i d) ∷ []))
    ∙ ap (λ l. list_any p (start ++ l)) (sym (ap (map g) (take_more items i d within) ∙ map_grows g (take i items) (get_or items i d)))))))
