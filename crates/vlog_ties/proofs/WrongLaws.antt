-- Whether one of the uses of names in a module is wrong, item by item.
use Rattle.std.proofs.Common.{◌≡◌, ◌+◌, ◌<◌, ◌≤◌, ◌||◌, ℕ, Bool, true, false, List, [], ◌∷◌, ◌++◌, ap, append-nil, flat_map, get_or, length, refl, sym, take, ◌∙◌}
use Rattle.std.specs.List.{list_any}
use Rattle.std.proofs.lemmas.List.{take_all, take_more}
use Rattle.std.proofs.lemmas.List.Concat.{flat_map-append}
use Rattle.std.proofs.lemmas.List.Folds.{list_any-append}
use Rattle.vlog_design.specs.Names.{Signal, item_exprs, signals, uses}
use Rattle.vlog_rules.specs.WrongUses.{has_wrong_use, is_wrong}
use Rattle.vlog_rules.proofs.UseLaws.{wrong_is}
use Rattle.vlog_values.specs.declared.module.ItemV.{ItemV}
use Rattle.vlog_values.specs.declared.module.Module.{Module}

-- a condition holds of one of two lists
pub any_both : {A : Type 0} (p : A → Bool) (front back : List A) (one other both : Bool) → one ≡ list_any p front → other ≡ list_any p back → both ≡ (one || other) → both ≡ list_any p (front ++ back)
any_both p front back one other both e f is = is ∙ ((λ j. e j || f j) ∙ sym (list_any-append p front back))

-- of one module
pub any_alone : (m : Module) (wrong : Bool) → wrong ≡ has_wrong_use m → wrong ≡ list_any has_wrong_use (m ∷ [])
any_alone m wrong is = is ∙ or_none (has_wrong_use m)
  where
    or_none : (b : Bool) → b ≡ (b || false)
    or_none true = refl
    or_none false = refl

module _ (items : List ItemV) (i : ℕ) where
  -- the uses in the items in front of the next one, and in that one
  uses_front : (item : ItemV) → item ≡ get_or items i item → i < length items →
      flat_map uses (flat_map item_exprs (take (i + 1) items)) ≡ flat_map uses (flat_map item_exprs (take i items)) ++ flat_map uses (item_exprs item)
  uses_front item is lt =
      let front = flat_map item_exprs (take i items) in
      ap (flat_map uses) (ap (flat_map item_exprs) (take_more items i item lt ∙ ap (λ (x : ItemV). take i items ++ x ∷ []) (sym is))
      ∙ (flat_map-append item_exprs (take i items) (item ∷ []) ∙ ap (λ exprs. front ++ exprs) (append-nil (item_exprs item))))
      ∙ flat_map-append uses front (item_exprs item)

  module _ (table : List Signal) where
    -- one more item
    pub wrong_more : (item : ItemV) → item ≡ get_or items i item → i < length items → (front back both : Bool) → front ≡ list_any (is_wrong table) (flat_map uses (flat_map item_exprs (take i items)))
        → back ≡ list_any (is_wrong table) (flat_map uses (item_exprs item)) → both ≡ (front || back) → both ≡ list_any (is_wrong table) (flat_map uses (flat_map item_exprs (take (i + 1) items)))
    wrong_more item is lt front back both e f o =
        any_both (is_wrong table) (flat_map uses (flat_map item_exprs (take i items))) (flat_map uses (item_exprs item)) front back both e f o
        ∙ ap (list_any (is_wrong table)) (sym (uses_front item is lt))

    -- behind the last item
    pub wrong_done : (m : Module) (wrong : Bool) → table ≡ signals m → items ≡ m.items → length items ≤ i → wrong ≡ list_any (is_wrong table) (flat_map uses (flat_map item_exprs (take i items))) → wrong ≡ has_wrong_use m
    wrong_done m wrong e f le is = is ∙ (ap (λ those. list_any (is_wrong table) (flat_map uses (flat_map item_exprs those))) (take_all i items le) ∙ wrong_is m table items e f)
