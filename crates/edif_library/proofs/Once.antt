-- Whether an item that may stand once stands among the items so far, and that it stands there once at most.
use Rattle.std.proofs.Common.{◌≡◌, ◌≤◌, Bool, true, false, cond, List, [], ◌∷◌, ◌++◌, ◌||◌, length, append-nil, Result, Ok, Err, IfOk, refl, ap, sym, subst, ◌∙◌, arith}
use Rattle.std.specs.List.{AllByRecursion, list_any, filter}
use Rattle.std.proofs.lemmas.List.Elements.{filter-append}
use Rattle.edif_values.specs.declared.view.ViewItem.{ViewItem}
use Rattle.edif_values.specs.declared.cell.CellItem.{CellItem}
use Rattle.edif_values.specs.declared.keyword.Keyword.{Keyword}
use Rattle.edif_values.specs.declared.keyword.Keyword.TheVariants as k
use Rattle.edif_values.specs.Keywords.{has, same_keyword}
use Rattle.edif_values.proofs.Same.{spelled_alike}
use Rattle.edif_values.specs.Values.{is_contents, IsViewItem, is_view, IsCellItem}
use Rattle.edif_library.specs.Grammar.{has_contents, view_keywords, has_view, cell_keywords}

any_more : {A : Type 0} (p : A → Bool) (s : List A) (x : A) → list_any p (s ++ x ∷ []) ≡ (list_any p s || p x)
any_more p [] x = by (p x)
  where
    by : (b : Bool) → (b || false) ≡ (false || b)
    by true = refl
    by false = refl
any_more p (y ∷ s) x = ap (λ b. p y || b) (any_more p s x) ∙ by (p y)
  where
    by : (b : Bool) → (b || (list_any p s || p x)) ≡ ((b || list_any p s) || p x)
    by true = refl
    by false = refl

none_kept : {A : Type 0} (p : A → Bool) (s : List A) → list_any p s ≡ false → filter p s ≡ []
none_kept p [] e = refl
none_kept {A = A} p (y ∷ s) e = by (p y) e (λ h. none_kept p s h)
  where
    by : (b : Bool) → (b || list_any p s) ≡ false → (list_any p s ≡ false → filter p s ≡ []) → cond b (y ∷ filter p s) (filter p s) ≡ []
    by true h later = absurd cc
    by false h later = later h

-- one more item, which passes the test only where none has
once_more : {A : Type 0} (p : A → Bool) (s : List A) (x : A) → (list_any p s ≡ true → p x ≡ false) → length (filter p s) ≤ 1 → length (filter p (s ++ x ∷ [])) ≤ 1
once_more {A = A} p s x free once = subst (λ (z : List A). length z ≤ 1) (sym (filter-append p s (x ∷ []))) (by (list_any p s) refl free)
  where
    first : (b : Bool) → length (cond b (x ∷ []) []) ≤ 1
    first true = omega arith
    first false = omega arith

    by : (b : Bool) → list_any p s ≡ b → (b ≡ true → p x ≡ false) → length (filter p s ++ filter p (x ∷ [])) ≤ 1
    by true e h = subst (λ (z : List A). length z ≤ 1) (sym (ap (λ (b : Bool). filter p s ++ cond b (x ∷ []) []) (h refl) ∙ append-nil (filter p s))) once
    by false e h = subst (λ (z : List A). length (z ++ filter p (x ∷ [])) ≤ 1) (sym (none_kept p s e)) (first (p x))

-- an item that passes the test only where it is the first
pub only_first : {A E : Type 0} (p : A → Bool) (stands b : Bool) (r : Result A E) → (stands ≡ true → b ≡ false) → IfOk r (λ i. p i ≡ b) → IfOk r (λ i. stands ≡ true → p i ≡ false)
only_first p stands b (Ok i) h is = λ e. is ∙ h e
only_first p stands b (Err x) h is = tt

-- items of a view, at most one of which is contents
abbrev pub AreViewItems : List ViewItem → Type 0
AreViewItems is = AllByRecursion IsViewItem is × (length (filter is_contents is) ≤ 1)

pub filled_more : (s : List ViewItem) (x : ViewItem) → has_contents (s ++ x ∷ []) ≡ (has_contents s || is_contents x)
unfolding has_contents
filled_more s x = any_more is_contents s x

pub none_filled : has_contents [] ≡ false
unfolding has_contents
none_filled = refl

pub filled_once : (s : List ViewItem) (x : ViewItem) (filled : Bool) → filled ≡ has_contents s → (filled ≡ true → is_contents x ≡ false) → length (filter is_contents s) ≤ 1 → length (filter is_contents (s ++ x ∷ [])) ≤ 1
unfolding has_contents
filled_once s x filled same free once = once_more is_contents s x (λ e. free (same ∙ e)) once

-- the keyword of contents is not allowed again
pub no_more_contents : (filled : Bool) (q : Keyword) → has (view_keywords filled) q ≡ true → filled ≡ true → same_keyword q k.Contents ≡ false
unfolding has view_keywords
no_more_contents filled q may e = by (same_keyword q k.Contents) refl
  where
    by : (b : Bool) → same_keyword q k.Contents ≡ b → b ≡ false
    by false h = refl
    by true h = let again : has (view_keywords true) k.Contents ≡ true = subst (λ r. has (view_keywords true) r ≡ true) (spelled_alike q k.Contents h) (subst (λ f. has (view_keywords f) q ≡ true) e may) in absurd cc

-- items of a cell, at most one of which is a view
abbrev pub AreCellItems : List CellItem → Type 0
AreCellItems is = AllByRecursion IsCellItem is × (length (filter is_view is) ≤ 1)

pub viewed_more : (s : List CellItem) (x : CellItem) → has_view (s ++ x ∷ []) ≡ (has_view s || is_view x)
unfolding has_view
viewed_more s x = any_more is_view s x

pub none_viewed : has_view [] ≡ false
unfolding has_view
none_viewed = refl

pub viewed_once : (s : List CellItem) (x : CellItem) (viewed : Bool) → viewed ≡ has_view s → (viewed ≡ true → is_view x ≡ false) → length (filter is_view s) ≤ 1 → length (filter is_view (s ++ x ∷ [])) ≤ 1
unfolding has_view
viewed_once s x viewed same free once = once_more is_view s x (λ e. free (same ∙ e)) once

-- the keyword of a view is not allowed again
pub no_more_views : (viewed : Bool) (q : Keyword) → has (cell_keywords viewed) q ≡ true → viewed ≡ true → same_keyword q k.View ≡ false
unfolding has cell_keywords
no_more_views viewed q may e = by (same_keyword q k.View) refl
  where
    by : (b : Bool) → same_keyword q k.View ≡ b → b ≡ false
    by false h = refl
    by true h = let again : has (cell_keywords true) k.View ≡ true = subst (λ r. has (cell_keywords true) r ≡ true) (spelled_alike q k.View h) (subst (λ f. has (cell_keywords f) q ≡ true) e may) in absurd cc
