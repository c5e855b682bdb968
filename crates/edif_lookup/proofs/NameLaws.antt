-- One more name in a set of names.
use Rattle.std.proofs.Common.{◌≡◌, ℕ, ◌+◌, ◌<◌, take, length, get_or, Bool, true, false, cond, not, ◌||◌, List, [], ◌∷◌, ◌++◌, map, refl, sym, ap, ◌∙◌, subst}
use Rattle.std.specs.List.{list_any}
use Rattle.std.proofs.lemmas.List.{map-append, take_more}
use Rattle.std.proofs.lemmas.List.Folds.{list_any-append}
use Rattle.std.proofs.lemmas.Slice.Eq.{bytes_eq-Decides}
use Rattle.std.specs.Str.{bytes_eq}
use Rattle.indexmap.specs.IndexSet.{insert_key}
use Rattle.nl_base.specs.Case.{same_bytes}
use Rattle.edif_lookup.specs.Refusals.{is_in}
use Rattle.edif_lookup.specs.declared.keys.Name.{Name}

abbrev texts : List Name → List (List ℕ)
texts = map (λ key. key.bytes.now)

list_any_texts : (p : List ℕ → Bool) (keys : List Name) → list_any (λ key. p key.bytes.now) keys ≡ list_any p (texts keys)
list_any_texts p [] = refl
list_any_texts p (key ∷ keys) = ap (λ b. p key.bytes.now || b) (list_any_texts p keys)

not-not : (b : Bool) → not (not b) ≡ b
not-not true = refl
not-not false = refl

pub or_again : (a b : Bool) → (a ≡ true → b ≡ true) → b ≡ (a || b)
or_again true b h = h refl
or_again false b h = refl

pub or_comm : (a b : Bool) → (b || (a || false)) ≡ (a || b)
or_comm true true = refl
or_comm true false = refl
or_comm false true = refl
or_comm false false = refl

pub note_known : (keys : List Name) (name : List ℕ) (fresh : Bool) → fresh ≡ not (list_any (λ key. same_bytes name key.bytes.now) keys) → not fresh ≡ is_in name (texts keys)
note_known keys name fresh h = ap not h ∙ (not-not (list_any (λ key. same_bytes name key.bytes.now) keys) ∙ list_any_texts (same_bytes name) keys)

pub note_noted : (keys new : List Name) (name : Name) → new ≡ insert_key (λ x y. bytes_eq x.bytes.now y.bytes.now) keys name → (other : List ℕ) → is_in other (texts new) ≡ (same_bytes other name.bytes.now || is_in other (texts keys))
note_noted keys new name is_new other = ap (λ ks. is_in other (texts ks)) is_new ∙ by (list_any (λ key. bytes_eq name.bytes.now key.bytes.now) keys) refl
  where
    by : (b : Bool) → list_any (λ key. bytes_eq name.bytes.now key.bytes.now) keys ≡ b → is_in other (texts (cond b keys (keys ++ name ∷ []))) ≡ (same_bytes other name.bytes.now || is_in other (texts keys))
    by true h = or_again (same_bytes other name.bytes.now) (is_in other (texts keys)) (λ e. subst (λ s. is_in s (texts keys) ≡ true) (sym ((bytes_eq-Decides other name.bytes.now).0 e)) (sym (list_any_texts (same_bytes name.bytes.now) keys) ∙ h))
    by false h =
        ap (list_any (same_bytes other)) (map-append (λ key. key.bytes.now) keys (name ∷ []))
        ∙ (list_any-append (same_bytes other) (texts keys) (name.bytes.now ∷ []) ∙ or_comm (same_bytes other name.bytes.now) (is_in other (texts keys)))

-- one more name among those before
pub names_turn : {A : Type 0} (name : A → List ℕ) (items : List A) (i : ℕ) (d : A) → i < length items → (old new : List (List ℕ)) (noted : List ℕ) → noted ≡ name (get_or items i d)
    → ((other : List ℕ) → is_in other old ≡ is_in other (map name (take i items))) → ((other : List ℕ) → is_in other new ≡ (same_bytes other noted || is_in other old))
    → (other : List ℕ) → is_in other new ≡ is_in other (map name (take (i + 1) items))
names_turn name items i d within old new noted is_noted holds adds other =
    adds other
    ∙ ((λ j. same_bytes other (is_noted j) || holds other j)
    ∙ (sym (or_comm (same_bytes other (name (get_or items i d))) (is_in other (map name (take i items))))
    ∙ (sym (list_any-append (same_bytes other) (map name (take i items)) (name (get_or items i d) ∷ []))
    ∙ ap (is_in other) (sym (ap (map name) (take_more items i d within) ∙ map-append name (take i items) (get_or items i d ∷ []))))))
