-- Modules that are taken one after another, and what is known of each.
use Rattle.std.proofs.Common.{◌≡◌, ℕ, ◌<◌, List, [], ◌∷◌, ◌++◌, flat_map, get_or, length, slice_get, Some, sym, ap, ◌∙◌}
use Rattle.std.proofs.lemmas.Grind.{flat_map-append}
use Rattle.std.proofs.lemmas.List.{append-nil}
use Rattle.std.proofs.lemmas.Option.{slice_get-get_or}

-- what is taken stands at its place
pub taken_there : {A : Type 0} (xs : List A) (i : ℕ) (x : A) → (i < length xs) × (x ≡ get_or xs i x) → slice_get xs i ≡ Some x
taken_there xs i x h = slice_get-get_or xs i x h.0 ∙ ap Some (sym h.1)

-- the lists of one more item
pub flat_more : {A B : Type 0} (f : A → List B) (xs : List A) (x : A) (old new : List B) → old ≡ flat_map f xs → new ≡ old ++ f x → new ≡ flat_map f (xs ++ x ∷ [])
flat_more f xs x old new are more = more ∙ ((ap (λ l. l ++ f x) are ∙ ap (λ l. flat_map f xs ++ l) (sym (append-nil (f x)))) ∙ sym (flat_map-append f xs (x ∷ [])))
