-- One more numbered thing.
use Rattle.std.proofs.Common.{◌≡◌, ℕ, zero-add, ◌+◌, ◌<◌, List, [], ◌∷◌, ◌++◌, map, length, take, get_or, refl, sym, ap, ◌∙◌}
use Rattle.std.specs.Borrow.{Bor}
use Rattle.std.specs.List.{flat_map}
use Rattle.edif_lookup.proofs.ListLaws.{enumerate_more}
use Rattle.edif_design.specs.Parts.{numbered}
use Rattle.edif_rules.specs.Lists.{seen}
use Rattle.edif_rules.proofs.TableTurns.{seen_at, seen_within}
use Rattle.edif_rules.proofs.Turns.{flat_grows, map_grows}
use Rattle.std.proofs.lemmas.List.{take-map}

module _ {A : Type 0} (items : List (Bor A)) (i : ℕ) (x : Bor A) (within : i < length items) (at : x ≡ get_or items i x) where
  numbered_more : numbered (seen (take (i + 1) items)) ≡ numbered (seen (take i items)) ++ (i, x.now) ∷ []
  numbered_more =
      ap numbered (sym (take-map (λ r. r.now) (i + 1) items))
      ∙ (enumerate_more 0 (seen items) i x.now (seen_within items i x within at)
      ∙ (λ j. numbered (take-map (λ r. r.now) i items j) ++ (zero-add i j, seen_at items i x within at j) ∷ []))

  pub map_numbered : {B : Type 0} (f : (ℕ × A) → B) (old new : List B) (y : B) → old ≡ map f (numbered (seen (take i items))) → new ≡ old ++ y ∷ [] → y ≡ f (i, x.now) → new ≡ map f (numbered (seen (take (i + 1) items)))
  map_numbered f old new y is_old is_new is_y =
      is_new ∙ ((λ j. is_old j ++ is_y j ∷ []) ∙ (sym (map_grows f (numbered (seen (take i items))) (i, x.now)) ∙ ap (map f) (sym numbered_more)))

  pub flat_numbered : {B : Type 0} (f : (ℕ × A) → List B) (old new : List B) → old ≡ flat_map f (numbered (seen (take i items))) → new ≡ old ++ f (i, x.now) → new ≡ flat_map f (numbered (seen (take (i + 1) items)))
  flat_numbered f old new is_old is_new =
      is_new ∙ (ap (λ l. l ++ f (i, x.now)) is_old ∙ (sym (flat_grows f (numbered (seen (take i items))) (i, x.now)) ∙ ap (flat_map f) (sym numbered_more)))
