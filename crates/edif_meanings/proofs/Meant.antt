-- Among definitions whose identifiers differ up to case, the identifier of one means that one.
use Rattle.std.proofs.Common.{◌≡◌, ℕ, zero, suc, Bool, true, false, cond, List, [], ◌∷◌, Some, filter, map, refl, sym, ap, ◌∙◌, subst}
use Rattle.std.specs.Prelude.{slice_get, option_map}
use Rattle.std.proofs.lemmas.Bool.{false≢true}
use Rattle.std.proofs.lemmas.Option.{slice_get-map}
use Rattle.nl_base.specs.Case.{same_bytes, same_up_to_case}
use Rattle.edif_lookup.specs.Candidates.{candidates, first_or_all}
use Rattle.edif_meanings.specs.Apart.{AreApart, is_alike_any}
use Rattle.edif_meanings.proofs.ApartLaws.{alike_back, none_at, or_left, or_right, same_is_alike, same_itself}

module _ {A : Type 0} (name : A → List ℕ) where
  no_same : (a b : List ℕ) → same_up_to_case b a ≡ false → same_bytes a b ≡ false
  no_same a b h = by (same_bytes a b) refl
    where
      by : (t : Bool) → same_bytes a b ≡ t → t ≡ false
      by true e = absurd (false≢true (sym (alike_back b a h) ∙ same_is_alike a b e))
      by false e = refl

  none_same : (spelling : List ℕ) (definitions : List A) → is_alike_any spelling (map name definitions) ≡ false → filter (λ d. same_bytes (name d) spelling) definitions ≡ []
  none_same spelling [] h = refl
  none_same spelling (d ∷ ds) h = by (same_bytes (name d) spelling) (no_same (name d) spelling (or_left (same_up_to_case spelling (name d)) (is_alike_any spelling (map name ds)) h)) (none_same spelling ds (or_right (same_up_to_case spelling (name d)) (is_alike_any spelling (map name ds)) h))
    where
      by : (t : Bool) → t ≡ false → filter (λ e. same_bytes (name e) spelling) ds ≡ [] → cond t (d ∷ filter (λ e. same_bytes (name e) spelling) ds) (filter (λ e. same_bytes (name e) spelling) ds) ≡ []
      by true e rest = absurd (false≢true (sym e))
      by false e rest = rest

  filter_first : (p : A → Bool) (d : A) (ds : List A) → p d ≡ true → filter p ds ≡ [] → filter p (d ∷ ds) ≡ d ∷ []
  filter_first p d ds t none = by (p d) t
    where
      by : (b : Bool) → b ≡ true → cond b (d ∷ filter p ds) (filter p ds) ≡ d ∷ []
      by true e = ap (λ l. d ∷ l) none
      by false e = absurd (false≢true e)

  filter_later : (p : A → Bool) (d : A) (ds : List A) → p d ≡ false → filter p (d ∷ ds) ≡ filter p ds
  filter_later p d ds t = by (p d) t
    where
      by : (b : Bool) → b ≡ false → cond b (d ∷ filter p ds) (filter p ds) ≡ filter p ds
      by true e = absurd (false≢true (sym e))
      by false e = refl

  -- the definition at a place is the only one spelled alike
  pub only_same : (definitions : List A) (i : ℕ) (x : A) → slice_get definitions i ≡ Some x → AreApart (map name definitions) → filter (λ d. same_bytes (name d) (name x)) definitions ≡ x ∷ []
  unfolding AreApart
  only_same [] i x there apart = absurd cc
  only_same (d ∷ ds) zero x there apart =
      let e : d ≡ x = cc in
      subst (λ y. filter (λ d. same_bytes (name d) (name y)) (d ∷ ds) ≡ y ∷ []) e
      (filter_first (λ o. same_bytes (name o) (name d)) d ds (same_itself (name d)) (none_same (name d) ds apart.0))
  only_same (d ∷ ds) (suc i) x there apart =
      filter_later (λ o. same_bytes (name o) (name x)) d ds (no_same (name d) (name x) (alike_back (name d) (name x) (none_at (same_up_to_case (name d)) (map name ds) i (name x) apart.0 (slice_get-map name ds i ∙ ap (option_map name) there))))
      ∙ only_same ds i x there apart.1

first_of_one : {X : Type 0} (x : X) (same alike : List X) → same ≡ x ∷ [] → first_or_all same alike ≡ x ∷ []
first_of_one x same alike e = ap (λ l. first_or_all l alike) e

-- the identifier of a definition has that one candidate
pub candidates_of : {A : Type 0} (name : A → List ℕ) (definitions : List (ℕ × A)) (i : ℕ) (x : ℕ × A) → slice_get definitions i ≡ Some x → AreApart (map (λ d. name d.1) definitions) → candidates name definitions (name x.1) ≡ x ∷ []
candidates_of name definitions i x there apart =
    first_of_one x (filter (λ d. same_bytes (name d.1) (name x.1)) definitions) (filter (λ d. same_up_to_case (name d.1) (name x.1)) definitions) (only_same (λ d. name d.1) definitions i x there apart)
