-- The spots under digests, where one is added.
use Rattle.std.proofs.Common.{◌≡◌, ℕ, zero, suc, Bool, true, false, cond, List, [], ◌∷◌, ◌++◌, Option, None, Some, Vec, Global, nat_eq, is_some, map, get_or, slice_get, refl, sym, ◌∙◌, ap, append-nil}
use Rattle.std.specs.Prelude.{position}
use Rattle.std.specs.Map.{keys_of}
use Rattle.std.proofs.lemmas.Bool.{eqb-true}
use Rattle.std.proofs.lemmas.Cmp.{nat_eq_equiv}
use Rattle.std.proofs.lemmas.List.Quantifiers.{position-Some}
use Rattle.indexmap.specs.IndexMap.{IndexMap, IsUnique, get, keys, values, with_value_at}
use Rattle.indexmap.proofs.CallerLemmas.{updates-with_value_at}
use Rattle.net_flatten_refusals.specs.Digests.{items_of, under}
use Rattle.net_flatten_refusals.specs.declared.digested.Digested.{Digested}

-- the list under the digest has one more spot, and the other lists are as before
pub under_added : (old new : Digested) (digest spot : ℕ) (list : Vec ℕ Global) → list.items ≡ items_of (get nat_eq old.lists digest) ++ spot ∷ [] →
    ((other : ℕ) → get nat_eq new.lists other ≡ cond (nat_eq digest other) (Some list) (get nat_eq old.lists other)) →
    (other : ℕ) → under new other ≡ under old other ++ cond (nat_eq digest other) (spot ∷ []) []
unfolding under
under_added old new digest spot list more updates other = ap items_of (updates other) ∙ by (nat_eq digest other) refl
  where
    by : (b : Bool) → nat_eq digest other ≡ b → items_of (cond b (Some list) (get nat_eq old.lists other)) ≡ items_of (get nat_eq old.lists other) ++ cond b (spot ∷ []) []
    by true e = more ∙ ap (λ k. items_of (get nat_eq old.lists k) ++ spot ∷ []) (eqb-true digest other e)
    by false e = sym (append-nil (items_of (get nat_eq old.lists other)))

-- no list has no items
pub no_items : (found : Option (Vec ℕ Global)) → is_some found ≡ false → [] ≡ items_of found
no_items None e = refl
no_items (Some list) e = absurd cc

-- the entry of a place: its value is the one that stands there
entry_at : {X : Type 0} (es : List (ℕ × X)) (i : ℕ) (v : X) → slice_get (map (λ e. e.1) es) i ≡ Some v → slice_get es i ≡ Some (get_or (keys_of es) i 0, v)
entry_at [] i v e = absurd cc
entry_at (x ∷ es) zero v e = let same : x.1 ≡ v = cc in ap (λ w. Some (x.0, w)) same
entry_at (x ∷ es) (suc i) v e = entry_at es i v e

-- the map with another list at the place of the digest
pub list_at : {S : Type 0} (map : IndexMap ℕ (Vec ℕ Global) S) (digest place : ℕ) (old list : Vec ℕ Global) → IsUnique nat_eq map → position (nat_eq digest) (keys map) ≡ Some place →
    slice_get (values map) place ≡ Some old → (other : ℕ) → get nat_eq (with_value_at map place list) other ≡ cond (nat_eq digest other) (Some list) (get nat_eq map other)
list_at map digest place old list unique at is other =
    let key : ℕ = get_or (keys map) place 0 in
    let there : slice_get map.entries place ≡ Some (key, old) = entry_at map.entries place old is in
    let same : digest ≡ key = eqb-true digest key (position-Some (nat_eq digest) (keys map) place 0 at).1 in
    (updates-with_value_at map place list nat_eq_equiv unique key old there).0 other ∙ ap (λ k. cond (nat_eq k other) (Some list) (get nat_eq map other)) (sym same)
