-- Looking up values under names, and adding one.
use Rattle.std.proofs.Common.{◌≡◌, ℕ, suc, ◌+◌, ◌<◌, Bool, true, false, not, cond, List, [], ◌∷◌, ◌++◌, Option, None, Some, Vec, Global, bytes_eq, length, nat_lt, refl, sym, ap, subst, ◌∙◌, append-nil, arith, if◌then◌else◌}
use Rattle.std.specs.Prelude.{position}
use Rattle.std.specs.Borrow.{Bor}
use Rattle.std.specs.List.{position_or_len}
use Rattle.std.specs.Map.{keys_of, lookup}
use Rattle.std.proofs.lemmas.Bool.{ltb-true, false≢true}
use Rattle.std.proofs.lemmas.List.{length-map}
use Rattle.std.proofs.lemmas.Slice.Eq.{bytes_eq-Decides}
use Rattle.indexmap.specs.Layout.{set_value_at}
use Rattle.vlog_cells.specs.Groups.{groups_of, under}

abbrev Entries : Type 0 → Type 0
Entries A = List (Bor (List ℕ) × Vec A Global)

abbrev IsTestOf : List ℕ → (Bor (List ℕ) → Bool) → Type 0
IsTestOf name test = (k : Bor (List ℕ)) → test k ≡ bytes_eq name k.now

abbrev items_of : {A : Type 0} → Option (Vec A Global) → List A
items_of None = []
items_of (Some list) = list.items

not_both : (name key other : List ℕ) → bytes_eq name other ≡ false → bytes_eq key other ≡ true → bytes_eq key name ≡ false
not_both name key other apart h = by (bytes_eq key name) refl
  where
    by : (b : Bool) → bytes_eq key name ≡ b → b ≡ false
    by false e = refl
    by true e = absurd (false≢true (sym apart ∙ (ap (λ k. bytes_eq k other) (sym ((bytes_eq-Decides key name).0 e)) ∙ h)))

place_is : (n size at : ℕ) → cond (nat_lt n size) (Some n) None ≡ Some at → (n ≡ at) × (n < size)
place_is n size at e = by (nat_lt n size) refl e
  where
    by : (b : Bool) → nat_lt n size ≡ b → cond b (Some n) None ≡ Some at → (n ≡ at) × (n < size)
    by true t h = (cc, ltb-true n size t)
    by false t h = absurd cc

pub under_nothing : {A : Type 0} (entries : Entries A) (name : List ℕ) → length entries ≡ 0 → [] ≡ under (groups_of entries) name
unfolding under
under_nothing [] name e = refl
under_nothing (x ∷ xs) name e = absurd cc

module _ {A : Type 0} (name : List ℕ) (test : Bor (List ℕ) → Bool) (same : IsTestOf name test) where
  found_under : (entries : Entries A) → items_of (lookup test entries) ≡ under (groups_of entries) name
  unfolding under
  found_under [] = refl
  found_under (e ∷ es) = rw (same e.0) (by (bytes_eq name e.0.now) (found_under es))
    where
      by : (b : Bool) → items_of (lookup test es) ≡ under (groups_of es) name → items_of (cond b (Some e.1) (lookup test es)) ≡ cond b e.1.items (under (groups_of es) name)
      by true h = refl
      by false h = h

  pub under_none : (entries : Entries A) → lookup test entries ≡ None → [] ≡ under (groups_of entries) name
  under_none entries h = ap items_of (sym h) ∙ found_under entries

  pub under_some : (entries : Entries A) (list : Vec A Global) → lookup test entries ≡ Some list → list.items ≡ under (groups_of entries) name
  under_some entries list h = ap items_of (sym h) ∙ found_under entries

  abbrev or_here : List ℕ → A → List A
  or_here key x = if bytes_eq key name then x ∷ [] else []

  -- one more value in the list at the place of the name
  module _ (x : A) (w : Vec A Global) (key : List ℕ) where
    set_under : (entries : Entries A) → position_or_len test (keys_of entries) < length entries → w.items ≡ under (groups_of entries) name ++ x ∷ [] →
        under (groups_of (set_value_at entries (position_or_len test (keys_of entries)) w)) key ≡ under (groups_of entries) key ++ or_here key x
    unfolding under
    set_under [] within more = absurd (omega (arith, within))
    set_under (e ∷ es) within more = by (set_under es) (test e.0) (same e.0) (bytes_eq name e.0.now) refl within more
      where
        n : ℕ
        n = position_or_len test (keys_of es)

        here : name ≡ e.0.now → w.items ≡ e.1.items ++ x ∷ [] → (c : Bool) → bytes_eq key name ≡ c → cond c w.items (under (groups_of es) key) ≡ cond c e.1.items (under (groups_of es) key) ++ (if c then x ∷ [] else [])
        here is more true h = more
        here is more false h = sym (append-nil (under (groups_of es) key))

        there : bytes_eq name e.0.now ≡ false → under (groups_of (set_value_at es n w)) key ≡ under (groups_of es) key ++ or_here key x → (c : Bool) → bytes_eq key e.0.now ≡ c →
            cond c e.1.items (under (groups_of (set_value_at es n w)) key) ≡ cond c e.1.items (under (groups_of es) key) ++ or_here key x
        there apart next true h = sym (append-nil e.1.items) ∙ ap (λ c. e.1.items ++ (if c then x ∷ [] else [])) (sym (not_both name key e.0.now apart h))
        there apart next false h = next

        by : (n < length es → w.items ≡ under (groups_of es) name ++ x ∷ [] → under (groups_of (set_value_at es n w)) key ≡ under (groups_of es) key ++ or_here key x) →
            (t : Bool) → t ≡ bytes_eq name e.0.now → (b : Bool) → bytes_eq name e.0.now ≡ b → cond (not t) (1 + n) 0 < suc (length es) → w.items ≡ cond b e.1.items (under (groups_of es) name) ++ x ∷ [] →
            under (groups_of (set_value_at (e ∷ es) (cond (not t) (1 + n) 0) w)) key ≡ cond (bytes_eq key e.0.now) e.1.items (under (groups_of es) key) ++ or_here key x
        by next true t true b within more =
            let is : name ≡ e.0.now = (bytes_eq-Decides name e.0.now).0 b in
            subst (λ other. cond (bytes_eq key other) w.items (under (groups_of es) key) ≡ cond (bytes_eq key other) e.1.items (under (groups_of es) key) ++ or_here key x) is (here is more (bytes_eq key name) refl)
        by next false t false b within more =
            let e1 : suc n ≡ 1 + n = omega arith in
            subst (λ k. under (groups_of (set_value_at (e ∷ es) k w)) key ≡ cond (bytes_eq key e.0.now) e.1.items (under (groups_of es) key) ++ or_here key x) e1 (there b (next (omega (arith, within)) more) (bytes_eq key e.0.now) refl)
        by next true t false b within more = absurd (false≢true (sym (t ∙ b)))
        by next false t true b within more = absurd (false≢true (t ∙ b))

  -- the value is added to those under the name
  pub under_more : (entries : Entries A) (at : ℕ) (x : A) (w : Vec A Global) → position test (keys_of entries) ≡ Some at → w.items ≡ under (groups_of entries) name ++ x ∷ [] →
      (key : List ℕ) → under (groups_of (set_value_at entries at w)) key ≡ under (groups_of entries) key ++ or_here key x
  under_more entries at x w place more key =
      let is = place_is (position_or_len test (keys_of entries)) (length (keys_of entries)) at place in
      subst (λ k. under (groups_of (set_value_at entries k w)) key ≡ under (groups_of entries) key ++ or_here key x) is.0 (set_under x w key entries (omega (arith, is.1, length-map entries (λ e. e.0))) more)

  -- the value is the first under the name
  pub under_new : (entries : Entries A) (k : Bor (List ℕ)) (x : A) (w : Vec A Global) → k.now ≡ name → lookup test entries ≡ None → w.items ≡ x ∷ [] →
      (key : List ℕ) → under (groups_of (entries ++ (k, w) ∷ [])) key ≡ under (groups_of entries) key ++ or_here key x
  unfolding under
  under_new [] k x w is none first key = ap (λ n. cond (bytes_eq key n) w.items []) is ∙ ap (λ l. cond (bytes_eq key name) l []) first
  under_new (e ∷ es) k x w is none first key = by (λ h. under_new es k x w is h first key) (test e.0) (same e.0) none
    where
      there : bytes_eq name e.0.now ≡ false → under (groups_of (es ++ (k, w) ∷ [])) key ≡ under (groups_of es) key ++ or_here key x → (c : Bool) → bytes_eq key e.0.now ≡ c →
          cond c e.1.items (under (groups_of (es ++ (k, w) ∷ [])) key) ≡ cond c e.1.items (under (groups_of es) key) ++ or_here key x
      there apart next true h = sym (append-nil e.1.items) ∙ ap (λ c. e.1.items ++ (if c then x ∷ [] else [])) (sym (not_both name key e.0.now apart h))
      there apart next false h = next

      by : (lookup test es ≡ None → under (groups_of (es ++ (k, w) ∷ [])) key ≡ under (groups_of es) key ++ or_here key x) → (t : Bool) → t ≡ bytes_eq name e.0.now → cond t (Some e.1) (lookup test es) ≡ None →
          cond (bytes_eq key e.0.now) e.1.items (under (groups_of (es ++ (k, w) ∷ [])) key) ≡ cond (bytes_eq key e.0.now) e.1.items (under (groups_of es) key) ++ or_here key x
      by next true t h = absurd cc
      by next false t h = there (sym t) (next h) (bytes_eq key e.0.now) refl
