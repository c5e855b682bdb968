-- Tests of each item of a list.
use Rattle.std.proofs.Common.{◌≡◌, ℕ, zero, suc, ◌+◌, ◌<◌, ◌≤◌, ◌⊎◌, inl, inr, Bool, true, false, not, ◌||◌, List, [], ◌∷◌, ◌++◌, length, map, take, get_or, slice_get, Some, refl, sym, ◌∙◌, ap, subst, arith, option_map}
use Rattle.std.specs.Prelude.{◌↔◌, IsTrue}
use Rattle.std.specs.Borrow.{Bor}
use Rattle.std.specs.List.{list_any}
use Rattle.std.specs.Str.{bytes_eq}
use Rattle.std.proofs.lemmas.List.{length-map, map-append, take_more}
use Rattle.std.proofs.lemmas.Option.{slice_get-map, slice_get_within, slice_get_read}
use Rattle.std.proofs.lemmas.Slice.Eq.{bytes_eq-Decides}
use Rattle.net_graph.proofs.ListLaws.{element_there, same_element}
use Rattle.net_hier.specs.Valid.{Each, HaveOwnNames}

pub lt_or_is : (a b : ℕ) → a < b + 1 → (a < b) ⊎ (a ≡ b)
lt_or_is a b h = grind arith

-- the fact holds of the items before a place
pub record HoldsBefore {A : Type 0} (Holds : A → Type 0) (items : List A) (i : ℕ) : Type 0 where
  pub before : (place : ℕ) (item : A) → place < i → slice_get items place ≡ Some item → Holds item

pub holds_first : {A : Type 0} (Holds : A → Type 0) (items : List A) → HoldsBefore Holds items 0
holds_first Holds items = record { before = λ place item lt e. absurd (omega arith) }

pub holds_more : {A : Type 0} (Holds : A → Type 0) (items : List A) (i : ℕ) (x : A) → HoldsBefore Holds items i → i < length items → x ≡ get_or items i x → Holds x → HoldsBefore Holds items (i + 1)
holds_more Holds items i x h lt is here = record {
  before = λ place item plt e. elim (lt_or_is place i plt) [
    | inl p ↦ h.before place item p e
    | inr p ↦ (let f : x ≡ item = same_element items i x item (slice_get_read items (length items) i x refl lt is) (subst (λ m. slice_get items m ≡ Some item) p e) in subst Holds f here)
  ];
}

pub holds_all : {A : Type 0} (Holds : A → Type 0) (items : List A) (i : ℕ) → HoldsBefore Holds items i → length items ≤ i → Each Holds items
holds_all Holds items i h le place item e = h.before place item (omega (arith, slice_get_within items place item e)) e

pub holds_not : {A : Type 0} (Holds : A → Type 0) (items : List A) (i : ℕ) (x : A) → i < length items → x ≡ get_or items i x → ¬ Holds x → ¬ Each Holds items
holds_not Holds items i x lt is none each = none (each i x (slice_get_read items (length items) i x refl lt is))

-- the names of the items before a place differ, and are kept
pub record NamesBefore {A : Type 0} (name : A → List ℕ) (items : List A) (i : ℕ) (names : List (List ℕ)) : Type 0 where
  pub are : names ≡ map name (take i items)
  pub own : (place oplace : ℕ) (item oitem : A) → place < i → oplace < i → slice_get items place ≡ Some item → slice_get items oplace ≡ Some oitem → name item ≡ name oitem → place ≡ oplace

take_get : {A : Type 0} (xs : List A) (i place : ℕ) (x : A) → place < i → slice_get xs place ≡ Some x → slice_get (take i xs) place ≡ Some x
take_get [] i place x lt e = absurd (cc)
take_get (y ∷ xs) zero place x lt e = absurd (omega arith)
take_get (y ∷ xs) (suc i) zero x lt e = e
take_get (y ∷ xs) (suc i) (suc place) x lt e = take_get xs i place x (omega arith) e

take_within : {A : Type 0} (xs : List A) (i place : ℕ) (x : A) → slice_get (take i xs) place ≡ Some x → (place < i) × (slice_get xs place ≡ Some x)
take_within [] zero place x e = absurd (cc)
take_within [] (suc i) place x e = absurd (cc)
take_within (y ∷ xs) zero place x e = absurd (cc)
take_within (y ∷ xs) (suc i) zero x e = (omega arith, e)
take_within (y ∷ xs) (suc i) (suc place) x e = (let r : (place < i) × (slice_get xs place ≡ Some x) = take_within xs i place x e in (omega (arith, r.0), r.1))

module _ {A : Type 0} (name : A → List ℕ) (items : List A) where
  kept_name : (i place : ℕ) (names : List (List ℕ)) (item : A) → names ≡ map name (take i items) → place < i → slice_get items place ≡ Some item → slice_get names place ≡ Some (name item)
  kept_name i place names item are lt e =
      subst (λ ns. slice_get ns place ≡ Some (name item)) (sym are) (slice_get-map name (take i items) place ∙ ap (option_map name) (take_get items i place item lt e))

  pub names_first : NamesBefore name items 0 []
  names_first = record { are = refl; own = λ place oplace item oitem lt olt e oe same. absurd (omega arith) }

  pub names_more : (i : ℕ) (x : A) (names new : List (List ℕ)) → NamesBefore name items i names → i < length items → x ≡ get_or items i x → ((place : ℕ) → ¬ (slice_get names place ≡ Some (name x))) → new ≡ names ++ name x ∷ [] →
      NamesBefore name items (i + 1) new
  names_more i x names new h lt is fresh added =
      let there : slice_get items i ≡ Some x = slice_get_read items (length items) i x refl lt is in
      let clash : (place : ℕ) (item other : A) → place < i → slice_get items place ≡ Some item → slice_get items i ≡ Some other → ¬ (name item ≡ name other) = λ place item other plt e oe same.
      (let f : other ≡ x = same_element items i other x oe there in fresh place (kept_name i place names item h.are plt e ∙ ap Some (same ∙ ap name f))) in
      record {
        are = added ∙ (ap (λ ns. ns ++ name x ∷ []) h.are ∙ (sym (map-append name (take i items) (x ∷ [])) ∙ ap (map name) (ap (λ y. take i items ++ y ∷ []) is ∙ sym (take_more items i x lt))));
        own = λ place oplace item oitem plt olt e oe same. elim (lt_or_is place i plt) [
          | inl p ↦ elim (lt_or_is oplace i olt) [
            | inl q ↦ h.own place oplace item oitem p q e oe same
            | inr q ↦ absurd (clash place item oitem p e (subst (λ m. slice_get items m ≡ Some oitem) q oe) same)
          ]
          | inr p ↦ elim (lt_or_is oplace i olt) [
            | inl q ↦ absurd (clash oplace oitem item q oe (subst (λ m. slice_get items m ≡ Some item) p e) (sym same))
            | inr q ↦ p ∙ sym q
          ]
        ];
      }

  pub names_all : (i : ℕ) (names : List (List ℕ)) → NamesBefore name items i names → length items ≤ i → HaveOwnNames name items
  names_all i names h le place oplace item oitem e oe same =
      h.own place oplace item oitem (omega (arith, slice_get_within items place item e)) (omega (arith, slice_get_within items oplace oitem oe)) e oe same

  pub names_not : (i : ℕ) (x : A) (names : List (List ℕ)) → NamesBefore name items i names → i < length items → x ≡ get_or items i x → ¬ ((place : ℕ) → ¬ (slice_get names place ≡ Some (name x))) → ¬ HaveOwnNames name items
  names_not i x names h lt is known own = known (λ place e.
      let there : slice_get items i ≡ Some x = slice_get_read items (length items) i x refl lt is in
      let e' : slice_get (map name (take i items)) place ≡ Some (name x) = subst (λ ns. slice_get ns place ≡ Some (name x)) h.are e in
      let plt : place < length (take i items) = subst (λ n. place < n) (length-map (take i items) name) (slice_get_within (map name (take i items)) place (name x) e') in
      let (y, ythere) = element_there (take i items) place plt in
      let (lti, yitem) = take_within items i place y ythere in
      let same : name y ≡ name x = same_element (map name (take i items)) place (name y) (name x) (slice_get-map name (take i items) place ∙ ap (option_map name) ythere) e' in
      let p : place ≡ i = own place i y x yitem there same in
      omega (arith, lti, p))

or_true : (a b : Bool) → b ≡ true → (a || b) ≡ true
or_true true b h = refl
or_true false b h = h

is_false : (b : Bool) → ¬ (b ≡ true) → b ≡ false
is_false true h = absurd (h refl)
is_false false h = refl

-- a name that is fresh in a set of names
abbrev texts : List (Bor (List ℕ)) → List (List ℕ)
texts = map (λ key. key.now)

any_place_by : (keys : List (Bor (List ℕ))) (name : List ℕ) (key : Bor (List ℕ)) → (list_any (λ k. bytes_eq name k.now) keys ≡ true → (place : ℕ) × (slice_get (texts keys) place ≡ Some name)) →
    (b : Bool) → bytes_eq name key.now ≡ b → (b || list_any (λ k. bytes_eq name k.now) keys) ≡ true → (place : ℕ) × (slice_get (texts (key ∷ keys)) place ≡ Some name)
any_place_by keys name key later true e h = (0, ap Some (sym ((bytes_eq-Decides name key.now).0 e)))
any_place_by keys name key later false e h = (let r : (place : ℕ) × (slice_get (texts keys) place ≡ Some name) = later h in (suc r.0, r.1))

any_place : (keys : List (Bor (List ℕ))) (name : List ℕ) → list_any (λ key. bytes_eq name key.now) keys ≡ true → (place : ℕ) × (slice_get (texts keys) place ≡ Some name)
any_place [] name h = absurd (cc)
any_place (key ∷ keys) name h = any_place_by keys name key (any_place keys name) (bytes_eq name key.now) refl h

place_any : (keys : List (Bor (List ℕ))) (name : List ℕ) (place : ℕ) → slice_get (texts keys) place ≡ Some name → list_any (λ key. bytes_eq name key.now) keys ≡ true
place_any [] name place e = absurd (cc)
place_any (key ∷ keys) name zero e = let f : key.now ≡ name = cc in subst (λ b. (b || list_any (λ k. bytes_eq name k.now) keys) ≡ true) (sym ((bytes_eq-Decides name key.now).1 (sym f))) refl
place_any (key ∷ keys) name (suc place) e = or_true (bytes_eq name key.now) _ (place_any keys name place e)

pub fresh_is : (keys : List (Bor (List ℕ))) (name : List ℕ) (fresh : Bool) → fresh ≡ not (list_any (λ key. bytes_eq name key.now) keys) → IsTrue fresh ↔ ((place : ℕ) → ¬ (slice_get (texts keys) place ≡ Some name))
fresh_is keys name fresh is = (
  (λ h place e. let f : list_any (λ key. bytes_eq name key.now) keys ≡ true = place_any keys name place e in let g : true ≡ not true = sym h ∙ (is ∙ ap not f) in absurd (cc)),
  (λ none. is ∙ ap not (is_false (list_any (λ key. bytes_eq name key.now) keys) (λ f. let r : (place : ℕ) × (slice_get (texts keys) place ≡ Some name) = any_place keys name f in none r.0 r.1))),
)
