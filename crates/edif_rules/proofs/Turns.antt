-- One more turn of a loop that gathers a list.
use Rattle.std.proofs.Common.{◌≡◌, ℕ, ◌+◌, ◌<◌, List, [], ◌∷◌, ◌++◌, map, length, take, get_or, Option, Some, None, refl, sym, ap, ◌∙◌, subst, append_assoc}
use Rattle.std.specs.Borrow.{Bor}
use Rattle.std.specs.List.{filter_map, flat_map, cons_option}
use Rattle.std.proofs.lemmas.Grind.{flat_map-append}
use Rattle.std.proofs.lemmas.List.{append-nil, map-append, take_more}
use Rattle.std.proofs.lemmas.List.Elements.{filter_map-append}
use Rattle.edif_rules.specs.Lists.{seen}
use Rattle.std.specs.Prelude.{option_to_list}

-- a function of lists that gives of one more item some more
module _ {A B : Type 0} (g : List A → List B) (h : A → List B) (grows : (xs : List A) (x : A) → g (xs ++ x ∷ []) ≡ g xs ++ h x) where
  -- one more turn, at an item of a list that was read
  pub turn : (items read : List A) → read ≡ items → (i : ℕ) (x : A) → i < length read → x ≡ get_or read i x → (start now new : List B) → now ≡ start ++ g (take i items) → new ≡ now ++ h x → new ≡ start ++ g (take (i + 1) items)
  turn items read same i x within at start now new is_now is_new =
      is_new ∙ (ap (λ l. l ++ h x) is_now
      ∙ (append_assoc start (g (take i items)) (h x)
      ∙ (ap (λ y. start ++ (g (take i items) ++ h y)) (at ∙ ap (λ xs. get_or xs i x) same)
      ∙ ap (λ l. start ++ l) (sym (ap g (take_more items i x (subst (λ xs. i < length xs) same within)) ∙ grows (take i items) (get_or items i x))))))

-- of one more item what it is, where it is something
pub filter_grows : {A B : Type 0} (f : A → Option B) (xs : List A) (x : A) → filter_map f (xs ++ x ∷ []) ≡ filter_map f xs ++ option_to_list (f x)
filter_grows f xs x = filter_map-append f xs (x ∷ []) ∙ ap (λ l. filter_map f xs ++ l) (by (f x))
  where
    by : {B : Type 0} (o : Option B) → cons_option o [] ≡ option_to_list o
    by None = refl
    by (Some y) = refl

-- of one more item a list
pub flat_grows : {A B : Type 0} (f : A → List B) (xs : List A) (x : A) → flat_map f (xs ++ x ∷ []) ≡ flat_map f xs ++ f x
flat_grows f xs x = flat_map-append f xs (x ∷ []) ∙ ap (λ l. flat_map f xs ++ l) (append-nil (f x))

-- a list of the parts of what items are
pub inner_grows : {A B C : Type 0} (f : A → Option B) (k : B → List C) (xs : List A) (x : A) → flat_map k (filter_map f (xs ++ x ∷ [])) ≡ flat_map k (filter_map f xs) ++ flat_map k (option_to_list (f x))
inner_grows f k xs x = ap (flat_map k) (filter_grows f xs x) ∙ flat_map-append k (filter_map f xs) (option_to_list (f x))

-- what some of the things in the lists are
pub some_grow : {A B C : Type 0} (f : B → Option C) (k : A → List B) (xs : List A) (x : A) → filter_map f (flat_map k (xs ++ x ∷ [])) ≡ filter_map f (flat_map k xs) ++ filter_map f (k x)
some_grow f k xs x = ap (filter_map f) (flat_grows k xs x) ∙ filter_map-append f (flat_map k xs) (k x)

-- what some of the things in the lists of the parts of what items are
pub some_inner_grow : {A B C D : Type 0} (f : C → Option D) (p : A → Option B) (k : B → List C) (xs : List A) (x : A)
    → filter_map f (flat_map k (filter_map p (xs ++ x ∷ []))) ≡ filter_map f (flat_map k (filter_map p xs)) ++ filter_map f (flat_map k (option_to_list (p x)))
some_inner_grow f p k xs x = ap (filter_map f) (inner_grows p k xs x) ∙ filter_map-append f (flat_map k (filter_map p xs)) (flat_map k (option_to_list (p x)))

-- what the things that references lead to are
pub seen_grows : {A B : Type 0} (f : A → Option B) (xs : List (Bor A)) (x : Bor A) → filter_map f (seen (xs ++ x ∷ [])) ≡ filter_map f (seen xs) ++ option_to_list (f x.now)
seen_grows f xs x = ap (filter_map f) (map-append (λ r. r.now) xs (x ∷ [])) ∙ filter_grows f (seen xs) x.now

-- of one more item one thing
pub map_grows : {A B : Type 0} (f : A → B) (xs : List A) (x : A) → map f (xs ++ x ∷ []) ≡ map f xs ++ f x ∷ []
map_grows f xs x = map-append f xs (x ∷ [])

-- of one more reference one thing
pub seen_map_grows : {A B : Type 0} (f : A → B) (xs : List (Bor A)) (x : Bor A) → map f (seen (xs ++ x ∷ [])) ≡ map f (seen xs) ++ f x.now ∷ []
seen_map_grows f xs x = ap (map f) (map-append (λ r. r.now) xs (x ∷ [])) ∙ map-append f (seen xs) (x.now ∷ [])
