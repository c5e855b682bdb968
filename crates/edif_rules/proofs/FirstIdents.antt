-- An identifier means the first definition with it, and where nothing is renamed, original names are identifiers.
use Rattle.std.proofs.Common.{◌≡◌, ℕ, suc, ◌+◌, Bool, true, false, cond, not, ◌||◌, List, [], ◌∷◌, ◌++◌, map, length, filter, Option, Some, None, refl, sym, ap, ◌∙◌, arith}
use Rattle.std.specs.Prelude.{◌==◌, is_some}
use Rattle.std.specs.Borrow.{Bor}
use Rattle.std.specs.List.{enumerate_from, list_any}
use Rattle.std.proofs.lemmas.Bool.{false≢true}
use Rattle.std.proofs.lemmas.Bool.Decides.{Decides-eqb}
use Rattle.std.proofs.lemmas.Slice.Eq.{bytes_eq-Decides}
use Rattle.nl_base.specs.Case.{same_bytes}
use Rattle.edif_lookup.specs.Candidates.{first_or_all}
use Rattle.edif_lookup.specs.Refusals.{is_in}
use Rattle.edif_lookup.specs.Tables.{meant_by}
use Rattle.edif_values.specs.declared.instance.Instance.{Instance}
use Rattle.edif_values.specs.Names.{renamed_as}
use Rattle.edif_rules.specs.Idents.{instance_ident}
use Rattle.edif_rules.specs.Lists.{seen}
use Rattle.edif_rules.specs.Walks.{instance_original, is_renamed, means_other}

same_as_itself : (s : List ℕ) → same_bytes s s ≡ true
same_as_itself s = (bytes_eq-Decides s s).1 refl

same_other_way : (s t : List ℕ) → same_bytes s t ≡ same_bytes t s
same_other_way s t = by (same_bytes s t) (same_bytes t s) refl refl
  where
    by : (a b : Bool) → same_bytes s t ≡ a → same_bytes t s ≡ b → a ≡ b
    by true true f g = refl
    by false false f g = refl
    by true false f g = sym (sym g ∙ (bytes_eq-Decides t s).1 (sym ((bytes_eq-Decides s t).0 f)))
    by false true f g = sym f ∙ (bytes_eq-Decides s t).1 (sym ((bytes_eq-Decides t s).0 g))

own_number : (n : ℕ) → (n == n) ≡ true
own_number n = (Decides-eqb n n).1 refl

-- an earlier number is another one
earlier_number : (n m : ℕ) → (n == n + suc m) ≡ false
earlier_number n m = by (n == n + suc m) refl
  where
    by : (b : Bool) → (n == n + suc m) ≡ b → b ≡ false
    by false e = refl
    by true e = let same : n ≡ n + suc m = (Decides-eqb n (n + suc m)).0 e in absurd (omega (arith, same))

-- what the name of a definition means is another one where one before it has the name
pub other_where_before : {A : Type 0} (name : A → List ℕ) (before after : List A) (x : A) (n : ℕ) (alike : List (ℕ × A))
    → means_other (n + length before) (meant_by (first_or_all (filter (λ d. same_bytes (name d.1) (name x)) (enumerate_from n (before ++ x ∷ after))) alike)) ≡ is_in (name x) (map name before)
other_where_before {A = A} name [] after x n alike = by (same_bytes (name x) (name x)) (same_as_itself (name x))
  where
    rest : List (ℕ × A)
    rest = filter (λ d. same_bytes (name d.1) (name x)) (enumerate_from (n + 1) after)

    by : (b : Bool) → b ≡ true → means_other (n + 0) (meant_by (first_or_all (cond b ((n, x) ∷ rest) rest) alike)) ≡ false
    by true e = let zero_more : n + 0 ≡ n = omega arith in ap (λ m. not (n == m)) zero_more ∙ ap not (own_number n)
    by false e = absurd (false≢true e)
other_where_before {A = A} name (y ∷ before) after x n alike =
    by (same_bytes (name y) (name x)) (same_other_way (name x) (name y)) (other_where_before name before after x (n + 1) alike)
  where
    rest : List (ℕ × A)
    rest = filter (λ d. same_bytes (name d.1) (name x)) (enumerate_from (n + 1) (before ++ x ∷ after))

    by : (b : Bool) → same_bytes (name x) (name y) ≡ b → means_other ((n + 1) + length before) (meant_by (first_or_all rest alike)) ≡ is_in (name x) (map name before)
        → means_other (n + suc (length before)) (meant_by (first_or_all (cond b ((n, y) ∷ rest) rest) alike)) ≡ (same_bytes (name x) (name y) || is_in (name x) (map name before))
    by true e later = ap not (earlier_number n (length before)) ∙ ap (λ b. b || is_in (name x) (map name before)) (sym e)
    by false e later =
        let more : n + suc (length before) ≡ (n + 1) + length before = omega arith in
        ap (λ m. means_other m (meant_by (first_or_all rest alike))) more ∙ (later ∙ ap (λ b. b || is_in (name x) (map name before)) (sym e))

or_left : (a b : Bool) → (a || b) ≡ false → a ≡ false
or_left true b h = h
or_left false b h = refl

or_right : (a b : Bool) → (a || b) ≡ false → b ≡ false
or_right true b h = absurd (false≢true (sym h))
or_right false b h = h

-- the original name of an instance that is not renamed is its identifier
plain_name : (instance : Instance) → is_renamed instance ≡ false → instance_original instance ≡ instance_ident instance
plain_name instance h = by instance.name.text h
  where
    by : (text : Option (List ℕ)) → is_some text ≡ false → renamed_as text instance.name.ident ≡ instance.name.ident
    by None e = refl
    by (Some text) e = absurd (false≢true (sym e))

-- where no instance is renamed, one before has the original name of this one where one has its identifier
pub plain_names : (before after : List Instance) (x : Instance) → list_any is_renamed (before ++ x ∷ after) ≡ false → is_in (instance_ident x) (map instance_ident before) ≡ is_in (instance_original x) (map instance_original before)
plain_names before after x h = λ j. is_in (sym (own before h) j) (sym (others before h) j)
  where
    own : (xs : List Instance) → list_any is_renamed (xs ++ x ∷ after) ≡ false → instance_original x ≡ instance_ident x
    own [] e = plain_name x (or_left (is_renamed x) (list_any is_renamed after) e)
    own (y ∷ xs) e = own xs (or_right (is_renamed y) (list_any is_renamed (xs ++ x ∷ after)) e)

    others : (xs : List Instance) → list_any is_renamed (xs ++ x ∷ after) ≡ false → map instance_original xs ≡ map instance_ident xs
    others [] e = refl
    others (y ∷ xs) e =
        λ j. plain_name y (or_left (is_renamed y) (list_any is_renamed (xs ++ x ∷ after)) e) j ∷ others xs (or_right (is_renamed y) (list_any is_renamed (xs ++ x ∷ after)) e) j

-- one of the things that references lead to passes a test where one of the references leads to it
pub any_seen : {A : Type 0} (test : A → Bool) (items : List (Bor A)) → list_any (λ reference. test reference.now) items ≡ list_any test (seen items)
any_seen test [] = refl
any_seen test (item ∷ items) = ap (λ b. test item.now || b) (any_seen test items)
