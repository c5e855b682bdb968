-- Whatever the aliases, some word means nothing: there are more words of `z` and a number in letters than aliases.
use Rattle.std.proofs.Common.{arith, ◌^◌, pow-suc, subst, ◌≡◌, ◌∙◌, ◌⊎◌, inl, inr, sym, ap, refl, ℕ, zero, suc, ◌+◌, ◌*◌, ◌<◌, ◌≤◌, nat_eq, Bool, true, false, cond, Some, None, List, [], ◌∷◌, map, length}
use Rattle.std.proofs.lemmas.List.{length-map}
use Rattle.std.proofs.lemmas.Bool.{cases_order}
use Rattle.std.proofs.lemmas.Bool.Decides.{nat_tests}
use Rattle.std.proofs.Math.Nat.{pow-le-pow_right}
use Rattle.std.specs.List.{list_all}
use Rattle.nl_base.specs.Identifiers.{is_identifier, is_word_byte}
use Rattle.std.proofs.lemmas.Slice.Eq.{bytes_eq-Decides}
use Rattle.std.specs.List.{find}
use Rattle.std.specs.Prelude.{option_map}
use Rattle.nl_base.specs.Case.{small, same_bytes}
use Rattle.edif_values.specs.Keywords.{keyword_of}
use Rattle.edif_keywords.specs.Aliases.{Alias, alias_of, means}

-- ---- a number that is not in a list

abbrev holds : List ℕ → ℕ → Bool
holds [] n = false
holds (c ∷ cs) n = cond (nat_eq c n) true (holds cs n)

abbrev remove : ℕ → List ℕ → List ℕ
remove m [] = []
remove m (c ∷ cs) = cond (nat_eq c m) cs (c ∷ remove m cs)

length_remove : (m : ℕ) (cs : List ℕ) → holds cs m ≡ true → length cs ≡ length (remove m cs) + 1
length_remove m [] h = absurd cc
length_remove m (c ∷ cs) h = go (nat_eq c m) (length_remove m cs) h
  where
    go : (b : Bool) → (holds cs m ≡ true → length cs ≡ length (remove m cs) + 1) → cond b true (holds cs m) ≡ true → length (c ∷ cs) ≡ length (cond b cs (c ∷ remove m cs)) + 1
    go true later h = omega arith
    go false later h = let e = later h in omega arith

apart : (c m n : ℕ) → nat_eq c m ≡ true → nat_eq c n ≡ true → nat_eq m n ≡ false → ⊥
apart c m n p q d = grind (arith, nat_tests)

other : (m n : ℕ) → n < m → nat_eq m n ≡ false
other m n lt = grind (arith, nat_tests)

equal : (m n : ℕ) → m ≡ n → nat_eq m n ≡ true
equal m n e = grind (arith, nat_tests)

kept : (m n : ℕ) (cs : List ℕ) → nat_eq m n ≡ false → holds (remove m cs) n ≡ false → holds cs n ≡ false
kept m n [] d h = refl
kept m n (c ∷ cs) d h = go (nat_eq c m) refl (nat_eq c n) refl (kept m n cs d) h
  where
    go : (b : Bool) → nat_eq c m ≡ b → (e : Bool) → nat_eq c n ≡ e → (holds (remove m cs) n ≡ false → holds cs n ≡ false) → holds (cond b cs (c ∷ remove m cs)) n ≡ false → cond e true (holds cs n) ≡ false
    go true p true q later h = absurd (apart c m n p q d)
    go true p false q later h = h
    go false p true q later h = let g : true ≡ false = ap (λ z. cond z true (holds (remove m cs) n)) (sym q) ∙ h in absurd cc
    go false p false q later h = later (ap (λ z. cond z true (holds (remove m cs) n)) (sym q) ∙ h)

-- either a number below the bound is missing, or the list is as long as the bound
missing_or_long : (bound : ℕ) (cs : List ℕ) → ((n : ℕ) × (n < bound) × (holds cs n ≡ false)) ⊎ (bound ≤ length cs)
missing_or_long zero cs = inr (omega arith)
missing_or_long (suc bound) cs = go (holds cs bound) refl (missing_or_long bound (remove bound cs))
  where
    go : (b : Bool) → holds cs bound ≡ b → ((n : ℕ) × (n < bound) × (holds (remove bound cs) n ≡ false)) ⊎ (bound ≤ length (remove bound cs)) → ((n : ℕ) × (n < suc bound) × (holds cs n ≡ false)) ⊎ (suc bound ≤ length cs)
    go false h later = inl (bound, omega arith, h)
    go true h (inl p) = inl (p.0, omega (arith, p.1), kept bound p.0 cs (other bound p.0 p.1) p.2)
    go true h (inr le) = let e = length_remove bound cs h in inr (omega arith)

missing : (cs : List ℕ) → (n : ℕ) × (n ≤ length cs) × (holds cs n ≡ false)
missing cs = go (missing_or_long (length cs + 1) cs)
  where
    go : ((n : ℕ) × (n < length cs + 1) × (holds cs n ≡ false)) ⊎ (length cs + 1 ≤ length cs) → (n : ℕ) × (n ≤ length cs) × (holds cs n ≡ false)
    go (inl p) = (p.0, omega (arith, p.1), p.2)
    go (inr le) = absurd (omega arith)

-- ---- numbers in letters

-- a number's binary digits, the lowest first
abbrev increased : List Bool → List Bool
increased [] = true ∷ []
increased (false ∷ bs) = true ∷ bs
increased (true ∷ bs) = false ∷ increased bs

abbrev digits : ℕ → List Bool
digits zero = []
digits (suc n) = increased (digits n)

abbrev value : List Bool → ℕ
value [] = 0
value (false ∷ bs) = 2 * value bs
value (true ∷ bs) = 2 * value bs + 1

value_increased : (bs : List Bool) → value (increased bs) ≡ value bs + 1
value_increased [] = refl
value_increased (false ∷ bs) = refl
value_increased (true ∷ bs) = let e = value_increased bs in omega arith

value_digits : (n : ℕ) → value (digits n) ≡ n
value_digits zero = refl
value_digits (suc n) = let e = value_digits n in let i = value_increased (digits n) in omega arith

abbrev letter : Bool → ℕ
letter false = 97
letter true = 98

-- the word of a number
abbrev pub numbered : ℕ → List ℕ
numbered n = 122 ∷ map letter (digits n)

small_letters : (bs : List Bool) → map small (map letter bs) ≡ map letter bs
small_letters [] = refl
small_letters (false ∷ bs) = ap (λ l. 97 ∷ l) (small_letters bs)
small_letters (true ∷ bs) = ap (λ l. 98 ∷ l) (small_letters bs)

abbrev digits_in : List ℕ → List Bool
digits_in = map (λ c. nat_eq c 98)

digits_in-letters : (bs : List Bool) → digits_in (map letter bs) ≡ bs
digits_in-letters [] = refl
digits_in-letters (false ∷ bs) = ap (λ l. false ∷ l) (digits_in-letters bs)
digits_in-letters (true ∷ bs) = ap (λ l. true ∷ l) (digits_in-letters bs)

-- the number of a word
abbrev number_in : List ℕ → ℕ
number_in [] = 0
number_in (c ∷ cs) = value (digits_in cs)

number_in-numbered : (n : ℕ) → number_in (map small (numbered n)) ≡ n
number_in-numbered n = ap (λ l. value (digits_in l)) (small_letters (digits n)) ∙ ap value (digits_in-letters (digits n)) ∙ value_digits n

-- ---- a word without a meaning

no_alias : (n : ℕ) (table : List Alias) → holds (map (λ a. number_in a.word) table) n ≡ false → find (λ a. same_bytes (map small (numbered n)) a.word) table ≡ None
no_alias n [] h = refl
no_alias n (a ∷ table) h = go (same_bytes (map small (numbered n)) a.word) refl (nat_eq (number_in a.word) n) refl (no_alias n table) h
  where
    go : (b : Bool) → same_bytes (map small (numbered n)) a.word ≡ b → (e : Bool) → nat_eq (number_in a.word) n ≡ e
        → (holds (map (λ a. number_in a.word) table) n ≡ false → find (λ a. same_bytes (map small (numbered n)) a.word) table ≡ None)
        → cond e true (holds (map (λ a. number_in a.word) table) n) ≡ false → cond b (Some a) (find (λ a. same_bytes (map small (numbered n)) a.word) table) ≡ None
    go b p true q later h = absurd cc
    go true p false q later h =
        let is : number_in a.word ≡ n = ap number_in (sym ((bytes_eq-Decides (map small (numbered n)) a.word).0 p)) ∙ number_in-numbered n in
        let g : true ≡ false = sym (equal (number_in a.word) n is) ∙ q in
        absurd cc
    go false p false q later h = later h

pub no_keyword : (n : ℕ) → keyword_of (numbered n) ≡ None
unfolding keyword_of
no_keyword n = refl

-- one of as many words as there are aliases, and one more
pub unused : (table : List Alias) → (n : ℕ) × (n ≤ length table) × (means table (numbered n) ≡ None)
unfolding means alias_of
unused table =
    let p = missing (map (λ a. number_in a.word) table) in
    (p.0, omega (arith, p.1, length-map table (λ a. number_in a.word)), rw (no_keyword p.0) (ap (option_map (λ a. a.keyword)) (no_alias p.0 table p.2)))

-- ---- these words are those that a text can have

longer : (bs : List Bool) → (length (increased bs) ≤ length bs) ⊎ ((value bs + 1 ≡ 2 ^ length bs) × (length (increased bs) ≡ length bs + 1))
longer [] = inr (refl, refl)
longer (false ∷ bs) = inl (omega arith)
longer (true ∷ bs) = go (longer bs)
  where
    go : (length (increased bs) ≤ length bs) ⊎ ((value bs + 1 ≡ 2 ^ length bs) × (length (increased bs) ≡ length bs + 1))
        → (length (increased (true ∷ bs)) ≤ length (true ∷ bs)) ⊎ ((value (true ∷ bs) + 1 ≡ 2 ^ length (true ∷ bs)) × (length (increased (true ∷ bs)) ≡ length (true ∷ bs) + 1))
    go (inl h) = inl (omega (arith, h))
    go (inr p) = let d = pow-suc 2 (length bs) in inr (omega (arith, p.0, d), omega (arith, p.1))

lower : (a b : ℕ) → 2 ^ a < 2 ^ b → a < b
lower a b h = go (cases_order a b)
  where
    go : (a ≡ b) ⊎ ((a < b) ⊎ (b < a)) → a < b
    go (inl e) = let f : 2 ^ b < 2 ^ b = subst (λ c. 2 ^ c < 2 ^ b) e h in absurd (omega (arith, f))
    go (inr (inl less)) = less
    go (inr (inr more)) = let le = pow-le-pow_right {n = 2} (omega arith) {i = b} {j = a} (omega (arith, more)) in absurd (omega (arith, le, h))

length_digits : (n k : ℕ) → n < 2 ^ k → length (digits n) ≤ k
length_digits zero k lt = omega arith
length_digits (suc n) k lt = go (length_digits n k (omega (arith, lt))) (longer (digits n))
  where
    go : length (digits n) ≤ k → (length (increased (digits n)) ≤ length (digits n)) ⊎ ((value (digits n) + 1 ≡ 2 ^ length (digits n)) × (length (increased (digits n)) ≡ length (digits n) + 1)) → length (digits (suc n)) ≤ k
    go before (inl h) = omega (arith, h, before)
    go before (inr p) = let fits = lower (length (digits n)) k (omega (arith, p.0, value_digits n, lt)) in omega (arith, p.1, fits)

word_bytes : (bs : List Bool) → list_all is_word_byte (map letter bs) ≡ true
word_bytes [] = refl
word_bytes (false ∷ bs) = word_bytes bs
word_bytes (true ∷ bs) = word_bytes bs

identifier : (bs : List Bool) → is_identifier (122 ∷ map letter bs) ≡ true
identifier [] = refl
identifier (b ∷ bs) = word_bytes (b ∷ bs)

-- the word of a number below 2 ^ 1000 is an identifier of at most 1,001 bytes, so the words of as many aliases as a text can have are
pub is_word : (n : ℕ) → n < 2 ^ 1000 → (is_identifier (numbered n) ≡ true) × (length (numbered n) ≤ 1024)
is_word n lt = let short = length_digits n 1000 lt in (identifier (digits n), omega (arith, short, length-map (digits n) letter))
