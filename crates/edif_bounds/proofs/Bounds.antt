-- What a part spells has no more items than tokens: one fact for each way in which a part is made.
use Rattle.std.proofs.Common.{◌≡◌, ◌∙◌, ap, ℕ, suc, ◌+◌, ◌≤◌, Bool, true, false, cond, List, [], ◌∷◌, ◌++◌, length, length-append, arith}
use Rattle.std.proofs.lemmas.List.Sums.{sum_by_push}
use Rattle.grammar.specs.Part.{Glance, gives, sequence, under, takes}
use Rattle.grammar.specs.Texts.{Spells, Rounds, ends, goes, TakenText}
use Rattle.grammar.specs.Whole.{Terminal, proper, end}
use Rattle.nl_base.specs.declared.place.Place.{Place}
use Rattle.nl_base.specs.declared.fault.Reason.{Reason}
use Rattle.edif_tokens.specs.declared.token.Found.{Found}
use Rattle.readers.specs.Parts.{at_token, while_next}
use Rattle.edif_values.specs.declared.keyword.Keyword.{Keyword}
use Rattle.edif_keywords.specs.Aliases.{Alias}
use Rattle.edif_keywords.specs.Language.{Edif}
use Rattle.edif_keywords.specs.Grammar.{closing, keyword, forms, items, strings, comment}
use Rattle.edif_values.specs.Sizes.{list_size}

-- What the part spells has at most this size: the size of what was read before, and one for each token.
pub record Bounded {A : Type 0} (part : Edif A) (size : A → ℕ) (before : ℕ) : Type 0 where
  pub bound : (table : List Alias) (ts : List (Terminal Found Place)) (v : A) → Spells table part ts v → size v ≤ before + length ts

-- ---- how a part is made

pub bounded_gives : {A : Type 0} {size : A → ℕ} {n : ℕ} (a : A) → size a ≤ n → Bounded (gives a) size n
bounded_gives {size = size} a le = record { bound = λ table ts v spells. let same = ap size spells.1 in omega (arith, le, same) }

pub bounded_then : {A B : Type 0} {p : Edif A} {q : A → Edif B} {size : A → ℕ} {size' : B → ℕ} {n : ℕ} → Bounded p size n → ((u : A) → Bounded (q u) size' (size u)) → Bounded (sequence p q) size' n
bounded_then first next = record {
  bound = λ table ts v spells. let l = ap length spells.3 ∙ length-append spells.1 spells.2 in
      let f = first.bound table spells.1 spells.0 spells.4 in
      let g = (next spells.0).bound table spells.2 v spells.5 in
      omega (arith, l, f, g);
}

-- the same where nothing of the first part is counted
pub bounded_after : {A B : Type 0} {q : A → Edif B} {size : B → ℕ} {n : ℕ} (p : Edif A) → ((u : A) → Bounded (q u) size n) → Bounded (sequence p q) size n
bounded_after p next = record {
  bound = λ table ts v spells. let l = ap length spells.3 ∙ length-append spells.1 spells.2 in
      let g = (next spells.0).bound table spells.2 v spells.5 in
      omega (arith, l, g);
}

-- one part or another
pub bounded_cond : {A : Type 0} {size : A → ℕ} {n : ℕ} (b : Bool) (p q : Edif A) → Bounded p size n → Bounded q size n → Bounded (cond b p q) size n
bounded_cond true p q h l = h
bounded_cond false p q h l = l

-- the same part behind more
pub bounded_behind : {A : Type 0} {p : Edif A} {size : A → ℕ} (more : ℕ) → Bounded p size 0 → Bounded p (λ v. size v + more) more
bounded_behind more known = record { bound = λ table ts v spells. let h = known.bound table ts v spells in omega (arith, h) }

-- a smaller size
pub bounded_less : {A : Type 0} {p : Edif A} {size size' : A → ℕ} {n : ℕ} → Bounded p size n → ((v : A) → size' v ≤ size v) → Bounded p size' n
bounded_less known less = record { bound = λ table ts v spells. let h = known.bound table ts v spells in let l = less v in omega (arith, h, l) }

pub bounded_under : {A : Type 0} {p : Edif A} {size : A → ℕ} {n : ℕ} (table : List Alias) → Bounded p size n → Bounded (under table p) size n
bounded_under table known = record { bound = λ other ts v spells. known.bound table ts v spells }

-- { }, where each round adds no more than one item and what it holds
pub bounded_while : {A C S : Type 0} {size : A → ℕ} (so_far : S → ℕ) (f : S → List Alias → Found → Glance C Reason) (q : S → C → Edif S) (e : S → Edif A)
    → ((s : S) (table : List Alias) (x : Found) (c : C) → f s table x ≡ takes c → Bounded (q s c) so_far (suc (so_far s))) → ((s : S) → Bounded (e s) size (so_far s)) → (s : S) → Bounded (while_next f q e s) size (so_far s)
unfolding while_next
bounded_while {A = A} {C = C} {S = S} {size = size} so_far f q e round last s = record { bound = λ table ts v spells. by table s ts v spells }
  where
    taken : (table : List Alias) (s t : S) (ts : List (Terminal Found Place)) → TakenText (λ x. at_token (f s table) x) (λ c. Spells table (q s c)) ts t → so_far t ≤ so_far s + length ts
    taken table s t ts text = go text.0 text.3 text.4
      where
        go : (x : Terminal Found Place) → ts ≡ x ∷ text.2 → at_token (f s table) x ≡ takes text.1 → so_far t ≤ so_far s + length ts
        go (proper x) is h = let l = ap length is in let b = (round s table x text.1 h).bound table text.2 t text.5 in omega (arith, l, b)
        go (end p) is h = absurd cc

    by : (table : List Alias) (s : S) (ts : List (Terminal Found Place)) (v : A)
        → Rounds (λ s. λ t. at_token (f s table) t) (λ s c. Spells table (q s c)) (λ s. Spells table (e s)) s ts v → size v ≤ so_far s + length ts
    by table s ts v (ends text) = (last s).bound table ts v text
    by table s ts v (goes t a b text rest is) =
        let l = ap length is ∙ length-append a b in
        let h = taken table s t a text in
        let g = by table t b v rest in
        omega (arith, l, h, g)

-- ---- forms and strings

-- one more item
pub one_item : {I : Type 0} (size : I → ℕ) (is : List I) (i : I) → list_size size (is ++ i ∷ []) ≤ size i + suc (list_size size is)
one_item size is i = omega (arith, sum_by_push size is i, length-append is (i ∷ []))

-- the items of a form: each begins with a token of its own
pub bounded_items : {I : Type 0} (size : I → ℕ) (allowed : List I → List Keyword) (rest : Keyword → Edif I) → ((q : Keyword) → Bounded (rest q) size 0) → (s : List I) → Bounded (items allowed rest s) (list_size size) (list_size size s)
unfolding items forms
bounded_items size allowed rest r s =
    bounded_while (list_size size) _ _ _ (λ s table x c h. bounded_then (bounded_after (keyword (allowed s)) (λ q. bounded_behind (suc (list_size size s)) (r q))) (λ i. bounded_gives (s ++ i ∷ []) (one_item size s i)))
    (λ s. bounded_after closing (λ _. bounded_gives s (omega arith))) s

-- the strings of a form
pub bounded_strings : (s : List (List ℕ)) → Bounded (strings s) length (length s)
unfolding strings
bounded_strings s =
    bounded_while length _ _ _ (λ s table x t h. bounded_gives (s ++ t ∷ []) (let l = length-append s (t ∷ []) in omega (arith, l))) (λ s. bounded_after closing (λ _. bounded_gives s (omega arith))) s

pub bounded_comment : Bounded comment length 0
bounded_comment = bounded_strings []
