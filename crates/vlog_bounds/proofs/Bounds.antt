-- What a part spells has no more items than tokens: one fact for each way in which a part is made.
use Rattle.std.proofs.Common.{◌≡◌, ◌∙◌, refl, ap, ℕ, suc, ◌+◌, ◌≤◌, List, [], ◌∷◌, ◌++◌, length, length-append, Result, inl, inr, arith}
use Rattle.std.proofs.lemmas.List.Sums.{sum_by_push}
use Rattle.grammar.specs.Part.{Glance, gives, sequence, takes}
use Rattle.grammar.specs.Texts.{Spells, Rounds, ends, goes, TakenText}
use Rattle.grammar.specs.Whole.{Terminal, proper, end}
use Rattle.nl_base.specs.declared.place.Place.{Place}
use Rattle.nl_base.specs.declared.fault.Reason.{Reason}
use Rattle.readers.specs.Parts.{at_token, one, if_next, while_next}
use Rattle.vlog_values.specs.Sizes.{list_size}
use Rattle.vlog_tokens.specs.declared.token.VFound.{VFound}
use Rattle.vlog_exprs.specs.Language.{NoContext, Vlog}
use Rattle.vlog_exprs.specs.Grammar.{after, commas, list}

-- What the part spells has at most this size: the size of what was read before, and one for each token.
pub record Bounded {A : Type 0} (part : Vlog A) (size : A → ℕ) (before : ℕ) : Type 0 where
  pub bound : (ts : List (Terminal VFound Place)) (v : A) → Spells tt part ts v → size v ≤ before + length ts

-- ---- how a part is made

pub bounded_gives : {A : Type 0} {size : A → ℕ} {n : ℕ} (a : A) → size a ≤ n → Bounded (gives a) size n
bounded_gives {size = size} a le = record { bound = λ ts v spells. let same = ap size spells.1 in omega (arith, le, same) }

pub bounded_then : {A B : Type 0} {p : Vlog A} {q : A → Vlog B} {size : A → ℕ} {size' : B → ℕ} {n : ℕ} → Bounded p size n → ((u : A) → Bounded (q u) size' (size u)) → Bounded (sequence p q) size' n
bounded_then first next = record {
  bound = λ ts v spells. let l = ap length spells.3 ∙ length-append spells.1 spells.2 in
      let f = first.bound spells.1 spells.0 spells.4 in
      let g = (next spells.0).bound spells.2 v spells.5 in
      omega (arith, l, f, g);
}

-- the same where nothing of the first part is counted
pub bounded_after : {A B : Type 0} {q : A → Vlog B} {size : B → ℕ} {n : ℕ} (p : Vlog A) → ((u : A) → Bounded (q u) size n) → Bounded (sequence p q) size n
bounded_after p next = record {
  bound = λ ts v spells. let l = ap length spells.3 ∙ length-append spells.1 spells.2 in
      let g = (next spells.0).bound spells.2 v spells.5 in
      omega (arith, l, g);
}

-- the same part behind more
pub bounded_behind : {A : Type 0} {p : Vlog A} {size : A → ℕ} (more : ℕ) → Bounded p size 0 → Bounded p (λ v. size v + more) more
bounded_behind more known = record { bound = λ ts v spells. let h = known.bound ts v spells in omega (arith, h) }

-- the same part behind at least as much
pub bounded_more : {A : Type 0} {p : Vlog A} {size : A → ℕ} {n : ℕ} (m : ℕ) → n ≤ m → Bounded p size n → Bounded p size m
bounded_more m le known = record { bound = λ ts v spells. let h = known.bound ts v spells in omega (arith, h, le) }

-- a smaller size
pub bounded_less : {A : Type 0} {p : Vlog A} {size size' : A → ℕ} {n : ℕ} → Bounded p size n → ((v : A) → size' v ≤ size v) → Bounded p size' n
bounded_less known less = record { bound = λ ts v spells. let h = known.bound ts v spells in let l = less v in omega (arith, h, l) }

-- one less on both sides
pub bounded_pred : {A : Type 0} {p : Vlog A} {size : A → ℕ} {n : ℕ} → Bounded p (λ v. suc (size v)) (suc n) → Bounded p size n
bounded_pred known = record { bound = λ ts v spells. let h = known.bound ts v spells in omega (arith, h) }

-- one more on both sides
pub bounded_suc : {A : Type 0} {p : Vlog A} {size : A → ℕ} {n : ℕ} → Bounded p size n → Bounded p (λ v. suc (size v)) (suc n)
bounded_suc known = record { bound = λ ts v spells. let h = known.bound ts v spells in omega (arith, h) }

-- one token, which is counted
pub bounded_one : {A : Type 0} (f : NoContext → VFound → Result A Reason) → Bounded (one f) (λ _. 1) 0
unfolding one
bounded_one f = record { bound = λ ts v spells. let l = ap length spells.1 in omega (arith, l) }

-- the length of a text that begins with a token that is taken
pub taken_bound : {A C : Type 0} {size : A → ℕ} {n : ℕ} (f : NoContext → VFound → Glance C Reason) (p : C → Vlog A) → ((x : VFound) (c : C) → f tt x ≡ takes c → Bounded (p c) size (suc n))
    → (ts : List (Terminal VFound Place)) (v : A) → TakenText (λ t. at_token (f tt) t) (λ c. Spells tt (p c)) ts v → size v ≤ n + length ts
taken_bound {size = size} {n = n} f p way ts v text = by text.0 text.3 text.4
  where
    by : (x : Terminal VFound Place) → ts ≡ x ∷ text.2 → at_token (f tt) x ≡ takes text.1 → size v ≤ n + length ts
    by (proper x) is h = let l = ap length is in let b = (way x text.1 h).bound text.2 v text.5 in omega (arith, l, b)
    by (end p) is h = absurd cc

-- [ ] and |, where the token that is taken is counted
pub bounded_if : {A C : Type 0} {size : A → ℕ} {n : ℕ} (f : NoContext → VFound → Glance C Reason) (p : C → Vlog A) (q : Vlog A)
    → ((x : VFound) (c : C) → f tt x ≡ takes c → Bounded (p c) size (suc n)) → Bounded q size n → Bounded (if_next f p q) size n
unfolding if_next
bounded_if {A = A} {size = size} {n = n} f p q one_way other = record { bound = λ ts v spells. by ts v spells }
  where
    by : (ts : List (Terminal VFound Place)) (v : A) → Spells tt (if_next f p q) ts v → size v ≤ n + length ts
    by ts v (inl text) = taken_bound f p one_way ts v text
    by ts v (inr text) = other.bound ts v text

-- { }, where each round adds no more than one item and what it holds
pub bounded_while : {A C S : Type 0} {size : A → ℕ} (so_far : S → ℕ) (f : S → NoContext → VFound → Glance C Reason) (q : S → C → Vlog S) (e : S → Vlog A)
    → ((s : S) (x : VFound) (c : C) → f s tt x ≡ takes c → Bounded (q s c) so_far (suc (so_far s))) → ((s : S) → Bounded (e s) size (so_far s)) → (s : S) → Bounded (while_next f q e s) size (so_far s)
unfolding while_next
bounded_while {A = A} {S = S} {size = size} so_far f q e round last s = record { bound = λ ts v spells. by s ts v spells }
  where
    by : (s : S) (ts : List (Terminal VFound Place)) (v : A)
        → Rounds (λ s. λ t. at_token (f s tt) t) (λ s c. Spells tt (q s c)) (λ s. Spells tt (e s)) s ts v → size v ≤ so_far s + length ts
    by s ts v (ends text) = (last s).bound ts v text
    by s ts v (goes t a b text rest is) =
        let l = ap length is ∙ length-append a b in
        let h = taken_bound {size = so_far} (f s) (q s) (round s) a t text in
        let g = by t b v rest in
        omega (arith, l, h, g)

-- a punctuation mark and one part, or another part
pub bounded_mark : {A : Type 0} {size : A → ℕ} {n : ℕ} {p q : Vlog A} (due : ℕ) → Bounded p size n → Bounded q size n → Bounded (after due p q) size n
unfolding after
bounded_mark {n = n} due one_way other = bounded_if _ _ _ (λ x c h. bounded_more (suc n) (omega arith) one_way) other

-- ---- lists

-- one more item
pub one_item : {A : Type 0} (size : A → ℕ) (s : List A) (a : A) → list_size size (s ++ a ∷ []) ≤ size a + suc (list_size size s)
one_item size s a = omega (arith, sum_by_push size s a, length-append s (a ∷ []))

module _ {A : Type 0} (size : A → ℕ) {p : Vlog A} (item : Bounded p size 0) {close : Vlog (Unit {0})} (closes : Bounded close (λ _. 1) 0) where
  -- each item but the first has a comma of its own, and the first has the mark at the end
  pub bounded_commas : (s : List A) → Bounded (commas p close s) (λ v. suc (list_size size v)) (list_size size s)
  unfolding commas
  bounded_commas s =
      bounded_while (list_size size) _ _ _ (λ s x c h. bounded_then (bounded_behind (suc (list_size size s)) item) (λ a. bounded_gives (s ++ a ∷ []) (one_item size s a)))
      (λ s. bounded_then (bounded_behind (list_size size s) closes) (λ _. bounded_gives s (omega arith))) s

  pub bounded_list : Bounded (list p close) (list_size size) 0
  unfolding list
  bounded_list = bounded_pred (bounded_then (bounded_behind 1 item) (λ a. bounded_more _ (omega arith) (bounded_commas (a ∷ []))))

-- an item that holds none
abbrev pub held_none : {A : Type 0} → A → ℕ
held_none a = 0

pub bounded_free : {A : Type 0} (p : Vlog A) → Bounded p held_none 0
bounded_free p = record { bound = λ ts v spells. omega arith }

-- the size of a list of such items is its length
pub free_size : {A : Type 0} (s : List A) → list_size held_none s ≡ length s
free_size [] = refl
free_size (a ∷ s) = let e = free_size s in omega (arith, e)

pub length_within : {A : Type 0} (s : List A) → length s ≤ list_size held_none s
length_within s = omega arith

-- a list whose items hold none
pub bounded_items : {A : Type 0} (p : Vlog A) {close : Vlog (Unit {0})} → Bounded close (λ _. 1) 0 → Bounded (list p close) length 0
bounded_items p closes = bounded_less (bounded_list held_none (bounded_free p) closes) length_within
