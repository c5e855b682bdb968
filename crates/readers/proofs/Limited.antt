-- Tokens whose stops rise: where their end stands, and that the first fault within the limit of an input is the first fault of all of them.
use Rattle.std.proofs.Common.{◌≡◌, ℕ, ◌≤◌, Bool, true, false, cond, ltb, List, [], ◌∷◌, ◌++◌, map, refl, sym, ap, ◌∙◌, subst, append_assoc, arith}
use Rattle.std.specs.Prelude.{⊤}
use Rattle.std.proofs.lemmas.Bool.{le-ltb, ltb-false}
use Rattle.grammar.specs.Faults.{Faults}
use Rattle.grammar.specs.Whole.{Terminal, proper, end, Finish, Done, Bad, Over, IsFirstFault, at_token, at_bad}
use Rattle.nl_base.specs.declared.place.Place.{Place}
use Rattle.nl_base.specs.declared.fault.TextFault.{TextFault}
use Rattle.nl_base.specs.declared.fault.Reason.{Reason}
use Rattle.nl_bytes.specs.declared.bytes.TheConstants.{LIMIT}
use Rattle.nl_bytes.specs.Tokens.{Ahead, Language, follow, only_end, no_token, limited, limited_from, limited_finish}
use Rattle.nl_bytes.proofs.Limited.{limited_front, bad_within}
use Rattle.readers.specs.Parts.{PartOf}
use Rattle.readers.specs.Readers.{fault_at}
use Rattle.readers.specs.Rises.{Rises}

-- ---- where the end stands

-- the end stands last, and all is told up to it
pub record EndsThere {X : Type 0} (rest : List (Terminal X Place)) (finish : Finish TextFault) : Type 0 where
  pub nothing : rest ≡ []
  pub done : finish ≡ Done

pub ends_there : {X : Type 0} (stop : X → ℕ) (n : ℕ) (before rest : List (Terminal X Place)) (p : Place) (finish : Finish TextFault) → Rises stop n (before ++ end p ∷ rest) finish → EndsThere rest finish
ends_there stop n [] rest p finish r = record { nothing = r.1; done = r.2 }
ends_there stop n (proper x ∷ before) rest p finish r = ends_there stop (stop x) before rest p finish r.1
ends_there stop n (end q ∷ []) rest p finish r = absurd cc
ends_there stop n (end q ∷ y ∷ before) rest p finish r = absurd cc

-- what is told up to the end has it
pub has_last : {X : Type 0} (stop : X → ℕ) (n : ℕ) (xs : List (Terminal X Place)) (finish : Finish TextFault) → finish ≡ Done → Rises stop n xs finish
    → (before : List (Terminal X Place)) × (p : Place) × (xs ≡ before ++ end p ∷ [])
has_last stop n [] Done e r = absurd r
has_last stop n [] (Bad fault) e r = absurd cc
has_last stop n [] Over e r = absurd cc
has_last {X} stop n (proper x ∷ xs) finish e r = let h = has_last stop (stop x) xs finish e r.1 in (proper x ∷ h.0, h.1, ap (λ (z : List (Terminal X Place)). proper x ∷ z) h.2)
has_last {X} stop n (end p ∷ xs) finish e r = ([], p, ap (λ (z : List (Terminal X Place)). end p ∷ z) r.1)

-- what stands before another token has no end
pub no_end_before : {X : Type 0} (stop : X → ℕ) (n : ℕ) (xs before after : List (Terminal X Place)) (x : Terminal X Place) (finish : Finish TextFault) → Rises stop n xs finish
    → xs ≡ before ++ x ∷ after → (front : List X) × (before ≡ map proper front)
no_end_before stop n xs [] after x finish r e = ([], refl)
no_end_before stop n [] (y ∷ before) after x finish r e = absurd cc
no_end_before {X} stop n (end p ∷ xs) (y ∷ before) after x finish r e = let tail : xs ≡ before ++ x ∷ after = cc in absurd (by before (sym r.1 ∙ tail))
  where
    by : (before : List (Terminal X Place)) → [] ≡ before ++ x ∷ after → ⊥
    by [] f = cc
    by (z ∷ before) f = cc
no_end_before {X} stop n (proper z ∷ xs) (y ∷ before) after x finish r e =
    let tail : xs ≡ before ++ x ∷ after = cc in
    let h = no_end_before stop (stop z) xs before after x finish r.1 tail in
    let is : y ≡ proper z = cc in
    (z ∷ h.0, ap (λ (t : Terminal X Place). t ∷ before) is ∙ ap (λ (ts : List (Terminal X Place)). proper z ∷ ts) h.1)

-- where bytes that are no token stand behind them, no token is the end
pub no_end : {X : Type 0} (stop : X → ℕ) (n : ℕ) (xs : List (Terminal X Place)) (finish : Finish TextFault) (fault : TextFault) → Rises stop n xs finish → finish ≡ Bad fault
    → (front : List X) × (xs ≡ map proper front)
no_end stop n [] finish fault r e = ([], refl)
no_end stop n (end p ∷ xs) finish fault r e = let done : finish ≡ Done = r.2 in absurd cc
no_end {X} stop n (proper x ∷ xs) finish fault r e = let h = no_end stop (stop x) xs finish fault r.1 e in (x ∷ h.0, ap (λ (z : List (Terminal X Place)). proper x ∷ z) h.1)

-- ---- stops

-- the stop of a token, or the place of the end
abbrev pub stop_at : {X : Type 0} → (X → ℕ) → Terminal X Place → ℕ
stop_at stop (proper x) = stop x
stop_at stop (end p) = p.offset

-- ---- what is looked at is within the limit

module _ {X : Type 0} (stop : X → ℕ) where
  abbrev Low : List (Terminal X Place) → Type 0
  Low xs = (before after : List (Terminal X Place)) (x : Terminal X Place) → xs ≡ before ++ x ∷ after → stop_at stop x ≤ LIMIT

  low_none : Low []
  low_none [] after x e = absurd cc
  low_none (y ∷ before) after x e = absurd cc

  low_more : (y : Terminal X Place) (xs : List (Terminal X Place)) → stop_at stop y ≤ LIMIT → Low xs → Low (y ∷ xs)
  low_more y xs le low [] after x e = let same : y ≡ x = cc in subst (λ (z : Terminal X Place). stop_at stop z ≤ LIMIT) same le
  low_more y xs le low (z ∷ before) after x e = low before after x cc

  low_by : (t : Bool) (s : Ahead X) → (t ≡ false → Low s.tokens) → Low (cond t (no_token X Over) s).tokens
  low_by true s h = low_none
  low_by false s h = h refl

  low_finish : (finish : Finish TextFault) → Low (limited_finish X finish).tokens
  low_finish Done = low_none
  low_finish (Bad fault) = low_by (ltb LIMIT fault.stop) (no_token X (Bad fault)) (λ _. low_none)
  low_finish Over = low_none

  low_from : (xs : List (Terminal X Place)) (finish : Finish TextFault) → Low (limited_from stop xs finish).tokens
  low_from [] finish = low_finish finish
  low_from (proper x ∷ xs) finish = low_by (ltb LIMIT (stop x)) (follow x (limited_from stop xs finish)) (λ is. low_more (proper x) _ (let h = ltb-false _ _ is in omega (arith, h)) (low_from xs finish))
  low_from (end p ∷ xs) finish = low_by (ltb LIMIT p.offset) (only_end X p) (λ is. low_more (end p) [] (let h = ltb-false _ _ is in omega (arith, h)) low_none)

  low_limited : (s : Ahead X) → Low (limited stop s).tokens
  unfolding limited
  low_limited s = low_from s.tokens s.finish

  -- ---- what is within the limit is looked at

  -- a stop that rises to one within the limit is within it
  rises_to : (n : ℕ) (before after : List (Terminal X Place)) (x : Terminal X Place) (finish : Finish TextFault) → Rises stop n (before ++ x ∷ after) finish → stop_at stop x ≤ LIMIT → n ≤ LIMIT
  rises_to n [] after (proper x) finish r le = omega (arith, r.0, le)
  rises_to n [] after (end p) finish r le = omega (arith, r.0, le)
  rises_to n (proper y ∷ before) after x finish r le = let h = rises_to (stop y) before after x finish r.1 le in omega (arith, r.0, h)
  rises_to n (end p ∷ []) after x finish r le = absurd cc
  rises_to n (end p ∷ y ∷ before) after x finish r le = absurd cc

  abbrev KeepsTo : List (Terminal X Place) → Terminal X Place → List (Terminal X Place) → Type 0
  KeepsTo before x ys = (after : List (Terminal X Place)) × (ys ≡ before ++ x ∷ after)

  kept_from : (n : ℕ) (before after : List (Terminal X Place)) (x : Terminal X Place) (finish : Finish TextFault) → Rises stop n (before ++ x ∷ after) finish → stop_at stop x ≤ LIMIT → KeepsTo before x (limited_from stop (before ++ x ∷ after) finish).tokens
  kept_from n [] after (proper x) finish r le = rw (le-ltb LIMIT (stop x) le) ((limited_from stop after finish).tokens, refl)
  kept_from n [] after (end p) finish r le = rw (le-ltb LIMIT p.offset le) ([], refl)
  kept_from n (proper y ∷ before) after x finish r le =
      let low : stop y ≤ LIMIT = rises_to (stop y) before after x finish r.1 le in
      let k = kept_from (stop y) before after x finish r.1 le in
      rw (le-ltb LIMIT (stop y) low) (k.0, ap (λ (z : List (Terminal X Place)). proper y ∷ z) k.1)
  kept_from n (end p ∷ []) after x finish r le = absurd cc
  kept_from n (end p ∷ y ∷ before) after x finish r le = absurd cc

  kept_to : (s : Ahead X) (before after : List (Terminal X Place)) (x : Terminal X Place) → s.tokens ≡ before ++ x ∷ after → Rises stop 0 s.tokens s.finish → stop_at stop x ≤ LIMIT → KeepsTo before x (limited stop s).tokens
  unfolding limited
  kept_to s before after x place r le =
      subst (λ (z : List (Terminal X Place)). KeepsTo before x (limited_from stop z s.finish).tokens) (sym place) (kept_from 0 before after x s.finish (subst (λ (z : List (Terminal X Place)). Rises stop 0 z s.finish) place r) le)

  rises_end : (n : ℕ) (xs : List (Terminal X Place)) (fault : TextFault) → Rises stop n xs (Bad fault) → fault.stop ≤ LIMIT → n ≤ LIMIT
  rises_end n [] fault r le = omega (arith, r, le)
  rises_end n (proper x ∷ xs) fault r le = let h = rises_end (stop x) xs fault r.1 le in omega (arith, r.0, h)
  rises_end n (end p ∷ xs) fault r le = absurd cc

  all_kept : (n : ℕ) (xs : List (Terminal X Place)) (fault : TextFault) → Rises stop n xs (Bad fault) → fault.stop ≤ LIMIT → limited_from stop xs (Bad fault) ≡ record { tokens = xs; finish = Bad fault }
  all_kept n [] fault r le = rw (le-ltb LIMIT fault.stop le) refl
  all_kept n (proper x ∷ xs) fault r le =
      let low : stop x ≤ LIMIT = rises_end (stop x) xs fault r.1 le in
      rw (le-ltb LIMIT (stop x) low) (ap (λ (z : Ahead X). follow x z) (all_kept (stop x) xs fault r.1 le))
  all_kept n (end p ∷ xs) fault r le = absurd cc

  kept_all : (s : Ahead X) (fault : TextFault) → s.finish ≡ Bad fault → Rises stop 0 s.tokens s.finish → fault.stop ≤ LIMIT → limited stop s ≡ s
  unfolding limited
  kept_all s fault e r le =
      ap (λ (z : Finish TextFault). limited_from stop s.tokens z) e ∙ all_kept 0 s.tokens fault (subst (λ (z : Finish TextFault). Rises stop 0 s.tokens z) e r) le
      ∙ ap (λ (z : Finish TextFault). whole s.tokens z) (sym e)
    where
      whole : List (Terminal X Place) → Finish TextFault → Ahead X
      whole xs finish = record { tokens = xs; finish = finish }

-- ---- the end of the bytes

-- the end of the input is behind so many bytes, where the tokens go to it
abbrev pub EndsAt : {X : Type 0} → ℕ → List (Terminal X Place) → Finish TextFault → Type 0
EndsAt n [] Done = ⊥
EndsAt n [] (Bad fault) = ⊤
EndsAt n [] Over = ⊤
EndsAt n (proper x ∷ xs) finish = EndsAt n xs finish
EndsAt n (end p ∷ xs) finish = p.offset ≡ n

module _ {X : Type 0} (stop : X → ℕ) where
  done_by : (n : ℕ) (t : Bool) (s : Ahead X) → (t ≡ false → s.finish ≡ Done → n ≤ LIMIT) → (cond t (no_token X Over) s).finish ≡ Done → n ≤ LIMIT
  done_by n true s below e = absurd cc
  done_by n false s below e = below refl e

  within_from : (n : ℕ) (xs : List (Terminal X Place)) (finish : Finish TextFault) → EndsAt n xs finish → (limited_from stop xs finish).finish ≡ Done → n ≤ LIMIT
  within_from n [] Done at e = absurd at
  within_from n [] (Bad fault) at e = done_by n (ltb LIMIT fault.stop) (no_token X (Bad fault)) (λ _ e. absurd cc) e
  within_from n [] Over at e = absurd cc
  within_from n (proper x ∷ xs) finish at e = done_by n (ltb LIMIT (stop x)) (follow x (limited_from stop xs finish)) (λ _ e. within_from n xs finish at e) e
  within_from n (end p ∷ xs) finish at e = done_by n (ltb LIMIT p.offset) (only_end X p) (λ is _. let h = ltb-false _ _ is in omega (arith, at, h)) e

  -- an end that is looked at is within the limit
  pub end_within : (n : ℕ) (s : Ahead X) → EndsAt n s.tokens s.finish → (limited stop s).finish ≡ Done → n ≤ LIMIT
  unfolding limited
  end_within n s at e = within_from n s.tokens s.finish at e

-- ---- first faults

module _ {X K A : Type 0} (L : Language X) (k : K) (part : PartOf K X A) (s : Ahead X) (f : TextFault) where
  abbrev First : Ahead X → Type 0
  First t = IsFirstFault (fault_at L) k part t f

  fault_stop : (x : Terminal X Place) (reason : Reason) → (fault_at L x reason).stop ≡ stop_at L.stop x
  fault_stop (proper x) reason = refl
  fault_stop (end p) reason = refl

  -- the same token among others
  moved : (xs ys after : List (Terminal X Place)) (x : Terminal X Place) (reason : Reason) (h : Faults k part xs x reason) → ys ≡ h.before ++ x ∷ after → Faults k part ys x reason
  moved xs ys after x reason h e = record { before = h.before; after = after; place = e; goes_on = h.goes_on; stops = h.stops; is_due = h.is_due; reason_is = h.reason_is }

  -- a first fault within the limit is one of all tokens
  pub fault_within : First (limited L.stop s) → First s × (f.stop ≤ LIMIT)
  fault_within (at_token x reason h e) =
      let front = limited_front L.stop s in
      let place : s.tokens ≡ h.before ++ x ∷ (h.after ++ front.0) = front.1 ∙ ap (λ (z : List (Terminal X Place)). z ++ front.0) h.place ∙ append_assoc h.before (x ∷ h.after) front.0 in
      let low = low_limited L.stop s h.before h.after x h.place in (
        at_token x reason (moved (limited L.stop s).tokens s.tokens (h.after ++ front.0) x reason h place) e,
        subst (λ (n : ℕ). n ≤ LIMIT) (sym (ap (λ (z : TextFault). z.stop) e ∙ fault_stop x reason)) low,
      )
  fault_within (at_bad begins e) =
      let b = bad_within L.stop s f e in
      (subst First (sym b.0) (at_bad begins e), b.1)

  -- a first fault of all tokens, whose stop is within the limit, is one of those within it
  pub fault_looked : Rises L.stop 0 s.tokens s.finish → First s → f.stop ≤ LIMIT → First (limited L.stop s)
  fault_looked r (at_token x reason h e) le =
      let low : stop_at L.stop x ≤ LIMIT = subst (λ (n : ℕ). n ≤ LIMIT) (ap (λ (z : TextFault). z.stop) e ∙ fault_stop x reason) le in
      let kept = kept_to L.stop s h.before h.after x h.place r low in
      at_token x reason (moved s.tokens (limited L.stop s).tokens kept.0 x reason h kept.1) e
  fault_looked r (at_bad begins e) le = subst First (sym (kept_all L.stop s f e r le)) (at_bad begins e)
