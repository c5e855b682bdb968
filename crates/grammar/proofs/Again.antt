-- What is spelled is read, where a token follows that may follow.
use Rattle.std.proofs.Common.{◌≡◌, List, [], ◌∷◌, ◌++◌, Result, Ok, refl, sym, ap, subst, ◌∙◌, append_assoc, inl, inr}
use Rattle.grammar.specs.Part.{Part, gives, token, sequence, ahead, loop, under, Glance, takes, leaves}
use Rattle.grammar.specs.Texts.{TokenText, ThenText, TakenText, Rounds, ends, goes, Spells}
use Rattle.grammar.specs.Reading.{take_token, read}
use Rattle.grammar.specs.Clear.{Empty, First, Next, IsClear}
use Rattle.grammar.proofs.Loops.{opened, read_loop}

-- ---- how a text begins

first_in : {K X R A B : Type 0} (κ : K) (p : Part K X R A) (q : A → Part K X R B) (x : X) (ts a b : List X) (u : A) → x ∷ ts ≡ a ++ b → (a ≡ [] → Empty κ p u) → ((y : X) (d : List X) → a ≡ y ∷ d → First κ p y) → ((y : X) (d : List X) → b ≡ y ∷ d → First κ (q u) y) → First κ (sequence p q) x
first_in κ p q x ts [] [] u e none one two = absurd cc
first_in κ p q x ts [] (y ∷ b) u e none one two = let k : y ≡ x = cc in inr (u, none refl, subst (First κ (q u)) k (two y b refl))
first_in κ p q x ts (y ∷ a) b u e none one two = let k : y ≡ x = cc in inl (subst (First κ p) k (one y a refl))

empty_both : {X : Type 0} (a b : List X) → [] ≡ a ++ b → (a ≡ []) × (b ≡ [])
empty_both [] [] e = (refl, refl)
empty_both [] (x ∷ b) e = absurd cc
empty_both (x ∷ a) b e = absurd cc

pub empty_of : {K X R A : Type 0} (κ : K) (p : Part K X R A) (v : A) → Spells κ p [] v → Empty κ p v
empty_of κ (gives a) v h = h.1
empty_of κ (token f) v h = let k : [] ≡ h.0 ∷ [] = h.1 in absurd cc
empty_of κ (sequence p q) v h =
    let k = empty_both h.1 h.2 h.3 in
    (h.0, empty_of κ p h.0 (subst (λ (z : List _). Spells κ p z h.0) k.0 h.4), empty_of κ (q h.0) v (subst (λ (z : List _). Spells κ (q h.0) z v) k.1 h.5))
empty_of κ (ahead f p q) v (inl h) = let k : [] ≡ h.0 ∷ h.2 = h.3 in absurd cc
empty_of κ (ahead f p q) v (inr h) = empty_of κ q v h
empty_of κ (loop f q e s) v (ends h) = empty_of κ (e s) v h
empty_of κ (loop f q e s) v (goes t a b h rest parts) =
    let k = empty_both a b parts in
    let l : [] ≡ h.0 ∷ h.2 = sym k.0 ∙ h.3 in absurd cc
empty_of κ (under j p) v h = empty_of j p v h

pub first_of : {K X R A : Type 0} (κ : K) (p : Part K X R A) (x : X) (ts : List X) (v : A) → Spells κ p (x ∷ ts) v → First κ p x
first_of κ (gives a) x ts v h = let k = h.0 in absurd cc
first_of κ (token f) x ts v h = let e : x ∷ ts ≡ h.0 ∷ [] = h.1 in let k : h.0 ≡ x = cc in (v, subst (λ z. f κ z ≡ Ok v) k h.2)
first_of κ (sequence p q) x ts v h =
    first_in κ p q x ts h.1 h.2 h.0 h.3 (λ e. empty_of κ p h.0 (subst (λ (z : List _). Spells κ p z h.0) e h.4))
    (λ y d e. first_of κ p y d h.0 (subst (λ (z : List _). Spells κ p z h.0) e h.4)) (λ y d e. first_of κ (q h.0) y d v (subst (λ (z : List _). Spells κ (q h.0) z v) e h.5))
first_of κ (ahead f p q) x ts v (inl h) = let e : x ∷ ts ≡ h.0 ∷ h.2 = h.3 in let k : h.0 ≡ x = cc in inl (h.1, subst (λ z. f κ z ≡ takes h.1) k h.4)
first_of κ (ahead f p q) x ts v (inr h) = inr (first_of κ q x ts v h)
first_of κ (loop f q e s) x ts v (ends h) = inr (first_of κ (e s) x ts v h)
first_of κ (loop f q e s) x ts v (goes t a b h rest parts) =
    let l : x ∷ ts ≡ (h.0 ∷ h.2) ++ b = parts ∙ ap (λ (z : List _). z ++ b) h.3 in
    let k : h.0 ≡ x = cc in inl (h.1, subst (λ z. f s κ z ≡ takes h.1) k h.4)
first_of κ (under j p) x ts v h = first_of j p x ts v h

-- what comes next where the text of p is followed by y
front : {X : Type 0} (a : List X) (y : X) (b : List X) → (x : X) × (d : List X) × (a ++ y ∷ b ≡ x ∷ d)
front [] y b = (y, b, refl)
front (x ∷ a) y b = (x, a ++ y ∷ b, refl)

next_of : {K X R A : Type 0} (κ : K) (p : Part K X R A) (F : A → X → Type 0) (a : List X) (y : X) (b : List X) (v : A) → Spells κ p a v → F v y → Next κ p F (front a y b).0
unfolding front
next_of κ p F [] y b v h k = inr (v, empty_of κ p v h, k)
next_of κ p F (x ∷ a) y b v h k = inl (first_of κ p x a v h)

-- ---- what is spelled is read

again_token : {X R A : Type 0} (f : X → Result A R) (a b : List X) (v : A) → TokenText f a v → take_token f (a ++ b) ≡ Ok (v, b)
again_token f a b v h = rw (h.1, h.2) refl

again_then : {K X R A B : Type 0} (κ : K) (p : Part K X R A) (q : A → Part K X R B) (a b : List X) (v : B) → (h : ThenText (Spells κ p) (λ u. Spells κ (q u)) a v)
    → read κ p (h.1 ++ (h.2 ++ b)) ≡ Ok (h.0, h.2 ++ b) → read κ (q h.0) (h.2 ++ b) ≡ Ok (v, b) → read κ (sequence p q) (a ++ b) ≡ Ok (v, b)
again_then κ p q a b v h one two =
    let e : read κ p (a ++ b) ≡ Ok (h.0, h.2 ++ b) = ap (read κ p) (ap (λ (z : List _). z ++ b) h.3 ∙ append_assoc h.1 h.2 b) ∙ one in
    rw e two

again_taken : {K X R A C : Type 0} (κ : K) (f : K → X → Glance C R) (p : C → Part K X R A) (q : Part K X R A) (a b : List X) (v : A) → (h : TakenText (f κ) (λ c. Spells κ (p c)) a v) → read κ (p h.1) (h.2 ++ b) ≡ Ok (v, b) → read κ (ahead f p q) (a ++ b) ≡ Ok (v, b)
again_taken κ f p q a b v h k = rw (h.3, h.4) k

again_left : {K X R A C : Type 0} (κ : K) (f : K → X → Glance C R) (p : C → Part K X R A) (q : Part K X R A) (ts : List X) (x : X) (d : List X) (v : A) (rest : List X) → ts ≡ x ∷ d → f κ x ≡ leaves → read κ q ts ≡ Ok (v, rest) → read κ (ahead f p q) ts ≡ Ok (v, rest)
again_left κ f p q ts x d v rest e k h = let g : read κ (ahead f p q) (x ∷ d) ≡ read κ q (x ∷ d) = rw k refl in ap (read κ (ahead f p q)) e ∙ g ∙ ap (read κ q) (sym e) ∙ h

module _ {K X R A C S : Type 0} (κ : K) (f : S → K → X → Glance C R) (q : S → C → Part K X R S) (e : S → Part K X R A) (F : A → X → Type 0) (leaves_next : (s : S) (x : X) → Next κ (e s) F x → f s κ x ≡ leaves) where
  again_rounds : ((s : S) (c : C) (a : List X) (y : X) (b : List X) (t : S) → Spells κ (q s c) a t → Next κ (loop f q e t) F y → read κ (q s c) (a ++ y ∷ b) ≡ Ok (t, y ∷ b))
      → ((s : S) (a : List X) (y : X) (b : List X) (v : A) → Spells κ (e s) a v → F v y → read κ (e s) (a ++ y ∷ b) ≡ Ok (v, y ∷ b))
      → (s : S) (a : List X) (y : X) (b : List X) (v : A) → Rounds (λ s. f s κ) (λ s c. Spells κ (q s c)) (λ s. Spells κ (e s)) s a v → F v y → read κ (loop f q e s) (a ++ y ∷ b) ≡ Ok (v, y ∷ b)
  again_rounds one end s a y b v (ends h) k =
      let g = front a y b in
      read_loop κ f q e s (a ++ y ∷ b) ∙ again_left κ (f s) (λ c. sequence (q s c) (λ t. loop f q e t)) (e s) (a ++ y ∷ b) g.0 g.1 v (y ∷ b) g.2 (leaves_next s g.0 (next_of κ (e s) F a y b v h k)) (end s a y b v h k)
  again_rounds one end s a y b v (goes t c d h rest parts) k =
      let g = front d y b in
      let first = one s h.1 h.2 g.0 g.1 t h.5 (next_of κ (loop f q e t) F d y b v rest k) in
      let here : read κ (q s h.1) (h.2 ++ (d ++ y ∷ b)) ≡ Ok (t, d ++ y ∷ b) = subst (λ (z : List X). read κ (q s h.1) (h.2 ++ z) ≡ Ok (t, z)) (sym g.2) first in
      let same : a ++ y ∷ b ≡ h.0 ∷ (h.2 ++ (d ++ y ∷ b)) = ap (λ (z : List X). z ++ y ∷ b) (parts ∙ ap (λ (z : List X). z ++ d) h.3) ∙ ap (λ (z : List X). h.0 ∷ z) (append_assoc h.2 d (y ∷ b)) in
      read_loop κ f q e s (a ++ y ∷ b) ∙ ap (read κ (opened f q e s)) same ∙ rw (h.4, here) (again_rounds one end t d y b v rest k)

-- What spells a value is read as that value, and the token after it is left, if it may follow.
pub again : {K X R A : Type 0} (κ : K) (p : Part K X R A) (F : A → X → Type 0) → IsClear κ p F → (a : List X) (y : X) (b : List X) (v : A) → Spells κ p a v → F v y → read κ p (a ++ y ∷ b) ≡ Ok (v, y ∷ b)
again κ (gives w) F clear a y b v h k = rw (h.0, h.1) refl
again κ (token f) F clear a y b v h k = again_token (f κ) a (y ∷ b) v h
again κ (sequence p q) F clear a y b v h k =
    let f = front h.2 y b in
    again_then κ p q a (y ∷ b) v h
    (subst (λ (z : List _). read κ p (h.1 ++ z) ≡ Ok (h.0, z)) (sym f.2) (again κ p (λ u. Next κ (q u) F) clear.0 h.1 f.0 f.1 h.0 h.4 (next_of κ (q h.0) F h.2 y b v h.5 k)))
    (again κ (q h.0) F (clear.1 h.0) h.2 y b v h.5 k)
again κ (ahead f p q) F clear a y b v (inl h) k = again_taken κ f p q a (y ∷ b) v h (again κ (p h.1) F (clear.0 h.1) h.2 y b v h.5 k)
again κ (ahead f p q) F clear a y b v (inr h) k =
    let g = front a y b in
    again_left κ f p q (a ++ y ∷ b) g.0 g.1 v (y ∷ b) g.2 (clear.2 g.0 (next_of κ q F a y b v h k)) (again κ q F clear.1 a y b v h k)
again κ (loop f q e s) F clear a y b v h k =
    again_rounds κ f q e F clear.2 (λ s c a y b t. again κ (q s c) (λ t. Next κ (loop f q e t) F) (clear.0 s c) a y b t) (λ s a y b v. again κ (e s) F (clear.1 s) a y b v) s a y b v h k
again κ (under j p) F clear a y b v h k = again j p F clear a y b v h k
