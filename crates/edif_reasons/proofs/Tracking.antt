-- What a part of a text reads where it stands: where what follows it stands, and the reason of a token that it refuses.
use Rattle.std.proofs.Common.{◌≡◌, ◌∙◌, refl, sym, ap, subst, ℕ, zero, suc, ◌≤◌, List, [], ◌∷◌, ◌++◌, length, Result, Ok, Err, append_assoc, arith}
use Rattle.std.proofs.lemmas.List.{length-append}
use Rattle.grammar.specs.Part.{gives, token, sequence, ahead, loop, under, Glance, takes, refuses, leaves}
use Rattle.grammar.specs.Reading.{refused, ended, and_then, Found as Read, judged, take_token, glanced, read_rounds, read}
use Rattle.grammar.specs.Whole.{Terminal, proper, end}
use Rattle.grammar.proofs.Laws.{Alike}
use Rattle.grammar.proofs.Loops.{opened, read_loop}
use Rattle.nl_base.specs.declared.place.Place.{Place}
use Rattle.nl_base.specs.declared.fault.Reason.{Reason}
use Rattle.readers.specs.Parts.{of_token, at_token, one}
use Rattle.edif_tokens.specs.declared.token.Found.{Found}
use Rattle.edif_values.specs.declared.token.Token.{Token}
use Rattle.edif_keywords.specs.Aliases.{Alias}
use Rattle.edif_keywords.specs.Language.{Edif}
use Rattle.edif_reasons.specs.Context.{Tokens, Context, after, behind, behind_all}
use Rattle.edif_reasons.specs.Rows.{reason_of, reason_at}

abbrev pub Answer : Type 0 → Type 0
Answer A = Read (Terminal Found Place) Reason A

-- what is said of a reading that begins where c stands: of a value and what stands behind it, or of the reason
abbrev pub Says : {A : Type 0} → List Alias → Edif A → Context → (A → Context → Type 0) → Tokens → Answer A → Type 0
Says κ p c P ts (Ok x) = (a : Tokens) × (ts ≡ a ++ x.1) × P x.0 (behind_all c a) × ((d : Tokens) → Alike x.1 d → read κ p (a ++ d) ≡ Ok (x.0, d))
Says κ p c P ts (Err (refused x r)) =
    (a : Tokens) × (b : Tokens) × (ts ≡ a ++ x ∷ b) × (r ≡ reason_at (behind_all c a) x) × ((d : Tokens) → read κ p (a ++ x ∷ d) ≡ Err (refused x r))
Says κ p c P ts (Err ended) = Unit {0}

-- this is said of each reading of the part
pub record Tracks {A : Type 0} (κ : List Alias) (p : Edif A) (c : Context) (P : A → Context → Type 0) : Type 0 where
  pub says : (ts : Tokens) → Says κ p c P ts (read κ p ts)

-- what is said of one token, which is taken or refused
abbrev pub Judged : {A : Type 0} → Context → (A → Context → Type 0) → Token → Result A Reason → Type 0
Judged c P t (Ok v) = P v (after c t)
Judged c P t (Err r) = r ≡ reason_of c t

abbrev pub JudgedAt : {A : Type 0} → Context → (A → Context → Type 0) → Terminal Found Place → Result A Reason → Type 0
JudgedAt c P x (Ok v) = P v (behind c x)
JudgedAt c P x (Err r) = r ≡ reason_at c x

-- what is said of a token that is looked at: T where it is taken, and L where it is left
abbrev pub Seen : {C : Type 0} → (C → Context → Type 0) → (Terminal Found Place → Tokens → Type 0) → Context → Token → Glance C Reason → Type 0
Seen T L c t (takes v) = T v (after c t)
Seen T L c t (refuses r) = r ≡ reason_of c t
Seen T L c t leaves = (x : Found) → x.token ≡ t → (b : Tokens) → L (proper x) b

abbrev pub SeenAt : {C : Type 0} → (C → Context → Type 0) → (Terminal Found Place → Tokens → Type 0) → Context → Terminal Found Place
    → Glance C Reason → Type 0
SeenAt T L c x (takes v) = T v (behind c x)
SeenAt T L c x (refuses r) = r ≡ reason_at c x
SeenAt T L c x leaves = (b : Tokens) → L x b

pub judged_token : {A : Type 0} (c : Context) (P : A → Context → Type 0) (x : Found) (r : Result A Reason) → Judged c P x.token r
    → JudgedAt c P (proper x) r
unfolding reason_at
judged_token c P x (Ok v) h = h
judged_token c P x (Err r) h = h

pub judged_each : {A : Type 0} (c : Context) (P : A → Context → Type 0) (f : Token → Result A Reason) → ((t : Token) → Judged c P t (f t))
    → (x : Terminal Found Place) → JudgedAt c P x (of_token (λ (y : Found). f y.token) x)
unfolding reason_at
judged_each c P f h (proper x) = judged_token c P x (f x.token) (h x.token)
judged_each c P f h (end p) = refl

module _ {C : Type 0} (T : C → Context → Type 0) (L : Terminal Found Place → Tokens → Type 0) (c : Context) where
  seen_token : (x : Found) (g : Glance C Reason) → Seen T L c x.token g → SeenAt T L c (proper x) g
  unfolding reason_at
  seen_token x (takes v) h = h
  seen_token x (refuses r) h = h
  seen_token x leaves h = λ b. h x refl b

  pub seen_each : (f : Token → Glance C Reason) → ((t : Token) → Seen T L c t (f t)) → ((p : Place) (b : Tokens) → L (end p) b)
      → (x : Terminal Found Place) → SeenAt T L c x (at_token (λ (y : Found). f y.token) x)
  seen_each f h l (proper x) = seen_token x (f x.token) (h x.token)
  seen_each f h l (end p) = λ b. l p b

-- ---- lists

behind_both : (c : Context) (a b : Tokens) → behind_all c (a ++ b) ≡ behind_all (behind_all c a) b
behind_both c [] b = refl
behind_both c (x ∷ a) b = behind_both (behind c x) a b

alike_behind : {X : Type 0} (a b d : List X) → Alike b d → Alike (a ++ b) (a ++ d)
alike_behind [] b d h = h
alike_behind (x ∷ a) b d h = refl

regroup : {X : Type 0} (ts a b c d : List X) → ts ≡ a ++ b → b ≡ c ++ d → ts ≡ (a ++ c) ++ d
regroup ts a b c d e f = e ∙ ap (λ (z : List _). a ++ z) f ∙ sym (append_assoc a c d)

-- what begins with a token still does where the rest is alike
same_front : {X : Type 0} (x : X) (ts a b d : List X) → x ∷ ts ≡ a ++ b → Alike b d → (c : List X) × (a ++ d ≡ x ∷ c)
same_front x ts [] [] d e h = absurd cc
same_front x ts [] (y ∷ b) [] e h = absurd h
same_front x ts [] (y ∷ b) (z ∷ d) e h = let k : z ≡ x = cc in (d, ap (λ z. z ∷ d) k)
same_front x ts (y ∷ a) b d e h = let k : y ≡ x = cc in (a ++ d, ap (λ z. z ∷ (a ++ d)) k)

-- ---- how a part is made

pub tracks_gives : {A : Type 0} (κ : List Alias) (v : A) (c : Context) (P : A → Context → Type 0) → P v c → Tracks κ (gives v) c P
tracks_gives κ v c P h = record { says = λ ts. ([], refl, h, λ d k. refl) }

module _ {A : Type 0} (κ : List Alias) (f : List Alias → Terminal Found Place → Result A Reason) (c : Context) (P : A → Context → Type 0) where
  says_judged : (x : Terminal Found Place) (ts : Tokens) (r : Result A Reason) → f κ x ≡ r → JudgedAt c P x r
      → Says κ (token f) c P (x ∷ ts) (judged x ts r)
  says_judged x ts (Ok v) e h = (x ∷ [], refl, h, λ d k. rw e refl)
  says_judged x ts (Err r) e h = ([], ts, refl, h, λ d. rw e refl)

  -- of this token alone
  pub says_one : (x : Terminal Found Place) (ts : Tokens) → JudgedAt c P x (f κ x) → Says κ (token f) c P (x ∷ ts) (read κ (token f) (x ∷ ts))
  says_one x ts h = says_judged x ts (f κ x) refl h

  pub tracks_token : ((x : Terminal Found Place) → JudgedAt c P x (f κ x)) → Tracks κ (token f) c P
  tracks_token h = record { says = by }
    where
      by : (ts : Tokens) → Says κ (token f) c P ts (take_token (f κ) ts)
      by [] = tt
      by (x ∷ ts) = says_one x ts (h x)

-- one token: where it is taken, what holds behind it, and else that the reason is that of the table
pub tracks_one : {A : Type 0} (κ : List Alias) (f : List Alias → Token → Result A Reason) (c : Context) (P : A → Context → Type 0)
    → ((t : Token) → Judged c P t (f κ t)) → Tracks κ (one (λ k x. f k x.token)) c P
unfolding one
tracks_one κ f c P h = tracks_token κ (λ k t. of_token (λ (y : Found). f k y.token) t) c P (judged_each c P (f κ) h)

module _ {A B : Type 0} (κ : List Alias) (p : Edif A) (q : A → Edif B) (c : Context) (P : A → Context → Type 0) (Q : B → Context → Type 0) where
  says_after : (ts a b : Tokens) (u : A) (r : Answer B) → ts ≡ a ++ b → ((d : Tokens) → Alike b d → read κ p (a ++ d) ≡ Ok (u, d))
      → Says κ (q u) (behind_all c a) Q b r → Says κ (sequence p q) c Q ts r
  says_after ts a b u (Ok y) e again k = (
    a ++ k.0,
    regroup ts a b k.0 y.1 e k.1,
    subst (Q y.0) (sym (behind_both c a k.0)) k.2,
    λ d alike. rw (append_assoc a k.0 d, again (k.0 ++ d) (subst (λ (z : Tokens). Alike z (k.0 ++ d)) (sym k.1) (alike_behind k.0 y.1 d alike)))
        (k.3 d alike),
  )
  says_after ts a b u (Err (refused x r)) e again k = (
    a ++ k.0,
    k.1,
    regroup ts a b k.0 (x ∷ k.1) e k.2,
    subst (λ z. r ≡ reason_at z x) (sym (behind_both c a k.0)) k.3,
    λ d. rw (
      append_assoc a k.0 (x ∷ d),
      again (k.0 ++ x ∷ d) (subst (λ (z : Tokens). Alike z (k.0 ++ x ∷ d)) (sym k.2)
          (alike_behind k.0 (x ∷ k.1) (x ∷ d) refl)),
    ) (k.4 d),
  )
  says_after ts a b u (Err ended) e again k = tt

  abbrev Onward : Tokens → Type 0
  Onward ts = (u : A) (a b : Tokens) → ts ≡ a ++ b → P u (behind_all c a) → Says κ (q u) (behind_all c a) Q b (read κ (q u) b)

  says_then : (ts : Tokens) (r : Answer A) → Says κ p c P ts r → Onward ts → Says κ (sequence p q) c Q ts (and_then r (λ x. read κ (q x.0) x.1))
  says_then ts (Ok x) h all = says_after ts h.0 x.1 x.0 (read κ (q x.0) x.1) h.1 h.3 (all x.0 h.0 x.1 h.1 h.2)
  says_then ts (Err (refused x r)) h all = (h.0, h.1, h.2, h.3, λ d. rw (h.4 d) refl)
  says_then ts (Err ended) h all = tt

  pub says_sequence : (ts : Tokens) → Says κ p c P ts (read κ p ts) → ((u : A) (a b : Tokens) → ts ≡ a ++ b → P u (behind_all c a)
      → Says κ (q u) (behind_all c a) Q b (read κ (q u) b)) → Says κ (sequence p q) c Q ts (read κ (sequence p q) ts)
  says_sequence ts h all = says_then ts (read κ p ts) h all

  pub tracks_then : Tracks κ p c P → ((u : A) (d : Context) → P u d → Tracks κ (q u) d Q) → Tracks κ (sequence p q) c Q
  tracks_then h all = record { says = λ ts. says_sequence ts (h.says ts) (λ u a b e k. (all u (behind_all c a) k).says b) }

module _ {A C : Type 0} (κ : List Alias) (f : List Alias → Terminal Found Place → Glance C Reason) (p : C
    → Edif A) (q : Edif A) (c : Context) (P : A → Context → Type 0) where
  says_taken : (x : Terminal Found Place) (v : C) (ts : Tokens) (r : Answer A) → f κ x ≡ takes v → Says κ (p v) (behind c x) P ts r
      → Says κ (ahead f p q) c P (x ∷ ts) r
  says_taken x v ts (Ok y) e h = (x ∷ h.0, ap (λ (z : Tokens). x ∷ z) h.1, h.2, λ d alike. rw e (h.3 d alike))
  says_taken x v ts (Err (refused y r)) e h = (x ∷ h.0, h.1, ap (λ (z : Tokens). x ∷ z) h.2, h.3, λ d. rw e (h.4 d))
  says_taken x v ts (Err ended) e h = tt

  left_on : (x : Terminal Found Place) (d b : Tokens) → d ≡ x ∷ b → f κ x ≡ leaves → read κ (ahead f p q) d ≡ read κ q d
  left_on x d b e k = rw (e, k) refl

  says_left : (x : Terminal Found Place) (ts : Tokens) (r : Answer A) → f κ x ≡ leaves → Says κ q c P (x ∷ ts) r → Says κ (ahead f p q) c P (x ∷ ts) r
  says_left x ts (Ok y) e h = (h.0, h.1, h.2, λ d alike. let s = same_front x ts h.0 y.1 d h.1 alike in left_on x (h.0 ++ d) s.0 s.1 e ∙ h.3 d alike)
  says_left x ts (Err (refused y r)) e h =
      (h.0, h.1, h.2, h.3, λ d. let s = same_front x ts h.0 (y ∷ h.1) (y ∷ d) h.2 refl in left_on x (h.0 ++ y ∷ d) s.0 s.1 e ∙ h.4 d)
  says_left x ts (Err ended) e h = tt

  -- what is said of other tokens that begin with this one
  abbrev pub Other : Terminal Found Place → Tokens → Type 0
  Other x b = Says κ q c P (x ∷ b) (read κ q (x ∷ b))

  says_glanced : (x : Terminal Found Place) (ts : Tokens) (g : Glance C Reason) → f κ x ≡ g
      → SeenAt (λ v d. Says κ (p v) d P ts (read κ (p v) ts)) Other c x g
      → Says κ (ahead f p q) c P (x ∷ ts) (glanced x ts g (λ v. read κ (p v)) (read κ q))
  says_glanced x ts (takes v) e h = says_taken x v ts (read κ (p v) ts) e h
  says_glanced x ts (refuses r) e h = ([], ts, refl, h, λ d. rw e refl)
  says_glanced x ts leaves e h = says_left x ts (read κ q (x ∷ ts)) e (h ts)

  says_ahead : (ts : Tokens) → ((x : Terminal Found Place) (b : Tokens) → ts ≡ x ∷ b
      → SeenAt (λ v d. Says κ (p v) d P b (read κ (p v) b)) Other c x (f κ x)) → Says κ (ahead f p q) c P ts (read κ (ahead f p q) ts)
  says_ahead [] h = tt
  says_ahead (x ∷ ts) h = says_glanced x ts (f κ x) refl (h x ts refl)

  of_these : (x : Terminal Found Place) (b : Tokens) (g : Glance C Reason) → SeenAt (λ v d. Tracks κ (p v) d P) Other c x g
      → SeenAt (λ v d. Says κ (p v) d P b (read κ (p v) b)) Other c x g
  of_these x b (takes v) h = h.says b
  of_these x b (refuses r) h = h
  of_these x b leaves h = h

  pub tracks_ahead : ((x : Terminal Found Place) → SeenAt (λ v d. Tracks κ (p v) d P) Other c x (f κ x)) → Tracks κ (ahead f p q) c P
  tracks_ahead h = record { says = λ ts. says_ahead ts (λ x b e. of_these x b (f κ x) (h x)) }

module _ {A C S : Type 0} (κ : List Alias) (f : S → List Alias → Terminal Found Place → Glance C Reason) (q : S → C → Edif S) (e : S
    → Edif A) (I : S → Context → Type 0) (P : A → Context → Type 0) where
  -- what is said of the last round
  abbrev pub Last : S → Context → Terminal Found Place → Tokens → Type 0
  Last s c x b = Says κ (e s) c P (x ∷ b) (read κ (e s) (x ∷ b))

  abbrev pub Round : S → C → Context → Type 0
  Round s v d = Tracks κ (q s v) d I

  abbrev onward : S → C → Edif A
  onward s v = sequence (q s v) (λ t. loop f q e t)

  says_opened : (s : S) (c : Context) (ts : Tokens) (r : Answer A) → Says κ (opened f q e s) c P ts r → Says κ (loop f q e s) c P ts r
  says_opened s c ts (Ok y) h = (h.0, h.1, h.2, λ d alike. read_loop κ f q e s (h.0 ++ d) ∙ h.3 d alike)
  says_opened s c ts (Err (refused x r)) h = (h.0, h.1, h.2, h.3, λ d. read_loop κ f q e s (h.0 ++ x ∷ d) ∙ h.4 d)
  says_opened s c ts (Err ended) h = tt

  abbrev Further : Context → Tokens → Type 0
  Further c b = (t : S) (a d : Tokens) → b ≡ a ++ d → I t (behind_all c a) → Says κ (loop f q e t) (behind_all c a) P d (read κ (loop f q e t) d)

  round_then : (s : S) (c : Context) (x : Terminal Found Place) (b : Tokens) → Further (behind c x) b → (g : Glance C Reason)
      → SeenAt (Round s) (Last s c) c x g → SeenAt (λ v d. Says κ (onward s v) d P b (read κ (onward s v) b)) (Last s c) c x g
  round_then s c x b further (takes v) h = says_sequence κ (q s v) (λ t. loop f q e t) (behind c x) I P b (h.says b) further
  round_then s c x b further (refuses r) h = h
  round_then s c x b further leaves h = h

  module _ (seen : (s : S) (c : Context) → I s c → (x : Terminal Found Place) → SeenAt (Round s) (Last s c) c x (f s κ x)) where
    says_loop : (n : ℕ) (s : S) (c : Context) (ts : Tokens) → length ts ≤ n → I s c → Says κ (loop f q e s) c P ts (read κ (loop f q e s) ts)
    unfolding read_rounds
    says_loop zero s c [] le is = tt
    says_loop zero s c (x ∷ ts) le is = absurd (omega arith)
    says_loop (suc n) s c ts le is =
        subst (Says κ (loop f q e s) c P ts) (sym (read_loop κ f q e s ts))
        (says_opened s c ts (read κ (opened f q e s) ts)
        (says_ahead κ (f s) (onward s) (e s) c P ts
        (λ x b parts. let shorter : suc (length b) ≤ suc n = subst (λ (z : Tokens). length z ≤ suc n) parts le in
        round_then s c x b (λ t a d two keeps. says_loop n t (behind_all (behind c x) a) d
        (let l = ap length two in let m = length-append a d in omega (arith, l, m, shorter)) keeps)
        (f s κ x) (seen s c is x))))

    pub tracks_loop : (s : S) (c : Context) → I s c → Tracks κ (loop f q e s) c P
    tracks_loop s c is = record { says = λ ts. says_loop (length ts) s c ts (omega arith) is }

-- the same where each round begins at a place of some kind
module _ {A C S X : Type 0} (κ : List Alias) (f : S → List Alias → Terminal Found Place → Glance C Reason) (q : S → C → Edif S) (e : S
    → Edif A) (place : S → X → Context) (P : A → Context → Type 0) where
  abbrev pub AtPlace : S → Context → Type 0
  AtPlace s c = (y : X) × (c ≡ place s y)

  abbrev pub SeenFrom : S → Context → Type 0
  SeenFrom s c = (x : Terminal Found Place) → SeenAt (λ v d. Tracks κ (q s v) d AtPlace)
      (λ x b. Says κ (e s) c P (x ∷ b) (read κ (e s) (x ∷ b))) c x (f s κ x)

  pub tracks_rounds : ((s : S) (y : X) → SeenFrom s (place s y)) → (s : S) (y : X) → Tracks κ (loop f q e s) (place s y) P
  tracks_rounds seen s y = tracks_loop κ f q e AtPlace P (λ s c i. subst (SeenFrom s) (sym i.1) (seen s i.0)) s (place s y) (y, refl)

pub tracks_under : {A : Type 0} (κ j : List Alias) (p : Edif A) (c : Context) (P : A → Context → Type 0) → Tracks j p c P → Tracks κ (under j p) c P
tracks_under {A = A} κ j p c P h = record { says = λ ts. by ts (read j p ts) (h.says ts) }
  where
    by : (ts : Tokens) (r : Answer A) → Says j p c P ts r → Says κ (under j p) c P ts r
    by ts (Ok y) h = h
    by ts (Err (refused x r)) h = h
    by ts (Err ended) h = h

-- less said of what stands behind
pub tracks_less : {A : Type 0} (κ : List Alias) (p : Edif A) (c : Context) (P Q : A → Context → Type 0) → ((v : A) (d : Context) → P v d → Q v d)
    → Tracks κ p c P → Tracks κ p c Q
tracks_less {A = A} κ p c P Q less h = record { says = λ ts. by ts (read κ p ts) (h.says ts) }
  where
    by : (ts : Tokens) (r : Answer A) → Says κ p c P ts r → Says κ p c Q ts r
    by ts (Ok y) h = (h.0, h.1, less y.0 (behind_all c h.0) h.2, h.3)
    by ts (Err (refused x r)) h = h
    by ts (Err ended) h = h
