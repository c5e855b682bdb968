-- What a part of a text reads where it stands: where what follows it stands, and the reason of a token that it refuses.
use Rattle.std.proofs.Common.{◌≡◌, ◌∙◌, refl, sym, ap, subst, ℕ, zero, suc, ◌≤◌, List, [], ◌∷◌, ◌++◌, length, Result, Ok, Err, Option, Some, None, append_assoc, arith}
use Rattle.std.proofs.lemmas.List.{length-append}
use Rattle.grammar.specs.Part.{gives, token, sequence, ahead, loop, Glance, takes, refuses, leaves}
use Rattle.grammar.specs.Reading.{refused, ended, and_then, Found as Read, judged, take_token, glanced, read_rounds, read}
use Rattle.grammar.specs.Whole.{Terminal, proper, end}
use Rattle.grammar.proofs.Laws.{Alike}
use Rattle.grammar.proofs.Loops.{opened, read_loop}
use Rattle.nl_base.specs.declared.place.Place.{Place}
use Rattle.nl_base.specs.declared.fault.Reason.{Reason}
use Rattle.readers.specs.Parts.{of_token, at_token, one, if_next, while_next, maybe}
use Rattle.vlog_tokens.specs.declared.token.VFound.{VFound}
use Rattle.vlog_tokens.specs.declared.token.VToken.{VToken}
use Rattle.vlog_exprs.specs.Language.{Vlog, NoContext}
use Rattle.vlog_reasons.specs.Context.{Tokens, Context, after, behind, behind_all}
use Rattle.vlog_reasons.specs.Rows.{reason_of, reason_at}

abbrev pub Answer : Type 0 → Type 0
Answer A = Read (Terminal VFound Place) Reason A

-- what holds where a part begins, and behind its value: of where it stands, and of the tokens that are left
abbrev pub Before : Type 1
Before = Context → Tokens → Type 0

abbrev pub Behind : Type 0 → Type 1
Behind A = A → Context → Tokens → Type 0

-- what is said of a reading that begins where c stands: of a value and what stands behind it, or of the reason
abbrev pub Says : {A : Type 0} → Vlog A → Context → Behind A → Tokens → Answer A → Type 0
Says p c P ts (Ok x) =
    (a : Tokens) × (ts ≡ a ++ x.1) × P x.0 (behind_all c a) x.1 × ((d : Tokens) → Alike x.1 d → read tt p (a ++ d) ≡ Ok (x.0, d))
Says p c P ts (Err (refused x r)) =
    (a : Tokens) × (b : Tokens) × (ts ≡ a ++ x ∷ b) × (r ≡ reason_at (behind_all c a) x) × ((d : Tokens) → read tt p (a ++ x ∷ d) ≡ Err (refused x r))
Says p c P ts (Err ended) = Unit {0}

-- this is said of each reading of the part that begins where I holds
pub record Tracks {A : Type 0} (p : Vlog A) (I : Before) (P : Behind A) : Type 0 where
  pub says : (c : Context) (ts : Tokens) → I c ts → Says p c P ts (read tt p ts)

-- what is said of one token, which is taken or refused
abbrev pub Judged : {A : Type 0} → Context → (A → Context → Type 0) → VToken → Result A Reason → Type 0
Judged c P t (Ok v) = P v (after c t)
Judged c P t (Err r) = r ≡ reason_of c t

abbrev pub JudgedAt : {A : Type 0} → Context → (A → Context → Type 0) → Terminal VFound Place → Result A Reason → Type 0
JudgedAt c P x (Ok v) = P v (behind c x)
JudgedAt c P x (Err r) = r ≡ reason_at c x

-- what is said of a token that is looked at: K where it is taken, and L where it is left
abbrev pub Seen : {C : Type 0} → (C → Context → Type 0) → Type 0 → Context → VToken → Glance C Reason → Type 0
Seen K L c t (takes v) = K v (after c t)
Seen K L c t (refuses r) = r ≡ reason_of c t
Seen K L c t leaves = L

abbrev pub SeenAt : {C : Type 0} → Behind C → Before → Context → Terminal VFound Place → Tokens → Glance C Reason → Type 0
SeenAt K L c x b (takes v) = K v (behind c x) b
SeenAt K L c x b (refuses r) = r ≡ reason_at c x
SeenAt K L c x b leaves = L c (x ∷ b)

judged_token : {A : Type 0} (c : Context) (P : A → Context → Type 0) (x : VFound) (r : Result A Reason) → Judged c P x.token r
    → JudgedAt c P (proper x) r
unfolding reason_at
judged_token c P x (Ok v) h = h
judged_token c P x (Err r) h = h

seen_token : {C : Type 0} (K : Behind C) (L : Before) (c : Context) (x : VFound) (b : Tokens) (g : Glance C Reason)
    → Seen (λ v d. K v d b) (L c (proper x ∷ b)) c x.token g → SeenAt K L c (proper x) b g
unfolding reason_at
seen_token K L c x b (takes v) h = h
seen_token K L c x b (refuses r) h = h
seen_token K L c x b leaves h = h

-- ---- lists

behind_both : (c : Context) (a b : Tokens) → behind_all c (a ++ b) ≡ behind_all (behind_all c a) b
behind_both c [] b = refl
behind_both c (x ∷ a) b = behind_both (behind c x) a b

alike_behind : {X : Type 0} (a b d : List X) → Alike b d → Alike (a ++ b) (a ++ d)
alike_behind [] b d h = h
alike_behind (x ∷ a) b d h = refl

regroup : {X : Type 0} (ts a b c d : List X) → ts ≡ a ++ b → b ≡ c ++ d → ts ≡ (a ++ c) ++ d
regroup ts a b c d e f = e ∙ ap (λ (z : List _). a ++ z) f ∙ sym (append_assoc a c d)

-- what begins with a token still does where the rest is alike
same_front : {X : Type 0} (x : X) (ts a b d : List X) → x ∷ ts ≡ a ++ b → Alike b d → (c : List X) × (a ++ d ≡ x ∷ c)
same_front x ts [] [] d e h = absurd cc
same_front x ts [] (y ∷ b) [] e h = absurd h
same_front x ts [] (y ∷ b) (z ∷ d) e h = let k : z ≡ x = cc in (d, ap (λ z. z ∷ d) k)
same_front x ts (y ∷ a) b d e h = let k : y ≡ x = cc in (a ++ d, ap (λ z. z ∷ (a ++ d)) k)

-- ---- how a part is made

pub tracks_gives : {A : Type 0} (v : A) (I : Before) (P : Behind A) → ((c : Context) (ts : Tokens) → I c ts → P v c ts) → Tracks (gives v) I P
tracks_gives v I P h = record { says = λ c ts i. ([], refl, h c ts i, λ d k. refl) }

module _ {A : Type 0} (f : NoContext → Terminal VFound Place → Result A Reason) (I : Before) (P : Behind A) where
  says_judged : (c : Context) (x : Terminal VFound Place) (ts : Tokens) (r : Result A Reason) → f tt x ≡ r → JudgedAt c (λ v d. P v d ts) x r
      → Says (token f) c P (x ∷ ts) (judged x ts r)
  says_judged c x ts (Ok v) e h = (x ∷ [], refl, h, λ d k. rw e refl)
  says_judged c x ts (Err r) e h = ([], ts, refl, h, λ d. rw e refl)

  pub tracks_token : ((c : Context) (x : Terminal VFound Place) (b : Tokens) → I c (x ∷ b) → JudgedAt c (λ v d. P v d b) x (f tt x))
      → Tracks (token f) I P
  tracks_token h = record { says = by }
    where
      by : (c : Context) (ts : Tokens) → I c ts → Says (token f) c P ts (take_token (f tt) ts)
      by c [] i = tt
      by c (x ∷ ts) i = says_judged c x ts (f tt x) refl (h c x ts i)

-- one token: where it is taken, what holds behind it, and else that the reason is that of the table
module _ {A : Type 0} (f : VToken → Result A Reason) (I : Before) (P : Behind A) where
  judged_each : ((c : Context) (x : VFound) (b : Tokens) → I c (proper x ∷ b) → Judged c (λ v d. P v d b) x.token (f x.token))
      → (c : Context) (x : Terminal VFound Place) (b : Tokens) → I c (x ∷ b) → JudgedAt c (λ v d. P v d b) x (of_token (λ (y : VFound). f y.token) x)
  unfolding reason_at
  judged_each h c (proper x) b i = judged_token c (λ v d. P v d b) x (f x.token) (h c x b i)
  judged_each h c (end p) b i = refl

  pub tracks_one : ((c : Context) (x : VFound) (b : Tokens) → I c (proper x ∷ b) → Judged c (λ v d. P v d b) x.token (f x.token))
      → Tracks (one (λ _ x. f x.token)) I P
  unfolding one
  tracks_one h = tracks_token (λ _ t. of_token (λ (y : VFound). f y.token) t) I P (judged_each h)

module _ {A B : Type 0} (p : Vlog A) (q : A → Vlog B) (c : Context) (P : Behind A) (Q : Behind B) where
  says_after : (ts a b : Tokens) (u : A) (r : Answer B) → ts ≡ a ++ b → ((d : Tokens) → Alike b d → read tt p (a ++ d) ≡ Ok (u, d))
      → Says (q u) (behind_all c a) Q b r → Says (sequence p q) c Q ts r
  says_after ts a b u (Ok y) e again k = (
    a ++ k.0,
    regroup ts a b k.0 y.1 e k.1,
    subst (λ z. Q y.0 z y.1) (sym (behind_both c a k.0)) k.2,
    λ d alike. rw (append_assoc a k.0 d, again (k.0 ++ d) (subst (λ (z : Tokens). Alike z (k.0 ++ d)) (sym k.1) (alike_behind k.0 y.1 d alike)))
        (k.3 d alike),
  )
  says_after ts a b u (Err (refused x r)) e again k = (
    a ++ k.0,
    k.1,
    regroup ts a b k.0 (x ∷ k.1) e k.2,
    subst (λ z. r ≡ reason_at z x) (sym (behind_both c a k.0)) k.3,
    λ d. rw (
      append_assoc a k.0 (x ∷ d),
      again (k.0 ++ x ∷ d) (subst (λ (z : Tokens). Alike z (k.0 ++ x ∷ d)) (sym k.2)
          (alike_behind k.0 (x ∷ k.1) (x ∷ d) refl)),
    ) (k.4 d),
  )
  says_after ts a b u (Err ended) e again k = tt

  abbrev Onward : Tokens → Type 0
  Onward ts = (u : A) (a b : Tokens) → ts ≡ a ++ b → P u (behind_all c a) b → Says (q u) (behind_all c a) Q b (read tt (q u) b)

  pub says_sequence : (ts : Tokens) (r : Answer A) → Says p c P ts r → Onward ts → Says (sequence p q) c Q ts (and_then r (λ x. read tt (q x.0) x.1))
  says_sequence ts (Ok x) h all = says_after ts h.0 x.1 x.0 (read tt (q x.0) x.1) h.1 h.3 (all x.0 h.0 x.1 h.1 h.2)
  says_sequence ts (Err (refused x r)) h all = (h.0, h.1, h.2, h.3, λ d. rw (h.4 d) refl)
  says_sequence ts (Err ended) h all = tt

pub tracks_then : {A B : Type 0} (p : Vlog A) (q : A → Vlog B) (I : Before) (P : Behind A) (Q : Behind B) → Tracks p I P
    → ((u : A) → Tracks (q u) (P u) Q) → Tracks (sequence p q) I Q
tracks_then p q I P Q h all =
    record { says = λ c ts i. says_sequence p q c P Q ts (read tt p ts) (h.says c ts i) (λ u a b e k. (all u).says (behind_all c a) b k) }

module _ {A C : Type 0} (f : NoContext → Terminal VFound Place → Glance C Reason) (p : C → Vlog A) (q : Vlog A) (c : Context) (P : Behind A) where
  says_taken : (x : Terminal VFound Place) (v : C) (ts : Tokens) (r : Answer A) → f tt x ≡ takes v → Says (p v) (behind c x) P ts r
      → Says (ahead f p q) c P (x ∷ ts) r
  says_taken x v ts (Ok y) e h = (x ∷ h.0, ap (λ (z : Tokens). x ∷ z) h.1, h.2, λ d alike. rw e (h.3 d alike))
  says_taken x v ts (Err (refused y r)) e h = (x ∷ h.0, h.1, ap (λ (z : Tokens). x ∷ z) h.2, h.3, λ d. rw e (h.4 d))
  says_taken x v ts (Err ended) e h = tt

  left_on : (x : Terminal VFound Place) (d b : Tokens) → d ≡ x ∷ b → f tt x ≡ leaves → read tt (ahead f p q) d ≡ read tt q d
  left_on x d b e k = rw (e, k) refl

  says_left : (x : Terminal VFound Place) (ts : Tokens) (r : Answer A) → f tt x ≡ leaves → Says q c P (x ∷ ts) r → Says (ahead f p q) c P (x ∷ ts) r
  says_left x ts (Ok y) e h = (h.0, h.1, h.2, λ d alike. let s = same_front x ts h.0 y.1 d h.1 alike in left_on x (h.0 ++ d) s.0 s.1 e ∙ h.3 d alike)
  says_left x ts (Err (refused y r)) e h =
      (h.0, h.1, h.2, h.3, λ d. let s = same_front x ts h.0 (y ∷ h.1) (y ∷ d) h.2 refl in left_on x (h.0 ++ y ∷ d) s.0 s.1 e ∙ h.4 d)
  says_left x ts (Err ended) e h = tt

  abbrev pub Taken : Behind C
  Taken v d b = Says (p v) d P b (read tt (p v) b)

  abbrev pub Other : Before
  Other d b = Says q d P b (read tt q b)

  says_glanced : (x : Terminal VFound Place) (ts : Tokens) (g : Glance C Reason) → f tt x ≡ g → SeenAt Taken Other c x ts g
      → Says (ahead f p q) c P (x ∷ ts) (glanced x ts g (λ v. read tt (p v)) (read tt q))
  says_glanced x ts (takes v) e h = says_taken x v ts (read tt (p v) ts) e h
  says_glanced x ts (refuses r) e h = ([], ts, refl, h, λ d. rw e refl)
  says_glanced x ts leaves e h = says_left x ts (read tt q (x ∷ ts)) e h

  pub says_ahead : (ts : Tokens) → ((x : Terminal VFound Place) (b : Tokens) → ts ≡ x ∷ b → SeenAt Taken Other c x b (f tt x))
      → Says (ahead f p q) c P ts (read tt (ahead f p q) ts)
  says_ahead [] h = tt
  says_ahead (x ∷ ts) h = says_glanced x ts (f tt x) refl (h x ts refl)

abbrev pub IsSeen : {C : Type 0} → (NoContext → Terminal VFound Place → Glance C Reason) → Before → Behind C → Before → Type 0
IsSeen f I K L = (c : Context) (x : Terminal VFound Place) (b : Tokens) → I c (x ∷ b) → SeenAt K L c x b (f tt x)

module _ {A C : Type 0} (f : NoContext → Terminal VFound Place → Glance C Reason) (p : C → Vlog A) (q : Vlog A) (I : Before) (K : Behind C)
    (L : Before)
    (P : Behind A) (seen : IsSeen f I K L) (first : (v : C) → Tracks (p v) (K v) P) (other : Tracks q L P) where
  of_these : (c : Context) (x : Terminal VFound Place) (b : Tokens) (g : Glance C Reason) → SeenAt K L c x b g
      → SeenAt (Taken f p q c P) (Other f p q c P) c x b g
  of_these c x b (takes v) h = (first v).says (behind c x) b h
  of_these c x b (refuses r) h = h
  of_these c x b leaves h = other.says c (x ∷ b) h

  pub tracks_ahead : Tracks (ahead f p q) I P
  tracks_ahead = record { says = λ c ts i. says_ahead f p q c P ts (λ x b e. of_these c x b (f tt x) (seen c x b (subst (I c) e i))) }

module _ {A C S : Type 0} (f : S → NoContext → Terminal VFound Place → Glance C Reason) (q : S → C → Vlog S) (e : S → Vlog A) (I : Before)
    (K : Behind C)
    (L : Before) (P : Behind A) (seen : (s : S) → IsSeen (f s) I K L) (round : (s : S) (v : C) → Tracks (q s v) (K v) (λ _. I))
    (last : (s : S) → Tracks (e s) L P) where
  abbrev onward : S → C → Vlog A
  onward s v = sequence (q s v) (λ t. loop f q e t)

  says_opened : (s : S) (c : Context) (ts : Tokens) (r : Answer A) → Says (opened f q e s) c P ts r → Says (loop f q e s) c P ts r
  says_opened s c ts (Ok y) h = (h.0, h.1, h.2, λ d alike. read_loop tt f q e s (h.0 ++ d) ∙ h.3 d alike)
  says_opened s c ts (Err (refused x r)) h = (h.0, h.1, h.2, h.3, λ d. read_loop tt f q e s (h.0 ++ x ∷ d) ∙ h.4 d)
  says_opened s c ts (Err ended) h = tt

  abbrev Further : Context → Tokens → Type 0
  Further c b = (t : S) (a d : Tokens) → b ≡ a ++ d → I (behind_all c a) d → Says (loop f q e t) (behind_all c a) P d (read tt (loop f q e t) d)

  round_then : (s : S) (c : Context) (x : Terminal VFound Place) (b : Tokens) → Further (behind c x) b → (g : Glance C Reason)
      → SeenAt K L c x b g → SeenAt (Taken (f s) (onward s) (e s) c P) (Other (f s) (onward s) (e s) c P) c x b g
  round_then s c x b further (takes v) h =
      says_sequence (q s v) (λ t. loop f q e t) (behind c x) (λ _. I) P b (read tt (q s v) b) ((round s v).says (behind c x) b h) further
  round_then s c x b further (refuses r) h = h
  round_then s c x b further leaves h = (last s).says c (x ∷ b) h

  says_loop : (n : ℕ) (s : S) (c : Context) (ts : Tokens) → length ts ≤ n → I c ts → Says (loop f q e s) c P ts (read tt (loop f q e s) ts)
  unfolding read_rounds
  says_loop zero s c [] le is = tt
  says_loop zero s c (x ∷ ts) le is = absurd (omega arith)
  says_loop (suc n) s c ts le is =
      subst (Says (loop f q e s) c P ts) (sym (read_loop tt f q e s ts))
      (says_opened s c ts (read tt (opened f q e s) ts)
      (says_ahead (f s) (onward s) (e s) c P ts
      (λ x b parts. let shorter : suc (length b) ≤ suc n = subst (λ (z : Tokens). length z ≤ suc n) parts le in
      round_then s c x b (λ t a d two keeps. says_loop n t (behind_all (behind c x) a) d
      (let l = ap length two in let m = length-append a d in omega (arith, l, m, shorter)) keeps)
      (f s tt x) (seen s c x b (subst (I c) parts is)))))

  pub tracks_loop : (s : S) → Tracks (loop f q e s) I P
  tracks_loop s = record { says = λ c ts is. says_loop (length ts) s c ts (omega arith) is }

-- more is known where the part begins, and less is said of what stands behind it
pub tracks_from : {A : Type 0} (p : Vlog A) (I J : Before) (P : Behind A) → ((c : Context) (ts : Tokens) → J c ts → I c ts)
    → Tracks p I P → Tracks p J P
tracks_from p I J P more h = record { says = λ c ts j. h.says c ts (more c ts j) }

-- ---- a token that is looked at

abbrev pub IsSeenEach : {C : Type 0} → (VToken → Glance C Reason) → Before → Behind C → Before → Type 0
IsSeenEach f I K L = (c : Context) (x : VFound) (b : Tokens) → I c (proper x ∷ b) → Seen (λ v d. K v d b) (L c (proper x ∷ b)) c x.token (f x.token)

abbrev pub EndLeft : Before → Before → Type 0
EndLeft I L = (c : Context) (p : Place) (b : Tokens) → I c (end p ∷ b) → L c (end p ∷ b)

seen_each : {C : Type 0} (f : VToken → Glance C Reason) (I : Before) (K : Behind C) (L : Before) → IsSeenEach f I K L → EndLeft I L
    → IsSeen (λ _ t. at_token (λ (y : VFound). f y.token) t) I K L
seen_each f I K L h l c (proper x) b i = seen_token K L c x b (f x.token) (h c x b i)
seen_each f I K L h l c (end p) b i = l c p b i

pub tracks_if : {A C : Type 0} (f : VToken → Glance C Reason) (p : C → Vlog A) (q : Vlog A) (I : Before) (K : Behind C) (L : Before) (P : Behind A)
    → IsSeenEach f I K L → EndLeft I L → ((v : C) → Tracks (p v) (K v) P) → Tracks q L P → Tracks (if_next (λ _ x. f x.token) p q) I P
unfolding if_next
tracks_if f p q I K L P h l first other =
    tracks_ahead (λ _ t. at_token (λ (y : VFound). f y.token) t) p q I K L P (seen_each f I K L h l) first other

pub tracks_while : {A C S : Type 0} (f : VToken → Glance C Reason) (q : S → C → Vlog S) (e : S → Vlog A) (I : Before) (K : Behind C) (L : Before)
    (P : Behind A) → IsSeenEach f I K L → EndLeft I L → ((s : S) (v : C) → Tracks (q s v) (K v) (λ _. I)) → ((s : S) → Tracks (e s) L P)
    → (s : S) → Tracks (while_next (λ _ _ x. f x.token) q e s) I P
unfolding while_next
tracks_while f q e I K L P h l round last s =
    tracks_loop (λ s _ t. at_token (λ (y : VFound). f y.token) t) q e I K L P (λ s. seen_each f I K L h l) round last s

pub tracks_maybe : {C : Type 0} (f : VToken → Glance C Reason) (I : Before) (K : Behind C) (L : Before) (P : Behind (Option C))
    → IsSeenEach f I K L → EndLeft I L → ((v : C) (c : Context) (ts : Tokens) → K v c ts → P (Some v) c ts)
    → ((c : Context) (ts : Tokens) → L c ts → P None c ts) → Tracks (maybe (λ _ x. f x.token)) I P
unfolding maybe
tracks_maybe f I K L P h l some none =
    tracks_ahead (λ _ t. at_token (λ (y : VFound). f y.token) t) (λ c. gives (Some c)) (gives None) I K L P (seen_each f I K L h l)
    (λ v. tracks_gives (Some v) (K v) P (some v)) (tracks_gives None L P none)
