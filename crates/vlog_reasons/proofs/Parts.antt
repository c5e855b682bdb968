-- What parts of the grammar are made of, where they stand: names, marks, keywords, lists, bounds, ranges and selects.
use Rattle.std.proofs.Common.{◌≡◌, refl, sym, subst, ℕ, Bool, true, false, ◌&&◌, ◌||◌, List, [], ◌∷◌, ◌++◌, Ok, Err, Some}
use Rattle.std.specs.Prelude.{ℤ, neg_ℤ}
use Rattle.grammar.specs.Part.{gives, sequence}
use Rattle.grammar.specs.Reading.{refused, ended}
use Rattle.grammar.specs.Whole.{proper}
use Rattle.vlog_tokens.specs.declared.token.VToken.TheVariants as t
use Rattle.vlog_exprs.specs.Language.{Vlog}
use Rattle.vlog_exprs.specs.Reasons as say
use Rattle.vlog_exprs.specs.Grammar.{name, mark, keyword, choice, group_end, after as if_mark, commas, list, bound_number, bound, range_rest, maybe_range, select_rest, select}
use Rattle.vlog_reasons.specs.Context.{Tokens, Brace, Context, is_mark, after}
use Rattle.vlog_reasons.specs.Rows.{opens_bound, may_be_size, is_no_size, expression_is_due}
use Rattle.vlog_reasons.proofs.Tracking.{Answer, Before, Behind, Says, Tracks, tracks_gives, tracks_one, tracks_then, tracks_from, tracks_if, tracks_while}
use Rattle.vlog_reasons.proofs.Standing.{calm_fine, In, At, Opens, Ahead, Out, ahead_out, IsQuiet, calm_mark}
use Rattle.vlog_reasons.proofs.Judges.{name_by, group_end_by, mark_by, at_mark_by, keyword_by, choice_by}
use Rattle.vlog_reasons.proofs.Starts.{NumberAt, bound_by}

-- read from such a place in braces, a part ends in one
abbrev pub Keeps : {A : Type 0} → List Brace → Vlog A → Type 0
Keeps bs p = Tracks p (In bs) (λ _. In bs)

abbrev pub Stays : {A : Type 0} → Vlog A → Type 0
Stays p = Tracks p Out (λ _. Out)

pub then_keeps : {A B : Type 0} (bs : List Brace) {p : Vlog A} {q : A → Vlog B} (I : Before) → Tracks p I (λ _. In bs) → ((v : A) → Keeps bs (q v))
    → Tracks (sequence p q) I (λ _. In bs)
then_keeps bs {p} {q} I h all = tracks_then p q I (λ _. In bs) (λ _. In bs) h all

pub gives_keeps : {A : Type 0} (bs : List Brace) (v : A) → Keeps bs (gives v)
gives_keeps bs v = tracks_gives v (In bs) (λ _. In bs) (λ c ts i. i)

-- less said of what stands behind
pub tracks_less : {A : Type 0} (p : Vlog A) (I : Before) (P Q : Behind A) → ((v : A) (c : Context) (ts : Tokens) → P v c ts → Q v c ts)
    → Tracks p I P → Tracks p I Q
tracks_less {A = A} p I P Q less h = record { says = λ c ts i. by c ts _ (h.says c ts i) }
  where
    by : (c : Context) (ts : Tokens) (r : Answer A) → Says p c P ts r → Says p c Q ts r
    by c ts (Ok y) h = (h.0, h.1, less y.0 _ y.1 h.2, h.3)
    by c ts (Err (refused x r)) h = h
    by c ts (Err ended) h = h

-- ---- one token

pub keeps_name : (bs : List Brace) → Keeps bs name
keeps_name bs = tracks_one say.name_of (In bs) (λ _. In bs) (λ c x b i. name_by bs c b i.0 x.token i.1)

pub keeps_group_end : (bs : List Brace) → Keeps bs group_end
keeps_group_end bs = tracks_one say.group_end_of (In bs) (λ _. In bs) (λ c x b i. group_end_by bs c b i.0 x.token i.1)

-- a mark, with what holds behind it
pub tracks_mark : (bs : List Brace) (due : ℕ) (P : Before) → ((c : Context) (b : Tokens) → c.braces ≡ bs → P (after c (t.Punct due)) b)
    → Tracks (mark due) (In bs) (λ _. P)
tracks_mark bs due P h = tracks_one (say.mark_of due) (In bs) (λ _. P) (λ c x b i. mark_by P c b due (h c b i.0) x.token i.1)

pub behind_quiet : (bs : List Brace) (due : ℕ) → IsQuiet due → (c : Context) (b : Tokens) → c.braces ≡ bs → In bs (after c (t.Punct due)) b
behind_quiet bs due q c b e = (subst (λ (z : List Brace). z ≡ bs) (sym (q.braces c)) e, calm_fine (after c (t.Punct due)) b (calm_mark c due q))

pub keeps_mark : (bs : List Brace) (due : ℕ) → IsQuiet due → Keeps bs (mark due)
keeps_mark bs due q = tracks_mark bs due (In bs) (behind_quiet bs due q)

pub stays_keyword : (due : List ℕ) → Stays (keyword due)
stays_keyword due = tracks_less _ Out (λ _. Ahead) (λ _. Out) (λ v c ts i. ahead_out c ts i)
    (tracks_one (say.keyword_of due) Out (λ _. Ahead) (λ c x b i. keyword_by c b i.0 due x.token i.1))

pub choice_ahead : {A : Type 0} (words : List (List ℕ × A)) → Tracks (choice words) Out (λ _. Ahead)
choice_ahead words = tracks_one (say.choice_of words) Out (λ _. Ahead) (λ c x b i. choice_by c b i.0 words x.token i.1)

-- ---- ways to put parts together

-- a mark and p, or else q
pub tracks_if_mark : {A : Type 0} (bs : List Brace) (due : ℕ) (p q : Vlog A) (K : Before) (P : Behind A)
    → ((c : Context) (b : Tokens) → c.braces ≡ bs → K (after c (t.Punct due)) b) → Tracks p K P → Tracks q (In bs) P
    → Tracks (if_mark due p q) (In bs) P
unfolding if_mark
tracks_if_mark bs due p q K P h first other =
    tracks_if (say.at_mark due) (λ _. p) q (In bs) (λ _. K) (In bs) P (λ c x b i. at_mark_by K c b due (h c b i.0) (In bs c (proper x ∷ b)) x.token i)
    (λ c p b i. (i.0, tt)) (λ _. first) other

module _ {A : Type 0} (bs : List Brace) (p : Vlog A) (close : Vlog (Unit {0})) (K J : Before)
    (comma : (c : Context) (b : Tokens) → c.braces ≡ bs → K (after c (t.Punct 44)) b) (turn : Tracks p K (λ _. In bs))
    (closes : Tracks close (In bs) (λ _. J)) where
  pub tracks_commas : (so_far : List A) → Tracks (commas p close so_far) (In bs) (λ _. J)
  unfolding commas
  tracks_commas so_far =
      tracks_while (say.at_mark 44) (λ so_far _. sequence p (λ a. gives (so_far ++ a ∷ []))) (λ so_far. sequence close (λ _. gives so_far))
      (In bs) (λ _. K)
      (In bs) (λ _. J) (λ c x b i. at_mark_by K c b 44 (comma c b i.0) (In bs c (proper x ∷ b)) x.token i) (λ c p b i. (i.0, tt))
      (λ s v. then_keeps bs K turn (λ a. gives_keeps bs _))
      (λ s. tracks_then close (λ _. gives s) (In bs) (λ _. J) (λ _. J) closes (λ u. tracks_gives s J (λ _. J) (λ c ts i. i))) so_far

  pub tracks_list : (I : Before) → Tracks p I (λ _. In bs) → Tracks (list p close) I (λ _. J)
  unfolding list
  tracks_list I first = tracks_then p (λ a. commas p close (a ∷ [])) I (λ _. In bs) (λ _. J) first (λ a. tracks_commas (a ∷ []))

-- ---- outside braces

pub then_stays : {A B : Type 0} {p : Vlog A} {q : A → Vlog B} → Stays p → ((v : A) → Stays (q v)) → Stays (sequence p q)
then_stays h all = then_keeps [] Out h all

pub gives_stays : {A : Type 0} {v : A} → Stays (gives v)
gives_stays {v = v} = gives_keeps [] v

-- behind a mark an expression or a constant may begin
pub behind_ahead : (due : ℕ) → IsQuiet due → Opens (t.Punct due) → (c : Context) (b : Tokens) → c.braces ≡ [] → Ahead (after c (t.Punct due)) b
behind_ahead due q o c b e = (t.Punct due, o, subst (λ (z : List Brace). z ≡ []) (sym (q.braces c)) e, refl)

pub behind_comma : (c : Context) (b : Tokens) → c.braces ≡ [] → Ahead (after c (t.Punct 44)) b
behind_comma c b e = (t.Punct 44, record { no_bound = refl; no_minus = refl; no_size = refl; no_number = refl; sizes = refl }, e, refl)

pub out_comma : (c : Context) (b : Tokens) → c.braces ≡ [] → Out (after c (t.Punct 44)) b
out_comma c b e = ahead_out (after c (t.Punct 44)) b (behind_comma c b e)

-- whatever there is a place for
pub tracks_any : {A X : Type 0} (p : Vlog A) (I : X → Before) (P : Behind A) → ((w : X) → Tracks p (I w) P) → Tracks p (λ c ts. (w : X) × I w c ts) P
tracks_any p I P h = record { says = λ c ts i. (h i.0).says c ts i.1 }

pub from_out : {A : Type 0} (p : Vlog A) → Stays p → Tracks p Ahead (λ _. Out)
from_out p h = tracks_from p Out Ahead (λ _. Out) ahead_out h

-- ---- bounds, ranges and selects

pub record IsBoundMark (m : ℕ) : Type 0 where
  pub opens : opens_bound (Some (t.Punct m)) ≡ true
  pub start : expression_is_due (Some (t.Punct m)) ≡ false
  pub sizes : may_be_size (Some (t.Punct m)) ≡ false

or_true : (a b : Bool) → a ≡ true → (a || b) ≡ true
or_true true b e = refl
or_true false b e = absurd cc

module _ (bs : List Brace) (m : ℕ) (k : IsBoundMark m) where
  number_here : (c : Context) (ts : Tokens) → At (t.Punct m) bs c ts → NumberAt bs c ts
  number_here c ts i = record {
    braces = i.0;
    bound = or_true (opens_bound c.last) (is_mark 45 c.last && opens_bound c.earlier) (subst (λ z. opens_bound z ≡ true) (sym i.1) k.opens);
    size = subst (λ z. is_no_size z ≡ false) (sym i.1) refl;
    start = subst (λ z. expression_is_due z ≡ false) (sym i.1) k.start;
    behind_it = subst (λ z. may_be_size z ≡ false) (sym i.1) k.sizes;
  }

  number_behind : (c : Context) (b : Tokens) → At (t.Punct m) bs c b → (ts : Tokens) → NumberAt bs (after c (t.Punct 45)) ts
  number_behind c b i ts =
      record { braces = i.0; bound = subst (λ z. opens_bound z ≡ true) (sym i.1) k.opens; size = refl; start = refl; behind_it = refl }

  abbrev NumberHere : Before
  NumberHere c ts = (us : Tokens) → NumberAt bs c us

  keeps_number : Tracks bound_number NumberHere (λ _. In bs)
  keeps_number = tracks_one say.bound_of NumberHere (λ _. In bs) (λ c x b i. bound_by bs c b i x.token)

  pub tracks_bound : Tracks bound (At (t.Punct m) bs) (λ _. In bs)
  unfolding bound if_mark
  tracks_bound =
      tracks_if (say.at_mark 45) (λ _. sequence bound_number (λ n. gives (neg_ℤ n))) bound_number
      (At (t.Punct m) bs) (λ _. NumberHere) NumberHere (λ _. In bs)
      (λ c x b i. at_mark_by NumberHere c b 45 (λ ts. number_behind c b i ts) (NumberHere c (proper x ∷ b)) x.token (λ ts. number_here c ts i))
      (λ c p b i ts. number_here c ts i) (λ _. then_keeps bs NumberHere keeps_number (λ n. gives_keeps bs _)) keeps_number

bracket : IsBoundMark 91
bracket = record { opens = refl; start = refl; sizes = refl }

colon : IsBoundMark 58
colon = record { opens = refl; start = refl; sizes = refl }

pub quiet_close : IsQuiet 93
quiet_close = record { no_bound = refl; no_minus = refl; no_start = refl; braces = λ c. refl }

behind_bracket : (bs : List Brace) (c : Context) (b : Tokens) → c.braces ≡ bs → At (t.Punct 91) bs (after c (t.Punct 91)) b
behind_bracket bs c b e = (e, refl)

behind_colon : (bs : List Brace) (c : Context) (b : Tokens) → c.braces ≡ bs → At (t.Punct 58) bs (after c (t.Punct 58)) b
behind_colon bs c b e = (e, refl)

range_tracks : Tracks range_rest (At (t.Punct 91) []) (λ _. Out)
unfolding range_rest
range_tracks =
    then_keeps [] (At (t.Punct 91) []) (tracks_bound [] 91 bracket)
    (λ l. tracks_then _ _ Out (λ _. At (t.Punct 58) []) (λ _. Out) (tracks_mark [] 58 (At (t.Punct 58) []) (behind_colon []))
    (λ u. then_keeps [] (At (t.Punct 58) []) (tracks_bound [] 58 colon) (λ r. then_stays (keeps_mark [] 93 quiet_close) (λ v. gives_stays))))

pub stays_range : Stays maybe_range
unfolding maybe_range
stays_range =
    tracks_if_mark [] 91 _ _ (At (t.Punct 91) []) (λ _. Out) (behind_bracket [])
    (then_keeps [] (At (t.Punct 91) []) range_tracks (λ r. gives_stays)) gives_stays

select_rest_keeps : (bs : List Brace) (left : ℤ) → Keeps bs (select_rest left)
unfolding select_rest
select_rest_keeps bs left =
    tracks_if_mark bs 58 _ _ (At (t.Punct 58) bs) (λ _. In bs) (behind_colon bs)
    (then_keeps bs (At (t.Punct 58) bs) (tracks_bound bs 58 colon)
    (λ r. then_keeps bs (In bs) (keeps_mark bs 93 quiet_close) (λ u. gives_keeps bs _)))
    (then_keeps bs (In bs) (keeps_mark bs 93 quiet_close) (λ u. gives_keeps bs _))

pub keeps_select : (bs : List Brace) → Keeps bs select
unfolding select
keeps_select bs =
    tracks_if_mark bs 91 _ _ (At (t.Punct 91) bs) (λ _. In bs) (behind_bracket bs)
    (then_keeps bs (At (t.Punct 91) bs) (tracks_bound bs 91 bracket) (λ n. select_rest_keeps bs n)) (gives_keeps bs _)
