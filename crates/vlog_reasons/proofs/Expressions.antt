-- What expressions, constants and attributes read where they stand.
use Rattle.std.proofs.Common.{◌≡◌, refl, sym, ap, subst, ℕ, zero, suc, ◌+◌, eqb, Bool, true, false, cond, List, [], ◌∷◌, ◌++◌, Some, arith}
use Rattle.std.specs.Prelude.{ℤ}
use Rattle.std.proofs.lemmas.Bool.{eqb-true}
use Rattle.grammar.specs.Part.{gives, sequence, takes, leaves}
use Rattle.grammar.specs.Whole.{proper}
use Rattle.vlog_tokens.specs.declared.token.VToken.{VToken}
use Rattle.vlog_tokens.specs.declared.token.VToken.TheVariants as t
use Rattle.vlog_values.specs.declared.expression.Attr.{Attr}
use Rattle.vlog_values.specs.declared.expression.Expr.{Expr}
use Rattle.vlog_exprs.specs.Language.{Vlog}
use Rattle.vlog_exprs.specs.Reasons as say
use Rattle.vlog_exprs.specs.Grammar.{mark, group_end, after as if_mark, commas, digits, sized, sized_const, expr_start, expr_rest, expr_by, cat_rest, rep_rest, braced, inside, expr, maybe_expr, const_start, const_rest, constant, attr_value, attr, group, groups, attrs}
use Rattle.vlog_exprs.specs.declared.start.ExprStart.{ExprStart}
use Rattle.vlog_exprs.specs.declared.start.ExprStart.TheVariants as starts
use Rattle.vlog_exprs.specs.declared.start.ConstStart.{ConstStart}
use Rattle.vlog_exprs.specs.declared.start.ConstStart.TheVariants as const_starts
use Rattle.vlog_reasons.specs.Context.{Tokens, Brace, Level, Second, Context, levels, opened, after}
use Rattle.vlog_reasons.proofs.Tracking.{Seen, Tracks, tracks_gives, tracks_one, tracks_then, tracks_if, tracks_while}
use Rattle.vlog_reasons.proofs.Standing.{calm_token, calm_fine, In, At, Opens, calm_at, Ahead, Out, ahead_out, IsQuiet, Sized}
use Rattle.vlog_reasons.proofs.Judges.{at_group_by}
use Rattle.vlog_reasons.proofs.Starts.{digits_by, SignAt, ConstStarted, const_start_by, signed_by, BraceOpen, Started, Room, expr_start_by, at_expr_by}
use Rattle.vlog_reasons.proofs.Parts.{Stays, then_keeps, gives_keeps, keeps_name, keeps_group_end, tracks_mark, tracks_if_mark, tracks_commas, tracks_list, then_stays, gives_stays, behind_ahead, out_comma, from_out, keeps_select}

-- ---- digits

digits_keeps : (bs : List Brace) (u : VToken) (n : ℤ) → Opens u → Tracks (digits n) (Sized u n bs) (λ _. In bs)
unfolding digits
digits_keeps bs u n o =
    tracks_if (say.at_digits n) _ _ (Sized u n bs) (λ _. In bs) (In bs) (λ _. In bs) (λ c x b i. digits_by bs u n o c b i.0 i.1 i.2 x.token)
    (λ c p b i. (i.0, tt)) (λ l. gives_keeps bs _) (gives_keeps bs _)

sized_keeps : (bs : List Brace) (u : VToken) (n : ℤ) → Opens u → Tracks (sized n) (Sized u n bs) (λ _. In bs)
unfolding sized
sized_keeps bs u n o = then_keeps bs (Sized u n bs) (digits_keeps bs u n o) (λ l. gives_keeps bs _)

-- ---- expressions

start_tracks : (left : Bool) (room : ℕ) (u : VToken) (bs : List Brace) → Room room u bs → Tracks (expr_start left room) (At u bs) (Started room u bs)
start_tracks left room u bs r =
    tracks_one (say.expr_start left room) (At u bs) (Started room u bs) (λ c x b i. expr_start_by room u bs r c b i.0 i.1 left x.token)

rest_keeps : (room : ℕ) (u : VToken) (bs : List Brace) (p : Vlog Expr) → Opens u → Tracks p (BraceOpen room bs) (λ _. In bs) → (s : ExprStart)
    → Tracks (expr_rest p s) (Started room u bs s) (λ _. In bs)
unfolding expr_rest
rest_keeps room u bs p o h (starts.Name n) = then_keeps bs (In bs) (keeps_select bs) (λ s. gives_keeps bs _)
rest_keeps room u bs p o h (starts.Number n) = sized_keeps bs u n o
rest_keeps room u bs p o h (starts.Based d) = gives_keeps bs _
rest_keeps room u bs p o h starts.Brace = h

by_keeps : (left : Bool) (room : ℕ) (u : VToken) (bs : List Brace) (p : Vlog Expr) → Room room u bs → Tracks p (BraceOpen room bs) (λ _. In bs)
    → Tracks (expr_by left room p) (At u bs) (λ _. In bs)
unfolding expr_by
by_keeps left room u bs p r h =
    tracks_then (expr_start left room) (expr_rest p) (At u bs) (Started room u bs) (λ _. In bs) (start_tracks left room u bs r)
    (rest_keeps room u bs p r.opens h)

-- ---- in braces

abbrev brace : VToken
brace = t.Punct 123

brace_opens : Opens brace
brace_opens = record { no_bound = refl; no_minus = refl; no_size = refl; no_number = refl; sizes = refl }

room_at_brace : (room : ℕ) (bs : List Brace) → levels bs + room ≡ 64 → Room room brace bs
room_at_brace room bs e = record { opens = brace_opens; all_levels = e; start = λ z. refl }

room_at_comma : (room : ℕ) (bs : List Brace) → levels bs + room ≡ 64 → Room room (t.Punct 44) bs
room_at_comma room bs e =
    record { opens = record { no_bound = refl; no_minus = refl; no_size = refl; no_number = refl; sizes = refl }; all_levels = e; start = λ z. refl }

comma_in : (bs : List Brace) (c : Context) (b : Tokens) → c.braces ≡ bs → At (t.Punct 44) bs (after c (t.Punct 44)) b
comma_in bs c b e = (e, refl)

-- behind the `}` of some braces
close_behind : (y : Brace) (bs : List Brace) (c : Context) (b : Tokens) → c.braces ≡ y ∷ bs → In bs (after c (t.Punct 125)) b
close_behind y bs c b e = (
  subst (λ (z : List Brace). (after (record { braces = z; last = c.last; earlier = c.earlier }) (t.Punct 125)).braces ≡ bs) (sym e) refl,
  calm_fine (after c (t.Punct 125)) b (record { bound = refl; size = refl; brace = refl }),
)

close_tracks : (y : Brace) (bs : List Brace) → Tracks (mark 125) (In (y ∷ bs)) (λ _. In bs)
close_tracks y bs = tracks_mark (y ∷ bs) 125 (In bs) (close_behind y bs)

-- each expression in some braces
abbrev Each : List Brace → Vlog Expr → Type 0
Each bs p = Tracks p (At brace bs) (λ _. In bs) × Tracks p (At (t.Punct 44) bs) (λ _. In bs)

cat_tracks : (y : Brace) (bs : List Brace) (p : Vlog Expr) → Each (y ∷ bs) p → (e : Expr) → Tracks (cat_rest p e) (In (y ∷ bs)) (λ _. In bs)
unfolding cat_rest
cat_tracks y bs p h e =
    tracks_then (commas p (mark 125) (e ∷ [])) _ (In (y ∷ bs)) (λ _. In bs) (λ _. In bs)
    (tracks_commas (y ∷ bs) p (mark 125) (At (t.Punct 44) (y ∷ bs)) (In bs) (comma_in (y ∷ bs)) h.1 (close_tracks y bs) (e ∷ []))
    (λ es. gives_keeps bs _)

rep_tracks : (bs : List Brace) (p : Vlog Expr) → Each (Second ∷ Level ∷ bs) p → (n : ℤ)
    → Tracks (rep_rest p n) (At brace (Second ∷ Level ∷ bs)) (λ _. In bs)
unfolding rep_rest
rep_tracks bs p h n =
    tracks_then _ _ (At brace (Second ∷ Level ∷ bs)) (λ _. In (Level ∷ bs)) (λ _. In bs)
    (tracks_list (Second ∷ Level ∷ bs) p (mark 125) (At (t.Punct 44) (Second ∷ Level ∷ bs)) (In (Level ∷ bs)) (comma_in (Second ∷ Level ∷ bs)) h.1
    (close_tracks Second (Level ∷ bs)) (At brace (Second ∷ Level ∷ bs)) h.0)
    (λ es. tracks_then _ _ (In (Level ∷ bs)) (λ _. In bs) (λ _. In bs) (close_tracks Level bs) (λ u. gives_keeps bs _))

module _ (bs : List Brace) (n : ℤ) (c : Context) (b : Tokens) (i : Sized brace n (Level ∷ bs) c b) where
  second_behind : At brace (Second ∷ Level ∷ bs) (after c brace) b
  second_behind = (
    subst (λ z. opened z c.earlier ∷ c.braces ≡ Second ∷ Level ∷ bs) (sym i.1)
        (subst (λ z. opened (Some (t.Number n)) z ∷ c.braces ≡ Second ∷ Level ∷ bs) (sym i.2) (ap (λ (z : List Brace). Second ∷ z) i.0)),
    refl,
  )

  seen_second : (L : Type 0) (m : ℕ) (test : Bool) → eqb m 123 ≡ test → L
      → Seen (λ (_ : Unit {0}) d. At brace (Second ∷ Level ∷ bs) d b) L c (t.Punct m) (cond test (takes tt) leaves)
  seen_second L m true is h = subst (λ z. At brace (Second ∷ Level ∷ bs) (after c (t.Punct z)) b) (sym (eqb-true m 123 is)) second_behind
  seen_second L m false is h = h

  at_second : (L : Type 0) (v : VToken) → L → Seen (λ (_ : Unit {0}) d. At brace (Second ∷ Level ∷ bs) d b) L c v (say.at_mark 123 v)
  at_second L (t.Name n) h = h
  at_second L (t.Keyword w) h = h
  at_second L (t.Number n) h = h
  at_second L (t.Real x) h = h
  at_second L (t.Based d) h = h
  at_second L (t.Str s) h = h
  at_second L (t.Punct m) h = seen_second L m (eqb m 123) refl h
  at_second L t.AttrStart h = h
  at_second L t.AttrStop h = h
  at_second L (t.Symbol m) h = h
  at_second L (t.Directive w) h = h

module _ (room : ℕ) (bs : List Brace) (p q : Vlog Expr) (level : Each (Level ∷ bs) p) (second : Each (Second ∷ Level ∷ bs) p)
    (h : Tracks q (BraceOpen room (Level ∷ bs)) (λ _. In (Level ∷ bs))) where
  braced_number : (n : ℤ) → Tracks (braced p q (starts.Number n)) (Sized brace n (Level ∷ bs)) (λ _. In bs)
  unfolding braced if_mark
  braced_number n =
      tracks_if (say.at_mark 123) _ _ (Sized brace n (Level ∷ bs)) (λ _. At brace (Second ∷ Level ∷ bs)) (Sized brace n (Level ∷ bs)) (λ _. In bs)
      (λ c x b i. at_second bs n c b i (Sized brace n (Level ∷ bs) c (proper x ∷ b)) x.token i) (λ c p b i. i) (λ _. rep_tracks bs p second n)
      (tracks_then _ _ (Sized brace n (Level ∷ bs)) (λ _. In (Level ∷ bs)) (λ _. In bs) (sized_keeps (Level ∷ bs) brace n brace_opens)
      (cat_tracks Level bs p level))

  braced_tracks : (s : ExprStart) → Tracks (braced p q s) (Started room brace (Level ∷ bs) s) (λ _. In bs)
  unfolding braced
  braced_tracks (starts.Number n) = braced_number n
  braced_tracks (starts.Name n) =
      tracks_then _ _ (In (Level ∷ bs)) (λ _. In (Level ∷ bs)) (λ _. In bs) (rest_keeps room brace (Level ∷ bs) q brace_opens h (starts.Name n))
      (cat_tracks Level bs p level)
  braced_tracks (starts.Based d) =
      tracks_then _ _ (In (Level ∷ bs)) (λ _. In (Level ∷ bs)) (λ _. In bs) (rest_keeps room brace (Level ∷ bs) q brace_opens h (starts.Based d))
      (cat_tracks Level bs p level)
  braced_tracks starts.Brace =
      tracks_then _ _ (BraceOpen room (Level ∷ bs)) (λ _. In (Level ∷ bs)) (λ _. In bs)
      (rest_keeps room brace (Level ∷ bs) q brace_opens h starts.Brace)
      (cat_tracks Level bs p level)

each_by : (left : Bool) (room : ℕ) (bs : List Brace) (q : Vlog Expr) → levels bs + room ≡ 64 → Tracks q (BraceOpen room bs) (λ _. In bs)
    → Each bs (expr_by left room q)
each_by left room bs q e h =
    (by_keeps left room brace bs q (room_at_brace room bs e) h, by_keeps left room (t.Punct 44) bs q (room_at_comma room bs e) h)

pub inside_tracks : (left : Bool) (room : ℕ) (bs : List Brace) → levels bs + room ≡ 64 → Tracks (inside left room) (BraceOpen room bs) (λ _. In bs)
unfolding inside
inside_tracks left zero bs e = tracks_gives _ (BraceOpen zero bs) (λ _. In bs) (λ c ts i. absurd i)
inside_tracks left (suc room) bs e =
    let less : (levels bs + 1) + room ≡ 64 = omega (arith, e) in
    tracks_then (expr_start left room) (braced (expr_by left room (inside left room)) (inside left room)) (At brace (Level ∷ bs))
    (Started room brace (Level ∷ bs)) (λ _. In bs) (start_tracks left room brace (Level ∷ bs) (room_at_brace room (Level ∷ bs) less))
    (braced_tracks room bs (expr_by left room (inside left room)) (inside left room)
    (each_by left room (Level ∷ bs) (inside left room) less (inside_tracks left room (Level ∷ bs) less))
    (each_by left room (Second ∷ Level ∷ bs) (inside left room) less (inside_tracks left room (Second ∷ Level ∷ bs) less))
    (inside_tracks left room (Level ∷ bs) less))

-- ---- outside braces

-- an expression behind whichever token may stand before it
pub expr_out : (left : Bool) → Tracks (expr left 64) Ahead (λ _. Out)
unfolding expr
expr_out left = record { says = λ c ts i. (at i.0 i.1).says c ts (i.2, i.3) }
  where
    at : (u : VToken) → Opens u → Tracks (expr_by left 64 (inside left 64)) (At u []) (λ _. Out)
    at u o = by_keeps left 64 u [] (inside left 64) (record { opens = o; all_levels = refl; start = λ z. absurd cc }) (inside_tracks left 64 [] refl)

pub maybe_expr_out : Tracks maybe_expr Ahead (λ _. Out)
unfolding maybe_expr
maybe_expr_out = record { says = λ c ts i. (at i.0 i.1).says c ts (i.2, i.3) }
  where
    at : (u : VToken) → Opens u → Tracks maybe_expr (At u []) (λ _. Out)
    at u o =
        tracks_if say.at_expr _ _ (At u []) (Started 64 u []) Out (λ _. Out)
        (λ c x b i. at_expr_by u o c b i.0 i.1 (Out c (proper x ∷ b)) x.token (ahead_out c (proper x ∷ b) (u, o, i.0, i.1)))
        (λ c p b i. (i.0, tt))
        (λ start. then_keeps [] (Started 64 u [] start) (rest_keeps 64 u [] (inside false 64) o (inside_tracks false 64 [] refl) start)
        (λ e. gives_stays))
        gives_stays

-- ---- constants and attributes

sized_const_keeps : (u : VToken) (n : ℤ) → Opens u → Tracks (sized_const n) (Sized u n []) (λ _. Out)
unfolding sized_const
sized_const_keeps u n o = then_keeps [] (Sized u n []) (digits_keeps [] u n o) (λ l. gives_stays)

const_rest_out : (u : VToken) → Opens u → (s : ConstStart) → Tracks (const_rest s) (ConstStarted u s) (λ _. Out)
unfolding const_rest
const_rest_out u o (const_starts.Whole v) = gives_stays
const_rest_out u o (const_starts.Sign negative) =
    tracks_one (say.signed_of negative) SignAt (λ _. Out) (λ c x b i. signed_by negative c b i.0 i.2 x.token i.1)
const_rest_out u o (const_starts.Number n) = sized_const_keeps u n o

pub constant_out : Tracks constant Ahead (λ _. Out)
unfolding constant
constant_out = record { says = λ c ts i. (at i.0 i.1).says c ts (i.2, i.3) }
  where
    at : (u : VToken) → Opens u → Tracks (sequence const_start const_rest) (At u []) (λ _. Out)
    at u o =
        tracks_then const_start const_rest (At u []) (ConstStarted u) (λ _. Out)
        (tracks_one say.const_start (At u []) (ConstStarted u)
        (λ c x b i. const_start_by u o c b i.0 i.1 x.token (calm_token c (calm_at c u o i.0 i.1) x.token)))
        (const_rest_out u o)

pub quiet_equals : IsQuiet 61
quiet_equals = record { no_bound = refl; no_minus = refl; no_start = refl; braces = λ c. refl }

pub behind_equals : (c : Context) (b : Tokens) → c.braces ≡ [] → Ahead (after c (t.Punct 61)) b
behind_equals = behind_ahead 61 quiet_equals (record { no_bound = refl; no_minus = refl; no_size = refl; no_number = refl; sizes = refl })

value_stays : Stays attr_value
unfolding attr_value
value_stays = tracks_if_mark [] 61 constant _ Ahead (λ _. Out) behind_equals constant_out gives_stays

attr_stays : Stays attr
unfolding attr
attr_stays = then_stays (keeps_name []) (λ n. then_stays value_stays (λ v. gives_stays))

pub group_stays : (so_far : List Attr) → Stays (group so_far)
unfolding group
group_stays so_far =
    then_stays attr_stays (λ a. tracks_commas [] attr group_end Out Out out_comma attr_stays (keeps_group_end []) (so_far ++ a ∷ []))

pub groups_stay : (so_far : List Attr) → Stays (groups so_far)
unfolding groups
groups_stay so_far =
    tracks_while say.at_group (λ so_far _. group so_far) (λ so_far. gives so_far) Out (λ _. Ahead) Out (λ _. Out)
    (λ c x b i. at_group_by c b i.0 (Out c (proper x ∷ b)) x.token i) (λ c p b i. (i.0, tt)) (λ s v. from_out (group s) (group_stays s))
    (λ s. gives_stays) so_far

pub attrs_stay : Stays attrs
attrs_stay = groups_stay []
