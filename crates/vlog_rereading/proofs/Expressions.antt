-- What is written of constants, attributes and expressions spells them.
use Rattle.std.proofs.Common.{◌≡◌, ◌≤◌, ◌<◌, ◌^◌, ℕ, zero, suc, Bool, true, false, List, [], ◌∷◌, ◌++◌, length, map, Option, Some, None, Result, Ok, refl, sym, ap, ◌∙◌, subst, arith}
use Rattle.std.specs.Prelude.{⊤, ℤ, pos, negsuc, neg_ℤ, nat_abs, int_lt, ◌≤ℤ◌, ◌&&◌, IfSome}
use Rattle.std.specs.List.{AllByRecursion, list_all}
use Rattle.std.proofs.lemmas.Bool.{lt-ltb}
use Rattle.grammar.specs.Part.{gives, sequence, Glance, takes}
use Rattle.nl_base.specs.Ranges.{Bounds}
use Rattle.nl_base.specs.declared.number.Scaled.{Scaled}
use Rattle.nl_base.specs.declared.fault.Reason.{Reason}
use Rattle.vlog_values.specs.declared.literal.Based.{Based}
use Rattle.vlog_values.specs.declared.literal.Literal.{Literal}
use Rattle.vlog_values.specs.declared.expression.Const.{Const}
use Rattle.vlog_values.specs.declared.expression.Const.TheVariants as consts
use Rattle.vlog_values.specs.declared.expression.Attr.{Attr}
use Rattle.vlog_values.specs.declared.expression.Select.{Select}
use Rattle.vlog_values.specs.declared.expression.Select.TheVariants as selects
use Rattle.vlog_values.specs.declared.expression.Expr.{Expr, ind-Expr}
use Rattle.vlog_values.specs.declared.expression.Expr.TheViews.{roll-Expr}
use Rattle.vlog_values.specs.declared.expression.Expr.TheOpen.{Expr-F}
use Rattle.vlog_values.specs.declared.expression.Expr.TheVariants.{rolls-Ref, rolls-Lit, rolls-LooseNumber, rolls-Loose, rolls-Cat, rolls-Rep}
use Rattle.vlog_values.specs.declared.expression.Expr.TheVariants as expr
use Rattle.vlog_values.specs.Values.{AreSome, IsNumber, IsCount, IsReal, IsBound, IsRange, IsLiteral, IsConst, IsAttr, AreAttrs, IsSelect, IsExprWithin, IsExpr, is_left}
use Rattle.vlog_values.proofs.Values.{AreWithin, is_layer, out-Ref, out-Lit, out-LooseNumber, out-Loose, out-Cat, out-Rep, left-Lit, left-LooseNumber, left-Loose, left-Cat, left-Rep}
use Rattle.vlog_tokens.specs.declared.token.VToken.{VToken}
use Rattle.vlog_tokens.specs.declared.token.VToken.TheVariants as t
use Rattle.vlog_exprs.specs.declared.start.ExprStart.{ExprStart}
use Rattle.vlog_exprs.specs.declared.start.ExprStart.TheVariants as starts
use Rattle.vlog_exprs.specs.declared.start.ConstStart.TheVariants as const_starts
use Rattle.vlog_exprs.specs.Language.{Vlog}
use Rattle.vlog_exprs.specs.Reasons as say
use Rattle.vlog_exprs.specs.Grammar as g
use Rattle.vlog_exprs.specs.Grammar.{mark, bound_number, bound, range_rest, range, maybe_range, select_rest, select, digits, sized, sized_const, expr_start, expr_rest, expr_by, cat_rest, rep_rest, braced, inside, maybe_expr, const_start, const_rest, signed, constant, attr_value, attr, group, groups, attrs, commas, list, group_end}
use Rattle.vlog_writer.specs.Forms as form
use Rattle.vlog_writer.specs.Layout.{each}
use Rattle.vlog_writer.proofs.Expressions.{ref_is, lit_is, number_is, loose_is, cat_is, rep_is}
use Rattle.vlog_lexing.specs.Tokens.{tokens, part_tokens, number_tokens, real_tokens, listed_tokens, further_tokens, attributed_tokens}
use Rattle.vlog_rereading.proofs.Fronts.{Front, nothing, then, at_last, as_value, by_token, a_name, a_mark, a_group_end, taken, left, after_mark, no_mark, last_round, next_round, commas_front, list_front}

-- ---- bounds, ranges and selects

in_bound : (n : ℕ) → n < 2147483648 → say.is_bound (pos n) ≡ true
in_bound n small = rw (lt-ltb n 2147483648 small) refl

a_bound : (n : ℕ) (ts : List VToken) → n < 2147483648 → Front bound_number (pos n) (t.Number (pos n) ∷ ts) ts
a_bound n ts small = by_token say.bound_of (t.Number (pos n)) (pos n) ts (rw (in_bound n small) refl)

bound_front : (z : ℤ) (ts : List VToken) → IsBound z → Front bound z (number_tokens z ts) ts
unfolding bound
bound_front (pos n) ts good = no_mark 45 (sequence bound_number (λ n. gives (neg_ℤ n))) bound_number (a_bound n ts good)
bound_front (negsuc n) ts good = after_mark 45 (sequence bound_number (λ n. gives (neg_ℤ n))) bound_number refl (at_last {g = neg_ℤ} (a_bound (suc n) ts good))

range_rest_front : (r : Bounds) (ts : List VToken) → IsRange r → Front range_rest r (number_tokens r.left (t.Punct 58 ∷ number_tokens r.right (t.Punct 93 ∷ ts))) ts
unfolding range_rest
range_rest_front r ts good =
    then (bound_front r.left (t.Punct 58 ∷ number_tokens r.right (t.Punct 93 ∷ ts)) good.left) (then (a_mark 58 (number_tokens r.right (t.Punct 93 ∷ ts)) refl)
    (then (bound_front r.right (t.Punct 93 ∷ ts) good.right) (at_last {g = λ _. record { left = r.left; right = r.right }} (a_mark 93 ts refl))))

-- a range, if there is one
pub maybe_range_front : (r : Option Bounds) (ts : List VToken) → IfSome r IsRange → Front maybe_range r (part_tokens (form.range_part r) ts) ts
unfolding maybe_range
maybe_range_front None ts good = no_mark 91 (sequence range_rest (λ r. gives (Some r))) (gives None) (nothing None ts)
maybe_range_front (Some r) ts good = after_mark 91 (sequence range_rest (λ r. gives (Some r))) (gives None) refl (at_last {g = λ r. Some r} (range_rest_front r ts good))

-- the tokens of a select
abbrev select_tokens : Select → List VToken → List VToken
select_tokens selects.All ts = ts
select_tokens (selects.One index) ts = t.Punct 91 ∷ number_tokens index (t.Punct 93 ∷ ts)
select_tokens (selects.Slice left right) ts = t.Punct 91 ∷ number_tokens left (t.Punct 58 ∷ number_tokens right (t.Punct 93 ∷ ts))

ref_tokens : (name : List ℕ) (s : Select) (ts : List VToken) → tokens (form.ref_form name s) ts ≡ t.Name name ∷ select_tokens s ts
ref_tokens name selects.All ts = refl
ref_tokens name (selects.One index) ts = refl
ref_tokens name (selects.Slice left right) ts = refl

select_front : (s : Select) (ts : List VToken) → IsSelect s → Front select s (select_tokens s ts) ts
unfolding select select_rest
select_front selects.All ts good = no_mark 91 (sequence bound select_rest) (gives selects.All) (nothing selects.All ts)
select_front (selects.One index) ts good =
    after_mark 91 (sequence bound select_rest) (gives selects.All) refl (then (bound_front index (t.Punct 93 ∷ ts) good)
    (no_mark 58 _ _ (at_last {g = λ _. selects.One index} (a_mark 93 ts refl))))
select_front (selects.Slice left right) ts good =
    after_mark 91 (sequence bound select_rest) (gives selects.All) refl (then (bound_front left (t.Punct 58 ∷ number_tokens right (t.Punct 93 ∷ ts)) good.0)
    (after_mark 58 _ _ refl (then (bound_front right (t.Punct 93 ∷ ts) good.1) (at_last {g = λ _. selects.Slice left right} (a_mark 93 ts refl)))))

-- ---- numbers and digits

in_size : (l : Literal) → IsLiteral l → say.is_size (pos l.size) ≡ true
in_size l good = rw (lt-ltb 0 l.size (omega (arith, good.least)), lt-ltb l.size 65537 (omega (arith, good.most))) refl

at_size : (l : Literal) → IsLiteral l → say.at_digits (pos l.size) (t.Based l.based) ≡ takes l
at_size l good = rw (in_size l good) refl

digits_front : (l : Literal) (ts : List VToken) → IsLiteral l → Front (digits (pos l.size)) (Some l) (t.Based l.based ∷ ts) ts
unfolding digits
digits_front l ts good = taken (say.at_digits (pos l.size)) (λ l. gives (Some l)) (gives None) (t.Based l.based) l (at_size l good) (nothing (Some l) ts)

no_digits : (n : ℤ) (ts : List VToken) → Front (digits n) None ts ts
unfolding digits
no_digits n ts = left (say.at_digits n) (λ l. gives (Some l)) (gives None) (nothing None ts)

-- ---- constants and attributes

whole_front : (c : VToken) (v : Const) (ts : List VToken) → say.const_start c ≡ Ok (const_starts.Whole v) → Front constant v (c ∷ ts) ts
unfolding constant const_rest
whole_front c v ts h = then (by_token say.const_start c (const_starts.Whole v) ts h) (nothing v ts)

integer_front : (z : ℤ) (ts : List VToken) → Front constant (consts.Number z) (number_tokens z ts) ts
unfolding constant const_rest sized_const
integer_front (pos n) ts = then (by_token say.const_start (t.Number (pos n)) (const_starts.Number (pos n)) ts refl) (at_last {g = g.const_of_number (pos n)} (no_digits (pos n) ts))
integer_front (negsuc n) ts =
    then (by_token say.const_start (t.Punct 45) (const_starts.Sign true) (t.Number (pos (suc n)) ∷ ts) refl) (by_token (say.signed_of true) (t.Number (pos (suc n))) (consts.Number (negsuc n)) ts refl)

real_front : (m e : ℤ) (ts : List VToken) → Front constant (consts.Real (record { mantissa = m; exponent = e })) (real_tokens m e ts) ts
unfolding constant const_rest
real_front (pos n) e ts = whole_front (t.Real (record { mantissa = pos n; exponent = e })) (consts.Real (record { mantissa = pos n; exponent = e })) ts refl
real_front (negsuc n) e ts =
    then (by_token say.const_start (t.Punct 45) (const_starts.Sign true) (t.Real (record { mantissa = pos (suc n); exponent = e }) ∷ ts) refl)
    (by_token (say.signed_of true) (t.Real (record { mantissa = pos (suc n); exponent = e })) (consts.Real (record { mantissa = negsuc n; exponent = e })) ts refl)

literal_front : (l : Literal) (ts : List VToken) → IsLiteral l → Front constant (consts.Lit l) (t.Number (pos l.size) ∷ t.Based l.based ∷ ts) ts
unfolding constant const_rest sized_const
literal_front l ts good = then (by_token say.const_start (t.Number (pos l.size)) (const_starts.Number (pos l.size)) (t.Based l.based ∷ ts) refl) (at_last {g = g.const_of_number (pos l.size)} (digits_front l ts good))

pub const_front : (c : Const) (ts : List VToken) → IsConst c → Front constant c (tokens (form.const_form c) ts) ts
const_front (consts.Str s) ts good = whole_front (t.Str s) (consts.Str s) ts refl
const_front (consts.Number n) ts good = integer_front n ts
const_front (consts.Real r) ts good = real_front r.mantissa r.exponent ts
const_front (consts.Lit l) ts good = literal_front l ts good
const_front (consts.Loose b) ts good = whole_front (t.Based b) (consts.Loose b) ts refl

attr_front : (a : Attr) (ts : List VToken) → IsAttr a → Front attr a (tokens (form.attr_form a) ts) ts
unfolding attr attr_value
attr_front a ts good =
    then (a_name a.name (t.Punct 61 ∷ tokens (form.const_form a.value) ts))
    (at_last {g = λ v. record { name = a.name; value = v }} (after_mark 61 constant (gives (consts.Number (pos 1))) refl (const_front a.value ts good.value)))

-- the attributes of a group, behind its "(*"
pub group_front : (a : Attr) (as_written : List Attr) (ts : List VToken) → AreAttrs (a ∷ as_written)
    → Front (group []) (a ∷ as_written) (tokens (form.attr_form a) (further_tokens (each form.attr_form as_written) (t.AttrStop ∷ ts))) ts
unfolding group
group_front a as_written ts good =
    then (attr_front a (further_tokens (each form.attr_form as_written) (t.AttrStop ∷ ts)) good.0)
    (commas_front attr group_end t.AttrStop form.attr_form IsAttr a_group_end attr_front (a ∷ []) as_written ts good.1)

no_group : (so_far : List Attr) (ts : List VToken) → Front (groups so_far) so_far ts ts
unfolding groups
no_group so_far ts = last_round say.at_group (λ so_far _. group so_far) (λ so_far. gives so_far) so_far (nothing so_far ts)

-- all groups, behind the first "(*"
pub groups_front : (a : Attr) (as_written : List Attr) (ts : List VToken) → AreAttrs (a ∷ as_written)
    → Front (sequence (group []) groups) (a ∷ as_written) (tokens (form.attr_form a) (further_tokens (each form.attr_form as_written) (t.AttrStop ∷ ts))) ts
groups_front a as_written ts good = then (group_front a as_written ts good) (no_group (a ∷ as_written) ts)

pub attrs_front : (as_written : List Attr) (ts : List VToken) → AreAttrs as_written → Front attrs as_written (attributed_tokens (each form.attr_form as_written) ts) ts
unfolding groups
attrs_front [] ts good = no_group [] ts
attrs_front (a ∷ as_written) ts good =
    next_round say.at_group (λ so_far _. group so_far) (λ so_far. gives so_far) [] t.AttrStart tt (a ∷ as_written) refl (group_front a as_written ts good) (no_group (a ∷ as_written) ts)

-- ---- expressions

pub expr_cases : (P : Expr → Type 0) → ((name : List ℕ) (s : Select) → P (expr.Ref s name)) → ((l : Literal) → P (expr.Lit l)) → ((n : ℤ) → P (expr.LooseNumber n)) → ((b : Based) → P (expr.Loose b))
    → ((es : List Expr) → P (expr.Cat es)) → ((n : ℤ) (es : List Expr) → P (expr.Rep n es)) → (e : Expr) → P e
expr_cases P ref lit number loose cat rep e = ind-Expr P (λ x y h. by_layer x) e
  where
    by_layer : (x : Expr-F Expr) → P (roll-Expr x)
    by_layer (Expr-F.Ref s name) = subst P (sym (rolls-Ref s name)) (ref name s)
    by_layer (Expr-F.Lit l) = subst P (sym (rolls-Lit l)) (lit l)
    by_layer (Expr-F.LooseNumber n) = subst P (sym (rolls-LooseNumber n)) (number n)
    by_layer (Expr-F.Loose b) = subst P (sym (rolls-Loose b)) (loose b)
    by_layer (Expr-F.Cat es) = subst P (sym (rolls-Cat es)) (cat es)
    by_layer (Expr-F.Rep n es) = subst P (sym (rolls-Rep n es)) (rep n es)

-- an expression that may stand there, on the left of an assignment or not, with at most so many braces in one another
pub record Fits (on_left : Bool) (room : ℕ) (e : Expr) : Type 0 where
  pub within : IsExprWithin room e
  pub assignable : on_left ≡ true → is_left e ≡ true

-- the first token of an expression, and the rest
record Started (on_left : Bool) (room : ℕ) (e : Expr) (ts : List VToken) : Type 0 where
  token : VToken
  start : ExprStart
  mid : List VToken
  is : tokens (form.expr_form e) ts ≡ token ∷ mid
  says : say.expr_start on_left room token ≡ Ok start
  glance : say.at_expr token ≡ takes start
  rest : Front (expr_rest (inside on_left room) start) e mid ts

right_only : (on_left : Bool) (e : Expr) → (on_left ≡ true → is_left e ≡ true) → is_left e ≡ false → on_left ≡ false
right_only true e h other = let own = h refl in absurd (cc (own, other))
right_only false e h other = refl

count_not_negative : (n : ℕ) → pos 0 ≤ℤ negsuc n → ⊥
count_not_negative n h = absurd (omega (arith, h))

fits_each : (on_left : Bool) (room : ℕ) (es : List Expr) → AllByRecursion (IsExprWithin room) es → (on_left ≡ true → list_all (λ l. l) (map is_left es) ≡ true) → AllByRecursion (Fits on_left room) es
fits_each on_left room [] good assignable = tt
fits_each on_left room (e ∷ es) good assignable = (
  record { within = good.0; assignable = λ h. (both (is_left e) (list_all (λ l. l) (map is_left es)) (assignable h)).0 },
  fits_each on_left room es good.1 (λ h. (both (is_left e) (list_all (λ l. l) (map is_left es)) (assignable h)).1),
)
  where
    both : (a b : Bool) → (a && b) ≡ true → (a ≡ true) × (b ≡ true)
    both true b h = (refl, h)
    both false b h = absurd cc

all_fit : (on_left : Bool) (room : ℕ) (es : List Expr) → AreSome (IsExprWithin room) es → (on_left ≡ true → list_all (λ l. l) (map is_left es) ≡ true) → AreSome (Fits on_left room) es
all_fit on_left room es good assignable = record { some = good.some; all = fits_each on_left room es good.all assignable }

-- a concatenation, behind the first token of its first expression
cat_front : (on_left : Bool) (room : ℕ) (p : Vlog Expr) (e v : Expr) (start : ExprStart) (mid ts rest : List VToken)
    → Front (expr_rest (inside on_left room) start) e mid ts → Front (cat_rest p e) v ts rest → Front (braced p (inside on_left room) start) v mid rest
unfolding braced expr_rest
cat_front on_left room p e v (starts.Name n) mid ts rest x y = then x y
cat_front on_left room p e v (starts.Number n) mid ts rest x y = no_mark 123 (rep_rest p n) (sequence (sized n) (cat_rest p)) (then x y)
cat_front on_left room p e v (starts.Based b) mid ts rest x y = then x y
cat_front on_left room p e v starts.Brace mid ts rest x y = then x y

-- a whole expression
whole_expr : (on_left : Bool) (room : ℕ) (e : Expr) (ts : List VToken) → Started on_left room e ts → Front (expr_by on_left room (inside on_left room)) e (tokens (form.expr_form e) ts) ts
unfolding expr_by
whole_expr on_left room e ts s =
    subst (λ (z : List VToken). Front (expr_by on_left room (inside on_left room)) e z ts) (sym s.is) (then (by_token (say.expr_start on_left room) s.token s.start s.mid s.says) s.rest)

abbrev Starts : Bool → ℕ → Expr → Type 0
Starts on_left room e = Fits on_left room e → (ts : List VToken) → Started on_left room e ts

-- expressions without braces
plain_started : (on_left : Bool) (room : ℕ) → ((es : List Expr) → Starts on_left room (expr.Cat es)) → ((n : ℤ) (es : List Expr) → Starts on_left room (expr.Rep n es)) → (e : Expr) → Starts on_left room e
unfolding expr_rest sized
plain_started on_left room cat rep e = expr_cases (Starts on_left room)
    (λ name s fits ts. let good = is_layer room (expr.Ref s name) (Expr-F.Ref s name) (out-Ref name s) fits.within in record {
      token = t.Name name;
      start = starts.Name name;
      mid = select_tokens s ts;
      is = ap (λ f. tokens f ts) (ref_is name s) ∙ ref_tokens name s ts;
      says = refl;
      glance = refl;
      rest = at_last {g = λ s. expr.Ref s name} (select_front s ts good.1);
    })
    (λ l fits ts.
    let good = is_layer room (expr.Lit l) (Expr-F.Lit l) (out-Lit l) fits.within in
    let right : on_left ≡ false = right_only on_left (expr.Lit l) fits.assignable (left-Lit l) in record {
      token = t.Number (pos l.size);
      start = starts.Number (pos l.size);
      mid = t.Based l.based ∷ ts;
      is = ap (λ f. tokens f ts) (lit_is l);
      says = rw right refl;
      glance = refl;
      rest = at_last {g = g.expr_of_number (pos l.size)} (digits_front l ts good);
    })
    (λ n fits ts.
    let good = is_layer room (expr.LooseNumber n) (Expr-F.LooseNumber n) (out-LooseNumber n) fits.within in
    let right : on_left ≡ false = right_only on_left (expr.LooseNumber n) fits.assignable (left-LooseNumber n) in
    number n good right ts)
    (λ b fits ts.
    let right : on_left ≡ false = right_only on_left (expr.Loose b) fits.assignable (left-Loose b) in record {
      token = t.Based b;
      start = starts.Based b;
      mid = ts;
      is = ap (λ f. tokens f ts) (loose_is b);
      says = rw right refl;
      glance = refl;
      rest = nothing (expr.Loose b) ts;
    })
    cat rep e
  where
    number : (n : ℤ) → IsCount n → on_left ≡ false → (ts : List VToken) → Started on_left room (expr.LooseNumber n) ts
    number (pos n) good right ts = record {
      token = t.Number (pos n);
      start = starts.Number (pos n);
      mid = ts;
      is = ap (λ f. tokens f ts) (number_is (pos n));
      says = rw right refl;
      glance = refl;
      rest = at_last {g = g.expr_of_number (pos n)} (no_digits (pos n) ts);
    }
    number (negsuc n) good right ts = absurd (count_not_negative n good.sign)

-- an expression with braces, where those within them are known
module _ (on_left : Bool) (room : ℕ) (within : (e : Expr) → Starts on_left room e) where
  one_within : (e : Expr) (ts : List VToken) → Fits on_left room e → Front (expr_by on_left room (inside on_left room)) e (tokens (form.expr_form e) ts) ts
  one_within e ts fits = whole_expr on_left room e ts (within e fits ts)

  cat_inside : (es : List Expr) (ts : List VToken) → AreSome (Fits on_left room) es → Front (inside on_left (suc room)) (expr.Cat es) (listed_tokens (each form.expr_form es) (t.Punct 125 ∷ ts)) ts
  unfolding inside cat_rest
  cat_inside [] ts fits = absurd (omega (arith, fits.some))
  cat_inside (e ∷ es) ts fits =
      let s = within e fits.all.0 (further_tokens (each form.expr_form es) (t.Punct 125 ∷ ts)) in
      let p = expr_by on_left room (inside on_left room) in
      let others = at_last {g = λ es. expr.Cat es} (commas_front p (mark 125) (t.Punct 125) form.expr_form (Fits on_left room) (λ ts. a_mark 125 ts refl) one_within (e ∷ []) es ts fits.all.1) in
      subst (λ (z : List VToken). Front (inside on_left (suc room)) (expr.Cat (e ∷ es)) z ts) (sym s.is)
      (then (by_token (say.expr_start on_left room) s.token s.start s.mid s.says) (cat_front on_left room p e (expr.Cat (e ∷ es)) s.start s.mid _ ts s.rest others))

  rep_inside : (n : ℕ) (es : List Expr) (ts : List VToken) → on_left ≡ false → AreSome (Fits on_left room) es
      → Front (inside on_left (suc room)) (expr.Rep (pos n) es) (t.Number (pos n) ∷ t.Punct 123 ∷ listed_tokens (each form.expr_form es) (t.Punct 125 ∷ t.Punct 125 ∷ ts)) ts
  unfolding inside braced rep_rest
  rep_inside n es ts right fits =
      let p = expr_by on_left room (inside on_left room) in
      then (by_token (say.expr_start on_left room) (t.Number (pos n)) (starts.Number (pos n)) _ (rw right refl))
      (after_mark 123 (rep_rest p (pos n)) (sequence (sized (pos n)) (cat_rest p)) refl
      (then (list_front p (mark 125) (t.Punct 125) form.expr_form (Fits on_left room) (λ ts. a_mark 125 ts refl) one_within es (t.Punct 125 ∷ ts) fits) (at_last {g = λ _. expr.Rep (pos n) es} (a_mark 125 ts refl))))

  cat_started : (es : List Expr) → Starts on_left (suc room) (expr.Cat es)
  unfolding expr_rest
  cat_started es fits ts =
      let good = is_layer (suc room) (expr.Cat es) (Expr-F.Cat es) (out-Cat es) fits.within in
      record {
        token = t.Punct 123;
        start = starts.Brace;
        mid = listed_tokens (each form.expr_form es) (t.Punct 125 ∷ ts);
        is = ap (λ f. tokens f ts) (cat_is es);
        says = refl;
        glance = refl;
        rest = cat_inside es ts (all_fit on_left room es good (λ h. sym (left-Cat es) ∙ fits.assignable h));
      }

  rep_started : (n : ℤ) (es : List Expr) → Starts on_left (suc room) (expr.Rep n es)
  unfolding expr_rest
  rep_started n es fits ts =
      let good = is_layer (suc room) (expr.Rep n es) (Expr-F.Rep n es) (out-Rep n es) fits.within in
      let right : on_left ≡ false = right_only on_left (expr.Rep n es) fits.assignable (left-Rep n es) in
      by_count n good.0 right (all_fit on_left room es good.1 (λ h. absurd (cc (h, right))))
    where
      by_count : (n : ℤ) → IsCount n → on_left ≡ false → AreSome (Fits on_left room) es → Started on_left (suc room) (expr.Rep n es) ts
      by_count (pos n) count right all = record {
        token = t.Punct 123;
        start = starts.Brace;
        mid = t.Number (pos n) ∷ t.Punct 123 ∷ listed_tokens (each form.expr_form es) (t.Punct 125 ∷ t.Punct 125 ∷ ts);
        is = ap (λ f. tokens f ts) (rep_is (pos n) es);
        says = refl;
        glance = refl;
        rest = rep_inside n es ts right all;
      }
      by_count (negsuc n) count right all = absurd (count_not_negative n count.sign)

started : (on_left : Bool) (room : ℕ) (e : Expr) → Starts on_left room e
started on_left zero e = plain_started on_left zero
    (λ es fits. absurd (is_layer zero (expr.Cat es) (Expr-F.Cat es) (out-Cat es) fits.within))
    (λ n es fits. absurd (is_layer zero (expr.Rep n es) (Expr-F.Rep n es) (out-Rep n es) fits.within).1) e
started on_left (suc room) e = plain_started on_left (suc room) (cat_started on_left room (started on_left room)) (rep_started on_left room (started on_left room)) e

pub expr_front : (on_left : Bool) (e : Expr) (ts : List VToken) → IsExpr e → (on_left ≡ true → is_left e ≡ true) → Front (g.expr on_left 64) e (tokens (form.expr_form e) ts) ts
unfolding g.expr
expr_front on_left e ts good assignable = whole_expr on_left 64 e ts (started on_left 64 e (record { within = good; assignable = assignable }) ts)

-- an expression, if there is one
pub maybe_expr_front : (e : Option Expr) (ts : List VToken) → IfSome e IsExpr → Front maybe_expr e (tokens (form.value_form e) ts) ts
unfolding maybe_expr
maybe_expr_front None ts good = left say.at_expr (λ start. sequence (expr_rest (inside false 64) start) (λ e. gives (Some e))) (gives None) (nothing None ts)
maybe_expr_front (Some e) ts good =
    let s = started false 64 e (record { within = good; assignable = λ h. absurd cc }) ts in
    subst (λ (z : List VToken). Front maybe_expr (Some e) z ts) (sym s.is)
    (taken say.at_expr (λ start. sequence (expr_rest (inside false 64) start) (λ e. gives (Some e))) (gives None) s.token s.start s.glance (at_last {g = λ e. Some e} s.rest))
