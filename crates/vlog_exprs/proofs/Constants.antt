-- What is read as a constant is what the extended BNF has for one.
use Rattle.std.proofs.Common.{◌≡◌, ◌∙◌, sym, ap, subst, refl, ◌↔◌, inl, inr, ℕ, nat_eq, ℤ, neg_ℤ, nat_abs, Bool, true, false, [], ◌∷◌, ◌++◌, append-nil, Some, None, Ok, Err}
use Rattle.std.proofs.lemmas.Bool.Decides.{Decides-eqb}
use Rattle.grammar.specs.Part.{takes}
use Rattle.grammar.specs.Texts.{Spells}
use Rattle.grammar.specs.Whole.{proper, end}
use Rattle.nl_base.specs.declared.fault.Reason.TheVariants as reasons
use Rattle.readers.specs.Parts.{one, if_next}
use Rattle.vlog_tokens.specs.declared.token.VToken.{VToken}
use Rattle.vlog_tokens.specs.declared.token.VToken.TheVariants as token
use Rattle.vlog_values.specs.declared.expression.Const.{Const}
use Rattle.vlog_values.specs.declared.expression.Const.TheVariants as consts
use Rattle.vlog_exprs.specs.declared.start.ConstStart.{ConstStart}
use Rattle.vlog_exprs.specs.declared.start.ConstStart.TheVariants as starts
use Rattle.vlog_exprs.specs.Reasons as say
use Rattle.vlog_exprs.specs.Grammar.{digits, const_start, signed, sized_const, const_of_number, const_rest, constant}
use Rattle.vlog_exprs.specs.Expressions.{Tokens, IsToken, NumberText, unsigned, unsigned_real, plus_number, plus_real, minus_number, minus_real, ConstText, string, of_number, sized_literal, loose_literal}
use Rattle.vlog_exprs.proofs.Expressions.{Texts, alone, text_due, digits_are}

-- ---- how a constant begins

-- the mark of a sign
abbrev sign_mark : Bool → ℕ
sign_mark true = 45
sign_mark false = 43

-- a constant that is one token
abbrev WholeText : Tokens → Const → Type 0
WholeText ts (consts.Str s) = IsToken (token.Str s) ts
WholeText ts (consts.Number n) = ⊥
WholeText ts (consts.Real r) = IsToken (token.Real r) ts
WholeText ts (consts.Lit l) = ⊥
WholeText ts (consts.Loose d) = IsToken (token.Based d) ts

-- the tokens are how a constant begins
abbrev StartText : Tokens → ConstStart → Type 0
StartText ts (starts.Whole c) = WholeText ts c
StartText ts (starts.Sign negative) = IsToken (token.Punct (sign_mark negative)) ts
StartText ts (starts.Number n) = IsToken (token.Number n) ts

sign_by : (b : ℕ) (u : ConstStart) (p q : Bool) → nat_eq b 43 ≡ p → nat_eq b 45 ≡ q → (ts : Tokens) → IsToken (token.Punct b) ts → say.const_start (token.Punct b) ≡ Ok u → StartText ts u
sign_by b u true q e f ts t h =
    let k : say.const_start (token.Punct b) ≡ Ok (starts.Sign false) = rw e refl in
    let same : starts.Sign false ≡ u = cc in
    subst (StartText ts) same (subst (λ z. IsToken (token.Punct z) ts) ((Decides-eqb b 43).0 e) t)
sign_by b u false true e f ts t h =
    let k : say.const_start (token.Punct b) ≡ Ok (starts.Sign true) = rw (e, f) refl in
    let same : starts.Sign true ≡ u = cc in
    subst (StartText ts) same (subst (λ z. IsToken (token.Punct z) ts) ((Decides-eqb b 45).0 f) t)
sign_by b u false false e f ts t h = let k : say.const_start (token.Punct b) ≡ Err reasons.Unexpected = rw (e, f) refl in let m = sym k ∙ h in absurd cc

start_by : (t : VToken) (u : ConstStart) (ts : Tokens) → IsToken t ts → say.const_start t ≡ Ok u → StartText ts u
start_by (token.Str s) u ts t h = let same : starts.Whole (consts.Str s) ≡ u = cc in subst (StartText ts) same t
start_by (token.Real r) u ts t h = let same : starts.Whole (consts.Real r) ≡ u = cc in subst (StartText ts) same t
start_by (token.Based d) u ts t h = let same : starts.Whole (consts.Loose d) ≡ u = cc in subst (StartText ts) same t
start_by (token.Number n) u ts t h = let same : starts.Number n ≡ u = cc in subst (StartText ts) same t
start_by (token.Punct b) u ts t h = sign_by b u (nat_eq b 43) (nat_eq b 45) refl refl ts t h
start_by (token.Name a) u ts t h = absurd cc
start_by (token.Keyword a) u ts t h = absurd cc
start_by token.AttrStart u ts t h = absurd cc
start_by token.AttrStop u ts t h = absurd cc
start_by (token.Symbol a) u ts t h = absurd cc
start_by (token.Directive a) u ts t h = absurd cc

start_text : (ts : Tokens) (u : ConstStart) → Texts const_start ts u → StartText ts u
unfolding one
start_text ts u (proper y, e, h) = start_by y.token u ts (y, e, refl) h
start_text ts u (end p, e, h) = absurd cc

-- ---- a sign

signed_by : (negative : Bool) (t : VToken) (c : Const) (a b : Tokens) → IsToken (token.Punct (sign_mark negative)) a → IsToken t b → say.signed_of negative t ≡ Ok c → NumberText (a ++ b) c
signed_by true (token.Number n) c a b m t h = let same : consts.Number (neg_ℤ n) ≡ c = cc in minus_number n a b refl m t (sym same)
signed_by false (token.Number n) c a b m t h = let same : consts.Number n ≡ c = cc in plus_number n a b refl m t (sym same)
signed_by true (token.Real r) c a b m t h = let same : consts.Real (record { mantissa = neg_ℤ r.mantissa; exponent = r.exponent }) ≡ c = cc in minus_real r a b refl m t (sym same)
signed_by false (token.Real r) c a b m t h = let same : consts.Real (record { mantissa = r.mantissa; exponent = r.exponent }) ≡ c = cc in plus_real r a b refl m t (sym same)
signed_by negative (token.Str s) c a b m t h = absurd cc
signed_by negative (token.Based d) c a b m t h = absurd cc
signed_by negative (token.Punct p) c a b m t h = absurd cc
signed_by negative (token.Name n) c a b m t h = absurd cc
signed_by negative (token.Keyword n) c a b m t h = absurd cc
signed_by negative token.AttrStart c a b m t h = absurd cc
signed_by negative token.AttrStop c a b m t h = absurd cc
signed_by negative (token.Symbol n) c a b m t h = absurd cc
signed_by negative (token.Directive n) c a b m t h = absurd cc

signed_text : (negative : Bool) (a b : Tokens) (c : Const) → IsToken (token.Punct (sign_mark negative)) a → Texts (signed negative) b c → NumberText (a ++ b) c
unfolding one
signed_text negative a b c m (proper y, e, h) = signed_by negative y.token c a b m (y, e, refl) h
signed_text negative a b c m (end p, e, h) = absurd cc

-- ---- the law

sized_text : (n : ℤ) (a b : Tokens) (c : Const) → IsToken (token.Number n) a → Texts (sized_const n) b c → ConstText (a ++ b) c
unfolding sized_const digits if_next
sized_text n a b c t (l, x, y, f, inl (proper z, w, v, g, h, (m, k)), r) =
    let ds = digits_are n z.token w h in
    let b_is : b ≡ proper z ∷ [] = f ∙ alone x y r.0 ∙ g ∙ ap (λ q. proper z ∷ q) m in
    sized_literal n ds.based a b refl t (z, b_is, ds.is) ds.size (r.1 ∙ ap (const_of_number n) k ∙ ap consts.Lit ds.literal)
sized_text n a b c t (l, x, y, f, inl (end p, w, v, g, h, (m, k)), r) = absurd cc
sized_text n a b c t (l, x, y, f, inr (g, k), r) =
    let b_is : b ≡ [] = f ∙ alone x y r.0 ∙ g in
    of_number (unsigned n (subst (IsToken (token.Number n)) (sym (alone a b b_is)) t) (r.1 ∙ ap (const_of_number n) k))

whole_text : (w : Const) (ts : Tokens) (c : Const) → WholeText ts w → c ≡ w → ConstText ts c
whole_text (consts.Str s) ts c t e = string s t e
whole_text (consts.Number n) ts c t e = absurd t
whole_text (consts.Real r) ts c t e = of_number (unsigned_real r t e)
whole_text (consts.Lit l) ts c t e = absurd t
whole_text (consts.Loose d) ts c t e = loose_literal d t e

rest_text : (u : ConstStart) (a b : Tokens) (c : Const) → StartText a u → Texts (const_rest u) b c → ConstText (a ++ b) c
unfolding const_rest
rest_text (starts.Whole w) a b c t r = subst (λ z. ConstText z c) (sym (alone a b r.0)) (whole_text w a c t r.1)
rest_text (starts.Sign negative) a b c t r = of_number (signed_text negative a b c t r)
rest_text (starts.Number n) a b c t r = sized_text n a b c t r

const_text : (ts : Tokens) (c : Const) → Texts constant ts c → ConstText ts c
unfolding constant
const_text ts c (u, a, b, e, t, r) = subst (λ z. ConstText z c) (sym e) (rest_text u a b c (start_text a u t) r)

-- a constant of one token
text_whole : (t : VToken) (w : Const) (ts : Tokens) (c : Const) → say.const_start t ≡ Ok (starts.Whole w) → IsToken t ts → c ≡ w → Texts constant ts c
unfolding constant const_rest
text_whole t w ts c h k e = (starts.Whole w, ts, [], sym (append-nil ts), text_due say.const_start t ts (starts.Whole w) h k, (refl, e))

-- a number or a real with a sign
text_signed : (negative : Bool) (t : VToken) (a b : Tokens) (ts : Tokens) (w c : Const) → ts ≡ a ++ b → IsToken (token.Punct (sign_mark negative)) a → say.signed_of negative t ≡ Ok w → IsToken t b → c ≡ w → Texts constant ts c
unfolding constant const_rest
text_signed true t a b ts w c e m h k f = (starts.Sign true, a, b, e, text_due say.const_start (token.Punct 45) a (starts.Sign true) refl m, text_due (say.signed_of true) t b c (h ∙ ap Ok (sym f)) k)
text_signed false t a b ts w c e m h k f = (starts.Sign false, a, b, e, text_due say.const_start (token.Punct 43) a (starts.Sign false) refl m, text_due (say.signed_of false) t b c (h ∙ ap Ok (sym f)) k)

text_number : (ts : Tokens) (c : Const) → NumberText ts c → Texts constant ts c
unfolding constant const_rest sized_const digits if_next
text_number ts c (unsigned n t e) = (starts.Number n, ts, [], sym (append-nil ts), text_due say.const_start (token.Number n) ts (starts.Number n) refl t, (None, [], [], refl, inr (refl, refl), (refl, e)))
text_number ts c (unsigned_real r t e) = text_whole (token.Real r) (consts.Real r) ts c refl t e
text_number ts c (plus_number n a b e m t f) = text_signed false (token.Number n) a b ts (consts.Number n) c e m refl t f
text_number ts c (plus_real r a b e m t f) = text_signed false (token.Real r) a b ts (consts.Real r) c e m refl t f
text_number ts c (minus_number n a b e m t f) = text_signed true (token.Number n) a b ts (consts.Number (neg_ℤ n)) c e m refl t f
text_number ts c (minus_real r a b e m t f) = text_signed true (token.Real r) a b ts (consts.Real (record { mantissa = neg_ℤ r.mantissa; exponent = r.exponent })) c e m refl t f

text_const : (ts : Tokens) (c : Const) → ConstText ts c → Texts constant ts c
unfolding constant const_rest sized_const digits if_next
text_const ts c (string s t e) = text_whole (token.Str s) (consts.Str s) ts c refl t e
text_const ts c (of_number h) = text_number ts c h
text_const ts c (sized_literal n d a b e t u z f) =
    let taken : say.at_digits n (token.Based d) ≡ takes (record { size = nat_abs n; based = d }) = rw z refl in (
      starts.Number n,
      a,
      b,
      e,
      text_due say.const_start (token.Number n) a (starts.Number n) refl t,
      (Some (record { size = nat_abs n; based = d }), b, [], sym (append-nil b), inl (proper u.0, record { size = nat_abs n; based = d }, [], u.1, ap (say.at_digits n) u.2 ∙ taken, (refl, refl)), (refl, f)),
    )
text_const ts c (loose_literal d t e) = text_whole (token.Based d) (consts.Loose d) ts c refl t e

-- The tokens that read as a constant are those that the extended BNF has for it.
pub constants : (ts : Tokens) (c : Const) → Spells tt constant ts c ↔ ConstText ts c
constants ts c = (const_text ts c, text_const ts c)
