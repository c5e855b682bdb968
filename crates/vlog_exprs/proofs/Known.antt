-- What tokens of a text say, and what is made of it, is such as can be written.
use Rattle.std.proofs.Common.{◌≡◌, ◌∙◌, refl, sym, ap, subst, ℕ, zero, suc, ◌≤◌, Bool, true, false, cond, ltb, eqb, List, [], ◌∷◌, ◌++◌, map, length-append, Option, Some, None, Result, Ok, Err, ℤ, pos, negsuc, nat_abs, arith}
use Rattle.std.specs.Prelude.{IfOk, IfSome}
use Rattle.std.specs.List.{AllByRecursion, list_all}
use Rattle.std.proofs.lemmas.Bool.{ltb-true}
use Rattle.grammar.specs.Part as part
use Rattle.grammar.specs.Part.{takes, refuses, leaves}
use Rattle.nl_base.specs.declared.fault.Reason.{Reason}
use Rattle.nl_base.specs.declared.fault.Reason.TheVariants as reasons
use Rattle.nl_base.specs.declared.fault.ReadError.{ReadError}
use Rattle.nl_base.specs.declared.memory.NoMemory.{NoMemory}
use Rattle.nl_base.specs.declared.place.Place.{Place}
use Rattle.nl_bytes.proofs.Uses.{AllByRecursion-push}
use Rattle.vlog_values.specs.declared.literal.Based.{Based}
use Rattle.vlog_values.specs.declared.literal.Literal.{Literal}
use Rattle.vlog_values.specs.declared.expression.Const.{Const}
use Rattle.vlog_values.specs.declared.expression.Const.TheVariants as consts
use Rattle.vlog_values.specs.declared.expression.Select.{Select}
use Rattle.vlog_values.specs.declared.expression.Expr.{Expr}
use Rattle.vlog_values.specs.declared.expression.Expr.TheVariants as exprs
use Rattle.vlog_values.specs.declared.expression.Expr.TheOpen.{Expr-F}
use Rattle.vlog_values.specs.Bits.{IsBased}
use Rattle.vlog_values.specs.Values.{AreSome, IsName, IsNumber, IsCount, IsLiteral, IsConst, IsSelect, IsExprWithin, is_left}
use Rattle.vlog_values.proofs.Values.{is_expr, out-Ref, out-Lit, out-LooseNumber, out-Loose, out-Cat, out-Rep, left-Ref, left-Cat}
use Rattle.vlog_tokens.specs.declared.token.VToken.{VToken}
use Rattle.vlog_tokens.specs.declared.token.VToken.TheVariants as token
use Rattle.vlog_tokens.specs.Proper.{IsProper}
use Rattle.vlog_tokens.proofs.Digits.{both}
use Rattle.vlog_tokens.proofs.Proper.{neg_abs}
use Rattle.vlog_exprs.specs.declared.glance.Glance.{Glance}
use Rattle.vlog_exprs.specs.declared.start.ExprStart.{ExprStart}
use Rattle.vlog_exprs.specs.declared.start.ExprStart.TheVariants as starts
use Rattle.vlog_exprs.specs.declared.start.ConstStart.{ConstStart}
use Rattle.vlog_exprs.specs.declared.start.ConstStart.TheVariants as const_starts
use Rattle.vlog_exprs.specs.Calls.{answer, kept, seen_answer, IfLeaves}
use Rattle.vlog_exprs.specs.Known.{IsSide, IsGood, IsStart, IsConstStart}
use Rattle.vlog_exprs.specs.Reasons as say

-- ---- calls that take one token

-- what is answered of a token is good, where all is that it says
pub value_says : {V : Type 0} (f : VToken → Result V Reason) (Good : V → Type 0) (t : VToken) → ((v : V) → f t ≡ Ok v → Good v)
    → (p : Place) (stop : ℕ) (r : Result (Result V Reason) NoMemory) (s : Result V ReadError) → IfOk r (λ said. said ≡ f t) → s ≡ answer p stop r → IfOk s Good
value_says f Good t says p stop (Ok (Ok v)) s e is = rw is (says v (sym e))
value_says f Good t says p stop (Ok (Err reason)) s e is = rw is tt
value_says f Good t says p stop (Err n) s e is = rw is tt

-- the same of a token that need not be taken
pub value_seen : {C : Type 0} (f : VToken → part.Glance C Reason) (Good : C → Type 0) (t : VToken) → ((c : C) → f t ≡ takes c → Good c)
    → (p : Place) (stop : ℕ) (g : Glance C) (s : Result (Option C) ReadError) → g ≡ kept t (f t) → s ≡ seen_answer p stop g → IfOk s (λ o. IfSome o Good)
value_seen {C = C} f Good t says p stop g s e is = rw (is, e) (by (f t) refl)
  where
    by : (h : part.Glance C Reason) → f t ≡ h → IfOk (seen_answer p stop (kept t h)) (λ o. IfSome o Good)
    by (takes c) e = says c e
    by (refuses reason) e = tt
    by leaves e = tt

-- a token is given back as it was
pub leaves_proper : {C : Type 0} (t : VToken) (h : part.Glance C Reason) (g : Glance C) → g ≡ kept t h → IsProper t → IfLeaves g IsProper
leaves_proper {C = C} t h g e is = rw e (by h)
  where
    by : (h : part.Glance C Reason) → IfLeaves (kept t h) IsProper
    by (takes c) = tt
    by (refuses reason) = tt
    by leaves = is

-- ---- names and numbers

pub name_is : (t : VToken) → IsProper t → (n : List ℕ) → say.name_of t ≡ Ok n → IsName n
name_is (token.Name m) is n h = let same : m ≡ n = cc in subst IsName same is
name_is (token.Keyword w) is n h = absurd cc
name_is (token.Number m) is n h = absurd cc
name_is (token.Real r) is n h = absurd cc
name_is (token.Based d) is n h = absurd cc
name_is (token.Str s) is n h = absurd cc
name_is (token.Punct b) is n h = absurd cc
name_is token.AttrStart is n h = absurd cc
name_is token.AttrStop is n h = absurd cc
name_is (token.Symbol b) is n h = absurd cc
name_is (token.Directive w) is n h = absurd cc

pub taken_name_is : (t : VToken) → IsProper t → (n : List ℕ) → say.at_name t ≡ takes n → IsName n
taken_name_is (token.Name m) is n h = let same : m ≡ n = cc in subst IsName same is
taken_name_is (token.Keyword w) is n h = absurd cc
taken_name_is (token.Number m) is n h = absurd cc
taken_name_is (token.Real r) is n h = absurd cc
taken_name_is (token.Based d) is n h = absurd cc
taken_name_is (token.Str s) is n h = absurd cc
taken_name_is (token.Punct b) is n h = absurd cc
taken_name_is token.AttrStart is n h = absurd cc
taken_name_is token.AttrStop is n h = absurd cc
taken_name_is (token.Symbol b) is n h = absurd cc
taken_name_is (token.Directive w) is n h = absurd cc

pub number_is : (t : VToken) → IsProper t → (n : ℤ) → say.number_of t ≡ Ok n → IsCount n
number_is (token.Number m) is n h = let same : m ≡ n = cc in subst IsCount same is
number_is (token.Name m) is n h = absurd cc
number_is (token.Keyword w) is n h = absurd cc
number_is (token.Real r) is n h = absurd cc
number_is (token.Based d) is n h = absurd cc
number_is (token.Str s) is n h = absurd cc
number_is (token.Punct b) is n h = absurd cc
number_is token.AttrStart is n h = absurd cc
number_is token.AttrStop is n h = absurd cc
number_is (token.Symbol b) is n h = absurd cc
number_is (token.Directive w) is n h = absurd cc

-- ---- keywords with a value each

-- a keyword that is taken means its value
pub choice_is : {A : Type 0} (words : List (List ℕ × A)) (t : VToken) (a : A) → say.at_choice words t ≡ takes a → say.IsMeant words a
choice_is {A = A} words (token.Keyword w) a h = by (say.meant_by words w) refl h
  where
    by : (o : Option A) → say.meant_by words w ≡ o → say.glance_of o ≡ takes a → say.IsMeant words a
    by (Some b) e h = let same : b ≡ a = cc in (w, e ∙ ap Some same)
    by None e h = absurd cc
choice_is words (token.Name m) a h = absurd cc
choice_is words (token.Number m) a h = absurd cc
choice_is words (token.Real r) a h = absurd cc
choice_is words (token.Based d) a h = absurd cc
choice_is words (token.Str s) a h = absurd cc
choice_is words (token.Punct b) a h = absurd cc
choice_is words token.AttrStart a h = absurd cc
choice_is words token.AttrStop a h = absurd cc
choice_is words (token.Symbol b) a h = absurd cc
choice_is words (token.Directive w) a h = absurd cc

-- a word that is held does so too
pub held_choice_is : {A : Type 0} (words : List (List ℕ × A)) (w : List ℕ) (a : A) → Some a ≡ say.meant_by words w → say.IsMeant words a
held_choice_is words w a e = (w, sym e)

-- ---- digits

-- from 1 to 65,536
abbrev IsSize : ℕ → Type 0
IsSize n = (1 ≤ n) × (n ≤ 65536)

size_small : (n : ℤ) → say.is_size n ≡ true → IsSize (nat_abs n)
size_small (pos m) e =
    let parts = both (ltb 0 m) (ltb m 65537) e in
    let least = ltb-true 0 m parts.0 in
    let most = ltb-true m 65537 parts.1 in
    (omega (arith, least), omega (arith, most))
size_small (negsuc m) e = absurd cc

pub literal_is : (n : ℤ) (t : VToken) → IsProper t → (l : Literal) → say.at_digits n t ≡ takes l → IsLiteral l
literal_is n (token.Based d) is l h = by (say.is_size n) refl h
  where
    by : (t : Bool) → say.is_size n ≡ t → cond t (takes (record { size = nat_abs n; based = d })) (refuses reasons.NumberRange) ≡ takes l → IsLiteral l
    by true e h =
        let whole : Literal = record { size = nat_abs n; based = d } in
        let same : whole ≡ l = cc in
        let size = size_small n e in
        subst IsLiteral same (record { least = size.0; most = size.1; based = is })
    by false e h = absurd cc
literal_is n (token.Number m) is l h = absurd cc
literal_is n (token.Name m) is l h = absurd cc
literal_is n (token.Keyword w) is l h = absurd cc
literal_is n (token.Real r) is l h = absurd cc
literal_is n (token.Str s) is l h = absurd cc
literal_is n (token.Punct b) is l h = absurd cc
literal_is n token.AttrStart is l h = absurd cc
literal_is n token.AttrStop is l h = absurd cc
literal_is n (token.Symbol b) is l h = absurd cc
literal_is n (token.Directive w) is l h = absurd cc

-- ---- how an expression begins

start_number : (left : Bool) (levels : ℕ) (n : ℤ) (s : ExprStart) → IsCount n → cond left (Err reasons.Unexpected) (Ok (starts.Number n)) ≡ Ok s → IsStart left levels s
start_number true levels n s is h = absurd cc
start_number false levels n s is h = let same : starts.Number n ≡ s = cc in subst (IsStart false levels) same (refl, is)

start_based : (left : Bool) (levels : ℕ) (b : Based) (s : ExprStart) → IsBased b → cond left (Err reasons.Unexpected) (Ok (starts.Based b)) ≡ Ok s → IsStart left levels s
start_based true levels b s is h = absurd cc
start_based false levels b s is h = let same : starts.Based b ≡ s = cc in subst (IsStart false levels) same (refl, is)

start_brace : (left t : Bool) (levels : ℕ) (s : ExprStart) → cond t (say.brace_of levels) (Err reasons.Unexpected) ≡ Ok s → IsStart left levels s
start_brace left true zero s h = absurd cc
start_brace left true (suc levels) s h = let same : starts.Brace ≡ s = cc in subst (IsStart left (suc levels)) same (omega arith)
start_brace left false levels s h = absurd cc

pub start_is : (left : Bool) (levels : ℕ) (t : VToken) → IsProper t → (s : ExprStart) → say.expr_start left levels t ≡ Ok s → IsStart left levels s
start_is left levels (token.Name n) is s h = let same : starts.Name n ≡ s = cc in subst (IsStart left levels) same is
start_is left levels (token.Number n) is s h = start_number left levels n s is h
start_is left levels (token.Based b) is s h = start_based left levels b s is h
start_is left levels (token.Punct b) is s h = start_brace left (eqb b 123) levels s h
start_is left levels (token.Keyword w) is s h = absurd cc
start_is left levels (token.Real r) is s h = absurd cc
start_is left levels (token.Str t) is s h = absurd cc
start_is left levels token.AttrStart is s h = absurd cc
start_is left levels token.AttrStop is s h = absurd cc
start_is left levels (token.Symbol b) is s h = absurd cc
start_is left levels (token.Directive w) is s h = absurd cc

-- the first token of an expression that may be left out
abbrev brace_by : Bool → part.Glance ExprStart Reason
brace_by t = cond t (takes starts.Brace) leaves

at_brace : (t : Bool) (s : ExprStart) → brace_by t ≡ takes s → IsStart false 64 s
at_brace true s h = let same : starts.Brace ≡ s = cc in subst (IsStart false 64) same (omega arith)
at_brace false s h = absurd cc

pub at_start : (t : VToken) → IsProper t → (s : ExprStart) → say.at_expr t ≡ takes s → IsStart false 64 s
at_start (token.Name n) is s h = let same : starts.Name n ≡ s = cc in subst (IsStart false 64) same is
at_start (token.Number n) is s h = let same : starts.Number n ≡ s = cc in subst (IsStart false 64) same (refl, is)
at_start (token.Based b) is s h = let same : starts.Based b ≡ s = cc in subst (IsStart false 64) same (refl, is)
at_start (token.Punct b) is s h = at_brace (eqb b 123) s h
at_start (token.Keyword w) is s h = absurd cc
at_start (token.Real r) is s h = absurd cc
at_start (token.Str t) is s h = absurd cc
at_start token.AttrStart is s h = absurd cc
at_start token.AttrStop is s h = absurd cc
at_start (token.Symbol b) is s h = absurd cc
at_start (token.Directive w) is s h = absurd cc

-- ---- how a constant begins

start_sign : (t u : Bool) (s : ConstStart) → cond t (Ok (const_starts.Sign false)) (cond u (Ok (const_starts.Sign true)) (Err reasons.Unexpected)) ≡ Ok s → IsConstStart s
start_sign true u s h = let same : const_starts.Sign false ≡ s = cc in subst IsConstStart same tt
start_sign false true s h = let same : const_starts.Sign true ≡ s = cc in subst IsConstStart same tt
start_sign false false s h = absurd cc

pub const_start_is : (t : VToken) → IsProper t → (s : ConstStart) → say.const_start t ≡ Ok s → IsConstStart s
const_start_is (token.Str t) is s h = let same : const_starts.Whole (consts.Str t) ≡ s = cc in subst IsConstStart same is
const_start_is (token.Real r) is s h = let same : const_starts.Whole (consts.Real r) ≡ s = cc in subst IsConstStart same is.real
const_start_is (token.Based b) is s h = let same : const_starts.Whole (consts.Loose b) ≡ s = cc in subst IsConstStart same is
const_start_is (token.Number n) is s h = let same : const_starts.Number n ≡ s = cc in subst IsConstStart same is.number
const_start_is (token.Punct b) is s h = start_sign (eqb b 43) (eqb b 45) s h
const_start_is (token.Name n) is s h = absurd cc
const_start_is (token.Keyword w) is s h = absurd cc
const_start_is token.AttrStart is s h = absurd cc
const_start_is token.AttrStop is s h = absurd cc
const_start_is (token.Symbol b) is s h = absurd cc
const_start_is (token.Directive w) is s h = absurd cc

sign_number : (negative : Bool) (n : ℤ) → IsNumber n → IsNumber (say.with_sign negative n)
sign_number true n h = rw (neg_abs n) h
sign_number false n h = h

pub signed_is : (negative : Bool) (t : VToken) → IsProper t → (c : Const) → say.signed_of negative t ≡ Ok c → IsConst c
signed_is negative (token.Number n) is c h = let same : consts.Number (say.with_sign negative n) ≡ c = cc in subst IsConst same (sign_number negative n is.number)
signed_is negative (token.Real r) is c h =
    let same : consts.Real (record { mantissa = say.with_sign negative r.mantissa; exponent = r.exponent }) ≡ c = cc in
    subst IsConst same (record { mantissa = sign_number negative r.mantissa is.real.mantissa; exponent = is.real.exponent })
signed_is negative (token.Name n) is c h = absurd cc
signed_is negative (token.Keyword w) is c h = absurd cc
signed_is negative (token.Based b) is c h = absurd cc
signed_is negative (token.Str t) is c h = absurd cc
signed_is negative (token.Punct b) is c h = absurd cc
signed_is negative token.AttrStart is c h = absurd cc
signed_is negative token.AttrStop is c h = absurd cc
signed_is negative (token.Symbol b) is c h = absurd cc
signed_is negative (token.Directive w) is c h = absurd cc

-- ---- expressions

no_side : (left : Bool) (e : Expr) → left ≡ false → IsSide left e
no_side false e h = tt
no_side true e h = absurd cc

-- an expression that is no left side
pub right_good : (left : Bool) (levels : ℕ) (e : Expr) → left ≡ false → IsExprWithin levels e → IsGood left levels e
right_good left levels e right is = record { within = is; side = no_side left e right }

pub literal_within : (levels : ℕ) (l : Literal) → IsLiteral l → IsExprWithin levels (exprs.Lit l)
literal_within levels l is = is_expr levels (exprs.Lit l) (Expr-F.Lit l) (out-Lit l) is

pub number_within : (levels : ℕ) (n : ℤ) → IsCount n → IsExprWithin levels (exprs.LooseNumber n)
number_within levels n is = is_expr levels (exprs.LooseNumber n) (Expr-F.LooseNumber n) (out-LooseNumber n) is

pub loose_good : (left : Bool) (levels : ℕ) (b : Based) → (left ≡ false) × IsBased b → IsGood left levels (exprs.Loose b)
loose_good left levels b is = right_good left levels (exprs.Loose b) is.0 (is_expr levels (exprs.Loose b) (Expr-F.Loose b) (out-Loose b) is.1)

ref_side : (left : Bool) (n : List ℕ) (s : Select) → IsSide left (exprs.Ref s n)
ref_side false n s = tt
ref_side true n s = left-Ref n s

pub ref_good : (left : Bool) (levels : ℕ) (n : List ℕ) (s : Select) → IsName n → IsSelect s → IsGood left levels (exprs.Ref s n)
ref_good left levels n s is_name is_select = record { within = is_expr levels (exprs.Ref s n) (Expr-F.Ref s n) (out-Ref n s) (is_name, is_select); side = ref_side left n s }

-- ---- braces

-- one more item
pub some_push : {A : Type 0} (Good : A → Type 0) (so_far : List A) (a : A) → AllByRecursion Good so_far → Good a → AreSome Good (so_far ++ a ∷ [])
some_push Good so_far a all good = record { some = omega (arith, length-append so_far (a ∷ [])); all = AllByRecursion-push Good so_far a all good }

all_within : (left : Bool) (levels : ℕ) (es : List Expr) → AllByRecursion (IsGood left levels) es → AllByRecursion (IsExprWithin levels) es
all_within left levels [] all = tt
all_within left levels (e ∷ es) all = (all.0.within, all_within left levels es all.1)

some_within : (left : Bool) (levels : ℕ) (es : List Expr) → AreSome (IsGood left levels) es → AreSome (IsExprWithin levels) es
some_within left levels es are = record { some = are.some; all = all_within left levels es are.all }

all_left : (levels : ℕ) (es : List Expr) → AllByRecursion (IsGood true levels) es → list_all (λ l. l) (map is_left es) ≡ true
all_left levels [] all = refl
all_left levels (e ∷ es) all = rw (all.0.side, all_left levels es all.1) refl

cat_side : (left : Bool) (levels : ℕ) (es : List Expr) → AllByRecursion (IsGood left levels) es → IsSide left (exprs.Cat es)
cat_side false levels es all = tt
cat_side true levels es all = left-Cat es ∙ all_left levels es all

pub cat_good : (left : Bool) (levels : ℕ) (es : List Expr) → AreSome (IsGood left levels) es → IsGood left (suc levels) (exprs.Cat es)
cat_good left levels es are = record { within = is_expr (suc levels) (exprs.Cat es) (Expr-F.Cat es) (out-Cat es) (some_within left levels es are); side = cat_side left levels es are.all }

pub rep_good : (left : Bool) (levels : ℕ) (n : ℤ) (es : List Expr) → left ≡ false → IsCount n → AreSome (IsGood left levels) es → IsGood left (suc levels) (exprs.Rep n es)
rep_good left levels n es right is are = right_good left (suc levels) (exprs.Rep n es) right (is_expr (suc levels) (exprs.Rep n es) (Expr-F.Rep n es) (out-Rep n es) (is, some_within left levels es are))
