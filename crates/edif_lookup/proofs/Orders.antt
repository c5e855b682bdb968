-- Lists of refusals taken part by part, in order.
use Rattle.std.proofs.Common.{◌≡◌, ℕ, zero, suc, ◌+◌, ◌<◌, Bool, true, false, cond, List, [], ◌∷◌, ◌++◌, length, take, get_or, Option, Some, None, refl, sym, ap, ◌∙◌, arith, append_assoc}
use Rattle.std.specs.Prelude.{nat_lt}
use Rattle.std.proofs.lemmas.List.{append-nil, take_more}
use Rattle.std.proofs.lemmas.Bool.Decides.{nat_tests}
use Rattle.nl_base.specs.declared.rule.Refusal.{Refusal}
use Rattle.nl_base.specs.Rules.{rule_number}
use Rattle.edif_lookup.specs.Refusals.{each_after, in_order, lower, lowest}

-- the choice between three by their numbers
choice : {X : Type 0} (x y z : ℕ) (a b c : X) → cond (nat_lt z (cond (nat_lt y x) y x)) c (cond (nat_lt y x) b a) ≡ cond (nat_lt (cond (nat_lt z y) z y) x) (cond (nat_lt z y) c b) a
choice x y z a b c = grind (arith, nat_tests)

each_after-push : {A B : Type 0} (f : List A → A → List B) (before items : List A) (item : A) → each_after f before (items ++ item ∷ []) ≡ each_after f before items ++ f (before ++ items) item
each_after-push f before [] item = append-nil (f before item) ∙ ap (λ b. f b item) (sym (append-nil before))
each_after-push f before (first ∷ rest) item =
    ap (λ xs. f before first ++ xs) (each_after-push f (before ++ first ∷ []) rest item ∙ ap (λ b. each_after f (before ++ first ∷ []) rest ++ f b item) (append_assoc before (first ∷ []) rest))
    ∙ sym (append_assoc (f before first) (each_after f (before ++ first ∷ []) rest) (f (before ++ first ∷ rest) item))

-- one more item in order
pub in_order_more : {A B : Type 0} (f : List A → A → List B) (items : List A) (i : ℕ) (d : A) → i < length items → in_order f (take (i + 1) items) ≡ in_order f (take i items) ++ f (take i items) (get_or items i d)
in_order_more f items i d within = ap (in_order f) (take_more items i d within) ∙ each_after-push f [] (take i items) (get_or items i d)

lower-None : (x : Option Refusal) → lower x None ≡ x
unfolding lower
lower-None None = refl
lower-None (Some a) = refl

abbrev least : Refusal → Refusal → Refusal
least a b = cond (nat_lt (rule_number b.rule) (rule_number a.rule)) b a

cond-Some : (t : Bool) (a b : Refusal) → cond t (Some b) (Some a) ≡ Some (cond t b a)
cond-Some true a b = refl
cond-Some false a b = refl

cond-number : (t : Bool) (a b : Refusal) → rule_number (cond t b a).rule ≡ cond t (rule_number b.rule) (rule_number a.rule)
cond-number true a b = refl
cond-number false a b = refl

least-assoc : (a b c : Refusal) → least (least a b) c ≡ least a (least b c)
least-assoc a b c =
    let x = rule_number a.rule in let y = rule_number b.rule in let z = rule_number c.rule in
    ap (λ n. cond (nat_lt z n) c (least a b)) (cond-number (nat_lt y x) a b) ∙ (choice x y z a b c ∙ ap (λ n. cond (nat_lt n x) (least b c) a) (sym (cond-number (nat_lt z y) b c)))

pub lower-assoc : (x y z : Option Refusal) → lower (lower x y) z ≡ lower x (lower y z)
unfolding lower
lower-assoc None y z = refl
lower-assoc (Some a) None z = refl
lower-assoc (Some a) (Some b) None = lower-None (lower (Some a) (Some b))
lower-assoc (Some a) (Some b) (Some c) =
    ap (λ r. lower r (Some c)) (cond-Some _ a b) ∙ (cond-Some _ (least a b) c ∙ (ap Some (least-assoc a b c) ∙ (sym (cond-Some _ a (least b c)) ∙ ap (lower (Some a)) (sym (cond-Some _ b c)))))

-- the lowest of two parts is the lower of the lowest of each
pub lowest-append : (xs ys : List Refusal) → lowest (xs ++ ys) ≡ lower (lowest xs) (lowest ys)
unfolding lower lowest
lowest-append [] ys = refl
lowest-append (x ∷ xs) ys = ap (lower (Some x)) (lowest-append xs ys) ∙ sym (lower-assoc (Some x) (lowest xs) (lowest ys))

-- a turn of a loop that keeps the lowest refusal of the items so far
pub lowest_turn : {A : Type 0} (f : List A → A → List Refusal) (items : List A) (i : ℕ) (d : A) → i < length items → (best next now : Option Refusal) → best ≡ lowest (in_order f (take i items)) → next ≡ lowest (f (take i items) (get_or items i d))
    → now ≡ lower best next → now ≡ lowest (in_order f (take (i + 1) items))
lowest_turn f items i d within best next now is_best is_next is_now =
    is_now ∙ (ap (λ b. lower b next) is_best ∙ (ap (lower (lowest (in_order f (take i items)))) is_next
    ∙ (sym (lowest-append (in_order f (take i items)) (f (take i items) (get_or items i d))) ∙ ap lowest (sym (in_order_more f items i d within)))))

-- where nothing is broken, no part breaks anything
lower_some : (x : Refusal) (o : Option Refusal) → lower (Some x) o ≡ None → ⊥
unfolding lower
lower_some x None h = let e : Some x ≡ None = h in cc
lower_some x (Some y) h = by (nat_lt (rule_number y.rule) (rule_number x.rule)) h
  where
    by : (b : Bool) → cond b (Some y) (Some x) ≡ None → ⊥
    by true e = cc
    by false e = cc

pub lowest_none : (xs : List Refusal) → lowest xs ≡ None → xs ≡ []
unfolding lower lowest
lowest_none [] h = refl
lowest_none (x ∷ xs) h = absurd (lower_some x (lowest xs) h)

pub none_left : {B : Type 0} (xs ys : List B) → xs ++ ys ≡ [] → xs ≡ []
none_left [] ys h = refl
none_left (x ∷ xs) ys h = cc

pub none_right : {B : Type 0} (xs ys : List B) → xs ++ ys ≡ [] → ys ≡ []
none_right [] ys h = h
none_right (x ∷ xs) ys h = cc

each_after_none : {A B : Type 0} (f : List A → A → List B) (before items : List A) → each_after f before items ≡ [] → (i : ℕ) (d : A) → i < length items → f (before ++ take i items) (get_or items i d) ≡ []
each_after_none f before [] h i d within = absurd (omega arith)
each_after_none f before (item ∷ rest) h zero d within = ap (λ b. f b item) (append-nil before) ∙ none_left (f before item) (each_after f (before ++ item ∷ []) rest) h
each_after_none f before (item ∷ rest) h (suc i) d within =
    ap (λ b. f b (get_or rest i d)) (sym (append_assoc before (item ∷ []) (take i rest)))
    ∙ each_after_none f (before ++ item ∷ []) rest (none_right (f before item) (each_after f (before ++ item ∷ []) rest) h) i d (omega arith)

pub in_order_none : {A B : Type 0} (f : List A → A → List B) (items : List A) → in_order f items ≡ [] → (i : ℕ) (d : A) → i < length items → f (take i items) (get_or items i d) ≡ []
in_order_none f items h i d within = each_after_none f [] items h i d within

-- the first refusal of two parts is the lower of the first of each
pub lowest_both : (xs ys : List Refusal) (x y : Option Refusal) → x ≡ lowest xs → y ≡ lowest ys → lower x y ≡ lowest (xs ++ ys)
lowest_both xs ys x y is_x is_y = ap (λ o. lower o y) is_x ∙ (ap (lower (lowest xs)) is_y ∙ sym (lowest-append xs ys))
