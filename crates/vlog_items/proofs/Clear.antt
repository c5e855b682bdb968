-- In each part of an item a token that can be taken where it stands belongs there. An item is so whatever follows it.
use Rattle.std.proofs.Common.{◌≡◌, ◌∙◌, sym, ap, refl, ℕ, nat_eq, Bool, true, false, List, [], ◌∷◌, Option, Some, None, is_some, Ok, ◌⊎◌, inl, inr, codes}
use Rattle.std.proofs.lemmas.Bool.{eqb-true}
use Rattle.std.proofs.lemmas.Slice.Eq.{bytes_eq-Decides}
use Rattle.grammar.specs.Part.{Glance, gives, sequence, takes, leaves}
use Rattle.grammar.specs.Clear.{Empty, First, IsClear}
use Rattle.grammar.specs.Clear as clear
use Rattle.grammar.proofs.Follow.{next_given, next_then}
use Rattle.nl_base.specs.Case.{same_bytes}
use Rattle.nl_base.specs.declared.fault.Reason.{Reason}
use Rattle.nl_base.specs.declared.value.Dir.{Dir}
use Rattle.nl_base.specs.Ranges.{Bounds}
use Rattle.readers.specs.Parts.{of_token, at_token, one, if_next, maybe}
use Rattle.vlog_tokens.specs.declared.token.VToken.{VToken}
use Rattle.vlog_tokens.specs.declared.token.VToken.TheVariants as token
use Rattle.vlog_values.specs.declared.expression.Attr.{Attr}
use Rattle.vlog_values.specs.declared.expression.Expr.{Expr}
use Rattle.vlog_values.specs.declared.expression.Const.{Const}
use Rattle.vlog_values.specs.declared.declaration.PortKind.{PortKind}
use Rattle.vlog_values.specs.declared.declaration.NetKind.{NetKind}
use Rattle.vlog_values.specs.declared.declaration.PortDecl.{PortDecl}
use Rattle.vlog_values.specs.declared.declaration.NetDecl.{NetDecl}
use Rattle.vlog_values.specs.declared.declaration.ParamDecl.{ParamDecl}
use Rattle.vlog_values.specs.declared.declaration.ParamSet.{ParamSet}
use Rattle.vlog_values.specs.declared.declaration.ParamType.{ParamType}
use Rattle.vlog_values.specs.declared.declaration.ParamType.TheVariants as param_types
use Rattle.vlog_values.specs.declared.statement.NamedConn.{NamedConn}
use Rattle.vlog_values.specs.declared.statement.Conns.{Conns}
use Rattle.vlog_values.specs.declared.statement.Conns.TheVariants as conns_of
use Rattle.vlog_values.specs.declared.statement.VInst.{VInst}
use Rattle.vlog_values.specs.declared.statement.Instances.{Instances}
use Rattle.vlog_values.specs.declared.statement.Assignment.{Assignment}
use Rattle.vlog_values.specs.declared.statement.Assigns.{Assigns}
use Rattle.vlog_values.specs.declared.statement.DefSet.{DefSet}
use Rattle.vlog_values.specs.declared.statement.Defparams.{Defparams}
use Rattle.vlog_values.specs.declared.module.ItemV.{ItemV}
use Rattle.vlog_exprs.specs.declared.start.ExprStart.{ExprStart}
use Rattle.vlog_exprs.specs.Language.{NoContext, Vlog}
use Rattle.vlog_exprs.specs.Reasons as say
use Rattle.vlog_exprs.specs.Reasons.{meant_by}
use Rattle.vlog_exprs.specs.Grammar.{name, mark, choice, after, commas, list, maybe_range, maybe_expr, expr}
use Rattle.vlog_exprs.proofs.TokenKinds.{Next, TokenIs, due_is, taken_is, is_left, due_left, taken_left, mark_is, at_mark_is}
use Rattle.vlog_exprs.proofs.Clear.{Follows, first_due, clear_after, InList, Ends, next_commas, clear_commas, clear_list, ends_mark, NoBracket, clear_maybe_range, NoDigits, AfterExpr, mark_after_expr, in_list_after_expr, clear_expr, clear_maybe_expr, clear_constant}
use Rattle.vlog_items.specs.declared.item.ItemWord.{ItemWord}
use Rattle.vlog_items.specs.declared.item.ItemWord.TheVariants as words
use Rattle.vlog_items.specs.Grammar.{signed_word, signed, port_kind_words, port_kind, param_type_words, plain_type, param_type, param_set, port_item, net_item, param_item, assignment, assigns, named_rest, named, named_conns, order_of, ordered_conns, conns, instance, override_rest, override_set, overrides, instances, def_value, def_set, defparams, item_words, word_item, instances_item, item}

-- what comes where a part is due that F follows
abbrev pub NextOf : {A : Type 0} → Vlog A → Follows A → Next → Type 0
NextOf p F x = clear.Next {K = NoContext} {R = Reason} tt p F x

-- ---- which tokens they are

name_is : (t : VToken) (n : List ℕ) → say.name_of t ≡ Ok n → t ≡ token.Name n
name_is (token.Name m) n h = let e : m ≡ n = cc in ap token.Name e
name_is (token.Punct b) n h = absurd cc
name_is (token.Keyword w) n h = absurd cc
name_is (token.Number m) n h = absurd cc
name_is (token.Real r) n h = absurd cc
name_is (token.Based b) n h = absurd cc
name_is (token.Str s) n h = absurd cc
name_is token.AttrStart n h = absurd cc
name_is token.AttrStop n h = absurd cc
name_is (token.Symbol b) n h = absurd cc
name_is (token.Directive w) n h = absurd cc

-- a keyword that some words have
pub record WordIs {A : Type 0} (words : List (List ℕ × A)) (t : VToken) (a : A) : Type 0 where
  pub word : List ℕ
  pub is : t ≡ token.Keyword word
  pub meant : meant_by words word ≡ Some a

choice_meant : {A : Type 0} (w : List ℕ) (o : Option A) (a : A) → say.choice_by w o ≡ Ok a → o ≡ Some a
choice_meant w (Some b) a h = let e : b ≡ a = cc in ap Some e
choice_meant w None a h = absurd cc

pub choice_is : {A : Type 0} (words : List (List ℕ × A)) (t : VToken) (a : A) → say.choice_of words t ≡ Ok a → WordIs words t a
choice_is words (token.Keyword w) a h = record { word = w; is = refl; meant = choice_meant w (meant_by words w) a h }
choice_is words (token.Name n) a h = absurd cc
choice_is words (token.Punct b) a h = absurd cc
choice_is words (token.Number n) a h = absurd cc
choice_is words (token.Real r) a h = absurd cc
choice_is words (token.Based b) a h = absurd cc
choice_is words (token.Str s) a h = absurd cc
choice_is words token.AttrStart a h = absurd cc
choice_is words token.AttrStop a h = absurd cc
choice_is words (token.Symbol b) a h = absurd cc
choice_is words (token.Directive w) a h = absurd cc

glance_meant : {A : Type 0} (o : Option A) (a : A) → say.glance_of o ≡ takes a → o ≡ Some a
glance_meant (Some b) a h = let e : b ≡ a = cc in ap Some e
glance_meant None a h = absurd cc

pub at_choice_is : {A : Type 0} (words : List (List ℕ × A)) (t : VToken) (a : A) → say.at_choice words t ≡ takes a → WordIs words t a
at_choice_is words (token.Keyword w) a h = record { word = w; is = refl; meant = glance_meant (meant_by words w) a h }
at_choice_is words (token.Name n) a h = absurd cc
at_choice_is words (token.Punct b) a h = absurd cc
at_choice_is words (token.Number n) a h = absurd cc
at_choice_is words (token.Real r) a h = absurd cc
at_choice_is words (token.Based b) a h = absurd cc
at_choice_is words (token.Str s) a h = absurd cc
at_choice_is words token.AttrStart a h = absurd cc
at_choice_is words token.AttrStop a h = absurd cc
at_choice_is words (token.Symbol b) a h = absurd cc
at_choice_is words (token.Directive w) a h = absurd cc

-- what begins an expression is no point
brace_no_point : (b : ℕ) (q : Bool) (start : ExprStart) → nat_eq b 123 ≡ q → say.at_expr (token.Punct b) ≡ takes start → say.at_mark 46 (token.Punct b) ≡ leaves
brace_no_point b true start e h = let k : b ≡ 123 = eqb-true b 123 e in rw k refl
brace_no_point b false start e h = let k : say.at_expr (token.Punct b) ≡ leaves = rw e refl in let m = sym k ∙ h in absurd cc

expr_no_point : (t : VToken) (start : ExprStart) → say.at_expr t ≡ takes start → say.at_mark 46 t ≡ leaves
expr_no_point (token.Punct b) start h = brace_no_point b (nat_eq b 123) start refl h
expr_no_point (token.Name n) start h = refl
expr_no_point (token.Keyword w) start h = refl
expr_no_point (token.Number n) start h = refl
expr_no_point (token.Real r) start h = refl
expr_no_point (token.Based b) start h = refl
expr_no_point (token.Str s) start h = refl
expr_no_point token.AttrStart start h = refl
expr_no_point token.AttrStop start h = refl
expr_no_point (token.Symbol b) start h = refl
expr_no_point (token.Directive w) start h = refl

-- ---- what comes next

-- a name is next
abbrev pub NameNext : Next → Type 0
NameNext x = (n : List ℕ) × (of_token (λ y. say.name_of y.token) x ≡ Ok n)

-- what leaves every name leaves it
pub name_left : {C : Type 0} (f : VToken → Glance C Reason) (x : Next) → ((n : List ℕ) → f (token.Name n) ≡ leaves) → NameNext x → at_token (λ y. f y.token) x ≡ leaves
name_left f x l n = due_left say.name_of f x n.0 (λ t a h. ap f (name_is t a h) ∙ l a) n.1

-- a keyword of some words is next, which is due or need not stand
abbrev pub ChoiceNext : {A : Type 0} → List (List ℕ × A) → Next → Type 0
ChoiceNext {A = A} words x = (a : A) × (of_token (λ y. say.choice_of words y.token) x ≡ Ok a)

abbrev pub WordNext : {A : Type 0} → List (List ℕ × A) → Next → Type 0
WordNext {A = A} words x = (a : A) × (at_token (λ y. say.at_choice words y.token) x ≡ takes a)

pub choice_left : {A C : Type 0} (words : List (List ℕ × A)) (f : VToken → Glance C Reason) (x : Next) → ((w : List ℕ) (a : A) → meant_by words w ≡ Some a → f (token.Keyword w) ≡ leaves) → ChoiceNext words x → at_token (λ y. f y.token) x ≡ leaves
choice_left words f x l n = due_left (say.choice_of words) f x n.0 (λ t a h. let i = choice_is words t a h in ap f i.is ∙ l i.word a i.meant) n.1

pub word_left : {A C : Type 0} (words : List (List ℕ × A)) (f : VToken → Glance C Reason) (x : Next) → ((w : List ℕ) (a : A) → meant_by words w ≡ Some a → f (token.Keyword w) ≡ leaves) → WordNext words x → at_token (λ y. f y.token) x ≡ leaves
word_left words f x l n = taken_left (say.at_choice words) f x n.0 (λ t a h. let i = at_choice_is words t a h in ap f i.is ∙ l i.word a i.meant) n.1

-- where a mark is due it is next
pub next_mark : {A : Type 0} (d : ℕ) (q : Unit {0} → Vlog A) (F : Follows A) (x : Next) → NextOf (sequence (mark d) q) F x → TokenIs (token.Punct d) x
next_mark d q F x n = let m = first_due (λ _ y. say.mark_of d y.token) q F x n in due_is (λ y. say.mark_of d y.token) (token.Punct d) x m.0 (λ y u e. mark_is d y.token u e) m.1

-- in a list, no digits and no point are next
pub mark_no_digits : (d : ℕ) (x : Next) → TokenIs (token.Punct d) x → NoDigits x
mark_no_digits d x t n = is_left (say.at_digits n) (token.Punct d) x refl t

pub list_no_digits : (d : ℕ) (x : Next) → InList (token.Punct d) x → NoDigits x
list_no_digits d x (inl t) = mark_no_digits 44 x t
list_no_digits d x (inr t) = mark_no_digits d x t

-- ---- parts that begin with one of some tokens

pub record BeginsWith {A : Type 0} (P : Next → Type 0) (p : Vlog A) : Type 0 where
  pub first : (x : Next) → First tt p x → P x
  pub full : (v : A) → Empty tt p v → ⊥

pub begins_next : {A : Type 0} (P : Next → Type 0) (p : Vlog A) (F : Follows A) → BeginsWith P p → (x : Next) → NextOf p F x → P x
begins_next P p F b x (inl n) = b.first x n
begins_next P p F b x (inr n) = absurd (b.full n.0 n.1)

pub begins_then : {A B : Type 0} (P : Next → Type 0) (p : Vlog A) (q : A → Vlog B) → BeginsWith P p → BeginsWith P (sequence p q)
begins_then P p q b = record { first = by; full = λ v n. b.full n.0 n.1 }
  where
    by : (x : Next) → First tt (sequence p q) x → P x
    by x (inl n) = b.first x n
    by x (inr n) = absurd (b.full n.0 n.1)

-- a part that may be of no token, and one behind it
pub begins_either : {A B : Type 0} (P Q : Next → Type 0) (p : Vlog A) (q : A → Vlog B) → ((x : Next) → First tt p x → P x) → ((a : A) → BeginsWith Q (q a)) → BeginsWith (λ x. P x ⊎ Q x) (sequence p q)
begins_either P Q p q h b = record { first = by; full = λ v n. (b n.0).full v n.2 }
  where
    by : (x : Next) → First tt (sequence p q) x → P x ⊎ Q x
    by x (inl n) = inl (h x n)
    by x (inr n) = inr ((b n.0).first x n.2)

pub begins_name : BeginsWith NameNext name
unfolding one
begins_name = record { first = λ x n. n; full = λ v n. n }

-- ---- the words of declarations

abbrev pub Bracket : Next → Type 0
Bracket x = TokenIs (token.Punct 91) x

first_signed : (x : Next) → First tt signed x → WordNext signed_word x
unfolding signed maybe
first_signed x (inl (inl n)) = n
first_signed x (inl (inr n)) = absurd n
first_signed x (inr n) = absurd n.2

first_range : (x : Next) → First tt maybe_range x → Bracket x
unfolding maybe_range after if_next
first_range x (inl n) = taken_is (λ y. say.at_mark 91 y.token) (token.Punct 91) x n.0 (λ y u e. at_mark_is 91 y.token u e) n.1
first_range x (inr n) = absurd n

-- the words of one word are that word
meant_one : {A : Type 0} (q w : List ℕ) (a b : A) (same : Bool) → same_bytes w q ≡ same → meant_by ((q, a) ∷ []) w ≡ Some b → w ≡ q
unfolding meant_by
meant_one q w a b true e h = (bytes_eq-Decides w q).0 e
meant_one {A = A} q w a b false e h = let k : meant_by ((q, a) ∷ []) w ≡ None = rw e refl in let m = sym k ∙ h in absurd cc

is_signed_word : (w : List ℕ) (b : Bool) → meant_by signed_word w ≡ Some b → w ≡ codes "signed"
is_signed_word w b h = meant_one (codes "signed") w true b (same_bytes w (codes "signed")) refl h

-- no word of declarations but these is next
abbrev pub NotSigned : Next → Type 0
NotSigned x = at_token (λ y. say.at_choice signed_word y.token) x ≡ leaves

abbrev pub NoKind : Next → Type 0
NoKind x = at_token (λ y. say.at_choice port_kind_words y.token) x ≡ leaves

abbrev pub NoType : Next → Type 0
NoType x = at_token (λ y. say.at_choice param_type_words y.token) x ≡ leaves

pub name_no_bracket : (x : Next) → NameNext x → NoBracket x
name_no_bracket x n = name_left (say.at_mark 91) x (λ n. refl) n

pub no_sign : (x : Next) → Bracket x ⊎ NameNext x → NotSigned x
no_sign x (inl t) = is_left (say.at_choice signed_word) (token.Punct 91) x refl t
no_sign x (inr n) = name_left (say.at_choice signed_word) x (λ n. refl) n

signed_no_kind : (w : List ℕ) (b : Bool) → meant_by signed_word w ≡ Some b → say.at_choice port_kind_words (token.Keyword w) ≡ leaves
unfolding meant_by
signed_no_kind w b h = rw (is_signed_word w b h) refl

signed_no_type : (w : List ℕ) (b : Bool) → meant_by signed_word w ≡ Some b → say.at_choice param_type_words (token.Keyword w) ≡ leaves
unfolding meant_by
signed_no_type w b h = rw (is_signed_word w b h) refl

pub no_kind : (x : Next) → WordNext signed_word x ⊎ (Bracket x ⊎ NameNext x) → NoKind x
no_kind x (inl w) = word_left signed_word (say.at_choice port_kind_words) x signed_no_kind w
no_kind x (inr (inl t)) = is_left (say.at_choice port_kind_words) (token.Punct 91) x refl t
no_kind x (inr (inr n)) = name_left (say.at_choice port_kind_words) x (λ n. refl) n

no_type : (x : Next) → WordNext signed_word x ⊎ (Bracket x ⊎ NameNext x) → NoType x
no_type x (inl w) = word_left signed_word (say.at_choice param_type_words) x signed_no_type w
no_type x (inr (inl t)) = is_left (say.at_choice param_type_words) (token.Punct 91) x refl t
no_type x (inr (inr n)) = name_left (say.at_choice param_type_words) x (λ n. refl) n

pub clear_signed : (F : Follows Bool) → ((b : Bool) (x : Next) → F b x → NotSigned x) → IsClear tt signed F
unfolding signed maybe
clear_signed F h = ((λ _. tt, tt, λ x n. h false x (next_given NoContext Reason tt false F x (next_given NoContext Reason tt None (λ s. NextOf (gives (is_some s)) F) x n))), λ _. tt)

pub clear_port_kind : (F : Follows (Option PortKind)) → ((k : Option PortKind) (x : Next) → F k x → NoKind x) → IsClear tt port_kind F
unfolding port_kind maybe
clear_port_kind F h = (λ _. tt, tt, λ x n. h None x (next_given NoContext Reason tt None F x n))

-- ["signed"] [range] and a part that begins with a name
module _ {B : Type 0} (tail : Bool → Option Bounds → Vlog B) (named : (s : Bool) (r : Option Bounds) → BeginsWith NameNext (tail s r)) where
  abbrev behind_range : Bool → Vlog B
  behind_range s = sequence maybe_range (λ r. tail s r)

  abbrev pub behind_sign : Vlog B
  behind_sign = sequence signed (λ s. behind_range s)

  begins_range : (s : Bool) → BeginsWith (λ x. Bracket x ⊎ NameNext x) (behind_range s)
  begins_range s = begins_either Bracket NameNext maybe_range (λ r. tail s r) first_range (named s)

  pub begins_sign : BeginsWith (λ x. WordNext signed_word x ⊎ (Bracket x ⊎ NameNext x)) behind_sign
  begins_sign = begins_either (WordNext signed_word) (λ x. Bracket x ⊎ NameNext x) signed behind_range first_signed begins_range

  pub clear_sign : (F : Follows B) → ((s : Bool) (r : Option Bounds) → IsClear tt (tail s r) F) → IsClear tt behind_sign F
  clear_sign F h = (
    clear_signed (λ s. NextOf (behind_range s) F) (λ s x n. no_sign x (begins_next (λ x. Bracket x ⊎ NameNext x) (behind_range s) F (begins_range s) x n)),
    λ s. (clear_maybe_range (λ r. NextOf (tail s r) F) (λ r x n. name_no_bracket x (begins_next NameNext (tail s r) F (named s r) x n)), λ r. h s r),
  )

-- NAME {"," NAME} ";" and what is made of them
abbrev names_to : {B : Type 0} → (List (List ℕ) → B) → Vlog B
names_to g = sequence (list name (mark 59)) (λ ns. gives (g ns))

begins_names : {B : Type 0} (g : List (List ℕ) → B) → BeginsWith NameNext (names_to g)
unfolding list
begins_names g = begins_then NameNext (list name (mark 59)) (λ ns. gives (g ns)) (begins_then NameNext name (λ a. commas name (mark 59) (a ∷ [])) begins_name)

semicolon : Ends (λ _ x. say.mark_of 59 x.token) (token.Punct 59)
semicolon = ends_mark 59 refl

bracket : Ends (λ _ x. say.mark_of 41 x.token) (token.Punct 41)
bracket = ends_mark 41 refl

clear_names : {B : Type 0} (g : List (List ℕ) → B) (F : Follows B) → IsClear tt (names_to g) F
unfolding one
clear_names g F = (clear_list name (λ _ x. say.mark_of 59 x.token) (token.Punct 59) semicolon (λ ns. NextOf (gives (g ns)) F) tt, λ _. tt)

-- ---- declarations

abbrev port_tail : List Attr → Dir → Option PortKind → Bool → Option Bounds → Vlog PortDecl
port_tail attrs dir k s r = names_to (λ ns. record { attrs = attrs; dir = dir; kind = k; signed = s; range = r; names = ns })

begins_port_tail : (attrs : List Attr) (dir : Dir) (k : Option PortKind) (s : Bool) (r : Option Bounds) → BeginsWith NameNext (port_tail attrs dir k s r)
begins_port_tail attrs dir k s r = begins_names (λ ns. record { attrs = attrs; dir = dir; kind = k; signed = s; range = r; names = ns })

clear_port_item : (attrs : List Attr) (dir : Dir) (F : Follows PortDecl) → IsClear tt (port_item attrs dir) F
unfolding port_item
clear_port_item attrs dir F = (
  clear_port_kind (λ k. NextOf (behind_sign (port_tail attrs dir k) (begins_port_tail attrs dir k)) F)
      (λ k x n. no_kind x (begins_next (λ x. WordNext signed_word x ⊎ (Bracket x ⊎ NameNext x)) (behind_sign (port_tail attrs dir k) (begins_port_tail attrs dir k)) F (begins_sign (port_tail attrs dir k) (begins_port_tail attrs dir k)) x n)),
  λ k. clear_sign (port_tail attrs dir k) (begins_port_tail attrs dir k) F (λ s r. clear_names (λ ns. record { attrs = attrs; dir = dir; kind = k; signed = s; range = r; names = ns }) F),
)

abbrev net_of : List Attr → NetKind → Bool → Option Bounds → List (List ℕ) → NetDecl
net_of attrs kind s r ns = record { attrs = attrs; kind = kind; signed = s; range = r; names = ns }

clear_net_item : (attrs : List Attr) (kind : NetKind) (F : Follows NetDecl) → IsClear tt (net_item attrs kind) F
unfolding net_item
clear_net_item attrs kind F = clear_sign (λ s r. names_to (net_of attrs kind s r)) (λ s r. begins_names (net_of attrs kind s r)) F (λ s r. clear_names (net_of attrs kind s r) F)

-- ---- parameters

next_plain : (F : Follows ParamType) (x : Next) → NextOf plain_type F x → WordNext signed_word x ⊎ (Bracket x ⊎ ((t : ParamType) × F t x))
unfolding plain_type
next_plain F x n = elim (next_then tt signed (λ s. sequence maybe_range (λ r. gives (param_types.Plain s r))) F x n) [
  | inl m ↦ inl (first_signed x m)
  | inr m ↦ elim (next_then tt maybe_range (λ r. gives (param_types.Plain m.0 r)) F x m.2) [
    | inl d ↦ inr (inl (first_range x d))
    | inr d ↦ inr (inr (param_types.Plain m.0 d.0, next_given NoContext Reason tt (param_types.Plain m.0 d.0) F x d.2))
  ]
]

clear_plain : (F : Follows ParamType) → ((t : ParamType) (x : Next) → F t x → NameNext x) → IsClear tt plain_type F
unfolding plain_type
clear_plain F h = (
  clear_signed (λ s. NextOf (sequence maybe_range (λ r. gives (param_types.Plain s r))) F) (λ s x n. no_sign x (by s x n)),
  λ s. (clear_maybe_range (λ r. NextOf (gives (param_types.Plain s r)) F) (λ r x n. name_no_bracket x (h (param_types.Plain s r) x (next_given NoContext Reason tt (param_types.Plain s r) F x n))), λ r. tt),
)
  where
    by : (s : Bool) (x : Next) → NextOf (sequence maybe_range (λ r. gives (param_types.Plain s r))) F x → Bracket x ⊎ NameNext x
    by s x n = elim (next_then tt maybe_range (λ r. gives (param_types.Plain s r)) F x n) [
      | inl d ↦ inl (first_range x d)
      | inr d ↦ inr (h (param_types.Plain s d.0) x (next_given NoContext Reason tt (param_types.Plain s d.0) F x d.2))
    ]

-- The type of a parameter is clear where a name follows it.
pub clear_param_type : (F : Follows ParamType) → ((t : ParamType) (x : Next) → F t x → NameNext x) → IsClear tt param_type F
unfolding param_type if_next
clear_param_type F h = (λ t. tt, clear_plain F h, λ x n. no_type x (by x (next_plain F x n)))
  where
    by : (x : Next) → WordNext signed_word x ⊎ (Bracket x ⊎ ((t : ParamType) × F t x)) → WordNext signed_word x ⊎ (Bracket x ⊎ NameNext x)
    by x (inl w) = inl w
    by x (inr (inl t)) = inr (inl t)
    by x (inr (inr n)) = inr (inr (h n.0 x n.1))

pub begins_param_set : BeginsWith NameNext param_set
unfolding param_set
begins_param_set = begins_then NameNext name _ begins_name

-- A parameter is clear where no digits follow it.
pub clear_param_set : (F : Follows ParamSet) → ((s : ParamSet) (x : Next) → F s x → NoDigits x) → IsClear tt param_set F
unfolding param_set one
clear_param_set F h = (tt, λ n. (tt, λ _. (clear_constant (λ v. NextOf (gives (record { name = n; value = v })) F) (λ v x m. h (record { name = n; value = v }) x (next_given NoContext Reason tt (record { name = n; value = v }) F x m)), λ v. tt)))

abbrev sets_to : List Attr → ParamType → Vlog ParamDecl
sets_to attrs t = sequence (list param_set (mark 59)) (λ ss. gives (record { attrs = attrs; kind = t; sets = ss }))

begins_sets : (attrs : List Attr) (t : ParamType) → BeginsWith NameNext (sets_to attrs t)
unfolding list
begins_sets attrs t = begins_then NameNext (list param_set (mark 59)) (λ ss. gives (record { attrs = attrs; kind = t; sets = ss })) (begins_then NameNext param_set (λ a. commas param_set (mark 59) (a ∷ [])) begins_param_set)

clear_param_item : (attrs : List Attr) (F : Follows ParamDecl) → IsClear tt (param_item attrs) F
unfolding param_item
clear_param_item attrs F = (
  clear_param_type (λ t. NextOf (sets_to attrs t) F) (λ t x n. begins_next NameNext (sets_to attrs t) F (begins_sets attrs t) x n),
  λ t. (clear_list param_set (λ _ x. say.mark_of 59 x.token) (token.Punct 59) semicolon _ (clear_param_set (λ _ x. InList (token.Punct 59) x) (λ s x n. list_no_digits 59 x n)), λ ss. tt),
)

-- ---- assignments

abbrev right_of : Expr → Vlog Assignment
right_of l = sequence (expr false 64) (λ r. gives (record { left = l; right = r }))

clear_assignment : (F : Follows Assignment) → ((a : Assignment) (x : Next) → F a x → AfterExpr x) → IsClear tt assignment F
unfolding assignment one
clear_assignment F h = (
  clear_expr true 64 (λ l. NextOf (sequence (mark 61) (λ _. right_of l)) F) (λ l x n. mark_after_expr 61 x refl (next_mark 61 (λ _. right_of l) F x n)),
  λ l. (tt, λ _. (clear_expr false 64 (λ r. NextOf (gives (record { left = l; right = r })) F) (λ r x n. h (record { left = l; right = r }) x (next_given NoContext Reason tt (record { left = l; right = r }) F x n)), λ r. tt)),
)

clear_assigns : (attrs : List Attr) (F : Follows Assigns) → IsClear tt (assigns attrs) F
unfolding assigns
clear_assigns attrs F = (clear_list assignment (λ _ x. say.mark_of 59 x.token) (token.Punct 59) semicolon _ (clear_assignment (λ _ x. InList (token.Punct 59) x) (λ a x n. in_list_after_expr 59 x refl n)), λ ss. tt)

-- ---- connections

abbrev closed_conn : List ℕ → Option Expr → Vlog NamedConn
closed_conn n e = sequence (mark 41) (λ _. gives (record { port = n; value = e }))

clear_named_rest : (F : Follows NamedConn) → IsClear tt named_rest F
unfolding named_rest one
clear_named_rest F = (
  tt,
  λ n. (
    tt,
    λ _. (
      clear_maybe_expr (λ e. NextOf (closed_conn n e) F) (λ e x m. mark_after_expr 41 x refl (next_mark 41 (λ _. gives (record { port = n; value = e })) F x m))
          (λ x m. is_left say.at_expr (token.Punct 41) x refl (next_mark 41 (λ _. gives (record { port = n; value = None })) F x m)),
      λ e. (tt, λ _. tt),
    ),
  ),
)

clear_named : (F : Follows NamedConn) → IsClear tt named F
unfolding named one
clear_named F = (tt, λ _. clear_named_rest F)

clear_named_conns : (F : Follows Conns) → IsClear tt named_conns F
unfolding named_conns
clear_named_conns F = (
  clear_named_rest (λ first. NextOf (sequence (commas named (mark 41) (first ∷ [])) (λ all. gives (conns_of.Named all))) F),
  λ first. (clear_commas named (λ _ x. say.mark_of 41 x.token) (token.Punct 41) bracket (first ∷ []) (λ all. NextOf (gives (conns_of.Named all)) F) (clear_named (λ _ x. InList (token.Punct 41) x)), λ all. tt),
)

no_expr : (x : Next) → InList (token.Punct 41) x → at_token (λ y. say.at_expr y.token) x ≡ leaves
no_expr x (inl t) = is_left say.at_expr (token.Punct 44) x refl t
no_expr x (inr t) = is_left say.at_expr (token.Punct 41) x refl t

clear_ordered_conns : (F : Follows Conns) → IsClear tt ordered_conns F
unfolding ordered_conns
clear_ordered_conns F = (
  clear_list maybe_expr (λ _ x. say.mark_of 41 x.token) (token.Punct 41) bracket (λ es. NextOf (gives (conns_of.Order (order_of es))) F)
      (clear_maybe_expr (λ _ x. InList (token.Punct 41) x) (λ e x n. in_list_after_expr 41 x refl n) no_expr),
  λ es. tt,
)

first_no_point : (x : Next) → First tt maybe_expr x → at_token (λ y. say.at_mark 46 y.token) x ≡ leaves
unfolding maybe_expr if_next
first_no_point x (inl n) = taken_left say.at_expr (say.at_mark 46) x n.0 expr_no_point n.1
first_no_point x (inr n) = absurd n

list_no_point : (x : Next) → InList (token.Punct 41) x → at_token (λ y. say.at_mark 46 y.token) x ≡ leaves
list_no_point x (inl t) = is_left (say.at_mark 46) (token.Punct 44) x refl t
list_no_point x (inr t) = is_left (say.at_mark 46) (token.Punct 41) x refl t

-- connections in order behind the first
abbrev order_to : Option Expr → Vlog Conns
order_to e = sequence (commas maybe_expr (mark 41) (e ∷ [])) (λ es. gives (conns_of.Order (order_of es)))

next_order : (e : Option Expr) (F : Follows Conns) (x : Next) → NextOf (order_to e) F x → InList (token.Punct 41) x
next_order e F x n = elim (next_then tt (commas maybe_expr (mark 41) (e ∷ [])) (λ es. gives (conns_of.Order (order_of es))) F x n) [
  | inl m ↦ next_commas maybe_expr (λ _ x. say.mark_of 41 x.token) (token.Punct 41) bracket (e ∷ []) (λ _ _. ⊥) x (inl m)
  | inr m ↦ next_commas maybe_expr (λ _ x. say.mark_of 41 x.token) (token.Punct 41) bracket (e ∷ []) (λ _ _. Unit {0}) x (inr (m.0, m.1, tt))
]

regrouped : (F : Follows Conns) (x : Next) → NextOf ordered_conns F x → NextOf (sequence maybe_expr order_to) F x
unfolding ordered_conns list
regrouped F x (inl (inl (inl m))) = inl (inl m)
regrouped F x (inl (inl (inr m))) = inl (inr (m.0, m.1, inl m.2))
regrouped F x (inl (inr m)) = inl (inr (m.1.0, m.1.1, inr (m.0, m.1.2, m.2)))
regrouped F x (inr m) = inr (m.0, (m.1.1.0, m.1.1.1, (m.1.0, m.1.1.2, m.1.2)), m.2)

-- in order, no connection begins with a point
ordered_no_point : (F : Follows Conns) (x : Next) → NextOf ordered_conns F x → at_token (λ y. say.at_mark 46 y.token) x ≡ leaves
ordered_no_point F x n = elim (next_then tt maybe_expr order_to F x (regrouped F x n)) [
  | inl m ↦ first_no_point x m
  | inr m ↦ list_no_point x (next_order m.0 F x m.2)
]

clear_conns : (F : Follows Conns) → IsClear tt conns F
unfolding conns
clear_conns F = clear_after 46 named_conns ordered_conns F (clear_named_conns F) (clear_ordered_conns F) (ordered_no_point F)

-- ---- instances

clear_instance : (F : Follows VInst) → IsClear tt instance F
unfolding instance one
clear_instance F = (tt, λ n. (tt, λ _. (clear_conns _, λ cs. tt)))

abbrev closed_set : List ℕ → Const → Vlog ParamSet
closed_set n v = sequence (mark 41) (λ _. gives (record { name = n; value = v }))

clear_override : (F : Follows ParamSet) → IsClear tt override_set F
unfolding override_set override_rest one
clear_override F = (tt, λ _. (tt, λ n. (tt, λ _. (clear_constant (λ v. NextOf (closed_set n v) F) (λ v x m. mark_no_digits 41 x (next_mark 41 (λ _. gives (record { name = n; value = v })) F x m)), λ v. (tt, λ _. tt)))))

clear_overrides : (F : Follows (List ParamSet)) → ((x : Next) → F [] x → NameNext x) → IsClear tt overrides F
unfolding overrides one
clear_overrides F h = clear_after 35 (sequence (mark 40) (λ _. list override_set (mark 41))) (gives []) F (tt, λ _. clear_list override_set (λ _ x. say.mark_of 41 x.token) (token.Punct 41) bracket F (clear_override _)) tt
    (λ x n. name_left (say.at_mark 35) x (λ n. refl) (h x (next_given NoContext Reason tt [] F x n)))

begins_instance : BeginsWith NameNext instance
unfolding instance
begins_instance = begins_then NameNext name _ begins_name

abbrev insts_to : List Attr → List ℕ → List ParamSet → Vlog Instances
insts_to attrs m ps = sequence (list instance (mark 59)) (λ us. gives (record { attrs = attrs; «module» = m; params = ps; insts = us }))

begins_insts : (attrs : List Attr) (m : List ℕ) (ps : List ParamSet) → BeginsWith NameNext (insts_to attrs m ps)
unfolding list
begins_insts attrs m ps = begins_then NameNext (list instance (mark 59)) (λ us. gives (record { attrs = attrs; «module» = m; params = ps; insts = us })) (begins_then NameNext instance (λ a. commas instance (mark 59) (a ∷ [])) begins_instance)

clear_instances : (attrs : List Attr) (m : List ℕ) (F : Follows Instances) → IsClear tt (instances attrs m) F
unfolding instances
clear_instances attrs m F = (
  clear_overrides (λ ps. NextOf (insts_to attrs m ps) F) (λ x n. begins_next NameNext (insts_to attrs m []) F (begins_insts attrs m []) x n),
  λ ps. (clear_list instance (λ _ x. say.mark_of 59 x.token) (token.Punct 59) semicolon _ (clear_instance _), λ us. tt),
)

-- ---- defparam

clear_def_set : (F : Follows DefSet) → ((s : DefSet) (x : Next) → F s x → NoDigits x) → IsClear tt def_set F
unfolding def_set def_value one
clear_def_set F h =
    (tt, λ u. (tt, λ _. (tt, λ n. (tt, λ _. (clear_constant (λ v. NextOf (gives (record { instance = u; name = n; value = v })) F) (λ v x m. h (record { instance = u; name = n; value = v }) x (next_given NoContext Reason tt (record { instance = u; name = n; value = v }) F x m)), λ v. tt)))))

clear_defparams : (attrs : List Attr) (F : Follows Defparams) → IsClear tt (defparams attrs) F
unfolding defparams
clear_defparams attrs F = (clear_list def_set (λ _ x. say.mark_of 59 x.token) (token.Punct 59) semicolon _ (clear_def_set (λ _ x. InList (token.Punct 59) x) (λ s x n. list_no_digits 59 x n)), λ ss. tt)

-- ---- items

-- An item is clear behind its first word, whatever follows it.
pub clear_word_item : (attrs : List Attr) (word : ItemWord) (F : Follows ItemV) → IsClear tt (word_item attrs word) F
unfolding word_item
clear_word_item attrs (words.Port dir) F = (clear_port_item attrs dir _, λ d. tt)
clear_word_item attrs (words.Net kind) F = (clear_net_item attrs kind _, λ d. tt)
clear_word_item attrs words.Param F = (clear_param_item attrs _, λ d. tt)
clear_word_item attrs words.Assign F = (clear_assigns attrs _, λ s. tt)
clear_word_item attrs words.Defparam F = (clear_defparams attrs _, λ s. tt)

-- Instances are clear behind the name of their module, whatever follows them.
pub clear_instances_item : (attrs : List Attr) (m : List ℕ) (F : Follows ItemV) → IsClear tt (instances_item attrs m) F
unfolding instances_item
clear_instances_item attrs m F = (clear_instances attrs m _, λ s. tt)

clear_word : (attrs : List Attr) (F : Follows ItemV) → IsClear tt (choice item_words) (λ w. NextOf (word_item attrs w) F)
unfolding one
clear_word attrs F = tt

-- An item is clear, whatever follows it.
pub clear_item : (attrs : List Attr) (F : Follows ItemV) → IsClear tt (item attrs) F
unfolding item if_next
clear_item attrs F = (
  λ m. clear_instances_item attrs m F,
  (clear_word attrs F, λ w. clear_word_item attrs w F),
  λ x n. choice_left item_words say.at_name x (λ w a h. refl) (first_due (λ _ y. say.choice_of item_words y.token) (word_item attrs) F x n),
)

-- a name or the first word of an item is next
abbrev pub ItemNext : Next → Type 0
ItemNext x = ((n : List ℕ) × (at_token (λ y. say.at_name y.token) x ≡ takes n)) ⊎ ChoiceNext item_words x

first_item : (attrs : List Attr) (x : Next) → First tt (item attrs) x → ItemNext x
unfolding item if_next one
first_item attrs x (inl n) = inl n
first_item attrs x (inr (inl n)) = inr n
first_item attrs x (inr (inr n)) = absurd n.1

full_item : (attrs : List Attr) (v : ItemV) → Empty tt (item attrs) v → ⊥
unfolding item if_next one
full_item attrs v n = n.1

pub begins_item : (attrs : List Attr) → BeginsWith ItemNext (item attrs)
begins_item attrs = record { first = first_item attrs; full = full_item attrs }
