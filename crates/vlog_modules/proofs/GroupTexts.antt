-- What is read as the parameters of a header is what the extended BNF has for them.
use Rattle.std.proofs.Common.{◌≡◌, ◌∙◌, sym, ap, subst, refl, ◌↔◌, inl, inr, ℕ, List, [], ◌∷◌, ◌++◌, append_assoc, append-nil}
use Rattle.grammar.specs.Part.{takes}
use Rattle.grammar.specs.Texts.{ends, goes}
use Rattle.grammar.specs.Whole.{proper, end}
use Rattle.readers.specs.Parts.{if_next, while_next}
use Rattle.vlog_tokens.specs.declared.token.VFound.{VFound}
use Rattle.vlog_tokens.specs.declared.token.VToken.TheVariants as token
use Rattle.vlog_values.specs.declared.declaration.ParamDecl.{ParamDecl}
use Rattle.vlog_values.specs.declared.declaration.ParamSet.{ParamSet}
use Rattle.vlog_exprs.specs.Reasons as say
use Rattle.vlog_exprs.specs.Expressions.{Tokens, IsToken}
use Rattle.vlog_exprs.specs.Grammar.{mark}
use Rattle.vlog_items.specs.Grammar.{param_set}
use Rattle.vlog_modules.specs.declared.parameter.ParamGroups.{ParamGroups}
use Rattle.vlog_modules.specs.Grammar.{param_group, with_set, more_set, with_group, param_turn, param_groups, params_rest}
use Rattle.vlog_modules.specs.Productions.{Text, MoreText, none_more, one_more, with_sets, GroupText, group_and_sets, GroupsText, groups_and_end}
use Rattle.vlog_modules.proofs.HeaderTexts.{mark_text, text_mark, comma, named, name_there}

same_sets : (g : ParamDecl) → with_sets g [] ≡ g
same_sets g = ap (λ z. record { attrs = g.attrs; kind = g.kind; sets = z }) (append-nil g.sets)

later_sets : (g : ParamDecl) (p : ParamSet) (ps : List ParamSet) → with_sets (with_sets g (p ∷ [])) ps ≡ with_sets g (p ∷ ps)
later_sets g p ps = ap (λ z. record { attrs = g.attrs; kind = g.kind; sets = z }) (append_assoc g.sets (p ∷ []) ps)

-- one more parameter, behind its name
record OneSet (gs t : ParamGroups) (n : List ℕ) (ts : Tokens) : Type 0 where
  set : ParamSet
  text : (y : VFound) → say.at_name y.token ≡ takes n → Text param_set (proper y ∷ ts) set
  gives_it : t ≡ with_set gs set

set_of : (gs t : ParamGroups) (n : List ℕ) (ts : Tokens) → Text (more_set gs n) ts t → OneSet gs t n ts
unfolding more_set param_set
set_of gs t n ts (u, a, b, e, k, (v, c, d, w, l, (z, f))) = record {
  set = record { name = n; value = v };
  text = λ y h. (n, proper y ∷ [], ts, refl, named y n h, (u, a, b, e, k, (v, c, d, w, l, (z, refl))));
  gives_it = f;
}

-- the other way round
record SetThere (gs : ParamGroups) (ts : Tokens) (p : ParamSet) : Type 0 where
  first : VFound
  word : List ℕ
  rest : Tokens
  is : ts ≡ proper first ∷ rest
  taken : say.at_name first.token ≡ takes word
  text : Text (more_set gs word) rest (with_set gs p)

set_there : (gs : ParamGroups) (ts : Tokens) (p : ParamSet) → Text param_set ts p → SetThere gs ts p
unfolding more_set param_set
set_there gs ts p (n, a, b, e, k, (u, c, d, w, m, (v, f, g, x, l, (z, is)))) =
    let y = name_there a n k in
    record { first = y.0; word = n; rest = b; is = e ∙ ap (λ q. q ++ b) y.1; taken = y.2; text = (u, c, d, w, m, (v, f, g, x, l, (z, ap (λ q. with_set gs q) is))) }

-- behind groups: parameters of the last, further groups and the end
record Behind (s : ParamGroups) (all : List ParamDecl) (ts : Tokens) : Type 0 where
  sets : List ParamSet
  rest : List ParamDecl
  a : Tokens
  b : Tokens
  c : Tokens
  is : ts ≡ a ++ (b ++ c)
  sets_text : MoreText (Text param_set) a sets
  rest_text : MoreText GroupText b rest
  close : IsToken (token.Punct 41) c
  value : all ≡ s.before ++ with_sets s.last sets ∷ rest

one_set : (s : ParamGroups) (all : List ParamDecl) (x : VFound) (p : ParamSet) (b more : Tokens) (u : Unit {0}) → say.at_mark 44 x.token ≡ takes u → Text param_set b p → Behind (with_set s p) all more → Behind s all (proper x ∷ (b ++ more))
one_set s all x p b more u h k later = record {
  sets = p ∷ later.sets;
  rest = later.rest;
  a = proper x ∷ (b ++ later.a);
  b = later.b;
  c = later.c;
  is = ap (λ z. proper x ∷ z) (ap (λ z. b ++ z) later.is ∙ sym (append_assoc b later.a (later.b ++ later.c)));
  sets_text = one_more p later.sets (proper x ∷ []) b later.a refl (comma x u h) k later.sets_text refl;
  rest_text = later.rest_text;
  close = later.close;
  value = later.value ∙ ap (λ z. s.before ++ z ∷ later.rest) (later_sets s.last p later.sets);
}

one_group : (s : ParamGroups) (all : List ParamDecl) (x : VFound) (g : ParamDecl) (p more : Tokens) (u : Unit {0}) → say.at_mark 44 x.token ≡ takes u → Text param_group p g → Behind (with_group s g) all more → Behind s all (proper x ∷ (p ++ more))
one_group s all x g p more u h k later = record {
  sets = [];
  rest = with_sets g later.sets ∷ later.rest;
  a = [];
  b = proper x ∷ ((p ++ later.a) ++ later.b);
  c = later.c;
  is = ap (λ z. proper x ∷ z) (ap (λ z. p ++ z) later.is ∙ sym (append_assoc p later.a (later.b ++ later.c)) ∙ sym (append_assoc (p ++ later.a) later.b later.c));
  sets_text = none_more refl refl;
  rest_text = one_more (with_sets g later.sets) later.rest (proper x ∷ []) (p ++ later.a) later.b refl (comma x u h) (group_and_sets g later.sets p later.a refl k later.sets_text refl) later.rest_text refl;
  close = later.close;
  value = later.value ∙ append_assoc s.before (s.last ∷ []) (with_sets g later.sets ∷ later.rest) ∙ ap (λ z. s.before ++ z ∷ with_sets g later.sets ∷ later.rest) (sym (same_sets s.last));
}

groups_rounds : (s : ParamGroups) (all : List ParamDecl) (ts : Tokens) → Text (param_groups s) ts all → Behind s all ts
unfolding param_groups while_next param_turn if_next
groups_rounds s all ts (ends (u, a, b, e, k, (n, f))) = record {
  sets = [];
  rest = [];
  a = [];
  b = [];
  c = ts;
  is = refl;
  sets_text = none_more refl refl;
  rest_text = none_more refl refl;
  close = mark_text 41 ts u (subst (λ z. Text (mark 41) z u) (sym (e ∙ ap (λ z. a ++ z) n ∙ append-nil a)) k);
  value = f ∙ ap (λ z. s.before ++ z ∷ []) (sym (same_sets s.last));
}
groups_rounds s all ts (goes t a b (proper x, u, r, m, h, inl (proper y, n, q, e, k, l)) more w) =
    let later = groups_rounds t all b more in
    let o = set_of s t n q l in
    subst (λ z. Behind s all z) (sym (w ∙ ap (λ z. z ++ b) (m ∙ ap (λ z. proper x ∷ z) e))) (one_set s all x o.set (proper y ∷ q) b u h (o.text y k) (subst (λ z. Behind z all b) o.gives_it later))
groups_rounds s all ts (goes t a b (proper x, u, r, m, h, inl (end at, n, q, e, k, z)) more w) = absurd cc
groups_rounds s all ts (goes t a b (proper x, u, r, m, h, inr (g, p, q, e, k, (z, f))) more w) =
    let later = groups_rounds t all b more in
    subst (λ z. Behind s all z) (sym (w ∙ ap (λ z. z ++ b) (m ∙ ap (λ z. proper x ∷ z) (e ∙ ap (λ z. p ++ z) z ∙ append-nil p)))) (one_group s all x g p b u h k (subst (λ z. Behind z all b) f later))
groups_rounds s all ts (goes t a b (end at, u, r, m, h, k) more w) = absurd cc

-- ---- the other way round

text_sets : (a : Tokens) (ps : List ParamSet) → MoreText (Text param_set) a ps → (s : ParamGroups) (tail : Tokens) (all : List ParamDecl) → Text (param_groups (record { before = s.before; last = with_sets s.last ps })) tail all → Text (param_groups s) (a ++ tail) all
unfolding param_groups while_next param_turn if_next
text_sets a ps (none_more e n) s tail all t = subst (λ z. Text (param_groups s) z all) (ap (λ z. z ++ tail) (sym e)) (subst (λ z. Text (param_groups (record { before = s.before; last = z })) tail all) (ap (λ z. with_sets s.last z) n ∙ same_sets s.last) t)
text_sets a ps (one_more p ws b c d e (x, m, is) k more v) s tail all t =
    let y = set_there s c p k in
    let later = text_sets d ws more (with_set s p) tail all (subst (λ z. Text (param_groups (record { before = s.before; last = z })) tail all) (ap (λ z. with_sets s.last z) v ∙ sym (later_sets s.last p ws)) t) in
    goes (with_set s p) (proper x ∷ proper y.first ∷ y.rest) (d ++ tail) (proper x, tt, proper y.first ∷ y.rest, refl, ap (say.at_mark 44) is, inl (proper y.first, y.word, y.rest, refl, y.taken, y.text)) later
    (ap (λ z. z ++ tail) (e ∙ ap (λ z. z ++ (c ++ d)) m ∙ ap (λ z. proper x ∷ (z ++ d)) y.is) ∙ ap (λ z. proper x ∷ proper y.first ∷ z) (append_assoc y.rest d tail))

text_groups : (b : Tokens) (gs : List ParamDecl) → MoreText GroupText b gs → (s : ParamGroups) (c : Tokens) → IsToken (token.Punct 41) c → Text (param_groups s) (b ++ c) (s.before ++ s.last ∷ gs)
unfolding param_groups while_next param_turn if_next
text_groups b gs (none_more e n) s c k = ends (tt, c, [], ap (λ z. z ++ c) e ∙ sym (append-nil c), text_mark 41 c k, (refl, ap (λ z. s.before ++ s.last ∷ z) n))
text_groups b gs (one_more g ws f h i e (x, m, is) (group_and_sets first ps p q w te sets v) more z) s c k =
    let later = text_sets q ps sets (with_group s first) (i ++ c) _ (text_groups i ws more (record { before = s.before ++ s.last ∷ []; last = with_sets first ps }) c k) in
    let value : (s.before ++ s.last ∷ []) ++ with_sets first ps ∷ ws ≡ s.before ++ s.last ∷ gs = append_assoc s.before (s.last ∷ []) (with_sets first ps ∷ ws) ∙ ap (λ y. s.before ++ s.last ∷ y ∷ ws) (sym v) ∙ ap (λ y. s.before ++ s.last ∷ y) (sym z) in
    goes (with_group s first) (proper x ∷ p) (q ++ (i ++ c)) (proper x, tt, p, refl, ap (say.at_mark 44) is, inr (first, p, [], sym (append-nil p), te, (refl, refl))) (subst (λ y. Text (param_groups (with_group s first)) (q ++ (i ++ c)) y) value later)
    (ap (λ y. y ++ c) (e ∙ ap (λ y. y ++ (h ++ i)) m ∙ ap (λ y. proper x ∷ (y ++ i)) w) ∙ ap (λ y. proper x ∷ y) (append_assoc (p ++ q) i c ∙ append_assoc p q (i ++ c)))

to_groups : (ts : Tokens) (gs : List ParamDecl) → Text params_rest ts gs → GroupsText ts gs
unfolding params_rest
to_groups ts gs (u, o, r, e, k, (g, a, b, w, tg, more)) =
    let t = groups_rounds (record { before = []; last = g }) gs b more in
    groups_and_end (with_sets g t.sets) t.rest o (a ++ t.a) t.b t.c (e ∙ ap (λ z. o ++ z) (w ∙ ap (λ z. a ++ z) t.is ∙ sym (append_assoc a t.a (t.b ++ t.c)))) (mark_text 40 o u k) (group_and_sets g t.sets a t.a refl tg t.sets_text refl) t.rest_text t.close t.value

from_groups : (ts : Tokens) (gs : List ParamDecl) → GroupsText ts gs → Text params_rest ts gs
unfolding params_rest
from_groups ts gs (groups_and_end g rest o a b c e open_mark (group_and_sets first ps p q w te sets v) more close z) = (
  tt,
  o,
  a ++ (b ++ c),
  e,
  text_mark 40 o open_mark,
  (
    first,
    p,
    q ++ (b ++ c),
    ap (λ y. y ++ (b ++ c)) w ∙ append_assoc p q (b ++ c),
    te,
    subst (λ y. Text (param_groups (record { before = []; last = first })) (q ++ (b ++ c)) y) (ap (λ y. y ∷ rest) (sym v) ∙ sym z)
        (text_sets q ps sets (record { before = []; last = first }) (b ++ c) (with_sets first ps ∷ rest) (text_groups b rest more (record { before = []; last = with_sets first ps }) c close)),
  ),
)

-- The parameters of a header are those that the extended BNF has.
pub group_texts : (ts : Tokens) (gs : List ParamDecl) → Text params_rest ts gs ↔ GroupsText ts gs
group_texts ts gs = (to_groups ts gs, from_groups ts gs)
