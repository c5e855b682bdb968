-- What is read as the declarations of a header is what the extended BNF has for them.
use Rattle.std.proofs.Common.{◌≡◌, ◌∙◌, sym, ap, subst, refl, ◌↔◌, inl, inr, ℕ, nat_eq, true, List, [], ◌∷◌, ◌++◌, append_assoc, append-nil, Ok}
use Rattle.std.proofs.lemmas.Bool.Decides.{Decides-eqb}
use Rattle.grammar.specs.Part.{takes}
use Rattle.grammar.specs.Texts.{ends, goes}
use Rattle.grammar.specs.Whole.{proper, end}
use Rattle.readers.specs.Parts.{one, if_next, while_next}
use Rattle.vlog_tokens.specs.declared.token.VFound.{VFound}
use Rattle.vlog_tokens.specs.declared.token.VToken.{VToken}
use Rattle.vlog_tokens.specs.declared.token.VToken.TheVariants as token
use Rattle.vlog_values.specs.declared.declaration.PortDecl.{PortDecl}
use Rattle.vlog_values.specs.declared.module.Header.TheVariants as headers
use Rattle.vlog_exprs.specs.Reasons as say
use Rattle.vlog_exprs.specs.Expressions.{Tokens, IsToken}
use Rattle.vlog_exprs.specs.Grammar.{name, mark}
use Rattle.vlog_exprs.proofs.TokenKinds.{mark_is, at_mark_is}
use Rattle.vlog_modules.specs.declared.header.PortDecls.{PortDecls}
use Rattle.vlog_modules.specs.Grammar.{port_decl, with_name, with_decl, port_turn, port_decls, decl_header}
use Rattle.vlog_modules.specs.Productions.{Text, MoreText, none_more, one_more, with_names, DeclText, decl_and_names, DeclsText, decls_and_end}
use Rattle.vlog_modules.proofs.Clear.{at_name_is}

-- ---- marks

pub mark_text : (d : ℕ) (ts : Tokens) (u : Unit {0}) → Text (mark d) ts u → IsToken (token.Punct d) ts
unfolding one
mark_text d ts u (proper x, e, h) = (x, e, mark_is d x.token u h)
mark_text d ts u (end p, e, h) = absurd cc

pub text_mark : (d : ℕ) (ts : Tokens) → IsToken (token.Punct d) ts → Text (mark d) ts tt
unfolding one
text_mark d ts (x, e, h) = (proper x, e, ap (say.mark_of d) h ∙ (let k : nat_eq d d ≡ true = (Decides-eqb d d).1 refl in rw k refl))

pub comma : (x : VFound) (u : Unit {0}) → say.at_mark 44 x.token ≡ takes u → IsToken (token.Punct 44) (proper x ∷ [])
comma x u h = (x, refl, at_mark_is 44 x.token u h)

name_is : (t : VToken) (n : List ℕ) → say.name_of t ≡ Ok n → t ≡ token.Name n
name_is (token.Name m) n h = let e : m ≡ n = cc in ap token.Name e
name_is (token.Punct b) n h = absurd cc
name_is (token.Keyword w) n h = absurd cc
name_is (token.Number m) n h = absurd cc
name_is (token.Real r) n h = absurd cc
name_is (token.Based b) n h = absurd cc
name_is (token.Str s) n h = absurd cc
name_is token.AttrStart n h = absurd cc
name_is token.AttrStop n h = absurd cc
name_is (token.Symbol b) n h = absurd cc
name_is (token.Directive w) n h = absurd cc

-- a name that was taken
pub named : (x : VFound) (n : List ℕ) → say.at_name x.token ≡ takes n → Text name (proper x ∷ []) n
unfolding one
named x n h = (proper x, refl, ap say.name_of (at_name_is x.token n h))

pub name_there : (ts : Tokens) (n : List ℕ) → Text name ts n → (x : VFound) × (ts ≡ proper x ∷ []) × (say.at_name x.token ≡ takes n)
unfolding one
name_there ts n (proper x, e, h) = (x, e, ap say.at_name (name_is x.token n h))
name_there ts n (end p, e, h) = absurd cc

-- ---- the declarations of a header

same_names : (d : PortDecl) → with_names d [] ≡ d
same_names d = ap (λ z. record { attrs = d.attrs; dir = d.dir; kind = d.kind; signed = d.signed; range = d.range; names = z }) (append-nil d.names)

later_names : (d : PortDecl) (n : List ℕ) (ns : List (List ℕ)) → with_names (with_names d (n ∷ [])) ns ≡ with_names d (n ∷ ns)
later_names d n ns = ap (λ z. record { attrs = d.attrs; dir = d.dir; kind = d.kind; signed = d.signed; range = d.range; names = z }) (append_assoc d.names (n ∷ []) ns)

-- behind declarations: names of the last, further declarations and the end
record Behind (s : PortDecls) (all : List PortDecl) (ts : Tokens) : Type 0 where
  names : List (List ℕ)
  rest : List PortDecl
  a : Tokens
  b : Tokens
  c : Tokens
  is : ts ≡ a ++ (b ++ c)
  names_text : MoreText (Text name) a names
  rest_text : MoreText DeclText b rest
  close : IsToken (token.Punct 41) c
  value : all ≡ s.before ++ with_names s.last names ∷ rest

one_name : (s : PortDecls) (all : List PortDecl) (x y : VFound) (n : List ℕ) (more : Tokens) (u : Unit {0}) → say.at_mark 44 x.token ≡ takes u → say.at_name y.token ≡ takes n → Behind (with_name s n) all more → Behind s all (proper x ∷ proper y ∷ more)
one_name s all x y n more u h k later = record {
  names = n ∷ later.names;
  rest = later.rest;
  a = proper x ∷ proper y ∷ later.a;
  b = later.b;
  c = later.c;
  is = ap (λ z. proper x ∷ proper y ∷ z) later.is;
  names_text = one_more n later.names (proper x ∷ []) (proper y ∷ []) later.a refl (comma x u h) (named y n k) later.names_text refl;
  rest_text = later.rest_text;
  close = later.close;
  value = later.value ∙ ap (λ z. s.before ++ z ∷ later.rest) (later_names s.last n later.names);
}

one_decl : (s : PortDecls) (all : List PortDecl) (x : VFound) (d : PortDecl) (p more : Tokens) (u : Unit {0}) → say.at_mark 44 x.token ≡ takes u → Text port_decl p d → Behind (with_decl s d) all more → Behind s all (proper x ∷ (p ++ more))
one_decl s all x d p more u h k later = record {
  names = [];
  rest = with_names d later.names ∷ later.rest;
  a = [];
  b = proper x ∷ ((p ++ later.a) ++ later.b);
  c = later.c;
  is = ap (λ z. proper x ∷ z) (ap (λ z. p ++ z) later.is ∙ sym (append_assoc p later.a (later.b ++ later.c)) ∙ sym (append_assoc (p ++ later.a) later.b later.c));
  names_text = none_more refl refl;
  rest_text = one_more (with_names d later.names) later.rest (proper x ∷ []) (p ++ later.a) later.b refl (comma x u h) (decl_and_names d later.names p later.a refl k later.names_text refl) later.rest_text refl;
  close = later.close;
  value = later.value ∙ append_assoc s.before (s.last ∷ []) (with_names d later.names ∷ later.rest) ∙ ap (λ z. s.before ++ z ∷ with_names d later.names ∷ later.rest) (sym (same_names s.last));
}

decls_rounds : (s : PortDecls) (all : List PortDecl) (ts : Tokens) → Text (port_decls s) ts all → Behind s all ts
unfolding port_decls while_next port_turn if_next
decls_rounds s all ts (ends (u, a, b, e, k, (n, f))) = record {
  names = [];
  rest = [];
  a = [];
  b = [];
  c = ts;
  is = refl;
  names_text = none_more refl refl;
  rest_text = none_more refl refl;
  close = mark_text 41 ts u (subst (λ z. Text (mark 41) z u) (sym (e ∙ ap (λ z. a ++ z) n ∙ append-nil a)) k);
  value = f ∙ ap (λ z. s.before ++ z ∷ []) (sym (same_names s.last));
}
decls_rounds s all ts (goes t a b (proper x, u, r, m, h, inl (proper y, n, q, e, k, (z, f))) more w) =
    let later = decls_rounds t all b more in
    subst (λ z. Behind s all z) (sym (w ∙ ap (λ z. z ++ b) (m ∙ ap (λ z. proper x ∷ z) (e ∙ ap (λ z. proper y ∷ z) z)))) (one_name s all x y n b u h k (subst (λ z. Behind z all b) f later))
decls_rounds s all ts (goes t a b (proper x, u, r, m, h, inl (end at, n, q, e, k, z)) more w) = absurd cc
decls_rounds s all ts (goes t a b (proper x, u, r, m, h, inr (d, p, q, e, k, (z, f))) more w) =
    let later = decls_rounds t all b more in
    subst (λ z. Behind s all z) (sym (w ∙ ap (λ z. z ++ b) (m ∙ ap (λ z. proper x ∷ z) (e ∙ ap (λ z. p ++ z) z ∙ append-nil p)))) (one_decl s all x d p b u h k (subst (λ z. Behind z all b) f later))
decls_rounds s all ts (goes t a b (end at, u, r, m, h, k) more w) = absurd cc

-- ---- the other way round

text_names : (a : Tokens) (ns : List (List ℕ)) → MoreText (Text name) a ns → (s : PortDecls) (tail : Tokens) (all : List PortDecl) → Text (port_decls (record { before = s.before; last = with_names s.last ns })) tail all → Text (port_decls s) (a ++ tail) all
unfolding port_decls while_next port_turn if_next
text_names a ns (none_more e n) s tail all t = subst (λ z. Text (port_decls s) z all) (ap (λ z. z ++ tail) (sym e)) (subst (λ z. Text (port_decls (record { before = s.before; last = z })) tail all) (ap (λ z. with_names s.last z) n ∙ same_names s.last) t)
text_names a ns (one_more n ws b c d e (x, m, is) k more v) s tail all t =
    let y = name_there c n k in
    let later = text_names d ws more (with_name s n) tail all (subst (λ z. Text (port_decls (record { before = s.before; last = z })) tail all) (ap (λ z. with_names s.last z) v ∙ sym (later_names s.last n ws)) t) in
    goes (with_name s n) (proper x ∷ proper y.0 ∷ []) (d ++ tail) (proper x, tt, proper y.0 ∷ [], refl, ap (say.at_mark 44) is, inl (proper y.0, n, [], refl, y.2, (refl, refl))) later
    (ap (λ z. z ++ tail) (e ∙ ap (λ z. z ++ (c ++ d)) m ∙ ap (λ z. proper x ∷ (z ++ d)) y.1))

text_rest : (b : Tokens) (ds : List PortDecl) → MoreText DeclText b ds → (s : PortDecls) (c : Tokens) → IsToken (token.Punct 41) c → Text (port_decls s) (b ++ c) (s.before ++ s.last ∷ ds)
unfolding port_decls while_next port_turn if_next
text_rest b ds (none_more e n) s c k = ends (tt, c, [], ap (λ z. z ++ c) e ∙ sym (append-nil c), text_mark 41 c k, (refl, ap (λ z. s.before ++ s.last ∷ z) n))
text_rest b ds (one_more d ws f g h e (x, m, is) (decl_and_names first ns p q w te names v) more z) s c k =
    let later = text_names q ns names (with_decl s first) (h ++ c) _ (text_rest h ws more (record { before = s.before ++ s.last ∷ []; last = with_names first ns }) c k) in
    let value : (s.before ++ s.last ∷ []) ++ with_names first ns ∷ ws ≡ s.before ++ s.last ∷ ds = append_assoc s.before (s.last ∷ []) (with_names first ns ∷ ws) ∙ ap (λ y. s.before ++ s.last ∷ y ∷ ws) (sym v) ∙ ap (λ y. s.before ++ s.last ∷ y) (sym z) in
    goes (with_decl s first) (proper x ∷ p) (q ++ (h ++ c)) (proper x, tt, p, refl, ap (say.at_mark 44) is, inr (first, p, [], sym (append-nil p), te, (refl, refl))) (subst (λ y. Text (port_decls (with_decl s first)) (q ++ (h ++ c)) y) value later)
    (ap (λ y. y ++ c) (e ∙ ap (λ y. y ++ (g ++ h)) m ∙ ap (λ y. proper x ∷ (y ++ h)) w) ∙ ap (λ y. proper x ∷ y) (append_assoc (p ++ q) h c ∙ append_assoc p q (h ++ c)))

to_decls : (ts : Tokens) (ds : List PortDecl) → Text decl_header ts (headers.Decls ds) → DeclsText ts ds
unfolding decl_header
to_decls ts ds (d, a, b, e, td, (all, p, q, w, r, (n, f))) =
    let k = decls_rounds (record { before = []; last = d }) all p r in
    let same : ds ≡ all = cc in
    let behind : b ≡ p = w ∙ ap (λ z. p ++ z) n ∙ append-nil p in
    decls_and_end (with_names d k.names) k.rest (a ++ k.a) k.b k.c (e ∙ ap (λ z. a ++ z) (behind ∙ k.is) ∙ sym (append_assoc a k.a (k.b ++ k.c))) (decl_and_names d k.names a k.a refl td k.names_text refl) k.rest_text k.close (same ∙ k.value)

from_decls : (ts : Tokens) (ds : List PortDecl) → DeclsText ts ds → Text decl_header ts (headers.Decls ds)
unfolding decl_header
from_decls ts ds (decls_and_end d rest a b c e (decl_and_names first ns p q w te names v) more close z) = (
  first,
  p,
  q ++ (b ++ c),
  e ∙ ap (λ y. y ++ (b ++ c)) w ∙ append_assoc p q (b ++ c),
  te,
  (
    with_names first ns ∷ rest,
    q ++ (b ++ c),
    [],
    sym (append-nil (q ++ (b ++ c))),
    text_names q ns names (record { before = []; last = first }) (b ++ c) (with_names first ns ∷ rest) (text_rest b rest more (record { before = []; last = with_names first ns }) c close),
    (refl, ap headers.Decls (z ∙ ap (λ y. y ∷ rest) v)),
  ),
)

-- The declarations of a header are those that the extended BNF has.
pub decl_texts : (ts : Tokens) (ds : List PortDecl) → Text decl_header ts (headers.Decls ds) ↔ DeclsText ts ds
decl_texts ts ds = (to_decls ts ds, from_decls ts ds)
