-- Headers and their parameters are read as the extended BNF has them.
use Rattle.std.proofs.Common.{◌≡◌, ◌∙◌, sym, ap, subst, refl, inl, inr, ℕ, Bool, List, [], ◌∷◌, ◌++◌, append_assoc, append-nil, Option, codes}
use Rattle.grammar.specs.Texts.{Spells}
use Rattle.grammar.specs.Whole.{proper, end}
use Rattle.nl_base.specs.Ranges.{Bounds}
use Rattle.nl_base.specs.declared.value.Dir.{Dir}
use Rattle.readers.specs.Parts.{if_next}
use Rattle.vlog_tokens.specs.declared.token.VFound.{VFound}
use Rattle.vlog_tokens.specs.declared.token.VToken.TheVariants as token
use Rattle.vlog_values.specs.declared.expression.Attr.{Attr}
use Rattle.vlog_values.specs.declared.declaration.PortKind.{PortKind}
use Rattle.vlog_values.specs.declared.declaration.PortDecl.{PortDecl}
use Rattle.vlog_values.specs.declared.declaration.ParamDecl.{ParamDecl}
use Rattle.vlog_values.specs.declared.module.Header.{Header}
use Rattle.vlog_values.specs.declared.module.Header.TheVariants as headers
use Rattle.vlog_exprs.specs.Reasons as say
use Rattle.vlog_exprs.specs.Grammar as exprs
use Rattle.vlog_exprs.specs.Expressions.{Tokens, IsToken}
use Rattle.vlog_items.specs.Grammar.{param_set}
use Rattle.vlog_modules.specs.Grammar as grammar
use Rattle.vlog_modules.specs.Grammar.{port_rest, port_decl, name_header, decl_header, some_header, param_group, params_rest}
use Rattle.vlog_modules.specs.Productions.{with_names, DeclText, decl_and_names, decls_and_end, with_sets, GroupText, group_and_sets, groups_and_end, DeclsText, GroupsText}
use Rattle.vlog_modules.proofs.Clear.{at_name_is}
use Rattle.vlog_modules.proofs.HeaderTexts.{decl_texts}
use Rattle.vlog_modules.proofs.GroupTexts.{group_texts}
use Rattle.vlog_productions.specs.Production.{Production, nothing, optional, list, meaning, ◌·◌, ◌∣◌, Texts, name, mark, keyword, HasTextsOf}
use Rattle.vlog_productions.specs.Declarations.{attrs, range, signed, port_kind, dir, ptype, pset, pgroup, params, pdecl, header}
use Rattle.vlog_productions.proofs.Combining.{alone, then_so, gives_so, given, names, marks, keywords, as_is, after_so, first_and_more, headed, more_map, commas_text, text_commas}
use Rattle.vlog_productions.proofs.WordTexts.{maybe_ranges, signs, kinds, directions, types, sets, attributes}

-- the same front before a longer text
longer : (ts a b c : Tokens) → ts ≡ a ++ b → ts ++ c ≡ a ++ (b ++ c)
longer ts a b c e = ap (λ z. z ++ c) e ∙ append_assoc a b c

-- the other way round
shorter : (ts a b x c : Tokens) → ts ≡ a ++ b → b ≡ x ++ c → ts ≡ (a ++ x) ++ c
shorter ts a b x c e f = e ∙ ap (λ z. a ++ z) f ∙ sym (append_assoc a x c)

-- ---- parameters

-- "parameter" ptype pset
abbrev First : Production ParamDecl
First = meaning (λ x. record { attrs = []; kind = x.1.0; sets = x.1.1 ∷ [] }) (keyword (codes "parameter") · ptype · pset)

first_groups : HasTextsOf param_group First
unfolding param_group
first_groups =
    then_so (λ _ x. record { attrs = []; kind = x.0; sets = x.1 ∷ [] }) (keywords (codes "parameter"))
    (λ _. then_so (λ t s. record { attrs = []; kind = t; sets = s ∷ [] }) types
    (λ t. gives_so (λ s. record { attrs = []; kind = t; sets = s ∷ [] }) sets))

group_text : (ts : Tokens) (g : ParamDecl) → GroupText ts g → Texts pgroup ts g
unfolding pgroup
group_text ts g (group_and_sets e ss a b is t more v) = by (first_groups.is_text a e t)
  where
    by : Texts First a e → Texts
        (meaning (λ x. record { attrs = []; kind = x.1.0; sets = x.1.1 }) (keyword (codes "parameter") · ptype · list pset)) ts g
    by ((u, x), (c, d, f, k, (i, j, w, p, q)), m) = (
      (u, (x.0, x.1 ∷ ss)),
      (
        c,
        d ++ b,
        is ∙ longer a c d b f,
        k,
        (
          i,
          j ++ b,
          longer d i j b w,
          p,
          first_and_more (Texts pset) j x.1 q b ss
              (more_map (Spells tt param_set) (Texts pset) sets.is_text b ss more),
        ),
      ),
      v ∙ ap (λ z. with_sets z ss) m,
    )

text_group : (ts : Tokens) (g : ParamDecl) → Texts pgroup ts g → GroupText ts g
unfolding pgroup
text_group ts g ((u, x), (c, d, f, k, (i, j, w, p, l)), m) =
    let r = headed (Texts pset) j x.1 l in
    let e : ParamDecl = record { attrs = []; kind = x.0; sets = r.value ∷ [] } in
    let d_is : d ≡ (i ++ r.first) ++ r.rest = shorter d i j r.first r.rest w r.is in
    group_and_sets e r.others (c ++ (i ++ r.first)) r.rest (shorter ts c d (i ++ r.first) r.rest f d_is)
    (first_groups.is_spelled (c ++ (i ++ r.first)) e ((u, (x.0, r.value)), (c, i ++ r.first, refl, k, (i, r.first, refl, p, r.head)), refl))
    (more_map (Texts pset) (Spells tt param_set) sets.is_spelled r.rest r.others r.tail)
    (m ∙ ap (λ z. record { attrs = []; kind = x.0; sets = z }) r.values)

-- "(" pgroup {"," pgroup} ")"
abbrev Groups : Production (List ParamDecl)
Groups = meaning (λ x. x.1.0) (mark 40 · list pgroup · mark 41)

groups_behind : HasTextsOf params_rest Groups
groups_behind = record { is_text = λ ts gs s. to ts gs ((group_texts ts gs).0 s); is_spelled = λ ts gs t. (group_texts ts gs).1 (from ts gs t) }
  where
    to : (ts : Tokens) (gs : List ParamDecl) → GroupsText ts gs → Texts Groups ts gs
    to ts gs (groups_and_end g rest o a b c e open_mark t more close v) = (
      (tt, (g ∷ rest, tt)),
      (
        o,
        a ++ (b ++ c),
        e,
        open_mark,
        (
          a ++ b,
          c,
          sym (append_assoc a b c),
          first_and_more (Texts pgroup) a g (group_text a g t) b rest
              (more_map GroupText (Texts pgroup) group_text b rest more),
          close,
        ),
      ),
      v,
    )

    from : (ts : Tokens) (gs : List ParamDecl) → Texts Groups ts gs → GroupsText ts gs
    from ts gs (x, (o, q, e, open_mark, (l, c, w, t, close)), f) =
        let r = headed (Texts pgroup) l x.1.0 t in
        groups_and_end r.value r.others o r.first r.rest c (e ∙ ap (λ z. o ++ z) (w ∙ longer l r.first r.rest c r.is)) open_mark
        (text_group r.first r.value r.head) (more_map (Texts pgroup) GroupText text_group r.rest r.others r.tail) close (f ∙ r.values)

pub all_params : HasTextsOf grammar.params params
unfolding grammar.params params
all_params = after_so 35 (λ x. x.1.0) groups_behind (given [])

-- ---- declarations

-- a declaration of one name
abbrev one_name : List Attr × (Dir × (Option PortKind × (Bool × (Option Bounds × List ℕ)))) → PortDecl
one_name x = record { attrs = x.0; dir = x.1.0; kind = x.1.1.0; signed = x.1.1.1.0; range = x.1.1.1.1.0; names = x.1.1.1.1.1 ∷ [] }

-- attrs ("input"|"output"|"inout") ["wire"|"tri"] ["signed"] [range] NAME
abbrev OneName : Production PortDecl
OneName = meaning one_name (attrs · dir · port_kind · signed · optional range · name)

first_decls : HasTextsOf port_decl OneName
unfolding port_decl port_rest
first_decls =
    then_so (λ a x. one_name (a, x)) attributes
    (λ a. then_so (λ d x. one_name (a, (d, x))) directions
    (λ d. then_so (λ k x. one_name (a, (d, (k, x)))) kinds
    (λ k. then_so (λ s x. one_name (a, (d, (k, (s, x))))) signs
    (λ s. then_so (λ r n. one_name (a, (d, (k, (s, (r, n)))))) maybe_ranges (λ r. gives_so (λ n. one_name (a, (d, (k, (s, (r, n)))))) names)))))

decl_text : (ts : Tokens) (d : PortDecl) → DeclText ts d → Texts pdecl ts d
unfolding pdecl
decl_text ts d (decl_and_names e ns a b is t more v) =
    let o = first_decls.is_text a e t in
    let x = o.0 in
    let p = o.1 in
    let q = p.4 in
    let r = q.4 in
    let s = r.4 in
    let w = s.4 in (
      (x.0, (x.1.0, (x.1.1.0, (x.1.1.1.0, (x.1.1.1.1.0, x.1.1.1.1.1 ∷ ns))))),
      (
        p.0,
        p.1 ++ b,
        is ∙ longer a p.0 p.1 b p.2,
        p.3,
        (
          q.0,
          q.1 ++ b,
          longer p.1 q.0 q.1 b q.2,
          q.3,
          (
            r.0,
            r.1 ++ b,
            longer q.1 r.0 r.1 b r.2,
            r.3,
            (
              s.0,
              s.1 ++ b,
              longer r.1 s.0 s.1 b s.2,
              s.3,
              (
                w.0,
                w.1 ++ b,
                longer s.1 w.0 w.1 b w.2,
                w.3,
                first_and_more (Texts name) w.1 x.1.1.1.1.1 w.4 b ns (more_map (Spells tt exprs.name) (Texts name) names.is_text b ns more),
              ),
            ),
          ),
        ),
      ),
      v ∙ ap (λ z. with_names z ns) o.2,
    )

text_decl : (ts : Tokens) (d : PortDecl) → Texts pdecl ts d → DeclText ts d
unfolding pdecl
text_decl ts d (x, p, f) =
    let q = p.4 in
    let r = q.4 in
    let s = r.4 in
    let w = s.4 in
    let l = headed (Texts name) w.1 x.1.1.1.1.1 w.4 in
    let e : PortDecl = one_name (x.0, (x.1.0, (x.1.1.0, (x.1.1.1.0, (x.1.1.1.1.0, l.value))))) in
    let s_is : s.1 ≡ (w.0 ++ l.first) ++ l.rest = shorter s.1 w.0 w.1 l.first l.rest w.2 l.is in
    let r_is : r.1 ≡ (s.0 ++ (w.0 ++ l.first)) ++ l.rest = shorter r.1 s.0 s.1 (w.0 ++ l.first) l.rest s.2 s_is in
    let q_is : q.1 ≡ (r.0 ++ (s.0 ++ (w.0 ++ l.first))) ++ l.rest = shorter q.1 r.0 r.1 (s.0 ++ (w.0 ++ l.first)) l.rest r.2 r_is in
    let p_is : p.1 ≡ (q.0 ++ (r.0 ++ (s.0 ++ (w.0 ++ l.first)))) ++ l.rest = shorter p.1 q.0 q.1 (r.0 ++ (s.0 ++ (w.0 ++ l.first))) l.rest q.2 q_is in
    let front : Tokens = p.0 ++ (q.0 ++ (r.0 ++ (s.0 ++ (w.0 ++ l.first)))) in
    let text : Texts OneName front e = (
      (x.0, (x.1.0, (x.1.1.0, (x.1.1.1.0, (x.1.1.1.1.0, l.value))))),
      (p.0, _, refl, p.3, (q.0, _, refl, q.3, (r.0, _, refl, r.3, (s.0, _, refl, s.3, (w.0, l.first, refl, w.3, l.head))))),
      refl,
    ) in
    decl_and_names e l.others front l.rest (shorter ts p.0 p.1 (q.0 ++ (r.0 ++ (s.0 ++ (w.0 ++ l.first)))) l.rest p.2 p_is)
    (first_decls.is_spelled front e text)
    (more_map (Texts name) (Spells tt exprs.name) names.is_spelled l.rest l.others l.tail)
    (f ∙ ap (λ z. record { attrs = x.0; dir = x.1.0; kind = x.1.1.0; signed = x.1.1.1.0; range = x.1.1.1.1.0; names = z }) l.values)

-- ---- headers

-- pdecl {"," pdecl} ")"
abbrev Decls : Production Header
Decls = meaning (λ x. headers.Decls x.0) (list pdecl · mark 41)

decls_text : (ts : Tokens) (ds : List PortDecl) → DeclsText ts ds → Texts Decls ts (headers.Decls ds)
decls_text ts ds (decls_and_end d rest a b c e t more close v) = (
  (d ∷ rest, tt),
  (
    a ++ b,
    c,
    e ∙ sym (append_assoc a b c),
    first_and_more (Texts pdecl) a d (decl_text a d t) b rest
        (more_map DeclText (Texts pdecl) decl_text b rest more),
    close,
  ),
  ap headers.Decls v,
)

text_decls : (ts : Tokens) (ds : List PortDecl) (l c : Tokens) → ts ≡ l ++ c → Texts (list pdecl) l ds → IsToken (token.Punct 41) c → DeclsText ts ds
text_decls ts ds l c e t close =
    let r = headed (Texts pdecl) l ds t in
    decls_and_end r.value r.others r.first r.rest c (e ∙ longer l r.first r.rest c r.is) (text_decl r.first r.value r.head)
    (more_map (Texts pdecl) DeclText text_decl r.rest r.others r.tail) close r.values

-- what is read is a header of declarations
is_decls : (ts : Tokens) (v : Header) → Spells tt decl_header ts v → (ds : List PortDecl) × (v ≡ headers.Decls ds)
unfolding decl_header
is_decls ts v (d, a, b, e, t, (all, p, q, w, r, (n, f))) = (all, f)

decl_headers : HasTextsOf decl_header Decls
decl_headers = record {
  is_text = λ ts v s. let d = is_decls ts v s in
      subst (λ z. Texts Decls ts z) (sym d.1) (decls_text ts d.0 ((decl_texts ts d.0).0 (subst (λ z. Spells tt decl_header ts z) d.1 s)));
  is_spelled = λ ts v t. subst (λ z. Spells tt decl_header ts z) (sym t.2)
      ((decl_texts ts t.0.0).1 (text_decls ts t.0.0 t.1.0 t.1.1 t.1.2 t.1.3 t.1.4));
}

-- NAME {"," NAME} ")"
abbrev Names : Production Header
Names = meaning (λ x. headers.Names x.0) (list name · mark 41)

names_text : (x : VFound) (n : List ℕ) (ts : Tokens) (v : Header) → x.token ≡ token.Name n → Spells tt (name_header n) ts v
    → Texts Names (proper x ∷ ts) v
unfolding name_header
names_text x n ts v is (ns, a, b, e, s, (m, f)) =
    let r = commas_text names (marks 41) (n ∷ []) a ns s in (
      (n ∷ r.later, tt),
      (
        (proper x ∷ []) ++ r.inside,
        r.behind,
        ap (λ z. proper x ∷ z) (e ∙ alone a b m ∙ r.is),
        first_and_more (Texts name) (proper x ∷ []) n
            (x, refl, is) r.inside r.later r.text,
        r.closes,
      ),
      f ∙ ap headers.Names r.value,
    )

-- the first of some names, and what is read behind it
record Named (ts : Tokens) (v : Header) : Type 0 where
  first : VFound
  word : List ℕ
  rest : Tokens
  is : ts ≡ proper first ∷ rest
  is_name : first.token ≡ token.Name word
  text : Spells tt (name_header word) rest v

text_names : (ts : Tokens) (v : Header) → Texts Names ts v → Named ts v
unfolding name_header
text_names ts v (x, (l, c, e, t, close), f) =
    let r = headed (Texts name) l x.0 t in
    let n = r.head in
    record {
      first = n.0;
      word = r.value;
      rest = r.rest ++ c;
      is = e ∙ ap (λ z. z ++ c) (r.is ∙ ap (λ z. z ++ r.rest) n.1);
      is_name = n.2;
      text = (
        r.value ∷ r.others,
        r.rest ++ c,
        [],
        sym (append-nil (r.rest ++ c)),
        text_commas names (marks 41)
            (r.value ∷ []) r.rest c r.others r.tail close,
        (refl, f ∙ ap headers.Names r.values),
      );
    }

some_text : (ts : Tokens) (v : Header) → Spells tt some_header ts v → Texts (Names ∣ Decls) ts v
unfolding some_header if_next
some_text ts v (inl (proper x, n, r, e, taken, s)) = inl (subst (λ z. Texts Names z v) (sym e) (names_text x n r v (at_name_is x.token n taken) s))
some_text ts v (inl (end p, n, r, e, taken, s)) = absurd cc
some_text ts v (inr s) = inr (decl_headers.is_text ts v s)

text_some : (ts : Tokens) (v : Header) → Texts (Names ∣ Decls) ts v → Spells tt some_header ts v
unfolding some_header if_next
text_some ts v (inl t) = let n = text_names ts v t in inl (proper n.first, n.word, n.rest, n.is, ap say.at_name n.is_name, n.text)
text_some ts v (inr t) = inr (decl_headers.is_spelled ts v t)

-- behind "(", as it is read
abbrev Inside : Production Header
Inside = meaning (λ x. x.1) (mark 41 · nothing (headers.Names [])) ∣ (Names ∣ Decls)

-- [header], as it is read
abbrev Read : Production Header
Read = meaning (λ x. x.1) (mark 40 · Inside) ∣ nothing (headers.Names [])

header_text : (ts : Tokens) (v : Header) → Texts Read ts v → Texts (header ∣ nothing (headers.Names [])) ts v
unfolding header
header_text ts v (inl (x, (a, b, e, m, inl (y, (c, d, f, n, (i, g)), h)), k)) =
    inl (inl ((tt, tt), (a, b, e, m, subst (λ z. IsToken (token.Punct 41) z) (sym (f ∙ alone c d i)) n), k ∙ h ∙ g))
header_text ts v (inl (x, (a, b, e, m, inr (inl (y, (c, d, f, t, n), h))), k)) = inl (inr (inl ((tt, y), (a, b, e, m, (c, d, f, t, n)), k ∙ h)))
header_text ts v (inl (x, (a, b, e, m, inr (inr (y, (c, d, f, t, n), h))), k)) = inl (inr (inr ((tt, y), (a, b, e, m, (c, d, f, t, n)), k ∙ h)))
header_text ts v (inr t) = inr t

text_header : (ts : Tokens) (v : Header) → Texts (header ∣ nothing (headers.Names [])) ts v → Texts Read ts v
unfolding header
text_header ts v (inl (inl (x, (a, b, e, m, n), k))) =
    inl ((tt, headers.Names []), (a, b, e, m, inl ((tt, headers.Names []), (b, [], sym (append-nil b), n, (refl, refl)), refl)), k)
text_header ts v (inl (inr (inl (x, (a, b, e, m, l), k)))) = inl ((tt, headers.Names x.1.0), (a, b, e, m, inr (inl (x.1, l, refl))), k)
text_header ts v (inl (inr (inr (x, (a, b, e, m, l), k)))) = inl ((tt, headers.Decls x.1.0), (a, b, e, m, inr (inr (x.1, l, refl))), k)
text_header ts v (inr t) = inr t

headers_read : HasTextsOf grammar.header Read
unfolding grammar.header
headers_read =
    after_so 40 (λ h. h) (as_is (after_so 41 (λ h. h) (as_is (given (headers.Names []))) (record { is_text = some_text; is_spelled = text_some })))
    (given (headers.Names []))

pub all_headers : HasTextsOf grammar.header (header ∣ nothing (headers.Names []))
all_headers =
    record {
      is_text = λ ts v s. header_text ts v (headers_read.is_text ts v s);
      is_spelled = λ ts v t. headers_read.is_spelled ts v (text_header ts v t);
    }
