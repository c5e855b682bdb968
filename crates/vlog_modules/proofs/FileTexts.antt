-- What is read as the items of a module and as a file is what the extended BNF has for them.
use Rattle.std.proofs.Common.{◌≡◌, ◌∙◌, sym, ap, subst, refl, ◌↔◌, ◌⊎◌, inl, inr, ℕ, Bool, true, false, cond, List, [], ◌∷◌, ◌++◌, append_assoc, append-nil, Option, Some, None, codes}
use Rattle.std.proofs.lemmas.Slice.Eq.{bytes_eq-Decides}
use Rattle.grammar.specs.Part.{sequence, takes}
use Rattle.grammar.specs.Texts.{ends, goes}
use Rattle.grammar.specs.Whole.{proper, end}
use Rattle.nl_base.specs.Case.{same_bytes}
use Rattle.readers.specs.Parts.{one, if_next, while_next}
use Rattle.vlog_tokens.specs.declared.token.VFound.{VFound}
use Rattle.vlog_tokens.specs.declared.token.VToken.{VToken}
use Rattle.vlog_tokens.specs.declared.token.VToken.TheVariants as token
use Rattle.vlog_values.specs.declared.expression.Attr.{Attr}
use Rattle.vlog_values.specs.declared.module.ItemV.{ItemV}
use Rattle.vlog_values.specs.declared.module.Module.{Module}
use Rattle.vlog_values.specs.declared.module.VlogFile.{VlogFile}
use Rattle.vlog_exprs.specs.Language.{Vlog}
use Rattle.vlog_exprs.specs.Reasons as say
use Rattle.vlog_exprs.specs.Reasons.{meant_by}
use Rattle.vlog_exprs.specs.Expressions.{Tokens, IsToken}
use Rattle.vlog_exprs.specs.Grammar.{keyword, attrs, group, groups}
use Rattle.vlog_exprs.proofs.TokenKinds.{group_is}
use Rattle.vlog_items.specs.declared.item.ItemWord.{ItemWord}
use Rattle.vlog_items.specs.Grammar.{item_words, item}
use Rattle.vlog_items.proofs.Clear.{choice_is}
use Rattle.vlog_modules.specs.declared.file.Directive.{Directive}
use Rattle.vlog_modules.specs.declared.file.Directive.TheVariants as directives
use Rattle.vlog_modules.specs.declared.file.SoFar.{SoFar}
use Rattle.vlog_modules.specs.Grammar.{ItemStart, at_group, at_module_name, at_word, word_start, at_item, item_rest, items, module_rest, module_of, with_module, directive_of, directive, PieceStart, at_word_of, at_attributes, at_module, module_start, directive_start, at_piece, piece_rest, pieces, file}
use Rattle.vlog_modules.specs.Productions.{Text, ManyText, nothing, another, ItemsText, items_and_end, FileText, no_more, nettype, reset, a_module}
use Rattle.vlog_modules.proofs.Clear.{keyword_is, at_name_is}

-- ---- attributes, and a part that they go to

-- no attributes
no_attrs : Text attrs [] []
unfolding groups while_next
no_attrs = ends (refl, refl)

module _ {B : Type 0} (q : List Attr → Vlog B) where
  -- a part before which no attributes stand
  pub bare : (ts : Tokens) (v : B) → Text (q []) ts v → Text (sequence attrs q) ts v
  bare ts v t = ([], [], ts, refl, no_attrs, t)

  -- attributes behind their first token
  pub grouped : (x : VFound) (ts : Tokens) (v : B) → x.token ≡ token.AttrStart → Text (sequence (sequence (group []) groups) q) ts v → Text (sequence attrs q) (proper x ∷ ts) v
  unfolding groups while_next
  grouped x ts v is (as_written, a, b, e, (first, c, d, m, g, r), t) =
      (as_written, proper x ∷ a, b, ap (λ z. proper x ∷ z) e, goes first (proper x ∷ c) d (proper x, tt, c, refl, ap say.at_group is, g) r (ap (λ z. proper x ∷ z) m), t)

  -- the other way round: no attributes, or some
  pub parts : (ts : Tokens) (v : B) → Text (sequence attrs q) ts v → Text (q []) ts v ⊎ ((x : VFound) × (rest : Tokens) × (ts ≡ proper x ∷ rest) × (x.token ≡ token.AttrStart) × Text (sequence (sequence (group []) groups) q) rest v)
  unfolding groups while_next
  parts ts v (as_written, a, b, e, ends (n, m), t) = inl (subst (λ z. Text (q []) z v) (sym (e ∙ ap (λ z. z ++ b) n)) (subst (λ z. Text (q z) b v) m t))
  parts ts v (as_written, a, b, e, goes first c d (proper x, u, rest, m, h, g) r n, t) =
      inr (x, rest ++ (d ++ b), e ∙ ap (λ z. z ++ b) (n ∙ ap (λ z. z ++ d) m) ∙ ap (λ z. proper x ∷ z) (append_assoc rest d b), group_is x.token u h, (as_written, rest ++ d, b, sym (append_assoc rest d b), (first, rest, d, refl, g, r), t))
  parts ts v (as_written, a, b, e, goes first c d (end p, u, rest, m, h, g) r n, t) = absurd cc

-- ---- items

word_of : (w : List ℕ) (o : Option ItemWord) (c : ItemStart) → word_start o ≡ takes c → (word : ItemWord) × (o ≡ Some word) × (c ≡ at_word word)
word_of w (Some word) c h = (word, refl, (let e : at_word word ≡ c = cc in sym e))
word_of w None c h = absurd cc

-- an item behind its first token is one
item_is : (x : VFound) (t : VToken) (c : ItemStart) (ts : Tokens) (i : ItemV) → x.token ≡ t → at_item t ≡ takes c → Text (item_rest c) ts i → Text (sequence attrs item) (proper x ∷ ts) i
unfolding item_rest item if_next one
item_is x token.AttrStart c ts i is h t = let e : at_group ≡ c = cc in grouped item x ts i is (subst (λ z. Text (item_rest z) ts i) (sym e) t)
item_is x (token.Name n) c ts i is h t = let e : at_module_name n ≡ c = cc in bare item (proper x ∷ ts) i (inl (proper x, n, ts, refl, ap say.at_name is, subst (λ z. Text (item_rest z) ts i) (sym e) t))
item_is x (token.Keyword w) c ts i is h t = let k = word_of w (meant_by item_words w) c h in
    bare item (proper x ∷ ts) i (inr (k.0, proper x ∷ [], ts, refl, (proper x, refl, ap (say.choice_of item_words) is ∙ ap (say.choice_by w) k.1), subst (λ z. Text (item_rest z) ts i) k.2 t))
item_is x (token.Number n) c ts i is h t = absurd cc
item_is x (token.Real r) c ts i is h t = absurd cc
item_is x (token.Based b) c ts i is h t = absurd cc
item_is x (token.Str s) c ts i is h t = absurd cc
item_is x (token.Punct b) c ts i is h t = absurd cc
item_is x token.AttrStop c ts i is h t = absurd cc
item_is x (token.Symbol b) c ts i is h t = absurd cc
item_is x (token.Directive w) c ts i is h t = absurd cc

-- an item begins with a token that at_item takes
pub record Begun (ts : Tokens) (i : ItemV) : Type 0 where
  pub first : VFound
  pub rest : Tokens
  pub start : ItemStart
  pub is : ts ≡ proper first ∷ rest
  pub taken : at_item first.token ≡ takes start
  pub text : Text (item_rest start) rest i

bare_item : (ts : Tokens) (i : ItemV) → Text (item []) ts i → Begun ts i
unfolding item item_rest if_next one
bare_item ts i (inl (proper x, n, rest, e, h, t)) = record { first = x; rest = rest; start = at_module_name n; is = e; taken = ap at_item (at_name_is x.token n h); text = t }
bare_item ts i (inl (end p, n, rest, e, h, t)) = absurd cc
bare_item ts i (inr (word, a, b, e, (proper x, m, h), t)) =
    let k = choice_is item_words x.token word h in
    record { first = x; rest = b; start = at_word word; is = e ∙ ap (λ z. z ++ b) m; taken = ap at_item k.is ∙ ap word_start k.meant; text = t }
bare_item ts i (inr (word, a, b, e, (end p, m, h), t)) = absurd cc

begun : (ts : Tokens) (i : ItemV) → Text (sequence attrs item) ts i → Begun ts i
unfolding item_rest
begun ts i t = elim (parts item ts i t) [
  | inl n ↦ bare_item ts i n
  | inr n ↦ record { first = n.0; rest = n.1; start = at_group; is = n.2; taken = ap at_item n.3; text = n.4 }
]

endmodule_is : (ts : Tokens) (u : Unit {0}) → Text (keyword (codes "endmodule")) ts u → IsToken (token.Keyword (codes "endmodule")) ts
unfolding one
endmodule_is ts u (proper x, e, h) = (x, e, keyword_is (codes "endmodule") x.token u h)
endmodule_is ts u (end p, e, h) = absurd cc

is_endmodule : (ts : Tokens) → IsToken (token.Keyword (codes "endmodule")) ts → Text (keyword (codes "endmodule")) ts tt
unfolding one
is_endmodule ts (x, e, h) = (proper x, e, ap (say.keyword_of (codes "endmodule")) h)

-- the items of a list, behind others
items_rounds : (so_far all : List ItemV) (ts : Tokens) → Text (items so_far) ts all → (is : List ItemV) × (all ≡ so_far ++ is) × ItemsText ts is
unfolding items while_next
items_rounds so_far all ts (ends (u, a, b, e, k, (n, m))) = ([], m ∙ sym (append-nil so_far), items_and_end [] ts refl (nothing refl refl) (endmodule_is ts u (subst (λ z. Text (keyword (codes "endmodule")) z u) (sym (e ∙ ap (λ z. a ++ z) n ∙ append-nil a)) k)))
items_rounds so_far all ts (goes t a b (proper x, c, rest, m, h, (i, p, q, e, r, (n, f))) more w) =
    let later = items_rounds t all b more in
    let one_item = item_is x x.token c p i refl h r in
    let here : a ≡ proper x ∷ p = m ∙ ap (λ z. proper x ∷ z) (e ∙ ap (λ z. p ++ z) n ∙ append-nil p) in
    (i ∷ later.0, later.1 ∙ ap (λ z. z ++ later.0) f ∙ append_assoc so_far (i ∷ []) later.0, with_first i later.0 a b ts (subst (λ z. Text (sequence attrs item) z i) (sym here) one_item) later.2 w)
  where
    with_first : (i : ItemV) (is : List ItemV) (a b ts : Tokens) → Text (sequence attrs item) a i → ItemsText b is → ts ≡ a ++ b → ItemsText ts (i ∷ is)
    with_first i is a b ts t (items_and_end c d e many k) w = items_and_end (a ++ c) d (w ∙ ap (λ z. a ++ z) e ∙ sym (append_assoc a c d)) (another i is a c refl t many refl) k
items_rounds so_far all ts (goes t a b (end p, c, rest, m, h, r) more w) = absurd cc

text_many : (so_far is : List ItemV) (a b : Tokens) → ManyText (Text (sequence attrs item)) a is → IsToken (token.Keyword (codes "endmodule")) b → Text (items so_far) (a ++ b) (so_far ++ is)
unfolding items while_next
text_many so_far is a b (nothing e n) k = ends (tt, b, [], ap (λ z. z ++ b) e ∙ sym (append-nil b), is_endmodule b k, (refl, ap (λ z. so_far ++ z) n ∙ append-nil so_far))
text_many so_far is a b (another i ws c d e t more n) k =
    let s = begun c i t in
    let later : Text (items (so_far ++ i ∷ [])) (d ++ b) ((so_far ++ i ∷ []) ++ ws) = text_many (so_far ++ i ∷ []) ws d b more k in
    let value : (so_far ++ i ∷ []) ++ ws ≡ so_far ++ is = append_assoc so_far (i ∷ []) ws ∙ ap (λ z. so_far ++ z) (sym n) in
    goes (so_far ++ i ∷ []) c (d ++ b) (proper s.first, s.start, s.rest, s.is, s.taken, (i, s.rest, [], sym (append-nil s.rest), s.text, (refl, refl))) (subst (λ z. Text (items (so_far ++ i ∷ [])) (d ++ b) z) value later)
    (ap (λ z. z ++ b) e ∙ append_assoc c d b)

-- The items of a module are those that the extended BNF has.
pub item_texts : (ts : Tokens) (is : List ItemV) → Text (items []) ts is ↔ ItemsText ts is
item_texts ts is = (to, from)
  where
    to : Text (items []) ts is → ItemsText ts is
    to t = let r = items_rounds [] is ts t in subst (λ z. ItemsText ts z) (sym r.1) r.2

    from : ItemsText ts is → Text (items []) ts is
    from (items_and_end a b e many k) = subst (λ z. Text (items []) z is) (sym e) (text_many [] is a b many k)

-- ---- the file

-- what at_piece takes a token for
data Which (t : VToken) (c : PieceStart) : Type 0 where
  of_group : t ≡ token.AttrStart → c ≡ at_attributes → Which t c
  of_module : t ≡ token.Keyword (codes "module") → c ≡ at_module → Which t c
  of_line : (w : List ℕ) (d : Directive) → t ≡ token.Directive w → directive_of w ≡ Some d → c ≡ at_word_of d → Which t c

which_word : (w : List ℕ) (b : Bool) (c : PieceStart) → same_bytes w (codes "module") ≡ b → module_start b ≡ takes c → Which (token.Keyword w) c
which_word w true c same h = of_module (ap token.Keyword ((bytes_eq-Decides w (codes "module")).0 same)) (let e : at_module ≡ c = cc in sym e)
which_word w false c same h = absurd cc

which_line : (w : List ℕ) (o : Option Directive) (c : PieceStart) → directive_of w ≡ o → directive_start o ≡ takes c → Which (token.Directive w) c
which_line w (Some d) c of h = of_line w d refl of (let e : at_word_of d ≡ c = cc in sym e)
which_line w None c of h = absurd cc

which : (t : VToken) (c : PieceStart) → at_piece t ≡ takes c → Which t c
which token.AttrStart c h = of_group refl (let e : at_attributes ≡ c = cc in sym e)
which (token.Keyword w) c h = which_word w (same_bytes w (codes "module")) c refl h
which (token.Directive w) c h = which_line w (directive_of w) c refl h
which (token.Name n) c h = absurd cc
which (token.Number n) c h = absurd cc
which (token.Real r) c h = absurd cc
which (token.Based b) c h = absurd cc
which (token.Str s) c h = absurd cc
which (token.Punct b) c h = absurd cc
which token.AttrStop c h = absurd cc
which (token.Symbol b) c h = absurd cc

-- the word of a directive
abbrev word_for : Directive → List ℕ
word_for directives.Nettype = codes "`default_nettype"
word_for directives.Reset = codes "`resetall"

second_word : (w : List ℕ) (d : Directive) (b : Bool) → same_bytes w (codes "`resetall") ≡ b → cond b (Some directives.Reset) None ≡ Some d → w ≡ word_for d
second_word w directives.Reset true e h = (bytes_eq-Decides w (codes "`resetall")).0 e
second_word w directives.Nettype true e h = absurd cc
second_word w d false e h = absurd cc

first_word : (w : List ℕ) (d : Directive) (b : Bool) → same_bytes w (codes "`default_nettype") ≡ b → cond b (Some directives.Nettype) (cond (same_bytes w (codes "`resetall")) (Some directives.Reset) None) ≡ Some d → w ≡ word_for d
first_word w directives.Nettype true e h = (bytes_eq-Decides w (codes "`default_nettype")).0 e
first_word w directives.Reset true e h = absurd cc
first_word w d false e h = second_word w d (same_bytes w (codes "`resetall")) refl h

directive_word : (w : List ℕ) (d : Directive) → directive_of w ≡ Some d → w ≡ word_for d
directive_word w d h = first_word w d (same_bytes w (codes "`default_nettype")) refl h

-- a module behind `module`
module_is : (implicit : Bool) (x : VFound) (ts : Tokens) (m : Module) → x.token ≡ token.Keyword (codes "module") → Text (module_rest implicit []) ts m → Text (sequence attrs (module_of implicit)) (proper x ∷ ts) m
unfolding module_of one
module_is implicit x ts m is t = bare (module_of implicit) (proper x ∷ ts) m (tt, proper x ∷ [], ts, refl, (proper x, refl, ap (say.keyword_of (codes "module")) is), t)

-- a directive, and the pieces behind it
directive_text : (s t : SoFar) (d : Directive) (w : List ℕ) (x : VFound) (rest b ts : Tokens) (ms : List Module) → x.token ≡ token.Directive w → directive_of w ≡ Some d → Text (directive s d) rest t → ts ≡ proper x ∷ (rest ++ b) → FileText t.implicit b ms → FileText s.implicit ts ms
unfolding directive
directive_text s t directives.Nettype w x rest b ts ms is of (now, p, q, e, k, (n, f)) w' more =
    let whole : rest ≡ p = e ∙ ap (λ z. p ++ z) n ∙ append-nil p in
    nettype now (proper x ∷ []) p b (w' ∙ ap (λ z. proper x ∷ (z ++ b)) whole) (x, refl, is ∙ ap token.Directive (directive_word w directives.Nettype of)) k (subst (λ z. FileText z b ms) (ap (λ (z : SoFar). z.implicit) f) more)
directive_text s t directives.Reset w x rest b ts ms is of (n, f) w' more =
    reset (proper x ∷ []) b (w' ∙ ap (λ z. proper x ∷ (z ++ b)) n) (x, refl, is ∙ ap token.Directive (directive_word w directives.Reset of)) (subst (λ z. FileText z b ms) (ap (λ (z : SoFar). z.implicit) f) more)

directive_keeps : (s t : SoFar) (d : Directive) (rest : Tokens) → Text (directive s d) rest t → t.modules ≡ s.modules
unfolding directive
directive_keeps s t directives.Nettype rest (now, p, q, e, k, (n, f)) = ap (λ (z : SoFar). z.modules) f
directive_keeps s t directives.Reset rest (n, f) = ap (λ (z : SoFar). z.modules) f

-- what one round gives, and the pieces behind it
record Piece (s t : SoFar) (a : Tokens) : Type 0 where
  first : List Module
  modules : t.modules ≡ s.modules ++ first
  then : (b : Tokens) (ms : List Module) → FileText t.implicit b ms → FileText s.implicit (a ++ b) (first ++ ms)

one_module_piece : (s t : SoFar) (m : Module) (a : Tokens) → Text (sequence attrs (module_of s.implicit)) a m → t ≡ with_module s m → Piece s t a
one_module_piece s t m a text f = record {
  first = m ∷ [];
  modules = ap (λ (z : SoFar). z.modules) f;
  then = λ b ms more. a_module m ms a b refl text (subst (λ z. FileText z b ms) (ap (λ (z : SoFar). z.implicit) f) more) refl;
}

piece_is : (s t : SoFar) (x : VFound) (c : PieceStart) (rest : Tokens) → Which x.token c → Text (piece_rest s c) rest t → Piece s t (proper x ∷ rest)
unfolding piece_rest
piece_is s t x c rest (of_group is e) r = by (subst (λ z. Text (piece_rest s z) rest t) e r)
  where
    by : Text (piece_rest s at_attributes) rest t → Piece s t (proper x ∷ rest)
    by (m, p, q, w, g, (n, f)) = one_module_piece s t m (proper x ∷ rest) (subst (λ z. Text (sequence attrs (module_of s.implicit)) (proper x ∷ z) m) (sym (w ∙ ap (λ z. p ++ z) n ∙ append-nil p)) (grouped (module_of s.implicit) x p m is g)) f
piece_is s t x c rest (of_module is e) r = by (subst (λ z. Text (piece_rest s z) rest t) e r)
  where
    by : Text (piece_rest s at_module) rest t → Piece s t (proper x ∷ rest)
    by (m, p, q, w, g, (n, f)) = one_module_piece s t m (proper x ∷ rest) (subst (λ z. Text (sequence attrs (module_of s.implicit)) (proper x ∷ z) m) (sym (w ∙ ap (λ z. p ++ z) n ∙ append-nil p)) (module_is s.implicit x p m is g)) f
piece_is s t x c rest (of_line w d is of e) r =
    let k : Text (directive s d) rest t = subst (λ z. Text (piece_rest s z) rest t) e r in
    record { first = []; modules = directive_keeps s t d rest k ∙ sym (append-nil s.modules); then = λ b ms more. directive_text s t d w x rest b (proper x ∷ (rest ++ b)) ms is of k refl more }

pieces_rounds : (s : SoFar) (f : VlogFile) (ts : Tokens) → Text (pieces s) ts f → (ms : List Module) × (f.modules ≡ s.modules ++ ms) × FileText s.implicit ts ms
unfolding pieces while_next
pieces_rounds s f ts (ends (n, m)) = ([], ap (λ (z : VlogFile). z.modules) m ∙ sym (append-nil s.modules), no_more n refl)
pieces_rounds s f ts (goes t a b (proper x, c, rest, m, h, r) more w) =
    let p = piece_is s t x c rest (which x.token c h) r in
    let later = pieces_rounds t f b more in
    (p.first ++ later.0, later.1 ∙ ap (λ z. z ++ later.0) p.modules ∙ append_assoc s.modules p.first later.0, subst (λ z. FileText s.implicit z (p.first ++ later.0)) (sym (w ∙ ap (λ z. z ++ b) m)) (p.then b later.0 later.2))
pieces_rounds s f ts (goes t a b (end p, c, rest, m, h, r) more w) = absurd cc

-- ---- the other way round

taken_line : (d : Directive) → at_piece (token.Directive (word_for d)) ≡ takes (at_word_of d)
taken_line directives.Nettype = refl
taken_line directives.Reset = refl

-- a module begins with attributes or with `module`
record Started (implicit : Bool) (s : SoFar) (a : Tokens) (m : Module) : Type 0 where
  first : VFound
  rest : Tokens
  start : PieceStart
  is : a ≡ proper first ∷ rest
  taken : at_piece first.token ≡ takes start
  text : Text (piece_rest s start) rest (with_module s m)

bare_module : (s : SoFar) (a : Tokens) (m : Module) → Text (module_of s.implicit []) a m → Started s.implicit s a m
unfolding module_of piece_rest one
bare_module s a m (u, p, q, e, (proper x, n, h), t) =
    let is = keyword_is (codes "module") x.token u h in
    record { first = x; rest = q; start = at_module; is = e ∙ ap (λ z. z ++ q) n; taken = ap at_piece is; text = (m, q, [], sym (append-nil q), t, (refl, refl)) }
bare_module s a m (u, p, q, e, (end z, n, h), t) = absurd cc

started : (s : SoFar) (a : Tokens) (m : Module) → Text (sequence attrs (module_of s.implicit)) a m → Started s.implicit s a m
unfolding piece_rest
started s a m t = elim (parts (module_of s.implicit) a m t) [
  | inl n ↦ bare_module s a m n
  | inr n ↦ record { first = n.0; rest = n.1; start = at_attributes; is = n.2; taken = ap at_piece n.3; text = (m, n.1, [], sym (append-nil n.1), n.4, (refl, refl)) }
]

text_pieces : (implicit : Bool) (ts : Tokens) (ms : List Module) → FileText implicit ts ms → (before : List Module) → Text (pieces (record { modules = before; implicit = implicit })) ts (record { modules = before ++ ms })
unfolding pieces while_next piece_rest directive
text_pieces implicit ts ms (no_more e n) before = ends (e, ap (λ z. record { modules = z }) (ap (λ z. before ++ z) n ∙ append-nil before))
text_pieces implicit ts ms (nettype now a b c e (x, n, is) t more) before =
    goes (record { modules = before; implicit = now }) (proper x ∷ b) c (proper x, at_word_of directives.Nettype, b, refl, ap at_piece is, (now, b, [], sym (append-nil b), t, (refl, refl))) (text_pieces now c ms more before) (e ∙ ap (λ z. z ++ (b ++ c)) n)
text_pieces implicit ts ms (reset a b e (x, n, is) more) before =
    goes (record { modules = before; implicit = true }) (proper x ∷ []) b (proper x, at_word_of directives.Reset, [], refl, ap at_piece is, (refl, refl)) (text_pieces true b ms more before) (e ∙ ap (λ z. z ++ b) n)
text_pieces implicit ts ms (a_module m rest a b e t more n) before =
    let s = started (record { modules = before; implicit = implicit }) a m t in
    let later = text_pieces implicit b rest more (before ++ m ∷ []) in
    let value : (before ++ m ∷ []) ++ rest ≡ before ++ ms = append_assoc before (m ∷ []) rest ∙ ap (λ z. before ++ z) (sym n) in
    goes (record { modules = before ++ m ∷ []; implicit = implicit }) a b (proper s.first, s.start, s.rest, s.is, s.taken, s.text) (subst (λ z. Text (pieces (record { modules = before ++ m ∷ []; implicit = implicit })) b (record { modules = z })) value later) e

-- A file is what the extended BNF has.
pub file_texts : (ts : Tokens) (f : VlogFile) → Text file ts f ↔ FileText true ts f.modules
unfolding file
file_texts ts f = (to, λ t. text_pieces true ts f.modules t [])
  where
    to : Text (pieces (record { modules = []; implicit = true })) ts f → FileText true ts f.modules
    to t = let r = pieces_rounds (record { modules = []; implicit = true }) f ts t in subst (λ z. FileText true ts z) (sym r.1) r.2
