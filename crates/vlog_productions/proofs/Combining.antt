-- The texts of a part that is read, by how it is made: one fact for each way.
use Rattle.std.proofs.Common.{◌≡◌, ◌∙◌, sym, ap, subst, refl, inl, inr, ℕ, nat_eq, Bool, true, false, cond, List, [], ◌∷◌, ◌++◌, append_assoc, append-nil, Option, Some, None, option_map}
use Rattle.std.specs.List.{find}
use Rattle.std.proofs.lemmas.Bool.Decides.{Decides-eqb}
use Rattle.std.proofs.lemmas.Slice.Eq.{bytes_eq-Decides}
use Rattle.grammar.specs.Part.{gives, sequence, takes}
use Rattle.grammar.specs.Texts.{Spells, ends, goes}
use Rattle.grammar.specs.Whole.{proper, end}
use Rattle.nl_base.specs.Case.{same_bytes}
use Rattle.readers.specs.Parts.{one, if_next, while_next, maybe}
use Rattle.vlog_tokens.specs.declared.token.VToken.TheVariants as token
use Rattle.vlog_exprs.specs.Language.{Vlog}
use Rattle.vlog_exprs.specs.Reasons as say
use Rattle.vlog_exprs.specs.Reasons.{meant_by}
use Rattle.vlog_exprs.specs.Grammar as grammar
use Rattle.vlog_exprs.specs.Grammar.{choice, after, commas, list}
use Rattle.vlog_exprs.specs.Expressions.{Tokens, IsToken, ListText, last, more}
use Rattle.vlog_exprs.proofs.TokenKinds.{at_mark_is}
use Rattle.vlog_items.proofs.Clear.{choice_is, at_choice_is}
use Rattle.vlog_modules.specs.Productions.{MoreText, none_more, one_more}
use Rattle.vlog_modules.proofs.Clear.{keyword_is, at_name_is}
use Rattle.vlog_modules.proofs.HeaderTexts.{mark_text, text_mark, named, name_there}
use Rattle.vlog_productions.specs.Production as bnf
use Rattle.vlog_productions.specs.Production.{Production, told, nothing, both, either, optional, meaning, left_out, there, Texts, name, mark, keyword, IsRow, one_of, HasTextsOf}

-- a text and nothing behind it
pub alone : (a b : Tokens) → b ≡ [] → a ++ b ≡ a
alone a b e = ap (λ z. a ++ z) e ∙ append-nil a

-- ---- sequences

-- a part, and what is read behind it
pub then_so : {A B C : Type 0} {p : Vlog A} {q : A → Vlog C} {P : Production A} {Q : Production B} (f : A → B → C) → HasTextsOf p P
    → ((u : A) → HasTextsOf (q u) (meaning (f u) Q)) → HasTextsOf (sequence p q) (meaning (λ x. f x.0 x.1) (both P Q))
then_so f h l = record {
  is_text = λ ts v s. let r = (l s.0).is_text s.2 v s.5 in ((s.0, r.0), (s.1, s.2, s.3, h.is_text s.1 s.0 s.4, r.1), r.2);
  is_spelled = λ ts v t. let m = t.1 in (t.0.0, m.0, m.1, m.2, h.is_spelled m.0 t.0.0 m.3, (l t.0.0).is_spelled m.1 v (t.0.1, m.4, t.2));
}

-- a part, for another value
pub gives_so : {A B : Type 0} {p : Vlog A} {P : Production A} (f : A → B) → HasTextsOf p P → HasTextsOf (sequence p (λ u. gives (f u))) (meaning f P)
gives_so {p = p} f h = record {
  is_text = λ ts v s. (s.0, h.is_text ts s.0 (subst (λ z. Spells tt p z s.0) (sym (s.3 ∙ alone s.1 s.2 s.5.0)) s.4), s.5.1);
  is_spelled = λ ts v t. (t.0, ts, [], sym (append-nil ts), h.is_spelled ts t.0 t.1, (refl, t.2));
}

-- a part whose value is made of another, for a third
pub gives_of : {A B C : Type 0} {p : Vlog B} {P : Production A} (g : A → B) (f : B → C) → HasTextsOf p (meaning g P)
    → HasTextsOf (sequence p (λ u. gives (f u))) (meaning (λ x. f (g x)) P)
gives_of g f h = let r = gives_so f h in record {
  is_text = λ ts v s. let t = r.is_text ts v s in (t.1.0, t.1.1, t.2 ∙ ap f t.1.2);
  is_spelled = λ ts v t. r.is_spelled ts v (g t.0, (t.0, t.1, refl), t.2);
}

-- the value as it is
pub plainly : {A : Type 0} {p : Vlog A} {P : Production A} → HasTextsOf p (meaning (λ x. x) P) → HasTextsOf p P
plainly {P = P} h = record {
  is_text = λ ts v s. let t = h.is_text ts v s in subst (λ z. Texts P ts z) (sym t.2) t.1;
  is_spelled = λ ts v t. h.is_spelled ts v (v, t, refl);
}

pub given : {A : Type 0} (a : A) → HasTextsOf (gives a) (nothing a)
given a = record { is_text = λ ts v s. s; is_spelled = λ ts v t. t }

-- ---- tokens

pub names : HasTextsOf grammar.name name
names = record {
  is_text = λ ts n s. let y = name_there ts n s in (y.0, y.1, at_name_is y.0.token n y.2);
  is_spelled = λ ts n t. subst (λ z. Spells tt grammar.name z n) (sym t.1) (named t.0 n (ap say.at_name t.2));
}

pub marks : (d : ℕ) → HasTextsOf (grammar.mark d) (mark d)
marks d = record { is_text = λ ts u s. mark_text d ts u s; is_spelled = λ ts u t. text_mark d ts t }

module _ (w : List ℕ) where
  keyword_text : (ts : Tokens) (u : Unit {0}) → Spells tt (grammar.keyword w) ts u → IsToken (token.Keyword w) ts
  unfolding one
  keyword_text ts u (proper x, e, h) = (x, e, keyword_is w x.token u h)
  keyword_text ts u (end p, e, h) = absurd cc

  text_keyword : (ts : Tokens) → IsToken (token.Keyword w) ts → Spells tt (grammar.keyword w) ts tt
  unfolding one
  text_keyword ts (x, e, h) = (proper x, e, ap (say.keyword_of w) h ∙ (let k : same_bytes w w ≡ true = (bytes_eq-Decides w w).1 refl in rw k refl))

  pub keywords : HasTextsOf (grammar.keyword w) (keyword w)
  keywords = record { is_text = keyword_text; is_spelled = λ ts u t. text_keyword ts t }

-- ---- one of some keywords

module _ {A : Type 0} where
  row_by : (s : List ℕ) (a : A) (rows : List (List ℕ × A)) (w : List ℕ) (v : A) (b : Bool) → same_bytes w s ≡ b
      → option_map (λ (row : List ℕ × A). row.1) (cond b (Some (s, a)) (find (λ row. same_bytes w row.0) rows)) ≡ Some v
      → (meant_by rows w ≡ Some v → IsRow rows w v) → IsRow ((s, a) ∷ rows) w v
  unfolding meant_by
  row_by s a rows w v true e h later = let m : a ≡ v = cc in inl ((bytes_eq-Decides w s).0 e, sym m)
  row_by s a rows w v false e h later = inr (later h)

  -- what a word means stands beside it
  pub row_of : (rows : List (List ℕ × A)) (w : List ℕ) (v : A) → meant_by rows w ≡ Some v → IsRow rows w v
  unfolding meant_by
  row_of [] w v h = absurd cc
  row_of (row ∷ rows) w v h = row_by row.0 row.1 rows w v (same_bytes w row.0) refl h (row_of rows w v)

  -- a word of a table has the meaning that it has there
  pub meant_so : (rows : List (List ℕ × A)) (s w : List ℕ) (a v : A) → meant_by rows s ≡ Some a → w ≡ s → v ≡ a → meant_by rows w ≡ Some v
  meant_so rows s w a v h e f = ap (meant_by rows) e ∙ h ∙ ap Some (sym f)

  -- one of the keywords of a table, or nothing
  abbrev pub maybe_of : List (List ℕ × A) → Vlog (Option A)
  maybe_of rows = maybe (λ _ x. say.at_choice rows x.token)

  -- no word stands in the table twice
  abbrev pub IsTable : List (List ℕ × A) → Type 0
  IsTable rows = (w : List ℕ) (v : A) → IsRow rows w v → meant_by rows w ≡ Some v

  module _ (rows : List (List ℕ × A)) (table : IsTable rows) where
    choice_text : (ts : Tokens) (v : A) → Spells tt (choice rows) ts v → Texts (one_of rows) ts v
    unfolding one
    choice_text ts v (proper x, e, h) = let c = choice_is rows x.token v h in (c.word, (x, e, c.is), row_of rows c.word v c.meant)
    choice_text ts v (end p, e, h) = absurd cc

    text_choice : (ts : Tokens) (v : A) → Texts (one_of rows) ts v → Spells tt (choice rows) ts v
    unfolding one
    text_choice ts v (w, (x, e, is), row) = (proper x, e, ap (say.choice_of rows) is ∙ ap (say.choice_by w) (table w v row))

    pub choices : HasTextsOf (choice rows) (one_of rows)
    choices = record { is_text = choice_text; is_spelled = text_choice }

    -- one of the keywords, or another part
    module _ {q : Vlog A} {Q : Production A} (l : HasTextsOf q Q) where
      next_text : (ts : Tokens) (v : A) → Spells tt (if_next (λ _ x. say.at_choice rows x.token) (λ a. gives a) q) ts v
          → Texts (either (one_of rows) Q) ts v
      unfolding if_next
      next_text ts v (inl (proper x, a, r, e, taken, (n, f))) =
          let c = at_choice_is rows x.token a taken in
          inl (c.word, (x, e ∙ ap (λ z. proper x ∷ z) n, c.is), subst (λ z. IsRow rows c.word z) (sym f) (row_of rows c.word a c.meant))
      next_text ts v (inl (end p, a, r, e, taken, s)) = absurd cc
      next_text ts v (inr s) = inr (l.is_text ts v s)

      text_next : (ts : Tokens) (v : A) → Texts (either (one_of rows) Q) ts v
          → Spells tt (if_next (λ _ x. say.at_choice rows x.token) (λ a. gives a) q) ts v
      unfolding if_next
      text_next ts v (inl (w, (x, e, is), row)) =
          inl (proper x, v, [], e, ap (say.at_choice rows) is ∙ ap say.glance_of (table w v row), (refl, refl))
      text_next ts v (inr t) = inr (l.is_spelled ts v t)

      pub if_word : HasTextsOf (if_next (λ _ x. say.at_choice rows x.token) (λ a. gives a) q) (either (one_of rows) Q)
      if_word = record { is_text = next_text; is_spelled = text_next }

    maybe_text : (ts : Tokens) (v : Option A) → Spells tt (maybe_of rows) ts v → Texts (optional (one_of rows)) ts v
    unfolding maybe
    maybe_text ts v (inl (proper x, a, r, e, taken, (n, m))) =
        let c = at_choice_is rows x.token a taken in
        there a (c.word, (x, e ∙ ap (λ z. proper x ∷ z) n, c.is), row_of rows c.word a c.meant) m
    maybe_text ts v (inl (end p, a, r, e, taken, s)) = absurd cc
    maybe_text ts v (inr (e, m)) = left_out e m

    text_maybe : (ts : Tokens) (v : Option A) → Texts (optional (one_of rows)) ts v → Spells tt (maybe_of rows) ts v
    unfolding maybe
    text_maybe ts v (left_out e m) = inr (e, m)
    text_maybe ts v (there a (w, (x, e, is), row) m) =
        inl (proper x, a, [], e, ap (say.at_choice rows) is ∙ ap say.glance_of (table w a row), (refl, m))

    pub maybe_choice : HasTextsOf (maybe_of rows) (optional (one_of rows))
    maybe_choice = record { is_text = maybe_text; is_spelled = text_maybe }

-- ---- a mark, or another part

pub as_is : {A : Type 0} {p : Vlog A} {P : Production A} → HasTextsOf p P → HasTextsOf p (meaning (λ x. x) P)
as_is {P = P} h =
    record { is_text = λ ts v s. (v, h.is_text ts v s, refl); is_spelled = λ ts v t. h.is_spelled ts v (subst (λ z. Texts P ts z) (sym t.2) t.1) }

module _ {A B : Type 0} {p q : Vlog A} {P : Production B} {Q : Production A} (d : ℕ) (f : B → A) (h : HasTextsOf p (meaning f P))
    (l : HasTextsOf q Q) where
  after_text : (ts : Tokens) (v : A) → Spells tt (after d p q) ts v → Texts (either (meaning (λ x. f x.1) (both (mark d) P)) Q) ts v
  unfolding after if_next
  after_text ts v (inl (proper x, u, r, e, taken, s)) =
      let t = h.is_text r v s in
      inl ((tt, t.0), (proper x ∷ [], r, e, (x, refl, at_mark_is d x.token u taken), t.1), t.2)
  after_text ts v (inl (end z, u, r, e, taken, s)) = absurd cc
  after_text ts v (inr s) = inr (l.is_text ts v s)

  text_after : (ts : Tokens) (v : A) → Texts (either (meaning (λ x. f x.1) (both (mark d) P)) Q) ts v → Spells tt (after d p q) ts v
  unfolding after if_next
  text_after ts v (inl (u, (a, b, e, (x, m, is), t), g)) =
      let taken : say.at_mark d (token.Punct d) ≡ takes tt = (let k : nat_eq d d ≡ true = (Decides-eqb d d).1 refl in rw k refl) in
      inl (proper x, tt, b, e ∙ ap (λ z. z ++ b) m, ap (say.at_mark d) is ∙ taken, h.is_spelled b v (u.1, t, g))
  text_after ts v (inr t) = inr (l.is_spelled ts v t)

  pub after_so : HasTextsOf (after d p q) (either (meaning (λ x. f x.1) (both (mark d) P)) Q)
  after_so = record { is_text = after_text; is_spelled = text_after }

-- a part that may be left out
module _ {A B : Type 0} {p : Vlog (Option A)} {P : Production B} (f : B → A)
    (h : HasTextsOf p (either (meaning (λ x. Some (f x)) P) (nothing None))) where
  to_optional : (ts : Tokens) (v : Option A) → Texts (either (meaning (λ x. Some (f x)) P) (nothing None)) ts v → Texts (optional (meaning f P)) ts v
  to_optional ts v (inl (u, t, e)) = there (f u) (u, t, refl) e
  to_optional ts v (inr (n, e)) = left_out n e

  from_optional : (ts : Tokens) (v : Option A) → Texts (optional (meaning f P)) ts v
      → Texts (either (meaning (λ x. Some (f x)) P) (nothing None)) ts v
  from_optional ts v (there u (w, t, g) e) = inl (w, t, e ∙ ap Some g)
  from_optional ts v (left_out n e) = inr (n, e)

  pub optional_so : HasTextsOf p (optional (meaning f P))
  optional_so = record { is_text = λ ts v s. to_optional ts v (h.is_text ts v s); is_spelled = λ ts v t. h.is_spelled ts v (from_optional ts v t) }

-- ---- lists

-- one, and more behind commas
pub first_and_more : {A : Type 0} (P : Tokens → A → Type 0) (a : Tokens) (v : A) → P a v → (b : Tokens) (ws : List A) → MoreText P b ws
    → ListText P (a ++ b) (v ∷ ws)
first_and_more P a v t b ws (none_more e n) = last v (subst (λ z. P z v) (sym (alone a b e)) t) (ap (λ z. v ∷ z) n)
first_and_more P a v t b ws (one_more w vs x y z e m u later n) =
    more v ws a x (y ++ z) (ap (λ q. a ++ q) e) t m (subst (λ q. ListText P (y ++ z) q) (sym n) (first_and_more P y w u z vs later)) refl

-- the other way round
pub record Headed {A : Type 0} (P : Tokens → A → Type 0) (ts : Tokens) (vs : List A) : Type 0 where
  pub value : A
  pub others : List A
  pub values : vs ≡ value ∷ others
  pub first : Tokens
  pub rest : Tokens
  pub is : ts ≡ first ++ rest
  pub head : P first value
  pub tail : MoreText P rest others

pub headed : {A : Type 0} (P : Tokens → A → Type 0) (ts : Tokens) (vs : List A) → ListText P ts vs → Headed P ts vs
headed P ts vs (last v t n) =
    record { value = v; others = []; values = n; first = ts; rest = []; is = sym (append-nil ts); head = t; tail = none_more refl refl }
headed P ts vs (more v ws a b c e t m later n) =
    let r = headed P c ws later in
    record {
      value = v;
      others = ws;
      values = n;
      first = a;
      rest = b ++ c;
      is = e;
      head = t;
      tail = one_more r.value r.others b r.first r.rest (ap (λ z. b ++ z) r.is) m r.head r.tail r.values;
    }

-- lists of what is a text of P are lists of what is a text of Q
pub list_map : {A : Type 0} (P Q : Tokens → A → Type 0) → ((ts : Tokens) (v : A) → P ts v → Q ts v) → (ts : Tokens) (vs : List A) → ListText P ts vs
    → ListText Q ts vs
list_map P Q f ts vs (last v t n) = last v (f ts v t) n
list_map P Q f ts vs (more v ws a b c e t m later n) = more v ws a b c e (f a v t) m (list_map P Q f c ws later) n

pub more_map : {A : Type 0} (P Q : Tokens → A → Type 0) → ((ts : Tokens) (v : A) → P ts v → Q ts v) → (ts : Tokens) (vs : List A) → MoreText P ts vs
    → MoreText Q ts vs
more_map P Q f ts vs (none_more e n) = none_more e n
more_map P Q f ts vs (one_more v ws a b c e m t later n) = one_more v ws a b c e m (f b v t) (more_map P Q f c ws later) n

module _ {A : Type 0} {p : Vlog A} {close : Vlog (Unit {0})} {P : Production A} {C : Production (Unit {0})} (h : HasTextsOf p P)
    (c : HasTextsOf close C) where
  -- {"," p} close, behind others
  pub record Commas (before : List A) (ts : Tokens) (all : List A) : Type 0 where
    pub later : List A
    pub value : all ≡ before ++ later
    pub inside : Tokens
    pub behind : Tokens
    pub is : ts ≡ inside ++ behind
    pub text : MoreText (Texts P) inside later
    pub closes : Texts C behind tt

  pub commas_text : (before : List A) (ts : Tokens) (all : List A) → Spells tt (commas p close before) ts all → Commas before ts all
  unfolding commas while_next
  commas_text before ts all (ends (u, a, b, e, s, (n, f))) = record {
    later = [];
    value = f ∙ sym (append-nil before);
    inside = [];
    behind = a;
    is = e ∙ alone a b n;
    text = none_more refl refl;
    closes = c.is_text a u s;
  }
  commas_text before ts all (goes t a b (proper x, u, r, m, taken, (v, y, z, e, s, (n, f))) rounds w) =
      let last = commas_text t b all rounds in
      let a_is : a ≡ proper x ∷ y = m ∙ ap (λ q. proper x ∷ q) (e ∙ alone y z n) in
      record {
        later = v ∷ last.later;
        value = last.value ∙ ap (λ q. q ++ last.later) f ∙ append_assoc before (v ∷ []) last.later;
        inside = (proper x ∷ y) ++ last.inside;
        behind = last.behind;
        is = w ∙ ap (λ q. q ++ b) a_is ∙ ap (λ q. (proper x ∷ y) ++ q) last.is ∙ sym (append_assoc (proper x ∷ y) last.inside last.behind);
        text = one_more v last.later (proper x ∷ []) y last.inside refl (x, refl, at_mark_is 44 x.token u taken) (h.is_text y v s) last.text refl;
        closes = last.closes;
      }
  commas_text before ts all (goes t a b (end z, u, r, m, taken, s) rounds w) = absurd cc

  pub text_commas : (before : List A) (a b : Tokens) (later : List A) → MoreText (Texts P) a later → Texts C b tt
      → Spells tt (commas p close before) (a ++ b) (before ++ later)
  unfolding commas while_next
  text_commas before a b later (none_more e n) closes =
      ends (tt, b, [], ap (λ z. z ++ b) e ∙ sym (append-nil b), c.is_spelled b tt closes, (refl, ap (λ z. before ++ z) n ∙ append-nil before))
  text_commas before a b later (one_more v ws x y z e (t, m, is) text rounds n) closes =
      let last = text_commas (before ++ v ∷ []) z b ws rounds closes in
      let value : (before ++ v ∷ []) ++ ws ≡ before ++ later = append_assoc before (v ∷ []) ws ∙ ap (λ q. before ++ q) (sym n) in
      goes (before ++ v ∷ []) (proper t ∷ y) (z ++ b)
      (proper t, tt, y, refl, ap (say.at_mark 44) is, (v, y, [], sym (append-nil y), h.is_spelled y v text, (refl, refl)))
      (subst (λ q. Spells tt (commas p close (before ++ v ∷ [])) (z ++ b) q) value last)
      (ap (λ q. q ++ b) (e ∙ ap (λ q. q ++ (y ++ z)) m) ∙ ap (λ q. proper t ∷ q) (append_assoc y z b))

  list_text : (ts : Tokens) (vs : List A) → Spells tt (list p close) ts vs → Texts (meaning (λ x. x.0) (both (bnf.list P) C)) ts vs
  unfolding list
  list_text ts vs (v, a, b, e, s, t) =
      let r = commas_text (v ∷ []) b vs t in (
        (v ∷ r.later, tt),
        (
          a ++ r.inside,
          r.behind,
          e ∙ ap (λ z. a ++ z) r.is
              ∙ sym (append_assoc a r.inside r.behind),
          first_and_more (Texts P) a v (h.is_text a v s) r.inside r.later r.text,
          r.closes,
        ),
        r.value,
      )

  text_list : (ts : Tokens) (vs : List A) → Texts (meaning (λ x. x.0) (both (bnf.list P) C)) ts vs → Spells tt (list p close) ts vs
  unfolding list
  text_list ts vs (x, (a, b, e, l, closes), f) =
      let r = headed (Texts P) a x.0 l in (
        r.value,
        r.first,
        r.rest ++ b,
        e ∙ ap (λ z. z ++ b) r.is ∙ append_assoc r.first r.rest b,
        h.is_spelled r.first r.value r.head,
        subst (λ z. Spells tt (commas p close (r.value ∷ [])) (r.rest ++ b) z) (sym (f ∙ r.values))
            (text_commas (r.value ∷ []) r.rest b r.others r.tail closes),
      )

  -- p {"," p} close
  pub list_so : HasTextsOf (list p close) (meaning (λ x. x.0) (both (bnf.list P) C))
  list_so = record { is_text = list_text; is_spelled = text_list }

-- the list, for another value
pub gives_list : {A B : Type 0} {p : Vlog A} {close : Vlog (Unit {0})} {P : Production A} {C : Production (Unit {0})} (f : List A → B)
    → HasTextsOf p P → HasTextsOf close C → HasTextsOf (sequence (list p close) (λ u. gives (f u))) (meaning (λ x. f x.0) (both (bnf.list P) C))
gives_list f h c = gives_of (λ x. x.0) f (list_so h c)
