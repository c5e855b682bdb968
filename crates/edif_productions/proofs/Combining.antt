-- The texts of a part that is read, by how it is made: one fact for each way.
use Rattle.std.proofs.Common.{◌≡◌, ◌∙◌, sym, ap, subst, refl, true, List, [], ◌∷◌, ◌++◌, append_assoc, append-nil}
use Rattle.grammar.specs.Part.{gives, sequence, takes}
use Rattle.grammar.specs.Texts.{Spells}
use Rattle.grammar.specs.Whole.{Terminal, proper, end}
use Rattle.nl_base.specs.declared.place.Place.{Place}
use Rattle.readers.specs.Parts.{at_token}
use Rattle.edif_tokens.specs.declared.token.Found.{Found}
use Rattle.edif_values.specs.declared.token.Token.TheVariants.{LeftParen, RightParen}
use Rattle.edif_values.specs.declared.keyword.Keyword.{Keyword}
use Rattle.edif_values.specs.Keywords.{has}
use Rattle.edif_keywords.specs.Aliases.{Alias}
use Rattle.edif_keywords.specs.Language.{Edif}
use Rattle.edif_keywords.specs.Reasons as say
use Rattle.edif_keywords.specs.Grammar.{closing, keyword, begin, item}
use Rattle.edif_productions.specs.Production.{Production, both, form, meaning, Tokens, IsToken, IsKeyword, Texts, HasTextsOf, form_of}
use Rattle.edif_productions.proofs.OneToken.{alone, taken_is, opening_text, text_opening, closing_text, text_closing, keyword_text, text_keyword, has_only, has_first}

-- a text of the production, and `)` behind it
pub record EndedText {A : Type 0} (k : List Alias) (q : Production A) (ts : Tokens) (v : A) : Type 0 where
  pub inside : Tokens
  pub behind : Tokens
  pub is : ts ≡ inside ++ behind
  pub text : Texts k q inside v
  pub closes : IsToken RightParen behind

-- What is read up to the `)` of a form has the texts of the production before that `)`.
pub record ReadsOn {A : Type 0} (p : Edif A) (q : Production A) : Type 0 where
  pub is_text : (k : List Alias) (ts : Tokens) (v : A) → Spells k p ts v → EndedText k q ts v
  pub is_spelled : (k : List Alias) (ts : Tokens) (v : A) → EndedText k q ts v → Spells k p ts v

-- ---- sequences

-- a part, and what is read on behind it
pub then_on : {A B C : Type 0} {p : Edif A} {q : A → Edif C} {P : Production A} {Q : Production B} (f : A → B → C) → HasTextsOf p P
    → ((u : A) → ReadsOn (q u) (meaning (f u) Q)) → ReadsOn (sequence p q) (meaning (λ x. f x.0 x.1) (both P Q))
then_on f h l = record {
  is_text = λ k ts v s.
      let r = (l s.0).is_text k s.2 v s.5 in
      record {
        inside = s.1 ++ r.inside;
        behind = r.behind;
        is = s.3 ∙ ap (λ z. s.1 ++ z) r.is ∙ sym (append_assoc s.1 r.inside r.behind);
        text = ((s.0, r.text.0), (s.1, r.inside, refl, h.is_text k s.1 s.0 s.4, r.text.1), r.text.2);
        closes = r.closes;
      };
  is_spelled = λ k ts v t.
      let m = t.text.1 in (
        t.text.0.0,
        m.0,
        m.1 ++ t.behind,
        t.is ∙ ap (λ z. z ++ t.behind) m.2 ∙ append_assoc m.0 m.1 t.behind,
        h.is_spelled k m.0 t.text.0.0 m.3,
        (l t.text.0.0).is_spelled k (m.1 ++ t.behind) v
            (record { inside = m.1; behind = t.behind; is = refl; text = (t.text.0.1, m.4, t.text.2); closes = t.closes }),
      );
}

-- a part, and then the end
pub ends_on : {A B : Type 0} {p : Edif A} {P : Production A} (f : A → B) → HasTextsOf p P
    → ReadsOn (sequence p (λ u. sequence closing (λ _. gives (f u)))) (meaning f P)
ends_on f h = record {
  is_text = λ k ts v s.
      let c = s.5 in
      record {
        inside = s.1;
        behind = c.1;
        is = s.3 ∙ ap (λ z. s.1 ++ z) (c.3 ∙ alone c.1 c.2 c.5.0);
        text = (s.0, h.is_text k s.1 s.0 s.4, c.5.1);
        closes = closing_text k c.1 c.0 c.4;
      };
  is_spelled = λ k ts v t. (
    t.text.0,
    t.inside,
    t.behind,
    t.is,
    h.is_spelled k t.inside t.text.0 t.text.1,
    (tt, t.behind, [], sym (append-nil t.behind), text_closing k t.behind t.closes, (refl, t.text.2)),
  );
}

-- the same, where what is read is the value of the part
pub ends_plainly : {A : Type 0} {p : Edif A} {P : Production A} → HasTextsOf p P → ReadsOn (sequence p (λ u. sequence closing (λ _. gives u))) P
ends_plainly {A = A} {P = P} h = let r = ends_on (λ (u : A). u) h in record {
  is_text = λ k ts v s. let e = r.is_text k ts v s in
      record { inside = e.inside; behind = e.behind; is = e.is; text = subst (λ z. Texts k P e.inside z) (sym e.text.2) e.text.1; closes = e.closes };
  is_spelled = λ k ts v t. r.is_spelled k ts v
      (record { inside = t.inside; behind = t.behind; is = t.is; text = (v, t.text, refl); closes = t.closes });
}

-- the same, where no value is read
pub ends_bare : {p : Edif (Unit {0})} {P : Production (Unit {0})} → HasTextsOf p P → ReadsOn (sequence p (λ _. closing)) P
ends_bare h = record {
  is_text = λ k ts v s. record { inside = s.1; behind = s.2; is = s.3; text = h.is_text k s.1 s.0 s.4; closes = closing_text k s.2 v s.5 };
  is_spelled = λ k ts v t. (tt, t.inside, t.behind, t.is, h.is_spelled k t.inside tt t.text, text_closing k t.behind t.closes);
}

-- what is read up to the end, for another value
pub gives_on : {A B : Type 0} {p : Edif A} {P : Production A} (f : A → B) → ReadsOn p P → ReadsOn (sequence p (λ u. gives (f u))) (meaning f P)
gives_on f h = record {
  is_text = λ k ts v s.
      let r = h.is_text k s.1 s.0 s.4 in
      record { inside = r.inside; behind = r.behind; is = s.3 ∙ alone s.1 s.2 s.5.0 ∙ r.is; text = (s.0, r.text, s.5.1); closes = r.closes };
  is_spelled = λ k ts v t. (
    t.text.0,
    ts,
    [],
    sym (append-nil ts),
    h.is_spelled k ts t.text.0
        (record { inside = t.inside; behind = t.behind; is = t.is; text = t.text.1; closes = t.closes }),
    (refl, t.text.2),
  );
}

-- a part, for another value
pub gives_so : {A B : Type 0} {p : Edif A} {P : Production A} (f : A → B) → HasTextsOf p P → HasTextsOf (sequence p (λ u. gives (f u))) (meaning f P)
gives_so {p = p} f h = record {
  is_text = λ k ts v s. (s.0, h.is_text k ts s.0 (subst (λ z. Spells k p z s.0) (sym (s.3 ∙ alone s.1 s.2 s.5.0)) s.4), s.5.1);
  is_spelled = λ k ts v t. (t.0, ts, [], sym (append-nil ts), h.is_spelled k ts t.0 t.1, (refl, t.2));
}

-- ---- forms

-- `(`, a word that means one of the keywords, and what is read on behind it
pub record ItemText {I : Type 0} (k : List Alias) (allowed : List Keyword) (rest : Keyword → Edif I) (ts : Tokens) (v : I) : Type 0 where
  pub key : Keyword
  pub before : Tokens
  pub word : Tokens
  pub behind : Tokens
  pub is : ts ≡ before ++ (word ++ behind)
  pub opens : IsToken LeftParen before
  pub means_key : IsKeyword k key word
  pub may : has allowed key ≡ true
  pub text : Spells k (rest key) behind v

module _ {I : Type 0} (k : List Alias) (allowed : List Keyword) (rest : Keyword → Edif I) where
  pub item_text : (ts : Tokens) (v : I) → Spells k (item allowed rest) ts v → ItemText k allowed rest ts v
  unfolding begin
  item_text ts v (q, a, b, e, (u, c, d, f, o, w), t) =
      let m = keyword_text allowed k d q w in
      record {
        key = q;
        before = c;
        word = d;
        behind = b;
        is = e ∙ ap (λ z. z ++ b) f ∙ append_assoc c d b;
        opens = opening_text k c u o;
        means_key = m.0;
        may = m.1;
        text = t;
      }

  pub text_item : (ts : Tokens) (v : I) → ItemText k allowed rest ts v → Spells k (item allowed rest) ts v
  unfolding begin
  text_item ts v i = (
    i.key,
    i.before ++ i.word,
    i.behind,
    i.is
        ∙ sym (append_assoc i.before i.word i.behind),
    (tt, i.before, i.word, refl, text_opening k i.before i.opens, text_keyword allowed k i.word i.key i.means_key i.may),
    i.text,
  )

  -- behind a `(` that was taken
  pub taken_item : (x : Terminal Found Place) (u : Unit {0}) (ts : Tokens) (v : I) → at_token (λ y. say.at_opening y.token) x ≡ takes u
      → Spells k (sequence (keyword allowed) rest) ts v → ItemText k allowed rest (x ∷ ts) v
  taken_item (proper y) u ts v h (q, a, b, e, w, t) =
      let m = keyword_text allowed k a q w in
      record {
        key = q;
        before = proper y ∷ [];
        word = a;
        behind = b;
        is = ap (λ z. proper y ∷ z) e;
        opens = (y, refl, taken_is y.token u h);
        means_key = m.0;
        may = m.1;
        text = t;
      }
  taken_item (end p) u ts v h t = absurd cc

  -- a `(` that is taken, and what stands behind it
  pub record Taken (ts : Tokens) (v : I) : Type 0 where
    pub first : Found
    pub rest_of : Tokens
    pub is : ts ≡ proper first ∷ rest_of
    pub taken : say.at_opening first.token ≡ takes tt
    pub text : Spells k (sequence (keyword allowed) rest) rest_of v

  pub item_taken : (ts : Tokens) (v : I) → ItemText k allowed rest ts v → Taken ts v
  item_taken ts v i = record {
    first = i.opens.0;
    rest_of = i.word ++ i.behind;
    is = i.is ∙ ap (λ z. z ++ (i.word ++ i.behind)) i.opens.1;
    taken = ap say.at_opening i.opens.2;
    text = (i.key, i.word, i.behind, refl, text_keyword allowed k i.word i.key i.means_key i.may, i.text);
  }

-- the same form with another list of keywords that may stand there, and another way of reading on
pub other_item : {A B : Type 0} (k : List Alias) (allowed others : List Keyword) (rest : Keyword → Edif A) (more : Keyword → Edif B) (ts : Tokens)
    (u : A) (v : B) (i : ItemText k allowed rest ts u) (q : Keyword) → i.key ≡ q → has others q ≡ true
    → Spells k (more q) i.behind v → ItemText k others more ts v
other_item k allowed others rest more ts u v i q same may text =
    record {
      key = q;
      before = i.before;
      word = i.word;
      behind = i.behind;
      is = i.is;
      opens = i.opens;
      means_key = subst (λ z. IsKeyword k z i.word) same i.means_key;
      may = may;
      text = text;
    }

-- a form with a keyword
pub whole_form : {A : Type 0} {p : Edif A} {P : Production A} (q : Keyword) → ReadsOn p P → HasTextsOf (form_of q p) (form q P)
whole_form {A = A} {p = p} {P = P} q h = record { is_text = λ k ts v s. to k ts v (item_text k (q ∷ []) (λ _. p) ts v s); is_spelled = from }
  where
    to : (k : List Alias) (ts : Tokens) (v : A) → ItemText k (q ∷ []) (λ _. p) ts v → Texts k (form q P) ts v
    to k ts v i =
        let r = h.is_text k i.behind v i.text in
        record {
          before = i.before;
          inside = i.word ++ r.inside;
          behind = r.behind;
          is = i.is ∙ ap (λ z. i.before ++ z) (ap (λ z. i.word ++ z) r.is ∙ sym (append_assoc i.word r.inside r.behind));
          opens = i.opens;
          text = record {
            word = i.word;
            rest = r.inside;
            is = refl;
            key = subst (λ z. IsKeyword k z i.word) (has_only q i.key i.may) i.means_key;
            text = r.text;
          };
          closes = r.closes;
        }

    from : (k : List Alias) (ts : Tokens) (v : A) → Texts k (form q P) ts v → Spells k (form_of q p) ts v
    from k ts v t =
        let m = t.text in
        text_item k (q ∷ []) (λ _. p) ts v (record {
          key = q;
          before = t.before;
          word = m.word;
          behind = m.rest ++ t.behind;
          is = t.is ∙ ap (λ z. t.before ++ z) (ap (λ z. z ++ t.behind) m.is ∙ append_assoc m.word m.rest t.behind);
          opens = t.opens;
          means_key = m.key;
          may = has_first q [];
          text = h.is_spelled k (m.rest ++ t.behind) v (record { inside = m.rest; behind = t.behind; is = refl; text = m.text; closes = t.closes });
        })

-- forms with some keywords, for another value
module _ {A B : Type 0} (allowed : List Keyword) {rest : Keyword → Edif A} {P : Production A} (f : A → B) (h : HasTextsOf (item allowed rest) P) where
  abbrev made : Keyword → Edif B
  made q = sequence (rest q) (λ x. gives (f x))

  made_text : (k : List Alias) (ts : Tokens) (v : B) → ItemText k allowed made ts v → Texts k (meaning f P) ts v
  made_text k ts v i =
      let s = i.text in (
        s.0,
        h.is_text k ts s.0
            (text_item k allowed rest ts s.0
            (other_item k allowed allowed made rest ts v s.0 i i.key refl i.may
            (subst (λ z. Spells k (rest i.key) z s.0) (sym (s.3 ∙ alone s.1 s.2 s.5.0)) s.4))),
        s.5.1,
      )

  text_made : (k : List Alias) (ts : Tokens) (v : B) (u : A) → ItemText k allowed rest ts u → v ≡ f u → Spells k (item allowed made) ts v
  text_made k ts v u i e =
      text_item k allowed made ts v
      (other_item k allowed allowed rest made ts u v i i.key refl i.may (u, i.behind, [], sym (append-nil i.behind), i.text, (refl, e)))

  pub meant : HasTextsOf (item allowed (λ q. sequence (rest q) (λ x. gives (f x)))) (meaning f P)
  meant =
      record {
        is_text = λ k ts v s. made_text k ts v (item_text k allowed made ts v s);
        is_spelled = λ k ts v t. text_made k ts v t.0 (item_text k allowed rest ts t.0 (h.is_spelled k ts t.0 t.1)) t.2;
      }
