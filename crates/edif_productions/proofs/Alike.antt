-- Productions with the same texts, and parts that are read alike.
use Rattle.std.proofs.Common.{◌≡◌, ◌∙◌, sym, ap, subst, refl, inl, inr, List, [], ◌∷◌, ◌++◌, append_assoc}
use Rattle.grammar.specs.Part.{sequence}
use Rattle.grammar.specs.Texts.{Spells}
use Rattle.edif_values.specs.declared.keyword.Keyword.{Keyword}
use Rattle.edif_keywords.specs.Aliases.{Alias}
use Rattle.edif_keywords.specs.Language.{Edif}
use Rattle.edif_keywords.specs.Grammar.{item}
use Rattle.edif_productions.specs.Production.{Production, either, form, meaning, Tokens, Texts, HasTextsOf}
use Rattle.edif_productions.proofs.OneToken.{has_only, has_first, has_first_or, has_later}
use Rattle.edif_productions.proofs.Combining.{ReadsOn, item_text, text_item, other_item}

-- The productions have the same texts for the same values.
pub record SameTexts {A : Type 0} (P Q : Production A) : Type 0 where
  pub to : (k : List Alias) (ts : Tokens) (v : A) → Texts k P ts v → Texts k Q ts v
  pub from : (k : List Alias) (ts : Tokens) (v : A) → Texts k Q ts v → Texts k P ts v

pub has_same : {A : Type 0} {p : Edif A} {P Q : Production A} → SameTexts P Q → HasTextsOf p P → HasTextsOf p Q
has_same same h =
    record { is_text = λ k ts v s. same.to k ts v (h.is_text k ts v s); is_spelled = λ k ts v t. h.is_spelled k ts v (same.from k ts v t) }

pub on_same : {A : Type 0} {p : Edif A} {P Q : Production A} → SameTexts P Q → ReadsOn p P → ReadsOn p Q
on_same same h = record {
  is_text = λ k ts v s. let r = h.is_text k ts v s in
      record { inside = r.inside; behind = r.behind; is = r.is; text = same.to k r.inside v r.text; closes = r.closes };
  is_spelled = λ k ts v t. h.is_spelled k ts v
      (record { inside = t.inside; behind = t.behind; is = t.is; text = same.from k t.inside v t.text; closes = t.closes });
}

-- ---- productions

-- the value as it is
pub plain_meaning : {A : Type 0} (P : Production A) → SameTexts (meaning (λ x. x) P) P
plain_meaning P = record { to = λ k ts v t. subst (λ z. Texts k P ts z) (sym t.2) t.1; from = λ k ts v t. (v, t, refl) }

-- what is made of a value, inside a form or around it
pub meaning_out : {A B : Type 0} (q : Keyword) (f : A → B) (P : Production A) → SameTexts (form q (meaning f P)) (meaning f (form q P))
meaning_out q f P = record {
  to = λ k ts v t.
      let m = t.text in (
        m.text.0,
        record {
          before = t.before;
          inside = t.inside;
          behind = t.behind;
          is = t.is;
          opens = t.opens;
          text = record { word = m.word; rest = m.rest; is = m.is; key = m.key; text = m.text.1 };
          closes = t.closes;
        },
        m.text.2,
      );
  from = λ k ts v t.
      let l = t.1 in
      let m = l.text in
      record {
        before = l.before;
        inside = l.inside;
        behind = l.behind;
        is = l.is;
        opens = l.opens;
        text = record { word = m.word; rest = m.rest; is = m.is; key = m.key; text = (t.0, m.text, t.2) };
        closes = l.closes;
      };
}

-- a choice inside a form, or of forms
module _ {A : Type 0} (q : Keyword) (P Q : Production A) (k : List Alias) (ts : Tokens) (v : A) where
  forms_of : Texts k (form q (either P Q)) ts v → Texts k (either (form q P) (form q Q)) ts v
  forms_of t = let m = t.text in elim m.text [
    | inl x ↦ inl (record {
      before = t.before;
      inside = t.inside;
      behind = t.behind;
      is = t.is;
      opens = t.opens;
      text = record { word = m.word; rest = m.rest; is = m.is; key = m.key; text = x };
      closes = t.closes;
    })
    | inr x ↦ inr (record {
      before = t.before;
      inside = t.inside;
      behind = t.behind;
      is = t.is;
      opens = t.opens;
      text = record { word = m.word; rest = m.rest; is = m.is; key = m.key; text = x };
      closes = t.closes;
    })
  ]

  of_forms : Texts k (either (form q P) (form q Q)) ts v → Texts k (form q (either P Q)) ts v
  of_forms (inl l) =
      let m = l.text in
      record {
        before = l.before;
        inside = l.inside;
        behind = l.behind;
        is = l.is;
        opens = l.opens;
        text = record { word = m.word; rest = m.rest; is = m.is; key = m.key; text = inl m.text };
        closes = l.closes;
      }
  of_forms (inr l) =
      let m = l.text in
      record {
        before = l.before;
        inside = l.inside;
        behind = l.behind;
        is = l.is;
        opens = l.opens;
        text = record { word = m.word; rest = m.rest; is = m.is; key = m.key; text = inr m.text };
        closes = l.closes;
      }

pub choice_of_forms : {A : Type 0} (q : Keyword) (P Q : Production A) → SameTexts (form q (either P Q)) (either (form q P) (form q Q))
choice_of_forms q P Q = record { to = forms_of q P Q; from = of_forms q P Q }

-- the first two of a choice, whose values become another in the same way
module _ {A B : Type 0} (f : A → B) (P Q : Production A) (R : Production B) (k : List Alias) (ts : Tokens) (v : B) where
  pairs_of : Texts k (either (meaning f P) (either (meaning f Q) R)) ts v → Texts k (either (meaning f (either P Q)) R) ts v
  pairs_of (inl t) = inl (t.0, inl t.1, t.2)
  pairs_of (inr (inl t)) = inl (t.0, inr t.1, t.2)
  pairs_of (inr (inr t)) = inr t

  of_pairs : Texts k (either (meaning f (either P Q)) R) ts v → Texts k (either (meaning f P) (either (meaning f Q) R)) ts v
  of_pairs (inl (u, inl t, e)) = inl (u, t, e)
  of_pairs (inl (u, inr t, e)) = inr (inl (u, t, e))
  of_pairs (inr t) = inr (inr t)

pub choice_of_two : {A B : Type 0} (f : A → B) (P Q : Production A) (R : Production B)
    → SameTexts (either (meaning f P) (either (meaning f Q) R)) (either (meaning f (either P Q)) R)
choice_of_two f P Q R = record { to = pairs_of f P Q R; from = of_pairs f P Q R }

-- ---- parts

-- one part and two behind it, or two parts and one behind them
pub grouped : {A B C : Type 0} {p : Edif A} {q : Edif B} {r : B → Edif C} {P : Production C} → ReadsOn (sequence (sequence p (λ _. q)) r) P
    → ReadsOn (sequence p (λ _. sequence q r)) P
grouped h = record {
  is_text = λ k ts v s.
      let m = s.5 in
      h.is_text k ts v (m.0, s.1 ++ m.1, m.2, s.3 ∙ ap (λ z. s.1 ++ z) m.3 ∙ sym (append_assoc s.1 m.1 m.2), (s.0, s.1, m.1, refl, s.4, m.4), m.5);
  is_spelled = λ k ts v t.
      let s = h.is_spelled k ts v t in
      let m = s.4 in
      (m.0, m.1, m.2 ++ s.2, s.3 ∙ ap (λ z. z ++ s.2) m.3 ∙ append_assoc m.1 m.2 s.2, m.4, (s.0, m.2, s.2, refl, m.5, s.5));
}

-- one of two forms, each of which is read on alike
module _ {I : Type 0} (a b : Keyword) (rest more : Keyword → Edif I) (same_a : rest a ≡ more a) (same_b : rest b ≡ more b) where
  -- one of the two keywords
  abbrev two : List Keyword
  two = a ∷ b ∷ []

  swapped : (k : List Alias) (ts : Tokens) (v : I) (r m : Keyword → Edif I) → r a ≡ m a → r b ≡ m b → Spells k (item two r) ts v
      → Spells k (item two m) ts v
  swapped k ts v r m e f s =
      let i = item_text k two r ts v s in
      text_item k two m ts v (elim (has_first_or a (b ∷ []) i.key i.may) [
        | inl same ↦ other_item k two two r m ts v v i a same (has_first a (b ∷ []))
            (subst (λ z. Spells k z i.behind v) e (subst (λ z. Spells k (r z) i.behind v) same i.text))
        | inr may ↦ let same = has_only b i.key may in
            other_item k two two r m ts v v i b same (has_later a (b ∷ []) b (has_first b []))
            (subst (λ z. Spells k z i.behind v) f (subst (λ z. Spells k (r z) i.behind v) same i.text))
      ])

  pub alike : {P : Production I} → HasTextsOf (item two more) P → HasTextsOf (item two rest) P
  alike h = record {
    is_text = λ k ts v s. h.is_text k ts v (swapped k ts v rest more same_a same_b s);
    is_spelled = λ k ts v t. swapped k ts v more rest (sym same_a) (sym same_b) (h.is_spelled k ts v t);
  }
