-- The texts of a part that is one of several: forms with some keywords, forms or other parts, and forms that may be left out.
use Rattle.std.proofs.Common.{◌≡◌, ◌∙◌, sym, ap, subst, refl, inl, inr, List, [], ◌∷◌, ◌++◌, append_assoc, append-nil, Option, Some, None}
use Rattle.grammar.specs.Part.{gives, sequence}
use Rattle.grammar.specs.Texts.{Spells}
use Rattle.grammar.specs.Whole.{proper}
use Rattle.readers.specs.Parts.{if_next}
use Rattle.edif_values.specs.declared.token.Token.TheVariants.{RightParen}
use Rattle.edif_values.specs.declared.keyword.Keyword.{Keyword}
use Rattle.edif_keywords.specs.Aliases.{Alias}
use Rattle.edif_keywords.specs.Language.{Edif}
use Rattle.edif_keywords.specs.Grammar.{closing, item, form_or}
use Rattle.edif_productions.specs.Production.{Production, either, optional, form, Tokens, IsToken, left_out, there, IsKeyword, Texts, HasTextsOf, form_of}
use Rattle.edif_productions.proofs.OneToken.{alone, closing_text, text_closing, has_first_or, has_only, has_first, has_later}
use Rattle.edif_productions.proofs.Combining.{EndedText, ReadsOn, ItemText, item_text, text_item, taken_item, item_taken, other_item}

-- the form with one keyword is the form with that one of some
module _ {I : Type 0} (rest : Keyword → Edif I) (a : Keyword) where
  chosen : (k : List Alias) (allowed : List Keyword) (ts : Tokens) (v : I) → Spells k (form_of a (rest a)) ts v
      → Spells k (item (a ∷ allowed) rest) ts v
  chosen k allowed ts v s =
      let i = item_text k (a ∷ []) (λ _. rest a) ts v s in
      text_item k (a ∷ allowed) rest ts v
      (other_item k (a ∷ []) (a ∷ allowed) (λ _. rest a) rest ts v v i a (has_only a i.key i.may) (has_first a allowed) i.text)

  first_of_them : (k : List Alias) (allowed : List Keyword) (ts : Tokens) (v : I) (i : ItemText k allowed rest ts v) → i.key ≡ a
      → Spells k (form_of a (rest a)) ts v
  first_of_them k allowed ts v i same =
      text_item k (a ∷ []) (λ _. rest a) ts v
      (other_item k allowed (a ∷ []) rest (λ _. rest a) ts v v i a same (has_first a []) (subst (λ z. Spells k (rest z) i.behind v) same i.text))

  -- one keyword alone
  pub one_form : {P : Production I} → HasTextsOf (form_of a (rest a)) P → HasTextsOf (item (a ∷ []) rest) P
  one_form h = record {
    is_text = λ k ts v s. let i = item_text k (a ∷ []) rest ts v s in h.is_text k ts v (first_of_them k (a ∷ []) ts v i (has_only a i.key i.may));
    is_spelled = λ k ts v t. chosen k [] ts v (h.is_spelled k ts v t);
  }

  -- one keyword, or one of the others
  pub or_form : {P Q : Production I} (allowed : List Keyword) → HasTextsOf (form_of a (rest a)) P → HasTextsOf (item allowed rest) Q
      → HasTextsOf (item (a ∷ allowed) rest) (either P Q)
  or_form {P = P} {Q = Q} allowed h l = record { is_text = λ k ts v s. to k ts v (item_text k (a ∷ allowed) rest ts v s); is_spelled = from }
    where
      to : (k : List Alias) (ts : Tokens) (v : I) → ItemText k (a ∷ allowed) rest ts v → Texts k (either P Q) ts v
      to k ts v i = elim (has_first_or a allowed i.key i.may) [
        | inl same ↦ inl (h.is_text k ts v (first_of_them k (a ∷ allowed) ts v i same))
        | inr may ↦ inr (l.is_text k ts v
            (text_item k allowed rest ts v (other_item k (a ∷ allowed) allowed rest rest ts v v i i.key refl may i.text)))
      ]

      from : (k : List Alias) (ts : Tokens) (v : I) → Texts k (either P Q) ts v → Spells k (item (a ∷ allowed) rest) ts v
      from k ts v (inl t) = chosen k allowed ts v (h.is_spelled k ts v t)
      from k ts v (inr t) =
          let i = item_text k allowed rest ts v (l.is_spelled k ts v t) in
          text_item k (a ∷ allowed) rest ts v
          (other_item k allowed (a ∷ allowed) rest rest ts v v i i.key refl (has_later a allowed i.key i.may) i.text)

-- a form, or a part that is none
module _ {A : Type 0} (allowed : List Keyword) {rest : Keyword → Edif A} {other : Edif A} {P Q : Production A} (h : HasTextsOf other P)
    (l : HasTextsOf (item allowed rest) Q) where
  part_text : (k : List Alias) (ts : Tokens) (v : A) → Spells k (form_or allowed rest other) ts v → Texts k (either P Q) ts v
  unfolding form_or if_next
  part_text k ts v (inl (x, u, r, m, taken, s)) =
      inr (l.is_text k ts v
      (text_item k allowed rest ts v (subst (λ z. ItemText k allowed rest z v) (sym m) (taken_item k allowed rest x u r v taken s))))
  part_text k ts v (inr s) = inl (h.is_text k ts v s)

  text_part : (k : List Alias) (ts : Tokens) (v : A) → Texts k (either P Q) ts v → Spells k (form_or allowed rest other) ts v
  unfolding form_or if_next
  text_part k ts v (inl t) = inr (h.is_spelled k ts v t)
  text_part k ts v (inr t) =
      let y = item_taken k allowed rest ts v (item_text k allowed rest ts v (l.is_spelled k ts v t)) in
      inl (proper y.first, tt, y.rest_of, y.is, y.taken, y.text)

  pub form_or_part : HasTextsOf (form_or allowed rest other) (either P Q)
  form_or_part = record { is_text = part_text; is_spelled = text_part }

-- what is read of a form around an optional last form: that form and both ends, or the end
abbrev pub last_form : {A : Type 0} → Keyword → Edif A → Edif (Option A)
last_form q p =
    form_or (q ∷ []) (λ _. sequence p (λ w. sequence closing (λ _. sequence closing (λ _. gives (Some w))))) (sequence closing (λ _. gives None))

module _ {A : Type 0} {p : Edif A} {P : Production A} (q : Keyword) (h : HasTextsOf p P) where
  -- what is read behind the keyword
  abbrev inner : Edif (Option A)
  inner = sequence p (λ w. sequence closing (λ _. sequence closing (λ _. gives (Some w))))

  last_text : (k : List Alias) (ts : Tokens) (v : Option A) → ItemText k (q ∷ []) (λ _. inner) ts v → EndedText k (optional (form q P)) ts v
  last_text k ts v i =
      let s = i.text in
      let c = s.5 in
      let d = c.5 in
      let behind_is : i.behind ≡ s.1 ++ (c.1 ++ d.1) = s.3 ∙ ap (λ z. s.1 ++ z) (c.3 ∙ ap (λ z. c.1 ++ z) (d.3 ∙ alone d.1 d.2 d.5.0)) in
      let inside_is : i.word ++ i.behind ≡ ((i.word ++ s.1) ++ c.1) ++ d.1 = ap (λ z. i.word ++ z) behind_is
      ∙ sym (append_assoc i.word s.1 (c.1 ++ d.1)) ∙ sym (append_assoc (i.word ++ s.1) c.1 d.1) in
      record {
        inside = i.before ++ ((i.word ++ s.1) ++ c.1);
        behind = d.1;
        is = i.is ∙ ap (λ z. i.before ++ z) inside_is ∙ sym (append_assoc i.before ((i.word ++ s.1) ++ c.1) d.1);
        text = there s.0 (record {
          before = i.before;
          inside = i.word ++ s.1;
          behind = c.1;
          is = refl;
          opens = i.opens;
          text = record {
            word = i.word;
            rest = s.1;
            is = refl;
            key = subst (λ z. IsKeyword k z i.word) (has_only q i.key i.may) i.means_key;
            text = h.is_text k s.1 s.0 s.4;
          };
          closes = closing_text k c.1 c.0 c.4;
        }) d.5.1;
        closes = closing_text k d.1 d.0 d.4;
      }

  text_last : (k : List Alias) (ts a b : Tokens) (v : Option A) → ts ≡ a ++ b → Texts k (optional (form q P)) a v → IsToken RightParen b
      → Spells k (last_form q p) ts v
  unfolding form_or if_next
  text_last k ts a b v e (left_out n m) close = inr (tt, b, [], e ∙ ap (λ z. z ++ b) n ∙ sym (append-nil b), text_closing k b close, (refl, m))
  text_last k ts a b v e (there u l m) close =
      let w = l.text in
      let inside_is : (l.inside ++ l.behind) ++ b ≡ w.word ++ (w.rest ++ (l.behind ++ b)) = append_assoc l.inside l.behind b
      ∙ ap (λ z. z ++ (l.behind ++ b)) w.is ∙ append_assoc w.word w.rest (l.behind ++ b) in
      let i : ItemText k (q ∷ []) (λ _. inner) ts v = record {
        key = q;
        before = l.before;
        word = w.word;
        behind = w.rest ++ (l.behind ++ b);
        is = e ∙ ap (λ z. z ++ b) l.is ∙ append_assoc l.before (l.inside ++ l.behind) b ∙ ap (λ z. l.before ++ z) inside_is;
        opens = l.opens;
        means_key = w.key;
        may = has_first q [];
        text = (
          u,
          w.rest,
          l.behind ++ b,
          refl,
          h.is_spelled k w.rest u w.text,
          (tt, l.behind, b, refl, text_closing k l.behind l.closes, (tt, b, [], sym (append-nil b), text_closing k b close, (refl, m))),
        );
      } in
      let y = item_taken k (q ∷ []) (λ _. inner) ts v i in
      inl (proper y.first, tt, y.rest_of, y.is, y.taken, y.text)

  last_form_text : (k : List Alias) (ts : Tokens) (v : Option A) → Spells k (last_form q p) ts v → EndedText k (optional (form q P)) ts v
  unfolding form_or if_next
  last_form_text k ts v (inl (x, u, r, m, taken, s)) =
      last_text k ts v (subst (λ z. ItemText k (q ∷ []) (λ _. inner) z v) (sym m) (taken_item k (q ∷ []) (λ _. inner) x u r v taken s))
  last_form_text k ts v (inr (u, a, b, e, c, (n, m))) =
      record { inside = []; behind = a; is = e ∙ alone a b n; text = left_out refl m; closes = closing_text k a u c }

  -- an optional last form, with the end of the form around it
  pub optional_form : ReadsOn (last_form q p) (optional (form q P))
  optional_form = record { is_text = last_form_text; is_spelled = λ k ts v t. text_last k ts t.inside t.behind v t.is t.text t.closes }
