-- Words in capitals are read as the extended BNF has them.
use Rattle.std.proofs.Common.{◌≡◌, ◌∙◌, sym, ap, refl, ◌⊎◌, inl, inr, ℕ, Bool, true, false, cond, List, [], ◌∷◌, map, Option, Some, None, option_map, Ok, codes}
use Rattle.std.specs.List.{find}
use Rattle.std.proofs.lemmas.Slice.Eq.{bytes_eq-Decides}
use Rattle.nl_base.specs.Case.{small, same_bytes, same_up_to_case}
use Rattle.edif_values.specs.declared.token.Token.{Token}
use Rattle.edif_values.specs.declared.token.Token.TheVariants.{LeftParen, RightParen, Word, Number, Str}
use Rattle.edif_keywords.specs.Aliases.{Alias}
use Rattle.edif_keywords.specs.Reasons as say
use Rattle.edif_keywords.specs.Reasons.{meant_by}
use Rattle.edif_keywords.specs.Grammar.{choice, view_type}
use Rattle.edif_productions.specs.Production.{Production, single, either, Tokens, Texts, capitals, HasTextsOf}
use Rattle.edif_productions.proofs.OneToken.{one_token}

-- the token is one of the words, for its value
abbrev Means : {A : Type 0} → List (List ℕ × A) → Token → A → Type 0
Means rows t v = (w : List ℕ) × (t ≡ Word w) × (meant_by rows w ≡ Some v)

module _ {A : Type 0} (rows : List (List ℕ × A)) where
  choice_by_is : (m : Option A) (v : A) → say.choice_by m ≡ Ok v → m ≡ Some v
  choice_by_is None v h = absurd cc
  choice_by_is (Some a) v h = let e : a ≡ v = cc in ap Some e

  choice_is : (t : Token) (v : A) → say.choice_of rows t ≡ Ok v → Means rows t v
  choice_is LeftParen v h = absurd cc
  choice_is RightParen v h = absurd cc
  choice_is (Word w) v h = (w, refl, choice_by_is (meant_by rows w) v h)
  choice_is (Number n) v h = absurd cc
  choice_is (Str s) v h = absurd cc

  is_choice : (t : Token) (v : A) → Means rows t v → say.choice_of rows t ≡ Ok v
  is_choice t v (w, e, m) = ap (say.choice_of rows) e ∙ ap say.choice_by m

  -- one of some words
  pub choices : HasTextsOf (choice rows) (single (λ _ t v. Means rows t v))
  choices = one_token (λ _ t. say.choice_of rows t) (λ _ t v. Means rows t v) (λ k t v h. choice_is t v h) (λ k t v m. is_choice t v m)

-- the value of a word in small letters
abbrev small_meaning : {A : Type 0} → List (List ℕ × A) → List ℕ → Option A
small_meaning rows w = option_map (λ row. row.1) (find (λ row. same_bytes w (map small row.0)) rows)

module _ {A : Type 0} (s : List ℕ) (a : A) (rows : List (List ℕ × A)) where
  -- the words, of which this is the first
  abbrev all : List (List ℕ × A)
  all = (s, a) ∷ rows

  first_by : (w : List ℕ) (v : A) (b : Bool) → same_up_to_case w s ≡ b
      → option_map (λ (row : List ℕ × A). row.1) (cond b (Some (s, a)) (find (λ row. same_up_to_case w row.0) rows)) ≡ Some v
      → ((same_up_to_case w s ≡ true) × (v ≡ a)) ⊎ (meant_by rows w ≡ Some v)
  unfolding meant_by
  first_by w v true e h = let m : a ≡ v = cc in inl (e, sym m)
  first_by w v false e h = inr h

  -- a word is the first of them, or one of the others
  first_or : (w : List ℕ) (v : A) → meant_by all w ≡ Some v → ((same_up_to_case w s ≡ true) × (v ≡ a)) ⊎ (meant_by rows w ≡ Some v)
  unfolding meant_by
  first_or w v h = first_by w v (same_up_to_case w s) refl h

  is_first : (w : List ℕ) (v : A) → same_up_to_case w s ≡ true → v ≡ a → meant_by all w ≡ Some v
  unfolding meant_by
  is_first w v e f = rw e (ap Some (sym f))

  module _ (apart : small_meaning rows (map small s) ≡ None) where
    not_both : (w : List ℕ) (v : A) → same_up_to_case w s ≡ true → meant_by rows w ≡ Some v → ⊥
    unfolding meant_by
    not_both w v e h =
        let same : map small w ≡ map small s = (bytes_eq-Decides (map small w) (map small s)).0 e in
        let none : meant_by rows w ≡ None = ap (small_meaning rows) same ∙ apart in
        let clash = sym none ∙ h in absurd cc

    other_by : (w : List ℕ) (v : A) (b : Bool) → same_up_to_case w s ≡ b → meant_by rows w ≡ Some v
        → option_map (λ (row : List ℕ × A). row.1) (cond b (Some (s, a)) (find (λ row. same_up_to_case w row.0) rows)) ≡ Some v
    unfolding meant_by
    other_by w v true e h = absurd (not_both w v e h)
    other_by w v false e h = h

    is_other : (w : List ℕ) (v : A) → meant_by rows w ≡ Some v → meant_by all w ≡ Some v
    unfolding meant_by
    is_other w v h = other_by w v (same_up_to_case w s) refl h

    choice_text : {Q : Production A} → HasTextsOf (choice rows) Q → (k : List Alias) (ts : Tokens) (v : A)
        → Texts k (single (λ _ t v. Means all t v)) ts v → Texts k (either (capitals s a) Q) ts v
    choice_text h k ts v (x, e, (w, is, m)) = elim (first_or w v m) [
      | inl f ↦ inl (x, e, (w, is, f.0, f.1))
      | inr o ↦ inr (h.is_text k ts v ((choices rows).is_spelled k ts v (x, e, (w, is, o))))
    ]

    text_choice : {Q : Production A} → HasTextsOf (choice rows) Q → (k : List Alias) (ts : Tokens) (v : A) → Texts k (either (capitals s a) Q) ts v
        → Texts k (single (λ _ t v. Means all t v)) ts v
    text_choice h k ts v (inl (x, e, (w, is, f, g))) = (x, e, (w, is, is_first w v f g))
    text_choice h k ts v (inr t) = let o = (choices rows).is_text k ts v (h.is_spelled k ts v t) in (o.0, o.1, (o.2.0, o.2.1, is_other o.2.0 v o.2.2))

    -- one word, or one of others that differ from it
    pub or_word : {Q : Production A} → HasTextsOf (choice rows) Q → HasTextsOf (choice all) (either (capitals s a) Q)
    or_word h = record {
      is_text = λ k ts v p. choice_text h k ts v ((choices all).is_text k ts v p);
      is_spelled = λ k ts v t. (choices all).is_spelled k ts v (text_choice h k ts v t);
    }

no_row : {A : Type 0} (w : List ℕ) (v : A) → meant_by [] w ≡ Some v → ⊥
unfolding meant_by
no_row w v h = absurd cc

module _ {A : Type 0} (s : List ℕ) (a : A) where
  -- the word alone
  abbrev only : List (List ℕ × A)
  only = (s, a) ∷ []

  only_text : (k : List Alias) (ts : Tokens) (v : A) → Texts k (single (λ _ t v. Means only t v)) ts v → Texts k (capitals s a) ts v
  only_text k ts v (x, e, (w, is, m)) = elim (first_or s a [] w v m) [
    | inl f ↦ (x, e, (w, is, f.0, f.1))
    | inr o ↦ absurd (no_row w v o)
  ]

  -- one word
  pub one_word : HasTextsOf (choice ((s, a) ∷ [])) (capitals s a)
  one_word = record {
    is_text = λ k ts v p. only_text k ts v ((choices only).is_text k ts v p);
    is_spelled = λ k ts v t. (choices only).is_spelled k ts v (t.0, t.1, (t.2.0, t.2.1, is_first s a [] t.2.0 v t.2.2 t.2.3));
  }

-- ---- the word of viewType

netlist_by : (w : List ℕ) (u : Unit {0}) (b : Bool) → say.view_type_by w b ≡ Ok u → b ≡ true
netlist_by w u true h = refl
netlist_by w u false h = absurd cc

-- the token is the word NETLIST
abbrev IsNetlist : Token → Unit {0} → Type 0
IsNetlist t u = (w : List ℕ) × (t ≡ Word w) × (same_up_to_case w (codes "NETLIST") ≡ true) × (u ≡ tt)

netlist_is : (t : Token) (u : Unit {0}) → say.view_type_of t ≡ Ok u → IsNetlist t u
netlist_is LeftParen u h = absurd cc
netlist_is RightParen u h = absurd cc
netlist_is (Word w) u h = (w, refl, netlist_by w u (same_up_to_case w (codes "NETLIST")) h, refl)
netlist_is (Number n) u h = absurd cc
netlist_is (Str s) u h = absurd cc

is_netlist : (t : Token) (u : Unit {0}) → IsNetlist t u → say.view_type_of t ≡ Ok u
is_netlist t u (w, e, same, f) = ap say.view_type_of e ∙ ap (say.view_type_by w) same

pub netlists : HasTextsOf view_type (capitals (codes "NETLIST") tt)
netlists = one_token (λ _ t. say.view_type_of t) (λ _ t u. IsNetlist t u) (λ k t u h. netlist_is t u h) (λ k t u m. is_netlist t u m)
