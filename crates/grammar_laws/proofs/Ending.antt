-- A whole text ends with the end of the input.
use Rattle.std.proofs.Common.{◌≡◌, List, [], ◌∷◌, ◌++◌, Ok, ap, ◌∙◌}
use Rattle.std.specs.Prelude.{⊤}
use Rattle.grammar.specs.Part.{Part}
use Rattle.grammar_laws.specs.GoesOn.{AllOf}
use Rattle.grammar.specs.Texts.{Spells}
use Rattle.grammar.specs.Whole.{Terminal, proper, end, end_of, the_end, whole}

-- a token of the text, and not the end of the input
abbrev pub IsToken : {X P : Type 0} → Terminal X P → Type 0
IsToken (proper x) = ⊤
IsToken (end p) = ⊥

-- the end of the input is the last of these
abbrev pub HasEnd : {X P : Type 0} → List (Terminal X P) → Type 0
HasEnd {X = X} {P = P} ts = (before : List (Terminal X P)) × (p : P) × (ts ≡ before ++ end p ∷ [])

module _ {K X P R A : Type 0} (trailing : X → R) (κ : K) (part : Part K (Terminal X P) R A) where
  pub whole_ends : (ts : List (Terminal X P)) (v : A) → Spells κ (whole trailing part) ts v → HasEnd ts
  unfolding whole the_end
  whole_ends ts v h = by h.5.4.0 h.5.4.1 h.5.4.2
    where
      by : (x : Terminal X P) → h.5.1 ≡ x ∷ [] → end_of trailing x ≡ Ok h.5.0 → HasEnd ts
      by (proper x) e o = absurd cc
      by (end q) e o = (h.1, q, h.3 ∙ ap (λ z. h.1 ++ z) (h.5.3 ∙ ap (λ z. z ++ h.5.2) e ∙ ap (λ z. end q ∷ z) h.5.5.0))

-- tokens, and the end of the input behind them
abbrev pub HasOneEnd : {X P : Type 0} → List (Terminal X P) → Type 0
HasOneEnd {X = X} {P = P} ts = (before : List (Terminal X P)) × (p : P) × (ts ≡ before ++ end p ∷ []) × AllOf IsToken before

module _ {K X P R A : Type 0} (trailing : X → R) (κ : K) (part : Part K (Terminal X P) R A) (tokens_alone : (ts : List (Terminal X P)) (v : A) → Spells κ part ts v → AllOf IsToken ts) where
  -- where the part takes no end, that of the whole text is the only one
  pub one_end : (ts : List (Terminal X P)) (v : A) → Spells κ (whole trailing part) ts v → HasOneEnd ts
  unfolding whole the_end
  one_end ts v h = by h.5.4.0 h.5.4.1 h.5.4.2
    where
      by : (x : Terminal X P) → h.5.1 ≡ x ∷ [] → end_of trailing x ≡ Ok h.5.0 → HasOneEnd ts
      by (proper x) e o = absurd cc
      by (end q) e o = (h.1, q, h.3 ∙ ap (λ z. h.1 ++ z) (h.5.3 ∙ ap (λ z. z ++ h.5.2) e ∙ ap (λ z. end q ∷ z) h.5.5.0), tokens_alone h.1 h.0 h.4)

-- behind an end that is the only one is nothing
pub none_more : {X P : Type 0} (before more a : List (Terminal X P)) (p q : P) → AllOf IsToken a → before ++ end p ∷ more ≡ a ++ end q ∷ [] → more ≡ []
none_more [] more [] p q h e = cc
none_more [] more (proper x ∷ a) p q h e = absurd cc
none_more [] more (end r ∷ a) p q h e = absurd h.0
none_more (y ∷ before) more [] p q h e = absurd (by before cc)
  where
    by : (b : List (Terminal _ _)) → b ++ end p ∷ more ≡ [] → ⊥
    by [] e = absurd cc
    by (z ∷ b) e = absurd cc
none_more (y ∷ before) more (z ∷ a) p q h e = none_more before more a p q h.1 (tail y z (before ++ end p ∷ more) (a ++ end q ∷ []) e)
  where
    tail : {Y : Type 0} (y z : Y) (ys zs : List Y) → y ∷ ys ≡ z ∷ zs → ys ≡ zs
    tail y z ys zs e = cc
