-- A part that is clear with every token after it is closed: none of its texts goes on to another.
use Rattle.std.proofs.Common.{◌≡◌, List, [], ◌∷◌, ◌++◌, length, sym, ap, ◌∙◌, append_assoc, arith}
use Rattle.std.proofs.lemmas.List.{length-append}
use Rattle.grammar.specs.Part.{Part}
use Rattle.grammar.specs.Texts.{Spells, Begins}
use Rattle.grammar.specs.Reading.{read}
use Rattle.grammar.specs.Clear.{IsClosed}
use Rattle.grammar.proofs.Again.{again}
use Rattle.grammar.proofs.Exact.{ok_parts}

pub no_text_goes_on : {K X R A : Type 0} (κ : K) (p : Part K X R A) → IsClosed κ p → (a : List X) (x : X) (v : A) → Spells κ p a v → Begins κ p (a ++ x ∷ []) → ⊥
no_text_goes_on κ p clear a x v h k =
    let one = again κ p (λ _ _. Unit {0}) clear a x (k.0 ++ x ∷ []) v h tt in
    let two = again κ p (λ _ _. Unit {0}) clear ((a ++ x ∷ []) ++ k.0) x [] k.1 k.2 tt in
    let same : ((a ++ x ∷ []) ++ k.0) ++ x ∷ [] ≡ a ++ x ∷ (k.0 ++ x ∷ []) = append_assoc (a ++ x ∷ []) k.0 (x ∷ []) ∙ append_assoc a (x ∷ []) (k.0 ++ x ∷ []) in
    let e = (ok_parts v k.1 (x ∷ (k.0 ++ x ∷ [])) (x ∷ []) (read κ p (a ++ x ∷ (k.0 ++ x ∷ []))) one (ap (read κ p) (sym same) ∙ two)).1 in
    omega (arith, ap length e, length-append k.0 (x ∷ []))
