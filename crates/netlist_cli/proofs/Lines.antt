-- The texts of a line, part by part.
use Rattle.std.proofs.Common.{◌≡◌, ℕ, List, ◌++◌, Some, None, refl, codes}
use Rattle.nl_base.specs.Faults.{reason_name, reason_word}
use Rattle.nl_base.specs.declared.fault.Reason.{Reason}
use Rattle.nl_output.specs.Writing.{State, Puts}
use Rattle.netlist_cli.specs.Lines.{reason_then}

-- what a text is may be said in another way
pub puts_same : (f g : List ℕ → List ℕ) (s t : State) → ((rest : List ℕ) → f rest ≡ g rest) → Puts g s t → Puts f s t
puts_same f g s t e p = λ b rest h. p b rest (rw (← e rest) h)

-- a text, and then another
pub puts_then : (f g : List ℕ → List ℕ) (s t u : State) → Puts f s t → Puts g t u → Puts (λ rest. f (g rest)) s u
puts_then f g s t u p q = λ b rest h. q b rest (p b (g rest) h)

-- a reason with a word
pub reason_with : (reason : Reason) (name word : List ℕ) → name ≡ reason_name reason → Some word ≡ reason_word reason → (rest : List ℕ) → reason_then reason rest ≡ name ++ (codes " " ++ (word ++ rest))
unfolding reason_then
reason_with reason name word e h rest = rw (e, ← h) refl

-- a reason without a word
pub reason_without : (reason : Reason) (name : List ℕ) → name ≡ reason_name reason → None ≡ reason_word reason → (rest : List ℕ) → reason_then reason rest ≡ name ++ rest
unfolding reason_then
reason_without reason name e h rest = rw (e, ← h) refl
