-- The stops of the tokens of a text rise.
use Rattle.std.specs.Prelude.{◌≡◌, ⊤, ℕ, ◌≤◌, List, [], ◌∷◌}
use Rattle.grammar.specs.Whole.{Terminal, proper, end, Finish, Done, Bad, Over}
use Rattle.nl_base.specs.declared.place.Place.{Place}
use Rattle.nl_base.specs.declared.fault.TextFault.{TextFault}

-- The stops of tokens rise from n on, up to that of the fault behind them; where all is told the end is there, and nothing is behind it. `stop`
-- is the stop of a token.
abbrev pub Rises : {X : Type 0} → (X → ℕ) → ℕ → List (Terminal X Place) → Finish TextFault → Type 0
Rises stop n [] Done = ⊥
Rises stop n [] (Bad fault) = n ≤ fault.stop
Rises stop n [] Over = ⊤
Rises stop n (proper x ∷ xs) finish = (n ≤ stop x) × Rises stop (stop x) xs finish
Rises stop n (end p ∷ xs) finish = (n ≤ p.offset) × (xs ≡ []) × (finish ≡ Done)
