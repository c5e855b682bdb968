-- Values under names.
use Rattle.std.specs.Prelude.{ℕ, List, [], ◌∷◌, map, cond, bytes_eq}
use Rattle.std.specs.Borrow.{Bor}
use Rattle.std.specs.declared.alloc.Global.{Global}
use Rattle.std.specs.declared.vec.Vec.{Vec}

-- names with the values under them
abbrev pub groups_of : {A : Type 0} → List (Bor (List ℕ) × Vec A Global) → List (List ℕ × List A)
groups_of = map (λ entry. (entry.0.now, entry.1.items))

-- the values under a name
unfoldable pub under : {A : Type 0} → List (List ℕ × List A) → List ℕ → List A
under [] name = []
under (group ∷ rest) name = cond (bytes_eq name group.0) group.1 (under rest name)
