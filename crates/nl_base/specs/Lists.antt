-- What the items of a list are, in each of the forms in which it keeps them.
use Rattle.std.specs.Prelude.{List, [], ◌∷◌, Option, None, Some}
use Rattle.std.specs.declared.alloc.Global.{Global}
use Rattle.std.specs.declared.boxed.Box.{Box}
use Rattle.nl_base.specs.declared.lists.Held.{Held}
use Rattle.nl_base.specs.declared.lists.Held.TheVariants.{Nothing, One, Many}

-- the items of a list that keeps one item in itself
abbrev pub held_items : {T : Type 0} → Held T → List T
held_items Nothing = []
held_items (One one) = one ∷ []
held_items (Many many) = many.value.items

-- the items of a list that has them all at a place of their own
abbrev pub boxed_items : {T : Type 0} → Option (Box (List T) Global) → List T
boxed_items None = []
boxed_items (Some held) = held.value
