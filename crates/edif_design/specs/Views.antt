-- The identifiers of the views of a cell, and what they say of a viewRef.
use Rattle.std.specs.Prelude.{ℕ, Bool, true, false, List, [], ◌∷◌, map, is_some}
use Rattle.std.specs.Borrow.{Bor}
use Rattle.edif_lookup.specs.Candidates.{candidates, the_only}
use Rattle.edif_lookup.specs.declared.definitions.Meaning.{Meaning}
use Rattle.edif_lookup.specs.declared.definitions.Meaning.TheVariants.{Nothing, One, Several}
use Rattle.edif_values.specs.declared.cell.Cell.{Cell}
use Rattle.edif_values.specs.declared.view.View.{View}
use Rattle.edif_design.specs.declared.views.Held.{Held}
use Rattle.edif_design.specs.declared.views.Held.TheVariants as held
use Rattle.edif_design.specs.Parts.{numbered, views}

-- the identifier of a view, and the identifiers of the views of a cell
abbrev pub view_ident : View → List ℕ
view_ident view = view.name.ident

abbrev pub view_names : Cell → List (List ℕ)
view_names cell = map view_ident (views cell)

-- the spellings of entries as they are written
abbrev pub entry_names : List (ℕ × Bor (List ℕ)) → List (List ℕ)
entry_names = map (λ entry. entry.1.now)

-- the identifiers that are held: none, the only one, or those of a table
abbrev pub held_names : Held → List (List ℕ)
held_names held.Nothing = []
held_names (held.One name) = name.now ∷ []
held_names (held.Several table) = map (λ entry. entry.1) table.value

-- whether one definition is meant
abbrev pub is_one : Meaning → Bool
is_one Nothing = false
is_one (One number) = true
is_one Several = false

-- whether a reference of this spelling means one of some names
abbrev pub means_one : List (List ℕ) → List ℕ → Bool
means_one names spelling = is_some (the_only (candidates (λ name. name) (numbered names) spelling))
