-- The rules of names of a design that is to be written in SPICE, as lists of the objects that break them.
use Rattle.std.specs.Prelude.{ℕ, cond, List, [], ◌∷◌, ◌++◌, map, flat_map, codes, Option, None, Some, if◌then◌else◌}
use Rattle.std.specs.List.{list_any}
use Rattle.nl_base.specs.Case.{same_up_to_case}
use Rattle.net_hier.specs.declared.cells.HCell.{HCell}
use Rattle.spice_text.specs.Words.{is_spice_word}
use Rattle.to_spice_rules.specs.PortWords.{port_words}
use Rattle.to_spice_rules.specs.declared.refusal.SpiceRefusal.{SpiceRefusal}
use Rattle.to_spice_rules.specs.declared.refusal.SpiceRule.{SpiceRule}
use Rattle.to_spice_rules.specs.declared.refusal.SpiceRule.TheVariants.{S1, S2, S3, S4}

-- an object is here the list of its names
abbrev pub Objects : Type 0
Objects = List (List (List ℕ))

-- the refusal of an object of a cell by its names
abbrev pub refused : SpiceRule → List ℕ → List (List ℕ) → SpiceRefusal
refused rule cell names = record { rule = rule; cell = cell; names = names }

-- the first element
abbrev pub first_of : {A : Type 0} → List A → Option A
first_of [] = None
first_of (x ∷ xs) = Some x

-- an object of this kind, where its name is no SPICE word
abbrev pub no_word : List ℕ → List ℕ → Objects
no_word kind name = if is_spice_word name then [] else (kind ∷ name ∷ []) ∷ []

-- the words of port bits that are no SPICE words
abbrev pub no_ports : List (List ℕ) → Objects
no_ports = flat_map (no_word (codes "port"))

-- the names of a cell that are no SPICE words: its own, the words of its port bits, the names of its instances
unfoldable pub no_words : HCell → Objects
no_words cell = no_word (codes "cell") cell.name ++ (no_ports (port_words cell) ++ flat_map (λ instance. no_word (codes "instance") instance.name) cell.instances)

-- the names that are alike, up to case, to one before
unfoldable pub alike_again : List (List ℕ) → List (List ℕ) → List (List ℕ)
alike_again before [] = []
alike_again before (name ∷ names) = cond (list_any (same_up_to_case name) before) (name ∷ alike_again (before ++ name ∷ []) names) (alike_again (before ++ name ∷ []) names)

-- objects of one name each
abbrev pub each_alone : List (List ℕ) → Objects
each_alone = map (λ name. name ∷ [])

-- the words of the port bits of a cell that are alike to an earlier one
abbrev pub words_again : HCell → Objects
words_again cell = each_alone (alike_again [] (port_words cell))

-- the names of the instances of a cell that are alike to an earlier one
abbrev pub instances_again : HCell → Objects
instances_again cell = each_alone (alike_again [] (map (λ instance. instance.name) cell.instances))

-- a rule of cells
abbrev pub in_cells : SpiceRule → (HCell → Objects) → List HCell → List SpiceRefusal
in_cells rule objects cells = flat_map (λ cell. map (refused rule cell.name) (objects cell)) cells

-- cells with a name that is alike to that of an earlier one, each named alone
abbrev pub cells_again : List HCell → List SpiceRefusal
cells_again cells = map (λ name. refused S2 name []) (alike_again [] (map (λ cell. cell.name) cells))

-- the refusals of a design by the rules of names, the lowest rule first
abbrev pub name_refusals : List HCell → List SpiceRefusal
name_refusals cells = in_cells S1 no_words cells ++ (cells_again cells ++ (in_cells S3 words_again cells ++ in_cells S4 instances_again cells))

-- the first object that breaks the lowest broken rule of names
unfoldable pub first_by_names : List HCell → Option SpiceRefusal
first_by_names cells = first_of (name_refusals cells)
