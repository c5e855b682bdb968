-- What the walk of a cell's contents finds and keeps.
use Rattle.std.specs.Prelude.{◌≡◌, ◌≤◌, ℕ, ◌+◌, ◌==◌, ◌||◌, Bool, true, false, not, cond, List, [], ◌∷◌, ◌++◌, map, length, Option, is_some, codes}
use Rattle.std.specs.List.{filter_map, flat_map, list_any}
use Rattle.nl_base.specs.Case.{same_bytes}
use Rattle.nl_base.specs.declared.rule.Refusal.{Refusal}
use Rattle.nl_base.specs.declared.rule.Rule.TheVariants.{E5, E12}
use Rattle.edif_values.specs.Names.{original}
use Rattle.edif_values.specs.declared.instance.Instance.{Instance}
use Rattle.edif_values.specs.declared.net.Net.{Net}
use Rattle.net_hier.specs.declared.nodes.Node.{Node}
use Rattle.edif_lookup.specs.Refusals.{broken, each_after, is_in, lowest}
use Rattle.edif_lookup.specs.declared.definitions.Meaning.{Meaning}
use Rattle.edif_lookup.specs.declared.definitions.Meaning.TheVariants as meanings
use Rattle.edif_values.specs.declared.file.EdifFile.{EdifFile}
use Rattle.edif_values.specs.declared.view.ContentsItem.{ContentsItem}
use Rattle.edif_design.specs.CellRules.{bits_of_nets, contents_refusals, inner_cell, link_refusals, same_node, view_refusals}
use Rattle.edif_design.specs.Parts.{cell_contents, instance_in, instances, net_in}
use Rattle.edif_design.specs.References.{CellPlace, LinkedCell, linked_cell}
use Rattle.edif_rules.specs.RefRefusals.{ref_refusals_by}
use Rattle.edif_rules.specs.Idents.{instance_ident, instances_meaning}
use Rattle.edif_rules.specs.Scopes.{ScopeLists}
use Rattle.edif_rules.specs.declared.walk.Met.{Met}

-- the original name of an instance, and the identifier of a net
abbrev pub instance_original : Instance → List ℕ
instance_original instance = original instance.name

abbrev pub net_ident : Net → List ℕ
net_ident net = net.name.ident

-- whether an instance has a name other than its identifier
abbrev pub is_renamed : Instance → Bool
is_renamed instance = is_some instance.name.text

-- whether a spelling means a definition with a number other than this one
abbrev pub means_other : ℕ → Meaning → Bool
means_other number meanings.Nothing = false
means_other number (meanings.One first) = not (first == number)
means_other number meanings.Several = false

-- whether the identifier of the instance of this number means another one, which is the first with this identifier
abbrev pub has_ident_before : List Instance → ℕ → Instance → Bool
has_ident_before all number instance = means_other number (instances_meaning all (instance_ident instance))

-- whether an original name is taken: where no instance is renamed, whether the identifier is
abbrev pub is_name_taken : Bool → Bool → List (List ℕ) → Instance → Bool
is_name_taken ident_taken renamed names instance = cond renamed (is_in (instance_original instance) names) ident_taken

-- E2 to E6 and E12 of an instance, by whether its identifier and its original name are taken
abbrev pub instance_refusals_by : EdifFile → ℕ → List ℕ → Bool → Bool → Instance → List Refusal
instance_refusals_by file home cell ident_taken name_taken instance =
    broken ident_taken E5 cell (codes "instance" ∷ (instance.name.ident ∷ []))
    ++ link_refusals file home cell instance.library instance.cell
    ++ view_refusals cell instance.view (inner_cell file home instance)
    ++ broken name_taken E12 cell (codes "instance" ∷ (original instance.name ∷ []))

-- E5 to E11 of a net, by whether its identifier is taken, and by the bits that are
abbrev pub net_refusals_by : ScopeLists → List ℕ → Bool → List Node → Net → List Refusal
net_refusals_by lists cell ident_taken taken net =
    broken ident_taken E5 cell (codes "net" ∷ (net.name.ident ∷ [])) ++ flat_map (ref_refusals_by lists cell (original net.name) taken) net.joined

-- what was met before: the number of instances, their original names where some instance of the cell is renamed, the identifiers of nets, and
-- the bits of nets
pub record HasMet (linked : LinkedCell) (before : List ContentsItem) (met : Met) : Type 0 where
  pub instances_met : met.instances ≡ length (filter_map instance_in before)
  pub renamed_is : met.renamed ≡ list_any is_renamed (instances linked.cell)
  pub originals_met : met.renamed ≡ true → (name : List ℕ) → is_in name met.originals ≡ is_in name (map instance_original (filter_map instance_in before))
  pub nets_met : (name : List ℕ) → is_in name met.nets ≡ is_in name (map net_ident (filter_map net_in before))
  pub bits_met : (node : Node) → list_any (same_node node) met.taken ≡ list_any (same_node node) (bits_of_nets linked (filter_map net_in before))

-- a walk of these parts of a cell's contents: whatever parts stand and were met before them, the first refusal of these after those was found,
-- those and these are met then, and of instances at most as many more as these are
pub record Walks (file : EdifFile) (place : CellPlace) (items : List ContentsItem) (old : Met) (found : Option Refusal) (new : Met) : Type 0 where
  pub refused : (before after : List ContentsItem) → before ++ (items ++ after) ≡ cell_contents place.cell → HasMet (linked_cell file place) before old → found ≡ lowest (each_after (contents_refusals file place) before items)
  pub all_met : (before : List ContentsItem) → HasMet (linked_cell file place) before old → HasMet (linked_cell file place) (before ++ items) new
  pub few_met : new.instances ≤ old.instances + length items

-- one more name
abbrev pub AddsName : List (List ℕ) → List ℕ → List (List ℕ) → Type 0
AddsName old name new = (other : List ℕ) → is_in other new ≡ (same_bytes other name || is_in other old)

-- some more bits
abbrev pub AddsBits : List Node → List Node → List Node → Type 0
AddsBits old bits new = (other : Node) → list_any (same_node other) new ≡ list_any (same_node other) (old ++ bits)
