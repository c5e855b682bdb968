-- The values of the design of a file that is a value.
use Rattle.std.proofs.Common.{◌≡◌, ℕ, true, false, List, [], ◌∷◌, None, Some, IfSome, map, sym, subst}
use Rattle.std.specs.Prelude.{slice_get}
use Rattle.std.specs.List.{AllByRecursion}
use Rattle.edif_values.specs.Names.{original}
use Rattle.edif_values.specs.Values.{IsInstance, IsNet, IsPort}
use Rattle.edif_values.specs.declared.port.Port.{Port}
use Rattle.edif_values.specs.declared.file.EdifFile.{EdifFile}
use Rattle.edif_design.specs.CellRules.{is_bad_size, size_of}
use Rattle.edif_design.specs.Design.{cell_value, edif_cells, edif_design, instance_value, net_value, numbers_in_design, port_value}
use Rattle.edif_design.specs.FileRules.{first_E, refusals}
use Rattle.edif_design.specs.Parts.{instances, nets, numbered, ports}
use Rattle.edif_design.specs.Reach.{is_reached}
use Rattle.edif_design.specs.References.{CellPlace, LinkedCell, all_cells, linked_cell}
use Rattle.edif_values.specs.Values as values
use Rattle.edif_resolve.specs.Answers.{IsDesignOf}
use Rattle.edif_resolve.proofs.Clean.{ports_clean, reached_clean}
use Rattle.edif_resolve.proofs.Renumbering.{ComesFrom, design_from}
use Rattle.edif_resolve.proofs.Widths.{sizes_clean}
use Rattle.net_hier.specs.Design.{Design}
use Rattle.net_hier.specs.declared.cells.HInst.{HInst}
use Rattle.net_hier.specs.declared.cells.HNet.{HNet}
use Rattle.net_values.specs.Sound.{AreSoundProps, IsSound, IsSoundCell, IsSoundPort}
use Rattle.edif_design_laws.proofs.Clean.{no_refusals}
use Rattle.edif_design_laws.proofs.Lists.{all_map, all_numbered, all_places, at_place}
use Rattle.edif_design_laws.proofs.Parts.{cell_props, cells_good, design_props, instance_props, instances_good, net_props, nets_good, port_props, ports_good}
use Rattle.edif_design_laws.proofs.Ranges.{range_sound}

-- ---- the value of a cell

abbrev HasGoodSize : Port → Type 0
HasGoodSize port = is_bad_size (size_of port.name) ≡ false

port_sound : (port : Port) → IsPort port → HasGoodSize port → IsSoundPort (port_value port)
port_sound port h size = record { range = range_sound port.name size; props = port_props port h }

ports_sound : (those : List Port) → AllByRecursion IsPort those → AllByRecursion HasGoodSize those → AllByRecursion IsSoundPort (map port_value those)
ports_sound [] h k = tt
ports_sound (port ∷ those) h k = (port_sound port h.0 k.0, ports_sound those h.1 k.1)

value_sound : (numbers : List ℕ) (linked : LinkedCell) → values.IsCell linked.cell → AllByRecursion HasGoodSize (ports linked.cell) → IsSoundCell (cell_value numbers linked)
unfolding cell_value
value_sound numbers linked h sizes = record {
  props = cell_props linked.cell h;
  ports = ports_sound (ports linked.cell) (ports_good linked.cell h) sizes;
  instances = all_map (λ item. IsInstance item.1) (λ (instance : HInst). AreSoundProps instance.props) (instance_value numbers linked.below) (λ item good. instance_props item.1 good) (numbered (instances linked.cell)) (all_numbered IsInstance 0 (instances linked.cell) (instances_good linked.cell h));
  nets = all_map IsNet (λ (net : HNet). AreSoundProps net.props) net_value net_props (nets linked.cell) (nets_good linked.cell h);
}

-- ---- the design of a file

module _ (file : EdifFile) (good : values.IsEdifValue file) (clean : refusals file ≡ []) where
  sizes_good : (n : ℕ) (place : CellPlace) → slice_get (all_cells file) n ≡ Some place → is_reached file n ≡ true → AllByRecursion HasGoodSize (ports place.cell)
  sizes_good n place there reached = all_places HasGoodSize (ports place.cell) (sizes_clean (original place.cell.name) (ports place.cell) (ports_clean file place (reached_clean file clean n place there reached)))

  place_sound : (n : ℕ) (place : CellPlace) → slice_get (all_cells file) n ≡ Some place → is_reached file n ≡ true → IsSoundCell (cell_value (numbers_in_design file) (linked_cell file place))
  place_sound n place there reached =
      let cell : values.IsCell place.cell = subst (λ o. IfSome o (λ (p : CellPlace). values.IsCell p.cell)) there (at_place (λ (p : CellPlace). values.IsCell p.cell) (all_cells file) n (cells_good file good)) in
      value_sound (numbers_in_design file) (linked_cell file place) cell (sizes_good n place there reached)

  cells_sound : AllByRecursion IsSoundCell (edif_cells file)
  cells_sound = all_places IsSoundCell (edif_cells file) (λ number cell there.
      let from : ComesFrom file number cell = design_from file number cell there in subst IsSoundCell from.value (place_sound from.old from.place from.stands from.reached))

pub said_sound : (file : EdifFile) (design : Design) → values.IsEdifValue file → first_E file ≡ None → design.cells ≡ (edif_design file).cells → design.props ≡ (edif_design file).props → IsSound design
said_sound file design good none cells props =
    record { cells = subst (AllByRecursion IsSoundCell) (sym cells) (cells_sound file good (no_refusals file none)); props = subst AreSoundProps (sym props) (design_props file good) }

pub answered_sound : (file : EdifFile) (design : Design) → values.IsEdifValue file → IsDesignOf file design → IsSound design
answered_sound file design good is = said_sound file design good is.no_refusal is.same_cells is.same_props
