-- The flattened designs of files that bytes read as can be written.
use Rattle.std.proofs.Common.{◌≡◌, ℕ, List, Some, sym, subst, slice_get}
use Rattle.std.specs.List.{AllByRecursion}
use Rattle.edif_design.specs.Design.{cell_value, edif_cells, instance_value, numbers_in_design, port_value}
use Rattle.edif_design.specs.Parts.{instances, numbered, ports}
use Rattle.edif_design.specs.References.{CellPlace, LinkedCell, all_cells, linked_cell}
use Rattle.edif_design_laws.proofs.Designs.{answered_sound}
use Rattle.edif_design_laws.proofs.Lists.{all_map, all_numbered, all_places}
use Rattle.edif_design_laws.proofs.Parts.{cells_good, instances_good, ports_good}
use Rattle.edif_library.specs.Text.{EdifReads}
use Rattle.edif_values.specs.declared.file.EdifFile.{EdifFile}
use Rattle.edif_values.specs.Values.{IsInstance, IsPort}
use Rattle.edif_rereading.proofs.Kept.{read_values}
use Rattle.edif_values.specs.Values as values
use Rattle.edif_resolve.proofs.Renumbering.{ComesFrom, design_from}
use Rattle.edif_resolve.specs.Answers.{IsDesignOf}
use Rattle.edif_values.specs.Proper.{AreBytes}
use Rattle.net_flatten.specs.Flattening.{IsFlattening}
use Rattle.net_flatten_fits.proofs.Lists.{item_at}
use Rattle.net_flatten_fits.proofs.Names.{flattened_short}
use Rattle.net_flatten_fits.proofs.Parts.{cell_props, design_props, instance_props, original_bytes, port_bytes, port_props}
use Rattle.net_flatten_fits.proofs.Values.{flattened_sound}
use Rattle.net_flatten_fits.specs.Named.{CanBeWritten, HaveByteNames, IsCellByBytes, IsInstanceByBytes, IsNamedByBytes, IsPortByBytes}
use Rattle.net_hier.specs.Constants.{ConstantNames}
use Rattle.net_hier.specs.Design.{Design}
use Rattle.net_hier.specs.declared.cells.HInst.{HInst}
use Rattle.net_hier.specs.declared.cells.HPort.{HPort}
use Rattle.net_hier.specs.declared.cells.HProp.{HProp}
use Rattle.net_values.specs.ShortNames.{HasShortNames, HaveShortNames, IsShort, IsShortCell}
use Rattle.vlog_design.specs.Names.{Name}
use Rattle.vlog_design_laws.proofs.Lists.{all_such}
use Rattle.vlog_design_laws.proofs.ShortNames.{short_names}
use Rattle.vlog_design_laws.proofs.SoundValues.{sound}
use Rattle.vlog_design_laws.specs.Designs.{IsVlogDesign}
use Rattle.vlog_bounds.proofs.Modules.{file_is_value}
use Rattle.vlog_modules.specs.Text.{VlogReads}
use Rattle.vlog_values.specs.Values.{IsVlogValue}
use Rattle.vlog_values.specs.declared.module.VlogFile.{VlogFile}

-- ---- EDIF files

cell_named : (numbers : List ℕ) (linked : LinkedCell) → values.IsCell linked.cell → IsCellByBytes (cell_value numbers linked)
unfolding cell_value
cell_named numbers linked h = record {
  name = original_bytes linked.cell.name h.name;
  props = cell_props linked.cell h;
  ports = all_map IsPort IsPortByBytes port_value (λ port good. (port_bytes port.name good.name, port_props port good)) (ports linked.cell) (ports_good linked.cell h);
  instances = all_map (λ item. IsInstance item.1) IsInstanceByBytes (instance_value numbers linked.below) (λ item good. (original_bytes item.1.name good.name, instance_props item.1 good)) (numbered (instances linked.cell))
      (all_numbered IsInstance 0 (instances linked.cell) (instances_good linked.cell h));
}

module _ (file : EdifFile) (good : values.IsEdifValue file) where
  place_named : (n : ℕ) (place : CellPlace) → slice_get (all_cells file) n ≡ Some place → IsCellByBytes (cell_value (numbers_in_design file) (linked_cell file place))
  place_named n place there = cell_named (numbers_in_design file) (linked_cell file place) (item_at (λ (p : CellPlace). values.IsCell p.cell) (all_cells file) n place (cells_good file good) there)

  cells_named : AllByRecursion IsCellByBytes (edif_cells file)
  cells_named = all_places IsCellByBytes (edif_cells file) (λ number cell there.
      let from : ComesFrom file number cell = design_from file number cell there in subst IsCellByBytes from.value (place_named from.old from.place from.stands))

  -- the names of the design that is answered for a file that can be written are made of bytes
  pub design_named : (design : Design) → IsDesignOf file design → IsNamedByBytes design
  design_named design is = record { cells = subst (AllByRecursion IsCellByBytes) (sym is.same_cells) cells_named; props = subst HaveByteNames (sym is.same_props) (design_props file good) }

  flat_fits : (names : ConstantNames) (design flat : Design) → IsDesignOf file design → IsFlattening names design flat → CanBeWritten flat
  flat_fits names design flat is flattening = record { short = flattened_short names design flat (design_named design is) flattening; sound = flattened_sound names design flat (answered_sound file design good is) flattening }

pub edif_fits : (bytes : List ℕ) (file : EdifFile) (names : ConstantNames) (design flat : Design) → AreBytes bytes → EdifReads bytes file → IsDesignOf file design → IsFlattening names design flat → CanBeWritten flat
edif_fits bytes file names design flat all reads is flattening = flat_fits file (read_values bytes file all reads) names design flat is flattening

-- ---- Verilog files

props_named : (props : List HProp) → HaveShortNames props → HaveByteNames props
props_named props h = all_such (λ (prop : HProp). IsShort prop.name) (λ (prop : HProp). AreBytes prop.name) (λ prop k. k.bytes) props h

-- short names are made of bytes
pub short_named : (design : Design) → HasShortNames design → IsNamedByBytes design
short_named design h = record {
  cells = all_such IsShortCell IsCellByBytes (λ cell k. record {
    name = k.name.bytes;
    props = props_named cell.props k.props;
    ports = all_such (λ (port : HPort). IsShort port.name × HaveShortNames port.props) IsPortByBytes (λ port p. (p.0.bytes, props_named port.props p.1)) cell.ports k.ports;
    instances = all_such (λ (instance : HInst). IsShort instance.name × HaveShortNames instance.props) IsInstanceByBytes (λ instance i. (i.0.bytes, props_named instance.props i.1)) cell.instances k.instances;
  }) design.cells h.cells;
  props = props_named design.props h.props;
}

pub value_fits : (file : VlogFile) (top : Name) (names : ConstantNames) (design flat : Design) → IsVlogValue file → IsVlogDesign file top design → IsFlattening names design flat → CanBeWritten flat
value_fits file top names design flat value is flattening = record {
  short = flattened_short names design flat (short_named design (short_names file top value design is)) flattening;
  sound = flattened_sound names design flat (sound file top value design is) flattening;
}

pub verilog_fits : (bytes : List ℕ) (file : VlogFile) (top : Name) (names : ConstantNames) (design flat : Design) → AreBytes bytes → VlogReads bytes file → IsVlogDesign file top design → IsFlattening names design flat → CanBeWritten flat
verilog_fits bytes file top names design flat all reads is flattening = value_fits file top names design flat (file_is_value bytes file all reads) is flattening
