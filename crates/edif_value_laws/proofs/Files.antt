-- Files that are made of designs can be written.
use Rattle.std.proofs.Common.{◌⊎◌, inl, inr, ℕ, ◌≤◌, Bool, true, false, ◌==◌, cond, List, [], ◌∷◌, ◌++◌, Option, Some, None, IfSome, get_or, length, sym, subst, arith}
use Rattle.std.specs.Prelude.{slice_get}
use Rattle.std.specs.List.{AllByRecursion}
use Rattle.std.specs.Option.{option_map_or}
use Rattle.edif_values.specs.Values.{IsString, IsWord, IsNameDef}
use Rattle.edif_values.specs.declared.cell.Cell.{Cell}
use Rattle.edif_values.specs.declared.name.NameDef.{NameDef}
use Rattle.edif_written.specs.Naming.{name_for}
use Rattle.edif_written.specs.Sound.{AreSoundProps, IsSoundProp}
use Rattle.edif_naming.proofs.SoundLaws.{short_string, sound_name}
use Rattle.edif_partners.specs.Files.{IsOldCell}
use Rattle.edif_plans.specs.Made.{IsMadeCell, new_cell_for, output_for}
use Rattle.edif_plans.specs.Plans.{head_at, head_of}
use Rattle.edif_plans.specs.Sound.{AreStems, IsSoundCell, IsSoundDesign, IsStem}
use Rattle.edif_plans.specs.declared.head.Head.{Head}
use Rattle.edif_plans.specs.declared.plan.Plan.{Plan}
use Rattle.edif_values.specs.Values as values
use Rattle.edif_written.specs.Written.{file_of}
use Rattle.net_bits.specs.Classes.{ClassTable}
use Rattle.net_hier.specs.Constants.{ConstantNames, name_of_constant}
use Rattle.net_hier.specs.Design.{Design, top_name}
use Rattle.net_hier.specs.Facts.{cell_props}
use Rattle.net_hier.specs.declared.cells.HCell.{HCell}
use Rattle.net_hier.specs.declared.cells.HProp.{HProp}
use Rattle.net_hier.specs.declared.constants.ConstName.{ConstName}
use Rattle.edif_value_laws.specs.Named.{AreNamedCells, IsNamedCell}
use Rattle.edif_value_laws.proofs.Lists.{all_append, all_places, at_front, at_place}
use Rattle.edif_value_laws.proofs.Parts.{cell_value, file_value, output_value}

-- ---- cells of constants

stem_string : (text : List ℕ) → IsStem text → IsString text
stem_string text h = let s : length text ≤ 1024 = h.short in (h.bytes, omega (arith, s))

cell_stem : (names : ConstantNames) (value : Bool) → AreStems names → IsStem (name_of_constant names value).cell
cell_stem names false h = h.zero_cell
cell_stem names true h = h.one_cell

port_stem : (names : ConstantNames) (value : Bool) → AreStems names → IsStem (name_of_constant names value).port
port_stem names false h = h.zero_port
port_stem names true h = h.one_port

new_value : (head : Head) (constant : ConstName) → IsWord head.cell → IsWord (get_or head.ports 0 []) → IsString constant.cell → IsString constant.port → values.IsCell (new_cell_for head constant)
new_value head constant cell port cell_name port_name =
    cell_value (name_for head.cell constant.cell) (output_for (get_or head.ports 0 []) constant.port ∷ []) [] [] [] (sound_name head.cell constant.cell cell cell_name) (output_value (get_or head.ports 0 []) constant.port port port_name, tt) tt tt tt

module _ (names : ConstantNames) (design : Design) (plan : Plan) (stems : AreStems names) (sound : IsSoundDesign design) where
  named_value : (number : ℕ) (made : Cell) → IsNamedCell names plan number made → values.IsCell made
  named_value number made h = subst values.IsCell (sym h.is_new.is_made) (new_value (head_at plan number) (name_of_constant names h.is_new.value) h.words.cell (at_front IsWord (head_at plan number).ports [] h.has_port h.words.ports)
      (stem_string _ (cell_stem names h.is_new.value stems)) (stem_string _ (port_stem names h.is_new.value stems)))

  -- ---- cells of the design

  sound_props : (number : ℕ) (cell : HCell) → IsSoundCell cell → AreSoundProps (cell_props design number cell)
  sound_props number cell h = by (number == design.top)
    where
      by : (b : Bool) → AreSoundProps (cond b (cell.props ++ design.props) cell.props)
      by true = all_append IsSoundProp cell.props design.props h.props sound.props
      by false = h.props

  made_cell_value : (head : Head) (cell : HCell) (props : List HProp) (classes : ClassTable) (made : Cell) → IsSoundCell cell → AreSoundProps props → IsMadeCell design.cells plan head cell props classes made → values.IsCell made
  made_cell_value head cell props classes made good props_good is = subst values.IsCell (sym is.is_cell) (cell_value (name_for head.cell cell.name) is.ports is.made_instances is.nets is.properties
      (sound_name head.cell cell.name is.word (short_string cell.name good.name)) (is.are_ports.sound good.ports) (is.are_instances.sound good.instances) (is.are_nets.sound good.ports good.nets) (is.sound props_good))

  old_value : (made : Cell) → IsOldCell design plan made → values.IsCell made
  old_value made h =
      let good : IsSoundCell h.cell = subst (λ o. IfSome o IsSoundCell) h.is_there (at_place IsSoundCell design.cells h.number sound.cells) in
      made_cell_value (head_of plan h.number) h.cell (cell_props design h.number h.cell) h.classes made good (sound_props h.number h.cell good) h.is_made

  one_value : (number : ℕ) (made : Cell) → IsNamedCell names plan number made ⊎ IsOldCell design plan made → values.IsCell made
  one_value number made (inl h) = named_value number made h
  one_value number made (inr h) = old_value made h

  cells_value : (cells : List Cell) → AreNamedCells names design plan cells → AllByRecursion values.IsCell cells
  cells_value cells each = all_places values.IsCell cells (λ number made there. one_value number made (each number made there))

-- ---- files

pub made_value : (name design_name : NameDef) (cells : List Cell) (top : List ℕ) (names : ConstantNames) (design : Design) (plan : Plan) → AreStems names → IsSoundDesign design → AreNamedCells names design plan cells
    → IsNameDef name → IsNameDef design_name → IsWord top → values.IsEdifValue (file_of name design_name cells top)
made_value name design_name cells top names design plan stems sound each h k word = file_value name design_name cells top h k word (cells_value names design plan stems sound cells each)

name_string : (o : Option HCell) → IfSome o IsSoundCell → IsString (option_map_or (λ (cell : HCell). cell.name) o [])
name_string None h = (tt, omega arith)
name_string (Some cell) h = short_string cell.name h.name

pub top_named : (ident : List ℕ) (design : Design) → IsWord ident → IsSoundDesign design → IsNameDef (name_for ident (top_name design.cells design.top))
top_named ident design word sound = sound_name ident (top_name design.cells design.top) word (name_string (slice_get design.cells design.top) (at_place IsSoundCell design.cells design.top sound.cells))
