-- The values of a flattened design are those of the design.
use Rattle.std.proofs.Common.{ℕ, List, [], ◌∷◌, Option, Some, None, IfSome, map, sym, subst, length}
use Rattle.std.specs.List.{AllByRecursion, range_with_len}
use Rattle.flat_classes.specs.Terminals.{FlatValue}
use Rattle.net_flatten.specs.Flattening.{IsFlattening}
use Rattle.net_flatten_fits.proofs.Instances.{instance_good}
use Rattle.net_flatten_fits.proofs.Lists.{all_made, at_or}
use Rattle.net_flatten_rules.specs.FlatDesign.{cell_or_none, stub, flat_cells, flat_top, inner, leaf_cells, leaf_instance, no_cell, numbered_net, props_of, wired}
use Rattle.net_flatten_rules.specs.Joined.{instance_at}
use Rattle.net_hier.specs.Constants.{ConstantNames}
use Rattle.net_hier.specs.Design.{Design}
use Rattle.net_hier.specs.Paths.{Path}
use Rattle.net_hier.specs.declared.cells.HCell.{HCell}
use Rattle.net_hier.specs.declared.cells.HInst.{HInst}
use Rattle.net_hier.specs.declared.cells.HNet.{HNet}
use Rattle.net_values.specs.Sound.{AreSoundProps, IsSound, IsSoundCell}
use Rattle.vlog_design_laws.proofs.Lists.{all_append, all_such}

props_sound : (o : Option HInst) → IfSome o (λ (instance : HInst). AreSoundProps instance.props) → AreSoundProps (props_of o)
props_sound None h = tt
props_sound (Some instance) h = h

module _ (design : Design) (sound : IsSound design) (paths : List Path) (flat : FlatValue) where
  cell_sound : (number : ℕ) → IsSoundCell (cell_or_none design.cells number)
  cell_sound number = at_or IsSoundCell design.cells number no_cell (record { props = tt; ports = tt; instances = tt; nets = tt }) sound.cells

  stub_sound : (number : ℕ) → IsSoundCell (stub (cell_or_none design.cells number))
  stub_sound number = record { props = (cell_sound number).props; ports = (cell_sound number).ports; instances = tt; nets = tt }

  -- the instance for a leaf has the properties of the last instance of its path
  leaf_sound : (leaf : ℕ) → AreSoundProps (props_of (instance_at design.cells flat.spots leaf))
  leaf_sound leaf = props_sound (instance_at design.cells flat.spots leaf)
      (instance_good (λ (instance : HInst). AreSoundProps instance.props) design.cells
      (all_such IsSoundCell (λ (cell : HCell). AllByRecursion (λ (instance : HInst). AreSoundProps instance.props) cell.instances) (λ cell h. h.instances) design.cells sound.cells) flat.spots leaf)

  top_sound : IsSoundCell (flat_top design paths flat)
  top_sound = record {
    props = (cell_sound design.top).props;
    ports = (cell_sound design.top).ports;
    instances = all_made (λ (instance : HInst). AreSoundProps instance.props) (leaf_instance design.cells flat.spots paths (leaf_cells design.order flat.spots (inner flat.leaves))) leaf_sound (inner flat.leaves);
    nets = all_made (λ (net : HNet). AreSoundProps net.props) numbered_net (λ number. tt) (range_with_len 0 (length (wired flat)));
  }

  cells_sound : AllByRecursion IsSoundCell (flat_cells design paths flat)
  cells_sound = all_append IsSoundCell (map (λ number. stub (cell_or_none design.cells number)) (leaf_cells design.order flat.spots (inner flat.leaves))) (flat_top design paths flat ∷ [])
      (all_made IsSoundCell (λ number. stub (cell_or_none design.cells number)) stub_sound (leaf_cells design.order flat.spots (inner flat.leaves))) (top_sound, tt)

pub flattened_sound : (names : ConstantNames) (design flat : Design) → IsSound design → IsFlattening names design flat → IsSound flat
flattened_sound names design flat sound is = record {
  cells = subst (AllByRecursion IsSoundCell) (sym is.is_flattened.same_cells) (cells_sound design sound is.is_flattened.paths is.is_flattened.flat);
  props = subst AreSoundProps (sym is.is_flattened.same_props) sound.props;
}
