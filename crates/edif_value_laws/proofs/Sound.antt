-- Designs with short names whose values are within the limits of both languages can be written in EDIF.
use Rattle.std.proofs.Common.{List, ℕ}
use Rattle.nl_base.specs.declared.value.PropValue.{PropValue}
use Rattle.nl_base.specs.declared.value.PropValue.TheVariants as values
use Rattle.edif_values.specs.Values.{IsPropValue}
use Rattle.edif_written.specs.Sound as edif
use Rattle.edif_plans.specs.Sound.{IsSoundCell, IsSoundDesign, IsSoundInstance, IsSoundNet, IsSoundPort}
use Rattle.net_hier.specs.Design.{Design}
use Rattle.net_hier.specs.declared.cells.HCell.{HCell}
use Rattle.net_hier.specs.declared.cells.HInst.{HInst}
use Rattle.net_hier.specs.declared.cells.HNet.{HNet}
use Rattle.net_hier.specs.declared.cells.HPort.{HPort}
use Rattle.net_hier.specs.declared.cells.HProp.{HProp}
use Rattle.net_values.specs.ShortNames.{HasShortNames, HaveShortNames, IsShort, IsShortCell}
use Rattle.net_values.specs.Sound as both
use Rattle.edif_value_laws.proofs.Lists.{all_both}

short : (name : List ℕ) → IsShort name → edif.IsShort name
short name h = record { bytes = h.bytes; short = h.short }

value_good : (value : PropValue) → both.IsSoundValue value → IsPropValue value
value_good (values.Str s) h = (h.bytes, h.short)
value_good (values.Int n) h = h
value_good (values.Flag b) h = tt
value_good (values.Scaled r) h = record { mantissa = h.mantissa; exponent = h.exponent }

props_good : (props : List HProp) → HaveShortNames props → both.AreSoundProps props → edif.AreSoundProps props
props_good props h k = all_both (λ (prop : HProp). IsShort prop.name) (λ (prop : HProp). both.IsSoundValue prop.value) edif.IsSoundProp (λ prop named good. record { name = short prop.name named; value = value_good prop.value good }) props h k

cell_good : (cell : HCell) → IsShortCell cell → both.IsSoundCell cell → IsSoundCell cell
cell_good cell h k = record {
  name = short cell.name h.name;
  ports = all_both (λ (port : HPort). IsShort port.name × HaveShortNames port.props) both.IsSoundPort IsSoundPort (λ port named good. record { name = short port.name named.0; props = props_good port.props named.1 good.props }) cell.ports h.ports k.ports;
  instances = all_both (λ (instance : HInst). IsShort instance.name × HaveShortNames instance.props) (λ (instance : HInst). both.AreSoundProps instance.props) IsSoundInstance
      (λ instance named good. record { name = short instance.name named.0; props = props_good instance.props named.1 good }) cell.instances h.instances k.instances;
  nets = all_both (λ (net : HNet). IsShort net.name × HaveShortNames net.props) (λ (net : HNet). both.AreSoundProps net.props) IsSoundNet (λ net named good. record { name = short net.name named.0; props = props_good net.props named.1 good }) cell.nets h.nets k.nets;
  props = props_good cell.props h.props k.props;
}

pub sound_design : (design : Design) → HasShortNames design → both.IsSound design → IsSoundDesign design
sound_design design h k = record { cells = all_both IsShortCell both.IsSoundCell IsSoundCell cell_good design.cells h.cells k.cells; props = props_good design.props h.props k.props }
