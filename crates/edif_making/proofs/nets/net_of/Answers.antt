use Rattle.std.proofs.Common.{ap, subst, sym, ◌∙◌}
use Rattle.std.specs.List.{AllByRecursion, filter_map}
use Rattle.edif_values.specs.Values.{IsNetItem, IsString}
use Rattle.edif_design.specs.Design.{net_property}
use Rattle.edif_written.specs.Naming.{name_for}
use Rattle.edif_making.proofs.NetLaws.{items_sound, props_read}
use Rattle.edif_making.proofs.nets.net_of.Goals as goal

pub returns : goal.returns
returns c = record {
  name = c.in_ok-name.ensures.name ∙ ap (name_for c.args.ident.now) (c.bytes.ensures ∙ c.in_ok-word.ensures.name);
  joined = c.in_ok-joined.ensures.made;
  props = ap (filter_map net_property) c.in_ok-items.ensures ∙ (props_read c.in_ok-properties.properties.items ∙ c.in_ok-properties.ensures.values);
  sound = λ h. record {
    name = c.in_ok-name.ensures.sound (subst IsString (sym c.bytes.ensures) (c.in_ok-word.ensures.sound h.ports h.nets));
    joined = c.in_ok-joined.ensures.sound;
    items = subst (AllByRecursion IsNetItem) (sym c.in_ok-items.ensures) (items_sound c.in_ok-properties.properties.items (c.in_ok-properties.ensures.sound h.nets));
  };
}
