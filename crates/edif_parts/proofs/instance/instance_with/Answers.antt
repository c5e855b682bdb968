use Rattle.std.proofs.Common.{IfSome, subst, sym}
use Rattle.std.specs.List.{AllByRecursion}
use Rattle.edif_values.specs.Values.{IsWord, IsInstanceItem}
use Rattle.edif_parts.proofs.InstanceLaws.{items_sound, netlist_is_word, work_is_word}
use Rattle.edif_parts.proofs.instance.instance_with.Goals as goal

pub returns-clause-sound : goal.returns-clause-sound
returns-clause-sound c = λ string all. record {
  name = c.in_ok-name.ensures.sound string;
  view = subst IsWord (sym c.in_ok-view.ensures) netlist_is_word;
  cell = subst IsWord (sym c.in_ok-cell.ensures.same) c.in_ok-cell.ensures.word;
  library = subst (λ library. IfSome library IsWord) (sym c.some.ensures) (subst IsWord (sym c.in_ok-library.ensures) work_is_word);
  items = subst (AllByRecursion IsInstanceItem) (sym c.in_ok-items.ensures) (items_sound _ all);
}
