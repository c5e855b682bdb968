use Rattle.std.proofs.Common.{◌≡◌, ◌++◌, drop, map}
use Rattle.std.specs.List.{AllByRecursion}
use Rattle.edif_values.specs.Values.{IsProperty}
use Rattle.edif_written.specs.Naming.{ident_of, seen, value_of}
use Rattle.edif_written.specs.Sound.{AreSoundProps}
use Rattle.edif_naming.proofs.properties.properties_of.Given as goal

abbrev pub invariant-loop-place : goal.invariant-loop-place
invariant-loop-place l = record {
  values : map value_of l.made.items ++ seen (drop l.place l.props) ≡ seen l.props;
  idents : map ident_of l.made.items ++ drop l.place l.words ≡ l.words;
  sound : AreSoundProps (seen l.props) → AllByRecursion IsProperty l.made.items;
}
