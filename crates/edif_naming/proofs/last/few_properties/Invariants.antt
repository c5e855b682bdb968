use Rattle.std.proofs.Common.{◌≡◌, ◌≤◌, ◌++◌, drop, map}
use Rattle.std.specs.List.{AllByRecursion}
use Rattle.edif_naming.specs.Few.{ArePlain}
use Rattle.edif_written.specs.Naming.{value_of}
use Rattle.edif_written.specs.Sound.{AreSoundProps}
use Rattle.edif_values.specs.Values.{IsProperty}
use Rattle.net_live.specs.Last.{last_of}
use Rattle.edif_naming.proofs.last.few_properties.Given as goal

abbrev pub invariant-loop-place : goal.invariant-loop-place
invariant-loop-place l = record {
  values : map value_of l.made.items ++ last_of (drop l.place l.props) ≡ last_of l.props;
  plain : ArePlain l.made.items l.from;
  few : l.from ≤ l.place;
  sound : AreSoundProps l.props → AllByRecursion IsProperty l.made.items;
}
