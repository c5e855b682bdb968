use Rattle.std.specs.Prelude.{[], length}
use Rattle.readers.specs.Readers.{room}
use Rattle.readers.proofs.Loops.{Collects}
use Rattle.edif_keywords.specs.Language.{edif}
use Rattle.std.specs.List.{AllByRecursion}
use Rattle.edif_values.specs.Values.{IsPortRef}
use Rattle.edif_nets.specs.Grammar.{joined_rest}
use Rattle.edif_nets.proofs.net.joined_rest.Given as goal

abbrev pub invariant-loop-references : goal.invariant-loop-references
invariant-loop-references g l =
    Collects edif (joined_rest []) (joined_rest l.references) (AllByRecursion IsPortRef l.references) (length l.references) l.cursor l.fn.cursor (g.S.Source.supply l.source) (g.S.Source.supply l.fn.source)

abbrev pub decreases-loop-references : goal.decreases-loop-references
decreases-loop-references g l = room l.cursor
