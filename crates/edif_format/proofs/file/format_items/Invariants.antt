use Rattle.std.specs.Prelude.{List, []}
use Rattle.readers.specs.Readers.{room}
use Rattle.readers.proofs.Loops.{Goes}
use Rattle.nl_output.specs.Writing.{state, Puts}
use Rattle.edif_values.specs.declared.file.FileItem.{FileItem}
use Rattle.edif_keywords.specs.Language.{edif}
use Rattle.edif_library.specs.Grammar.{file_rest}
use Rattle.edif_writer.specs.Forms.{file_item_block}
use Rattle.edif_writer.specs.Layout.{all, lines}
use Rattle.edif_format.proofs.file.format_items.Given as goal

abbrev pub invariant-loop-cursor : goal.invariant-loop-cursor
invariant-loop-cursor g l =
    (s : List FileItem) × Puts (lines 2 (all file_item_block s)) (state g.O.Sink.receipt l.fn.sink l.fn.output) (state g.O.Sink.receipt l.sink l.output)
    × Goes edif (file_rest []) (file_rest s) l.cursor l.fn.cursor (g.S.Source.supply l.source) (g.S.Source.supply l.fn.source)

abbrev pub decreases-loop-cursor : goal.decreases-loop-cursor
decreases-loop-cursor g l = room l.cursor
