use Rattle.std.proofs.Common.{◌++◌, ◌∙◌, ap, sym, map, take, arith}
use Rattle.edif_design.specs.Parts.{cells_in}
use Rattle.edif_design.specs.References.{place_in}
use Rattle.edif_design.specs.Tables.{places_from, seen}
use Rattle.edif_design.proofs.TableLaws.{places_more}
use Rattle.edif_design.proofs.tables.places_of.Goals as goal

pub loop-number-preserved : goal.loop-number-preserved
loop-number-preserved c =
    let i = c.loop-number.number in
    let x = c.index-libraries-number.result in
    c.in_ok-push_cells.ensures
    ∙ (ap (λ places. places ++ map (place_in i) (cells_in x.now)) c.loop-number.invariant
    ∙ (ap (λ y. places_from 0 (seen (take i c.args.libraries.now)) ++ map (place_in i) (cells_in y.now)) c.index-libraries-number.is
    ∙ sym (places_more c.args.libraries.now i x (omega arith))))
