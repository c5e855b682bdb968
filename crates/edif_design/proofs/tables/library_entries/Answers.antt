use Rattle.std.proofs.Common.{◌++◌, ◌∷◌, [], ◌∙◌, ap, sym, take, arith}
use Rattle.std.proofs.lemmas.List.{map-append}
use Rattle.std.specs.List.{enumerate_from}
use Rattle.edif_lookup.specs.Tables.{named, written}
use Rattle.edif_design.specs.Tables.{library_ident, seen}
use Rattle.edif_design.proofs.TableLaws.{named_more}
use Rattle.edif_design.proofs.tables.library_entries.Goals as goal

pub loop-number-preserved : goal.loop-number-preserved
loop-number-preserved c =
    let i = c.loop-number.number in
    let x = c.index-libraries-number.result in
    ap written c.in_ok-push.ensures.items
    ∙ (map-append (λ entry. (entry.0, entry.1.now)) c.loop-number.entries.items ((i, c.bytes-name.result) ∷ [])
    ∙ (ap (λ entries. entries ++ (i, c.bytes-name.result.now) ∷ []) c.loop-number.invariant
    ∙ (ap (λ name. named library_ident (enumerate_from 0 (seen (take i c.args.libraries.now))) ++ (i, name) ∷ []) c.bytes-name.ensures.bytes
    ∙ sym (named_more c.args.libraries.now i x (omega arith)))))
