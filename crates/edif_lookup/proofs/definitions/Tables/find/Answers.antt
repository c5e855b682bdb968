use Rattle.std.proofs.Common.{◌∙◌, sym}
use Rattle.edif_lookup.proofs.TableLaws.{meaning-found, meaning-small}
use Rattle.edif_lookup.proofs.definitions.Tables.find.Goals as goal

pub returns-then-is_several : goal.returns-then-is_several
returns-then-is_several c = λ entries tables.
    c.spelled_or_several.ensures
    ∙ meaning-found entries c.args.self.now.by_spelling c.args.self.now.by_small tables c.args.spelling.now _ c.get-known.ensures.value
    (sym c.is_several.ensures ∙ c.if-is_several.true) _ c.get.ensures.value

pub returns : goal.returns
returns c = λ entries tables.
    c.meaning_of.ensures
    ∙ meaning-small entries c.args.self.now.by_spelling c.args.self.now.by_small tables c.args.spelling.now _ c.get-known.ensures.value
    (sym c.is_several.ensures ∙ c.if-is_several.false)
