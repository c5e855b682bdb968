use Rattle.edif_keywords.proofs.Tables.{new_alias}
use Rattle.edif_keywords.proofs.aliases.Aliases.insert.Goals as goal

pub returns-clause-added : goal.returns-clause-added
returns-clause-added c =
    new_alias c.self.inside.keywords c.insert.new.self c.args.self.now c.args.alias.now c.in_ok-letters.letters c.args.keyword c.self.view_is c.requires c.in_ok-letters.ensures c.in_ok-insert.ensures.entries
