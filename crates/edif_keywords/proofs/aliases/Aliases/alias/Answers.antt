use Rattle.std.proofs.Common.{◌∙◌, sym, ap}
use Rattle.std.specs.Map.{lookup}
use Rattle.nl_base.specs.Case.{same_bytes}
use Rattle.edif_keywords.specs.Aliases.{alias_of}
use Rattle.edif_keywords.proofs.Tables.{alias_of-lookup, none_in_empty}
use Rattle.edif_keywords.proofs.aliases.Aliases.alias.Goals as goal

pub returns-then-is_empty : goal.returns-then-is_empty
returns-then-is_empty c =
    sym (none_in_empty c.args.word.now c.self.inside.keywords.entries (c.is_empty.ensures.0 c.if-is_empty.true)) ∙ ap (λ t. alias_of t c.args.word.now) c.self.view_is

pub returns : goal.returns
returns c =
    c.copied.ensures ∙ c.get.ensures.value
    ∙ ap (λ l. lookup (λ k. same_bytes l k.items) c.self.inside.keywords.entries) c.write_small.ensures
    ∙ sym (alias_of-lookup c.args.word.now c.self.inside.keywords.entries)
    ∙ ap (λ t. alias_of t c.args.word.now) c.self.view_is
