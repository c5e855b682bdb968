use Rattle.std.proofs.Common.{◌≡◌, ◌≤◌, true, sym, subst, rules, length}
use Rattle.nl_base.specs.Identifiers.{is_identifier}
use Rattle.edif_spaces.proofs.Numbered.{made_ident, made_short}
use Rattle.edif_spaces.proofs.plain.numbered.Goals as goal

pub of-requires-clause-spelled : goal.of-requires-clause-spelled
of-requires-clause-spelled c = subst (λ t. is_identifier t ≡ true) (sym c.in_ok-text.ensures) (made_ident c.args.number (search rules))

pub of-requires-clause-short : goal.of-requires-clause-short
of-requires-clause-short c = subst (λ t. length t ≤ 1024) (sym c.in_ok-text.ensures) (made_short c.args.number (search rules))
