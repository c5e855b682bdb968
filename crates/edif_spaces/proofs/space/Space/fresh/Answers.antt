use Rattle.std.proofs.Common.{◌≡◌, true, sym, subst, rules, length, ◌≤◌}
use Rattle.nl_base.specs.Identifiers.{is_identifier}
use Rattle.edif_spaces.proofs.Numbered.{made_ident, made_short}
use Rattle.edif_spaces.proofs.SpaceLaws.{space_made, space_more}
use Rattle.edif_spaces.proofs.space.Space.fresh.Goals as goal

pub of-requires-clause-spelled : goal.of-requires-clause-spelled
of-requires-clause-spelled c = subst (λ t. is_identifier t ≡ true) (sym c.in_ok-text.ensures.is_name) (made_ident c.in_ok-text.number (search rules))

pub of-requires-clause-short : goal.of-requires-clause-short
of-requires-clause-short c = subst (λ t. length t ≤ 1024) (sym c.in_ok-text.ensures.is_name) (made_short c.in_ok-text.number (search rules))

pub invariant_of-self-2 : goal.invariant_of-self-2
invariant_of-self-2 c = space_more _ _ _ _ c.in_ok-add.ensures.added c.self.invariant.up_to_case c.in_ok-text.ensures.is_least

pub returns-clause-made : goal.returns-clause-made
returns-clause-made c = space_made _ _ _ _ _ c.self.invariant.up_to_case c.self.view_is c.in_ok-text.ensures c.of.ensures
