use Rattle.std.proofs.Common.{ap, refl, sym, ◌∙◌}
use Rattle.vlog_cells.specs.Groups.{under}
use Rattle.vlog_cells.proofs.GroupLaws.{under_none, under_nothing, under_some}
use Rattle.vlog_cells.proofs.groups.Groups.of.Goals as goal

pub returns-then-is_empty : goal.returns-then-is_empty
returns-then-is_empty g c = under_nothing c.self.inside.lists.entries c.args.name.now (c.is_empty.ensures.0 c.if-is_empty.true) ∙ ap (λ s. under s c.args.name.now) c.self.view_is

pub returns-in-None : goal.returns-in-None
returns-in-None g c = under_none c.args.name.now _ (λ k. refl) c.self.inside.lists.entries (sym c.in-None.ensures.value) ∙ ap (λ s. under s c.args.name.now) c.self.view_is

pub returns-in-Some : goal.returns-in-Some
returns-in-Some g c = c.as_slice.ensures.value ∙ (under_some c.args.name.now _ (λ k. refl) c.self.inside.lists.entries _ (sym c.in-Some.ensures.value) ∙ ap (λ s. under s c.args.name.now) c.self.view_is)
