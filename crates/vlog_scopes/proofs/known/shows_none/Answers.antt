use Rattle.std.proofs.Common.{sym, ◌∙◌}
use Rattle.std.proofs.lemmas.Bool.{not-true}
use Rattle.vlog_scopes.proofs.ImplicitLaws.{none_implicit}
use Rattle.vlog_scopes.proofs.KnownLaws.{none_unknown}
use Rattle.vlog_scopes.proofs.known.shows_none.Goals as goal

pub returns-then-not-m : goal.returns-then-not-m
returns-then-not-m c = λ _. none_implicit c.args.m.now c.if-not-m.true

pub returns : goal.returns
returns c = λ shown. none_unknown c.args.m.now c.args.table.now _ c.requires c.items.ensures (sym c.in_ok-unknown.ensures ∙ not-true c.in_ok-unknown.unknown shown)
