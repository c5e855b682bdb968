use Rattle.std.proofs.Common.{◌∙◌, ap}
use Rattle.std.proofs.lemmas.Bool.{false≢true}
use Rattle.vlog_design.specs.Tables.{names_of}
use Rattle.vlog_scopes.proofs.FilledLaws.{implicit_added, implicit_distinct}
use Rattle.vlog_scopes.proofs.SignalLaws.{all_declared}
use Rattle.vlog_scopes.proofs.entries.add_implicit.Goals as goal

pub returns-then-shown : goal.returns-then-shown
returns-then-shown c =
    let none = c.in_ok-shown.ensures c.if-shown.true in
    record { added = c.requires.declared ∙ all_declared c.args.m.now none; none = λ _. none }

pub add_single-requires-clause-differ : goal.add_single-requires-clause-differ
add_single-requires-clause-differ c =
    implicit_distinct c.args.m.now c.expect.new.self (names_of c.deref.result.now) c.requires.once (c.expect.ensures ∙ c.requires.declared) (ap names_of c.deref.ensures.value ∙ c.in_ok-names.ensures)

pub returns : goal.returns
returns c = record {
  added = implicit_added c.args.m.now c.expect.new.self _ c.args.first (names_of c.deref.result.now) (c.expect.ensures ∙ c.requires.declared) c.requires.behind (ap names_of c.deref.ensures.value ∙ c.in_ok-names.ensures) c.in_ok-add_single.ensures.added;
  none = λ told. absurd (false≢true told);
}
