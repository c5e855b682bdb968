use Rattle.std.proofs.Common.{ap, sym, ◌≡◌, ◌++◌, ◌∙◌, [], arith}
use Rattle.std.proofs.lemmas.Bool.Decides.{nat_tests}
use Rattle.std.proofs.lemmas.List.{nil_from_length}
use Rattle.vlog_design.specs.Names.{signal_named}
use Rattle.vlog_design.specs.Tables.{signals_of}
use Rattle.vlog_design.proofs.table.Table.find_at.Goals as goal

pub returns-in-Some : goal.returns-in-Some
returns-in-Some c =
    let entries = c.self.inside.slots.entries in
    let none : c.self.inside.few.items ≡ [] = nil_from_length _ (grind (arith, nat_tests, c.is_empty.ensures, c.if-is_empty.true)) in
    sym c.in-Some.ensures
    ∙ (ap (λ few. signal_named (signals_of (few ++ entries)) c.args.name.now) (sym none)
    ∙ ap (λ s. signal_named s c.args.name.now) c.self.view_is)
