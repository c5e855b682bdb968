use Rattle.std.proofs.Common.{◌∙◌, option_to_list, subst, sym}
use Rattle.to_verilog_classes.specs.Roots.{AddsKeys}
use Rattle.to_verilog_classes.proofs.KeyLaws.{key_added}
use Rattle.to_verilog_classes.proofs.roots.add_port.Goals as goal

pub returns-in_ok-insert-in-Some : goal.returns-in_ok-insert-in-Some
returns-in_ok-insert-in-Some c =
    subst (λ o. AddsKeys c.args.ports.now.keys c.insert.new.self.keys (option_to_list o)) (sym c.in-Some.is ∙ c.wide_port.ensures)
    (key_added c.args.ports.now.keys c.insert.new.self.keys c.in-Some.port c.in_ok-insert-in-Some.ensures.updates.0)
