use Rattle.std.proofs.Common.{◌≡◌, refl}
use Rattle.netlist_cli.specs.Meanings.{any_design, ok_text}
use Rattle.netlist_cli.proofs.OverDesigns.{design_is_used, no_design_is_told}
use Rattle.netlist_cli.proofs.checking.check.Goals as goal

pub returns-in-Ok-clause-does : goal.returns-in-Ok-clause-does
returns-in-Ok-clause-does g c =
    design_is_used _ _ _ _ _ c.args.top.now any_design (λ design text. text ≡ ok_text) _ (rw c.in-Ok.is at c.judge_text.ensures.reads).is_read c.put_ok-done.result c.put_ok-done.ensures

pub returns-in-Err-clause-does : goal.returns-in-Err-clause-does
returns-in-Err-clause-does g c = no_design_is_told _ _ _ _ _ c.args.top.now any_design (λ design text. text ≡ ok_text) c.in-Err.failure (rw c.in-Err.is at c.judge_text.ensures.reads) refl
