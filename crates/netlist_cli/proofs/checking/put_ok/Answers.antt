use Rattle.std.proofs.Common.{◌++◌, ◌≡◌, refl}
use Rattle.nl_output.specs.Writing.{state}
use Rattle.nl_output.proofs.Whole.{writes_whole}
use Rattle.netlist_cli.specs.Meanings.{ok_text}
use Rattle.netlist_cli.specs.Outcomes.{fine}
use Rattle.netlist_cli.proofs.OverDesigns.{text_is_made}
use Rattle.netlist_cli.proofs.checking.put_ok.Goals as goal

pub returns : goal.returns
returns g c =
    let wrote = writes_whole g.O.Sink.receipt c.args.sink.now c.finish-written.new.sink
    (state g.O.Sink.receipt c.put.new.sink c.put.new.self)
    (λ rest. ok_text ++ rest) c.finish-written.result
    (λ b rest h. rw c.new-output.ensures at c.put.ensures b rest h) c.finish-written.ensures in
    rw c.after_writing.ensures (text_is_made g.O.Sink.receipt c.args.sink.now c.finish-written.new.sink (λ verdict. fine ≡ verdict) (λ text. text ≡ ok_text) ok_text c.finish-written.result refl refl wrote)
