use Rattle.std.proofs.Common.{ℕ, List, ◌++◌, append-nil, subst, ◌∙◌}
use Rattle.nl_output.specs.Writing.{Writes, state}
use Rattle.nl_output.proofs.Whole.{writes_whole}
use Rattle.netlist_cli.proofs.generating.put_text.Goals as goal

pub returns : goal.returns
returns g c =
    let wrote = writes_whole g.O.Sink.receipt c.args.sink.now c.finish-result.new.sink
    (state g.O.Sink.receipt c.put.new.sink c.put.new.self)
    (λ rest. c.bytes.result.now ++ rest) c.finish-result.result
    (λ b rest h. rw c.new-output.ensures at c.put.ensures b rest h) c.finish-result.ensures in
    subst (λ (z : List ℕ). Writes g.O.Sink.receipt c.args.sink.now c.finish-result.new.sink z c.finish-result.result) (append-nil c.bytes.result.now ∙ c.bytes.ensures) wrote
