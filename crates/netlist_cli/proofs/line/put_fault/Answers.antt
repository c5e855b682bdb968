use Rattle.std.proofs.Common.{◌++◌, codes}
use Rattle.std.specs.Fmt.{decimal}
use Rattle.netlist_cli.specs.Lines.{fault_then, reason_then}
use Rattle.netlist_cli.proofs.line.put_fault.Goals as goal

pub returns : goal.returns
unfolding fault_then
returns g c = λ b rest h.
    let f = c.args.fault.now in
    c.put_reason.ensures b rest
    (c.put-3.ensures b (reason_then f.reason rest)
    (c.put_u64-2.ensures b (codes " " ++ reason_then f.reason rest)
    (c.put-2.ensures b (decimal f.place.column ++ (codes " " ++ reason_then f.reason rest))
    (c.put_u64.ensures b (codes ":" ++ (decimal f.place.column ++ (codes " " ++ reason_then f.reason rest)))
    (c.put.ensures b (decimal f.place.line ++ (codes ":" ++ (decimal f.place.column ++ (codes " " ++ reason_then f.reason rest)))) h)))))
