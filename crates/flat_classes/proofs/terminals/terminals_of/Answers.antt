use Rattle.std.proofs.Common.{◌≡◌, ◌<◌, ◌++◌, ap, get_or, length, slice_get, Some, subst, sym, ◌∙◌}
use Rattle.std.proofs.lemmas.List.{append-nil}
use Rattle.flat_numbers.specs.Numbers.{CellOf}
use Rattle.flat_numbers.specs.Spots.{top_spot}
use Rattle.flat_classes.specs.Terminals.{bits_of_ports, ports_at}
use Rattle.flat_classes.specs.declared.flat.Terminal.TheVariants.{Port}
use Rattle.flat_numbers.proofs.Reading.{element_read}
use Rattle.flat_classes.proofs.TerminalLaws.{pins_added, pins_passed, ports_read}
use Rattle.flat_classes.proofs.terminals.terminals_of.Goals as goal
use Rattle.flat_classes.proofs.terminals.terminals_of.Goals.{then-leaf-ne0+in_ok-push_leaf, else-leaf-ne0}

pub loop-leaf-init : goal.loop-leaf-init
loop-leaf-init c =
    let lt = subst (λ t. t < length c.args.hier.now.cells) (sym c.top.ensures.top) c.cells.ensures.valid.valid.has_top in
    let is : slice_get c.args.hier.now.cells c.top.result ≡ Some c.index-cells-top.result = element_read c.args.hier.now.cells c.top.result c.index-cells-top.result lt (c.index-cells-top.is ∙ ap (λ cs. get_or cs c.top.result c.index-cells-top.result) c.cells.ensures.cells) in
    let of : CellOf c.args.hier.now.cells c.args.spots.now 0 c.index-cells-top.result = record { spot = top_spot c.args.hier.now.top; is_spot = c.requires.first; is_cell = subst (λ t. slice_get c.args.hier.now.cells t ≡ Some c.index-cells-top.result) c.top.ensures.top is } in
    c.in_ok-push_ports.ensures ∙ (ap (λ w. w ++ bits_of_ports (λ port bit. Port port bit) 0 c.index-cells-top.result.ports) c.new-terminals.ensures.items ∙ (ap (bits_of_ports (λ port bit. Port port bit) 0) (sym (ports_read c.args.hier.now.cells c.args.spots.now 0 c.index-cells-top.result of)) ∙ sym (append-nil (bits_of_ports (λ port bit. Port port bit) 0 (ports_at c.args.hier.now.cells c.args.spots.now 0)))))

pub loop-leaf-preserved : goal.loop-leaf-preserved
loop-leaf-preserved c =
    let front = bits_of_ports (λ port bit. Port port bit) 0 (ports_at c.args.hier.now.cells c.args.spots.now 0) in
    elim c.if-leaf-ne0.branch [
      | then-leaf-ne0+in_ok-push_leaf w ↦ pins_added c.args.hier.now.cells c.args.spots.now c.args.leaves.now c.loop-leaf.leaf-index front c.loop-leaf.terminals.items c.if-leaf-ne0.terminals.items c.loop-leaf-test.true w.if-leaf-ne0.true (ap (λ v. v.items) w.terminals-is ∙ w.in_ok-push_leaf.ensures) c.loop-leaf.invariant
      | else-leaf-ne0 w ↦ pins_passed c.args.hier.now.cells c.args.spots.now c.args.leaves.now c.loop-leaf.leaf-index front c.loop-leaf.terminals.items c.if-leaf-ne0.terminals.items c.loop-leaf-test.true w.if-leaf-ne0.false (ap (λ v. v.items) w.terminals-is) c.loop-leaf.invariant
    ]
