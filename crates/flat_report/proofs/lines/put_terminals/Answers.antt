use Rattle.std.proofs.Common.{ℕ, ◌≡◌, ◌<◌, ◌+◌, List, ap, drop, subst, subst₂, sym, get_or, length, Some}
use Rattle.std.proofs.lemmas.Option.{slice_get-get_or}
use Rattle.net_hier.specs.Paths.{Path}
use Rattle.nl_output.specs.Writing.{Begin, state, ToCome}
use Rattle.flat_classes.specs.declared.flat.Terminal.TheVariants.{Port}
use Rattle.flat_report.specs.Report.{terminal_then, terminals_then}
use Rattle.flat_classes.specs.Ways.{ArePaths}
use Rattle.flat_classes.specs.Ways.{IsTerminal}
use Rattle.flat_report.proofs.TerminalFacts.{terminal_at, terminals_next}
use Rattle.flat_report.proofs.lines.put_terminals.Goals as goal

pub put_terminal-requires-clause-terminal : goal.put_terminal-requires-clause-terminal
put_terminal-requires-clause-terminal g c =
    let place : ℕ = get_or c.args.places.now c.loop-place.place-index 0 in
    let lt : place < length c.args.flat.now.terminals = c.requires.places c.loop-place.place-index 0 c.loop-place-test.true in
    subst₂ (λ ss ts. IsTerminal c.args.hier.now.cells ss (get_or ts place (Port 0 0))) (sym c.spots-spots.ensures) (sym c.terminals.ensures)
    (terminal_at c.requires.classes.0 c.args.hier.now c.args.flat.now c.requires.classes.1 place (get_or c.args.flat.now.terminals place (Port 0 0)) (slice_get-get_or c.args.flat.now.terminals place (Port 0 0) lt))

pub loop-place-preserved : goal.loop-place-preserved
loop-place-preserved g c = λ paths of b rest h.
    let place : ℕ = get_or c.args.places.now c.loop-place.place-index 0 in
    let lt : place < length c.args.flat.now.terminals = c.requires.places c.loop-place.place-index 0 c.loop-place-test.true in
    let text = terminals_next c.args.hier.now.cells c.args.flat.now.spots paths c.args.flat.now.terminals c.terminals.result.now c.args.places.now c.loop-place.place-index (Port 0 0) rest c.terminals.ensures c.loop-place-test.true lt in
    let puts : (ps : List Path) → ArePaths c.args.hier.now.cells c.args.flat.now.spots ps → (z : Begin) (r : List ℕ) → ToCome z (state g.O.Sink.receipt c.loop-place.sink c.loop-place.output) (terminal_then c.args.hier.now.cells c.args.flat.now.spots ps (Some (get_or c.terminals.result.now place (Port 0 0))) r) → ToCome z (state g.O.Sink.receipt c.put_terminal.new.sink c.put_terminal.new.output) r =
    subst (λ ss. (ps : List Path) → ArePaths c.args.hier.now.cells ss ps → (z : Begin) (r : List ℕ) → ToCome z (state g.O.Sink.receipt c.loop-place.sink c.loop-place.output) (terminal_then c.args.hier.now.cells ss ps (Some (get_or c.terminals.result.now place (Port 0 0))) r) → ToCome z (state g.O.Sink.receipt c.put_terminal.new.sink c.put_terminal.new.output) r) c.spots-spots.ensures c.put_terminal.ensures in
    puts paths of b (terminals_then c.args.hier.now.cells c.args.flat.now.spots paths c.args.flat.now.terminals (drop (c.loop-place.place-index + 1) c.args.places.now) rest)
    (subst (ToCome b (state g.O.Sink.receipt c.loop-place.sink c.loop-place.output)) text (c.loop-place.invariant paths of b rest h))
