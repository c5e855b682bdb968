use Rattle.std.proofs.Common.{◌<◌, ap, arith, get_or, length, subst₂, sym}
use Rattle.std.proofs.lemmas.Option.{slice_get-get_or}
use Rattle.flat_classes.specs.declared.flat.Terminal.TheVariants.{Port}
use Rattle.flat_classes.specs.Ways.{IsTerminal}
use Rattle.flat_report.proofs.TerminalFacts.{terminal_at}
use Rattle.net_lint.proofs.findings.roles_of.Goals as goal

pub role_of-requires : goal.role_of-requires
role_of-requires c =
    let many = ap length c.terminals-terminals.ensures in
    let lt : c.loop-terminal.terminal-index < length c.args.flat.now.terminals = omega (arith, c.loop-terminal-test.true, many) in
    subst₂ (λ ss ts. IsTerminal c.args.hier.now.cells ss (get_or ts c.loop-terminal.terminal-index (Port 0 0))) (sym c.spots-spots.ensures) (sym c.terminals-terminals.ensures)
    (terminal_at c.requires.0 c.args.hier.now c.args.flat.now c.requires.1 c.loop-terminal.terminal-index (get_or c.args.flat.now.terminals c.loop-terminal.terminal-index (Port 0 0)) (slice_get-get_or c.args.flat.now.terminals c.loop-terminal.terminal-index (Port 0 0) lt))
