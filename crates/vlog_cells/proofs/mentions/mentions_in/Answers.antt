use Rattle.std.proofs.Common.{ap, flat_map, ◌++◌, ◌∙◌}
use Rattle.vlog_cells.specs.Ports.{said_in_header, said_in_item}
use Rattle.vlog_cells.proofs.Turns.{no_said}
use Rattle.vlog_cells.proofs.mentions.mentions_in.Goals as goal

pub returns : goal.returns
returns c = λ key.
    let m = c.args.m.now in
    c.in_ok-mention_items.ensures.added key
    ∙ (ap (λ l. l ++ flat_map (said_in_item c.args.table.now key) c.items.result.now) (c.in_ok-mention_header.ensures.added key ∙ ap (λ l. l ++ said_in_header key m.header) (no_said c.empty-found.result c.empty-found.ensures key))
    ∙ ap (λ items. said_in_header key m.header ++ flat_map (said_in_item c.args.table.now key) items) c.items.ensures)
