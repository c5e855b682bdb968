use Rattle.std.proofs.Common.{◌≡◌, ◌+◌, ◌≤◌, ◌++◌, ◌∙◌, ap, length, take, vec_len, arith}
use Rattle.std.specs.Prelude.{option_to_list}
use Rattle.std.specs.List.{enumerate_from, filter_map}
use Rattle.edif_lookup.specs.Tables.{named, written}
use Rattle.edif_design.specs.Parts.{cell_in, cells_in}
use Rattle.edif_design.specs.Tables.{cell_ident}
use Rattle.edif_design.proofs.Turns.{entered, few_taken, in_items, written_length}
use Rattle.edif_design.proofs.tables.cell_entries.Goals as goal

pub push_name-requires : goal.push_name-requires
push_name-requires c =
    let a : c.args.first + length (cells_in c.args.library.now) ≤ 268435456 = c.requires in
    let b : length (filter_map cell_in (take c.loop-item.item-index c.args.library.now.items)) ≤ length (cells_in c.args.library.now) = few_taken c.args.library.now.items c.loop-item.item-index in
    let d : length c.loop-item.entries.items ≡ length (filter_map cell_in (take c.loop-item.item-index c.args.library.now.items)) = written_length c.loop-item.entries.items c.args.first (filter_map cell_in (take c.loop-item.item-index c.args.library.now.items)) c.loop-item.invariant in
    omega (arith, a, b, d, c.loop-item.entries.ok.0)

pub loop-item-preserved : goal.loop-item-preserved
loop-item-preserved c =
    let at = in_items c.items-item-items.result.now c.args.library.now.items c.items-item-items.ensures c.loop-item.item-index c.item-item.result (omega arith) c.item-item.is in
    let e : vec_len c.loop-item.entries ≡ length c.loop-item.entries.items = omega (arith, c.loop-item.entries.ok.0) in
    entered c.args.first c.args.library.now.items c.loop-item.item-index c.item-item.result at.0 at.1 c.loop-item.entries.items c.push_name.new.entries.items c.loop-item.invariant
    (c.in_ok-push_name.ensures ∙ ap (λ n. written c.loop-item.entries.items ++ named cell_ident (enumerate_from (c.args.first + n) (option_to_list (cell_in c.item-item.result)))) e)
