use Rattle.std.proofs.Common.{◌≡◌, ◌≤◌, ◌∙◌, length, arith}
use Rattle.std.specs.List.{flat_map}
use Rattle.edif_design.specs.Parts.{cells_in}
use Rattle.edif_design.specs.Tables.{seen, tables_from}
use Rattle.edif_design.proofs.Turns.{counted_next, tabled, written_length}
use Rattle.edif_design.proofs.tables.cell_tables.Goals as goal

pub cell_entries-requires : goal.cell_entries-requires
cell_entries-requires c =
    let a : length (flat_map cells_in (seen c.args.libraries.now)) ≤ 268435456 = c.requires in
    omega (arith, a, c.loop-library.invariant.counted, counted_next c.args.libraries.now c.loop-library.library-index c.library-item.result (omega arith) c.library-item.is)

pub overflow_cast-first : goal.overflow_cast-first
overflow_cast-first c =
    let a : length (flat_map cells_in (seen c.args.libraries.now)) ≤ 268435456 = c.requires in
    let d : length c.in_ok-entries.entries.items ≡ length (cells_in c.library-item.result.now) = written_length c.in_ok-entries.entries.items c.loop-library.first (cells_in c.library-item.result.now) c.in_ok-entries.ensures in
    omega (arith, a, d, c.len.ensures, c.in_ok-entries.entries.ok.0, c.loop-library.invariant.counted, counted_next c.args.libraries.now c.loop-library.library-index c.library-item.result (omega arith) c.library-item.is)

pub overflow_add-first : goal.overflow_add-first
overflow_add-first c =
    let a : length (flat_map cells_in (seen c.args.libraries.now)) ≤ 268435456 = c.requires in
    let d : length c.in_ok-entries.entries.items ≡ length (cells_in c.library-item.result.now) = written_length c.in_ok-entries.entries.items c.loop-library.first (cells_in c.library-item.result.now) c.in_ok-entries.ensures in
    omega (arith, a, d, c.len.ensures, c.in_ok-entries.entries.ok.0, c.loop-library.invariant.counted, counted_next c.args.libraries.now c.loop-library.library-index c.library-item.result (omega arith) c.library-item.is)

pub loop-library-preserved : goal.loop-library-preserved
loop-library-preserved c =
    let d : length c.in_ok-entries.entries.items ≡ length (cells_in c.library-item.result.now) = written_length c.in_ok-entries.entries.items c.loop-library.first (cells_in c.library-item.result.now) c.in_ok-entries.ensures in
    let n : c.len.result ≡ length (cells_in c.library-item.result.now) = omega (arith, d, c.len.ensures, c.in_ok-entries.entries.ok.0) in
    record {
      made = tabled c.args.libraries.now c.loop-library.library-index c.library-item.result (omega arith) c.library-item.is c.loop-library.first c.len.result (tables_from 0 (seen c.args.libraries.now)) c.loop-library.tables.items
          c.push.new.self.items c.in_ok-build.field-0 c.loop-library.invariant.made c.in_ok-push.ensures.items (c.in_ok-build.ensures ∙ c.in_ok-entries.ensures) n;
      counted = omega (arith, n, c.loop-library.invariant.counted, counted_next c.args.libraries.now c.loop-library.library-index c.library-item.result (omega arith) c.library-item.is);
    }
