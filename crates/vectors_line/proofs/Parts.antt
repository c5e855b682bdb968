-- The text of a generated file is within the limit of an input: the text of each of its cells has at most 1,100 bytes.
use Rattle.std.proofs.Common.{arith, ◌≡◌, ℕ, zero, suc, ◌+◌, ◌-◌, ◌*◌, ◌<◌, ◌≤◌, ◌^◌, Bool, true, false, List, [], length, map, refl}
use Rattle.std.specs.Prelude.{codes}
use Rattle.std.specs.Fmt.{decimal}
use Rattle.std.specs.List.{range_with_len}
use Rattle.std.proofs.lemmas.Fmt.{length-decimal-le}
use Rattle.edif_values.specs.declared.library.LibraryItem.TheVariants as library_items
use Rattle.edif_writer.specs.Forms.{cell_block, contents_item_block, edif_text, file_block, library_item_block}
use Rattle.edif_writer.specs.Layout.{all}
use Rattle.nl_bytes.specs.declared.bytes.TheConstants.{LIMIT}
use Rattle.vectors.specs.Cells.{cell, contents, contents_of}
use Rattle.vectors.specs.Files.{generated}
use Rattle.vectors.specs.Numbers.{is_swapped}
use Rattle.vectors_line.proofs.Counting.{block_bytes, laid_length, lines_bytes}

few_digits : (k : ℕ) → k < 2 ^ 64 → length (decimal k) ≤ 20
few_digits k lt = length-decimal-le 20 k (omega arith) (omega (arith, lt)) lt

-- ---- cells

contents_few : (below : ℕ) (one other : List ℕ) → below < 2 ^ 64 → length one ≡ 1 → length other ≡ 1 → lines_bytes 10 (all contents_item_block (contents below one other)) ≤ 750
contents_few below one other lt first second = (let digits = few_digits below lt in omega (arith, digits, first, second))

swapped_few : (swapped : Bool) (below : ℕ) → below < 2 ^ 64 → lines_bytes 10 (all contents_item_block (contents_of swapped below)) ≤ 750
swapped_few true below lt = contents_few below (codes "b") (codes "a") lt refl refl
swapped_few false below lt = contents_few below (codes "a") (codes "b") lt refl refl

cell_few : (seed k : ℕ) → k < 2 ^ 64 → block_bytes 4 (cell_block (cell seed k)) ≤ 1100
cell_few seed zero lt = (let digits = few_digits zero lt in omega (arith, digits))
cell_few seed (suc below) lt =
    let digits = few_digits (suc below) lt in
    let parts = swapped_few (is_swapped seed (suc below)) below (omega (arith, lt)) in
    omega (arith, digits, parts)

cells_few : (seed a n : ℕ) → a + n ≤ 2 ^ 64 → lines_bytes 4 (all library_item_block (map library_items.Cell (map (cell seed) (range_with_len a n)))) ≤ 1100 * n
cells_few seed a zero le = omega arith
cells_few seed a (suc n) le =
    let first = cell_few seed a (omega (arith, le)) in
    let rest = cells_few seed (a + 1) n (omega (arith, le)) in
    omega (arith, first, rest)

-- ---- the file

file_few : (seed count : ℕ) → count ≤ 100000 → block_bytes 0 (file_block (generated seed count)) ≤ 1100 * count + 1000
unfolding generated
file_few seed count few =
    let cells = cells_few seed 0 count (omega (arith, few)) in
    let top = few_digits (count - 1) (omega (arith, few)) in
    let no = few_digits 0 (omega arith) in
    let two = few_digits 2 (omega arith) in
    omega (arith, cells, top, no, two)

pub text_fits : (seed count : ℕ) → count ≤ 100000 → length (edif_text (generated seed count)) ≤ LIMIT
text_fits seed count few =
    let bytes = laid_length 0 (file_block (generated seed count)) [] in
    let most = file_few seed count few in
    omega (arith, bytes, most, few)
