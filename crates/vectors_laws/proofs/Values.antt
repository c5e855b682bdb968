-- A generated file can be written.
use Rattle.std.proofs.Common.{arith, ℕ, zero, suc, ◌+◌, ◌-◌, ◌<◌, ◌≤◌, ◌^◌, Bool, true, false, List, length, map, refl}
use Rattle.std.specs.Prelude.{codes}
use Rattle.std.specs.List.{AllByRecursion, filter, range_with_len}
use Rattle.nl_base.specs.declared.value.Dir.{Dir}
use Rattle.edif_values.specs.Values.{IsWord, IsNameDef, IsInstance, IsNet, IsPort, IsPortRef, is_contents, IsCell, IsContentsItem, IsDesign, IsEdifValue, IsLibrary, IsLibraryItem, IsView, IsViewItem}
use Rattle.edif_values.specs.Directions.{told}
use Rattle.edif_values.specs.declared.net.PortRef.{PortRef}
use Rattle.edif_values.specs.declared.library.LibraryItem.TheVariants as library_items
use Rattle.vectors.specs.Cells.{cell, cell_ident, contents, contents_of, instance, net, own, pin, plain, port, view, view_items_of}
use Rattle.vectors.specs.Files.{cells_of, design, generated, library}
use Rattle.vectors.specs.Numbers.{is_swapped}
use Rattle.vectors.proofs.Identifiers.{cell_short, cell_spelled}

cell_word : (k : ℕ) → k < 2 ^ 64 → IsWord (cell_ident k)
cell_word k lt = (cell_spelled k lt, cell_short k lt)

letter_i : IsWord (codes "i")
letter_i = (refl, omega arith)

letter_o : IsWord (codes "o")
letter_o = (refl, omega arith)

letter_m : IsWord (codes "m")
letter_m = (refl, omega arith)

letter_a : IsWord (codes "a")
letter_a = (refl, omega arith)

letter_b : IsWord (codes "b")
letter_b = (refl, omega arith)

letter_v : IsWord (codes "v")
letter_v = (refl, omega arith)

word_gen : IsWord (codes "gen")
word_gen = (refl, omega arith)

name_is : (ident : List ℕ) → IsWord ident → IsNameDef (plain ident)
name_is ident word = record { ident = word; text = tt }

port_is : (ident : List ℕ) (dir : Dir) → IsWord ident → IsPort (port ident dir)
unfolding told
port_is ident dir word = record { name = name_is ident word; items = ((tt, tt), omega arith) }

instance_is : (ident : List ℕ) (below : ℕ) → IsWord ident → below < 2 ^ 64 → IsInstance (instance ident below)
instance_is ident below word lt = record { name = name_is ident word; view = letter_v; cell = cell_word below lt; library = tt; items = tt }

own_is : (ident : List ℕ) → IsWord ident → IsPortRef (own ident)
own_is ident word = record { port = word; member = tt; instance = tt }

pin_is : (ident of_instance : List ℕ) → IsWord ident → IsWord of_instance → IsPortRef (pin ident of_instance)
pin_is ident of_instance word other = record { port = word; member = tt; instance = other }

net_is : (ident : List ℕ) (one other : PortRef) → IsWord ident → IsPortRef one → IsPortRef other → IsNet (net ident one other)
net_is ident one other word first second = record { name = name_is ident word; joined = (first, (second, tt)); items = tt }

contents_are : (below : ℕ) (one other : List ℕ) → below < 2 ^ 64 → IsWord one → IsWord other → AllByRecursion IsContentsItem (contents below one other)
contents_are below one other lt first second = (
  instance_is (codes "a") below letter_a lt,
  (
    instance_is (codes "b") below letter_b lt,
    (
      net_is (codes "i") (own (codes "i")) (pin (codes "i") one) letter_i (own_is (codes "i") letter_i) (pin_is (codes "i") one letter_i first),
      (
        net_is (codes "m") (pin (codes "o") one) (pin (codes "i") other) letter_m (pin_is (codes "o") one letter_o first) (pin_is (codes "i") other letter_i second),
        (net_is (codes "o") (pin (codes "o") other) (own (codes "o")) letter_o (pin_is (codes "o") other letter_o second) (own_is (codes "o") letter_o), tt),
      ),
    ),
  ),
)

swapped_are : (swapped : Bool) (below : ℕ) → below < 2 ^ 64 → AllByRecursion IsContentsItem (contents_of swapped below)
swapped_are true below lt = contents_are below (codes "b") (codes "a") lt letter_b letter_a
swapped_are false below lt = contents_are below (codes "a") (codes "b") lt letter_a letter_b

view_items_are : (seed k : ℕ) → k < 2 ^ 64 → AllByRecursion IsViewItem (view_items_of seed k)
view_items_are seed zero lt = tt
view_items_are seed (suc below) lt = (swapped_are (is_swapped seed (suc below)) below (omega (arith, lt)), tt)

one_contents : (seed k : ℕ) → length (filter is_contents (view_items_of seed k)) ≤ 1
one_contents seed zero = omega arith
one_contents seed (suc below) = omega arith

view_is : (seed k : ℕ) → k < 2 ^ 64 → IsView (view (view_items_of seed k))
view_is seed k lt = record {
  name = name_is (codes "v") letter_v;
  interface = (port_is (codes "i") _ letter_i, (port_is (codes "o") _ letter_o, tt));
  items = view_items_are seed k lt;
  one_contents = one_contents seed k;
}

cell_is : (seed k : ℕ) → k < 2 ^ 64 → IsCell (cell seed k)
cell_is seed k lt = record { name = name_is (cell_ident k) (cell_word k lt); items = (view_is seed k lt, tt); one_view = omega arith }

cells_are : (seed a n : ℕ) → a + n ≤ 2 ^ 64 → AllByRecursion IsLibraryItem (map library_items.Cell (map (cell seed) (range_with_len a n)))
cells_are seed a zero le = tt
cells_are seed a (suc n) le = (cell_is seed a (omega (arith, le)), cells_are seed (a + 1) n (omega (arith, le)))

library_is : (seed count : ℕ) → count ≤ 2 ^ 64 → IsLibrary (library (cells_of seed count))
library_is seed count le = record { name = name_is (codes "gen") word_gen; scales = tt; notes = tt; items = cells_are seed 0 count (omega (arith, le)) }

design_is : (top : ℕ) → top < 2 ^ 64 → IsDesign (design top)
design_is top lt = record { name = name_is (codes "gen") word_gen; cell = cell_word top lt; library = word_gen; items = tt }

pub file_is : (seed count : ℕ) → count ≤ 2 ^ 64 → IsEdifValue (generated seed count)
unfolding generated
file_is seed count le = record {
  name = name_is (codes "gen") word_gen;
  items = (library_is seed count le, (design_is (count - 1) (omega (arith, le)), tt));
}
