-- The units of a design are at most the port bits, nets and references of its cells.
use Rattle.std.proofs.Common.{◌≡◌, ℕ, ◌+◌, ◌-◌, ◌<◌, ◌≤◌, ◌^◌, Bool, true, false, cond, min, sum_by, List, [], ◌∷◌, ◌++◌, map, length, take, filter, get_or, refl, sym, ap, ◌∙◌, subst, arith}
use Rattle.std.specs.Borrow.{Bor}
use Rattle.std.specs.List.{enumerate_from, filter_map, flat_map, list_any}
use Rattle.std.proofs.lemmas.List.{get_or-map, length-append, length-map, take_more}
use Rattle.std.proofs.lemmas.List.Elements.{filter-append}
use Rattle.std.proofs.lemmas.List.Sums.{sum_by-append, sum_by-cons, sum_by_push}
use Rattle.net_hier.specs.Cells.{width_of}
use Rattle.net_hier.specs.Units.{cell_units, port_bits, units}
use Rattle.edif_cells.proofs.GoodSizes.{good_at}
use Rattle.edif_lookup.proofs.ListLaws.{enumerate_more}
use Rattle.edif_values.specs.declared.cell.Cell.{Cell}
use Rattle.edif_values.specs.declared.file.EdifFile.{EdifFile}
use Rattle.edif_values.specs.declared.net.Net.{Net}
use Rattle.edif_values.specs.declared.port.Port.{Port}
use Rattle.edif_design.specs.CellRules.{bit_meant}
use Rattle.edif_design.specs.Design.{cell_value, edif_cells, net_joins, net_value, numbers_in_design, port_value}
use Rattle.edif_design.specs.Parts.{nets, ports}
use Rattle.edif_design.specs.Reach.{is_reached, reached_cells}
use Rattle.edif_design.specs.References.{CellPlace, LinkedCell, all_cells, linked_cell}
use Rattle.edif_design.specs.Tables.{place_of, seen}
use Rattle.edif_design.specs.declared.tables.PlacedCell.{PlacedCell}
use Rattle.edif_resolve.specs.Most.{most_of_file, most_units, net_units, port_width}
use Rattle.edif_resolve.proofs.Building.{all_taken}
use Rattle.edif_resolve.proofs.FewParts.{few_some}

-- ---- one cell

bits_are : (those : List Port) → sum_by (λ port. width_of port.range) (map port_value those) ≡ sum_by port_width those
bits_are [] = refl
bits_are (port ∷ those) =
    sum_by-cons (λ p. width_of p.range) (port_value port) (map port_value those) ∙ (ap (λ n. port_width port + n) (bits_are those) ∙ sym (sum_by-cons port_width port those))

-- nets and their joins are no more than nets and references
nets_most : (linked : LinkedCell) (n : ℕ) (those : List Net) → length those + length (flat_map (net_joins linked) (enumerate_from n those)) ≤ sum_by net_units those
nets_most linked n [] = omega arith
nets_most linked n (net ∷ those) =
    let rest : length those + length (flat_map (net_joins linked) (enumerate_from (n + 1) those)) ≤ sum_by net_units those = nets_most linked (n + 1) those in
    let split : length (net_joins linked (n, net) ++ flat_map (net_joins linked) (enumerate_from (n + 1) those)) ≡ length (net_joins linked (n, net)) + length (flat_map (net_joins linked) (enumerate_from (n + 1) those)) =
    length-append (net_joins linked (n, net)) (flat_map (net_joins linked) (enumerate_from (n + 1) those)) in
    let own : length (net_joins linked (n, net)) ≡ length (filter_map (bit_meant linked) net.joined) = length-map (filter_map (bit_meant linked) net.joined) _ in
    let few : length (filter_map (bit_meant linked) net.joined) ≤ length net.joined = few_some (bit_meant linked) net.joined in
    let sum : sum_by net_units (net ∷ those) ≡ net_units net + sum_by net_units those = sum_by-cons net_units net those in
    omega (arith, rest, split, own, few, sum)

cell_most : (numbers : List ℕ) (linked : LinkedCell) → cell_units (cell_value numbers linked) ≤ most_units linked.cell
unfolding cell_value
cell_most numbers linked =
    let bits : port_bits (cell_value numbers linked) ≡ sum_by port_width (ports linked.cell) = bits_are (ports linked.cell) in
    let long : length (cell_value numbers linked).nets ≡ length (nets linked.cell) = length-map (nets linked.cell) net_value in
    let most : length (nets linked.cell) + length (cell_value numbers linked).joins ≤ sum_by net_units (nets linked.cell) = nets_most linked 0 (nets linked.cell) in
    omega (arith, bits, long, most)

-- ---- all cells

both_most : (file : EdifFile) (places : List (ℕ × CellPlace))
    → sum_by cell_units (map (λ place. cell_value (numbers_in_design file) (linked_cell file place.1)) places) ≤ sum_by (λ (place : ℕ × CellPlace). most_units place.1.cell) places
both_most file [] = omega arith
both_most file (place ∷ places) =
    let rest = both_most file places in
    let here : cell_units (cell_value (numbers_in_design file) (linked_cell file place.1)) ≤ most_units place.1.cell = cell_most (numbers_in_design file) (linked_cell file place.1) in
    let a = sum_by-cons cell_units (cell_value (numbers_in_design file) (linked_cell file place.1)) (map (λ (other : ℕ × CellPlace). cell_value (numbers_in_design file) (linked_cell file other.1)) places) in
    let b = sum_by-cons (λ (other : ℕ × CellPlace). most_units other.1.cell) place places in
    omega (arith, rest, here, a, b)

units_most : (file : EdifFile) → sum_by cell_units (edif_cells file) ≤ most_of_file file
unfolding edif_cells
units_most file = both_most file (reached_cells file)

min_grows : (limit a b most : ℕ) → a ≤ b → min limit b ≤ most → min limit a ≤ most
min_grows limit a b most h le = grind arith

-- the units of the design are within what the bound is within
pub few_units : (file : EdifFile) (most limit : ℕ) → most ≡ min (2 ^ 64 - 1) (most_of_file file) → most ≤ limit → units (edif_cells file) ≤ limit
few_units file most limit is le = min_grows (2 ^ 64 - 1) (sum_by cell_units (edif_cells file)) (most_of_file file) limit (units_most file) (subst (λ n. n ≤ limit) is le)

-- ---- turns of the loops

-- what no item of a list is the one at a place is not
pub not_at : {A : Type 0} (p : A → Bool) (xs : List (Bor A)) (i : ℕ) (x : Bor A) → i < length xs → x ≡ get_or xs i x → list_any p (seen xs) ≡ false → p x.now ≡ false
not_at p xs i x within is none =
    let inside : i < length (seen xs) = subst (λ n. i < n) (sym (length-map xs (λ y. y.now))) within in
    let at : get_or (seen xs) i x.now ≡ x.now = get_or-map (λ y. y.now) xs i x x.now within ∙ ap (λ y. y.now) (sym is) in
    subst (λ y. p y ≡ false) at (good_at p (seen xs) i x.now inside none)

pub sum_more : {A : Type 0} (size : A → ℕ) (xs : List A) (i : ℕ) (x : A) → i < length xs → x ≡ get_or xs i x → (limit old more new : ℕ) → old ≡ min limit (sum_by size (take i xs)) → more ≡ size x → new ≡ min (old + more) limit
    → new ≡ min limit (sum_by size (take (i + 1) xs))
sum_more size xs i x within is limit old more new is_old is_more is_new =
    let e : sum_by size (take (i + 1) xs) ≡ sum_by size (take i xs) + size x =
    ap (sum_by size) (take_more xs i x within ∙ ap (λ y. take i xs ++ y ∷ []) (sym is)) ∙ sum_by_push size (take i xs) x in
    grind arith

-- the reached cells among the first places of a file
abbrev pub reached_so_far : EdifFile → List CellPlace → List (ℕ × CellPlace)
reached_so_far file places = filter (λ item. is_reached file item.0) (enumerate_from 0 places)

-- one more place
pub most_more : (file : EdifFile) (places : List PlacedCell) → map place_of places ≡ all_cells file → (i : ℕ) (x : PlacedCell) → i < length places → x ≡ get_or places i x → (limit old more new : ℕ)
    → old ≡ min limit (sum_by (λ item. most_units item.1.cell) (reached_so_far file (take i (all_cells file)))) → more ≡ cond (is_reached file i) (min limit (most_units x.cell.now)) 0 → new ≡ min (old + more) limit
    → new ≡ min limit (sum_by (λ item. most_units item.1.cell) (reached_so_far file (take (i + 1) (all_cells file))))
most_more file places are i x within is limit old more new is_old is_more is_new =
    let inside : i < length (all_cells file) = subst (λ ps. i < length ps) are (subst (λ n. i < n) (sym (length-map places place_of)) within) in
    let at : get_or (all_cells file) i (place_of x) ≡ place_of x = ap (λ ps. get_or ps i (place_of x)) (sym are) ∙ (get_or-map place_of places i x (place_of x) within ∙ ap place_of (sym is)) in
    let whole : enumerate_from 0 (take (i + 1) (all_cells file)) ≡ enumerate_from 0 (take i (all_cells file)) ++ (i, place_of x) ∷ [] =
    enumerate_more 0 (all_cells file) i (place_of x) inside ∙ (λ j. enumerate_from 0 (take i (all_cells file)) ++ ((let e : 0 + i ≡ i = omega arith in e) j, at j) ∷ []) in
    let sum : sum_by (λ (item : ℕ × CellPlace). most_units item.1.cell) (reached_so_far file (take (i + 1) (all_cells file)))
    ≡ sum_by (λ (item : ℕ × CellPlace). most_units item.1.cell) (reached_so_far file (take i (all_cells file))) + cond (is_reached file i) (most_units x.cell.now) 0 =
    ap (λ items. sum_by (λ (item : ℕ × CellPlace). most_units item.1.cell) (filter (λ item. is_reached file item.0) items)) whole
    ∙ (ap (sum_by (λ (item : ℕ × CellPlace). most_units item.1.cell)) (filter-append (λ (item : ℕ × CellPlace). is_reached file item.0) (enumerate_from 0 (take i (all_cells file))) ((i, place_of x) ∷ []))
    ∙ (sum_by-append (λ (item : ℕ × CellPlace). most_units item.1.cell) (reached_so_far file (take i (all_cells file))) (cond (is_reached file i) ((i, place_of x) ∷ []) [])
    ∙ ap (λ n. sum_by (λ (item : ℕ × CellPlace). most_units item.1.cell) (reached_so_far file (take i (all_cells file))) + n) (one (is_reached file i)))) in
    counted (is_reached file i) (most_units x.cell.now) (sum_by (λ (item : ℕ × CellPlace). most_units item.1.cell) (reached_so_far file (take i (all_cells file)))) is_old is_more is_new ∙ ap (min limit) (sym sum)
  where
    one : (b : Bool) → sum_by (λ (item : ℕ × CellPlace). most_units item.1.cell) (cond b ((i, place_of x) ∷ []) []) ≡ cond b (most_units x.cell.now) 0
    one true = let e : 0 + most_units x.cell.now ≡ most_units x.cell.now = omega arith in e
    one false = refl

    counted : (b : Bool) (own sum : ℕ) → old ≡ min limit sum → more ≡ cond b (min limit own) 0 → new ≡ min (old + more) limit → new ≡ min limit (sum + cond b own 0)
    counted true own sum a d e = grind arith
    counted false own sum a d e = grind arith

-- all places
pub most_done : (file : EdifFile) (places : List PlacedCell) → map place_of places ≡ all_cells file → (i : ℕ) → length places ≤ i → (limit most : ℕ)
    → most ≡ min limit (sum_by (λ item. most_units item.1.cell) (reached_so_far file (take i (all_cells file)))) → most ≡ min limit (most_of_file file)
most_done file places are i h limit most is =
    let long : length (all_cells file) ≤ i = subst (λ ps. length ps ≤ i) are (subst (λ n. n ≤ i) (sym (length-map places place_of)) h) in
    is ∙ ap (λ those. min limit (sum_by (λ (item : ℕ × CellPlace). most_units item.1.cell) (reached_so_far file those))) (all_taken (all_cells file) i long)

-- all of them
pub sum_done : {A : Type 0} (size : A → ℕ) (xs : List (Bor A)) (i : ℕ) → length xs ≤ i → (limit sum : ℕ) → sum ≡ min limit (sum_by (λ x. size x.now) (take i xs)) → sum ≡ min limit (sum_by size (seen xs))
sum_done {A = A} size xs i h limit sum is = is ∙ (ap (λ those. min limit (sum_by (λ (x : Bor A). size x.now) those)) (all_taken xs i h) ∙ ap (min limit) (behind xs))
  where
    behind : (ys : List (Bor A)) → sum_by (λ (y : Bor A). size y.now) ys ≡ sum_by size (seen ys)
    behind [] = refl
    behind (y ∷ ys) = sum_by-cons (λ (z : Bor A). size z.now) y ys ∙ (ap (λ n. size y.now + n) (behind ys) ∙ sym (sum_by-cons size y.now (seen ys)))

-- the two sums of a cell
pub both_counted : (cell : Cell) (limit bits others most : ℕ) → bits ≡ min limit (sum_by port_width (ports cell)) → others ≡ min limit (sum_by net_units (nets cell)) → most ≡ min (bits + others) limit → most ≡ min limit (most_units cell)
both_counted cell limit bits others most is_bits is_others is = grind arith
