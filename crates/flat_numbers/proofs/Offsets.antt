-- the tables of offsets
use Rattle.std.proofs.Common.{◌≡◌, ℕ, zero, suc, ◌+◌, ◌<◌, ◌≤◌, inl, inr, List, [], ◌∷◌, ◌++◌, refl, sym, ◌∙◌, ap, subst, slice_get, sum_by, Some, length, length-append, arith}
use Rattle.std.proofs.lemmas.List.Sums.{sum_by-cons}
use Rattle.net_hier.specs.Cells.{width_of}
use Rattle.net_hier.specs.FlatCount.{FlatCount, of_cell, FlatCountEach, an_instance, no_instance}
use Rattle.net_hier.specs.Units.{port_bits}
use Rattle.net_hier.specs.Design.{Design, IsCell, below_of, cells_below}
use Rattle.net_graph.specs.Graph.{IsAbove}
use Rattle.net_graph.specs.Walks.{Leads}
use Rattle.net_hier.specs.Valid.{IsValid}
use Rattle.net_hier.specs.declared.cells.HCell.{HCell}
use Rattle.net_hier.specs.declared.cells.HInst.{HInst}
use Rattle.net_hier.specs.declared.cells.HPort.{HPort}
use Rattle.net_graph.proofs.OrderLaws.{get_front, get_last}
use Rattle.net_hier.proofs.PathLaws.{same_element}
use Rattle.std.proofs.lemmas.Option.{slice_get_within}
use Rattle.flat_numbers.specs.Numbers.{bits_before}
use Rattle.std.proofs.lemmas.List.{length-map}
use Rattle.flat_numbers.specs.FlatJoins.{AreFew}
use Rattle.flat_numbers.specs.Tables.{AreOffsetsOf, AreSmall}
use Rattle.flat_numbers.proofs.Counting.{map_there}
use Rattle.flat_numbers.proofs.Rows.{last_or_less}

abbrev pub width : HPort → ℕ
width port = width_of port.range

bits_more : (ports : List HPort) (i : ℕ) (port : HPort) → slice_get ports i ≡ Some port → bits_before ports (i + 1) ≡ bits_before ports i + width port
bits_more [] i port e = absurd (cc)
bits_more (first ∷ []) zero port e = let p : first ≡ port = cc in let w : width first ≡ width port = ap width p in omega (arith, w)
bits_more (first ∷ other ∷ ports) zero port e = let p : first ≡ port = cc in let w : width first ≡ width port = ap width p in omega (arith, w)
bits_more (first ∷ ports) (suc i) port e =
    let z : suc i + 1 ≡ suc (i + 1) = omega arith in
    let r : bits_before (first ∷ ports) (suc (i + 1)) ≡ bits_before (first ∷ ports) (suc i) + width port = omega (arith, bits_more ports i port e) in
    ap (bits_before (first ∷ ports)) z ∙ r

pub bits_all : (ports : List HPort) → bits_before ports (length ports) ≡ sum_by width ports
bits_all [] = refl
bits_all (first ∷ ports) = let s = sum_by-cons width first ports in omega (arith, s, bits_all ports)

bits_few : (ports : List HPort) (i : ℕ) (port : HPort) → slice_get ports i ≡ Some port → bits_before ports i + width port ≤ sum_by width ports
bits_few [] i port e = absurd (cc)
bits_few (first ∷ ports) zero port e = let s = sum_by-cons width first ports in let p : first ≡ port = cc in let w : width first ≡ width port = ap width p in omega (arith, s, w)
bits_few (first ∷ ports) (suc i) port e = let s = sum_by-cons width first ports in omega (arith, s, bits_few ports i port e)

pub record KnowsOffsets (ports : List HPort) (done : ℕ) (row : List ℕ) (before : ℕ) : Type 0 where
  pub len : length row ≡ done
  pub known : (port : ℕ) → port < done → slice_get row port ≡ Some (bits_before ports port)
  pub is : before ≡ bits_before ports done

none_before : (ports : List HPort) → 0 ≡ bits_before ports 0
none_before [] = refl
none_before (first ∷ ports) = refl

pub offsets_first : (ports : List HPort) (row : List ℕ) → row ≡ [] → KnowsOffsets ports 0 row 0
offsets_first ports row e = record { len = ap length e; known = λ port lt. absurd (omega arith); is = none_before ports }

pub offset_fits : (ports : List HPort) (done : ℕ) (row : List ℕ) (before : ℕ) (port : HPort) → slice_get ports done ≡ Some port → KnowsOffsets ports done row before → before + width port ≤ sum_by width ports
offset_fits ports done row before port e knows = omega (arith, knows.is, bits_few ports done port e)

row_known : (ports : List HPort) (done : ℕ) (row more : List ℕ) (before : ℕ) → more ≡ row ++ before ∷ [] → KnowsOffsets ports done row before → (port : ℕ) → port < done + 1 → slice_get more port ≡ Some (bits_before ports port)
row_known ports done row more before e knows port lt = subst (λ w. slice_get w port ≡ Some (bits_before ports port)) (sym e) (elim (last_or_less port done lt) [
  | inl l ↦ get_front row (before ∷ []) port (bits_before ports port) (knows.known port l)
  | inr p ↦ subst (λ n. slice_get (row ++ before ∷ []) n ≡ Some (bits_before ports port)) (knows.len ∙ sym p) (get_last row before ∙ ap Some (knows.is ∙ ap (bits_before ports) (sym p)))
])

pub offsets_next : (ports : List HPort) (done : ℕ) (row more : List ℕ) (before after : ℕ) (port : HPort) → slice_get ports done ≡ Some port → more ≡ row ++ before ∷ [] → after ≡ before + width port → KnowsOffsets ports done row before → KnowsOffsets ports (done + 1) more after
offsets_next ports done row more before after port there e f knows = record {
  len = ap length e ∙ (length-append row (before ∷ []) ∙ ap (λ n. n + 1) knows.len);
  known = row_known ports done row more before e knows;
  is = omega (arith, f, knows.is, bits_more ports done port there);
}

pub offsets_whole : (cell : HCell) (ports : List HPort) (done : ℕ) (row more : List ℕ) (before : ℕ) → ports ≡ cell.ports → length ports ≤ done → more ≡ row ++ before ∷ [] → KnowsOffsets ports done row before → AreOffsetsOf cell more
offsets_whole cell ports done row more before same le e knows = λ port l.
    subst (λ (ps : List HPort). slice_get more port ≡ Some (bits_before ps port)) same
    (row_known ports done row more before e knows port (let n : length ports ≡ length cell.ports = ap length same in omega (arith, l, le, n)))

-- the first cells have their rows
pub record KnowsRows (cells : List HCell) (done : ℕ) (rows : List (List ℕ)) : Type 0 where
  pub len : length rows ≡ done
  pub known : (number : ℕ) (cell : HCell) → number < done → IsCell cells number cell → (row : List ℕ) × (slice_get rows number ≡ Some row) × AreOffsetsOf cell row

pub cells_first : (cells : List HCell) (rows : List (List ℕ)) → rows ≡ [] → KnowsRows cells 0 rows
cells_first cells rows e = record { len = ap length e; known = λ number cell lt. absurd (omega arith) }

pub cells_next : (cells : List HCell) (done : ℕ) (rows more : List (List ℕ)) (row : List ℕ) (cell : HCell) → IsCell cells done cell → AreOffsetsOf cell row → more ≡ rows ++ row ∷ [] → KnowsRows cells done rows → KnowsRows cells (done + 1) more
cells_next cells done rows more row cell is are e knows = record {
  len = ap length e ∙ (length-append rows (row ∷ []) ∙ ap (λ n. n + 1) knows.len);
  known = λ number other lt is_other. elim (last_or_less number done lt) [
    | inl l ↦
        let (found, f, g) = knows.known number other l is_other in
        (found, subst (λ w. slice_get w number ≡ Some found) (sym e) (get_front rows (row ∷ []) number found f), g)
    | inr p ↦
        let same : other ≡ cell = same_element cells done other cell (subst (λ n. IsCell cells n other) p is_other) is in
        let at : slice_get (rows ++ row ∷ []) number ≡ Some row = subst (λ n. slice_get (rows ++ row ∷ []) n ≡ Some row) (knows.len ∙ sym p) (get_last rows row) in
        (row, subst (λ w. slice_get w number ≡ Some row) (sym e) at, subst (λ (w : HCell). AreOffsetsOf w row) (sym same) are)
  ];
}

-- a cell that is reached has no more than the flat count
count_at : {cells : List HCell} (numbers : List ℕ) (place inner m : ℕ) → slice_get numbers place ≡ Some inner → FlatCountEach cells numbers m → (n : ℕ) × FlatCount cells inner n × (n ≤ m)
count_at [] place inner m e c = absurd (cc)
count_at {cells = cells} (first ∷ rest) zero inner m e (an_instance {count = n} h more) = let p : first ≡ inner = cc in (n, subst (λ k. FlatCount cells k n) p h, omega arith)
count_at (first ∷ rest) (suc place) inner m e (an_instance {more = k} h more) = let (n, c, le) = count_at rest place inner k e more in (n, c, omega (arith, le))

count_down : {cells : List HCell} (outer m inner : ℕ) → FlatCount cells outer m → IsAbove (cells_below cells) outer inner → (n : ℕ) × FlatCount cells inner n × (n ≤ m)
count_down {cells = cells} outer m inner (of_cell {below = below} {cell = cell} is each) above =
    let same : above.numbers ≡ below_of cell = same_element (cells_below cells) outer above.numbers (below_of cell) above.are_below (map_there below_of cells outer cell is) in
    let (n, c, le) = count_at (below_of cell) above.place inner below (subst (λ w. slice_get w above.place ≡ Some inner) same above.is_there) each in
    (n, c, omega (arith, le))

count_reached : {cells : List HCell} (from count : ℕ) → FlatCount cells from count → (places : List ℕ) (number : ℕ) → Leads (IsAbove (cells_below cells)) from places number → (n : ℕ) × FlatCount cells number n × (n ≤ count)
count_reached {cells = cells} from count c [] number lead = (count, subst (λ k. FlatCount cells k count) lead c, omega arith)
count_reached from count c (next ∷ places) number lead =
    let (m, h, le) = count_down from count next c lead.0 in
    let (n, k, l) = count_reached next m h places number lead.1 in
    (n, k, omega (arith, le, l))

-- there are at most as many instances as their counts say
each_long : {cells : List HCell} (numbers : List ℕ) (m : ℕ) → FlatCountEach cells numbers m → length numbers ≤ m
each_long [] m no_instance = omega arith
each_long (first ∷ rest) m (an_instance {count = n} {more = k} (of_cell is each) more) = let le = each_long rest k more in omega (arith, le)

own_count : {cells : List HCell} (number n : ℕ) (cell : HCell) → FlatCount cells number n → IsCell cells number cell → port_bits cell + length cell.instances ≤ n
own_count {cells = cells} number n cell (of_cell {below = below} {cell = other} is each) is_cell =
    let same : other ≡ cell = same_element cells number other cell is is_cell in
    let p : port_bits other ≡ port_bits cell = ap port_bits same in
    let q : length other.instances ≡ length cell.instances = ap (λ (w : HCell). length w.instances) same in
    let le = each_long (below_of other) below each in
    omega (arith, p, q, le, length-map other.instances (λ (i : HInst). i.cell))

counted_cell : (design : Design) (count : ℕ) → IsValid design → FlatCount design.cells design.top count → (number : ℕ) (cell : HCell) → IsCell design.cells number cell → port_bits cell + length cell.instances ≤ count
counted_cell design count valid counted number cell is =
    let reached = valid.reached number (slice_get_within design.cells number cell is) in
    let (n, c, le) = count_reached design.top count counted reached.places number reached.lead in
    let own = own_count number n cell c is in
    omega (arith, own, le)

pub small_cells : (design : Design) (count : ℕ) → IsValid design → FlatCount design.cells design.top count → count ≤ 2000000 → AreSmall design.cells
small_cells design count valid counted few = λ number cell is. let c = counted_cell design count valid counted number cell is in omega (arith, few, c)

pub few_instances : (design : Design) (count : ℕ) → IsValid design → FlatCount design.cells design.top count → count ≤ 2000000 → AreFew design.cells
few_instances design count valid counted few = λ number cell is. let c = counted_cell design count valid counted number cell is in omega (arith, few, c)
