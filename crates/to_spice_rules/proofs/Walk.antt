-- The walk over the cells of a design that looks for connections.
use Rattle.std.proofs.Common.{◌≡◌, ℕ, ◌+◌, ◌<◌, ◌≤◌, inl, inr, ◌||◌, Bool, true, false, List, [], Option, None, Some, length, sym, ◌∙◌, ap, subst, arith}
use Rattle.std.specs.Prelude.{◌↔◌}
use Rattle.std.proofs.lemmas.Bool.{cases_lt}
use Rattle.std.proofs.lemmas.Option.{slice_get_within}
use Rattle.net_bits.specs.Classes.{AreClasses, ClassTable}
use Rattle.net_graph.proofs.ListLaws.{element_there, same_element}
use Rattle.net_graph.proofs.MarkLaws.{or_cases, or_left, or_right}
use Rattle.net_hier.specs.Design.{IsCell}
use Rattle.net_hier.specs.Valid.{Each, IsJoinOf}
use Rattle.net_hier.specs.declared.cells.HCell.{HCell}
use Rattle.net_live.specs.Live.{needs_constant}
use Rattle.net_live.proofs.NeedLaws.{need_is}
use Rattle.to_spice_rules.specs.Answers.{IsFirstOfConnections, KeepsConnections, of_constants, of_ports}
use Rattle.to_spice_rules.specs.Connections.{HasPortsApart, HoldsBefore, HoldsOfEach, IsUntied}
use Rattle.to_spice_rules.specs.Found.{CellFound, IsFirstTied, IsTied, PortRefusalFound, TiedFound, earlier_place}
use Rattle.to_spice_rules.specs.Names.{refused}
use Rattle.to_spice_rules.specs.declared.connections.CellConnections.{CellConnections}
use Rattle.to_spice_rules.specs.declared.refusal.SpiceRefusal.{SpiceRefusal}
use Rattle.to_spice_rules.specs.declared.refusal.SpiceRule.TheVariants.{S6}

-- ---- one cell
or_back : (cells : List HCell) (cell : HCell) (classes : ClassTable) → AreClasses cell classes → Each (IsJoinOf cells cell) cell.joins → IsTied cells cell → (needs_constant classes false || needs_constant classes true) ≡ true
or_back cells cell classes are joins (false, need) = or_left (needs_constant classes false) (needs_constant classes true) ((need_is cells cell classes are joins false).1 need)
or_back cells cell classes are joins (true, need) = or_right (needs_constant classes false) (needs_constant classes true) ((need_is cells cell classes are joins true).1 need)

tied_is : (cells : List HCell) (cell : HCell) (classes : ClassTable) → AreClasses cell classes → Each (IsJoinOf cells cell) cell.joins → (r : Bool) → r ≡ (needs_constant classes false || needs_constant classes true) → (r ≡ true) ↔ IsTied cells cell
tied_is cells cell classes are joins r e = (
  λ t. elim (or_cases (needs_constant classes false) (needs_constant classes true) (sym e ∙ t)) as (λ _. IsTied cells cell) [
    | inl zero ↦ (false, (need_is cells cell classes are joins false).0 zero)
    | inr one ↦ (true, (need_is cells cell classes are joins true).0 one)
  ],
  λ tied. e ∙ or_back cells cell classes are joins tied,
)

pub cell_found : (cells : List HCell) (number : ℕ) (cell : HCell) (classes : ClassTable) → IsCell cells number cell → AreClasses cell classes → Each (IsJoinOf cells cell) cell.joins → (ports : Option SpiceRefusal) (r : Bool) →
    PortRefusalFound cell ports → r ≡ (needs_constant classes false || needs_constant classes true) → CellFound cells number (record { ports = ports; is_tied = r })
cell_found cells number cell classes is_cell are joins ports r found e = record {
  ports = λ other is_other. subst (λ c. PortRefusalFound c ports) (same_element cells number cell other is_cell is_other) found;
  tied = λ other is_other. subst (λ c. (r ≡ true) ↔ IsTied cells c) (same_element cells number cell other is_cell is_other) (tied_is cells cell classes are joins r e);
}

-- ---- the cells so far
holds_more : (Holds : HCell → Type 0) (cells : List HCell) (n : ℕ) → HoldsBefore Holds cells n → ((cell : HCell) → IsCell cells n cell → Holds cell) → HoldsBefore Holds cells (n + 1)
holds_more Holds cells n before here earlier cell lt is_cell = elim (cases_lt earlier n) as (λ _. Holds cell) [
  | inl l ↦ before earlier cell l is_cell
  | inr ge ↦ let e : earlier ≡ n = omega (arith, lt, ge) in here cell (subst (λ k. IsCell cells k cell) e is_cell)
]

holds_all : (Holds : HCell → Type 0) (cells : List HCell) (n : ℕ) → length cells ≤ n → HoldsBefore Holds cells n → HoldsOfEach Holds cells
holds_all Holds cells n le before number cell is_cell = let lt = slice_get_within cells number cell is_cell in before number cell (omega (arith, lt, le)) is_cell

no_cell_before : (Holds : HCell → Type 0) (cells : List HCell) → HoldsBefore Holds cells 0
no_cell_before Holds cells earlier cell lt is_cell = absurd (omega (arith, lt))

pub walk_start : (cells : List HCell) → HoldsBefore HasPortsApart cells 0 × TiedFound cells 0 None
walk_start cells = (no_cell_before HasPortsApart cells, no_cell_before (IsUntied cells) cells)

-- a cell that connects two port bits is the first
pub walk_ports : (cells : List HCell) (number : ℕ) (found : CellConnections) (refusal : SpiceRefusal) → number < length cells → CellFound cells number found → found.ports ≡ Some refusal → HoldsBefore HasPortsApart cells number → IsFirstOfConnections cells refusal
walk_ports cells number found refusal lt is e before =
    let c = element_there cells number lt in
    of_ports (record { number = number; cell = c.0; is_cell = c.1; before = before; here = subst (PortRefusalFound c.0) e (is.ports c.0 c.1) })

tied_more : (cells : List HCell) (number : ℕ) (found : CellConnections) → number < length cells → CellFound cells number found → (tied : Option ℕ) → TiedFound cells number tied → (b : Bool) → found.is_tied ≡ b → TiedFound cells (number + 1) (earlier_place tied number b)
tied_more cells number found lt is (Some earlier) first b e = first
tied_more cells number found lt is None before true e =
    let c = element_there cells number lt in
    record { cell = c.0; is_cell = c.1; before = before; tied = (is.tied c.0 c.1).0 e }
tied_more cells number found lt is None before false e =
    holds_more (IsUntied cells) cells number before (λ cell is_cell value need. let f : false ≡ true = sym e ∙ (is.tied cell is_cell).1 (value, need) in cc)

-- a cell more
pub walk_more : (cells : List HCell) (number : ℕ) (found : CellConnections) (tied new : Option ℕ) (b : Bool) → number < length cells → CellFound cells number found → found.ports ≡ None → found.is_tied ≡ b →
    HoldsBefore HasPortsApart cells number × TiedFound cells number tied → new ≡ earlier_place tied number b → HoldsBefore HasPortsApart cells (number + 1) × TiedFound cells (number + 1) new
walk_more cells number found tied new b lt is none e so_far m = (
  holds_more HasPortsApart cells number so_far.0 (λ cell is_cell. subst (PortRefusalFound cell) none (is.ports cell is_cell)),
  subst (TiedFound cells (number + 1)) (sym m) (tied_more cells number found lt is tied so_far.1 b e),
)

-- the first cell that connects a constant is one of the cells
pub tied_within : (cells : List HCell) (end : ℕ) (tied : Option ℕ) (number : ℕ) → TiedFound cells end tied → tied ≡ Some number → number < length cells
tied_within cells end tied number is e = let first : IsFirstTied cells number = subst (TiedFound cells end) e is in slice_get_within cells number first.cell first.is_cell

-- all cells
pub walk_none : (cells : List HCell) (end : ℕ) (tied : Option ℕ) → length cells ≤ end → HoldsBefore HasPortsApart cells end × TiedFound cells end tied → tied ≡ None → KeepsConnections cells
walk_none cells end tied le so_far e = record {
  ports = holds_all HasPortsApart cells end le so_far.0;
  constants = holds_all (IsUntied cells) cells end le (subst (TiedFound cells end) e so_far.1);
}

pub walk_tied : (cells read : List HCell) (end : ℕ) (tied : Option ℕ) (number : ℕ) (cell : HCell) (refusal : SpiceRefusal) → length cells ≤ end → HoldsBefore HasPortsApart cells end × TiedFound cells end tied → tied ≡ Some number →
    IsCell cells number cell → refusal ≡ refused S6 cell.name [] → IsFirstOfConnections cells refusal
walk_tied cells read end tied number cell refusal le so_far e is_cell is =
    let first : IsFirstTied cells number = subst (TiedFound cells end) e so_far.1 in
    let same : cell ≡ first.cell = same_element cells number cell first.cell is_cell first.is_cell in
    of_constants (holds_all HasPortsApart cells end le so_far.0)
    (record { number = number; cell = first.cell; is_cell = first.is_cell; before = first.before; value = first.tied.0; needs = first.tied.1; is_refusal = is ∙ ap (λ (c : HCell). refused S6 c.name []) same })
