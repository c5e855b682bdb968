-- By the rules of SPICE something is said of each design: it cannot be that it keeps none of them and has no first object that breaks one.
use Rattle.std.proofs.Common.{◌≡◌, ℕ, zero, suc, ◌<◌, inl, inr, List, [], ◌∷◌, Option, None, Some, refl, subst, arith}
use Rattle.std.specs.declared.cmp.Ordering.TheVariants.{Less}
use Rattle.std.proofs.lemmas.Bool.{cases_lt}
use Rattle.net_hier.specs.Design.{IsCell}
use Rattle.net_hier.specs.Nodes.{node_cmp}
use Rattle.net_hier.specs.declared.cells.HCell.{HCell}
use Rattle.net_hier.specs.declared.cells.HProp.{HProp}
use Rattle.net_hier.specs.declared.nodes.Node.{Node}
use Rattle.net_hier.specs.declared.nodes.Node.TheVariants.{Port, Pin, Net, Zero, One}
use Rattle.to_spice_rules.specs.Answers.{IsFirstRefusal, KeepsRules, of_connections, of_constants, of_names, of_ports}
use Rattle.to_spice_rules.specs.Connections.{AreJoined, HasPortsApart, HoldsBefore, HoldsOfEach, IsFirstOfConstants, IsFirstOfPorts, IsPortRefusal, IsUntied}
use Rattle.to_spice_rules.specs.Names.{first_by_names, refused}
use Rattle.to_spice_rules.specs.PortWords.{IsOwnBit, word_of}
use Rattle.to_spice_rules.specs.declared.refusal.SpiceRefusal.{SpiceRefusal}
use Rattle.to_spice_rules.specs.declared.refusal.SpiceRule.TheVariants.{S5, S6}
use Rattle.to_spice_rules.proofs.PortOrder.{port_before}
use Rattle.netlist_cli.specs.Meanings.{spice_rules}
use Rattle.netlist_cli.specs.Outcomes.{Verdict, breaks_of_tool, fine}
use Rattle.netlist_cli.specs.Tools.{spice_refusal}

-- ---- the least number and the least port bit

-- the least number of which this is so
record IsLeast (P : ℕ → Type 0) (n : ℕ) : Type 0 where
  here : P n
  none_below : (m : ℕ) → m < n → ¬ P m

-- where there is no least one it is so of no number below one
none_below_all : (P : ℕ → Type 0) → ¬ ((n : ℕ) × IsLeast P n) → (k m : ℕ) → m < k → ¬ P m
none_below_all P none zero m lt = absurd (omega (arith, lt))
none_below_all P none (suc k) m lt = elim (cases_lt m k) as (λ _. ¬ P m) [
  | inl less ↦ none_below_all P none k m less
  | inr ge ↦ λ h.
      let same : m ≡ k = omega (arith, lt, ge) in
      none (k, record { here = subst P same h; none_below = none_below_all P none k })
]

least : (P : ℕ → Type 0) (n : ℕ) → P n → ¬ ¬ ((m : ℕ) × IsLeast P m)
least P n h none = none_below_all P none (suc n) n (omega arith) h

-- the first port bit of which this is so
record IsFirstBit (P : Node → Type 0) (m : Node) : Type 0 where
  here : P m
  none_before : (y : Node) → P y → ¬ (node_cmp y m ≡ Less)

-- what is so of a node, by its port and its bit
record IsAt (P : Node → Type 0) (node : Node) : Type 0 where
  port : ℕ
  bit : ℕ
  is_bit : node ≡ Port port bit

-- where it is so of a port bit, it cannot be that there is no first one
first_bit : (P : Node → Type 0) → ((x : Node) → P x → IsAt P x) → (x : Node) → P x → ¬ ¬ ((m : Node) × IsFirstBit P m)
first_bit P ports x h none =
    let at = ports x h in
    least (λ p. (b : ℕ) × P (Port p b)) at.port (at.bit, subst P at.is_bit h) (λ (port : (p : ℕ) × IsLeast (λ p. (b : ℕ) × P (Port p b)) p).
    least (λ b. P (Port port.0 b)) port.1.here.0 port.1.here.1 (λ (bit : (b : ℕ) × IsLeast (λ b. P (Port port.0 b)) b).
    none (
      Port port.0 bit.0,
      record {
        here = bit.1.here;
        none_before = λ y k less.
            let other = ports y k in
            let there : P (Port other.port other.bit) = subst P other.is_bit k in
            let before : node_cmp (Port other.port other.bit) (Port port.0 bit.0) ≡ Less = subst (λ (z : Node). node_cmp z (Port port.0 bit.0) ≡ Less) other.is_bit less in
            elim (port_before other.port other.bit port.0 bit.0 before) as (λ _. ⊥) [
              | inl lower ↦ port.1.none_below other.port lower (other.bit, there)
              | inr same ↦ bit.1.none_below other.bit same.1 (subst (λ p. P (Port p other.bit)) same.0 there)
            ];
      },
    )))

-- ---- connections

own_at : (P : Node → Type 0) (cell : HCell) (x : Node) → IsOwnBit cell x → IsAt P x
own_at P cell (Port p b) h = record { port = p; bit = b; is_bit = refl }
own_at P cell (Pin i p b) h = absurd h
own_at P cell (Net n) h = absurd h
own_at P cell Zero h = absurd h
own_at P cell One h = absurd h

-- a port bit that is connected to an earlier one
abbrev IsLater : HCell → Node → Type 0
IsLater cell y = (x : Node) × AreJoined cell x y

-- where two port bits of a cell are connected, it cannot be that none is the first
port_refusal : (cell : HCell) (x y : Node) → AreJoined cell x y → ¬ ¬ ((r : SpiceRefusal) × IsPortRefusal cell r)
port_refusal cell x y joined none =
    first_bit (IsLater cell) (λ z h. own_at (IsLater cell) cell z h.1.is_later) y (x, joined) (λ (later : (m : Node) × IsFirstBit (IsLater cell) m).
    first_bit (λ z. AreJoined cell z later.0) (λ z h. own_at (λ w. AreJoined cell w later.0) cell z h.is_first) later.1.here.0 later.1.here.1 (λ (first : (m : Node) × IsFirstBit (λ z. AreJoined cell z later.0) m).
    none (
      refused S5 cell.name (word_of cell first.0 ∷ word_of cell later.0 ∷ []),
      record {
        first = first.0;
        later = later.0;
        are_first = record {
          joined = first.1.here;
          no_earlier = λ z w h. later.1.none_before w (z, h);
          no_other = λ z h. first.1.none_before z h;
        };
        is_refusal = refl;
      },
    )))

module _ (cells : List HCell) where
  ports_before : ¬ ((r : SpiceRefusal) × IsFirstOfPorts cells r) → (n : ℕ) → HoldsBefore HasPortsApart cells n
  ports_before none zero = λ earlier cell lt is_cell. absurd (omega (arith, lt))
  ports_before none (suc n) = λ earlier cell lt is_cell. elim (cases_lt earlier n) as (λ _. HasPortsApart cell) [
    | inl less ↦ ports_before none n earlier cell less is_cell
    | inr ge ↦ λ x y joined.
        let same : earlier ≡ n = omega (arith, lt, ge) in
        port_refusal cell x y joined (λ (told : (r : SpiceRefusal) × IsPortRefusal cell r).
        none (told.0, record { number = n; cell = cell; is_cell = subst (λ k. IsCell cells k cell) same is_cell; before = ports_before none n; here = told.1 }))
  ]

  constants_before : ¬ ((r : SpiceRefusal) × IsFirstOfConstants cells r) → (n : ℕ) → HoldsBefore (IsUntied cells) cells n
  constants_before none zero = λ earlier cell lt is_cell. absurd (omega (arith, lt))
  constants_before none (suc n) = λ earlier cell lt is_cell. elim (cases_lt earlier n) as (λ _. IsUntied cells cell) [
    | inl less ↦ constants_before none n earlier cell less is_cell
    | inr ge ↦ λ value needs.
        let same : earlier ≡ n = omega (arith, lt, ge) in
        none (
          refused S6 cell.name [],
          record { number = n; cell = cell; is_cell = subst (λ k. IsCell cells k cell) same is_cell; before = constants_before none n; value = value; needs = needs; is_refusal = refl },
        )
  ]

  -- a design keeps the rules or has a first object that breaks one
  kept_or_refused : ¬ KeepsRules cells → ¬ ((r : SpiceRefusal) × IsFirstRefusal cells r) → ⊥
  kept_or_refused broken none = go (first_by_names cells) refl
    where
      go : (found : Option SpiceRefusal) → first_by_names cells ≡ found → ⊥
      go (Some r) e = none (r, of_names e)
      go None e =
          let ports : HoldsOfEach HasPortsApart cells =
          λ number cell is_cell. ports_before (λ (s : (r : SpiceRefusal) × IsFirstOfPorts cells r). none (s.0, of_connections e (of_ports s.1))) (suc number) number cell (omega arith) is_cell in
          let constants : HoldsOfEach (IsUntied cells) cells =
          λ number cell is_cell. constants_before (λ (s : (r : SpiceRefusal) × IsFirstOfConstants cells r). none (s.0, of_connections e (of_constants ports s.1))) (suc number) number cell (omega arith) is_cell in
          broken (record { names = e; connections = record { ports = ports; constants = constants } })

pub spice_said : (cells : List HCell) (top : ℕ) (props : List HProp) → ¬ ¬ ((verdict : Verdict) × spice_rules cells top props verdict)
spice_said cells top props none =
    kept_or_refused cells (λ keeps. none (fine, keeps)) (λ (s : (r : SpiceRefusal) × IsFirstRefusal cells r). none (breaks_of_tool (spice_refusal s.0), record { first = s.0; is_first = s.1; is_refusal = refl }))
