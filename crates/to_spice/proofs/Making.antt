-- A call more of a cell, and a subcircuit more of a design.
use Rattle.std.proofs.Common.{◌≡◌, ℕ, zero, suc, ◌+◌, ◌<◌, ◌≤◌, List, [], ◌∷◌, ◌++◌, None, Some, length, slice_get, get_or, take, codes, refl, sym, ◌∙◌, ap, subst, arith, length-append}
use Rattle.std.proofs.lemmas.List.{take_all, take_more}
use Rattle.net_bits.specs.Classes.{AreClasses, ClassTable}
use Rattle.net_bits.specs.Names.{AreUsed}
use Rattle.net_hier.specs.Design.{Design, IsCell}
use Rattle.net_hier.specs.Valid.{Each, IsJoinOf}
use Rattle.net_hier.specs.declared.cells.HCell.{HCell}
use Rattle.net_hier.specs.declared.cells.HInst.{HInst}
use Rattle.net_hier.specs.declared.nodes.Node.{Node}
use Rattle.net_hier.specs.declared.nodes.Node.TheVariants.{Port, Net}
use Rattle.spice_text.specs.declared.file.Call.{Call}
use Rattle.spice_text.specs.declared.file.Subckt.{Subckt}
use Rattle.to_spice_nodes.specs.Naming.{Given}
use Rattle.to_spice_nodes.specs.Nodes.{paired, pins_of}
use Rattle.net_live.proofs.LiveLaws.{joined_node}
use Rattle.to_spice_nodes.specs.Table.{GivesNodes, HasNoNodes, HasOwnNodes, NodeTable}
use Rattle.to_spice_nodes.proofs.Giving.{given_none}
use Rattle.to_spice_rules.specs.PortWords.{port_words}
use Rattle.to_spice.specs.Calls.{AreCallsOf, AreSubcktsOf, HasCallsOf, IsCallOf, IsSubcktAt, next_call, no_calls}
use Rattle.to_spice.specs.Giving.{GivesCall, GivesCalls, MakesCall, MakesCalls}

-- ---- calls
-- a call is made of the nodes of its pins
pub call_made : (cells : List HCell) (cell below : HCell) (classes : ClassTable) (number : ℕ) (instance : HInst) (old new : NodeTable) (pins : List Node) (call : Call) →
    IsCell cells instance.cell below → call.name ≡ instance.name → call.cell ≡ below.name → pins ≡ pins_of number below → GivesNodes cell classes pins old new call.nodes → GivesCall cells cell classes number instance old new call
call_made cells cell below classes number instance old new pins call is_below name of are gives = λ given has.
    let own : GivesNodes cell classes (pins_of number below) old new call.nodes = subst (λ ps. GivesNodes cell classes ps old new call.nodes) are gives in
    record {
      after = given ++ paired (pins_of number below) call.nodes;
      is_call = record { same_name = name; below = below; is_below = is_below; of_below = of; nodes = own.are_nodes given has; more = refl };
      has = own.has_given given has;
    }

calls_more : {cells : List HCell} {cell : HCell} {given middle after : Given} {number : ℕ} {instances : List HInst} {calls : List Call} → AreCallsOf cells cell given number instances calls middle →
    (next : ℕ) (instance : HInst) (call : Call) → next ≡ number + length instances → IsCallOf cells cell middle next instance call after → AreCallsOf cells cell given number (instances ++ instance ∷ []) (calls ++ call ∷ []) after
calls_more {cells = cells} {cell = cell} {after = after} (no_calls {given = given} {number = number}) next instance call e is =
    let z : next ≡ number = omega (arith, e) in
    next_call (subst (λ n. IsCallOf cells cell given n instance call after) z is) no_calls
calls_more (next_call {number = number} {instances = instances} here rest) next instance call e is = next_call here (calls_more rest next instance call (omega (arith, e)) is)

taken_long : {A : Type 0} (xs : List A) (k : ℕ) → k ≤ length xs → length (take k xs) ≡ k
taken_long [] zero h = refl
taken_long [] (suc k) h = absurd (omega (arith, h))
taken_long (x ∷ xs) zero h = refl
taken_long (x ∷ xs) (suc k) h = ap suc (taken_long xs k (omega (arith, h)))

pub none_made : (cells : List HCell) (cell : HCell) (classes : ClassTable) (table : NodeTable) → GivesCalls cells cell classes [] table table []
none_made cells cell classes table = λ given has. record { after = given; are_calls = no_calls; has = has }

-- a call more
pub more_made : (cells : List HCell) (cell : HCell) (classes : ClassTable) (instances : List HInst) (i : ℕ) (d instance : HInst) (old middle new : NodeTable) (calls after : List Call) (call : Call) → i < length instances → get_or instances i d ≡ instance →
    GivesCalls cells cell classes (take i instances) old middle calls → GivesCall cells cell classes i instance middle new call → after ≡ calls ++ call ∷ [] → GivesCalls cells cell classes (take (i + 1) instances) old new after
more_made cells cell classes instances i d instance old middle new calls after call lt is before here e = λ given has.
    let b : MakesCalls cells cell classes (take i instances) given middle calls = before given has in
    let m : MakesCall cells cell classes i instance b.after new call = here b.after b.has in
    let long : i ≡ 0 + length (take i instances) = (let l = taken_long instances i (omega (arith, lt)) in omega (arith, l)) in
    let all : take (i + 1) instances ≡ take i instances ++ instance ∷ [] = take_more instances i d lt ∙ ap (λ x. take i instances ++ x ∷ []) is in
    record {
      after = m.after;
      are_calls = subst (λ cs. AreCallsOf cells cell given 0 (take (i + 1) instances) cs m.after) (sym e) (subst (λ is. AreCallsOf cells cell given 0 is (calls ++ call ∷ []) m.after) (sym all) (calls_more b.are_calls i instance call long m.is_call));
      has = m.has;
    }

pub all_made : (cells : List HCell) (cell : HCell) (classes : ClassTable) (instances : List HInst) (i : ℕ) (old new : NodeTable) (calls : List Call) → length instances ≤ i → GivesCalls cells cell classes (take i instances) old new calls → GivesCalls cells cell classes instances old new calls
all_made cells cell classes instances i old new calls le is = subst (λ l. GivesCalls cells cell classes l old new calls) (take_all i instances le) is

-- ---- subcircuits
both_more : {A B : Type 0} (P : A → B → Type 0) (xs : List A) (ys : List B) (x : A) (y : B) → length ys ≡ length xs → ((place : ℕ) (a : A) (b : B) → slice_get xs place ≡ Some a → slice_get ys place ≡ Some b → P a b) → P x y →
    (place : ℕ) (a : A) (b : B) → slice_get (xs ++ x ∷ []) place ≡ Some a → slice_get (ys ++ y ∷ []) place ≡ Some b → P a b
both_more P [] [] x y l all p zero a b e f =
    let g : Some x ≡ Some a = e in
    let h : Some y ≡ Some b = f in
    let s : x ≡ a = cc in
    let t : y ≡ b = cc in
    subst (λ v. P v b) s (subst (P x) t p)
both_more P [] [] x y l all p (suc k) a b e f = absurd (let g : None ≡ Some a = e in cc)
both_more P [] (z ∷ ys) x y l all p place a b e f = absurd (omega (arith, l))
both_more P (z ∷ xs) [] x y l all p place a b e f = absurd (omega (arith, l))
both_more P (w ∷ xs) (z ∷ ys) x y l all p zero a b e f = all 0 a b e f
both_more P (w ∷ xs) (z ∷ ys) x y l all p (suc k) a b e f = both_more P xs ys x y (omega (arith, l)) (λ place c d g h. all (suc place) c d g h) p k a b e f

pub none_there : (design : Design) → AreSubcktsOf design [] []
none_there design = record { as_many = refl; each = λ place number subckt e f. absurd cc }

pub more_there : (design : Design) (numbers : List ℕ) (i d : ℕ) (subckts new : List Subckt) (subckt : Subckt) → i < length numbers → AreSubcktsOf design (take i numbers) subckts → new ≡ subckts ++ subckt ∷ [] →
    IsSubcktAt design (get_or numbers i d) subckt → AreSubcktsOf design (take (i + 1) numbers) new
more_there design numbers i d subckts new subckt lt are e is =
    let number : ℕ = get_or numbers i d in
    subst (AreSubcktsOf design (take (i + 1) numbers)) (sym e) (subst (λ l. AreSubcktsOf design l (subckts ++ subckt ∷ [])) (sym (take_more numbers i d lt)) (record {
      as_many = length-append subckts (subckt ∷ []) ∙ (ap (λ k. k + 1) are.as_many ∙ sym (length-append (take i numbers) (number ∷ [])));
      each = both_more (IsSubcktAt design) (take i numbers) subckts number subckt are.as_many are.each is;
    }))

pub all_there : (design : Design) (numbers : List ℕ) (i : ℕ) (subckts : List Subckt) → length numbers ≤ i → AreSubcktsOf design (take i numbers) subckts → AreSubcktsOf design numbers subckts
all_there design numbers i subckts le are = subst (λ l. AreSubcktsOf design l subckts) (take_all i numbers le) are

-- ---- a cell
pub own_nodes : (cells : List HCell) (cell : HCell) (classes : ClassTable) → AreClasses cell classes → Each (IsJoinOf cells cell) cell.joins → HasOwnNodes cell
own_nodes cells cell classes are joins = record {
  ports = λ port bit h. let c = (are.joined (Port port bit)).0 h in joined_node cells cell classes are joins (Port port bit) c.0 c.1;
  nets = λ net h. let c = (are.joined (Net net)).0 h in joined_node cells cell classes are joins (Net net) c.0 c.1;
}

-- the calls of a cell are made of none that were given
pub cell_made : (cells : List HCell) (cell : HCell) (classes : ClassTable) (old new : NodeTable) (calls : List Call) → HasNoNodes cell old → GivesCalls cells cell classes cell.instances old new calls → HasCallsOf cells cell calls
cell_made cells cell classes old new calls none gives = let m : MakesCalls cells cell classes cell.instances [] new calls = gives [] (given_none cell classes old none) in (m.after, m.are_calls)

pub none_next : (cell : HCell) (table : NodeTable) → HasNoNodes cell table → AreUsed table.used (codes "n") table.next
none_next cell table none = λ lesser lt. absurd (let e = none.next in omega (arith, lt, e))

pub subckt_made : (design : Design) (number : ℕ) (cell : HCell) (subckt : Subckt) → IsCell design.cells number cell → subckt.name ≡ cell.name → subckt.ports ≡ port_words cell → HasCallsOf design.cells cell subckt.calls → IsSubcktAt design number subckt
subckt_made design number cell subckt is_cell name ports calls = record { cell = cell; is_cell = is_cell; is_of = record { same_name = name; same_ports = ports; given = calls.0; calls = calls.1 } }
