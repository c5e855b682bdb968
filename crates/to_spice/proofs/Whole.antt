-- The subcircuits of a design are those that the law of files asks for.
use Rattle.std.proofs.Common.{◌≡◌, ℕ, zero, suc, ◌+◌, true, List, Option, None, Some, length, slice_get, get_or, refl, sym, ◌∙◌, ap, subst, arith, Contains}
use Rattle.std.specs.Prelude.{◌↔◌, All}
use Rattle.std.proofs.lemmas.List.Elements.{Contains-append_left, Contains-append_right}
use Rattle.std.proofs.lemmas.Option.{slice_get-get_or, slice_get_within}
use Rattle.nl_base.specs.Case.{same_up_to_case}
use Rattle.net_graph.proofs.ListLaws.{element_there, same_element}
use Rattle.net_graph.proofs.WalkLaws.{linked_back}
use Rattle.net_hier.specs.Cells.{HasLocalStep, IsLocallyConnected, IsPinBit, IsPortBit}
use Rattle.net_hier.specs.Design.{Design, IsCell}
use Rattle.net_hier.specs.Valid.{IsValid}
use Rattle.net_hier.specs.declared.cells.HCell.{HCell}
use Rattle.net_hier.specs.declared.cells.HInst.{HInst}
use Rattle.net_hier.specs.declared.nodes.Node.{Node}
use Rattle.net_hier.specs.declared.nodes.Node.TheVariants.{Port, Pin, Net, Zero, One}
use Rattle.net_hier.proofs.Near.{local_turn}
use Rattle.net_stars.specs.Stars.{IsBit}
use Rattle.spice_text.proofs.Folding.{reads_back}
use Rattle.spice_text.specs.Reading.{HasSpiceNames, IsSpice, IsSpiceCall, IsSpiceSubckt}
use Rattle.spice_text.specs.Words.{is_spice_word}
use Rattle.spice_text.specs.declared.file.Call.{Call}
use Rattle.spice_text.specs.declared.file.SpiceFile.{SpiceFile}
use Rattle.spice_text.specs.declared.file.Subckt.{Subckt}
use Rattle.spice_partners.specs.Partners.{AreSubcktsFor, IsCallFor, IsSubcktFor, node_in, pin_place, word_for}
use Rattle.spice_partners.specs.Places.{place_of}
use Rattle.spice_partners.proofs.Local.{bit_of, pin_place_is}
use Rattle.spice_partners.proofs.Same.{same_pins}
use Rattle.spice_partners.proofs.Words.{alike_small, small_alike}
use Rattle.to_spice_nodes.specs.Naming.{Given}
use Rattle.to_spice_nodes.specs.Nodes.{pins_of}
use Rattle.to_spice_rules.specs.Answers.{KeepsRules}
use Rattle.to_spice_rules.specs.PortWords.{port_words, word_of}
use Rattle.to_spice_rules.proofs.Kept.{are_words}
use Rattle.to_spice.specs.Answers.{IsSpiceFor}
use Rattle.to_spice.specs.Calls.{AreCallsOf, AreSubcktsOf, IsCallOf, IsSubcktAt, IsSubcktOf, next_call, no_calls}
use Rattle.to_spice.proofs.Bits.{as_many_pins, pair_there, pin_there}
use Rattle.to_spice.proofs.Fits.{NodesFit, nodes_fit, nodes_long, none_fit, port_word_there, ports_alike}

-- ---- the calls of a cell
calls_long : {cells : List HCell} {cell : HCell} {given after : Given} {number : ℕ} {instances : List HInst} {calls : List Call} → AreCallsOf cells cell given number instances calls after → length calls ≡ length instances
calls_long no_calls = refl
calls_long (next_call here rest) = ap suc (calls_long rest)

calls_keep : {cells : List HCell} {cell : HCell} {given after : Given} {number : ℕ} {instances : List HInst} {calls : List Call} → AreCallsOf cells cell given number instances calls after → (pin : Node × List ℕ) → Contains given pin → Contains after pin
calls_keep no_calls pin h = h
calls_keep (next_call {given = given} here rest) pin h = calls_keep rest pin (subst (λ g. Contains g pin) (sym here.more) (Contains-append_left given _ pin h))

-- the call at a place, and the pins that it gives nodes
record HasCall (cells : List HCell) (cell : HCell) (number : ℕ) (instance : HInst) (call : Call) (after : Given) : Type 0 where
  before : Given
  middle : Given
  is_call : IsCallOf cells cell before number instance call middle
  stays : (pin : Node × List ℕ) → Contains middle pin → Contains after pin

call_at : {cells : List HCell} {cell : HCell} {given after : Given} {number : ℕ} {instances : List HInst} {calls : List Call} → AreCallsOf cells cell given number instances calls after →
    (place : ℕ) (instance : HInst) (call : Call) → slice_get instances place ≡ Some instance → slice_get calls place ≡ Some call → HasCall cells cell (number + place) instance call after
call_at no_calls place instance call e f = absurd cc
call_at {cells = cells} {cell = cell} {after = after} (next_call {given = given} {middle = middle} {number = number} {instance = own} {call = own_call} here rest) zero instance call e f =
    let z : number ≡ number + 0 = omega arith in
    let g : own ≡ instance = cc in
    let h : own_call ≡ call = cc in
    subst (λ n. HasCall cells cell n instance call after) z (subst (λ c. HasCall cells cell number instance c after) h (subst (λ i. HasCall cells cell number i own_call after) g
    (record { before = given; middle = middle; is_call = here; stays = λ pin m. calls_keep rest pin m })))
call_at {cells = cells} {cell = cell} {after = after} (next_call {number = number} here rest) (suc place) instance call e f =
    let z : number + 1 + place ≡ number + suc place = omega arith in
    subst (λ n. HasCall cells cell n instance call after) z (call_at rest place instance call e f)

calls_fit : (cells : List HCell) (keeps : KeepsRules cells) (number : ℕ) (cell : HCell) (is_cell : IsCell cells number cell) {given after : Given} {first : ℕ} {instances : List HInst} {calls : List Call} →
    AreCallsOf cells cell given first instances calls after → NodesFit cells keeps number cell is_cell given → NodesFit cells keeps number cell is_cell after
calls_fit cells keeps number cell is_cell no_calls fit = fit
calls_fit cells keeps number cell is_cell (next_call here rest) fit =
    calls_fit cells keeps number cell is_cell rest (subst (NodesFit cells keeps number cell is_cell) (sym here.more) (nodes_fit cells keeps number cell is_cell here.nodes fit))

-- ---- one cell
module _ (cells : List HCell) (keeps : KeepsRules cells) (number : ℕ) (cell : HCell) (is_cell : IsCell cells number cell) (subckt : Subckt) (is : IsSubcktOf cells cell subckt) where
  abbrev Linked : Node → Node → Type 0
  Linked = IsLocallyConnected cell

  back : {x y : Node} → Linked x y → Linked y x
  back link = linked_back (HasLocalStep cell) (λ v w s. local_turn s) link

  fit : NodesFit cells keeps number cell is_cell is.given
  fit = calls_fit cells keeps number cell is_cell is.calls (none_fit cells keeps number cell is_cell)

  call_for : (place : ℕ) (instance : HInst) (call : Call) → slice_get cell.instances place ≡ Some instance → slice_get subckt.calls place ≡ Some call → IsCallFor cells instance call
  call_for place instance call e f =
      let c : HasCall cells cell (0 + place) instance call is.given = call_at is.calls place instance call e f in
      let below : HCell = c.is_call.below in
      record {
        same_name = c.is_call.same_name;
        below = below;
        is_below = c.is_call.is_below;
        of_below = c.is_call.of_below;
        as_many = nodes_long c.is_call.nodes ∙ as_many_pins (0 + place) below;
      }

  node_there : (o : Option Call) (place : ℕ) (word : List ℕ) → node_in o place ≡ Some word → (call : Call) × (o ≡ Some call) × (slice_get call.nodes place ≡ Some word)
  node_there None place word e = absurd cc
  node_there (Some call) place word e = (call, refl, e)

  -- the word of a pin is the node that it was given
  pin_given : (instance port bit : ℕ) (word : List ℕ) → IsPinBit cells cell instance port bit → word_for cells cell subckt (Pin instance port bit) ≡ Some word → Contains is.given (Pin instance port bit, word)
  pin_given instance port bit word pin e =
      let place : ℕ = pin_place cells cell instance port bit in
      let c = node_there (slice_get subckt.calls instance) place word e in
      let h : HasCall cells cell (0 + instance) pin.the_instance c.0 is.given = call_at is.calls instance pin.the_instance c.0 pin.is_there c.1 in
      let same : h.is_call.below ≡ pin.below = same_element cells pin.the_instance.cell h.is_call.below pin.below h.is_call.is_below pin.is_below in
      let z : 0 + instance ≡ instance = omega arith in
      let at : slice_get (pins_of instance pin.below) (place_of pin.below port bit) ≡ Some (Pin instance port bit) = pin_there instance pin.below port bit (bit_of pin.below port bit pin.is_bit) in
      let pins : slice_get (pins_of (0 + instance) h.is_call.below) place ≡ Some (Pin instance port bit) =
      ap (λ n. slice_get (pins_of n h.is_call.below) place) z ∙ (ap (λ w. slice_get (pins_of instance w) place) same ∙ (ap (slice_get (pins_of instance pin.below)) (pin_place_is cells cell instance port bit pin) ∙ at)) in
      h.stays (Pin instance port bit, word) (subst (λ g. Contains g (Pin instance port bit, word)) (sym h.is_call.more)
      (Contains-append_right h.before _ _ (pair_there (pins_of (0 + instance) h.is_call.below) c.0.nodes place (Pin instance port bit) word pins c.2)))

  port_is : (port bit : ℕ) (word : List ℕ) → IsPortBit cell port bit → word_for cells cell subckt (Port port bit) ≡ Some word → word_of cell (Port port bit) ≡ word
  port_is port bit word h e =
      let there = port_word_there cells keeps number cell is_cell port bit h in
      let f : Some (word_of cell (Port port bit)) ≡ Some word = sym there ∙ (ap (λ l. slice_get l (place_of cell port bit)) (sym is.same_ports) ∙ e) in
      cc

  abbrev Agrees : Node → Node → List ℕ → List ℕ → Type 0
  Agrees x y n m = (same_up_to_case n m ≡ true) ↔ Linked x y

  alike_back : (a b : List ℕ) → same_up_to_case a b ≡ true → same_up_to_case b a ≡ true
  alike_back a b h = small_alike b a (sym (alike_small a b h))

  pin_port : (instance port bit p b : ℕ) (word oword : List ℕ) → IsPinBit cells cell instance port bit → IsPortBit cell p b → word_for cells cell subckt (Pin instance port bit) ≡ Some word → word_for cells cell subckt (Port p b) ≡ Some oword →
      Agrees (Pin instance port bit) (Port p b) word oword
  pin_port instance port bit p b word oword pin h e f =
      subst (Agrees (Pin instance port bit) (Port p b) word) (port_is p b oword h f) (fit.ports (Pin instance port bit) word p b (pin_given instance port bit word pin e) h)

  alike : (x y : Node) (word oword : List ℕ) → IsBit cells cell x → IsBit cells cell y → word_for cells cell subckt x ≡ Some word → word_for cells cell subckt y ≡ Some oword → Agrees x y word oword
  alike (Port p b) (Port q c) word oword hx hy e f =
      subst (λ w. Agrees (Port p b) (Port q c) w oword) (port_is p b word hx e) (subst (Agrees (Port p b) (Port q c) (word_of cell (Port p b))) (port_is q c oword hy f) (ports_alike cells keeps number cell is_cell p b q c hx hy))
  alike (Port p b) (Pin i q c) word oword hx hy e f =
      let t = pin_port i q c p b oword word hy hx f e in
      (λ h. back (t.0 (alike_back word oword h)), λ link. alike_back oword word (t.1 (back link)))
  alike (Pin i p b) (Port q c) word oword hx hy e f = pin_port i p b q c word oword hx hy e f
  alike (Pin i p b) (Pin j q c) word oword hx hy e f = fit.own (Pin i p b) (Pin j q c) word oword (pin_given i p b word hx e) (pin_given j q c oword hy f)
  alike (Net n) y word oword hx hy e f = absurd hx
  alike Zero y word oword hx hy e f = absurd hx
  alike One y word oword hx hy e f = absurd hx
  alike x (Net n) word oword hx hy e f = absurd hy
  alike x Zero word oword hx hy e f = absurd hy
  alike x One word oword hx hy e f = absurd hy

  pub subckt_for : IsSubcktFor cells cell subckt
  subckt_for = record { same_name = is.same_name; same_ports = is.same_ports; as_many = calls_long is.calls; calls = call_for; nodes = alike }

  -- ---- its names are SPICE words
  each_word : (words : List (List ℕ)) → ((i : ℕ) (word : List ℕ) → slice_get words i ≡ Some word → is_spice_word word ≡ true) → All IsSpice words
  each_word words all i d lt = all i (get_or words i d) (slice_get-get_or words i d lt)

  node_word : (place : ℕ) (instance : HInst) (call : Call) → slice_get cell.instances place ≡ Some instance → slice_get subckt.calls place ≡ Some call → (i : ℕ) (word : List ℕ) → slice_get call.nodes i ≡ Some word → is_spice_word word ≡ true
  node_word place instance call e f i word g =
      let c : HasCall cells cell (0 + place) instance call is.given = call_at is.calls place instance call e f in
      let pins : List Node = pins_of (0 + place) c.is_call.below in
      let lt = slice_get_within call.nodes i word g in
      let long = nodes_long c.is_call.nodes in
      let p = element_there pins i (omega (arith, lt, long)) in
      fit.words p.0 word (c.stays (p.0, word) (subst (λ l. Contains l (p.0, word)) (sym c.is_call.more) (Contains-append_right c.before _ _ (pair_there pins call.nodes i p.0 word p.1 g))))

  spice_call : (place : ℕ) (call : Call) → slice_get subckt.calls place ≡ Some call → IsSpiceCall call
  spice_call place call f =
      let lt = slice_get_within subckt.calls place call f in
      let long = calls_long is.calls in
      let i = element_there cell.instances place (omega (arith, lt, long)) in
      let c : IsCallFor cells i.0 call = call_for place i.0 call i.1 f in
      record {
        name = ap is_spice_word c.same_name ∙ (are_words cells keeps number cell is_cell).2 place i.0 i.1;
        nodes = each_word call.nodes (node_word place i.0 call i.1 f);
        cell = ap is_spice_word c.of_below ∙ (are_words cells keeps i.0.cell c.below c.is_below).0;
      }

  pub spice_subckt : IsSpiceSubckt subckt
  spice_subckt = record {
    name = ap is_spice_word is.same_name ∙ (are_words cells keeps number cell is_cell).0;
    ports = subst (All IsSpice) (sym is.same_ports) (each_word (port_words cell) (are_words cells keeps number cell is_cell).1);
    calls = λ i d lt. spice_call i (get_or subckt.calls i d) (slice_get-get_or subckt.calls i d lt);
  }

-- ---- the file
module _ (design : Design) (valid : IsValid design) (keeps : KeepsRules design.cells) (subckts : List Subckt) (are : AreSubcktsOf design design.order subckts) where
  abbrev file : SpiceFile
  file = record { cells = subckts }

  written : AreSubcktsFor design subckts
  written = record {
    as_many = are.as_many;
    each = λ place number subckt e f.
        let a : IsSubcktAt design number subckt = are.each place number subckt e f in
        record { cell = a.cell; is_cell = a.is_cell; is_for = subckt_for design.cells keeps number a.cell a.is_cell subckt a.is_of };
  }

  spice_at : (place : ℕ) (subckt : Subckt) → slice_get subckts place ≡ Some subckt → IsSpiceSubckt subckt
  spice_at place subckt f =
      let lt = slice_get_within subckts place subckt f in
      let long = are.as_many in
      let n = element_there design.order place (omega (arith, lt, long)) in
      let a : IsSubcktAt design n.0 subckt = are.each place n.0 subckt n.1 f in
      spice_subckt design.cells keeps n.0 a.cell a.is_cell subckt a.is_of

  names : HasSpiceNames file
  names i d lt = spice_at i (get_or subckts i d) (slice_get-get_or subckts i d lt)

  pub spice_for : IsSpiceFor design (record { cells = subckts })
  spice_for = record { keeps_rules = keeps; subckts = are; same_pins = same_pins design valid keeps file written; names = names; reads_back = reads_back file names }
