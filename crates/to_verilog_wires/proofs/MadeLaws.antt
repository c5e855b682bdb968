-- The wires that are made have names of their own.
use Rattle.std.proofs.Common.{◌≡◌, ℕ, suc, ◌+◌, ◌%◌, ◌^◌, ◌<◌, ◌≤◌, inl, inr, ◌||◌, ◌&&◌, nat_le, Bool, true, false, List, [], ◌∷◌, ◌++◌, Some, None, map, length, refl, sym, ◌∙◌, ap, subst, arith, Contains, append_assoc, append-nil, decimal}
use Rattle.std.specs.List.{list_all, list_any}
use Rattle.std.proofs.lemmas.Bool.{false≢true}
use Rattle.std.proofs.lemmas.Bool.Decides.{nat_tests}
use Rattle.std.proofs.lemmas.Fmt.{decimal_by_steps, length-decimal-le}
use Rattle.std.proofs.lemmas.List.{length-map}
use Rattle.std.proofs.lemmas.List.Elements.{Contains-append_left, Contains-append_right, Contains-push_cases}
use Rattle.std.proofs.lemmas.List.Folds.{list_all-append, list_any-append}
use Rattle.std.proofs.lemmas.Slice.Eq.{bytes_eq-Decides}
use Rattle.nl_base.specs.Case.{same_bytes}
use Rattle.net_bits.specs.Names.{NameSet, has_name, with_name}
use Rattle.vlog_written.proofs.Members.{there_cases}
use Rattle.net_live.proofs.LastLaws.{names_more}
use Rattle.net_hier.specs.declared.cells.HCell.{HCell}
use Rattle.net_hier.specs.declared.cells.HInst.{HInst}
use Rattle.net_hier.specs.declared.cells.HPort.{HPort}
use Rattle.net_hier.specs.declared.nodes.Node.{Node}
use Rattle.to_verilog_rules.specs.Rules.{is_graphic, is_name}
use Rattle.to_verilog_wires.specs.Given.{AddsHub, AreMade, GivesHubs, own_names}
use Rattle.to_verilog_classes.specs.Groups.{GroupTable, around}
use Rattle.to_verilog_wires.specs.Naming.{wire_attrs, with_names}
use Rattle.to_verilog_wires.specs.Wires.{HasNoWires, HasOneMore, IsNamed}
use Rattle.to_verilog_wires.specs.Wiring.{hub_in}
use Rattle.to_verilog_wires.specs.declared.hubs.Hub.{Hub}
use Rattle.to_verilog_wires.specs.declared.hubs.Hub.TheVariants as hubs
use Rattle.to_verilog_wires.specs.declared.naming.Wires.{Wires}
use Rattle.to_verilog_wires.proofs.GivenLaws.{with_port, with_wire}
use Rattle.to_verilog_classes.proofs.GroupLaws.{map_both}
use Rattle.vlog_written.specs.OwnNames.{AreDistinct}
use Rattle.vlog_written.specs.Written.{PlainWire, wire_item}

-- a name that is made of a number can be written
digit_graphic : (d : ℕ) → d < 10 → is_graphic (48 + d) ≡ true
digit_graphic d h = grind (arith, nat_tests)

number_graphic : (n : ℕ) → n < 2 ^ 64 → list_all is_graphic (decimal n) ≡ true
number_graphic n h = decimal_by_steps (λ n ds. list_all is_graphic ds ≡ true) one more n h
  where
    one : (n : ℕ) → n < 10 → list_all is_graphic ((48 + n) ∷ []) ≡ true
    one n h = ap (λ b. b && true) (digit_graphic n h)

    more : (n : ℕ) (ds : List ℕ) → 10 ≤ n → list_all is_graphic ds ≡ true → list_all is_graphic (ds ++ (48 + n % 10) ∷ []) ≡ true
    more n ds h rest =
        let m : n % 10 < 10 = omega arith in
        list_all-append is_graphic ds ((48 + n % 10) ∷ []) ∙ (ap (λ b. b && (is_graphic (48 + n % 10) && true)) rest ∙ ap (λ b. b && true) (digit_graphic (n % 10) m))

pub number_can_be_written : (n : ℕ) → n < 2 ^ 64 → is_name (110 ∷ decimal n) ≡ true
unfolding is_name
number_can_be_written n h =
    let l : length (decimal n) ≤ 20 = length-decimal-le 20 n (omega arith) (omega (arith, h)) h in
    let a : nat_le 1 (suc (length (decimal n))) ≡ true = grind (arith, nat_tests) in
    let b : nat_le (suc (length (decimal n))) 1024 ≡ true = grind (arith, nat_tests) in
    let c : list_all is_graphic (110 ∷ decimal n) ≡ true = ap (λ b. is_graphic 110 && b) (number_graphic n h) in
    λ i. a i && b i && c i

named_can : (used : NameSet) (name : List ℕ) → IsNamed used name → is_name name ≡ true
named_can used name (inl e) = e
named_can used name (inr f) = ap is_name f.2.is_name ∙ number_can_be_written f.0 f.1

-- the names of a set
or_in_turn : (a b c : Bool) → ((a || b) || c) ≡ (b || (a || c))
or_in_turn true true c = refl
or_in_turn true false c = refl
or_in_turn false true c = refl
or_in_turn false false c = refl

kept_exact : (set : NameSet) (names : List (List ℕ)) → set.up_to_case ≡ false → (with_names set names).up_to_case ≡ false
kept_exact set [] e = e
kept_exact set (name ∷ names) e = kept_exact (with_name set name) names e

with_names_has : (set : NameSet) (names : List (List ℕ)) (name : List ℕ) → set.up_to_case ≡ false → has_name (with_names set names) name ≡ (has_name set name || list_any (same_bytes name) names)
with_names_has set [] name e = by (has_name set name)
  where
    by : (b : Bool) → b ≡ (b || false)
    by true = refl
    by false = refl
with_names_has set (other ∷ names) name e =
    with_names_has (with_name set other) names name e
    ∙ (ap (λ b. b || list_any (same_bytes name) names) (names_more set other name e)
    ∙ or_in_turn (same_bytes name other) (has_name set name) (list_any (same_bytes name) names))

any_there : (name : List ℕ) (names : List (List ℕ)) → Contains names name → list_any (same_bytes name) names ≡ true
any_there name [] h = absurd (let l = h.1 in omega (arith, l))
any_there name (other ∷ names) h = elim (there_cases other names name h) as (λ _. (same_bytes name other || list_any (same_bytes name) names) ≡ true) [
  | inl e ↦ ap (λ b. b || list_any (same_bytes name) names) ((bytes_eq-Decides name other).1 (sym e))
  | inr m ↦ by (same_bytes name other) (any_there name names m)
]
  where
    by : (b : Bool) {c : Bool} → c ≡ true → (b || c) ≡ true
    by true e = refl
    by false e = e

-- a name that no set has is none of a list that it has
not_there : (name : List ℕ) (names : List (List ℕ)) → list_any (same_bytes name) names ≡ false → ¬ Contains names name
not_there name names e h = false≢true (sym e ∙ any_there name names h)

distinct_more : (names : List (List ℕ)) (name : List ℕ) → AreDistinct names → ¬ Contains names name → AreDistinct (names ++ name ∷ [])
distinct_more [] name d n = (λ h. let l = h.1 in omega (arith, l), tt)
distinct_more (other ∷ names) name d n = (
  λ h. elim (Contains-push_cases names name other h) as (λ _. ⊥) [ inl m ↦ d.0 m | inr e ↦ n (subst (Contains (other ∷ names)) (sym e) (0, omega arith, refl)) ],
  distinct_more names name d.1 (λ m. n (later name m)),
)
  where
    later : (x : List ℕ) → Contains names x → Contains (other ∷ names) x
    later x (k, h, s) = (suc k, omega (arith, h), s)

mapped_there : (wires : List PlainWire) (wire : PlainWire) → Contains (wires ++ wire ∷ []) wire
mapped_there [] wire = (0, omega arith, refl)
mapped_there (w ∷ ws) wire = let r = mapped_there ws wire in (suc r.0, (let l = r.1 in omega (arith, l)), r.2)

-- before the first node
pub given_start : (cell : HCell) (groups : GroupTable) (made : Wires) → HasNoWires cell made → GivesHubs cell groups [] [] made
given_start cell groups made none = record {
  wires = [];
  are_made = record {
    decls = none.decls;
    names = none.names;
    next = λ lesser h. absurd (let z = none.next in omega (arith, h, z));
    exact = ap (λ s. s.up_to_case) none.used ∙ kept_exact (with_names (record { up_to_case = false; names = [] }) ports) instances (kept_exact (record { up_to_case = false; names = [] }) ports refl);
    used = λ name.
        ap (λ s. has_name s name) none.used
        ∙ (with_names_has (with_names (record { up_to_case = false; names = [] }) ports) instances name (kept_exact (record { up_to_case = false; names = [] }) ports refl)
        ∙ (ap (λ b. b || list_any (same_bytes name) instances) (with_names_has (record { up_to_case = false; names = [] }) ports name refl)
        ∙ (sym (list_any-append (same_bytes name) ports instances)
        ∙ ap (list_any (same_bytes name)) (sym (ap (λ l. (ports ++ instances) ++ l) none.names ∙ append-nil (ports ++ instances))))));
    named = record { apart = tt; new = λ wire h. absurd (let l = h.1 in omega (arith, l)); can_be_written = λ wire h. absurd (let l = h.1 in omega (arith, l)) };
    attrs = λ wire h. absurd (let l = h.1 in omega (arith, l));
  };
  are_given = record {
    only = λ root a e. absurd (let f : None ≡ Some a = e in cc);
    all = λ root h. absurd (let l = h.1 in omega (arith, l));
    ports = λ root port bit e. absurd (let f : None ≡ Some (hubs.Port port bit) = e in cc);
    wires_of = λ root number e. absurd (let f : None ≡ Some (hubs.Wire number) = e in cc);
    apart = λ root other number e f. absurd (let g : None ≡ Some (hubs.Wire number) = e in cc);
  };
}
  where
    ports : List (List ℕ)
    ports = map (λ (port : HPort). port.name) cell.ports

    instances : List (List ℕ)
    instances = map (λ (instance : HInst). instance.name) cell.instances

-- the wire that is made for a class
abbrev pub made_wire : HCell → List Node → List ℕ → PlainWire
made_wire cell nodes name = record { attrs = wire_attrs cell nodes; name = name }

-- a wire more
made_more : (cell : HCell) (nodes : List Node) (before after : Wires) (wires : List PlainWire) → AreMade cell before wires → (more : HasOneMore cell nodes before after) → AreMade cell after (wires ++ made_wire cell nodes more.name ∷ [])
made_more cell nodes before after wires made more = record {
  decls = more.decls ∙ (ap (λ l. l ++ wire_item wire ∷ []) made.decls ∙ sym (map_both wire_item wires (wire ∷ [])));
  names = names_are;
  next = more.next;
  exact = ap (λ s. s.up_to_case) more.used ∙ made.exact;
  used = λ name.
      ap (λ s. has_name s name) more.used
      ∙ (names_more before.used more.name name made.exact
      ∙ (ap (λ b. same_bytes name more.name || b) (made.used name)
      ∙ (turned (same_bytes name more.name) (list_any (same_bytes name) (own_names cell ++ before.names))
      ∙ (sym (list_any-append (same_bytes name) (own_names cell ++ before.names) (more.name ∷ []))
      ∙ ap (list_any (same_bytes name)) (append_assoc (own_names cell) before.names (more.name ∷ []) ∙ ap (λ l. own_names cell ++ l) (sym more.names))))));
  named = record {
    apart = subst AreDistinct (sym (map_both (λ (w : PlainWire). w.name) wires (wire ∷ []))) (distinct_more (map (λ (w : PlainWire). w.name) wires) more.name made.named.apart (λ h. free (Contains-append_right (own_names cell) before.names more.name (subst (λ l. Contains l more.name) (sym made.names) h))));
    new = λ w h. elim (Contains-push_cases wires wire w h) as (λ _. ¬ Contains (own_names cell) w.name) [
      | inl m ↦ made.named.new w m
      | inr e ↦ subst (λ (v : PlainWire). ¬ Contains (own_names cell) v.name) e (λ m. free (Contains-append_left (own_names cell) before.names more.name m))
    ];
    can_be_written = λ w h. elim (Contains-push_cases wires wire w h) as (λ _. is_name w.name ≡ true) [
      | inl m ↦ made.named.can_be_written w m
      | inr e ↦ subst (λ (v : PlainWire). is_name v.name ≡ true) e (named_can before.used more.name more.is_named)
    ];
  };
  attrs = λ w h. elim (Contains-push_cases wires wire w h) as (λ _. (ns : List Node) × (w.attrs ≡ wire_attrs cell ns)) [
    | inl m ↦ made.attrs w m
    | inr e ↦ (nodes, ap (λ (v : PlainWire). v.attrs) (sym e))
  ];
}
  where
    wire : PlainWire
    wire = made_wire cell nodes more.name

    names_are : after.names ≡ map (λ (w : PlainWire). w.name) (wires ++ wire ∷ [])
    names_are = more.names ∙ (ap (λ l. l ++ more.name ∷ []) made.names ∙ sym (map_both (λ (w : PlainWire). w.name) wires (wire ∷ [])))

    free : ¬ Contains (own_names cell ++ before.names) more.name
    free = not_there more.name (own_names cell ++ before.names) (sym (made.used more.name) ∙ more.is_new)

    turned : (a b : Bool) → (a || b) ≡ (b || (a || false))
    turned true true = refl
    turned true false = refl
    turned false true = refl
    turned false false = refl

-- after one node more
pub given_more : (cell : HCell) (groups : GroupTable) (done : List Node) (root : Node) (old new : List (Node × Hub)) (before after : Wires) → GivesHubs cell groups done old before → AddsHub cell (around groups root) root old new before after →
    GivesHubs cell groups (done ++ root ∷ []) new after
given_more cell groups done root old new before after has adds = elim adds.is_hub as (λ _. GivesHubs cell groups (done ++ root ∷ []) new after) [
  | inl port ↦ record {
    wires = has.wires;
    are_made = subst (λ m. AreMade cell m has.wires) (sym port.same) has.are_made;
    are_given = with_port cell groups done (hub_in old) (hub_in new) has.wires has.are_given root adds.hub adds.given port.is_hub;
  }
  | inr wire ↦ record {
    wires = has.wires ++ made_wire cell (around groups root) wire.more.name ∷ [];
    are_made = made_more cell (around groups root) before after has.wires has.are_made wire.more;
    are_given = with_wire cell groups done (hub_in old) (hub_in new) has.wires has.are_given root adds.hub adds.given wire.no_port
        (wire.is_hub ∙ ap (λ n. hubs.Wire n) (ap length has.are_made.names ∙ length-map has.wires (λ (w : PlainWire). w.name)))
        (made_wire cell (around groups root) wire.more.name) refl;
  }
]
