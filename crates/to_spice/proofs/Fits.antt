-- The nodes of pins are alike exactly where the pins are locally connected, and they are SPICE words.
use Rattle.std.proofs.Common.{◌≡◌, ℕ, suc, ◌+◌, ◌%◌, ◌^◌, ◌<◌, ◌≤◌, inl, inr, ◌&&◌, nat_le, not, Bool, true, false, if◌then◌else◌, List, [], ◌∷◌, ◌++◌, Option, None, Some, length, map, slice_get, codes, decimal, refl, sym, ◌∙◌, ap, subst, arith, append_assoc, append-nil, Contains}
use Rattle.std.specs.Prelude.{◌↔◌}
use Rattle.std.specs.List.{list_all}
use Rattle.std.specs.Option.{option_map_or}
use Rattle.std.proofs.lemmas.Bool.{false≢true}
use Rattle.std.proofs.lemmas.Bool.Decides.{nat_tests}
use Rattle.std.proofs.lemmas.Fmt.{decimal_by_steps, length-decimal-le}
use Rattle.std.proofs.lemmas.List.Elements.{Contains-append_left, Contains-append_right, Contains-push_cases}
use Rattle.std.proofs.lemmas.List.Folds.{list_all-append}
use Rattle.nl_base.specs.Case.{same_bytes, same_up_to_case}
use Rattle.net_bits.specs.Names.{NameSet, has_name}
use Rattle.net_graph.proofs.WalkLaws.{linked_along, linked_back, linked_itself}
use Rattle.net_hier.specs.Cells.{HasLocalStep, IsLocallyConnected, IsPortBit}
use Rattle.net_hier.specs.Design.{IsCell}
use Rattle.net_hier.specs.declared.cells.HCell.{HCell}
use Rattle.net_hier.specs.declared.cells.HPort.{HPort}
use Rattle.net_hier.specs.declared.nodes.Node.{Node}
use Rattle.net_hier.specs.declared.nodes.Node.TheVariants.{Port}
use Rattle.net_hier.proofs.Near.{local_turn}
use Rattle.net_live.specs.Live.{bit_word}
use Rattle.net_stars.proofs.Lists.{contains_cases}
use Rattle.spice_text.specs.Words.{is_name_byte, is_spice_word}
use Rattle.spice_partners.specs.Places.{place_in}
use Rattle.spice_partners.proofs.Lists.{IsBitOf, element_at, one_bit, word_there}
use Rattle.spice_partners.proofs.Words.{alike_small, any_there, small_alike}
use Rattle.to_spice_nodes.specs.Naming.{Given, IsNewName, if_free, is_free, used_names}
use Rattle.to_spice_nodes.specs.Nodes.{AreNodes, IsNode, IsUnnamed, is_new, next_node, no_nodes, of_pin, of_port, paired}
use Rattle.to_spice_rules.specs.Answers.{KeepsRules}
use Rattle.to_spice_rules.specs.PortWords.{port_words, word_of}
use Rattle.to_spice_rules.proofs.Kept.{are_words, one_of_word}
use Rattle.to_spice.proofs.Bits.{one_port}

-- ---- words
-- a name that is made of a number is a SPICE word
digit_byte : (d : ℕ) → d < 10 → is_name_byte (48 + d) ≡ true
unfolding is_name_byte
digit_byte d h = grind (arith, nat_tests)

digits_are : (n : ℕ) → n < 2 ^ 64 → list_all is_name_byte (decimal n) ≡ true
digits_are n h = decimal_by_steps (λ n ds. list_all is_name_byte ds ≡ true) one more n h
  where
    one : (n : ℕ) → n < 10 → list_all is_name_byte ((48 + n) ∷ []) ≡ true
    one n h = ap (λ b. b && true) (digit_byte n h)

    more : (n : ℕ) (ds : List ℕ) → 10 ≤ n → list_all is_name_byte ds ≡ true → list_all is_name_byte (ds ++ (48 + n % 10) ∷ []) ≡ true
    more n ds h rest =
        let m : n % 10 < 10 = omega arith in
        list_all-append is_name_byte ds ((48 + n % 10) ∷ []) ∙ (ap (λ b. b && (is_name_byte (48 + n % 10) && true)) rest ∙ ap (λ b. b && true) (digit_byte (n % 10) m))

no_ground : (digits : List ℕ) → same_bytes (110 ∷ digits) (codes "0") ≡ false
no_ground [] = refl
no_ground (d ∷ digits) = refl

number_is_word : (n : ℕ) → n < 2 ^ 64 → is_spice_word (110 ∷ decimal n) ≡ true
unfolding is_spice_word is_name_byte
number_is_word n h =
    let l : length (decimal n) ≤ 20 = length-decimal-le 20 n (omega arith) (omega (arith, h)) h in
    let a : nat_le 1 (suc (length (decimal n))) ≡ true = grind (arith, nat_tests) in
    let b : nat_le (suc (length (decimal n))) 1100 ≡ true = grind (arith, nat_tests) in
    let c : not (same_bytes (110 ∷ decimal n) (codes "0")) ≡ true = ap not (no_ground (decimal n)) in
    let d : list_all is_name_byte (110 ∷ decimal n) ≡ true = ap (λ b. is_name_byte 110 && b) (digits_are n h) in
    λ i. a i && b i && c i && d i

-- a name that is free
free_is : (used : NameSet) (net : Option (List ℕ)) (free : List ℕ) → if_free used net ≡ Some free → is_free used free ≡ true
free_is used None free e = absurd cc
free_is used (Some name) free e = by (is_free used name) refl e
  where
    by : (b : Bool) → is_free used name ≡ b → (if b then Some name else None) ≡ Some free → is_free used free ≡ true
    by true is f = let same : name ≡ free = cc in ap (is_free used) (sym same) ∙ is
    by false is f = absurd cc

both : (p q : Bool) → (p && q) ≡ true → (p ≡ true) × (q ≡ true)
both true true h = (refl, refl)
both true false h = cc
both false q h = cc

is_not : (b : Bool) → not b ≡ true → b ≡ false
is_not true h = cc
is_not false h = refl

-- a new name is a word that is not used
new_is : (used : NameSet) (free : Option (List ℕ)) (name : List ℕ) → ((f : List ℕ) → free ≡ Some f → is_free used f ≡ true) → IsNewName used free name → (is_spice_word name ≡ true) × (has_name used name ≡ false)
new_is used (Some free) name can is =
    let ok : is_free used name ≡ true = ap (is_free used) is ∙ can free refl in
    let parts = both (is_spice_word name && nat_le (length name) 1024) (not (has_name used name)) ok in
    ((both (is_spice_word name) (nat_le (length name) 1024) parts.0).0, is_not (has_name used name) parts.1)
new_is used None name can is = (ap is_spice_word is.2.is_name ∙ number_is_word is.0 is.1, is.2.is_new)

-- ---- alike
alike_itself : (a : List ℕ) → same_up_to_case a a ≡ true
alike_itself a = small_alike a a refl

alike_back : (a b : List ℕ) → same_up_to_case a b ≡ true → same_up_to_case b a ≡ true
alike_back a b h = small_alike b a (sym (alike_small a b h))

alike_along : (a b c : List ℕ) → same_up_to_case a b ≡ true → same_up_to_case b c ≡ true → same_up_to_case a c ≡ true
alike_along a b c h g = small_alike a c (alike_small a b h ∙ alike_small b c g)

-- ---- one cell
module _ (cells : List HCell) (keeps : KeepsRules cells) (number : ℕ) (cell : HCell) (is_cell : IsCell cells number cell) where
  abbrev Linked : Node → Node → Type 0
  Linked = IsLocallyConnected cell

  back : {x y : Node} → Linked x y → Linked y x
  back link = linked_back (HasLocalStep cell) (λ v w s. local_turn s) link

  abbrev port_word : ℕ → ℕ → List ℕ
  port_word p b = word_of cell (Port p b)

  -- the word of a port bit stands among the words
  pub port_word_there : (p b : ℕ) → IsPortBit cell p b → slice_get (port_words cell) (place_in cell.ports p b) ≡ Some (port_word p b)
  port_word_there p b is =
      let w : IsBitOf cell.ports p b = record { the_port = is.the_port; is_there = is.is_there; within = is.within } in
      word_there cell.ports p b w ∙ sym (ap (λ o. Some (option_map_or (λ (port : HPort). bit_word port b) o [])) is.is_there)

  -- words of port bits are alike exactly where the bits are connected
  pub ports_alike : (p b q c : ℕ) → IsPortBit cell p b → IsPortBit cell q c → (same_up_to_case (port_word p b) (port_word q c) ≡ true) ↔ Linked (Port p b) (Port q c)
  ports_alike p b q c x y = (
    λ h.
        let e = one_of_word cells keeps number cell is_cell (place_in cell.ports p b) (place_in cell.ports q c) (port_word p b) (port_word q c) (port_word_there p b x) (port_word_there q c y) h in
        let r = one_bit cell.ports p b q c (record { the_port = x.the_port; is_there = x.is_there; within = x.within }) (record { the_port = y.the_port; is_there = y.is_there; within = y.within }) e in
        let same : Port p b ≡ Port q c = λ i. Port (r.0 i) (r.1 i) in
        subst (Linked (Port p b)) same (linked_itself (HasLocalStep cell) (Port p b)),
    λ link.
        let r = one_port cell (keeps.connections.ports number cell is_cell) p b q c x y link in
        let same : port_word p b ≡ port_word q c = λ i. port_word (r.0 i) (r.1 i) in
        subst (λ w. same_up_to_case (port_word p b) w ≡ true) same (alike_itself (port_word p b)),
  )

  -- what holds of the nodes so far
  pub record NodesFit (given : Given) : Type 0 where
    pub own : (x y : Node) (n m : List ℕ) → Contains given (x, n) → Contains given (y, m) → (same_up_to_case n m ≡ true) ↔ Linked x y
    pub ports : (x : Node) (n : List ℕ) (p b : ℕ) → Contains given (x, n) → IsPortBit cell p b → (same_up_to_case n (port_word p b) ≡ true) ↔ Linked x (Port p b)
    pub words : (x : Node) (n : List ℕ) → Contains given (x, n) → is_spice_word n ≡ true

  pub none_fit : NodesFit []
  none_fit = record {
    own = λ x y n m h k. absurd (let l = h.1 in omega (arith, l));
    ports = λ x n p b h is. absurd (let l = h.1 in omega (arith, l));
    words = λ x n h. absurd (let l = h.1 in omega (arith, l));
  }

  -- what holds of one node and those before
  record NodeFits (given : Given) (pin : Node) (name : List ℕ) : Type 0 where
    own : (y : Node) (m : List ℕ) → Contains given (y, m) → (same_up_to_case name m ≡ true) ↔ Linked pin y
    ports : (p b : ℕ) → IsPortBit cell p b → (same_up_to_case name (port_word p b) ≡ true) ↔ Linked pin (Port p b)
    word : is_spice_word name ≡ true

  abbrev Agrees : Node → Node → List ℕ → List ℕ → Type 0
  Agrees x y n m = (same_up_to_case n m ≡ true) ↔ Linked x y

  module _ (given : Given) (pin : Node) (name : List ℕ) (fit : NodesFit given) (here : NodeFits given pin name) where
    abbrev Listed : Node → List ℕ → Type 0
    Listed x n = Contains (given ++ (pin, name) ∷ []) (x, n)

    turned : (y : Node) (m : List ℕ) → Contains given (y, m) → Agrees y pin m name
    turned y m h = (λ t. back ((here.own y m h).0 (alike_back m name t)), λ link. alike_back name m ((here.own y m h).1 (back link)))

    own_more : (x y : Node) (n m : List ℕ) → Listed x n → Listed y m → Agrees x y n m
    own_more x y n m h k = elim (Contains-push_cases given (pin, name) (x, n) h) as (λ _. Agrees x y n m) [
      | inl hx ↦ elim (Contains-push_cases given (pin, name) (y, m) k) as (λ _. Agrees x y n m) [
        | inl ky ↦ fit.own x y n m hx ky
        | inr e ↦ subst (λ (p : Node × List ℕ). Agrees x p.0 n p.1) e (turned x n hx)
      ]
      | inr e ↦ elim (Contains-push_cases given (pin, name) (y, m) k) as (λ _. Agrees x y n m) [
        | inl ky ↦ subst (λ (p : Node × List ℕ). Agrees p.0 y p.1 m) e (here.own y m ky)
        | inr f ↦ subst (λ (p : Node × List ℕ). Agrees p.0 y p.1 m) e (subst (λ (p : Node × List ℕ). Agrees pin p.0 name p.1) f (λ t. linked_itself (HasLocalStep cell) pin, λ link. alike_itself name))
      ]
    ]

    ports_more : (x : Node) (n : List ℕ) (p b : ℕ) → Listed x n → IsPortBit cell p b → Agrees x (Port p b) n (port_word p b)
    ports_more x n p b h is = elim (Contains-push_cases given (pin, name) (x, n) h) as (λ _. Agrees x (Port p b) n (port_word p b)) [
      | inl hx ↦ fit.ports x n p b hx is
      | inr e ↦ subst (λ (q : Node × List ℕ). Agrees q.0 (Port p b) q.1 (port_word p b)) e (here.ports p b is)
    ]

    words_more : (x : Node) (n : List ℕ) → Listed x n → is_spice_word n ≡ true
    words_more x n h = elim (Contains-push_cases given (pin, name) (x, n) h) as (λ _. is_spice_word n ≡ true) [
      | inl hx ↦ fit.words x n hx
      | inr e ↦ sym (ap (λ (q : Node × List ℕ). is_spice_word q.1) e) ∙ here.word
    ]

    fits_more : NodesFit (given ++ (pin, name) ∷ [])
    fits_more = record { own = own_more; ports = ports_more; words = words_more }

  -- the node is the word of a port bit
  fits_port : (given : Given) (pin : Node) (p b : ℕ) → NodesFit given → IsPortBit cell p b → Linked pin (Port p b) → NodeFits given pin (port_word p b)
  fits_port given pin p b fit is link = record {
    own = λ y m h. (
      λ t. linked_along link (back ((fit.ports y m p b h is).0 (alike_back (port_word p b) m t))),
      λ l. alike_back m (port_word p b) ((fit.ports y m p b h is).1 (linked_along (back l) link)),
    );
    ports = λ q c ois. (
      λ t. linked_along link ((ports_alike p b q c is ois).0 t),
      λ l. (ports_alike p b q c is ois).1 (linked_along (back link) l),
    );
    word = (are_words cells keeps number cell is_cell).1 (place_in cell.ports p b) (port_word p b) (port_word_there p b is);
  }

  -- the node is that of an earlier pin
  fits_pin : (given : Given) (pin other : Node) (name : List ℕ) → NodesFit given → Contains given (other, name) → Linked pin other → NodeFits given pin name
  fits_pin given pin other name fit h link = record {
    own = λ y m k. (
      λ t. linked_along link ((fit.own other y name m h k).0 t),
      λ l. (fit.own other y name m h k).1 (linked_along (back link) l),
    );
    ports = λ q c is. (
      λ t. linked_along link ((fit.ports other name q c h is).0 t),
      λ l. (fit.ports other name q c h is).1 (linked_along (back link) l),
    );
    word = fit.words other name h;
  }

  used_there : (given : Given) (y : Node) (m : List ℕ) → Contains given (y, m) → Contains (used_names cell given).names m
  used_there given y m h = Contains-append_right (port_words cell) (map (λ (p : Node × List ℕ). p.1) given) m (seconds given h)
    where
      seconds : (gs : Given) → Contains gs (y, m) → Contains (map (λ (p : Node × List ℕ). p.1) gs) m
      seconds [] k = absurd (let l = k.1 in omega (arith, l))
      seconds (g ∷ gs) k = elim (contains_cases g (y, m) gs k) as (λ _. Contains (map (λ (p : Node × List ℕ). p.1) (g ∷ gs)) m) [
        | inl e ↦ (0, omega arith, ap (λ (p : Node × List ℕ). p.1) e)
        | inr later ↦ let r = seconds gs later in let l = r.1 in (suc r.0, omega (arith, l), r.2)
      ]

  not_alike : (given : Given) (name m : List ℕ) → has_name (used_names cell given) name ≡ false → Contains (used_names cell given).names m → ¬ (same_up_to_case name m ≡ true)
  not_alike given name m free h t = false≢true (sym free ∙ any_there (same_up_to_case name) (used_names cell given).names m h t)

  -- the node is new
  fits_new : (given : Given) (pin : Node) (name : List ℕ) → NodesFit given → IsUnnamed cell given pin → (is_spice_word name ≡ true) × (has_name (used_names cell given) name ≡ false) → NodeFits given pin name
  fits_new given pin name fit none new = record {
    own = λ y m h. (λ t. absurd (not_alike given name m new.1 (used_there given y m h) t), λ l. absurd (none.no_pin y m h l));
    ports = λ p b is. (
      λ t. absurd (not_alike given name (port_word p b) new.1 (Contains-append_left (port_words cell) _ _ (element_at (port_words cell) (place_in cell.ports p b) (port_word p b) (port_word_there p b is))) t),
      λ l. absurd (none.no_port p b is l),
    );
    word = new.0;
  }

  node_fits : (given : Given) (pin : Node) (name : List ℕ) → NodesFit given → IsNode cell given pin name → NodeFits given pin name
  node_fits given pin name fit (of_port p b is link e) = subst (NodeFits given pin) (sym e) (fits_port given pin p b fit is link)
  node_fits given pin name fit (of_pin other h link) = fits_pin given pin other name fit h link
  node_fits given pin name fit (is_new none net first is) =
      fits_new given pin name fit none (new_is (used_names cell given) (if_free (used_names cell given) net) name (λ f e. free_is (used_names cell given) net f e) is)

  -- pins more
  pub nodes_fit : {given : Given} {pins : List Node} {names : List (List ℕ)} → AreNodes cell given pins names → NodesFit given → NodesFit (given ++ paired pins names)
  nodes_fit (no_nodes {given = given}) fit = subst NodesFit (sym (append-nil given)) fit
  nodes_fit (next_node {given = given} {pin = pin} {name = name} {pins = pins} {names = names} here rest) fit =
      subst NodesFit (append_assoc given ((pin, name) ∷ []) (paired pins names)) (nodes_fit rest (fits_more given pin name fit (node_fits given pin name fit here)))

-- there are as many nodes as pins
pub nodes_long : {cell : HCell} {given : Given} {pins : List Node} {names : List (List ℕ)} → AreNodes cell given pins names → length names ≡ length pins
nodes_long no_nodes = refl
nodes_long (next_node here rest) = ap suc (nodes_long rest)
