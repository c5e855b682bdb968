-- A pin more is given its node.
use Rattle.std.proofs.Common.{◌≡◌, ℕ, suc, ◌⊎◌, inl, inr, ◌||◌, ◌&&◌, nat_le, not, Bool, true, false, cond, if◌then◌else◌, List, [], ◌∷◌, ◌++◌, Option, None, Some, length, map, codes, refl, sym, ◌∙◌, ap, subst, arith, append_assoc, append-nil, Contains}
use Rattle.std.specs.List.{list_any}
use Rattle.std.specs.Map.{lookup}
use Rattle.std.proofs.lemmas.Bool.{false≢true}
use Rattle.std.proofs.lemmas.List.{map-append}
use Rattle.std.proofs.lemmas.List.Elements.{Contains-append_left, Contains-append_right, Contains-push, Contains-push_cases}
use Rattle.std.proofs.lemmas.List.Folds.{list_any-append}
use Rattle.net_bits.specs.Classes.{AreClasses, ClassTable}
use Rattle.net_bits.specs.Names.{AreUsed, NameSet, alike, has_name, numbered, with_name}
use Rattle.net_bits.specs.Neighbours.{same_node}
use Rattle.net_bits.proofs.CallerLaws.{has-with_name, used-with_name}
use Rattle.net_hier.specs.NodeTies.{node_ties}
use Rattle.net_hier.specs.contracts.nodes.NodePartialEq.TheImpl.{eq-value}
use Rattle.net_hier.specs.declared.cells.HCell.{HCell}
use Rattle.net_hier.specs.declared.nodes.Node.{Node}
use Rattle.net_hier.specs.declared.nodes.Node.TheVariants.{Port}
use Rattle.net_stars.proofs.Lists.{contains_cases}
use Rattle.spice_text.specs.Words.{is_spice_word}
use Rattle.to_spice_rules.specs.PortWords.{port_words, word_of}
use Rattle.to_spice_rules.proofs.Sets.{case_kept, has_with_names}
use Rattle.to_spice_nodes.specs.Naming.{Given, IsNewName, if_free, used_names}
use Rattle.to_spice_nodes.specs.Nodes.{AreNodes, IsNode, IsUnnamed, is_new, next_node, no_nodes, of_pin, of_port, paired}
use Rattle.to_spice_nodes.specs.Table.{AddsName, GivesName, GivesNode, GivesNodes, HasGiven, HasNoNodes, HasOwnNodes, IsPinNode, IsPortNode, IsSameBut, NodeTable, around, name_in, net_name, root}
use Rattle.to_spice_nodes.proofs.Firsts.{net_is, no_port_root, port_root, root_back, same_root}
use Rattle.to_spice_nodes.proofs.SameNodes.{same_node-Decides}

-- ---- the names that are used
any_has : {X : Type 0} (p : X → Bool) (xs : List X) (x : X) → Contains xs x → p x ≡ true → list_any p xs ≡ true
any_has p [] x h t = absurd (let l = h.1 in omega (arith, l))
any_has p (y ∷ ys) x h t = by (p y) refl (contains_cases y x ys h) (λ m. any_has p ys x m t)
  where
    by : (b : Bool) → p y ≡ b → (y ≡ x) ⊎ Contains ys x → (Contains ys x → list_any p ys ≡ true) → (b || list_any p ys) ≡ true
    by true e c rest = refl
    by false e (inl same) rest = absurd (false≢true (sym e ∙ (ap p same ∙ t)))
    by false e (inr m) rest = rest m

-- a name that is there already adds nothing
again : {X : Type 0} (p : X → Bool) (xs : List X) (x : X) → Contains xs x → (list_any p xs || p x) ≡ list_any p xs
again p xs x h = by (p x) refl
  where
    both : (b : Bool) → b ≡ true → (b || true) ≡ b
    both true e = refl
    both false e = cc

    none : (b : Bool) → (b || false) ≡ b
    none true = refl
    none false = refl

    by : (b : Bool) → p x ≡ b → (list_any p xs || b) ≡ list_any p xs
    by true e = both (list_any p xs) (any_has p xs x h e)
    by false e = none (list_any p xs)

swap_or : (a b : Bool) → (a || b) ≡ (b || a)
swap_or true true = refl
swap_or true false = refl
swap_or false true = refl
swap_or false false = refl

or_false : (b : Bool) → (b || false) ≡ b
or_false true = refl
or_false false = refl

-- the names that are used with a node more
used_more : (cell : HCell) (given : Given) (pin : Node) (name other : List ℕ) → has_name (used_names cell (given ++ (pin, name) ∷ [])) other ≡ (has_name (used_names cell given) other || alike true other name)
used_more cell given pin name other =
    let second : Node × List ℕ → List ℕ = λ p. p.1 in
    let names : List (List ℕ) = port_words cell ++ map second given in
    let e : port_words cell ++ map second (given ++ (pin, name) ∷ []) ≡ names ++ name ∷ [] = ap (λ l. port_words cell ++ l) (map-append second given ((pin, name) ∷ [])) ∙ sym (append_assoc (port_words cell) (map second given) (name ∷ [])) in
    ap (list_any (alike true other)) e ∙ (list_any-append (alike true other) names (name ∷ []) ∙ ap (λ b. list_any (alike true other) names || b) (or_false (alike true other name)))

-- sets that have the same names have the same free ones
free_same : (used set : NameSet) → ((name : List ℕ) → has_name used name ≡ has_name set name) → (net : Option (List ℕ)) → if_free used net ≡ if_free set net
free_same used set same None = refl
free_same used set same (Some name) = ap (λ b. if is_spice_word name && nat_le (length name) 1024 && not b then Some name else None) (same name)

new_same : (used set : NameSet) → ((name : List ℕ) → has_name used name ≡ has_name set name) → (free : Option (List ℕ)) (name : List ℕ) → IsNewName used free name → IsNewName set free name
new_same used set same (Some free) name is = is
new_same used set same None name is = (is.0, is.1, record { is_name = is.2.is_name; is_new = sym (same name) ∙ is.2.is_new; is_least = λ lesser lt. sym (same (numbered (codes "n") lesser)) ∙ is.2.is_least lesser lt })

-- ---- one pin
module _ (cell : HCell) (classes : ClassTable) (are : AreClasses cell classes) (own : HasOwnNodes cell) (pin : Node) (is_pin : IsPinNode pin) (old new : NodeTable) (name : List ℕ) where
  -- the node is used already: the table stays as it is
  module _ (given : Given) (has : HasGiven cell classes given old) (same : new ≡ old) (there : Contains (port_words cell ++ map (λ (p : Node × List ℕ). p.1) given) name)
      (stands : IsPortNode (root classes pin) ⊎ (name_in old.names (root classes pin) ≡ Some name)) where
    kept_used : HasGiven cell classes (given ++ (pin, name) ∷ []) old
    kept_used = record {
      kept = λ other oname h. elim (Contains-push_cases given (pin, name) (other, oname) h) as (λ _. IsPortNode (root classes other) ⊎ (name_in old.names (root classes other) ≡ Some oname)) [
        | inl before ↦ has.kept other oname before
        | inr e ↦ subst (λ (p : Node × List ℕ). IsPortNode (root classes p.0) ⊎ (name_in old.names (root classes p.0) ≡ Some p.1)) e stands
      ];
      found = λ node oname e. let f = has.found node oname e in (f.0, Contains-append_left given ((pin, name) ∷ []) (f.0, oname) f.1, f.2);
      folded = has.folded;
      used = λ other. has.used other ∙ sym (used_more cell given pin name other ∙ again (alike true other) (port_words cell ++ map (λ (p : Node × List ℕ). p.1) given) name there);
      next = has.next;
    }

    still_given : HasGiven cell classes (given ++ (pin, name) ∷ []) new
    still_given = subst (HasGiven cell classes (given ++ (pin, name) ∷ [])) (sym same) kept_used

  -- the word of a port bit
  pub gives_port : (port bit : ℕ) → root classes pin ≡ Port port bit → Contains (port_words cell) (word_of cell (Port port bit)) → name ≡ word_of cell (Port port bit) → new ≡ old → GivesNode cell classes pin old new name
  gives_port port bit e there is same =
      let r = port_root cell classes are own pin is_pin port bit e in
      record {
        is_node = λ given has. of_port port bit r.0 r.1 is;
        has_given = λ given has. still_given given has same (subst (Contains (port_words cell ++ map (λ (p : Node × List ℕ). p.1) given)) (sym is) (Contains-append_left (port_words cell) _ _ there)) (inl (port, bit, e));
      }

  second_there : (given : Given) (other : Node) (oname : List ℕ) → Contains given (other, oname) → Contains (map (λ (p : Node × List ℕ). p.1) given) oname
  second_there [] other oname h = absurd (let l = h.1 in omega (arith, l))
  second_there (g ∷ given) other oname h = elim (contains_cases g (other, oname) given h) as (λ _. Contains (map (λ (p : Node × List ℕ). p.1) (g ∷ given)) oname) [
    | inl e ↦ (0, omega arith, ap (λ (p : Node × List ℕ). p.1) e)
    | inr later ↦ let r = second_there given other oname later in let l = r.1 in (suc r.0, omega (arith, l), r.2)
  ]

  -- the node of a class that has one
  gives_known : name_in old.names (root classes pin) ≡ Some name → new ≡ old → GivesNode cell classes pin old new name
  gives_known e same = record {
    is_node = λ given has. let f = has.found (root classes pin) name e in of_pin f.0 f.1 (root_back cell classes are pin f.0 (sym f.2));
    has_given = λ given has.
        let f = has.found (root classes pin) name e in
        still_given given has same (Contains-append_right (port_words cell) _ _ (second_there given f.0 name f.1)) (inr e);
  }

  -- a new node
  module _ (none : ¬ IsPortNode (root classes pin)) (adds : AddsName cell (around classes pin) (root classes pin) old new name) where
    unnamed : (given : Given) → HasGiven cell classes given old → IsUnnamed cell given pin
    unnamed given has = record {
      no_port = λ port bit is link. no_port_root cell classes are pin is_pin none port bit link;
      no_pin = λ other oname h link.
          let e : root classes pin ≡ root classes other = same_root cell classes are pin other link in
          elim (has.kept other oname h) as (λ _. ⊥) [
            | inl port ↦ none (subst IsPortNode (sym e) port)
            | inr there ↦ let f : None ≡ Some oname = sym adds.was_new ∙ (ap (name_in old.names) e ∙ there) in cc
          ];
    }

    new_used : (given : Given) → HasGiven cell classes given old → (other : List ℕ) → has_name new.used other ≡ has_name (used_names cell (given ++ (pin, name) ∷ [])) other
    new_used given has other =
        ap (λ s. has_name s other) adds.used ∙ (has-with_name old.used name other
        ∙ (ap (λ c. alike c other name || has_name old.used other) has.folded
        ∙ (ap (λ b. alike true other name || b) (has.used other)
        ∙ (swap_or (alike true other name) (has_name (used_names cell given) other) ∙ sym (used_more cell given pin name other)))))

    name_of_own : name_in new.names (root classes pin) ≡ Some name
    name_of_own = adds.names (root classes pin) ∙ ap (λ b. cond b (Some name) (name_in old.names (root classes pin))) ((same_node-Decides (root classes pin) (root classes pin)).1 refl)

    name_of_other : (node : Node) (oname : List ℕ) → name_in old.names node ≡ Some oname → name_in new.names node ≡ Some oname
    name_of_other node oname e = adds.names node ∙ by (same_node (root classes pin) node) refl
      where
        by : (b : Bool) → same_node (root classes pin) node ≡ b → cond b (Some name) (name_in old.names node) ≡ Some oname
        by true is = absurd (let f : None ≡ Some oname = sym adds.was_new ∙ (ap (name_in old.names) ((same_node-Decides (root classes pin) node).0 is) ∙ e) in cc)
        by false is = e

    own_found : (given : Given) → HasGiven cell classes given old → (node : Node) (oname : List ℕ) → name_in new.names node ≡ Some oname → (q : Node) × Contains (given ++ (pin, name) ∷ []) (q, oname) × (root classes q ≡ node)
    own_found given has node oname e = by (same_node (root classes pin) node) refl (sym (adds.names node) ∙ e)
      where
        by : (b : Bool) → same_node (root classes pin) node ≡ b → cond b (Some name) (name_in old.names node) ≡ Some oname → (q : Node) × Contains (given ++ (pin, name) ∷ []) (q, oname) × (root classes q ≡ node)
        by true is f = let g : name ≡ oname = cc in (pin, subst (λ n. Contains (given ++ (pin, name) ∷ []) (pin, n)) g (Contains-push given (pin, name)), (same_node-Decides (root classes pin) node).0 is)
        by false is f = let r = has.found node oname f in (r.0, Contains-append_left given ((pin, name) ∷ []) (r.0, oname) r.1, r.2)

    gives_new : GivesNode cell classes pin old new name
    gives_new = record {
      is_node = λ given has.
          let set : NameSet = used_names cell given in
          let free : IsNewName old.used (if_free set (net_name cell (around classes pin))) name = subst (λ o. IsNewName old.used o name) (free_same old.used set has.used (net_name cell (around classes pin))) adds.is_new in
          is_new (unnamed given has) (net_name cell (around classes pin)) (net_is cell classes are own pin is_pin) (new_same old.used set has.used (if_free set (net_name cell (around classes pin))) name free);
      has_given = λ given has. record {
        kept = λ other oname h. elim (Contains-push_cases given (pin, name) (other, oname) h) as (λ _. IsPortNode (root classes other) ⊎ (name_in new.names (root classes other) ≡ Some oname)) [
          | inl before ↦ elim (has.kept other oname before) as (λ _. IsPortNode (root classes other) ⊎ (name_in new.names (root classes other) ≡ Some oname)) [
            | inl port ↦ inl port
            | inr there ↦ inr (name_of_other (root classes other) oname there)
          ]
          | inr e ↦ inr (subst (λ (p : Node × List ℕ). name_in new.names (root classes p.0) ≡ Some p.1) e name_of_own)
        ];
        found = own_found given has;
        folded = ap (λ (s : NameSet). s.up_to_case) adds.used ∙ has.folded;
        used = new_used given has;
        next = adds.next;
      };
    }

  -- the node of a class without a port bit
  pub gives_class : ¬ IsPortNode (root classes pin) → GivesName cell (around classes pin) (root classes pin) old new name → GivesNode cell classes pin old new name
  gives_class none (inl known) = gives_known known.0 known.1
  gives_class none (inr adds) = gives_new none adds

-- ---- pins, one after another
more_nodes : {cell : HCell} {given : Given} {pins : List Node} {names : List (List ℕ)} → AreNodes cell given pins names → (pin : Node) (name : List ℕ) → IsNode cell (given ++ paired pins names) pin name → AreNodes cell given (pins ++ pin ∷ []) (names ++ name ∷ [])
more_nodes {cell = cell} (no_nodes {given = given}) pin name is = next_node (subst (λ g. IsNode cell g pin name) (append-nil given) is) no_nodes
more_nodes {cell = cell} (next_node {given = given} {pin = first} {name = fname} {pins = pins} {names = names} here rest) pin name is =
    next_node here (more_nodes rest pin name (subst (λ g. IsNode cell g pin name) (sym (append_assoc given ((first, fname) ∷ []) (paired pins names))) is))

pub more_paired : {cell : HCell} {given : Given} {pins : List Node} {names : List (List ℕ)} → AreNodes cell given pins names → (pin : Node) (name : List ℕ) → paired (pins ++ pin ∷ []) (names ++ name ∷ []) ≡ paired pins names ++ (pin, name) ∷ []
more_paired no_nodes pin name = refl
more_paired (next_node {pin = first} {name = fname} here rest) pin name = ap (λ l. (first, fname) ∷ l) (more_paired rest pin name)

-- no pins
pub gives_none : (cell : HCell) (classes : ClassTable) (table : NodeTable) → GivesNodes cell classes [] table table []
gives_none cell classes table = record { are_nodes = λ given has. no_nodes; has_given = λ given has. subst (λ g. HasGiven cell classes g table) (sym (append-nil given)) has }

-- a pin more
pub gives_more : (cell : HCell) (classes : ClassTable) (pins : List Node) (pin : Node) (old middle new : NodeTable) (names : List (List ℕ)) (name : List ℕ) →
    GivesNodes cell classes pins old middle names → GivesNode cell classes pin middle new name → GivesNodes cell classes (pins ++ pin ∷ []) old new (names ++ name ∷ [])
gives_more cell classes pins pin old middle new names name before here = record {
  are_nodes = λ given has. more_nodes (before.are_nodes given has) pin name (here.is_node (given ++ paired pins names) (before.has_given given has));
  has_given = λ given has.
      let e : (given ++ paired pins names) ++ (pin, name) ∷ [] ≡ given ++ paired (pins ++ pin ∷ []) (names ++ name ∷ []) = append_assoc given (paired pins names) ((pin, name) ∷ []) ∙ ap (λ l. given ++ l) (sym (more_paired (before.are_nodes given has) pin name)) in
      subst (λ g. HasGiven cell classes g new) e (here.has_given (given ++ paired pins names) (before.has_given given has));
}

-- no pin has a node at first
pub given_none : (cell : HCell) (classes : ClassTable) (table : NodeTable) → HasNoNodes cell table → HasGiven cell classes [] table
given_none cell classes table is = record {
  kept = λ pin name h. absurd (let l = h.1 in omega (arith, l));
  found = λ node name e. absurd (let f : None ≡ Some name = sym (ap (λ l. name_in l node) is.names) ∙ e in cc);
  folded = ap (λ (s : NameSet). s.up_to_case) is.used ∙ case_kept (record { up_to_case = true; names = [] }) (port_words cell);
  used = λ name. ap (λ s. has_name s name) is.used ∙ (has_with_names (record { up_to_case = true; names = [] }) (port_words cell) name ∙ ap (list_any (alike true name)) (sym (append-nil (port_words cell))));
  next = λ lesser lt. absurd (let e = is.next in omega (arith, lt, e));
}

-- ---- the table
-- the two tests of whether nodes are the same
pub looked_up : (names : List (Node × List ℕ)) (node : Node) → lookup (eq-value.it node) names ≡ name_in names node
looked_up names node = λ i. lookup (λ x. node_ties node x i) names

-- a name was put into the table
pub name_added : (cell : HCell) (nodes : List Node) (node : Node) (old middle inside : NodeTable) (entries : List (Node × List ℕ)) (used : NameSet) (name kept : List ℕ) → name_in old.names node ≡ None →
    IsNewName old.used (if_free old.used (net_name cell nodes)) name → IsSameBut old middle → AreUsed middle.used (codes "n") middle.next → inside ≡ middle →
    ((other : Node) → lookup (eq-value.it other) entries ≡ cond (eq-value.it node other) (Some kept) (lookup (eq-value.it other) inside.names)) → kept ≡ name → used ≡ with_name inside.used name →
    AddsName cell nodes node old (record { names = entries; used = used; next = inside.next }) name
name_added cell nodes node old middle inside entries used name kept was new same free is put copy added =
    let names_are : inside.names ≡ old.names = ap (λ (t : NodeTable). t.names) is ∙ same.names in
    let used_is : inside.used ≡ old.used = ap (λ (t : NodeTable). t.used) is ∙ same.used in
    record {
      was_new = was;
      is_new = new;
      names = λ other.
          sym (looked_up entries other) ∙ (put other ∙ (ap (λ b. cond b (Some kept) (lookup (eq-value.it other) inside.names)) (node_ties node other)
          ∙ (ap (λ o. cond (same_node node other) (Some kept) o) (looked_up inside.names other ∙ ap (λ l. name_in l other) names_are) ∙ ap (λ n. cond (same_node node other) (Some n) (name_in old.names other)) copy)));
      used = added ∙ ap (λ s. with_name s name) used_is;
      next = subst (λ s. AreUsed s (codes "n") inside.next) (sym added)
          (used-with_name inside.used name (codes "n") inside.next (subst (λ (t : NodeTable). AreUsed t.used (codes "n") t.next) (sym is) free));
    }

pub name_next : (cell : HCell) (nodes : List Node) (node : Node) (old new : NodeTable) (name : List ℕ) → AreUsed old.used (codes "n") old.next → GivesName cell nodes node old new name → AreUsed new.used (codes "n") new.next
name_next cell nodes node old new name free (inl known) = subst (λ (t : NodeTable). AreUsed t.used (codes "n") t.next) (sym known.1) free
name_next cell nodes node old new name free (inr adds) = adds.next
