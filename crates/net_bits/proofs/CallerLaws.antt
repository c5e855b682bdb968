-- What callers cite of classes and of names.
use Rattle.std.proofs.Common.{◌≡◌, ℕ, ◌+◌, ◌||◌, ◌⊎◌, ◌↔◌, inl, inr, Bool, true, false, List, [], ◌∷◌, Option, Some, None, map, refl, sym, ◌∙◌, ap, subst, Contains}
use Rattle.std.specs.List.{fold}
use Rattle.std.proofs.Math.Bool.{or-true}
use Rattle.std.proofs.lemmas.Bool.{eqb-true, eq-eqb}
use Rattle.std.proofs.lemmas.Slice.Eq.{bytes_eq-Decides}
use Rattle.nl_base.specs.Case.{small}
use Rattle.net_graph.specs.Walks.{Leads}
use Rattle.net_hier.specs.Cells.{HasLocalStep, IsLocallyConnected}
use Rattle.net_hier.specs.declared.cells.HCell.{HCell}
use Rattle.net_hier.specs.declared.nodes.Node.{Node}
use Rattle.net_bits.specs.Classes.{AreClasses, ClassTable, class_of, is_number, members_of}
use Rattle.net_bits.specs.NameTables.{digest_of, digest_step}
use Rattle.net_bits.specs.Names.{AreUsed, IsFresh, NameSet, alike, has_name, numbered, with_name}
use Rattle.net_bits.specs.Neighbours.{ends}
use Rattle.net_bits.proofs.FreshLaws.{alike_laws, used_more}
use Rattle.net_bits.proofs.Items.{Contains-filter, Contains-from_filter}
use Rattle.net_bits.proofs.NameSets.{any-insert_key}
use Rattle.net_bits.proofs.Transport.{step_back, step_joined}

-- a node of a class is joined
pub joined_member : (cell : HCell) (classes : ClassTable) → AreClasses cell classes → (x : Node) (class : ℕ) → class_of classes x ≡ Some class → Contains classes.nodes x
joined_member cell classes are x class h = (are.nodes.joined x).1 ((are.joined x).1 (class, h))

is_number-same : (class number : ℕ) → number ≡ class → is_number class (Some number) ≡ true
is_number-same class number e = eq-eqb number class e

class_from_test : (class : ℕ) (o : Option ℕ) → is_number class o ≡ true → o ≡ Some class
class_from_test class None h = cc
class_from_test class (Some number) h = ap Some (eqb-true number class h)

-- a node is among the members of its class alone
pub member_of_class : (cell : HCell) (classes : ClassTable) → AreClasses cell classes → (x : Node) (class : ℕ) → (class_of classes x ≡ Some class) ↔ Contains (members_of classes class) x
member_of_class cell classes are x class = (
  λ h. Contains-filter (λ node. is_number class (class_of classes node)) classes.nodes x (joined_member cell classes are x class h) (ap (is_number class) h ∙ is_number-same class class refl),
  λ m. class_from_test class (class_of classes x) (Contains-from_filter (λ node. is_number class (class_of classes node)) classes.nodes x m).1,
)

-- two nodes are locally connected exactly where they are the same or have the same class
pub connected_classes : (cell : HCell) (classes : ClassTable) → AreClasses cell classes → (x y : Node)
    → IsLocallyConnected cell x y ↔ ((x ≡ y) ⊎ ((class : ℕ) × (class_of classes x ≡ Some class) × (class_of classes y ≡ Some class)))
connected_classes cell classes are x y = (
  λ c. by c.places c.lead,
  λ h. elim h as (λ _. IsLocallyConnected cell x y) [
    | inl e ↦ record { places = []; lead = e }
    | inr k ↦ (are.same x y k.0 k.0 k.1 k.2).0 refl
  ],
)
  where
    last_joined : (z : Node) (places : List Node) → Leads (HasLocalStep cell) z places y → Contains (ends cell.joins) z → Contains (ends cell.joins) y
    last_joined z [] e m = subst (Contains (ends cell.joins)) e m
    last_joined z (next ∷ rest) l m = last_joined next rest l.1 (step_joined cell next z (step_back cell z next l.0))

    by : (places : List Node) → Leads (HasLocalStep cell) x places y → (x ≡ y) ⊎ ((class : ℕ) × (class_of classes x ≡ Some class) × (class_of classes y ≡ Some class))
    by [] e = inl e
    by (next ∷ rest) l =
        let here = step_joined cell x next l.0 in
        let j = (are.joined x).0 here in
        let k = (are.joined y).0 (last_joined x (next ∷ rest) l here) in
        let same = (are.same x y j.0 k.0 j.1 k.1).1 (record { places = next ∷ rest; lead = l }) in
        inr (j.0, j.1, k.1 ∙ ap Some (sym same))

-- names that are alike have one digest
pub alike_digest : (up_to_case : Bool) (a b : List ℕ) → alike up_to_case a b ≡ true → digest_of up_to_case a ≡ digest_of up_to_case b
alike_digest false a b h = ap (digest_of false) ((bytes_eq-Decides a b).0 h)
alike_digest true a b h = ap (fold digest_step 14695981039346656037) ((bytes_eq-Decides (map small a) (map small b)).0 h)

-- a set with one name more has that name, and what it had
pub has-with_name : (set : NameSet) (name other : List ℕ) → has_name (with_name set name) other ≡ (alike set.up_to_case other name || has_name set other)
has-with_name set name other = any-insert_key (alike_laws set.up_to_case) set.names (with_name set name).names name refl other

-- numbers that are used stay so where a name is added
pub used-with_name : (set : NameSet) (name stem : List ℕ) (number : ℕ) → AreUsed set stem number → AreUsed (with_name set name) stem number
used-with_name set name stem number used lesser h =
    has-with_name set name (numbered stem lesser) ∙ (ap (λ b. alike set.up_to_case (numbered stem lesser) name || b) (used lesser h) ∙ or-true (alike set.up_to_case (numbered stem lesser) name))

-- once the fresh name is added, its number may be handed in again, and the next one too
pub used-with_fresh : (set : NameSet) (stem name : List ℕ) (number : ℕ) → IsFresh set stem name number → AreUsed (with_name set name) stem (number + 1)
used-with_fresh set stem name number fresh =
    let same : alike set.up_to_case (numbered stem number) name ≡ true = subst (λ n. alike set.up_to_case n name ≡ true) fresh.is_name ((alike_laws set.up_to_case).refl name) in
    used_more (with_name set name) stem number (used-with_name set name stem number fresh.is_least)
    (has-with_name set name (numbered stem number) ∙ ap (λ b. b || has_name set (numbered stem number)) same)
