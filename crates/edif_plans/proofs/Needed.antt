-- Which constants the nets of a cell need.
use Rattle.std.proofs.Common.{◌≡◌, ℕ, zero, suc, ◌+◌, Bool, true, false, ◌&&◌, ◌||◌, cond, List, [], ◌∷◌, ◌++◌, Some, filter, length, length-append, map, refl, sym, ap, ◌∙◌, subst}
use Rattle.std.specs.Prelude.{Contains, count_by, nat_lt, option_map, slice_get}
use Rattle.std.proofs.lemmas.Bool.{false≢true}
use Rattle.std.proofs.lemmas.List.{length-map}
use Rattle.std.proofs.lemmas.List.Sums.{length-filter}
use Rattle.std.proofs.lemmas.Option.{slice_get-map}
use Rattle.net_bits.specs.Classes.{AreClasses, ClassTable, class_of, members_of}
use Rattle.net_bits.proofs.CallerLaws.{member_of_class}
use Rattle.net_hier.specs.Cells.{constant_node}
use Rattle.net_hier.specs.declared.cells.HCell.{HCell}
use Rattle.net_hier.specs.declared.cells.HInst.{HInst}
use Rattle.net_hier.specs.declared.cells.HNet.{HNet}
use Rattle.net_hier.specs.declared.nodes.Node.{Node}
use Rattle.net_hier.specs.declared.nodes.Node.TheVariants.{Port, Pin, Net, Zero, One}
use Rattle.net_live.specs.Live.{has_two_ends, have_property, is_bit, is_end, is_live, needs_constant}
use Rattle.net_live.proofs.LiveLaws.{passed, two_pass}
use Rattle.net_stars.proofs.Lists.{contains_first}
use Rattle.edif_plans.specs.Summaries.{instance_names}
use Rattle.edif_plans.specs.Made.{AreAddedTo, needed_values}
use Rattle.edif_plans.specs.declared.added.Added.{Added}
use Rattle.edif_plans.specs.declared.added.Instances.{Instances}

-- ---- a constant in a live class is needed

some_bit : (xs : List Node) → nat_lt 0 (count_by is_bit xs) ≡ true → (y : Node) × Contains xs y × (is_bit y ≡ true)
some_bit xs h = by (filter is_bit xs) refl
  where
    by : (ys : List Node) → filter is_bit xs ≡ ys → (y : Node) × Contains xs y × (is_bit y ≡ true)
    by [] e = let none : count_by is_bit xs ≡ 0 = sym (length-filter is_bit xs) ∙ ap length e in absurd (false≢true (sym (ap (nat_lt 0) none) ∙ h))
    by (y ∷ ys) e = let found = passed is_bit xs y (subst (λ l. Contains l y) (sym e) (contains_first y ys)) in (y, found.0, found.1)

bit_end : (node : Node) → is_bit node ≡ true → is_end node ≡ true
bit_end (Port port bit) h = refl
bit_end (Pin instance port bit) h = refl
bit_end (Net net) h = absurd (false≢true h)
bit_end Zero h = refl
bit_end One h = refl

live_two : (nets : List HNet) (members : List Node) (x : Node) → Contains members x → is_end x ≡ true → is_bit x ≡ false → is_live nets members ≡ true → nat_lt 1 (count_by is_end members) ≡ true
live_two nets members x there ends no_bit live = by (nat_lt 1 (count_by is_end members)) refl live
  where
    left : (a b : Bool) → (a && b) ≡ true → a ≡ true
    left true b h = refl
    left false b h = h

    by : (t : Bool) → nat_lt 1 (count_by is_end members) ≡ t → (t || (nat_lt 0 (count_by is_bit members) && have_property nets members)) ≡ true → nat_lt 1 (count_by is_end members) ≡ true
    by true e h = e
    by false e h =
        let bit = some_bit members (left (nat_lt 0 (count_by is_bit members)) (have_property nets members) h) in
        two_pass is_end members x bit.0 there bit.1 ends (bit_end bit.0 bit.2) (λ s. false≢true (sym no_bit ∙ (ap is_bit s ∙ bit.2)))

constant_end : (value : Bool) → is_end (constant_node value) ≡ true
constant_end false = refl
constant_end true = refl

constant_bit : (value : Bool) → is_bit (constant_node value) ≡ false
constant_bit false = refl
constant_bit true = refl

pub constant_is_needed : (cell : HCell) (classes : ClassTable) → AreClasses cell classes → (value : Bool) (class : ℕ) → class_of classes (constant_node value) ≡ Some class → is_live cell.nets (members_of classes class) ≡ true → needs_constant classes value ≡ true
constant_is_needed cell classes are value class of_class live =
    ap (has_two_ends classes) of_class ∙ live_two cell.nets (members_of classes class) (constant_node value) ((member_of_class cell classes are (constant_node value) class).0 of_class) (constant_end value) (constant_bit value) live

-- ---- the identifiers of the instances of a cell

count_names : (own : List HInst) (added : List Added) → length (instance_names own added) ≡ length own + length added
count_names own added = length-append (map (λ (i : HInst). i.name) own) (map (λ (a : Added). a.name) added) ∙ (λ j. length-map own (λ (i : HInst). i.name) j + length-map added (λ (a : Added). a.name) j)

pub idents_count : (own : List HInst) (classes : ClassTable) (instances : Instances) → AreAddedTo own classes instances → length instances.idents ≡ length own + length instances.added
idents_count own classes instances are = are.idents.len ∙ count_names own instances.added

-- ---- the cells of the constants for which instances are added

needed_at : (zero one : Bool) (place : ℕ) (v : Bool) → slice_get (cond zero (false ∷ []) [] ++ cond one (true ∷ []) []) place ≡ Some v → cond v one zero ≡ true
needed_at true true zero false h = refl
needed_at true true zero true h = absurd cc
needed_at true true (suc zero) true h = refl
needed_at true true (suc zero) false h = absurd cc
needed_at true true (suc (suc place)) v h = absurd cc
needed_at true false zero false h = refl
needed_at true false zero true h = absurd cc
needed_at true false (suc place) v h = absurd cc
needed_at false true zero true h = refl
needed_at false true zero false h = absurd cc
needed_at false true (suc place) v h = absurd cc
needed_at false false place v h = absurd cc

needs_value : (classes : ClassTable) (value : Bool) → cond value (needs_constant classes true) (needs_constant classes false) ≡ true → needs_constant classes value ≡ true
needs_value classes false h = h
needs_value classes true h = h

-- the cell needs the constant for which an instance is added
pub added_value : (classes : ClassTable) (added : List Added) → map (λ (one : Added). one.value) added ≡ needed_values classes → (place : ℕ) (one : Added) → slice_get added place ≡ Some one → needs_constant classes one.value ≡ true
added_value classes added values place one there =
    let at : slice_get (needed_values classes) place ≡ Some one.value = sym (ap (λ l. slice_get l place) values) ∙ (slice_get-map (λ (a : Added). a.value) added place ∙ ap (option_map (λ (a : Added). a.value)) there) in
    needs_value classes one.value (needed_at (needs_constant classes false) (needs_constant classes true) place one.value at)
