-- One more turn of a loop that takes items from the end of a list.
use Rattle.std.proofs.Common.{◌≡◌, ℕ, ◌+◌, ◌≤◌, List, [], ◌∷◌, ◌++◌, append-nil, append_assoc, flat_map, length, map, reverse, refl, sym, ap, subst, ◌∙◌, arith}
use Rattle.std.specs.List.{AllByRecursion}
use Rattle.std.proofs.lemmas.Grind.{flat_map-append}
use Rattle.std.proofs.lemmas.List.{reverse-append}
use Rattle.std.proofs.lemmas.List.Sums.{sum_by-cons}
use Rattle.net_hier.specs.declared.cells.HInst.{HInst}
use Rattle.net_hier.specs.declared.nodes.Join.{Join}
use Rattle.vlog_design.specs.Design.{instance_count, item_joins, joins_from, supply_node}
use Rattle.vlog_design.specs.Names.{Signal, instance_statement}
use Rattle.vlog_values.specs.Sizes.{item_size, list_size}
use Rattle.vlog_values.specs.Values.{IsItem}
use Rattle.vlog_values.specs.declared.declaration.NetDecl.{NetDecl}
use Rattle.vlog_values.specs.declared.declaration.NetKind.{NetKind}
use Rattle.vlog_values.specs.declared.declaration.NetKind.TheVariants as kinds
use Rattle.vlog_values.specs.declared.module.ItemV.{ItemV}
use Rattle.vlog_values.specs.declared.module.ItemV.TheVariants as items
use Rattle.vlog_values.specs.declared.module.Module.{Module}
use Rattle.vlog_values.specs.declared.statement.Instances.{Instances}
use Rattle.vlog_cells.specs.Parts.{bare_net, declared_item, tying_item}

-- ---- what is taken goes to the end of another list

pub last_first : {A : Type 0} (old new : List A) (x : A) → old ≡ new ++ x ∷ [] → reverse old ≡ x ∷ reverse new
last_first old new x e = ap reverse e ∙ reverse-append new (x ∷ [])

pub taken : {A B : Type 0} (f : A → List B) (old new : List A) (x : A) (now next all : List B) → reverse (f x) ≡ f x → old ≡ new ++ x ∷ [] → next ≡ now ++ f x → flat_map f old ++ reverse now ≡ all → flat_map f new ++ reverse next ≡ all
taken f old new x now next all alone is more before =
    ap (λ l. flat_map f new ++ l) (ap reverse more ∙ (reverse-append now (f x) ∙ ap (λ l. l ++ reverse now) alone))
    ∙ (sym (append_assoc (flat_map f new) (f x) (reverse now))
    ∙ (ap (λ l. l ++ reverse now) (sym (ap (flat_map f) is ∙ (flat_map-append f new (x ∷ []) ∙ ap (λ l. flat_map f new ++ l) (append-nil (f x))))) ∙ before))

-- of an item there is at most one in each part
pub declared_alone : (item : ItemV) → reverse (declared_item item) ≡ declared_item item
declared_alone (items.Port decl) = refl
declared_alone (items.Net decl) = refl
declared_alone (items.Param decl) = refl
declared_alone (items.Assign statement) = refl
declared_alone (items.Instances statement) = refl
declared_alone (items.Defparam statement) = refl

pub tying_alone : (item : ItemV) → reverse (tying_item item) ≡ tying_item item
tying_alone (items.Port decl) = refl
tying_alone (items.Net decl) = by decl.kind
  where
    by : (kind : NetKind) → reverse (map (λ constant. items.Net (bare_net decl)) (supply_node kind)) ≡ map (λ constant. items.Net (bare_net decl)) (supply_node kind)
    by kinds.Wire = refl
    by kinds.Tri = refl
    by kinds.Supply0 = refl
    by kinds.Supply1 = refl
tying_alone (items.Param decl) = refl
tying_alone (items.Assign statement) = refl
tying_alone (items.Instances statement) = refl
tying_alone (items.Defparam statement) = refl

-- the list of what was taken, when nothing is left
pub all_taken : {A B : Type 0} (f : A → List B) (left : List A) (now all : List B) → left ≡ [] → flat_map f left ++ reverse now ≡ all → reverse now ≡ all
all_taken f left now all none before = ap (λ l. flat_map f l ++ reverse now) (sym none) ∙ before

-- a list of no length
pub no_items : {A : Type 0} (xs : List A) → length xs ≡ 0 → xs ≡ []
no_items [] e = refl
no_items (x ∷ xs) e = absurd (omega (arith, e))

-- ---- joins and instances

pub joins_turn : (modules : List Module) (table : List Signal) (number count : ℕ) (item : ItemV) (old new : List ItemV) (now next all : List Join) → old ≡ new ++ item ∷ [] → count ≡ instance_count item → next ≡ now ++ item_joins modules table number item
    → now ++ joins_from modules table number (reverse old) ≡ all → next ++ joins_from modules table (number + count) (reverse new) ≡ all
joins_turn modules table number count item old new now next all is counted more before =
    (λ j. more j ++ joins_from modules table (number + counted j) (reverse new))
    ∙ (append_assoc now (item_joins modules table number item) (joins_from modules table (number + instance_count item) (reverse new))
    ∙ (ap (λ l. now ++ joins_from modules table number l) (sym (last_first old new item is)) ∙ before))

pub instances_turn : (f : Instances → List HInst) (item : ItemV) (old new : List ItemV) (now next all : List HInst) → old ≡ new ++ item ∷ [] → next ≡ now ++ flat_map f (instance_statement item)
    → now ++ flat_map f (flat_map instance_statement (reverse old)) ≡ all → next ++ flat_map f (flat_map instance_statement (reverse new)) ≡ all
instances_turn f item old new now next all is more before =
    ap (λ l. l ++ flat_map f (flat_map instance_statement (reverse new))) more
    ∙ (append_assoc now (flat_map f (instance_statement item)) (flat_map f (flat_map instance_statement (reverse new)))
    ∙ (ap (λ l. now ++ l) (sym (ap (λ l. flat_map f (flat_map instance_statement l)) (last_first old new item is) ∙ flat_map-append f (instance_statement item) (flat_map instance_statement (reverse new)))) ∙ before))

pub joins_done : (modules : List Module) (table : List Signal) (number : ℕ) (left : List ItemV) (now all : List Join) → left ≡ [] → now ++ joins_from modules table number (reverse left) ≡ all → now ≡ all
joins_done modules table number left now all none before = sym (append-nil now) ∙ (ap (λ l. now ++ joins_from modules table number (reverse l)) (sym none) ∙ before)

pub instances_done : (f : Instances → List HInst) (left : List ItemV) (now all : List HInst) → left ≡ [] → now ++ flat_map f (flat_map instance_statement (reverse left)) ≡ all → now ≡ all
instances_done f left now all none before = sym (append-nil now) ∙ (ap (λ l. now ++ flat_map f (flat_map instance_statement (reverse l))) (sym none) ∙ before)

-- an item has no more instances than items in its lists
counted_small : (item : ItemV) → instance_count item ≤ item_size item
counted_small (items.Port decl) = omega arith
counted_small (items.Net decl) = omega arith
counted_small (items.Param decl) = omega arith
counted_small (items.Assign statement) = omega arith
counted_small (items.Instances statement) = omega arith
counted_small (items.Defparam statement) = omega arith

-- what is known of the item that is taken and of those that are left
pub record AreTaken (number : ℕ) (item : ItemV) (new : List ItemV) : Type 0 where
  pub valid : IsItem item
  pub others : AllByRecursion IsItem (reverse new)
  pub few : number + instance_count item ≤ 268435456
  pub small : item_size item ≤ 268435456
  pub fewer : number + instance_count item + list_size item_size (reverse new) ≤ 268435456

pub known_taken : (number : ℕ) (item : ItemV) (old new : List ItemV) → old ≡ new ++ item ∷ [] → AllByRecursion IsItem (reverse old) → number + list_size item_size (reverse old) ≤ 268435456 → AreTaken number item new
known_taken number item old new is valid small =
    let turned = last_first old new item is in
    let both = subst (AllByRecursion IsItem) turned valid in
    let size = ap (list_size item_size) turned in
    record {
      valid = both.0;
      others = both.1;
      few = omega (arith, small, size, sum_by-cons item_size item (reverse new), counted_small item);
      small = omega (arith, small, size, sum_by-cons item_size item (reverse new));
      fewer = omega (arith, small, size, sum_by-cons item_size item (reverse new), counted_small item);
    }
