-- The refusals of names that are too long, one by one and in parts.
use Rattle.std.proofs.Common.{◌≡◌, ℕ, ◌+◌, ◌<◌, ◌≤◌, Bool, true, false, cond, List, [], ◌∷◌, ◌++◌, Option, Some, None, drop, get_or, length, map, filter, flat_map, option_map, codes, refl, sym, ◌∙◌, ap, append_assoc}
use Rattle.std.specs.Option.{option_map_or}
use Rattle.std.proofs.Math.ListN.{drop_of_length-le}
use Rattle.std.proofs.lemmas.List.{append-nil, drop_more, get_or_default, map-append}
use Rattle.std.proofs.lemmas.Grind.{flat_map-append}
use Rattle.std.proofs.lemmas.Option.{slice_get-get_or}
use Rattle.net_hier.specs.Design.{Design, top_name}
use Rattle.net_hier.specs.Paths.{Path}
use Rattle.net_hier.specs.Valid.{IsValid}
use Rattle.net_hier.specs.declared.cells.HCell.{HCell}
use Rattle.net_hier.specs.declared.cells.HInst.{HInst}
use Rattle.net_hier.specs.declared.cells.HProp.{HProp}
use Rattle.flat_numbers.specs.declared.spots.Spot.{Spot}
use Rattle.flat_classes.specs.Terminals.{FlatValue}
use Rattle.net_flatten_rules.specs.FlatDesign.{cell_or_none, stub, flat_cells, flat_top, inner, leaf_cells, leaf_instance, no_cell, props_of}
use Rattle.net_flatten_rules.specs.Joined.{instance_at, name_at}
use Rattle.net_flatten_rules.specs.Rules.{IsFirst, first_of, is_long, long, long_stub, long_in_cell, long_in_design, long_instances, long_object, long_props, names_twice, object_of, refusals, refused}
use Rattle.net_flatten_rules.specs.declared.long.Long.{Long}
use Rattle.net_flatten_rules.specs.declared.refusal.Broken.{Broken}
use Rattle.net_flatten_rules.specs.declared.refusal.FlattenRule.TheVariants.{F2}
use Rattle.net_flatten_refusals.specs.LongNames.{long_leaf, refused_stub, refused_stubs, refused_in, refused_leaves, refused_names, refused_top}
use Rattle.net_flatten_refusals.proofs.Lists.{first_behind, first_mapped, first_there}

-- ---- the refusal of the first object
pub refused_first : (cell : List ℕ) (objects : List (List (List ℕ))) (found : Option Long) → IsFirst objects found → option_map (λ long. refused F2 cell (object_of long)) found ≡ first_of (refused_in cell objects)
refused_first cell objects None is = ap (option_map (refused F2 cell)) is ∙ sym (first_mapped (refused F2 cell) objects)
refused_first cell objects (Some long) is = ap (option_map (refused F2 cell)) is ∙ sym (first_mapped (refused F2 cell) objects)

-- ---- a leaf
module _ (cells : List HCell) (spots : List Spot) (paths : List Path) (cell : List ℕ) (leaf : ℕ) (name : List ℕ) (is_name : name ≡ name_at paths leaf) where
  pub leaf_is_long : is_long name ≡ true → Some (refused F2 cell (codes "instance" ∷ name ∷ [])) ≡ first_of (refused_in cell (long_leaf cells spots paths leaf))
  unfolding long_leaf
  leaf_is_long is_so =
      let props : List HProp = props_of (instance_at cells spots leaf) in
      by (is_long name) refl is_so ∙ ap (λ n. first_of (refused_in cell (long_object (codes "instance") n props))) is_name
    where
      by : (b : Bool) → is_long name ≡ b → b ≡ true → Some (refused F2 cell (codes "instance" ∷ name ∷ [])) ≡ first_of (refused_in cell (cond b ((codes "instance" ∷ name ∷ []) ∷ []) [] ++ long_props (props_of (instance_at cells spots leaf))))
      by true e is_so = refl
      by false e is_so = absurd cc

  pub leaf_is_short : is_long name ≡ false → (instance : HInst) (props : List HProp) → instance_at cells spots leaf ≡ Some instance → props ≡ instance.props →
      first_of (refused_in cell (long_props props)) ≡ first_of (refused_in cell (long_leaf cells spots paths leaf))
  unfolding long_leaf
  leaf_is_short none instance props at are =
      ap (λ ps. first_of (refused_in cell (long_props ps))) (are ∙ sym (ap props_of at))
      ∙ (ap (λ b. first_of (refused_in cell (cond b ((codes "instance" ∷ name ∷ []) ∷ []) [] ++ long_props (props_of (instance_at cells spots leaf))))) (sym none)
      ∙ ap (λ n. first_of (refused_in cell (long_object (codes "instance") n (props_of (instance_at cells spots leaf))))) is_name)

-- ---- one item after another
module _ {A B : Type 0} (f : A → List B) (xs : List A) (i : ℕ) (d : A) where
  items_left : i < length xs → flat_map f (drop i xs) ≡ f (get_or xs i d) ++ flat_map f (drop (i + 1) xs)
  items_left lt = ap (flat_map f) (drop_more xs i d lt)

  pub item_here : i < length xs → (y : B) → Some y ≡ first_of (f (get_or xs i d)) → Some y ≡ first_of (flat_map f (drop i xs))
  item_here lt y is = first_there (f (get_or xs i d)) (flat_map f (drop (i + 1) xs)) y is ∙ ap first_of (sym (items_left lt))

  pub item_later : i < length xs → None ≡ first_of (f (get_or xs i d)) → first_of (flat_map f (drop (i + 1) xs)) ≡ first_of (flat_map f (drop i xs))
  item_later lt none = sym (ap first_of (items_left lt) ∙ first_behind (f (get_or xs i d)) (flat_map f (drop (i + 1) xs)) none)

  pub item_none : length xs ≤ i → None ≡ first_of (flat_map f (drop i xs))
  item_none le = sym (ap (λ l. first_of (flat_map f l)) (drop_of_length-le xs {i = i} le))

-- ---- the top
pub top_is : (cells : List HCell) (number : ℕ) (d : HCell) → number < length cells → get_or cells number d ≡ cell_or_none cells number
top_is cells number d lt = get_or_default cells number d no_cell lt

pub top_named : (cells : List HCell) (number : ℕ) (d : HCell) → number < length cells → (get_or cells number d).name ≡ top_name cells number
top_named cells number d lt = ap (λ o. option_map_or (λ (cell : HCell). cell.name) o []) (sym (slice_get-get_or cells number d lt))

-- ---- properties of the design
module _ (cell : List ℕ) (props : List HProp) (i : ℕ) (d : HProp) where
  abbrev refusals_of : List HProp → List Broken
  refusals_of ps = map (λ prop. refused F2 cell (prop.name ∷ [])) (filter (λ prop. is_long prop.name) ps)

  props_left : i < length props → refusals_of (drop i props)
      ≡ map (λ prop. refused F2 cell (prop.name ∷ [])) (cond (is_long (get_or props i d).name) (get_or props i d ∷ filter (λ prop. is_long prop.name) (drop (i + 1) props)) (filter (λ prop. is_long prop.name) (drop (i + 1) props)))
  props_left lt = ap refusals_of (drop_more props i d lt)

  pub prop_here : i < length props → is_long (get_or props i d).name ≡ true → Some (refused F2 cell ((get_or props i d).name ∷ [])) ≡ first_of (refusals_of (drop i props))
  prop_here lt is_so = sym (ap first_of (props_left lt)
      ∙ ap (λ b. first_of (map (λ (prop : HProp). refused F2 cell (prop.name ∷ [])) (cond b (get_or props i d ∷ filter (λ prop. is_long prop.name) (drop (i + 1) props)) (filter (λ prop. is_long prop.name) (drop (i + 1) props))))) is_so)

  pub prop_later : i < length props → is_long (get_or props i d).name ≡ false → first_of (refusals_of (drop (i + 1) props)) ≡ first_of (refusals_of (drop i props))
  prop_later lt none = sym (ap first_of (props_left lt)
      ∙ ap (λ b. first_of (map (λ (prop : HProp). refused F2 cell (prop.name ∷ [])) (cond b (get_or props i d ∷ filter (λ prop. is_long prop.name) (drop (i + 1) props)) (filter (λ prop. is_long prop.name) (drop (i + 1) props))))) none)

  pub prop_none : length props ≤ i → None ≡ first_of (refusals_of (drop i props))
  prop_none le = sym (ap (λ l. first_of (refusals_of l)) (drop_of_length-le props {i = i} le))

-- ---- the whole list in its parts
stubs_are : (cells : List HCell) (numbers : List ℕ) → flat_map long_in_cell (map (λ number. stub (cell_or_none cells number)) numbers) ≡ refused_stubs cells numbers
stubs_are cells [] = refl
stubs_are cells (number ∷ numbers) =
    let cell : HCell = cell_or_none cells number in
    ap (λ l. map (refused F2 cell.name) l ++ flat_map long_in_cell (map (λ n. stub (cell_or_none cells n)) numbers)) (append-nil (long_stub cell))
    ∙ ap (λ l. refused_stub cell ++ l) (stubs_are cells numbers)

leaves_are : (cells : List HCell) (spots : List Spot) (paths : List Path) (numbers : List ℕ) (cell : List ℕ) (leaves : List ℕ) →
    map (refused F2 cell) (long_instances (map (leaf_instance cells spots paths numbers) leaves)) ≡ refused_leaves cells spots paths cell leaves
unfolding long_leaf
leaves_are cells spots paths numbers cell [] = refl
leaves_are cells spots paths numbers cell (leaf ∷ leaves) =
    map-append (refused F2 cell) (long_object (codes "instance") (name_at paths leaf) (props_of (instance_at cells spots leaf))) (long_instances (map (leaf_instance cells spots paths numbers) leaves))
    ∙ ap (λ l. refused_in cell (long_leaf cells spots paths leaf) ++ l) (leaves_are cells spots paths numbers cell leaves)

top_are : (design : Design) (paths : List Path) (flat : FlatValue) → long_in_cell (flat_top design paths flat) ≡ refused_top design flat.spots paths (inner flat.leaves)
top_are design paths flat =
    let top : HCell = cell_or_none design.cells design.top in
    let leaves : List ℕ = inner flat.leaves in
    let numbers : List ℕ = leaf_cells design.order flat.spots leaves in
    map-append (refused F2 top.name) (long_stub top) (long_instances (map (leaf_instance design.cells flat.spots paths numbers) leaves))
    ∙ ap (λ l. refused_stub top ++ l) (leaves_are design.cells flat.spots paths numbers top.name leaves)

pub names_are : (design : Design) (paths : List Path) (flat : FlatValue) → refused_names design flat.spots paths (inner flat.leaves) ≡ flat_map long_in_cell (flat_cells design paths flat) ++ long_in_design design
names_are design paths flat =
    let numbers : List ℕ = leaf_cells design.order flat.spots (inner flat.leaves) in
    let stubs : List HCell = map (λ number. stub (cell_or_none design.cells number)) numbers in
    let top : HCell = flat_top design paths flat in
    let all : flat_map long_in_cell (stubs ++ top ∷ []) ≡ refused_stubs design.cells numbers ++ refused_top design flat.spots paths (inner flat.leaves) =
    flat_map-append long_in_cell stubs (top ∷ []) ∙ ((λ j. stubs_are design.cells numbers j ++ append-nil (long_in_cell top) j) ∙ ap (λ l. refused_stubs design.cells numbers ++ l) (top_are design paths flat)) in
    sym (ap (λ l. l ++ long_in_design design) all ∙ append_assoc (refused_stubs design.cells numbers) (refused_top design flat.spots paths (inner flat.leaves)) (long_in_design design))

pub rest_first : (design : Design) (paths : List Path) (flat : FlatValue) → None ≡ first_of (names_twice design paths flat) →
    first_of (refused_names design flat.spots paths (inner flat.leaves)) ≡ first_of (refusals design paths flat)
rest_first design paths flat none = ap first_of (names_are design paths flat)
    ∙ sym (first_behind (names_twice design paths flat) (flat_map long_in_cell (flat_cells design paths flat) ++ long_in_design design) none)

-- the name of the top that code has read
pub named_top : (design : Design) → IsValid design → (cells : List HCell) (number : ℕ) (top : HCell) → cells ≡ design.cells → number ≡ design.top → top ≡ get_or cells number top → top.name ≡ top_name design.cells design.top
named_top design valid cells number top same at is =
    let read : top ≡ get_or design.cells design.top top = is ∙ (λ j. get_or (same j) (at j) top) in
    ap (λ (cell : HCell). cell.name) read ∙ top_named design.cells design.top top valid.has_top
