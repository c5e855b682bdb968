-- The node that stands for a node, and which nodes stand for others.
use Rattle.std.proofs.Common.{◌≡◌, ℕ, zero, suc, ◌+◌, ◌<◌, ◌≤◌, ◌⊎◌, inl, inr, Bool, true, false, if◌then◌else◌, List, [], ◌∷◌, Option, Some, None, is_none, map, flat_map, take, length, get_or, slice_index_or, refl, sym, ◌∙◌, ap, subst, arith, Contains, IsPermutation}
use Rattle.std.specs.List.{range_with_len}
use Rattle.std.specs.Option.{option_and_then, option_map_or}
use Rattle.std.proofs.lemmas.Bool.{false≢true}
use Rattle.std.proofs.lemmas.List.Elements.{Contains-append_cases, Contains-append_left, Contains-append_right, Contains-get_or}
use Rattle.std.proofs.lemmas.List.FromFn.{get_or-range_with_len, length-range_with_len}
use Rattle.std.proofs.lemmas.List.Sorted.{Contains-permutation, IsPermutation-sym}
use Rattle.net_hier.specs.declared.cells.HCell.{HCell}
use Rattle.net_hier.specs.declared.nodes.Node.{Node}
use Rattle.net_hier.specs.declared.nodes.Node.TheVariants.{Port, Pin, Net, Zero, One}
use Rattle.net_bits.specs.Classes.{ClassTable, class_of, members_of}
use Rattle.net_bits.proofs.CallerLaws.{member_of_class}
use Rattle.net_live.proofs.LiveLaws.{passes, passed}
use Rattle.vlog_written.proofs.Contents.{there_in_parts, part_of, image_of}
use Rattle.vlog_written.proofs.Members.{there_mapped, nothing_there}
use Rattle.net_live.specs.Live.{is_live}
use Rattle.to_verilog_classes.specs.Groups.{AreGroups, GroupTable, HasMarks, around, if_live, live_class, root}
use Rattle.to_verilog_classes.specs.Roots.{each_live, first_members, of_live, open_bits, pin_width, root_list}

-- the same, or of one class
abbrev pub ShareClass : ClassTable → Node → Node → Type 0
ShareClass classes x y = (x ≡ y) ⊎ ((class : ℕ) × (class_of classes x ≡ Some class) × (class_of classes y ≡ Some class))

pub share_back : (classes : ClassTable) (x y : Node) → ShareClass classes x y → ShareClass classes y x
share_back classes x y (inl e) = inl (sym e)
share_back classes x y (inr k) = inr (k.0, k.2, k.1)

pub share_on : (classes : ClassTable) (x y z : Node) → ShareClass classes x y → ShareClass classes y z → ShareClass classes x z
share_on classes x y z (inl e) s = subst (λ w. ShareClass classes w z) (sym e) s
share_on classes x y z (inr k) (inl f) = subst (ShareClass classes x) f (inr k)
share_on classes x y z (inr k) (inr l) = inr (k.0, k.1, l.2 ∙ (sym l.1 ∙ k.2))

-- the numbers below a count
in_range : (count number : ℕ) → number < count → Contains (range_with_len 0 count) number
in_range count number h =
    let z : 0 + number ≡ number = omega arith in
    (number, omega (arith, h, length-range_with_len 0 count), get_or-range_with_len 0 count number number h ∙ z)

-- the first of nodes is one of them, whatever the default
pub first_is : (nodes : List Node) (x y : Node) → 1 ≤ length nodes → get_or nodes 0 x ≡ get_or nodes 0 y
first_is [] x y h = absurd (omega (arith, h))
first_is (node ∷ nodes) x y h = refl

first_there : (nodes : List Node) (x : Node) → 1 ≤ length nodes → Contains nodes (get_or nodes 0 x)
first_there nodes x h = Contains-get_or nodes 0 x (omega (arith, h))

first_taken : (nodes : List Node) (x : Node) → 1 ≤ length nodes → Contains (take 1 nodes) (get_or nodes 0 x)
first_taken [] x h = absurd (omega (arith, h))
first_taken (node ∷ nodes) x h = (0, omega arith, refl)

taken_first : (nodes : List Node) (x d : Node) → Contains (take 1 nodes) x → (x ≡ get_or nodes 0 d) × (1 ≤ length nodes)
taken_first [] x d h = absurd (nothing_there x h)
taken_first (node ∷ nodes) x d (zero, h, e) = (sym e, omega arith)
taken_first (node ∷ nodes) x d (suc k, h, e) = absurd (omega (arith, h))

live_of : (groups : GroupTable) (o : Option ℕ) (class : ℕ) → option_and_then (if_live groups) o ≡ Some class → (o ≡ Some class) × (slice_index_or groups.live class false ≡ true)
live_of groups None class e = absurd (let f : None ≡ Some class = e in cc)
live_of groups (Some k) class e = by (slice_index_or groups.live k false) refl e
  where
    by : (b : Bool) → slice_index_or groups.live k false ≡ b → (if b then Some k else None) ≡ Some class → (Some k ≡ Some class) × (slice_index_or groups.live class false ≡ true)
    by true f e = let g : Some k ≡ Some class = e in let s : k ≡ class = cc in (g, ap (λ n. slice_index_or groups.live n false) (sym s) ∙ f)
    by false f e = absurd (let g : None ≡ Some class = e in cc)

module _ (cell : HCell) (groups : GroupTable) (are : AreGroups cell groups) (marks : HasMarks groups) where
  abbrev classes : ClassTable
  classes = groups.classes

  -- a class that is written is that of its nodes
  pub class_there : (x : Node) (class : ℕ) → live_class groups x ≡ Some class → class_of classes x ≡ Some class
  class_there x class e = (live_of groups (class_of classes x) class e).0

  pub live_there : (x : Node) (class : ℕ) → live_class groups x ≡ Some class → slice_index_or groups.live class false ≡ true
  live_there x class e = (live_of groups (class_of classes x) class e).1

  pub mark_there : (x : Node) (class : ℕ) → class_of classes x ≡ Some class → slice_index_or groups.live class false ≡ true → live_class groups x ≡ Some class
  mark_there x class e live = ap (option_and_then (if_live groups)) e ∙ ap (λ b. if b then Some class else None) live

  pub written_there : (x : Node) (class : ℕ) → class_of classes x ≡ Some class → is_live cell.nets (members_of classes class) ≡ true → live_class groups x ≡ Some class
  written_there x class e live = mark_there x class e (are.live class (marks.below x class e) ∙ live)

  some_member : (x : Node) (class : ℕ) → class_of classes x ≡ Some class → 1 ≤ length (members_of classes class)
  some_member x class e = marks.some class (marks.below x class e)

  pub root_is : (x : Node) (class : ℕ) → live_class groups x ≡ Some class → root groups x ≡ get_or (members_of classes class) 0 x
  root_is x class e = ap (λ o. option_map_or (λ class. get_or (members_of classes class) 0 x) o x) e

  -- two nodes of a class that is written have one node that stands for them
  pub one_root : (x y : Node) (class : ℕ) → live_class groups x ≡ Some class → live_class groups y ≡ Some class → root groups x ≡ root groups y
  one_root x y class e f = root_is x class e ∙ (first_is (members_of classes class) x y (some_member x class (class_there x class e)) ∙ sym (root_is y class f))

  -- and it is one of the class
  pub root_of_class : (x : Node) (class : ℕ) → live_class groups x ≡ Some class → class_of classes (root groups x) ≡ Some class
  root_of_class x class e =
      subst (λ r. class_of classes r ≡ Some class) (sym (root_is x class e))
      ((member_of_class cell classes are.classes (get_or (members_of classes class) 0 x) class).1 (first_there (members_of classes class) x (some_member x class (class_there x class e))))

  pub root_itself : (x : Node) → live_class groups x ≡ None → root groups x ≡ x
  root_itself x e = ap (λ o. option_map_or (λ class. get_or (members_of classes class) 0 x) o x) e

  pub root_shares : (x : Node) → ShareClass classes x (root groups x)
  root_shares x = by (live_class groups x) refl
    where
      by : (o : Option ℕ) → live_class groups x ≡ o → ShareClass classes x (root groups x)
      by None e = inl (sym (root_itself x e))
      by (Some class) e = inr (class, class_there x class e, root_of_class x class e)

  -- the nodes of its class are those of the class of the node that stands for it
  pub around_root : (x : Node) → around groups (root groups x) ≡ around groups x
  around_root x = by (live_class groups x) refl
    where
      by : (o : Option ℕ) → live_class groups x ≡ o → around groups (root groups x) ≡ around groups x
      by None e = ap (around groups) (root_itself x e)
      by (Some class) e = ap (λ o. option_map_or (members_of classes) o []) (root_of_class x class e ∙ sym (class_there x class e))

  pub around_class : (x : Node) (class : ℕ) → class_of classes x ≡ Some class → around groups x ≡ members_of classes class
  around_class x class e = ap (λ o. option_map_or (members_of classes) o []) e

  -- a node among those of its class is of this class
  pub in_around : (x y : Node) → Contains (around groups x) y → (class : ℕ) × (class_of classes x ≡ Some class) × (class_of classes y ≡ Some class)
  in_around x y = by (class_of classes x) refl
    where
      by : (o : Option ℕ) → class_of classes x ≡ o → Contains (option_map_or (members_of classes) o []) y → (class : ℕ) × (class_of classes x ≡ Some class) × (class_of classes y ≡ Some class)
      by None e h = absurd (nothing_there y h)
      by (Some class) e h = (class, e, (member_of_class cell classes are.classes y class).1 h)

  -- a node of a class that is written has its root in what they give
  pub in_each : {A : Type 0} (part : List Node → List A) (x : Node) (y : A) (class : ℕ) → live_class groups x ≡ Some class → Contains (part (members_of classes class)) y → Contains (each_live groups part) y
  in_each part x y class e h =
      there_in_parts (of_live groups part) (range_with_len 0 classes.count) class y
      (in_range classes.count class (marks.below x class (class_there x class e)))
      (subst (λ b. Contains (if b then part (members_of classes class) else []) y) (sym (live_there x class e)) h)

  pub record FromLive {A : Type 0} (part : List Node → List A) (y : A) : Type 0 where
    pub class : ℕ
    pub live : slice_index_or groups.live class false ≡ true
    pub is_there : Contains (part (members_of classes class)) y

  pub from_each : {A : Type 0} (part : List Node → List A) (y : A) → Contains (each_live groups part) y → FromLive part y
  from_each part y h =
      let r = part_of (of_live groups part) (range_with_len 0 classes.count) y h in
      by r.0 (slice_index_or groups.live r.0 false) refl r.2
    where
      by : (class : ℕ) (b : Bool) → slice_index_or groups.live class false ≡ b → Contains (if b then part (members_of classes class) else []) y → FromLive part y
      by class true e h = record { class = class; live = e; is_there = h }
      by class false e h = absurd (nothing_there y h)

  module _ (cells : List HCell) (ports roots : List Node) (same : IsPermutation (root_list cells cell groups ports) roots) where
    -- the root of a class that is written is listed
    pub root_listed : (x : Node) (class : ℕ) → live_class groups x ≡ Some class → Contains roots (root groups x)
    root_listed x class e =
        Contains-permutation (root_list cells cell groups ports) roots (root groups x) same
        (Contains-append_left (first_members groups) (flat_map (open_bits cells cell groups) ports) (root groups x)
        (in_each (take 1) x (root groups x) class e
        (subst (Contains (take 1 (members_of classes class))) (sym (root_is x class e)) (first_taken (members_of classes class) x (some_member x class (class_there x class e))))))

    -- and so is each open bit of a port of which a bit is written
    pub open_listed : (instance port first bit : ℕ) → Contains ports (Pin instance port first) → bit < pin_width cells cell instance port → live_class groups (Pin instance port bit) ≡ None → Contains roots (Pin instance port bit)
    open_listed instance port first bit there within e =
        Contains-permutation (root_list cells cell groups ports) roots (Pin instance port bit) same
        (Contains-append_right (first_members groups) (flat_map (open_bits cells cell groups) ports) (Pin instance port bit)
        (there_in_parts (open_bits cells cell groups) ports (Pin instance port first) (Pin instance port bit) there
        (passes (λ pin. is_none (live_class groups pin)) (map (λ b. Pin instance port b) (range_with_len 0 (pin_width cells cell instance port))) (Pin instance port bit)
        (there_mapped (λ b. Pin instance port b) (range_with_len 0 (pin_width cells cell instance port)) bit (in_range (pin_width cells cell instance port) bit within))
        (ap is_none e))))

    -- nothing else is listed: the first node of a class that is written
    pub record IsFirst (r : Node) : Type 0 where
      pub class : ℕ
      pub live : live_class groups r ≡ Some class
      pub is_root : root groups r ≡ r

    -- or an open bit of a port that is written
    pub record IsOpen (r : Node) : Type 0 where
      pub instance : ℕ
      pub port : ℕ
      pub first : ℕ
      pub bit : ℕ
      pub is_pin : r ≡ Pin instance port bit
      pub is_written : Contains ports (Pin instance port first)
      pub is_open : live_class groups r ≡ None

    none_is : (o : Option ℕ) → is_none o ≡ true → o ≡ None
    none_is None e = refl
    none_is (Some k) e = absurd (false≢true e)

    pub listed_root : (r : Node) → Contains roots r → IsFirst r ⊎ IsOpen r
    listed_root r h =
        elim (Contains-append_cases (first_members groups) (flat_map (open_bits cells cell groups) ports) r (Contains-permutation roots (root_list cells cell groups ports) r (IsPermutation-sym (root_list cells cell groups ports) roots same) h)) as (λ _. IsFirst r ⊎ IsOpen r) [
          | inl m ↦ inl (first (from_each (take 1) r m))
          | inr m ↦ let s = part_of (open_bits cells cell groups) ports r m in inr (opened s.0 s.1 s.2)
        ]
      where
        first : FromLive (take 1) r → IsFirst r
        first from =
            let t = taken_first (members_of classes from.class) r r from.is_there in
            let of_class : class_of classes r ≡ Some from.class = subst (λ n. class_of classes n ≡ Some from.class) (sym t.0) ((member_of_class cell classes are.classes (get_or (members_of classes from.class) 0 r) from.class).1 (first_there (members_of classes from.class) r t.1)) in
            let live : live_class groups r ≡ Some from.class = mark_there r from.class of_class from.live in
            record { class = from.class; live = live; is_root = root_is r from.class live ∙ sym t.0 }

        opened : (port : Node) → Contains ports port → Contains (open_bits cells cell groups port) r → IsOpen r
        opened (Port port bit) there h = absurd (nothing_there r h)
        opened (Pin instance port first) there h =
            let f = passed (λ pin. is_none (live_class groups pin)) (map (λ b. Pin instance port b) (range_with_len 0 (pin_width cells cell instance port))) r h in
            let m = image_of (λ b. Pin instance port b) (range_with_len 0 (pin_width cells cell instance port)) r f.0 in
            record { instance = instance; port = port; first = first; bit = m.0; is_pin = sym m.2; is_written = there; is_open = none_is (live_class groups r) f.1 }
        opened (Net net) there h = absurd (nothing_there r h)
        opened Zero there h = absurd (nothing_there r h)
        opened One there h = absurd (nothing_there r h)
