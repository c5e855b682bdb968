-- The first instance through which a module reaches itself.
use Rattle.std.proofs.Common.{◌≡◌, ℕ, zero, suc, ◌+◌, ◌<◌, ◌≤◌, not, Bool, true, false, cond, List, [], ◌∷◌, ◌++◌, Option, None, Some, bytes_eq, find, flat_map, get_or, length, map, nat_lt, slice_get, refl, sym, ap, subst, ◌∙◌, arith}
use Rattle.std.specs.Prelude.{◌==◌, option_map, option_to_list, position}
use Rattle.std.specs.Option.{option_map_or}
use Rattle.std.specs.List.{list_any, position_or_len}
use Rattle.std.proofs.lemmas.Bool.{false≢true, ltb-false, or_parts, false_from_ne_true}
use Rattle.std.proofs.lemmas.List.{get_or_past, length-map, map-append}
use Rattle.std.proofs.lemmas.Option.{slice_get-map}
use Rattle.nl_base.specs.declared.rule.Rule.TheVariants.{G16}
use Rattle.net_graph.specs.Graph.{IsAbove, IsFirstRecursion, IsInRange, IsReached, ReachesItself}
use Rattle.net_graph.specs.Marks.{IsReachable, below, has_below, is_marked, itself, marks_of}
use Rattle.net_graph.proofs.MarkLaws.{marked-reachable, reachable-marked}
use Rattle.net_graph.proofs.WorkLaws.{has_above, marked_by_reach, reached_by_marks}
use Rattle.vlog_design.specs.Names.{Name, has_name, instance_statements}
use Rattle.vlog_design.specs.Reach.{instance_modules, module_number, modules_below, reaches, statement_modules}
use Rattle.vlog_design.specs.Rules.{first_of, in_modules, recursions, refused, statement_names}
use Rattle.vlog_reach.proofs.ReachLaws.{graph_is, graph_long, in_range}
use Rattle.vlog_reach.specs.Places.{places_in}
use Rattle.vlog_scopes.specs.Distinct.{Distinct, module_names}
use Rattle.vlog_scopes.specs.Instances.{Link, instance_pairs, linked, links_in, numbers_in}
use Rattle.vlog_scopes.proofs.DistinctLaws.{other_way, same_name}
use Rattle.vlog_values.specs.declared.module.Module.{Module}
use Rattle.vlog_values.specs.declared.statement.Instances.{Instances}
use Rattle.vlog_values.specs.declared.statement.VInst.{VInst}

-- the graph

link_numbers : (names : List Name) (pairs : List (Name × Name)) → map (λ (link : Link). link.1) (links_in names pairs) ≡ places_in names (map (λ (pair : Name × Name). pair.1) pairs)
link_numbers names [] = refl
link_numbers names (pair ∷ pairs) =
    map-append (λ (link : Link). link.1) (linked pair.0 (position (bytes_eq pair.1) names)) (links_in names pairs)
    ∙ (λ j. one pair.0 (position (bytes_eq pair.1) names) j ++ link_numbers names pairs j)
  where
    one : (instance : Name) (place : Option ℕ) → map (λ (link : Link). link.1) (linked instance place) ≡ option_to_list place
    one instance None = refl
    one instance (Some number) = refl

statement_pairs : (statement : Instances) → map (λ (pair : Name × Name). pair.1) (statement_names statement) ≡ statement_modules statement
statement_pairs statement = go statement.insts
  where
    go : (insts : List VInst) → map (λ (pair : Name × Name). pair.1) (map (λ (instance : VInst). (instance.name, statement.module)) insts) ≡ map (λ instance. statement.module) insts
    go [] = refl
    go (u ∷ us) = ap (λ rest. statement.module ∷ rest) (go us)

each_pairs : (statements : List Instances) → map (λ (pair : Name × Name). pair.1) (flat_map statement_names statements) ≡ flat_map statement_modules statements
each_pairs [] = refl
each_pairs (s ∷ ss) = map-append (λ (pair : Name × Name). pair.1) (statement_names s) (flat_map statement_names ss) ∙ (λ j. statement_pairs s j ++ each_pairs ss j)

pair_modules : (m : Module) → map (λ (pair : Name × Name). pair.1) (instance_pairs m) ≡ instance_modules m
unfolding instance_pairs instance_modules
pair_modules m = each_pairs (instance_statements m)

numbers_are : (names : List Name) (m : Module) → numbers_in names m ≡ places_in names (instance_modules m)
numbers_are names m = link_numbers names (instance_pairs m) ∙ ap (places_in names) (pair_modules m)

each_numbers : (names : List Name) (ms : List Module) → map (numbers_in names) ms ≡ map (λ m. places_in names (instance_modules m)) ms
each_numbers names [] = refl
each_numbers names (m ∷ ms) = λ j. numbers_are names m j ∷ each_numbers names ms j

pub graph_same : (modules : List Module) (names : List Name) → names ≡ module_names modules → map (numbers_in names) modules ≡ modules_below modules
graph_same modules names e = each_numbers names modules ∙ graph_is modules names e

-- the first in lists

first_some : {A B : Type 0} (f : A → List B) (xs : List A) (i : ℕ) (x : A) (y : B) → slice_get xs i ≡ Some x → ((j : ℕ) (z : A) → j < i → slice_get xs j ≡ Some z → f z ≡ []) → first_of (f x) ≡ Some y → first_of (flat_map f xs) ≡ Some y
first_some f [] i x y e none h = absurd cc
first_some f (z ∷ xs) zero x y e none h = let g : z ≡ x = cc in front (f z) (flat_map f xs) y (ap (λ w. first_of (f w)) g ∙ h)
  where
    front : {B : Type 0} (ys zs : List B) (y : B) → first_of ys ≡ Some y → first_of (ys ++ zs) ≡ Some y
    front [] zs y e = absurd cc
    front (w ∷ ys) zs y e = e
first_some f (z ∷ xs) (suc i) x y e none h =
    ap (λ ys. first_of (ys ++ flat_map f xs)) (none 0 z (omega arith) refl) ∙ first_some f xs i x y e (λ j w lt g. none (suc j) w (omega (arith, lt)) g) h

none_at_all : {A B : Type 0} (f : A → List B) (xs : List A) → ((j : ℕ) (z : A) → slice_get xs j ≡ Some z → f z ≡ []) → flat_map f xs ≡ []
none_at_all f [] none = refl
none_at_all f (z ∷ xs) none = (λ j. none 0 z refl j ++ none_at_all f xs (λ i. none (suc i)) j)

find_none : {A : Type 0} (p : A → Bool) (xs : List A) → ((j : ℕ) (z : A) → slice_get xs j ≡ Some z → p z ≡ false) → find p xs ≡ None
find_none p [] none = refl
find_none p (z ∷ xs) none = ap (λ b. cond b (Some z) (find p xs)) (none 0 z refl) ∙ find_none p xs (λ i. none (suc i))

find_first : {A : Type 0} (p : A → Bool) (xs : List A) (i : ℕ) (x : A) → slice_get xs i ≡ Some x → p x ≡ true → ((j : ℕ) (z : A) → j < i → slice_get xs j ≡ Some z → p z ≡ false) → find p xs ≡ Some x
find_first p [] i x e h none = absurd cc
find_first p (z ∷ xs) zero x e h none = let g : z ≡ x = cc in ap (λ b. cond b (Some z) (find p xs)) (ap p g ∙ h) ∙ ap Some g
find_first p (z ∷ xs) (suc i) x e h none =
    ap (λ b. cond b (Some z) (find p xs)) (none 0 z (omega arith) refl) ∙ find_first p xs i x e h (λ j w lt g. none (suc j) w (omega (arith, lt)) g)

-- a place at which something stands is one of the list
pub there : {A : Type 0} (xs : List A) (i : ℕ) (x : A) → slice_get xs i ≡ Some x → i < length xs
there [] i x h = absurd cc
there (y ∷ ys) zero x h = omega arith
there (y ∷ ys) (suc i) x h = let r = there ys i x h in omega (arith, r)

-- what is read at a place stands there
pub read_there : {A : Type 0} (xs : List A) (i : ℕ) (d x : A) → i < length xs → x ≡ get_or xs i d → slice_get xs i ≡ Some x
read_there [] i d x h e = absurd (omega (arith, h))
read_there (y ∷ ys) zero d x h e = ap Some (sym e)
read_there (y ∷ ys) (suc i) d x h e = read_there ys i d x (omega (arith, h)) e

-- a module of different names has its own number

not_there : (modules : List Module) (n : ℕ) (m : Module) (name : Name) → slice_get modules n ≡ Some m → has_name (module_names modules) name ≡ false → bytes_eq name m.name ≡ false
not_there [] n m name e h = absurd cc
not_there (x ∷ xs) zero m name e h = let g : x ≡ m = cc in ap (λ (y : Module). bytes_eq name y.name) (sym g) ∙ (or_parts (bytes_eq name x.name) (has_name (module_names xs) name) h).0
not_there (x ∷ xs) (suc n) m name e h = not_there xs n m name e ((or_parts (bytes_eq name x.name) (has_name (module_names xs) name) h).1)

pub own_number : (modules : List Module) (n : ℕ) (m : Module) → Distinct (module_names modules) → slice_get modules n ≡ Some m → module_number modules m.name ≡ n
unfolding module_number
own_number [] n m d e = absurd cc
own_number (x ∷ xs) zero m d e =
    let g : x ≡ m = cc in
    ap (λ b. cond (not b) (1 + position_or_len (λ (y : Module). bytes_eq m.name y.name) xs) 0) (ap (λ (y : Module). bytes_eq m.name y.name) g ∙ same_name m.name)
own_number (x ∷ xs) (suc n) m d e =
    let rest = own_number xs n m d.1 e in
    ap (λ b. cond (not b) (1 + position_or_len (λ (y : Module). bytes_eq m.name y.name) xs) 0) (other_way x.name m.name (not_there xs n m x.name e d.0))
    ∙ omega (arith, rest)

place_or_len : (modules : List Module) (name : Name) → position_or_len (bytes_eq name) (module_names modules) ≡ module_number modules name
unfolding module_number
place_or_len [] name = refl
place_or_len (m ∷ ms) name = rw (place_or_len ms name) refl

-- what a look-up of a module's name tells
pub place_some : (modules : List Module) (names : List Name) (of : Name) (number : ℕ) → names ≡ module_names modules → position (bytes_eq of) names ≡ Some number → module_number modules of ≡ number
place_some modules names of number e h =
    by (nat_lt (position_or_len (bytes_eq of) (module_names modules)) (length (module_names modules))) (ap (position (bytes_eq of)) (sym e) ∙ h)
  where
    by : (b : Bool) → cond b (Some (position_or_len (bytes_eq of) (module_names modules))) None ≡ Some number → module_number modules of ≡ number
    by true g = let same : position_or_len (bytes_eq of) (module_names modules) ≡ number = cc in sym (place_or_len modules of) ∙ same
    by false g = absurd cc

place_none : (modules : List Module) (names : List Name) (of : Name) → names ≡ module_names modules → position (bytes_eq of) names ≡ None → length modules ≤ module_number modules of
place_none modules names of e h =
    by (nat_lt (position_or_len (bytes_eq of) (module_names modules)) (length (module_names modules))) refl (ap (position (bytes_eq of)) (sym e) ∙ h)
  where
    by : (b : Bool) → nat_lt (position_or_len (bytes_eq of) (module_names modules)) (length (module_names modules)) ≡ b → ◌≡◌ {A = Option ℕ} (cond b (Some (position_or_len (bytes_eq of) (module_names modules))) None) None → length modules ≤ module_number modules of
    by true t g = absurd cc
    by false t g =
        let past = ltb-false (position_or_len (bytes_eq of) (module_names modules)) (length (module_names modules)) t in
        omega (arith, past, place_or_len modules of, length-map modules (λ (m : Module). m.name))

-- from a number outside the graph nothing is reached but itself, which has no mark

nothing_below : (graph : List (List ℕ)) (start k : ℕ) → length graph ≤ start → has_below graph start k ≡ false
nothing_below graph start k h = ap (λ numbers. list_any (λ n. n == k) numbers) (get_or_past graph start [] h)

reaches_itself_alone : (graph : List (List ℕ)) (start : ℕ) → length graph ≤ start → (k : ℕ) → IsReachable graph start k → k ≡ start
reaches_itself_alone graph start h k itself = refl
reaches_itself_alone graph start h k (below {outer = outer} {number = number} r e) =
    absurd (false≢true (sym (nothing_below graph start k h) ∙ (ap (λ o. has_below graph o k) (sym (reaches_itself_alone graph start h outer r)) ∙ e)))

outside_unmarked : (graph : List (List ℕ)) (start k : ℕ) → length graph ≤ start → k < length graph → is_marked (marks_of graph start) k ≡ false
outside_unmarked graph start k h lt =
    false_from_ne_true (is_marked (marks_of graph start) k)
    (λ e. let same : k ≡ start = reaches_itself_alone graph start h k (reachable-marked graph start k e) in absurd (omega (arith, same, h, lt)))

module _ (modules : List Module) (differ : Distinct (module_names modules)) where
  ranged : IsInRange (modules_below modules)
  ranged = in_range modules (modules_below modules) refl

  bounds : (outer number : ℕ) → has_below (modules_below modules) outer number ≡ true → number < length (modules_below modules)
  bounds outer number h = ranged outer number (has_above (modules_below modules) outer number h)

  marked_is : (start k : ℕ) → start < length (modules_below modules) → IsReached (modules_below modules) start k → is_marked (marks_of (modules_below modules) start) k ≡ true
  marked_is start k lt r = marked-reachable (modules_below modules) start lt bounds k (marked_by_reach (modules_below modules) start k r)

  is_marked_so : (start k : ℕ) → is_marked (marks_of (modules_below modules) start) k ≡ true → IsReached (modules_below modules) start k
  is_marked_so start k h = reached_by_marks (modules_below modules) start k (reachable-marked (modules_below modules) start k h)

  -- the row of a module
  row : (n : ℕ) (m : Module) → slice_get modules n ≡ Some m → slice_get (modules_below modules) n ≡ Some (numbers_in (module_names modules) m)
  row n m e =
      ap (λ g. slice_get g n) (sym (graph_same modules (module_names modules) refl))
      ∙ (slice_get-map (numbers_in (module_names modules)) modules n ∙ ap (option_map (numbers_in (module_names modules))) e)

  one_link : (n : ℕ) (m : Module) → slice_get modules n ≡ Some m → n < length (modules_below modules) → (pair : Name × Name) (place : Option ℕ) → position (bytes_eq pair.1) (module_names modules) ≡ place → (rest : List Link) (after : Option Name) →
      option_map (λ (link : Link). link.0) (find (λ (link : Link). is_marked (marks_of (modules_below modules) link.1) n) rest) ≡ after →
      option_map (λ (link : Link). link.0) (find (λ (link : Link). is_marked (marks_of (modules_below modules) link.1) n) (linked pair.0 place ++ rest)) ≡ cond (reaches modules pair.1 m.name) (Some pair.0) after
  unfolding reaches
  one_link n m e lt pair None p rest after h =
      h ∙ sym (ap (λ b. cond b (Some pair.0) after)
      (ap (is_marked (marks_of (modules_below modules) (module_number modules pair.1))) (own_number modules n m differ e)
      ∙ outside_unmarked (modules_below modules) (module_number modules pair.1) n
      (omega (arith, place_none modules (module_names modules) pair.1 refl p, graph_long modules)) lt))
  one_link n m e lt pair (Some number) p rest after h =
      taken (is_marked (marks_of (modules_below modules) number) n) (find (λ (link : Link). is_marked (marks_of (modules_below modules) link.1) n) rest) h
      ∙ sym (ap (λ b. cond b (Some pair.0) after) (λ j. is_marked (marks_of (modules_below modules) (place_some modules (module_names modules) pair.1 number refl p j)) (own_number modules n m differ e j)))
    where
      taken : (b : Bool) (o : Option Link) → option_map (λ (link : Link). link.0) o ≡ after → option_map (λ (link : Link). link.0) (cond b (Some (pair.0, number)) o) ≡ cond b (Some pair.0) after
      taken true o g = refl
      taken false o g = g

  found_link : (n : ℕ) (m : Module) → slice_get modules n ≡ Some m → n < length (modules_below modules) → (pairs : List (Name × Name)) →
      option_map (λ (link : Link). link.0) (find (λ (link : Link). is_marked (marks_of (modules_below modules) link.1) n) (links_in (module_names modules) pairs))
      ≡ option_map (λ (pair : Name × Name). pair.0) (find (λ (pair : Name × Name). reaches modules pair.1 m.name) pairs)
  found_link n m e lt [] = refl
  found_link n m e lt (pair ∷ pairs) =
      one_link n m e lt pair (position (bytes_eq pair.1) (module_names modules)) refl (links_in (module_names modules) pairs)
      (option_map (λ (p : Name × Name). p.0) (find (λ (p : Name × Name). reaches modules p.1 m.name) pairs)) (found_link n m e lt pairs)
      ∙ by (reaches modules pair.1 m.name) (find (λ (p : Name × Name). reaches modules p.1 m.name) pairs)
    where
      by : (b : Bool) (o : Option (Name × Name)) → cond b (Some pair.0) (option_map (λ (p : Name × Name). p.0) o) ≡ option_map (λ (p : Name × Name). p.0) (cond b (Some pair) o)
      by true o = refl
      by false o = refl

  -- the objects of a module, by its links
  objects_are : (n : ℕ) (m : Module) (found : Option Link) → slice_get modules n ≡ Some m → n < length (modules_below modules) →
      find (λ (link : Link). is_marked (marks_of (modules_below modules) link.1) n) (links_in (module_names modules) (instance_pairs m)) ≡ found →
      recursions modules m ≡ option_map_or (λ (link : Link). (link.0 ∷ []) ∷ []) found []
  unfolding recursions instance_pairs
  objects_are n m found e lt h =
      by (find (λ (pair : Name × Name). reaches modules pair.1 m.name) (flat_map statement_names (instance_statements m))) found
      (sym (found_link n m e lt (flat_map statement_names (instance_statements m))) ∙ ap (option_map (λ (link : Link). link.0)) h)
    where
      by : (o : Option (Name × Name)) (f : Option Link) → option_map (λ (pair : Name × Name). pair.0) o ≡ option_map (λ (link : Link). link.0) f
          → option_map_or (λ (pair : Name × Name). (pair.0 ∷ []) ∷ []) o [] ≡ option_map_or (λ (link : Link). (link.0 ∷ []) ∷ []) f []
      by None None g = refl
      by None (Some link) g = absurd cc
      by (Some pair) None g = absurd cc
      by (Some pair) (Some link) g = let same : pair.0 ≡ link.0 = cc in ap (λ name. (name ∷ []) ∷ []) same

  within : (n : ℕ) (m : Module) → slice_get modules n ≡ Some m → n < length (modules_below modules)
  within n m e = subst (λ size. n < size) (sym (graph_long modules)) (there modules n m e)

  -- a link of a module stands below it
  link_above : (n : ℕ) (m : Module) (i : ℕ) (link : Link) → slice_get modules n ≡ Some m → slice_get (links_in (module_names modules) (instance_pairs m)) i ≡ Some link → IsAbove (modules_below modules) n link.1
  link_above n m i link e g = record {
    numbers = numbers_in (module_names modules) m;
    are_below = row n m e;
    place = i;
    is_there = slice_get-map (λ (l : Link). l.1) (links_in (module_names modules) (instance_pairs m)) i ∙ ap (option_map (λ (l : Link). l.1)) g;
  }

  -- a module that does not reach itself has no object
  quiet : (n : ℕ) (m : Module) → slice_get modules n ≡ Some m → ¬ ReachesItself (modules_below modules) n → map (refused G16 m.name) (recursions modules m) ≡ []
  quiet n m e free =
      ap (map (refused G16 m.name)) (objects_are n m None e (within n m e) (find_none (λ (link : Link). is_marked (marks_of (modules_below modules) link.1) n) (links_in (module_names modules) (instance_pairs m))
      (λ i link g. false_from_ne_true (is_marked (marks_of (modules_below modules) link.1) n) (λ h. free (record { below = link.1; first = link_above n m i link e g; back = is_marked_so link.1 n h })))))

  pub no_recursion : ((number : ℕ) → ¬ ReachesItself (modules_below modules) number) → None ≡ first_of (in_modules G16 (recursions modules) modules)
  no_recursion free = sym (ap first_of (none_at_all (λ m. map (refused G16 m.name) (recursions modules m)) modules (λ n m e. quiet n m e (free n))))

  pub module_within : (n i : ℕ) → IsFirstRecursion (modules_below modules) n i → n < length modules
  module_within n i first = subst (λ size. n < size) (graph_long modules) (there (modules_below modules) n first.closing.numbers first.closing.are_below)

  pub place_within : (n i : ℕ) → IsFirstRecursion (modules_below modules) n i → (m : Module) → slice_get modules n ≡ Some m → i < length (links_in (module_names modules) (instance_pairs m))
  place_within n i first m e =
      let a : slice_get (modules_below modules) n ≡ Some (numbers_in (module_names modules) m) = row n m e in
      let b : slice_get (modules_below modules) n ≡ Some first.closing.numbers = first.closing.are_below in
      let are : first.closing.numbers ≡ numbers_in (module_names modules) m = cc in
      let inside : i < length first.closing.numbers = there first.closing.numbers i first.closing.inner first.closing.is_there in
      subst (λ size. i < size) (ap length are ∙ length-map (links_in (module_names modules) (instance_pairs m)) (λ (link : Link). link.1)) inside

  pub the_recursion : (n i : ℕ) → IsFirstRecursion (modules_below modules) n i → (m : Module) (link : Link) → slice_get modules n ≡ Some m → slice_get (links_in (module_names modules) (instance_pairs m)) i ≡ Some link
      → Some (refused G16 m.name (link.0 ∷ [])) ≡ first_of (in_modules G16 (recursions modules) modules)
  the_recursion n i first m link e g =
      sym (first_some (λ x. map (refused G16 x.name) (recursions modules x)) modules n m (refused G16 m.name (link.0 ∷ [])) e
      (λ j x lt h. quiet j x h (first.first_number j lt))
      (ap (λ objects. first_of (map (refused G16 m.name) objects))
      (objects_are n m (Some link) e (within n m e)
      (find_first (λ (l : Link). is_marked (marks_of (modules_below modules) l.1) n) (links_in (module_names modules) (instance_pairs m)) i link g
      (marked_is link.1 n (ranged n link.1 (link_above n m i link e g)) reached)
      (λ j other lt h. false_from_ne_true (is_marked (marks_of (modules_below modules) other.1) n)
      (λ mark. first.closing.first_place j other.1 lt (place_of j other h) (is_marked_so other.1 n mark)))))))
    where
      are : first.closing.numbers ≡ numbers_in (module_names modules) m
      are = let a : slice_get (modules_below modules) n ≡ Some (numbers_in (module_names modules) m) = row n m e in
          let b : slice_get (modules_below modules) n ≡ Some first.closing.numbers = first.closing.are_below in cc

      place_of : (j : ℕ) (other : Link) → slice_get (links_in (module_names modules) (instance_pairs m)) j ≡ Some other → slice_get first.closing.numbers j ≡ Some other.1
      place_of j other h = ap (λ ns. slice_get ns j) are ∙ (slice_get-map (λ (l : Link). l.1) (links_in (module_names modules) (instance_pairs m)) j ∙ ap (option_map (λ (l : Link). l.1)) h)

      inner_is : first.closing.inner ≡ link.1
      inner_is = let a : slice_get first.closing.numbers i ≡ Some link.1 = place_of i link g in
          let b : slice_get first.closing.numbers i ≡ Some first.closing.inner = first.closing.is_there in cc

      reached : IsReached (modules_below modules) link.1 n
      reached = subst (λ k. IsReached (modules_below modules) k n) inner_is first.closing.closes
