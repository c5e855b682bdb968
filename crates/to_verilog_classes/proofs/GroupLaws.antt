-- Which classes of a cell are written.
use Rattle.std.proofs.Common.{◌≡◌, ℕ, zero, suc, ◌+◌, ◌<◌, ◌≤◌, Bool, true, false, if◌then◌else◌, List, [], ◌∷◌, ◌++◌, Option, Some, None, map, length, slice_index_or, refl, sym, ◌∙◌, ap, arith, Contains}
use Rattle.std.specs.List.{range_with_len}
use Rattle.std.specs.Option.{option_and_then}
use Rattle.std.proofs.lemmas.List.FromFn.{length-map-range_with_len, get_or-map-range_with_len}
use Rattle.net_hier.specs.declared.cells.HCell.{HCell}
use Rattle.net_hier.specs.declared.nodes.Node.{Node}
use Rattle.net_bits.specs.Classes.{AreClasses, ClassTable, class_of, members_of}
use Rattle.net_bits.proofs.CallerLaws.{member_of_class}
use Rattle.net_live.specs.Live.{is_live}
use Rattle.to_verilog_classes.specs.Groups.{AreGroups, GroupTable, HasMarks, if_live, live_class}

-- one number more
pub range_more : (first n : ℕ) → range_with_len first (n + 1) ≡ range_with_len first n ++ (first + n) ∷ []
range_more first zero = let e : first ≡ first + 0 = omega arith in ap (λ k. k ∷ []) e
range_more first (suc n) =
    let e : suc n + 1 ≡ suc (n + 1) = omega arith in
    let k : first + 1 + n ≡ first + suc n = omega arith in
    ap (range_with_len first) e ∙ (ap (λ l. first ∷ l) (range_more (first + 1) n) ∙ ap (λ m. first ∷ (range_with_len (first + 1) n ++ m ∷ [])) k)

pub map_both : {A B : Type 0} (f : A → B) (xs ys : List A) → map f (xs ++ ys) ≡ map f xs ++ map f ys
map_both f [] ys = refl
map_both f (x ∷ xs) ys = ap (λ l. f x ∷ l) (map_both f xs ys)

pub marks_turn : (f : ℕ → Bool) (n : ℕ) (now new : List Bool) (x : Bool) → now ≡ map f (range_with_len 0 n) → x ≡ f n → new ≡ now ++ x ∷ [] → new ≡ map f (range_with_len 0 (n + 1))
marks_turn f n now new x i e m =
    let z : 0 + n ≡ n = omega arith in
    m ∙ (ap (λ l. l ++ x ∷ []) i ∙ (ap (λ b. map f (range_with_len 0 n) ++ b ∷ []) e
    ∙ sym (ap (map f) (range_more 0 n) ∙ (map_both f (range_with_len 0 n) ((0 + n) ∷ []) ∙ ap (λ k. map f (range_with_len 0 n) ++ f k ∷ []) z))))

has_some : {X : Type 0} (xs : List X) (x : X) → Contains xs x → 1 ≤ length xs
has_some xs x h = omega (arith, h.1)

module _ (cell : HCell) (classes : ClassTable) (live : List Bool) (are : AreClasses cell classes) (is : live ≡ map (λ class. is_live cell.nets (members_of classes class)) (range_with_len 0 classes.count)) where
  pub marks_made : HasMarks (record { classes = classes; live = live })
  marks_made = record {
    len = ap length is ∙ length-map-range_with_len (λ class. is_live cell.nets (members_of classes class)) 0 classes.count;
    below = are.below;
    some = λ class h. let u = are.used class h in has_some (members_of classes class) u.0 ((member_of_class cell classes are u.0 class).0 u.1);
  }

  pub groups_made : AreGroups cell (record { classes = classes; live = live })
  groups_made = record {
    classes = are;
    live = λ class h. ap (λ l. slice_index_or l class false) is ∙ get_or-map-range_with_len (λ class. is_live cell.nets (members_of classes class)) 0 classes.count class class false h (omega arith);
  }

-- a class that is written is one of the classes
written_class : (groups : GroupTable) (o : Option ℕ) (class : ℕ) → option_and_then (if_live groups) o ≡ Some class → o ≡ Some class
written_class groups None class e = absurd (cc)
written_class groups (Some k) class e = ap Some (by (slice_index_or groups.live k false) e)
  where
    by : (b : Bool) → (if b then Some k else None) ≡ Some class → k ≡ class
    by true e = cc
    by false e = absurd (cc)

pub written_below : (groups : GroupTable) → HasMarks groups → (node : Node) (class : ℕ) → live_class groups node ≡ Some class → class < groups.classes.count
written_below groups marks node class e = marks.below node class (written_class groups (class_of groups.classes node) class e)
