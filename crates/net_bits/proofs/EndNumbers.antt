-- the numbers of the ends of joins, while their keys are gone through in order
use Rattle.std.proofs.Common.{◌≡◌, ℕ, zero, suc, ◌+◌, ◌-◌, ◌%◌, ◌<◌, ◌≤◌, ◌++◌, inl, inr, Bool, true, false, cond, List, [], ◌∷◌, Option, Some, None, length, get_or, set, map, slice_get, refl, sym, ◌∙◌, ap, subst, arith, All, Contains, Less, length-set, get_or-set_same, get_or-set_other}
use Rattle.std.specs.List.Sorted.{IsNonDecreasing, IsStrictlySortedBy}
use Rattle.std.specs.Set.{distinct_count, is_member}
use Rattle.std.proofs.lemmas.Bool.{cases_eq, cases_lt}
use Rattle.std.proofs.lemmas.Cmp.{eq_by_cmp_equiv}
use Rattle.std.proofs.lemmas.List.{get_or_append_left, get_or_default, get_or_push, get_or-map, length-map, length_push, nil_from_length, same_lists}
use Rattle.std.proofs.lemmas.List.Elements.{All-contains, All-push}
use Rattle.std.proofs.lemmas.Map.Keys.{IsDistinct-from_sorted, Less-from_sorted, sorted_from_all_adjacent}
use Rattle.std.proofs.lemmas.Map.Made.{is_member-Decides, length-from_keys}
use Rattle.std.proofs.lemmas.Option.{get_or_from_slice_get, same_Some, slice_get-get_or, slice_get_within}
use Rattle.net_hier.specs.Nodes.{node_cmp, node_cmp_total}
use Rattle.net_hier.specs.declared.nodes.Node.{Node}
use Rattle.net_hier.specs.declared.nodes.Node.TheVariants.{Zero}
use Rattle.net_bits.specs.Ends.{AreEndNumbers, AreKeys, IsKey, IsNarrow, end_key, is_last, is_node, node_key, with_last}
use Rattle.net_bits.specs.Neighbours.{same_node}
use Rattle.net_bits.proofs.EndKeys.{place_of_key}
use Rattle.net_bits.proofs.Items.{Contains-place, place_of}
use Rattle.net_bits.proofs.KeyLaws.{key_below}
use Rattle.net_bits.proofs.Nodes.{same_node-Decides}

slice_get_push : {X : Type 0} (xs : List X) (y x : X) (n : ℕ) → slice_get xs n ≡ Some x → slice_get (xs ++ y ∷ []) n ≡ Some x
slice_get_push [] y x n h = absurd (cc)
slice_get_push (z ∷ zs) y x zero h = h
slice_get_push (z ∷ zs) y x (suc n) h = slice_get_push zs y x n h

slice_get_new : {X : Type 0} (xs : List X) (y : X) (n : ℕ) → n ≡ length xs → slice_get (xs ++ y ∷ []) n ≡ Some y
slice_get_new [] y zero h = refl
slice_get_new [] y (suc n) h = absurd (omega (arith, h))
slice_get_new (x ∷ xs) y zero h = absurd (omega (arith, h))
slice_get_new (x ∷ xs) y (suc n) h = slice_get_new xs y n (omega (arith, h))

-- a node above the last one comes behind the others
sorted_push : (nodes : List Node) (x y : Node) → IsStrictlySortedBy node_cmp nodes → slice_get nodes (length nodes - 1) ≡ Some x → node_cmp x y ≡ Less → IsStrictlySortedBy node_cmp (nodes ++ y ∷ [])
sorted_push nodes x y sorted last less = sorted_from_all_adjacent node_cmp_total (nodes ++ y ∷ []) x
    (λ k h.
    let long = length_push nodes y in
    elim (cases_lt (k + 1) (length nodes)) as (λ _. node_cmp (get_or (nodes ++ y ∷ []) k x) (get_or (nodes ++ y ∷ []) (k + 1) x) ≡ Less) [
      | inl l ↦ subst (λ z. node_cmp z (get_or (nodes ++ y ∷ []) (k + 1) x) ≡ Less) (sym (get_or_append_left nodes (y ∷ []) x k (omega (arith, l))))
          (subst (λ z. node_cmp (get_or nodes k x) z ≡ Less) (sym (get_or_append_left nodes (y ∷ []) x (k + 1) l))
          (Less-from_sorted node_cmp nodes k (k + 1) x sorted (omega arith) l))
      | inr g ↦
          let some = slice_get_within nodes (length nodes - 1) x last in
          let at : length nodes - 1 ≡ k = omega (arith, g, h, long, some) in
          let end : length nodes ≡ k + 1 = omega (arith, g, h, long, some) in
          let before : get_or (nodes ++ y ∷ []) k x ≡ x = get_or_append_left nodes (y ∷ []) x k (omega (arith, end)) ∙ get_or_from_slice_get nodes k x x (subst (λ n. slice_get nodes n ≡ Some x) at last) in
          let behind : get_or (nodes ++ y ∷ []) (k + 1) x ≡ y = get_or_push nodes y x (k + 1) end in
          subst (λ z. node_cmp z (get_or (nodes ++ y ∷ []) (k + 1) x) ≡ Less) (sym before) (subst (λ z. node_cmp x z ≡ Less) (sym behind) less)
    ])

-- the nodes at the first ends in the order of the keys, and the numbers of these ends
pub record IsNumbering (ends : List Node) (keys : List ℕ) (done : ℕ) (nodes : List Node) (numbers : List ℕ) : Type 0 where
  pub in_order : IsStrictlySortedBy node_cmp nodes
  pub from : All (Contains ends) nodes
  pub len : length numbers ≡ length ends
  pub few : length nodes ≤ done
  pub numbered : (i place : ℕ) (x : Node) → i < done → slice_get ends place ≡ Some x → get_or keys i 0 ≡ end_key x place → slice_get nodes (get_or numbers place 0) ≡ Some x
  pub last : (i place : ℕ) (x : Node) → i + 1 ≡ done → slice_get ends place ≡ Some x → get_or keys i 0 ≡ end_key x place → (slice_get nodes (length nodes - 1) ≡ Some x) × IsNarrow x

-- what the node makes of the nodes
record IsMore (ends : List Node) (done : ℕ) (nodes : List Node) (node : Node) (new : List Node) : Type 0 where
  in_order : IsStrictlySortedBy node_cmp new
  from : All (Contains ends) new
  few : length new ≤ done + 1
  last : slice_get new (length new - 1) ≡ Some node
  kept : (n : ℕ) (x : Node) → slice_get nodes n ≡ Some x → slice_get new n ≡ Some x

node_of_test : (node : Node) (o : Option Node) → is_node node o ≡ true → o ≡ Some node
node_of_test node None h = cc
node_of_test node (Some other) h = ap Some ((same_node-Decides other node).0 h)

module _ (ends : List Node) (keys : List ℕ) (few : length ends ≤ 67108864) (are : AreKeys ends keys) (sorted : IsNonDecreasing keys) where
  -- the end of a key
  key_at : (i : ℕ) → i < length keys → IsKey ends (get_or keys i 0)
  key_at i h = are.each i 0 h

  -- a node of a later key is no lesser one
  rises : (i j p q : ℕ) (x y : Node) → i ≤ j → j < length keys → get_or keys i 0 ≡ end_key x p → get_or keys j 0 ≡ end_key y q → p < 67108864 → q < 67108864 → node_key x ≤ node_key y
  rises i j p q x y l h ex ey hp hq = let s = sorted i j 0 l h in omega (arith, s, ex, ey, hp, hq)

  place_few : (place : ℕ) (x : Node) → slice_get ends place ≡ Some x → place < 67108864
  place_few place x h = let l = slice_get_within ends place x h in omega (arith, l, few)

  more : (done : ℕ) (nodes : List Node) (numbers : List ℕ) (place : ℕ) (node : Node) → IsNumbering ends keys done nodes numbers → done < length keys
      → slice_get ends place ≡ Some node → get_or keys done 0 ≡ end_key node place → IsNarrow node → IsMore ends done nodes node (with_last nodes node)
  more done nodes numbers place node state h at key narrow = by (is_last nodes node) refl
    where
      by : (b : Bool) → is_last nodes node ≡ b → IsMore ends done nodes node (cond b nodes (nodes ++ node ∷ []))
      by true e = record {
        in_order = state.in_order;
        from = state.from;
        few = omega (arith, state.few);
        last = node_of_test node (slice_get nodes (length nodes - 1)) e;
        kept = λ n x k. k;
      }
      by false e = record {
        in_order = elim (cases_eq done 0) as (λ _. IsStrictlySortedBy node_cmp (nodes ++ node ∷ [])) [
          | inl z ↦ subst (λ ns. IsStrictlySortedBy node_cmp (ns ++ node ∷ [])) (sym (nil_from_length nodes (omega (arith, z, state.few))))
              (sorted_from_all_adjacent node_cmp_total (node ∷ []) node (λ k l. absurd (omega (arith, l))))
          | inr some ↦
              let before : done - 1 + 1 ≡ done = omega (arith, some) in
              let k = key_at (done - 1) (omega (arith, some, h)) in
              let last = state.last (done - 1) k.0 k.1 before k.2 k.3 in
              let apart : same_node k.1 node ≡ false = sym (ap (is_node node) last.0) ∙ e in
              let up = rises (done - 1) done k.0 place k.1 node (omega arith) h k.3 key (place_few k.0 k.1 k.2) (place_few place node at) in
              sorted_push nodes k.1 node state.in_order last.0 (key_below k.1 node last.1 narrow up apart)
        ];
        from = All-push (Contains ends) nodes node state.from (Contains-place ends place node at);
        few = omega (arith, state.few, length_push nodes node);
        last = slice_get_new nodes node (length (nodes ++ node ∷ []) - 1) (omega (arith, length_push nodes node));
        kept = λ n x k. slice_get_push nodes node x n k;
      }

  -- the place of a key is one of an end
  pub place_within : (i : ℕ) → i < length keys → get_or keys i 0 % 67108864 < length ends
  place_within i h = let k = key_at i h in subst (λ n. n < length ends) (sym (place_of_key ends (get_or keys i 0) k.0 k.1 few k.2 k.3)) (slice_get_within ends k.0 k.1 k.2)

  -- one more key
  pub numbering_more : (done : ℕ) (nodes new : List Node) (numbers later : List ℕ) (place : ℕ) (node : Node) → IsNumbering ends keys done nodes numbers → done < length keys
      → slice_get ends place ≡ Some node → place ≡ get_or keys done 0 % 67108864 → IsNarrow node → new ≡ with_last nodes node
      → later ≡ set numbers place (length (with_last nodes node) - 1) → IsNumbering ends keys (done + 1) new later
  numbering_more done nodes new numbers later place node state h at is narrow made set_at =
      let k = key_at done h in
      let same : k.0 ≡ place = sym (is ∙ place_of_key ends (get_or keys done 0) k.0 k.1 few k.2 k.3) in
      let one : k.1 ≡ node = same_Some k.1 node (sym k.2 ∙ (ap (slice_get ends) same ∙ at)) in
      let key : get_or keys done 0 ≡ end_key node place = k.3 ∙ (λ i. end_key (one i) (same i)) in
      let step = subst (IsMore ends done nodes node) (sym made) (more done nodes numbers place node state h at key narrow) in
      let number = length new - 1 in
      let written : later ≡ set numbers place number = set_at ∙ ap (λ ns. set numbers place (length ns - 1)) (sym made) in
      let inside : place < length numbers = omega (arith, state.len, slice_get_within ends place node at) in
      let here : get_or later place 0 ≡ number = ap (λ ns. get_or ns place 0) written ∙ get_or-set_same numbers place number 0 inside in
      let now : slice_get new (get_or later place 0) ≡ Some node = ap (slice_get new) here ∙ step.last in
      record {
        in_order = step.in_order;
        from = step.from;
        len = ap length written ∙ (length-set numbers place number ∙ state.len);
        few = step.few;
        numbered = λ i p x l e f. elim (cases_eq p place) as (λ _. slice_get new (get_or later p 0) ≡ Some x) [
          | inl s ↦ subst (λ q. slice_get new (get_or later q 0) ≡ Some x) (sym s) (now ∙ (sym at ∙ (ap (slice_get ends) (sym s) ∙ e)))
          | inr other ↦
              let earlier : i < done = elim (cases_lt i done) as (λ _. i < done) [
                | inl before ↦ before
                | inr g ↦ absurd (other (
                    let at_done : i ≡ done = omega (arith, l, g) in
                    let e₂ : get_or keys done 0 ≡ end_key x p = ap (λ n. get_or keys n 0) (sym at_done) ∙ f in
                    sym (is ∙ place_of_key ends (get_or keys done 0) p x few e e₂)))
              ] in
              let kept : get_or later p 0 ≡ get_or numbers p 0 = ap (λ ns. get_or ns p 0) written ∙ get_or-set_other numbers place p number 0 other in
              ap (slice_get new) kept ∙ step.kept (get_or numbers p 0) x (state.numbered i p x earlier e f)
        ];
        last = λ i p x l e f.
            let at_done : i ≡ done = omega (arith, l) in
            let e₂ : get_or keys done 0 ≡ end_key x p = ap (λ n. get_or keys n 0) (sym at_done) ∙ f in
            let s : p ≡ place = sym (is ∙ place_of_key ends (get_or keys done 0) p x few e e₂) in
            let t : node ≡ x = same_Some node x (sym at ∙ (ap (slice_get ends) (sym s) ∙ e)) in
            (step.last ∙ ap Some t, subst IsNarrow t narrow);
      }

  -- after all keys
  pub numbering_all : (done : ℕ) (nodes : List Node) (numbers : List ℕ) → length keys ≤ done → IsNumbering ends keys done nodes numbers → AreEndNumbers ends nodes numbers
  numbering_all done nodes numbers h state =
      let by_place : (place : ℕ) (x : Node) → slice_get ends place ≡ Some x → slice_get nodes (get_or numbers place 0) ≡ Some x = λ place x e.
      let c = are.all place x e in
      state.numbered c.0 place x (omega (arith, h, c.1)) e (get_or_default keys c.0 0 (end_key x place) c.1 ∙ c.2) in
      record {
        in_order = state.in_order;
        joined = λ node. (
          λ c. All-contains (Contains ends) nodes node state.from c,
          λ c. let p = place_of ends node c in Contains-place nodes (get_or numbers p.0 0) node (by_place p.0 node p.1),
        );
        by_number = same_lists (map (slice_get nodes) numbers) (map Some ends) (length-map numbers (slice_get nodes) ∙ (state.len ∙ sym (length-map ends Some)))
            (λ k d l.
            let in_numbers : k < length numbers = omega (arith, l, length-map numbers (slice_get nodes)) in
            let in_ends : k < length ends = omega (arith, in_numbers, state.len) in
            get_or-map (slice_get nodes) numbers k 0 d in_numbers
            ∙ (by_place k (get_or ends k Zero) (slice_get-get_or ends k Zero in_ends)
            ∙ sym (get_or-map Some ends k Zero d in_ends)));
      }

-- before the first key
pub numbering_none : (ends : List Node) (keys numbers : List ℕ) → length numbers ≡ length ends → IsNumbering ends keys 0 [] numbers
numbering_none ends keys numbers len = record {
  in_order = sorted_from_all_adjacent node_cmp_total [] Zero (λ k h. absurd (omega (arith, h)));
  from = λ k d h. absurd (omega (arith, h));
  len = len;
  few = omega arith;
  numbered = λ i p x h e f. absurd (omega (arith, h));
  last = λ i p x h e f. absurd (omega (arith, h));
}

same_answers : (a b : Bool) → (a ≡ true → b ≡ true) → (b ≡ true → a ≡ true) → a ≡ b
same_answers true b f g = sym (f refl)
same_answers false true f g = g refl
same_answers false false f g = refl

-- as many nodes as there are different ends
pub count_nodes : (ends nodes : List Node) (numbers : List ℕ) → AreEndNumbers ends nodes numbers → length nodes ≡ distinct_count same_node ends
count_nodes ends nodes numbers are = length-from_keys (eq_by_cmp_equiv node_cmp_total) nodes ends (IsDistinct-from_sorted node_cmp nodes are.in_order)
    (λ q.
    let in_nodes = is_member-Decides same_node-Decides nodes q in
    let in_ends = is_member-Decides same_node-Decides ends q in
    same_answers (is_member same_node nodes q) (is_member same_node ends q) (λ t. in_ends.1 ((are.joined q).0 (in_nodes.0 t))) (λ t. in_nodes.1 ((are.joined q).1 (in_ends.0 t))))
