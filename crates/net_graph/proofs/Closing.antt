-- The search for the place in a number's list from which the number is reached.
use Rattle.std.proofs.Common.{◌≡◌, ℕ, ◌+◌, ◌<◌, ◌≤◌, ◌⊎◌, inl, inr, Bool, true, false, List, length, replicate, slice_get, Some, refl, subst, arith}
use Rattle.std.specs.Prelude.{◌↔◌}
use Rattle.std.proofs.lemmas.List.{length-replicate}
use Rattle.std.proofs.lemmas.Option.{slice_get_within}
use Rattle.net_graph.specs.Graph.{HasList, IsAbove, IsClosing, IsReached, ReachesItself}
use Rattle.net_graph.specs.Marks.{is_marked}
use Rattle.net_graph.specs.WorkList.{AreClosed}
use Rattle.net_graph.proofs.ListLaws.{same_element}
use Rattle.net_graph.proofs.MarkLaws.{no_mark}
use Rattle.net_graph.proofs.WorkLaws.{none_closed}

-- the number is reached from one of the numbers before the place
pub record IsReachedBefore (graph : List (List ℕ)) (numbers : List ℕ) (place k : ℕ) : Type 0 where
  pub earlier : ℕ
  pub is_earlier : earlier < place
  pub other : ℕ
  pub is_there : slice_get numbers earlier ≡ Some other
  pub reached : IsReached graph other k

-- what is marked before the number at the place is looked at
pub record Searches (graph : List (List ℕ)) (number : ℕ) (numbers : List ℕ) (place : ℕ) (marks : List Bool) : Type 0 where
  pub long : length marks ≡ length graph
  pub closed : AreClosed graph marks
  pub are : (k : ℕ) → (is_marked marks k ≡ true) ↔ IsReachedBefore graph numbers place k
  pub not_yet : is_marked marks number ≡ false

unmarked : (b : Bool) → ¬ (b ≡ true) → b ≡ false
unmarked true h = absurd (h refl)
unmarked false h = refl

pub le_or_is : (a b : ℕ) → a < b + 1 → (a < b) ⊎ (a ≡ b)
le_or_is a b h = grind arith

module _ (graph : List (List ℕ)) (number : ℕ) (numbers : List ℕ) where
  pub search_start : Searches graph number numbers 0 (replicate (length graph) false)
  search_start = record {
    long = length-replicate (length graph) false;
    closed = none_closed graph (length graph);
    are = λ k. ((λ h. absurd (no_mark (length graph) k h)), (λ b. absurd (omega (arith, b.is_earlier))));
    not_yet = unmarked (is_marked (replicate (length graph) false) number) (no_mark (length graph) number);
  }

  pub search_more : (place inner : ℕ) (marks new : List Bool) → Searches graph number numbers place marks → slice_get numbers place ≡ Some inner → length new ≡ length graph → AreClosed graph new →
      ((k : ℕ) → (is_marked new k ≡ true) ↔ ((is_marked marks k ≡ true) ⊎ IsReached graph inner k)) → is_marked new number ≡ false → Searches graph number numbers (place + 1) new
  search_more place inner marks new s there long closed are none = record {
    long = long;
    closed = closed;
    are = λ k. (
      (λ h. elim ((are k).0 h) [
        | inl e ↦ (let b : IsReachedBefore graph numbers place k = (s.are k).0 e in record { earlier = b.earlier; is_earlier = omega (arith, b.is_earlier); other = b.other; is_there = b.is_there; reached = b.reached })
        | inr e ↦ record { earlier = place; is_earlier = omega arith; other = inner; is_there = there; reached = e }
      ]),
      (λ b. elim (le_or_is b.earlier place b.is_earlier) [
        | inl lt ↦ (are k).1 (inl ((s.are k).1 (record { earlier = b.earlier; is_earlier = lt; other = b.other; is_there = b.is_there; reached = b.reached })))
        | inr is ↦ (let e : b.other ≡ inner = same_element numbers place b.other inner (subst (λ m. slice_get numbers m ≡ Some b.other) is b.is_there) there in (are k).1 (inr (subst (λ m. IsReached graph m k) e b.reached)))
      ]),
    );
    not_yet = none;
  }

  pub search_found : (place inner : ℕ) (marks new : List Bool) → HasList graph number numbers → Searches graph number numbers place marks → slice_get numbers place ≡ Some inner →
      ((k : ℕ) → (is_marked new k ≡ true) ↔ ((is_marked marks k ≡ true) ⊎ IsReached graph inner k)) → is_marked new number ≡ true → IsClosing graph number place
  search_found place inner marks new has_list s there are found = record {
    numbers = numbers;
    are_below = has_list;
    inner = inner;
    is_there = there;
    closes = elim ((are number).0 found) [ inl e ↦ absurd (let f : is_marked marks number ≡ false = s.not_yet in cc) | inr e ↦ e ];
    first_place = λ earlier other lt e reached.
        let m : is_marked marks number ≡ true = (s.are number).1 (record { earlier = earlier; is_earlier = lt; other = other; is_there = e; reached = reached }) in
        let f : is_marked marks number ≡ false = s.not_yet in
        cc;
  }

  pub search_none : (place : ℕ) (marks : List Bool) → HasList graph number numbers → Searches graph number numbers place marks → length numbers ≤ place → ¬ ReachesItself graph number
  search_none place marks has_list s all reaches =
      let above : IsAbove graph number reaches.below = reaches.first in
      let e : above.numbers ≡ numbers = same_element graph number above.numbers numbers above.are_below has_list in
      let there : slice_get numbers above.place ≡ Some reaches.below = subst (λ ns. slice_get ns above.place ≡ Some reaches.below) e above.is_there in
      let lt : above.place < length numbers = slice_get_within numbers above.place reaches.below there in
      let m : is_marked marks number ≡ true = (s.are number).1 (record { earlier = above.place; is_earlier = omega (arith, lt, all); other = reaches.below; is_there = there; reached = reaches.back }) in
      let f : is_marked marks number ≡ false = s.not_yet in
      cc

-- a closing place shows that the number reaches itself
pub closing_reaches : (graph : List (List ℕ)) (number place : ℕ) → IsClosing graph number place → ReachesItself graph number
closing_reaches graph number place c = record { below = c.inner; first = record { numbers = c.numbers; are_below = c.are_below; place = place; is_there = c.is_there }; back = c.closes }
