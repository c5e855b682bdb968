-- The turns of a work list.
use Rattle.std.proofs.Common.{◌≡◌, ℕ, zero, suc, ◌+◌, ◌-◌, ◌<◌, ◌⊎◌, inl, inr, Bool, true, false, ◌||◌, List, [], ◌∷◌, ◌++◌, length, replicate, take, get_or, set, slice_get, Some, refl, sym, ap, ◌∙◌, subst, arith, length-append}
use Rattle.std.specs.Prelude.{◌==◌, ◌↔◌}
use Rattle.std.proofs.lemmas.Bool.{false≢true}
use Rattle.std.proofs.lemmas.Bool.Decides.{Decides-eqb}
use Rattle.std.proofs.lemmas.List.{get_or-set_same, length-set, take_more}
use Rattle.std.proofs.lemmas.List.Folds.{list_any-append}
use Rattle.std.proofs.lemmas.Option.{get_or_from_slice_get, slice_get-get_or}
use Rattle.net_graph.specs.Graph.{IsAbove, IsInRange, IsReached}
use Rattle.net_graph.specs.Walks.{Leads}
use Rattle.net_graph.specs.Marks.{IsReachable, itself, below, count, has_below, is_marked, marks_of}
use Rattle.net_graph.specs.WorkList.{AreClosed, IsUnderWay, MarksNumbers, has}
use Rattle.net_graph.proofs.MarkLaws.{or_left, or_right, or_cases, count_within, marked_within, marks_are, no_mark}
use Rattle.net_graph.proofs.WalkLaws.{linked_along, linked_by, linked_itself}

has_push : (xs : List ℕ) (n k : ℕ) → has (xs ++ n ∷ []) k ≡ true → (has xs k ≡ true) ⊎ (n ≡ k)
has_push xs n k h =
    elim (or_cases (has xs k) ((n == k) || false) (sym (list_any-append (λ m. m == k) xs (n ∷ [])) ∙ h)) [
      | inl e ↦ inl e
      | inr e ↦ elim (or_cases (n == k) false e) [ inl d ↦ inr ((Decides-eqb n k).0 d) | inr d ↦ absurd (false≢true d) ]
    ]

push_has_old : (xs : List ℕ) (n k : ℕ) → has xs k ≡ true → has (xs ++ n ∷ []) k ≡ true
push_has_old xs n k h = list_any-append (λ m. m == k) xs (n ∷ []) ∙ or_left (has xs k) ((n == k) || false) h

push_has_new : (xs : List ℕ) (n k : ℕ) → n ≡ k → has (xs ++ n ∷ []) k ≡ true
push_has_new xs n k e = list_any-append (λ m. m == k) xs (n ∷ []) ∙ or_right (has xs k) ((n == k) || false) (or_left (n == k) false ((Decides-eqb n k).1 e))

set_keeps : (marks : List Bool) (n k : ℕ) → is_marked marks k ≡ true → is_marked (set marks n true) k ≡ true
set_keeps [] n k h = h
set_keeps (mark ∷ marks) zero zero h = refl
set_keeps (mark ∷ marks) zero (suc k) h = h
set_keeps (mark ∷ marks) (suc n) zero h = h
set_keeps (mark ∷ marks) (suc n) (suc k) h = set_keeps marks n k h

set_only : (marks : List Bool) (n k : ℕ) → is_marked (set marks n true) k ≡ true → (is_marked marks k ≡ true) ⊎ (n ≡ k)
set_only [] n k h = inl h
set_only (mark ∷ marks) zero zero h = inr refl
set_only (mark ∷ marks) zero (suc k) h = inl h
set_only (mark ∷ marks) (suc n) zero h = inl h
set_only (mark ∷ marks) (suc n) (suc k) h = elim (set_only marks n k h) [ inl e ↦ inl e | inr e ↦ inr (ap suc e) ]

count-set : (marks : List Bool) (n : ℕ) → n < length marks → is_marked marks n ≡ false → count (set marks n true) ≡ count marks + 1
count-set [] n h e = absurd (omega arith)
count-set (true ∷ marks) zero h e = absurd (false≢true (sym e))
count-set (false ∷ marks) zero h e = omega arith
count-set (mark ∷ marks) (suc n) h e = let r : count (set marks n true) ≡ count marks + 1 = count-set marks n (omega arith) e in omega arith

pub marks_none : (old : List Bool) (waiting : List ℕ) → MarksNumbers old waiting [] old waiting
marks_none old waiting = record {
  long = refl;
  keeps = λ k h. h;
  marks_all = λ k h. absurd (false≢true h);
  marks_only = λ k h. inl h;
  waits_on = λ k h. h;
  waits_new = λ k h. inl h;
  waits_only = λ k h. inl h;
  same_work = refl;
}

module _ (old : List Bool) (waiting numbers : List ℕ) (new : List Bool) (waits : List ℕ) (so_far : MarksNumbers old waiting numbers new waits) (n : ℕ) where
  pub marks_known : is_marked new n ≡ true → MarksNumbers old waiting (numbers ++ n ∷ []) new waits
  marks_known known = record {
    long = so_far.long;
    keeps = so_far.keeps;
    marks_all = λ k h. elim (has_push numbers n k h) [ inl e ↦ so_far.marks_all k e | inr e ↦ subst (λ m. is_marked new m ≡ true) e known ];
    marks_only = λ k h. elim (so_far.marks_only k h) [ inl e ↦ inl e | inr e ↦ inr (push_has_old numbers n k e) ];
    waits_on = so_far.waits_on;
    waits_new = so_far.waits_new;
    waits_only = λ k h. elim (so_far.waits_only k h) [ inl e ↦ inl e | inr e ↦ inr (push_has_old numbers n k e) ];
    same_work = so_far.same_work;
  }

  pub marks_one_more : is_marked new n ≡ false → n < length new → MarksNumbers old waiting (numbers ++ n ∷ []) (set new n true) (waits ++ n ∷ [])
  marks_one_more unknown within =
      let here : (k : ℕ) → n ≡ k → is_marked (set new n true) k ≡ true = λ k e. subst (λ m. is_marked (set new n true) m ≡ true) e (get_or-set_same new n true false within) in
      record {
        long = length-set new n true ∙ so_far.long;
        keeps = λ k h. set_keeps new n k (so_far.keeps k h);
        marks_all = λ k h. elim (has_push numbers n k h) [ inl e ↦ set_keeps new n k (so_far.marks_all k e) | inr e ↦ here k e ];
        marks_only = λ k h. elim (set_only new n k h) [
          | inl e ↦ elim (so_far.marks_only k e) [ inl d ↦ inl d | inr d ↦ inr (push_has_old numbers n k d) ]
          | inr e ↦ inr (push_has_new numbers n k e)
        ];
        waits_on = λ k h. push_has_old waits n k (so_far.waits_on k h);
        waits_new = λ k h. elim (set_only new n k h) [
          | inl e ↦ elim (so_far.waits_new k e) [ inl d ↦ inl d | inr d ↦ inr (push_has_old waits n k d) ]
          | inr e ↦ inr (push_has_new waits n k e)
        ];
        waits_only = λ k h. elim (has_push waits n k h) [
          | inl e ↦ elim (so_far.waits_only k e) [ inl d ↦ inl d | inr d ↦ inr (push_has_old numbers n k d) ]
          | inr e ↦ inr (push_has_new numbers n k e)
        ];
        same_work = omega (arith, so_far.same_work, count-set new n within unknown, length-append waits (n ∷ []));
      }

-- the turn in which the number at i is marked
mark_turn_known : (old : List Bool) (waiting numbers : List ℕ) (i d : ℕ) → i < length numbers → (new : List Bool) (waits : List ℕ) → MarksNumbers old waiting (take i numbers) new waits → is_marked new (get_or numbers i d) ≡ true
    → MarksNumbers old waiting (take (i + 1) numbers) new waits
mark_turn_known old waiting numbers i d within new waits so_far known =
    subst (λ ns. MarksNumbers old waiting ns new waits) (sym (take_more numbers i d within)) (marks_known old waiting (take i numbers) new waits so_far (get_or numbers i d) known)

mark_turn_new : (old : List Bool) (waiting numbers : List ℕ) (i d : ℕ) → i < length numbers → (new : List Bool) (waits : List ℕ) → MarksNumbers old waiting (take i numbers) new waits → is_marked new (get_or numbers i d) ≡ false
    → get_or numbers i d < length new → MarksNumbers old waiting (take (i + 1) numbers) (set new (get_or numbers i d) true) (waits ++ get_or numbers i d ∷ [])
mark_turn_new old waiting numbers i d within new waits so_far unknown fits =
    subst (λ ns. MarksNumbers old waiting ns (set new (get_or numbers i d) true) (waits ++ get_or numbers i d ∷ [])) (sym (take_more numbers i d within)) (marks_one_more old waiting (take i numbers) new waits so_far (get_or numbers i d) unknown fits)

marks_along : (old : List Bool) (waiting numbers : List ℕ) (new made : List Bool) (waits kept : List ℕ) → MarksNumbers old waiting numbers new waits → made ≡ new → kept ≡ waits → MarksNumbers old waiting numbers made kept
marks_along old waiting numbers new made waits kept m e f =
    subst (λ n. MarksNumbers old waiting numbers n kept) (sym e) (subst (λ ws. MarksNumbers old waiting numbers new ws) (sym f) m)

-- the turn in which the number at i is looked at
pub mark_turn : (old : List Bool) (waiting numbers : List ℕ) (i d : ℕ) → i < length numbers → (marks : List Bool) (waits : List ℕ) → MarksNumbers old waiting (take i numbers) marks waits → get_or numbers i d < length marks
    → (new : List Bool) (kept : List ℕ) → (is_marked marks (get_or numbers i d) ≡ true → (new ≡ marks) × (kept ≡ waits))
    → (is_marked marks (get_or numbers i d) ≡ false → (new ≡ set marks (get_or numbers i d) true) × (kept ≡ waits ++ get_or numbers i d ∷ []))
    → MarksNumbers old waiting (take (i + 1) numbers) new kept
mark_turn old waiting numbers i d within marks waits so_far fits new kept known unknown = by (is_marked marks (get_or numbers i d)) refl
  where
    by : (b : Bool) → is_marked marks (get_or numbers i d) ≡ b → MarksNumbers old waiting (take (i + 1) numbers) new kept
    by true e = marks_along _ _ _ _ _ _ _ (mark_turn_known old waiting numbers i d within marks waits so_far e) (known e).0 (known e).1
    by false e = marks_along _ _ _ _ _ _ _ (mark_turn_new old waiting numbers i d within marks waits so_far e fits) (unknown e).0 (unknown e).1

has_at : (xs : List ℕ) (place x : ℕ) → slice_get xs place ≡ Some x → has xs x ≡ true
has_at [] place x e = absurd (cc)
has_at (y ∷ xs) zero x e = let p : y ≡ x = cc in or_left (y == x) (has xs x) ((Decides-eqb y x).1 p)
has_at (y ∷ xs) (suc place) x e = or_right (y == x) (has xs x) (has_at xs place x e)

pub has_read : (xs : List ℕ) (k d : ℕ) → k < length xs → has xs (get_or xs k d) ≡ true
has_read xs k d h = has_at xs k (get_or xs k d) (slice_get-get_or xs k d h)

has_place : (xs : List ℕ) (x : ℕ) → has xs x ≡ true → (place : ℕ) × (slice_get xs place ≡ Some x)
has_place [] x h = absurd (false≢true h)
has_place (y ∷ xs) x h = elim (or_cases (y == x) (has xs x) h) [
  | inl e ↦ (0, ap Some ((Decides-eqb y x).0 e))
  | inr e ↦ (let r : (place : ℕ) × (slice_get xs place ≡ Some x) = has_place xs x e in (suc r.0, r.1))
]

-- the two ways to say that a number stands below another
pub above_has : (graph : List (List ℕ)) (outer inner : ℕ) → IsAbove graph outer inner → has_below graph outer inner ≡ true
above_has graph outer inner above =
    let e : get_or graph outer [] ≡ above.numbers = get_or_from_slice_get graph outer above.numbers [] above.are_below in
    subst (λ ns. has ns inner ≡ true) (sym e) (has_at above.numbers above.place inner above.is_there)

list_there : (graph : List (List ℕ)) (outer inner : ℕ) → has_below graph outer inner ≡ true → slice_get graph outer ≡ Some (get_or graph outer [])
list_there [] outer inner h = absurd (false≢true h)
list_there (numbers ∷ graph) zero inner h = refl
list_there (numbers ∷ graph) (suc outer) inner h = list_there graph outer inner h

pub has_above : (graph : List (List ℕ)) (outer inner : ℕ) → has_below graph outer inner ≡ true → IsAbove graph outer inner
has_above graph outer inner h =
    let r : (place : ℕ) × (slice_get (get_or graph outer []) place ≡ Some inner) = has_place (get_or graph outer []) inner h in
    record { numbers = get_or graph outer []; are_below = list_there graph outer inner h; place = r.0; is_there = r.1 }

pub reached_by_marks : (graph : List (List ℕ)) (start k : ℕ) → IsReachable graph start k → IsReached graph start k
reached_by_marks graph start k itself = linked_itself (IsAbove graph) start
reached_by_marks graph start k (below {outer = outer} r b) = linked_along (reached_by_marks graph start outer r) (linked_by (has_above graph outer k b))

reachable_along : (graph : List (List ℕ)) (start x : ℕ) (places : List ℕ) (y : ℕ) → Leads (IsAbove graph) x places y → IsReachable graph start x → IsReachable graph start y
reachable_along graph start x [] y lead r = subst (IsReachable graph start) lead r
reachable_along graph start x (next ∷ rest) y lead r = reachable_along graph start next rest y lead.1 (below r (above_has graph x next lead.0))

pub marked_by_reach : (graph : List (List ℕ)) (start k : ℕ) → IsReached graph start k → IsReachable graph start k
marked_by_reach graph start k link = reachable_along graph start start link.places k link.lead itself

module _ (graph : List (List ℕ)) (before : List Bool) (start : ℕ) where
  -- a waiting number is taken, and what is below it marked
  pub work_turn : (marks new : List Bool) (waiting rest waits numbers : List ℕ) (number : ℕ) → IsUnderWay graph before start marks waiting → waiting ≡ rest ++ number ∷ [] → numbers ≡ get_or graph number [] → MarksNumbers marks rest numbers new waits
      → IsUnderWay graph before start new waits
  work_turn marks new waiting rest waits numbers number under taken are done =
      let is_waiting : has waiting number ≡ true = subst (λ ws. has ws number ≡ true) (sym taken) (push_has_new rest number number refl) in
      let reached : IsReachable graph start number = under.waits_reached number is_waiting in
      let low : (k : ℕ) → has numbers k ≡ true → IsReachable graph start k = λ k e. below reached (subst (λ ns. has ns k ≡ true) are e) in
      let old : (k : ℕ) → has rest k ≡ true → has waiting k ≡ true = λ k e. subst (λ ws. has ws k ≡ true) (sym taken) (push_has_old rest number k e) in
      record {
        long = done.long ∙ under.long;
        kept = λ k h. done.keeps k (under.kept k h);
        sound = λ k h. elim (done.marks_only k h) [ inl e ↦ under.sound k e | inr e ↦ inr (low k e) ];
        started = done.keeps start under.started;
        waits_marked = λ k h. elim (done.waits_only k h) [ inl e ↦ done.keeps k (under.waits_marked k (old k e)) | inr e ↦ done.marks_all k e ];
        waits_reached = λ k h. elim (done.waits_only k h) [ inl e ↦ under.waits_reached k (old k e) | inr e ↦ low k e ];
        closed = λ outer k h b. elim (done.waits_new outer h) [
          | inl e ↦ elim (under.closed outer k e b) [
            | inl d ↦ inl (done.keeps k d)
            | inr d ↦ elim (has_push rest number outer (subst (λ ws. has ws outer ≡ true) taken d)) [
              | inl w ↦ inr (done.waits_on outer w)
              | inr w ↦ inl (done.marks_all k (subst (λ ns. has ns k ≡ true) (sym are) (subst (λ o. has_below graph o k ≡ true) (sym w) b)))
            ]
          ]
          | inr e ↦ inr e
        ];
      }

  -- no number waits any more
  pub all_closed : (marks : List Bool) → IsUnderWay graph before start marks [] → AreClosed graph marks
  all_closed marks under outer inner h above = elim (under.closed outer inner h (above_has graph outer inner above)) [ inl e ↦ e | inr e ↦ absurd (false≢true e) ]

  all_marked : (marks : List Bool) → IsUnderWay graph before start marks [] → (k : ℕ) → IsReachable graph start k → is_marked marks k ≡ true
  all_marked marks under k itself = under.started
  all_marked marks under k (below {outer = outer} r b) = elim (under.closed outer k (all_marked marks under outer r) b) [ inl e ↦ e | inr e ↦ absurd (false≢true e) ]

  pub work_marks : (marks : List Bool) → IsUnderWay graph before start marks [] → (k : ℕ) → (is_marked marks k ≡ true) ↔ ((is_marked before k ≡ true) ⊎ IsReached graph start k)
  work_marks marks under k = (
    (λ h. elim (under.sound k h) [ inl e ↦ inl e | inr e ↦ inr (reached_by_marks graph start k e) ]),
    (λ h. elim h [ inl e ↦ under.kept k e | inr e ↦ all_marked marks under k (marked_by_reach graph start k e) ]),
  )

  pub work_bound : (marks : List Bool) (waiting rest : List ℕ) (number : ℕ) → IsUnderWay graph before start marks waiting → waiting ≡ rest ++ number ∷ [] → number < length graph
  work_bound marks waiting rest number under taken =
      let r : number < length marks = marked_within marks number (under.waits_marked number (subst (λ ws. has ws number ≡ true) (sym taken) (push_has_new rest number number refl))) in
      omega (arith, under.long)

  pub work_fits : (marks : List Bool) (waiting : List ℕ) → IsUnderWay graph before start marks waiting → IsInRange graph → (number : ℕ) (found : List ℕ) → found ≡ get_or graph number [] → (k d : ℕ) → k < length found → get_or found k d < length marks
  work_fits marks waiting under in_range number found are k d h =
      let r : get_or found k d < length graph = in_range number (get_or found k d) (has_above graph number (get_or found k d) (subst (λ ns. has ns (get_or found k d) ≡ true) are (has_read found k d h))) in
      omega (arith, under.long)

  -- the start is marked already
  work_start_known : length before ≡ length graph → AreClosed graph before → is_marked before start ≡ true → IsUnderWay graph before start before []
  work_start_known long closed known = record {
    long = long;
    kept = λ k h. h;
    sound = λ k h. inl h;
    started = known;
    waits_marked = λ k h. absurd (false≢true h);
    waits_reached = λ k h. absurd (false≢true h);
    closed = λ outer k h b. inl (closed outer k h (has_above graph outer k b));
  }

  -- the start is marked, and waits
  work_start_new : length before ≡ length graph → AreClosed graph before → start < length graph → IsUnderWay graph before start (set before start true) (start ∷ [])
  work_start_new long closed within =
      let at_start : is_marked (set before start true) start ≡ true = get_or-set_same before start true false (subst (λ m. start < m) (sym long) within) in
      let the_start : (k : ℕ) → has (start ∷ []) k ≡ true → start ≡ k = λ k h. elim (has_push [] start k h) [ inl e ↦ absurd (false≢true e) | inr e ↦ e ] in
      record {
        long = length-set before start true ∙ long;
        kept = λ k h. set_keeps before start k h;
        sound = λ k h. elim (set_only before start k h) [ inl e ↦ inl e | inr e ↦ inr (subst (IsReachable graph start) e itself) ];
        started = at_start;
        waits_marked = λ k h. subst (λ m. is_marked (set before start true) m ≡ true) (the_start k h) at_start;
        waits_reached = λ k h. subst (IsReachable graph start) (the_start k h) itself;
        closed = λ outer k h b. elim (set_only before start outer h) [
          | inl e ↦ inl (set_keeps before start k (closed outer k e (has_above graph outer k b)))
          | inr e ↦ inr (push_has_new [] start outer e)
        ];
      }

under_along : (graph : List (List ℕ)) (before : List Bool) (start : ℕ) (marks made : List Bool) (waiting kept : List ℕ) → IsUnderWay graph before start marks waiting → made ≡ marks → kept ≡ waiting → IsUnderWay graph before start made kept
under_along graph before start marks made waiting kept u e f =
    subst (λ ms. IsUnderWay graph before start ms kept) (sym e) (subst (λ ws. IsUnderWay graph before start marks ws) (sym f) u)

pub work_start : (graph : List (List ℕ)) (before : List Bool) (start : ℕ) (waiting : List ℕ) (marks : List Bool) (waits : List ℕ) → length before ≡ length graph → AreClosed graph before → start < length graph → waiting ≡ []
    → (is_marked before start ≡ true → (marks ≡ before) × (waits ≡ waiting)) → (is_marked before start ≡ false → (marks ≡ set before start true) × (waits ≡ waiting ++ start ∷ [])) → IsUnderWay graph before start marks waits
work_start graph before start waiting marks waits long closed within none known unknown = by (is_marked before start) refl
  where
    by : (b : Bool) → is_marked before start ≡ b → IsUnderWay graph before start marks waits
    by true e = under_along graph before start before marks [] waits (work_start_known graph before start long closed e) (known e).0 ((known e).1 ∙ none)
    by false e = under_along graph before start (set before start true) marks (start ∷ []) waits (work_start_new graph before start long closed within) (unknown e).0 ((unknown e).1 ∙ ap (λ ws. ws ++ start ∷ []) none)

pub no_items : (xs : List ℕ) → length xs ≡ 0 → xs ≡ []
no_items [] h = refl
no_items (x ∷ xs) h = absurd (omega arith)

-- the work that is left falls
pub work_smaller : (marks new : List Bool) (waiting rest waits numbers : List ℕ) (number : ℕ) → waiting ≡ rest ++ number ∷ [] → MarksNumbers marks rest numbers new waits
    → length waits + (length new - count new) < length waiting + (length marks - count marks)
work_smaller marks new waiting rest waits numbers number taken done =
    omega (arith, ap length taken, length-append rest (number ∷ []), done.same_work, done.long, count_within marks, count_within new)

-- no mark is on
pub none_closed : (graph : List (List ℕ)) (n : ℕ) → AreClosed graph (replicate n false)
none_closed graph n outer inner h above = absurd (no_mark n outer h)

-- marks that are on just the reached numbers are those that the rounds of marking give
pub reached_marks : (graph : List (List ℕ)) (start : ℕ) → start < length graph → IsInRange graph → (marks : List Bool) → length marks ≡ length graph → ((k : ℕ) → (is_marked marks k ≡ true) ↔ IsReached graph start k) → marks ≡ marks_of graph start
reached_marks graph start within in_range marks long are =
    marks_are graph start within (λ outer number b. in_range outer number (has_above graph outer number b)) marks long
    (λ k h. marked_by_reach graph start k ((are k).0 h)) (λ k h. (are k).1 (reached_by_marks graph start k h))
