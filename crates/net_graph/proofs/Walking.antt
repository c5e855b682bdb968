-- The walk that lists the graph, over plain lists: what it keeps, and the work that is left.
use Rattle.std.proofs.Common.{◌≡◌, ℕ, zero, suc, ◌+◌, ◌-◌, ◌<◌, ◌≤◌, ◌⊎◌, inl, inr, List, [], ◌∷◌, ◌++◌, refl, sym, ◌∙◌, ap, subst, subst₂, slice_get, get_or, set, drop, replicate, Some, Bool, true, false, cond, length, map, arith, length-append, sum_by}
use Rattle.std.specs.Prelude.{Contains}
use Rattle.std.proofs.lemmas.List.{get_or-set_same, length-replicate}
use Rattle.std.proofs.Math.ListN.{length-set}
use Rattle.std.proofs.lemmas.List.Elements.{Contains-push}
use Rattle.std.proofs.lemmas.List.Sums.{sum_by-append}
use Rattle.std.proofs.lemmas.Option.{slice_get_within, slice_get_read, get_or_from_slice_get, slice_get-get_or}
use Rattle.net_graph.specs.Graph.{IsInRange}
use Rattle.net_graph.specs.Graph.{HasList, IsAbove, ReachesItself, Visits, VisitsEach, again, first, none, next}
use Rattle.net_graph.proofs.OrderLaws.{StandsIn, contained, front_or_last, get_front, get_last}
use Rattle.net_graph.proofs.ListLaws.{element_there, same_element}
use Rattle.net_graph.proofs.WalkLaws.{linked_along, linked_by, linked_itself}
use Rattle.net_graph.specs.Walks.{IsLinked}
use Rattle.net_graph.specs.declared.order.Visit.{Visit}

-- the rest of a visit's instances are followed, and its list is listed
pub record Closes (graph : List (List ℕ)) (done : List ℕ) (visit : Visit) (final : List ℕ) : Type 0 where
  pub list : List ℕ
  pub is_list : HasList graph visit.number list
  pub after : List ℕ
  pub each : VisitsEach graph done (drop visit.followed list) after
  pub final_is : after ++ visit.number ∷ [] ≡ final

-- the visits are closed one after the other, the last first
abbrev pub Finishes : List (List ℕ) → List ℕ → List Visit → List ℕ → Type 0
Finishes graph done [] final = done ≡ final
Finishes graph done (visit ∷ above) final = (middle : List ℕ) × Finishes graph done above middle × Closes graph middle visit final

finishes_apart : (graph : List (List ℕ)) (done : List ℕ) (front : List Visit) (visit : Visit) (final : List ℕ) → Finishes graph done (front ++ visit ∷ []) final →
    (middle : List ℕ) × Closes graph done visit middle × Finishes graph middle front final
finishes_apart graph done [] visit final h = let e : done ≡ h.0 = h.1 in (final, subst (λ m. Closes graph m visit final) (sym e) h.2, refl)
finishes_apart graph done (x ∷ front) visit final h =
    let (middle, closes, rest) = finishes_apart graph done front visit h.0 h.1 in
    (middle, closes, (h.0, rest, h.2))

finishes_together : (graph : List (List ℕ)) (done : List ℕ) (front : List Visit) (visit : Visit) (middle final : List ℕ) → Closes graph done visit middle → Finishes graph middle front final → Finishes graph done (front ++ visit ∷ []) final
finishes_together graph done [] visit middle final closes rest = (done, refl, subst (Closes graph done visit) rest closes)
finishes_together graph done (x ∷ front) visit middle final closes rest = (rest.0, finishes_together graph done front visit middle rest.0 closes rest.1, rest.2)

abbrev count : List (List ℕ) → ℕ → ℕ
count [] number = 0
count (list ∷ graph) zero = length list
count (list ∷ graph) (suc number) = count graph number

count_is : (graph : List (List ℕ)) (number : ℕ) (list : List ℕ) → HasList graph number list → count graph number ≡ length list
count_is [] number list e = absurd (cc)
count_is (c ∷ graph) zero list e = let p : c ≡ list = cc in ap (λ w. length w) p
count_is (c ∷ graph) (suc number) list e = count_is graph number list e

-- the work at graph that the walk has not come to
abbrev fresh : List (List ℕ) → List Bool → ℕ
fresh [] seen = 0
fresh (list ∷ graph) [] = 0
fresh (list ∷ graph) (b ∷ seen) = cond b 0 (length list + 2) + fresh graph seen

fresh_less : (graph : List (List ℕ)) (seen : List Bool) (number : ℕ) (list : List ℕ) → HasList graph number list → number < length seen → get_or seen number false ≡ false →
    fresh graph (set seen number true) + (length list + 2) ≡ fresh graph seen
fresh_less [] seen number list e lt f = absurd (cc)
fresh_less (c ∷ graph) [] number list e lt f = absurd (omega arith)
fresh_less (c ∷ graph) (true ∷ seen) zero list e lt f = absurd (cc)
fresh_less (c ∷ graph) (false ∷ seen) zero list e lt f = let p : list ≡ c = cc in let q : length list ≡ length c = ap (λ w. length w) p in omega arith
fresh_less (c ∷ graph) (b ∷ seen) (suc number) list e lt f =
    let h : fresh graph (set seen number true) + (length list + 2) ≡ fresh graph seen = fresh_less graph seen number list e (omega arith) f in
    omega arith

abbrev visit_work : List (List ℕ) → Visit → ℕ
visit_work graph visit = (count graph visit.number - visit.followed) + 1

abbrev pub work : List (List ℕ) → List Bool → List Visit → ℕ
work graph seen stack = fresh graph seen + sum_by (visit_work graph) stack

one_work : (graph : List (List ℕ)) (visit : Visit) → sum_by (visit_work graph) (visit ∷ []) ≡ visit_work graph visit
one_work graph visit = omega arith

-- lists
drop_at : {A : Type 0} (xs : List A) (i : ℕ) (x : A) → slice_get xs i ≡ Some x → drop i xs ≡ x ∷ drop (suc i) xs
drop_at [] i x e = absurd (cc)
drop_at (y ∷ xs) zero x e = let p : y ≡ x = cc in ap (λ w. w ∷ xs) p
drop_at (y ∷ xs) (suc i) x e = drop_at xs i x e

drop_past : {A : Type 0} (xs : List A) (i : ℕ) → length xs ≤ i → drop i xs ≡ []
drop_past [] zero h = refl
drop_past [] (suc i) h = refl
drop_past (y ∷ xs) zero h = absurd (omega arith)
drop_past (y ∷ xs) (suc i) h = drop_past xs i (omega arith)

set_keeps : (bs : List Bool) (n j : ℕ) → get_or bs j false ≡ true → get_or (set bs n true) j false ≡ true
set_keeps [] n j e = absurd (cc)
set_keeps (b ∷ bs) zero zero e = refl
set_keeps (b ∷ bs) zero (suc j) e = e
set_keeps (b ∷ bs) (suc n) zero e = e
set_keeps (b ∷ bs) (suc n) (suc j) e = set_keeps bs n j e

set_only : (bs : List Bool) (n j : ℕ) → get_or (set bs n true) j false ≡ true → (n ≡ j) ⊎ (get_or bs j false ≡ true)
set_only [] n j e = absurd (cc)
set_only (b ∷ bs) zero zero e = inl refl
set_only (b ∷ bs) zero (suc j) e = inr e
set_only (b ∷ bs) (suc n) zero e = inr e
set_only (b ∷ bs) (suc n) (suc j) e = elim (set_only bs n j e) [ inl p ↦ inl (ap suc p) | inr p ↦ inr p ]

none_set : (n j : ℕ) → ¬ (get_or (replicate n false) j false ≡ true)
none_set zero j e = cc
none_set (suc n) zero e = cc
none_set (suc n) (suc j) e = none_set n j e

contains_of : {A : Type 0} (xs : List A) (x : A) → StandsIn xs x → Contains xs x
contains_of xs x h = (h.place, slice_get_within xs h.place x h.is_there, get_or_from_slice_get xs h.place x x h.is_there)

-- what holds of each visit
abbrev pub Each : (Visit → Type 0) → List Visit → Type 0
Each P stack = (place : ℕ) (visit : Visit) → slice_get stack place ≡ Some visit → P visit

pub each_front : (P : Visit → Type 0) (rest : List Visit) (v : Visit) → Each P (rest ++ v ∷ []) → Each P rest
each_front P rest v each place x e = each place x (get_front rest (v ∷ []) place x e)

pub each_last : (P : Visit → Type 0) (rest : List Visit) (v : Visit) → Each P (rest ++ v ∷ []) → P v
each_last P rest v each = each (length rest) v (get_last rest v)

pub each_more : (P : Visit → Type 0) (rest : List Visit) (v : Visit) → Each P rest → P v → Each P (rest ++ v ∷ [])
each_more P rest v each here place x e = elim (front_or_last rest v place x e) [ inl f ↦ each place x f | inr f ↦ subst P f.1 here ]

-- each number's list is directly above the next one's
abbrev pub IsChain : List (List ℕ) → List ℕ → Type 0
IsChain graph numbers = (place a b : ℕ) → slice_get numbers place ≡ Some a → slice_get numbers (suc place) ≡ Some b → IsAbove graph a b

chain_front : (graph : List (List ℕ)) (xs : List ℕ) (a : ℕ) → IsChain graph (xs ++ a ∷ []) → IsChain graph xs
chain_front graph xs a chain place x y ex ey = chain place x y (get_front xs (a ∷ []) place x ex) (get_front xs (a ∷ []) (suc place) y ey)

chain_more : (graph : List (List ℕ)) (xs : List ℕ) (a b : ℕ) → IsChain graph (xs ++ a ∷ []) → IsAbove graph a b → IsChain graph ((xs ++ a ∷ []) ++ b ∷ [])
chain_more graph xs a b chain above place x y ex ey =
    let l : length (xs ++ a ∷ []) ≡ length xs + 1 = length-append xs (a ∷ []) in
    elim (front_or_last (xs ++ a ∷ []) b (suc place) y ey) [
      | inl fy ↦
          let lt : suc place < length (xs ++ a ∷ []) = slice_get_within (xs ++ a ∷ []) (suc place) y fy in
          elim (front_or_last (xs ++ a ∷ []) b place x ex) [ inl fx ↦ chain place x y fx fy | inr fx ↦ let e : place ≡ length (xs ++ a ∷ []) = fx.0 in absurd (omega arith) ]
      | inr fy ↦
          let p : suc place ≡ length (xs ++ a ∷ []) = fy.0 in
          let q : length xs ≡ place = omega arith in
          let ax : slice_get ((xs ++ a ∷ []) ++ b ∷ []) place ≡ Some a = get_front (xs ++ a ∷ []) (b ∷ []) place a (subst (λ m. slice_get (xs ++ a ∷ []) m ≡ Some a) q (get_last xs a)) in
          subst₂ (IsAbove graph) (same_element ((xs ++ a ∷ []) ++ b ∷ []) place a x ax ex) fy.1 above
    ]

-- from any of the chain one comes to its last
chain_to_last : (graph : List (List ℕ)) (xs : List ℕ) (z : ℕ) → IsChain graph (xs ++ z ∷ []) → (d place a : ℕ) → place + d ≡ length xs → slice_get (xs ++ z ∷ []) place ≡ Some a → IsLinked (IsAbove graph) a z
chain_to_last graph xs z chain zero place a e there =
    let q : length xs ≡ place = omega arith in
    subst (IsLinked (IsAbove graph) a) (same_element (xs ++ z ∷ []) place a z there (subst (λ m. slice_get (xs ++ z ∷ []) m ≡ Some z) q (get_last xs z))) (linked_itself (IsAbove graph) a)
chain_to_last graph xs z chain (suc d) place a e there =
    let l : length (xs ++ z ∷ []) ≡ length xs + 1 = length-append xs (z ∷ []) in
    let (b, bthere) = element_there (xs ++ z ∷ []) (suc place) (omega arith) in
    linked_along (linked_by (chain place a b there bthere)) (chain_to_last graph xs z chain d (suc place) b (omega arith) bthere)

cells_last : (rest : List Visit) (v : Visit) → map (λ w. w.number) (rest ++ v ∷ []) ≡ map (λ w. w.number) rest ++ v.number ∷ []
cells_last [] v = refl
cells_last (x ∷ rest) v = ap (λ ns. x.number ∷ ns) (cells_last rest v)

pub record Keeps (graph : List (List ℕ)) (top : ℕ) (seen listed : List Bool) (order : List ℕ) (stack : List Visit) : Type 0 where
  pub finishes : (final : List ℕ) → Finishes graph order stack final → Visits graph [] top final
  pub seen_length : length seen ≡ length graph
  pub listed_length : length listed ≡ length graph
  pub stack_in : (place : ℕ) (visit : Visit) → slice_get stack place ≡ Some visit → visit.number < length graph
  pub stack_seen : (place : ℕ) (visit : Visit) → slice_get stack place ≡ Some visit → get_or seen visit.number false ≡ true
  pub listed_seen : (number : ℕ) → get_or listed number false ≡ true → get_or seen number false ≡ true
  pub listed_in : (number : ℕ) → get_or listed number false ≡ true → Contains order number
  pub all_listed : (number : ℕ) → Contains order number → get_or listed number false ≡ true
  pub open_there : (number : ℕ) → get_or seen number false ≡ true → (get_or listed number false ≡ true) ⊎ StandsIn (map (λ v. v.number) stack) number
  pub chain : IsChain graph (map (λ v. v.number) stack)

module _ (graph : List (List ℕ)) (top : ℕ) (in_range : IsInRange graph) where
  pub keeps_first : top < length graph → Keeps graph top (set (replicate (length graph) false) top true) (replicate (length graph) false) [] (record { number = top; followed = 0 } ∷ [])
  keeps_first lt = record {
    finishes = λ final h.
        let e : [] ≡ h.0 = h.1 in
        let c : Closes graph [] (record { number = top; followed = 0 }) final = subst (λ m. Closes graph m (record { number = top; followed = 0 }) final) (sym e) h.2 in
        subst (Visits graph [] top) c.final_is (first (λ k. omega (arith, k.1)) c.is_list c.each);
    seen_length = length-set (replicate (length graph) false) top true ∙ length-replicate (length graph) false;
    listed_length = length-replicate (length graph) false;
    stack_in = each_more (λ v. v.number < length graph) [] (record { number = top; followed = 0 }) (λ place v e. absurd (cc)) lt;
    stack_seen = each_more (λ v. get_or (set (replicate (length graph) false) top true) v.number false ≡ true) [] (record { number = top; followed = 0 }) (λ place v e. absurd (cc))
        (get_or-set_same (replicate (length graph) false) top true false (subst (λ m. top < m) (sym (length-replicate (length graph) false)) lt));
    listed_seen = λ number e. absurd (none_set (length graph) number e);
    listed_in = λ number e. absurd (none_set (length graph) number e);
    all_listed = λ number k. absurd (omega (arith, k.1));
    open_there = λ number e. elim (set_only (replicate (length graph) false) top number e) [
      | inl same ↦ inr (record { place = 0; is_there = ap Some same })
      | inr before ↦ absurd (none_set (length graph) number before)
    ];
    chain = λ place a b ea eb. absurd (cc);
  }

  -- the instance that is followed next
  next_there : (list : List ℕ) (at : ℕ) (instance : ℕ) → slice_get list at ≡ Some instance → drop at list ≡ instance ∷ drop (at + 1) list
  next_there list at instance e =
      let p : slice_get list at ≡ Some instance = e in
      let q : suc at ≡ at + 1 = omega arith in
      subst (λ m. drop at list ≡ instance ∷ drop m list) q (drop_at list at instance p)

  closes_next : (done middle final : List ℕ) (visit : Visit) (list : List ℕ) (instance : ℕ) → HasList graph visit.number list → slice_get list visit.followed ≡ Some instance → Visits graph done instance middle →
      Closes graph middle (record { number = visit.number; followed = visit.followed + 1 }) final → Closes graph done visit final
  closes_next done middle final visit list instance is_list there one c =
      let same : c.list ≡ list = same_element graph visit.number c.list list c.is_list is_list in
      let each : VisitsEach graph middle (drop (visit.followed + 1) list) c.after = subst (λ w. VisitsEach graph middle (drop (visit.followed + 1) w) c.after) same c.each in
      record { list = list; is_list = is_list; after = c.after; each = subst (λ ns. VisitsEach graph done ns c.after) (sym (next_there list visit.followed instance there)) (next one each); final_is = c.final_is }

  same_cells_on : (stack rest : List Visit) (visit : Visit) → stack ≡ rest ++ visit ∷ [] → map (λ w. w.number) stack ≡ map (λ w. w.number) (rest ++ record { number = visit.number; followed = visit.followed + 1 } ∷ [])
  same_cells_on stack rest visit e = ap (map (λ w. w.number)) e ∙ (cells_last rest visit ∙ sym (cells_last rest (record { number = visit.number; followed = visit.followed + 1 })))

  -- the next instance's list is listed already
  pub keeps_listed : (seen listed : List Bool) (order : List ℕ) (stack rest : List Visit) (visit : Visit) (list : List ℕ) (instance : ℕ) → stack ≡ rest ++ visit ∷ [] → HasList graph visit.number list →
      slice_get list visit.followed ≡ Some instance → get_or listed instance false ≡ true → Keeps graph top seen listed order stack →
      Keeps graph top seen listed order (rest ++ record { number = visit.number; followed = visit.followed + 1 } ∷ [])
  keeps_listed seen listed order stack rest visit list instance e is_list there is_listed k =
      let on : Visit = record { number = visit.number; followed = visit.followed + 1 } in
      let ins : Each (λ v. v.number < length graph) (rest ++ visit ∷ []) = subst (Each (λ v. v.number < length graph)) e k.stack_in in
      let seens : Each (λ v. get_or seen v.number false ≡ true) (rest ++ visit ∷ []) = subst (Each (λ v. get_or seen v.number false ≡ true)) e k.stack_seen in
      record {
        finishes = λ final h.
            let (middle, closes, more) = finishes_apart graph order rest on final h in
            k.finishes final (subst (λ s. Finishes graph order s final) (sym e)
            (finishes_together graph order rest visit middle final (closes_next order order middle visit list instance is_list there (again (k.listed_in instance is_listed)) closes) more));
        seen_length = k.seen_length;
        listed_length = k.listed_length;
        stack_in = each_more (λ v. v.number < length graph) rest on (each_front (λ v. v.number < length graph) rest visit ins) (each_last (λ v. v.number < length graph) rest visit ins);
        stack_seen = each_more (λ v. get_or seen v.number false ≡ true) rest on (each_front (λ v. get_or seen v.number false ≡ true) rest visit seens) (each_last (λ v. get_or seen v.number false ≡ true) rest visit seens);
        listed_seen = k.listed_seen;
        listed_in = k.listed_in;
        all_listed = k.all_listed;
        open_there = λ number p. subst (λ ns. (get_or listed number false ≡ true) ⊎ StandsIn ns number) (same_cells_on stack rest visit e) (k.open_there number p);
        chain = subst (IsChain graph) (same_cells_on stack rest visit e) k.chain;
      }

  -- the walk comes to the next instance's list
  pub keeps_new : (seen listed : List Bool) (order : List ℕ) (stack rest : List Visit) (visit : Visit) (list : List ℕ) (instance : ℕ) → stack ≡ rest ++ visit ∷ [] → HasList graph visit.number list →
      slice_get list visit.followed ≡ Some instance → get_or seen instance false ≡ false → Keeps graph top seen listed order stack →
      Keeps graph top (set seen instance true) listed order ((rest ++ record { number = visit.number; followed = visit.followed + 1 } ∷ []) ++ record { number = instance; followed = 0 } ∷ [])
  keeps_new seen listed order stack rest visit list instance e is_list there not_seen k =
      let on : Visit = record { number = visit.number; followed = visit.followed + 1 } in
      let entered : Visit = record { number = instance; followed = 0 } in
      let within : instance < length graph = in_range visit.number instance (record { numbers = list; are_below = is_list; place = visit.followed; is_there = there }) in
      let ins : Each (λ v. v.number < length graph) (rest ++ visit ∷ []) = subst (Each (λ v. v.number < length graph)) e k.stack_in in
      let seens : Each (λ v. get_or (set seen instance true) v.number false ≡ true) (rest ++ visit ∷ []) =
      subst (Each (λ v. get_or (set seen instance true) v.number false ≡ true)) e (λ place v at. set_keeps seen instance v.number (k.stack_seen place v at)) in
      let unlisted : ¬ Contains order instance = λ c. let p : get_or seen instance false ≡ true = k.listed_seen instance (k.all_listed instance c) in cc in
      record {
        finishes = λ final h.
            let (low, enter, rest_on) = finishes_apart graph order (rest ++ on ∷ []) entered final h in
            let (middle, closes, more) = finishes_apart graph low rest on final rest_on in
            let one : Visits graph order instance low = subst (Visits graph order instance) enter.final_is (first unlisted enter.is_list enter.each) in
            k.finishes final (subst (λ s. Finishes graph order s final) (sym e)
            (finishes_together graph order rest visit middle final (closes_next order low middle visit list instance is_list there one closes) more));
        seen_length = length-set seen instance true ∙ k.seen_length;
        listed_length = k.listed_length;
        stack_in = each_more (λ v. v.number < length graph) (rest ++ on ∷ []) entered
            (each_more (λ v. v.number < length graph) rest on (each_front (λ v. v.number < length graph) rest visit ins) (each_last (λ v. v.number < length graph) rest visit ins)) within;
        stack_seen = each_more (λ v. get_or (set seen instance true) v.number false ≡ true) (rest ++ on ∷ []) entered
            (each_more (λ v. get_or (set seen instance true) v.number false ≡ true) rest on (each_front (λ v. get_or (set seen instance true) v.number false ≡ true) rest visit seens)
            (each_last (λ v. get_or (set seen instance true) v.number false ≡ true) rest visit seens))
            (get_or-set_same seen instance true false (subst (λ m. instance < m) (sym k.seen_length) within));
        listed_seen = λ number p. set_keeps seen instance number (k.listed_seen number p);
        listed_in = k.listed_in;
        all_listed = k.all_listed;
        open_there = λ number p. elim (set_only seen instance number p) [
          | inl same ↦ inr (subst₂ StandsIn (sym (cells_last (rest ++ on ∷ []) entered)) same (record { place = length (map (λ w. w.number) (rest ++ on ∷ [])); is_there = get_last (map (λ w. w.number) (rest ++ on ∷ [])) instance }))
          | inr before ↦ elim (k.open_there number before) [
            | inl is_listed ↦ inl is_listed
            | inr there_before ↦
                let there_on : StandsIn (map (λ w. w.number) (rest ++ on ∷ [])) number = subst (λ ns. StandsIn ns number) (same_cells_on stack rest visit e) there_before in
                inr (subst (λ ns. StandsIn ns number) (sym (cells_last (rest ++ on ∷ []) entered))
                (record { place = there_on.place; is_there = get_front (map (λ w. w.number) (rest ++ on ∷ [])) (instance ∷ []) there_on.place number there_on.is_there }))
          ]
        ];
        chain =
            let numbers : List ℕ = map (λ w. w.number) rest in
            let c : IsChain graph (numbers ++ visit.number ∷ []) = subst (IsChain graph) (ap (map (λ w. w.number)) e ∙ cells_last rest visit) k.chain in
            let above : IsAbove graph visit.number instance = record { numbers = list; are_below = is_list; place = visit.followed; is_there = there } in
            subst (IsChain graph) (sym (cells_last (rest ++ on ∷ []) entered ∙ ap (λ ns. ns ++ instance ∷ []) (cells_last rest on))) (chain_more graph numbers visit.number instance c above);
      }

  -- the walk leaves a list
  pub keeps_left : (seen listed : List Bool) (order : List ℕ) (stack rest : List Visit) (visit : Visit) (list : List ℕ) → stack ≡ rest ++ visit ∷ [] → HasList graph visit.number list →
      length list ≤ visit.followed → Keeps graph top seen listed order stack → Keeps graph top seen (set listed visit.number true) (order ++ visit.number ∷ []) rest
  keeps_left seen listed order stack rest visit list e is_list le k =
      let ins : Each (λ v. v.number < length graph) (rest ++ visit ∷ []) = subst (Each (λ v. v.number < length graph)) e k.stack_in in
      let seens : Each (λ v. get_or seen v.number false ≡ true) (rest ++ visit ∷ []) = subst (Each (λ v. get_or seen v.number false ≡ true)) e k.stack_seen in
      let within : visit.number < length graph = each_last (λ v. v.number < length graph) rest visit ins in
      let is_seen : get_or seen visit.number false ≡ true = each_last (λ v. get_or seen v.number false ≡ true) rest visit seens in
      let past : length list ≤ visit.followed = le in
      let closes : Closes graph order visit (order ++ visit.number ∷ []) =
      record { list = list; is_list = is_list; after = order; each = subst (λ ns. VisitsEach graph order ns order) (sym (drop_past list visit.followed past)) none; final_is = refl } in
      record {
        finishes = λ final h. k.finishes final (subst (λ s. Finishes graph order s final) (sym e) (finishes_together graph order rest visit (order ++ visit.number ∷ []) final closes h));
        seen_length = k.seen_length;
        listed_length = length-set listed visit.number true ∙ k.listed_length;
        stack_in = each_front (λ v. v.number < length graph) rest visit ins;
        stack_seen = each_front (λ v. get_or seen v.number false ≡ true) rest visit seens;
        listed_seen = λ number p. elim (set_only listed visit.number number p) [
          | inl same ↦ subst (λ m. get_or seen m false ≡ true) same is_seen
          | inr before ↦ k.listed_seen number before
        ];
        listed_in = λ number p. elim (set_only listed visit.number number p) [
          | inl same ↦ subst (Contains (order ++ visit.number ∷ [])) same (Contains-push order visit.number)
          | inr before ↦
              let s : StandsIn order number = contained order number (k.listed_in number before) in
              contains_of (order ++ visit.number ∷ []) number (record { place = s.place; is_there = get_front order (visit.number ∷ []) s.place number s.is_there })
        ];
        all_listed = λ number c.
            let s : StandsIn (order ++ visit.number ∷ []) number = contained (order ++ visit.number ∷ []) number c in
            elim (front_or_last order visit.number s.place number s.is_there) [
              | inl f ↦ set_keeps listed visit.number number (k.all_listed number (contains_of order number (record { place = s.place; is_there = f })))
              | inr f ↦ subst (λ m. get_or (set listed visit.number true) m false ≡ true) f.1 (get_or-set_same listed visit.number true false (subst (λ m. visit.number < m) (sym k.listed_length) within))
            ];
        open_there = λ number p. elim (k.open_there number p) [
          | inl is_listed ↦ inl (set_keeps listed visit.number number is_listed)
          | inr there_before ↦
              let there_rest : StandsIn (map (λ w. w.number) rest ++ visit.number ∷ []) number = subst (λ ns. StandsIn ns number) (ap (map (λ w. w.number)) e ∙ cells_last rest visit) there_before in
              elim (front_or_last (map (λ w. w.number) rest) visit.number there_rest.place number there_rest.is_there) [
                | inl f ↦ inr (record { place = there_rest.place; is_there = f })
                | inr f ↦ inl (subst (λ m. get_or (set listed visit.number true) m false ≡ true) f.1 (get_or-set_same listed visit.number true false (subst (λ m. visit.number < m) (sym k.listed_length) within)))
              ]
        ];
        chain = chain_front graph (map (λ w. w.number) rest) visit.number (subst (IsChain graph) (ap (map (λ w. w.number)) e ∙ cells_last rest visit) k.chain);
      }

  -- the walk comes to a list that it has not left: that list reaches itself
  pub keeps_closes : (seen listed : List Bool) (order : List ℕ) (stack rest : List Visit) (visit : Visit) (list : List ℕ) (instance : ℕ) → stack ≡ rest ++ visit ∷ [] → HasList graph visit.number list →
      slice_get list visit.followed ≡ Some instance → get_or seen instance false ≡ true → get_or listed instance false ≡ false → Keeps graph top seen listed order stack → ReachesItself graph visit.number
  keeps_closes seen listed order stack rest visit list instance e is_list there is_seen not_listed k =
      let numbers : List ℕ = map (λ w. w.number) rest in
      let same : map (λ w. w.number) stack ≡ numbers ++ visit.number ∷ [] = ap (map (λ w. w.number)) e ∙ cells_last rest visit in
      let chain : IsChain graph (numbers ++ visit.number ∷ []) = subst (IsChain graph) same k.chain in
      let above : IsAbove graph visit.number instance = record { numbers = list; are_below = is_list; place = visit.followed; is_there = there } in
      elim (k.open_there instance is_seen) [
        | inl is_listed ↦ absurd (cc)
        | inr s ↦
            let there_on : slice_get (numbers ++ visit.number ∷ []) s.place ≡ Some instance = subst (λ ns. slice_get ns s.place ≡ Some instance) same s.is_there in
            let lt : s.place < length (numbers ++ visit.number ∷ []) = slice_get_within (numbers ++ visit.number ∷ []) s.place instance there_on in
            let l : length (numbers ++ visit.number ∷ []) ≡ length numbers + 1 = length-append numbers (visit.number ∷ []) in
            record { below = instance; first = above; back = chain_to_last graph numbers visit.number chain (length numbers - s.place) s.place instance (omega arith) there_on }
      ]

  pub keeps_last : (seen listed : List Bool) (order : List ℕ) → Keeps graph top seen listed order [] → Visits graph [] top order
  keeps_last seen listed order k = k.finishes order refl

  pub less_listed : (seen : List Bool) (stack rest : List Visit) (visit : Visit) (list : List ℕ) → stack ≡ rest ++ visit ∷ [] → HasList graph visit.number list → visit.followed < length list →
      work graph seen (rest ++ record { number = visit.number; followed = visit.followed + 1 } ∷ []) < work graph seen stack
  less_listed seen stack rest visit list e is_list lt =
      let on : Visit = record { number = visit.number; followed = visit.followed + 1 } in
      subst (λ s. work graph seen (rest ++ on ∷ []) < work graph seen s) (sym e)
      (omega (arith, sum_by-append (visit_work graph) rest (visit ∷ []), sum_by-append (visit_work graph) rest (on ∷ []), one_work graph visit, one_work graph on, count_is graph visit.number list is_list))

  pub less_new : (seen : List Bool) (stack rest : List Visit) (visit : Visit) (list below : List ℕ) (number : ℕ) → stack ≡ rest ++ visit ∷ [] → HasList graph visit.number list → visit.followed < length list →
      HasList graph number below → number < length seen → get_or seen number false ≡ false →
      work graph (set seen number true) ((rest ++ record { number = visit.number; followed = visit.followed + 1 } ∷ []) ++ record { number = number; followed = 0 } ∷ []) < work graph seen stack
  less_new seen stack rest visit list below number e is_list lt is_below in_seen not_seen =
      let on : Visit = record { number = visit.number; followed = visit.followed + 1 } in
      let entered : Visit = record { number = number; followed = 0 } in
      subst (λ s. work graph (set seen number true) ((rest ++ on ∷ []) ++ entered ∷ []) < work graph seen s) (sym e)
      (omega (
        arith,
        sum_by-append (visit_work graph) rest (visit ∷ []),
        sum_by-append (visit_work graph) rest (on ∷ []),
        sum_by-append (visit_work graph) (rest ++ on ∷ []) (entered ∷ []),
        one_work graph visit,
        one_work graph on,
        one_work graph entered,
        count_is graph visit.number list is_list,
        count_is graph number below is_below,
        fresh_less graph seen number below is_below in_seen not_seen,
      ))

  pub less_left : (seen : List Bool) (stack rest : List Visit) (visit : Visit) → stack ≡ rest ++ visit ∷ [] → work graph seen rest < work graph seen stack
  less_left seen stack rest visit e =
      subst (λ s. work graph seen rest < work graph seen s) (sym e) (omega (arith, sum_by-append (visit_work graph) rest (visit ∷ []), one_work graph visit))

-- a turn of the walk: the visit that it takes up, its list and the next instance
pub within : (graph : List (List ℕ)) (top : ℕ) (seen listed : List Bool) (order : List ℕ) (stack rest : List Visit) (visit : Visit) → Keeps graph top seen listed order stack → stack ≡ rest ++ visit ∷ [] → visit.number < length graph
within graph top seen listed order stack rest visit k e = each_last (λ v. v.number < length graph) rest visit (subst (Each (λ v. v.number < length graph)) e k.stack_in)

pub read_at : {A : Type 0} (xs : List A) (i : ℕ) (x : A) → i < length xs → x ≡ get_or xs i x → slice_get xs i ≡ Some x
read_at xs i x lt e = slice_get_read xs (length xs) i x refl lt e

pub record Turn (graph : List (List ℕ)) (visit : Visit) (list : List ℕ) (d : ℕ) : Type 0 where
  pub is_list : HasList graph visit.number list
  pub is_next : visit.followed < length list
  pub there : slice_get list visit.followed ≡ Some (get_or list visit.followed d)
  pub below_in : get_or list visit.followed d < length graph

pub turn_of : (graph : List (List ℕ)) (top : ℕ) (seen listed : List Bool) (order : List ℕ) (stack rest : List Visit) (visit : Visit) (list : List ℕ) (d : ℕ) → IsInRange graph →
    Keeps graph top seen listed order stack → stack ≡ rest ++ visit ∷ [] → HasList graph visit.number list → visit.followed < length list → Turn graph visit list d
turn_of graph top seen listed order stack rest visit list d in_range k e is_list lt =
    let there : slice_get list visit.followed ≡ Some (get_or list visit.followed d) = slice_get-get_or list visit.followed d lt in
    record { is_list = is_list; is_next = lt; there = there; below_in = in_range visit.number (get_or list visit.followed d) (record { numbers = list; are_below = is_list; place = visit.followed; is_there = there }) }

-- what is read within the list does not depend on the default
pub read_or : (bs : List Bool) (i : ℕ) (b : Bool) → i < length bs → b ≡ get_or bs i b → get_or bs i false ≡ b
read_or bs i b lt e = get_or_from_slice_get bs i b false (read_at bs i b lt e)
