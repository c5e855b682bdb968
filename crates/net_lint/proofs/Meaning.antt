-- What is found by groups is what connection says.
use Rattle.std.proofs.Common.{◌≡◌, ℕ, ◌<◌, ◌≤◌, ◌⊎◌, inl, inr, List, [], ◌∷◌, refl, sym, ◌∙◌, ap, subst, get_or, Bool, true, false, cond, ◌&&◌, ◌==◌, leb, length, filter, arith}
use Rattle.std.specs.Prelude.{Contains}
use Rattle.std.specs.List.{range_with_len}
use Rattle.std.proofs.lemmas.Bool.{eqb-true, leb-true, leb-false}
use Rattle.std.proofs.lemmas.List.{get_or-map}
use Rattle.std.proofs.lemmas.Option.{get_or_from_slice_get, slice_get_within}
use Rattle.net_hier.specs.Constants.{ConstantNames}
use Rattle.net_hier.specs.Design.{Design}
use Rattle.net_hier.specs.Valid.{IsValid}
use Rattle.flat_classes.specs.Groups.{group_at, places_of}
use Rattle.flat_classes.specs.Terminals.{AreFlatClasses, FlatValue}
use Rattle.flat_classes.specs.declared.flat.Terminal.TheVariants.{Zero}
use Rattle.flat_classes.proofs.KindLaws.{nothing_in, first_or_rest, in_first, in_rest}
use Rattle.flat_classes.proofs.LeafLists.{below_range, filter_filter, from_filter, to_filter}
use Rattle.flat_classes.proofs.OneFlat.{place_has_node}
use Rattle.net_lint.specs.Findings.{AreConnected, AreThose, HasRole, IsDriverOf, IsFloating, IsUndriven, View}
use Rattle.net_lint.specs.Groups.{all_sinks, drivers_among, finding_of, role_at, roles_of, same_finding}
use Rattle.net_lint.specs.Lint.{view_of}
use Rattle.net_lint.specs.Roles.{is_driver, is_sink, role_of}
use Rattle.net_lint.specs.declared.findings.Finding.{Finding}
use Rattle.net_lint.specs.declared.findings.Finding.TheVariants.{Undriven, Floating, Driven}
use Rattle.net_lint.specs.declared.role.Role.{Role}
use Rattle.net_lint.specs.declared.role.Role.TheVariants.{Driver, Sink, Both}
use Rattle.net_lint.proofs.Chosen.{another_of, both_true, counted, eqb_same, few_same, kept_two, those_of}

-- ---- roles
driver_is : (role : Role) → is_driver role ≡ true → role ≡ Driver
driver_is Driver e = refl
driver_is Sink e = absurd (cc)
driver_is Both e = absurd (cc)

sink_is : (role : Role) → is_sink role ≡ true → role ≡ Sink
sink_is Driver e = absurd (cc)
sink_is Sink e = refl
sink_is Both e = absurd (cc)

-- what is no sink drives or goes both ways
other_is : (role : Role) → is_sink role ≡ false → (role ≡ Driver) ⊎ (role ≡ Both)
other_is Driver e = inl refl
other_is Sink e = absurd (cc)
other_is Both e = inr refl

-- ---- sinks alone
each_sink : (roles : List Role) (places : List ℕ) → all_sinks roles places ≡ true → (place : ℕ) → Contains places place → role_at roles place ≡ Sink
each_sink roles [] e place c = absurd (nothing_in place c)
each_sink roles (first ∷ places) e place c =
    let both = both_true (is_sink (role_at roles first)) (all_sinks roles places) e in
    elim (first_or_rest first places place c) as (λ _. role_at roles place ≡ Sink) [
      | inl same ↦ subst (λ p. role_at roles p ≡ Sink) same (sink_is (role_at roles first) both.0)
      | inr rest ↦ each_sink roles places both.1 place rest
    ]

-- a place at which there is no sink
record NoSink (roles : List Role) (places : List ℕ) : Type 0 where
  place : ℕ
  is_there : Contains places place
  is_other : (role_at roles place ≡ Driver) ⊎ (role_at roles place ≡ Both)

some_other : (roles : List Role) (places : List ℕ) → all_sinks roles places ≡ false → NoSink roles places
some_other roles [] e = absurd (cc)
some_other roles (first ∷ places) e = by (is_sink (role_at roles first)) refl e (λ g. some_other roles places g)
  where
    by : (b : Bool) → is_sink (role_at roles first) ≡ b → (b && all_sinks roles places) ≡ false → (all_sinks roles places ≡ false → NoSink roles places) → NoSink roles (first ∷ places)
    by true f g more = let r = more g in record { place = r.place; is_there = in_rest first places r.place r.is_there; is_other = r.is_other }
    by false f g more = record { place = first; is_there = in_first first places; is_other = other_is (role_at roles first) f }

true_both : (a b : Bool) → a ≡ true → b ≡ true → (a && b) ≡ false → ⊥
true_both a b e f g = cc

module _ (names : ConstantNames) (design : Design) (valid : IsValid design) (flat : FlatValue) (are : AreFlatClasses names design flat) where
  abbrev view : View
  view = view_of names design flat

  abbrev roles : List Role
  roles = roles_of design.cells flat

  -- ---- groups and connection
  pub many : length flat.groups ≡ length flat.terminals
  many = are.are_numbers.len

  connected : (i j : ℕ) → i < length flat.terminals → j < length flat.terminals → group_at flat.groups j ≡ group_at flat.groups i → AreConnected view i j
  connected i j li lj e =
      let (s, is_s, x, of_s) = place_has_node names design valid flat are i li in
      let (t, is_t, y, of_t) = place_has_node names design valid flat are j lj in
      record { first = s; is_first = is_s; second = t; is_second = is_t; x = x; of_first = of_s; y = y; of_second = of_t; connected = (are.are_groups i j s t x y is_s is_t of_s of_t).0 (sym e) }

  pub grouped : (i j : ℕ) → AreConnected view i j → group_at flat.groups j ≡ group_at flat.groups i
  grouped i j c = sym ((are.are_groups i j c.first c.second c.x c.y c.is_first c.is_second c.of_first c.of_second).1 c.connected)

  pub within : (i j : ℕ) → AreConnected view i j → j < length flat.terminals
  within i j c = slice_get_within flat.terminals j c.second c.is_second

  -- the places of the group of a place
  abbrev pub around : ℕ → List ℕ
  around place = places_of flat.groups (group_at flat.groups place)

  in_group : (i j : ℕ) → j < length flat.terminals → group_at flat.groups j ≡ group_at flat.groups i → Contains (around i) j
  in_group i j lt e = to_filter (λ place. group_at flat.groups place == group_at flat.groups i) (range_with_len 0 (length flat.groups)) j (counted (length flat.groups) j (omega (arith, lt, many))) (eqb_same (group_at flat.groups j) (group_at flat.groups i) e)

  from_group : (i j : ℕ) → Contains (around i) j → (j < length flat.terminals) × (group_at flat.groups j ≡ group_at flat.groups i)
  from_group i j c =
      let (there, e) = from_filter (λ place. group_at flat.groups place == group_at flat.groups i) (range_with_len 0 (length flat.groups)) j c in
      let lt = below_range (length flat.groups) j there in
      (omega (arith, lt, many), eqb-true (group_at flat.groups j) (group_at flat.groups i) e)

  in_own : (i : ℕ) → i < length flat.terminals → Contains (around i) i
  in_own i lt = in_group i i lt refl

  -- ---- roles of places
  role_there : (place : ℕ) → place < length flat.terminals → HasRole view (role_at roles place) place
  role_there place lt =
      let (t, there, x, of) = place_has_node names design valid flat are place lt in
      let read : role_at roles place ≡ role_of design.cells flat.spots (get_or flat.terminals place Zero) = get_or-map (role_of design.cells flat.spots) flat.terminals place Zero Both lt in
      let is : get_or flat.terminals place Zero ≡ t = get_or_from_slice_get flat.terminals place t Zero there in
      record { terminal = t; is_there = there; is = sym (read ∙ ap (role_of design.cells flat.spots) is) }

  role_read : (role : Role) (place : ℕ) → HasRole view role place → role_at roles place ≡ role
  role_read role place has =
      let lt = slice_get_within flat.terminals place has.terminal has.is_there in
      let read : role_at roles place ≡ role_of design.cells flat.spots (get_or flat.terminals place Zero) = get_or-map (role_of design.cells flat.spots) flat.terminals place Zero Both lt in
      read ∙ (ap (role_of design.cells flat.spots) (get_or_from_slice_get flat.terminals place has.terminal Zero has.is_there) ∙ has.is)

  has_role : (role : Role) (place : ℕ) → place < length flat.terminals → role_at roles place ≡ role → HasRole view role place
  has_role role place lt e = subst (λ r. HasRole view r place) e (role_there place lt)

  -- ---- sinks that nothing drives
  sink_of : (i : ℕ) → i < length flat.terminals → all_sinks roles (around i) ≡ true → HasRole view Sink i
  sink_of i lt e = has_role Sink i lt (each_sink roles (around i) e i (in_own i lt))

  floats : (i : ℕ) → i < length flat.terminals → all_sinks roles (around i) ≡ true → length (around i) < 2 → IsFloating view i
  floats i lt e few = record {
    is_sink = sink_of i lt e;
    alone = λ other c. few_same (around i) other i (in_group i other (within i other c) (grouped i other c)) (in_own i lt) few;
  }

  undriven : (i : ℕ) → i < length flat.terminals → all_sinks roles (around i) ≡ true → 2 ≤ length (around i) → IsUndriven view i
  undriven i lt e two =
      let (a, b, in_a, in_b, less) = kept_two (λ place. group_at flat.groups place == group_at flat.groups i) (length flat.groups) two in
      let none : (role : Role) → ¬ (role ≡ Sink) → (other : ℕ) → AreConnected view i other → ¬ HasRole view role other = λ role differ other c has.
      differ (sym (role_read role other has) ∙ each_sink roles (around i) e other (in_group i other (within i other c) (grouped i other c))) in
      let by : (other : ℕ) → Contains (around i) other → ¬ (other ≡ i) → IsUndriven view i = λ other there differ.
      let (inside, group) = from_group i other there in
      record {
        is_sink = sink_of i lt e;
        another = other;
        is_other = differ;
        connected = connected i other lt inside group;
        no_driver = none Driver (λ same. cc);
        none_both = none Both (λ same. cc);
      } in
      elim (another_of a b i less) [ inl differ ↦ by a in_a differ | inr differ ↦ by b in_b differ ]

  -- a terminal in whose group one drives or goes both ways is neither
  driven : (i : ℕ) → i < length flat.terminals → all_sinks roles (around i) ≡ false → (j : ℕ) × AreConnected view i j × (HasRole view Driver j ⊎ HasRole view Both j)
  driven i lt e =
      let other = some_other roles (around i) e in
      let (inside, group) = from_group i other.place other.is_there in
      let has : HasRole view Driver other.place ⊎ HasRole view Both other.place = elim other.is_other [ inl is ↦ inl (has_role Driver other.place inside is) | inr is ↦ inr (has_role Both other.place inside is) ] in
      (other.place, connected i other.place lt inside group, has)

  one_role : (place : ℕ) (a b : Role) → HasRole view a place → HasRole view b place → a ≡ b
  one_role place a b of_a of_b = sym (role_read a place of_a) ∙ role_read b place of_b

  driven_no_floating : (i : ℕ) → i < length flat.terminals → all_sinks roles (around i) ≡ false → ¬ IsFloating view i
  driven_no_floating i lt e floating =
      let (j, c, has) = driven i lt e in
      let same : j ≡ i = floating.alone j c in
      elim has [
        | inl is ↦ let f : Driver ≡ Sink = one_role i Driver Sink (subst (HasRole view Driver) same is) floating.is_sink in cc
        | inr is ↦ let f : Both ≡ Sink = one_role i Both Sink (subst (HasRole view Both) same is) floating.is_sink in cc
      ]

  driven_no_undriven : (i : ℕ) → i < length flat.terminals → all_sinks roles (around i) ≡ false → ¬ IsUndriven view i
  driven_no_undriven i lt e un = let (j, c, has) = driven i lt e in elim has [ inl is ↦ un.no_driver j c is | inr is ↦ un.none_both j c is ]

  some_no_floating : (i : ℕ) → i < length flat.terminals → IsUndriven view i → ¬ IsFloating view i
  some_no_floating i lt un floating = un.is_other (floating.alone un.another un.connected)

  -- what is found in the group of a place, by the two tests
  abbrev pub found_at : ℕ → Finding
  found_at i = finding_of roles (around i)

  pub is_floating : (i : ℕ) → i < length flat.terminals → same_finding Floating (found_at i) ≡ true → IsFloating view i
  is_floating i lt e = by (all_sinks roles (around i)) (leb 2 (length (around i))) refl refl e
    where
      by : (b c : Bool) → all_sinks roles (around i) ≡ b → leb 2 (length (around i)) ≡ c → same_finding Floating (cond b (cond c Undriven Floating) Driven) ≡ true → IsFloating view i
      by true true f g h = absurd (cc)
      by true false f g h = floats i lt f (leb-false 2 (length (around i)) g)
      by false c f g h = absurd (cc)

  pub no_floating : (i : ℕ) → i < length flat.terminals → same_finding Floating (found_at i) ≡ false → ¬ IsFloating view i
  no_floating i lt e = by (all_sinks roles (around i)) (leb 2 (length (around i))) refl refl e
    where
      by : (b c : Bool) → all_sinks roles (around i) ≡ b → leb 2 (length (around i)) ≡ c → same_finding Floating (cond b (cond c Undriven Floating) Driven) ≡ false → ¬ IsFloating view i
      by true true f g h = some_no_floating i lt (undriven i lt f (leb-true 2 (length (around i)) g))
      by true false f g h = absurd (cc)
      by false c f g h = driven_no_floating i lt f

  pub is_undriven : (i : ℕ) → i < length flat.terminals → same_finding Undriven (found_at i) ≡ true → IsUndriven view i
  is_undriven i lt e = by (all_sinks roles (around i)) (leb 2 (length (around i))) refl refl e
    where
      by : (b c : Bool) → all_sinks roles (around i) ≡ b → leb 2 (length (around i)) ≡ c → same_finding Undriven (cond b (cond c Undriven Floating) Driven) ≡ true → IsUndriven view i
      by true true f g h = undriven i lt f (leb-true 2 (length (around i)) g)
      by true false f g h = absurd (cc)
      by false c f g h = absurd (cc)

  pub no_undriven : (i : ℕ) → i < length flat.terminals → same_finding Undriven (found_at i) ≡ false → ¬ IsUndriven view i
  no_undriven i lt e = by (all_sinks roles (around i)) (leb 2 (length (around i))) refl refl e
    where
      by : (b c : Bool) → all_sinks roles (around i) ≡ b → leb 2 (length (around i)) ≡ c → same_finding Undriven (cond b (cond c Undriven Floating) Driven) ≡ false → ¬ IsUndriven view i
      by true true f g h = absurd (cc)
      by true false f g h = λ un. some_no_floating i lt un (floats i lt f (leb-false 2 (length (around i)) g))
      by false c f g h = driven_no_undriven i lt f

  -- ---- drivers
  abbrev drives : ℕ → ℕ → Bool
  drives i place = (group_at flat.groups place == group_at flat.groups i) && is_driver (role_at roles place)

  drives_then : (i : ℕ) → i < length flat.terminals → (place : ℕ) → Contains (range_with_len 0 (length flat.terminals)) place → drives i place ≡ true → IsDriverOf view i place
  drives_then i lt place c e =
      let inside = below_range (length flat.terminals) place c in
      let both = both_true (group_at flat.groups place == group_at flat.groups i) (is_driver (role_at roles place)) e in
      record { is_driver = has_role Driver place inside (driver_is (role_at roles place) both.1); connected = connected i place lt inside (eqb-true (group_at flat.groups place) (group_at flat.groups i) both.0) }

  drives_else : (i place : ℕ) → drives i place ≡ false → ¬ IsDriverOf view i place
  drives_else i place e of = true_both (group_at flat.groups place == group_at flat.groups i) (is_driver (role_at roles place)) (eqb_same (group_at flat.groups place) (group_at flat.groups i) (grouped i place of.connected)) (ap is_driver (role_read Driver place of.is_driver)) e

  -- the drivers that are connected to a place are those of its group
  pub drivers_are : (i : ℕ) → i < length flat.terminals → AreThose (IsDriverOf view i) (range_with_len 0 (length flat.terminals)) (drivers_among roles (around i))
  drivers_are i lt =
      let chosen = those_of (IsDriverOf view i) (drives i) (range_with_len 0 (length flat.terminals)) (drives_then i lt) (λ place c e. drives_else i place e) in
      let both = filter_filter (λ place. group_at flat.groups place == group_at flat.groups i) (λ place. is_driver (role_at roles place)) (range_with_len 0 (length flat.groups)) in
      subst (AreThose (IsDriverOf view i) (range_with_len 0 (length flat.terminals))) (ap (λ n. filter (drives i) (range_with_len 0 n)) (sym many) ∙ sym both) chosen
