-- What the findings by groups give together.
use Rattle.std.proofs.Common.{◌≡◌, ℕ, ◌<◌, List, [], sym, ◌∙◌, ap, subst, get_or, Bool, true, false, length, map, filter, arith, All}
use Rattle.std.specs.Prelude.{Contains}
use Rattle.std.specs.List.{range_with_len}
use Rattle.std.proofs.lemmas.List.{get_or-map, length-map}
use Rattle.std.proofs.lemmas.Option.{get_or_from_slice_get, slice_get-get_or, slice_get_within}
use Rattle.net_graph.proofs.OrderLaws.{contained}
use Rattle.net_hier.specs.Constants.{ConstantNames}
use Rattle.net_hier.specs.Design.{Design}
use Rattle.net_hier.specs.Valid.{IsValid}
use Rattle.flat_classes.specs.Groups.{AreMembers, group_at, places_of}
use Rattle.flat_classes.specs.Terminals.{AreFlatClasses, FlatValue}
use Rattle.flat_classes.proofs.LeafLists.{all_of, below_range, from_filter}
use Rattle.flat_report.proofs.GroupTexts.{member_within}
use Rattle.net_lint.specs.Findings.{AreFound, AreSeveral, AreThose, IsFloating, IsUndriven, View}
use Rattle.net_lint.specs.Groups.{drivers_among, finding_of, first_drivers, places_found, role_at, roles_of, same_finding, sets_of}
use Rattle.net_lint.specs.Lint.{view_of}
use Rattle.net_lint.specs.Roles.{is_driver}
use Rattle.net_lint.specs.declared.findings.Finding.{Finding}
use Rattle.net_lint.specs.declared.findings.Finding.TheVariants.{Undriven, Floating, Driven}
use Rattle.net_lint.specs.declared.role.Role.{Role}
use Rattle.net_lint.proofs.Chosen.{those_of}
use Rattle.net_lint.proofs.Meaning.{found_at, is_floating, is_undriven, many, no_floating, no_undriven}
use Rattle.net_lint.proofs.Several.{several_are}

-- what holds of all of a list holds of one of its elements, and of those that are kept
all_at : (P : ℕ → Type 0) (xs : List ℕ) → All P xs → (x : ℕ) → Contains xs x → P x
all_at P xs all x c = let s = contained xs x c in subst P (get_or_from_slice_get xs s.place x 0 s.is_there) (all s.place 0 (slice_get_within xs s.place x s.is_there))

kept_all : (P : ℕ → Type 0) (test : ℕ → Bool) (xs : List ℕ) → All P xs → All P (filter test xs)
kept_all P test xs all = all_of P (filter test xs) (λ x c. all_at P xs all x (from_filter test xs x c).0)

pub kept_below : (test : ℕ → Bool) (n bound : ℕ) → n ≡ bound → All (λ place. place < bound) (filter test (range_with_len 0 n))
kept_below test n bound e = all_of (λ place. place < bound) (filter test (range_with_len 0 n)) (λ place c. let lt = below_range n place (from_filter test (range_with_len 0 n) place c).0 in omega (arith, lt, e))

module _ (flat : FlatValue) (members : List (List ℕ)) (of : AreMembers flat.groups flat.count members) (bound : ℕ) (len : length flat.groups ≡ bound) where
  -- the places of each group are those of terminals
  pub members_below : All (All (λ place. place < bound)) members
  members_below k d lt =
      let one : get_or members k [] ≡ get_or members k d = get_or_from_slice_get members k (get_or members k d) [] (slice_get-get_or members k d lt) in
      subst (All (λ place. place < bound)) one (member_within flat members k bound of lt len)

  module _ (roles : List Role) (drivers : List (List ℕ)) (are : drivers ≡ map (drivers_among roles) members) where
    pub drivers_many : length drivers ≡ flat.count
    drivers_many = ap length are ∙ (length-map members (drivers_among roles) ∙ of.len)

    -- the drivers of each group
    pub drivers_of : (group : ℕ) → group < flat.count → get_or drivers group [] ≡ drivers_among roles (places_of flat.groups group)
    drivers_of group lt =
        let e = of.len in
        ap (λ ls. get_or ls group []) are ∙ (get_or-map (drivers_among roles) members group [] [] (omega (arith, lt, e)) ∙ ap (drivers_among roles) (of.members group lt))

    pub drivers_below : All (All (λ place. place < bound)) drivers
    drivers_below k d lt =
        let n = drivers_many in
        let e = of.len in
        let inside : k < flat.count = omega (arith, lt, n) in
        let group : All (λ place. place < bound) (places_of flat.groups k) = subst (All (λ place. place < bound)) (of.members k inside) (member_within flat members k bound of (omega (arith, inside, e)) len) in
        let one : get_or drivers k [] ≡ get_or drivers k d = get_or_from_slice_get drivers k (get_or drivers k d) [] (slice_get-get_or drivers k d lt) in
        subst (All (λ place. place < bound)) (sym (drivers_of k inside) ∙ one) (kept_all (λ place. place < bound) (λ place. is_driver (role_at roles place)) (places_of flat.groups k) group)

module _ (names : ConstantNames) (design : Design) (valid : IsValid design) (flat : FlatValue) (are : AreFlatClasses names design flat) (members : List (List ℕ)) (of : AreMembers flat.groups flat.count members) where
  abbrev view : View
  view = view_of names design flat

  abbrev roles : List Role
  roles = roles_of design.cells flat

  module _ (findings : List Finding) (found : findings ≡ map (finding_of roles) members) where
    -- what is found at a place is found in its group
    found_read : (place : ℕ) → place < length flat.terminals → get_or findings (group_at flat.groups place) Driven ≡ found_at names design valid flat are place
    found_read place lt =
        let m = many names design valid flat are in
        let below : group_at flat.groups place < flat.count = are.are_numbers.in_order.within place (omega (arith, lt, m)) in
        let e = of.len in
        ap (λ fs. get_or fs (group_at flat.groups place) Driven) found
        ∙ (get_or-map (finding_of roles) members (group_at flat.groups place) [] Driven (omega (arith, below, e)) ∙ ap (finding_of roles) (of.members (group_at flat.groups place) below))

    abbrev asks : Finding → ℕ → Bool
    asks finding place = same_finding finding (get_or findings (group_at flat.groups place) Driven)

    those_found : (finding : Finding) (Holds : View → ℕ → Type 0) → ((place : ℕ) → place < length flat.terminals → same_finding finding (found_at names design valid flat are place) ≡ true → Holds view place)
        → ((place : ℕ) → place < length flat.terminals → same_finding finding (found_at names design valid flat are place) ≡ false → ¬ Holds view place) → AreFound Holds view (places_found flat.groups findings finding)
    those_found finding Holds holds fails =
        let chosen : AreThose (Holds view) (range_with_len 0 (length flat.terminals)) (filter (asks finding) (range_with_len 0 (length flat.terminals))) =
        those_of (Holds view) (asks finding) (range_with_len 0 (length flat.terminals))
        (λ place c e. let lt = below_range (length flat.terminals) place c in holds place lt (ap (same_finding finding) (sym (found_read place lt)) ∙ e))
        (λ place c e. let lt = below_range (length flat.terminals) place c in fails place lt (ap (same_finding finding) (sym (found_read place lt)) ∙ e)) in
        subst (AreThose (Holds view) (range_with_len 0 (length flat.terminals))) (ap (λ n. filter (asks finding) (range_with_len 0 n)) (sym (many names design valid flat are))) chosen

    pub undriven_found : AreFound IsUndriven view (places_found flat.groups findings Undriven)
    undriven_found = those_found Undriven IsUndriven (is_undriven names design valid flat are) (no_undriven names design valid flat are)

    pub floating_found : AreFound IsFloating view (places_found flat.groups findings Floating)
    floating_found = those_found Floating IsFloating (is_floating names design valid flat are) (no_floating names design valid flat are)

  pub several_found : (drivers : List (List ℕ)) → drivers ≡ map (drivers_among roles) members → AreSeveral view (sets_of flat.groups drivers (first_drivers flat.groups drivers))
  several_found drivers e = several_are names design valid flat are drivers (drivers_of flat members of (length flat.terminals) are.are_numbers.len roles drivers e)
