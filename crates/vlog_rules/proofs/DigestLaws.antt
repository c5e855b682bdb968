-- Digests of names that are declared, and the declarations of names that were met again.
use Rattle.std.proofs.Common.{◌≡◌, ℕ, Bool, true, false, ◌||◌, ◌&&◌, ◌+◌, ◌≤◌, cond, List, [], ◌∷◌, ◌++◌, append-nil, bytes_eq, filter, map, refl, sym, ap, subst, ◌∙◌, arith}
use Rattle.std.specs.List.{list_any}
use Rattle.std.proofs.lemmas.Bool.{eq-eqb, false≢true}
use Rattle.std.proofs.lemmas.List.{map-append}
use Rattle.std.proofs.lemmas.Slice.Eq.{bytes_eq-Decides}
use Rattle.digests.specs.Sets.{AreNoted, DigestSets, is_again, times}
use Rattle.digests.proofs.CallerLaws.{times-append, times-cons}
use Rattle.vlog_design.specs.Names.{Declaration, Name, clashing, has_name}
use Rattle.vlog_design.specs.Rules.{clash}
use Rattle.vlog_rules.specs.NameDigests.{digest_of, digests_of}

either : (a b : Bool) → (a || b) ≡ true → ({c : Type 0} → (a ≡ true → c) → (b ≡ true → c) → c)
either true b h = λ first second. first refl
either false b h = λ first second. second h

or_right : (a b : Bool) → b ≡ true → (a || b) ≡ true
or_right true b h = refl
or_right false b h = h

-- how often a digest stands among those of names

abbrev digests_in : List Name → List ℕ
digests_in names = map digest_of names

-- the digest of a name that is equal to the first counts there
counts_first : (first : Name) (rest : List Name) (name : Name) → bytes_eq name first ≡ true → times (digests_in (first ∷ rest)) (digest_of name) ≡ 1 + times (digests_in rest) (digest_of name)
counts_first first rest name same =
    times-cons (digest_of name) (digest_of first) (digests_in rest)
    ∙ ap (λ b. cond b 1 0 + times (digests_in rest) (digest_of name)) (eq-eqb (digest_of name) (digest_of first) (ap digest_of ((bytes_eq-Decides name first).0 same)))

-- a name that stands among these
stands_once : (names : List Name) (name : Name) → has_name names name ≡ true → 1 ≤ times (digests_in names) (digest_of name)
stands_once [] name h = absurd (false≢true h)
stands_once (first ∷ rest) name h = either (bytes_eq name first) (has_name rest name) h
    (λ same. let e = counts_first first rest name same in omega (arith, e))
    (λ behind.
    let e = times-cons (digest_of name) (digest_of first) (digests_in rest) in
    let more = stands_once rest name behind in
    omega (arith, e, more))

-- a name that clashes stands there twice: among those before, or among the rest
stands_twice : (before rest : List Name) (name : Name) → has_name (clashing bytes_eq before rest) name ≡ true → 2 ≤ times (digests_in before) (digest_of name) + times (digests_in rest) (digest_of name)
unfolding clashing
stands_twice before [] name h = absurd (false≢true h)
stands_twice before (first ∷ rest) name h = by (has_name before first) refl h (stands_twice (before ++ first ∷ []) rest name)
  where
    later : 2 ≤ times (digests_in (before ++ first ∷ [])) (digest_of name) + times (digests_in rest) (digest_of name) → 2 ≤ times (digests_in before) (digest_of name) + times (digests_in (first ∷ rest)) (digest_of name)
    later more =
        let e = ap (λ digests. times digests (digest_of name)) (map-append digest_of before (first ∷ [])) ∙ times-append (digests_in before) (digest_of first ∷ []) (digest_of name) in
        let one = times-cons (digest_of name) (digest_of first) [] in
        let all = times-cons (digest_of name) (digest_of first) (digests_in rest) in
        omega (arith, more, e, one, all)

    here : has_name before first ≡ true → bytes_eq name first ≡ true → 2 ≤ times (digests_in before) (digest_of name) + times (digests_in (first ∷ rest)) (digest_of name)
    here there same =
        let once = stands_once before name (ap (has_name before) ((bytes_eq-Decides name first).0 same) ∙ there) in
        let e = counts_first first rest name same in
        omega (arith, once, e)

    by : (b : Bool) → has_name before first ≡ b → has_name (cond b (first ∷ clashing bytes_eq (before ++ first ∷ []) rest) (clashing bytes_eq (before ++ first ∷ []) rest)) name ≡ true
        → (has_name (clashing bytes_eq (before ++ first ∷ []) rest) name ≡ true → 2 ≤ times (digests_in (before ++ first ∷ [])) (digest_of name) + times (digests_in rest) (digest_of name))
        → 2 ≤ times (digests_in before) (digest_of name) + times (digests_in (first ∷ rest)) (digest_of name)
    by true there h next = either (bytes_eq name first) (has_name (clashing bytes_eq (before ++ first ∷ []) rest) name) h
        (λ same. here there same)
        (λ behind. later (next behind))
    by false there h next = later (next h)

digests_named : (declarations : List Declaration) → digests_of declarations ≡ digests_in (map (λ (d : Declaration). d.name) declarations)
digests_named [] = refl
digests_named (d ∷ ds) = ap (λ rest. digest_of d.name ∷ rest) (digests_named ds)

-- where the digests of the declarations are noted, that of a name that clashes is noted again
pub clash_again : (sets : DigestSets) (declarations : List Declaration) → AreNoted sets (digests_of declarations) → (name : Name)
    → has_name (clashing bytes_eq [] (map (λ (d : Declaration). d.name) declarations)) name ≡ true → is_again sets (digest_of name) ≡ true
clash_again sets declarations are name h =
    are.again (digest_of name) (subst (λ digests. 2 ≤ times digests (digest_of name)) (sym (digests_named declarations))
    (let twice = stands_twice [] (map (λ (d : Declaration). d.name) declarations) name h in omega (arith, twice)))

-- declarations of names that no test keeps clash with none

module _ (test : Name → Bool) where
  abbrev kept : List Declaration → List Declaration
  kept = filter (λ d. test d.name)

  abbrev named : List Declaration → List Name
  named = map (λ d. d.name)

  clash_names : (same kinds : Bool) → (same && kinds) ≡ true → same ≡ true
  clash_names true kinds h = refl
  clash_names false kinds h = absurd (false≢true h)

  -- one of a name that is kept clashes with those that are kept alone
  any_kept : (x : Declaration) → test x.name ≡ true → (ds : List Declaration) → list_any (clash x) (kept ds) ≡ list_any (clash x) ds
  any_kept x h [] = refl
  any_kept x h (d ∷ ds) = by (test d.name) (clash x d) refl refl (any_kept x h ds)
    where
      by : (b c : Bool) → test d.name ≡ b → clash x d ≡ c → list_any (clash x) (kept ds) ≡ list_any (clash x) ds → list_any (clash x) (cond b (d ∷ kept ds) (kept ds)) ≡ (clash x d || list_any (clash x) ds)
      by true c e f next = ap (λ rest. clash x d || rest) next
      by false false e f next = next ∙ ap (λ first. first || list_any (clash x) ds) (sym f)
      by false true e f next =
          let same : bytes_eq x.name d.name ≡ true = clash_names (bytes_eq x.name d.name) _ f in
          absurd (false≢true (sym e ∙ (ap test (sym ((bytes_eq-Decides x.name d.name).0 same)) ∙ h)))

  -- one that clashes has the name of one before
  any_named : (x : Declaration) (ds : List Declaration) → list_any (clash x) ds ≡ true → has_name (named ds) x.name ≡ true
  any_named x [] h = h
  any_named x (d ∷ ds) h = either (clash x d) (list_any (clash x) ds) h
      (λ first. ap (λ b. b || has_name (named ds) x.name) (clash_names (bytes_eq x.name d.name) _ first))
      (λ second. or_right (bytes_eq x.name d.name) (has_name (named ds) x.name) (any_named x ds second))

  abbrev KeepsAgain : List Declaration → List Declaration → Type 0
  KeepsAgain before rest = (name : Name) → has_name (clashing bytes_eq (named before) (named rest)) name ≡ true → test name ≡ true

  keeps_behind : (before : List Declaration) (x : Declaration) (xs : List Declaration) → KeepsAgain before (x ∷ xs) → KeepsAgain (before ++ x ∷ []) xs
  unfolding clashing
  keeps_behind before x xs h name there =
      let rest = clashing bytes_eq (named before ++ x.name ∷ []) (named xs) in
      h name (in_cond (has_name (named before) x.name) rest (ap (λ ns. has_name (clashing bytes_eq ns (named xs)) name) (sym (map-append (λ d. d.name) before (x ∷ []))) ∙ there))
    where
      in_cond : (b : Bool) (rest : List Name) → has_name rest name ≡ true → has_name (cond b (x.name ∷ rest) rest) name ≡ true
      in_cond true rest h = or_right (bytes_eq name x.name) (has_name rest name) h
      in_cond false rest h = h

  keeps_first : (before : List Declaration) (x : Declaration) (xs : List Declaration) → KeepsAgain before (x ∷ xs) → list_any (clash x) before ≡ true → test x.name ≡ true
  unfolding clashing
  keeps_first before x xs h clashes =
      h x.name (in_first (has_name (named before) x.name) (clashing bytes_eq (named before ++ x.name ∷ []) (named xs)) (any_named x before clashes))
    where
      in_first : (b : Bool) (rest : List Name) → b ≡ true → has_name (cond b (x.name ∷ rest) rest) x.name ≡ true
      in_first true rest h = ap (λ b. b || has_name rest x.name) ((bytes_eq-Decides x.name x.name).1 refl)
      in_first false rest h = absurd (false≢true h)

  kept_more : (before : List Declaration) (x : Declaration) → kept (before ++ x ∷ []) ≡ kept before ++ cond (test x.name) (x ∷ []) []
  kept_more [] x = refl
  kept_more (d ∷ ds) x = by (test d.name) (kept_more ds x)
    where
      by : (b : Bool) → kept (ds ++ x ∷ []) ≡ kept ds ++ cond (test x.name) (x ∷ []) [] → cond b (d ∷ kept (ds ++ x ∷ [])) (kept (ds ++ x ∷ [])) ≡ cond b (d ∷ kept ds) (kept ds) ++ cond (test x.name) (x ∷ []) []
      by true next = ap (λ rest. d ∷ rest) next
      by false next = next

  -- one more declaration: the first of the rest
  kept_step : (before : List Declaration) (x : Declaration) (xs left : List Declaration) (b c : Bool) → test x.name ≡ b → list_any (clash x) before ≡ c → (c ≡ true → test x.name ≡ true)
      → clashing clash (kept (before ++ x ∷ [])) (kept xs) ≡ left
      → clashing clash (kept before) (cond b (x ∷ kept xs) (kept xs)) ≡ cond (list_any (clash x) before) (x ∷ left) left
  unfolding clashing
  kept_step before x xs left true c e f keeps next =
      let more : kept (before ++ x ∷ []) ≡ kept before ++ x ∷ [] = kept_more before x ∙ ap (λ b. kept before ++ cond b (x ∷ []) []) e in
      let rest : clashing clash (kept before ++ x ∷ []) (kept xs) ≡ left = ap (λ ds. clashing clash ds (kept xs)) (sym more) ∙ next in
      λ j. cond (any_kept x e before j) (x ∷ rest j) (rest j)
  kept_step before x xs left false true e f keeps next = absurd (false≢true (sym e ∙ keeps refl))
  kept_step before x xs left false false e f keeps next =
      let more : kept (before ++ x ∷ []) ≡ kept before = kept_more before x ∙ (ap (λ b. kept before ++ cond b (x ∷ []) []) e ∙ append-nil (kept before)) in
      ap (λ ds. clashing clash ds (kept xs)) (sym more) ∙ (next ∙ ap (λ b. cond b (x ∷ left) left) (sym f))

  pub clashing_kept : (before rest : List Declaration) → KeepsAgain before rest → clashing clash (kept before) (kept rest) ≡ clashing clash before rest
  unfolding clashing
  clashing_kept before [] h = refl
  clashing_kept before (x ∷ xs) h =
      kept_step before x xs (clashing clash (before ++ x ∷ []) xs) (test x.name) (list_any (clash x) before) refl refl (keeps_first before x xs h)
      (clashing_kept (before ++ x ∷ []) xs (keeps_behind before x xs h))
