-- The digest of a joined name, from that of the spot above.
use Rattle.std.proofs.Common.{◌≡◌, ℕ, ◌+◌, ◌<◌, ◌≤◌, List, [], ◌∷◌, ◌++◌, take, get_or, length, map, sym, ◌∙◌, ap, subst, append_assoc, arith}
use Rattle.std.specs.Prelude.{codes, Contains}
use Rattle.std.proofs.lemmas.List.{get_or-map, get_or-take, length-map, take_all, take_more}
use Rattle.std.proofs.lemmas.List.Sums.{fold-append}
use Rattle.std.proofs.lemmas.Option.{get_or_from_slice_get}
use Rattle.net_hier.specs.Design.{Design}
use Rattle.net_hier.specs.Paths.{Path}
use Rattle.net_hier.specs.Valid.{IsValid}
use Rattle.flat_numbers.specs.Spots.{AreSpots}
use Rattle.flat_numbers.specs.declared.spots.Spot.{Spot}
use Rattle.flat_classes.proofs.KindLaws.{in_first}
use Rattle.flat_classes.specs.Ways.{ArePaths, path_at}
use Rattle.flat_classes.specs.Ways.{IsInner, at_top, instance_name}
use Rattle.flat_report.proofs.OneReport.{listed_path}
use Rattle.flat_classes.proofs.WayLaws.{WayOf, WayStep, some_way, way_of_path, way_step}
use Rattle.net_flatten_rules.specs.Joined.{name_at, names_before}
use Rattle.net_flatten_rules.proofs.JoinedLaws.{one_way}
use Rattle.net_flatten_refusals.specs.Digests.{digest_from, digest_of, digest_step, no_bytes}
use Rattle.net_flatten_refusals.specs.PathDigests.{digests_of, path_digest}

-- the digest of a text in two parts
digest_parts : (digest : ℕ) (first second : List ℕ) → digest_from digest (first ++ second) ≡ digest_from (digest_from digest first) second
digest_parts digest first second = fold-append digest_step digest first second

-- the digest of the joined name of a path of two names or more
path_more : (name above : List ℕ) (outer : Path) → path_digest (name ∷ (above ∷ outer)) ≡ digest_from (digest_from (path_digest (above ∷ outer)) (codes "/")) name
path_more name above outer =
    digest_parts no_bytes (names_before (above ∷ outer)) name
    ∙ ap (λ d. digest_from d name)
    (ap (digest_from no_bytes) (sym (append_assoc (names_before outer) above (codes "/"))) ∙ digest_parts no_bytes (names_before outer ++ above) (codes "/"))

module _ (design : Design) (valid : IsValid design) (spots : List Spot) (are : AreSpots design spots) where
  -- the first spot of the way of a path
  step_of : (path : Path) (number : ℕ) (o : WayOf design.cells spots path number) → ¬ (number ≡ 0) → WayStep spots number o.way
  step_of path number o differ = way_step spots number o.way o.is_way differ

  -- a spot other than the top's is that of an instance
  pub inner_there : (number : ℕ) → number < length spots → ¬ (number ≡ 0) → IsInner design.cells spots number
  inner_there number lt differ =
      let w = some_way design valid spots are number lt in
      let o : WayOf design.cells spots w.0 number = way_of_path design valid spots are w.0 number w.1 in
      let s : WayStep spots number o.way = step_of w.0 number o differ in
      o.inner number (subst (λ (ws : List ℕ). Contains ws number) (sym s.begins) (in_first number s.rest))

  pub parent_less : (number : ℕ) (d : Spot) → number < length spots → ¬ (number ≡ 0) → (get_or spots number d).parent < number
  parent_less number d lt differ =
      let w = some_way design valid spots are number lt in
      let s : WayStep spots number w.2 = way_step spots number w.2 w.3 differ in
      subst (λ (spot : Spot). spot.parent < number) (sym (get_or_from_slice_get spots number s.spot d s.is_spot)) s.less

  module _ (paths : List Path) (of : ArePaths design.cells spots paths) where
    way_at : (number : ℕ) → number < length spots → WayOf design.cells spots (path_at paths number) number
    way_at number lt = way_of_path design valid spots are (path_at paths number) number (listed_path design valid spots are paths of number lt)

    path_of_top : 0 < length spots → path_at paths 0 ≡ []
    path_of_top lt = let o : WayOf design.cells spots (path_at paths 0) 0 = way_at 0 lt in
        sym o.names ∙ ap (map (instance_name design.cells spots)) (one_way spots 0 o.way [] o.is_way at_top)

    -- the path of a spot other than the top's
    path_below : (number : ℕ) (d : Spot) → number < length spots → ¬ (number ≡ 0) → path_at paths number ≡ instance_name design.cells spots number ∷ path_at paths (get_or spots number d).parent
    path_below number d lt differ =
        let name = instance_name design.cells spots in
        let o : WayOf design.cells spots (path_at paths number) number = way_at number lt in
        let s : WayStep spots number o.way = step_of (path_at paths number) number o differ in
        let less = s.less in
        let p : WayOf design.cells spots (path_at paths s.spot.parent) s.spot.parent = way_at s.spot.parent (omega (arith, less, lt)) in
        let same : map name s.rest ≡ path_at paths s.spot.parent = ap (map name) (one_way spots s.spot.parent s.rest p.way s.is_way p.is_way) ∙ p.names in
        subst (λ (spot : Spot). path_at paths number ≡ name number ∷ path_at paths spot.parent) (sym (get_or_from_slice_get spots number s.spot d s.is_spot))
        (sym o.names ∙ (ap (map name) s.begins ∙ ap (λ p. name number ∷ p) same))

    pub digest_of_top : 0 < length spots → no_bytes ≡ digest_of (name_at paths 0)
    digest_of_top lt = ap path_digest (sym (path_of_top lt))

    -- the digest of a spot below the top
    pub digest_below_top : (number : ℕ) (d : Spot) (name : List ℕ) → number < length spots → ¬ (number ≡ 0) → (get_or spots number d).parent ≡ 0 → instance_name design.cells spots number ≡ name →
        digest_from no_bytes name ≡ digest_of (name_at paths number)
    digest_below_top number d name lt differ top named =
        let outer : path_at paths (get_or spots number d).parent ≡ [] = ap (path_at paths) top ∙ path_of_top (omega (arith, lt)) in
        sym (ap path_digest (path_below number d lt differ ∙ ap (λ p. instance_name design.cells spots number ∷ p) outer) ∙ ap (digest_from no_bytes) named)

    -- the digest of a spot below another one
    pub digest_below : (number : ℕ) (d : Spot) (name : List ℕ) (digests : List ℕ) → number < length spots → ¬ (number ≡ 0) → ¬ ((get_or spots number d).parent ≡ 0) → instance_name design.cells spots number ≡ name →
        digests ≡ take number (digests_of paths) → digest_from (digest_from (get_or digests (get_or spots number d).parent 0) (codes "/")) name ≡ digest_of (name_at paths number)
    digest_below number d name digests lt differ below named so_far =
        let parent : ℕ = (get_or spots number d).parent in
        let less : parent < number = parent_less number d lt differ in
        let long : length paths ≡ length spots = of.len in
        let above : List ℕ = instance_name design.cells spots parent in
        let outer : Path = path_at paths (get_or spots parent d).parent in
        let at_parent : path_at paths parent ≡ above ∷ outer = path_below parent d (omega (arith, less, lt)) below in
        let read : get_or digests parent 0 ≡ path_digest (path_at paths parent) =
        ap (λ ds. get_or ds parent 0) so_far ∙ (get_or-take number (digests_of paths) parent 0 less ∙ get_or-map path_digest paths parent [] 0 (omega (arith, less, lt, long))) in
        sym (ap path_digest (path_below number d lt differ ∙ ap (λ p. instance_name design.cells spots number ∷ p) at_parent)
        ∙ (path_more (instance_name design.cells spots number) above outer
        ∙ (ap (λ n. digest_from (digest_from (path_digest (above ∷ outer)) (codes "/")) n) named
        ∙ ap (λ x. digest_from (digest_from x (codes "/")) name) (sym (read ∙ ap path_digest at_parent)))))

-- ---- the list of digests
pub digests_more : (paths : List Path) (n digest : ℕ) (old new : List ℕ) → n < length paths → old ≡ take n (digests_of paths) → digest ≡ digest_of (name_at paths n) → new ≡ old ++ digest ∷ [] →
    new ≡ take (n + 1) (digests_of paths)
digests_more paths n digest old new lt so_far is pushed =
    let long = length-map paths path_digest in
    pushed ∙ (ap (λ ds. ds ++ digest ∷ []) so_far ∙ (ap (λ d. take n (digests_of paths) ++ d ∷ []) (is ∙ sym (get_or-map path_digest paths n [] 0 lt))
    ∙ sym (take_more (digests_of paths) n 0 (omega (arith, lt, long)))))

pub digests_whole : (paths : List Path) (n : ℕ) (digests : List ℕ) → length paths ≤ n → digests ≡ take n (digests_of paths) → digests ≡ digests_of paths
digests_whole paths n digests le so_far = so_far ∙ take_all n (digests_of paths) (let long = length-map paths path_digest in omega (arith, le, long))
