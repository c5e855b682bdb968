-- a design has one report
use Rattle.std.proofs.Common.{◌≡◌, ℕ, zero, suc, ◌+◌, ◌<◌, ◌≤◌, inl, inr, List, [], ◌∷◌, ◌++◌, refl, sym, ◌∙◌, ap, subst, subst₂, slice_get, get_or, Some, length, arith}
use Rattle.std.proofs.lemmas.List.{length-append}
use Rattle.std.proofs.lemmas.Option.{slice_get-get_or}
use Rattle.net_graph.proofs.OrderLaws.{front_or_last}
use Rattle.net_hier.specs.Constants.{ConstantNames}
use Rattle.net_hier.specs.Design.{Design}
use Rattle.net_hier.specs.Paths.{Path}
use Rattle.net_hier.specs.Valid.{IsValid}
use Rattle.flat_numbers.specs.Spots.{AreSpots, IsSpotOf}
use Rattle.flat_numbers.specs.declared.spots.Spot.{Spot}
use Rattle.flat_numbers.proofs.PathSpots.{one_path}
use Rattle.flat_numbers.proofs.SpotLaws.{SpotFacts, spot_facts}
use Rattle.flat_classes.specs.Terminals.{AreFlatClasses, FlatValue}
use Rattle.flat_classes.proofs.OneFlat.{one_flat}
use Rattle.flat_report.specs.Report.{IsReport, report_then}
use Rattle.flat_classes.specs.Ways.{ArePaths, path_at}
use Rattle.flat_report.proofs.GroupTexts.{same_list}
use Rattle.flat_classes.proofs.WayLaws.{some_way}

module _ (design : Design) (valid : IsValid design) (spots : List Spot) (are : AreSpots design spots) where
  facts : SpotFacts design.cells design.top spots
  facts = spot_facts design.cells design.top spots are

  -- paths of the first spots
  record FirstPaths (n : ℕ) : Type 0 where
    paths : List Path
    len : length paths ≡ n
    each : (number : ℕ) (path : Path) → slice_get paths number ≡ Some path → IsSpotOf design.cells spots path number

  first_paths : (n : ℕ) → n ≤ length spots → FirstPaths n
  first_paths zero le = record { paths = []; len = refl; each = λ number path e. absurd (cc) }
  first_paths (suc n) le =
      let before : FirstPaths n = first_paths n (omega (arith, le)) in
      let (path, at, way, is_way, short) = some_way design valid spots are n (omega (arith, le)) in
      let z : n + 1 ≡ suc n = omega arith in
      record {
        paths = before.paths ++ path ∷ [];
        len = length-append before.paths (path ∷ []) ∙ (ap (λ k. k + 1) before.len ∙ z);
        each = λ number other e. elim (front_or_last before.paths path number other e) [
          | inl front ↦ before.each number other front
          | inr last ↦ subst₂ (IsSpotOf design.cells spots) last.1 (sym (last.0 ∙ before.len)) at
        ];
      }

  -- the spots have paths
  pub some_paths : (paths : List Path) × ArePaths design.cells spots paths
  some_paths = let f : FirstPaths (length spots) = first_paths (length spots) (omega arith) in (f.paths, record { len = f.len; are = f.each })

  pub one_paths : (a b : List Path) → ArePaths design.cells spots a → ArePaths design.cells spots b → a ≡ b
  one_paths a b of_a of_b = same_list [] a b (of_a.len ∙ sym of_b.len) (λ i lt.
      let pa = of_a.are i (get_or a i []) (slice_get-get_or a i [] lt) in
      let pb = of_b.are i (get_or b i []) (slice_get-get_or b i [] (omega (arith, lt, of_a.len, of_b.len))) in
      one_path design valid spots facts (get_or a i []) (get_or b i []) i pa pb)

  -- the path that is listed for a spot
  pub listed_path : (paths : List Path) → ArePaths design.cells spots paths → (number : ℕ) → number < length spots → IsSpotOf design.cells spots (path_at paths number) number
  listed_path paths of number lt = of.are number (get_or paths number []) (slice_get-get_or paths number [] (omega (arith, lt, of.len)))

pub one_report : (names : ConstantNames) (design : Design) → IsValid design → (a b : List ℕ) → IsReport names design a → IsReport names design b → a ≡ b
one_report names design valid a b of_a of_b =
    let flats : of_a.flat ≡ of_b.flat = one_flat names design valid of_a.flat of_b.flat of_a.are_classes of_b.are_classes in
    let here : ArePaths design.cells of_b.flat.spots of_a.paths = subst (λ (f : FlatValue). ArePaths design.cells f.spots of_a.paths) flats of_a.are_paths in
    let paths : of_a.paths ≡ of_b.paths = one_paths design valid of_b.flat.spots of_b.are_classes.are_spots of_a.paths of_b.paths here of_b.are_paths in
    of_a.is ∙ (subst₂ (λ f p. report_then design of_a.flat of_a.paths [] ≡ report_then design f p []) flats paths refl ∙ sym of_b.is)
