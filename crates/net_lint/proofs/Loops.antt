-- Lists that loops make.
use Rattle.std.proofs.Common.{◌≡◌, ℕ, ◌+◌, ◌<◌, List, [], ◌∷◌, ◌++◌, sym, ◌∙◌, ap, get_or, Bool, true, false, drop, length, filter}
use Rattle.std.specs.List.{range_with_len}
use Rattle.std.proofs.lemmas.List.{append-nil}
use Rattle.std.proofs.lemmas.Option.{get_or_from_slice_get, slice_get-get_or}
use Rattle.net_hier.specs.Paths.{Path}
use Rattle.net_hier.specs.declared.cells.HCell.{HCell}
use Rattle.flat_numbers.specs.declared.spots.Spot.{Spot}
use Rattle.flat_classes.specs.Groups.{group_at}
use Rattle.flat_classes.specs.declared.flat.Terminal.{Terminal}
use Rattle.flat_classes.proofs.GroupLists.{filter_range}
use Rattle.flat_report.specs.Report.{net_then, nets_then}
use Rattle.flat_report.proofs.TerminalFacts.{drop_next}
use Rattle.net_lint.specs.Groups.{drivers_at, same_finding, sets_of}
use Rattle.net_lint.specs.declared.findings.Finding.{Finding}
use Rattle.net_lint.specs.declared.findings.Finding.TheVariants.{Driven}

-- the numbers that are kept, with the next one or without it
pub kept_added : (test : ℕ → Bool) (n : ℕ) (b : Bool) (old new : List ℕ) → b ≡ test n → b ≡ true → new ≡ old ++ n ∷ [] → old ≡ filter test (range_with_len 0 n) → new ≡ filter test (range_with_len 0 (n + 1))
kept_added test n b old new e t more is = more ∙ (ap (λ w. w ++ n ∷ []) is ∙ sym (filter_range test n true (sym e ∙ t)))

pub kept_passed : (test : ℕ → Bool) (n : ℕ) (b : Bool) (old new : List ℕ) → b ≡ test n → b ≡ false → new ≡ old → old ≡ filter test (range_with_len 0 n) → new ≡ filter test (range_with_len 0 (n + 1))
kept_passed test n b old new e t same is = same ∙ (is ∙ (sym (append-nil (filter test (range_with_len 0 n))) ∙ sym (filter_range test n false (sym e ∙ t))))

-- the list of a place's group
pub row_read : (drivers : List (List ℕ)) (groups : List ℕ) (place group : ℕ) (list : List ℕ) → group ≡ group_at groups place → list ≡ get_or drivers group [] → list ≡ drivers_at groups drivers place
row_read drivers groups place group list g e = e ∙ ap (λ n. get_or drivers n []) g

-- the finding of a place's group
pub finding_read : (findings : List Finding) (groups : List ℕ) (place group : ℕ) (finding d : Finding) (b : Bool) → group ≡ group_at groups place → group < length findings → b ≡ same_finding finding (get_or findings group d) → b ≡ same_finding finding (get_or findings (group_at groups place) Driven)
finding_read findings groups place group finding d b g lt e =
    let read : get_or findings group Driven ≡ get_or findings group d = get_or_from_slice_get findings group (get_or findings group d) Driven (slice_get-get_or findings group d lt) in
    e ∙ (ap (same_finding finding) (sym read) ∙ ap (λ n. same_finding finding (get_or findings n Driven)) g)

-- the lines of the sets, from one on
pub sets_next : (cells : List HCell) (spots : List Spot) (paths : List Path) (terminals : List Terminal) (groups : List ℕ) (drivers : List (List ℕ)) (firsts : List ℕ) (i : ℕ) (set rest : List ℕ) → i < length firsts → set ≡ drivers_at groups drivers (get_or firsts i 0) →
    nets_then cells spots paths terminals (sets_of groups drivers (drop i firsts)) rest ≡ net_then cells spots paths terminals set (nets_then cells spots paths terminals (sets_of groups drivers (drop (i + 1) firsts)) rest)
sets_next cells spots paths terminals groups drivers firsts i set rest lt e =
    ap (λ fs. nets_then cells spots paths terminals (sets_of groups drivers fs) rest) (drop_next firsts i 0 lt)
    ∙ ap (λ s. net_then cells spots paths terminals s (nets_then cells spots paths terminals (sets_of groups drivers (drop (i + 1) firsts)) rest)) (sym e)
