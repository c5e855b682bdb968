-- The search for a joined name that a leaf before has.
use Rattle.std.proofs.Common.{◌≡◌, ℕ, ◌+◌, ◌<◌, ◌≤◌, ◌||◌, Bool, true, false, cond, List, [], ◌∷◌, ◌++◌, Some, None, drop, take, get_or, length, map, bytes_eq, refl, sym, ◌∙◌, ap, subst, nat_eq, arith}
use Rattle.std.specs.Prelude.{All, slice_index}
use Rattle.std.specs.List.{list_any}
use Rattle.std.proofs.Math.ListN.{drop_of_length-le}
use Rattle.std.proofs.Math.Bool.{false-or}
use Rattle.std.proofs.lemmas.Bool.{eq-eqb}
use Rattle.std.proofs.lemmas.List.{drop_more, get_or-map, take_more}
use Rattle.std.proofs.lemmas.List.Elements.{All-filter, All-take, filter-append}
use Rattle.std.proofs.lemmas.Slice.Eq.{bytes_eq-Decides}
use Rattle.net_hier.specs.Paths.{Path}
use Rattle.net_hier.specs.declared.cells.HCell.{HCell}
use Rattle.flat_numbers.specs.declared.spots.Spot.{Spot}
use Rattle.flat_classes.specs.Ways.{ArePaths}
use Rattle.net_flatten_rules.specs.Joined.{name_at}
use Rattle.net_flatten_rules.specs.Rules.{first_of, repeated}
use Rattle.net_flatten_refusals.specs.Digests.{digest_of, under}
use Rattle.net_flatten_refusals.specs.PathDigests.{digests_of, of_digest, path_digest}
use Rattle.net_flatten_refusals.specs.declared.digested.Digested.{Digested}
use Rattle.net_flatten_refusals.proofs.Lists.{any_kept, repeated_left}

-- ---- a name among others, one by one
pub any_left : (test : List ℕ → Bool) (name : ℕ → List ℕ) (others : List ℕ) (i : ℕ) → i < length others →
    list_any test (map name (drop i others)) ≡ (test (name (get_or others i 0)) || list_any test (map name (drop (i + 1) others)))
any_left test name others i lt = ap (λ ls. list_any test (map name ls)) (drop_more others i 0 lt)

pub any_here : (test : List ℕ → Bool) (name : ℕ → List ℕ) (others : List ℕ) (i : ℕ) → i < length others → test (name (get_or others i 0)) ≡ true → true ≡ list_any test (map name (drop i others))
any_here test name others i lt is = sym (any_left test name others i lt ∙ ap (λ b. b || list_any test (map name (drop (i + 1) others))) is)

pub any_later : (test : List ℕ → Bool) (name : ℕ → List ℕ) (others : List ℕ) (i : ℕ) → i < length others → test (name (get_or others i 0)) ≡ false →
    list_any test (map name (drop (i + 1) others)) ≡ list_any test (map name (drop i others))
any_later test name others i lt is = sym (any_left test name others i lt ∙ (ap (λ b. b || list_any test (map name (drop (i + 1) others))) is ∙ false-or _))

pub any_none : (test : List ℕ → Bool) (name : ℕ → List ℕ) (others : List ℕ) (i : ℕ) → length others ≤ i → false ≡ list_any test (map name (drop i others))
any_none test name others i le = sym (ap (λ ls. list_any test (map name ls)) (drop_of_length-le others {i = i} le))

-- ---- the search
pub record Searched (cells : List HCell) (spots : List Spot) (digests leaves : List ℕ) (place : ℕ) (before : Digested) : Type 0 where
  pub tables : (digest : ℕ) → under before digest ≡ of_digest digests digest (take place leaves)
  pub left : (paths : List Path) → ArePaths cells spots paths → first_of (repeated (map (name_at paths) (take place leaves)) (map (name_at paths) (drop place leaves))) ≡ first_of (repeated [] (map (name_at paths) leaves))

module _ (cells : List HCell) (spots : List Spot) (digests leaves : List ℕ) (within : All (λ leaf. leaf < length spots) leaves) where
  pub search_begins : (before : Digested) → ((digest : ℕ) → under before digest ≡ []) → Searched cells spots digests leaves 0 before
  search_begins before none = record { tables = none; left = λ paths of. refl }

  module _ (place : ℕ) (before : Digested) (so_far : Searched cells spots digests leaves place before) where
    -- the spots under a digest are those of leaves
    pub under_within : (digest : ℕ) → All (λ leaf. leaf < length spots) (under before digest)
    under_within digest = subst (All (λ leaf. leaf < length spots)) (sym (so_far.tables digest))
        (All-filter (λ spot. nat_eq (slice_index digests spot) digest) (λ leaf. leaf < length spots) (take place leaves) (All-take (λ leaf. leaf < length spots) place leaves within))

    module _ (lt : place < length leaves) (digest : ℕ) (is_digest : digest ≡ get_or digests (get_or leaves place 0) 0) where
      abbrev leaf : ℕ
      leaf = get_or leaves place 0

      module _ (paths : List Path) (of : ArePaths cells spots paths) (are : digests ≡ digests_of paths) (found : Bool) (is : found ≡ list_any (bytes_eq (name_at paths leaf)) (map (name_at paths) (under before digest))) where
        digest_at : (other : ℕ) → other < length spots → get_or digests other 0 ≡ digest_of (name_at paths other)
        digest_at other less = ap (λ ds. get_or ds other 0) are ∙ get_or-map path_digest paths other [] 0 (let long = of.len in omega (arith, less, long))

        -- the leaf's name is among those of all leaves before exactly where it is among those of its digest
        among_all : found ≡ list_any (bytes_eq (name_at paths leaf)) (map (name_at paths) (take place leaves))
        among_all = is ∙ (ap (λ ls. list_any (bytes_eq (name_at paths leaf)) (map (name_at paths) ls)) (so_far.tables digest)
            ∙ any_kept (bytes_eq (name_at paths leaf)) (name_at paths) (λ spot. nat_eq (slice_index digests spot) digest) (take place leaves)
            (λ k d h same. let other : ℕ = get_or (take place leaves) k d in
            let equal : name_at paths leaf ≡ name_at paths other = (bytes_eq-Decides (name_at paths leaf) (name_at paths other)).0 same in
            eq-eqb (get_or digests other 0) digest (digest_at other (All-take (λ l. l < length spots) place leaves within k d h)
            ∙ (ap digest_of (sym equal) ∙ sym (is_digest ∙ digest_at leaf (within place 0 lt))))))

        pub repeated_here : found ≡ true → Some (name_at paths leaf) ≡ first_of (repeated [] (map (name_at paths) leaves))
        repeated_here is_so = sym (repeated_left (name_at paths) leaves place lt
            ∙ ap (λ b. cond b (Some (name_at paths leaf)) (first_of (repeated (map (name_at paths) (take (place + 1) leaves)) (map (name_at paths) (drop (place + 1) leaves))))) (sym among_all ∙ is_so)) ∙ so_far.left paths of

        repeated_later : found ≡ false → first_of (repeated (map (name_at paths) (take (place + 1) leaves)) (map (name_at paths) (drop (place + 1) leaves))) ≡ first_of (repeated [] (map (name_at paths) leaves))
        repeated_later none = sym (repeated_left (name_at paths) leaves place lt
            ∙ ap (λ b. cond b (Some (name_at paths leaf)) (first_of (repeated (map (name_at paths) (take (place + 1) leaves)) (map (name_at paths) (drop (place + 1) leaves))))) (sym among_all ∙ none)) ∙ so_far.left paths of

      -- the leaf is added
      tables_more : (after : Digested) → ((other : ℕ) → under after other ≡ under before other ++ cond (nat_eq digest other) (leaf ∷ []) []) → (other : ℕ) → under after other ≡ of_digest digests other (take (place + 1) leaves)
      tables_more after added other =
          added other ∙ (ap (λ l. l ++ cond (nat_eq digest other) (leaf ∷ []) []) (so_far.tables other)
          ∙ (ap (λ d. of_digest digests other (take place leaves) ++ cond (nat_eq d other) (leaf ∷ []) []) is_digest
          ∙ sym (ap (of_digest digests other) (take_more leaves place 0 lt) ∙ filter-append (λ spot. nat_eq (slice_index digests spot) other) (take place leaves) (leaf ∷ []))))

      pub search_goes_on : (found : Bool) → ((paths : List Path) → ArePaths cells spots paths → digests ≡ digests_of paths) →
          ((paths : List Path) → ArePaths cells spots paths → found ≡ list_any (bytes_eq (name_at paths leaf)) (map (name_at paths) (under before digest))) → found ≡ false →
          (after : Digested) → ((other : ℕ) → under after other ≡ under before other ++ cond (nat_eq digest other) (leaf ∷ []) []) → Searched cells spots digests leaves (place + 1) after
      search_goes_on found are is none after added = record { tables = tables_more after added; left = λ paths of. repeated_later paths of (are paths of) found (is paths of) none }

    pub search_ends : length leaves ≤ place → (paths : List Path) → ArePaths cells spots paths → None ≡ first_of (repeated [] (map (name_at paths) leaves))
    search_ends le paths of = sym (ap (λ ls. first_of (repeated (map (name_at paths) (take place leaves)) (map (name_at paths) ls))) (drop_of_length-le leaves {i = place} le)) ∙ so_far.left paths of
