-- the way from a spot up to the top, and the names of its instances
use Rattle.std.proofs.Common.{◌≡◌, ℕ, zero, suc, ◌+◌, ◌<◌, ◌≤◌, inl, inr, List, [], ◌∷◌, ◌++◌, refl, sym, ◌∙◌, ap, subst, slice_get, get_or, set, Some, length, map, take, append_assoc, arith}
use Rattle.std.specs.Option.{option_and_then}
use Rattle.std.proofs.lemmas.List.{length-append, length-take-le, length-set, take_more_set, append-nil}
use Rattle.std.proofs.lemmas.Option.{get_or_from_slice_get}
use Rattle.net_hier.specs.Design.{Design, IsCell}
use Rattle.net_hier.specs.Paths.{Path}
use Rattle.net_hier.specs.Valid.{IsValid}
use Rattle.net_hier.specs.declared.cells.HCell.{HCell}
use Rattle.net_hier.specs.declared.cells.HInst.{HInst}
use Rattle.flat_numbers.specs.Spots.{AreSpots, IsSpotBelow, IsSpotOf}
use Rattle.flat_numbers.specs.declared.spots.Spot.{Spot}
use Rattle.flat_numbers.proofs.PathSpots.{spot_has_path}
use Rattle.flat_numbers.proofs.SpotLaws.{HasParent, SpotFacts, spot_facts}
use Rattle.flat_classes.proofs.KindLaws.{first_or_rest, nothing_in}
use Rattle.flat_classes.specs.Ways.{AreInner, IsInner, IsWay, at_top, below, instance_name, instance_of, name_of}

-- ---- walking up
-- of the way from the start, a front is in the room and the rest begins at the spot
pub record WayLeft (spots : List Spot) (at count : ℕ) (room way : List ℕ) : Type 0 where
  pub left : List ℕ
  pub is_way : IsWay spots at left
  pub parts : way ≡ take count room ++ left
  pub within : count ≤ length room

-- the way of a spot other than the top begins with it
pub record WayStep (spots : List Spot) (at : ℕ) (way : List ℕ) : Type 0 where
  pub spot : Spot
  pub is_spot : slice_get spots at ≡ Some spot
  pub less : spot.parent < at
  pub rest : List ℕ
  pub begins : way ≡ at ∷ rest
  pub is_way : IsWay spots spot.parent rest

pub way_step : (spots : List Spot) (at : ℕ) (way : List ℕ) → IsWay spots at way → ¬ (at ≡ 0) → WayStep spots at way
way_step spots at way at_top differ = absurd (differ refl)
way_step spots at way (below {spot = spot} {way = rest} is less up) differ = record { spot = spot; is_spot = is; less = less; rest = rest; begins = refl; is_way = up }

way_ends : (spots : List Spot) (at : ℕ) (way : List ℕ) → IsWay spots at way → at ≡ 0 → way ≡ []
way_ends spots at way at_top e = refl
way_ends spots at way (below is less up) e = absurd (omega (arith, less, e))

pub way_begins : (spots : List Spot) (start : ℕ) (room way : List ℕ) → IsWay spots start way → WayLeft spots start 0 room way
way_begins spots start room way is = record { left = way; is_way = is; parts = refl; within = omega arith }

-- there is room for one more
pub way_has_room : (spots : List Spot) (at count : ℕ) (room way : List ℕ) → WayLeft spots at count room way → ¬ (at ≡ 0) → length way ≤ length room → count < length room
way_has_room spots at count room way left differ le =
    let s = way_step spots at left.left left.is_way differ in
    let l = ap length (left.parts ∙ ap (λ w. take count room ++ w) s.begins) in
    let m = length-append (take count room) (at ∷ s.rest) in
    let n = length-take-le count room left.within in
    omega (arith, l, m, n, le)

pub way_more : (spots : List Spot) (at count : ℕ) (room way : List ℕ) (d : Spot) → WayLeft spots at count room way → ¬ (at ≡ 0) → count < length room → WayLeft spots (get_or spots at d).parent (count + 1) (set room count at) way
way_more spots at count room way d left differ lt =
    let s = way_step spots at left.left left.is_way differ in
    let same : s.spot ≡ get_or spots at d = sym (get_or_from_slice_get spots at s.spot d s.is_spot) in
    record {
      left = s.rest;
      is_way = subst (λ (w : Spot). IsWay spots w.parent s.rest) same s.is_way;
      parts = left.parts ∙ (ap (λ w. take count room ++ w) s.begins ∙ (sym (append_assoc (take count room) (at ∷ []) s.rest) ∙ ap (λ w. w ++ s.rest) (sym (take_more_set room count at lt))));
      within = let l = length-set room count at in omega (arith, lt, l);
    }

pub way_done : (spots : List Spot) (at count : ℕ) (room way : List ℕ) → WayLeft spots at count room way → at ≡ 0 → take count room ≡ way
way_done spots at count room way left e = sym (left.parts ∙ (ap (λ w. take count room ++ w) (way_ends spots at left.left left.is_way e) ∙ append-nil (take count room)))

pub way_counted : (spots : List Spot) (at count : ℕ) (room way : List ℕ) → WayLeft spots at count room way → at ≡ 0 → count ≡ length way
way_counted spots at count room way left e =
    let d = ap length (way_done spots at count room way left e) in
    let n = length-take-le count room left.within in
    omega (arith, d, n)

-- a way has no more spots than the number of its first
pub way_short : (spots : List Spot) (at : ℕ) (way : List ℕ) → IsWay spots at way → length way ≤ at
way_short spots at way at_top = omega arith
way_short spots at way (below {way = rest} is less up) = let l = way_short spots _ rest up in omega (arith, l, less)

-- ---- the names
pub record InnerFacts (cells : List HCell) (spots : List Spot) (number : ℕ) : Type 0 where
  pub spot : Spot
  pub is_spot : slice_get spots number ≡ Some spot
  pub above : Spot
  pub is_above : slice_get spots spot.parent ≡ Some above
  pub cell : HCell
  pub is_cell : IsCell cells above.cell cell
  pub instance : HInst
  pub is_there : slice_get cell.instances spot.instance ≡ Some instance

abbrev facts_below : (cells : List HCell) (spots : List Spot) (outer : ℕ) (name : List ℕ) (number : ℕ) → IsSpotBelow cells spots outer name number → InnerFacts cells spots number
facts_below cells spots outer name number b = record {
  spot = b.spot;
  is_spot = b.is_spot;
  above = b.above;
  is_above = subst (λ n. slice_get spots n ≡ Some b.above) (sym b.of_parent) b.is_above;
  cell = b.cell;
  is_cell = b.is_cell;
  instance = b.instance;
  is_there = b.is_there;
}

pub inner_facts : (cells : List HCell) (spots : List Spot) (number : ℕ) → IsInner cells spots number → InnerFacts cells spots number
inner_facts cells spots number inner = facts_below cells spots inner.0 inner.1 number inner.2

pub name_is : (cells : List HCell) (spots : List Spot) (number : ℕ) (f : InnerFacts cells spots number) → instance_name cells spots number ≡ f.instance.name
name_is cells spots number f =
    ap (λ o. name_of (option_and_then (instance_of cells spots) o)) f.is_spot
    ∙ (ap (λ o. name_of (option_and_then (λ (above : Spot). option_and_then (λ (cell : HCell). slice_get cell.instances f.spot.instance) (slice_get cells above.cell)) o)) f.is_above
    ∙ (ap (λ o. name_of (option_and_then (λ (cell : HCell). slice_get cell.instances f.spot.instance) o)) f.is_cell ∙ ap name_of f.is_there))

-- ---- the way of a path
pub record WayOf (cells : List HCell) (spots : List Spot) (path : Path) (number : ℕ) : Type 0 where
  pub way : List ℕ
  pub is_way : IsWay spots number way
  pub names : map (instance_name cells spots) way ≡ path
  pub inner : AreInner cells spots way

module _ (design : Design) (valid : IsValid design) (spots : List Spot) (are : AreSpots design spots) where
  facts : SpotFacts design.cells design.top spots
  facts = spot_facts design.cells design.top spots are

  pub way_of_path : (path : Path) (number : ℕ) → IsSpotOf design.cells spots path number → WayOf design.cells spots path number
  way_of_path [] number at = record {
    way = [];
    is_way = subst (λ n. IsWay spots n []) (sym at) at_top;
    names = refl;
    inner = λ n c. absurd (nothing_in n c);
  }
  way_of_path (name ∷ path) number at =
      let b : IsSpotBelow design.cells spots at.0 name number = at.2 in
      let up : WayOf design.cells spots path at.0 = way_of_path path at.0 at.1 in
      let h : HasParent design.cells 0 spots number b.spot = facts.inside number b.spot b.no_top b.is_spot in
      let less : b.spot.parent < number = omega (arith, h.is_before, h.of_parent) in
      let f : InnerFacts design.cells spots number = facts_below design.cells spots at.0 name number b in
      record {
        way = number ∷ up.way;
        is_way = below b.is_spot less (subst (λ n. IsWay spots n up.way) (sym b.of_parent) up.is_way);
        names = ap (λ n. n ∷ map (instance_name design.cells spots) up.way) (name_is design.cells spots number f ∙ b.is_named) ∙ ap (λ p. name ∷ p) up.names;
        inner = λ n c. elim (first_or_rest number up.way n c) [
          | inl e ↦ subst (IsInner design.cells spots) e (at.0, name, b)
          | inr r ↦ up.inner n r
        ];
      }

  -- a spot has a way, which is no longer than there are spots
  pub some_way : (number : ℕ) → number < length spots → (path : Path) × IsSpotOf design.cells spots path number × (way : List ℕ) × IsWay spots number way × (length way ≤ length spots)
  some_way number lt =
      let (spot, is_spot) = spot_at spots number lt in
      let (path, at) = spot_has_path design valid spots facts number spot is_spot in
      let w = way_of_path path number at in
      let s = way_short spots number w.way w.is_way in
      (path, at, w.way, w.is_way, omega (arith, s, lt))
    where
      spot_at : (xs : List Spot) (n : ℕ) → n < length xs → (spot : Spot) × (slice_get xs n ≡ Some spot)
      spot_at [] n h = absurd (omega arith)
      spot_at (x ∷ xs) zero h = (x, refl)
      spot_at (x ∷ xs) (suc n) h = spot_at xs n (omega arith)
