-- The direction of a port, item by item.
use Rattle.std.proofs.Common.{◌≡◌, ◌∙◌, ap, refl, ℕ, suc, ◌+◌, ◌<◌, ◌≤◌, List, ◌∷◌, length, drop, get_or, Some, None, arith}
use Rattle.std.proofs.Math.ListN.{drop_of_length-le}
use Rattle.std.proofs.Math.Seq.{drop-cons}
use Rattle.nl_base.specs.declared.value.Dir.{Dir}
use Rattle.nl_base.specs.declared.value.Dir.TheVariants as dirs
use Rattle.edif_values.specs.declared.port.PortItem.{PortItem}
use Rattle.edif_values.specs.Directions.{told, direction_of}

here : (i : PortItem) (is : List PortItem) (d : Dir) → told i ≡ Some d → direction_of (i ∷ is) ≡ d
unfolding direction_of
here i is d h = rw h refl

later : (i : PortItem) (is : List PortItem) → told i ≡ None → direction_of (i ∷ is) ≡ direction_of is
unfolding direction_of
later i is h = rw h refl

module _ (is : List PortItem) (n : ℕ) (i : PortItem) (lt : n < length is) where
  -- the item that is next tells the direction
  pub direction_here : (d : Dir) → told (get_or is n i) ≡ Some d → direction_of (drop n is) ≡ d
  direction_here d h = ap direction_of (drop-cons is n i lt) ∙ here (get_or is n i) _ d h

  -- the items behind the next one tell the direction
  pub direction_later : told (get_or is n i) ≡ None → direction_of (drop n is) ≡ direction_of (drop (n + 1) is)
  direction_later h =
      let next : suc n ≡ n + 1 = omega arith in
      ap direction_of (drop-cons is n i lt) ∙ (later (get_or is n i) _ h ∙ ap (λ m. direction_of (drop m is)) next)

-- no item is left
pub direction_nowhere : (is : List PortItem) (n : ℕ) → length is ≤ n → direction_of (drop n is) ≡ dirs.Inout
unfolding direction_of
direction_nowhere is n past = rw (drop_of_length-le is past) refl

-- for a loop over the items of a port
pub ruleset directions_told = (direction_here, direction_later, direction_nowhere)
