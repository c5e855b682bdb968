-- Lists that are made item by item: what is known of their items, and their size.
use Rattle.std.proofs.Common.{◌≡◌, ap, sym, subst, ℕ, ◌+◌, ◌≤◌, List, [], ◌∷◌, length, length-append, Ok, arith}
use Rattle.std.proofs.lemmas.List.Sums.{sum_by_push}
use Rattle.std.specs.List.{AllByRecursion}
use Rattle.nl_io.specs.Sources.{Supply}
use Rattle.nl_bytes.proofs.Uses.{AllByRecursion-push}
use Rattle.readers.specs.Parts.{PartOf}
use Rattle.nl_bytes.specs.Tokens.{Language}
use Rattle.readers.specs.Readers.{Reader, Adds, room}
use Rattle.readers.proofs.Loops.{Goes, Collects}
use Rattle.vlog_values.specs.Values.{AreSome}
use Rattle.vlog_values.specs.Sizes.{list_size}

-- one more item, for which no token is taken
module _ {K X A : Type 0} {a : A} {old new : Reader K X} {xs ys : List A} (adds : Adds a (Ok tt) old new xs ys) where
  pub room_added : room new ≡ room old
  room_added = ap room adds.added.1

  pub length_added : length ys ≡ length xs + 1
  length_added = let l = ap (λ (zs : List A). length zs) adds.added.0 in let n = length-append xs (a ∷ []) in omega (arith, l, n)

  -- what it holds counts too
  pub size_added : (size : A → ℕ) → list_size size ys ≡ list_size size xs + 1 + size a
  size_added size = let l = ap (list_size size) adds.added.0 in let s = sum_by_push size xs a in let n = length-append xs (a ∷ []) in omega (arith, l, s, n)

  -- where each item is such
  pub all_added : (Good : A → Type 0) → AllByRecursion Good xs → Good a → AllByRecursion Good ys
  all_added Good all good = subst (AllByRecursion Good) (sym adds.added.0) (AllByRecursion-push Good xs a all good)

  pub some_added : (Good : A → Type 0) → AllByRecursion Good xs → Good a → AreSome Good ys
  some_added Good all good = record { some = omega (arith, length_added); all = all_added Good all good }

  -- the first item
  pub first_length : xs ≡ [] → length ys ≡ 1
  first_length none = let l = ap (λ (zs : List A). length zs) none in omega (arith, l, length_added)

  pub first_size : xs ≡ [] → (size : A → ℕ) → list_size size ys ≡ 1 + size a
  first_size none size = let l = ap (list_size size) none in omega (arith, l, size_added size)

  pub first_added : xs ≡ [] → (Good : A → Type 0) → Good a → AreSome Good ys
  first_added none Good good = some_added Good (subst (AllByRecursion Good) (sym none) tt) good

-- a loop goes on, and its list is such
pub collects : {K X A : Type 0} {L : Language X} {whole rest : PartOf K X A} {Good : Type 0} {size : ℕ} {now start : Reader K X} {j i : Supply} → Goes L whole rest now start j i → Good → size + room now ≤ room start → Collects L whole rest Good size now start j i
collects goes good le = record { same = goes.same; context = goes.context; moves = goes.moves; spent = goes.spent; room = le; good = good }
