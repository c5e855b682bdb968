-- Where sizes are good, ports have ranges and bits are small.
use Rattle.std.proofs.Common.{◌≡◌, ℕ, zero, suc, ◌+◌, ◌<◌, ◌≤◌, ◌^◌, Bool, true, false, not, cond, ◌||◌, List, [], ◌∷◌, length, get_or, Option, Some, None, option_map, refl, sym, ap, ◌∙◌, subst, arith, ℤ, pos, negsuc, nat_abs, map}
use Rattle.std.specs.Prelude.{slice_get, int_lt, ⊤}
use Rattle.std.specs.List.{list_any}
use Rattle.std.specs.Option.{option_and_then}
use Rattle.std.proofs.lemmas.Int.{ints}
use Rattle.std.proofs.lemmas.Bool.{false≢true}
use Rattle.std.proofs.lemmas.Bool.Decides.{nat_tests}
use Rattle.std.proofs.lemmas.Option.{slice_get-map}
use Rattle.edif_values.specs.Names.{HasSize, IsSize}
use Rattle.edif_values.specs.declared.name.PortName.{PortName}
use Rattle.edif_values.specs.declared.name.PortName.TheVariants.{Single, Array}
use Rattle.edif_values.specs.declared.port.Port.{Port}
use Rattle.net_hier.specs.declared.nodes.Node.{Node}
use Rattle.net_hier.specs.declared.nodes.Node.TheVariants as nodes
use Rattle.edif_values.specs.declared.cell.Cell.{Cell}
use Rattle.edif_design.specs.CellRules.{bit_of, has_good_sizes, is_bad_size, is_no_member, only_bit, size_of}
use Rattle.edif_design.specs.Parts.{ports}
use Rattle.edif_rules.specs.Scopes.{ScopeLists, inner_ports, node_found, port_at}
use Rattle.edif_rules.specs.Spots.{node_at, node_of_bit}
use Rattle.edif_rules.specs.declared.bits.BitSpot.{BitSpot}
use Rattle.edif_rules.specs.declared.found.Target.{Target}
use Rattle.edif_rules.specs.declared.found.Target.TheVariants as founds
use Rattle.edif_cells.specs.Values.{HasGoodSizes, is_bad_port}

or_left : (a b : Bool) → (a || b) ≡ false → a ≡ false
or_left true b h = absurd (false≢true (sym h))
or_left false b h = refl

or_right : (a b : Bool) → (a || b) ≡ false → b ≡ false
or_right true b h = absurd (false≢true (sym h))
or_right false b h = h

above_zero : (n : ℕ) → int_lt (pos n) (pos 1) ≡ false → 1 ≤ n
above_zero n h = grind (arith, nat_tests)

up_to_limit : (n : ℕ) → int_lt (pos 65536) (pos n) ≡ false → n ≤ 65536
up_to_limit n h = grind (arith, nat_tests)

below_size : (m n : ℕ) → int_lt (pos m) (pos n) ≡ true → m < n
below_size m n h = grind (arith, nat_tests)

good_size : (size : ℤ) → is_bad_size (Some size) ≡ false → IsSize size
good_size (pos n) h = (above_zero n (or_left _ _ h), up_to_limit n (or_right _ _ h))
good_size (negsuc n) h = absurd (false≢true (sym h))

-- a port of a good size has a range
pub good_name : (name : PortName) → is_bad_size (size_of name) ≡ false → HasSize name
good_name (Single name) h = tt
good_name (Array name size) h = good_size size h

-- each of the ports is good where none is bad
pub good_at : {A : Type 0} (p : A → Bool) (xs : List A) (i : ℕ) (d : A) → i < length xs → list_any p xs ≡ false → p (get_or xs i d) ≡ false
good_at p [] i d within h = absurd (omega arith)
good_at p (x ∷ xs) zero d within h = or_left (p x) (list_any p xs) h
good_at p (x ∷ xs) (suc i) d within h = good_at p xs i d (omega arith) (or_right (p x) (list_any p xs) h)

good_get : {A : Type 0} (p : A → Bool) (xs : List A) (i : ℕ) (x : A) → slice_get xs i ≡ Some x → list_any p xs ≡ false → p x ≡ false
good_get p [] i x e h = absurd cc
good_get p (y ∷ xs) zero x e h = let same : y ≡ x = cc in subst (λ z. p z ≡ false) same (or_left (p y) (list_any p xs) h)
good_get p (y ∷ xs) (suc i) x e h = good_get p xs i x e (or_right (p y) (list_any p xs) h)

-- ---- bits

abbrev bit_in : Node → ℕ
bit_in (nodes.Port port bit) = bit
bit_in (nodes.Pin instance port bit) = bit
bit_in (nodes.Net net) = 0
bit_in nodes.Zero = 0
bit_in nodes.One = 0

bit_in-node : (instance : Option ℕ) (port bit : ℕ) → bit_in (node_of_bit instance port bit) ≡ bit
bit_in-node None port bit = refl
bit_in-node (Some instance) port bit = refl

member_small : (size index : ℤ) → is_bad_size (Some size) ≡ false → is_no_member (Some size) index ≡ false → nat_abs index < 65536
member_small (pos n) (pos m) good is = let below : m < n = below_size m n (by (int_lt (pos m) (pos n)) (or_right _ _ is)) in omega (arith, below, up_to_limit n (or_right _ _ good))
  where
    by : (b : Bool) → not b ≡ false → b ≡ true
    by true h = refl
    by false h = absurd (false≢true (sym h))
member_small (pos n) (negsuc m) good is = absurd (false≢true (sym is))
member_small (negsuc n) index good is = absurd (false≢true (sym good))

bit_small : (size member : Option ℤ) (bit : ℕ) → is_bad_size size ≡ false → bit_of size member ≡ Some bit → bit < 65536
bit_small None None bit good e = let same : 0 ≡ bit = cc in omega (arith, same)
bit_small (Some size) None bit good e = by (int_lt size (pos 1) || int_lt (pos 1) size) e
  where
    by : (b : Bool) → cond b None (Some 0) ≡ Some bit → bit < 65536
    by true h = absurd cc
    by false h = let same : 0 ≡ bit = cc in omega (arith, same)
bit_small None (Some index) bit good e = absurd cc
bit_small (Some size) (Some index) bit good e = by (is_no_member (Some size) index) refl e
  where
    by : (b : Bool) → is_no_member (Some size) index ≡ b → cond b None (Some (nat_abs index)) ≡ Some bit → bit < 65536
    by true is h = absurd cc
    by false is h = let same : nat_abs index ≡ bit = cc in omega (arith, same, member_small size index good is)

module _ (lists : ScopeLists) (good : HasGoodSizes lists) where
  good_port : (instance : Option ℕ) (port : ℕ) (meant : Port) → port_at lists instance port ≡ Some meant → is_bad_port meant ≡ false
  good_port None port meant e = good_get is_bad_port lists.own port meant e good.own_good
  good_port (Some instance) port meant e = by (inner_ports lists instance) refl e
    where
      by : (inner : Option (List Port)) → inner_ports lists instance ≡ inner → option_and_then (λ ps. slice_get ps port) inner ≡ Some meant → is_bad_port meant ≡ false
      by None is h = absurd cc
      by (Some ps) is h = good_get is_bad_port ps port meant h (good.inner_good instance ps is)

  -- the position of a bit that is meant is below 65,536
  pub spot_small : (found : Target) (member : Option ℤ) (spot : BitSpot) → Some (node_at spot) ≡ node_found lists found member → spot.bit < 65536
  spot_small (founds.Port instance port) member spot e = by (port_at lists instance port) refl e
    where
      at : (meant : Port) → is_bad_port meant ≡ false → (bit : Option ℕ) → bit_of (size_of meant.name) member ≡ bit → Some (node_at spot) ≡ option_map (node_of_bit instance port) bit → spot.bit < 65536
      at meant fine None is h = absurd cc
      at meant fine (Some bit) is h =
          let node : node_at spot ≡ node_of_bit instance port bit = cc in
          let same : spot.bit ≡ bit = sym (bit_in-node spot.instance spot.port spot.bit) ∙ (ap bit_in node ∙ bit_in-node instance port bit) in
          omega (arith, same, bit_small (size_of meant.name) member bit fine is)

      by : (meant : Option Port) → port_at lists instance port ≡ meant → Some (node_at spot) ≡ option_and_then (λ f. option_map (node_of_bit instance port) (bit_of (size_of f.name) member)) meant → spot.bit < 65536
      by None is h = absurd cc
      by (Some meant) is h = at meant (good_port instance port meant is) (bit_of (size_of meant.name) member) refl h
  spot_small founds.NoInstance member spot e = absurd cc
  spot_small founds.SeveralInstances member spot e = absurd cc
  spot_small founds.NoCell member spot e = absurd cc
  spot_small (founds.NoPort instance) member spot e = absurd cc
  spot_small founds.SeveralPorts member spot e = absurd cc

-- ---- from the sizes of cells

not_false : (b : Bool) → not b ≡ true → b ≡ false
not_false true h = absurd (false≢true h)
not_false false h = refl

pub good_own : (cell : Cell) → has_good_sizes cell ≡ true → list_any is_bad_port (ports cell) ≡ false
good_own cell h = not_false (list_any is_bad_port (ports cell)) h

is_there : (below : List (Option ℕ)) (i n : ℕ) → get_or below i None ≡ Some n → slice_get below i ≡ Some (Some n)
is_there [] i n e = absurd cc
is_there (x ∷ below) zero n e = ap Some e
is_there (x ∷ below) (suc i) n e = is_there below i n e

pub good_inner : (cells : List Cell) (below : List (Option ℕ)) → ((place number : ℕ) (inner : Cell) → slice_get below place ≡ Some (Some number) → slice_get cells number ≡ Some inner → has_good_sizes inner ≡ true)
    → (instance : ℕ) (inner : List Port) → option_and_then (slice_get (map ports cells)) (get_or below instance None) ≡ Some inner → list_any is_bad_port inner ≡ false
good_inner cells below good instance inner e = by (get_or below instance None) refl e
  where
    at : (n : ℕ) → get_or below instance None ≡ Some n → (cell : Option Cell) → slice_get cells n ≡ cell → option_map ports cell ≡ Some inner → list_any is_bad_port inner ≡ false
    at n is None there h = absurd cc
    at n is (Some cell) there h =
        let same : ports cell ≡ inner = cc in
        subst (λ ps. list_any is_bad_port ps ≡ false) same (good_own cell (good instance n cell (is_there below instance n is) there))

    by : (number : Option ℕ) → get_or below instance None ≡ number → option_and_then (slice_get (map ports cells)) number ≡ Some inner → list_any is_bad_port inner ≡ false
    by None is h = absurd cc
    by (Some n) is h = at n is (slice_get cells n) refl (sym (slice_get-map ports cells n) ∙ h)
