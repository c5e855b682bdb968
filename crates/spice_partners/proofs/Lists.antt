-- What stands where in lists of lists, and the places of port bits.
use Rattle.std.proofs.Common.{◌≡◌, ℕ, zero, suc, ◌+◌, ◌-◌, ◌<◌, inl, inr, List, [], ◌∷◌, ◌++◌, Some, flat_map, length, slice_get, refl, sym, ◌∙◌, ap, subst, arith, Contains}
use Rattle.std.specs.List.{enumerate_from}
use Rattle.std.proofs.lemmas.Bool.{cases_lt}
use Rattle.std.proofs.lemmas.List.{length-append}
use Rattle.std.proofs.lemmas.List.Elements.{Contains-append_cases, Contains-append_left, Contains-append_right}
use Rattle.std.proofs.lemmas.List.FromFn.{get_or-map-range_with_len, length-map-range_with_len}
use Rattle.std.proofs.lemmas.Option.{slice_get-get_or}
use Rattle.net_graph.proofs.OrderLaws.{get_front}
use Rattle.net_hier.specs.Cells.{width_of}
use Rattle.net_hier.specs.declared.cells.HPort.{HPort}
use Rattle.net_live.specs.Live.{bit_word}
use Rattle.net_stars.proofs.Lists.{contains_cases, contains_first, contains_later}
use Rattle.to_spice_rules.specs.PortWords.{bit_words}
use Rattle.spice_partners.specs.Places.{place_in}

-- ---- lists
pub element_at : {X : Type 0} (xs : List X) (k : ℕ) (x : X) → slice_get xs k ≡ Some x → Contains xs x
element_at [] k x there = absurd cc
element_at (y ∷ ys) zero x there = subst (Contains (y ∷ ys)) (let e : y ≡ x = cc in e) (contains_first y ys)
element_at (y ∷ ys) (suc k) x there = contains_later y x ys (element_at ys k x there)

pub get_behind : {X : Type 0} (xs ys : List X) (k : ℕ) → slice_get (xs ++ ys) (length xs + k) ≡ slice_get ys k
get_behind [] ys k = let z : 0 + k ≡ k = omega arith in ap (slice_get ys) z
get_behind (x ∷ xs) ys k = let z : suc (length xs) + k ≡ suc (length xs + k) = omega arith in ap (slice_get (x ∷ (xs ++ ys))) z ∙ get_behind xs ys k

-- what a part of an item has, the parts of all items have
pub part_there : {X Y : Type 0} (f : X → List Y) (xs : List X) (x : X) (y : Y) → Contains xs x → Contains (f x) y → Contains (flat_map f xs) y
part_there f [] x y h m = absurd (let l = h.1 in omega (arith, l))
part_there f (z ∷ zs) x y h m = elim (contains_cases z x zs h) as (λ _. Contains (f z ++ flat_map f zs) y) [
  | inl e ↦ Contains-append_left (f z) (flat_map f zs) y (subst (λ w. Contains (f w) y) (sym e) m)
  | inr r ↦ Contains-append_right (f z) (flat_map f zs) y (part_there f zs x y r m)
]

pub there_part : {X Y : Type 0} (f : X → List Y) (xs : List X) (y : Y) → Contains (flat_map f xs) y → (x : X) × Contains xs x × Contains (f x) y
there_part f [] y h = absurd (let l = h.1 in omega (arith, l))
there_part {X} f (z ∷ zs) y h = elim (Contains-append_cases (f z) (flat_map f zs) y h) as (λ _. (x : X) × Contains (z ∷ zs) x × Contains (f x) y) [
  | inl here ↦ (z, contains_first z zs, here)
  | inr later ↦ let r = there_part f zs y later in (r.0, contains_later z r.0 zs r.1, r.2)
]

-- a numbered item stands at its number
pub numbered_there : {X : Type 0} (n : ℕ) (xs : List X) (k : ℕ) (x : X) → slice_get xs k ≡ Some x → Contains (enumerate_from n xs) (n + k, x)
numbered_there n [] k x e = absurd cc
numbered_there n (y ∷ ys) zero x e =
    let z : n ≡ n + 0 = omega arith in
    let same : y ≡ x = cc in
    subst (λ m. Contains ((n, y) ∷ enumerate_from (n + 1) ys) (m, x)) z (subst (λ w. Contains ((n, y) ∷ enumerate_from (n + 1) ys) (n, w)) same (contains_first (n, y) (enumerate_from (n + 1) ys)))
numbered_there n (y ∷ ys) (suc k) x e =
    let z : n + 1 + k ≡ n + suc k = omega arith in
    contains_later (n, y) (n + suc k, x) (enumerate_from (n + 1) ys) (subst (λ m. Contains (enumerate_from (n + 1) ys) (m, x)) z (numbered_there (n + 1) ys k x e))

pub record IsNumbered {X : Type 0} (n : ℕ) (xs : List X) (item : ℕ × X) : Type 0 where
  pub place : ℕ
  pub is_number : item.0 ≡ n + place
  pub is_there : slice_get xs place ≡ Some item.1

pub there_numbered : {X : Type 0} (n : ℕ) (xs : List X) (item : ℕ × X) → Contains (enumerate_from n xs) item → IsNumbered n xs item
there_numbered n [] item h = absurd (let l = h.1 in omega (arith, l))
there_numbered {X} n (y ∷ ys) item h = elim (contains_cases (n, y) item (enumerate_from (n + 1) ys) h) as (λ _. IsNumbered n (y ∷ ys) item) [
  | inl e ↦ record { place = 0; is_number = sym (ap (λ (p : ℕ × X). p.0) e) ∙ (let z : n ≡ n + 0 = omega arith in z); is_there = ap (λ (p : ℕ × X). Some p.1) e }
  | inr later ↦
      let r : IsNumbered (n + 1) ys item = there_numbered (n + 1) ys item later in
      record { place = suc r.place; is_number = r.is_number ∙ (let k = r.place in let z : n + 1 + k ≡ n + suc k = omega arith in z); is_there = r.is_there }
]

-- ---- the places of port bits
-- the bit of a port of this number
pub record IsBitOf (ports : List HPort) (port bit : ℕ) : Type 0 where
  pub the_port : HPort
  pub is_there : slice_get ports port ≡ Some the_port
  pub within : bit < width_of the_port.range

bits_long : (p : HPort) → length (bit_words p) ≡ width_of p.range
bits_long p = length-map-range_with_len (bit_word p) 0 (width_of p.range)

bit_there : (p : HPort) (bit : ℕ) → bit < width_of p.range → slice_get (bit_words p) bit ≡ Some (bit_word p bit)
bit_there p bit lt =
    let long = bits_long p in
    slice_get-get_or (bit_words p) bit [] (omega (arith, long, lt)) ∙ ap Some (get_or-map-range_with_len (bit_word p) 0 (width_of p.range) bit bit [] lt (omega arith))

-- the word of a bit stands at its place
pub word_there : (ports : List HPort) (port bit : ℕ) (is : IsBitOf ports port bit) → slice_get (flat_map bit_words ports) (place_in ports port bit) ≡ Some (bit_word is.the_port bit)
word_there [] port bit is = absurd (let e = is.is_there in cc)
word_there (first ∷ ports) zero bit is =
    let e : first ≡ is.the_port = let h = is.is_there in cc in
    get_front (bit_words first) (flat_map bit_words ports) bit (bit_word is.the_port bit) (ap (λ p. slice_get (bit_words p) bit) e ∙ bit_there is.the_port bit is.within)
word_there (first ∷ ports) (suc port) bit is =
    let long : width_of first.range ≡ length (bit_words first) = sym (bits_long first) in
    ap (λ n. slice_get (bit_words first ++ flat_map bit_words ports) (n + place_in ports port bit)) long
    ∙ (get_behind (bit_words first) (flat_map bit_words ports) (place_in ports port bit) ∙ word_there ports port bit (record { the_port = is.the_port; is_there = is.is_there; within = is.within }))

-- each place is that of a bit
pub record HasPlace (ports : List HPort) (place : ℕ) : Type 0 where
  pub port : ℕ
  pub bit : ℕ
  pub is_bit : IsBitOf ports port bit
  pub is_place : place_in ports port bit ≡ place

pub bit_at : (ports : List HPort) (place : ℕ) → place < length (flat_map bit_words ports) → HasPlace ports place
bit_at [] place lt = absurd (omega (arith, lt))
bit_at (first ∷ ports) place lt = elim (cases_lt place (width_of first.range)) as (λ _. HasPlace (first ∷ ports) place) [
  | inl here ↦ record { port = 0; bit = place; is_bit = record { the_port = first; is_there = refl; within = here }; is_place = refl }
  | inr ge ↦
      let long = bits_long first in
      let both = length-append (bit_words first) (flat_map bit_words ports) in
      let rest : HasPlace ports (place - width_of first.range) = bit_at ports (place - width_of first.range) (omega (arith, lt, ge, long, both)) in
      let e = rest.is_place in
      record { port = suc rest.port; bit = rest.bit; is_bit = record { the_port = rest.is_bit.the_port; is_there = rest.is_bit.is_there; within = rest.is_bit.within }; is_place = omega (arith, e, ge) }
]

-- two bits have two places
pub one_bit : (ports : List HPort) (port bit oport obit : ℕ) → IsBitOf ports port bit → IsBitOf ports oport obit → place_in ports port bit ≡ place_in ports oport obit → (port ≡ oport) × (bit ≡ obit)
one_bit [] port bit oport obit is ois e = absurd (let h = is.is_there in cc)
one_bit (first ∷ ports) zero bit zero obit is ois e = (refl, e)
one_bit (first ∷ ports) zero bit (suc oport) obit is ois e =
    let same : first ≡ is.the_port = let h = is.is_there in cc in
    let lt : bit < width_of first.range = subst (λ p. bit < width_of p.range) (sym same) is.within in
    absurd (omega (arith, lt, e))
one_bit (first ∷ ports) (suc port) bit zero obit is ois e =
    let same : first ≡ ois.the_port = let h = ois.is_there in cc in
    let lt : obit < width_of first.range = subst (λ p. obit < width_of p.range) (sym same) ois.within in
    absurd (omega (arith, lt, e))
one_bit (first ∷ ports) (suc port) bit (suc oport) obit is ois e =
    let r = one_bit ports port bit oport obit (record { the_port = is.the_port; is_there = is.is_there; within = is.within }) (record { the_port = ois.the_port; is_there = ois.is_there; within = ois.within }) (omega (arith, e)) in
    (ap suc r.0, r.1)
