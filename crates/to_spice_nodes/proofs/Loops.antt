-- Lists that are made from the left.
use Rattle.std.proofs.Common.{◌≡◌, ℕ, zero, suc, ◌+◌, ◌<◌, ◌≤◌, List, [], ◌∷◌, ◌++◌, Some, map, flat_map, take, get_or, length, slice_get, refl, sym, ◌∙◌, ap, subst, arith, append_assoc, append-nil, Contains}
use Rattle.std.specs.List.{enumerate_from, range_with_len}
use Rattle.std.specs.Option.{option_map_or}
use Rattle.std.proofs.lemmas.List.Elements.{Contains-append_left, Contains-append_right}
use Rattle.std.proofs.lemmas.List.FromFn.{get_or-map-range_with_len, length-map-range_with_len}
use Rattle.std.proofs.lemmas.List.{map-append, take_more}
use Rattle.std.proofs.lemmas.Grind.{flat_map-append}
use Rattle.std.proofs.lemmas.Option.{slice_get_read, slice_get_within}
use Rattle.net_hier.specs.Cells.{IsPortBit, width_of}
use Rattle.net_hier.specs.declared.cells.HCell.{HCell}
use Rattle.net_hier.specs.declared.cells.HPort.{HPort}
use Rattle.net_hier.specs.declared.nodes.Node.{Node}
use Rattle.net_hier.specs.declared.nodes.Node.TheVariants.{Port}
use Rattle.net_live.specs.Live.{bit_word}
use Rattle.to_spice_rules.specs.PortWords.{bit_words, port_words, word_of}

-- one number more
range_more : (first n : ℕ) → range_with_len first (n + 1) ≡ range_with_len first n ++ (first + n) ∷ []
range_more first zero = let e : first ≡ first + 0 = omega arith in ap (λ k. k ∷ []) e
range_more first (suc n) =
    let e : suc n + 1 ≡ suc (n + 1) = omega arith in
    let k : first + 1 + n ≡ first + suc n = omega arith in
    ap (range_with_len first) e ∙ (ap (λ l. first ∷ l) (range_more (first + 1) n) ∙ ap (λ m. first ∷ (range_with_len (first + 1) n ++ m ∷ [])) k)

-- the bits of a port, one more
pub bits_turn : (f : ℕ → Node) (start now new : List Node) (n : ℕ) (x : Node) → now ≡ start ++ map f (range_with_len 0 n) → x ≡ f n → new ≡ now ++ x ∷ [] → new ≡ start ++ map f (range_with_len 0 (n + 1))
bits_turn f start now new n x e is m =
    let z : 0 + n ≡ n = omega arith in
    m ∙ (ap (λ w. w ++ x ∷ []) e ∙ (append_assoc start (map f (range_with_len 0 n)) (x ∷ []) ∙ (ap (λ y. start ++ (map f (range_with_len 0 n) ++ y ∷ [])) is
    ∙ ap (λ w. start ++ w) (sym (ap (map f) (range_more 0 n ∙ ap (λ k. range_with_len 0 n ++ k ∷ []) z) ∙ map-append f (range_with_len 0 n) (n ∷ []))))))

numbered_more : {A : Type 0} (n : ℕ) (xs : List A) (x : A) → enumerate_from n (xs ++ x ∷ []) ≡ enumerate_from n xs ++ (n + length xs, x) ∷ []
numbered_more n [] x = let z : n ≡ n + 0 = omega arith in ap (λ k. (k, x) ∷ []) z
numbered_more n (y ∷ ys) x =
    let z : n + 1 + length ys ≡ n + suc (length ys) = omega arith in
    ap (λ l. (n, y) ∷ l) (numbered_more (n + 1) ys x ∙ ap (λ k. enumerate_from (n + 1) ys ++ (k, x) ∷ []) z)

taken_long : {A : Type 0} (xs : List A) (k : ℕ) → k ≤ length xs → length (take k xs) ≡ k
taken_long [] zero h = refl
taken_long [] (suc k) h = absurd (omega (arith, h))
taken_long (x ∷ xs) zero h = refl
taken_long (x ∷ xs) (suc k) h = ap suc (taken_long xs k (omega (arith, h)))

-- the pins of ports, those of one port more
pub ports_turn : (f : ℕ × HPort → List Node) (ports : List HPort) (n : ℕ) (d : HPort) (now new : List Node) → n < length ports → now ≡ flat_map f (enumerate_from 0 (take n ports)) → new ≡ now ++ f (n, get_or ports n d) → new ≡ flat_map f (enumerate_from 0 (take (n + 1) ports))
ports_turn f ports n d now new lt e m =
    let long : 0 + length (take n ports) ≡ n = (let l = taken_long ports n (omega (arith, lt)) in omega (arith, l)) in
    let all : enumerate_from 0 (take (n + 1) ports) ≡ enumerate_from 0 (take n ports) ++ (n, get_or ports n d) ∷ [] =
    ap (enumerate_from 0) (take_more ports n d lt) ∙ (numbered_more 0 (take n ports) (get_or ports n d) ∙ ap (λ k. enumerate_from 0 (take n ports) ++ (k, get_or ports n d) ∷ []) long) in
    m ∙ (ap (λ w. w ++ f (n, get_or ports n d)) e ∙ (ap (λ w. flat_map f (enumerate_from 0 (take n ports)) ++ w) (sym (append-nil (f (n, get_or ports n d))))
    ∙ sym (ap (flat_map f) all ∙ flat_map-append f (enumerate_from 0 (take n ports)) ((n, get_or ports n d) ∷ []))))

-- ---- words of bits
pub word_among : (ports : List HPort) (number bit : ℕ) (port : HPort) → slice_get ports number ≡ Some port → bit < width_of port.range → Contains (flat_map bit_words ports) (bit_word port bit)
word_among [] number bit port e lt = absurd cc
word_among (first ∷ ports) zero bit port e lt =
    let same : first ≡ port = cc in
    Contains-append_left (bit_words first) (flat_map bit_words ports) (bit_word port bit) (subst (λ p. Contains (bit_words p) (bit_word port bit)) (sym same)
    (bit, subst (λ n. bit < n) (sym (length-map-range_with_len (bit_word port) 0 (width_of port.range))) lt, get_or-map-range_with_len (bit_word port) 0 (width_of port.range) bit bit (bit_word port bit) lt (omega arith)))
word_among (first ∷ ports) (suc number) bit port e lt = Contains-append_right (bit_words first) (flat_map bit_words ports) (bit_word port bit) (word_among ports number bit port e lt)

pub word_is : (cell : HCell) (number bit : ℕ) (port : HPort) → slice_get cell.ports number ≡ Some port → word_of cell (Port number bit) ≡ bit_word port bit
word_is cell number bit port e = ap (λ o. option_map_or (λ (p : HPort). bit_word p bit) o []) e

-- ---- the port of a port bit
pub port_within : (cell : HCell) (number bit : ℕ) (read : List HPort) → IsPortBit cell number bit → read ≡ cell.ports → number < length read
port_within cell number bit read is same = subst (λ l. number < length l) (sym same) (slice_get_within cell.ports number is.the_port is.is_there)

pub port_there : (cell : HCell) (number bit : ℕ) (read : List HPort) (port : HPort) → IsPortBit cell number bit → read ≡ cell.ports → port ≡ get_or read number port →
    (slice_get cell.ports number ≡ Some port) × (bit < width_of port.range) × Contains (port_words cell) (word_of cell (Port number bit))
port_there cell number bit read port is same at =
    let lt = slice_get_within cell.ports number is.the_port is.is_there in
    let there : slice_get cell.ports number ≡ Some port = slice_get_read cell.ports (length cell.ports) number port refl lt (at ∙ ap (λ l. get_or l number port) same) in
    let e : is.the_port ≡ port = (let f : Some is.the_port ≡ Some port = sym is.is_there ∙ there in cc) in
    let within : bit < width_of port.range = subst (λ (p : HPort). bit < width_of p.range) e is.within in
    (there, within, subst (Contains (port_words cell)) (sym (word_is cell number bit port there)) (word_among cell.ports number bit port there within))
