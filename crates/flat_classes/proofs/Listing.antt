-- the list of terminals, one after the other
use Rattle.std.proofs.Common.{◌≡◌, ℕ, zero, suc, ◌+◌, List, [], ◌∷◌, ◌++◌, sym, ◌∙◌, ap, slice_get, map, Some, take, append_assoc, arith}
use Rattle.std.specs.List.{range_with_len}
use Rattle.std.proofs.lemmas.List.{append-nil}
use Rattle.net_hier.specs.Cells.{width_of}
use Rattle.net_hier.specs.declared.cells.HPort.{HPort}
use Rattle.flat_classes.specs.Terminals.{bits_of_ports}
use Rattle.flat_numbers.proofs.Reading.{map_last, range_last}

pub bits_last : {A : Type 0} (make : ℕ → A) (n : ℕ) → map make (range_with_len 0 (n + 1)) ≡ map make (range_with_len 0 n) ++ make n ∷ []
bits_last make n = let z : 0 + n ≡ n = omega arith in ap (map make) (range_last 0 n ∙ ap (λ w. range_with_len 0 n ++ w ∷ []) z) ∙ map_last make (range_with_len 0 n) n

pub ports_last : {A : Type 0} (make : ℕ → ℕ → A) (first : ℕ) (ports : List HPort) (i : ℕ) (port : HPort) → slice_get ports i ≡ Some port →
    bits_of_ports make first (take (i + 1) ports) ≡ bits_of_ports make first (take i ports) ++ map (make (first + i)) (range_with_len 0 (width_of port.range))
ports_last make first [] i port e = absurd (cc)
ports_last make first (p ∷ ports) zero port e =
    let same : p ≡ port = cc in
    let z : first ≡ first + 0 = omega arith in
    append-nil (map (make first) (range_with_len 0 (width_of p.range))) ∙ (ap (λ (w : HPort). map (make first) (range_with_len 0 (width_of w.range))) same ∙ ap (λ n. map (make n) (range_with_len 0 (width_of port.range))) z)
ports_last make first (p ∷ ports) (suc i) port e =
    let z : suc i + 1 ≡ suc (i + 1) = omega arith in
    let y : suc first + i ≡ first + suc i = omega arith in
    ap (λ n. bits_of_ports make first (take n (p ∷ ports))) z
    ∙ (ap (λ w. map (make first) (range_with_len 0 (width_of p.range)) ++ w) (ports_last make (suc first) ports i port e ∙ ap (λ n. bits_of_ports make (suc first) (take i ports) ++ map (make n) (range_with_len 0 (width_of port.range))) y)
    ∙ sym (append_assoc (map (make first) (range_with_len 0 (width_of p.range))) (bits_of_ports make (suc first) (take i ports)) (map (make (first + suc i)) (range_with_len 0 (width_of port.range)))))

pub bits_step : {A : Type 0} (make : ℕ → A) (old now more : List A) (n : ℕ) → now ≡ old ++ map make (range_with_len 0 n) → more ≡ now ++ make n ∷ [] → more ≡ old ++ map make (range_with_len 0 (n + 1))
bits_step make old now more n e f = f ∙ (ap (λ w. w ++ make n ∷ []) e ∙ (append_assoc old (map make (range_with_len 0 n)) (make n ∷ []) ∙ ap (λ w. old ++ w) (sym (bits_last make n))))

pub ports_step : {A : Type 0} (make : ℕ → ℕ → A) (ports : List HPort) (old now more : List A) (i : ℕ) (port : HPort) → slice_get ports i ≡ Some port → now ≡ old ++ bits_of_ports make 0 (take i ports) →
    more ≡ now ++ map (make i) (range_with_len 0 (width_of port.range)) → more ≡ old ++ bits_of_ports make 0 (take (i + 1) ports)
ports_step make ports old now more i port there e f =
    let z : 0 + i ≡ i = omega arith in
    let s : bits_of_ports make 0 (take (i + 1) ports) ≡ bits_of_ports make 0 (take i ports) ++ map (make i) (range_with_len 0 (width_of port.range)) = ports_last make 0 ports i port there ∙ ap (λ n. bits_of_ports make 0 (take i ports) ++ map (make n) (range_with_len 0 (width_of port.range))) z in
    f ∙ (ap (λ w. w ++ map (make i) (range_with_len 0 (width_of port.range))) e ∙ (append_assoc old (bits_of_ports make 0 (take i ports)) (map (make i) (range_with_len 0 (width_of port.range))) ∙ ap (λ w. old ++ w) (sym s)))
