-- The bits of the ports and nets of a table, counted one after the other.
use Rattle.std.proofs.Common.{◌≡◌, ℕ, ◌+◌, ◌<◌, ◌≤◌, List, [], ◌∷◌, ap, arith, get_or, length, min, slice_get, sum_by, take, ◌∙◌}
use Rattle.std.specs.Option.{option_map_or}
use Rattle.std.proofs.lemmas.List.{take_all}
use Rattle.std.proofs.lemmas.List.Sums.{sum_by_more}
use Rattle.std.proofs.lemmas.Option.{slice_get-get_or}
use Rattle.vlog_design.specs.Names.{Signal}
use Rattle.vlog_ties.specs.Ties.{signal_width}

-- the bits of one more port or net
pub bits_more : (table : List Signal) (i : ℕ) (limit bits more : ℕ) → i < length table → bits ≡ min limit (sum_by signal_width (take i table)) → more ≡ option_map_or signal_width (slice_get table i) 0
    → min (bits + more) limit ≡ min limit (sum_by signal_width (take (i + 1) table))
bits_more table i limit bits more lt are is = by table lt are is
  where
    by : (table : List Signal) → i < length table → bits ≡ min limit (sum_by signal_width (take i table)) → more ≡ option_map_or signal_width (slice_get table i) 0 → min (bits + more) limit ≡ min limit (sum_by signal_width (take (i + 1) table))
    by [] lt are is = absurd (omega arith)
    by (d ∷ rest) lt are is =
        let e : more ≡ signal_width (get_or (d ∷ rest) i d) = is ∙ ap (λ o. option_map_or signal_width o 0) (slice_get-get_or (d ∷ rest) i d lt) in
        let f : sum_by signal_width (take (i + 1) (d ∷ rest)) ≡ sum_by signal_width (take i (d ∷ rest)) + signal_width (get_or (d ∷ rest) i d) = sum_by_more signal_width (d ∷ rest) i d lt in
        grind arith

-- the bits of all ports and nets
pub bits_done : (table : List Signal) (i limit bits : ℕ) → length table ≤ i → bits ≡ min limit (sum_by signal_width (take i table)) → bits ≡ min limit (sum_by signal_width table)
bits_done table i limit bits le are = are ∙ ap (λ those. min limit (sum_by signal_width those)) (take_all i table le)
