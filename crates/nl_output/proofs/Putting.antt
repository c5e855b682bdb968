-- A put in the course of a text.
use Rattle.std.proofs.Common.{◌≡◌, ℕ, ◌+◌, ◌≤◌, ◌<◌, List, [], ◌++◌, take, drop, length, Option, Some, None, refl, sym, ap, ◌∙◌, subst, append_assoc, length-append, length-drop, arith, Bool, true, false}
use Rattle.std.specs.Prelude.{IfSome, IsNone}
use Rattle.std.proofs.lemmas.List.{take-append-drop}
use Rattle.nl_io.specs.Causes.{Rose}
use Rattle.nl_io.specs.Sinks.{Gains, Receipt}
use Rattle.nl_output.specs.Writing.{Held, Puts}

-- what a sink took grows by the bytes that it gains
took_more : (taken taken' : List ℕ → Type 0) (front done : List ℕ) (known : Option (List ℕ)) → Gains taken taken' front
    → IfSome known (λ before. taken (before ++ done)) → IfSome known (λ before. taken' (before ++ (done ++ front)))
took_more taken taken' front done None gains took = tt
took_more taken taken' front done (Some before) gains took = subst taken' (append_assoc before done front) (gains (before ++ done) took)

-- what a sink was known to accept falls by the bytes that it took
accepts_rest : (accepts accepts' : ℕ → Type 0) (bytes rest : List ℕ) (spare : Option ℕ) → ((n : ℕ) → accepts (length bytes + n) → accepts' n)
    → IfSome spare (λ n. accepts (length (bytes ++ rest) + n)) → IfSome spare (λ n. accepts' (length rest + n))
accepts_rest accepts accepts' bytes rest None falls h = tt
accepts_rest accepts accepts' bytes rest (Some n) falls h =
    let same : length (bytes ++ rest) + n ≡ length bytes + (length rest + n) = omega (arith, length-append bytes rest) in
    falls (length rest + n) (subst accepts same h)

-- a sink that failed was not known to accept the bytes
not_known : (accepts : ℕ → Type 0) (bytes rest : List ℕ) (spare : Option ℕ) → ((n : ℕ) → accepts (length bytes + n) → ⊥)
    → IfSome spare (λ n. accepts (length (bytes ++ rest) + n)) → IsNone spare
not_known accepts bytes rest None never h = refl
not_known accepts bytes rest (Some n) never h =
    let same : length (bytes ++ rest) + n ≡ length bytes + (length rest + n) = omega (arith, length-append bytes rest) in
    absurd (never (length rest + n) (subst accepts same h))

later_rose : (a b c : ℕ) → a ≤ b → Rose b c → Rose a c
later_rose a b c h r = omega arith

some_lost : (n : ℕ) (bytes rest : List ℕ) → n < length bytes → 0 < length (drop n bytes ++ rest)
some_lost n bytes rest lt = omega (arith, length-append (drop n bytes) rest, length-drop n bytes)

abbrev empty : Bool → Held
empty failed = record { bytes = []; failed = failed }

-- all the bytes were put
pub put_whole : (before after : Receipt) (bytes : List ℕ)
    → Gains before.taken after.taken bytes → before.faults ≤ after.faults → ((n : ℕ) → before.accepts (length bytes + n) → after.accepts n)
    → Puts (λ rest. bytes ++ rest) (record { sink = before; held = empty false }) (record { sink = after; held = empty false })
put_whole before after bytes gains later falls b rest s = record {
  done = s.done ++ bytes;
  parts = s.parts ∙ sym (append_assoc s.done bytes rest);
  took = took_more before.taken after.taken bytes s.done b.taken gains s.took;
  later = omega (arith, later, s.later);
  spare = accepts_rest before.accepts after.accepts bytes rest b.spare falls s.spare;
}

-- the sink failed in the course of the bytes
pub put_front : (before after : Receipt) (bytes : List ℕ) (n : ℕ)
    → n < length bytes → Gains before.taken after.taken (take n bytes) → before.faults ≤ after.faults → Rose before.faults after.faults → ((n : ℕ) → before.accepts (length bytes + n) → ⊥)
    → Puts (λ rest. bytes ++ rest) (record { sink = before; held = empty false }) (record { sink = after; held = empty true })
put_front before after bytes n lt gains later rose never b rest s = record {
  done = s.done ++ take n bytes;
  lost = drop n bytes ++ rest;
  parts = s.parts ∙ ap (λ (z : List ℕ). s.done ++ (z ++ rest)) (sym (take-append-drop n bytes)) ∙ ap (λ (z : List ℕ). s.done ++ z) (append_assoc (take n bytes) (drop n bytes) rest) ∙ sym (append_assoc s.done (take n bytes) (drop n bytes ++ rest));
  short = some_lost n bytes rest lt;
  took = took_more before.taken after.taken (take n bytes) s.done b.taken gains s.took;
  later = omega (arith, later, s.later);
  rose = later_rose b.faults before.faults after.faults s.later rose;
  unsure = not_known before.accepts bytes rest b.spare never s.spare;
}
