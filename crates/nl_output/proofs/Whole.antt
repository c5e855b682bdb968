-- A whole text that was put through an output.
use Rattle.std.proofs.Common.{◌≡◌, ℕ, ◌+◌, ◌<◌, List, [], ◌++◌, take, length, Option, Some, None, Result, Ok, Err, refl, sym, ap, ◌∙◌, subst, append-nil, length-append, arith, true, false, zero-add}
use Rattle.std.specs.Prelude.{IfSome}
use Rattle.std.proofs.Math.Seq.{take-append_seam}
use Rattle.nl_io.specs.Sinks.{Receipt}
use Rattle.nl_io.specs.declared.source.Failed.{Failed}
use Rattle.nl_output.specs.Writing.{nothing, State, state, Begin, Stands, Puts, Finishes, Writes}

abbrev begin_of : Option (List ℕ) → ℕ → List ℕ → Option ℕ → Begin
begin_of taken faults whole spare = record { taken = taken; faults = faults; whole = whole; spare = spare }

took_nothing : (taken : List ℕ → Type 0) (known : Option (List ℕ)) → IfSome known taken → IfSome known (λ before. taken (before ++ []))
took_nothing taken None h = tt
took_nothing taken (Some before) h = subst taken (sym (append-nil before)) h

-- at the begin of a text
at_begin : {O : Type 0} (receipt : O → Receipt) (old : O) (known : Option (List ℕ)) (text : List ℕ) (spare : Option ℕ)
    → IfSome known (λ before. (receipt old).taken before) → IfSome spare (λ n. (receipt old).accepts (length text + n))
    → Stands (begin_of known (receipt old).faults text spare) (state receipt old nothing) text
at_begin receipt old known text spare told sure = record { done = []; parts = refl; took = took_nothing (receipt old).taken known told; later = omega arith; spare = sure }

front_of : (done lost text : List ℕ) → text ≡ done ++ lost → take (length done) text ≡ done
front_of done lost text is = ap (λ (z : List ℕ). take (length done) z) is ∙ take-append_seam done lost

shorter : (done lost text : List ℕ) → text ≡ done ++ lost → 0 < length lost → length done < length text
shorter done lost text is some = omega (arith, ap (λ (z : List ℕ). length z) is, length-append done lost)

-- a text that was put through an output, from its begin to its end, was written
pub writes_whole : {O : Type 0} (receipt : O → Receipt) (old new : O) (mid : State) (text : List ℕ → List ℕ) (result : Result (Unit {0}) Failed)
    → Puts text (state receipt old nothing) mid → Finishes mid (state receipt new nothing) result → Writes receipt old new (text []) result
writes_whole receipt old new mid text (Ok u) puts ends =
    let plain = ends (begin_of None (receipt old).faults (text []) None) (puts (begin_of None (receipt old).faults (text []) None) [] (at_begin receipt old None (text []) None tt tt)) in
    record {
      all = λ before h.
          let w = ends (begin_of (Some before) (receipt old).faults (text []) None) (puts (begin_of (Some before) (receipt old).faults (text []) None) [] (at_begin receipt old (Some before) (text []) None h tt)) in
          subst (λ (z : List ℕ). (receipt new).taken (before ++ z)) (sym (w.parts ∙ append-nil w.done)) w.took;
      front = tt;
      cause = record { later = plain.later; failed = tt };
      accepted = λ n h.
          let w = ends (begin_of None (receipt old).faults (text []) (Some n)) (puts (begin_of None (receipt old).faults (text []) (Some n)) [] (at_begin receipt old None (text []) (Some n) tt h)) in
          (refl, subst (receipt new).accepts (zero-add n) w.spare);
    }
writes_whole receipt old new mid text (Err e) puts ends =
    let plain = ends (begin_of None (receipt old).faults (text []) None) (puts (begin_of None (receipt old).faults (text []) None) [] (at_begin receipt old None (text []) None tt tt)) in
    record {
      all = tt;
      front = λ before h.
          let w = ends (begin_of (Some before) (receipt old).faults (text []) None) (puts (begin_of (Some before) (receipt old).faults (text []) None) [] (at_begin receipt old (Some before) (text []) None h tt)) in
          (length w.done, shorter w.done w.lost (text []) w.parts w.short, subst (λ (z : List ℕ). (receipt new).taken (before ++ z)) (sym (front_of w.done w.lost (text []) w.parts)) w.took);
      cause = record { later = plain.later; failed = plain.rose };
      accepted = λ n h.
          let w = ends (begin_of None (receipt old).faults (text []) (Some n)) (puts (begin_of None (receipt old).faults (text []) (Some n)) [] (at_begin receipt old None (text []) (Some n) tt h)) in
          let none : true ≡ false = w.unsure in
          absurd (cc none);
    }
