-- What one put after another gains.
use Rattle.std.proofs.Common.{ℕ, ◌+◌, List, [], ◌++◌, take, drop, subst, sym, append_assoc, append-nil}
use Rattle.std.proofs.Math.Seq.{take-add}
use Rattle.nl_io.specs.Sinks.{Gains}

pub Gains-nil : (a : List ℕ → Type 0) → Gains a a []
Gains-nil a bs h = subst a (sym (append-nil bs)) h

pub Gains-trans : (a b c : List ℕ → Type 0) (xs ys : List ℕ) → Gains a b xs → Gains b c ys → Gains a c (xs ++ ys)
Gains-trans a b c xs ys p q bs h = subst c (append_assoc bs xs ys) (q (bs ++ xs) (p bs h))

-- after the first n bytes the next k were gained
pub Gains-more : (a b c : List ℕ → Type 0) (bytes : List ℕ) (n k : ℕ) → Gains a b (take n bytes) → Gains b c (take k (drop n bytes)) → Gains a c (take (n + k) bytes)
Gains-more a b c bytes n k p q = subst (Gains a c) (sym (take-add n k bytes)) (Gains-trans a b c (take n bytes) (take k (drop n bytes)) p q)
