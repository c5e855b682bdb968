-- The begin of a line, cut from one at the greatest indent.
use Rattle.std.proofs.Common.{◌≡◌, ℕ, ◌+◌, ◌-◌, ◌≤◌, List, ◌++◌, drop, zero, suc, ap, ◌∙◌, arith, append_assoc}
use Rattle.edif_writer.specs.Layout.{blanks}

cut : (m n k : ℕ) (w rest : List ℕ) → k ≡ m + n → drop m (blanks k ++ w) ++ rest ≡ blanks n ++ (w ++ rest)
cut zero n k w rest e = append_assoc (blanks k) w rest ∙ ap (λ (i : ℕ). blanks i ++ (w ++ rest)) (omega (arith, e))
cut (suc m) n zero w rest e = absurd (omega (arith, e))
cut (suc m) n (suc k) w rest e = cut m n k w rest (omega (arith, e))

pub front : (indent : ℕ) (w rest : List ℕ) → indent ≤ 16 → drop (16 - indent) (blanks 16 ++ w) ++ rest ≡ blanks indent ++ (w ++ rest)
front indent w rest h = cut (16 - indent) indent 16 w rest (omega (arith, h))
