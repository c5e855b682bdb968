-- A written string, a run of bytes that stand for themselves on.
use Rattle.std.proofs.Common.{◌≡◌, ℕ, ◌+◌, Bool, true, false, List, [], ◌∷◌, ◌++◌, length, take, drop, refl, sym, ap, ◌∙◌, arith, suc}
use Rattle.std.specs.List.{prefix_len}
use Rattle.vlog_writer.specs.Spelling.{is_plain, string_byte, written}

one_more : (n : ℕ) → 1 + n ≡ suc n
one_more n = omega arith

plains_yes : (b : ℕ) (bs : List ℕ) → is_plain b ≡ true → prefix_len is_plain (b ∷ bs) ≡ suc (prefix_len is_plain bs)
plains_yes b bs h = rw h (one_more (prefix_len is_plain bs))

plains_no : (b : ℕ) (bs : List ℕ) → is_plain b ≡ false → prefix_len is_plain (b ∷ bs) ≡ 0
plains_no b bs h = rw h refl

plain_byte : (b : ℕ) (bs rest : List ℕ) → is_plain b ≡ true → written (b ∷ bs) rest ≡ b ∷ written bs rest
unfolding string_byte
plain_byte b bs rest h = rw h refl

-- the bytes in front that stand for themselves are written as they are
pub plain_part : (s rest : List ℕ) → written s rest ≡ take (prefix_len is_plain s) s ++ written (drop (prefix_len is_plain s) s) rest
plain_part [] rest = refl
plain_part (b ∷ bs) rest = by_first (is_plain b) refl (plain_part bs rest)
  where
    by_first : (w : Bool) → is_plain b ≡ w → written bs rest ≡ take (prefix_len is_plain bs) bs ++ written (drop (prefix_len is_plain bs) bs) rest
        → written (b ∷ bs) rest ≡ take (prefix_len is_plain (b ∷ bs)) (b ∷ bs) ++ written (drop (prefix_len is_plain (b ∷ bs)) (b ∷ bs)) rest
    by_first true h more =
        plain_byte b bs rest h ∙ ap (λ (z : List ℕ). b ∷ z) more ∙ sym (ap (λ (n : ℕ). take n (b ∷ bs) ++ written (drop n (b ∷ bs)) rest) (plains_yes b bs h))
    by_first false h more = sym (ap (λ (n : ℕ). take n (b ∷ bs) ++ written (drop n (b ∷ bs)) rest) (plains_no b bs h))

pub run_next : (s front behind rest : List ℕ) → front ≡ take (prefix_len is_plain s) s → behind ≡ drop (prefix_len is_plain s) s → written s rest ≡ front ++ written behind rest
run_next s front behind rest f b = rw (f, b) (plain_part s rest)

-- no byte is left of a string
pub string_end : (s rest : List ℕ) → length s ≡ 0 → written s rest ≡ 34 ∷ rest
string_end [] rest h = refl
string_end (b ∷ bs) rest h = absurd (omega arith)
