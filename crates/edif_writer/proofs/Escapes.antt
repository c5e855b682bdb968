-- A written string, a run of bytes that stand for themselves and an escape on.
use Rattle.std.proofs.Common.{◌≡◌, ℕ, ◌+◌, ◌<◌, ◌≤◌, Bool, true, false, List, [], ◌∷◌, ◌++◌, length, take, drop, refl, sym, ap, ◌∙◌, arith, suc, length-drop, get_or, drop-cons, add-one}
use Rattle.std.specs.Prelude.{decimal, not}
use Rattle.std.specs.List.{prefix_len}
use Rattle.edif_writer.proofs.Steps.{drop_past}
use Rattle.edif_writer.specs.Strings.{is_plain, written, codes_text, escape_text}

-- how many bytes from the front on stand for themselves, and how many do not
abbrev pub plains : List ℕ → ℕ
plains s = prefix_len is_plain s

abbrev pub others : List ℕ → ℕ
others s = prefix_len (λ b. not (is_plain b)) s

one_more : (n : ℕ) → 1 + n ≡ suc n
one_more n = omega arith

plains_yes : (b : ℕ) (bs : List ℕ) → is_plain b ≡ true → plains (b ∷ bs) ≡ suc (plains bs)
plains_yes b bs h = rw h (one_more (plains bs))

plains_no : (b : ℕ) (bs : List ℕ) → is_plain b ≡ false → plains (b ∷ bs) ≡ 0
plains_no b bs h = rw h refl

others_yes : (b : ℕ) (bs : List ℕ) → is_plain b ≡ false → others (b ∷ bs) ≡ suc (others bs)
others_yes b bs h = rw h (one_more (others bs))

others_no : (b : ℕ) (bs : List ℕ) → is_plain b ≡ true → others (b ∷ bs) ≡ 0
others_no b bs h = rw h refl

written_plain : (b : ℕ) (bs rest : List ℕ) → is_plain b ≡ true → written false (b ∷ bs) rest ≡ b ∷ written false bs rest
unfolding written
written_plain b bs rest h = rw h refl

written_other : (b : ℕ) (bs rest : List ℕ) → is_plain b ≡ false → written false (b ∷ bs) rest ≡ 37 ∷ (decimal b ++ written true bs rest)
unfolding written
written_other b bs rest h = rw h refl

closed_plain : (b : ℕ) (bs rest : List ℕ) → is_plain b ≡ true → written true (b ∷ bs) rest ≡ 37 ∷ b ∷ written false bs rest
unfolding written
closed_plain b bs rest h = rw h refl

further_other : (b : ℕ) (bs rest : List ℕ) → is_plain b ≡ false → written true (b ∷ bs) rest ≡ 32 ∷ (decimal b ++ written true bs rest)
unfolding written
further_other b bs rest h = rw h refl

pub written_end : (rest : List ℕ) → written false [] rest ≡ 34 ∷ rest
unfolding written
written_end rest = refl

closed_end : (rest : List ℕ) → written true [] rest ≡ 37 ∷ written false [] rest
unfolding written
closed_end rest = refl

plain_part : (s rest : List ℕ) → written false s rest ≡ take (plains s) s ++ written false (drop (plains s) s) rest
plain_part [] rest = refl
plain_part (b ∷ bs) rest = by_first (is_plain b) refl (plain_part bs rest)
  where
    by_first : (w : Bool) → is_plain b ≡ w → written false bs rest ≡ take (plains bs) bs ++ written false (drop (plains bs) bs) rest
        → written false (b ∷ bs) rest ≡ take (plains (b ∷ bs)) (b ∷ bs) ++ written false (drop (plains (b ∷ bs)) (b ∷ bs)) rest
    by_first true h more =
        written_plain b bs rest h ∙ ap (λ (z : List ℕ). b ∷ z) more ∙ sym (ap (λ (n : ℕ). take n (b ∷ bs) ++ written false (drop n (b ∷ bs)) rest) (plains_yes b bs h))
    by_first false h more = sym (ap (λ (n : ℕ). take n (b ∷ bs) ++ written false (drop n (b ∷ bs)) rest) (plains_no b bs h))

codes_part : (s rest : List ℕ) → written true s rest ≡ codes_text (take (others s) s) (37 ∷ written false (drop (others s) s) rest)
codes_part [] rest = closed_end rest
codes_part (b ∷ bs) rest = by_first (is_plain b) refl (codes_part bs rest)
  where
    by_first : (w : Bool) → is_plain b ≡ w → written true bs rest ≡ codes_text (take (others bs) bs) (37 ∷ written false (drop (others bs) bs) rest)
        → written true (b ∷ bs) rest ≡ codes_text (take (others (b ∷ bs)) (b ∷ bs)) (37 ∷ written false (drop (others (b ∷ bs)) (b ∷ bs)) rest)
    by_first true h more =
        closed_plain b bs rest h ∙ ap (λ (z : List ℕ). 37 ∷ z) (sym (written_plain b bs rest h))
        ∙ sym (ap (λ (n : ℕ). codes_text (take n (b ∷ bs)) (37 ∷ written false (drop n (b ∷ bs)) rest)) (others_no b bs h))
    by_first false h more =
        further_other b bs rest h ∙ ap (λ (z : List ℕ). 32 ∷ (decimal b ++ z)) more
        ∙ sym (ap (λ (n : ℕ). codes_text (take n (b ∷ bs)) (37 ∷ written false (drop n (b ∷ bs)) rest)) (others_yes b bs h))

escape_part : (s rest : List ℕ) → written false s rest ≡ escape_text (take (others s) s) (written false (drop (others s) s) rest)
escape_part [] rest = refl
escape_part (b ∷ bs) rest = by_first (is_plain b) refl
  where
    by_first : (w : Bool) → is_plain b ≡ w → written false (b ∷ bs) rest ≡ escape_text (take (others (b ∷ bs)) (b ∷ bs)) (written false (drop (others (b ∷ bs)) (b ∷ bs)) rest)
    by_first true h = sym (ap (λ (n : ℕ). escape_text (take n (b ∷ bs)) (written false (drop n (b ∷ bs)) rest)) (others_no b bs h))
    by_first false h =
        written_other b bs rest h ∙ ap (λ (z : List ℕ). 37 ∷ (decimal b ++ z)) (codes_part bs rest)
        ∙ sym (ap (λ (n : ℕ). escape_text (take n (b ∷ bs)) (written false (drop n (b ∷ bs)) rest)) (others_yes b bs h))

-- what is written of a string: the bytes in front that stand for themselves, an escape of those behind them that do not, and what is written of the rest
pub run_next : (s front behind codes left rest : List ℕ) → front ≡ take (plains s) s → behind ≡ drop (plains s) s → codes ≡ take (others behind) behind → left ≡ drop (others behind) behind
    → written false s rest ≡ front ++ escape_text codes (written false left rest)
run_next s front behind codes left rest f b c l =
    plain_part s rest ∙ ap (λ (z : List ℕ). take (plains s) s ++ written false z rest) (sym b) ∙ ap (λ (z : List ℕ). z ++ written false behind rest) (sym f)
    ∙ ap (λ (z : List ℕ). front ++ z) (escape_part behind rest) ∙ ap (λ (z : List ℕ). front ++ escape_text z (written false (drop (others behind) behind) rest)) (sym c)
    ∙ ap (λ (z : List ℕ). front ++ escape_text codes (written false z rest)) (sym l)

some_run : (b : ℕ) (bs : List ℕ) → 0 < plains (b ∷ bs) + others (drop (plains (b ∷ bs)) (b ∷ bs))
some_run b bs = by_first (is_plain b) refl
  where
    by_first : (w : Bool) → is_plain b ≡ w → 0 < plains (b ∷ bs) + others (drop (plains (b ∷ bs)) (b ∷ bs))
    by_first true h = omega (arith, plains_yes b bs h)
    by_first false h =
        let none : plains (b ∷ bs) + others (drop (plains (b ∷ bs)) (b ∷ bs)) ≡ 0 + others (b ∷ bs) = ap (λ (n : ℕ). n + others (drop n (b ∷ bs))) (plains_no b bs h) in
        omega (arith, none, others_yes b bs h)

shorter : (n m : ℕ) (s : List ℕ) → 0 < length s → 0 < n + m → length (drop m (drop n s)) < length s
shorter n m s some run = omega (arith, length-drop m (drop n s), length-drop n s)

-- such a step leaves fewer bytes
pub run_shortens : (s behind left : List ℕ) → 0 < length s → behind ≡ drop (plains s) s → left ≡ drop (others behind) behind → length left < length s
run_shortens [] behind left some b l = absurd (omega arith)
run_shortens (b ∷ bs) behind left some is l =
    let e : length left ≡ length (drop (others (drop (plains (b ∷ bs)) (b ∷ bs))) (drop (plains (b ∷ bs)) (b ∷ bs))) =
    ap (λ (z : List ℕ). length z) l ∙ ap (λ (z : List ℕ). length (drop (others z) z)) is in
    let few = shorter (plains (b ∷ bs)) (others (drop (plains (b ∷ bs)) (b ∷ bs))) (b ∷ bs) some (some_run b bs) in
    omega (arith, e, few)

-- the codes from one on
pub codes_next : (s : List ℕ) (i c : ℕ) (rest : List ℕ) → i < length s → c ≡ get_or s i 0 → codes_text (drop i s) rest ≡ 32 ∷ (decimal c ++ codes_text (drop (i + 1) s) rest)
codes_next s i c rest h e = ap (λ (z : List ℕ). codes_text z rest) (drop-cons s i 0 h ∙ (λ k. sym e k ∷ drop (sym (add-one i) k) s))

pub codes_end : (s : List ℕ) (i : ℕ) (rest : List ℕ) → length s ≤ i → codes_text (drop i s) rest ≡ rest
codes_end s i rest h = ap (λ (z : List ℕ). codes_text z rest) (drop_past i s h)

-- no byte is left of a string
pub string_end : (s rest : List ℕ) → length s ≡ 0 → written false s rest ≡ 34 ∷ rest
string_end [] rest h = written_end rest
string_end (b ∷ bs) rest h = absurd (omega arith)
