-- What is still to be written, one item on.
use Rattle.std.proofs.Common.{◌≡◌, ℕ, ◌+◌, ◌<◌, ◌≤◌, Bool, true, false, List, [], ◌∷◌, length, get_or, drop, refl, sym, ap, ◌∙◌, arith, add-one, zero, suc, drop-cons}
use Rattle.edif_writer.specs.Layout.{Form, Forms, none, more, Block, inline, spaced, between, blank_where, each, all, laid, lines}

pub drop_past : {X : Type 0} (n : ℕ) (xs : List X) → length xs ≤ n → drop n xs ≡ []
drop_past zero [] h = refl
drop_past (suc n) [] h = refl
drop_past zero (x ∷ xs) h = absurd (omega arith)
drop_past (suc n) (x ∷ xs) h = drop_past n xs (omega arith)

-- the rest of a list, from an item on
pub item_next : {X : Type 0} (xs : List X) (n : ℕ) (x : X) → n < length xs → x ≡ get_or xs n x → drop n xs ≡ x ∷ drop (n + 1) xs
item_next {X} xs n x h e = drop-cons xs n x h ∙ (λ k. sym e k ∷ drop (sym (add-one n) k) xs)

pub spaced_next : {I : Type 0} (form : I → Form) (is : List I) (n : ℕ) (i : I) (rest : List ℕ) → n < length is → i ≡ get_or is n i → spaced (each form (drop n is)) rest ≡ 32 ∷ inline (form i) (spaced (each form (drop (n + 1) is)) rest)
spaced_next {I} form is n i rest h e = ap (λ (z : List I). spaced (each form z) rest) (item_next is n i h e)

pub spaced_end : {I : Type 0} (form : I → Form) (is : List I) (n : ℕ) (rest : List ℕ) → length is ≤ n → spaced (each form (drop n is)) rest ≡ rest
spaced_end {I} form is n rest h = ap (λ (z : List I). spaced (each form z) rest) (drop_past n is h)

pub lines_next : {I : Type 0} (m : ℕ) (block : I → Block) (is : List I) (n : ℕ) (i : I) (rest : List ℕ) → n < length is → i ≡ get_or is n i
    → lines m (all block (drop n is)) rest ≡ laid m (block i) (lines m (all block (drop (n + 1) is)) rest)
lines_next {I} m block is n i rest h e = ap (λ (z : List I). lines m (all block z) rest) (item_next is n i h e)

pub lines_end : {I : Type 0} (m : ℕ) (block : I → Block) (is : List I) (n : ℕ) (rest : List ℕ) → length is ≤ n → lines m (all block (drop n is)) rest ≡ rest
lines_end {I} m block is n rest h = ap (λ (z : List I). lines m (all block z) rest) (drop_past n is h)

between_cons : (p : Bool) (f : Form) (fs : Forms) (rest : List ℕ) → between p (more f fs) rest ≡ blank_where p (inline f (between true fs rest))
between_cons true f fs rest = refl
between_cons false f fs rest = refl

between_none : (p : Bool) (rest : List ℕ) → between p none rest ≡ rest
between_none true rest = refl
between_none false rest = refl

pub between_next : {I : Type 0} (form : I → Form) (p : Bool) (is : List I) (n : ℕ) (i : I) (rest : List ℕ) → n < length is → i ≡ get_or is n i
    → between p (each form (drop n is)) rest ≡ blank_where p (inline (form i) (between true (each form (drop (n + 1) is)) rest))
between_next {I} form p is n i rest h e =
    ap (λ (z : List I). between p (each form z) rest) (item_next is n i h e) ∙ between_cons p (form i) (each form (drop (n + 1) is)) rest

pub between_end : {I : Type 0} (form : I → Form) (p : Bool) (is : List I) (n : ℕ) (rest : List ℕ) → length is ≤ n → between p (each form (drop n is)) rest ≡ rest
between_end {I} form p is n rest h = ap (λ (z : List I). between p (each form z) rest) (drop_past n is h) ∙ between_none p rest
