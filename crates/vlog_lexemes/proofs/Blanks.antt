-- Block comments, and bytes that are the same.
use Rattle.std.proofs.Common.{◌≡◌, ℕ, suc, ◌+◌, Bool, true, false, cond, eqb, ◌&&◌, List, [], ◌∷◌, ◌++◌, length, Result, Ok, Err, refl, sym, ap, ◌∙◌, inl, inr, arith}
use Rattle.std.specs.Prelude.{◌⊎◌}
use Rattle.std.proofs.lemmas.Bool.{eqb-true}
use Rattle.nl_base.specs.Case.{same_bytes}
use Rattle.nl_bytes.specs.Flaws.{Piece, Flaw}
use Rattle.vlog_tokens.specs.declared.item.Item.{Item}
use Rattle.vlog_tokens.specs.declared.item.Item.TheVariants.{Blank}
use Rattle.vlog_tokens.specs.Spelling.{comment_at}
use Rattle.vlog_lexemes.specs.Lexemes.{ends_comment, NoCommentEnd}

-- ---- the same bytes

and_true : (a b : Bool) → (a && b) ≡ true → (a ≡ true) × (b ≡ true)
and_true true b h = (refl, h)
and_true false b h = absurd cc

pub bytes_same : (xs ys : List ℕ) → same_bytes xs ys ≡ true → xs ≡ ys
bytes_same [] [] e = refl
bytes_same [] (y ∷ ys) e = absurd cc
bytes_same (x ∷ xs) [] e = absurd cc
bytes_same (x ∷ xs) (y ∷ ys) e =
    let two = and_true (eqb x y) (same_bytes xs ys) e in
    ap (λ (z : ℕ). z ∷ xs) (eqb-true x y two.0) ∙ ap (λ (z : List ℕ). y ∷ z) (bytes_same xs ys two.1)

-- ---- block comments

-- a `/` comes first
abbrev pub slash_first : List ℕ → Bool
slash_first [] = false
slash_first (b ∷ bs) = eqb b 47

pub ends_by : (b : ℕ) (bs : List ℕ) → eqb b 42 ≡ true → ends_comment b bs ≡ slash_first bs
ends_by b [] e = refl
ends_by b (c ∷ cs) e = rw e refl

pub ends_not : (b : ℕ) (bs : List ℕ) → eqb b 42 ≡ false → ends_comment b bs ≡ false
ends_not b [] e = refl
ends_not b (c ∷ cs) e = rw e refl

abbrev pub blank_of : ℕ → Result (Piece Item) Flaw
blank_of n = Ok (record { value = Blank; count = n; seen = n })

comment_ends : (star : Bool) (n : ℕ) (rest : List ℕ) → comment_at star n (42 ∷ 47 ∷ rest) ≡ blank_of (n + 1 + 1)
unfolding comment_at
comment_ends star n rest = refl

pub comment_star : (star : Bool) (n b : ℕ) (bs : List ℕ) → eqb b 42 ≡ true → comment_at star n (b ∷ bs) ≡ comment_at true (n + 1) bs
unfolding comment_at
comment_star star n b bs e = rw e refl

pub comment_other : (star : Bool) (n b : ℕ) (bs : List ℕ) → eqb b 42 ≡ false → (star && eqb b 47) ≡ false
    → comment_at star n (b ∷ bs) ≡ comment_at false (n + 1) bs
unfolding comment_at
comment_other star n b bs e f = rw (e, f) refl

pub no_close : (star : Bool) (t : Bool) → (star ≡ true → t ≡ false) → (star && t) ≡ false
no_close true t h = h refl
no_close false t h = refl

blank_by : (m n : ℕ) → m ≡ n → blank_of m ≡ blank_of n
blank_by m n e = ap blank_of e

slash_append : (bs : List ℕ) (b : ℕ) → slash_first (b ∷ bs) ≡ eqb b 47
slash_append bs b = refl

-- a comment that ends with the next `*/` is passed
pub comment_complete : (body : List ℕ) (star : Bool) (n : ℕ) (rest : List ℕ) → (star ≡ true → slash_first (body ++ 42 ∷ []) ≡ false)
    → NoCommentEnd (body ++ 42 ∷ []) → comment_at star n (body ++ 42 ∷ 47 ∷ rest) ≡ blank_of (n + length body + 2)
comment_complete [] star n rest first none = comment_ends star n rest ∙ blank_by (n + 1 + 1) (n + 0 + 2) (omega arith)
comment_complete (b ∷ bs) star n rest first none = by (eqb b 42) refl (λ s h. comment_complete bs s (n + 1) rest h none.1)
  where
    count : n + 1 + length bs + 2 ≡ n + suc (length bs) + 2
    count = omega arith

    by : (t : Bool) → eqb b 42 ≡ t
        → ((s : Bool) → (s ≡ true → slash_first (bs ++ 42 ∷ []) ≡ false) → comment_at s (n + 1) (bs ++ 42 ∷ 47 ∷ rest) ≡ blank_of (n + 1 + length bs + 2))
        → comment_at star n (b ∷ (bs ++ 42 ∷ 47 ∷ rest)) ≡ blank_of (n + suc (length bs) + 2)
    by true e others = comment_star star n b (bs ++ 42 ∷ 47 ∷ rest) e ∙ others true (λ _. sym (ends_by b (bs ++ 42 ∷ []) e) ∙ none.0)
        ∙ blank_by _ _ count
    by false e others = comment_other star n b (bs ++ 42 ∷ 47 ∷ rest) e (no_close star (eqb b 47) first) ∙ others false (λ f. absurd cc)
        ∙ blank_by _ _ count

-- the body of a comment, and what is behind its end
pub record InComment (n : ℕ) (bs : List ℕ) (piece : Piece Item) : Type 0 where
  pub body : List ℕ
  pub rest : List ℕ
  pub is_bytes : bs ≡ body ++ 42 ∷ 47 ∷ rest
  pub none : NoCommentEnd (body ++ 42 ∷ [])
  pub item : piece.value ≡ Blank
  pub count : piece.count ≡ n + length body + 2

-- a comment is closed by the next byte
record Closes (n : ℕ) (bs : List ℕ) (piece : Piece Item) : Type 0 where
  pub rest : List ℕ
  pub is_bytes : bs ≡ 47 ∷ rest
  pub item : piece.value ≡ Blank
  pub count : piece.count ≡ n + 1

abbrev Goal : Bool → ℕ → List ℕ → Piece Item → Type 0
Goal false n bs piece = InComment n bs piece
Goal true n bs piece = Closes n bs piece ⊎ ((c : InComment n bs piece) × (slash_first (c.body ++ 42 ∷ []) ≡ false))

split_cond : {P : Type 0} (t : Bool) (x y : Result (Piece Item) Flaw) (piece : Piece Item) → cond t x y ≡ Ok piece → (t ≡ true → x ≡ Ok piece → P)
    → (t ≡ false → y ≡ Ok piece → P) → P
split_cond {P} true x y piece e p q = p refl e
split_cond {P} false x y piece e p q = q refl e

star_row : (n b : ℕ) (bs : List ℕ) (piece : Piece Item) → eqb b 42 ≡ true → Goal true (n + 1) bs piece
    → (c : InComment n (b ∷ bs) piece) × (slash_first (c.body ++ 42 ∷ []) ≡ false)
star_row n b bs piece e (inl c) =
    let star : b ≡ 42 = eqb-true b 42 e in
    let here : InComment n (b ∷ bs) piece = record { body = []; rest = c.rest; is_bytes = ap (λ (z : ℕ). z ∷ bs) star ∙ ap (λ (z : List ℕ). 42 ∷ z) c.is_bytes; none = (refl, tt); item = c.item; count = omega (arith, c.count) } in
    (here, refl)
star_row n b bs piece e (inr c) =
    let star : b ≡ 42 = eqb-true b 42 e in
    let here : InComment n (b ∷ bs) piece = record {
      body = b ∷ c.0.body;
      rest = c.0.rest;
      is_bytes = ap (λ (z : List ℕ). b ∷ z) c.0.is_bytes;
      none = (ends_by b (c.0.body ++ 42 ∷ []) e ∙ c.1, c.0.none);
      item = c.0.item;
      count = omega (arith, c.0.count);
    } in (here, ap (λ (z : ℕ). eqb z 47) star)

other_row : (n b : ℕ) (bs : List ℕ) (piece : Piece Item) → eqb b 42 ≡ false → InComment (n + 1) bs piece → InComment n (b ∷ bs) piece
other_row n b bs piece e c = record {
  body = b ∷ c.body;
  rest = c.rest;
  is_bytes = ap (λ (z : List ℕ). b ∷ z) c.is_bytes;
  none = (ends_not b (c.body ++ 42 ∷ []) e, c.none);
  item = c.item;
  count = omega (arith, c.count);
}

either_star : (star : Bool) (n : ℕ) (bs : List ℕ) (piece : Piece Item) → (c : InComment n bs piece)
    → (star ≡ true → slash_first (c.body ++ 42 ∷ []) ≡ false) → Goal star n bs piece
either_star true n bs piece c h = inr (c, h refl)
either_star false n bs piece c h = c

closes_row : (star : Bool) (n b : ℕ) (bs : List ℕ) (piece : Piece Item) → (star && eqb b 47) ≡ true → blank_of (n + 1) ≡ Ok piece
    → Goal star n (b ∷ bs) piece
closes_row false n b bs piece e is = absurd cc
closes_row true n b bs piece e is = inl (record { rest = bs; is_bytes = ap (λ (z : ℕ). z ∷ bs) (eqb-true b 47 e); item = sym (ap item_of_piece is); count = sym (ap count_of is) })
  where
    item_of_piece : Result (Piece Item) Flaw → Item
    item_of_piece (Ok x) = x.value
    item_of_piece (Err f) = Blank

    count_of : Result (Piece Item) Flaw → ℕ
    count_of (Ok x) = x.count
    count_of (Err f) = 0

comment_sound : (bs : List ℕ) (star : Bool) (n : ℕ) (piece : Piece Item) → comment_at star n bs ≡ Ok piece → Goal star n bs piece
unfolding comment_at other_row
comment_sound [] star n piece e = absurd cc
comment_sound (b ∷ bs) star n piece e =
    split_cond {P = Goal star n (b ∷ bs) piece} (eqb b 42) _ _ piece e
    (λ is ok. let c = star_row n b bs piece is (comment_sound bs true (n + 1) piece ok) in either_star star n (b ∷ bs) piece c.0 (λ _. c.1))
    (λ no e. split_cond {P = Goal star n (b ∷ bs) piece} (star && eqb b 47) _ _ piece e
    (λ close ok. closes_row star n b bs piece close ok)
    (λ open_ ok. either_star star n (b ∷ bs) piece (other_row n b bs piece no (comment_sound bs false (n + 1) piece ok)) (λ is. not_slash star (eqb b 47) open_ is)))
  where
    not_slash : (s t : Bool) → (s && t) ≡ false → s ≡ true → t ≡ false
    not_slash true t h e = h
    not_slash false t h e = absurd cc

pub block_sound : (bs : List ℕ) (piece : Piece Item) → comment_at false 2 bs ≡ Ok piece → InComment 2 bs piece
block_sound bs piece e = comment_sound bs false 2 piece e
