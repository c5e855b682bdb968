-- `range_form` answers the base and the range exactly where a text has the range form, so a text has it in one way at most.
use Rattle.std.proofs.Common.{◌≡◌, ℕ, ◌+◌, ◌<◌, ◌^◌, ◌==◌, Bool, true, false, if◌then◌else◌, List, [], ◌∷◌, ◌++◌, take, length, Option, Some, None, option_map, ◌≤◌, length-append, ℤ, refl, sym, ◌∙◌, ap, subst, eq-eqb, append_assoc, arith}
use Rattle.std.specs.Prelude.{nat_abs, IfSome, IfNone}
use Rattle.std.specs.Option.{option_and_then}
use Rattle.std.specs.Fmt.{signed_decimal}
use Rattle.std.proofs.lemmas.Bool.{ne_eqb, eqb-true}
use Rattle.std.proofs.Math.Seq.{take-append_seam}
use Rattle.nl_base.specs.Ranges.{Bounds, Bracket, square, angle, round, opening, closing, bracketed, range_bits, HasRangeForm, HasNoRangeForm}
use Rattle.nl_base.specs.RangeForm.{IsFreeOf, cut_at_first, cut_at_last, cut_at_end, opening_of, opened_range, range_form, sized_range, spelled_index, spelled_range}
use Rattle.nl_base.proofs.Cuts.{free-append, cut_first-at, cut_last-at, cut_end-at, cut_first-is, cut_last-is, cut_end-is, option_and_then-Some, option_map-Some}
use Rattle.nl_base.proofs.Indexes.{free-signed_decimal, spelled_index-signed_decimal, spelled_index-is}

opening_of-closing : (k : Bracket) → opening_of (closing k) ≡ Some (opening k)
opening_of-closing square = refl
opening_of-closing angle = refl
opening_of-closing round = refl

bracket_of : (byte b : ℕ) → opening_of byte ≡ Some b → (k : Bracket) × (opening k ≡ b) × (closing k ≡ byte)
bracket_of byte b e = go (byte == 93) refl (byte == 62) refl (byte == 41) refl e
  where
    go : (t : Bool) → (byte == 93) ≡ t → (u : Bool) → (byte == 62) ≡ u → (v : Bool) → (byte == 41) ≡ v
        → (if t then Some 91 else (if u then Some 60 else (if v then Some 40 else None))) ≡ Some b → (k : Bracket) × (opening k ≡ b) × (closing k ≡ byte)
    go true t u f v g h = (square, cc, sym (eqb-true byte 93 t))
    go false t true f v g h = (angle, cc, sym (eqb-true byte 62 f))
    go false t false f true g h = (round, cc, sym (eqb-true byte 41 g))
    go false t false f false g h = absurd cc

-- no digit and no `-` is a bracket or a colon
digit_is_no_bracket : (k : Bracket) (d : ℕ) → d < 10 → (48 + d == opening k) ≡ false
digit_is_no_bracket square d small = ne_eqb (48 + d) 91 (λ e. omega (arith, e, small))
digit_is_no_bracket angle d small = ne_eqb (48 + d) 60 (λ e. omega (arith, e, small))
digit_is_no_bracket round d small = ne_eqb (48 + d) 40 (λ e. omega (arith, e, small))

minus_is_no_bracket : (k : Bracket) → (45 == opening k) ≡ false
minus_is_no_bracket square = refl
minus_is_no_bracket angle = refl
minus_is_no_bracket round = refl

colon_is_no_bracket : (k : Bracket) → (58 == opening k) ≡ false
colon_is_no_bracket square = refl
colon_is_no_bracket angle = refl
colon_is_no_bracket round = refl

digit_is_no_colon : (d : ℕ) → d < 10 → (48 + d == 58) ≡ false
digit_is_no_colon d small = ne_eqb (48 + d) 58 (λ e. omega (arith, e, small))

wide : (z : ℤ) → nat_abs z < 2 ^ 31 → nat_abs z < 2 ^ 64
wide z small = omega (arith, small)

-- the decimal text of a range without brackets
abbrev inside : Bounds → List ℕ
inside range = signed_decimal range.left ++ 58 ∷ signed_decimal range.right

inside_has_no_bracket : (k : Bracket) (range : Bounds) → nat_abs range.left < 2 ^ 31 → nat_abs range.right < 2 ^ 31 → IsFreeOf (opening k) (inside range)
inside_has_no_bracket k range left right =
    let free = free-signed_decimal (opening k) (digit_is_no_bracket k) (minus_is_no_bracket k) in
    free-append (opening k) (signed_decimal range.left) (58 ∷ signed_decimal range.right) (free range.left (wide range.left left)) (colon_is_no_bracket k, free range.right (wide range.right right))

spelled_range-inside : (size : ℕ) (range : Bounds) → nat_abs range.left < 2 ^ 31 → nat_abs range.right < 2 ^ 31 → range_bits range ≡ size → spelled_range size (inside range) ≡ Some range
spelled_range-inside size range left right e =
    let cut = cut_first-at 58 (signed_decimal range.left) (signed_decimal range.right) (free-signed_decimal 58 digit_is_no_colon refl range.left (wide range.left left)) in
    let sized : (range_bits range == size) ≡ true = eq-eqb (range_bits range) size e in
    rw (cut, spelled_index-signed_decimal range.left left, spelled_index-signed_decimal range.right right, sized) refl

pub range_form-complete : (text : List ℕ) (size : ℕ) (base : List ℕ) (range : Bounds) → HasRangeForm text size base range → range_form text size ≡ Some (base, range)
unfolding range_form
range_form-complete text size base range form =
    let k = form.bracket in
    let left = signed_decimal range.left in
    let right = signed_decimal range.right in
    let front : List ℕ = base ++ opening k ∷ inside range in
    let whole : text ≡ front ++ closing k ∷ [] =
    form.is_text ∙ ap (λ rest. base ++ (opening k ∷ rest)) (sym (append_assoc left (58 ∷ right) (closing k ∷ []))) ∙ sym (append_assoc base (opening k ∷ inside range) (closing k ∷ [])) in
    let last = cut_last-at (opening k) base (inside range) (inside_has_no_bracket k range form.left_fits form.right_fits) in
    rw (whole, cut_end-at front (closing k), opening_of-closing k, last, spelled_range-inside size range form.left_fits form.right_fits form.is_size) refl

-- the indexes and the number of bits of a range that was made of them
record IsSized (size : ℕ) (left right : Option ℤ) (range : Bounds) : Type 0 where
  is_left : left ≡ Some range.left
  is_right : right ≡ Some range.right
  is_size : range_bits range ≡ size

sized_range-is : (size : ℕ) (left right : Option ℤ) (range : Bounds) → sized_range size left right ≡ Some range → IsSized size left right range
sized_range-is size None right range e = absurd cc
sized_range-is size (Some left) None range e = absurd cc
sized_range-is size (Some left) (Some right) range e = go (range_bits (record { left = left; right = right }) == size) refl e
  where
    go : (t : Bool) → (range_bits (record { left = left; right = right }) == size) ≡ t → (if t then Some (record { left = left; right = right }) else None) ≡ Some range → IsSized size (Some left) (Some right) range
    go true t h =
        let made : Bounds = record { left = left; right = right } in
        let same : made ≡ range = cc in
        subst (IsSized size (Some left) (Some right)) same (record { is_left = refl; is_right = refl; is_size = eqb-true (range_bits made) size t })
    go false t h = absurd cc

-- the parts of a text put together
joined : (text front base body left right : List ℕ) (bracket close : ℕ) → text ≡ front ++ close ∷ [] → front ≡ base ++ bracket ∷ body → body ≡ left ++ 58 ∷ right
    → text ≡ base ++ (bracket ∷ (left ++ (58 ∷ (right ++ (close ∷ [])))))
joined text front base body left right bracket close e f g =
    e ∙ ap (λ xs. xs ++ close ∷ []) f ∙ append_assoc base (bracket ∷ body) (close ∷ []) ∙ ap (λ xs. base ++ (bracket ∷ (xs ++ close ∷ []))) g
    ∙ ap (λ xs. base ++ (bracket ∷ xs)) (append_assoc left (58 ∷ right) (close ∷ []))

pub range_form-is : (text : List ℕ) (size : ℕ) (base : List ℕ) (range : Bounds) → range_form text size ≡ Some (base, range) → HasRangeForm text size base range
unfolding range_form
range_form-is text size base range e =
    let ends = option_and_then-Some (λ ends. option_and_then (opened_range size ends.0) (opening_of ends.1)) (cut_at_end text) (base, range) e in
    let opened = option_and_then-Some (opened_range size ends.0.0) (opening_of ends.0.1) (base, range) ends.2 in
    let sides = option_and_then-Some (λ sides. option_map (λ r. (sides.0, r)) (spelled_range size sides.1)) (cut_at_last opened.0 ends.0.0) (base, range) opened.2 in
    let made = option_map-Some (λ r. (sides.0.0, r)) (spelled_range size sides.0.1) (base, range) sides.2 in
    let halves = option_and_then-Some (λ halves. sized_range size (spelled_index halves.0) (spelled_index halves.1)) (cut_at_first 58 sides.0.1) made.0 made.1 in
    let sized = sized_range-is size (spelled_index halves.0.0) (spelled_index halves.0.1) made.0 halves.2 in
    let left = spelled_index-is halves.0.0 made.0.left sized.is_left in
    let right = spelled_index-is halves.0.1 made.0.right sized.is_right in
    let kind = bracket_of ends.0.1 opened.0 opened.1 in
    let parts = joined text ends.0.0 sides.0.0 sides.0.1 halves.0.0 halves.0.1 opened.0 ends.0.1
    (cut_end-is text ends.0.0 ends.0.1 ends.1) (cut_last-is opened.0 ends.0.0 sides.0.0 sides.0.1 sides.1) (cut_first-is 58 sides.0.1 halves.0.0 halves.0.1 halves.1) in
    let spelled : text ≡ sides.0.0 ++ bracketed kind.0 made.0 = rw (sym left.1, sym right.1, kind.1, kind.2) parts in
    let form : HasRangeForm text size sides.0.0 made.0 = record { bracket = kind.0; is_text = spelled; left_fits = left.0; right_fits = right.0; is_size = sized.is_size } in
    subst (λ (p : List ℕ × Bounds). HasRangeForm text size p.0 p.1) made.2 form

abbrev unwrap_or_base : List ℕ × Bounds → Option (List ℕ × Bounds) → List ℕ × Bounds
unwrap_or_base other None = other
unwrap_or_base other (Some form) = form

-- a text has the range form in one way at most
pub range_form_is_unique : (text : List ℕ) (size : ℕ) (base base' : List ℕ) (range range' : Bounds) → HasRangeForm text size base range → HasRangeForm text size base' range' → ◌≡◌ {A = List ℕ × Bounds} (base, range) (base', range')
range_form_is_unique text size base base' range range' form form' =
    let one = range_form-complete text size base range form in
    let other = range_form-complete text size base' range' form' in
    ap (unwrap_or_base (base, range)) (sym one ∙ other)

-- what the length of the base and the range say, where they are those of `range_form`
abbrev Told : List ℕ → ℕ → Option (ℕ × Bounds) → Type 0
Told text size found =
    IfSome found (λ split. HasRangeForm text size (take split.0 text) split.1) × IfSome found (λ split. split.0 ≤ length text) × IfNone found (HasNoRangeForm text size)

pub told : (text : List ℕ) (size : ℕ) (found : Option (ℕ × Bounds)) → found ≡ option_map (λ form. (length form.0, form.1)) (range_form text size) → Told text size found
told text size found e = subst (Told text size) (sym e) (go (range_form text size) refl)
  where
    go : (o : Option (List ℕ × Bounds)) → range_form text size ≡ o → Told text size (option_map (λ form. (length form.0, form.1)) o)
    go None c =
        let none : HasNoRangeForm text size = λ base range form.
        let same : ◌≡◌ {A = Option (List ℕ × Bounds)} None (Some (base, range)) = sym c ∙ range_form-complete text size base range form in
        absurd cc in
        (tt, tt, none)
    go (Some form) c =
        let has = range_form-is text size form.0 form.1 c in
        let base : take (length form.0) text ≡ form.0 = ap (take (length form.0)) has.is_text ∙ take-append_seam form.0 (bracketed has.bracket form.1) in
        let long : length text ≡ length form.0 + length (bracketed has.bracket form.1) = ap length has.is_text ∙ length-append form.0 (bracketed has.bracket form.1) in
        (rw base has, omega (arith, long), tt)

-- the steps of a text's split

abbrev lengths : Option (List ℕ × Bounds) → Option (ℕ × Bounds)
lengths o = option_map (λ form. (length form.0, form.1)) o

pub split-empty : (text : List ℕ) (size : ℕ) → length text ≡ 0 → None ≡ lengths (range_form text size)
unfolding range_form
split-empty [] size e = refl
split-empty (x ∷ xs) size e = absurd (omega (arith, e))

range_form-end : (front : List ℕ) (close size : ℕ) → range_form (front ++ close ∷ []) size ≡ option_and_then (opened_range size front) (opening_of close)
unfolding range_form
range_form-end front close size = rw (cut_end-at front close) refl

pub split-no_bracket : (text front : List ℕ) (close size : ℕ) → text ≡ front ++ close ∷ [] → None ≡ opening_of close → None ≡ lengths (range_form text size)
split-no_bracket text front close size e h = rw (e, range_form-end front close size, sym h) refl

pub split-bracket : (text front : List ℕ) (close size bracket : ℕ) → text ≡ front ++ close ∷ [] → Some bracket ≡ opening_of close → lengths (opened_range size front bracket) ≡ lengths (range_form text size)
split-bracket text front close size bracket e h = rw (e, range_form-end front close size, sym h) refl
