-- Lists that are laid one behind the other.
use Rattle.std.proofs.Common.{◌≡◌, ℕ, zero, suc, ◌+◌, ◌-◌, ◌<◌, ◌≤◌, ◌⊎◌, inl, inr, List, [], ◌∷◌, ◌++◌, refl, sym, ◌∙◌, ap, subst, get_or, Bool, drop, filter, length, length-append, map, take, arith}
use Rattle.std.specs.Prelude.{sum_by}
use Rattle.std.proofs.lemmas.List.{drop-append-le, drop_all, ext_get_or, get_or_append_left, get_or_push, length-drop, length_push, map_more, take-append-le, take_all}
use Rattle.std.proofs.lemmas.List.Sums.{count_by-le-length, length-filter, sum_by_more, sum_by_more_le}
use Rattle.flat_classes.proofs.GroupLists.{parts_count, parts_read}
use Rattle.net_bits.specs.Parts.{AreStarts, part, parts}

-- ---- lists one behind the other
-- these lists are the parts, and the last part ends with the list
pub record AreLaid (lists : List (List ℕ)) (starts places : List ℕ) : Type 0 where
  pub are_starts : AreStarts starts (length places)
  pub last : get_or starts (length starts - 1) 0 ≡ length places
  pub are : parts starts places ≡ lists

less_or : (a b : ℕ) → a < b + 1 → (a < b) ⊎ (a ≡ b)
less_or a b lt = grind arith

pub laid_none : (starts places : List ℕ) → starts ≡ 0 ∷ [] → places ≡ [] → AreLaid [] starts places
laid_none starts places e f = subst (λ s. AreLaid [] s places) (sym e) (subst (AreLaid [] (0 ∷ [])) (sym f) first)
  where
    first : AreLaid [] (0 ∷ []) []
    first = record {
      are_starts = record { some = omega arith; rising = λ i lt. absurd (omega (arith, lt)); within = λ i lt. at i lt };
      last = refl;
      are = refl;
    }
      where
        at : (i : ℕ) → i < 1 → get_or (0 ∷ []) i 0 ≤ 0
        at zero lt = omega arith
        at (suc i) lt = absurd (omega (arith, lt))

module _ (lists : List (List ℕ)) (starts places list : List ℕ) (laid : AreLaid lists starts places) where
  abbrev all : List ℕ
  all = places ++ list

  abbrev further : List ℕ
  further = starts ++ length all ∷ []

  whole : length all ≡ length places + length list
  whole = length-append places list

  long : length further ≡ length starts + 1
  long = length_push starts (length all)

  old_start : (i : ℕ) → i < length starts → get_or further i 0 ≡ get_or starts i 0
  old_start i lt = get_or_append_left starts (length all ∷ []) 0 i lt

  new_start : (i : ℕ) → i ≡ length starts → get_or further i 0 ≡ length all
  new_start i e = get_or_push starts (length all) 0 i (sym e)

  -- the start behind the last part
  last_start : (i : ℕ) → i + 1 ≡ length starts → get_or further i 0 ≡ length places
  last_start i e = let n : i ≡ length starts - 1 = omega (arith, e) in old_start i (omega (arith, e)) ∙ (ap (λ k. get_or starts k 0) n ∙ laid.last)

  starts_rise : (i : ℕ) → i + 1 < length further → get_or further i 0 ≤ get_or further (i + 1) 0
  starts_rise i lt = elim (less_or (i + 1) (length starts) (let l = long in omega (arith, lt, l))) [
    | inl less ↦ let a = old_start i (omega (arith, less)) in let b = old_start (i + 1) less in let r = laid.are_starts.rising i less in omega (arith, a, b, r)
    | inr same ↦ let a = last_start i same in let b = new_start (i + 1) same in let w = whole in omega (arith, a, b, w)
  ]

  starts_within : (i : ℕ) → i < length further → get_or further i 0 ≤ length all
  starts_within i lt = elim (less_or i (length starts) (let l = long in omega (arith, lt, l))) [
    | inl less ↦ let a = old_start i less in let r = laid.are_starts.within i less in let w = whole in omega (arith, a, r, w)
    | inr same ↦ let b = new_start i same in omega (arith, b)
  ]

  -- a part of the list is one of the longer list
  part_kept : (a b : ℕ) → a ≤ b → b ≤ length places → take (b - a) (drop a all) ≡ take (b - a) (drop a places)
  part_kept a b up to =
      let rest = length-drop a places in
      ap (take (b - a)) (drop-append-le a places list (omega (arith, up, to))) ∙ take-append-le (b - a) (drop a places) list (omega (arith, rest, to))

  old_part : (i : ℕ) → i + 1 < length starts → part further all i ≡ part starts places i
  old_part i lt =
      let from = old_start i (omega (arith, lt)) in
      let to = old_start (i + 1) lt in
      ap (λ a. take (get_or further (i + 1) 0 - a) (drop a all)) from
      ∙ (ap (λ b. take (b - get_or starts i 0) (drop (get_or starts i 0) all)) to
      ∙ part_kept (get_or starts i 0) (get_or starts (i + 1) 0) (laid.are_starts.rising i lt) (laid.are_starts.within (i + 1) lt))

  new_part : (i : ℕ) → i + 1 ≡ length starts → part further all i ≡ list
  new_part i e =
      let w = whole in
      let dropped : drop (length places) all ≡ list = drop-append-le (length places) places list (omega arith) ∙ ap (λ p. p ++ list) (drop_all (length places) places (omega arith)) in
      ap (λ a. take (get_or further (i + 1) 0 - a) (drop a all)) (last_start i e)
      ∙ (ap (λ b. take (b - length places) (drop (length places) all)) (new_start (i + 1) e)
      ∙ (ap (take (length all - length places)) dropped ∙ take_all (length all - length places) list (omega (arith, w))))

  many : length lists ≡ length starts - 1
  many = sym (ap length laid.are) ∙ parts_count starts places

  parts_more : parts further all ≡ lists ++ list ∷ []
  parts_more =
      let l = long in
      let m = many in
      let some = laid.are_starts.some in
      let count = parts_count further all in
      let pushed = length_push lists list in
      let each : (i : ℕ) → i < length (parts further all) → get_or (parts further all) i [] ≡ get_or (lists ++ list ∷ []) i [] = λ i lt.
      parts_read further all i (omega (arith, lt, count, l))
      ∙ elim (less_or (i + 1) (length starts) (omega (arith, lt, count, l))) [
        | inl less ↦ old_part i less ∙ (sym (parts_read starts places i less) ∙ (ap (λ ls. get_or ls i []) laid.are ∙ sym (get_or_append_left lists (list ∷ []) [] i (omega (arith, less, m)))))
        | inr same ↦ new_part i same ∙ sym (get_or_push lists list [] i (omega (arith, same, m)))
      ] in
      ext_get_or [] (parts further all) (lists ++ list ∷ []) (omega (arith, l, m, some, count, pushed)) each

  laid_next : AreLaid (lists ++ list ∷ []) further all
  laid_next = let l = long in record {
    are_starts = record { some = omega (arith, l); rising = starts_rise; within = starts_within };
    last = new_start (length further - 1) (omega (arith, l));
    are = parts_more;
  }

-- the next list is laid behind the others
pub laid_more : (lists : List (List ℕ)) (starts places list next longer : List ℕ) (end : ℕ) → AreLaid lists starts places → longer ≡ places ++ list → end ≡ length longer → next ≡ starts ++ end ∷ [] → AreLaid (lists ++ list ∷ []) next longer
laid_more lists starts places list next longer end laid whole ends more =
    let starts_are : starts ++ length (places ++ list) ∷ [] ≡ next = sym (more ∙ ap (λ n. starts ++ n ∷ []) (ends ∙ ap length whole)) in
    subst (AreLaid (lists ++ list ∷ []) next) (sym whole) (subst (λ s. AreLaid (lists ++ list ∷ []) s (places ++ list)) starts_are (laid_next lists starts places list laid))

-- ---- the lists of the groups
-- the next group's list is laid, and all lists have no more places than the groups
pub group_laid : (f : List ℕ → List ℕ) (lists : List (List ℕ)) (i : ℕ) (starts places list next longer : List ℕ) (end : ℕ) → i < length lists → list ≡ get_or lists i [] → AreLaid (map f (take i lists)) starts places
    → longer ≡ places ++ f list → end ≡ length longer → next ≡ starts ++ end ∷ [] → AreLaid (map f (take (i + 1) lists)) next longer
group_laid f lists i starts places list next longer end lt is laid whole ends more =
    subst (λ ls. AreLaid ls next longer) (ap (λ l. map f (take i lists) ++ f l ∷ []) is ∙ sym (map_more f lists i [] lt)) (laid_more (map f (take i lists)) starts places (f list) next longer end laid whole ends more)

pub group_few : (p : ℕ → Bool) (lists : List (List ℕ)) (i : ℕ) (places list longer : List ℕ) → i < length lists → list ≡ get_or lists i [] → length places ≤ sum_by length (take i lists) → longer ≡ places ++ filter p list
    → (length longer ≤ sum_by length (take (i + 1) lists)) × (length longer ≤ sum_by length lists)
group_few p lists i places list longer lt is few whole =
    let long = ap length whole ∙ length-append places (filter p list) in
    let kept = length-filter p list in
    let less = count_by-le-length p list in
    let size = ap length is in
    let next = sum_by_more length lists i [] lt in
    let within = sum_by_more_le length lists i [] lt in
    (omega (arith, long, kept, less, size, few, next), omega (arith, long, kept, less, size, few, within))
