-- Identifiers of names of which none begins with the stem.
use Rattle.std.proofs.Common.{arith, ◌≡◌, ℕ, zero, suc, ◌+◌, ◌%◌, ◌<◌, ◌^◌, ◌||◌, below_more, Bool, true, false, List, [], ◌∷◌, ◌++◌, get_or, length, map, refl, sym, ap, ◌∙◌, subst}
use Rattle.std.specs.Prelude.{◌&&◌, ◌==◌, not}
use Rattle.std.specs.Borrow.{Bor}
use Rattle.std.specs.Fmt.{decimal}
use Rattle.std.specs.List.{list_any}
use Rattle.std.proofs.lemmas.Bool.{false≢true}
use Rattle.std.proofs.lemmas.Bool.Decides.{nat_tests}
use Rattle.std.proofs.lemmas.Fmt.{decimal_by_steps, decimal_injective}
use Rattle.std.proofs.lemmas.List.{append_cancel_left, map-append}
use Rattle.std.proofs.lemmas.List.Folds.{list_any-append}
use Rattle.std.proofs.lemmas.Nat.{mod_below}
use Rattle.std.proofs.lemmas.Slice.Eq.{bytes_eq-Decides}
use Rattle.nl_base.specs.Case.{same_up_to_case, small}
use Rattle.net_bits.specs.Names.{numbered}
use Rattle.edif_meanings.specs.Apart.{is_alike_any}
use Rattle.edif_meanings.proofs.ApartLaws.{alike_itself, or_left, or_right}
use Rattle.edif_spaces.specs.Plain.{IsPlain, IsPlainStep, has_stem, is_own_behind}
use Rattle.edif_spaces.specs.Spaces.{IsMade, can_be_own, stem}
use Rattle.edif_spaces.proofs.IdentLaws.{own_fits, seen}
use Rattle.edif_spaces.proofs.SpaceLaws.{or_true}

-- ---- what is alike an identifier that is made

small_digit : (n : ℕ) → n < 10 → small (48 + n) ≡ 48 + n
small_digit n h = grind (arith, nat_tests)

small_decimal : (n : ℕ) → n < 2 ^ 64 → map small (decimal n) ≡ decimal n
small_decimal n h = decimal_by_steps (λ n ds. map small ds ≡ ds)
    (λ n l. ap (λ d. d ∷ []) (small_digit n l))
    (λ n ds l e. map-append small ds ((48 + n % 10) ∷ []) ∙ ((λ i. e i ++ map small ((48 + n % 10) ∷ [])) ∙ ap (λ d. ds ++ d ∷ []) (small_digit (n % 10) (mod_below n 10 (omega arith)))))
    n h

unlike_numbers : (m n : ℕ) → m < 2 ^ 64 → n < 2 ^ 64 → same_up_to_case (numbered stem m) (numbered stem n) ≡ true → m ≡ n
unlike_numbers m n hm hn h =
    let e = (bytes_eq-Decides (map small (numbered stem m)) (map small (numbered stem n))).0 h in
    let f = sym (map-append small stem (decimal m)) ∙ (e ∙ map-append small stem (decimal n)) in
    decimal_injective m n hm hn (sym (small_decimal m hm) ∙ (append_cancel_left (map small stem) (map small (decimal m)) (map small (decimal n)) f ∙ small_decimal n hn))

starts : (name digits : List ℕ) → map small (stem ++ digits) ≡ map small name → has_stem name ≡ true
starts [] digits e = absurd cc
starts (first ∷ []) digits e = absurd cc
starts (first ∷ (second ∷ rest)) digits e =
    let one : 105 ≡ small first = ap (λ l. get_or l 0 0) e in
    let two : 100 ≡ small second = ap (λ l. get_or l 1 0) e in
    λ j. (sym one j == 105) && (sym two j == 100)

pub unlike_plain : (name : List ℕ) (number : ℕ) → has_stem name ≡ false → same_up_to_case (numbered stem number) name ≡ false
unlike_plain name number h = by (same_up_to_case (numbered stem number) name) refl
  where
    by : (b : Bool) → same_up_to_case (numbered stem number) name ≡ b → b ≡ false
    by false e = refl
    by true e = absurd (false≢true (sym h ∙ starts name (decimal number) ((bytes_eq-Decides (map small (numbered stem number)) (map small name)).0 e)))

unlike_lesser : (number from : ℕ) → from < number → number < 2 ^ 64 → same_up_to_case (numbered stem number) (numbered stem from) ≡ false
unlike_lesser number from lesser fits = by (same_up_to_case (numbered stem number) (numbered stem from)) refl
  where
    by : (b : Bool) → same_up_to_case (numbered stem number) (numbered stem from) ≡ b → b ≡ false
    by false e = refl
    by true e = let same = unlike_numbers number from fits (omega (arith, lesser, fits)) e in absurd (omega (arith, same, lesser))

-- ---- one identifier more

both_false : (a b : Bool) → a ≡ false → b ≡ false → (a || (b || false)) ≡ false
both_false true b h k = absurd (false≢true (sym h))
both_false false true h k = absurd (false≢true (sym k))
both_false false false h k = refl

or_last : (a b : Bool) → b ≡ true → (a || (b || false)) ≡ true
or_last true b h = refl
or_last false true h = refl
or_last false false h = absurd (false≢true h)

pub and_left : (a b : Bool) → (a && b) ≡ true → a ≡ true
and_left true b h = refl
and_left false b h = absurd (false≢true h)

and_right : (a b : Bool) → (a && not b) ≡ true → b ≡ false
and_right true true h = absurd (false≢true h)
and_right true false h = refl
and_right false b h = absurd (false≢true h)

not_both : (a b : Bool) → (a && not b) ≡ false → a ≡ true → b ≡ true
not_both true true h k = refl
not_both true false h k = absurd (false≢true (sym h))
not_both false b h k = absurd (false≢true k)

more_names : (number : ℕ) (idents : List (List ℕ)) (ident : List ℕ) → is_alike_any (numbered stem number) (idents ++ ident ∷ []) ≡ (is_alike_any (numbered stem number) idents || (same_up_to_case (numbered stem number) ident || false))
more_names number idents ident = list_any-append (same_up_to_case (numbered stem number)) idents (ident ∷ [])

-- what is told of identifiers that are lent
pub told_own : (idents lent : List (List ℕ)) (name : List ℕ) (is_own : Bool) → lent ≡ idents → is_own ≡ is_own_behind lent name → is_own_behind idents name ≡ is_own
told_own idents lent name is_own same told = ap (λ l. is_own_behind l name) (sym same) ∙ sym told

-- a name that is its own identifier
pub own_step : (idents : List (List ℕ)) (from : ℕ) (name ident : List ℕ) → is_own_behind idents name ≡ true → has_stem name ≡ false → IsPlain idents from → ident ≡ name → IsPlainStep idents from name ident from
own_step idents from name ident own stemless plain is =
    let new = and_right (can_be_own name) (is_alike_any name idents) own in record {
      fits = own_fits idents name ident (and_left (can_be_own name) _ own) new is;
      new = ap (λ n. is_alike_any n idents) is ∙ new;
      plain = subst (λ n. IsPlain (idents ++ n ∷ []) from) (sym is) (record {
        used = λ lesser below. more_names lesser idents name ∙ or_true _ _ (plain.used lesser below);
        free = λ number le fits. more_names number idents name ∙ both_false _ _ (plain.free number le fits) (unlike_plain name number stemless);
      });
      step = omega arith;
    }

-- an identifier that is made
pub made_step : (idents : List (List ℕ)) (from : ℕ) (name ident : List ℕ) → is_own_behind idents name ≡ false → IsPlain idents from → from < 2 ^ 32 → ident ≡ numbered stem from → IsPlainStep idents from name ident (from + 1)
made_step idents from name ident other plain few is =
    let new : is_alike_any ident idents ≡ false = ap (λ n. is_alike_any n idents) is ∙ plain.free from (omega arith) (omega (arith, few)) in
    let made : IsMade idents ident = (from, record { is_name = is; is_new = new; is_least = plain.used }) in record {
      fits = record {
        own = λ can fresh. absurd (false≢true (sym fresh ∙ not_both (can_be_own name) (is_alike_any name idents) other can));
        unfit = λ _. made;
        taken = λ _. made;
      };
      new = new;
      plain = subst (λ n. IsPlain (idents ++ n ∷ []) (from + 1)) (sym is) (record {
        used = below_more (λ k. is_alike_any (numbered stem k) (idents ++ numbered stem from ∷ []) ≡ true) from
            (λ lesser below. more_names lesser idents (numbered stem from) ∙ or_true _ _ (plain.used lesser below))
            (more_names from idents (numbered stem from) ∙ or_last _ _ (alike_itself (numbered stem from)));
        free = λ number le fits. more_names number idents (numbered stem from)
            ∙ both_false _ _ (plain.free number (omega (arith, le)) fits) (unlike_lesser number from (omega (arith, le)) fits);
      });
      step = omega arith;
    }

-- ---- the loop over the names

pub none_stemmed : (names : List (Bor (List ℕ))) (i : ℕ) (d x : Bor (List ℕ)) → list_any has_stem (seen names) ≡ false → i < length names → x ≡ get_or names i d → has_stem x.now ≡ false
none_stemmed [] i d x h within is = absurd (omega arith)
none_stemmed (y ∷ ys) zero d x h within is = subst (λ (z : Bor (List ℕ)). has_stem z.now ≡ false) (sym is) (or_left (has_stem y.now) (list_any has_stem (seen ys)) h)
none_stemmed (y ∷ ys) (suc i) d x h within is = none_stemmed ys i d x (or_right (has_stem y.now) (list_any has_stem (seen ys)) h) (omega arith) is

pub plain_none : IsPlain [] 0
plain_none = record { used = λ lesser below. absurd (omega (arith, below)); free = λ number le fits. refl }
