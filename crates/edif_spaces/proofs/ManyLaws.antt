-- Names that are told apart by their digests have the identifiers that they have where all are compared.
use Rattle.std.proofs.Common.{add-one, arith, ◌≡◌, ℕ, ◌+◌, ◌<◌, ◌≤◌, ◌||◌, cond, Bool, true, false, List, [], ◌∷◌, ◌++◌, drop, drop-cons, get_or, length, map, take, refl, sym, ap, ◌∙◌, subst}
use Rattle.std.specs.Prelude.{◌&&◌, not}
use Rattle.std.specs.Borrow.{Bor}
use Rattle.std.proofs.lemmas.Bool.{false≢true}
use Rattle.std.proofs.lemmas.List.{map-append, take-append-drop, take_more}
use Rattle.std.proofs.lemmas.List.Folds.{list_any-append}
use Rattle.nl_base.specs.Case.{same_up_to_case}
use Rattle.digests.specs.Sets.{AreNoted, DigestSets, times}
use Rattle.digests.proofs.CallerLaws.{noted_twice, times-append, times-here}
use Rattle.net_bits.specs.Names.{NameSet, has_name, numbered, with_name}
use Rattle.net_bits.specs.NameTables.{digest_of}
use Rattle.net_bits.proofs.CallerLaws.{alike_digest, has-with_name}
use Rattle.edif_meanings.specs.Apart.{is_alike_any}
use Rattle.edif_meanings.proofs.ApartLaws.{alike_back}
use Rattle.edif_spaces.specs.Many.{given_with, is_met_again, is_own_by}
use Rattle.edif_spaces.specs.Plain.{IsPlainStep, has_stem, is_own_behind}
use Rattle.edif_spaces.specs.Spaces.{IsMade, can_be_own, stem}
use Rattle.edif_spaces.proofs.IdentLaws.{seen}
use Rattle.edif_spaces.proofs.PlainLaws.{unlike_plain}

-- the digests of names up to case
abbrev pub digests_of : List (List ℕ) → List ℕ
digests_of = map (digest_of true)

-- what is kept tells which names are alike the identifiers of the names before
pub record AreTold (sets : DigestSets) (before idents : List (List ℕ)) (given : NameSet) : Type 0 where
  pub up_to_case : given.up_to_case ≡ true
  pub same : (name : List ℕ) → has_stem name ≡ false → is_met_again sets name ≡ true → has_name given name ≡ is_alike_any name idents
  pub met : (name : List ℕ) → has_stem name ≡ false → is_alike_any name idents ≡ true → 1 ≤ times (digests_of before) (digest_of true name)

pub told_none : (sets : DigestSets) (given : NameSet) → given ≡ record { up_to_case = true; names = [] } → AreTold sets [] [] given
told_none sets given none = subst (AreTold sets [] []) (sym none) (record { up_to_case = refl; same = λ name stemless again. refl; met = λ name stemless h. absurd (false≢true h) })

-- a name is one of a list, which is cut there
pub cut_at : (names : List (Bor (List ℕ))) (i : ℕ) (d : Bor (List ℕ)) → i < length names
    → digests_of (seen names) ≡ digests_of (seen (take i names)) ++ digest_of true (get_or names i d).now ∷ digests_of (seen (drop (i + 1) names))
cut_at names i d within =
    ap (λ ns. digests_of (seen ns)) (sym (take-append-drop i names) ∙ ap (λ ns. take i names ++ ns) (drop-cons names i d within) ∙ ap (λ n. take i names ++ get_or names i d ∷ drop n names) (sym (add-one i)))
    ∙ (ap digests_of (map-append (λ (n : Bor (List ℕ)). n.now) (take i names) (get_or names i d ∷ drop (i + 1) names))
    ∙ map-append (digest_of true) (seen (take i names)) (seen (get_or names i d ∷ drop (i + 1) names)))

-- the names before a place, and with the one at it
pub seen_more : (names : List (Bor (List ℕ))) (i : ℕ) (d : Bor (List ℕ)) → i < length names → seen (take (i + 1) names) ≡ seen (take i names) ++ (get_or names i d).now ∷ []
seen_more names i d within = ap seen (take_more names i d within) ∙ map-append (λ (n : Bor (List ℕ)). n.now) (take i names) (get_or names i d ∷ [])

module _ (sets : DigestSets) (before idents : List (List ℕ)) (given : NameSet) (name : List ℕ) (stemless : has_stem name ≡ false) (told : AreTold sets before idents given) where
  -- whether the name is its own identifier
  pub own_told : (rest : List ℕ) → AreNoted sets (digests_of before ++ digest_of true name ∷ rest) → is_own_behind idents name ≡ is_own_by sets given name
  own_told rest noted = by (is_met_again sets name) (is_alike_any name idents) refl refl
    where
      by : (again alike : Bool) → is_met_again sets name ≡ again → is_alike_any name idents ≡ alike → (can_be_own name && not alike) ≡ (can_be_own name && not (again && has_name given name))
      by true alike e f = ap (λ b. can_be_own name && not b) (sym f ∙ sym (told.same name stemless e))
      by false false e f = refl
      by false true e f = absurd (false≢true (sym e ∙ noted_twice sets (digests_of before) rest (digest_of true name) noted (told.met name stemless f)))

  -- one more name, and its identifier
  module _ (from next : ℕ) (ident : List ℕ) (step : IsPlainStep idents from name ident next) where
    alike_more : (other : List ℕ) → is_alike_any other (idents ++ ident ∷ []) ≡ (is_alike_any other idents || (same_up_to_case other ident || false))
    alike_more other = list_any-append (same_up_to_case other) idents (ident ∷ [])

    more_digests : digests_of (before ++ name ∷ []) ≡ digests_of before ++ digest_of true name ∷ []
    more_digests = map-append (digest_of true) before (name ∷ [])

    -- what was met stays so
    met_still : (digest : ℕ) → 1 ≤ times (digests_of before) digest → 1 ≤ times (digests_of (before ++ name ∷ [])) digest
    met_still digest h =
        let more = ap (λ ds. times ds digest) more_digests ∙ times-append (digests_of before) (digest_of true name ∷ []) digest in
        omega (arith, h, more)

    -- the digest of the name is met
    met_here : (digest : ℕ) → digest ≡ digest_of true name → 1 ≤ times (digests_of (before ++ name ∷ [])) digest
    met_here digest is = subst (λ d. 1 ≤ times (digests_of (before ++ name ∷ [])) d) (sym is)
        (let more = ap (λ ds. times ds (digest_of true name)) more_digests ∙ times-append (digests_of before) (digest_of true name ∷ []) (digest_of true name) in
        let here = times-here (digest_of true name) [] in
        omega (arith, here, more))

    either : (a b : Bool) → (a || (b || false)) ≡ true → ({c : Type 0} → (a ≡ true → c) → (b ≡ true → c) → c)
    either true b h = λ first second. first refl
    either false true h = λ first second. second refl
    either false false h = absurd (false≢true h)

    swapped : (a b : Bool) → (a || b) ≡ (b || (a || false))
    swapped true true = refl
    swapped true false = refl
    swapped false true = refl
    swapped false false = refl

    neither : (a b : Bool) → b ≡ false → a ≡ (a || (b || false))
    neither true b h = refl
    neither false true h = absurd (false≢true (sym h))
    neither false false h = refl

    -- a name that is its own identifier
    own_more : ident ≡ name → can_be_own name ≡ true → AreTold sets (before ++ name ∷ []) (idents ++ ident ∷ []) (given_with sets given name)
    own_more is can = subst (λ i. AreTold sets (before ++ name ∷ []) (idents ++ i ∷ []) (given_with sets given name)) (sym is)
        (by (is_met_again sets name) refl)
      where
        alike_own : (other : List ℕ) → is_alike_any other (idents ++ name ∷ []) ≡ (is_alike_any other idents || (same_up_to_case other name || false))
        alike_own other = list_any-append (same_up_to_case other) idents (name ∷ [])

        met_own : (other : List ℕ) → has_stem other ≡ false → is_alike_any other (idents ++ name ∷ []) ≡ true → 1 ≤ times (digests_of (before ++ name ∷ [])) (digest_of true other)
        met_own other plain h = either (is_alike_any other idents) (same_up_to_case other name) (sym (alike_own other) ∙ h)
            (λ first. met_still (digest_of true other) (told.met other plain first))
            (λ second. met_here (digest_of true other) (alike_digest true other name second))

        by : (again : Bool) → is_met_again sets name ≡ again → AreTold sets (before ++ name ∷ []) (idents ++ name ∷ []) (given_with sets given name)
        by true e = subst (AreTold sets (before ++ name ∷ []) (idents ++ name ∷ [])) (sym (λ i. cond (can i && e i) (with_name given name) given))
            (record {
              up_to_case = told.up_to_case;
              same = λ other plain again.
                  has-with_name given name other
                  ∙ (ap (λ fold. Rattle.net_bits.specs.Names.alike fold other name || has_name given other) told.up_to_case
                  ∙ (ap (λ b. same_up_to_case other name || b) (told.same other plain again)
                  ∙ (swapped (same_up_to_case other name) (is_alike_any other idents) ∙ sym (alike_own other))));
              met = met_own;
            })
        by false e = subst (AreTold sets (before ++ name ∷ []) (idents ++ name ∷ [])) (sym (λ i. cond (can i && e i) (with_name given name) given))
            (record {
              up_to_case = told.up_to_case;
              same = λ other plain again.
                  told.same other plain again
                  ∙ (neither (is_alike_any other idents) (same_up_to_case other name) (unlike other again (same_up_to_case other name) refl) ∙ sym (alike_own other));
              met = met_own;
            })
          where
            unlike : (other : List ℕ) → is_met_again sets other ≡ true → (b : Bool) → same_up_to_case other name ≡ b → b ≡ false
            unlike other again false f = refl
            unlike other again true f = absurd (false≢true (sym e ∙ (ap (λ d. Rattle.digests.specs.Sets.is_again sets d) (sym (alike_digest true other name f)) ∙ again)))

    -- an identifier that is made
    made_more : (number : ℕ) → ident ≡ numbered stem number → AreTold sets (before ++ name ∷ []) (idents ++ ident ∷ []) given
    made_more number is = record {
      up_to_case = told.up_to_case;
      same = λ other plain again. told.same other plain again ∙ (neither (is_alike_any other idents) (same_up_to_case other ident) (unlike other plain) ∙ sym (alike_more other));
      met = λ other plain h. either (is_alike_any other idents) (same_up_to_case other ident) (sym (alike_more other) ∙ h)
          (λ first. met_still (digest_of true other) (told.met other plain first))
          (λ second. absurd (false≢true (sym (unlike other plain) ∙ second)));
    }
      where
        unlike : (other : List ℕ) → has_stem other ≡ false → same_up_to_case other ident ≡ false
        unlike other plain = ap (same_up_to_case other) is ∙ alike_back (numbered stem number) other (unlike_plain other number plain)

    pub told_more : (rest : List ℕ) (new : NameSet) → AreNoted sets (digests_of before ++ digest_of true name ∷ rest) → new ≡ given_with sets given name → AreTold sets (before ++ name ∷ []) (idents ++ ident ∷ []) new
    told_more rest new noted is = subst (AreTold sets (before ++ name ∷ []) (idents ++ ident ∷ [])) (sym is)
        (by (can_be_own name) (is_alike_any name idents) refl refl)
      where
        had : can_be_own name ≡ true → is_alike_any name idents ≡ true → given_with sets given name ≡ given
        had can taken = had_by (is_met_again sets name) refl
          where
            had_by : (again : Bool) → is_met_again sets name ≡ again → given_with sets given name ≡ given
            had_by true e =
                (λ i. cond (can i && e i) (with_name given name) given)
                ∙ ap (λ b. record { up_to_case = given.up_to_case; names = cond b given.names (given.names ++ name ∷ []) }) (told.same name stemless e ∙ taken)
            had_by false e = λ i. cond (can i && e i) (with_name given name) given

        by : (can alike : Bool) → can_be_own name ≡ can → is_alike_any name idents ≡ alike → AreTold sets (before ++ name ∷ []) (idents ++ ident ∷ []) (given_with sets given name)
        by true false e f = own_more (step.fits.own e f) e
        by true true e f = let made : IsMade idents ident = step.fits.taken f in subst (AreTold sets (before ++ name ∷ []) (idents ++ ident ∷ [])) (sym (had e f)) (made_more made.0 made.1.is_name)
        by false alike e f = let made : IsMade idents ident = step.fits.unfit e in
            subst (AreTold sets (before ++ name ∷ []) (idents ++ ident ∷ [])) (sym (λ i. cond (e i && is_met_again sets name) (with_name given name) given)) (made_more made.0 made.1.is_name)
