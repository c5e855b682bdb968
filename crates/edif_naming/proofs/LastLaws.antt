-- The last properties of each name, and their identifiers.
use Rattle.std.proofs.Common.{arith, ◌≡◌, ℕ, zero, suc, ◌+◌, ◌-◌, ◌<◌, ◌≤◌, Bool, true, false, cond, List, [], ◌∷◌, ◌++◌, add-one, append-nil, append_assoc, drop, drop-cons, get_or, length, length-drop, map, take, refl, sym, ap, ◌∙◌, subst}
use Rattle.std.specs.Borrow.{Bor}
use Rattle.std.specs.List.{list_any}
use Rattle.std.proofs.Math.ListN.{drop_of_length-le}
use Rattle.std.specs.Prelude.{◌&&◌, not}
use Rattle.std.proofs.lemmas.Bool.{false≢true, or_parts}
use Rattle.std.proofs.lemmas.List.{map-append, take_all}
use Rattle.edif_meanings.specs.Apart.{AreApart, is_alike_any}
use Rattle.edif_meanings.proofs.ApartLaws.{apart_more}
use Rattle.edif_naming.specs.Few.{ArePlain}
use Rattle.edif_written.specs.Naming.{ident_of, name_of, property_for, seen, value_of}
use Rattle.edif_written.specs.Sound.{AreSoundProps, IsSoundProp}
use Rattle.edif_naming.proofs.NamingLaws.{original_name_for, value_of_made}
use Rattle.edif_written.proofs.Lists.{all_at}
use Rattle.edif_spaces.specs.Plain.{IsPlain, IsPlainStep, is_own_behind}
use Rattle.edif_spaces.specs.Spaces.{AreIdents, AreIdentsBehind, can_be_own}
use Rattle.edif_spaces.proofs.IdentLaws.{behind_len, behind_more}
use Rattle.edif_spaces.proofs.PlainLaws.{and_left, plain_none}
use Rattle.edif_values.specs.declared.property.Property.{Property}
use Rattle.net_hier.specs.declared.cells.HProp.{HProp}
use Rattle.net_live.specs.Last.{is_named, last_of}

-- ---- what is kept can be written

kept_sound : (props : List HProp) → AreSoundProps props → AreSoundProps (last_of props)
unfolding last_of
kept_sound [] all = tt
kept_sound (prop ∷ props) all = by (is_named prop.name props) (kept_sound props all.1)
  where
    by : (b : Bool) → AreSoundProps (last_of props) → AreSoundProps (cond b (last_of props) (prop ∷ last_of props))
    by true rest = rest
    by false rest = (all.0, rest)

pub seen_sound : (props : List HProp) (kept : List (Bor HProp)) → seen kept ≡ last_of props → AreSoundProps props → AreSoundProps (seen kept)
seen_sound props kept are all = subst AreSoundProps (sym are) (kept_sound props all)

-- ---- one property more

pub pushed_value : (made new : List Property) (property : Property) (ident : List ℕ) (prop : HProp) → new ≡ made ++ property ∷ [] → property ≡ property_for ident prop → map value_of new ≡ map value_of made ++ prop ∷ []
pushed_value made new property ident prop is_new is = ap (map value_of) is_new ∙ (map-append value_of made (property ∷ []) ∙ ap (λ p. map value_of made ++ p ∷ []) (ap value_of is ∙ value_of_made ident prop))

pub pushed_plain : (made new : List Property) (from next : ℕ) (property : Property) (ident : List ℕ) (prop : HProp) → ArePlain made from → new ≡ made ++ property ∷ [] → property ≡ property_for ident prop
    → IsPlainStep (map ident_of made) from prop.name ident next → ArePlain new next
pushed_plain made new from next property ident prop are is_new is step =
    let idents : map ident_of new ≡ map ident_of made ++ ident ∷ [] = ap (map ident_of) is_new ∙ (map-append ident_of made (property ∷ []) ∙ ap (λ (p : Property). map ident_of made ++ ident_of p ∷ []) is) in
    let names : map name_of new ≡ map name_of made ++ prop.name ∷ [] = ap (map name_of) is_new ∙ (map-append name_of made (property ∷ []) ∙ ap (λ n. map name_of made ++ n ∷ []) (ap name_of is ∙ original_name_for ident prop.name)) in
    record {
      plain = subst (λ l. IsPlain l next) (sym idents) step.plain;
      apart = subst AreApart (sym idents) (apart_more (map ident_of made) ident are.apart step.new);
      each = subst (AreIdentsBehind [] (map name_of new)) (sym idents)
          (subst (λ l. AreIdentsBehind [] l (map ident_of made ++ ident ∷ [])) (sym names) (behind_more [] (map name_of made) (map ident_of made) prop.name ident are.each step.fits));
    }

pub none_plain : (made : List Property) → made ≡ [] → ArePlain made 0
unfolding AreApart AreIdentsBehind
none_plain made is = subst (λ l. ArePlain l 0) (sym is) (record { plain = plain_none; apart = tt; each = tt })

-- the identifier of a name that is its own
pub own_ident : (before : List (List ℕ)) (from next : ℕ) (name ident : List ℕ) (is_own : Bool) → is_own_behind before name ≡ is_own → IsPlainStep before from name ident next → is_own ≡ true → ident ≡ name
own_ident before from next name ident is_own told step own =
    let both : (can_be_own name && not (is_alike_any name before)) ≡ true = told ∙ own in
    step.fits.own (and_left (can_be_own name) _ both) (new (can_be_own name) (is_alike_any name before) both)
  where
    new : (can taken : Bool) → (can && not taken) ≡ true → taken ≡ false
    new true true h = absurd (false≢true h)
    new can false h = refl
    new false true h = absurd (false≢true h)

-- ---- the loop over few properties

pub stem_there : (test : HProp → Bool) (props : List HProp) (place : ℕ) (d x : HProp) → list_any test props ≡ false → place < length props → x ≡ get_or props place d → test x ≡ false
stem_there test [] place d x none within is = absurd (omega (arith, within))
stem_there test (p ∷ ps) zero d x none within is = ap test is ∙ (or_parts (test p) (list_any test ps) none).0
stem_there test (p ∷ ps) (suc place) d x none within is = stem_there test ps place d x (or_parts (test p) (list_any test ps) none).1 (omega (arith, within)) is

pub sound_there : (props : List HProp) (place : ℕ) (d x : HProp) → AreSoundProps props → place < length props → x ≡ get_or props place d → IsSoundProp x
sound_there props place d x all within is = all_at IsSoundProp props place x d all within is

step : (props : List HProp) (place : ℕ) (d x : HProp) (kept more : List HProp) → place < length props → x ≡ get_or props place d → kept ++ last_of (drop place props) ≡ last_of props
    → more ≡ kept ++ cond (is_named x.name (drop (suc place) props)) [] (x ∷ []) → more ++ last_of (drop (suc place) props) ≡ last_of props
unfolding last_of
step props place d x kept more within is before is_more =
    ap (λ l. l ++ last_of rest) is_more ∙ (by (is_named x.name rest) ∙ (ap (λ l. kept ++ last_of l) (sym here) ∙ before))
  where
    rest : List HProp
    rest = drop (suc place) props

    here : drop place props ≡ x ∷ drop (suc place) props
    here = drop-cons props place d within ∙ ap (λ y. y ∷ drop (suc place) props) (sym is)

    by : (b : Bool) → kept ++ cond b [] (x ∷ []) ++ last_of rest ≡ kept ++ cond b (last_of rest) (x ∷ last_of rest)
    by true = append_assoc kept [] (last_of rest)
    by false = append_assoc kept (x ∷ []) (last_of rest)

-- a turn of the loop, from the front
pub last_turn : (props : List HProp) (place : ℕ) (d x : HProp) (kept more : List HProp) → place < length props → x ≡ get_or props place d → kept ++ last_of (drop place props) ≡ last_of props
    → more ≡ kept ++ cond (is_named x.name (take (length props - (place + 1)) (drop (place + 1) props))) [] (x ∷ []) → more ++ last_of (drop (place + 1) props) ≡ last_of props
last_turn props place d x kept more within is before is_more =
    let all : take (length props - (place + 1)) (drop (place + 1) props) ≡ drop (place + 1) props =
    take_all (length props - (place + 1)) (drop (place + 1) props) (omega (arith, length-drop (place + 1) props)) in
    subst (λ n. more ≡ kept ++ cond (is_named x.name (drop n props)) [] (x ∷ []) → more ++ last_of (drop n props) ≡ last_of props) (sym (add-one place))
    (step props place d x kept more within is before)
    (is_more ∙ ap (λ l. kept ++ cond (is_named x.name l) [] (x ∷ [])) all)

-- the end of that loop
pub last_end : (props : List HProp) (place : ℕ) (kept : List HProp) → length props ≤ place → kept ++ last_of (drop place props) ≡ last_of props → kept ≡ last_of props
unfolding last_of
last_end props place kept past before = sym (append-nil kept) ∙ (ap (λ l. kept ++ last_of l) (sym (drop_of_length-le props past)) ∙ before)

-- the identifiers of all
pub plain_idents : (made : List Property) (from : ℕ) (props : List HProp) → ArePlain made from → map value_of made ≡ props → AreIdents (map (λ (p : HProp). p.name) props) (map ident_of made)
plain_idents made from props are values =
    let names : map name_of made ≡ map (λ (p : HProp). p.name) props = names_of_values made ∙ ap (map (λ (p : HProp). p.name)) values in
    let each = subst (λ l. AreIdentsBehind [] l (map ident_of made)) names are.each in
    record { len = behind_len [] (map (λ (p : HProp). p.name) props) (map ident_of made) each; apart = are.apart; each = each }
  where
    names_of_values : (ps : List Property) → map name_of ps ≡ map (λ (p : HProp). p.name) (map value_of ps)
    names_of_values [] = refl
    names_of_values (p ∷ ps) = ap (λ l. name_of p ∷ l) (names_of_values ps)
