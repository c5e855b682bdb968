-- Names that no instance has, one after another.
use Rattle.std.proofs.Common.{arith, ◌≡◌, ◌≤◌, ◌<◌, ◌^◌, ℕ, zero, suc, ◌+◌, Bool, true, false, cond, ◌||◌, List, [], ◌∷◌, ◌++◌, add-one, append-nil, append_assoc, drop, drop-cons, get_or, length, length-append, map, refl, sym, ap, ◌∙◌, subst}
use Rattle.std.specs.Borrow.{Bor}
use Rattle.std.specs.Fmt.{decimal}
use Rattle.std.specs.Prelude.{IsTrue}
use Rattle.std.proofs.lemmas.Bool.{false≢true}
use Rattle.std.proofs.lemmas.Fmt.{IsAscii-decimal, length-decimal-le}
use Rattle.std.proofs.lemmas.List.{map-append}
use Rattle.std.proofs.lemmas.List.Folds.{list_any-append}
use Rattle.nl_base.specs.Case.{same_bytes}
use Rattle.edif_lookup.specs.Refusals.{is_in}
use Rattle.net_bits.specs.Names.{IsFresh, NameSet, alike, has_name, numbered, with_name}
use Rattle.net_bits.proofs.CallerLaws.{has-with_name}
use Rattle.net_hier.specs.Constants.{ConstantNames, name_of_constant}
use Rattle.net_hier.specs.declared.cells.HInst.{HInst}
use Rattle.edif_written.specs.Sound.{IsShort}
use Rattle.edif_naming.proofs.SoundLaws.{ascii_bytes}
use Rattle.edif_written.proofs.Lists.{all_append, all_push}
use Rattle.edif_written.specs.Naming.{seen}
use Rattle.edif_plans.proofs.Lists.{map_turn}
use Rattle.edif_plans.specs.AddedNames.{AreNamedBehind, AreNamedFor, IsFirstFree, told_by_bytes}
use Rattle.edif_plans.specs.Summaries.{instance_names}
use Rattle.edif_plans.specs.Made.{AreFree}
use Rattle.edif_plans.specs.Sound.{IsStem}
use Rattle.edif_plans.specs.declared.added.Added.{Added}
use Rattle.edif_parts.specs.Added.{AreAdded, HasNames}

abbrev pub name_of : Added → List ℕ
name_of one = one.name

-- ---- short names

pub stem_short : (stem name : List ℕ) → name ≡ stem → IsStem stem → IsShort name
stem_short stem name is h = subst IsShort (sym is) (record { bytes = h.bytes; short = omega (arith, h.short) })

pub fresh_short : (set : NameSet) (stem name : List ℕ) (number : ℕ) → IsFresh set stem name number → number < 2 ^ 64 → IsStem stem → IsShort name
fresh_short set stem name number is fits h =
    let digits : length (decimal number) ≤ 20 = length-decimal-le 20 number (omega arith) (omega arith) fits in
    let whole = length-append stem (decimal number) in
    subst IsShort (sym is.is_name) (record { bytes = all_append (λ b. b < 256) stem (decimal number) h.bytes (ascii_bytes (decimal number) (IsAscii-decimal number fits)); short = omega (arith, h.short, digits, whole) })

-- ---- free names

free_push : (before xs : List (List ℕ)) (name : List ℕ) → AreFree before xs → is_in name (before ++ xs) ≡ false → AreFree before (xs ++ name ∷ [])
unfolding AreFree
free_push before [] name free new = (ap (is_in name) (sym (append-nil before)) ∙ new, tt)
free_push before (x ∷ xs) name free new = (free.0, free_push (before ++ x ∷ []) xs name free.1 (ap (is_in name) (append_assoc before (x ∷ []) xs) ∙ new))

pub names_pushed : (own : List HInst) (added new : List Added) (one : Added) → new ≡ added ++ one ∷ [] → instance_names own new ≡ instance_names own added ++ one.name ∷ []
names_pushed own added new one is =
    let first : List (List ℕ) = map (λ (instance : HInst). instance.name) own in
    ap (λ l. first ++ map name_of l) is ∙ (ap (λ l. first ++ l) (map-append name_of added (one ∷ [])) ∙ sym (append_assoc first (map name_of added) (one.name ∷ [])))

either : (a b c : Bool) → (a || b) ≡ (b || (a || false))
either true true c = refl
either true false c = refl
either false true c = refl
either false false c = refl

names_with : (set : NameSet) (names : List (List ℕ)) (name other : List ℕ) → set.up_to_case ≡ false → has_name set other ≡ is_in other names → has_name (with_name set name) other ≡ is_in other (names ++ name ∷ [])
names_with set names name other bytes has =
    has-with_name set name other
    ∙ ((λ j. alike (bytes j) other name || has j) ∙ (either (same_bytes other name) (is_in other names) false ∙ sym (list_any-append (same_bytes other) names (name ∷ []))))

-- a set that has the names, and one more
pub named_pushed : (own : List HInst) (set more : NameSet) (added new : List Added) (one : Added) → HasNames set (instance_names own added) → more ≡ with_name set one.name → new ≡ added ++ one ∷ [] → HasNames more (instance_names own new)
named_pushed own set more added new one has is_more is_new = subst (λ s. HasNames s (instance_names own new)) (sym is_more) (record {
  by_bytes = has.by_bytes;
  has = λ other. names_with set (instance_names own added) one.name other has.by_bytes (has.has other) ∙ ap (is_in other) (sym (names_pushed own added new one is_new));
})

-- one more that is added under a name that the set has not
pub added_pushed : (own : List HInst) (set : NameSet) (added new : List Added) (one : Added) → HasNames set (instance_names own added) → AreAdded own added → has_name set one.name ≡ false → IsShort one.name → new ≡ added ++ one ∷ [] → AreAdded own new
added_pushed own set added new one has before free short is = record {
  free = subst (AreFree (map (λ (instance : HInst). instance.name) own)) (sym (ap (map name_of) is ∙ map-append name_of added (one ∷ [])))
      (free_push (map (λ (instance : HInst). instance.name) own) (map name_of added) one.name before.free (sym (has.has one.name) ∙ free));
  short = all_push (λ (a : Added). IsShort a.name) added new one before.short short is;
}

pub none_added : (own : List HInst) (added : List Added) → added ≡ [] → AreAdded own added
unfolding AreFree
none_added own added is = subst (AreAdded own) (sym is) (record { free = tt; short = tt })

pub none_named : (own : List HInst) (set : NameSet) (added : List Added) → added ≡ [] → HasNames set (instance_names own []) → HasNames set (instance_names own added)
none_named own set added is has = subst (λ a. HasNames set (instance_names own a)) (sym is) has

-- ---- the first free name

-- the stem itself, which is free
pub own_first : (used : NameSet) (stem name : List ℕ) → has_name used stem ≡ false → name ≡ stem → IsFirstFree used stem name
own_first used stem name new is = record { own = λ _. is; taken = λ t. absurd (false≢true (sym new ∙ t)) }

-- the stem and the least number that is free, where the stem is not
pub made_first : (used : NameSet) (stem name : List ℕ) (number : ℕ) → has_name used stem ≡ true → IsFresh used stem name number → IsFirstFree used stem name
made_first used stem name number taken fresh = record { own = λ new. absurd (false≢true (sym new ∙ taken)); taken = λ _. (number, fresh) }

-- what is free in a set is so behind the names that it has
first_behind : (set : NameSet) (names : List (List ℕ)) (stem name : List ℕ) → HasNames set names → IsFirstFree set stem name → IsFirstFree (told_by_bytes names) stem name
first_behind set names stem name has is = record {
  own = λ new. is.own (has.has stem ∙ new);
  taken = λ taken.
      let found = is.taken (has.has stem ∙ taken) in (
        found.0,
        record {
          is_name = found.1.is_name;
          is_new = sym (has.has name) ∙ found.1.is_new;
          is_least = λ lesser lt. subst IsTrue (has.has (numbered stem lesser)) (found.1.is_least lesser lt);
        },
      );
}

-- one more that is added
behind_more : (names : ConstantNames) (before : List (List ℕ)) (added : List Added) (one : Added) → AreNamedBehind names before added → IsFirstFree (told_by_bytes (before ++ map name_of added)) (name_of_constant names one.value).cell one.name → AreNamedBehind names before (added ++ one ∷ [])
unfolding AreNamedBehind
behind_more names before [] one are is = (subst (λ (l : List (List ℕ)). IsFirstFree (told_by_bytes l) (name_of_constant names one.value).cell one.name) (append-nil before) is, tt)
behind_more names before (first ∷ added) one are is =
    (are.0, behind_more names (before ++ first.name ∷ []) added one are.1 (subst (λ (l : List (List ℕ)). IsFirstFree (told_by_bytes l) (name_of_constant names one.value).cell one.name) (sym (append_assoc before (first.name ∷ []) (map name_of added))) is))

pub first_pushed : (own : List HInst) (set : NameSet) (added new : List Added) (one : Added) (stem : List ℕ) → HasNames set (instance_names own added) → IsFirstFree set stem one.name → new ≡ added ++ one ∷ []
    → (names : ConstantNames) → (name_of_constant names one.value).cell ≡ stem → AreNamedFor names own added → AreNamedFor names own new
first_pushed own set added new one stem has first is names same are =
    subst (AreNamedFor names own) (sym is)
    (behind_more names (map (λ (instance : HInst). instance.name) own) added one are
    (subst (λ (s : List ℕ). IsFirstFree (told_by_bytes (instance_names own added)) s one.name) (sym same) (first_behind set (instance_names own added) stem one.name has first)))

pub none_first : (names : ConstantNames) (own : List HInst) (added : List Added) → added ≡ [] → AreNamedFor names own added
unfolding AreNamedBehind
none_first names own added is = subst (AreNamedFor names own) (sym is) tt

-- ---- the constants for which instances are added

abbrev pub value_of : Added → Bool
value_of one = one.value

pub values_pushed : (added new : List Added) (one : Added) → new ≡ added ++ one ∷ [] → map value_of new ≡ map value_of added ++ one.value ∷ []
values_pushed added new one is = ap (map value_of) is ∙ map-append value_of added (one ∷ [])

pub none_needed : (needed value : Bool) (values : List Bool) → needed ≡ false → values ≡ values ++ cond needed (value ∷ []) []
none_needed needed value values is = sym (append-nil values) ∙ ap (λ b. values ++ cond b (value ∷ []) []) (sym is)

pub one_needed : (needed value : Bool) (values more : List Bool) → needed ≡ true → more ≡ values ++ value ∷ [] → more ≡ values ++ cond needed (value ∷ []) []
one_needed needed value values more is e = e ∙ ap (λ b. values ++ cond b (value ∷ []) []) (sym is)

pub two_values : (added : List Added) (first second more last : List Bool) → added ≡ [] → more ≡ map value_of added ++ first → last ≡ more ++ second → last ≡ first ++ second
two_values added first second more last none one two = two ∙ ap (λ l. l ++ second) (one ∙ ap (λ a. map value_of a ++ first) none)

-- no instance is added where neither is needed
pub nothing_needed : (first second : Bool) (added : List Added) → (first || second) ≡ false → added ≡ [] → map value_of added ≡ cond first (false ∷ []) [] ++ cond second (true ∷ []) []
nothing_needed true second added h is = absurd (false≢true (sym h))
nothing_needed false true added h is = absurd (false≢true (sym h))
nothing_needed false false added h is = ap (map value_of) is

-- ---- the names of the instances of a cell

shifted : (a b c : Bool) → ((a || b) || c) ≡ (b || (a || c))
shifted true true c = refl
shifted true false c = refl
shifted false b c = refl

pub used_turn : (instances : List HInst) (i : ℕ) (instance d : HInst) (set more : NameSet) → i < length instances → instance ≡ get_or instances i d → more ≡ with_name set instance.name → set.up_to_case ≡ false
    → ((name : List ℕ) → (has_name set name || is_in name (map (λ (x : HInst). x.name) (drop i instances))) ≡ is_in name (map (λ (x : HInst). x.name) instances))
    → (name : List ℕ) → (has_name more name || is_in name (map (λ (x : HInst). x.name) (drop (i + 1) instances))) ≡ is_in name (map (λ (x : HInst). x.name) instances)
used_turn instances i instance d set more within is is_more bytes before name =
    let rest : List (List ℕ) = map (λ (x : HInst). x.name) (drop (suc i) instances) in
    (λ j. has_name (is_more j) name || is_in name (map (λ (x : HInst). x.name) (drop (add-one i j) instances)))
    ∙ (ap (λ b. b || is_in name rest) (has-with_name set instance.name name ∙ ap (λ c. alike c name instance.name || has_name set name) bytes)
    ∙ (shifted (same_bytes name instance.name) (has_name set name) (is_in name rest)
    ∙ (ap (λ l. has_name set name || is_in name l) (ap (λ (x : HInst). x.name ∷ rest) is ∙ ap (map (λ (x : HInst). x.name)) (sym (drop-cons instances i d within))) ∙ before name)))

or_false : (b : Bool) → (b || false) ≡ b
or_false true = refl
or_false false = refl

drop_all : {A : Type 0} (xs : List A) (i : ℕ) → length xs ≤ i → drop i xs ≡ []
drop_all [] zero h = refl
drop_all [] (suc i) h = refl
drop_all (x ∷ xs) zero h = absurd (omega arith)
drop_all (x ∷ xs) (suc i) h = drop_all xs i (omega arith)

pub used_all : (own : List HInst) (set : NameSet) (i : ℕ) → set.up_to_case ≡ false → length own ≤ i
    → ((name : List ℕ) → (has_name set name || is_in name (map (λ (x : HInst). x.name) (drop i own))) ≡ is_in name (map (λ (x : HInst). x.name) own))
    → HasNames set (instance_names own [])
used_all own set i bytes end has = record {
  by_bytes = bytes;
  has = λ name. sym (or_false (has_name set name)) ∙ (ap (λ l. has_name set name || is_in name (map (λ (x : HInst). x.name) l)) (sym (drop_all own i end)) ∙ (has name ∙ ap (is_in name) (sym (append-nil (map (λ (x : HInst). x.name) own)))));
}

-- one more name of an added instance
pub name_turn : (added : List Added) (i : ℕ) (one d : Added) (names new : List (Bor (List ℕ))) (name : Bor (List ℕ)) (whole : List (List ℕ)) → i < length added → one ≡ get_or added i d
    → seen names ++ map name_of (drop i added) ≡ whole → new ≡ names ++ name ∷ [] → name.now ≡ one.name → seen new ++ map name_of (drop (i + 1) added) ≡ whole
name_turn added i one d names new name whole within is before is_new same = map_turn (λ (b : Bor (List ℕ)). b.now) name_of added i one d names new name whole within is before is_new same
