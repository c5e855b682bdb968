-- One more entry in a look-up table.
use Rattle.std.proofs.Common.{◌≡◌, ℕ, ◌+◌, ◌<◌, Bool, true, false, cond, List, [], ◌∷◌, ◌++◌, map, length, take, drop, get_or, filter, ◌||◌, Option, Some, None, is_some, refl, sym, ap, ◌∙◌, subst}
use Rattle.std.proofs.lemmas.List.{append-nil, map-append, take-append-drop, take_more}
use Rattle.std.proofs.lemmas.List.Elements.{filter-append}
use Rattle.std.proofs.lemmas.Bool.{false≢true}
use Rattle.std.proofs.lemmas.Slice.Eq.{bytes_eq-Decides}
use Rattle.std.proofs.lemmas.Map.Text.{hash_map_updates_str}
use Rattle.std.specs.Borrow.{Bor}
use Rattle.std.specs.Option.{option_copied}
use Rattle.std.specs.Str.{bytes_eq}
use Rattle.std.specs.Map.{lookup}
use Rattle.std.proofs.lemmas.Bool.Decides.{same_from_decides}
use Rattle.indexmap.specs.IndexMap.{IndexMap, get_by, UpdatesBy, insert_entry}
use Rattle.nl_base.specs.Case.{same_bytes, same_up_to_case, small}
use Rattle.edif_lookup.specs.Tables.{HasTables, HoldsSpellings, HoldsSmall, at_small, first_number, is_several, meaning, meant_by, meant_in, one_more, small_so, spelled_or_several, spelled_so, summary, written}
use Rattle.edif_lookup.specs.declared.definitions.Alike.{Alike}
use Rattle.edif_lookup.specs.declared.definitions.Meaning.TheVariants.{One}
use Rattle.edif_lookup.specs.declared.keys.Folded.{Folded}
use Rattle.edif_lookup.specs.Candidates.{first_or_all}

abbrev or_else : {X : Type 0} → Option X → Option X → Option X
or_else None y = y
or_else (Some x) y = Some x

or_else-None : {X : Type 0} (x : Option X) → or_else x None ≡ x
or_else-None None = refl
or_else-None (Some x) = refl

first_number-append : (xs ys : List (ℕ × List ℕ)) → first_number (xs ++ ys) ≡ or_else (first_number xs) (first_number ys)
first_number-append [] ys = refl
first_number-append (x ∷ xs) ys = refl

pub written_more : (entries : List (ℕ × Bor (List ℕ))) (i : ℕ) (d : ℕ × Bor (List ℕ)) → i < length entries → written (take (i + 1) entries) ≡ written (take i entries) ++ ((get_or entries i d).0, (get_or entries i d).1.now) ∷ []
written_more entries i d h = ap written (take_more entries i d h) ∙ map-append (λ entry. (entry.0, entry.1.now)) (take i entries) (get_or entries i d ∷ [])

module _ (entries : List (ℕ × List ℕ)) (number : ℕ) (spelling : List ℕ) where
  one-first : (b : Bool) → first_number (cond b ((number, spelling) ∷ []) []) ≡ cond b (Some number) None
  one-first true = refl
  one-first false = refl

  more : (other : List ℕ) → first_number (spelled_so other (entries ++ (number, spelling) ∷ [])) ≡ or_else (first_number (spelled_so other entries)) (cond (same_bytes spelling other) (Some number) None)
  more other =
      ap first_number (filter-append (λ entry. same_bytes entry.1 other) entries ((number, spelling) ∷ []))
      ∙ (first_number-append (spelled_so other entries) (spelled_so other ((number, spelling) ∷ []))
      ∙ ap (or_else (first_number (spelled_so other entries))) (one-first (same_bytes spelling other)))

  module _ {S : Type 0} (old : IndexMap (Bor (List ℕ)) ℕ S) (holds : HoldsSpellings entries old) where
    kept_by : (b : Bool) (x : Option ℕ) → (b ≡ true → is_some x ≡ true) → or_else x (cond b (Some number) None) ≡ x
    kept_by false x h = or_else-None x
    kept_by true (Some n) h = refl
    kept_by true None h = absurd (false≢true (h refl))

    -- a spelling that is there stays
    pub HoldsSpellings-kept : is_some (get_by (λ key. same_bytes spelling key.now) old) ≡ true → HoldsSpellings (entries ++ (number, spelling) ∷ []) old
    HoldsSpellings-kept known other =
        let here : same_bytes spelling other ≡ true → is_some (first_number (spelled_so other entries)) ≡ true = λ e. subst (λ s. is_some (first_number (spelled_so s entries)) ≡ true) ((bytes_eq-Decides spelling other).0 e) (ap is_some (sym (holds spelling)) ∙ known) in
        holds other ∙ sym (more other ∙ kept_by (same_bytes spelling other) (first_number (spelled_so other entries)) here)

    added_by : (b : Bool) (x : Option ℕ) → (b ≡ true → x ≡ None) → cond b (Some number) x ≡ or_else x (cond b (Some number) None)
    added_by false x h = sym (or_else-None x)
    added_by true x h = sym (ap (λ y. or_else y (Some number)) (h refl))

    none_by : (x : Option ℕ) → is_some x ≡ false → x ≡ None
    none_by None h = refl
    none_by (Some n) h = absurd (false≢true (sym h))

    -- a new spelling is added
    pub HoldsSpellings-added : (new : IndexMap (Bor (List ℕ)) ℕ S) → is_some (get_by (λ key. same_bytes spelling key.now) old) ≡ false
        → UpdatesBy (λ x y. bytes_eq x.now y.now) (λ key. bytes_eq spelling key.now) old new (Some number) → HoldsSpellings (entries ++ (number, spelling) ∷ []) new
    HoldsSpellings-added new unknown updates other =
        let here : same_bytes spelling other ≡ true → first_number (spelled_so other entries) ≡ None =
        λ e. subst (λ s. first_number (spelled_so s entries) ≡ None) ((bytes_eq-Decides spelling other).0 e) (sym (holds spelling) ∙ none_by _ unknown) in
        hash_map_updates_str spelling old new (Some number) updates other
        ∙ (ap (cond (same_bytes spelling other) (Some number)) (holds other)
        ∙ (added_by (same_bytes spelling other) (first_number (spelled_so other entries)) here ∙ sym (more other)))

copied-is_some : {X : Type 0} (x : Option (Bor X)) → is_some (option_copied x) ≡ is_some x
copied-is_some None = refl
copied-is_some (Some x) = refl

-- a turn of the loop that fills the table
module _ {S : Type 0} (entries : List (ℕ × Bor (List ℕ))) (i : ℕ) (d : ℕ × Bor (List ℕ)) (within : i < length entries) (old : IndexMap (Bor (List ℕ)) ℕ S) (holds : HoldsSpellings (written (take i entries)) old)
    (found : Option (Bor ℕ)) (is_found : option_copied found ≡ get_by (λ key. same_bytes (get_or entries i d).1.now key.now) old) where
  pub spelling_turn_known : is_some found ≡ true → (new : IndexMap (Bor (List ℕ)) ℕ S) → new ≡ old → HoldsSpellings (written (take (i + 1) entries)) new
  spelling_turn_known known new same =
      subst (λ es. HoldsSpellings es new) (sym (written_more entries i d within))
      (subst (λ (t : IndexMap (Bor (List ℕ)) ℕ S). HoldsSpellings (written (take i entries) ++ ((get_or entries i d).0, (get_or entries i d).1.now) ∷ []) t) (sym same)
      (HoldsSpellings-kept _ _ (get_or entries i d).1.now old holds (ap is_some (sym is_found) ∙ (copied-is_some found ∙ known))))

  pub spelling_turn_new : is_some found ≡ false → (new made : IndexMap (Bor (List ℕ)) ℕ S) → new ≡ made
      → UpdatesBy (λ x y. bytes_eq x.now y.now) (λ key. bytes_eq (get_or entries i d).1.now key.now) old made (Some (get_or entries i d).0) → HoldsSpellings (written (take (i + 1) entries)) new
  spelling_turn_new unknown new made same updates =
      subst (λ es. HoldsSpellings es new) (sym (written_more entries i d within))
      (subst (λ (t : IndexMap (Bor (List ℕ)) ℕ S). HoldsSpellings (written (take i entries) ++ ((get_or entries i d).0, (get_or entries i d).1.now) ∷ []) t) (sym same)
      (HoldsSpellings-added _ _ (get_or entries i d).1.now old holds made (ap is_some (sym is_found) ∙ (copied-is_some found ∙ unknown)) updates))

-- a look-up after an insert: the test finds the inserted key exactly where it is equal to it
module _ {K V : Type 0} (eq : K → K → Bool) (test : K → Bool) (key : K) (value : V) (alike : (x : K) → eq key x ≡ true → test x ≡ test key) (own : test key ≡ true → (x : K) → test x ≡ eq key x) where
  at_hit : (b t : Bool) (old : Option V) (w : V) → cond b (Some value) old ≡ cond b (Some value) (cond b (Some w) old)
  at_hit true t old w = refl
  at_hit false t old w = refl

  at_miss : (b t : Bool) (old : Option V) (w : V) → (b ≡ true → t ≡ false) → cond t (Some w) (cond b (Some value) old) ≡ cond b (Some value) (cond t (Some w) old)
  at_miss true t old w h = rw (h refl)
  at_miss false t old w h = refl

  one_entry : (e : K × V) (es : List (K × V)) → lookup test (insert_entry eq es key value) ≡ cond (test key) (Some value) (lookup test es) → (b : Bool) → eq key e.0 ≡ b
      → lookup test (cond b ((e.0, value) ∷ es) (e ∷ insert_entry eq es key value)) ≡ cond (test key) (Some value) (lookup test (e ∷ es))
  one_entry e es rest true h =
      ap (λ t. cond t (Some value) (lookup test es)) (alike e.0 h)
      ∙ (at_hit (test key) true (lookup test es) e.1 ∙ ap (λ t. cond (test key) (Some value) (cond t (Some e.1) (lookup test es))) (sym (alike e.0 h)))
  one_entry e es rest false h = ap (cond (test e.0) (Some e.1)) rest ∙ at_miss (test key) (test e.0) (lookup test es) e.1 (λ k. own k e.0 ∙ h)

  pub lookup-insert_entry : (es : List (K × V)) → lookup test (insert_entry eq es key value) ≡ cond (test key) (Some value) (lookup test es)
  lookup-insert_entry [] = refl
  lookup-insert_entry (e ∷ es) = one_entry e es (lookup-insert_entry es) (eq key e.0) refl

summary_push : (xs : List (ℕ × List ℕ)) (x : ℕ × List ℕ) → summary (xs ++ x ∷ []) ≡ Some (one_more (summary xs) x.0)
summary_push [] x = refl
summary_push (one ∷ []) x = refl
summary_push (one ∷ (two ∷ [])) x = refl
summary_push (one ∷ (two ∷ (three ∷ rest))) x = refl

bytes_eq-sym : (xs ys : List ℕ) → bytes_eq xs ys ≡ bytes_eq ys xs
bytes_eq-sym xs ys = same_from_decides (bytes_eq xs ys) (bytes_eq ys xs) (bytes_eq-Decides xs ys) (λ e. sym ((bytes_eq-Decides ys xs).0 e), λ e. (bytes_eq-Decides ys xs).1 (sym e))

-- what a table of names up to case has after an insert
pub at_small-added : {S : Type 0} (old new : IndexMap Folded Alike S) (key : Folded) (alike : Alike) → new.entries ≡ insert_entry (λ x y. same_up_to_case x.bytes.now y.bytes.now) old.entries key alike
    → (other : List ℕ) → at_small other new ≡ cond (same_bytes other (map small key.bytes.now)) (Some alike) (at_small other old)
at_small-added old new key alike is_new other =
    ap (lookup (λ k. same_bytes other (map small k.bytes.now))) is_new
    ∙ lookup-insert_entry (λ x y. same_up_to_case x.bytes.now y.bytes.now) (λ k. same_bytes other (map small k.bytes.now)) key alike
    (λ x e. ap (same_bytes other) (sym ((bytes_eq-Decides (map small key.bytes.now) (map small x.bytes.now)).0 e)))
    (λ e x. ap (λ s. same_bytes s (map small x.bytes.now)) ((bytes_eq-Decides other (map small key.bytes.now)).0 e)) old.entries

pub more_where_some : (known : Option Alike) (number : ℕ) → (one_more known number).more ≡ is_some known
more_where_some None number = refl
more_where_some (Some alike) number = refl

module _ {S : Type 0} (number : ℕ) (key : List ℕ) (old new : IndexMap Folded Alike S)
    (added : (other : List ℕ) → at_small other new ≡ cond (same_bytes other key) (Some (one_more (at_small key old) number)) (at_small other old)) where
  small_by : (entries : List (ℕ × List ℕ)) (spelling : List ℕ) → HoldsSmall entries old → (other : List ℕ) (b : Bool) → (b ≡ true → other ≡ key)
      → cond b (Some (one_more (at_small key old) number)) (at_small other old) ≡ summary (small_so other entries ++ cond b ((number, spelling) ∷ []) [])
  small_by entries spelling holds other false h = holds other ∙ ap summary (sym (append-nil (small_so other entries)))
  small_by entries spelling holds other true h =
      ap Some (ap (λ s. one_more (at_small s old) number) (sym (h refl)) ∙ ap (λ s. one_more s number) (holds other)) ∙ sym (summary_push (small_so other entries) (number, spelling))

  HoldsSmall-added : (entries : List (ℕ × List ℕ)) (spelling : List ℕ) → key ≡ map small spelling → HoldsSmall entries old → HoldsSmall (entries ++ (number, spelling) ∷ []) new
  HoldsSmall-added entries spelling is_key holds other =
      let same : same_bytes other key ≡ same_bytes (map small spelling) other = bytes_eq-sym other key ∙ ap (λ s. same_bytes s other) is_key in
      added other
      ∙ (small_by entries spelling holds other (same_bytes other key) (bytes_eq-Decides other key).0
      ∙ (ap (λ b. summary (small_so other entries ++ cond b ((number, spelling) ∷ []) [])) same
      ∙ ap summary (sym (filter-append (λ entry. same_bytes (map small entry.1) other) entries ((number, spelling) ∷ [])))))

  -- none alike before, and none alike now
  pub several_turn : (several known now : Bool) → (several ≡ false → (other : List ℕ) → is_several (at_small other old) ≡ false) → known ≡ is_some (at_small key old) → now ≡ (several || known)
      → now ≡ false → (other : List ℕ) → is_several (at_small other new) ≡ false
  several_turn true known now before is_known is_now none other = absurd (false≢true (sym none ∙ is_now))
  several_turn false true now before is_known is_now none other = absurd (false≢true (sym none ∙ is_now))
  several_turn false false now before is_known is_now none other = ap is_several (added other) ∙ by (same_bytes other key)
    where
      by : (b : Bool) → is_several (cond b (Some (one_more (at_small key old) number)) (at_small other old)) ≡ false
      by true = more_where_some (at_small key old) number ∙ sym is_known
      by false = before refl other

-- a turn of the loop that fills the table
pub small_turn : {S : Type 0} (entries : List (ℕ × Bor (List ℕ))) (i : ℕ) (d : ℕ × Bor (List ℕ)) → i < length entries → (old new : IndexMap Folded Alike S) → HoldsSmall (written (take i entries)) old
    → ((other : List ℕ) → at_small other new ≡ cond (same_bytes other (map small (get_or entries i d).1.now)) (Some (one_more (at_small (map small (get_or entries i d).1.now) old) (get_or entries i d).0)) (at_small other old))
    → HoldsSmall (written (take (i + 1) entries)) new
small_turn entries i d within old new holds added =
    subst (λ es. HoldsSmall es new) (sym (written_more entries i d within))
    (HoldsSmall-added (get_or entries i d).0 (map small (get_or entries i d).1.now) old new added (written (take i entries)) (get_or entries i d).1.now refl holds)

-- one more definition that is looked at
module _ (entries : List (ℕ × Bor (List ℕ))) (i : ℕ) (d : ℕ × Bor (List ℕ)) (within : i < length entries) (spelling : List ℕ) where
  pub first_turn : first_number (spelled_so spelling (written (take i entries))) ≡ None → same_bytes (get_or entries i d).1.now spelling ≡ false → first_number (spelled_so spelling (written (take (i + 1) entries))) ≡ None
  first_turn before other =
      ap (λ es. first_number (spelled_so spelling es)) (written_more entries i d within)
      ∙ (more (written (take i entries)) (get_or entries i d).0 (get_or entries i d).1.now spelling
      ∙ (λ j. or_else (before j) (cond (other j) (Some (get_or entries i d).0) None)))

  pub first_found : first_number (spelled_so spelling (written (take i entries))) ≡ None → same_bytes (get_or entries i d).1.now spelling ≡ true → Some (get_or entries i d).0 ≡ first_number (spelled_so spelling (written entries))
  first_found before same =
      let all : written entries ≡ written (take (i + 1) entries) ++ written (drop (i + 1) entries) = ap written (sym (take-append-drop (i + 1) entries)) ∙ map-append (λ entry. (entry.0, entry.1.now)) (take (i + 1) entries) (drop (i + 1) entries) in
      sym (ap (λ es. first_number (spelled_so spelling es)) all
      ∙ (ap first_number (filter-append (λ entry. same_bytes entry.1 spelling) (written (take (i + 1) entries)) (written (drop (i + 1) entries)))
      ∙ (first_number-append (spelled_so spelling (written (take (i + 1) entries))) (spelled_so spelling (written (drop (i + 1) entries)))
      ∙ ap (λ x. or_else x (first_number (spelled_so spelling (written (drop (i + 1) entries)))))
      (ap (λ es. first_number (spelled_so spelling es)) (written_more entries i d within)
      ∙ (more (written (take i entries)) (get_or entries i d).0 (get_or entries i d).1.now spelling ∙ (λ j. or_else (before j) (cond (same j) (Some (get_or entries i d).0) None)))))))

  pub alike_turn : (known now : Option Alike) (alike : Bool) → known ≡ summary (small_so (map small spelling) (written (take i entries))) → alike ≡ same_up_to_case (get_or entries i d).1.now spelling
      → now ≡ cond alike (Some (one_more known (get_or entries i d).0)) known → now ≡ summary (small_so (map small spelling) (written (take (i + 1) entries)))
  alike_turn known now alike before is_alike is_now =
      is_now
      ∙ (by alike
      ∙ ((λ j. summary (small_so (map small spelling) (written (take i entries)) ++ cond (is_alike j) (((get_or entries i d).0, (get_or entries i d).1.now) ∷ []) []))
      ∙ ap summary (sym (ap (small_so (map small spelling)) (written_more entries i d within) ∙ filter-append (λ entry. same_bytes (map small entry.1) (map small spelling)) (written (take i entries)) (((get_or entries i d).0, (get_or entries i d).1.now) ∷ [])))))
    where
      by : (b : Bool) → cond b (Some (one_more known (get_or entries i d).0)) known ≡ summary (small_so (map small spelling) (written (take i entries)) ++ cond b (((get_or entries i d).0, (get_or entries i d).1.now) ∷ []) [])
      by true = ap (λ k. Some (one_more k (get_or entries i d).0)) before ∙ sym (summary_push (small_so (map small spelling) (written (take i entries))) ((get_or entries i d).0, (get_or entries i d).1.now))
      by false = before ∙ ap summary (sym (append-nil (small_so (map small spelling) (written (take i entries)))))

meant_first : (xs ys : List (ℕ × List ℕ)) (number : ℕ) → first_number xs ≡ Some number → meant_by (first_or_all xs ys) ≡ One number
meant_first [] ys number h = cc
meant_first (x ∷ xs) ys number h = cc

meant_else : (xs ys : List (ℕ × List ℕ)) → first_number xs ≡ None → meant_by (first_or_all xs ys) ≡ meant_in (summary ys)
meant_else [] [] h = refl
meant_else [] (y ∷ []) h = refl
meant_else [] (y ∷ (z ∷ ys)) h = refl
meant_else (x ∷ xs) ys h = cc

alike_where_same : (name spelling : List ℕ) → same_bytes name spelling ≡ true → same_up_to_case name spelling ≡ true
alike_where_same name spelling same = (bytes_eq-Decides (map small name) (map small spelling)).1 (ap (map small) ((bytes_eq-Decides name spelling).0 same))

-- names alike up to case, of names that are the same or that are compared up to case
pub alike_of_same : (name spelling : List ℕ) (same : Bool) → same ≡ same_bytes name spelling → same ≡ true → true ≡ same_up_to_case name spelling
alike_of_same name spelling same is_same holds = sym (alike_where_same name spelling (sym is_same ∙ holds))

-- what is spelled so is alike up to case
spelled_within : (spelling : List ℕ) (entries : List (ℕ × List ℕ)) → spelled_so spelling entries ≡ filter (λ entry. same_bytes entry.1 spelling) (small_so (map small spelling) entries)
spelled_within spelling [] = refl
spelled_within spelling (entry ∷ rest) = by (same_bytes entry.1 spelling) (same_up_to_case entry.1 spelling) refl refl (spelled_within spelling rest)
  where
    by : (b c : Bool) → same_bytes entry.1 spelling ≡ b → same_up_to_case entry.1 spelling ≡ c → spelled_so spelling rest ≡ filter (λ e. same_bytes e.1 spelling) (small_so (map small spelling) rest)
        → cond b (entry ∷ spelled_so spelling rest) (spelled_so spelling rest) ≡ filter (λ e. same_bytes e.1 spelling) (cond c (entry ∷ small_so (map small spelling) rest) (small_so (map small spelling) rest))
    by true true same alike h = ap (λ l. entry ∷ l) h ∙ sym (ap (λ t. cond t (entry ∷ filter (λ e. same_bytes e.1 spelling) (small_so (map small spelling) rest)) (filter (λ e. same_bytes e.1 spelling) (small_so (map small spelling) rest))) same)
    by true false same alike h = absurd (false≢true (sym alike ∙ alike_where_same entry.1 spelling same))
    by false true same alike h = h ∙ sym (ap (λ t. cond t (entry ∷ filter (λ e. same_bytes e.1 spelling) (small_so (map small spelling) rest)) (filter (λ e. same_bytes e.1 spelling) (small_so (map small spelling) rest))) same)
    by false false same alike h = h

-- what definitions mean of which at most one is alike
one_meant : (p : ℕ × List ℕ → Bool) (alike : List (ℕ × List ℕ)) → is_several (summary alike) ≡ false → meant_in (summary alike) ≡ meant_by (first_or_all (filter p alike) alike)
one_meant p [] h = refl
one_meant p (one ∷ []) h = by (p one)
  where
    by : (b : Bool) → One one.0 ≡ meant_by (first_or_all (cond b (one ∷ []) []) (one ∷ []))
    by true = refl
    by false = refl
one_meant p (one ∷ (two ∷ rest)) h = absurd (false≢true (sym h))

several_meant : (same alike : List (ℕ × List ℕ)) → is_several (summary alike) ≡ true → spelled_or_several (first_number same) ≡ meant_by (first_or_all same alike)
several_meant [] [] h = absurd (false≢true h)
several_meant [] (one ∷ []) h = absurd (false≢true h)
several_meant [] (one ∷ (two ∷ rest)) h = refl
several_meant (first ∷ same) alike h = refl

-- what a look at each definition finds
module _ (entries : List (ℕ × List ℕ)) (spelling : List ℕ) where
  pub meaning-spelled : (number : ℕ) → Some number ≡ first_number (spelled_so spelling entries) → One number ≡ meaning entries spelling
  meaning-spelled number h = sym (meant_first (spelled_so spelling entries) (small_so (map small spelling) entries) number (sym h))

  pub meaning-alike : (first : Option ℕ) → None ≡ first → first ≡ first_number (spelled_so spelling entries) → meant_in (summary (small_so (map small spelling) entries)) ≡ meaning entries spelling
  meaning-alike first none is_first = sym (meant_else (spelled_so spelling entries) (small_so (map small spelling) entries) (sym (none ∙ is_first)))

-- what the two tables find
module _ {S T : Type 0} (entries : List (ℕ × List ℕ)) (by_spelling : IndexMap (Bor (List ℕ)) ℕ S) (by_small : IndexMap Folded Alike T) (has : HasTables entries by_spelling by_small) (spelling : List ℕ)
    (known : Option Alike) (is_known : known ≡ at_small (map small spelling) by_small) where
  is_summary : known ≡ summary (small_so (map small spelling) entries)
  is_summary = is_known ∙ has.smalls (map small spelling)

  pub meaning-small : is_several known ≡ false → meant_in known ≡ meaning entries spelling
  meaning-small one =
      ap meant_in is_summary
      ∙ (one_meant (λ entry. same_bytes entry.1 spelling) (small_so (map small spelling) entries) (ap is_several (sym is_summary) ∙ one)
      ∙ ap (λ same. meant_by (first_or_all same (small_so (map small spelling) entries))) (sym (spelled_within spelling entries)))

  pub meaning-found : is_several known ≡ true → (number : Option ℕ) → number ≡ get_by (λ key. same_bytes spelling key.now) by_spelling → spelled_or_several number ≡ meaning entries spelling
  meaning-found several number is_number =
      ap spelled_or_several (is_number ∙ has.spellings (map small spelling) (ap is_several (sym is_known) ∙ several) spelling)
      ∙ several_meant (spelled_so spelling entries) (small_so (map small spelling) entries) (ap is_several (sym is_summary) ∙ several)
