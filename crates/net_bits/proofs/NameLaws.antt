-- sets of names by digests
use Rattle.std.proofs.Common.{◌≡◌, ◌≢◌, ℕ, zero, suc, ◌+◌, ◌<◌, ◌≤◌, ◌++◌, ◌||◌, inl, inr, Bool, true, false, cond, List, [], ◌∷◌, Option, Some, None, length, get_or, map, refl, sym, ◌∙◌, ap, subst, arith, nat_eq}
use Rattle.std.specs.List.{list_any}
use Rattle.std.proofs.lemmas.List.{map-append, get_or-map, length-map, length_push, get_or_append_left, get_or_push, get_or_default}
use Rattle.std.proofs.lemmas.List.Folds.{list_any_none}
use Rattle.std.proofs.lemmas.Bool.{cases_eq, cases_lt, eqb-true, eq-eqb}
use Rattle.std.proofs.Math.Bool.{or-true}
use Rattle.indexmap.specs.IndexMap.{IndexMap, get}
use Rattle.net_bits.specs.Names.{NameSet, alike, has_name}
use Rattle.net_bits.specs.declared.names.Entry.{Entry}
use Rattle.net_bits.specs.NameTables.{IsLast, HasLinks, digest_of, digests}
use Rattle.net_bits.proofs.CallerLaws.{alike_digest}

-- how far a place is from the start
abbrev pub after : Option ℕ → ℕ
after None = 0
after (Some place) = place + 1

-- no name from some place on is alike, and the place at hand is the last one before it with the name's digest
pub record IsSeeking (set : NameSet) (name : List ℕ) (place : Option ℕ) : Type 0 where
  pub bound : ℕ
  pub is_last : IsLast (digests set) (digest_of set.up_to_case name) bound place
  pub within : bound ≤ length set.names
  pub none_alike : (k : ℕ) → bound ≤ k → k < length set.names → alike set.up_to_case name (get_or set.names k []) ≡ false

get_or-append-left : {X : Type 0} (xs ys : List X) (i : ℕ) (d : X) → i < length xs → get_or (xs ++ ys) i d ≡ get_or xs i d
get_or-append-left xs ys i d h = get_or_append_left xs ys d i h

get_or-push : {X : Type 0} (xs : List X) (y d : X) → get_or (xs ++ y ∷ []) (length xs) d ≡ y
get_or-push xs y d = get_or_push xs y d (length xs) refl

-- names with other digests are not alike
unlike : (c : Bool) (a b : List ℕ) → digest_of c b ≢ digest_of c a → alike c a b ≡ false
unlike c a b apart = by (alike c a b) refl
  where
    by : (t : Bool) → alike c a b ≡ t → t ≡ false
    by true e = absurd (apart (sym (alike_digest c a b e)))
    by false e = refl

digest_at : (set : NameSet) (k : ℕ) → k < length set.names → get_or (digests set) k 0 ≡ digest_of set.up_to_case (get_or set.names k [])
digest_at set k h = get_or-map (digest_of set.up_to_case) set.names k [] 0 h

found : (p : List ℕ → Bool) (xs : List (List ℕ)) (i : ℕ) → i < length xs → p (get_or xs i []) ≡ true → list_any p xs ≡ true
found p [] i h t = absurd (omega arith)
found p (x ∷ xs) zero h t = ap (λ b. b || list_any p xs) t
found p (x ∷ xs) (suc i) h t = ap (λ b. p x || b) (found p xs i (omega arith) t) ∙ or-true (p x)

module _ (set : NameSet) (name : List ℕ) where
  pub found_name : (i : ℕ) → i < length set.names → alike set.up_to_case name (get_or set.names i []) ≡ true → has_name set name ≡ true
  found_name i h t = found (alike set.up_to_case name) set.names i h t

  pub seeking_start : (place : Option ℕ) → IsLast (digests set) (digest_of set.up_to_case name) (length set.names) place → IsSeeking set name place
  seeking_start place last = record { bound = length set.names; is_last = last; within = omega arith; none_alike = λ k h l. absurd (omega arith) }

  pub seeking_within : (at : ℕ) → IsSeeking set name (Some at) → at < length set.names
  seeking_within at i = omega (arith, i.is_last.0, i.within)

  -- the name at hand is not alike
  pub seeking_step : (at : ℕ) (earlier : Option ℕ) → IsSeeking set name (Some at) → alike set.up_to_case name (get_or set.names at []) ≡ false
      → IsLast (digests set) (get_or (digests set) at 0) at earlier → IsSeeking set name earlier
  seeking_step at earlier i other last = record {
    bound = at;
    is_last = subst (λ d. IsLast (digests set) d at earlier) i.is_last.1 last;
    within = omega (arith, i.is_last.0, i.within);
    none_alike = λ k h l. elim (cases_eq k at) as (λ _. alike set.up_to_case name (get_or set.names k []) ≡ false) [
      | inl e ↦ subst (λ z. alike set.up_to_case name (get_or set.names z []) ≡ false) (sym e) other
      | inr ne ↦ elim (cases_lt k i.bound) as (λ _. alike set.up_to_case name (get_or set.names k []) ≡ false) [
        | inl b ↦ unlike set.up_to_case name (get_or set.names k []) (λ e. i.is_last.2 k (omega (arith, ne)) b (digest_at set k l ∙ e))
        | inr b ↦ i.none_alike k b l
      ]
    ];
  }

  pub seeking_end : IsSeeking set name None → has_name set name ≡ false
  seeking_end i = list_any_none (alike set.up_to_case name) set.names
      (λ k d l. subst (λ n. alike set.up_to_case name n ≡ false) (get_or_default set.names k [] d l)
      (elim (cases_lt k i.bound) as (λ _. alike set.up_to_case name (get_or set.names k []) ≡ false) [
        | inl b ↦ unlike set.up_to_case name (get_or set.names k []) (λ e. i.is_last k b (digest_at set k l ∙ e))
        | inr b ↦ i.none_alike k b l
      ]))

last_kept : (all : List ℕ) (x digest bound : ℕ) (o : Option ℕ) → bound ≤ length all → IsLast all digest bound o → IsLast (all ++ x ∷ []) digest bound o
last_kept all x digest bound None h last = λ k l e. last k l (sym (get_or-append-left all (x ∷ []) k 0 (omega arith)) ∙ e)
last_kept all x digest bound (Some place) h last = (
  last.0,
  get_or-append-left all (x ∷ []) place 0 (omega (arith, last.0)) ∙ last.1,
  λ k g l e. last.2 k g l (sym (get_or-append-left all (x ∷ []) k 0 (omega arith)) ∙ e),
)

last_more : (all : List ℕ) (x digest : ℕ) (o : Option ℕ) → x ≢ digest → IsLast all digest (length all) o → IsLast (all ++ x ∷ []) digest (length all + 1) o
last_more all x digest None apart last = λ k l e. elim (cases_lt k (length all)) as (λ _. ⊥) [
  | inl b ↦ last k b (sym (get_or-append-left all (x ∷ []) k 0 b) ∙ e)
  | inr b ↦ apart (sym (get_or-push all x 0) ∙ (ap (λ n. get_or (all ++ x ∷ []) n 0) (let s : length all ≡ k = omega arith in s) ∙ e))
]
last_more all x digest (Some place) apart last = (
  omega (arith, last.0),
  get_or-append-left all (x ∷ []) place 0 last.0 ∙ last.1,
  λ k g l e. elim (cases_lt k (length all)) as (λ _. ⊥) [
    | inl b ↦ last.2 k g b (sym (get_or-append-left all (x ∷ []) k 0 b) ∙ e)
    | inr b ↦ apart (sym (get_or-push all x 0) ∙ (ap (λ n. get_or (all ++ x ∷ []) n 0) (let s : length all ≡ k = omega arith in s) ∙ e))
  ],
)

-- one more name, where the last place of its digest was `o`
pub links_push : {S : Type 0} (set : NameSet) (name : List ℕ) (earlier : List (Option ℕ)) (old new : IndexMap ℕ ℕ S) (o : Option ℕ) → HasLinks set earlier old
    → o ≡ get nat_eq old (digest_of set.up_to_case name) → ((q : ℕ) → get nat_eq new q ≡ cond (nat_eq (digest_of set.up_to_case name) q) (Some (length set.names)) (get nat_eq old q))
    → HasLinks (record { up_to_case = set.up_to_case; names = set.names ++ name ∷ [] }) (earlier ++ o ∷ []) new
links_push set name earlier old new o links is_o updates =
    let d = digest_of set.up_to_case name in
    let len : length (digests set) ≡ length set.names = length-map set.names (digest_of set.up_to_case) in
    let all : map (digest_of set.up_to_case) (set.names ++ name ∷ []) ≡ digests set ++ d ∷ [] = map-append (digest_of set.up_to_case) set.names (name ∷ []) in
    record {
      len = length_push earlier o ∙ (ap (λ n. n + 1) links.len ∙ sym (length_push set.names name));
      latest_is = λ q.
          subst (λ t. IsLast t q (length (set.names ++ name ∷ [])) (get nat_eq new q)) (sym all)
          (subst (λ n. IsLast (digests set ++ d ∷ []) q n (get nat_eq new q)) (ap (λ n. n + 1) len ∙ sym (length_push set.names name))
          (subst (λ r. IsLast (digests set ++ d ∷ []) q (length (digests set) + 1) r) (sym (updates q))
          (latest_by q (nat_eq d q) refl len)));
      earlier_is = λ place h. elim (cases_lt place (length set.names)) as (λ _. IsLast (map (digest_of set.up_to_case) (set.names ++ name ∷ [])) (get_or (map (digest_of set.up_to_case) (set.names ++ name ∷ [])) place 0) place (get_or (earlier ++ o ∷ []) place None)) [
        | inl l ↦
            subst (λ t. IsLast t (get_or t place 0) place (get_or (earlier ++ o ∷ []) place None)) (sym all)
            (subst (λ r. IsLast (digests set ++ d ∷ []) (get_or (digests set ++ d ∷ []) place 0) place r) (sym (get_or-append-left earlier (o ∷ []) place None (omega (arith, l, links.len))))
            (subst (λ q. IsLast (digests set ++ d ∷ []) q place (get_or earlier place None)) (sym (get_or-append-left (digests set) (d ∷ []) place 0 (omega (arith, l, len))))
            (last_kept (digests set) d (get_or (digests set) place 0) place (get_or earlier place None) (omega (arith, l, len)) (links.earlier_is place l))))
        | inr g ↦
            let at : length set.names ≡ place = omega (arith, g, h, length_push set.names name) in
            let mine : get_or (digests set ++ d ∷ []) (length set.names) 0 ≡ d = ap (λ n. get_or (digests set ++ d ∷ []) n 0) (sym len) ∙ get_or-push (digests set) d 0 in
            let own : get_or (earlier ++ o ∷ []) (length set.names) None ≡ o = ap (λ n. get_or (earlier ++ o ∷ []) n None) (sym links.len) ∙ get_or-push earlier o None in
            subst (λ n. IsLast (map (digest_of set.up_to_case) (set.names ++ name ∷ [])) (get_or (map (digest_of set.up_to_case) (set.names ++ name ∷ [])) n 0) n (get_or (earlier ++ o ∷ []) n None)) at
            (subst (λ t. IsLast t (get_or t (length set.names) 0) (length set.names) (get_or (earlier ++ o ∷ []) (length set.names) None)) (sym all)
            (subst (λ r. IsLast (digests set ++ d ∷ []) (get_or (digests set ++ d ∷ []) (length set.names) 0) (length set.names) r) (sym own)
            (subst (λ q. IsLast (digests set ++ d ∷ []) q (length set.names) o) (sym mine)
            (last_kept (digests set) d d (length set.names) o (omega (arith, len)) (subst (λ r. IsLast (digests set) d (length set.names) r) (sym is_o) (links.latest_is d))))))
      ];
    }
  where
    latest_by : (q : ℕ) (t : Bool) → nat_eq (digest_of set.up_to_case name) q ≡ t → length (digests set) ≡ length set.names
        → IsLast (digests set ++ digest_of set.up_to_case name ∷ []) q (length (digests set) + 1) (cond t (Some (length set.names)) (get nat_eq old q))
    latest_by q true e len = (
      omega (arith, len),
      ap (λ n. get_or (digests set ++ digest_of set.up_to_case name ∷ []) n 0) (sym len) ∙ (get_or-push (digests set) (digest_of set.up_to_case name) 0 ∙ eqb-true (digest_of set.up_to_case name) q e),
      λ k g l. absurd (omega (arith, len, g, l)),
    )
    latest_by q false e len = last_more (digests set) (digest_of set.up_to_case name) q (get nat_eq old q)
        (λ s. let t = eq-eqb (digest_of set.up_to_case name) q s in cc)
        (subst (λ n. IsLast (digests set) q n (get nat_eq old q)) (sym len) (links.latest_is q))

-- the name and the link of an entry, among those of all
pub entry_name : (entries : List Entry) (at : ℕ) (e : Entry) → at < length entries → e ≡ get_or entries at e → get_or (map (λ (entry : Entry). entry.name) entries) at [] ≡ e.name
entry_name entries at e h is = get_or-map (λ (entry : Entry). entry.name) entries at e [] h ∙ ap (λ (entry : Entry). entry.name) (sym is)

pub entry_earlier : (entries : List Entry) (at : ℕ) (e : Entry) → at < length entries → e ≡ get_or entries at e → get_or (map (λ (entry : Entry). entry.earlier) entries) at None ≡ e.earlier
entry_earlier entries at e h is = get_or-map (λ (entry : Entry). entry.earlier) entries at e None h ∙ ap (λ (entry : Entry). entry.earlier) (sym is)

-- the last place before another is nearer to the start
pub after-le : (all : List ℕ) (digest bound : ℕ) (o : Option ℕ) → IsLast all digest bound o → after o ≤ bound
after-le all digest bound None last = omega arith
after-le all digest bound (Some place) last = omega (arith, last.0)

-- a set whose entries are these
abbrev pub set_of : Bool → List Entry → NameSet
set_of up_to_case entries = record { up_to_case = up_to_case; names = map (λ entry. entry.name) entries }

abbrev pub links_in : List Entry → List (Option ℕ)
links_in entries = map (λ entry. entry.earlier) entries

module _ {S : Type 0} (c : Bool) (entries : List Entry) (latest : IndexMap ℕ ℕ S) (links : HasLinks (set_of c entries) (links_in entries) latest) (name : List ℕ) (at : ℕ) (seeking : IsSeeking (set_of c entries) name (Some at)) (e : Entry) (is : e ≡ get_or entries at e) where
  in_entries : at < length entries
  in_entries = omega (arith, seeking_within (set_of c entries) name at seeking, length-map entries (λ (entry : Entry). entry.name))

  earlier_here : IsLast (digests (set_of c entries)) (get_or (digests (set_of c entries)) at 0) at e.earlier
  earlier_here = subst (λ o. IsLast (digests (set_of c entries)) (get_or (digests (set_of c entries)) at 0) at o) (entry_earlier entries at e in_entries is) (links.earlier_is at (seeking_within (set_of c entries) name at seeking))

  pub seek_found : alike c name e.name ≡ true → has_name (set_of c entries) name ≡ true
  seek_found t = found_name (set_of c entries) name at (seeking_within (set_of c entries) name at seeking) (ap (alike c name) (entry_name entries at e in_entries is) ∙ t)

  pub seek_on : alike c name e.name ≡ false → IsSeeking (set_of c entries) name e.earlier
  seek_on f = seeking_step (set_of c entries) name at e.earlier seeking (ap (alike c name) (entry_name entries at e in_entries is) ∙ f) earlier_here

  pub seek_less : after e.earlier < after (Some at)
  seek_less = omega (arith, after-le (digests (set_of c entries)) (get_or (digests (set_of c entries)) at 0) at e.earlier earlier_here)

pub entries_push : {S : Type 0} (c : Bool) (entries pushed : List Entry) (e : Entry) (old new : IndexMap ℕ ℕ S) → pushed ≡ entries ++ e ∷ [] → HasLinks (set_of c entries) (links_in entries) old
    → e.earlier ≡ get nat_eq old (digest_of c e.name) → ((q : ℕ) → get nat_eq new q ≡ cond (nat_eq (digest_of c e.name) q) (Some (length entries)) (get nat_eq old q))
    → HasLinks (set_of c pushed) (links_in pushed) new
entries_push c entries pushed e old new is_pushed links is_earlier updates =
    let names = map-append (λ (entry : Entry). entry.name) entries (e ∷ []) in
    let earlier = map-append (λ (entry : Entry). entry.earlier) entries (e ∷ []) in
    let len = length-map entries (λ (entry : Entry). entry.name) in
    subst (λ t. HasLinks (set_of c t) (links_in t) new) (sym is_pushed)
    (subst (λ ns. HasLinks (record { up_to_case = c; names = ns }) (links_in (entries ++ e ∷ [])) new) (sym names)
    (subst (λ os. HasLinks (record { up_to_case = c; names = map (λ entry. entry.name) entries ++ e.name ∷ [] }) os new) (sym earlier)
    (links_push (set_of c entries) e.name (links_in entries) old new e.earlier links is_earlier
    (λ q. updates q ∙ ap (λ n. cond (nat_eq (digest_of c e.name) q) (Some n) (get nat_eq old q)) (sym len)))))
