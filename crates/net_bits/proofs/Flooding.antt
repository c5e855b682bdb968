-- the state of a flood, and what each turn of its loops makes of it
use Rattle.std.proofs.Common.{◌≡◌, ℕ, ◌+◌, ◌<◌, ◌++◌, List, [], ◌∷◌, Option, Some, None, length, get_or, set, refl, sym, ◌∙◌, subst, subst₂, inl, inr, arith, rules, Bool, true, below_more, get_or-set_same, All, length-set}
use Rattle.std.proofs.lemmas.List.{get_or_past, get_or_default, length_push}
use Rattle.std.proofs.lemmas.List.Elements.{All-cons, All-nil, All-head, All-tail, All-pop, All-push, All-weaker, All-contains}
use Rattle.std.proofs.lemmas.List.Sums.{sum_by_push}
use Rattle.std.proofs.lemmas.Bool.{cases_lt}
use Rattle.std.specs.Option.{is_some}
use Rattle.net_bits.specs.Flood.{AreMutual, number, IsNumbered, IsNext, unspent}
use Rattle.net_bits.proofs.Numbers.{kept, numbered-root, numbered-neighbour, numbered-pop, numbered-visited}
use Rattle.net_bits.proofs.Cost.{degree_of, owed, unnumbered, unnumbered-set, unspent-set}

pub record IsFlooding (lists : List (List ℕ)) (numbers : List (Option ℕ)) (root class : ℕ) (work : List ℕ) : Type 0 where
  pub len : length numbers ≡ length lists
  pub numbered : IsNumbered (IsNext lists) numbers (root + 1) (class + 1) work
  pub waiting : All (λ v. number numbers v ≡ Some class) work

pub number_below : (numbers : List (Option ℕ)) (v c : ℕ) → number numbers v ≡ Some c → v < length numbers
number_below numbers v c h =
    elim (cases_lt v (length numbers)) as (λ _. v < length numbers) [ inl l ↦ l | inr p ↦ let e = get_or_past numbers v None p in cc ]

pub flooding-root : (lists : List (List ℕ)) (numbers : List (Option ℕ)) (root class : ℕ) → length numbers ≡ length lists → root < length lists
    → number numbers root ≡ None → IsNumbered (IsNext lists) numbers root class []
    → IsFlooding lists (set numbers root (Some class)) root class (root ∷ [])
flooding-root lists numbers root class len in' none i = record {
  len = length-set numbers root (Some class) ∙ len;
  numbered = numbered-root (IsNext lists) numbers root class (omega arith) none i;
  waiting = All-cons (λ v. number (set numbers root (Some class)) v ≡ Some class) root [] (search (rules, get_or-set_same)) (All-nil (λ v. number (set numbers root (Some class)) v ≡ Some class));
}

pub flooding-pop : (lists : List (List ℕ)) (numbers : List (Option ℕ)) (root class : ℕ) (work : List ℕ) (v : ℕ)
    → IsFlooding lists numbers root class (work ++ v ∷ []) → IsFlooding lists numbers root class (v ∷ work)
flooding-pop lists numbers root class work v i =
    let P : ℕ → Type 0 = λ v. number numbers v ≡ Some class in
    let r = All-pop P (work ++ v ∷ []) work (Some v) refl i.waiting in record {
      len = i.len;
      numbered = numbered-pop (IsNext lists) numbers (root + 1) (class + 1) work v i.numbered;
      waiting = All-cons P v work r.1 r.0;
    }

pub flooding-more : (lists : List (List ℕ)) (numbers : List (Option ℕ)) (root class : ℕ) (v w : ℕ) (work : List ℕ)
    → AreMutual lists
    → IsNext lists v w → w < length lists → number numbers w ≡ None
    → IsFlooding lists numbers root class (v ∷ work) → IsFlooding lists (set numbers w (Some class)) root class (v ∷ (work ++ w ∷ []))
flooding-more lists numbers root class v w work each next in' none i =
    let inside : w < length numbers = omega (arith, i.len) in
    let P : ℕ → Type 0 = λ v. number (set numbers w (Some class)) v ≡ Some class in record {
      len = length-set numbers w (Some class) ∙ i.len;
      numbered = numbered-neighbour (IsNext lists) numbers (root + 1) class (v ∷ work) v w inside none (All-head (λ v. number numbers v ≡ Some class) v work i.waiting) next (each.both v w next) i.numbered;
      waiting = All-push P (v ∷ work) w
          (All-weaker (λ v. number numbers v ≡ Some class) P (λ x h. kept (IsNext lists) numbers w class inside none x class h) (v ∷ work) i.waiting)
          (get_or-set_same numbers w (Some class) None inside);
    }

-- all places of the list of `v` have been seen
pub flooding-visited : (lists : List (List ℕ)) (numbers : List (Option ℕ)) (root class : ℕ) (v : ℕ) (work : List ℕ)
    → ((k : ℕ) → k < length (get_or lists v []) → number numbers (get_or (get_or lists v []) k 0) ≡ Some class)
    → IsFlooding lists numbers root class (v ∷ work) → IsFlooding lists numbers root class work
flooding-visited lists numbers root class v work seen i =
    let P : ℕ → Type 0 = λ v. number numbers v ≡ Some class in record {
      len = i.len;
      numbered = numbered-visited (IsNext lists) numbers (root + 1) (class + 1) class work v (All-head P v work i.waiting)
          (λ x h. subst (λ t. number numbers t ≡ Some class) (get_or_default (get_or lists v []) h.0 0 x h.1 ∙ h.2) (seen h.0 h.1)) i.numbered;
      waiting = All-tail P v work i.waiting;
    }

pub flooding-below : (lists : List (List ℕ)) (numbers : List (Option ℕ)) (root class : ℕ) (v : ℕ) (work : List ℕ)
    → IsFlooding lists numbers root class (v ∷ work) → v < length lists
flooding-below lists numbers root class v work i =
    omega (arith, i.len, number_below numbers v class (All-head (λ v. number numbers v ≡ Some class) v work i.waiting))

pub next_at : (lists : List (List ℕ)) (v k w : ℕ) → k < length (get_or lists v []) → w ≡ get_or (get_or lists v []) k 0 → IsNext lists v w
next_at lists v k w h e = (k, h, get_or_default (get_or lists v []) k w 0 h ∙ sym e)

pub some_of : (o : Option ℕ) (b : Bool) → is_some o ≡ b → b ≡ true → (c : ℕ) × (o ≡ Some c)
some_of None b e f = absurd (cc)
some_of (Some c) b e f = (c, refl)

-- a neighbour that has a number has the number of the class
pub flooding-same : (lists : List (List ℕ)) (numbers : List (Option ℕ)) (root class : ℕ) (v w c : ℕ) (work : List ℕ)
    → AreMutual lists
    → IsNext lists v w → number numbers w ≡ Some c
    → IsFlooding lists numbers root class (v ∷ work) → number numbers w ≡ Some class
flooding-same lists numbers root class v w c work each next h i =
    let P : ℕ → Type 0 = λ x. number numbers x ≡ Some class in
    elim (i.numbered.closed w c h) as (λ _. number numbers w ≡ Some class) [
      | inl m ↦ All-contains P (v ∷ work) w i.waiting m
      | inr n ↦ let a = n v (each.both v w next) in let b = All-head P v work i.waiting in cc
    ]

-- a number in hand, with the places of its list that have been seen; `total` and `many` are what may still be spent on those that wait or have no class, and how many they are
pub record IsVisiting (lists : List (List ℕ)) (numbers : List (Option ℕ)) (root class v place : ℕ) (work : List ℕ) (total many : ℕ) : Type 0 where
  pub flooding : IsFlooding lists numbers root class (v ∷ work)
  pub seen : (k : ℕ) → k < place → number numbers (get_or (get_or lists v []) k 0) ≡ Some class
  pub spends : owed lists work + unspent numbers lists ≡ total
  pub waits : length work + unnumbered numbers ≡ many

module _ (lists : List (List ℕ)) (numbers : List (Option ℕ)) (root class v w place : ℕ) (work : List ℕ) (total many : ℕ) (each : AreMutual lists)
    (h : place < length (get_or lists v [])) (e : w ≡ get_or (get_or lists v []) place 0) (i : IsVisiting lists numbers root class v place work total many) where
  -- one more place of the list of `v`, where the node at it had no number
  visiting-none : number numbers w ≡ None → IsVisiting lists (set numbers w (Some class)) root class v (place + 1) (work ++ w ∷ []) total many
  visiting-none none =
      let next = next_at lists v place w h e in
      let inside : w < length numbers = omega (arith, i.flooding.len, each.below v w next) in record {
        flooding = flooding-more lists numbers root class v w work each next (each.below v w next) none i.flooding;
        seen = below_more (λ k. number (set numbers w (Some class)) (get_or (get_or lists v []) k 0) ≡ Some class) place
            (λ k l. kept (IsNext lists) numbers w class inside none (get_or (get_or lists v []) k 0) class (i.seen k l))
            (subst (λ x. number (set numbers w (Some class)) x ≡ Some class) e (get_or-set_same numbers w (Some class) None inside));
        spends = omega (arith, i.spends, sum_by_push (degree_of lists) work w, unspent-set numbers lists w class inside i.flooding.len none);
        waits = omega (arith, i.waits, length_push work w, unnumbered-set numbers w class inside none);
      }

  -- and where it had one
  visiting-some : (c : ℕ) → number numbers w ≡ Some c → IsVisiting lists numbers root class v (place + 1) work total many
  visiting-some c known = record {
    flooding = i.flooding;
    seen = below_more (λ k. number numbers (get_or (get_or lists v []) k 0) ≡ Some class) place i.seen
        (subst (λ x. number numbers x ≡ Some class) e (flooding-same lists numbers root class v w c work each (next_at lists v place w h e) known i.flooding));
    spends = i.spends;
    waits = i.waits;
  }

  pub visiting-turn : (new : List (Option ℕ)) (waits : List ℕ) → ((c : ℕ) → number numbers w ≡ Some c → (new ≡ numbers) × (waits ≡ work))
      → (number numbers w ≡ None → (new ≡ set numbers w (Some class)) × (waits ≡ work ++ w ∷ [])) → IsVisiting lists new root class v (place + 1) waits total many
  visiting-turn new waits known unknown = by (number numbers w) refl
    where
      by : (o : Option ℕ) → number numbers w ≡ o → IsVisiting lists new root class v (place + 1) waits total many
      by None none = subst₂ (λ ns ws. IsVisiting lists ns root class v (place + 1) ws total many) (sym (unknown none).0) (sym (unknown none).1) (visiting-none none)
      by (Some c) some = subst₂ (λ ns ws. IsVisiting lists ns root class v (place + 1) ws total many) (sym (known c some).0) (sym (known c some).1) (visiting-some c some)

pub flooding-popped : (lists : List (List ℕ)) (numbers : List (Option ℕ)) (root class : ℕ) (old work : List ℕ) (v n : ℕ)
    → old ≡ work ++ v ∷ [] → n ≡ v → IsFlooding lists numbers root class old → IsFlooding lists numbers root class (n ∷ work)
flooding-popped lists numbers root class old work v n e s i =
    subst (λ t. IsFlooding lists numbers root class (t ∷ work)) (sym s)
    (flooding-pop lists numbers root class work v (subst (λ t. IsFlooding lists numbers root class t) e i))
