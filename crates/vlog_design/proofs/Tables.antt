-- A look-up in a table is a look-up in the list of its signals.
use Rattle.std.proofs.Common.{◌≡◌, ◌∙◌, ◌+◌, ◌-◌, ◌<◌, ◌≤◌, ◌++◌, ap, drop, get_or, length, slice_get, suc, zero, sym, arith, ℕ, Bool, true, false, cond, List, [], ◌∷◌, Option, None, Some, is_none, is_some, bytes_eq, find, option_map, refl, unwrap_or}
use Rattle.std.proofs.Math.ListN.{drop_of_length-le}
use Rattle.std.proofs.lemmas.List.{drop_more}
use Rattle.std.proofs.lemmas.Option.{slice_get-map}
use Rattle.std.specs.Borrow.{Bor}
use Rattle.std.specs.Map.{lookup}
use Rattle.indexmap.specs.IndexMap.{insert_entry}
use Rattle.vlog_design.specs.Names.{Signal, signal_named}
use Rattle.vlog_design.specs.declared.signals.Slot.{Slot}
use Rattle.vlog_design.specs.Tables.{signal_of, signals_of}

pub found : (entries : List (Bor (List ℕ) × Slot)) (test : Bor (List ℕ) → Bool) (name : List ℕ) → ((k : Bor (List ℕ)) → test k ≡ bytes_eq name k.now) →
    lookup test entries ≡ signal_named (signals_of entries) name
unfolding signal_named
found [] test name same = refl
found (e ∷ es) test name same = rw (same e.0) (by (bytes_eq name e.0.now) (found es test name same))
  where
    by : (b : Bool) → lookup test es ≡ signal_named (signals_of es) name → cond b (Some e.1) (lookup test es) ≡ option_map (λ (s : Signal). s.slot) (cond b (Some (signal_of e)) (find (λ (s : Signal). bytes_eq name s.name) (signals_of es)))
    by true h = refl
    by false h = h

-- a look-up in a list is one at its first signal, and else in the others
named_one : (e : Bor (List ℕ) × Slot) (es : List (Bor (List ℕ) × Slot)) (name : List ℕ) →
    signal_named (signals_of (e ∷ es)) name ≡ cond (bytes_eq name e.0.now) (Some e.1) (signal_named (signals_of es) name)
unfolding signal_named
named_one e es name = by (bytes_eq name e.0.now)
  where
    by : (t : Bool) → option_map (λ (s : Signal). s.slot) (cond t (Some (signal_of e)) (find (λ (s : Signal). bytes_eq name s.name) (signals_of es))) ≡ cond t (Some e.1) (signal_named (signals_of es) name)
    by true = refl
    by false = refl

pub named_next : (entries : List (Bor (List ℕ) × Slot)) (i : ℕ) (e : Bor (List ℕ) × Slot) (name : List ℕ) (same : Bool) → i < length entries → e ≡ get_or entries i e →
    same ≡ bytes_eq name e.0.now →
    signal_named (signals_of (drop i entries)) name ≡ cond same (Some e.1) (signal_named (signals_of (drop (i + 1) entries)) name)
named_next entries i e name same lt is told =
    let rest = drop (i + 1) entries in
    ap (λ es. signal_named (signals_of es) name) (drop_more entries i e lt ∙ ap (λ x. x ∷ rest) (sym is))
    ∙ (named_one e rest name ∙ ap (λ b. cond b (Some e.1) (signal_named (signals_of rest) name)) (sym told))

none_named : (name : List ℕ) → signal_named [] name ≡ None
unfolding signal_named
none_named name = refl

pub named_last : (entries : List (Bor (List ℕ) × Slot)) (i : ℕ) (name : List ℕ) → length entries ≤ i → signal_named (signals_of (drop i entries)) name ≡ None
named_last entries i name past = ap (λ es. signal_named (signals_of es) name) (drop_of_length-le entries past) ∙ none_named name

pub none_of_is_some : {A : Type 0} (o : Option A) → is_some o ≡ false → o ≡ None
none_of_is_some None h = refl
none_of_is_some (Some x) h = cc

-- a look-up in one list behind another is one in the first where that has the name, and else in the second
pub found_first : (a b : List (Bor (List ℕ) × Slot)) (name : List ℕ) (slot : Slot) → signal_named (signals_of a) name ≡ Some slot →
    signal_named (signals_of (a ++ b)) name ≡ Some slot
unfolding signal_named
found_first [] b name slot there = cc
found_first (e ∷ es) b name slot there = by (bytes_eq name e.0.now) (found_first es b name slot) there
  where
    by : (t : Bool) → (signal_named (signals_of es) name ≡ Some slot → signal_named (signals_of (es ++ b)) name ≡ Some slot) →
        option_map (λ (s : Signal). s.slot) (cond t (Some (signal_of e)) (find (λ (s : Signal). bytes_eq name s.name) (signals_of es))) ≡ Some slot →
        option_map (λ (s : Signal). s.slot) (cond t (Some (signal_of e)) (find (λ (s : Signal). bytes_eq name s.name) (signals_of (es ++ b)))) ≡ Some slot
    by true rest there = there
    by false rest there = rest there

pub found_behind : (a b : List (Bor (List ℕ) × Slot)) (name : List ℕ) → signal_named (signals_of a) name ≡ None →
    signal_named (signals_of (a ++ b)) name ≡ signal_named (signals_of b) name
unfolding signal_named
found_behind [] b name missing = refl
found_behind (e ∷ es) b name missing = by (bytes_eq name e.0.now) (found_behind es b name) missing
  where
    by : (t : Bool) → (signal_named (signals_of es) name ≡ None → signal_named (signals_of (es ++ b)) name ≡ signal_named (signals_of b) name) →
        option_map (λ (s : Signal). s.slot) (cond t (Some (signal_of e)) (find (λ (s : Signal). bytes_eq name s.name) (signals_of es))) ≡ None →
        option_map (λ (s : Signal). s.slot) (cond t (Some (signal_of e)) (find (λ (s : Signal). bytes_eq name s.name) (signals_of (es ++ b)))) ≡ signal_named (signals_of b) name
    by true rest missing = cc
    by false rest missing = rest missing

pub found_missing : (a b : List (Bor (List ℕ) × Slot)) (name : List ℕ) → signal_named (signals_of (a ++ b)) name ≡ None → signal_named (signals_of b) name ≡ None
found_missing a b name missing = by (signal_named (signals_of a) name) refl
  where
    by : (o : Option Slot) → signal_named (signals_of a) name ≡ o → signal_named (signals_of b) name ≡ None
    by (Some slot) is = let both : Some slot ≡ None = sym (found_first a b name slot is) ∙ missing in cc
    by None is = sym (found_behind a b name is) ∙ missing

-- what stands at a place behind the first of two lists
get_behind : {X : Type 0} (a b : List X) (i : ℕ) → length a ≤ i → slice_get (a ++ b) i ≡ slice_get b (i - length a)
get_behind [] b i behind = ap (slice_get b) (omega arith)
get_behind (x ∷ a) b zero behind = absurd (omega (arith, behind))
get_behind (x ∷ a) b (suc i) behind = get_behind a b i (omega (arith, behind)) ∙ ap (slice_get b) (omega arith)

pub signal_behind : (a b : List (Bor (List ℕ) × Slot)) (i : ℕ) (e : Bor (List ℕ) × Slot) → length a ≤ i → slice_get b (i - length a) ≡ Some e →
    Some (signal_of e) ≡ slice_get (signals_of (a ++ b)) i
signal_behind a b i e behind at = sym (slice_get-map signal_of (a ++ b) i ∙ ap (option_map signal_of) (get_behind a b i behind ∙ at))

-- two names are the same
abbrev same_name : Bor (List ℕ) → Bor (List ℕ) → Bool
same_name a b = bytes_eq a.now b.now

insert_alike : (eq : Bor (List ℕ) → Bor (List ℕ) → Bool) → ((a b : Bor (List ℕ)) → eq a b ≡ same_name a b) → (es : List (Bor (List ℕ) × Slot)) (key : Bor (List ℕ)) (slot : Slot) →
    insert_entry eq es key slot ≡ insert_entry same_name es key slot
insert_alike eq alike [] key slot = refl
insert_alike eq alike (e ∷ es) key slot = λ j. cond (alike key e.0 j) ((e.0, slot) ∷ es) (e ∷ insert_alike eq alike es key slot j)

inserted_again : (es : List (Bor (List ℕ) × Slot)) (key : Bor (List ℕ)) (slot known : Slot) → signal_named (signals_of es) key.now ≡ Some known →
    insert_entry same_name (insert_entry same_name es key slot) key known ≡ es
inserted_again [] key slot known there = let none : None ≡ Some known = sym (none_named key.now) ∙ there in cc
inserted_again (e ∷ es) key slot known there = by (same_name key e.0) refl (inserted_again es key slot known) (sym (named_one e es key.now) ∙ there)
  where
    by : (t : Bool) → same_name key e.0 ≡ t → (signal_named (signals_of es) key.now ≡ Some known → insert_entry same_name (insert_entry same_name es key slot) key known ≡ es) →
        cond t (Some e.1) (signal_named (signals_of es) key.now) ≡ Some known →
        insert_entry same_name (cond t ((e.0, slot) ∷ es) (e ∷ insert_entry same_name es key slot)) key known ≡ e ∷ es
    by true is rest there = ap (λ b. cond b ((e.0, known) ∷ es) ((e.0, slot) ∷ insert_entry same_name es key known)) is ∙ ap (λ (o : Option Slot). (e.0, unwrap_or o known) ∷ es) (sym there)
    by false is rest there = ap (λ b. cond b ((e.0, known) ∷ insert_entry same_name es key slot) (e ∷ insert_entry same_name (insert_entry same_name es key slot) key known)) is ∙ ap (λ l. e ∷ l) (rest there)

-- a name that was there and gets back what it stood for leaves the entries as they were
pub put_back : (eq eq' : Bor (List ℕ) → Bor (List ℕ) → Bool) → ((a b : Bor (List ℕ)) → eq a b ≡ same_name a b) → ((a b : Bor (List ℕ)) → eq' a b ≡ same_name a b) →
    (es now next : List (Bor (List ℕ) × Slot)) (key : Bor (List ℕ)) (slot known : Slot) → now ≡ insert_entry eq es key slot → next ≡ insert_entry eq' now key known →
    signal_named (signals_of es) key.now ≡ Some known → next ≡ es
put_back eq eq' alike alike' es now next key slot known first again there =
    again
    ∙ (insert_alike eq' alike' now key known
    ∙ (ap (λ l. insert_entry same_name l key known) (first ∙ insert_alike eq alike es key slot) ∙ inserted_again es key slot known there))

-- a name that stands for something is not missing, and one that stands for nothing is
pub is_there : {A : Type 0} (o : Option A) (x : A) → o ≡ Some x → false ≡ is_none o
is_there o x is = ap is_none (sym is)

pub is_missing : {A : Type 0} (o : Option A) → o ≡ None → true ≡ is_none o
is_missing o is = ap is_none (sym is)

-- a name that the first of two lists has is in both behind one another
pub there_first : (a b : List (Bor (List ℕ) × Slot)) (name : List ℕ) → is_some (signal_named (signals_of a) name) ≡ true →
    false ≡ is_none (signal_named (signals_of (a ++ b)) name)
there_first a b name there = by (signal_named (signals_of a) name) refl there
  where
    by : (o : Option Slot) → signal_named (signals_of a) name ≡ o → is_some o ≡ true → false ≡ is_none (signal_named (signals_of (a ++ b)) name)
    by None is there = cc
    by (Some slot) is there = is_there _ slot (found_first a b name slot is)
