-- One more turn of a loop that gathers a list.
use Rattle.std.proofs.Common.{◌≡◌, ℕ, zero, suc, ◌+◌, ◌<◌, ◌≤◌, Bool, true, false, not, cond, List, [], ◌∷◌, ◌++◌, Option, None, Some, bytes_eq, drop, filter, flat_map, get_or, length, map, nat_lt, refl, sym, ap, ◌∙◌, add-one, append-nil, append_assoc, drop-cons, arith, if◌then◌else◌}
use Rattle.std.specs.Prelude.{option_to_list, position, slice_get}
use Rattle.std.specs.Borrow.{Bor}
use Rattle.std.specs.List.{position_or_len, range_with_len}
use Rattle.std.proofs.lemmas.Bool.{ltb-false}
use Rattle.std.proofs.lemmas.List.{map-append}
use Rattle.std.proofs.lemmas.List.FromFn.{map-range_with_len_more}
use Rattle.net_hier.specs.declared.cells.HNet.{HNet}
use Rattle.vlog_design.specs.Names.{Name, Signal}
use Rattle.vlog_values.specs.declared.statement.DefSet.{DefSet}
use Rattle.vlog_cells.specs.Groups.{under}
use Rattle.vlog_cells.specs.Instances.{sets_for, sets_of, sets_under}
use Rattle.vlog_cells.specs.Nets.{late_net, late_nets}
use Rattle.vlog_cells.specs.Ports.{Said, said, said_in_names, said_of}
use Rattle.vlog_cells.specs.declared.mentions.Mention.{Mention}

-- the element at a place, where there is one, and then those behind it
from_place : {A B : Type 0} (f : A → List B) (xs : List A) (i : ℕ) → flat_map f (option_to_list (slice_get xs i)) ++ flat_map f (drop (suc i) xs) ≡ flat_map f (drop i xs)
from_place f [] zero = refl
from_place f [] (suc i) = refl
from_place f (x ∷ xs) zero = ap (λ l. l ++ flat_map f xs) (append-nil (f x))
from_place f (x ∷ xs) (suc i) = from_place f xs i

pub late_turn : (from : ℕ) (table : List Signal) (i : ℕ) (start now new : List HNet) → now ++ late_nets from (drop i table) ≡ start → new ≡ now ++ late_nets from (option_to_list (slice_get table i)) → new ++ late_nets from (drop (i + 1) table) ≡ start
late_turn from table i start now new before is_new =
    ap (λ l. l ++ late_nets from (drop (i + 1) table)) is_new
    ∙ (append_assoc now _ _
    ∙ (ap (λ k. now ++ (late_nets from (option_to_list (slice_get table i)) ++ late_nets from (drop k table))) (add-one i)
    ∙ (ap (λ l. now ++ l) (from_place (late_net from) table i) ∙ before)))

-- values by `defparam`

filter_cons : {A : Type 0} (p : A → Bool) (x : A) (xs : List A) → (if p x then x ∷ [] else []) ++ filter p xs ≡ filter p (x ∷ xs)
filter_cons p x xs = by (p x)
  where
    by : (b : Bool) → (if b then x ∷ [] else []) ++ filter p xs ≡ cond b (x ∷ filter p xs) (filter p xs)
    by true = refl
    by false = refl

lent : (b : Bool) (old : List (Bor DefSet)) (x : Bor DefSet) → sets_of (old ++ (if b then x ∷ [] else [])) ≡ sets_of old ++ (if b then x.now ∷ [] else [])
lent true old x = map-append (λ set. set.now) old (x ∷ [])
lent false old x = map-append (λ set. set.now) old []

pub set_turn : (sets : List DefSet) (i : ℕ) (d : DefSet) (x : Bor DefSet) (key : List ℕ) (now new : List (List ℕ × List (Bor DefSet))) (start : List DefSet) (name : List ℕ) → i < length sets → x.now ≡ get_or sets i d → name ≡ x.now.instance →
    sets_under now key ++ sets_for key (drop i sets) ≡ start → under new key ≡ under now key ++ (if bytes_eq key name then x ∷ [] else []) → sets_under new key ++ sets_for key (drop (i + 1) sets) ≡ start
unfolding sets_under
set_turn sets i d x key now new start name within is named before more =
    let here : DefSet → List DefSet = λ set. if bytes_eq key set.instance then set ∷ [] else [] in
    let rest : List DefSet = sets_for key (drop (suc i) sets) in
    let made : sets_of (under new key) ≡ sets_of (under now key) ++ here (get_or sets i d) = ap sets_of (more ∙ ap (λ n. under now key ++ (if bytes_eq key n then x ∷ [] else [])) named) ∙ (lent (bytes_eq key x.now.instance) (under now key) x ∙ ap (λ set. sets_of (under now key) ++ here set) is) in
    (λ j. made j ++ sets_for key (drop (add-one i j) sets))
    ∙ (append_assoc (sets_of (under now key)) (here (get_or sets i d)) rest
    ∙ (ap (λ l. sets_of (under now key) ++ l) (filter_cons (λ set. bytes_eq key set.instance) (get_or sets i d) (drop (suc i) sets) ∙ ap (sets_for key) (sym (drop-cons sets i d within))) ∙ before))

pub no_sets : (found : List (List ℕ × List (Bor DefSet))) → found ≡ [] → (key : List ℕ) (rest : List DefSet) → sets_under found key ++ rest ≡ rest
unfolding sets_under under
no_sets found e key rest = ap (λ f. sets_under f key ++ rest) e

-- what is said of names

said_more : (b : Bool) (old : List Mention) (x : Mention) → map said (old ++ (if b then x ∷ [] else [])) ≡ map said old ++ (if b then said x ∷ [] else [])
said_more true old x = map-append said old (x ∷ [])
said_more false old x = map-append said old []

pub said_turn : (names : List Name) (i : ℕ) (d x : Name) (what : Mention) (key : Name) (now new : List (Name × List Mention)) (start : List Said) (name : Name) → i < length names → x ≡ get_or names i d → name ≡ x →
    said_of now key ++ said_in_names (said what) (drop i names) key ≡ start → under new key ≡ under now key ++ (if bytes_eq key name then what ∷ [] else []) → said_of new key ++ said_in_names (said what) (drop (i + 1) names) key ≡ start
unfolding said_of
said_turn names i d x what key now new start name within is named before more =
    let here : Name → List Said = λ n. if bytes_eq key n then said what ∷ [] else [] in
    let made : map said (under new key) ≡ map said (under now key) ++ here (get_or names i d) = ap (map said) more ∙ (said_more (bytes_eq key name) (under now key) what ∙ ap (λ n. map said (under now key) ++ here n) (named ∙ is)) in
    (λ j. made j ++ said_in_names (said what) (drop (add-one i j) names) key)
    ∙ (append_assoc (map said (under now key)) (here (get_or names i d)) (said_in_names (said what) (drop (suc i) names) key)
    ∙ (ap (λ l. map said (under now key) ++ said_in_names (said what) l key) (sym (drop-cons names i d within)) ∙ before))

kept_more : (p : Name → Bool) (what : Said) (key : Name) (x : Name) (xs : List Name) → said_in_names what (filter p (x ∷ [])) key ++ said_in_names what (filter p xs) key ≡ said_in_names what (filter p (x ∷ xs)) key
kept_more p what key x xs = by (p x)
  where
    by : (b : Bool) → said_in_names what (cond b (x ∷ []) []) key ++ said_in_names what (filter p xs) key ≡ said_in_names what (cond b (x ∷ filter p xs) (filter p xs)) key
    by true = ap (λ l. l ++ said_in_names what (filter p xs) key) (append-nil (if bytes_eq key x then what ∷ [] else []))
    by false = refl

pub kept_turn : (p : Name → Bool) (what : Said) (names : List Name) (i : ℕ) (d x : Name) (key : Name) (now new : List (Name × List Mention)) (start : List Said) (name : Name) → i < length names → x ≡ get_or names i d → name ≡ x →
    said_of now key ++ said_in_names what (filter p (drop i names)) key ≡ start → said_of new key ≡ said_of now key ++ said_in_names what (filter p (name ∷ [])) key → said_of new key ++ said_in_names what (filter p (drop (i + 1) names)) key ≡ start
kept_turn p what names i d x key now new start name within is named before more =
    let made : said_of new key ≡ said_of now key ++ said_in_names what (filter p (get_or names i d ∷ [])) key = more ∙ ap (λ n. said_of now key ++ said_in_names what (filter p (n ∷ [])) key) (named ∙ is) in
    (λ j. made j ++ said_in_names what (filter p (drop (add-one i j) names)) key)
    ∙ (append_assoc (said_of now key) (said_in_names what (filter p (get_or names i d ∷ [])) key) (said_in_names what (filter p (drop (suc i) names)) key)
    ∙ (ap (λ l. said_of now key ++ l) (kept_more p what key (get_or names i d) (drop (suc i) names) ∙ ap (λ l. said_in_names what (filter p l) key) (sym (drop-cons names i d within))) ∙ before))

pub port_noted : (port : Bool) (what : Mention) (key name : Name) (now new : List (Name × List Mention)) → true ≡ port → under new key ≡ under now key ++ (if bytes_eq key name then what ∷ [] else []) → said_of new key ≡ said_of now key ++ said_in_names (said what) (cond port (name ∷ []) []) key
unfolding said_of
port_noted true what key name now new is more =
    ap (map said) more ∙ (said_more (bytes_eq key name) (under now key) what ∙ ap (λ l. map said (under now key) ++ l) (sym (append-nil (if bytes_eq key name then said what ∷ [] else []))))
port_noted false what key name now new is more = absurd cc

pub no_said : (found : List (Name × List Mention)) → found ≡ [] → (key : Name) → said_of found key ≡ []
unfolding said_of under
no_said found e key = ap (λ f. said_of f key) e

-- the nets of a wire
pub bit_turn : (f : ℕ → HNet) (bit : ℕ) (start now new : List HNet) (net : HNet) → now ≡ start ++ map f (range_with_len 0 bit) → new ≡ now ++ net ∷ [] → net ≡ f bit → new ≡ start ++ map f (range_with_len 0 (bit + 1))
bit_turn f bit start now new net before more is =
    more
    ∙ ((λ j. before j ++ is j ∷ [])
    ∙ (append_assoc start (map f (range_with_len 0 bit)) (f bit ∷ []) ∙ ap (λ l. start ++ l) (sym (map-range_with_len_more f 0 bit bit (omega arith)))))

-- the number of a name that is not there
no_further : {A : Type 0} (p : A → Bool) (xs : List A) → position_or_len p xs ≤ length xs
no_further p [] = omega arith
no_further p (x ∷ xs) = by (p x) (no_further p xs)
  where
    by : (b : Bool) → position_or_len p xs ≤ length xs → cond (not b) (1 + position_or_len p xs) 0 ≤ suc (length xs)
    by true h = omega arith
    by false h = omega (arith, h)

pub at_end : {A : Type 0} (p : A → Bool) (xs : List A) → position p xs ≡ None → length xs ≡ position_or_len p xs
at_end p xs h = by (nat_lt (position_or_len p xs) (length xs)) refl h
  where
    by : (b : Bool) → nat_lt (position_or_len p xs) (length xs) ≡ b → ◌≡◌ {A = Option ℕ} (cond b (Some (position_or_len p xs)) None) None → length xs ≡ position_or_len p xs
    by true t h = absurd cc
    by false t h = omega (arith, ltb-false _ _ t, no_further p xs)
