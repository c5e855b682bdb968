-- The nodes that stand for what has a hub.
use Rattle.std.proofs.Common.{◌≡◌, ℕ, zero, suc, ◌<◌, ◌≤◌, ◌+◌, length, drop, get_or, slice_get, drop_of_length-le, Bool, true, false, cond, List, [], ◌∷◌, ◌++◌, Option, Some, None, map, filter, flat_map, option_to_list, is_none, refl, sym, ◌∙◌, ap, arith, append-nil}
use Rattle.std.specs.List.{range_with_len}
use Rattle.std.proofs.lemmas.List.{append_assoc}
use Rattle.std.proofs.lemmas.Option.{get_or_from_slice_get, slice_get_within}
use Rattle.vlog_design.proofs.Steps.{flat_map_left, moved}
use Rattle.net_hier.specs.declared.nodes.Node.{Node}
use Rattle.net_hier.specs.declared.nodes.Node.TheVariants.{Pin}
use Rattle.to_verilog_classes.specs.Groups.{GroupTable, live_class}
use Rattle.to_verilog_classes.specs.Roots.{open_pins}
use Rattle.to_verilog_classes.proofs.GroupLaws.{map_both, range_more}

filter_more : {A : Type 0} (test : A → Bool) (xs : List A) (x : A) → filter test (xs ++ x ∷ []) ≡ filter test xs ++ cond (test x) (x ∷ []) []
filter_more test [] x = refl
filter_more {A} test (y ∷ ys) x = by (test y) (filter_more test ys x)
  where
    by : (b : Bool) → filter test (ys ++ x ∷ []) ≡ filter test ys ++ cond (test x) (x ∷ []) [] → cond b (y ∷ filter test (ys ++ x ∷ [])) (filter test (ys ++ x ∷ [])) ≡ cond b (y ∷ filter test ys) (filter test ys) ++ cond (test x) (x ∷ []) []
    by true h = ap (λ l. y ∷ l) h
    by false h = h

pins_of_more : (groups : GroupTable) (instance port bit : ℕ) → open_pins groups instance port (range_with_len 0 (bit + 1))
    ≡ open_pins groups instance port (range_with_len 0 bit) ++ cond (is_none (live_class groups (Pin instance port bit))) (Pin instance port bit ∷ []) []
pins_of_more groups instance port bit =
    let z : 0 + bit ≡ bit = omega arith in
    let test : Node → Bool = λ pin. is_none (live_class groups pin) in
    ap (λ bits. filter test (map (λ b. Pin instance port b) bits)) (range_more 0 bit ∙ ap (λ k. range_with_len 0 bit ++ k ∷ []) z)
    ∙ (ap (filter test) (map_both (λ b. Pin instance port b) (range_with_len 0 bit) (bit ∷ [])) ∙ filter_more test (map (λ b. Pin instance port b) (range_with_len 0 bit)) (Pin instance port bit))

pub pins_turn : (groups : GroupTable) (instance port bit : ℕ) (start now new : List Node) (b : Bool) → now ≡ start ++ open_pins groups instance port (range_with_len 0 bit) →
    is_none (live_class groups (Pin instance port bit)) ≡ b → new ≡ now ++ cond b (Pin instance port bit ∷ []) [] → new ≡ start ++ open_pins groups instance port (range_with_len 0 (bit + 1))
pins_turn groups instance port bit start now new b i e m =
    let more : List Node = cond b (Pin instance port bit ∷ []) [] in
    m ∙ (ap (λ l. l ++ more) i ∙ (append_assoc start (open_pins groups instance port (range_with_len 0 bit)) more
    ∙ ap (λ l. start ++ l) (sym (pins_of_more groups instance port bit ∙ ap (λ c. open_pins groups instance port (range_with_len 0 bit) ++ cond c (Pin instance port bit ∷ []) []) e))))

pub pins_none : {now : List Node} (pin : Node) → now ≡ now ++ cond false (pin ∷ []) []
pins_none {now = now} pin = sym (append-nil now)

flat_more : {A : Type 0} (f : ℕ → List A) (xs : List ℕ) (x : ℕ) → flat_map f (xs ++ x ∷ []) ≡ flat_map f xs ++ f x
flat_more f [] x = append-nil (f x)
flat_more f (y ∷ ys) x = ap (λ l. f y ++ l) (flat_more f ys x) ∙ sym (append_assoc (f y) (flat_map f ys) (f x))

pub firsts_turn : (part : ℕ → List Node) (class : ℕ) (start now new : List Node) (found : Option Node) → now ≡ start ++ flat_map part (range_with_len 0 class) →
    option_to_list found ≡ part class → new ≡ now ++ option_to_list found → new ≡ start ++ flat_map part (range_with_len 0 (class + 1))
firsts_turn part class start now new found i e m =
    let z : 0 + class ≡ class = omega arith in
    m ∙ (ap (λ l. l ++ option_to_list found) i ∙ (append_assoc start (flat_map part (range_with_len 0 class)) (option_to_list found)
    ∙ ap (λ l. start ++ l) (ap (λ l. flat_map part (range_with_len 0 class) ++ l) e
    ∙ sym (ap (flat_map part) (range_more 0 class ∙ ap (λ k. range_with_len 0 class ++ k ∷ []) z) ∙ flat_more part (range_with_len 0 class) class))))

pub none_more : {now : List Node} → now ≡ now ++ option_to_list None
none_more {now = now} = sym (append-nil now)

pub open_turn : (f : Node → List Node) (keys : List Node) (place : ℕ) (x : Node) (now new : List Node) {goal : List Node} → slice_get keys place ≡ Some x → now ++ flat_map f (drop place keys) ≡ goal → new ≡ now ++ f x → new ++ flat_map f (drop (place + 1) keys) ≡ goal
open_turn f keys place x now new e i m =
    let h : place < length keys = slice_get_within keys place x e in
    let at : get_or keys place x ≡ x = get_or_from_slice_get keys place x x e in
    ap (λ l. l ++ flat_map f (drop (place + 1) keys)) m ∙ moved now (f x) (flat_map f (drop (place + 1) keys)) i (flat_map_left f keys place x h ∙ ap (λ y. f y ++ flat_map f (drop (place + 1) keys)) at)

pub open_end : (f : Node → List Node) (keys : List Node) (place : ℕ) (now : List Node) {goal : List Node} → slice_get keys place ≡ None → now ++ flat_map f (drop place keys) ≡ goal → now ++ flat_map f (drop (place + 1) keys) ≡ goal
open_end f keys place now e i = ap (λ l. now ++ flat_map f l) (nothing keys place (place + 1) e (omega arith) ∙ sym (nothing keys place place e (omega arith))) ∙ i
  where
    nothing : (xs : List Node) (i j : ℕ) → slice_get xs i ≡ None → i ≤ j → drop j xs ≡ []
    nothing [] i j e h = drop_of_length-le [] {i = j} (omega arith)
    nothing (x ∷ xs) zero j e h = absurd (cc)
    nothing (x ∷ xs) (suc i) zero e h = absurd (omega (arith, h))
    nothing (x ∷ xs) (suc i) (suc j) e h = nothing xs i j e (omega (arith, h))
