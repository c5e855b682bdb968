-- The first objects of rules.
use Rattle.std.proofs.Common.{◌≡◌, ℕ, zero, suc, ◌+◌, List, [], ◌∷◌, ◌++◌, Option, None, Some, Result, Ok, Err, map, flat_map, option_map, codes, refl, sym, ◌∙◌, ap, subst, arith}
use Rattle.std.specs.Prelude.{IfOk}
use Rattle.std.specs.List.{range_with_len}
use Rattle.std.proofs.lemmas.List.{append_assoc, map-append}
use Rattle.net_hier.specs.declared.cells.HCell.{HCell}
use Rattle.net_hier.specs.declared.cells.HInst.{HInst}
use Rattle.to_spice_rules.specs.Names.{each_alone, first_of, no_ports, no_word, no_words, refused}
use Rattle.to_spice_rules.specs.PortWords.{port_words}
use Rattle.to_spice_rules.specs.declared.refusal.SpiceRefusal.{SpiceRefusal}
use Rattle.to_spice_rules.specs.declared.refusal.SpiceRule.{SpiceRule}
use Rattle.to_spice_rules.specs.declared.refusal.SpiceRule.TheVariants.{S1, S2}

-- the first of two lists, one after the other
pub first_there : {A : Type 0} (xs ys : List A) (x : A) → Some x ≡ first_of xs → Some x ≡ first_of (xs ++ ys)
first_there [] ys x h = cc
first_there (z ∷ xs) ys x h = h

pub first_behind : {A : Type 0} (xs ys : List A) → None ≡ first_of xs → first_of (xs ++ ys) ≡ first_of ys
first_behind [] ys h = refl
first_behind (z ∷ xs) ys h = cc

-- where the first list has none, an answer over the second list is one over both
pub ok_behind : {A E : Type 0} (xs ys : List A) → None ≡ first_of xs → (result : Result (Option A) E) → IfOk result (λ found. found ≡ first_of ys) → IfOk result (λ found. found ≡ first_of (xs ++ ys))
ok_behind xs ys none (Ok found) is = is ∙ sym (first_behind xs ys none)
ok_behind xs ys none (Err fault) is = is

-- objects one after another
over_each : {A B C : Type 0} (f : B → C) (g : A → List B) (xs : List A) → map f (flat_map g xs) ≡ flat_map (λ x. map f (g x)) xs
over_each f g [] = refl
over_each f g (x ∷ xs) = map-append f (g x) (flat_map g xs) ∙ ap (λ l. map f (g x) ++ l) (over_each f g xs)

-- the refusals of a cell by its names, in three parts
pub three_parts : (cell : HCell) → map (refused S1 cell.name) (no_words cell)
    ≡ map (refused S1 cell.name) (no_word (codes "cell") cell.name)
    ++ (flat_map (λ word. map (refused S1 cell.name) (no_word (codes "port") word)) (port_words cell)
    ++ flat_map (λ (instance : HInst). map (refused S1 cell.name) (no_word (codes "instance") instance.name)) cell.instances)
unfolding no_words
three_parts cell =
    let f = refused S1 cell.name in
    let instances = flat_map (λ (instance : HInst). no_word (codes "instance") instance.name) cell.instances in
    map-append f (no_word (codes "cell") cell.name) (no_ports (port_words cell) ++ instances)
    ∙ ap (λ l. map f (no_word (codes "cell") cell.name) ++ l)
    (map-append f (no_ports (port_words cell)) instances
    ∙ (ap (λ l. l ++ map f instances) (over_each f (no_word (codes "port")) (port_words cell))
    ∙ ap (λ l. flat_map (λ word. map f (no_word (codes "port") word)) (port_words cell) ++ l) (over_each f (λ (instance : HInst). no_word (codes "instance") instance.name) cell.instances)))

-- ---- the first refusal of a cell by its names, part by part
module _ (cell : HCell) (name : List ℕ) (named : name ≡ cell.name) where
  abbrev own : List ℕ → List SpiceRefusal
  own n = map (refused S1 n) (no_word (codes "cell") n)

  abbrev of_words : List ℕ → List (List ℕ) → List SpiceRefusal
  of_words n words = flat_map (λ word. map (refused S1 n) (no_word (codes "port") word)) words

  abbrev of_instances : List ℕ → List HInst → List SpiceRefusal
  of_instances n instances = flat_map (λ (instance : HInst). map (refused S1 n) (no_word (codes "instance") instance.name)) instances

  abbrev rest : List SpiceRefusal
  rest = of_words cell.name (port_words cell) ++ of_instances cell.name cell.instances

  all_is : first_of (own cell.name ++ rest) ≡ first_of (map (refused S1 cell.name) (no_words cell))
  all_is = ap first_of (sym (three_parts cell))

  module _ (found : Option SpiceRefusal) (is : found ≡ first_of (own name)) where
    own_is : found ≡ first_of (own cell.name)
    own_is = is ∙ ap (λ n. first_of (own n)) named

    pub by_name : (refusal : SpiceRefusal) → found ≡ Some refusal → Some refusal ≡ first_of (map (refused S1 cell.name) (no_words cell))
    by_name refusal e = first_there (own cell.name) rest refusal (sym e ∙ own_is) ∙ all_is

    module _ (none : found ≡ None) (words : List (List ℕ)) (are : words ≡ port_words cell) (found_word : Option SpiceRefusal) (is_word : found_word ≡ first_of (of_words name words)) where
      word_is : found_word ≡ first_of (of_words cell.name (port_words cell))
      word_is = is_word ∙ (ap (λ n. first_of (of_words n words)) named ∙ ap (λ ws. first_of (of_words cell.name ws)) are)

      behind_own : first_of rest ≡ first_of (map (refused S1 cell.name) (no_words cell))
      behind_own = sym (first_behind (own cell.name) rest (sym none ∙ own_is)) ∙ all_is

      pub by_word : (refusal : SpiceRefusal) → found_word ≡ Some refusal → Some refusal ≡ first_of (map (refused S1 cell.name) (no_words cell))
      by_word refusal e = first_there (of_words cell.name (port_words cell)) (of_instances cell.name cell.instances) refusal (sym e ∙ word_is) ∙ behind_own

      pub by_instance : found_word ≡ None → (instances : List HInst) → instances ≡ cell.instances → {E : Type 0} (result : Result (Option SpiceRefusal) E) → IfOk result (λ f. f ≡ first_of (of_instances name instances)) →
          IfOk result (λ f. f ≡ first_of (map (refused S1 cell.name) (no_words cell)))
      by_instance last instances same result is_last =
          subst (λ o. IfOk result (λ f. f ≡ o)) behind_own
          (ok_behind (of_words cell.name (port_words cell)) (of_instances cell.name cell.instances) (sym last ∙ word_is) result
          (subst (λ l. IfOk result (λ f. f ≡ first_of (of_instances cell.name l))) same (subst (λ n. IfOk result (λ f. f ≡ first_of (of_instances n instances))) named is_last)))

-- the first of objects of one name each
pub alone_first : (rule : SpiceRule) (cell : List ℕ) (names : List (List ℕ)) → first_of (map (refused rule cell) (each_alone names)) ≡ option_map (λ name. refused rule cell (name ∷ [])) (first_of names)
alone_first rule cell [] = refl
alone_first rule cell (name ∷ names) = refl

pub cell_first : (names : List (List ℕ)) → first_of (map (λ name. refused S2 name []) names) ≡ option_map (λ name. refused S2 name []) (first_of names)
cell_first [] = refl
cell_first (name ∷ names) = refl

-- ---- words of bits, one more
range_more : (first n : ℕ) → range_with_len first (n + 1) ≡ range_with_len first n ++ (first + n) ∷ []
range_more first zero = let e : first ≡ first + 0 = omega arith in ap (λ k. k ∷ []) e
range_more first (suc n) =
    let e : suc n + 1 ≡ suc (n + 1) = omega arith in
    let k : first + 1 + n ≡ first + suc n = omega arith in
    ap (range_with_len first) e ∙ (ap (λ l. first ∷ l) (range_more (first + 1) n) ∙ ap (λ m. first ∷ (range_with_len (first + 1) n ++ m ∷ [])) k)

pub mapped_more : {A : Type 0} (f : ℕ → A) (old now more : List A) (n : ℕ) (x : A) → now ≡ old ++ map f (range_with_len 0 n) → x ≡ f n → more ≡ now ++ x ∷ [] → more ≡ old ++ map f (range_with_len 0 (n + 1))
mapped_more f old now more n x e is m =
    let z : 0 + n ≡ n = omega arith in
    m ∙ (ap (λ w. w ++ x ∷ []) e ∙ (append_assoc old (map f (range_with_len 0 n)) (x ∷ []) ∙ (ap (λ y. old ++ (map f (range_with_len 0 n) ++ y ∷ [])) is
    ∙ ap (λ w. old ++ w) (sym (ap (map f) (range_more 0 n ∙ ap (λ k. range_with_len 0 n ++ k ∷ []) z) ∙ map-append f (range_with_len 0 n) (n ∷ []))))))
