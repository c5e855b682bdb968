-- The bits of words with masks.
use Rattle.std.proofs.Common.{◌≡◌, ◌≢◌, ℕ, zero, suc, Bool, true, false, ◌||◌, ◌&&◌, ◌==◌, ◌+◌, ◌*◌, ◌/◌, ◌%◌, ◌^◌, ◌<◌, ◌≤◌, max, cond, if◌then◌else◌, List, [], ◌∷◌, ◌++◌, All, Some, unwrap_or, refl, sym, ap, subst, ◌∙◌, arith}
use Rattle.std.specs.Int.{bit_at}
use Rattle.std.specs.List.{AllByRecursion, IsDistinct, list_any}
use Rattle.std.specs.Map.{keys_of, lookup}
use Rattle.std.proofs.lemmas.Bool.{eqb-true, eq-eqb, false≢true}
use Rattle.std.proofs.lemmas.List.Elements.{All-cons, All-head, All-nil, All-tail}
use Rattle.std.proofs.lemmas.List.Folds.{list_any-append}
use Rattle.std.proofs.lemmas.Map.Keys.{IsDistinct-head, IsDistinct-tail}
use Rattle.std.proofs.lemmas.Nat.Bits.{bit_at_or, bit_at-pow_other, bit_at-pow_same, bit_at-zero}
use Rattle.indexmap.specs.IndexMap.{insert_entry}
use Rattle.edif_design.specs.CellRules.{same_node}
use Rattle.edif_rules.specs.Spots.{AreWords, HasHalves, first_nodes, has_bit, mask_of, own_nodes, own_word, same_word, with_bit, with_own, word_node}
use Rattle.edif_rules.specs.declared.bits.OwnWord.{OwnWord}
use Rattle.net_hier.specs.declared.nodes.Node.{Node}
use Rattle.net_hier.specs.declared.nodes.Node.TheVariants.{Port}

pub or_first : (a b c : Bool) → ((a || b) || c) ≡ (a || (b || c))
or_first true b c = refl
or_first false b c = refl

pub or_second : (a b c : Bool) → (b || (a || c)) ≡ (a || (b || c))
or_second true true c = refl
or_second true false c = refl
or_second false b c = refl

pub or_none : (a b : Bool) → b ≡ false → a ≡ (a || b)
or_none true b h = refl
or_none false b h = sym h

pub both : (a b : Bool) → (a && b) ≡ true → (a ≡ true) × (b ≡ true)
both true b h = (refl, h)
both false b h = absurd (false≢true h)

pub both_are : (a b : Bool) → a ≡ true → b ≡ true → (a && b) ≡ true
both_are true b is_a is_b = is_b
both_are false b is_a is_b = is_a

-- what cannot be true is false
pub is_false : (b : Bool) → b ≢ true → b ≡ false
is_false true h = absurd (h refl)
is_false false h = refl

differ : (m n : ℕ) → (m == n) ≡ false → m ≢ n
differ m n h e = false≢true (sym h ∙ eq-eqb m n e)

no_bit : (i : ℕ) → has_bit 0 i ≡ false
no_bit i = is_false (has_bit 0 i) (λ h. let e = eqb-true (bit_at 0 i) 1 h in let z = bit_at-zero i in absurd (omega (arith, e, z)))

with_bit_has : (mask i : ℕ) → has_bit (with_bit mask i) i ≡ true
with_bit_has mask i =
    let e : bit_at (with_bit mask i) i ≡ max (bit_at mask i) 1 = bit_at_or mask (2 ^ i) i ∙ ap (max (bit_at mask i)) (bit_at-pow_same i) in
    eq-eqb (bit_at (with_bit mask i) i) 1 (e ∙ omega arith)

with_bit_keeps : (mask i n : ℕ) → n ≢ i → has_bit (with_bit mask i) n ≡ has_bit mask n
with_bit_keeps mask i n other =
    let e : bit_at (with_bit mask i) n ≡ max (bit_at mask n) 0 = bit_at_or mask (2 ^ i) n ∙ ap (max (bit_at mask n)) (bit_at-pow_other i n other) in
    ap (λ b. b == 1) (e ∙ omega arith)

-- the node of the bit of this number, where the mask has it
abbrev here : (ℕ → Node) → ℕ → Bool → List Node
here node i b = if b then node i ∷ [] else []

-- no node of the first bits passes a test that none of theirs can pass
pub none_first : (test : Node → Bool) (node : ℕ → Node) (mask n : ℕ) → ((i : ℕ) → i < n → test (node i) ≡ false) → list_any test (first_nodes node mask n) ≡ false
unfolding first_nodes
none_first test node mask zero none = refl
none_first test node mask (suc n) none =
    list_any-append test (first_nodes node mask n) (here node n (has_bit mask n))
    ∙ (ap (λ b. b || list_any test (here node n (has_bit mask n))) (none_first test node mask n (λ i below. none i (omega arith)))
    ∙ by (has_bit mask n))
  where
    by : (b : Bool) → list_any test (here node n b) ≡ false
    by true = ap (λ t. t || false) (none n (omega arith))
    by false = refl

-- of no mask there are no nodes
pub no_nodes : (node : ℕ → Node) (n : ℕ) → first_nodes node 0 n ≡ []
unfolding first_nodes
no_nodes node zero = refl
no_nodes node (suc n) = λ j. no_nodes node n j ++ here node n (no_bit n j)

-- one more bit leaves the nodes of the bits before it
before_bit : (node : ℕ → Node) (mask i n : ℕ) → n ≤ i → first_nodes node (with_bit mask i) n ≡ first_nodes node mask n
unfolding first_nodes
before_bit node mask i zero within = refl
before_bit node mask i (suc n) within = λ j. before_bit node mask i n (omega arith) j ++ here node n (with_bit_keeps mask i n (λ e. absurd (omega arith)) j)

-- one more bit is one more node
pub first_more : (test : Node → Bool) (node : ℕ → Node) (mask i n : ℕ) → i < n
    → list_any test (first_nodes node (with_bit mask i) n) ≡ (test (node i) || list_any test (first_nodes node mask n))
unfolding first_nodes
first_more test node mask i zero within = absurd (omega arith)
first_more test node mask i (suc n) within =
    list_any-append test (first_nodes node (with_bit mask i) n) (here node n (has_bit (with_bit mask i) n))
    ∙ (by (n == i) refl (λ below. first_more test node mask i n below)
    ∙ ap (λ b. test (node i) || b) (sym (list_any-append test (first_nodes node mask n) (here node n (has_bit mask n)))))
  where
    again : (a t b : Bool) → t ≡ test (node n) → (a || (t || false)) ≡ (t || (a || list_any test (here node n b)))
    again true true b is_test = refl
    again true false b is_test = refl
    again false true b is_test = refl
    again false false true is_test = ap (λ t. t || false) is_test
    again false false false is_test = refl

    by : (b : Bool) → (n == i) ≡ b
        → (i < n → list_any test (first_nodes node (with_bit mask i) n) ≡ (test (node i) || list_any test (first_nodes node mask n)))
        → (list_any test (first_nodes node (with_bit mask i) n) || list_any test (here node n (has_bit (with_bit mask i) n)))
        ≡ (test (node i) || (list_any test (first_nodes node mask n) || list_any test (here node n (has_bit mask n))))
    by true h rest =
        let e = eqb-true n i h in
        let has : has_bit (with_bit mask i) n ≡ true = ap (has_bit (with_bit mask i)) e ∙ with_bit_has mask i in
        (λ j. list_any test (before_bit node mask i n (omega arith) j) || list_any test (here node n (has j)))
        ∙ (again (list_any test (first_nodes node mask n)) (test (node n)) (has_bit mask n) refl
        ∙ ap (λ m. test (node m) || (list_any test (first_nodes node mask n) || list_any test (here node n (has_bit mask n)))) e)
    by false h rest =
        let other = differ n i h in
        (λ j. rest (omega arith) j || list_any test (here node n (with_bit_keeps mask i n other j)))
        ∙ or_first (test (node i)) (list_any test (first_nodes node mask n)) (list_any test (here node n (has_bit mask n)))

-- the node of one number alone passes the test: a node of the mask passes it where the mask has the bit of that number
module _ (test : Node → Bool) (node : ℕ → Node) (number : ℕ) (passes : test (node number) ≡ true) (fails : (i : ℕ) → i ≢ number → test (node i) ≡ false) where
  pub in_mask : (mask n : ℕ) → number < n → list_any test (first_nodes node mask n) ≡ has_bit mask number
  unfolding first_nodes
  in_mask mask zero within = absurd (omega arith)
  in_mask mask (suc n) within =
      list_any-append test (first_nodes node mask n) (here node n (has_bit mask n))
      ∙ by (n == number) refl (λ below. in_mask mask n below)
    where
      there : (b : Bool) → list_any test (here node n b) ≡ (b && test (node n))
      there true = sym (or_none (test (node n)) false refl)
      there false = refl

      and_true : (b t : Bool) → t ≡ true → (b && t) ≡ b
      and_true true t h = h
      and_true false t h = refl

      and_false : (b t : Bool) → t ≡ false → (b && t) ≡ false
      and_false true t h = h
      and_false false t h = refl

      by : (b : Bool) → (n == number) ≡ b
          → (number < n → list_any test (first_nodes node mask n) ≡ has_bit mask number)
          → (list_any test (first_nodes node mask n) || list_any test (here node n (has_bit mask n))) ≡ has_bit mask number
      by true h rest =
          let e = eqb-true n number h in
          let is_here : test (node n) ≡ true = ap (λ m. test (node m)) e ∙ passes in
          ap (λ b. b || list_any test (here node n (has_bit mask n))) (none_first test node mask n (λ i below. fails i (λ same. absurd (omega arith))))
          ∙ (there (has_bit mask n) ∙ (and_true (has_bit mask n) (test (node n)) is_here ∙ ap (has_bit mask) e))
      by false h rest =
          let other = differ n number h in
          let none : list_any test (here node n (has_bit mask n)) ≡ false = there (has_bit mask n) ∙ and_false (has_bit mask n) (test (node n)) (fails n other) in
          sym (or_none (list_any test (first_nodes node mask n)) (list_any test (here node n (has_bit mask n))) none)
          ∙ rest (omega arith)

-- words that the test takes for one are one
same_word-is : (a b : OwnWord) → same_word a b ≡ true → a ≡ b
same_word-is a b h =
    let e = both (a.port == b.port && a.low == b.low) (a.high == b.high) h in
    let f = both (a.port == b.port) (a.low == b.low) e.0 in
    λ j. record { port = eqb-true a.port b.port f.0 j; low = eqb-true a.low b.low f.1 j; high = eqb-true a.high b.high e.1 j }

-- a bit is that of its number in its word
of_word : (bit : ℕ) → 64 * (bit / 64 % 4294967296 + 4294967296 * (bit / 64 / 4294967296)) + bit % 64 ≡ bit
of_word bit = omega arith

pub own_node_is : (port bit : ℕ) → word_node (own_word port bit) (bit % 64) ≡ Port port bit
own_node_is port bit = ap (Port port) (of_word bit)

-- one more bit in the masks is one more node
more_own : (test : Node → Bool) (word : OwnWord) (i : ℕ) → i < 64 → (entries : List (OwnWord × ℕ))
    → list_any test (own_nodes (insert_entry same_word entries word (with_bit (mask_of entries word) i)))
    ≡ (test (word_node word i) || list_any test (own_nodes entries))
more_own test word i within [] =
    list_any-append test (first_nodes (word_node word) (with_bit 0 i) 64) []
    ∙ ((λ j. (first_more test (word_node word) 0 i 64 within ∙ ap (λ l. test (word_node word i) || list_any test l) (no_nodes (word_node word) 64)) j || false)
    ∙ or_first (test (word_node word i)) false false)
more_own test word i within (e ∷ es) = by (same_word word e.0) refl (more_own test word i within es)
  where
    by : (b : Bool) → same_word word e.0 ≡ b
        → list_any test (own_nodes (insert_entry same_word es word (with_bit (mask_of es word) i))) ≡ (test (word_node word i) || list_any test (own_nodes es))
        → list_any test (own_nodes
        (if b
        then (e.0, with_bit (unwrap_or (cond b (Some e.1) (lookup (same_word word) es)) 0) i) ∷ es
        else e ∷ insert_entry same_word es word (with_bit (unwrap_or (cond b (Some e.1) (lookup (same_word word) es)) 0) i)))
        ≡ (test (word_node word i) || list_any test (own_nodes (e ∷ es)))
    by true h rest =
        let same : e.0 ≡ word = sym (same_word-is word e.0 h) in
        list_any-append test (first_nodes (word_node e.0) (with_bit e.1 i) 64) (own_nodes es)
        ∙ (ap (λ b. b || list_any test (own_nodes es)) (first_more test (word_node e.0) e.1 i 64 within)
        ∙ (or_first (test (word_node e.0 i)) (list_any test (first_nodes (word_node e.0) e.1 64)) (list_any test (own_nodes es))
        ∙ λ j. test (word_node (same j) i) || sym (list_any-append test (first_nodes (word_node e.0) e.1 64) (own_nodes es)) j))
    by false h rest =
        list_any-append test (first_nodes (word_node e.0) e.1 64) (own_nodes (insert_entry same_word es word (with_bit (mask_of es word) i)))
        ∙ (ap (λ b. list_any test (first_nodes (word_node e.0) e.1 64) || b) rest
        ∙ (or_second (test (word_node word i)) (list_any test (first_nodes (word_node e.0) e.1 64)) (list_any test (own_nodes es))
        ∙ ap (λ b. test (word_node word i) || b) (sym (list_any-append test (first_nodes (word_node e.0) e.1 64) (own_nodes es)))))

-- one more bit of a port of the cell is one more node
pub one_more : (test : Node → Bool) (entries : List (OwnWord × ℕ)) (port bit : ℕ) → list_any test (own_nodes (with_own entries port bit)) ≡ (test (Port port bit) || list_any test (own_nodes entries))
one_more test entries port bit =
    more_own test (own_word port bit) (bit % 64) (omega arith) entries
    ∙ ap (λ node. test node || list_any test (own_nodes entries)) (own_node_is port bit)

-- a bit of no other word is one of this
module _ (port bit : ℕ) (word : OwnWord) (halves : word.low < 4294967296) (other : same_word (own_word port bit) word ≡ false) where
  lower_half : (high i : ℕ) → i < 64 → bit ≡ 64 * (word.low + 4294967296 * high) + i → bit / 64 % 4294967296 ≡ word.low
  lower_half high i within is_bit = omega arith

  upper_half : (high i : ℕ) → i < 64 → bit ≡ 64 * (word.low + 4294967296 * high) + i → bit / 64 / 4294967296 ≡ high
  upper_half high i within is_bit = omega arith

  not_of : (i : ℕ) → i < 64 → same_node (Port port bit) (word_node word i) ≡ false
  not_of i within = is_false (port == word.port && bit == 64 * (word.low + 4294967296 * word.high) + i) (λ h.
      let e = both (port == word.port) (bit == 64 * (word.low + 4294967296 * word.high) + i) h in
      let is_bit = eqb-true bit (64 * (word.low + 4294967296 * word.high) + i) e.1 in
      false≢true (sym other ∙ both_are (port == word.port && bit / 64 % 4294967296 == word.low) (bit / 64 / 4294967296 == word.high)
      (both_are (port == word.port) (bit / 64 % 4294967296 == word.low) e.0 (eq-eqb (bit / 64 % 4294967296) word.low (lower_half word.high i within is_bit)))
      (eq-eqb (bit / 64 / 4294967296) word.high (upper_half word.high i within is_bit))))

  not_first : (mask : ℕ) → list_any (same_node (Port port bit)) (first_nodes (word_node word) mask 64) ≡ false
  not_first mask = none_first (same_node (Port port bit)) (word_node word) mask 64 not_of

-- a bit of the word is there where the mask has it
module _ (port bit : ℕ) where
  at_other : (i : ℕ) → i ≢ bit % 64 → same_node (Port port bit) (word_node (own_word port bit) i) ≡ false
  at_other i apart = is_false (same_node (Port port bit) (word_node (own_word port bit) i)) (λ h.
      let e = both (port == port) (bit == 64 * (bit / 64 % 4294967296 + 4294967296 * (bit / 64 / 4294967296)) + i) h in
      let is_bit = eqb-true bit (64 * (bit / 64 % 4294967296 + 4294967296 * (bit / 64 / 4294967296)) + i) e.1 in
      apart (omega (arith, is_bit, of_word bit)))

  at_bit : same_node (Port port bit) (word_node (own_word port bit) (bit % 64)) ≡ true
  at_bit = ap (same_node (Port port bit)) (own_node_is port bit) ∙ both_are (port == port) (bit == bit) (eq-eqb port port refl) (eq-eqb bit bit refl)

  in_word : (mask : ℕ) → list_any (same_node (Port port bit)) (first_nodes (word_node (own_word port bit)) mask 64) ≡ has_bit mask (bit % 64)
  in_word mask = in_mask (same_node (Port port bit)) (word_node (own_word port bit)) (bit % 64) at_bit at_other mask 64 (omega arith)

-- a bit is in no word that is not its own
no_words : (port bit : ℕ) (entries : List (OwnWord × ℕ)) → All HasHalves (keys_of entries) → AllByRecursion (λ word. same_word (own_word port bit) word ≡ false) (keys_of entries)
    → list_any (same_node (Port port bit)) (own_nodes entries) ≡ false
no_words port bit [] halves others = refl
no_words port bit (e ∷ es) halves others =
    list_any-append (same_node (Port port bit)) (first_nodes (word_node e.0) e.1 64) (own_nodes es)
    ∙ λ j. not_first port bit e.0 (All-head HasHalves e.0 (keys_of es) halves) others.0 e.1 j || no_words port bit es (All-tail HasHalves e.0 (keys_of es) halves) others.1 j

-- a bit is there where the mask of its word has it
in_words : (port bit : ℕ) (entries : List (OwnWord × ℕ)) → All HasHalves (keys_of entries) → IsDistinct same_word (keys_of entries)
    → list_any (same_node (Port port bit)) (own_nodes entries) ≡ has_bit (mask_of entries (own_word port bit)) (bit % 64)
in_words port bit [] halves distinct = sym (no_bit (bit % 64))
in_words port bit (e ∷ es) halves distinct =
    list_any-append (same_node (Port port bit)) (first_nodes (word_node e.0) e.1 64) (own_nodes es)
    ∙ by (same_word (own_word port bit) e.0) refl (in_words port bit es (All-tail HasHalves e.0 (keys_of es) halves) (IsDistinct-tail same_word e.0 (keys_of es) distinct))
  where
    by : (b : Bool) → same_word (own_word port bit) e.0 ≡ b
        → list_any (same_node (Port port bit)) (own_nodes es) ≡ has_bit (mask_of es (own_word port bit)) (bit % 64)
        → (list_any (same_node (Port port bit)) (first_nodes (word_node e.0) e.1 64) || list_any (same_node (Port port bit)) (own_nodes es))
        ≡ has_bit (unwrap_or (cond b (Some e.1) (lookup (same_word (own_word port bit)) es)) 0) (bit % 64)
    by true h rest =
        let same : e.0 ≡ own_word port bit = sym (same_word-is (own_word port bit) e.0 h) in
        let others = subst (λ word. AllByRecursion (λ y. same_word word y ≡ false) (keys_of es)) same (IsDistinct-head same_word e.0 (keys_of es) distinct) in
        let none = no_words port bit es (All-tail HasHalves e.0 (keys_of es) halves) others in
        sym (or_none (list_any (same_node (Port port bit)) (first_nodes (word_node e.0) e.1 64)) (list_any (same_node (Port port bit)) (own_nodes es)) none)
        ∙ (ap (λ word. list_any (same_node (Port port bit)) (first_nodes (word_node word) e.1 64)) same ∙ in_word port bit e.1)
    by false h rest =
        ap (λ b. b || list_any (same_node (Port port bit)) (own_nodes es)) (not_first port bit e.0 (All-head HasHalves e.0 (keys_of es) halves) h e.1) ∙ rest

pub has_words : (port bit : ℕ) (entries : List (OwnWord × ℕ)) → AreWords entries → list_any (same_node (Port port bit)) (own_nodes entries) ≡ has_bit (mask_of entries (own_word port bit)) (bit % 64)
has_words port bit entries words = in_words port bit entries words.halves words.apart

-- a word that is put has halves, as all words have
put_halves : (entries : List (OwnWord × ℕ)) (word : OwnWord) (mask : ℕ) → HasHalves word → All HasHalves (keys_of entries) → All HasHalves (keys_of (insert_entry same_word entries word mask))
put_halves [] word mask small halves = All-cons HasHalves word [] small (All-nil HasHalves)
put_halves (e ∷ es) word mask small halves = by (same_word word e.0) (put_halves es word mask small (All-tail HasHalves e.0 (keys_of es) halves))
  where
    by : (b : Bool) → All HasHalves (keys_of (insert_entry same_word es word mask)) → All HasHalves (keys_of (if b then (e.0, mask) ∷ es else e ∷ insert_entry same_word es word mask))
    by true rest = halves
    by false rest = All-cons HasHalves e.0 (keys_of (insert_entry same_word es word mask)) (All-head HasHalves e.0 (keys_of es) halves) rest

pub halves_with : (entries : List (OwnWord × ℕ)) (port bit : ℕ) → All HasHalves (keys_of entries) → All HasHalves (keys_of (with_own entries port bit))
halves_with entries port bit halves = put_halves entries (own_word port bit) (with_bit (mask_of entries (own_word port bit)) (bit % 64)) (omega arith) halves
