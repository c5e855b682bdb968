-- What trees, a list and a leaf read as, after a look at the next token.
use Rattle.std.proofs.Common.{◌≡◌, ◌∙◌, sym, ap, refl, ℕ, zero, suc, ◌-◌, ◌<◌, true, false, Bool, List, [], ◌∷◌, ◌++◌, Option, Some, None, option_map, Result, Ok, Err, ℤ, arith}
use Rattle.std.proofs.lemmas.List.{map_push, length_push}
use Rattle.std.proofs.lemmas.List.Sums.{sum_by_push}
use Rattle.nl_bytes.proofs.Uses.{AllByRecursion-push}
use Rattle.grammar.specs.Part.{gives, sequence, Glance, leaves}
use Rattle.grammar.specs.Reading.{read, and_then, judged, glanced}
use Rattle.grammar.specs.Whole.{Terminal, proper, end}
use Rattle.nl_base.specs.declared.place.Place.{Place}
use Rattle.nl_base.specs.declared.fault.Reason.{Reason}
use Rattle.nl_base.specs.declared.fault.Reason.TheVariants as reasons
use Rattle.nl_base.specs.declared.fault.ReadError.{ReadError}
use Rattle.nl_base.specs.declared.fault.ReadError.TheVariants as errors
use Rattle.nl_bytes.specs.Bytes.{Window}
use Rattle.edif_tokens.specs.declared.token.Found.{Found}
use Rattle.edif_values.specs.declared.token.Token.{Token}
use Rattle.edif_values.specs.declared.token.Token.TheVariants.{LeftParen, RightParen, Word, Number, Str}
use Rattle.readers.specs.Parts.{one, any, if_next}
use Rattle.nl_io.specs.Sources.{Supply}
use Rattle.nl_bytes.specs.Tokens.{Ahead, tokens_ahead}
use Rattle.readers.specs.Readers.{Reader, reading, result_of, looking, then_left, stream, stream_of, behind, fault_at, FirstFits, IsNext, IsToken, IsCause}
use Rattle.readers.proofs.Moving.{near_text, skip_none}
use Rattle.readers.proofs.Looking.{seen_next, seen_none, cause_looking}
use Rattle.readers.proofs.Choices.{Misses, reading_while, reading_round, while_next_is_no, cause_while, due_one, due_then}
use Rattle.readers.proofs.Reading.{reading_then, sequences}
use Rattle.edif_keywords.specs.Aliases.{Alias}
use Rattle.edif_keywords.specs.Language.{edif, Edif}
use Rattle.edif_keywords.specs.Reasons.{opens, is_opening, has_string, is_string, word_of}
use Rattle.edif_keywords.specs.Grammar.{closing, string, integer, word}
use Rattle.edif_values.specs.declared.user.UserTree.{UserTree}
use Rattle.edif_values.specs.declared.user.UserTree.TheVariants as tree
use Rattle.edif_status.specs.Grammar.{TreeStart, tree_start, glance_of, tree_of, tree_rest, tree_by, trees_by, trees, user_tree, user_list, plain_of, leaf_of, plain, leaf, is_tree, is_number, begins_tree, has_number}

-- ---- parts that read alike where the next token is known

abbrev Alike : {A : Type 0} → (Found → Bool) → Bool → List Alias → Edif A → Edif A → Type 0
Alike f b k p q = (x : Found) (ts : List (Terminal Found Place)) → f x ≡ b → read k p (proper x ∷ ts) ≡ read k q (proper x ∷ ts)

at_token : {A : Type 0} (f : Found → Bool) (b : Bool) (p q : Edif A) (k : List Alias) (s : Option (Ahead Found)) → Alike f b k p q → IsToken f b s → reading edif p k s ≡ reading edif q k s
unfolding reading IsToken
at_token f b p q k None all is = refl
at_token f b p q k (Some s) all is = ap (λ r. Some (result_of edif s.finish r)) (ap (read k p) is.2 ∙ all is.0 is.1 is.3 ∙ ap (read k q) (sym is.2))

at_next : {A : Type 0} (f : Found → Bool) (p q : Edif A) (k : List Alias) (s : Option (Ahead Found)) → Alike f true k p q → IsNext f true s → reading edif p k s ≡ reading edif q k s
unfolding reading IsNext
at_next f p q k None all is = refl
at_next f p q k (Some s) all is = ap (λ r. Some (result_of edif s.finish r)) (by s.tokens is)
  where
    by : (ts : List (Terminal Found Place)) → FirstFits f true ts → read k p ts ≡ read k q ts
    by [] is = absurd is
    by (end at ∷ ts) is = absurd cc
    by (proper x ∷ ts) is = all x ts (sym is)

at_other : {A : Type 0} (f : Found → Bool) (p q : Edif A) (k : List Alias) (s : Option (Ahead Found)) → Alike f false k p q → ((at : Place) (ts : List (Terminal Found Place)) → read k p (end at ∷ ts) ≡ read k q (end at ∷ ts)) → IsNext f false s → reading edif p k s ≡ reading edif q k s
unfolding reading IsNext
at_other f p q k None all over is = refl
at_other f p q k (Some s) all over is = ap (λ r. Some (result_of edif s.finish r)) (by s.tokens is)
  where
    by : (ts : List (Terminal Found Place)) → FirstFits f false ts → read k p ts ≡ read k q ts
    by [] is = absurd is
    by (end at ∷ ts) is = over at ts
    by (proper x ∷ ts) is = all x ts (sym is)

-- ---- the rounds of trees

tree_begins : (room : ℕ) (t : Token) → is_tree t ≡ true → tree_of room t ≡ glance_of (tree_start room t)
tree_begins room LeftParen h = refl
tree_begins room RightParen h = absurd cc
tree_begins room (Word w) h = refl
tree_begins room (Number n) h = refl
tree_begins room (Str s) h = refl

no_tree : (room : ℕ) (t : Token) → is_tree t ≡ false → tree_of room t ≡ leaves
no_tree room LeftParen h = absurd cc
no_tree room RightParen h = refl
no_tree room (Word w) h = absurd cc
no_tree room (Number n) h = absurd cc
no_tree room (Str s) h = absurd cc

no_tree_next : (room : ℕ) → Misses begins_tree (λ x. tree_of room x.token)
unfolding begins_tree
no_tree_next room x h = no_tree room x.token h

-- a token that is taken for what it says, or refused, is read as that token
started : {A C : Type 0} (f : Found → Glance C Reason) (h : Found → Result C Reason) (p : C → Edif A) (q : Edif A) (k : List Alias) (x : Found) (ts : List (Terminal Found Place)) → f x ≡ glance_of (h x) → read k (if_next (λ _. f) p q) (proper x ∷ ts) ≡ read k (sequence (one (λ _. h)) p) (proper x ∷ ts)
unfolding if_next one
started {C = C} f h p q k x ts e = rw e (by (h x))
  where
    by : (r : Result C Reason) → glanced (proper x) ts (glance_of r) (λ c. read k (p c)) (read k q) ≡ and_then (judged (proper x) ts r) (λ y. read k (p y.0) y.1)
    by (Ok c) = refl
    by (Err r) = refl

module _ (room : ℕ) (inner : Edif (List UserTree)) (so_far : List UserTree) (k : List Alias) (s : Option (Ahead Found)) where
  more_by : IsNext begins_tree true s → reading edif (trees_by room inner so_far) k s ≡ reading edif (sequence (tree_by room inner) (λ t. trees_by room inner (so_far ++ t ∷ []))) k s
  unfolding trees_by tree_by begins_tree
  more_by is =
      reading_while edif (λ _ _ x. tree_of room x.token) (λ so_far c. sequence (tree_rest inner c) (λ t. gives (so_far ++ t ∷ []))) (λ so_far. sequence closing (λ _. gives so_far)) so_far k s
      ∙ at_next begins_tree _ (sequence (one (λ _ x. tree_start room x.token)) (λ c. sequence (sequence (tree_rest inner c) (λ t. gives (so_far ++ t ∷ []))) (trees_by room inner))) k s
      (λ x ts h. started (λ x. tree_of room x.token) (λ x. tree_start room x.token) _ _ k x ts (tree_begins room x.token h)) is
      ∙ reading_round edif (one (λ _ x. tree_start room x.token)) (tree_rest inner) (λ t. so_far ++ t ∷ []) (trees_by room inner) k s
      ∙ sym (reading_then edif (tree_by room inner) (λ t. trees_by room inner (so_far ++ t ∷ [])) k s)

  end_by : IsNext begins_tree false s → reading edif (trees_by room inner so_far) k s ≡ reading edif (sequence closing (λ _. gives so_far)) k s
  unfolding trees_by
  end_by is = while_next_is_no edif begins_tree (λ _ _ x. tree_of room x.token) (λ so_far c. sequence (tree_rest inner c) (λ t. gives (so_far ++ t ∷ []))) (λ so_far. sequence closing (λ _. gives so_far)) so_far k s (no_tree_next room) is

  fault_by : (e : ReadError) → IsCause e (looking s) → IsCause e (reading edif (trees_by room inner so_far) k s)
  unfolding trees_by
  fault_by e h = cause_while e edif (λ _ _ x. tree_of room x.token) (λ so_far c. sequence (tree_rest inner c) (λ t. gives (so_far ++ t ∷ []))) (λ so_far. sequence closing (λ _. gives so_far)) so_far k s h

pub trees_more : (room : ℕ) (so_far : List UserTree) (k : List Alias) (s : Option (Ahead Found)) → IsNext begins_tree true s → reading edif (trees room so_far) k s ≡ reading edif (sequence (user_tree room) (λ t. trees room (so_far ++ t ∷ []))) k s
unfolding trees user_tree
trees_more zero so_far k s is = more_by zero (gives []) so_far k s is
trees_more (suc room) so_far k s is = more_by (suc room) (trees room []) so_far k s is

pub trees_end : (room : ℕ) (so_far : List UserTree) (k : List Alias) (s : Option (Ahead Found)) → IsNext begins_tree false s → reading edif (trees room so_far) k s ≡ reading edif (sequence closing (λ _. gives so_far)) k s
unfolding trees
trees_end zero so_far k s is = end_by zero (gives []) so_far k s is
trees_end (suc room) so_far k s is = end_by (suc room) (trees room []) so_far k s is

pub trees_fault : (room : ℕ) (so_far : List UserTree) (k : List Alias) (s : Option (Ahead Found)) (e : ReadError) → IsCause e (looking s) → IsCause e (reading edif (trees room so_far) k s)
unfolding trees
trees_fault zero so_far k s e h = fault_by zero (gives []) so_far k s e h
trees_fault (suc room) so_far k s e h = fault_by (suc room) (trees room []) so_far k s e h

-- ---- a tree: a list or a leaf

is_left : (t : Token) → is_opening t ≡ true → t ≡ LeftParen
is_left LeftParen h = refl
is_left RightParen h = absurd cc
is_left (Word w) h = absurd cc
is_left (Number n) h = absurd cc
is_left (Str s) h = absurd cc

list_by : (room : ℕ) (k : List Alias) → Alike opens true k (user_tree (suc room)) (user_list room)
unfolding opens user_tree user_list tree_by one
list_by room k x ts h = rw (is_left x.token h) refl

pub tree_is_list : (room : ℕ) (k : List Alias) (s : Option (Ahead Found)) → 0 < room → IsToken opens true s → reading edif (user_tree room) k s ≡ reading edif (user_list (room - 1)) k s
tree_is_list zero k s some is = absurd (omega (arith, some))
tree_is_list (suc room) k s some is = let e : suc room - 1 ≡ room = omega arith in rw e (at_token opens true (user_tree (suc room)) (user_list room) k s (list_by room k) is)

leaf_tokens : (room : ℕ) (inner : Edif (List UserTree)) (k : List Alias) (x : Found) (ts : List (Terminal Found Place)) (t : Token) → is_opening t ≡ false
    → and_then (judged (proper x) ts (tree_start room t)) (λ (y : TreeStart × List (Terminal Found Place)). read k (tree_rest inner y.0) y.1) ≡ judged (proper x) ts (leaf_of t)
leaf_tokens room inner k x ts LeftParen h = absurd cc
leaf_tokens room inner k x ts RightParen h = refl
leaf_tokens room inner k x ts (Word w) h = refl
leaf_tokens room inner k x ts (Number n) h = refl
leaf_tokens room inner k x ts (Str s) h = refl

leaf_by : (room : ℕ) (inner : Edif (List UserTree)) (k : List Alias) → Alike opens false k (tree_by room inner) leaf
unfolding opens tree_by leaf one
leaf_by room inner k x ts h = leaf_tokens room inner k x ts x.token h

pub tree_is_leaf : (room : ℕ) (k : List Alias) (s : Option (Ahead Found)) → IsToken opens false s → reading edif (user_tree room) k s ≡ reading edif leaf k s
unfolding user_tree
tree_is_leaf zero k s is = at_token opens false (tree_by zero (gives [])) leaf k s (leaf_by zero (gives []) k) is
tree_is_leaf (suc room) k s is = at_token opens false (tree_by (suc room) (trees room [])) leaf k s (leaf_by (suc room) (trees room []) k) is

pub tree_fault : (room : ℕ) (k : List Alias) (s : Option (Ahead Found)) (e : ReadError) → IsCause e (reading edif any k s) → IsCause e (reading edif (user_tree room) k s)
unfolding user_tree tree_by
tree_fault zero k s e h = due_then e edif (one (λ _ x. tree_start zero x.token)) (tree_rest (gives [])) k s (due_one e edif (λ _ x. tree_start zero x.token) k s h)
tree_fault (suc room) k s e h = due_then e edif (one (λ _ x. tree_start (suc room) x.token)) (tree_rest (trees room [])) k s (due_one e edif (λ _ x. tree_start (suc room) x.token) k s h)

-- ---- a list where none may be opened

same_token : (x y : Found) (ts us : List (Terminal Found Place)) → proper x ∷ ts ≡ proper y ∷ us → x ≡ y
same_token x y ts us e = cc

refused_list : (k : List Alias) (x : Found) (s : Ahead Found) → opens x ≡ true → result_of edif s.finish (read k (user_tree 0) (proper x ∷ s.tokens)) ≡ Err (errors.Text (fault_at edif (proper x) reasons.TooDeep))
unfolding opens user_tree tree_by one
refused_list k x s h = rw (is_left x.token h) refl

deep_at : (k : List Alias) (w : Window) (x : Found) (i : Supply) → IsToken opens true (stream_of edif w (Some x) false i) → IsCause (errors.Text (fault_at edif (proper x) reasons.TooDeep)) (reading edif (user_tree 0) k (stream_of edif w (Some x) false i))
unfolding stream_of IsToken IsCause reading
deep_at k w x i = by (tokens_ahead edif w i)
  where
    by : (s : Option (Ahead Found)) → IsToken opens true (option_map (behind (Some x)) s) → IsCause (errors.Text (fault_at edif (proper x) reasons.TooDeep)) (reading edif (user_tree 0) k (option_map (behind (Some x)) s))
    by None is = tt
    by (Some s) is = refused_list k x s (ap opens (same_token x is.0 s.tokens is.1 is.2) ∙ is.3)

pub too_deep : (room : ℕ) (k : List Alias) (c : Reader (List Alias) Found) (i : Supply) (x : Found) → room ≡ 0 → c.ahead ≡ Some x → c.spent ≡ false → IsToken opens true (stream edif c i) → IsCause (errors.Text (fault_at edif (proper x) reasons.TooDeep)) (reading edif (user_tree room) k (stream edif c i))
too_deep room k c i x none some live = rw (none, some, live) (deep_at k c.window x i)

-- for a loop over the trees of a list
pub ruleset tree_loops = (trees_more, trees_end, trees_fault, AllByRecursion-push, sum_by_push, length_push, map_push, sequences)

-- for a tree
pub ruleset tree_choice = (tree_is_list, tree_is_leaf, tree_fault, too_deep, near_text, sequences)

-- ---- a leaf

is_text : (t : Token) → is_string t ≡ true → (w : List ℕ) × (t ≡ Str w)
is_text LeftParen h = absurd cc
is_text RightParen h = absurd cc
is_text (Word w) h = absurd cc
is_text (Number n) h = absurd cc
is_text (Str s) h = (s, refl)

no_text : (t : Token) → is_string t ≡ false → leaf_of t ≡ plain_of t
no_text LeftParen h = refl
no_text RightParen h = refl
no_text (Word w) h = refl
no_text (Number n) h = refl
no_text (Str s) h = absurd cc

is_integer : (t : Token) → is_number t ≡ true → (n : ℤ) × (t ≡ Number n)
is_integer LeftParen h = absurd cc
is_integer RightParen h = absurd cc
is_integer (Word w) h = absurd cc
is_integer (Number n) h = (n, refl)
is_integer (Str s) h = absurd cc

string_by : (k : List Alias) → Alike has_string true k leaf (sequence string (λ t. gives (tree.Str t)))
unfolding has_string leaf one
string_by k x ts h = let w = is_text x.token h in rw w.1 refl

plain_by : (k : List Alias) → Alike has_string false k leaf plain
unfolding has_string leaf plain one
plain_by k x ts h = ap (λ r. judged (proper x) ts r) (no_text x.token h)

number_by : (k : List Alias) → Alike has_number true k plain (sequence integer (λ n. gives (tree.Number n)))
unfolding has_number plain one
number_by k x ts h = let n = is_integer x.token h in rw n.1 refl

word_tokens : (x : Found) (ts : List (Terminal Found Place)) (t : Token) → is_number t ≡ false → judged (proper x) ts (plain_of t) ≡ and_then (judged (proper x) ts (word_of t)) (λ (y : List ℕ × List (Terminal Found Place)). Ok (tree.Word y.0, y.1))
word_tokens x ts LeftParen h = refl
word_tokens x ts RightParen h = refl
word_tokens x ts (Word w) h = refl
word_tokens x ts (Number n) h = absurd cc
word_tokens x ts (Str s) h = refl

word_by : (k : List Alias) → Alike has_number false k plain (sequence word (λ w. gives (tree.Word w)))
unfolding has_number plain one
word_by k x ts h = word_tokens x ts x.token h

leaf_over : (k : List Alias) (at : Place) (ts : List (Terminal Found Place)) → read k leaf (end at ∷ ts) ≡ read k plain (end at ∷ ts)
unfolding leaf plain one
leaf_over k at ts = refl

plain_over : (k : List Alias) (at : Place) (ts : List (Terminal Found Place)) → read k plain (end at ∷ ts) ≡ read k (sequence word (λ w. gives (tree.Word w))) (end at ∷ ts)
unfolding plain one
plain_over k at ts = refl

module _ (k : List Alias) (s : Option (Ahead Found)) where
  pub leaf_is_string : IsNext has_string true s → reading edif leaf k s ≡ reading edif (sequence string (λ t. gives (tree.Str t))) k s
  leaf_is_string is = at_next has_string leaf (sequence string (λ t. gives (tree.Str t))) k s (string_by k) is

  pub leaf_is_plain : IsNext has_string false s → reading edif leaf k s ≡ reading edif plain k s
  leaf_is_plain is = at_other has_string leaf plain k s (plain_by k) (leaf_over k) is

  pub leaf_fault : (e : ReadError) → IsCause e (looking s) → IsCause e (reading edif leaf k s)
  unfolding leaf
  leaf_fault e h = due_one e edif (λ _ x. leaf_of x.token) k s (cause_looking e edif k s h)

  pub plain_is_number : IsNext has_number true s → reading edif plain k s ≡ reading edif (sequence integer (λ n. gives (tree.Number n))) k s
  plain_is_number is = at_next has_number plain (sequence integer (λ n. gives (tree.Number n))) k s (number_by k) is

  pub plain_is_word : IsNext has_number false s → reading edif plain k s ≡ reading edif (sequence word (λ w. gives (tree.Word w))) k s
  plain_is_word is = at_other has_number plain (sequence word (λ w. gives (tree.Word w))) k s (word_by k) (plain_over k) is

  pub plain_fault : (e : ReadError) → IsCause e (looking s) → IsCause e (reading edif plain k s)
  unfolding plain
  plain_fault e h = due_one e edif (λ _ x. plain_of x.token) k s (cause_looking e edif k s h)

-- for a leaf
pub ruleset leaf_choice = (leaf_is_string, leaf_is_plain, leaf_fault, sequences)

-- for a word or a number
pub ruleset plain_choice = (plain_is_number, plain_is_word, plain_fault, sequences)

-- ---- looks

pub seen_tree : (x : Found) (s t : Option (Ahead Found)) → looking s ≡ then_left (Some x) t → IsNext begins_tree (begins_tree x) s
seen_tree = seen_next begins_tree

pub seen_no_tree : (s t : Option (Ahead Found)) → looking s ≡ then_left None t → IsNext begins_tree false s
seen_no_tree = seen_none begins_tree

pub seen_number : (x : Found) (s t : Option (Ahead Found)) → looking s ≡ then_left (Some x) t → IsNext has_number (has_number x) s
seen_number = seen_next has_number

pub seen_no_number : (s t : Option (Ahead Found)) → looking s ≡ then_left None t → IsNext has_number false s
seen_no_number = seen_none has_number

-- for a call that looks whether a tree is next
pub ruleset trees_next = (seen_tree, seen_no_tree)

-- for a call that looks whether a number is next
pub ruleset numbers_next = (seen_number, seen_no_number)
