-- The texts of what is read as often as it comes: forms up to the end of the form around them, and strings.
use Rattle.std.proofs.Common.{◌≡◌, ◌∙◌, sym, ap, subst, refl, inl, inr, ℕ, ◌≤◌, Bool, true, false, ◌||◌, cond, List, [], ◌∷◌, ◌++◌, length, append_assoc, append-nil, arith}
use Rattle.std.specs.List.{filter, list_any}
use Rattle.grammar.specs.Part.{takes}
use Rattle.grammar.specs.Texts.{Spells, ends, goes}
use Rattle.grammar.specs.Whole.{proper, end}
use Rattle.readers.specs.Parts.{while_next}
use Rattle.edif_values.specs.declared.token.Token.{Token}
use Rattle.edif_values.specs.declared.token.Token.TheVariants.{LeftParen, RightParen, Word, Number, Str}
use Rattle.edif_values.specs.declared.keyword.Keyword.{Keyword}
use Rattle.edif_keywords.specs.Aliases.{Alias}
use Rattle.edif_keywords.specs.Language.{Edif}
use Rattle.edif_keywords.specs.Reasons as say
use Rattle.edif_keywords.specs.Grammar.{forms, item, items, strings}
use Rattle.edif_productions.specs.Production.{Production, either, many, meaning, such, Tokens, IsToken, ManyText, no_more, one_more, Texts, str, AtMostOne, HasTextsOf}
use Rattle.edif_productions.proofs.OneToken.{alone, closing_text, text_closing}
use Rattle.edif_productions.proofs.Combining.{ReadsOn, ItemText, item_text, text_item, taken_item, item_taken}

-- items one behind the other, each of which may come behind those before it
data Turns {I : Type 0} (T : List I → Tokens → I → Type 0) : List I → Tokens → List I → Type 0 where
  no_turn : {before : List I} {ts : Tokens} {is : List I} → ts ≡ [] → is ≡ [] → Turns T before ts is
  turn : {before : List I} {ts : Tokens} {is : List I} (i : I) (later : List I) (a b : Tokens) → ts ≡ a ++ b → T before a i
      → Turns T (before ++ i ∷ []) b later → is ≡ i ∷ later → Turns T before ts is

module _ {I : Type 0} (allowed : List I → List Keyword) (rest : Keyword → Edif I) (k : List Alias) where
  -- one item, behind others
  abbrev One : List I → Tokens → I → Type 0
  One before ts i = ItemText k (allowed before) rest ts i

  -- items behind others, and `)`
  record Ended (before : List I) (ts : Tokens) (all : List I) : Type 0 where
    later : List I
    value : all ≡ before ++ later
    inside : Tokens
    behind : Tokens
    is : ts ≡ inside ++ behind
    turns : Turns One before inside later
    closes : IsToken RightParen behind

  ended : (before : List I) (ts : Tokens) (all : List I) → Spells k (items allowed rest before) ts all → Ended before ts all
  unfolding items forms while_next
  ended before ts all (ends (u, a, b, e, c, (n, f))) = record {
    later = [];
    value = f ∙ sym (append-nil before);
    inside = [];
    behind = a;
    is = e ∙ alone a b n;
    turns = no_turn refl refl;
    closes = closing_text k a u c;
  }
  ended before ts all (goes t a b (x, u, r, m, h, (i, p, n, e, s, (z, f))) more w) =
      let last = ended t b all more in
      let one = taken_item k (allowed before) rest x u p i h s in
      let a_is : a ≡ x ∷ p = m ∙ ap (λ y. x ∷ y) (e ∙ alone p n z) in
      record {
        later = i ∷ last.later;
        value = last.value ∙ ap (λ y. y ++ last.later) f ∙ append_assoc before (i ∷ []) last.later;
        inside = (x ∷ p) ++ last.inside;
        behind = last.behind;
        is = w ∙ ap (λ y. y ++ b) a_is ∙ ap (λ y. (x ∷ p) ++ y) last.is ∙ sym (append_assoc (x ∷ p) last.inside last.behind);
        turns = turn i last.later (x ∷ p) last.inside refl one (subst (λ y. Turns One y last.inside last.later) f last.turns) refl;
        closes = last.closes;
      }

  read_turns : (before : List I) (a b : Tokens) (later : List I) → Turns One before a later → IsToken RightParen b
      → Spells k (items allowed rest before) (a ++ b) (before ++ later)
  unfolding items forms while_next
  read_turns before a b later (no_turn e n) close =
      ends (tt, b, [], ap (λ z. z ++ b) e ∙ sym (append-nil b), text_closing k b close, (refl, ap (λ z. before ++ z) n ∙ append-nil before))
  read_turns before a b later (turn i is c d e t more n) close =
      let y = item_taken k (allowed before) rest c i t in
      let last = read_turns (before ++ i ∷ []) d b is more close in
      let value : (before ++ i ∷ []) ++ is ≡ before ++ later = append_assoc before (i ∷ []) is ∙ ap (λ z. before ++ z) (sym n) in
      goes (before ++ i ∷ []) c (d ++ b)
      (proper y.first, tt, y.rest_of, y.is, y.taken, (i, y.rest_of, [], sym (append-nil y.rest_of), y.text, (refl, refl)))
      (subst (λ z. Spells k (items allowed rest (before ++ i ∷ [])) (d ++ b) z) value last)
      (ap (λ z. z ++ b) e ∙ append_assoc c d b)

-- ---- items that may all come as often as they like

module _ {I : Type 0} (allowed : List Keyword) {rest : Keyword → Edif I} {P : Production I} (h : HasTextsOf (item allowed rest) P)
    (k : List Alias) where
  many_text : (before : List I) (ts : Tokens) (is : List I) → Turns (One (λ _. allowed) rest k) before ts is → Texts k (many P) ts is
  many_text before ts is (no_turn e n) = no_more e n
  many_text before ts is (turn i later a b e t more n) =
      one_more i later a b e (h.is_text k a i (text_item k allowed rest a i t)) (many_text (before ++ i ∷ []) b later more) n

  text_many : (before : List I) (ts : Tokens) (is : List I) → ManyText (Texts k P) ts is → Turns (One (λ _. allowed) rest k) before ts is
  text_many before ts is (no_more e n) = no_turn e n
  text_many before ts is (one_more i later a b e t more n) =
      turn i later a b e (item_text k allowed rest a i (h.is_spelled k a i t)) (text_many (before ++ i ∷ []) b later more) n

-- forms with some keywords, up to the end of the form around them
pub many_forms : {I : Type 0} {rest : Keyword → Edif I} {P : Production I} (allowed : List Keyword) → HasTextsOf (item allowed rest) P
    → ReadsOn (items (λ _. allowed) rest []) (many P)
many_forms {rest = rest} allowed h = record {
  is_text = λ k ts v s. let r = ended (λ _. allowed) rest k [] ts v s in
      record {
        inside = r.inside;
        behind = r.behind;
        is = r.is;
        text = many_text allowed h k [] r.inside v (subst (λ z. Turns (One (λ _. allowed) rest k) [] r.inside z) (sym r.value) r.turns);
        closes = r.closes;
      };
  is_spelled = λ k ts v t. subst (λ z. Spells k (items (λ _. allowed) rest []) z v) (sym t.is)
      (read_turns (λ _. allowed) rest k [] t.inside t.behind v (text_many allowed h k [] t.inside v t.text) t.closes);
}

-- ---- strings

string_taken : (t : Token) (s : List ℕ) → say.at_string t ≡ takes s → t ≡ Str s
string_taken LeftParen s h = absurd cc
string_taken RightParen s h = absurd cc
string_taken (Word w) s h = absurd cc
string_taken (Number n) s h = absurd cc
string_taken (Str r) s h = let e : r ≡ s = cc in ap Str e

module _ (k : List Alias) where
  -- strings behind others, and `)`
  record EndedStrings (before : List (List ℕ)) (ts : Tokens) (all : List (List ℕ)) : Type 0 where
    later : List (List ℕ)
    value : all ≡ before ++ later
    inside : Tokens
    behind : Tokens
    is : ts ≡ inside ++ behind
    text : Texts k (many str) inside later
    closes : IsToken RightParen behind

  ended_strings : (before : List (List ℕ)) (ts : Tokens) (all : List (List ℕ)) → Spells k (strings before) ts all → EndedStrings before ts all
  unfolding strings while_next
  ended_strings before ts all (ends (u, a, b, e, c, (n, f))) = record {
    later = [];
    value = f ∙ sym (append-nil before);
    inside = [];
    behind = a;
    is = e ∙ alone a b n;
    text = no_more refl refl;
    closes = closing_text k a u c;
  }
  ended_strings before ts all (goes t a b (proper x, s, r, m, h, (z, f)) more w) =
      let last = ended_strings t b all more in
      let a_is : a ≡ proper x ∷ [] = m ∙ ap (λ y. proper x ∷ y) z in
      record {
        later = s ∷ last.later;
        value = last.value ∙ ap (λ y. y ++ last.later) f ∙ append_assoc before (s ∷ []) last.later;
        inside = proper x ∷ last.inside;
        behind = last.behind;
        is = w ∙ ap (λ y. y ++ b) a_is ∙ ap (λ y. proper x ∷ y) last.is;
        text = one_more s last.later (proper x ∷ []) last.inside refl (x, refl, string_taken x.token s h) last.text refl;
        closes = last.closes;
      }
  ended_strings before ts all (goes t a b (end p, s, r, m, h, q) more w) = absurd cc

  read_strings : (before : List (List ℕ)) (a b : Tokens) (later : List (List ℕ)) → ManyText (Texts k str) a later → IsToken RightParen b
      → Spells k (strings before) (a ++ b) (before ++ later)
  unfolding strings while_next
  read_strings before a b later (no_more e n) close =
      ends (tt, b, [], ap (λ z. z ++ b) e ∙ sym (append-nil b), text_closing k b close, (refl, ap (λ z. before ++ z) n ∙ append-nil before))
  read_strings before a b later (one_more s is c d e (x, m, t) more n) close =
      let last = read_strings (before ++ s ∷ []) d b is more close in
      let value : (before ++ s ∷ []) ++ is ≡ before ++ later = append_assoc before (s ∷ []) is ∙ ap (λ z. before ++ z) (sym n) in
      goes (before ++ s ∷ []) (proper x ∷ []) (d ++ b) (proper x, s, [], refl, ap say.at_string t, (refl, refl))
      (subst (λ z. Spells k (strings (before ++ s ∷ [])) (d ++ b) z) value last)
      (ap (λ z. z ++ b) (e ∙ ap (λ z. z ++ d) m))

-- strings, up to the end of the form around them
pub many_strings : ReadsOn (strings []) (many str)
many_strings = record {
  is_text = λ k ts v s. let r = ended_strings k [] ts v s in
      record {
        inside = r.inside;
        behind = r.behind;
        is = r.is;
        text = subst (λ z. Texts k (many str) r.inside z) (sym r.value) r.text;
        closes = r.closes;
      };
  is_spelled = λ k ts v t. subst (λ z. Spells k (strings []) z v) (sym t.is) (read_strings k [] t.inside t.behind v t.text t.closes);
}

-- ---- items of which one kind may come once

any_more : {I : Type 0} (test : I → Bool) (is : List I) (i : I) → list_any test (is ++ i ∷ []) ≡ (list_any test is || test i)
any_more test [] i = by (test i)
  where
    by : (b : Bool) → (b || false) ≡ (false || b)
    by true = refl
    by false = refl
any_more test (j ∷ is) i = ap (λ b. test j || b) (any_more test is i) ∙ by (test j)
  where
    by : (b : Bool) → (b || (list_any test is || test i)) ≡ ((b || list_any test is) || test i)
    by true = refl
    by false = refl

-- behind items of which one is such or none is: none more, or at most one
abbrev Room : {I : Type 0} → (I → Bool) → Bool → List I → Type 0
Room test true is = list_any test is ≡ false
Room test false is = AtMostOne test is

none_there : {I : Type 0} (test : I → Bool) (is : List I) → list_any test is ≡ false → length (filter test is) ≡ 0
none_there test [] h = refl
none_there test (i ∷ is) h = by (test i) h (none_there test is)
  where
    by : (b : Bool) → (b || list_any test is) ≡ false → (list_any test is ≡ false → length (filter test is) ≡ 0)
        → length (cond b (i ∷ filter test is) (filter test is)) ≡ 0
    by true h later = absurd cc
    by false h later = later h

not_there : {I : Type 0} (test : I → Bool) (is : List I) → length (filter test is) ≤ 0 → list_any test is ≡ false
not_there test [] h = refl
not_there test (i ∷ is) h = by (test i) h (not_there test is)
  where
    by : (b : Bool) → length (cond b (i ∷ filter test is) (filter test is)) ≤ 0 → (length (filter test is) ≤ 0 → list_any test is ≡ false)
        → (b || list_any test is) ≡ false
    by true h later = absurd (omega arith)
    by false h later = later h

-- one item, and room behind it
room_more : {I : Type 0} (test : I → Bool) (b : Bool) (i : I) (is : List I) → (b ≡ true → test i ≡ false) → Room test (b || test i) is
    → Room test b (i ∷ is)
room_more test true i is h r = rw (h refl) r
room_more test false i is h r = by (test i) r
  where
    by : (c : Bool) → Room test c is → length (cond c (i ∷ filter test is) (filter test is)) ≤ 1
    by true r = let e = none_there test is r in omega arith
    by false r = r

-- the other way round
room_first : {I : Type 0} (test : I → Bool) (b : Bool) (i : I) (is : List I) → Room test b (i ∷ is) → (b ≡ true → test i ≡ false)
    × Room test (b || test i) is
room_first test true i is r = by (test i) r
  where
    by : (c : Bool) → (c || list_any test is) ≡ false → (true ≡ true → c ≡ false) × (list_any test is ≡ false)
    by true r = absurd cc
    by false r = (λ _. refl, r)
room_first test false i is r = (λ e. absurd cc, by (test i) r)
  where
    by : (c : Bool) → length (cond c (i ∷ filter test is) (filter test is)) ≤ 1 → Room test c is
    by true r = not_there test is (omega arith)
    by false r = r

module _ {D I : Type 0} (test : I → Bool) (may : Bool → List Keyword) {rest : Keyword → Edif I} (make : D → I) {F : Production D} {Q : Production I}
    (all : HasTextsOf (item (may false) rest) (either (meaning make F) Q)) (others : HasTextsOf (item (may true) rest) Q)
    (once : (d : D) → test (make d) ≡ true) (apart : (k : List Alias) (ts : Tokens) (i : I) → Texts k Q ts i → test i ≡ false)
    (k : List Alias) where
  -- one item, behind others of which one is such or none is
  abbrev OneBehind : List I → Tokens → I → Type 0
  OneBehind before ts i = ItemText k (may (list_any test before)) rest ts i

  to_one : (b : Bool) (ts : Tokens) (i : I) → ItemText k (may b) rest ts i → Texts k (either (meaning make F) Q) ts i × (b ≡ true → test i ≡ false)
  to_one true ts i t = let q = others.is_text k ts i (text_item k (may true) rest ts i t) in (inr q, λ _. apart k ts i q)
  to_one false ts i t = (all.is_text k ts i (text_item k (may false) rest ts i t), λ e. absurd cc)

  from_one : (b : Bool) (ts : Tokens) (i : I) → (b ≡ true → test i ≡ false) → Texts k (either (meaning make F) Q) ts i → ItemText k (may b) rest ts i
  from_one true ts i h (inl (d, t, e)) = let clash = sym (h refl) ∙ ap test e ∙ once d in absurd cc
  from_one true ts i h (inr t) = item_text k (may true) rest ts i (others.is_spelled k ts i t)
  from_one false ts i h t = item_text k (may false) rest ts i (all.is_spelled k ts i t)

  once_text : (before : List I) (b : Bool) (ts : Tokens) (is : List I) → list_any test before ≡ b → Turns OneBehind before ts is
      → ManyText (Texts k (either (meaning make F) Q)) ts is × Room test b is
  once_text before b ts is e (no_turn f n) = (no_more f n, subst (λ z. Room test b z) (sym n) (empty b))
    where
      empty : (b : Bool) → Room test b []
      empty true = refl
      empty false = omega arith
  once_text before b ts is e (turn i later x y f t more n) =
      let one = to_one b x i (subst (λ z. ItemText k (may z) rest x i) e t) in
      let last = once_text (before ++ i ∷ []) (b || test i) y later (any_more test before i ∙ ap (λ z. z || test i) e) more in
      (one_more i later x y f one.0 last.0 n, subst (λ z. Room test b z) (sym n) (room_more test b i later one.1 last.1))

  text_once : (before : List I) (b : Bool) (ts : Tokens) (is : List I) → list_any test before ≡ b → Room test b is
      → ManyText (Texts k (either (meaning make F) Q)) ts is → Turns OneBehind before ts is
  text_once before b ts is e r (no_more f n) = no_turn f n
  text_once before b ts is e r (one_more i later x y f t more n) =
      let room = room_first test b i later (subst (λ z. Room test b z) n r) in
      turn i later x y f (subst (λ z. ItemText k (may z) rest x i) (sym e) (from_one b x i room.0 t))
      (text_once (before ++ i ∷ []) (b || test i) y later (any_more test before i ∙ ap (λ z. z || test i) e) room.1 more) n

-- forms of which one kind may come once, up to the end of the form around them
pub once_forms : {D I : Type 0} (test : I → Bool) (may : Bool → List Keyword) {rest : Keyword → Edif I}
    (make : D → I) {F : Production D} {Q : Production I}
    → HasTextsOf (item (may false) rest) (either (meaning make F) Q) → HasTextsOf (item (may true) rest) Q → ((d : D) → test (make d) ≡ true)
    → ((k : List Alias) (ts : Tokens) (i : I) → Texts k Q ts i → test i ≡ false)
    → ReadsOn (items (λ before. may (list_any test before)) rest []) (such (λ is. AtMostOne test is) (many (either (meaning make F) Q)))
once_forms test may {rest = rest} make {F = F} {Q = Q} all others once apart = record {
  is_text = λ k ts v s.
      let r = ended (λ before. may (list_any test before)) rest k [] ts v s in
      let t = once_text test may make all others once apart k [] false r.inside r.later refl r.turns in
      record {
        inside = r.inside;
        behind = r.behind;
        is = r.is;
        text = (
          subst (λ z. Texts k (many (either (meaning make F) Q)) r.inside z) (sym r.value) t.0,
          subst (λ z. AtMostOne test z)
              (sym r.value) t.1,
        );
        closes = r.closes;
      };
  is_spelled = λ k ts v t. subst (λ z. Spells k (items (λ before. may (list_any test before)) rest []) z v) (sym t.is)
      (read_turns (λ before. may (list_any test before)) rest k [] t.inside t.behind v
      (text_once test may make all others once apart k [] false t.inside v refl t.text.1 t.text.0) t.closes);
}
