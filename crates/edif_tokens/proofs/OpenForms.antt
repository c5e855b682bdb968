-- The form that is next, where its word is seen by comparing what is held with it.
use Rattle.std.proofs.Common.{◌≡◌, ℕ, zero, suc, ◌+◌, ◌<◌, ◌≤◌, Bool, true, false, cond, eqb, leb, ltb, ◌||◌, ◌&&◌, List, [], ◌∷◌, length, get_or, take, drop, Option, Some, None, refl, sym, ap, ◌∙◌, subst, arith}
use Rattle.std.specs.Char.{is_ascii_alphabetic}
use Rattle.std.specs.List.{list_all, prefix_len}
use Rattle.std.proofs.lemmas.Bool.{eqb-true, leb-true, leb-false, le-ltb, lt-leb}
use Rattle.std.proofs.lemmas.Slice.Eq.{bytes_eq-Decides}
use Rattle.std.proofs.lemmas.List.Sums.{prefix_len-le-length}
use Rattle.nl_base.specs.Case.{same_bytes}
use Rattle.nl_bytes.specs.Classes.{is_space, is_word_byte}
use Rattle.nl_bytes.specs.Bytes.{Window}
use Rattle.edif_tokens.specs.declared.form.FormAt.{FormAt}
use Rattle.edif_tokens.specs.declared.form.OpenAt.{OpenAt}
use Rattle.edif_tokens.specs.Spelling.{may_follow}
use Rattle.edif_tokens.specs.Held.{is_near, space_length, past_space, word_by, word_length, front_word}
use Rattle.edif_tokens.specs.HeldForm.{no_form, form_behind, form_at, open_behind, open_at, opened_by, shows_word}

-- ---- where a `(` stands

-- what a `(` that is next is known by
pub record OpenNext (w : Window) (at : OpenAt) : Type 0 where
  pub near : is_near w ≡ true
  pub tail : List ℕ
  pub front : (past_space w).held ≡ 40 ∷ tail
  pub is : record { space = space_length w.held; inner = space_length tail } ≡ at

or_other : OpenAt → Option OpenAt → OpenAt
or_other at None = at
or_other at (Some x) = x

pub open_next : (w : Window) (at : OpenAt) → open_at w ≡ Some at → OpenNext w at
unfolding open_at or_other
open_next w at is = by_limit (is_near w) refl is
  where
    by_byte : is_near w ≡ true → (b : ℕ) (bs : List ℕ) → (past_space w).held ≡ b ∷ bs → (t : Bool) → eqb b 40 ≡ t → cond t (Some (record { space = space_length w.held; inner = space_length bs })) None ≡ Some at → OpenNext w at
    by_byte near b bs e false d h = absurd cc
    by_byte near b bs e true d h = record {
      near = near;
      tail = bs;
      front = e ∙ ap (λ (x : ℕ). x ∷ bs) (eqb-true b 40 d);
      is = ap (or_other at) h;
    }

    by_front : is_near w ≡ true → (bs : List ℕ) → (past_space w).held ≡ bs → open_behind (space_length w.held) bs ≡ Some at → OpenNext w at
    by_front near [] e h = absurd cc
    by_front near (b ∷ bs) e h = by_byte near b bs e (eqb b 40) refl h

    by_limit : (t : Bool) → is_near w ≡ t → cond t (open_behind (space_length w.held) (past_space w).held) None ≡ Some at → OpenNext w at
    by_limit true d h = by_front d (past_space w).held refl h
    by_limit false d h = absurd cc

-- what is held has room for the white space and the `(`
pub record OpenRoom (held : List ℕ) (at : OpenAt) : Type 0 where
  pub before : at.space ≤ length held
  pub some : 1 ≤ length (drop at.space held)
  pub between : at.inner ≤ length (drop 1 (drop at.space held))

pub open_room : (w : Window) (at : OpenAt) → open_at w ≡ Some at → OpenRoom w.held at
open_room w at is =
    let n = open_next w at is in
    subst (OpenRoom w.held) n.is (record {
      before = prefix_len-le-length is_space w.held;
      some = omega (arith, ap (λ (xs : List ℕ). length xs) n.front);
      between = omega (arith, ap (λ (xs : List ℕ). length (drop 1 xs)) n.front, prefix_len-le-length is_space n.tail);
    })

-- the form that begins with that `(`
abbrev pub form_behind_open : Window → OpenAt → FormAt
form_behind_open w at = record { space = at.space; inner = at.inner; count = word_length (opened_by at w.held) }

pub open_form : (w : Window) (at : OpenAt) → open_at w ≡ Some at → form_at w ≡ form_behind_open w at
unfolding form_at
open_form w at is =
    let n = open_next w at is in
    let near = ap (λ (t : Bool). cond t (form_behind (space_length w.held) (past_space w).held) no_form) n.near in
    let front = ap (form_behind (space_length w.held)) n.front in
    let inside : FormAt = record { space = space_length w.held; inner = space_length n.tail; count = word_length (drop (space_length n.tail) n.tail) } in
    let behind : form_behind_open w (record { space = space_length w.held; inner = space_length n.tail }) ≡ inside =
    ap (λ (xs : List ℕ). record { space = space_length w.held; inner = space_length n.tail; count = word_length (drop (space_length n.tail) (drop 1 xs)) }) n.front in
    near ∙ front ∙ sym behind ∙ ap (form_behind_open w) n.is

-- ---- the word

-- whether a word begins with a letter, has bytes of words alone, and is not too long
abbrev pub is_plain : List ℕ → Bool
is_plain [] = false
is_plain (b ∷ bs) = is_ascii_alphabetic b && (list_all is_word_byte (b ∷ bs) && leb (length (b ∷ bs)) 1024)

-- what may follow a word is no byte of one
follows_out : (b : ℕ) → may_follow b ≡ true → is_word_byte b ≡ false
follows_out b e = by (eqb b 9) refl (eqb b 10) refl (eqb b 13) refl (eqb b 32) refl (eqb b 40) refl (eqb b 41) refl (eqb b 34) refl e
  where
    out : (n : ℕ) → eqb b n ≡ true → is_word_byte n ≡ false → is_word_byte b ≡ false
    out n d f = ap is_word_byte (eqb-true b n d) ∙ f

    by : (s : Bool) → eqb b 9 ≡ s → (t : Bool) → eqb b 10 ≡ t → (u : Bool) → eqb b 13 ≡ u → (v : Bool) → eqb b 32 ≡ v → (x : Bool) → eqb b 40 ≡ x → (y : Bool) → eqb b 41 ≡ y → (z : Bool) → eqb b 34 ≡ z
        → ((s || t || u || v) || x || y || z) ≡ true → is_word_byte b ≡ false
    by true d t d2 u d3 v d4 x d5 y d6 z d7 h = out 9 d refl
    by false d true d2 u d3 v d4 x d5 y d6 z d7 h = out 10 d2 refl
    by false d false d2 true d3 v d4 x d5 y d6 z d7 h = out 13 d3 refl
    by false d false d2 false d3 true d4 x d5 y d6 z d7 h = out 32 d4 refl
    by false d false d2 false d3 false d4 true d5 y d6 z d7 h = out 40 d5 refl
    by false d false d2 false d3 false d4 false d5 true d6 z d7 h = out 41 d6 refl
    by false d false d2 false d3 false d4 false d5 false d6 true d7 h = out 34 d7 refl
    by false d false d2 false d3 false d4 false d5 false d6 false d7 h = absurd cc

-- a run that a byte out of the class ends
run_ends : (p : ℕ → Bool) (n : ℕ) (xs : List ℕ) → n < length xs → list_all p (take n xs) ≡ true → p (get_or xs n 0) ≡ false → prefix_len p xs ≡ n
run_ends p n [] more each out = absurd (omega (arith, more))
run_ends p zero (x ∷ xs) more each out = ap (λ (t : Bool). cond t (1 + prefix_len p xs) 0) out
run_ends p (suc n) (x ∷ xs) more each out = go (p x) refl (λ rest. run_ends p n xs (omega (arith, more)) rest out) each
  where
    go : (t : Bool) → p x ≡ t → (list_all p (take n xs) ≡ true → prefix_len p xs ≡ n) → (t && list_all p (take n xs)) ≡ true → prefix_len p (x ∷ xs) ≡ suc n
    go true d later h = ap (λ (t : Bool). cond t (1 + prefix_len p xs) 0) d ∙ omega (arith, later h)
    go false d later h = absurd cc

-- what is known of bytes that begin with a word
pub record Shown (bs word : List ℕ) : Type 0 where
  pub more : length word < length bs
  pub front : take (length word) bs ≡ word
  pub follows : may_follow (get_or bs (length word) 0) ≡ true

pub shown : (bs word : List ℕ) → shows_word bs word ≡ true → Shown bs word
shown bs word h = go (leb (length bs) (length word)) refl h
  where
    both : (s t : Bool) → (s && t) ≡ true → (s ≡ true) × (t ≡ true)
    both true true e = (refl, refl)
    both true false e = absurd cc
    both false t e = absurd cc

    go : (t : Bool) → leb (length bs) (length word) ≡ t → cond t false (same_bytes (take (length word) bs) word && may_follow (get_or bs (length word) 0)) ≡ true → Shown bs word
    go true d e = absurd cc
    go false d e =
        let b = both _ _ e in
        record { more = leb-false (length bs) (length word) d; front = (bytes_eq-Decides (take (length word) bs) word).0 b.0; follows = b.1 }

-- such a word is the one that stands there
pub shown_length : (bs word : List ℕ) → is_plain word ≡ true → shows_word bs word ≡ true → word_length bs ≡ length word
unfolding word_length
shown_length bs [] plain e = absurd cc
shown_length [] (x ∷ xs) plain e = let s = shown [] (x ∷ xs) e in absurd (omega (arith, s.more))
shown_length (b ∷ bs) (x ∷ xs) plain e = parts (is_ascii_alphabetic x) refl (list_all is_word_byte (x ∷ xs)) refl (leb (length (x ∷ xs)) 1024) refl plain
  where
    n : ℕ
    n = length (x ∷ xs)

    s : Shown (b ∷ bs) (x ∷ xs)
    s = shown (b ∷ bs) (x ∷ xs) e

    first : b ≡ x
    first = ap (λ (ys : List ℕ). get_or ys 0 0) s.front

    parts : (t : Bool) → is_ascii_alphabetic x ≡ t → (u : Bool) → list_all is_word_byte (x ∷ xs) ≡ u → (v : Bool) → leb n 1024 ≡ v → (t && (u && v)) ≡ true
        → cond (is_ascii_alphabetic b) (word_by (b ∷ bs) (prefix_len is_word_byte (b ∷ bs))) 0 ≡ n
    parts true d true f true g h =
        let run : prefix_len is_word_byte (b ∷ bs) ≡ n = run_ends is_word_byte n (b ∷ bs) s.more (ap (list_all is_word_byte) s.front ∙ f) (follows_out (get_or (b ∷ bs) n 0) s.follows) in
        let short : ltb 1024 n ≡ false = le-ltb 1024 n (leb-true n 1024 g) in
        let inside : leb (length (b ∷ bs)) n ≡ false = lt-leb (length (b ∷ bs)) n s.more in
        ap (λ (t : Bool). cond t (word_by (b ∷ bs) (prefix_len is_word_byte (b ∷ bs))) 0) (ap is_ascii_alphabetic first ∙ d)
        ∙ ap (word_by (b ∷ bs)) run
        ∙ ap (λ (t : Bool). cond (t || leb (length (b ∷ bs)) n) 0 (cond (may_follow (get_or (b ∷ bs) n 0)) n 0)) short
        ∙ ap (λ (t : Bool). cond t 0 (cond (may_follow (get_or (b ∷ bs) n 0)) n 0)) inside
        ∙ ap (λ (t : Bool). cond t n 0) s.follows
    parts true d true f false g h = absurd cc
    parts true d false f v g h = absurd cc
    parts false d u f v g h = absurd cc

pub shown_word : (bs word : List ℕ) → is_plain word ≡ true → shows_word bs word ≡ true → front_word bs ≡ word
shown_word bs word plain e = ap (λ (k : ℕ). take k bs) (shown_length bs word plain e) ∙ (shown bs word e).front
