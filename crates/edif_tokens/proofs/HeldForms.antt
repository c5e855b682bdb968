-- The `(` and the word that begin a form, where the bytes that are held show both.
use Rattle.std.proofs.Common.{◌≡◌, ℕ, ◌<◌, ◌≤◌, Bool, true, false, cond, eqb, leb, List, [], ◌∷◌, length, take, drop, Some, None, refl, sym, ap, ◌∙◌, subst, arith, length-take, length-drop}
use Rattle.std.specs.Prelude.{IsFalse}
use Rattle.std.proofs.lemmas.Bool.{eqb-true}
use Rattle.std.proofs.lemmas.List.Sums.{prefix_len-le-length}
use Rattle.nl_bytes.specs.declared.bytes.TheConstants.{LIMIT}
use Rattle.nl_bytes.specs.Classes.{is_space}
use Rattle.nl_bytes.specs.Bytes.{Window, given}
use Rattle.nl_io.specs.Sources.{Supply}
use Rattle.edif_tokens.specs.declared.form.FormAt.{FormAt}
use Rattle.edif_tokens.specs.Held.{is_near, space_length, past_space, front_mark, held_mark, past_mark, word_length, front_word, held_word, past_word}
use Rattle.edif_tokens.specs.HeldForm.{no_form, opened, form_behind, form_at, ReadsForm}
use Rattle.nl_bytes.specs.Tokens.{State}
use Rattle.edif_tokens.proofs.HeldTokens.{past_given, space_given, past_mark_is, word_enough, mark_taken, word_taken, word_within}

-- there is as much white space as there are bytes, at most
pub space_fits : (n : ℕ) (xs : List ℕ) → n ≡ space_length xs → n ≤ length xs
space_fits n xs e = omega (arith, e, prefix_len-le-length is_space xs)

-- what a form that is next is known by
pub record FormNext (w : Window) (at : FormAt) : Type 0 where
  pub near : is_near w ≡ true
  pub mark : held_mark w ≡ Some 40
  pub tail : List ℕ
  pub front : (past_space w).held ≡ 40 ∷ tail
  pub is : at ≡ opened (space_length w.held) tail

pub form_next : (w : Window) (at : FormAt) → at ≡ form_at w → 0 < at.count → FormNext w at
unfolding form_at held_mark
form_next w at is some = by_limit (is_near w) refl is
  where
    none : at ≡ no_form → FormNext w at
    none h = absurd (omega (arith, ap (λ (a : FormAt). a.count) h, some))

    by_byte : is_near w ≡ true → (b : ℕ) (bs : List ℕ) → (past_space w).held ≡ b ∷ bs → (t : Bool) → eqb b 40 ≡ t → at ≡ cond t (opened (space_length w.held) bs) no_form → FormNext w at
    by_byte near b bs e false d h = none h
    by_byte near b bs e true d h =
        let front : (past_space w).held ≡ 40 ∷ bs = e ∙ ap (λ (x : ℕ). x ∷ bs) (eqb-true b 40 d) in record {
          near = near;
          mark = ap (λ (t : Bool). cond t (front_mark (past_space w).held) None) near ∙ ap front_mark front;
          tail = bs;
          front = front;
          is = h;
        }

    by_front : is_near w ≡ true → (bs : List ℕ) → (past_space w).held ≡ bs → at ≡ form_behind (space_length w.held) bs → FormNext w at
    by_front near [] e h = none h
    by_front near (b ∷ bs) e h = by_byte near b bs e (eqb b 40) refl h

    by_limit : (t : Bool) → is_near w ≡ t → at ≡ cond t (form_behind (space_length w.held) (past_space w).held) no_form → FormNext w at
    by_limit true d h = by_front d (past_space w).held refl h
    by_limit false d h = none h

-- what is held of it
pub record FormHeld (w : Window) (at : FormAt) : Type 0 where
  pub mark : held_mark w ≡ Some 40
  pub space : at.space ≡ space_length w.held
  pub inner : at.inner ≡ space_length (past_mark w).held
  pub count : at.count ≡ length (held_word (past_mark w))
  pub behind : (past_mark w).held ≡ drop 1 (drop at.space w.held)
  pub word : held_word (past_mark w) ≡ take at.count (drop at.inner (past_mark w).held)
  pub before : at.space ≤ length w.held
  pub some : 1 ≤ length (drop at.space w.held)
  pub between : at.inner ≤ length (past_mark w).held
  pub enough : at.count ≤ length (drop at.inner (past_mark w).held)

held_word_is : (v : Window) → is_near v ≡ true → held_word v ≡ front_word (drop (space_length v.held) v.held)
unfolding held_word
held_word_is v near = ap (λ (t : Bool). cond t (front_word (drop (space_length v.held) v.held)) []) near

pub form_held : (w : Window) (at : FormAt) → at ≡ form_at w → 0 < at.count → FormHeld w at
form_held w at is some =
    let n = form_next w at is some in
    let v = past_mark w in
    let len = ap (λ (xs : List ℕ). length xs) n.front in
    let held : v.held ≡ n.tail = ap (λ (u : Window). u.held) (past_mark_is w) ∙ ap (λ (xs : List ℕ). drop 1 xs) n.front in
    let given_is : given v ≡ given w = ap (λ (u : Window). given u) (past_mark_is w) ∙ past_given 1 (past_space w) (omega (arith, len)) ∙ space_given w in
    let near : is_near v ≡ true = ap (λ (k : ℕ). leb k LIMIT) given_is ∙ n.near in
    let space : at.space ≡ space_length w.held = ap (λ (a : FormAt). a.space) n.is in
    let inner : at.inner ≡ space_length v.held = ap (λ (a : FormAt). a.inner) n.is ∙ ap (λ (xs : List ℕ). space_length xs) (sym held) in
    let inside = drop (space_length v.held) v.held in
    let size : at.count ≡ word_length inside = ap (λ (a : FormAt). a.count) n.is ∙ ap (λ (xs : List ℕ). word_length (drop (space_length xs) xs)) (sym held) in
    let word : held_word v ≡ take at.count inside = held_word_is v near ∙ ap (λ (k : ℕ). take k inside) (sym size) in
    let same : drop at.inner v.held ≡ inside = ap (λ (k : ℕ). drop k v.held) inner in
    let enough : at.count ≤ length inside = omega (arith, size, word_enough inside) in
    let first : drop at.space w.held ≡ (past_space w).held = ap (λ (k : ℕ). drop k w.held) space in
    record {
      mark = n.mark;
      space = space;
      inner = inner;
      count = sym (ap (λ (xs : List ℕ). length xs) word ∙ length_of at.count inside enough);
      behind = held ∙ sym (ap (λ (xs : List ℕ). drop 1 xs) (first ∙ n.front));
      word = word ∙ ap (λ (xs : List ℕ). take at.count xs) (sym same);
      before = omega (arith, space, prefix_len-le-length is_space w.held);
      some = omega (arith, ap (λ (xs : List ℕ). length xs) (first ∙ n.front));
      between = omega (arith, inner, prefix_len-le-length is_space v.held);
      enough = omega (arith, ap (λ (xs : List ℕ). length xs) same, enough);
    }
  where
    length_of : (k : ℕ) (xs : List ℕ) → k ≤ length xs → length (take k xs) ≡ k
    length_of k xs enough = omega (arith, length-take k xs, enough)

-- what is held behind the `(` is no more
pub form_small : (w : Window) (at : FormAt) → at ≡ form_at w → 0 < at.count → length w.held ≤ 4096 → length (past_mark w).held ≤ 4096
form_small w at is some small =
    let len = ap (λ (xs : List ℕ). length xs) (form_held w at is some).behind in
    omega (arith, len, length-drop 1 (drop at.space w.held), length-drop at.space w.held, small)

-- a reader that is not spent reads them as its next two tokens
pub form_taken : (s : State) (w : Window) (spent : Bool) → record { window = w; spent = spent } ≡ s → length w.held ≤ 4096 → (at : FormAt) → at ≡ form_at s.window → 0 < at.count → IsFalse s.spent → (i : Supply)
    → ReadsForm (held_word (past_mark s.window)) s (record { window = past_mark s.window; spent = s.spent }) (record { window = past_word (past_mark w); spent = spent }) i
form_taken s w spent e small at is some live i =
    subst (λ (s : State). at ≡ form_at s.window → IsFalse s.spent → ReadsForm (held_word (past_mark s.window)) s (record { window = past_mark s.window; spent = s.spent }) (record { window = past_word (past_mark w); spent = spent }) i) e
    (λ is live.
    let h = form_held w at is some in
    record {
      parenthesis = mark_taken (record { window = w; spent = spent }) w spent refl small 40 h.mark live i;
      word = word_taken (record { window = past_mark w; spent = spent }) (past_mark w) spent refl (form_small w at is some small) (omega (arith, h.count, some)) live i;
    }) is live

-- no byte past the limit is used for them
pub form_within : (s : State) (w : Window) (spent : Bool) → record { window = w; spent = spent } ≡ s → (at : FormAt) → at ≡ form_at s.window → 0 < at.count → (past_word (past_mark w)).place.offset ≤ LIMIT
form_within s w spent e at is some =
    let h = form_held w at (is ∙ ap (λ (s : State). form_at s.window) (sym e)) some in
    word_within (record { window = past_mark w; spent = spent }) (past_mark w) spent refl at.count h.count some
