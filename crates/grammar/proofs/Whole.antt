-- An input is at most one text, or has at most one first fault, or is cut, and never two of these.
use Rattle.std.proofs.Common.{◌≡◌, List, [], Ok, Err, refl, sym, ap, subst, ◌∙◌, append-nil, inl, inr}
use Rattle.grammar.specs.Part.{Part, gives, sequence}
use Rattle.grammar.specs.Texts.{Spells, Begins}
use Rattle.grammar.specs.Reading.{refused, ended, read}
use Rattle.grammar.specs.Clear.{Next, IsClear, IsClosed, IsLive}
use Rattle.grammar.specs.Whole.{Terminal, proper, end, Done, Bad, Over, Stream, IsText, IsFirstFault, at_token, at_bad, IsCut, the_end, whole}
use Rattle.grammar.proofs.Follow.{clear_fewer}
use Rattle.grammar.proofs.Exact.{one_value, one_fault, fault_or_begins, text_from_read, fault_from_read, begins_from_read}

-- what spells a value begins a text
pub spells_begins : {K X R A : Type 0} (κ : K) (p : Part K X R A) (ts : List X) (v : A) → Spells κ p ts v → Begins κ p ts
spells_begins κ p ts v h = ([], v, subst (λ (z : List _). Spells κ p z v) (sym (append-nil ts)) h)

-- a part that is live and of which no text goes on to another
module _ {K X R F A : Type 0} (fault : X → R → F) (κ : K) (p : Part K X R A) (live : IsLive κ p) (last : X) (closed : IsClosed κ p) where
  clear_last : IsClear κ p (λ _ x. x ≡ last)
  clear_last = clear_fewer κ p (λ _ x. x ≡ last) (λ _ _. Unit {0}) (λ _ _ _. tt) closed

  -- An input is the text of at most one value.
  pub one_text : (s : Stream X F) (v w : A) → IsText κ p s v → IsText κ p s w → v ≡ w
  one_text s v w h k = one_value κ p live last clear_last s.tokens v w h.0 k.0

  -- An input has at most one first fault.
  pub one_first_fault : (s : Stream X F) (f g : F) → IsFirstFault fault κ p s f → IsFirstFault fault κ p s g → f ≡ g
  one_first_fault s f g (at_token x q h e) (at_token y r k d) =
      let same = one_fault κ p live last clear_last s.tokens x y q r h k in
      e ∙ ap (λ z. fault z q) same.0 ∙ ap (fault y) same.1 ∙ sym d
  one_first_fault s f g (at_token x q h e) (at_bad k d) = absurd (fault_or_begins κ p live last clear_last s.tokens x q h k)
  one_first_fault s f g (at_bad h e) (at_token y r k d) = absurd (fault_or_begins κ p live last clear_last s.tokens y r k h)
  one_first_fault s f g (at_bad h e) (at_bad k d) = let same : Bad f ≡ Bad g = sym e ∙ d in cc

  -- No text has a first fault.
  pub text_or_fault : (s : Stream X F) (v : A) (f : F) → IsText κ p s v → IsFirstFault fault κ p s f → ⊥
  text_or_fault s v f h (at_token x r k e) = fault_or_begins κ p live last clear_last s.tokens x r k (spells_begins κ p s.tokens v h.0)
  text_or_fault s v f h (at_bad k e) = let same : Done ≡ Bad f = sym h.1 ∙ e in absurd cc

  -- No input that is cut is a text.
  pub text_or_cut : (s : Stream X F) (v : A) → IsText κ p s v → IsCut κ p s → ⊥
  text_or_cut s v h k = let same : Done ≡ Over = sym h.1 ∙ k.1 in absurd cc

  -- No input that is cut has a first fault.
  pub fault_or_cut : (s : Stream X F) (f : F) → IsFirstFault fault κ p s f → IsCut κ p s → ⊥
  fault_or_cut s f (at_token x r h e) k = fault_or_begins κ p live last clear_last s.tokens x r h k.0
  fault_or_cut s f (at_bad h e) k = let same : Bad f ≡ Over = sym e ∙ k.1 in absurd cc

  -- ---- the reading finds which of them there is

  -- What is read up to the end of the input is a text.
  pub text_is : (s : Stream X F) (v : A) → read κ p s.tokens ≡ Ok (v, []) → s.finish ≡ Done → IsText κ p s v
  text_is s v h e = let t = text_from_read κ p live last clear_last s.tokens [] v h in (subst (λ (z : List X). Spells κ p z v) (sym (t.place ∙ append-nil t.text)) t.is_text, e)

  -- The token that the reading refuses is the first fault.
  pub fault_is : (s : Stream X F) (x : X) (r : R) → read κ p s.tokens ≡ Err (refused x r) → IsFirstFault fault κ p s (fault x r)
  fault_is s x r h = at_token x r (fault_from_read κ p live last clear_last s.tokens x r h) refl

  -- Where the reading needs one more token, the bytes that are none are the first fault.
  pub bad_is : (s : Stream X F) (f : F) → read κ p s.tokens ≡ Err ended → s.finish ≡ Bad f → IsFirstFault fault κ p s f
  bad_is s f h e = at_bad (begins_from_read κ p live last clear_last s.tokens h) e

  -- Where the reading needs one more token, and no further one is looked at, the input is cut.
  pub cut_is : (s : Stream X F) → read κ p s.tokens ≡ Err ended → s.finish ≡ Over → IsCut κ p s
  cut_is s h e = (begins_from_read κ p live last clear_last s.tokens h, e)

-- ---- a part up to the end of the input

module _ {K X P R A : Type 0} (trailing : X → R) (κ : K) (p : Part K (Terminal X P) R A) where
  -- A part that is live is so up to the end of the input.
  pub live_whole : P → IsLive κ p → IsLive κ (whole trailing p)
  unfolding whole the_end
  live_whole at live = (live, λ v. ((end at, tt, refl), λ _. tt))

  abbrev given : A → Part K (Terminal X P) R A
  given v = gives v

  abbrev ending : A → Part K (Terminal X P) R A
  ending v = sequence (the_end trailing) (λ _. given v)

  -- only the end of the input comes next
  end_next : (F : A → Terminal X P → Type 0) (G : A → Terminal X P → Type 0) → ((v : A) (at : P) → G v (end at)) → (v : A) (x : Terminal X P) → Next κ (ending v) F x → G v x
  unfolding the_end
  end_next F G all v (proper x) (inl (inl h)) = let e = h.1 in absurd cc
  end_next F G all v (end at) (inl (inl h)) = all v at
  end_next F G all v x (inl (inr h)) = absurd h.1
  end_next F G all v x (inr h) = absurd h.1.1

  -- A part that is clear where the end of the input follows it is closed up to there.
  pub closed_whole : (G : A → Terminal X P → Type 0) → ((v : A) (at : P) → G v (end at)) → IsClear κ p G → IsClosed κ (whole trailing p)
  unfolding whole the_end
  closed_whole G all is_clear =
      (clear_fewer κ p (λ v. Next κ (ending v) (λ _ _. Unit {0})) G (λ v x n. end_next (λ _ _. Unit {0}) G all v x n) is_clear, λ v. (closed_end v, λ _. tt))
    where
      closed_end : (v : A) → IsClear κ (the_end {P = P} trailing) (λ _. Next κ (given v) (λ _ _. Unit {0}))
      closed_end v = tt
