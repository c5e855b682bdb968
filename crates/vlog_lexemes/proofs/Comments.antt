-- Comments that do not end.
use Rattle.std.proofs.Common.{◌≡◌, ℕ, suc, ◌+◌, Bool, true, false, cond, eqb, ◌&&◌, List, [], ◌∷◌, length, Result, Err, refl, sym, ap, ◌∙◌, arith}
use Rattle.std.proofs.lemmas.Bool.{eqb-true}
use Rattle.nl_base.specs.declared.fault.Reason.TheVariants.{EndOfInput}
use Rattle.nl_bytes.specs.Flaws.{Piece, Flaw, flaw}
use Rattle.vlog_tokens.specs.declared.item.Item.{Item}
use Rattle.vlog_tokens.specs.Spelling.{comment_at}
use Rattle.vlog_lexemes.specs.Lexemes.{NoCommentEnd}
use Rattle.vlog_lexemes.proofs.Blanks.{slash_first, ends_by, ends_not, comment_star, comment_other, no_close}

end_by : (m n : ℕ) → m ≡ n → flaw {A = Piece Item} EndOfInput m m ≡ flaw {A = Piece Item} EndOfInput n n
end_by m n e = ap (λ (k : ℕ). flaw {A = Piece Item} EndOfInput k k) e

comment_end : (star : Bool) (n : ℕ) → comment_at star n [] ≡ flaw EndOfInput n n
unfolding comment_at
comment_end star n = refl

pub comment_unended : (body : List ℕ) (star : Bool) (n : ℕ) → (star ≡ true → slash_first body ≡ false) → NoCommentEnd body
    → comment_at star n body ≡ flaw EndOfInput (n + length body) (n + length body)
comment_unended [] star n first none = comment_end star n ∙ end_by _ _ (omega arith)
comment_unended (b ∷ bs) star n first none = by (eqb b 42) refl (λ s h. comment_unended bs s (n + 1) h none.1)
  where
    by : (t : Bool) → eqb b 42 ≡ t
        → ((s : Bool) → (s ≡ true → slash_first bs ≡ false) → comment_at s (n + 1) bs ≡ flaw EndOfInput (n + 1 + length bs) (n + 1 + length bs))
        → comment_at star n (b ∷ bs) ≡ flaw EndOfInput (n + suc (length bs)) (n + suc (length bs))
    by true e others = comment_star star n b bs e ∙ others true (λ _. sym (ends_by b bs e) ∙ none.0) ∙ end_by _ _ (omega arith)
    by false e others = comment_other star n b bs e (no_close star (eqb b 47) first) ∙ others false (λ f. absurd cc) ∙ end_by _ _ (omega arith)

-- the bytes of a comment that does not end
pub record Unended (star : Bool) (n : ℕ) (bs : List ℕ) (x : Flaw) : Type 0 where
  pub none : NoCommentEnd bs
  pub first : star ≡ true → slash_first bs ≡ false
  pub why : flaw {A = Piece Item} EndOfInput (n + length bs) (n + length bs) ≡ Err x

split_cond : {P : Type 0} (t : Bool) (x y : Result (Piece Item) Flaw) (f : Flaw) → cond t x y ≡ Err f → (t ≡ true → x ≡ Err f → P)
    → (t ≡ false → y ≡ Err f → P) → P
split_cond {P} true x y f e p q = p refl e
split_cond {P} false x y f e p q = q refl e

not_slash : (s t : Bool) → (s && t) ≡ false → s ≡ true → t ≡ false
not_slash true t h e = h
not_slash false t h e = absurd cc

star_first : (b : ℕ) → eqb b 42 ≡ true → eqb b 47 ≡ false
star_first b e = ap (λ (z : ℕ). eqb z 47) (eqb-true b 42 e)

pub comment_faulty : (bs : List ℕ) (star : Bool) (n : ℕ) (x : Flaw) → comment_at star n bs ≡ Err x → Unended star n bs x
unfolding comment_at
comment_faulty [] star n x e = record { none = tt; first = λ _. refl; why = end_by _ _ (omega arith) ∙ e }
comment_faulty (b ∷ bs) star n x e =
    split_cond {P = Unended star n (b ∷ bs) x} (eqb b 42) _ _ x e
    (λ is ok. let u = comment_faulty bs true (n + 1) x ok in record { none = (ends_by b bs is ∙ u.first refl, u.none); first = λ _. star_first b is; why = end_by _ _ (omega arith) ∙ u.why })
    (λ other e. split_cond {P = Unended star n (b ∷ bs) x} (star && eqb b 47) _ _ x e (λ close no_fault. absurd cc)
    (λ open_ ok. let u = comment_faulty bs false (n + 1) x ok in record { none = (ends_not b bs other, u.none); first = not_slash star (eqb b 47) open_; why = end_by _ _ (omega arith) ∙ u.why }))
