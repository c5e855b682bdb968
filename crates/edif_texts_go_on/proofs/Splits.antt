-- The bytes of a front of the tokens of some bytes, and its tokens read again where other bytes stand behind them.
use Rattle.std.proofs.Common.{◌≡◌, ℕ, suc, ◌-◌, Bool, true, false, cond, List, [], ◌∷◌, ◌++◌, length, map, Ok, Err, Result, refl, sym, ap, ◌∙◌, subst, arith, append_assoc}
use Rattle.grammar.specs.Whole.{Terminal, proper}
use Rattle.grammar_alike.specs.Alike.{AreAlike}
use Rattle.nl_base.specs.declared.place.Place.{Place}
use Rattle.nl_base.specs.Place.{place_after, place_past}
use Rattle.nl_base.proofs.Places.{place_past-append}
use Rattle.nl_bytes.specs.Classes.{is_space}
use Rattle.nl_bytes.specs.Tokens.{Ahead, follow}
use Rattle.edif_tokens.specs.declared.token.Found.{Found}
use Rattle.edif_values.specs.declared.token.Token.{Token}
use Rattle.nl_bytes.specs.Flaws.{Piece, Flaw}
use Rattle.edif_tokens.specs.Spelling.{token_at, start_of}
use Rattle.edif_tokens.specs.Language.{tokens_from, then_tokens, found_at}
use Rattle.edif_lexing.proofs.Lexing.{Parts, piece}
use Rattle.edif_texts_go_on.specs.Onward.{IsSame}
use Rattle.edif_texts_go_on.proofs.Again.{token_again}

-- tokens, and a stream behind them
abbrev pub followed : List Found → Ahead Found → Ahead Found
followed xs s = record { tokens = map proper xs ++ s.tokens; finish = s.finish }

-- the bytes up to the end of the next token, and those behind
record Next (p : Place) (bs : List ℕ) (x : Found) (others : List (Terminal Found Place)) : Type 0 where
  used : List ℕ
  rest : List ℕ
  parts : bs ≡ used ++ rest
  behind : (tokens_from 0 (place_past p used) rest).tokens ≡ others
  again : (other : List ℕ) → (Parts rest → Parts other)
      → (y : Found) × IsSame x y × (tokens_from 0 p (used ++ other) ≡ follow y (tokens_from 0 (place_past p used) other))

tokens_behind : (p : Place) (used rest : List ℕ) → tokens_from (length used) p (used ++ rest) ≡ tokens_from 0 (place_past p used) rest
unfolding tokens_from
tokens_behind p [] rest = refl
tokens_behind p (b ∷ bs) rest = tokens_behind (place_after p b) bs rest

behind_space : (p : Place) (b : ℕ) (bs : List ℕ) → is_space b ≡ true → tokens_from 0 p (b ∷ bs) ≡ tokens_from 0 (place_after p b) bs
unfolding tokens_from
behind_space p b bs is = rw is refl

first_token : (p : Place) (b : ℕ) (bs : List ℕ) (value : Token) (count seen : ℕ) → is_space b ≡ false → token_at b bs ≡ piece value count seen
    → tokens_from 0 p (b ∷ bs) ≡ follow (found_at p (record { value = value; count = count; seen = seen })) (tokens_from (count - 1) (place_after p b) bs)
unfolding tokens_from
first_token p b bs value count seen space spelled = rw (space, spelled) refl

behind_token : (p : Place) (b : ℕ) (tail rest : List ℕ) (value : Token) (seen : ℕ) → is_space b ≡ false
    → token_at b (tail ++ rest) ≡ piece value (suc (length tail)) seen
    → tokens_from 0 p (b ∷ (tail ++ rest)) ≡ follow (found_at p (record { value = value; count = suc (length tail); seen = seen })) (tokens_from 0 (place_past (place_after p b) tail) rest)
behind_token p b tail rest value seen space spelled =
    let here : Found = found_at p (record { value = value; count = suc (length tail); seen = seen }) in
    let less : suc (length tail) - 1 ≡ length tail = omega arith in
    first_token p b (tail ++ rest) value (suc (length tail)) seen space spelled
    ∙ ap (λ (n : ℕ). follow here (tokens_from n (place_after p b) (tail ++ rest))) less
    ∙ ap (λ (s : Ahead Found). follow here s) (tokens_behind (place_after p b) tail rest)

next_space : (p : Place) (b : ℕ) (bs : List ℕ) (x : Found) (others : List (Terminal Found Place)) → is_space b ≡ true → Next (place_after p b) bs x others
    → Next p (b ∷ bs) x others
next_space p b bs x others is n = record {
  used = b ∷ n.used;
  rest = n.rest;
  parts = ap (λ (z : List ℕ). b ∷ z) n.parts;
  behind = n.behind;
  again = λ other h. let a = n.again other h in (a.0, a.1, behind_space p b (n.used ++ other) is ∙ a.2);
}

head_is : (x y : Found) (xs ys : List (Terminal Found Place)) → proper x ∷ xs ≡ proper y ∷ ys → (x ≡ y) × (xs ≡ ys)
head_is x y xs ys e = (cc, cc)

next_token : (p : Place) (b : ℕ) (bs : List ℕ) (x : Found) (others : List (Terminal Found Place)) (token : Piece Token) → is_space b ≡ false → token_at b bs ≡ Ok token
    → proper (found_at p token) ∷ (tokens_from (token.count - 1) (place_after p b) bs).tokens ≡ proper x ∷ others → Next p (b ∷ bs) x others
unfolding token_at
next_token p b bs x others token space spelled e =
    let t = token_again (start_of b) b bs token spelled in
    let is = head_is (found_at p token) x (tokens_from (token.count - 1) (place_after p b) bs).tokens others e in
    let counted = t.count in
    let less : token.count - 1 ≡ length t.tail = omega (arith, counted) in
    let behind : tokens_from (token.count - 1) (place_after p b) bs ≡ tokens_from 0 (place_past (place_after p b) t.tail) t.rest =
    ap (λ (n : ℕ). tokens_from n (place_after p b) bs) less ∙ ap (λ (z : List ℕ). tokens_from (length t.tail) (place_after p b) z) t.parts
    ∙ tokens_behind (place_after p b) t.tail t.rest in
    record {
      used = b ∷ t.tail;
      rest = t.rest;
      parts = ap (λ (z : List ℕ). b ∷ z) t.parts;
      behind = sym (ap (λ (s : Ahead Found). s.tokens) behind) ∙ is.1;
      again = λ other h.
          let a = t.again other h in
          let y : Found = found_at p (record { value = token.value; count = suc (length t.tail); seen = a.0 }) in
          (y, record { token = ap (λ (f : Found). f.token) (sym is.0); place = ap (λ (f : Found). f.place) (sym is.0) }, behind_token p b t.tail other token.value a.0 space a.1);
    }

next : (p : Place) (bs : List ℕ) (x : Found) (others : List (Terminal Found Place)) → (tokens_from 0 p bs).tokens ≡ proper x ∷ others → Next p bs x others
unfolding tokens_from
next p [] x others e = absurd cc
next p (b ∷ bs) x others e = by (is_space b) refl (next (place_after p b) bs x others) e
  where
    by_token : (r : Result (Piece Token) Flaw) → token_at b bs ≡ r → is_space b ≡ false
        → (then_tokens p (b ∷ bs) r (λ count. tokens_from (count - 1) (place_after p b) bs)).tokens ≡ proper x ∷ others → Next p (b ∷ bs) x others
    by_token (Ok token) spelled space e = next_token p b bs x others token space spelled e
    by_token (Err f) spelled space e = absurd cc

    by : (t : Bool) → is_space b ≡ t → ((tokens_from 0 (place_after p b) bs).tokens ≡ proper x ∷ others → Next (place_after p b) bs x others)
        → (cond t (tokens_from 0 (place_after p b) bs) (then_tokens p (b ∷ bs) (token_at b bs) (λ count. tokens_from (count - 1) (place_after p b) bs))).tokens ≡ proper x ∷ others
        → Next p (b ∷ bs) x others
    by true is rest e = next_space p b bs x others is (rest e)
    by false is rest e = by_token (token_at b bs) refl is e

-- ---- fronts

-- the bytes of a front, and its tokens again
pub record Splits (p : Place) (bs : List ℕ) (front : List Found) : Type 0 where
  pub used : List ℕ
  pub rest : List ℕ
  pub parts : bs ≡ used ++ rest
  pub again : (other : List ℕ) → (Parts rest → Parts other)
      → (same : List Found) × AreAlike IsSame front same × (tokens_from 0 p (used ++ other) ≡ followed same (tokens_from 0 (place_past p used) other))

parts_on : (used rest other : List ℕ) → (Parts rest → Parts other) → Parts (used ++ rest) → Parts (used ++ other)
parts_on [] rest other h k = h k
parts_on (b ∷ used) rest other h k = k

pub splits : (front : List Found) (others : List (Terminal Found Place)) (p : Place) (bs : List ℕ) → (tokens_from 0 p bs).tokens ≡ map proper front ++ others → Splits p bs front
splits [] others p bs e = record { used = []; rest = bs; parts = refl; again = λ other h. ([], tt, refl) }
splits (x ∷ front) others p bs e =
    let n = next p bs x (map proper front ++ others) e in
    let s = splits front others (place_past p n.used) n.rest n.behind in
    record {
      used = n.used ++ s.used;
      rest = s.rest;
      parts = n.parts ∙ ap (λ (z : List ℕ). n.used ++ z) s.parts ∙ sym (append_assoc n.used s.used s.rest);
      again = λ other h.
          let a = s.again other h in
          let b = n.again (s.used ++ other) (λ k. parts_on s.used s.rest other h (subst Parts s.parts k)) in (
            b.0 ∷ a.0,
            (b.1, a.1),
            ap (tokens_from 0 p) (append_assoc n.used s.used other) ∙ b.2 ∙ ap (λ (z : Ahead Found). follow b.0 z) a.2
                ∙ ap (λ (q : Place). followed (b.0 ∷ a.0) (tokens_from 0 q other)) (sym (place_past-append p n.used s.used)),
          );
    }
