-- The bytes of a front of the tokens of some bytes, and its tokens read again where other bytes stand behind them.
use Rattle.std.proofs.Common.{◌≡◌, ℕ, zero, suc, ◌+◌, ◌-◌, ◌≤◌, Bool, true, false, cond, List, [], ◌∷◌, ◌++◌, length, take, drop, Some, Ok, Err, Result, refl, sym, ap, ◌∙◌, subst, arith, append_assoc, length-append, inl}
use Rattle.std.specs.List.{prefix_len}
use Rattle.std.proofs.lemmas.List.{take-append-drop, length-take}
use Rattle.std.proofs.lemmas.List.Sums.{prefix_len-le-length}
use Rattle.grammar.specs.Whole.{Terminal, proper}
use Rattle.grammar_alike.specs.Alike.{AreAlike}
use Rattle.nl_base.specs.declared.place.Place.{Place}
use Rattle.nl_base.specs.Place.{place_after, place_past}
use Rattle.nl_base.proofs.Places.{place_past-append}
use Rattle.nl_bytes.specs.Bytes.{first}
use Rattle.nl_bytes.specs.Classes.{is_line_byte}
use Rattle.nl_bytes.specs.Tokens.{Ahead, follow}
use Rattle.vlog_tokens.specs.declared.item.Item.{Item}
use Rattle.vlog_tokens.specs.declared.item.Item.TheVariants.{Blank, Line, Token}
use Rattle.vlog_tokens.specs.declared.token.VFound.{VFound}
use Rattle.vlog_tokens.specs.declared.token.VToken.{VToken}
use Rattle.nl_bytes.specs.Flaws.{Piece, Flaw}
use Rattle.vlog_tokens.specs.Language.{with_line, then_tokens, then_items, tokens_from}
use Rattle.vlog_tokens.specs.Spelling.{item_at, start_of}
use Rattle.vlog_lexing.proofs.Scanning.{piece}
use Rattle.vlog_goes_on.specs.Onward.{IsSame}
use Rattle.vlog_goes_on.proofs.Scans.{Fits}
use Rattle.vlog_goes_on.proofs.Again.{item_again}

-- tokens, and a stream behind them
abbrev pub followed : List VFound → Ahead VFound → Ahead VFound
followed [] s = s
followed (x ∷ xs) s = follow x (followed xs s)

-- the bytes up to the end of the next token, of which there is one at least, and those behind
record Next (p : Place) (bs : List ℕ) (x : VFound) (others : List (Terminal VFound Place)) : Type 0 where
  one : ℕ
  more : List ℕ
  rest : List ℕ
  parts : bs ≡ one ∷ (more ++ rest)
  behind : (tokens_from 0 (place_past p (one ∷ more)) rest).tokens ≡ others
  again : (other : List ℕ) → Fits rest other
      → (y : VFound) × IsSame x y × (tokens_from 0 p (one ∷ (more ++ other)) ≡ follow y (tokens_from 0 (place_past p (one ∷ more)) other))

tokens_behind : (p : Place) (used rest : List ℕ) → tokens_from (length used) p (used ++ rest) ≡ tokens_from 0 (place_past p used) rest
unfolding tokens_from
tokens_behind p [] rest = refl
tokens_behind p (b ∷ bs) rest = tokens_behind (place_after p b) bs rest

-- what stands at a place, and the tokens behind it
at_item : (p : Place) (b : ℕ) (bs : List ℕ) (item : Item) (count seen : ℕ) → item_at b bs ≡ piece item count seen
    → tokens_from 0 p (b ∷ bs) ≡ then_tokens item p (b ∷ bs) count seen (λ n. tokens_from (n - 1) (place_after p b) bs)
unfolding tokens_from
at_item p b bs item count seen e = rw e refl

less_one : (n : ℕ) → suc n - 1 ≡ n
less_one n = omega arith

-- behind so many bytes and the first
past_tail : (p : Place) (b : ℕ) (tail rest : List ℕ)
    → tokens_from (suc (length tail) - 1) (place_after p b) (tail ++ rest) ≡ tokens_from 0 (place_past p (b ∷ tail)) rest
past_tail p b tail rest =
    ap (λ (n : ℕ). tokens_from n (place_after p b) (tail ++ rest)) (less_one (length tail)) ∙ tokens_behind (place_after p b) tail rest

-- ---- a line

one_more : (n : ℕ) → 1 + n ≡ suc n
one_more n = omega arith

-- a run is as long where the byte behind it is the same
run_again : (class : ℕ → Bool) (bs z : List ℕ) → first (drop (prefix_len class bs) bs) ≡ first z
    → prefix_len class (take (prefix_len class bs) bs ++ z) ≡ prefix_len class bs
run_again class [] [] e = refl
run_again class [] (c ∷ cs) e = absurd cc
run_again class (b ∷ bs) z e = by (class b) refl (run_again class bs z) e
  where
    none : (z : List ℕ) → class b ≡ false → Some b ≡ first z → prefix_len class z ≡ 0
    none [] is e = absurd cc
    none (c ∷ cs) is e = let same : c ≡ b = cc in let no : class c ≡ false = ap class same ∙ is in rw no refl

    by : (t : Bool) → class b ≡ t
        → (first (drop (prefix_len class bs) bs) ≡ first z → prefix_len class (take (prefix_len class bs) bs ++ z) ≡ prefix_len class bs)
        → first (drop (cond t (1 + prefix_len class bs) 0) (b ∷ bs)) ≡ first z
        → prefix_len class (take (cond t (1 + prefix_len class bs) 0) (b ∷ bs) ++ z) ≡ cond t (1 + prefix_len class bs) 0
    by true is rest e =
        let here : first (drop (prefix_len class bs) bs) ≡ first z = subst (λ (n : ℕ). first (drop n (b ∷ bs)) ≡ first z) (one_more (prefix_len class bs)) e in
        rw (one_more (prefix_len class bs), is) (ap (λ (n : ℕ). 1 + n) (rest here) ∙ one_more (prefix_len class bs))
    by false is rest e = none z is e

line_count : (b : ℕ) (tail rest : List ℕ) → with_line (suc (length tail)) (b ∷ (tail ++ rest)) ≡ suc (length tail) + prefix_len is_line_byte rest
line_count b tail rest = ap (λ (z : List ℕ). suc (length tail) + prefix_len is_line_byte z) (behind tail)
  where
    behind : (tail : List ℕ) → drop (length tail) (tail ++ rest) ≡ rest
    behind [] = refl
    behind (c ∷ cs) = behind cs

-- behind a line's bytes
past_line : (p : Place) (b : ℕ) (tail line rest : List ℕ) (n : ℕ) → n ≡ suc (length tail) + length line
    → tokens_from (n - 1) (place_after p b) (tail ++ (line ++ rest)) ≡ tokens_from 0 (place_past p (b ∷ (tail ++ line))) rest
past_line p b tail line rest n e =
    let long : n - 1 ≡ length (tail ++ line) = omega (arith, e, length-append tail line) in
    ap (λ (n : ℕ). tokens_from n (place_after p b) (tail ++ (line ++ rest))) long
    ∙ ap (λ (z : List ℕ). tokens_from (length (tail ++ line)) (place_after p b) z) (sym (append_assoc tail line rest))
    ∙ tokens_behind (place_after p b) (tail ++ line) rest

-- ---- the next token

-- the bytes of what stands at a place and of the next token behind it
after_gap : (p : Place) (b : ℕ) (gap rest : List ℕ) (x : VFound) (others : List (Terminal VFound Place))
    → (n : Next (place_past p (b ∷ gap)) rest x others)
    → ((other : List ℕ) → Fits n.rest other → tokens_from 0 p (b ∷ (gap ++ (n.one ∷ (n.more ++ other)))) ≡ tokens_from 0 (place_past p (b ∷ gap)) (n.one ∷ (n.more ++ other)))
    → Next p (b ∷ (gap ++ rest)) x others
after_gap p b gap rest x others n passes =
    let past : place_past (place_past p (b ∷ gap)) (n.one ∷ n.more) ≡ place_past p (b ∷ (gap ++ (n.one ∷ n.more))) = sym (place_past-append p (b ∷ gap) (n.one ∷ n.more)) in
    record {
      one = b;
      more = gap ++ (n.one ∷ n.more);
      rest = n.rest;
      parts = ap (λ (z : List ℕ). b ∷ z) (ap (λ (z : List ℕ). gap ++ z) n.parts ∙ sym (append_assoc gap (n.one ∷ n.more) n.rest));
      behind = ap (λ (q : Place). (tokens_from 0 q n.rest).tokens) (sym past) ∙ n.behind;
      again = λ other f.
          let a = n.again other f in (
            a.0,
            a.1,
            ap (λ (z : List ℕ). tokens_from 0 p (b ∷ z)) (append_assoc gap (n.one ∷ n.more) other) ∙ passes other f ∙ a.2
                ∙ ap (λ (q : Place). follow a.0 (tokens_from 0 q other)) past,
          );
    }

-- bytes that begin as these do
begins_so : (rest : List ℕ) (c : ℕ) (cs other : List ℕ) → rest ≡ c ∷ cs → Fits rest (c ∷ other)
begins_so rest c cs other e = inl (ap first e)

head_is : (x y : Terminal VFound Place) (xs ys : List (Terminal VFound Place)) → x ∷ xs ≡ y ∷ ys → (x ≡ y) × (xs ≡ ys)
head_is x y xs ys e = (cc, cc)

abbrev as_terminal : VFound → Terminal VFound Place
as_terminal x = proper x

same_found : (x y : VFound) → as_terminal x ≡ as_terminal y → x ≡ y
same_found x y e = cc

of_token : (p : Place) (b : ℕ) (bs : List ℕ) (x : VFound) (others : List (Terminal VFound Place)) (token : VToken) (count seen : ℕ)
    → item_at b bs ≡ piece (Token token) count seen
    → proper (record { place = p; stop = p.offset + seen; token = token }) ∷ (tokens_from (count - 1) (place_after p b) bs).tokens ≡ proper x ∷ others
    → Next p (b ∷ bs) x others
unfolding item_at
of_token p b bs x others token count seen spelled e =
    let here : VFound = record { place = p; stop = p.offset + seen; token = token } in
    let t = item_again (start_of b) b bs (record { value = Token token; count = count; seen = seen }) spelled in
    let is = head_is (proper here) (proper x) (tokens_from (count - 1) (place_after p b) bs).tokens others e in
    let same = same_found here x is.0 in
    let behind : tokens_from (count - 1) (place_after p b) bs ≡ tokens_from 0 (place_past p (b ∷ t.tail)) t.rest =
    ap (λ (n : ℕ). tokens_from (n - 1) (place_after p b) bs) t.count
    ∙ ap (λ (z : List ℕ). tokens_from (suc (length t.tail) - 1) (place_after p b) z) t.parts ∙ past_tail p b t.tail t.rest in
    record {
      one = b;
      more = t.tail;
      rest = t.rest;
      parts = ap (λ (z : List ℕ). b ∷ z) t.parts;
      behind = sym (ap (λ (s : Ahead VFound). s.tokens) behind) ∙ is.1;
      again = λ other f.
          let a = t.again other f in
          let y : VFound = record { place = p; stop = p.offset + a.0; token = token } in (
            y,
            record { token = ap (λ (f : VFound). f.token) (sym same); place = ap (λ (f : VFound). f.place) (sym same) },
            at_item p b (t.tail ++ other) (Token token) (suc (length t.tail)) a.0 a.1
                ∙ ap (λ (s : Ahead VFound). follow y s) (past_tail p b t.tail other),
          );
    }

-- the rest behind what stands at a place has a token at its front
abbrev Onward : ℕ → VFound → List (Terminal VFound Place) → Type 0
Onward n x others = (p : Place) (bs : List ℕ) → length bs ≤ n → (tokens_from 0 p bs).tokens ≡ proper x ∷ others → Next p bs x others

shorter : (bs tail rest : List ℕ) (n : ℕ) → bs ≡ tail ++ rest → suc (length bs) ≤ suc n → length rest ≤ n
shorter bs tail rest n e le = let l = ap length e ∙ length-append tail rest in omega (arith, l, le)

of_blank : (p : Place) (b : ℕ) (bs : List ℕ) (x : VFound) (others : List (Terminal VFound Place)) (n count seen : ℕ) → Onward n x others
    → suc (length bs) ≤ suc n → item_at b bs ≡ piece Blank count seen
    → (tokens_from (count - 1) (place_after p b) bs).tokens ≡ proper x ∷ others → Next p (b ∷ bs) x others
unfolding item_at
of_blank p b bs x others n count seen on le spelled e =
    let t = item_again (start_of b) b bs (record { value = Blank; count = count; seen = seen }) spelled in
    let behind : tokens_from (count - 1) (place_after p b) bs ≡ tokens_from 0 (place_past p (b ∷ t.tail)) t.rest =
    ap (λ (n : ℕ). tokens_from (n - 1) (place_after p b) bs) t.count
    ∙ ap (λ (z : List ℕ). tokens_from (suc (length t.tail) - 1) (place_after p b) z) t.parts ∙ past_tail p b t.tail t.rest in
    let next = on (place_past p (b ∷ t.tail)) t.rest (shorter bs t.tail t.rest n t.parts le) (sym (ap (λ (s : Ahead VFound). s.tokens) behind) ∙ e) in
    subst (λ (z : List ℕ). Next p (b ∷ z) x others) (sym t.parts)
    (after_gap p b t.tail t.rest x others next
    (λ other f. let a =
    t.again (next.one ∷ (next.more ++ other)) (begins_so t.rest next.one (next.more ++ next.rest) (next.more ++ other) next.parts) in
    at_item p b (t.tail ++ (next.one ∷ (next.more ++ other))) Blank (suc (length t.tail)) a.0 a.1
    ∙ past_tail p b t.tail (next.one ∷ (next.more ++ other))))

of_line : (p : Place) (b : ℕ) (bs : List ℕ) (x : VFound) (others : List (Terminal VFound Place)) (n count seen : ℕ) → Onward n x others
    → suc (length bs) ≤ suc n → item_at b bs ≡ piece Line count seen
    → (tokens_from (with_line count (b ∷ bs) - 1) (place_after p b) bs).tokens ≡ proper x ∷ others → Next p (b ∷ bs) x others
unfolding item_at
of_line p b bs x others n count seen on le spelled e =
    let t = item_again (start_of b) b bs (record { value = Line; count = count; seen = seen }) spelled in
    let k : ℕ = prefix_len is_line_byte t.rest in
    let line : List ℕ = take (prefix_len is_line_byte t.rest) t.rest in
    let rest : List ℕ = drop (prefix_len is_line_byte t.rest) t.rest in
    let whole : t.rest ≡ line ++ rest = sym (take-append-drop (prefix_len is_line_byte t.rest) t.rest) in
    let long : length line ≡ prefix_len is_line_byte t.rest = omega (arith, length-take (prefix_len is_line_byte t.rest) t.rest, prefix_len-le-length is_line_byte t.rest) in
    let all : bs ≡ (t.tail ++ line) ++ rest = t.parts ∙ ap (λ (z : List ℕ). t.tail ++ z) whole ∙ sym (append_assoc t.tail line rest) in
    let counted : with_line count (b ∷ bs) ≡ suc (length t.tail) + length line =
    ap (λ (m : ℕ). with_line m (b ∷ bs)) t.count ∙ ap (λ (z : List ℕ). with_line (suc (length t.tail)) (b ∷ z)) t.parts ∙ line_count b t.tail t.rest
    ∙ ap (λ (m : ℕ). suc (length t.tail) + m) (sym long) in
    let behind : tokens_from (with_line count (b ∷ bs) - 1) (place_after p b) bs ≡ tokens_from 0 (place_past p (b ∷ (t.tail ++ line))) rest =
    ap (λ (z : List ℕ). tokens_from (with_line count (b ∷ bs) - 1) (place_after p b) z) (t.parts ∙ ap (λ (z : List ℕ). t.tail ++ z) whole)
    ∙ past_line p b t.tail line rest (with_line count (b ∷ bs)) counted in
    let next = on (place_past p (b ∷ (t.tail ++ line))) rest (shorter bs (t.tail ++ line) rest n all le) (sym (ap (λ (s : Ahead VFound). s.tokens) behind) ∙ e) in
    subst (λ (z : List ℕ). Next p (b ∷ z) x others) (sym all)
    (after_gap p b (t.tail ++ line) rest x others next
    (λ other f. let z : List ℕ = next.one ∷ (next.more ++ other) in
    let start : first rest ≡ first z = ap first next.parts in
    let a = t.again (line ++ z) (inl (line_starts line rest z t.rest whole start)) in
    let same : prefix_len is_line_byte (line ++ z) ≡ length line = run_again is_line_byte t.rest z start ∙ sym long in
    ap (λ (w : List ℕ). tokens_from 0 p (b ∷ w)) (append_assoc t.tail line z) ∙ at_item p b (t.tail ++ (line ++ z)) Line (suc (length t.tail)) a.0 a.1
    ∙ past_line p b t.tail line z (with_line (suc (length t.tail)) (b ∷ (t.tail ++ (line ++ z)))) (line_count b t.tail (line ++ z) ∙ ap (λ (m : ℕ). suc (length t.tail) + m) same)))
  where
    line_starts : (line rest z whole : List ℕ) → whole ≡ line ++ rest → first rest ≡ first z → first whole ≡ first (line ++ z)
    line_starts [] rest z whole e s = ap first e ∙ s
    line_starts (c ∷ line) rest z whole e s = ap first e

of_item : (p : Place) (b : ℕ) (bs : List ℕ) (x : VFound) (others : List (Terminal VFound Place)) (n : ℕ) (i : Item) (count seen : ℕ)
    → Onward n x others → suc (length bs) ≤ suc n → item_at b bs ≡ piece i count seen
    → (then_tokens i p (b ∷ bs) count seen (λ count. tokens_from (count - 1) (place_after p b) bs)).tokens ≡ proper x ∷ others
    → Next p (b ∷ bs) x others
of_item p b bs x others n Blank count seen on le is e = of_blank p b bs x others n count seen on le is e
of_item p b bs x others n Line count seen on le is e = of_line p b bs x others n count seen on le is e
of_item p b bs x others n (Token token) count seen on le is e = of_token p b bs x others token count seen is e

next : (n : ℕ) (x : VFound) (others : List (Terminal VFound Place)) → Onward n x others
unfolding tokens_from
next n x others p [] le e = absurd cc
next zero x others p (b ∷ bs) le e = absurd (omega (arith, le))
next (suc n) x others p (b ∷ bs) le e = by (item_at b bs) refl (next n x others) e
  where
    by : (r : Result (Piece Item) Flaw) → item_at b bs ≡ r → Onward n x others
        → (then_items p (b ∷ bs) r (λ count. tokens_from (count - 1) (place_after p b) bs)).tokens ≡ proper x ∷ others → Next p (b ∷ bs) x others
    by (Err f) is on e = absurd cc
    by (Ok item) is on e = of_item p b bs x others n item.value item.count item.seen on le is e

-- ---- fronts

-- the bytes of a front, and its tokens again
pub record Splits (p : Place) (bs : List ℕ) (front : List VFound) : Type 0 where
  pub used : List ℕ
  pub rest : List ℕ
  pub parts : bs ≡ used ++ rest
  pub again : (other : List ℕ) → Fits rest other
      → (same : List VFound) × AreAlike IsSame front same × (tokens_from 0 p (used ++ other) ≡ followed same (tokens_from 0 (place_past p used) other))

fits_on : (used rest other : List ℕ) → Fits rest other → Fits (used ++ rest) (used ++ other)
fits_on [] rest other f = f
fits_on (b ∷ used) rest other f = inl refl

-- the tokens of a front, and those behind
abbrev pub fronted : List VFound → List (Terminal VFound Place) → List (Terminal VFound Place)
fronted [] ts = ts
fronted (x ∷ xs) ts = proper x ∷ fronted xs ts

pub splits : (front : List VFound) (others : List (Terminal VFound Place)) (p : Place) (bs : List ℕ)
    → (tokens_from 0 p bs).tokens ≡ fronted front others → Splits p bs front
splits [] others p bs e = record { used = []; rest = bs; parts = refl; again = λ other f. ([], tt, refl) }
splits (x ∷ front) others p bs e =
    let n = next (length bs) x (fronted front others) p bs (omega arith) e in
    let one : List ℕ = n.one ∷ n.more in
    let s = splits front others (place_past p (n.one ∷ n.more)) n.rest n.behind in
    record {
      used = n.one ∷ (n.more ++ s.used);
      rest = s.rest;
      parts = n.parts ∙ ap (λ (z : List ℕ). n.one ∷ z) (ap (λ (z : List ℕ). n.more ++ z) s.parts ∙ sym (append_assoc n.more s.used s.rest));
      again = λ other f.
          let a = s.again other f in
          let b = n.again (s.used ++ other) (subst (λ (z : List ℕ). Fits z (s.used ++ other)) (sym s.parts) (fits_on s.used s.rest other f)) in (
            b.0 ∷ a.0,
            (b.1, a.1),
            ap (λ (z : List ℕ). tokens_from 0 p (n.one ∷ z)) (append_assoc n.more s.used other) ∙ b.2 ∙ ap (λ (z : Ahead VFound). follow b.0 z) a.2
                ∙ ap (λ (q : Place). followed (b.0 ∷ a.0) (tokens_from 0 q other)) (sym (place_past-append p (n.one ∷ n.more) s.used)),
          );
    }
