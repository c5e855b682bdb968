-- The tokens of a text by the definition of the reader are those by the table, both ways.
use Rattle.std.proofs.Common.{◌≡◌, ℕ, zero, suc, ◌+◌, ◌-◌, ◌≤◌, Bool, true, false, cond, List, [], ◌∷◌, ◌++◌, length, take, drop, Ok, Err, refl, sym, ap, ◌∙◌, subst, arith, append-nil, length-append}
use Rattle.std.specs.Prelude.{◌↔◌}
use Rattle.std.proofs.lemmas.List.{take_at, drop_at}
use Rattle.grammar.specs.Whole.{Terminal, proper, end, Finish, Done, Bad, Over}
use Rattle.nl_base.specs.declared.place.Place.{Place}
use Rattle.nl_base.specs.declared.fault.Reason.{Reason}
use Rattle.nl_base.specs.declared.fault.TextFault.{TextFault}
use Rattle.nl_base.specs.Place.{place_after, place_past}
use Rattle.nl_base.proofs.Places.{place_past-append}
use Rattle.nl_bytes.specs.Classes.{is_space}
use Rattle.nl_bytes.specs.Tokens.{Ahead, follow, no_token, limited}
use Rattle.edif_tokens.specs.declared.token.Found.{Found}
use Rattle.edif_values.specs.declared.token.Token.{Token}
use Rattle.nl_bytes.specs.Flaws.{Piece, flaw}
use Rattle.edif_tokens.specs.Spelling.{token_at}
use Rattle.edif_tokens.specs.Language.{tokens_from, then_tokens, found_at, stop_of, stream_from}
use Rattle.edif_lexemes.specs.Strings.{AreWhite}
use Rattle.edif_lexemes.specs.Lexemes.{IsNext, seen_behind}
use Rattle.edif_lexemes.specs.Faults.{IsFault}
use Rattle.edif_lexemes.specs.Texts.{IsFirst, Fails, AreLexemes, AreTold, Stands, IsFaulty}
use Rattle.edif_lexemes.proofs.Shapes.{not_empty}
use Rattle.edif_lexemes.proofs.Tokens.{Answer, TokenRow, token_sound, token_complete, answer}
use Rattle.edif_lexemes.proofs.Faults.{fault_complete, fault_not_empty}

abbrev IsStreamOf : Place → List ℕ → Ahead Found → Type 0
IsStreamOf p text s = AreLexemes p text s.tokens s.finish

-- ---- from the bytes to the table

white_more : (b : ℕ) (p : Place) (text : List ℕ) (found : List (Terminal Found Place)) (finish : Finish TextFault) → is_space b ≡ true
    → AreLexemes (place_after p b) text found finish → AreLexemes p (b ∷ text) found finish
white_more b p text (end q ∷ xs) finish is are = ((is, are.0), are.1, are.2, are.3)
white_more b p text [] Done is are = are
white_more b p text [] (Bad fault) is are = record {
  white = b ∷ are.white;
  rest = are.rest;
  before = are.before;
  seen = are.seen;
  parts = ap (λ (z : List ℕ). b ∷ z) are.parts;
  blank = (is, are.blank);
  why = are.why;
  place = are.place;
  stop = are.stop;
}
white_more b p text [] Over is are = are
white_more b p text (proper x ∷ xs) finish is are =
    let one : IsFirst p (b ∷ text) x = record {
      white = b ∷ are.0.white;
      lexeme = are.0.lexeme;
      rest = are.0.rest;
      parts = ap (λ (z : List ℕ). b ∷ z) are.0.parts;
      blank = (is, are.0.blank);
      next = are.0.next;
      place = are.0.place;
      stop = are.0.stop;
    } in (one, are.1)

-- what holds of the tokens behind so many bytes of a token
abbrev Behind : Place → List ℕ → Type 0
Behind p bs = (n : ℕ) → n ≤ length bs → IsStreamOf (place_past p (take n bs)) (drop n bs) (tokens_from n p bs)

tail_is : (b c : ℕ) (xs ys : List ℕ) → b ∷ xs ≡ c ∷ ys → (b ≡ c) × (xs ≡ ys)
tail_is b c xs ys e = (cc, cc)

behind_first : (p : Place) (b : ℕ) (bs lexeme rest : List ℕ) (t : Token) (count : ℕ) → Behind (place_after p b) bs → b ∷ bs ≡ lexeme ++ rest
    → IsNext lexeme t rest → count ≡ length lexeme → IsStreamOf (place_past p lexeme) rest (tokens_from (count - 1) (place_after p b) bs)
behind_first p b bs [] rest t count others parts next is = absurd (not_empty t next.spelled)
behind_first p b bs (c ∷ cs) rest t count others parts next is =
    let two = tail_is b c bs (cs ++ rest) parts in
    let n : count - 1 ≡ length cs = omega (arith, is) in
    let le : count - 1 ≤ length bs = omega (arith, n, ap (length {A = ℕ}) two.1, length-append cs rest) in
    let front : take (count - 1) bs ≡ cs = ap (λ (z : List ℕ). take (count - 1) z) two.1 ∙ take_at cs rest (count - 1) (sym n) in
    let back : drop (count - 1) bs ≡ rest = ap (λ (z : List ℕ). drop (count - 1) z) two.1 ∙ drop_at cs rest (count - 1) (sym n) in
    let place : place_past (place_after p b) (take (count - 1) bs) ≡ place_past p (c ∷ cs) = ap (λ (z : List ℕ). place_past (place_after p b) z) front ∙ ap (λ (z : ℕ). place_past (place_after p z) cs) two.0 in
    subst (λ (q : Place). IsStreamOf q rest (tokens_from (count - 1) (place_after p b) bs)) place
    (subst (λ (z : List ℕ). IsStreamOf (place_past (place_after p b) (take (count - 1) bs)) z (tokens_from (count - 1) (place_after p b) bs)) back (others (count - 1) le))

then_row : (p : Place) (b : ℕ) (bs : List ℕ) (x : Answer) → TokenRow (b ∷ bs) x → Behind (place_after p b) bs
    → IsStreamOf p (b ∷ bs) (then_tokens p (b ∷ bs) x (λ count. tokens_from (count - 1) (place_after p b) bs))
then_row p b bs (Err f) row others = record { white = []; rest = b ∷ bs; before = f.before; seen = f.seen; parts = refl; blank = tt; why = row; place = refl; stop = refl }
then_row p b bs (Ok piece) row others =
    let one : IsFirst p (b ∷ bs) (found_at p piece) = record {
      white = [];
      lexeme = row.lexeme;
      rest = row.rest;
      parts = row.parts;
      blank = tt;
      next = row.next;
      place = refl;
      stop = ap (λ (n : ℕ). p.offset + n) row.seen;
    } in (one, behind_first p b bs row.lexeme row.rest piece.value piece.count others row.parts row.next row.count)

text_sound : (p : Place) (bs : List ℕ) → Behind p bs
unfolding tokens_from
text_sound p [] zero le = (tt, refl, refl, refl)
text_sound p [] (suc n) le = absurd (omega (arith, le))
text_sound p (b ∷ bs) (suc n) le = text_sound (place_after p b) bs n (omega (arith, le))
text_sound p (b ∷ bs) zero le = by (is_space b) refl (text_sound (place_after p b) bs)
  where
    by : (t : Bool) → is_space b ≡ t → Behind (place_after p b) bs
        → IsStreamOf p (b ∷ bs) (cond t (tokens_from zero (place_after p b) bs) (then_tokens p (b ∷ bs) (token_at b bs) (λ count. tokens_from (count - 1) (place_after p b) bs)))
    by true e others = white_more b p bs _ _ e (others 0 (omega arith))
    by false e others = then_row p b bs (token_at b bs) (token_sound b bs e) others

pub stream_sound : (p : Place) (text : List ℕ) → IsStreamOf p text (tokens_from 0 p text)
stream_sound p text = text_sound p text 0 (omega arith)

-- ---- from the table to the bytes

white_then : (p : Place) (white rest : List ℕ) → AreWhite white → tokens_from 0 p (white ++ rest) ≡ tokens_from 0 (place_past p white) rest
unfolding tokens_from
white_then p [] rest all = refl
white_then p (b ∷ bs) rest all = rw all.0 (white_then (place_after p b) bs rest all.1)

behind_then : (p : Place) (used rest : List ℕ) → tokens_from (length used) p (used ++ rest) ≡ tokens_from 0 (place_past p used) rest
unfolding tokens_from
behind_then p [] rest = refl
behind_then p (b ∷ bs) rest = behind_then (place_after p b) bs rest

token_then : (p : Place) (b : ℕ) (bs : List ℕ) (t : Token) (count seen : ℕ) → is_space b ≡ false → token_at b bs ≡ answer t count seen
    → tokens_from 0 p (b ∷ bs) ≡ follow (record { place = p; stop = p.offset + seen; token = t }) (tokens_from (count - 1) (place_after p b) bs)
unfolding tokens_from
token_then p b bs t count seen space spelled = rw (space, spelled) refl

fault_then : (p : Place) (b : ℕ) (bs : List ℕ) (reason : Reason) (before seen : ℕ) → is_space b ≡ false → token_at b bs ≡ flaw reason before seen
    → tokens_from 0 p (b ∷ bs) ≡ no_token Found (Bad (record { place = place_past p (take before (b ∷ bs)); stop = p.offset + seen; reason = reason }))
unfolding tokens_from
fault_then p b bs reason before seen space spelled = rw (space, spelled) refl

first_then : (p : Place) (lexeme rest : List ℕ) (t : Token) → IsNext lexeme t rest
    → tokens_from 0 p (lexeme ++ rest) ≡ follow (record { place = p; stop = p.offset + (length lexeme + seen_behind t rest); token = t }) (tokens_from 0 (place_past p lexeme) rest)
first_then p [] rest t next = absurd (not_empty t next.spelled)
first_then p (b ∷ cs) rest t next =
    let r = token_complete b (cs ++ rest) (b ∷ cs) rest t refl next.spelled next.follows next.within in
    let less : suc (length cs) - 1 ≡ length cs = omega arith in
    let x : Found = record { place = p; stop = p.offset + (suc (length cs) + seen_behind t rest); token = t } in
    token_then p b (cs ++ rest) t (suc (length cs)) (suc (length cs) + seen_behind t rest) r.0 r.1
    ∙ ap (λ (n : ℕ). follow x (tokens_from n (place_after p b) (cs ++ rest))) less ∙ ap (λ (s : Ahead Found). follow x s) (behind_then (place_after p b) cs rest)

abbrev found_of : Place → ℕ → Token → Found
found_of p stop t = record { place = p; stop = stop; token = t }

same_found : (p q : Place) (m n : ℕ) (t : Token) → p ≡ q → m ≡ n → found_of p m t ≡ found_of q n t
same_found p q m n t e f = ap (λ (x : Place). found_of x m t) e ∙ ap (λ (x : ℕ). found_of q x t) f

abbrev text_fault : Place → ℕ → Reason → TextFault
text_fault p stop reason = record { place = p; stop = stop; reason = reason }

same_fault : (p q : Place) (m n : ℕ) (reason : Reason) → p ≡ q → m ≡ n → text_fault p m reason ≡ text_fault q n reason
same_fault p q m n reason e f = ap (λ (x : Place). text_fault x m reason) e ∙ ap (λ (x : ℕ). text_fault q x reason) f

fails_then : (p : Place) (text : List ℕ) (fault : TextFault) → Fails p text fault → tokens_from 0 p text ≡ no_token Found (Bad fault)
fails_then p text fault f = ap (tokens_from 0 p) f.parts ∙ white_then p f.white f.rest f.blank ∙ by f.rest f.why f.place
  where
    q : Place
    q = place_past p f.white

    by : (rest : List ℕ) → IsFault rest fault.reason f.before f.seen → fault.place ≡ place_past q (take f.before rest)
        → tokens_from 0 q rest ≡ no_token Found (Bad fault)
    by [] why place = absurd (fault_not_empty fault.reason f.before f.seen why)
    by (b ∷ bs) why place =
        let r = fault_complete b bs fault.reason f.before f.seen why in
        fault_then q b bs fault.reason f.before f.seen r.0 r.1
        ∙ ap (λ (x : TextFault). no_token Found (Bad x)) (same_fault (place_past q (take f.before (b ∷ bs))) fault.place (q.offset + f.seen) fault.stop fault.reason (sym place) (sym f.stop))

pub stream_complete : (p : Place) (text : List ℕ) (found : List (Terminal Found Place)) (finish : Finish TextFault) → AreLexemes p text found finish
    → tokens_from 0 p text ≡ record { tokens = found; finish = finish }
unfolding tokens_from
stream_complete p text [] Done are = absurd are
stream_complete p text [] (Bad fault) are = fails_then p text fault are
stream_complete p text [] Over are = absurd are
stream_complete p text (end q ∷ xs) finish are =
    ap (tokens_from 0 p) (sym (append-nil text)) ∙ white_then p text [] are.0
    ∙ (λ j. record { tokens = end (sym are.1 j) ∷ sym are.2 j; finish = sym are.3 j })
stream_complete p text (proper x ∷ xs) finish are =
    let one = are.0 in
    let q : Place = place_past p one.white in
    let place : place_past q one.lexeme ≡ place_past p (one.white ++ one.lexeme) = sym (place_past-append p one.white one.lexeme) in
    let stop : ℕ = q.offset + (length one.lexeme + seen_behind x.token one.rest) in
    ap (tokens_from 0 p) one.parts ∙ white_then p one.white (one.lexeme ++ one.rest) one.blank ∙ first_then q one.lexeme one.rest x.token one.next
    ∙ ap (λ (y : Found). follow y (tokens_from 0 (place_past q one.lexeme) one.rest)) (same_found q x.place stop x.stop x.token (sym one.place) (sym one.stop))
    ∙ ap (λ (y : Place). follow x (tokens_from 0 y one.rest)) place ∙ ap (λ (s : Ahead Found). follow x s) (stream_complete (place_past p (one.white ++ one.lexeme)) one.rest xs finish are.1)

-- ---- the laws

pub tokens_law : (p : Place) (text : List ℕ) (found : List (Terminal Found Place)) (finish : Finish TextFault)
    → (tokens_from 0 p text ≡ record { tokens = found; finish = finish }) ↔ AreLexemes p text found finish
tokens_law p text found finish = (λ e. subst (λ (s : Ahead Found). IsStreamOf p text s) e (stream_sound p text), stream_complete p text found finish)

pub told_law : (p : Place) (text : List ℕ) (s : Ahead Found) → (stream_from p text ≡ s) ↔ AreTold p text s
unfolding stream_from
told_law p text s = (
  λ e. record { all = tokens_from 0 p text; lexemes = stream_sound p text; told = sym e },
  λ are. ap (limited stop_of) (stream_complete p text are.all.tokens are.all.finish are.lexemes) ∙ sym are.told,
)

apart : (b : ℕ) (bs : List ℕ) → IsFaulty (b ∷ bs) → Stands (b ∷ bs) → ⊥
apart b bs faulty stands =
    let one = fault_complete b bs faulty.reason faulty.before faulty.seen faulty.why in
    let two = token_complete b bs stands.lexeme stands.rest stands.token stands.parts stands.next.spelled stands.next.follows stands.next.within in
    let both : flaw {A = Piece Token} faulty.reason faulty.before faulty.seen ≡ answer stands.token (length stands.lexeme) (length stands.lexeme + seen_behind stands.token stands.rest) = sym one.1 ∙ two.1 in
    cc

pub faults_law : (b : ℕ) (bs : List ℕ) → is_space b ≡ false → IsFaulty (b ∷ bs) ↔ (Stands (b ∷ bs) → ⊥)
faults_law b bs space = (λ faulty stands. apart b bs faulty stands, by (token_at b bs) (token_sound b bs space))
  where
    by : (x : Answer) → TokenRow (b ∷ bs) x → (Stands (b ∷ bs) → ⊥) → IsFaulty (b ∷ bs)
    by (Err f) row none = record { reason = f.reason; before = f.before; seen = f.seen; why = row }
    by (Ok piece) row none = absurd (none (record { lexeme = row.lexeme; token = piece.value; rest = row.rest; parts = row.parts; next = row.next }))
