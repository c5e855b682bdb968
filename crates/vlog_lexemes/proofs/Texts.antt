-- The tokens of a text by the definition of the reader are those by the table, both ways.
use Rattle.std.proofs.Common.{◌≡◌, ℕ, zero, suc, ◌+◌, ◌-◌, ◌<◌, ◌≤◌, Bool, List, [], ◌∷◌, ◌++◌, length, take, drop, map, Ok, Err, refl, sym, ap, ◌∙◌, subst, inl, inr, arith, append_assoc, append-nil, length-append}
use Rattle.std.specs.Prelude.{◌↔◌}
use Rattle.std.specs.List.{concat}
use Rattle.std.proofs.lemmas.List.{take_at, drop_at}
use Rattle.grammar.specs.Whole.{Terminal, proper, end, Finish, Done, Bad, Over}
use Rattle.nl_base.specs.declared.place.Place.{Place}
use Rattle.nl_base.specs.declared.fault.Reason.{Reason}
use Rattle.nl_base.specs.declared.fault.TextFault.{TextFault}
use Rattle.nl_base.specs.Place.{place_after, place_past}
use Rattle.nl_base.proofs.Places.{place_past-append}
use Rattle.nl_bytes.specs.Tokens.{Ahead, follow, only_end, no_token, limited}
use Rattle.vlog_tokens.specs.declared.item.Item.{Item}
use Rattle.vlog_tokens.specs.declared.item.Item.TheVariants.{Token}
use Rattle.vlog_tokens.specs.declared.token.VFound.{VFound}
use Rattle.vlog_tokens.specs.declared.token.VToken.{VToken}
use Rattle.nl_bytes.specs.Flaws.{Piece, Flaw, fault_at}
use Rattle.vlog_tokens.specs.Language.{tokens_from, then_items, then_tokens, with_line, stop_of, stream_from}
use Rattle.vlog_tokens.specs.Spelling.{item_at}
use Rattle.vlog_lexemes.specs.Lexemes.{IsLexeme, IsNext, IsBlank, AreBlanks, MayFollow, seen_behind}
use Rattle.vlog_lexemes.specs.Texts.{IsFirst, AreLexemes, EndsAt, Stands, IsBlankFirst, Fails, FailsBy, whole_text, cut_text}
use Rattle.vlog_lexemes.specs.Faults.{IsFault}
use Rattle.vlog_lexemes.proofs.Faults.{item_faulty, fault_complete, fault_not_empty}
use Rattle.vlog_lexemes.proofs.Complete.{Answer, answer, lexeme_read, next_of, Passes, IsPassed, blank_passed}
use Rattle.vlog_lexemes.proofs.Sound.{ItemRow, a_token, a_blank, item_sound}

-- these are the terminals of a text, and it ends so
abbrev AreTerminals : Place → List ℕ → List (Terminal VFound Place) → Finish TextFault → Type 0
AreTerminals p text [] Done = ⊥
AreTerminals p text [] (Bad fault) = Fails p text × FailsBy fault p text
AreTerminals p text [] Over = ⊥
AreTerminals p text (proper x ∷ xs) finish = (one : IsFirst p text x) × AreTerminals (place_past p (concat one.blanks ++ one.lexeme)) one.rest xs finish
AreTerminals p text (end q ∷ []) Done = EndsAt q p text
AreTerminals p text (end q ∷ []) (Bad fault) = ⊥
AreTerminals p text (end q ∷ []) Over = ⊥
AreTerminals p text (end q ∷ (x ∷ xs)) finish = ⊥

abbrev IsStreamOf : Place → List ℕ → Ahead VFound → Type 0
IsStreamOf p text s = AreTerminals p text s.tokens s.finish

-- ---- white space in front

past_two : (p : Place) (a b : List ℕ) → place_past (place_past p a) b ≡ place_past p (a ++ b)
past_two p a b = sym (place_past-append p a b)

ends_more : (q p : Place) (piece text : List ℕ) → IsBlank piece text → EndsAt q (place_past p piece) text → EndsAt q p (piece ++ text)
ends_more q p piece text is e = record {
  blanks = piece ∷ e.blanks;
  parts = ap (λ (z : List ℕ). piece ++ z) e.parts;
  blank = (subst (IsBlank piece) (e.parts ∙ sym (append-nil (concat e.blanks))) is, e.blank);
  place = e.place ∙ past_two p piece text;
}

fails_more : (p : Place) (piece text : List ℕ) → IsBlank piece text → Fails (place_past p piece) text → Fails p (piece ++ text)
fails_more p piece text is f = record {
  blanks = piece ∷ f.blanks;
  rest = f.rest;
  parts = ap (λ (z : List ℕ). piece ++ z) f.parts ∙ sym (append_assoc piece (concat f.blanks) f.rest);
  blank = (subst (IsBlank piece) f.parts is, f.blank);
  some = f.some;
  no_token = f.no_token;
  no_blank = f.no_blank;
}

fault_more : (fault : TextFault) (p : Place) (piece text : List ℕ) → IsBlank piece text → FailsBy fault (place_past p piece) text → FailsBy fault p (piece ++ text)
fault_more fault p piece text is f =
    let place = past_two p piece (concat f.blanks) in
    record {
      blanks = piece ∷ f.blanks;
      rest = f.rest;
      before = f.before;
      seen = f.seen;
      parts = ap (λ (z : List ℕ). piece ++ z) f.parts ∙ sym (append_assoc piece (concat f.blanks) f.rest);
      blank = (subst (IsBlank piece) f.parts is, f.blank);
      why = f.why;
      place = f.place ∙ ap (λ (z : Place). place_past z (take f.before f.rest)) place;
      stop = f.stop ∙ ap (λ (z : Place). z.offset + f.seen) place;
    }

white_more : (p : Place) (piece text : List ℕ) (ts : List (Terminal VFound Place)) (finish : Finish TextFault) → IsBlank piece text
    → AreTerminals (place_past p piece) text ts finish → AreTerminals p (piece ++ text) ts finish
white_more p piece text [] Done is are = are
white_more p piece text [] (Bad fault) is are = (fails_more p piece text is are.0, fault_more fault p piece text is are.1)
white_more p piece text [] Over is are = are
white_more p piece text (end q ∷ []) Done is are = ends_more q p piece text is are
white_more p piece text (end q ∷ []) (Bad fault) is are = are
white_more p piece text (end q ∷ []) Over is are = are
white_more p piece text (end q ∷ (x ∷ xs)) finish is are = are
white_more p piece text (proper x ∷ xs) finish is are =
    let first = are.0 in
    let place = past_two p piece (concat first.blanks) in
    let one : IsFirst p (piece ++ text) x = record {
      blanks = piece ∷ first.blanks;
      lexeme = first.lexeme;
      rest = first.rest;
      parts = ap (λ (z : List ℕ). piece ++ z) first.parts ∙ sym (append_assoc piece (concat first.blanks) (first.lexeme ++ first.rest));
      blank = (subst (IsBlank piece) first.parts is, first.blank);
      next = first.next;
      place = first.place ∙ place;
      stop = first.stop ∙ ap (λ (z : Place). z.offset + (length first.lexeme + seen_behind x.token first.rest)) place;
    } in
    (one, subst (λ (z : Place). AreTerminals z first.rest xs finish) (past_two p piece (concat first.blanks ++ first.lexeme) ∙ ap (place_past p) (sym (append_assoc piece (concat first.blanks) first.lexeme))) are.1)

-- ---- from the bytes to the table

abbrev Behind : Place → List ℕ → Type 0
Behind p bs = (n : ℕ) → n ≤ length bs → IsStreamOf (place_past p (take n bs)) (drop n bs) (tokens_from n p bs)

heads_of : (a b : ℕ) (xs ys : List ℕ) → a ∷ xs ≡ b ∷ ys → (a ≡ b) × (xs ≡ ys)
heads_of a b xs ys e = (cc, cc)

-- the tokens behind the bytes that stand first
behind_first : (p : Place) (b : ℕ) (bs lexeme rest : List ℕ) (count c : ℕ) (cs : List ℕ) → Behind (place_after p b) bs → b ∷ bs ≡ lexeme ++ rest
    → lexeme ≡ c ∷ cs → count ≡ length lexeme → IsStreamOf (place_past p lexeme) rest (tokens_from (count - 1) (place_after p b) bs)
behind_first p b bs lexeme rest count c cs others parts some is =
    let two = heads_of b c bs (cs ++ rest) (parts ∙ ap (λ (z : List ℕ). z ++ rest) some) in
    let n : count - 1 ≡ length cs = omega (arith, is, ap (length {A = ℕ}) some) in
    let le : count - 1 ≤ length bs = omega (arith, n, ap (length {A = ℕ}) two.1, length-append cs rest) in
    let front : take (count - 1) bs ≡ cs = ap (λ (z : List ℕ). take (count - 1) z) two.1 ∙ take_at cs rest (count - 1) (sym n) in
    let back : drop (count - 1) bs ≡ rest = ap (λ (z : List ℕ). drop (count - 1) z) two.1 ∙ drop_at cs rest (count - 1) (sym n) in
    let place : place_past (place_after p b) (take (count - 1) bs) ≡ place_past p lexeme =
    ap (λ (z : List ℕ). place_past (place_after p b) z) front ∙ ap (λ (z : ℕ). place_past (place_after p z) cs) two.0 ∙ ap (place_past p) (sym some) in
    subst (λ (q : Place). IsStreamOf q rest (tokens_from (count - 1) (place_after p b) bs)) place
    (subst (λ (z : List ℕ). IsStreamOf (place_past (place_after p b) (take (count - 1) bs)) z (tokens_from (count - 1) (place_after p b) bs)) back (others (count - 1) le))

abbrev Later : Place → ℕ → List ℕ → ℕ → Ahead VFound
Later p b bs count = tokens_from (count - 1) (place_after p b) bs

token_row : (p : Place) (b : ℕ) (bs lexeme rest : List ℕ) (t : VToken) (follows : ℕ → Bool) (piece : Piece Item) → b ∷ bs ≡ lexeme ++ rest
    → IsLexeme lexeme t follows → MayFollow follows rest → piece.value ≡ Token t → piece.count ≡ length lexeme
    → piece.seen ≡ length lexeme + seen_behind t rest → Behind (place_after p b) bs
    → IsStreamOf p (b ∷ bs) (then_tokens piece.value p (b ∷ bs) piece.count piece.seen (Later p b bs))
token_row p b bs lexeme rest t follows piece e is behind value count seen others =
    let read = lexeme_read lexeme t follows is in
    let found : VFound = record { place = p; stop = p.offset + piece.seen; token = t } in
    let one : IsFirst p (b ∷ bs) found = record {
      blanks = [];
      lexeme = lexeme;
      rest = rest;
      parts = e;
      blank = tt;
      next = next_of lexeme rest t follows is behind;
      place = refl;
      stop = ap (λ (n : ℕ). p.offset + n) seen;
    } in
    let whole : IsStreamOf p (b ∷ bs) (follow found (Later p b bs piece.count)) = (one, behind_first p b bs lexeme rest piece.count read.first read.tail others e read.is_bytes count) in
    subst (λ (x : Item). IsStreamOf p (b ∷ bs) (then_tokens x p (b ∷ bs) piece.count piece.seen (Later p b bs))) (sym value) whole

blank_row : (p : Place) (b : ℕ) (bs blank rest : List ℕ) (piece : Piece Item) → b ∷ bs ≡ blank ++ rest → IsBlank blank rest
    → Passes piece (b ∷ bs) (length blank) → Behind (place_after p b) bs
    → IsStreamOf p (b ∷ bs) (then_tokens piece.value p (b ∷ bs) piece.count piece.seen (Later p b bs))
blank_row p b bs blank rest piece e is passes others = by passes
  where
    some : IsPassed blank rest
    some = blank_passed blank rest is

    whole : (n : ℕ) → n ≡ length blank → IsStreamOf p (b ∷ bs) (Later p b bs n)
    whole n count =
        subst (λ (z : List ℕ). IsStreamOf p z (Later p b bs n)) (sym e)
        (white_more p blank rest (Later p b bs n).tokens (Later p b bs n).finish is (behind_first p b bs blank rest n some.first some.tail others e some.is_bytes count))

    by : Passes piece (b ∷ bs) (length blank) → IsStreamOf p (b ∷ bs) (then_tokens piece.value p (b ∷ bs) piece.count piece.seen (Later p b bs))
    by (inl two) = subst (λ (x : Item). IsStreamOf p (b ∷ bs) (then_tokens x p (b ∷ bs) piece.count piece.seen (Later p b bs))) (sym two.0) (whole piece.count two.1)
    by (inr two) = subst (λ (x : Item). IsStreamOf p (b ∷ bs) (then_tokens x p (b ∷ bs) piece.count piece.seen (Later p b bs))) (sym two.0) (whole (with_line piece.count (b ∷ bs)) two.1)

item_row : (p : Place) (b : ℕ) (bs : List ℕ) (piece : Piece Item) → ItemRow (b ∷ bs) piece → Behind (place_after p b) bs
    → IsStreamOf p (b ∷ bs) (then_tokens piece.value p (b ∷ bs) piece.count piece.seen (Later p b bs))
item_row p b bs piece (a_token lexeme rest t follows e is behind value count seen) others = token_row p b bs lexeme rest t follows piece e is behind value count seen others
item_row p b bs piece (a_blank blank rest e is passes) others = blank_row p b bs blank rest piece e is passes others

-- what is read where a token or white space stands
token_there : (b : ℕ) (bs : List ℕ) (f : Flaw) → item_at b bs ≡ Err f → Stands (b ∷ bs) → ⊥
token_there b bs f e s =
    let read = lexeme_read s.lexeme s.token s.next.follows s.next.spelled in
    let heads = heads_of b read.first bs (read.tail ++ s.rest) (s.parts ∙ ap (λ (z : List ℕ). z ++ s.rest) read.is_bytes) in
    let ok : item_at b bs ≡ answer (Token s.token) (length s.lexeme) (length s.lexeme + seen_behind s.token s.rest) =
    ap (λ (z : ℕ). item_at z bs) heads.0 ∙ ap (item_at read.first) heads.1 ∙ read.reads s.rest s.next.behind in
    let both = sym e ∙ ok in cc

blank_there : (b : ℕ) (bs : List ℕ) (f : Flaw) → item_at b bs ≡ Err f → IsBlankFirst (b ∷ bs) → ⊥
blank_there b bs f e s =
    let read = blank_passed s.piece s.rest s.blank in
    let heads = heads_of b read.first bs (read.tail ++ s.rest) (s.parts ∙ ap (λ (z : List ℕ). z ++ s.rest) read.is_bytes) in
    let ok : item_at b bs ≡ Ok read.item = ap (λ (z : ℕ). item_at z bs) heads.0 ∙ ap (item_at read.first) heads.1 ∙ read.reads in
    let both = sym e ∙ ok in cc

then_row : (p : Place) (b : ℕ) (bs : List ℕ) (x : Answer) → item_at b bs ≡ x → Behind (place_after p b) bs
    → IsStreamOf p (b ∷ bs) (then_items p (b ∷ bs) x (Later p b bs))
then_row p b bs (Err f) e others =
    let fails : Fails p (b ∷ bs) = record { blanks = []; rest = b ∷ bs; parts = refl; blank = tt; some = omega arith; no_token = token_there b bs f e; no_blank = blank_there b bs f e } in
    (fails, record { blanks = []; rest = b ∷ bs; before = f.before; seen = f.seen; parts = refl; blank = tt; why = item_faulty b bs f e; place = refl; stop = refl })
then_row p b bs (Ok piece) e others = item_row p b bs piece (item_sound b bs piece e) others

text_sound : (p : Place) (bs : List ℕ) → Behind p bs
unfolding tokens_from
text_sound p [] zero le = record { blanks = []; parts = refl; blank = tt; place = refl }
text_sound p [] (suc n) le = absurd (omega (arith, le))
text_sound p (b ∷ bs) (suc n) le = text_sound (place_after p b) bs n (omega (arith, le))
text_sound p (b ∷ bs) zero le = then_row p b bs (item_at b bs) refl (text_sound (place_after p b) bs)

stream_sound : (p : Place) (text : List ℕ) → IsStreamOf p text (tokens_from 0 p text)
stream_sound p text = text_sound p text 0 (omega arith)

-- ---- from the table to the bytes

behind_then : (p : Place) (used rest : List ℕ) → tokens_from (length used) p (used ++ rest) ≡ tokens_from 0 (place_past p used) rest
unfolding tokens_from
behind_then p [] rest = refl
behind_then p (b ∷ bs) rest = behind_then (place_after p b) bs rest

item_then : (p : Place) (b : ℕ) (bs : List ℕ) (x : Answer) → item_at b bs ≡ x → tokens_from 0 p (b ∷ bs) ≡ then_items p (b ∷ bs) x (Later p b bs)
unfolding tokens_from
item_then p b bs x e = ap (λ (z : Answer). then_items p (b ∷ bs) z (Later p b bs)) e

later_then : (p : Place) (lexeme : List ℕ) (b : ℕ) (tail rest : List ℕ) (n : ℕ) → lexeme ≡ b ∷ tail → n ≡ length lexeme
    → Later p b (tail ++ rest) n ≡ tokens_from 0 (place_past p lexeme) rest
later_then p lexeme b tail rest n e count =
    let less : n - 1 ≡ length tail = omega (arith, count, ap (length {A = ℕ}) e) in
    ap (λ (k : ℕ). tokens_from k (place_after p b) (tail ++ rest)) less ∙ behind_then (place_after p b) tail rest ∙ ap (λ (z : List ℕ). tokens_from 0 (place_past p z) rest) (sym e)

blank_then : (p : Place) (piece rest : List ℕ) → IsBlank piece rest → tokens_from 0 p (piece ++ rest) ≡ tokens_from 0 (place_past p piece) rest
blank_then p piece rest is =
    ap (λ (z : List ℕ). tokens_from 0 p (z ++ rest)) read.is_bytes ∙ item_then p read.first (read.tail ++ rest) (Ok read.item) read.reads ∙ by read.passes
  where
    read : IsPassed piece rest
    read = blank_passed piece rest is

    bytes : List ℕ
    bytes = read.first ∷ (read.tail ++ rest)

    by : Passes read.item bytes (length piece)
        → then_tokens read.item.value p bytes read.item.count read.item.seen (Later p read.first (read.tail ++ rest)) ≡ tokens_from 0 (place_past p piece) rest
    by (inl two) = ap (λ (x : Item). then_tokens x p bytes read.item.count read.item.seen (Later p read.first (read.tail ++ rest))) two.0
        ∙ later_then p piece read.first read.tail rest read.item.count read.is_bytes two.1
    by (inr two) = ap (λ (x : Item). then_tokens x p bytes read.item.count read.item.seen (Later p read.first (read.tail ++ rest))) two.0
        ∙ later_then p piece read.first read.tail rest (with_line read.item.count bytes) read.is_bytes two.1

blanks_then : (blanks : List (List ℕ)) (p : Place) (rest : List ℕ) → AreBlanks blanks rest
    → tokens_from 0 p (concat blanks ++ rest) ≡ tokens_from 0 (place_past p (concat blanks)) rest
blanks_then [] p rest all = refl
blanks_then (piece ∷ pieces) p rest all =
    ap (tokens_from 0 p) (append_assoc piece (concat pieces) rest) ∙ blank_then p piece (concat pieces ++ rest) all.0
    ∙ blanks_then pieces (place_past p piece) rest all.1
    ∙ ap (λ (z : Place). tokens_from 0 z rest) (past_two p piece (concat pieces))

abbrev found_of : Place → ℕ → VToken → VFound
found_of p stop t = record { place = p; stop = stop; token = t }

same_found : (p q : Place) (m n : ℕ) (t : VToken) → p ≡ q → m ≡ n → found_of p m t ≡ found_of q n t
same_found p q m n t e f = ap (λ (x : Place). found_of x m t) e ∙ ap (λ (x : ℕ). found_of q x t) f

token_then : (p : Place) (lexeme rest : List ℕ) (t : VToken) → IsNext lexeme t rest
    → tokens_from 0 p (lexeme ++ rest) ≡ follow (found_of p (p.offset + (length lexeme + seen_behind t rest)) t) (tokens_from 0 (place_past p lexeme) rest)
token_then p lexeme rest t next =
    let read = lexeme_read lexeme t next.follows next.spelled in
    let n : ℕ = length lexeme in
    ap (λ (z : List ℕ). tokens_from 0 p (z ++ rest)) read.is_bytes ∙ item_then p read.first (read.tail ++ rest) (answer (Token t) n (n + seen_behind t rest)) (read.reads rest next.behind)
    ∙ ap (λ (s : Ahead VFound). follow (found_of p (p.offset + (n + seen_behind t rest)) t) s) (later_then p lexeme read.first read.tail rest n read.is_bytes refl)

first_then : (p : Place) (text : List ℕ) (x : VFound) → (one : IsFirst p text x)
    → tokens_from 0 p text ≡ follow x (tokens_from 0 (place_past p (concat one.blanks ++ one.lexeme)) one.rest)
first_then p text x one =
    let q : Place = place_past p (concat one.blanks) in
    let stop : ℕ = q.offset + (length one.lexeme + seen_behind x.token one.rest) in
    ap (tokens_from 0 p) one.parts ∙ blanks_then one.blanks p (one.lexeme ++ one.rest) one.blank ∙ token_then q one.lexeme one.rest x.token one.next
    ∙ ap (λ (y : VFound). follow y (tokens_from 0 (place_past q one.lexeme) one.rest)) (same_found q x.place stop x.stop x.token (sym one.place) (sym one.stop))
    ∙ ap (λ (y : Place). follow x (tokens_from 0 y one.rest)) (past_two p (concat one.blanks) one.lexeme)

ends_then : (p : Place) (text : List ℕ) (last : Place) → EndsAt last p text → tokens_from 0 p text ≡ only_end VFound last
unfolding tokens_from
ends_then p text last e =
    ap (tokens_from 0 p) (e.parts ∙ sym (append-nil (concat e.blanks))) ∙ blanks_then e.blanks p [] e.blank
    ∙ ap (λ (z : Place). only_end VFound z) (ap (place_past p) (sym e.parts) ∙ sym e.place)

fails_then : (p : Place) (text : List ℕ) → Fails p text → (fault : TextFault) × (tokens_from 0 p text ≡ no_token VFound (Bad fault))
fails_then p text f = by f.rest refl f.some
  where
    q : Place
    q = place_past p (concat f.blanks)

    at : (b : ℕ) (bs : List ℕ) → f.rest ≡ b ∷ bs → (x : Answer) → item_at b bs ≡ x
        → (fault : TextFault) × (tokens_from 0 p text ≡ no_token VFound (Bad fault))
    at b bs e (Err flaw) is = (fault_at q (b ∷ bs) flaw, ap (tokens_from 0 p) f.parts ∙ blanks_then f.blanks p f.rest f.blank ∙ ap (tokens_from 0 q) e ∙ item_then q b bs (Err flaw) is)
    at b bs e (Ok piece) is = absurd (row (item_sound b bs piece is))
      where
        row : ItemRow (b ∷ bs) piece → ⊥
        row (a_token lexeme rest t follows parts spelled behind value count seen) = f.no_token (record { lexeme = lexeme; token = t; rest = rest; parts = e ∙ parts; next = next_of lexeme rest t follows spelled behind })
        row (a_blank blank rest parts blank_is passes) = f.no_blank (record { piece = blank; rest = rest; parts = e ∙ parts; blank = blank_is })

    by : (rest : List ℕ) → f.rest ≡ rest → 0 < length f.rest → (fault : TextFault) × (tokens_from 0 p text ≡ no_token VFound (Bad fault))
    by [] e some = absurd (omega (arith, some, ap (length {A = ℕ}) e))
    by (b ∷ bs) e some = at b bs e (item_at b bs) refl

-- ---- the laws

whole_sound : (found : List VFound) (last p : Place) (text : List ℕ) → AreTerminals p text (map proper found ++ end last ∷ []) Done
    → AreLexemes (EndsAt last) p text found
whole_sound [] last p text are = are
whole_sound (x ∷ xs) last p text are = (are.0, whole_sound xs last (place_past p (concat are.0.blanks ++ are.0.lexeme)) are.0.rest are.1)

whole_complete : (found : List VFound) (last p : Place) (text : List ℕ) → AreLexemes (EndsAt last) p text found
    → tokens_from 0 p text ≡ whole_text found last
whole_complete [] last p text are = ends_then p text last are
whole_complete (x ∷ xs) last p text are =
    first_then p text x are.0
    ∙ ap (λ (s : Ahead VFound). follow x s) (whole_complete xs last (place_past p (concat are.0.blanks ++ are.0.lexeme)) are.0.rest are.1)

cut_sound : (found : List VFound) (fault : TextFault) (p : Place) (text : List ℕ) → AreTerminals p text (map proper found) (Bad fault)
    → AreLexemes Fails p text found
cut_sound [] fault p text are = are.0
cut_sound (x ∷ xs) fault p text are = (are.0, cut_sound xs fault (place_past p (concat are.0.blanks ++ are.0.lexeme)) are.0.rest are.1)

cut_complete : (found : List VFound) (p : Place) (text : List ℕ) → AreLexemes Fails p text found
    → (fault : TextFault) × (tokens_from 0 p text ≡ cut_text found fault)
cut_complete [] p text are = fails_then p text are
cut_complete (x ∷ xs) p text are =
    let others = cut_complete xs (place_past p (concat are.0.blanks ++ are.0.lexeme)) are.0.rest are.1 in
    (others.0, first_then p text x are.0 ∙ ap (λ (s : Ahead VFound). follow x s) others.1)

pub whole_law : (p : Place) (text : List ℕ) (found : List VFound) (last : Place)
    → (tokens_from 0 p text ≡ whole_text found last) ↔ AreLexemes (EndsAt last) p text found
whole_law p text found last = (λ e. whole_sound found last p text (subst (λ (s : Ahead VFound). IsStreamOf p text s) e (stream_sound p text)), whole_complete found last p text)

pub cut_law : (p : Place) (text : List ℕ) (found : List VFound)
    → ((fault : TextFault) × (tokens_from 0 p text ≡ cut_text found fault)) ↔ AreLexemes Fails p text found
cut_law p text found = (λ cut. cut_sound found cut.0 p text (subst (λ (s : Ahead VFound). IsStreamOf p text s) cut.1 (stream_sound p text)), cut_complete found p text)

pub told_law : (p : Place) (text : List ℕ) (found : List VFound) (last : Place) → AreLexemes (EndsAt last) p text found
    → stream_from p text ≡ limited stop_of (whole_text found last)
unfolding stream_from
told_law p text found last are = ap (limited stop_of) (whole_complete found last p text are)

fault_sound : (found : List VFound) (fault : TextFault) (p : Place) (text : List ℕ) → AreTerminals p text (map proper found) (Bad fault) → AreLexemes (FailsBy fault) p text found
fault_sound [] fault p text are = are.1
fault_sound (x ∷ xs) fault p text are = (are.0, fault_sound xs fault (place_past p (concat are.0.blanks ++ are.0.lexeme)) are.0.rest are.1)

abbrev text_fault : Place → ℕ → Reason → TextFault
text_fault p stop reason = record { place = p; stop = stop; reason = reason }

same_fault : (p q : Place) (m n : ℕ) (reason : Reason) → p ≡ q → m ≡ n → text_fault p m reason ≡ text_fault q n reason
same_fault p q m n reason e f = ap (λ (x : Place). text_fault x m reason) e ∙ ap (λ (x : ℕ). text_fault q x reason) f

fault_then : (fault : TextFault) (p : Place) (text : List ℕ) → FailsBy fault p text → tokens_from 0 p text ≡ no_token VFound (Bad fault)
fault_then fault p text f = ap (tokens_from 0 p) f.parts ∙ blanks_then f.blanks p f.rest f.blank ∙ by f.rest f.why f.place
  where
    q : Place
    q = place_past p (concat f.blanks)

    by : (rest : List ℕ) → IsFault rest fault.reason f.before f.seen → fault.place ≡ place_past q (take f.before rest) → tokens_from 0 q rest ≡ no_token VFound (Bad fault)
    by [] why place = absurd (fault_not_empty fault.reason f.before f.seen why)
    by (b ∷ bs) why place =
        item_then q b bs (Err (record { reason = fault.reason; before = f.before; seen = f.seen })) (fault_complete b bs fault.reason f.before f.seen why)
        ∙ ap (λ (x : TextFault). no_token VFound (Bad x)) (same_fault (place_past q (take f.before (b ∷ bs))) fault.place (q.offset + f.seen) fault.stop fault.reason (sym place) (sym f.stop))

faults_complete : (found : List VFound) (fault : TextFault) (p : Place) (text : List ℕ) → AreLexemes (FailsBy fault) p text found → tokens_from 0 p text ≡ cut_text found fault
faults_complete [] fault p text are = fault_then fault p text are
faults_complete (x ∷ xs) fault p text are =
    first_then p text x are.0 ∙ ap (λ (s : Ahead VFound). follow x s) (faults_complete xs fault (place_past p (concat are.0.blanks ++ are.0.lexeme)) are.0.rest are.1)

pub fault_law : (p : Place) (text : List ℕ) (found : List VFound) (fault : TextFault) → (tokens_from 0 p text ≡ cut_text found fault) ↔ AreLexemes (FailsBy fault) p text found
fault_law p text found fault = (λ e. fault_sound found fault p text (subst (λ (s : Ahead VFound). IsStreamOf p text s) e (stream_sound p text)), faults_complete found fault p text)

pub told_fault_law : (p : Place) (text : List ℕ) (found : List VFound) (fault : TextFault) → AreLexemes (FailsBy fault) p text found → stream_from p text ≡ limited stop_of (cut_text found fault)
unfolding stream_from
told_fault_law p text found fault are = ap (limited stop_of) (faults_complete found fault p text are)
