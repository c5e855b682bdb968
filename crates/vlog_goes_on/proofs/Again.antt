-- What stands at a place reads as before where other bytes stand behind it, if they begin as those before them, or with a blank, or are none.
use Rattle.std.proofs.Common.{◌≡◌, ℕ, suc, Bool, true, false, cond, eqb, List, [], ◌∷◌, ◌++◌, length, Option, Some, None, Result, Ok, Err, refl, sym, ap, ◌∙◌, subst, arith, inl, inr}
use Rattle.std.specs.Prelude.{IfSome}
use Rattle.nl_bytes.specs.Bytes.{first}
use Rattle.vlog_tokens.specs.declared.item.Item.{Item}
use Rattle.vlog_tokens.specs.declared.item.Item.TheVariants.{Blank, Line, Token}
use Rattle.vlog_tokens.specs.declared.mark.PairStart.TheVariants as pair_starts
use Rattle.vlog_tokens.specs.declared.phase.Phase.{Phase}
use Rattle.vlog_tokens.specs.declared.start.Start.{Start}
use Rattle.vlog_tokens.specs.declared.start.Start.TheVariants as start
use Rattle.vlog_tokens.specs.declared.token.VToken.TheVariants.{Str, Punct, Symbol}
use Rattle.nl_bytes.specs.Flaws.{Piece, Flaw, ◌>>=◌}
use Rattle.vlog_tokens.specs.Items.{item_of, finished, finish}
use Rattle.vlog_tokens.specs.Scanning.{Lexeme, scan_at, kept}
use Rattle.vlog_tokens.specs.Spelling.{comment_at, item_by, str_of, pair_by, both_of, single_of, slash_by}
use Rattle.vlog_tokens.specs.Strings.{Within, Escape, Code, string_at, escaped_by, escape_by, part_by, with_code, is_full, is_octal}
use Rattle.vlog_tokens.specs.Strings as within
use Rattle.vlog_lexing.proofs.Scanning.{piece}
use Rattle.vlog_goes_on.proofs.Reading.{comment_reads, string_reads}
use Rattle.vlog_goes_on.proofs.Scans.{BlankNext, Fits, scan_reads}

-- the bytes of what stands at a place, behind their first, and the same read again where other bytes stand behind them
pub record Item-again (s : Start) (b : ℕ) (bs : List ℕ) (x : Piece Item) : Type 0 where
  pub tail : List ℕ
  pub rest : List ℕ
  pub parts : bs ≡ tail ++ rest
  pub count : x.count ≡ suc (length tail)
  pub again : (other : List ℕ) → Fits rest other → (seen : ℕ) × (item_by s b (b ∷ (tail ++ other)) ≡ piece x.value (suc (length tail)) seen)

same_piece : {x y : Item} {m n seen : ℕ} → x ≡ y → m ≡ n → piece x m seen ≡ piece y n seen
same_piece e f = cc

alone_again : (s : Start) (b : ℕ) (bs : List ℕ) (item : Item) (x : Piece Item) → ((z : List ℕ) → item_by s b (b ∷ z) ≡ piece item 1 1)
    → item_by s b (b ∷ bs) ≡ Ok x → Item-again s b bs x
alone_again s b bs item x spelled e =
    let is : piece item 1 1 ≡ Ok x = sym (spelled bs) ∙ e in
    let value : item ≡ x.value = cc in
    record { tail = []; rest = bs; parts = refl; count = cc is; again = λ other f. (1, spelled other ∙ same_piece value refl) }

lexeme_again : (p : Phase) (b : ℕ) (bs : List ℕ) (x : Piece Item) → item_by (start.Lexeme p) b (b ∷ bs) ≡ Ok x → Item-again (start.Lexeme p) b bs x
lexeme_again p b bs x e = by (scan_at p (kept p b) 1 bs) refl e
  where
    of_item : (l : Piece Lexeme) (o : Option Item) → scan_at p (kept p b) 1 bs ≡ Ok l → item_of l.value.phase l.value.text ≡ o → finished l o ≡ Ok x
        → Item-again (start.Lexeme p) b bs x
    of_item l None is item e = absurd cc
    of_item l (Some i) is item e =
        let s = scan_reads p (kept p b) 1 bs l is in
        let value : i ≡ x.value = cc in
        let long : l.count ≡ x.count = cc in
        let counted = s.count in
        let all : x.count ≡ suc (length s.used) = omega (arith, long, counted) in
        record {
          tail = s.used;
          rest = s.rest;
          parts = s.parts;
          count = all;
          again = λ other f. let a = s.again other f in (a.0, (rw (a.1, item) (same_piece value (long ∙ all))));
        }

    by : (r : Result (Piece Lexeme) Flaw) → scan_at p (kept p b) 1 bs ≡ r → (r >>= finish) ≡ Ok x → Item-again (start.Lexeme p) b bs x
    by (Err f) is e = absurd cc
    by (Ok l) is e = of_item l (item_of l.value.phase l.value.text) is refl e

string_again : (b : ℕ) (bs : List ℕ) (x : Piece Item) → item_by start.Quote b (b ∷ bs) ≡ Ok x → Item-again start.Quote b bs x
string_again b bs x e = by (string_at within.Parts [] 1 bs) refl e
  where
    by : (r : Result (Piece (List ℕ)) Flaw) → string_at within.Parts [] 1 bs ≡ r → (r >>= str_of) ≡ Ok x → Item-again start.Quote b bs x
    by (Err f) is e = absurd cc
    by (Ok text) is e =
        let s = string_reads within.Parts [] 1 bs text is in
        let value : Token (Str text.value) ≡ x.value = cc in
        let long : text.count ≡ x.count = cc in
        let counted = s.count in
        let all : x.count ≡ suc (length s.used) = omega (arith, long, counted) in
        record { tail = s.used; rest = s.rest; parts = s.parts; count = all; again = λ other f. (text.seen, rw (s.again other) (same_piece value (long ∙ all))) }

-- ---- `(`, `*` and `/`

-- the first of the other bytes is not this one, where that of the bytes before was not
first_not : (second : ℕ) → eqb 32 second ≡ false → (rest other : List ℕ) → IfSome (first rest) (λ c. eqb c second ≡ false) → Fits rest other
    → IfSome (first other) (λ c. eqb c second ≡ false)
first_not second blank rest other h (inl k) = subst (λ (o : Option ℕ). IfSome o (λ c. eqb c second ≡ false)) k h
first_not second blank rest other h (inr k) = by other k
  where
    by : (other : List ℕ) → BlankNext other → IfSome (first other) (λ c. eqb c second ≡ false)
    by [] k = tt
    by (c ∷ cs) k = ap (λ (z : ℕ). eqb z second) k ∙ blank

single_before : (second : ℕ) (both single : Item) (other : List ℕ) → IfSome (first other) (λ c. eqb c second ≡ false)
    → (seen : ℕ) × (pair_by second both single (first other) ≡ piece single 1 seen)
single_before second both single [] h = (1, refl)
single_before second both single (c ∷ cs) h = (2, rw h refl)

pair_again : (s : Start) (second : ℕ) (both single : Item) (b : ℕ) (bs : List ℕ) (x : Piece Item) → eqb 32 second ≡ false
    → ((z : List ℕ) → item_by s b (b ∷ z) ≡ pair_by second both single (first z)) → pair_by second both single (first bs) ≡ Ok x → Item-again s b bs x
pair_again s second both single b [] x blank spelled e =
    let value : single ≡ x.value = cc in
    record {
      tail = [];
      rest = [];
      parts = refl;
      count = let k : 1 ≡ x.count = cc in sym k;
      again =
          λ other f. let a =
          single_before second both single other (first_not second blank [] other tt f) in (a.0, spelled other ∙ a.1 ∙ same_piece value refl);
    }
pair_again s second both single b (c ∷ cs) x blank spelled e = by (eqb c second) refl e
  where
    by : (t : Bool) → eqb c second ≡ t → cond t (piece both 2 2) (piece single 1 2) ≡ Ok x → Item-again s b (c ∷ cs) x
    by true is e =
        let value : both ≡ x.value = cc in
        record { tail = c ∷ []; rest = cs; parts = refl; count = let k : 2 ≡ x.count = cc in sym k; again = λ other f. (2, spelled (c ∷ other) ∙ rw is (same_piece value refl)) }
    by false is e =
        let value : single ≡ x.value = cc in
        record {
          tail = [];
          rest = c ∷ cs;
          parts = refl;
          count = let k : 1 ≡ x.count = cc in sym k;
          again =
              λ other f. let a =
              single_before second both single other (first_not second blank (c ∷ cs) other is f) in (a.0, spelled other ∙ a.1 ∙ same_piece value refl);
        }

piece_is : (x : Piece Item) (n : ℕ) → x.count ≡ n → Ok x ≡ piece x.value n x.seen
piece_is x n e = ap (λ (k : ℕ). piece x.value k x.seen) e

slash_before : (other : List ℕ) (behind : List ℕ) → IfSome (first other) (λ c. eqb c 47 ≡ false) → IfSome (first other) (λ c. eqb c 42 ≡ false)
    → (seen : ℕ) × (slash_by (first other) behind ≡ piece (Token (Symbol 47)) 1 seen)
slash_before [] behind h k = (1, refl)
slash_before (c ∷ cs) behind h k = (2, rw (h, k) refl)

slash_again : (b : ℕ) (bs : List ℕ) (x : Piece Item) → item_by start.Slash b (b ∷ bs) ≡ Ok x → Item-again start.Slash b bs x
slash_again b [] x e =
    let value : Token (Symbol 47) ≡ x.value = cc in
    record {
      tail = [];
      rest = [];
      parts = refl;
      count = let k : 1 ≡ x.count = cc in sym k;
      again =
          λ other f. let a =
          slash_before other _ (first_not 47 refl [] other tt f) (first_not 42 refl [] other tt f) in (a.0, a.1 ∙ same_piece value refl);
    }
slash_again b (c ∷ cs) x e = by_line (eqb c 47) refl e
  where
    by_comment : (t : Bool) → eqb c 47 ≡ false → eqb c 42 ≡ t → cond t (comment_at false 2 cs) (piece (Token (Symbol 47)) 1 2) ≡ Ok x
        → Item-again start.Slash b (c ∷ cs) x
    by_comment true other is e =
        let s = comment_reads false 2 cs x e in
        let counted = s.count in
        let all : x.count ≡ suc (suc (length s.used)) = omega (arith, counted) in
        record {
          tail = c ∷ s.used;
          rest = s.rest;
          parts = ap (λ (z : List ℕ). c ∷ z) s.parts;
          count = all;
          again = λ z f. (x.seen, rw (other, is) (s.again z ∙ piece_is x (suc (suc (length s.used))) all));
        }
    by_comment false other is e =
        let value : Token (Symbol 47) ≡ x.value = cc in
        record {
          tail = [];
          rest = c ∷ cs;
          parts = refl;
          count = let k : 1 ≡ x.count = cc in sym k;
          again =
              λ z f. let a =
              slash_before z _ (first_not 47 refl (c ∷ cs) z other f) (first_not 42 refl (c ∷ cs) z is f) in (a.0, a.1 ∙ same_piece value refl);
        }

    by_line : (t : Bool) → eqb c 47 ≡ t → cond t (piece Line 2 2) (cond (eqb c 42) (comment_at false 2 cs) (piece (Token (Symbol 47)) 1 2)) ≡ Ok x
        → Item-again start.Slash b (c ∷ cs) x
    by_line true is e =
        let value : Line ≡ x.value = cc in
        record { tail = c ∷ []; rest = cs; parts = refl; count = let k : 2 ≡ x.count = cc in sym k; again = λ other f. (2, rw is (same_piece value refl)) }
    by_line false is e = by_comment (eqb c 42) is refl e

pub item_again : (s : Start) (b : ℕ) (bs : List ℕ) (x : Piece Item) → item_by s b (b ∷ bs) ≡ Ok x → Item-again s b bs x
item_again start.White b bs x e = alone_again start.White b bs Blank x (λ z. refl) e
item_again (start.Lexeme p) b bs x e = lexeme_again p b bs x e
item_again start.Quote b bs x e = string_again b bs x e
item_again start.Open b bs x e = pair_again start.Open 42 (both_of pair_starts.Open) (single_of pair_starts.Open) b bs x refl (λ z. refl) e
item_again start.Star b bs x e = pair_again start.Star 41 (both_of pair_starts.Star) (single_of pair_starts.Star) b bs x refl (λ z. refl) e
item_again start.Slash b bs x e = slash_again b bs x e
item_again start.Mark b bs x e = alone_again start.Mark b bs (Token (Punct b)) x (λ z. refl) e
item_again start.Sign b bs x e = alone_again start.Sign b bs (Token (Symbol b)) x (λ z. refl) e
item_again start.Other b bs x e = absurd cc
