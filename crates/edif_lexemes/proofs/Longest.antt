-- What may follow a token ends it: no longer token stands there.
use Rattle.std.proofs.Common.{◌≡◌, ℕ, ◌≤◌, Bool, List, [], ◌∷◌, ◌++◌, length, Ok, Err, sym, ap, ◌∙◌, subst, arith}
use Rattle.std.specs.List.{prefix_len}
use Rattle.std.specs.Char.{is_ascii_digit}
use Rattle.nl_bytes.specs.Classes.{is_word_byte}
use Rattle.edif_values.specs.declared.token.Token.{Token}
use Rattle.edif_values.specs.declared.token.Token.TheVariants.{LeftParen, RightParen, Word, Number, Str}
use Rattle.edif_lexemes.specs.Lexemes.{IsLexeme, IsString, MayFollow, IsWithin, IsNext}
use Rattle.edif_lexemes.proofs.Moves.{Spelled, bounded, ended}
use Rattle.edif_lexemes.proofs.Strings.{string_outcome, piece_of}
use Rattle.edif_lexemes.proofs.Runs.{AllPass, StopsAt, run_length, run_within}
use Rattle.edif_lexemes.proofs.Shapes.{word_shape, integer_shape, first_byte, not_empty, kind, word_stops, integer_stops}

-- ---- all kinds but strings

-- a run before what ends it is as long as any other that stands there
run_longest : (class : ℕ → Bool) (run rest other behind : List ℕ) → AllPass class run → StopsAt class rest → AllPass class other
    → run ++ rest ≡ other ++ behind → length other ≤ length run
run_longest class run rest other behind each stops all e =
    omega (arith, run_length class run rest each stops, run_within class other behind all, ap (prefix_len class) e)

same_count : (m n : ℕ) (v w : List ℕ) → piece_of v m ≡ piece_of w n → m ≡ n
same_count m n v w e = ap count_of e
  where
    count_of : Spelled → ℕ
    count_of (Ok piece) = piece.count
    count_of (Err f) = 0

string_longest : (lexeme rest other behind bs s v : List ℕ) → IsString lexeme s → length s ≤ 1048576 → IsString other v → lexeme ++ rest ≡ 34 ∷ bs
    → other ++ behind ≡ 34 ∷ bs → length other ≤ length lexeme
string_longest lexeme rest other behind bs s v is small also e f =
    let one = bounded _ _ s (string_outcome lexeme s rest bs is e) small in
    let two = ended _ _ v (record { value = s; count = length lexeme; seen = length lexeme }) (string_outcome other v behind bs also f) one in
    omega (arith, same_count (length other) (length lexeme) v s two)

kinds : (b : ℕ) (bs cs : List ℕ) (t u : Token) → IsLexeme (b ∷ bs) t → IsLexeme (b ∷ cs) u → kind t ≡ kind u
kinds b bs cs t u is also = sym (first_byte b bs t is) ∙ first_byte b cs u also

-- two tokens that stand at one place, of which the second has one byte
by_kinds : (b : ℕ) (bs cs rest behind : List ℕ) (t u : Token) → IsLexeme (b ∷ bs) t → MayFollow t rest → IsWithin (b ∷ bs) t → IsLexeme (b ∷ cs) u
    → bs ++ rest ≡ cs ++ behind → kind t ≡ kind u → length cs ≤ length bs
by_kinds b bs cs rest behind t LeftParen is follows within also e k = omega (arith, ap (length {A = ℕ}) also)
by_kinds b bs cs rest behind t RightParen is follows within also e k = omega (arith, ap (length {A = ℕ}) also)
by_kinds b bs cs rest behind LeftParen (Word w) is follows within also e k = absurd (omega (arith, k))
by_kinds b bs cs rest behind RightParen (Word w) is follows within also e k = absurd (omega (arith, k))
by_kinds b bs cs rest behind (Number z) (Word w) is follows within also e k = absurd (omega (arith, k))
by_kinds b bs cs rest behind (Str s) (Word w) is follows within also e k = absurd (omega (arith, k))
by_kinds b bs cs rest behind (Word v) (Word w) is follows within also e k =
    run_longest is_word_byte bs rest cs behind (word_shape b bs is.1).each (word_stops rest follows) (word_shape b cs also.1).each e
by_kinds b bs cs rest behind LeftParen (Number z) is follows within also e k = absurd (omega (arith, k))
by_kinds b bs cs rest behind RightParen (Number z) is follows within also e k = absurd (omega (arith, k))
by_kinds b bs cs rest behind (Word w) (Number z) is follows within also e k = absurd (omega (arith, k))
by_kinds b bs cs rest behind (Str s) (Number z) is follows within also e k = absurd (omega (arith, k))
by_kinds b bs cs rest behind (Number y) (Number z) is follows within also e k =
    run_longest is_ascii_digit bs rest cs behind (integer_shape b bs y is).each (integer_stops rest follows) (integer_shape b cs z also).each e
by_kinds b bs cs rest behind LeftParen (Str s) is follows within also e k = absurd (omega (arith, k))
by_kinds b bs cs rest behind RightParen (Str s) is follows within also e k = absurd (omega (arith, k))
by_kinds b bs cs rest behind (Word w) (Str s) is follows within also e k = absurd (omega (arith, k))
by_kinds b bs cs rest behind (Number z) (Str s) is follows within also e k = absurd (omega (arith, k))
by_kinds b bs cs rest behind (Str s) (Str v) is follows within also e k =
    let quote : b ≡ 34 = first_is b bs is.spelled in
    let one : (b ∷ bs) ++ rest ≡ 34 ∷ (bs ++ rest) = ap (λ (x : ℕ). x ∷ (bs ++ rest)) quote in
    let two : (b ∷ cs) ++ behind ≡ 34 ∷ (bs ++ rest) = ap (λ (z : List ℕ). b ∷ z) (sym e) ∙ one in
    omega (arith, string_longest (b ∷ bs) rest (b ∷ cs) behind (bs ++ rest) s v is within also one two)
  where
    first_is : (x : ℕ) (xs : List ℕ) {ys : List ℕ} → x ∷ xs ≡ 34 ∷ ys → x ≡ 34
    first_is x xs e = cc

longest : (lexeme rest : List ℕ) (t : Token) → IsLexeme lexeme t → MayFollow t rest → IsWithin lexeme t → (other behind : List ℕ) (u : Token)
    → lexeme ++ rest ≡ other ++ behind → IsLexeme other u → length other ≤ length lexeme
longest [] rest t is follows within other behind u e also = absurd (not_empty t is)
longest (b ∷ bs) rest t is follows within [] behind u e also = absurd (not_empty u also)
longest (b ∷ bs) rest t is follows within (c ∷ cs) behind u e also =
    let same : c ≡ b = cc in
    let tails : bs ++ rest ≡ cs ++ behind = tail_is b c (bs ++ rest) (cs ++ behind) e in
    let moved : IsLexeme (b ∷ cs) u = subst (λ (x : ℕ). IsLexeme (x ∷ cs) u) same also in
    omega (arith, by_kinds b bs cs rest behind t u is follows within moved tails (kinds b bs cs t u is moved))
  where
    tail_is : (x y : ℕ) (xs ys : List ℕ) → x ∷ xs ≡ y ∷ ys → xs ≡ ys
    tail_is x y xs ys e = cc

-- a token that may be followed by what stands behind it is the next
pub next_of : (lexeme rest : List ℕ) (t : Token) → IsLexeme lexeme t → MayFollow t rest → IsWithin lexeme t → IsNext lexeme t rest
next_of lexeme rest t is follows within = record { spelled = is; longest = longest lexeme rest t is follows within; follows = follows; within = within }
