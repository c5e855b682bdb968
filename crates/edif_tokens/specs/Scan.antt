-- What the parts of the reader answer.
use Rattle.std.specs.Prelude.{◌≡◌, ℕ, ◌+◌, ◌<◌, ◌≤◌, ◌++◌, nat_lt, if◌then◌else◌, Bool, true, false, List, [], ◌∷◌, take, drop, length, slice_index, IsTrue, IfOk, OnOk, IsErrOf, MatchResult, ℤ, Option, Some, None, Result, Ok, Err, ⊤}
use Rattle.std.specs.List.{prefix_len}
use Rattle.nl_base.specs.declared.place.Place.{Place}
use Rattle.nl_base.specs.declared.fault.ReadError.{ReadError}
use Rattle.nl_base.specs.declared.fault.ReadError.TheVariants.{Text, ReadFault, TooLong, NoMemory, Spent}
use Rattle.nl_bytes.specs.declared.class.Class.{Class}
use Rattle.nl_bytes.specs.declared.bytes.TheConstants.{LIMIT}
use Rattle.nl_bytes.specs.Classes.{AreIn, in_class, is_string_byte}
use Rattle.nl_bytes.specs.Bytes.{Window, Uses, input, first, given}
use Rattle.nl_base.specs.declared.fault.Reason.TheVariants.{BadByte, TokenTooLong, NumberRange}
use Rattle.nl_base.specs.Place.{place_past}
use Rattle.edif_tokens.specs.Strings.{Within, string_at}
use Rattle.edif_tokens.specs.Spelling.{Piece, Flaw, span_at, may_follow, led, text_at, integer_of}
use Rattle.nl_bytes.specs.Flaws.{fault_at, refusal}
use Rattle.edif_tokens.specs.Language.{found_at}
use Rattle.edif_tokens.specs.declared.token.Found.{Found}
use Rattle.edif_values.specs.declared.token.Token.{Token}
use Rattle.edif_values.specs.declared.token.Token.TheVariants.{Number}
use Rattle.edif_tokens.specs.declared.lexeme.Spanned.{Spanned}

abbrev pub ended_here : Place → Option ℕ → Result ℕ ReadError
ended_here here None = Ok here.offset
ended_here here (Some b) = if may_follow b then Ok (here.offset + 1) else Err (refusal here (here.offset + 1) BadByte)

-- how a word or an integer ends that began at p, has n bytes and has `next` behind it, at `here`
abbrev pub ending : Place → Place → ℕ → Option ℕ → Result ℕ ReadError
ending p here n next = if nat_lt 1024 n then Err (refusal p (p.offset + 1025) TokenTooLong) else ended_here here next

-- how many bytes have to be seen
abbrev pub seen_of : {A : Type 0} → Result (Piece A) Flaw → ℕ
seen_of (Ok piece) = piece.seen
seen_of (Err f) = f.seen

-- What a call answers that reads what the bytes from a place on spell: the piece, the fault, or that the input is too long
-- where the piece or the fault has its stop past the limit.
abbrev pub Answers : {A B : Type 0} → Place → List ℕ → (Piece A → B → Type 0) → Result (Piece A) Flaw → Result B ReadError → Type 0
Answers p bs Gives (Ok piece) (Ok x) = Gives piece x
Answers p bs Gives (Err f) (Ok x) = ⊥
Answers p bs Gives (Ok piece) (Err (Text t)) = ⊥
Answers p bs Gives (Err f) (Err (Text t)) = (t ≡ fault_at p bs f) × (p.offset + f.seen ≤ LIMIT)
Answers p bs Gives spelled (Err TooLong) = LIMIT < p.offset + seen_of spelled
Answers p bs Gives spelled (Err ReadFault) = ⊤
Answers p bs Gives spelled (Err NoMemory) = ⊤
Answers p bs Gives spelled (Err Spent) = ⊥

-- a first byte, and then bytes of a class, at least one where the first leads them; at most 1,024 bytes in all
pub record IsLed (class : Class) (lead : Bool) (byte : ℕ) (text : List ℕ) : Type 0 where
  pub rest : List ℕ
  pub parts : text ≡ byte ∷ rest
  pub each : AreIn class rest
  pub some : IsTrue lead → 0 < length rest
  pub short : length text ≤ 1024

-- the bytes that begin a text: its first, and with `lead` one of the class behind it
abbrev pub Leads : Class → Bool → ℕ → List ℕ → Type 0
Leads class false byte text = text ≡ byte ∷ []
Leads class true byte text = (b : ℕ) × (text ≡ byte ∷ b ∷ []) × IsTrue (in_class class b)

-- the byte that shows where a text ends is ahead, or the input ends there and no byte is held
abbrev pub IsLast : ℕ → Window → Type 0
IsLast stop w = stop ≤ w.place.offset → given w ≤ stop

-- nothing was taken for what has its stop within the bytes that were taken before
abbrev pub IsUnseen : ℕ → Window → Window → Type 0
IsUnseen stop old new = stop ≤ given old → given new ≡ given old

-- the rest of a word or an integer was read
pub record Spans (class : Class) (p : Place) (old new : Window) (left left' : Option (List ℕ)) (before after : List ℕ) (result : Result ℕ ReadError) : Type 0 where
  pub used : List ℕ
  pub uses : Uses old new left left' used
  pub each : AreIn class used
  pub added : after ≡ before ++ used
  pub short : OnOk result (length after ≤ 1024)
  pub last : IfOk result (λ stop. IsLast stop new)
  -- a read that fails was asked for with no byte at hand
  pub used_up : IsErrOf result ReadFault → new.held ≡ []
  pub answer : (rest : List ℕ) → input old left ≡ Some rest →
      Answers p (before ++ rest) (λ piece stop. (piece.value ≡ after) × (piece.count ≡ length after) × (stop ≡ p.offset + piece.seen)) (span_at (in_class class) (length before) (before ++ rest)) result

-- the bytes that begin a text were used
pub record Begins (class : Class) (lead : Bool) (byte : ℕ) (p : Place) (old new : Window) (left left' : Option (List ℕ)) (after : List ℕ) (result : Result (Unit {0}) ReadError) : Type 0 where
  pub used : List ℕ
  pub uses : Uses old new left left' used
  pub ok : OnOk result ((used ≡ after) × Leads class lead byte after)
  pub used_up : IsErrOf result ReadFault → new.held ≡ []
  pub answer : (bs : List ℕ) → input old left ≡ Some bs → (text : Result (Piece (List ℕ)) Flaw) → 1 ≤ seen_of text →
      MatchResult result (λ _. led lead (in_class class) (first (drop 1 bs)) text ≡ text)
      (λ e. Answers {B = ℕ} p bs (λ _ _. ⊥) (led lead (in_class class) (first (drop 1 bs)) text) (Err e))

-- n bytes of a class are held whole, and behind them a byte that shows the end of a word or an integer
pub record IsWhole (class : Class) (w : Window) (n : ℕ) : Type 0 where
  pub run : n ≡ prefix_len (in_class class) w.held
  pub short : n ≤ 1024
  pub more : n < length w.held
  pub follows : may_follow (slice_index w.held n) ≡ true
  pub within : w.place.offset + n < LIMIT

-- no bytes of a class are held whole
abbrev pub NoneWhole : Class → Window → Type 0
NoneWhole class w = (n : ℕ) → 0 < n → IsWhole class w n → ⊥

-- a string of n bytes with its quotes is held whole, and has no escapes
pub record IsQuoted (w : Window) (n : ℕ) : Type 0 where
  pub run : n ≡ 2 + prefix_len is_string_byte (drop 1 w.held)
  pub enough : n ≤ length w.held
  pub quote : slice_index (drop 1 w.held) (prefix_len is_string_byte (drop 1 w.held)) ≡ 34
  pub within : w.place.offset + n ≤ LIMIT

-- no string without escapes is held whole
abbrev pub NoneQuoted : Window → Type 0
NoneQuoted w = (n : ℕ) → IsQuoted w n → ⊥

-- a text was read
pub record ReadsText (class : Class) (lead : Bool) (p : Place) (old new : Window) (left left' : Option (List ℕ)) (result : Result Spanned ReadError) : Type 0 where
  pub used : List ℕ
  pub uses : Uses old new left left' used
  pub some : OnOk result (0 < length used)
  pub shape : IfOk result (λ x. (b : ℕ) (rest : List ℕ) → old.held ≡ b ∷ rest → IsLed class lead b x.text)
  pub unseen : IfOk result (λ x. IsUnseen x.stop old new)
  pub used_up : IsErrOf result ReadFault → new.held ≡ []
  pub answer : (bs : List ℕ) → input old left ≡ Some bs →
      Answers p bs (λ piece x. (x.text ≡ piece.value) × (x.stop ≡ p.offset + piece.seen) × (piece.count ≡ length used)) (text_at (in_class class) lead bs) result

-- a token was read, which is spelled so
pub record Reads (spelled : List ℕ → Result (Piece Token) Flaw) (p : Place) (old new : Window) (left left' : Option (List ℕ)) (result : Result Found ReadError) : Type 0 where
  pub used : List ℕ
  pub uses : Uses old new left left' used
  pub some : OnOk result (0 < length used)
  pub unseen : IfOk result (λ f. IsUnseen f.stop old new)
  pub used_up : IsErrOf result ReadFault → new.held ≡ []
  pub answer : (bs : List ℕ) → input old left ≡ Some bs →
      Answers p bs (λ piece f. (f ≡ found_at p piece) × (piece.count ≡ length used)) (spelled bs) result

abbrev pub number_or_refusal : Place → ℕ → Option ℤ → Result Found ReadError
number_or_refusal p stop None = Err (refusal p stop NumberRange)
number_or_refusal p stop (Some z) = Ok (record { place = p; stop = stop; token = Number z })

abbrev pub number_found : Place → ℕ → List ℕ → Result Found ReadError
number_found p stop digits = number_or_refusal p stop (integer_of digits)

-- ---- strings

abbrev pub Continues : Place → List ℕ → Result (Piece (List ℕ)) Flaw → Result (Unit {0}) ReadError → Result (Piece (List ℕ)) Flaw → Type 0
Continues p whole spelled (Ok u) next = spelled ≡ next
Continues p whole spelled (Err e) next = Answers {B = ℕ} p whole (λ _ _. ⊥) spelled (Err e)

-- A part of a string was read: from one standing to another, while the value grew. `start` is the place of the escape's `%`.
pub record ReadsPart (from to : ℕ → Within) (p start : Place) (old new : Window) (left left' : Option (List ℕ)) (before after : List ℕ) (result : Result (Unit {0}) ReadError) : Type 0 where
  pub used : List ℕ
  pub uses : Uses old new left left' used
  pub used_up : IsErrOf result ReadFault → new.held ≡ []
  pub spelled : (front bs rest : List ℕ) (s : ℕ) → s ≤ length front → start ≡ place_past p (take s front) → old.place ≡ place_past p front
      → input old left ≡ Some bs → input new left' ≡ Some rest → bs ≡ used ++ rest
      → Continues p (front ++ bs) (string_at (from s) before (length front) bs) result (string_at (to s) after (length front + length used) rest)
