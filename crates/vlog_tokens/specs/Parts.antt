-- What the parts of a reader answer.
use Rattle.std.specs.Prelude.{◌≡◌, ℕ, ◌+◌, ◌<◌, ◌≤◌, ◌++◌, List, length, IfOk, OnOk, Option, Some, None, Result, Ok, Err, ⊤}
use Rattle.nl_base.specs.declared.place.Place.{Place}
use Rattle.nl_base.specs.declared.fault.Reason.TheVariants.{NumberRange}
use Rattle.nl_base.specs.declared.fault.ReadError.{ReadError}
use Rattle.nl_base.specs.declared.fault.ReadError.TheVariants.{Text, ReadFault, TooLong, NoMemory, Spent}
use Rattle.nl_base.specs.Place.{place_past}
use Rattle.nl_bytes.specs.declared.bytes.TheConstants.{LIMIT}
use Rattle.nl_bytes.specs.Bytes.{Window, Uses, input, given}
use Rattle.vlog_tokens.specs.declared.item.Item.{Item}
use Rattle.vlog_tokens.specs.declared.item.Item.TheVariants.{Token}
use Rattle.vlog_tokens.specs.declared.item.Spot.{Spot}
use Rattle.vlog_tokens.specs.declared.token.VToken.{VToken}
use Rattle.nl_bytes.specs.Flaws.{Piece, Flaw, fault_at, refusal}
use Rattle.nl_bytes.specs.Tokens.{UsedUp}

-- so many bytes, `offset` bytes before it among them, have to be read until it is known what is spelled
abbrev pub Reaches : {A : Type 0} → ℕ → ℕ → Result (Piece A) Flaw → Type 0
Reaches offset n (Ok piece) = (n ≤ offset + piece.count) × (n ≤ offset + piece.seen)
Reaches offset n (Err f) = n ≤ offset + f.seen

-- What a call answers that reads what the bytes from a place on spell: the piece, the fault, or that the input is too long
-- where more bytes have to be read than are within the limit.
abbrev pub Answers : {A B : Type 0} → Place → List ℕ → (Piece A → B → Type 0) → Result (Piece A) Flaw → Result B ReadError → Type 0
Answers p bs Gives (Ok piece) (Ok x) = Gives piece x
Answers p bs Gives (Err f) (Ok x) = ⊥
Answers p bs Gives (Ok piece) (Err (Text t)) = ⊥
Answers p bs Gives (Err f) (Err (Text t)) = (t ≡ fault_at p bs f) × (p.offset + f.seen ≤ LIMIT)
Answers p bs Gives spelled (Err TooLong) = Reaches p.offset (LIMIT + 1) spelled
Answers p bs Gives spelled (Err ReadFault) = ⊤
Answers p bs Gives spelled (Err NoMemory) = ⊤
Answers p bs Gives spelled (Err Spent) = ⊥

-- what the bytes from here on make of a token of which so many bytes were read
abbrev pub Meaning : Type 0 → Type 0
Meaning A = ℕ → List ℕ → Result (Piece A) Flaw

-- after a part was read the rest means what the whole meant before; an error is what the whole means
abbrev pub Continues : {A X : Type 0} → Place → List ℕ → Result (Piece A) Flaw → Result X ReadError → (X → Result (Piece A) Flaw) → Type 0
Continues p whole meant (Ok x) next = meant ≡ next x
Continues {A = A} p whole meant (Err e) next = Answers {A = A} {B = ℕ} p whole (λ _ _. ⊥) meant (Err e)

-- A part of the token that begins at p was read: before it the bytes mean `from`, and behind it the rest means `to`.
pub record Part {A X : Type 0} (from : Meaning A) (to : X → Meaning A) (p : Place) (old new : Window) (left left' : Option (List ℕ)) (result : Result X ReadError) : Type 0 where
  pub used : List ℕ
  pub uses : Uses old new left left' used
  pub means : (front bs rest : List ℕ) → old.place ≡ place_past p front → input old left ≡ Some bs → input new left' ≡ Some rest → bs ≡ used ++ rest
      → Continues p (front ++ bs) (from (length front) bs) result (λ x. to x (length front + length used) rest)
  pub used_up : UsedUp result new

-- What a call answers of what some bytes are: the item, and the offset where it is known.
abbrev pub GivesSpot : Place → List ℕ → Piece Item → Spot → Type 0
GivesSpot p used piece x = (x ≡ record { item = piece.value; stop = p.offset + piece.seen }) × (piece.count ≡ length used)

-- nothing is taken for a token whose stop lies within the bytes taken before
abbrev pub TokenUnseen : Spot → Window → Window → Type 0
TokenUnseen x old new = (token : VToken) → x.item ≡ Token token → x.stop ≤ given old → given new ≡ given old

-- What stands at the place of a reader was read, which is spelled so.
pub record Reads (spelled : List ℕ → Result (Piece Item) Flaw) (old new : Window) (left left' : Option (List ℕ)) (result : Result Spot ReadError) : Type 0 where
  pub used : List ℕ
  pub uses : Uses old new left left' used
  pub some : OnOk result (0 < length used)
  pub answer : (bs : List ℕ) → input old left ≡ Some bs → Answers old.place bs (GivesSpot old.place used) (spelled bs) result
  pub unseen : IfOk result (λ x. TokenUnseen x old new)
  pub used_up : UsedUp result new

-- an item with its stop, or the refusal of a number that is too large
abbrev pub spot_of : Place → ℕ → Option Item → Result Spot ReadError
spot_of p stop (Some item) = Ok (record { item = item; stop = stop })
spot_of p stop None = Err (refusal p stop NumberRange)
