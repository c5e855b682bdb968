-- What is kept of the bytes of a token so far (IEEE 1364-2005, 3.5 to 3.7 and 19).
use Rattle.std.specs.Prelude.{◌≡◌, ⊤, ℕ, ◌≤◌, Bool, true, false, ◌||◌, ◌==◌, List, [], ◌∷◌, ◌++◌, length, Option, Some, None}
use Rattle.std.specs.List.{list_all}
use Rattle.vlog_values.specs.declared.literal.Base.{Base}
use Rattle.vlog_values.specs.Values.{IsName}
use Rattle.vlog_tokens.specs.declared.phase.Phase.{Phase}
use Rattle.vlog_tokens.specs.declared.phase.Phase.TheVariants as phases
use Rattle.vlog_tokens.specs.Phases.{is_digit, is_open}
use Rattle.vlog_tokens.specs.Items.{is_kept}

-- ---- based literals

-- `'` and the letter of a base, or `'`, `s` and such a letter
abbrev pub IsFront : Bool → List ℕ → Type 0
IsFront false front = (q : ℕ) × (l : ℕ) × (front ≡ q ∷ l ∷ []) × ((l == 115 || l == 83) ≡ false)
IsFront true front = (q : ℕ) × (s : ℕ) × (l : ℕ) × (front ≡ q ∷ s ∷ l ∷ []) × ((s == 115 || s == 83) ≡ true)

-- a based literal as far as it is scanned: its front, and what stands behind that
pub record IsBehind (Tail : List ℕ → Type 0) (text : List ℕ) : Type 0 where
  pub signed : Bool
  pub front : List ℕ
  pub tail : List ℕ
  pub parts : text ≡ front ++ tail
  pub is_front : IsFront signed front
  pub is_tail : Tail tail
  pub short : length text ≤ 131072

-- a digit of a base, or `_`
abbrev pub may_stand : Base → ℕ → Bool
may_stand base b = is_digit base b || b == 95

-- the first of some bytes is no `_`
abbrev pub begins_kept : List ℕ → Bool
begins_kept [] = false
begins_kept (b ∷ bs) = is_kept b

-- digits of a base and `_`, of which a digit is the first
pub record AreScanned (base : Base) (tail : List ℕ) : Type 0 where
  pub begins : begins_kept tail ≡ true
  pub each : list_all (may_stand base) tail ≡ true

-- a `_`
abbrev pub is_left_out : ℕ → Bool
is_left_out b = b == 95

-- one `x`, `z` or `?` and then `_`
pub record IsScannedOpen (tail : List ℕ) : Type 0 where
  pub first : ℕ
  pub rest : List ℕ
  pub parts : tail ≡ first ∷ rest
  pub is_first : is_open first ≡ true
  pub each : list_all is_left_out rest ≡ true

-- ---- all tokens

-- what is kept of them in each phase
abbrev pub IsSoFar : Phase → List ℕ → Type 0
IsSoFar phases.Word text = IsName text
IsSoFar phases.Escape text = text ≡ []
IsSoFar phases.Escaped text = IsName text
IsSoFar phases.Whole text = ⊤
IsSoFar phases.Point text = ⊤
IsSoFar phases.Fraction text = ⊤
IsSoFar phases.Mark text = ⊤
IsSoFar phases.Sign text = ⊤
IsSoFar phases.Exponent text = ⊤
IsSoFar phases.Prefix text = (q : ℕ) × (text ≡ q ∷ [])
IsSoFar phases.Signed text = (q : ℕ) × (s : ℕ) × (text ≡ q ∷ s ∷ []) × ((s == 115 || s == 83) ≡ true)
IsSoFar (phases.Letter base) text = IsBehind (λ tail. tail ≡ []) text
IsSoFar (phases.Digits base) text = IsBehind (AreScanned base) text
IsSoFar phases.Unknown text = IsBehind IsScannedOpen text
IsSoFar phases.Grave text = ⊤
IsSoFar phases.Directive text = ⊤

-- what is kept behind a byte: of a token that goes on, or of one that has ended
abbrev pub IsThen : Phase → List ℕ → Option Phase → Type 0
IsThen phase text (Some next) = IsSoFar next text
IsThen phase text None = IsSoFar phase text
