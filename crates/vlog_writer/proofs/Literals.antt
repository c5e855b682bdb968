-- The spelling of based literals, before what follows.
use Rattle.std.proofs.Common.{◌≡◌, ℕ, Bool, true, false, List, [], ◌∷◌, ◌++◌, refl, append_assoc}
use Rattle.std.specs.Prelude.{if◌then◌else◌, decimal}
use Rattle.vlog_values.specs.declared.literal.Based.{Based}
use Rattle.vlog_values.specs.declared.literal.Literal.{Literal}
use Rattle.vlog_values.specs.Spelling.{base_letter, based_spelling, literal_spelling}

signed_part : (s : Bool) (tail rest : List ℕ) → (39 ∷ (if s then 115 ∷ [] else []) ++ tail) ++ rest ≡ 39 ∷ (if s then 115 ∷ (tail ++ rest) else tail ++ rest)
signed_part true tail rest = refl
signed_part false tail rest = refl

pub based_text : (b : Based) (rest : List ℕ) → based_spelling b ++ rest ≡ 39 ∷ (if b.signed then 115 ∷ (base_letter b.base ∷ (b.digits ++ rest)) else base_letter b.base ∷ (b.digits ++ rest))
unfolding based_spelling
based_text b rest = signed_part b.signed (base_letter b.base ∷ b.digits) rest

pub literal_text : (l : Literal) (rest : List ℕ) → literal_spelling l ++ rest ≡ decimal l.size ++ (based_spelling l.based ++ rest)
unfolding literal_spelling
literal_text l rest = append_assoc (decimal l.size) (based_spelling l.based) rest
