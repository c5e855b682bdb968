-- What a reader answers where it answers no value.
use Rattle.std.specs.Prelude.{⊤, ℕ, List, codes, Option, Some, None, Result, Ok, Err}
use Rattle.nl_base.specs.declared.fault.TextFault.{TextFault}
use Rattle.nl_base.specs.declared.fault.ReadError.{ReadError}
use Rattle.nl_base.specs.declared.fault.ReadError.TheVariants.{Text, ReadFault, TooLong, NoMemory, Spent}
use Rattle.nl_base.specs.declared.fault.Reason.{Reason}
use Rattle.nl_base.specs.declared.fault.Reason.TheVariants.{EndOfInput, BadByte, BadEscape, TokenTooLong, NumberRange, TooDeep, Version, Level, KeywordLevel, ViewType, AliasClash, AliasUnknown, NotInProfile, UnknownWord, Trailing, Unexpected}

-- what holds of the fault, where the answer is a fault of the text
abbrev pub OnText : {A : Type 0} → Result A ReadError → (TextFault → Type 0) → Type 0
OnText (Ok x) P = ⊤
OnText (Err (Text fault)) P = P fault
OnText (Err ReadFault) P = ⊤
OnText (Err TooLong) P = ⊤
OnText (Err NoMemory) P = ⊤
OnText (Err Spent) P = ⊤

-- the name that is printed for a reason
abbrev pub reason_name : Reason → List ℕ
reason_name EndOfInput = codes "EndOfInput"
reason_name BadByte = codes "BadByte"
reason_name BadEscape = codes "BadEscape"
reason_name TokenTooLong = codes "TokenTooLong"
reason_name NumberRange = codes "NumberRange"
reason_name TooDeep = codes "TooDeep"
reason_name Version = codes "Version"
reason_name Level = codes "Level"
reason_name KeywordLevel = codes "KeywordLevel"
reason_name (ViewType word) = codes "ViewType"
reason_name AliasClash = codes "AliasClash"
reason_name AliasUnknown = codes "AliasUnknown"
reason_name (NotInProfile word) = codes "NotInProfile"
reason_name (UnknownWord word) = codes "UnknownWord"
reason_name Trailing = codes "Trailing"
reason_name Unexpected = codes "Unexpected"

-- the word that a reason carries
abbrev pub reason_word : Reason → Option (List ℕ)
reason_word EndOfInput = None
reason_word BadByte = None
reason_word BadEscape = None
reason_word TokenTooLong = None
reason_word NumberRange = None
reason_word TooDeep = None
reason_word Version = None
reason_word Level = None
reason_word KeywordLevel = None
reason_word (ViewType word) = Some word
reason_word AliasClash = None
reason_word AliasUnknown = None
reason_word (NotInProfile word) = Some word
reason_word (UnknownWord word) = Some word
reason_word Trailing = None
reason_word Unexpected = None
