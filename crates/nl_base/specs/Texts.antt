-- What the bytes of a text are, in each of the two forms in which it keeps them.
use Rattle.std.specs.Prelude.{ℕ, List, ◌≤◌, take, Option, None, Some}
use Rattle.nl_base.specs.declared.optional.MaybeKept.{MaybeKept}
use Rattle.nl_base.specs.declared.optional.MaybeKept.TheVariants as maybe
use Rattle.nl_base.specs.declared.optional.MaybeKept.TheVariants.{Nothing}
use Rattle.nl_base.specs.declared.text.Kept.{Kept}
use Rattle.nl_base.specs.declared.text.Kept.TheVariants.{Short, Long}

-- the bytes that are kept: the first of the short ones, or all of the long ones
abbrev pub kept_bytes : Kept → List ℕ
kept_bytes (Short count short) = take count short
kept_bytes (Long long) = long.value.items

-- a short text has no more bytes than there is place for
abbrev pub IsKept : Kept → Type 0
IsKept (Short count short) = count ≤ 14
IsKept (Long long) = Unit {0}

-- the bytes that are kept of a text that may be left out
abbrev pub maybe_bytes : MaybeKept → Option (List ℕ)
maybe_bytes Nothing = None
maybe_bytes (maybe.Short count short) = Some (take count short)
maybe_bytes (maybe.Long long) = Some long.value.items

-- as `IsKept`, where there is a text
abbrev pub IsMaybeKept : MaybeKept → Type 0
IsMaybeKept Nothing = Unit {0}
IsMaybeKept (maybe.Short count short) = count ≤ 14
IsMaybeKept (maybe.Long long) = Unit {0}
