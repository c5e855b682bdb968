-- What a call answers for what a token says.
use Rattle.std.specs.Prelude.{◌≡◌, ℕ, ◌<◌, ◌≤◌, not, ◌&&◌, List, [], length, is_none, Result, Ok, Err, IfOk, OnOk, IfErr, IfSome, Option, Some, None, is_some, Bool, true, false, if◌then◌else◌}
use Rattle.nl_base.specs.declared.place.Place.{Place}
use Rattle.nl_base.specs.declared.fault.Reason.{Reason}
use Rattle.nl_base.specs.declared.fault.ReadError.{ReadError}
use Rattle.nl_base.specs.declared.fault.ReadError.TheVariants as errors
use Rattle.nl_base.specs.declared.memory.NoMemory.{NoMemory}
use Rattle.grammar.specs.Part.{takes, refuses, leaves}
use Rattle.grammar.specs.Part as part
use Rattle.nl_io.specs.Sources.{Supply}
use Rattle.nl_bytes.specs.Tokens.{IsNear}
use Rattle.readers.specs.Readers.{Reader, Looks, spoilt}
use Rattle.vlog_tokens.specs.Language.{vlog}
use Rattle.vlog_tokens.specs.Held as tokens
use Rattle.vlog_tokens.specs.Plains as plains
use Rattle.vlog_tokens.specs.HeldLiterals as literals
use Rattle.vlog_values.specs.declared.literal.Base.{Base}
use Rattle.vlog_tokens.specs.declared.plain.Plain.{Plain}
use Rattle.vlog_exprs.specs.Language.{NoContext}
use Rattle.vlog_tokens.specs.declared.token.VFound.{VFound}
use Rattle.vlog_tokens.specs.declared.token.VToken.{VToken}
use Rattle.vlog_tokens.specs.declared.token.VToken.TheVariants.{Name}
use Rattle.vlog_tokens.specs.Items.{word_token}
use Rattle.vlog_exprs.specs.declared.glance.Glance.{Glance}
use Rattle.vlog_exprs.specs.declared.glance.Glance.TheVariants.{Takes, Refuses, Leaves}

-- nothing where a token was looked at
abbrev pub unlooked : Option VFound → Option ℕ → Option ℕ
unlooked None mark = mark
unlooked (Some x) mark = None

-- the punctuation mark that is next of a reader that has looked at no token, where the bytes that are held show it
unfoldable pub held_mark : Reader NoContext VFound → Option ℕ
held_mark r = if r.spent then None else unlooked r.ahead (tokens.held_mark r.window)

-- the reader behind that mark
abbrev pub past_mark : Reader NoContext VFound → Reader NoContext VFound
past_mark r = record { window = tokens.past_mark r.window; ahead = r.ahead; context = r.context; spent = r.spent }

-- whether no error has spent a reader, and it has looked at no token
abbrev pub is_unlooked : Reader NoContext VFound → Bool
is_unlooked r = not r.spent && is_none r.ahead

-- the simple name or the keyword that is next of a reader that has looked at no token, where the bytes that are held show it and its end
unfoldable pub held_word : Reader NoContext VFound → List ℕ
held_word r = if is_unlooked r then tokens.held_word r.window else []

-- the reader behind that word
abbrev pub past_word : Reader NoContext VFound → Reader NoContext VFound
past_word r = record { window = tokens.past_word r.window; ahead = r.ahead; context = r.context; spent = r.spent }

-- the number or the bracket of attributes that is next of a reader that has looked at no token, where the bytes that are held show it
-- and its end
unfoldable pub held_plain : Reader NoContext VFound → Option Plain
held_plain r = if is_unlooked r then plains.held_plain r.window else None

-- the reader behind that token
abbrev pub past_plain : Reader NoContext VFound → Reader NoContext VFound
past_plain r = record { window = plains.past_plain r.window; ahead = r.ahead; context = r.context; spent = r.spent }

-- the base of the literal that is next of a reader that has looked at no token, where the bytes that are held show its `'` and its letter
unfoldable pub held_base : Reader NoContext VFound → Option Base
held_base r = if is_unlooked r then literals.held_base r.window else None

-- the reader behind that literal's so many digits
abbrev pub past_digits : ℕ → Reader NoContext VFound → Reader NoContext VFound
past_digits count r = record { window = literals.past_digits count r.window; ahead = r.ahead; context = r.context; spent = r.spent }

-- The name that is held was taken, or nothing was taken where no name is held, or there was no memory for the name.
abbrev pub TakesHeld : Result (Option (List ℕ)) ReadError → Reader NoContext VFound → Reader NoContext VFound → Type 0
TakesHeld (Ok (Some name)) old new = (word_token (held_word old) ≡ Name name) × (0 < length (held_word old)) × (length old.window.held ≤ 4096) × (new ≡ past_word old)
TakesHeld (Ok None) old new = new ≡ old
TakesHeld (Err e) old new = (e ≡ errors.NoMemory) × (0 < length (held_word old)) × (new ≡ spoilt old)

-- the value, or the refusal of the token at its place, unless there was no memory for the reason's word
abbrev pub answer : {V : Type 0} → Place → ℕ → Result (Result V Reason) NoMemory → Result V ReadError
answer place stop (Ok (Ok v)) = Ok v
answer place stop (Ok (Err reason)) = Err (errors.Text (record { place = place; stop = stop; reason = reason }))
answer place stop (Err e) = Err errors.NoMemory

-- a reader whose token is refused is spent
abbrev pub left_after : {K X V : Type 0} → Result (Result V Reason) NoMemory → Reader K X → Reader K X
left_after (Ok (Ok v)) c = c
left_after (Ok (Err reason)) c = spoilt c
left_after (Err e) c = spoilt c

-- what a token is taken for, where the token is given back that is left
abbrev pub kept : {C : Type 0} → VToken → part.Glance C Reason → Glance C
kept t (takes c) = Takes c
kept t (refuses reason) = Refuses reason
kept t leaves = Leaves t

-- a token that is given back is such
abbrev pub IfLeaves : {C : Type 0} → Glance C → (VToken → Type 0) → Type 0
IfLeaves (Takes c) Good = Unit {0}
IfLeaves (Refuses reason) Good = Unit {0}
IfLeaves (Leaves t) Good = Good t

-- what is answered where a token of this place and stop was looked at
abbrev pub seen_answer : {C : Type 0} → Place → ℕ → Glance C → Result (Option C) ReadError
seen_answer place stop (Takes c) = Ok (Some c)
seen_answer place stop (Refuses reason) = Err (errors.Text (record { place = place; stop = stop; reason = reason }))
seen_answer place stop (Leaves t) = Ok None

-- what is left then, of a reader from which the token was taken out
abbrev pub seen_left : {K C : Type 0} → Place → ℕ → Glance C → Reader K VFound → Reader K VFound
seen_left place stop (Takes c) r = r
seen_left place stop (Refuses reason) r = spoilt r
seen_left place stop (Leaves t) r = record { window = r.window; ahead = Some (record { place = place; stop = stop; token = t }); context = r.context; spent = r.spent }

-- whether there is a next token
abbrev pub is_there : {X : Type 0} → Result (Option X) ReadError → Result Bool ReadError
is_there (Ok x) = Ok (is_some x)
is_there (Err e) = Err e

-- a reader that has looked at the next token, once that is taken out
abbrev pub without : {K X : Type 0} → Result (Option X) ReadError → Reader K X → Reader K X
without (Ok x) r = record { window = r.window; ahead = None; context = r.context; spent = r.spent }
without (Err e) r = r

-- The next token is looked at, and is taken out where there is one: `seen` is the reader between.
pub record LooksOut (result : Result (Option VFound) ReadError) (old new : Reader NoContext VFound) (i j : Supply) : Type 0 where
  pub seen : Reader NoContext VFound
  pub looks : Looks vlog (is_there result) old seen i j
  pub found : IfOk result (λ x. x ≡ seen.ahead)
  pub near : IfOk result (λ x. IfSome x (λ x. IsNear new.window x.stop))
  pub left : new ≡ without result seen

-- whether a token was taken that says no more than that it stands
abbrev pub stands : Bool → Option (Unit {0})
stands true = Some tt
stands false = None
