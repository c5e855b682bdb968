-- What is known after a look at the next token of an EDIF text.
use Rattle.std.proofs.Common.{◌≡◌, false, List, Option, Some, None}
use Rattle.grammar.specs.Whole.{the_end}
use Rattle.nl_base.specs.declared.fault.Reason.TheVariants as reasons
use Rattle.nl_base.specs.declared.fault.ReadError.TheVariants as errors
use Rattle.edif_tokens.specs.declared.token.Found.{Found}
use Rattle.nl_bytes.specs.Tokens.{Ahead}
use Rattle.readers.specs.Readers.{looking, then_left, reading, IsToken, IsNext, IsCause}
use Rattle.readers.proofs.Looking.{seen_token, seen_next, seen_none, cause_looking, cause_end, seen_trailing, seen_end, cause_ending}
use Rattle.readers.proofs.Moving.{near_text, skip_none}
use Rattle.edif_keywords.specs.Aliases.{Alias}
use Rattle.edif_keywords.specs.Language.{edif}
use Rattle.edif_keywords.specs.Reasons.{opens, has_string, trailing}

pub seen_form : (x : Found) (s t : Option (Ahead Found)) → looking s ≡ then_left (Some x) t → IsToken opens (opens x) s
seen_form = seen_token opens

pub seen_string : (x : Found) (s t : Option (Ahead Found)) → looking s ≡ then_left (Some x) t → IsNext has_string (has_string x) s
seen_string = seen_next has_string

pub seen_no_string : (s t : Option (Ahead Found)) → looking s ≡ then_left None t → IsNext has_string false s
seen_no_string = seen_none has_string

pub seen_after : (k : List Alias) (x : Found) (s : Option (Ahead Found)) → looking s ≡ then_left (Some x) s → IsCause (errors.Text (record { place = x.place; stop = x.stop; reason = reasons.Trailing })) (reading edif (the_end trailing) k s)
seen_after k x s h = seen_trailing edif trailing k x s h

-- for a call that looks whether a form is next
pub ruleset forms_next = (seen_form, cause_looking, cause_end, near_text, skip_none)

-- for a call that looks whether a string is next
pub ruleset strings_next = (seen_string, seen_no_string)

-- for a call that takes the end of the input
pub ruleset ends = (seen_after, seen_end, cause_ending, near_text, skip_none)
