-- Where no version stands, the end of the form around it is due.
use Rattle.std.proofs.Common.{List, Option}
use Rattle.nl_base.specs.declared.fault.ReadError.{ReadError}
use Rattle.edif_tokens.specs.declared.token.Found.{Found}
use Rattle.readers.specs.Parts.{any}
use Rattle.nl_bytes.specs.Tokens.{Ahead}
use Rattle.readers.specs.Readers.{reading, IsCause}
use Rattle.readers.proofs.Choices.{due_one, due_then}
use Rattle.edif_keywords.specs.Aliases.{Alias}
use Rattle.edif_keywords.specs.Language.{edif}
use Rattle.edif_keywords.specs.Reasons.{closing_of}
use Rattle.edif_keywords.proofs.Forms.{form_or_other}
use Rattle.edif_status.specs.Grammar.{no_version}

pub no_version_due : (e : ReadError) (table : List Alias) (s : Option (Ahead Found)) → IsCause e (reading edif any table s) → IsCause e (reading edif no_version table s)
unfolding no_version
no_version_due e table s h = due_then e edif _ _ table s (due_one e edif (λ _ x. closing_of x.token) table s h)

-- for a version, or the end of the form around it
pub ruleset version_or_end = (no_version_due, form_or_other)
