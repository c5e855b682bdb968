-- How much was taken from a source.
use Rattle.std.proofs.Common.{◌≡◌, ℕ, ◌+◌, ◌≤◌, List, ◌++◌, length, Option, Some, None, Result, Ok, Err, ap, ◌∙◌, arith, length-append}
use Rattle.nl_base.specs.declared.place.Place.{Place}
use Rattle.nl_base.specs.declared.fault.ReadError.{ReadError}
use Rattle.nl_base.specs.declared.fault.ReadError.TheVariants.{Text, ReadFault, TooLong, NoMemory, Spent}
use Rattle.nl_base.specs.Faults.{OnText}
use Rattle.nl_base.proofs.Places.{place_past-offset}
use Rattle.nl_bytes.specs.Bytes.{Window, Uses, TookAtMost}

-- no more was taken than was used and is held
pub took : (old new : Window) (l m : Option (List ℕ)) (used : List ℕ) → Uses old new l m used → (stop : ℕ) → new.place.offset ≤ stop → length new.held ≤ 4096 → TookAtMost l m (stop + 4096)
took old new None m used uses stop le held = tt
took old new (Some bs) None used uses stop le held = absurd uses.bytes
took old new (Some bs) (Some rest) used uses stop le held =
    let all : length (old.held ++ bs) ≡ length (used ++ (new.held ++ rest)) = ap (λ (xs : List ℕ). length xs) uses.bytes in
    let place = ap (λ (q : Place). q.offset) uses.place ∙ place_past-offset old.place used in
    omega (arith, all, place, length-append old.held bs, length-append used (new.held ++ rest), length-append new.held rest)

pub took_text : {A : Type 0} {old new : Window} {l m : Option (List ℕ)} {used : List ℕ} → Uses old new l m used → (r : Result A ReadError) → OnText r (λ t. new.place.offset ≤ t.stop) → length new.held ≤ 4096 → OnText r (λ t. TookAtMost l m (t.stop + 4096))
took_text uses (Ok x) h held = tt
took_text {A} {old} {new} {l} {m} {used} uses (Err (Text t)) h held = took old new l m used uses t.stop h held
took_text uses (Err ReadFault) h held = tt
took_text uses (Err TooLong) h held = tt
took_text uses (Err NoMemory) h held = tt
took_text uses (Err Spent) h held = tt
