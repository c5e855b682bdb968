-- What several calls left of the bytes of a source, and how much may still be read.
use Rattle.std.proofs.Common.{◌≡◌, ℕ, ◌+◌, ◌-◌, ◌≤◌, ◌<◌, Bool, List, Option, Some, None, drop, length, refl, sym, ap, ◌∙◌, inl, arith}
use Rattle.std.proofs.lemmas.List.{drop-drop}
use Rattle.nl_base.specs.declared.place.Place.{Place}
use Rattle.nl_base.proofs.Places.{place_past-offset}
use Rattle.nl_base.specs.declared.fault.TextFault.{TextFault}
use Rattle.nl_base.specs.declared.fault.ReadError.TheVariants as errors
use Rattle.nl_bytes.specs.Bytes.{Window, Uses, given}
use Rattle.nl_bytes.specs.declared.bytes.TheConstants.{LIMIT}
use Rattle.nl_io.specs.Sources.{Supply}
use Rattle.nl_bytes.specs.Tokens.{Moves, excess, skip, IsNear, NearError}
use Rattle.readers.specs.Readers.{Reader, room}

pub skip_skip : (a b c : ℕ) (bs : Option (List ℕ)) → a ≤ b → b ≤ c → skip c b (skip b a bs) ≡ skip c a bs
unfolding skip
skip_skip a b c None h k = refl
skip_skip a b c (Some bs) h k =
    let e : (b - a) + (c - b) ≡ c - a = omega arith in
    ap Some (drop-drop (c - b) (b - a) bs ∙ ap (λ n. drop n bs) e)

pub skip_none : (n : ℕ) (bs : Option (List ℕ)) → skip n n bs ≡ bs
unfolding skip
skip_none n None = refl
skip_none n (Some bs) = let e : n - n ≡ 0 = omega arith in rw e refl

-- nothing is taken and nothing is used
pub still : (w : Window) (i : Supply) → Moves w w i i
still w i = record { place = omega arith; taken = omega arith; left = sym (skip_none (given w) i.left); faults = omega arith; within = omega arith; lazy = inl refl }

-- a reader of bytes that used some moved so
pub uses_move : (old new : Window) (i j : Supply) (used : List ℕ) → Uses old new i.left j.left used → i.faults ≤ j.faults → given new ≤ LIMIT + 4096 → Moves old new i j
unfolding skip excess
uses_move old new i j used u f most =
    let p : new.place.offset ≡ old.place.offset + length used = ap (λ (z : Place). z.offset) u.place ∙ place_past-offset old.place used in
    record { place = omega arith; taken = u.taken; left = u.suffix; faults = f; within = omega (arith, most); lazy = u.lazy }

-- ---- how far bytes were taken

pub near_text : (w : Window) (f : TextFault) → IsNear w f.stop → NearError (errors.Text f) w
unfolding NearError
near_text w f h = h

pub near_no_memory : (w : Window) → NearError errors.NoMemory w
unfolding NearError
near_no_memory w = tt

pub near_spent : (w : Window) → NearError errors.Spent w
unfolding NearError
near_spent w = tt

-- ---- how much may still be read

-- a reader of these
abbrev pub reader : {K X : Type 0} → Window → Option X → K → Bool → Reader K X
reader w x k b = record { window = w; ahead = x; context = k; spent = b }

pub room_ahead : {K X : Type 0} (w : Window) (x : X) (k : K) (b d : Bool) → room (reader {X = X} w None k d) < room (reader w (Some x) k b)
unfolding room
room_ahead w x k b d = omega arith

pub room_token : {K : Type 0} (X : Type 0) (w v : Window) (k : K) (b d : Bool) → w.place.offset < v.place.offset → v.place.offset ≤ LIMIT + 1 → room (reader {X = X} v None k d) < room (reader {X = X} w None k b)
unfolding room
room_token X w v k b d h l = omega arith

pub room_seen : {K X : Type 0} (w v : Window) (x : X) (k : K) (b d : Bool) → w.place.offset < v.place.offset → v.place.offset ≤ LIMIT + 1 → room (reader v (Some x) k d) ≤ room (reader {X = X} w None k b)
unfolding room
room_seen w v x k b d h l = omega arith

pub room_end : {K : Type 0} (X : Type 0) (w v : Window) (k : K) (b d : Bool) → w.place.offset ≤ v.place.offset → room (reader {X = X} v None k d) ≤ room (reader {X = X} w None k b)
unfolding room
room_end X w v k b d h = omega arith

-- another context leaves the room
pub room_context : {K X : Type 0} (a : Reader K X) (k : K) → room (record { window = a.window; ahead = a.ahead; context = k; spent = a.spent }) ≡ room a
unfolding room
room_context a k = refl
