-- What the reader of tokens answers, from what was found.
use Rattle.std.proofs.Common.{◌≡◌, ℕ, ◌+◌, ◌<◌, ◌≤◌, Bool, true, false, List, length, Option, Some, None, Result, Ok, Err, IsTrue, refl, ap, ◌∙◌, inl, inr, arith}
use Rattle.std.specs.Prelude.{◌↔◌, IfOk, IfErr, OnOk, IsErrOf, IsFalse, is_err}
use Rattle.nl_base.specs.declared.fault.ReadError.{ReadError}
use Rattle.nl_base.specs.declared.fault.ReadError.TheVariants.{Text, ReadFault, TooLong, NoMemory, Spent}
use Rattle.nl_base.specs.Faults.{OnText}
use Rattle.nl_io.specs.Causes.{Rose}
use Rattle.nl_bytes.specs.Bytes.{Window, Uses, TakesWhenUsed, given}
use Rattle.nl_bytes.specs.declared.bytes.TheConstants.{LIMIT}
use Rattle.nl_bytes.proofs.Uses.{Uses-none, offset_grows}
use Rattle.nl_io.specs.Sources.{Supply}
use Rattle.nl_bytes.specs.Tokens.{State, Language, Moves, NearError, NearToken, EndsInput, EndsAt, UsesTo, FoundUnseen, UsedUp, Finds, TakesUnseen, ReadsToken, excess, skip}

abbrev pub supplied : Option (List ℕ) → ℕ → Supply
supplied left faults = record { left = left; faults = faults }

none_past : (old new : Window) → given new ≤ LIMIT + 4096 → excess new ≤ excess old
unfolding excess
none_past old new taken = omega (arith, taken)

uses_moves : {old new : Window} {l l' : Option (List ℕ)} {used : List ℕ} → Uses old new l l' used → (f f' : ℕ) → f ≤ f' → excess new ≤ excess old → Moves old new (supplied l f) (supplied l' f')
unfolding skip
uses_moves u f f' count within = record { place = omega (arith, offset_grows u); taken = u.taken; left = u.suffix; faults = count; within = within; lazy = u.lazy }

near_fault : {X : Type 0} (r : Result (Option X) ReadError) (w : Window) → OnText r (λ t. w.place.offset ≤ t.stop) → length w.held ≤ 4096 → IfErr r (λ e. NearError e w)
unfolding NearError
near_fault (Ok x) w to held = tt
near_fault (Err (Text t)) w to held = omega (arith, to, held)
near_fault (Err ReadFault) w to held = tt
near_fault (Err TooLong) w to held = tt
near_fault (Err NoMemory) w to held = tt
near_fault (Err Spent) w to held = tt

near_token : {X : Type 0} (L : Language X) (r : Result (Option X) ReadError) (w : Window) → IfOk r (λ x. UsesTo L x w) → length w.held ≤ 4096 → IfOk r (λ x. NearToken L x w)
near_token L (Ok (Some f)) w to held = omega (arith, to, held)
near_token L (Ok None) w to held = omega (arith, held)
near_token L (Err e) w to held = tt

ends_input : {X : Type 0} (r : Result (Option X) ReadError) (l : Option (List ℕ)) (f : ℕ) → IfOk r (λ x. EndsAt x l) → IfOk r (λ x. EndsInput x (supplied l f))
ends_input (Ok (Some x)) l f h = tt
ends_input (Ok None) l f h = h
ends_input (Err e) l f h = tt

-- the stop lies past the place from which the token was read
pub unseen_after : (a b c : Window) (stop : ℕ) → TakesWhenUsed a b → b.place.offset < stop → (stop ≤ given b → given c ≡ given b) → stop ≤ given a → given c ≡ given a
unseen_after a b c stop (inl same) before next le = next (omega (arith, same, le)) ∙ same
unseen_after a b c stop (inr used) before next le = absurd (omega (arith, used, before, le))

-- of a fault the stop lies before the last byte that was taken
pub fault_unseen : (a b : Window) (stop : ℕ) → TakesWhenUsed a b → b.place.offset ≤ stop → stop < given a → given b ≡ given a
fault_unseen a b stop (inl same) after lt = same
fault_unseen a b stop (inr used) after lt = absurd (omega (arith, used, after, lt))

-- for a fault it follows from how far bytes were used
takes_unseen : {X : Type 0} (L : Language X) (r : Result (Option X) ReadError) (old new : Window) → TakesWhenUsed old new → OnText r (λ t. new.place.offset ≤ t.stop) → IfOk r (λ x. FoundUnseen L x old new) → UsedUp r new → TakesUnseen L r old new
takes_unseen L (Ok (Some x)) old new lazy to shown empty = shown
takes_unseen L (Ok None) old new lazy to shown empty = tt
takes_unseen L (Err (Text t)) old new lazy to shown empty = fault_unseen old new t.stop lazy to
takes_unseen L (Err ReadFault) old new lazy to shown empty = empty refl
takes_unseen L (Err TooLong) old new lazy to shown empty = tt
takes_unseen L (Err NoMemory) old new lazy to shown empty = tt
takes_unseen L (Err Spent) old new lazy to shown empty = tt

at_error : {X : Type 0} (r : Result (Option X) ReadError) (e : ReadError) (P : Type 0) → (IsErrOf r e → P) → IfErr r (λ x. x ≡ e → P)
at_error (Ok x) e P f = tt
at_error {X} (Err x) e P f = λ is. f (ap (λ (y : ReadError). at_err y) is)
  where
    at_err : ReadError → Result (Option X) ReadError
    at_err y = Err y

spent_not : {X : Type 0} (r : Result (Option X) ReadError) → (IsErrOf r Spent → ⊥) → IfErr r (λ e. (e ≡ Spent) ↔ IsTrue false)
spent_not (Ok x) free = tt
spent_not {X} (Err e) free = (λ h. absurd (free (ap (λ (y : ReadError). at_err y) h)), λ h. absurd cc)
  where
    at_err : ReadError → Result (Option X) ReadError
    at_err y = Err y

unspent_ok : {X : Type 0} (r : Result (Option X) ReadError) → OnOk r (IsFalse false)
unspent_ok (Ok x) = refl
unspent_ok (Err e) = tt

abbrev pub state : Window → Bool → State
state w spent = record { window = w; spent = spent }

-- a call of the reader
abbrev pub Nexts : {X : Type 0} → Language X → Result (Option X) ReadError → State → State → Option (List ℕ) → Option (List ℕ) → ℕ → ℕ → Type 0
Nexts L r old new l l' f f' = ReadsToken L r old.window old.spent new.window new.spent (supplied l f) (supplied l' f')

-- the reader that was not spent
pub reads_found : {X : Type 0} {L : Language X} {old new : Window} {l l' : Option (List ℕ)} {r : Result (Option X) ReadError} {f f' : ℕ} → Finds L old new l l' r → (IsErrOf r Spent → ⊥)
    → OnText r (λ t. new.place.offset ≤ t.stop) → f ≤ f' → (IsErrOf r ReadFault → Rose f f') → length new.held ≤ 4096 → given new ≤ LIMIT + 4096 → Nexts L r (state old false) (state new (is_err r)) l l' f f'
reads_found {L = L} {old} {new} {l} {l'} {r} {f} {f'} finds free to count cause held taken = record {
  moves = uses_moves finds.uses f f' count (none_past old new taken);
  told = λ _. finds.told;
  unspent = unspent_ok r;
  spent = spent_not r free;
  spends = refl;
  cause = at_error r ReadFault (Rose f f') cause;
  after_error = near_fault r new to held;
  shorter = finds.shorter;
  after_token = near_token L r new finds.used_to held;
  ended = ends_input r l' f' finds.ended;
  unseen = takes_unseen L r old new finds.uses.lazy to finds.unseen finds.used_up;
}

-- the reader that was spent
pub reads_spent : {X : Type 0} {L : Language X} (w : Window) (l : Option (List ℕ)) (f : ℕ) → Nexts L (Err Spent) (state w true) (state w true) l l f f
unfolding NearError
reads_spent w l f = record {
  moves = uses_moves (Uses-none w l) f f (omega arith) (omega arith);
  told = λ h. absurd cc;
  unspent = tt;
  spent = (λ _. refl, λ _. refl);
  spends = refl;
  cause = λ h. absurd cc;
  after_error = tt;
  shorter = tt;
  after_token = tt;
  ended = tt;
  unseen = tt;
}
