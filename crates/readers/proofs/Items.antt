-- Which parts are live and closed that are items: one form of an item, and the choice between two of them.
use Rattle.std.proofs.Common.{Bool, true, false, cond}
use Rattle.grammar.specs.Clear.{IsLive}
use Rattle.readers.specs.Parts.{PartOf}
use Rattle.readers.specs.Items.{as_item}
use Rattle.readers.proofs.Shapes.{Shut, shut_gives, shut_then}

-- a part as one form of an item, whichever form it is
pub live_as_item : {K X A : Type 0} (part : PartOf K X A) → ((k : K) → IsLive k part) → (k : K) → IsLive k (as_item (λ v. v) part)
live_as_item part live k = (live k, λ _. tt)

pub closed_as_item : {K X A B : Type 0} {form : A → B} {part : PartOf K X A} → ((k : K) → Shut k part) → (k : K) → Shut k (as_item form part)
closed_as_item {form = form} closed k = shut_then (closed k) (λ v. shut_gives k (form v))

-- one part or the other
pub live_one_of : {K X A : Type 0} (b : Bool) (p q : PartOf K X A) → ((k : K) → IsLive k p) → ((k : K) → IsLive k q) → (k : K) → IsLive k (cond b p q)
live_one_of true p q one other = one
live_one_of false p q one other = other

pub closed_one_of : {K X A : Type 0} (b : Bool) (p q : PartOf K X A) → ((k : K) → Shut k p) → ((k : K) → Shut k q) → (k : K) → Shut k (cond b p q)
closed_one_of true p q one other = one
closed_one_of false p q one other = other
