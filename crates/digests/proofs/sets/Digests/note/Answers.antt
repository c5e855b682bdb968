use Rattle.std.proofs.Common.{◌≡◌, ◌∙◌, ◌<◌, ap, subst, sym, true, false, length, refl}
use Rattle.std.proofs.lemmas.List.{with_items_is}
use Rattle.digests.specs.Sets.{AreNoted, DigestSets, has_digest, with_digest}
use Rattle.digests.proofs.SetLaws.{length_with, noted_again, noted_first}
use Rattle.digests.proofs.sets.Digests.note.Goals as goal

pub returns-then-has_digest : goal.returns-then-has_digest
returns-then-has_digest c = λ noted are.
    let met = c.self.inside.met in
    let again = c.self.inside.again in
    let old : DigestSets = record { met = met.items; again = again.items } in
    let digest = c.args.digest in
    let room = c.self.invariant in
    let before = subst (λ sets. AreNoted sets noted) (sym c.self.view_is) are in
    let there : has_digest met.items digest ≡ true = sym (ap (λ words. has_digest words digest) c.deref.ensures.value) ∙ (sym c.has_digest.ensures ∙ c.if-has_digest.true) in
    let with : c.add_digest.new.words ≡ with_digest again.items digest = c.add_digest.ensures ∙ ap (λ words. with_digest words digest) c.deref_mut.ensures.value in
    let some : 0 < length again.items = subst (λ n. 0 < n) (sym room.1) room.0 in
    let len : length c.add_digest.new.words ≡ again.len = ap length with ∙ (length_with again.items digest some ∙ sym again.ok.0) in
    noted_again old noted digest room before _ _ there refl (with_items_is again c.add_digest.new.words len ∙ with)

pub returns-else-has_digest : goal.returns-else-has_digest
returns-else-has_digest c = λ noted are.
    let met = c.self.inside.met in
    let again = c.self.inside.again in
    let old : DigestSets = record { met = met.items; again = again.items } in
    let digest = c.args.digest in
    let room = c.self.invariant in
    let before = subst (λ sets. AreNoted sets noted) (sym c.self.view_is) are in
    let absent : has_digest met.items digest ≡ false = sym (ap (λ words. has_digest words digest) c.deref.ensures.value) ∙ (sym c.has_digest.ensures ∙ c.if-has_digest.false) in
    let with : c.add_digest-else-has_digest.new.words ≡ with_digest met.items digest = c.add_digest-else-has_digest.ensures ∙ ap (λ words. with_digest words digest) c.deref_mut-else-has_digest.ensures.value in
    let len : length c.add_digest-else-has_digest.new.words ≡ met.len = ap length with ∙ (length_with met.items digest room.0 ∙ sym met.ok.0) in
    noted_first old noted digest room before _ _ absent (with_items_is met c.add_digest-else-has_digest.new.words len ∙ with) refl
