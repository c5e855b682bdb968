-- Keywords are told apart by their spellings.
use Rattle.std.proofs.Common.{◌≡◌, ◌∙◌, sym, ap, Some, Bool, true, false, refl}
use Rattle.std.proofs.lemmas.Slice.Eq.{bytes_eq-Decides}
use denote.Enum.Bare.{sameb, same_true, true_same}
use Rattle.edif_values.specs.declared.keyword.Keyword.{Keyword}
use Rattle.edif_values.specs.contracts.keyword.Keyword.{the_type}
use Rattle.edif_values.specs.Keywords.{spelling, same_keyword, keyword_of}
use Rattle.edif_values.proofs.Spelled.{found_by_spelling}

-- keywords of one spelling are one
pub spelled_alike : (a b : Keyword) → same_keyword a b ≡ true → a ≡ b
spelled_alike a b h =
    let both : Some a ≡ Some b = sym (found_by_spelling a) ∙ ap keyword_of ((bytes_eq-Decides (spelling a) (spelling b)).0 h) ∙ found_by_spelling b in
    cc

pub same_as_itself : (a b : Keyword) → a ≡ b → same_keyword a b ≡ true
same_as_itself a b e = (bytes_eq-Decides (spelling a) (spelling b)).1 (ap spelling e)

pub one_answer : (r s : Bool) → (r ≡ true → s ≡ true) → (s ≡ true → r ≡ true) → r ≡ s
one_answer true s f g = sym (f refl)
one_answer false true f g = g refl
one_answer false false f g = refl

pub tags_tell : (a b : Keyword) → sameb the_type a b ≡ same_keyword a b
tags_tell a b = one_answer _ _ (λ h. same_as_itself a b (same_true the_type tt a b h)) (λ h. true_same the_type a b (spelled_alike a b h))
