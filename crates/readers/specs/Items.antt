-- A part that is one form of an item.
use Rattle.grammar.specs.Part.{gives, sequence}
use Rattle.readers.specs.Parts.{PartOf}

-- what the part spells, as an item of this form
abbrev pub as_item : {K X A B : Type 0} → (A → B) → PartOf K X A → PartOf K X B
as_item form part = sequence part (λ v. gives (form v))
