-- Parts of a Verilog text, as readers of parts see them. No context says what a token means.
use Rattle.readers.specs.Parts.{PartOf}
use Rattle.vlog_tokens.specs.declared.token.VFound.{VFound}

-- nothing that a token's meaning depends on
abbrev pub NoContext : Type 0
NoContext = Unit {0}

-- a part of a text whose tokens spell values of a type
abbrev pub Vlog : Type 0 → Type 1
Vlog A = PartOf NoContext VFound A
