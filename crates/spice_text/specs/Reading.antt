-- The texts that read as a SPICE file, of subcircuits and their calls.
use Rattle.std.specs.Prelude.{◌≡◌, ℕ, ◌<◌, ◌≤◌, ◌⊎◌, List, [], ◌∷◌, ◌++◌, IsTrue, All, length, codes}
use Rattle.nl_base.specs.Case.{same_up_to_case}
use Rattle.spice_text.specs.Words.{is_spice_word}
use Rattle.spice_text.specs.declared.file.Call.{Call}
use Rattle.spice_text.specs.declared.file.SpiceFile.{SpiceFile}
use Rattle.spice_text.specs.declared.file.Subckt.{Subckt}

-- no byte is the end of a line
abbrev pub IsOneLine : List ℕ → Type 0
IsOneLine line = All (λ b. ¬ (b ≡ 10)) line

-- the lines of a text, each up to a byte 10 or to the end
pub data AreLines : List ℕ → List (List ℕ) → Type 0 where
  last_line : {line : List ℕ} → IsOneLine line → AreLines line (line ∷ [])
  next_line : {line bytes : List ℕ} {lines : List (List ℕ)} → IsOneLine line → AreLines bytes lines → AreLines (line ++ (10 ∷ bytes)) (line ∷ lines)

-- a tab or a blank
abbrev pub IsBlank : ℕ → Type 0
IsBlank b = (b ≡ 9) ⊎ (b ≡ 32)

-- one or more bytes from 33 to 126
pub record IsWord (word : List ℕ) : Type 0 where
  pub some : 0 < length word
  pub bytes : All (λ b. (33 ≤ b) × (b ≤ 126)) word

-- the line ends, or goes on with a tab or a blank
abbrev pub EndsWord : List ℕ → Type 0
EndsWord [] = Unit {0}
EndsWord (b ∷ line) = IsBlank b

-- the words of a line, with tabs and blanks between them
pub data AreWords : List ℕ → List (List ℕ) → Type 0 where
  no_words : AreWords [] []
  skips : {b : ℕ} {line : List ℕ} {words : List (List ℕ)} → IsBlank b → AreWords line words → AreWords (b ∷ line) words
  next_word : {word line : List ℕ} {words : List (List ℕ)} → IsWord word → EndsWord line → AreWords line words → AreWords (word ++ line) (word ∷ words)

-- a line that says nothing: an empty one, or one that begins with `*`
pub data IsDropped : List ℕ → Type 0 where
  is_empty : IsDropped []
  is_comment : {line : List ℕ} → IsDropped (42 ∷ line)

-- a line that begins a statement: its first byte is neither `*` nor `+`
pub data BeginsStatement : List ℕ → Type 0 where
  begins : {b : ℕ} {line : List ℕ} → ¬ (b ≡ 42) → ¬ (b ≡ 43) → BeginsStatement (b ∷ line)

-- the words of the lines that go on with a statement, each without its `+`, and the lines behind them
pub data GoesOn : List (List ℕ) → List (List ℕ) → List (List ℕ) → Type 0 where
  stops : {lines : List (List ℕ)} → GoesOn lines [] lines
  passes : {line : List ℕ} {lines words rest : List (List ℕ)} → IsDropped line → GoesOn lines words rest → GoesOn (line ∷ lines) words rest
  goes_on : {line : List ℕ} {lines words others rest : List (List ℕ)} → AreWords line words → GoesOn lines others rest → GoesOn ((43 ∷ line) ∷ lines) (words ++ others) rest

-- the statements of lines, each by its words
pub data AreStatements : List (List ℕ) → List (List (List ℕ)) → Type 0 where
  no_statements : AreStatements [] []
  drops : {line : List ℕ} {lines : List (List ℕ)} {statements : List (List (List ℕ))} → IsDropped line → AreStatements lines statements → AreStatements (line ∷ lines) statements
  next_statement : {line : List ℕ} {lines words others rest : List (List ℕ)} {statements : List (List (List ℕ))} →
      BeginsStatement line → AreWords line words → GoesOn lines others rest → AreStatements rest statements → AreStatements (line ∷ lines) ((words ++ others) ∷ statements)

-- the word is the other up to case
abbrev pub IsAlike : List ℕ → List ℕ → Type 0
IsAlike word other = IsTrue (same_up_to_case word other)

-- the statements of calls: `X` directly before the name, the nodes, the cell
pub data AreCalls : List Call → List (List (List ℕ)) → Type 0 where
  no_calls : AreCalls [] []
  next_call : {call : Call} {calls : List Call} {x : ℕ} {statements : List (List (List ℕ))} → IsAlike (x ∷ []) (codes "X") → AreCalls calls statements →
      AreCalls (call ∷ calls) (((x ∷ call.name) ∷ (call.nodes ++ call.cell ∷ [])) ∷ statements)

-- the statement that ends a subcircuit, with or without its name
pub data IsEnd (name : List ℕ) : List (List ℕ) → Type 0 where
  unnamed : {word : List ℕ} → IsAlike word (codes ".ENDS") → IsEnd name (word ∷ [])
  named : {word : List ℕ} → IsAlike word (codes ".ENDS") → IsEnd name (word ∷ name ∷ [])

-- the statements of subcircuits: the one with the name and the ports, those of the calls, and the one that ends it
pub data AreSubckts : List Subckt → List (List (List ℕ)) → Type 0 where
  no_subckts : AreSubckts [] []
  next_subckt : {cell : Subckt} {cells : List Subckt} {word : List ℕ} {end : List (List ℕ)} {calls statements : List (List (List ℕ))} →
      IsAlike word (codes ".SUBCKT") → AreCalls cell.calls calls → IsEnd cell.name end → AreSubckts cells statements →
      AreSubckts (cell ∷ cells) ((word ∷ cell.name ∷ cell.ports) ∷ (calls ++ (end ∷ statements)))

-- the name is a SPICE word
abbrev pub IsSpice : List ℕ → Type 0
IsSpice name = IsTrue (is_spice_word name)

-- the names of a call are SPICE words
pub record IsSpiceCall (call : Call) : Type 0 where
  pub name : IsSpice call.name
  pub nodes : All IsSpice call.nodes
  pub cell : IsSpice call.cell

-- the names of a subcircuit are SPICE words
pub record IsSpiceSubckt (subckt : Subckt) : Type 0 where
  pub name : IsSpice subckt.name
  pub ports : All IsSpice subckt.ports
  pub calls : All IsSpiceCall subckt.calls

-- all names of a file are SPICE words
abbrev pub HasSpiceNames : SpiceFile → Type 0
HasSpiceNames file = All IsSpiceSubckt file.cells

-- the bytes have these statements
pub record HaveStatements (bytes : List ℕ) (statements : List (List (List ℕ))) : Type 0 where
  pub lines : List (List ℕ)
  pub are_lines : AreLines bytes lines
  pub are_statements : AreStatements lines statements

-- the bytes read as the file
pub record SpiceReads (bytes : List ℕ) (file : SpiceFile) : Type 0 where
  pub names : HasSpiceNames file
  pub statements : List (List (List ℕ))
  pub have : HaveStatements bytes statements
  pub are_subckts : AreSubckts file.cells statements
