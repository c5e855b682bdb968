-- The keywords of Verilog (IEEE 1364-2005, annex B), of which no name is one.
use Rattle.std.specs.Prelude.{ℕ, zero, suc, ◌+◌, ◌-◌, ◌*◌, nat_le, nat_lt, ◌&&◌, ◌||◌, if◌then◌else◌, Bool, false, List, [], ◌∷◌, length, codes, slice_index, slice_range}
use Rattle.std.specs.List.{list_any}
use Rattle.nl_base.specs.Case.{same_bytes}
use Rattle.vlog_tokens.specs.declared.keyword.TheConstants.{TEXT, BOUNDS, SHAPES, STARTS}

-- the keywords
abbrev pub keywords : List (List ℕ)
keywords =
    codes "always" ∷ codes "and" ∷ codes "assign" ∷ codes "automatic" ∷ codes "begin" ∷ codes "buf" ∷ codes "bufif0" ∷
    codes "bufif1" ∷ codes "case" ∷ codes "casex" ∷ codes "casez" ∷ codes "cell" ∷ codes "cmos" ∷ codes "config" ∷
    codes "deassign" ∷ codes "default" ∷ codes "defparam" ∷ codes "design" ∷ codes "disable" ∷ codes "edge" ∷ codes "else" ∷
    codes "end" ∷ codes "endcase" ∷ codes "endconfig" ∷ codes "endfunction" ∷ codes "endgenerate" ∷ codes "endmodule" ∷
    codes "endprimitive" ∷ codes "endspecify" ∷ codes "endtable" ∷ codes "endtask" ∷ codes "event" ∷ codes "for" ∷
    codes "force" ∷ codes "forever" ∷ codes "fork" ∷ codes "function" ∷ codes "generate" ∷ codes "genvar" ∷ codes "highz0" ∷
    codes "highz1" ∷ codes "if" ∷ codes "ifnone" ∷ codes "incdir" ∷ codes "include" ∷ codes "initial" ∷ codes "inout" ∷
    codes "input" ∷ codes "instance" ∷ codes "integer" ∷ codes "join" ∷ codes "large" ∷ codes "liblist" ∷ codes "library" ∷
    codes "localparam" ∷ codes "macromodule" ∷ codes "medium" ∷ codes "module" ∷ codes "nand" ∷ codes "negedge" ∷ codes "nmos" ∷
    codes "nor" ∷ codes "noshowcancelled" ∷ codes "not" ∷ codes "notif0" ∷ codes "notif1" ∷ codes "or" ∷ codes "output" ∷
    codes "parameter" ∷ codes "pmos" ∷ codes "posedge" ∷ codes "primitive" ∷ codes "pull0" ∷ codes "pull1" ∷ codes "pulldown" ∷
    codes "pullup" ∷ codes "pulsestyle_ondetect" ∷ codes "pulsestyle_onevent" ∷ codes "rcmos" ∷ codes "real" ∷ codes "realtime" ∷
    codes "reg" ∷ codes "release" ∷ codes "repeat" ∷ codes "rnmos" ∷ codes "rpmos" ∷ codes "rtran" ∷ codes "rtranif0" ∷
    codes "rtranif1" ∷ codes "scalared" ∷ codes "showcancelled" ∷ codes "signed" ∷ codes "small" ∷ codes "specify" ∷
    codes "specparam" ∷ codes "strong0" ∷ codes "strong1" ∷ codes "supply0" ∷ codes "supply1" ∷ codes "table" ∷ codes "task" ∷
    codes "time" ∷ codes "tran" ∷ codes "tranif0" ∷ codes "tranif1" ∷ codes "tri" ∷ codes "tri0" ∷ codes "tri1" ∷
    codes "triand" ∷ codes "trior" ∷ codes "trireg" ∷ codes "unsigned" ∷ codes "use" ∷ codes "uwire" ∷ codes "vectored" ∷
    codes "wait" ∷ codes "wand" ∷ codes "weak0" ∷ codes "weak1" ∷ codes "while" ∷ codes "wire" ∷ codes "wor" ∷ codes "xnor" ∷
    codes "xor" ∷ []

-- whether a name is a keyword
unfoldable pub is_keyword : List ℕ → Bool
is_keyword name = list_any (same_bytes name) keywords

-- ---- the table by which a keyword is found: a name is compared with the keywords of its first letter alone

-- where a keyword begins in the text of the table, by its number
unfoldable pub bound : ℕ → ℕ
bound number = slice_index BOUNDS number

-- the length and the second byte of a name, in one number
abbrev pub shape_of : List ℕ → ℕ
shape_of name = length name * 256 + slice_index name 1

-- the length and the second byte of the keyword of a number, in one number
unfoldable pub shape_at : ℕ → ℕ
shape_at number = slice_index SHAPES number

-- the number of the first keyword of a letter, the letters counted from 0
unfoldable pub start_at : ℕ → ℕ
start_at letter = slice_index STARTS letter

-- a part of the text of the table
unfoldable pub part : ℕ → ℕ → List ℕ
part start end = slice_range TEXT start end

-- the keyword of a number
abbrev pub word : ℕ → List ℕ
word number = part (bound number) (bound (number + 1))

-- so many keywords, from a number on
abbrev pub words_from : ℕ → ℕ → List (List ℕ)
words_from zero number = []
words_from (suc count) number = word number ∷ words_from count (number + 1)

-- the keywords of a letter
abbrev pub of_letter : ℕ → List (List ℕ)
of_letter letter = words_from (start_at (letter + 1) - start_at letter) (start_at letter)

-- a small letter
abbrev pub is_small : ℕ → Bool
is_small b = nat_le 97 b && nat_le b 122

-- two small letters, and no more bytes than the longest keyword has, as with each keyword
unfoldable pub is_like_keyword : List ℕ → Bool
is_like_keyword name = if nat_lt (length name) 2 || nat_lt 19 (length name) then false else (if is_small (slice_index name 0) then is_small (slice_index name 1) else false)
