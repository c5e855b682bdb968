-- What is to come of the declarations of a header, in the course of their lines.
use Rattle.std.specs.Prelude.{ℕ, Bool, true, false, List, [], ◌∷◌}
use Rattle.vlog_values.specs.declared.declaration.PortDecl.{PortDecl}
use Rattle.vlog_writer.specs.Forms.{decl_lines}
use Rattle.vlog_writer.specs.Layout.{laid}

-- the end of a line behind which another declaration follows, where it is due
abbrev pub break_where : Bool → List ℕ → List ℕ
break_where true rest = 44 ∷ 10 ∷ rest
break_where false rest = rest

-- the end of a line, where it is due
abbrev pub end_where : Bool → List ℕ → List ℕ
end_where true rest = 10 ∷ rest
end_where false rest = rest

-- the lines of declarations, behind a declaration whose line has no end yet, or behind none
abbrev pub pending : Bool → List PortDecl → List ℕ → List ℕ
pending due [] rest = end_where due rest
pending due (d ∷ ds) rest = break_where due (laid (decl_lines (d ∷ ds)) rest)
