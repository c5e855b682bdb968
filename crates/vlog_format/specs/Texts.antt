-- A text that is made item by item.
use Rattle.std.specs.Prelude.{◌≡◌, ℕ, Bool, true, List, [], ◌∷◌}
use Rattle.nl_output.specs.Writing.{nothing, state, Puts}
use Rattle.vlog_values.specs.declared.module.ItemV.{ItemV}
use Rattle.vlog_values.specs.declared.module.Module.{Module}
use Rattle.vlog_writer.specs.Forms.{file_lines, item_lines, start_lines}
use Rattle.vlog_writer.specs.Layout.{all, laid}
use Rattle.nl_memory.specs.Taken.{untaken, in_memory}
use Rattle.vlog_format.specs.declared.text.FileText.{FileText}

-- whether names may stand without a declaration in the last of the modules; what was so before where there is none
abbrev pub implicit_in_last : Bool → List Module → Bool
implicit_in_last before [] = before
implicit_in_last before (m ∷ ms) = implicit_in_last m.implicit ms

-- The text is that of the modules, as far as memory has not run out.
pub record IsTextOf (text : FileText) (ms : List Module) : Type 0 where
  pub implicit : text.implicit ≡ implicit_in_last true ms
  pub lines : Puts (laid (file_lines true ms)) (state in_memory untaken nothing) (state in_memory text.sink text.output)

-- what stands in the text of these modules and, behind them, of a module up to its end
abbrev pub laid_up_to : List Module → Module → List ItemV → List ℕ → List ℕ
laid_up_to ms heading items rest = laid (file_lines true ms) (laid (start_lines (implicit_in_last true ms) heading) (laid (all item_lines items) rest))

-- The text is that of the modules, and behind them of a module with this heading and these items up to its end, as far as memory has not run out.
pub record IsTextUpTo (text : FileText) (ms : List Module) (heading : Module) (items : List ItemV) : Type 0 where
  pub implicit : text.implicit ≡ heading.implicit
  pub lines : Puts (laid_up_to ms heading items) (state in_memory untaken nothing) (state in_memory text.sink text.output)
