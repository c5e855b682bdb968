-- The lines of one more module behind others, item by item.
use Rattle.std.proofs.Common.{◌≡◌, ◌∙◌, refl, sym, ap, subst, ℕ, Bool, true, List, [], ◌∷◌, ◌++◌}
use Rattle.nl_output.specs.Writing.{nothing, State, state, ToCome, Puts}
use Rattle.vlog_values.specs.declared.module.Header.{Header}
use Rattle.vlog_values.specs.declared.module.Header.TheVariants as headers
use Rattle.vlog_values.specs.declared.module.ItemV.{ItemV}
use Rattle.vlog_values.specs.declared.module.Module.{Module}
use Rattle.vlog_modules.specs.Beginnings.{with_items}
use Rattle.vlog_writer.specs.Forms.{attr_form, attribute_lines, end_line, file_lines, header_lines, item_lines, module_lines, nettype_lines, start_lines}
use Rattle.vlog_writer.specs.Layout.{◌below◌, all, each, laid}
use Rattle.vlog_format.specs.declared.text.FileText.{FileText}
use Rattle.nl_memory.specs.Taken.{untaken, in_memory}
use Rattle.vlog_format.specs.Texts.{implicit_in_last, IsTextOf, IsTextUpTo}

-- the lines of a module behind others
abbrev pub next_lines : Bool → Module → List ℕ → List ℕ
next_lines before m rest = laid (nettype_lines before m.implicit below module_lines m) rest

-- the lines of modules and one more are those of the modules and then those of the one
laid_behind : (before : Bool) (ms : List Module) (m : Module) (rest : List ℕ) → laid (file_lines before (ms ++ m ∷ [])) rest ≡ laid (file_lines before ms) (next_lines (implicit_in_last before ms) m rest)
laid_behind before [] m rest = refl
laid_behind before (x ∷ xs) m rest = ap (next_lines before x) (laid_behind x.implicit xs m rest)

-- the lines of items and one more are those of the items and then that of the one
laid_items : (list : List ItemV) (item : ItemV) (rest : List ℕ) → laid (all item_lines (list ++ item ∷ [])) rest ≡ laid (all item_lines list) (laid (item_lines item) rest)
laid_items [] item rest = refl
laid_items (x ∷ xs) item rest = ap (laid (item_lines x)) (laid_items xs item rest)

-- the header of a module does not tell its items
header_with : (heading : Module) (list : List ItemV) (h : Header) → header_lines (with_items heading list) h ≡ header_lines heading h
header_with heading list (headers.Names names) = refl
header_with heading list (headers.Decls decls) = refl

-- the lines of a module are those up to its items, those of its items, and the last
laid_with : (before : Bool) (heading : Module) (list : List ItemV) (rest : List ℕ) → next_lines before (with_items heading list) rest ≡ laid (start_lines before heading) (laid (all item_lines list) (laid end_line rest))
laid_with before heading list rest =
    ap (λ lines. laid (nettype_lines before heading.implicit) (laid (attribute_lines (each attr_form heading.attrs)) (laid lines (laid (all item_lines list) (laid end_line rest))))) (header_with heading list heading.header)

implicit_behind : (before : Bool) (ms : List Module) (m : Module) → implicit_in_last before (ms ++ m ∷ []) ≡ m.implicit
implicit_behind before [] m = refl
implicit_behind before (x ∷ xs) m = implicit_behind x.implicit xs m

-- what is to come of a text
abbrev after : FileText → State
after text = state in_memory text.sink text.output

-- the text of modules and the lines of one more up to its items
pub text_begun : (old new : FileText) (ms : List Module) (heading : Module) → IsTextOf old ms → Puts (laid (start_lines old.implicit heading)) (after old) (after new) → new.implicit ≡ heading.implicit → IsTextUpTo new ms heading []
text_begun old new ms heading is next said = record {
  implicit = said;
  lines = λ b rest s. next b rest (subst (λ (z : Bool). ToCome b (after old) (laid (start_lines z heading) rest)) (sym is.implicit) (is.lines b (laid (start_lines (implicit_in_last true ms) heading) rest) s));
}

-- and that of one more item
pub text_added : (old new : FileText) (ms : List Module) (heading : Module) (list : List ItemV) (item : ItemV) → IsTextUpTo old ms heading list → Puts (laid (item_lines item)) (after old) (after new) → new.implicit ≡ old.implicit
    → IsTextUpTo new ms heading (list ++ item ∷ [])
text_added old new ms heading list item is next said = record {
  implicit = said ∙ is.implicit;
  lines = λ b rest s. next b rest (is.lines b (laid (item_lines item) rest)
      (subst (λ (z : List ℕ). ToCome b (state in_memory untaken nothing) (laid (file_lines true ms) (laid (start_lines (implicit_in_last true ms) heading) z))) (laid_items list item rest) s));
}

-- and the last line
pub text_ended : (old new : FileText) (ms : List Module) (heading : Module) (list : List ItemV) → IsTextUpTo old ms heading list → Puts (laid end_line) (after old) (after new) → new.implicit ≡ old.implicit
    → IsTextOf new (ms ++ with_items heading list ∷ [])
text_ended old new ms heading list is next said = record {
  implicit = said ∙ (is.implicit ∙ sym (implicit_behind true ms (with_items heading list)));
  lines = λ b rest s. next b rest (is.lines b (laid end_line rest)
      (subst (λ (z : List ℕ). ToCome b (state in_memory untaken nothing) z)
      (laid_behind true ms (with_items heading list) rest ∙ ap (laid (file_lines true ms)) (laid_with (implicit_in_last true ms) heading list rest)) s));
}
