-- What is still to be written, one item on.
use Rattle.std.proofs.Common.{◌≡◌, ℕ, ◌+◌, ◌<◌, ◌≤◌, Bool, true, false, List, [], ◌∷◌, length, get_or, drop, refl, sym, ap, ◌∙◌, arith, add-one, zero, suc, drop-cons}
use Rattle.vlog_values.specs.declared.declaration.PortDecl.{PortDecl}
use Rattle.vlog_values.specs.declared.module.Module.{Module}
use Rattle.vlog_writer.specs.Forms.{decl_lines, port_form, file_lines, nettype_lines, module_lines}
use Rattle.vlog_writer.specs.Layout.{Form, Forms, none, more, Lines, inline, between, comma_where, each, all, laid}
use Rattle.vlog_writer.specs.Pending.{break_where, end_where, pending}

pub drop_past : {X : Type 0} (n : ℕ) (xs : List X) → length xs ≤ n → drop n xs ≡ []
drop_past zero [] h = refl
drop_past (suc n) [] h = refl
drop_past zero (x ∷ xs) h = absurd (omega arith)
drop_past (suc n) (x ∷ xs) h = drop_past n xs (omega arith)

-- the rest of a list, from an item on
pub item_next : {X : Type 0} (xs : List X) (n : ℕ) (x : X) → n < length xs → x ≡ get_or xs n x → drop n xs ≡ x ∷ drop (n + 1) xs
item_next {X} xs n x h e = drop-cons xs n x h ∙ (λ k. sym e k ∷ drop (sym (add-one n) k) xs)

between_cons : (p : Bool) (f : Form) (fs : Forms) (rest : List ℕ) → between p (more f fs) rest ≡ comma_where p (inline f (between true fs rest))
between_cons true f fs rest = refl
between_cons false f fs rest = refl

between_none : (p : Bool) (rest : List ℕ) → between p none rest ≡ rest
between_none true rest = refl
between_none false rest = refl

-- forms with commas between them
pub between_next : {I : Type 0} (form : I → Form) (p : Bool) (is : List I) (n : ℕ) (i : I) (rest : List ℕ) → n < length is → i ≡ get_or is n i
    → between p (each form (drop n is)) rest ≡ comma_where p (inline (form i) (between true (each form (drop (n + 1) is)) rest))
between_next {I} form p is n i rest h e =
    ap (λ (z : List I). between p (each form z) rest) (item_next is n i h e) ∙ between_cons p (form i) (each form (drop (n + 1) is)) rest

pub between_end : {I : Type 0} (form : I → Form) (p : Bool) (is : List I) (n : ℕ) (rest : List ℕ) → length is ≤ n → between p (each form (drop n is)) rest ≡ rest
between_end {I} form p is n rest h = ap (λ (z : List I). between p (each form z) rest) (drop_past n is h) ∙ between_none p rest

-- lines of items
pub lines_next : {I : Type 0} (shape : I → Lines) (is : List I) (n : ℕ) (i : I) (rest : List ℕ) → n < length is → i ≡ get_or is n i
    → laid (all shape (drop n is)) rest ≡ laid (shape i) (laid (all shape (drop (n + 1) is)) rest)
lines_next {I} shape is n i rest h e = ap (λ (z : List I). laid (all shape z) rest) (item_next is n i h e)

pub lines_end : {I : Type 0} (shape : I → Lines) (is : List I) (n : ℕ) (rest : List ℕ) → length is ≤ n → laid (all shape (drop n is)) rest ≡ rest
lines_end {I} shape is n rest h = ap (λ (z : List I). laid (all shape z) rest) (drop_past n is h)

-- declarations of a header
pub pending_start : (ds : List PortDecl) (rest : List ℕ) → laid (decl_lines ds) rest ≡ pending false ds rest
pending_start [] rest = refl
pending_start (d ∷ ds) rest = refl

pending_cons : (due : Bool) (d : PortDecl) (ds : List PortDecl) (rest : List ℕ) → pending due (d ∷ ds) rest ≡ break_where due (32 ∷ 32 ∷ inline (port_form d) (pending true ds rest))
pending_cons due d [] rest = refl
pending_cons due d (e ∷ ds) rest = refl

pub pending_next : (due : Bool) (ds : List PortDecl) (n : ℕ) (d : PortDecl) (rest : List ℕ) → n < length ds → d ≡ get_or ds n d
    → pending due (drop n ds) rest ≡ break_where due (32 ∷ 32 ∷ inline (port_form d) (pending true (drop (n + 1) ds) rest))
pending_next due ds n d rest h e = ap (λ (z : List PortDecl). pending due z rest) (item_next ds n d h e) ∙ pending_cons due d (drop (n + 1) ds) rest

pub pending_end : (due : Bool) (ds : List PortDecl) (n : ℕ) (rest : List ℕ) → length ds ≤ n → pending due (drop n ds) rest ≡ end_where due rest
pending_end due ds n rest h = ap (λ (z : List PortDecl). pending due z rest) (drop_past n ds h)

-- modules
pub modules_next : (before : Bool) (ms : List Module) (n : ℕ) (m : Module) (rest : List ℕ) → n < length ms → m ≡ get_or ms n m
    → laid (file_lines before (drop n ms)) rest ≡ laid (nettype_lines before m.implicit) (laid (module_lines m) (laid (file_lines m.implicit (drop (n + 1) ms)) rest))
modules_next before ms n m rest h e = ap (λ (z : List Module). laid (file_lines before z) rest) (item_next ms n m h e)

pub modules_end : (before : Bool) (ms : List Module) (n : ℕ) (rest : List ℕ) → length ms ≤ n → laid (file_lines before (drop n ms)) rest ≡ rest
modules_end before ms n rest h = ap (λ (z : List Module). laid (file_lines before z) rest) (drop_past n ms h)
