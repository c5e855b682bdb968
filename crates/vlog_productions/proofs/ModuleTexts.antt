-- Modules and files are read as the extended BNF has them.
use Rattle.std.proofs.Common.{◌≡◌, ◌∙◌, sym, ap, subst, refl, ◌↔◌, inl, inr, ℕ, Bool, true, false, if◌then◌else◌, List, [], ◌∷◌, ◌++◌, Ok, Err, codes}
use Rattle.std.proofs.lemmas.Slice.Eq.{bytes_eq-Decides}
use Rattle.grammar.specs.Part.{sequence}
use Rattle.grammar.specs.Texts.{Spells}
use Rattle.grammar.specs.Whole.{Terminal, proper, end, whole, the_end, end_of, IsText}
use Rattle.nl_base.specs.declared.place.Place.{Place}
use Rattle.nl_bytes.specs.Tokens.{Ahead}
use Rattle.vlog_tokens.specs.declared.token.VFound.{VFound}
use Rattle.vlog_exprs.specs.Reasons.{trailing}
use Rattle.nl_base.specs.Case.{same_bytes}
use Rattle.nl_base.specs.declared.fault.Reason.{Reason}
use Rattle.readers.specs.Parts.{one}
use Rattle.vlog_tokens.specs.declared.token.VToken.{VToken}
use Rattle.vlog_tokens.specs.declared.token.VToken.TheVariants as token
use Rattle.vlog_values.specs.declared.expression.Attr.{Attr}
use Rattle.vlog_values.specs.declared.declaration.ParamDecl.{ParamDecl}
use Rattle.vlog_values.specs.declared.module.Header.{Header}
use Rattle.vlog_values.specs.declared.module.ItemV.{ItemV}
use Rattle.vlog_values.specs.declared.module.Module.{Module}
use Rattle.vlog_values.specs.declared.module.VlogFile.{VlogFile}
use Rattle.vlog_exprs.specs.Grammar as exprs
use Rattle.vlog_exprs.specs.Expressions.{Tokens, IsToken}
use Rattle.vlog_items.specs.Grammar as items
use Rattle.vlog_modules.specs.Grammar as grammar
use Rattle.vlog_modules.specs.Grammar.{module_rest, net_type_of}
use Rattle.vlog_modules.specs.Productions as pieces
use Rattle.vlog_modules.specs.Productions.{ManyText, ItemsText, FileText}
use Rattle.vlog_modules.proofs.FileTexts as read_texts
use Rattle.vlog_productions.specs.Production.{Production, many, meaning, ◌·◌, Texts, keyword, HasTextsOf}
use Rattle.vlog_productions.specs.Items.{attributed}
use Rattle.vlog_productions.specs.Modules.{module_of, net_type, VlogText, no_more, nettype, reset, one_module, IsFileText}
use Rattle.vlog_productions.proofs.Combining.{alone, then_so, gives_of, names, marks, keywords}
use Rattle.vlog_productions.proofs.WordTexts.{attributes}
use Rattle.vlog_productions.proofs.HeaderTexts.{all_params, all_headers}
use Rattle.vlog_productions.proofs.ItemTexts.{attributed_items}

-- ---- the items of a module

many_map : {A : Type 0} (P Q : Tokens → A → Type 0) → ((ts : Tokens) (v : A) → P ts v → Q ts v) → (ts : Tokens) (vs : List A) → ManyText P ts vs
    → ManyText Q ts vs
many_map P Q f ts vs (pieces.nothing e n) = pieces.nothing e n
many_map P Q f ts vs (pieces.another v ws a b e t later n) = pieces.another v ws a b e (f a v t) (many_map P Q f b ws later) n

-- {attrs item} "endmodule"
abbrev Ended : Production (List ItemV)
Ended = meaning (λ x. x.0) (many attributed · keyword (codes "endmodule"))

ended_text : (ts : Tokens) (is : List ItemV) → ItemsText ts is → Texts Ended ts is
ended_text ts is (pieces.items_and_end a b e t k) =
    ((is, tt), (a, b, e, many_map (Spells tt (sequence exprs.attrs items.item)) (Texts attributed) attributed_items.is_text a is t, k), refl)

text_ended : (ts : Tokens) (is : List ItemV) → Texts Ended ts is → ItemsText ts is
text_ended ts is (x, (a, b, e, t, k), f) =
    subst (λ z. ItemsText ts z) (sym f)
    (pieces.items_and_end a b e (many_map (Texts attributed) (Spells tt (sequence exprs.attrs items.item)) attributed_items.is_spelled a x.0 t) k)

ended_items : HasTextsOf (grammar.items []) Ended
ended_items =
    record {
      is_text = λ ts is s. ended_text ts is ((read_texts.item_texts ts is).0 s);
      is_spelled = λ ts is t. (read_texts.item_texts ts is).1
          (text_ended ts is t);
    }

-- ---- modules

-- what a module has behind its attributes
abbrev Parts : Type 0
Parts = Unit {0} × (List ℕ × (List ParamDecl × (Header × (Unit {0} × (List ItemV × Unit {0})))))

abbrev made : Bool → List Attr → Parts → Module
made implicit a x = record { attrs = a; name = x.1.0; implicit = implicit; params = x.1.1.0; header = x.1.1.1.0; items = x.1.1.1.1.1.0 }

pub modules : (implicit : Bool) → HasTextsOf (sequence exprs.attrs (grammar.module_of implicit)) (module_of implicit)
unfolding module_of grammar.module_of module_rest
modules implicit =
    then_so (λ a x. made implicit a x) attributes
    (λ a. then_so (λ u x. made implicit a (u, x)) (keywords (codes "module"))
    (λ u. then_so (λ n x. made implicit a (u, (n, x))) names
    (λ n. then_so (λ ps x. made implicit a (u, (n, (ps, x)))) all_params
    (λ ps. then_so (λ h x. made implicit a (u, (n, (ps, (h, x))))) all_headers
    (λ h. then_so (λ m x. made implicit a (u, (n, (ps, (h, (m, x)))))) (marks 59)
    (λ m. gives_of (λ x. x.0) (λ is. made implicit a (u, (n, (ps, (h, (m, (is, tt))))))) ended_items))))))

-- ---- files

wire_by : (w : List ℕ) (v b : Bool) (why : Reason) → same_bytes w (codes "wire") ≡ b → (if b then Ok true else Err why) ≡ Ok v → (w ≡ codes "wire")
    × (v ≡ true)
wire_by w v true why e h = let same : true ≡ v = cc in ((bytes_eq-Decides w (codes "wire")).0 e, sym same)
wire_by w v false why e h = absurd cc

none_by : (w : List ℕ) (v b : Bool) (why : Reason) → same_bytes w (codes "none") ≡ b → (if b then Ok false else Err why) ≡ Ok v → (w ≡ codes "none")
    × (v ≡ false)
none_by w v true why e h = let same : false ≡ v = cc in ((bytes_eq-Decides w (codes "none")).0 e, sym same)
none_by w v false why e h = absurd cc

net_type_is : (t : VToken) (ts : Tokens) (v : Bool) → IsToken t ts → net_type_of t ≡ Ok v → Texts net_type ts v
net_type_is (token.Keyword w) ts v t h =
    let k = wire_by w v (same_bytes w (codes "wire")) _ refl h in
    inl (tt, subst (λ z. IsToken (token.Keyword z) ts) k.0 t, k.1)
net_type_is (token.Name n) ts v t h =
    let k = none_by n v (same_bytes n (codes "none")) _ refl h in
    inr (tt, subst (λ z. IsToken (token.Name z) ts) k.0 t, k.1)
net_type_is (token.Number n) ts v t h = absurd cc
net_type_is (token.Real r) ts v t h = absurd cc
net_type_is (token.Based b) ts v t h = absurd cc
net_type_is (token.Str s) ts v t h = absurd cc
net_type_is (token.Punct b) ts v t h = absurd cc
net_type_is token.AttrStart ts v t h = absurd cc
net_type_is token.AttrStop ts v t h = absurd cc
net_type_is (token.Symbol b) ts v t h = absurd cc
net_type_is (token.Directive w) ts v t h = absurd cc

net_type_text : (ts : Tokens) (v : Bool) → Spells tt grammar.net_type ts v → Texts net_type ts v
unfolding one
net_type_text ts v (proper x, e, h) = net_type_is x.token ts v (x, e, refl) h
net_type_text ts v (end p, e, h) = absurd cc

text_net_type : (ts : Tokens) (v : Bool) → Texts net_type ts v → Spells tt grammar.net_type ts v
unfolding one
text_net_type ts v (inl (u, (x, e, is), f)) = (proper x, e, ap net_type_of is ∙ ap Ok (sym f))
text_net_type ts v (inr (u, (x, e, is), f)) = (proper x, e, ap net_type_of is ∙ ap Ok (sym f))

file_text : (implicit : Bool) (ts : Tokens) (ms : List Module) → FileText implicit ts ms → VlogText implicit ts ms
file_text implicit ts ms (pieces.no_more e n) = no_more e n
file_text implicit ts ms (pieces.nettype now a b c e d t more) = nettype now a b c e d (net_type_text b now t) (file_text now c ms more)
file_text implicit ts ms (pieces.reset a b e d more) = reset a b e d (file_text true b ms more)
file_text implicit ts ms (pieces.a_module m rest a b e t more n) =
    one_module m rest a b e ((modules implicit).is_text a m t) (file_text implicit b rest more) n

text_file : (implicit : Bool) (ts : Tokens) (ms : List Module) → VlogText implicit ts ms → FileText implicit ts ms
text_file implicit ts ms (no_more e n) = pieces.no_more e n
text_file implicit ts ms (nettype now a b c e d t more) = pieces.nettype now a b c e d (text_net_type b now t) (text_file now c ms more)
text_file implicit ts ms (reset a b e d more) = pieces.reset a b e d (text_file true b ms more)
text_file implicit ts ms (one_module m rest a b e t more n) =
    pieces.a_module m rest a b e ((modules implicit).is_spelled a m t) (text_file implicit b rest more) n

-- A file is what the extended BNF has.
pub files : (ts : Tokens) (f : VlogFile) → Spells tt grammar.file ts f ↔ VlogText true ts f.modules
files ts f =
    (λ s. file_text true ts f.modules ((read_texts.file_texts ts f).0 s), λ t. (read_texts.file_texts ts f).1 (text_file true ts f.modules t))

-- ---- the end of the input

end_is : (x : Terminal VFound Place) (u : Unit {0}) → end_of {X = VFound} trailing x ≡ Ok u → (p : Place) × (x ≡ end p)
end_is (proper x) u h = absurd cc
end_is (end p) u h = (p, refl)

whole_text : (s : Ahead VFound) (f : VlogFile) → IsText tt (whole trailing grammar.file) s f → IsFileText s f
unfolding whole the_end
whole_text s f ((u, a, b, e, t, (w, c, d, g, (x, m, h), (n, is))), finish) =
    let at = end_is x w h in (
      a,
      at.0,
      e ∙ ap (λ z. a ++ z) (g ∙ alone c d n ∙ m ∙ ap (λ z. z ∷ []) at.1),
      subst (λ (z : VlogFile). VlogText true a z.modules) (sym is)
          ((files a u).0 t),
      finish,
    )

text_whole : (s : Ahead VFound) (f : VlogFile) → IsFileText s f → IsText tt (whole trailing grammar.file) s f
unfolding whole the_end
text_whole s f (a, p, e, t, finish) = ((f, a, end p ∷ [], e, (files a f).1 t, (tt, end p ∷ [], [], refl, (end p, refl, refl), (refl, refl))), finish)

-- The tokens of an input are a file exactly where the extended BNF has them, up to the end of the input.
pub whole_files : (s : Ahead VFound) (f : VlogFile) → IsText tt (whole trailing grammar.file) s f ↔ IsFileText s f
whole_files s f = (whole_text s f, text_whole s f)
