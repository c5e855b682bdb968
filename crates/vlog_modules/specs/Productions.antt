-- Modules and files in the words of the extended BNF (IEEE 1364-2005, A.1.2 and A.1.3). Here no token is looked at ahead, and parts stand one
-- after the other as the productions have them.
use Rattle.std.specs.Prelude.{◌≡◌, ℕ, Bool, true, List, [], ◌∷◌, ◌++◌, codes}
use Rattle.grammar.specs.Part.{sequence}
use Rattle.grammar.specs.Texts.{Spells}
use Rattle.vlog_tokens.specs.declared.token.VToken.TheVariants as token
use Rattle.vlog_values.specs.declared.declaration.PortDecl.{PortDecl}
use Rattle.vlog_values.specs.declared.declaration.ParamDecl.{ParamDecl}
use Rattle.vlog_values.specs.declared.declaration.ParamSet.{ParamSet}
use Rattle.vlog_values.specs.declared.module.ItemV.{ItemV}
use Rattle.vlog_values.specs.declared.module.Module.{Module}
use Rattle.vlog_exprs.specs.Language.{Vlog}
use Rattle.vlog_exprs.specs.Expressions.{Tokens, IsToken}
use Rattle.vlog_exprs.specs.Grammar.{name, attrs}
use Rattle.vlog_items.specs.Grammar.{param_set, item}
use Rattle.vlog_modules.specs.Grammar.{port_decl, param_group, module_of, net_type}

-- the tokens spell the value of the part
abbrev pub Text : {A : Type 0} → Vlog A → Tokens → A → Type 0
Text p ts v = Spells tt p ts v

-- {p}
pub data ManyText {A : Type 0} (P : Tokens → A → Type 0) : Tokens → List A → Type 0 where
  nothing : {ts : Tokens} {vs : List A} → ts ≡ [] → vs ≡ [] → ManyText P ts vs
  another : {ts : Tokens} {vs : List A} (v : A) (ws : List A) (a b : Tokens) → ts ≡ a ++ b → P a v → ManyText P b ws → vs ≡ v ∷ ws → ManyText P ts vs

-- {attrs item} "endmodule"
pub data ItemsText (ts : Tokens) (is : List ItemV) : Type 0 where
  items_and_end : (a b : Tokens) → ts ≡ a ++ b → ManyText (Text (sequence attrs item)) a is → IsToken (token.Keyword (codes "endmodule")) b → ItemsText ts is

-- vfile   = {"`default_nettype" ("wire" | "none") | "`resetall" | module}, where names are nets without a declaration or not
-- module  = attrs "module" NAME ["#" "(" pgroup {"," pgroup} ")"] [header] ";" {attrs item} "endmodule"
pub data FileText : Bool → Tokens → List Module → Type 0 where
  no_more : {implicit : Bool} {ts : Tokens} {ms : List Module} → ts ≡ [] → ms ≡ [] → FileText implicit ts ms
  nettype : {implicit : Bool} {ts : Tokens} {ms : List Module} (now : Bool) (a b c : Tokens) → ts ≡ a ++ (b ++ c) → IsToken (token.Directive (codes "`default_nettype")) a → Text net_type b now → FileText now c ms → FileText implicit ts ms
  reset : {implicit : Bool} {ts : Tokens} {ms : List Module} (a b : Tokens) → ts ≡ a ++ b → IsToken (token.Directive (codes "`resetall")) a → FileText true b ms → FileText implicit ts ms
  a_module : {implicit : Bool} {ts : Tokens} {ms : List Module} (m : Module) (rest : List Module) (a b : Tokens) → ts ≡ a ++ b → Text (sequence attrs (module_of implicit)) a m → FileText implicit b rest → ms ≡ m ∷ rest → FileText implicit ts ms

-- {"," p}
pub data MoreText {A : Type 0} (P : Tokens → A → Type 0) : Tokens → List A → Type 0 where
  none_more : {ts : Tokens} {vs : List A} → ts ≡ [] → vs ≡ [] → MoreText P ts vs
  one_more : {ts : Tokens} {vs : List A} (v : A) (ws : List A) (a b c : Tokens) → ts ≡ a ++ (b ++ c) → IsToken (token.Punct 44) a → P b v → MoreText P c ws → vs ≡ v ∷ ws → MoreText P ts vs

-- a declaration with these names behind its own
abbrev pub with_names : PortDecl → List (List ℕ) → PortDecl
with_names d ns = record { attrs = d.attrs; dir = d.dir; kind = d.kind; signed = d.signed; range = d.range; names = d.names ++ ns }

-- pdecl   = attrs ("input"|"output"|"inout") ["wire"|"tri"] ["signed"] [range] NAME {"," NAME}
pub data DeclText (ts : Tokens) (d : PortDecl) : Type 0 where
  decl_and_names : (e : PortDecl) (ns : List (List ℕ)) (a b : Tokens) → ts ≡ a ++ b → Text port_decl a e → MoreText (Text name) b ns → d ≡ with_names e ns → DeclText ts d

-- pdecl {"," pdecl} ")"
pub data DeclsText (ts : Tokens) (ds : List PortDecl) : Type 0 where
  decls_and_end : (d : PortDecl) (rest : List PortDecl) (a b c : Tokens) → ts ≡ a ++ (b ++ c) → DeclText a d → MoreText DeclText b rest → IsToken (token.Punct 41) c → ds ≡ d ∷ rest → DeclsText ts ds

-- a group with these parameters behind its own
abbrev pub with_sets : ParamDecl → List ParamSet → ParamDecl
with_sets g ss = record { attrs = g.attrs; kind = g.kind; sets = g.sets ++ ss }

-- pgroup  = "parameter" ptype pset {"," pset}
pub data GroupText (ts : Tokens) (g : ParamDecl) : Type 0 where
  group_and_sets : (e : ParamDecl) (ss : List ParamSet) (a b : Tokens) → ts ≡ a ++ b → Text param_group a e → MoreText (Text param_set) b ss → g ≡ with_sets e ss → GroupText ts g

-- "(" pgroup {"," pgroup} ")"
pub data GroupsText (ts : Tokens) (gs : List ParamDecl) : Type 0 where
  groups_and_end : (g : ParamDecl) (rest : List ParamDecl) (o a b c : Tokens) → ts ≡ o ++ (a ++ (b ++ c)) → IsToken (token.Punct 40) o → GroupText a g → MoreText GroupText b rest → IsToken (token.Punct 41) c → gs ≡ g ∷ rest → GroupsText ts gs
