-- Modules and files in the words of the extended BNF (IEEE 1364-2005, A.1.2 and 19).
use Rattle.std.specs.Prelude.{◌≡◌, Bool, true, false, List, [], ◌∷◌, ◌++◌, codes}
use Rattle.grammar.specs.Whole.{end, Done}
use Rattle.nl_base.specs.declared.place.Place.{Place}
use Rattle.nl_bytes.specs.Tokens.{Ahead}
use Rattle.vlog_tokens.specs.declared.token.VFound.{VFound}
use Rattle.vlog_tokens.specs.declared.token.VToken.TheVariants as token
use Rattle.vlog_values.specs.declared.module.Header.TheVariants as headers
use Rattle.vlog_values.specs.declared.module.Module.{Module}
use Rattle.vlog_values.specs.declared.module.VlogFile.{VlogFile}
use Rattle.vlog_exprs.specs.Expressions.{Tokens, IsToken}
use Rattle.vlog_productions.specs.Production.{Production, told, nothing, many, meaning, ◌·◌, ◌∣◌, Texts, name, mark, keyword}
use Rattle.vlog_productions.specs.Declarations.{attrs, params, header}
use Rattle.vlog_productions.specs.Items.{attributed}

-- module  = attrs "module" NAME ["#" "(" pgroup {"," pgroup} ")"] [header] ";" {attrs item}
--           "endmodule"
-- A header that is left out has no names; the module says whether names in it are nets without a
-- declaration.
unfoldable pub module_of : Bool → Production Module
module_of implicit =
    meaning (λ x. record {
      attrs = x.0;
      name = x.1.1.0;
      implicit = implicit;
      params = x.1.1.1.0;
      header = x.1.1.1.1.0;
      items = x.1.1.1.1.1.1.0;
    })
    (attrs · keyword (codes "module") · name · params · (header ∣ nothing (headers.Names []))
    · mark 59 · many attributed · keyword (codes "endmodule"))

-- "none", which is a name
abbrev pub none : Production (Unit {0})
none = told (λ ts _. IsToken (token.Name (codes "none")) ts)

-- "wire" | "none"
abbrev pub net_type : Production Bool
net_type = meaning (λ _. true) (keyword (codes "wire")) ∣ meaning (λ _. false) none

-- vfile   = { "`default_nettype" ("wire" | "none") | "`resetall" | module } end of input
-- where names are nets without a declaration before it or not. The end of the input is no part of
-- it.
pub data VlogText : Bool → Tokens → List Module → Type 0 where
  no_more : {implicit : Bool} {ts : Tokens} {ms : List Module} → ts ≡ [] → ms ≡ []
      → VlogText implicit ts ms
  nettype : {implicit : Bool} {ts : Tokens} {ms : List Module} (now : Bool) (a b c : Tokens)
      → ts ≡ a ++ (b ++ c) → IsToken (token.Directive (codes "`default_nettype")) a
      → Texts net_type b now → VlogText now c ms → VlogText implicit ts ms
  reset : {implicit : Bool} {ts : Tokens} {ms : List Module} (a b : Tokens) → ts ≡ a ++ b
      → IsToken (token.Directive (codes "`resetall")) a → VlogText true b ms
      → VlogText implicit ts ms
  one_module : {implicit : Bool} {ts : Tokens} {ms : List Module} (m : Module) (rest : List Module)
      (a b : Tokens) → ts ≡ a ++ b → Texts (module_of implicit) a m → VlogText implicit b rest
      → ms ≡ m ∷ rest → VlogText implicit ts ms

-- The tokens are a text of the file, and behind it the end of the input.
abbrev pub IsFileText : Ahead VFound → VlogFile → Type 0
IsFileText s f =
    (text : Tokens) × (at : Place) × (s.tokens ≡ text ++ end at ∷ []) × VlogText true text f.modules
    × (s.finish ≡ Done)
