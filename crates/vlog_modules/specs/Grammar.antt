-- Headers, modules and files (IEEE 1364-2005, A.1.2, A.1.3 and 19): a definition for each production, with the production before it. NAME is a
-- token.
use Rattle.std.specs.Prelude.{ℕ, Bool, true, false, List, [], ◌∷◌, ◌++◌, codes, if◌then◌else◌, Option, Some, None, Result, Ok, Err}
use Rattle.grammar.specs.Part.{Glance, takes, leaves, gives, sequence, ◌>>=◌}
use Rattle.readers.specs.Parts.{one, if_next, while_next}
use Rattle.nl_base.specs.Case.{same_bytes}
use Rattle.nl_base.specs.declared.fault.Reason.{Reason}
use Rattle.nl_base.specs.declared.fault.Reason.TheVariants as reasons
use Rattle.nl_base.specs.declared.value.Dir.{Dir}
use Rattle.nl_base.specs.declared.value.Dir.TheVariants as dirs
use Rattle.vlog_values.specs.declared.expression.Attr.{Attr}
use Rattle.vlog_values.specs.declared.declaration.PortDecl.{PortDecl}
use Rattle.vlog_values.specs.declared.declaration.ParamDecl.{ParamDecl}
use Rattle.vlog_values.specs.declared.declaration.ParamSet.{ParamSet}
use Rattle.vlog_values.specs.declared.module.Header.{Header}
use Rattle.vlog_values.specs.declared.module.Header.TheVariants as headers
use Rattle.vlog_values.specs.declared.module.ItemV.{ItemV}
use Rattle.vlog_values.specs.declared.module.Module.{Module}
use Rattle.vlog_values.specs.declared.module.VlogFile.{VlogFile}
use Rattle.vlog_tokens.specs.declared.token.VToken.{VToken}
use Rattle.vlog_tokens.specs.declared.token.VToken.TheVariants as token
use Rattle.vlog_exprs.specs.Language.{Vlog}
use Rattle.vlog_exprs.specs.Reasons as say
use Rattle.vlog_exprs.specs.Grammar.{name, mark, keyword, choice, after, commas, maybe_range, constant, attrs, group, groups}
use Rattle.vlog_items.specs.Grammar.{signed, port_kind, param_type, param_set, item_words, word_item, instances_item, item}
use Rattle.vlog_items.specs.declared.item.ItemWord.{ItemWord}
use Rattle.vlog_modules.specs.declared.header.PortDecls.{PortDecls}
use Rattle.vlog_modules.specs.declared.parameter.ParamGroups.{ParamGroups}
use Rattle.vlog_modules.specs.declared.file.Directive.{Directive}
use Rattle.vlog_modules.specs.declared.file.Directive.TheVariants as directives
use Rattle.vlog_modules.specs.declared.file.SoFar.{SoFar}

-- ---- the ports of a header

-- the words of directions
abbrev pub dir_words : List (List ℕ × Dir)
dir_words = (codes "input", dirs.Input) ∷ (codes "output", dirs.Output) ∷ (codes "inout", dirs.Inout) ∷ []

-- ["wire"|"tri"] ["signed"] [range] NAME
unfoldable pub port_rest : List Attr → Dir → Vlog PortDecl
port_rest as_written dir = do
  k ← port_kind
  s ← signed
  r ← maybe_range
  n ← name
  gives (record { attrs = as_written; dir = dir; kind = k; signed = s; range = r; names = n ∷ [] })

-- attrs ("input"|"output"|"inout") ["wire"|"tri"] ["signed"] [range] NAME
unfoldable pub port_decl : Vlog PortDecl
port_decl = do
  as_written ← attrs
  dir ← choice dir_words
  port_rest as_written dir

-- one more name of the last declaration
abbrev pub with_name : PortDecls → List ℕ → PortDecls
with_name ds n = record { before = ds.before; last = record { attrs = ds.last.attrs; dir = ds.last.dir; kind = ds.last.kind; signed = ds.last.signed; range = ds.last.range; names = ds.last.names ++ n ∷ [] } }

-- one more declaration
abbrev pub with_decl : PortDecls → PortDecl → PortDecls
with_decl ds d = record { before = ds.before ++ ds.last ∷ []; last = d }

-- NAME | pdecl, behind a comma
unfoldable pub port_turn : PortDecls → Vlog PortDecls
port_turn ds = if_next (λ _ x. say.at_name x.token) (λ n. gives (with_name ds n)) (sequence port_decl (λ d. gives (with_decl ds d)))

-- {"," NAME | "," pdecl} ")", behind declarations
-- pdecl   = attrs ("input"|"output"|"inout") ["wire"|"tri"] ["signed"] [range] NAME {"," NAME}
unfoldable pub port_decls : PortDecls → Vlog (List PortDecl)
port_decls = while_next (λ _ _ x. say.at_mark 44 x.token) (λ ds _. port_turn ds) (λ ds. sequence (mark 41) (λ _. gives (ds.before ++ ds.last ∷ [])))

-- {"," NAME} ")", behind the first name
unfoldable pub name_header : List ℕ → Vlog Header
name_header n = sequence (commas name (mark 41) (n ∷ [])) (λ ns. gives (headers.Names ns))

-- pdecl {"," pdecl} ")"
unfoldable pub decl_header : Vlog Header
decl_header = do
  d ← port_decl
  ds ← port_decls (record { before = []; last = d })
  gives (headers.Decls ds)

-- NAME {"," NAME} ")" | pdecl {"," pdecl} ")"
unfoldable pub some_header : Vlog Header
some_header = if_next (λ _ x. say.at_name x.token) name_header decl_header

-- [header]
-- header  = "(" ")" | "(" NAME {"," NAME} ")" | "(" pdecl {"," pdecl} ")"
unfoldable pub header : Vlog Header
header = after 40 (after 41 (gives (headers.Names [])) some_header) (gives (headers.Names []))

-- ---- the parameters of a header

-- "parameter" ptype pset
unfoldable pub param_group : Vlog ParamDecl
param_group = do
  _ ← keyword (codes "parameter")
  t ← param_type
  s ← param_set
  gives (record { attrs = []; kind = t; sets = s ∷ [] })

-- one more parameter of the last group
abbrev pub with_set : ParamGroups → ParamSet → ParamGroups
with_set gs s = record { before = gs.before; last = record { attrs = gs.last.attrs; kind = gs.last.kind; sets = gs.last.sets ++ s ∷ [] } }

-- one more group
abbrev pub with_group : ParamGroups → ParamDecl → ParamGroups
with_group gs g = record { before = gs.before ++ gs.last ∷ []; last = g }

-- "=" const, behind the name of one more parameter
unfoldable pub more_set : ParamGroups → List ℕ → Vlog ParamGroups
more_set gs n = do
  _ ← mark 61
  v ← constant
  gives (with_set gs (record { name = n; value = v }))

-- pset | pgroup, behind a comma
unfoldable pub param_turn : ParamGroups → Vlog ParamGroups
param_turn gs = if_next (λ _ x. say.at_name x.token) (more_set gs) (sequence param_group (λ g. gives (with_group gs g)))

-- {"," pset | "," pgroup} ")", behind groups
-- pgroup  = "parameter" ptype pset {"," pset}
unfoldable pub param_groups : ParamGroups → Vlog (List ParamDecl)
param_groups = while_next (λ _ _ x. say.at_mark 44 x.token) (λ gs _. param_turn gs) (λ gs. sequence (mark 41) (λ _. gives (gs.before ++ gs.last ∷ [])))

-- "(" pgroup {"," pgroup} ")"
unfoldable pub params_rest : Vlog (List ParamDecl)
params_rest = do
  _ ← mark 40
  g ← param_group
  param_groups (record { before = []; last = g })

-- ["#" "(" pgroup {"," pgroup} ")"]
unfoldable pub params : Vlog (List ParamDecl)
params = after 35 params_rest (gives [])

-- ---- modules

-- with what an item and its attributes begin: with "(*", with the name of a module, or with a keyword
pub data ItemStart : Type 0 where
  at_group : ItemStart
  at_module_name : List ℕ → ItemStart
  at_word : ItemWord → ItemStart

-- what a keyword begins, where it begins an item
abbrev pub word_start : Option ItemWord → Glance ItemStart Reason
word_start (Some word) = takes (at_word word)
word_start None = leaves

-- a token with which an item and its attributes begin
abbrev pub at_item : VToken → Glance ItemStart Reason
at_item token.AttrStart = takes at_group
at_item (token.Name n) = takes (at_module_name n)
at_item (token.Keyword w) = word_start (say.meant_by item_words w)
at_item t = leaves

-- attrs item, behind the first token
unfoldable pub item_rest : ItemStart → Vlog ItemV
item_rest at_group = sequence (sequence (group []) groups) item
item_rest (at_module_name m) = instances_item [] m
item_rest (at_word word) = word_item [] word

-- {attrs item} "endmodule", behind items
unfoldable pub items : List ItemV → Vlog (List ItemV)
items = while_next (λ _ _ x. at_item x.token) (λ so_far start. sequence (item_rest start) (λ i. gives (so_far ++ i ∷ []))) (λ so_far. sequence (keyword (codes "endmodule")) (λ _. gives so_far))

-- NAME ["#" "(" pgroup {"," pgroup} ")"] [header] ";" {attrs item} "endmodule", behind "module"
unfoldable pub module_rest : Bool → List Attr → Vlog Module
module_rest implicit as_written = do
  n ← name
  ps ← params
  h ← header
  _ ← mark 59
  is ← items []
  gives (record { attrs = as_written; name = n; implicit = implicit; params = ps; header = h; items = is })

-- module  = attrs "module" NAME ["#" "(" pgroup {"," pgroup} ")"] [header] ";" {attrs item} "endmodule", behind its attributes
unfoldable pub module_of : Bool → List Attr → Vlog Module
module_of implicit as_written = sequence (keyword (codes "module")) (λ _. module_rest implicit as_written)

-- ---- the file

-- the net kind that names have which are used without a declaration: whether there is one; `none` is a name
abbrev pub net_type_of : VToken → Result Bool Reason
net_type_of (token.Keyword w) = if same_bytes w (codes "wire") then Ok true else Err (reasons.NotInProfile w)
net_type_of (token.Name n) = if same_bytes n (codes "none") then Ok false else Err reasons.Unexpected
net_type_of t = Err (say.misplaced t)

-- "wire" | "none"
abbrev pub net_type : Vlog Bool
net_type = one (λ _ x. net_type_of x.token)

-- the directives that stand between modules
abbrev pub directive_of : List ℕ → Option Directive
directive_of w = if same_bytes w (codes "`default_nettype") then Some directives.Nettype else (if same_bytes w (codes "`resetall") then Some directives.Reset else None)

-- such a directive
abbrev pub at_directive : VToken → Glance Directive Reason
at_directive (token.Directive w) = say.glance_of (directive_of w)
at_directive t = leaves

-- one more module
abbrev pub with_module : SoFar → Module → SoFar
with_module s m = record { modules = s.modules ++ m ∷ []; implicit = s.implicit }

-- whether names are nets without a declaration, in the modules from here on
abbrev pub with_implicit : SoFar → Bool → SoFar
with_implicit s implicit = record { modules = s.modules; implicit = implicit }

-- "`default_nettype" ("wire" | "none") | "`resetall", behind the directive
unfoldable pub directive : SoFar → Directive → Vlog SoFar
directive s directives.Nettype = sequence net_type (λ implicit. gives (with_implicit s implicit))
directive s directives.Reset = gives (with_implicit s true)

-- with what a directive or a module of a file begins: with a directive, with "(*", or with "module"
pub data PieceStart : Type 0 where
  at_word_of : Directive → PieceStart
  at_attributes : PieceStart
  at_module : PieceStart

-- what a keyword begins, where it is "module"
abbrev pub module_start : Bool → Glance PieceStart Reason
module_start true = takes at_module
module_start false = leaves

-- what a directive begins
abbrev pub directive_start : Option Directive → Glance PieceStart Reason
directive_start (Some d) = takes (at_word_of d)
directive_start None = leaves

-- a token with which a directive or a module begins
abbrev pub at_piece : VToken → Glance PieceStart Reason
at_piece token.AttrStart = takes at_attributes
at_piece (token.Keyword w) = module_start (same_bytes w (codes "module"))
at_piece (token.Directive w) = directive_start (directive_of w)
at_piece t = leaves

-- directive | module, behind the first token
unfoldable pub piece_rest : SoFar → PieceStart → Vlog SoFar
piece_rest s (at_word_of d) = directive s d
piece_rest s at_attributes = sequence (sequence (sequence (group []) groups) (module_of s.implicit)) (λ m. gives (with_module s m))
piece_rest s at_module = sequence (module_rest s.implicit []) (λ m. gives (with_module s m))

-- {"`default_nettype" ("wire" | "none") | "`resetall" | module}, behind others
unfoldable pub pieces : SoFar → Vlog VlogFile
pieces = while_next (λ _ _ x. at_piece x.token) piece_rest (λ s. gives (record { modules = s.modules }))

-- vfile   = {"`default_nettype" ("wire" | "none") | "`resetall" | module} end of input, before the end
unfoldable pub file : Vlog VlogFile
file = pieces (record { modules = []; implicit = true })
