-- What is known of the states between the parts of a file: declarations, groups, pieces and modules so far, and how many items are in all their
-- lists.
use Rattle.std.specs.Prelude.{◌≡◌, ℕ, ◌+◌, Result, IfOk, IfErr}
use Rattle.std.specs.List.{AllByRecursion}
use Rattle.nl_base.specs.declared.fault.ReadError.{ReadError}
use Rattle.nl_base.specs.declared.fault.ReadError.TheVariants as errors
use Rattle.readers.specs.Readers.{Reader, spoilt}
use Rattle.vlog_tokens.specs.declared.token.VFound.{VFound}
use Rattle.vlog_exprs.specs.Language.{NoContext}
use Rattle.vlog_values.specs.Values.{IsPortDecl, IsParamGroup, IsModule}
use Rattle.vlog_values.specs.Sizes.{list_size, port_size, param_size, module_size}
use Rattle.vlog_modules.specs.declared.header.PortDecls.{PortDecls}
use Rattle.vlog_modules.specs.declared.parameter.ParamGroups.{ParamGroups}
use Rattle.vlog_modules.specs.Starts.{with_piece}
use Rattle.vlog_modules.specs.declared.file.Piece.{Piece}
use Rattle.vlog_modules.specs.declared.file.Piece.TheVariants as forms
use Rattle.vlog_modules.specs.declared.file.SoFar.{SoFar}

-- declarations of ports that can be written
abbrev pub ArePorts : PortDecls → Type 0
ArePorts ds = AllByRecursion IsPortDecl ds.before × IsPortDecl ds.last

-- their items
abbrev pub ports_size : PortDecls → ℕ
ports_size ds = list_size port_size ds.before + 1 + port_size ds.last

-- groups of parameters that can be written
abbrev pub AreGroups : ParamGroups → Type 0
AreGroups gs = AllByRecursion IsParamGroup gs.before × IsParamGroup gs.last

-- their items
abbrev pub groups_size : ParamGroups → ℕ
groups_size gs = list_size param_size gs.before + 1 + param_size gs.last

-- modules that can be written
abbrev pub AreModules : SoFar → Type 0
AreModules s = AllByRecursion IsModule s.modules

-- their items
abbrev pub modules_size : SoFar → ℕ
modules_size s = list_size module_size s.modules

-- a piece of a file whose module can be written
abbrev pub IsPiece : Piece → Type 0
IsPiece (forms.Implicit implicit) = Unit {0}
IsPiece (forms.Module m) = IsModule m

-- a module and its items
abbrev pub piece_size : Piece → ℕ
piece_size (forms.Implicit implicit) = 0
piece_size (forms.Module m) = module_size m + 1

-- The modules so far have one more piece, or memory ran out.
pub record AddsPiece (so_far : SoFar) (piece : Piece) (result : Result SoFar ReadError) (old new : Reader NoContext VFound) : Type 0 where
  pub added : IfOk result (λ s. (s ≡ with_piece so_far piece) × (new ≡ old))
  pub failed : IfErr result (λ e. (e ≡ errors.NoMemory) × (new ≡ spoilt old))
