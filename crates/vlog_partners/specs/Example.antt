-- The modules of two small designs: a cell whose port is joined to the constant zero, and a cell whose port is joined to that of an instance.
use Rattle.std.specs.Prelude.{ℕ, false, [], ◌∷◌, None, Some}
use Rattle.nl_base.specs.declared.value.Dir.TheVariants.{Output}
use Rattle.vlog_values.specs.declared.expression.Expr.TheVariants.{Lit}
use Rattle.vlog_values.specs.declared.module.VlogFile.{VlogFile}
use Rattle.vlog_plain.specs.Plain.{plain_file}
use Rattle.vlog_written.specs.Written.{PlainModule, PlainPort, bit_literal, port_expr}

-- a scalar output
abbrev pub plain_output : ℕ → PlainPort
plain_output name = record { attrs = []; dir = Output; range = None; name = name ∷ [] }

-- its port is assigned the constant
abbrev pub tied_module : PlainModule
tied_module = record {
  attrs = [];
  name = 3 ∷ [];
  ports = plain_output 4 ∷ [];
  wires = [];
  assigns = record { left = port_expr (plain_output 4) 0; right = Lit (bit_literal false) } ∷ [];
  instances = [];
}

-- `GND`, which has nothing but its port
abbrev pub zero_module : PlainModule
zero_module = record { attrs = []; name = 71 ∷ 78 ∷ 68 ∷ []; ports = plain_output 71 ∷ []; wires = []; assigns = []; instances = [] }

-- the port is that of an instance of `GND`
abbrev pub over_module : PlainModule
over_module = record {
  attrs = [];
  name = 3 ∷ [];
  ports = plain_output 4 ∷ [];
  wires = [];
  assigns = [];
  instances = record { attrs = []; of = 71 ∷ 78 ∷ 68 ∷ []; params = []; name = 1 ∷ []; conns = record { port = 71 ∷ []; value = Some (port_expr (plain_output 4) 0) } ∷ [] } ∷ [];
}

-- the file of the one module
abbrev pub tied_file : VlogFile
tied_file = plain_file (tied_module ∷ [])

-- the file of the two others
abbrev pub over_file : VlogFile
over_file = plain_file (zero_module ∷ over_module ∷ [])
