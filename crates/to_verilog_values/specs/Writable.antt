-- Plain modules whose parts can be written.
use Rattle.std.specs.Prelude.{IfSome}
use Rattle.std.specs.List.{AllByRecursion}
use Rattle.vlog_values.specs.Values.{AreAttrs, IsAssignment, IsName, IsNamedConn, IsParamSet, IsRange}
use Rattle.vlog_written.specs.Written.{PlainInstance, PlainModule, PlainPort, PlainWire}

-- a port
pub record IsGoodPort (port : PlainPort) : Type 0 where
  pub attrs : AreAttrs port.attrs
  pub range : IfSome port.range IsRange
  pub name : IsName port.name

-- a wire
pub record IsGoodWire (wire : PlainWire) : Type 0 where
  pub attrs : AreAttrs wire.attrs
  pub name : IsName wire.name

-- an instance with its statement
pub record IsGoodInstance (instance : PlainInstance) : Type 0 where
  pub attrs : AreAttrs instance.attrs
  pub of_module : IsName instance.of
  pub params : AllByRecursion IsParamSet instance.params
  pub name : IsName instance.name
  pub conns : AllByRecursion IsNamedConn instance.conns

-- a plain module
pub record IsGoodModule (p : PlainModule) : Type 0 where
  pub attrs : AreAttrs p.attrs
  pub name : IsName p.name
  pub ports : AllByRecursion IsGoodPort p.ports
  pub wires : AllByRecursion IsGoodWire p.wires
  pub assigns : AllByRecursion IsAssignment p.assigns
  pub instances : AllByRecursion IsGoodInstance p.instances
