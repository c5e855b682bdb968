use Rattle.vlog_productions.proofs.WordTexts.{attributes, maybe_ranges, signs, kinds, types, sets}
use Rattle.vlog_productions.proofs.declarations.words_are_read.Goals as goal

pub returns-clause-attrs : goal.returns-clause-attrs
returns-clause-attrs c = attributes

pub returns-clause-range : goal.returns-clause-range
returns-clause-range c = maybe_ranges

pub returns-clause-signed : goal.returns-clause-signed
returns-clause-signed c = signs

pub returns-clause-port_kind : goal.returns-clause-port_kind
returns-clause-port_kind c = kinds

pub returns-clause-ptype : goal.returns-clause-ptype
returns-clause-ptype c = types

pub returns-clause-pset : goal.returns-clause-pset
returns-clause-pset c = sets
