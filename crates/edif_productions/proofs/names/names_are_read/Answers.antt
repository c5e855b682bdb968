use Rattle.edif_productions.proofs.NameTexts.{comments, names, port_names_read, scaled_numbers, property_values, properties}
use Rattle.edif_productions.proofs.names.names_are_read.Goals as goal

pub returns-clause-comment : goal.returns-clause-comment
returns-clause-comment c = comments

pub returns-clause-name : goal.returns-clause-name
returns-clause-name c = names

pub returns-clause-port_name : goal.returns-clause-port_name
returns-clause-port_name c = port_names_read

pub returns-clause-scaled : goal.returns-clause-scaled
returns-clause-scaled c = scaled_numbers

pub returns-clause-value : goal.returns-clause-value
returns-clause-value c = property_values

pub returns-clause-property : goal.returns-clause-property
returns-clause-property c = properties
