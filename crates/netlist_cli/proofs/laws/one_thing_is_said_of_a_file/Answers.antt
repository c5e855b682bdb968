use Rattle.netlist_cli.proofs.Results.{said_of, said_of_read, settled_of}
use Rattle.netlist_cli.proofs.laws.one_thing_is_said_of_a_file.Goals as goal

pub returns : goal.returns
returns c = record { one = λ command. (settled_of command).one_said; some = said_of; read = said_of_read }
