-- How a run ends, and for which failure.
use Rattle.std.specs.Prelude.{ℕ, Result, Ok, Err}
use Rattle.nl_base.specs.declared.fault.ReadError.{ReadError}
use Rattle.nl_base.specs.declared.fault.ReadError.TheVariants as errors
use Rattle.nl_io.specs.declared.source.Failed.{Failed}
use Rattle.netlist_cli.specs.declared.failure.Failure.{Failure}
use Rattle.netlist_cli.specs.declared.failure.Failure.TheVariants as failures
use Rattle.netlist_cli.specs.declared.status.Status.{Status}
use Rattle.netlist_cli.specs.declared.status.Status.TheVariants as statuses

-- the number of a status
abbrev pub number_of : Status → ℕ
number_of statuses.Done = 0
number_of statuses.TextFault = 1
number_of statuses.Refused = 2
number_of statuses.ReadFault = 3
number_of statuses.WriteFault = 4
number_of statuses.Usage = 5
number_of statuses.NoMemory = 6
number_of statuses.Limit = 7

-- the status of a failure
abbrev pub status_of : Failure → Status
status_of (failures.Text f) = statuses.TextFault
status_of (failures.Refused r) = statuses.Refused
status_of (failures.RefusedByTool r) = statuses.Refused
status_of failures.ReadFault = statuses.ReadFault
status_of failures.WriteFault = statuses.WriteFault
status_of failures.Usage = statuses.Usage
status_of failures.NoMemory = statuses.NoMemory
status_of failures.InputLimit = statuses.Limit
status_of (failures.DesignLimit n) = statuses.Limit
status_of (failures.FlatLimit n) = statuses.Limit

-- the failure that an error of a reader of whole texts is; such a reader is never spent
abbrev pub failure_of : ReadError → Failure
failure_of (errors.Text f) = failures.Text f
failure_of errors.ReadFault = failures.ReadFault
failure_of errors.TooLong = failures.InputLimit
failure_of errors.NoMemory = failures.NoMemory
failure_of errors.Spent = failures.ReadFault

-- what is answered once a text was written, or a put failed
abbrev pub after_writing : Result (Unit {0}) Failed → Result (Unit {0}) Failure
after_writing (Ok done) = Ok done
after_writing (Err failed) = Err failures.WriteFault
