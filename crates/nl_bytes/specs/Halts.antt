-- What a halt is for a reader of tokens.
use Rattle.nl_base.specs.declared.fault.ReadError.{ReadError}
use Rattle.nl_base.specs.declared.fault.ReadError.TheVariants as errors
use Rattle.nl_bytes.specs.declared.halt.Halt.{Halt}
use Rattle.nl_bytes.specs.declared.halt.Halt.TheVariants.{Failed, TooLong, NoMemory}

-- the error of a reader of tokens for a halt of the bytes below it
abbrev pub error_of : Halt → ReadError
error_of Failed = errors.ReadFault
error_of TooLong = errors.TooLong
error_of NoMemory = errors.NoMemory
