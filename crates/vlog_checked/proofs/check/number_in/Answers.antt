use Rattle.std.proofs.Common.{◌∙◌, bytes_eq, sym}
use Rattle.vlog_checked.proofs.TableLaws.{none_place}
use Rattle.vlog_checked.proofs.check.number_in.Goals as goal

pub returns-in-None : goal.returns-in-None
returns-in-None c = c.len.ensures ∙ none_place (bytes_eq c.args.name.now) c.args.names.now (sym c.place.ensures ∙ c.in-None.is)
