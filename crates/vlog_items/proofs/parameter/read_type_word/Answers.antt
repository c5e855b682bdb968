use Rattle.vlog_values.specs.Values.{IsParamType}
use Rattle.vlog_items.specs.Grammar.{param_type_words}
use Rattle.vlog_items.proofs.Words.{taken_is}
use Rattle.vlog_items.proofs.parameter.read_type_word.Goals as goal

pub returns-clause-value : goal.returns-clause-value
returns-clause-value g c = taken_is IsParamType param_type_words (tt, (tt, tt)) _ c.takes_choice.ensures.value
