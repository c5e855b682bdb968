use Rattle.readers.specs.Readers.{same}
use Rattle.edif_keywords.specs.Language.{edif}
use Rattle.readers.proofs.Chain.{reads_then, reads_failed, maybe_reads}
use Rattle.edif_nets.proofs.instance.read_instance.Goals as goal

pub returns-in_err-items-clause-reads : goal.returns-in_err-items-clause-reads
unfolding Rattle.edif_nets.specs.Grammar.instance
returns-in_err-items-clause-reads g c =
    reads_then edif same same _ _ _ c.in_ok-name.ensures.reads
    (maybe_reads edif same _ _ _ _ _ _ (reads_then edif same same _ _ _ c.in_ok-view.ensures.reads
    (maybe_reads edif same _ _ _ _ _ _ (reads_failed edif same same _ _ _ c.in_err-items.ensures.reads c.from_residual-in_err-items.ensures.1))))
