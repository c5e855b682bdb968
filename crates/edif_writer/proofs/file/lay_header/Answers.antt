use Rattle.edif_writer.proofs.Digits.{zero_text, two_text}
use Rattle.edif_writer.proofs.file.lay_header.Goals as goal

pub returns : goal.returns
returns g c =
    let level = rw zero_text at c.lay_level.ensures in
    rw (two_text, zero_text) (λ b rest s. c.put_line-2.ensures b rest (level b _ (c.put_line.ensures b _ s)))
