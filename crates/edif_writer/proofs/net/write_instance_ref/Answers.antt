use Rattle.std.proofs.Common.{sym}
use Rattle.edif_writer.proofs.net.write_instance_ref.Goals as goal

pub returns-in-Some : goal.returns-in-Some
returns-in-Some g c = rw (sym c.bytes.ensures, c.in-Some.is) (λ b rest s. c.put-in-Some-2.ensures b rest (c.put-in-Some.ensures b _ (c.put.ensures b _ s)))
