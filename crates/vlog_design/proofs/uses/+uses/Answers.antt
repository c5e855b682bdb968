use Rattle.std.proofs.Common.{append-nil, sym}
use Rattle.std.proofs.lemmas.List.{map-append}
use Rattle.vlog_design.proofs.ExprLemmas.{uses-Cat, uses-Lit, uses-Loose, uses-LooseNumber, uses-Ref, uses-Rep}
use Rattle.vlog_design.specs.Uses.{use_of}
use Rattle.vlog_design.proofs.uses.+uses.Goals as goal

pub push_uses-returns-in_ok-push-in-Ref : goal.push_uses-returns-in_ok-push-in-Ref
push_uses-returns-in_ok-push-in-Ref t c = record { added = rw (c.in-Ref.is, uses-Ref, c.in_ok-push-in-Ref.ensures.items, ← c.bytes.ensures) (map-append use_of _ _) }

pub push_uses-returns-in-Lit : goal.push_uses-returns-in-Lit
push_uses-returns-in-Lit t c = record { added = rw (c.in-Lit.is, uses-Lit) (sym (append-nil _)) }

pub push_uses-returns-in-LooseNumber : goal.push_uses-returns-in-LooseNumber
push_uses-returns-in-LooseNumber t c = record { added = rw (c.in-LooseNumber.is, uses-LooseNumber) (sym (append-nil _)) }

pub push_uses-returns-in-Loose : goal.push_uses-returns-in-Loose
push_uses-returns-in-Loose t c = record { added = rw (c.in-Loose.is, uses-Loose) (sym (append-nil _)) }

pub push_uses-returns-in-Cat : goal.push_uses-returns-in-Cat
push_uses-returns-in-Cat t c = record { added = rw (c.in-Cat.is, uses-Cat, ← c.items.ensures) c.push_all_uses.ensures.added }

pub push_uses-returns-in-Rep : goal.push_uses-returns-in-Rep
push_uses-returns-in-Rep t c = record { added = rw (c.in-Rep.is, uses-Rep, ← c.get.ensures, ← c.items-in-Rep.ensures) c.push_all_uses-in-Rep.ensures.added }
