use Rattle.std.proofs.Common.{◌≡◌, OnOk, arith, subst}
use Rattle.vlog_design.proofs.RowLaws.{first_joined, no_pairs}
use Rattle.vlog_design.proofs.rows.push_pairs.Goals as goal

pub returns-then-count-eq0 : goal.returns-then-count-eq0
returns-then-count-eq0 c = record { added = no_pairs c.args.out.now.items c.args.left c.args.right c.args.count c.if-count-eq0.true }

pub returns : goal.returns
returns c = record {
  added = subst (λ joins. OnOk c.push_later_pairs.result (c.push_later_pairs.new.out.items ≡ joins))
      (first_joined c.args.out.now.items c.push.new.self.items c.args.left c.args.right c.args.count (omega (arith, c.if-count-eq0.false)) c.in_ok-push.ensures.items)
      c.push_later_pairs.ensures.added;
}
