use Rattle.std.proofs.Common.{ap, arith}
use Rattle.readers.proofs.Choices.{loops}
use Rattle.readers.specs.Readers.{room}
use Rattle.vlog_values.specs.Sizes.{expr_size}
use Rattle.vlog_values.proofs.Sizes.{size-Ref, size-Loose, size-Cat, size-Rep}
use Rattle.vlog_exprs.specs.Grammar.{commas, cat_rest}
use Rattle.vlog_exprs.specs.Known.{IsGood}
use Rattle.vlog_exprs.proofs.Braces.{in_braces}
use Rattle.vlog_exprs.proofs.Known.{ref_good, loose_good, cat_good, rep_good}
use Rattle.vlog_exprs.proofs.ListLaws.{collects, room_added, size_added, some_added}
use Rattle.vlog_exprs.proofs.expr.+expr.Goals as goal

pub read_rest-returns-in_ok-select-in-Name-clause-value : goal.read_rest-returns-in_ok-select-in-Name-clause-value
read_rest-returns-in_ok-select-in-Name-clause-value g t c = ref_good _ _ _ _ (rw c.in-Name.is at c.requires.start) c.in_ok-select-in-Name.ensures.value

pub read_rest-returns-in_ok-select-in-Name-clause-size : goal.read_rest-returns-in_ok-select-in-Name-clause-size
read_rest-returns-in_ok-select-in-Name-clause-size g t c = omega (arith, size-Ref c.in-Name.name c.in_ok-select-in-Name.select, c.in_ok-select-in-Name.ensures.reads.value.2)

pub read_rest-returns-in-Based-clause-value : goal.read_rest-returns-in-Based-clause-value
read_rest-returns-in-Based-clause-value g t c = loose_good _ _ _ (rw c.in-Based.is at c.requires.start)

pub read_rest-returns-in-Based-clause-size : goal.read_rest-returns-in-Based-clause-size
read_rest-returns-in-Based-clause-size g t c = omega (arith, size-Loose c.in-Based.based)

pub read_list-loop-exprs-preserved : goal.read_list-loop-exprs-preserved
unfolding commas
read_list-loop-exprs-preserved g t c =
    collects (grind (arith, loops)) (some_added c.in_ok-add-2.ensures (IsGood c.args.left c.args.levels) c.loop-exprs.invariant.good.all c.in_ok-expr.ensures.value)
    (omega (arith, c.loop-exprs.invariant.room, size_added c.in_ok-add-2.ensures expr_size, room_added c.in_ok-add-2.ensures, c.in_ok-takes.ensures.value.2, c.in_ok-expr.ensures.size))

pub read_replicated-returns-clause-value : goal.read_replicated-returns-clause-value
read_replicated-returns-clause-value g t c = rw c.in_ok-exprs-2.ensures.boxed (rep_good _ _ _ _ c.requires.right c.requires.count c.in_ok-exprs.ensures.value)

pub read_replicated-returns-clause-size : goal.read_replicated-returns-clause-size
read_replicated-returns-clause-size g t c =
    rw c.in_ok-exprs-2.ensures.boxed (omega (arith, size-Rep c.args.count c.in_ok-exprs.exprs, c.in_ok-first.ensures.size, c.in_ok-exprs.ensures.size, c.in_ok-mark.ensures.value.2, ap room c.in_ok-exprs-2.ensures.kept))

pub read_counted-returns-clause-value : goal.read_counted-returns-clause-value
read_counted-returns-clause-value g t c = cat_good _ _ _ c.in_ok-exprs.ensures.value

pub read_counted-returns-clause-size : goal.read_counted-returns-clause-size
read_counted-returns-clause-size g t c = omega (arith, size-Cat c.in_ok-exprs.exprs, c.in_ok-takes.ensures.value.2, c.in_ok-first.ensures.size, c.in_ok-first.ensures.reads.value.2, c.in_ok-exprs.ensures.size)

pub read_braced-returns : goal.read_braced-returns
unfolding cat_rest
read_braced-returns g t c = record {
  reads = grind (arith, in_braces);
  value = cat_good _ _ _ c.in_ok-exprs.ensures.value;
  size = omega (arith, size-Cat c.in_ok-exprs.exprs, c.in_ok-first.ensures.size, c.in_ok-exprs.ensures.size);
}
