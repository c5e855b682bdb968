use Rattle.std.proofs.Common.{refl, Ok, Err}
use Rattle.netlist_cli.proofs.Ends.{run_ends_as, tells, silent_so}
use Rattle.netlist_cli.proofs.run.run.Goals as goal

pub returns-in-Ok : goal.returns-in-Ok
returns-in-Ok g c =
    let ends = run_ends_as g.S.Source.supply g.O.Sink.receipt c.args.words.now c.args.input.now c.do_words.new.input c.args.output.now c.do_words.new.output
    (Ok tt) _ (rw c.in-Ok.is at c.do_words.ensures.performs) refl in
    record {
      done = ends.done;
      write_fault = ends.write_fault;
      failed = λ n. absurd (n refl);
      usage = ends.usage;
      taken = c.do_words.ensures.taken;
      unread = ends.unread;
      leaves_input = ends.leaves_input;
      unwritten = ends.unwritten;
      silent = λ e. refl;
      exact = ends.exact;
      complete = ends.complete;
    }

pub returns-in-Err : goal.returns-in-Err
returns-in-Err g c =
    let performed = rw c.in-Err.is at c.do_words.ensures.performs in
    let ends = run_ends_as g.S.Source.supply g.O.Sink.receipt c.args.words.now c.args.input.now c.do_words.new.input c.args.output.now c.do_words.new.output
    (Err c.in-Err.failure) c.report.result performed c.report.ensures.status in
    record {
      done = ends.done;
      write_fault = ends.write_fault;
      failed = λ n. tells g.S.Source.supply g.O.Sink.receipt c.args.words.now c.args.input.now c.do_words.new.input c.args.output.now c.do_words.new.output
          g.E.Sink.receipt c.in-Err.failure c.report.result c.args.errors.now c.report.new.errors performed c.report.ensures.status c.report.ensures.told;
      usage = ends.usage;
      taken = c.do_words.ensures.taken;
      unread = ends.unread;
      leaves_input = ends.leaves_input;
      unwritten = ends.unwritten;
      silent = silent_so c.args.errors.now c.report.new.errors c.report.result c.in-Err.failure c.report.ensures.status;
      exact = ends.exact;
      complete = ends.complete;
    }
