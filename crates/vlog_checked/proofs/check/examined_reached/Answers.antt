use Rattle.std.proofs.Common.{◌≡◌, ◌∙◌, ap, map, subst, sym}
use Rattle.vlog_design.specs.Reach.{reached}
use Rattle.vlog_design.specs.Rules.{first_of}
use Rattle.vlog_design.specs.Tables.{modules_of}
use Rattle.vlog_shown.specs.Interfaces.{interface}
use Rattle.vlog_checked.specs.ByTables.{AreLooked}
use Rattle.vlog_checked.specs.Groups.{table_refusals}
use Rattle.vlog_checked.proofs.Grouping.{none_refused, refused_in_tables}
use Rattle.vlog_checked.proofs.TableLaws as laws
use Rattle.vlog_checked.proofs.check.examined_reached.Goals as goal

pub first_by_look-requires-clause-within : goal.first_by_look-requires-clause-within
first_by_look-requires-clause-within c =
    let library = c.in_ok-library.library in
    laws.number_within c.args.file.now c.args.top.now c.requires.named library.modules.items (c.in_ok-library.ensures ∙ c.requires.reached) library.names library.are_named c.number_in-number.result c.number_in-number.ensures

pub returns-in-Some : goal.returns-in-Some
returns-in-Some c =
    refused_in_tables c.args.file.now c.args.top.now c.requires.named c.requires.declared c.in-Some.refusal
    (sym c.in-Some.is ∙ (c.in_ok-refusal.ensures ∙ ap (λ modules. first_of (table_refusals modules)) (c.in_ok-library.ensures ∙ c.requires.reached)))

pub returns : goal.returns
returns c =
    let library = c.in_ok-library.library in
    let those : modules_of library.modules.items ≡ reached c.args.file.now c.args.top.now = c.in_ok-library.ensures ∙ c.requires.reached in
    let lent : modules_of c.deref.result.now ≡ reached c.args.file.now c.args.top.now = ap modules_of c.deref.ensures.value ∙ c.requires.reached in
    let looked_lent : modules_of c.deref-2.result.now ≡ reached c.args.file.now c.args.top.now = ap modules_of c.deref-2.ensures.value ∙ c.requires.reached in
    let looked = subst (λ modules. AreLooked modules modules c.in_ok-look.look) looked_lent c.in_ok-look.ensures in
    record {
      no_refusals = none_refused c.args.file.now c.args.top.now c.requires.named c.requires.declared
          (sym c.in_default.is ∙ (c.in_ok-refusal.ensures ∙ ap (λ modules. first_of (table_refusals modules)) those));
      modules_are = those;
      names_are = laws.names_are c.args.file.now c.args.top.now c.requires.named library.modules.items those library.names library.are_named;
      shown_are = c.in_ok-shown.ensures ∙ ap (map interface) lent;
      top_is = laws.top_is c.args.file.now c.args.top.now c.requires.named library.modules.items those library.names library.are_named c.number_in-number.result c.number_in-number.ensures;
      most_is = looked.most_is;
      bits_is = looked.bits_is;
      declared = looked.declared;
    }
