use Rattle.std.proofs.Common.{◌∙◌, None, Some, ap, bytes_eq, cond, refl, sym}
use Rattle.vlog_rules.specs.Kinds.{clashes_with, kept_kinds, named_kinds, with_kind}
use Rattle.vlog_rules.proofs.KindLaws.{clashes_not, kept_found, kept_inserted, same_name, twice}
use Rattle.vlog_rules.proofs.kinds.Met.note.Goals as goal

pub returns-in-None-clause-clashes : goal.returns-in-None-clause-clashes
returns-in-None-clause-clashes c =
    let name = c.args.name.now in
    sym (clashes_not c.args.kind)
    ∙ ap (clashes_with c.args.kind) (kept_found c.self.inside.kinds.entries name None (sym c.in-None.is ∙ c.in_ok-before.ensures.old) ∙ ap (λ s. kept_kinds s name) c.self.view_is)

pub returns-in-None-clause-noted : goal.returns-in-None-clause-noted
returns-in-None-clause-noted c = λ other.
    let name = c.args.name.now in
    let es = c.self.inside.kinds.entries in
    let first = c.with_kind-first.result in
    let kept = kept_found es name None (sym c.in-None.is ∙ c.in_ok-before.ensures.old) ∙ ap (λ s. kept_kinds s name) c.self.view_is in
    ap (λ e. kept_kinds (named_kinds e) other) c.in_ok-before.ensures.entries
    ∙ (kept_inserted _ (λ a b. refl) es c.args.name first other
    ∙ (ap (λ s. cond (bytes_eq other name) first (kept_kinds s other)) c.self.view_is
    ∙ same_name (kept_kinds c.args.self.now) name other (with_kind c.args.kind) first (c.with_kind-first.ensures ∙ ap (with_kind c.args.kind) (c.no_kinds.ensures ∙ kept))))

pub returns-in_ok-insert-in-Some-clause-clashes : goal.returns-in_ok-insert-in-Some-clause-clashes
returns-in_ok-insert-in-Some-clause-clashes c =
    let name = c.args.name.now in
    c.clashes_with.ensures
    ∙ ap (clashes_with c.args.kind) (kept_found c.self.inside.kinds.entries name (Some c.in-Some.kinds) (sym c.in-Some.is ∙ c.in_ok-before.ensures.old) ∙ ap (λ s. kept_kinds s name) c.self.view_is)

pub returns-in_ok-insert-in-Some-clause-noted : goal.returns-in_ok-insert-in-Some-clause-noted
returns-in_ok-insert-in-Some-clause-noted c = λ other.
    let name = c.args.name.now in
    let es = c.self.inside.kinds.entries in
    let first = c.with_kind-first.result in
    let more = c.with_kind.result in
    let kept = kept_found es name (Some c.in-Some.kinds) (sym c.in-Some.is ∙ c.in_ok-before.ensures.old) ∙ ap (λ s. kept_kinds s name) c.self.view_is in
    ap (λ e. kept_kinds (named_kinds e) other) c.in_ok-insert-in-Some.ensures.entries
    ∙ (kept_inserted _ (λ a b. refl) c.insert.new.self.entries c.args.name more other
    ∙ (ap (λ k. cond (bytes_eq other name) more k) (ap (λ e. kept_kinds (named_kinds e) other) c.in_ok-before.ensures.entries ∙ kept_inserted _ (λ a b. refl) es c.args.name first other)
    ∙ (sym (twice (bytes_eq other name) more first (kept_kinds (named_kinds es) other))
    ∙ (ap (λ s. cond (bytes_eq other name) more (kept_kinds s other)) c.self.view_is
    ∙ same_name (kept_kinds c.args.self.now) name other (with_kind c.args.kind) more (c.with_kind.ensures ∙ ap (with_kind c.args.kind) kept)))))
