use Rattle.std.proofs.Common.{rules, ◌≡◌, ◌<◌, true, false, Some, None, subst, sym, ap, ◌∙◌}
use Rattle.net_bits.specs.Names.{NameSet, alike, has_name}
use Rattle.net_bits.proofs.NameLaws.{IsSeeking, after, seek_found, seek_less, seek_on, seeking_end}
use Rattle.net_bits.proofs.names.Names.has_of.Goals as goal

pub returns-then-are_alike : goal.returns-then-are_alike
returns-then-are_alike c =
    let entries = c.self.inside.entries.items in
    let name = c.args.name.now in
    let seeking = subst (λ p. IsSeeking c.args.self.now name p) c.in-Some.is c.loop-place.invariant in
    let here = subst (λ s. IsSeeking s name (Some c.in-Some.at)) (sym c.self.view_is) seeking in
    let test : alike c.self.inside.fold name c.index-entry.result.now.name ≡ true = search rules in
    sym (seek_found c.self.inside.fold entries c.self.inside.latest c.self.invariant name c.in-Some.at here c.index-entry.result.now (search rules) test) ∙ ap (λ (s : NameSet). has_name s name) c.self.view_is

pub loop-place-smaller : goal.loop-place-smaller
loop-place-smaller c =
    let entries = c.self.inside.entries.items in
    let name = c.args.name.now in
    let seeking = subst (λ p. IsSeeking c.args.self.now name p) c.in-Some.is c.loop-place.invariant in
    let here = subst (λ s. IsSeeking s name (Some c.in-Some.at)) (sym c.self.view_is) seeking in
    subst (λ p. after c.index-entry.result.now.earlier < after p) (sym c.in-Some.is)
    (seek_less c.self.inside.fold entries c.self.inside.latest c.self.invariant name c.in-Some.at here c.index-entry.result.now (search rules))

pub loop-place-preserved : goal.loop-place-preserved
loop-place-preserved c =
    let entries = c.self.inside.entries.items in
    let name = c.args.name.now in
    let seeking = subst (λ p. IsSeeking c.args.self.now name p) c.in-Some.is c.loop-place.invariant in
    let here = subst (λ s. IsSeeking s name (Some c.in-Some.at)) (sym c.self.view_is) seeking in
    let test : alike c.self.inside.fold name c.index-entry.result.now.name ≡ false = search rules in
    subst (λ s. IsSeeking s name c.index-entry.result.now.earlier) c.self.view_is
    (seek_on c.self.inside.fold entries c.self.inside.latest c.self.invariant name c.in-Some.at here c.index-entry.result.now (search rules) test)

pub returns : goal.returns
returns c =
    let none : c.loop-place.place ≡ None = search rules in
    sym (seeking_end c.args.self.now c.args.name.now (subst (λ p. IsSeeking c.args.self.now c.args.name.now p) none c.loop-place.invariant))
