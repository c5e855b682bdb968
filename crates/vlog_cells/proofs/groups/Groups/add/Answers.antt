use Rattle.std.proofs.Common.{ap, refl, sym, ◌∙◌, ◌++◌, ◌∷◌, [], bytes_eq, if◌then◌else◌}
use Rattle.indexmap.proofs.CallerLemmas.{insert_entry-new}
use Rattle.vlog_cells.specs.Groups.{groups_of, under}
use Rattle.vlog_design.proofs.Tables.{none_of_is_some}
use Rattle.vlog_cells.proofs.GroupLaws.{under_more, under_new, under_some}
use Rattle.vlog_cells.proofs.groups.Groups.add.Goals as goal

pub returns-in-Some : goal.returns-in-Some
returns-in-Some g c =
    let entries = c.self.inside.lists.entries in
    let name = c.args.name.now in
    let old = under_some name _ (λ k. refl) entries c.index_mut.result.now (sym c.in-Some.ensures.value ∙ c.index_mut.ensures.value) in
    record { added = λ key. under_more name _ (λ k. refl) entries c.in-Some.place c.args.value c.push.new.self (sym c.in-Some.ensures.index) (c.in_ok-push.ensures.items ∙ ap (λ l. l ++ c.args.value ∷ []) old) key ∙ ap (λ s. under s key ++ (if bytes_eq key name then c.args.value ∷ [] else [])) c.self.view_is }

pub returns-in-Ok : goal.returns-in-Ok
returns-in-Ok g c =
    let entries = c.self.inside.lists.entries in
    let name = c.args.name.now in
    let none = none_of_is_some _ (sym c.in_default.ensures.found) in
    record { added = λ key. ap (λ es. under (groups_of es) key) (c.in-Ok.ensures.entries ∙ insert_entry-new _ c.self.inside.lists c.args.name c.push-2.new.self none) ∙ (under_new name _ (λ k. refl) entries c.args.name c.args.value c.push-2.new.self refl none (c.in_ok-push-2.ensures.items ∙ ap (λ l. l ++ c.args.value ∷ []) c.new-list.ensures.items) key ∙ ap (λ s. under s key ++ (if bytes_eq key name then c.args.value ∷ [] else [])) c.self.view_is) }
