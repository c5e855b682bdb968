use Rattle.std.proofs.Common.{rules, ◌≡◌, Some, cond, length, nat_eq, sym, ap, ◌∙◌}
use Rattle.indexmap.specs.IndexMap.{get}
use Rattle.net_bits.specs.NameTables.{digest_of}
use Rattle.net_bits.specs.declared.names.Entry.{Entry}
use Rattle.net_bits.proofs.NameLaws.{entries_push}
use Rattle.net_bits.proofs.names.Names.add.Goals as goal

pub invariant_of-self-in-Ok : goal.invariant_of-self-in-Ok
invariant_of-self-in-Ok c =
    let entry : Entry = record { name = c.in_ok-name.name; earlier = c.copied-earlier.result } in
    let fold = c.self.inside.fold in
    let entries = c.self.inside.entries.items in
    let latest = c.self.inside.latest in
    let digest : c.digest-digest.result ≡ digest_of fold c.args.name.now = c.digest-digest.ensures in
    let name : c.in_ok-name.name ≡ c.args.name.now = c.in_ok-name.ensures in
    let key : c.digest-digest.result ≡ digest_of fold entry.name = digest ∙ ap (digest_of fold) (sym name) in
    let found : c.copied-earlier.result ≡ get nat_eq latest c.digest-digest.result = c.copied-earlier.ensures ∙ c.get.ensures.value in
    let place : c.len-place.result ≡ length entries = search rules in
    entries_push fold entries c.push.new.self.items entry latest c.insert.new.self c.in_ok-push.ensures.items c.self.invariant (found ∙ ap (get nat_eq latest) key)
    (λ q. c.in-Ok.ensures.updates.0 q ∙ (λ i. cond (nat_eq (key i) q) (Some (place i)) (get nat_eq latest q)))
