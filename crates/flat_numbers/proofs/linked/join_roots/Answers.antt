use Rattle.std.proofs.Common.{◌+◌, arith, length, inl, inr, sym, ◌∙◌}
use Rattle.flat_numbers.specs.Forest.{HasLabels}
use Rattle.flat_numbers.proofs.Forests.{joined_labels, label_least}
use Rattle.flat_numbers.proofs.linked.join_roots.Goals as goal

pub bounds-parents-b : goal.bounds-parents-b
bounds-parents-b c =
    let has : HasLabels c.root_of-a.new.parents c.requires.labels.0 = c.root_of-a.ensures.kept c.requires.labels.0 c.requires.labels.1 in
    let e = c.root_of-b.ensures.root c.requires.labels.0 has in
    let le = label_least c.root_of-a.new.parents c.requires.labels.0 has (c.args.join.b + 1) c.args.join.b (omega arith) (omega (arith, c.requires.b, c.root_of-a.ensures.len)) in
    omega (arith, e, le, c.requires.b, c.root_of-a.ensures.len, c.root_of-b.ensures.len)

pub bounds-parents-a : goal.bounds-parents-a
bounds-parents-a c =
    let e = c.root_of-a.ensures.root c.requires.labels.0 c.requires.labels.1 in
    let le = label_least c.args.parents.now c.requires.labels.0 c.requires.labels.1 (c.args.join.a + 1) c.args.join.a (omega arith) c.requires.a in
    omega (arith, e, le, c.requires.a, c.root_of-a.ensures.len, c.root_of-b.ensures.len)

pub returns-then-a-b-clause-joined : goal.returns-then-a-b-clause-joined
returns-then-a-b-clause-joined c = λ joins labels has are.
    let mid : HasLabels c.root_of-a.new.parents labels = c.root_of-a.ensures.kept labels has in
    let last : HasLabels c.root_of-b.new.parents labels = c.root_of-b.ensures.kept labels mid in
    let p = c.root_of-a.ensures.root labels has in
    let q = c.root_of-b.ensures.root labels mid in
    joined_labels (length c.args.parents.now) c.root_of-b.new.parents labels last (c.root_of-b.ensures.len ∙ c.root_of-a.ensures.len) joins are c.args.join.a c.args.join.b c.requires.a c.requires.b
    c.root_of-a.result c.root_of-b.result (let lt = c.if-a-b.true in omega (arith, lt)) (inl (sym p, sym q))

pub returns-else-a-b-clause-joined : goal.returns-else-a-b-clause-joined
returns-else-a-b-clause-joined c = λ joins labels has are.
    let mid : HasLabels c.root_of-a.new.parents labels = c.root_of-a.ensures.kept labels has in
    let last : HasLabels c.root_of-b.new.parents labels = c.root_of-b.ensures.kept labels mid in
    let p = c.root_of-a.ensures.root labels has in
    let q = c.root_of-b.ensures.root labels mid in
    joined_labels (length c.args.parents.now) c.root_of-b.new.parents labels last (c.root_of-b.ensures.len ∙ c.root_of-a.ensures.len) joins are c.args.join.a c.args.join.b c.requires.a c.requires.b
    c.root_of-b.result c.root_of-a.result (let ge = c.if-a-b.false in omega (arith, ge)) (inr (sym p, sym q))
