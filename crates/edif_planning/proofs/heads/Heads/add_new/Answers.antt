use Rattle.std.proofs.Common.{ℕ, List, [], ◌∷◌, subst}
use Rattle.edif_plans.specs.Plans.{IsHeadOf}
use Rattle.edif_spaces.specs.Spaces.{IsIdentFor}
use Rattle.edif_planning.specs.Numbers.{names_with}
use Rattle.edif_planning.proofs.HeadLaws.{one_head}
use Rattle.edif_planning.proofs.heads.Heads.add_new.Goals as goal

pub returns : goal.returns
returns c = λ wanted are.
    one_head wanted (names_with c.args.constant.now.cell (c.args.constant.now.port ∷ [])) c.args.self.now.space c.ident.new.self c.args.self.now.made.items c.push.new.self.items c.in_ok-ident.ident c.in_ok-head.head are
    (subst (λ (name : List ℕ). IsIdentFor c.args.self.now.space name c.in_ok-ident.ident) c.bytes.ensures c.in_ok-ident.ensures.fits) c.in_ok-ident.ensures.new c.in_ok-ident.ensures.added
    (subst (λ (name : List ℕ). IsHeadOf c.in_ok-ident.ident (name ∷ []) c.in_ok-head.head) c.bytes-2.ensures c.in_ok-head.ensures) c.in_ok-push.ensures.items
