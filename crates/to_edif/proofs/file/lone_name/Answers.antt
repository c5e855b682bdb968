use Rattle.std.proofs.Common.{List, ℕ, ap, subst, ◌∙◌}
use Rattle.edif_naming.proofs.NamingLaws.{original_name_for}
use Rattle.edif_spaces.specs.Spaces.{IsIdentFor}
use Rattle.edif_values.specs.Names.{original}
use Rattle.to_edif.proofs.file.lone_name.Goals as goal

pub returns : goal.returns
returns c = record {
  is_name = ap original c.in_ok-made.ensures.name ∙ original_name_for c.in_ok-ident.ident c.args.name.now;
  alone = record {
    ident = c.in_ok-ident.ident;
    is_ident = subst (λ (before : List (List ℕ)). IsIdentFor before c.args.name.now c.in_ok-ident.ident) c.new-space.ensures c.in_ok-ident.ensures.fits;
    is_name = c.in_ok-made.ensures.name;
  };
  sound = c.in_ok-made.ensures.sound;
}
