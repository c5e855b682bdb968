use Rattle.edif_tokens.proofs.HeldForms.{space_fits}
use Rattle.edif_tokens.proofs.form.open_at.Goals as goal

pub split_at-requires : goal.split_at-requires
split_at-requires c = space_fits _ _ c.front-space.ensures
