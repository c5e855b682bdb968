-- Names that are written as themselves.
use Rattle.std.proofs.Common.{◌≡◌, true, refl}
use Rattle.std.specs.Prelude.{codes}
use Rattle.vlog_tokens.specs.Keywords.{is_keyword}
use Rattle.vlog_writer.specs.Spelling.{is_bare, is_simple}

pub none_bare : is_bare (codes "none") ≡ true
unfolding is_bare is_simple is_keyword
none_bare = refl
