use Rattle.std.proofs.Common.{ℕ, ◌<◌, List, All, subst}
use Rattle.std.proofs.lemmas.List.Elements.{recursion_from_All}
use Rattle.vlog_tokens.proofs.string.str_token.Goals as goal

pub returns-clause-proper : goal.returns-clause-proper
returns-clause-proper c = record {
  bytes = recursion_from_All (λ b. b < 256) c.args.text (subst (λ (w : List ℕ). All (λ b. b < 256) w) c.bytes.ensures c.each_is_byte.ensures);
  short = c.requires;
}
