use Rattle.std.proofs.Common.{ap, ◌∙◌, ◌+◌, ◌≡◌, length, arith}
use Rattle.std.proofs.lemmas.List.{length_push}
use Rattle.net_flatten_refusals.proofs.NameDigests.{digests_more}
use Rattle.net_flatten_refusals.proofs.digests.digests_of.Goals as goal

pub loop-spot-preserved : goal.loop-spot-preserved
loop-spot-preserved c = (
  ap length c.in_ok-push.ensures.items ∙ (length_push c.loop-spot.digests.items c.digest_at-digest.result ∙ ap (λ n. n + 1) c.loop-spot.invariant.0),
  λ paths of. let long : length paths ≡ length c.args.spots.now = of.len in
      let less = c.loop-spot-test.true in
      digests_more paths c.loop-spot.spot c.digest_at-digest.result c.loop-spot.digests.items c.push.new.self.items (omega (arith, less, long))
      (c.loop-spot.invariant.1 paths of) (c.digest_at-digest.ensures paths of (c.as_slice.ensures.value ∙ c.loop-spot.invariant.1 paths of)) c.in_ok-push.ensures.items,
)
