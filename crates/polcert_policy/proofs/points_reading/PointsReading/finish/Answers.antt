use Rattle.std.proofs.Common.{length}
use Rattle.std.proofs.Math.Path.{subst₂}
use Rattle.polcert_policy.proofs.Common.{AllBelow}
use Rattle.polcert_policy.specs.Steps.GraphRead.{IsFirstBeyondAt}
use Rattle.polcert_policy.specs.Steps.PointsRead.{so_far}
use Rattle.polcert_policy.proofs.ReadLaws.{none_from_not}
use Rattle.polcert_policy.proofs.PointSound.{proper_read}
use Rattle.polcert_policy.proofs.PointEndLaws.{unknown_read}
use Rattle.polcert_policy.proofs.points_reading.PointsReading.finish.Goals as goal

pub returns-in-Some : goal.returns-in-Some
returns-in-Some c = λ seen h.
    let r = c.args.self in
    let first = subst₂ (λ n xs. IsFirstBeyondAt n xs c.in-Some.place) c.len.ensures c.deref.ensures.value c.in-Some.ensures in
    unknown_read _ _ _ seen (so_far r) h c.in-Number.is c.in-Some.place r.some_actions r.some_observations first

pub of-requires : goal.of-requires
of-requires c =
    let r = c.args.self in
    let none = none_from_not _ c.in_default-first_beyond.not-Some in
    let below : AllBelow (length r.rows.rows) r.names.items =
    subst₂ (λ n xs. AllBelow n xs) c.len.ensures c.deref.ensures.value (rw none at c.first_beyond.ensures) in
    proper_read _ _ _ r.some_states r.some_actions r.some_observations c.requires.0 (so_far r) r.few_states r.few_actions r.few_observations
    c.requires.1 c.in-Number.is below
