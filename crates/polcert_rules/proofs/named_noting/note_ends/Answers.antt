use Rattle.std.proofs.Common.{◌+◌, ◌^◌, ◌≤◌, [], ◌∷◌, refl, subst, arith}
use Rattle.polcert_rules.proofs.Common.{key_base, noted_at, IsNoted}
use Rattle.polcert_rules.specs.Keys.{FitsKey}
use Rattle.polcert_rules.proofs.Indexes.NextPlaces.{goes_deeper}
use Rattle.polcert_rules.proofs.Indexes.NotedLaws.{noted_deeper}
use Rattle.polcert_rules.proofs.named_noting.note_ends.Goals as goal

pub next_place-next-requires : goal.next_place-next-requires
next_place-next-requires c = record { rising = c.requires.rising; few = omega arith; room = c.requires.room; index = (c.requires.end, tt) }

pub note_observations-requires : goal.note_observations-requires
note_observations-requires c =
    let next = c.next_place-next.result in
    let n = c.next_place-next.ensures in
    let d = goes_deeper _ 2 _ _ [] next (omega arith) (c.requires.end, tt) n in
    record {
      rising = n.every_rises;
      from = d.from_every;
      room = omega (arith, subst (λ k. next.every + key_base ^ k ≤ c.args.low + key_base ^ 2) n.levels_are d.room_every, c.requires.room);
    }

pub note_observations-requires-2 : goal.note_observations-requires-2
note_observations-requires-2 c =
    let next = c.next_place-next.result in
    let n = c.next_place-next.ensures in
    let d = goes_deeper _ 2 _ _ [] next (omega arith) (c.requires.end, tt) n in
    record {
      rising = n.only_rises;
      from = d.from_only;
      room = omega (arith, subst (λ k. next.only + key_base ^ k ≤ c.args.low + key_base ^ 2) n.levels_are d.room_only, c.requires.room);
    }

pub returns : goal.returns
returns c = λ t z l.
    let next = c.next_place-next.result in
    let n = c.next_place-next.ensures in
    let d = goes_deeper c.args.rules.now 2 _ _ [] next (omega arith) (c.requires.end, tt) n in
    let first = noted_at c.note_all.new.self z in
    let second = noted_at c.note_observations.new.list z in
    let after = noted_at c.note_observations-2.new.list z in
    noted_deeper c.args.rules.now _ _ 2 _ _ [] z _ _
    _ _ _ _
    (c.requires.end, tt) refl l refl c.first_at.ensures (c.note_all.ensures z)
    d.span_every (subst (λ k. IsNoted next.of_every.now (FitsKey 1 k (z ∷ [])) first second) n.every_is
    (c.note_observations.ensures c.if-not-note_observations.false z l))
    d.span_only (subst (λ k. IsNoted next.of_only.now (FitsKey 1 k (z ∷ [])) second after) n.only_is (c.note_observations-2.ensures t z l))
