use Rattle.std.proofs.Common.{◌≡◌, ◌+◌, ◌<◌, ◌^◌, ℕ, List, [], ◌∷◌, ◌++◌, None, length, get_or, refl, sym, ap, subst, arith, rules}
use Rattle.polcert_rules.proofs.Common.{key_base, AreIndices, IsNoted}
use Rattle.polcert_rules.specs.Keys.{FitsKey}
use Rattle.polcert_rules.proofs.Indexes.Newer.{no_more}
use Rattle.polcert_rules.proofs.Indexes.NextPlaces.{first_index, goes_deeper, at_every, at_only}
use Rattle.polcert_rules.proofs.Indexes.NotedLaws.{noted_end, noted_deeper}
use Rattle.polcert_rules.proofs.row_rules.+note.Goals as goal

pub next_place-next-requires : goal.next_place-next-requires
next_place-next-requires t c =
    record {
      rising = c.requires.rising;
      few = c.requires.few;
      room = c.requires.room;
      index = first_index _ _ _ (subst (AreIndices c.args.levels) c.in-Some.ensures.cases.0 c.requires.indices);
    }

pub note-requires : goal.note-requires
note-requires t c =
    let d = goes_deeper _ _ _ _ _ _
    c.requires.few (subst (AreIndices c.args.levels) c.in-Some.ensures.cases.0 c.requires.indices) c.next_place-next.ensures in (
      search rules,
      (
        c.next_place-next.ensures.every_rises,
        (
          d.from_every,
          (
            d.few,
            (
              omega (arith, ap length c.in-Some.ensures.cases.0, c.requires.last, c.next_place-next.ensures.levels_are),
              (omega (arith, d.room_every, c.requires.room), (d.indices_are, omega (arith, c.note_all.auto.noted, c.requires.small))),
            ),
          ),
        ),
      ),
    )

pub note-requires-in-Some : goal.note-requires-in-Some
note-requires-in-Some t c =
    let d = goes_deeper _ _ _ _ _ _
    c.requires.few (subst (AreIndices c.args.levels) c.in-Some.ensures.cases.0 c.requires.indices) c.next_place-next.ensures in (
      search rules,
      (
        c.next_place-next.ensures.only_rises,
        (
          d.from_only,
          (
            d.few,
            (
              omega (arith, ap length c.in-Some.ensures.cases.0, c.requires.last, c.next_place-next.ensures.levels_are),
              (
                omega (arith, d.room_only, c.requires.room),
                (
                  d.indices_are,
                  omega (arith, c.note_all.auto.noted, c.note.auto.noted, c.requires.small),
                ),
              ),
            ),
          ),
        ),
      ),
    )

pub note_last-requires-clause-room : goal.note_last-requires-clause-room
note_last-requires-clause-room t c =
    let one : c.args.levels ≡ 1 = omega (arith, c.in-None.ensures.cases, c.requires.last) in
    omega (arith, subst (λ k. c.args.low + key_base ^ k < 2 ^ 64) one c.requires.room, c.requires.small, c.note_all.auto.noted)

pub returns-in-None : goal.returns-in-None
returns-in-None t c = λ i l.
    let z = c.args.first + i in
    let one : 1 ≡ c.args.levels = omega (arith, c.in-None.ensures.cases, c.requires.last) in
    subst (λ is. IsNoted c.args.rules.now (FitsKey c.args.levels c.args.low (is ++ z ∷ [])) (get_or c.args.noted.now i None)
    (get_or c.note_last.new.noted i None)) (sym (no_more _ c.in-None.ensures.cases))
    (subst (λ k. IsNoted c.args.rules.now (FitsKey k c.args.low (z ∷ [])) (get_or c.args.noted.now i None)
    (get_or c.note_last.new.noted i None)) one
    (noted_end _ _ z _ _ _ _ c.first_at.ensures (c.note_all.ensures i l)
    (c.note_last.ensures i (omega (arith, l, c.note_all.auto.noted)))))

pub returns-in-Some : goal.returns-in-Some
returns-in-Some t c = λ i l.
    let z = c.args.first + i in
    let next = c.next_place-next.result in
    let rest = c.in-Some.rest.now in
    let d = goes_deeper _ _ _ _ _ _
    c.requires.few (subst (AreIndices c.args.levels) c.in-Some.ensures.cases.0 c.requires.indices) c.next_place-next.ensures in
    subst (λ is. IsNoted c.args.rules.now (FitsKey c.args.levels c.args.low (is ++ z ∷ [])) (get_or c.args.noted.now i None)
    (get_or c.note-in-Some.new.noted i None)) (sym c.in-Some.ensures.cases.0)
    (noted_deeper _ _ _ _ _ _ rest z _
    _ _ _ _ _
    (subst (AreIndices c.args.levels) c.in-Some.ensures.cases.0 c.requires.indices)
    (omega (arith, ap length c.in-Some.ensures.cases.0, c.requires.last))
    (omega (arith, l, c.requires.small)) refl
    c.first_at.ensures (c.note_all.ensures i l)
    d.span_every (at_every (λ k low. IsNoted next.of_every.now (FitsKey k low (rest ++ z ∷ [])) (get_or c.note_all.new.noted i None)
    (get_or c.note.new.noted i None)) _ _ _ _ next c.next_place-next.ensures (c.note.ensures i (omega (arith, l, c.note_all.auto.noted))))
    d.span_only (at_only (λ k low. IsNoted next.of_only.now (FitsKey k low (rest ++ z ∷ [])) (get_or c.note.new.noted i None)
    (get_or c.note-in-Some.new.noted i None)) _ _ _ _ next c.next_place-next.ensures
    (c.note-in-Some.ensures i (omega (arith, l, c.note_all.auto.noted, c.note.auto.noted)))))
