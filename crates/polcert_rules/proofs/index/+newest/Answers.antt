use Rattle.std.proofs.Common.{◌∙◌, ◌∷◌, sym, ap, subst, arith, rules}
use Rattle.polcert_rules.proofs.Common.{IsNewest, max_option, AreIndices}
use Rattle.polcert_rules.specs.Keys.{FitsKey}
use Rattle.polcert_rules.proofs.Indexes.Newer.{newest_deeper, newest_end, no_more}
use Rattle.polcert_rules.proofs.Indexes.NextPlaces.{first_index, goes_deeper, at_every, at_only}
use Rattle.polcert_rules.proofs.index.+newest.Goals as goal

pub next_place-next-requires : goal.next_place-next-requires
next_place-next-requires t c =
    record {
      rising = c.requires.rising;
      few = c.requires.few;
      room = c.requires.room;
      index = first_index _ _ _ (subst (AreIndices c.args.levels) c.in-Some.ensures.cases.0 c.requires.indices);
    }

pub newest-of_every-requires : goal.newest-of_every-requires
newest-of_every-requires t c =
    let d = goes_deeper _ _ _ _ _ _
    c.requires.few (subst (AreIndices c.args.levels) c.in-Some.ensures.cases.0 c.requires.indices) c.next_place-next.ensures in (
      search rules,
      (
        c.next_place-next.ensures.every_rises,
        (
          d.from_every,
          (
            d.few,
            (
              omega (arith, d.room_every, c.requires.room),
              d.indices_are,
            ),
          ),
        ),
      ),
    )

pub newest-of_only-requires : goal.newest-of_only-requires
newest-of_only-requires t c =
    let d = goes_deeper _ _ _ _ _ _
    c.requires.few (subst (AreIndices c.args.levels) c.in-Some.ensures.cases.0 c.requires.indices) c.next_place-next.ensures in (
      search rules,
      (
        c.next_place-next.ensures.only_rises,
        (
          d.from_only,
          (
            d.few,
            (
              omega (arith, d.room_only, c.requires.room),
              d.indices_are,
            ),
          ),
        ),
      ),
    )

pub returns-in-None : goal.returns-in-None
returns-in-None t c =
    subst (λ is. IsNewest c.args.rules.now (FitsKey c.args.levels c.args.low is) c.first_at-here.result)
    (sym (no_more _ c.in-None.ensures.cases))
    (newest_end _ _ _ _ c.first_at-here.ensures)

pub returns-in-Some : goal.returns-in-Some
returns-in-Some t c =
    let next = c.next_place-next.result in
    let rest = c.in-Some.rest.now in
    let d = goes_deeper _ _ _ _ _ _
    c.requires.few (subst (AreIndices c.args.levels) c.in-Some.ensures.cases.0 c.requires.indices) c.next_place-next.ensures in
    let joined = newest_deeper _ _ _ _ _ _ rest _ _
    _ _ d.deeper
    c.first_at-here.ensures d.span_every (at_every (λ k low. IsNewest next.of_every.now (FitsKey k low rest) c.newest-of_every.result) _ _ _
    _
    next c.next_place-next.ensures c.newest-of_every.ensures)
    d.span_only (at_only (λ k low. IsNewest next.of_only.now (FitsKey k low rest) c.newest-of_only.result) _ _ _ _ next
    c.next_place-next.ensures c.newest-of_only.ensures) in
    subst (λ is. IsNewest c.args.rules.now (FitsKey c.args.levels c.args.low is) c.max_option-in-Some.result)
    (sym c.in-Some.ensures.cases.0)
    (subst (IsNewest c.args.rules.now (FitsKey c.args.levels c.args.low (c.in-Some.index.now ∷ rest)))
    (sym (c.max_option-in-Some.ensures ∙ ap (max_option c.first_at-here.result) c.max_option.ensures)) joined)
