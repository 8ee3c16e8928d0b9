use Rattle.std.proofs.Common.{◌+◌, ◌*◌, [], subst, ap, refl, arith}
use Rattle.polcert_rules.proofs.Indexes.Newer.{IsSpan, is_deeper}
use Rattle.polcert_rules.proofs.index.next_place.Goals as goal

pub overflow_mul-only : goal.overflow_mul-only
overflow_mul-only c =
    let d = is_deeper c.args.levels c.args.low c.args.index [] c.span-step.result c.requires.index c.span-step.ensures in
    omega (arith, d.only, c.requires.room)

pub overflow_add-only-2 : goal.overflow_add-only-2
overflow_add-only-2 c =
    let d = is_deeper c.args.levels c.args.low c.args.index [] c.span-step.result c.requires.index c.span-step.ensures in
    omega (arith, d.only, c.requires.room)

pub overflow_add-only-3 : goal.overflow_add-only-3
overflow_add-only-3 c =
    let d = is_deeper c.args.levels c.args.low c.args.index [] c.span-step.result c.requires.index c.span-step.ensures in
    omega (arith, d.only, c.requires.room)

pub returns : goal.returns
returns c =
    let step = c.span-step.result in
    let is = c.span-step.ensures in
    record {
      levels_are = refl;
      every_is = ap (λ s. c.args.low + s) is;
      of_every = subst (IsSpan c.args.rules.now c.rules_between.result.now (c.args.low + step)) is c.rules_between.ensures.kept;
      every_rises = c.rules_between.ensures.rising;
      only_is = ap (λ s. c.args.low + (c.args.index + 2) * s) is;
      of_only = subst (IsSpan c.args.rules.now c.rules_between-2.result.now (c.args.low + (c.args.index + 2) * step)) is
          c.rules_between-2.ensures.kept;
      only_rises = c.rules_between-2.ensures.rising;
    }
