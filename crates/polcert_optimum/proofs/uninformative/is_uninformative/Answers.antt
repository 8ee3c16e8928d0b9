use Rattle.polcert_optimum.proofs.Checking.Reached.{reached_on}
use Rattle.polcert_optimum.proofs.uninformative.is_uninformative.Goals as goal

pub returns : goal.returns
returns g c _ =
    let t = g.C.Cells.table _ in
    let pair = c.args.pair.now in
    let first = c.in-Some.first.column in (
      first,
      record {
        within = c.in-Some.ensures.0.1;
        each = reached_on _ _ _ t.states c.in_default-next_end.ensures c.loop-end.invariant.each;
      },
    )
