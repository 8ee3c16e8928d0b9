use Rattle.std.proofs.Common.{◌≡◌, to_z, of_z}
use Rattle.polcert_check.proofs.Common.{Controller}
use Rattle.std.proofs.Common.{rules, subst, w64}
use Rattle.std.proofs.lemmas.Int.{to_z-of_z}
use Rattle.polcert_check.proofs.Common.{controller_of, CanMove, IsLeastMove}
use Rattle.polcert_check.proofs.Lowerings.Raising.{least_raise_is, not_raised_is, small_raise}
use Rattle.polcert_check.proofs.raise.least_raise_watched.Goals as goal

pub returns-in-Ok : goal.returns-in-Ok
returns-in-Ok g c =
    let k : Controller = controller_of (g.C.Cells.table c.args.cells.now) c.args.graph.now c.args.vectors.now in
    let of = c.new-input.ensures in
    let is : to_z w64 (of_z w64 c.in-Ok.by) ≡ c.in-Ok.by = to_z-of_z w64 c.in-Ok.by (search rules) in
    let parts = c.new-input.result in
    let moves = subst (λ (j : Controller). IsLeastMove j (CanMove parts.side parts.vectors.now) c.in-Ok.by) of.checked_controller
    c.in-Ok.ensures.least in
    record {
      least = rw is (least_raise_is k c.args.vectors.now c.in-Ok.by (rw (of.side, of.vectors) at moves));
      refused = search rules;
      small = search rules;
    }

pub returns-in-Err : goal.returns-in-Err
returns-in-Err g c =
    let k = controller_of (g.C.Cells.table _) c.args.graph.now c.args.vectors.now in
    let of = c.new-input.ensures in
    record {
      least = search rules;
      refused = rw c.raise_of.ensures (not_raised_is k _ _
          (rw (of.checked_controller, of.side, of.vectors) at c.in-Err.ensures.refused));
      small = rw c.raise_of.ensures (small_raise k _ (rw of.checked_controller at c.in-Err.ensures.small));
    }
