use Rattle.std.proofs.Common.{rules, arith, refl}
use Rattle.polcert_text.proofs.Common.{take_rest}
use Rattle.std.proofs.lemmas.List.{length-drop}
use Rattle.polcert_text.specs.Sink.{nothing}
use Rattle.polcert_text.proofs.Printing.Taking.{took_more, took_front, on_err}
use Rattle.polcert_text.proofs.sink.write_all.Goals as goal

pub loop-at-init : goal.loop-at-init
loop-at-init g c = record { in_range = omega arith; took = nothing; same_count = refl }

pub returns-in_err-at : goal.returns-in_err-at
returns-in_err-at g c = grind (arith, took_front, on_err)

pub loop-at-preserved : goal.loop-at-preserved
loop-at-preserved g c = record {
  in_range = (let bound = simp (take_rest, length-drop) at c.in_ok-at.ensures.bound in omega arith);
  took = took_more _ _ _ _ _ c.loop-at.invariant.took (rw take_rest at c.in_ok-at.ensures.call);
  same_count = search rules;
}
