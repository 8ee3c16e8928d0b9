use Rattle.std.proofs.Common.{rules, arith, refl}
use Rattle.std.proofs.lemmas.Grind.{common_steps}
use Rattle.polcert_text.proofs.Common.{nothing}
use Rattle.polcert_text.proofs.Streams.Giving.{gave_more}
use Rattle.polcert_text.proofs.source.read_all.Goals as goal

pub loop-piece-init : goal.loop-piece-init
loop-piece-init g c = record {
  in_range = grind (arith, common_steps);
  gave = rw c.new-bytes.ensures.items nothing;
  same_count = refl;
}

pub returns-then-is_err-clause-memory : goal.returns-then-is_err-clause-memory
returns-then-is_err-clause-memory g c = λ _. (
  _,
  gave_more _ _ _ _ _ _ c.loop-piece.invariant.gave c.in-Ok.ensures.call
      (grind (arith, common_steps)) refl,
)

pub loop-piece-preserved : goal.loop-piece-preserved
loop-piece-preserved g c = record {
  in_range = grind (arith, common_steps);
  gave = gave_more _ _ _ _ _ _ c.loop-piece.invariant.gave c.in-Ok.ensures.call (grind (arith, common_steps)) (grind (arith, common_steps));
  same_count = search rules;
}

pub returns-in-Err-clause-whole : goal.returns-in-Err-clause-whole
returns-in-Err-clause-whole g c = search rules

pub returns-in-Err-clause-same_count : goal.returns-in-Err-clause-same_count
returns-in-Err-clause-same_count g c = search rules
