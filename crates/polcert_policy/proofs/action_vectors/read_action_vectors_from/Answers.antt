use Rattle.std.proofs.Common.{false, [], refl, subst}
use Rattle.polcert_policy.proofs.Common.{ReadsText, Up, IsRoundedVectorsText, IsRefusedRoundedVectorsText}
use Rattle.polcert_text.specs.Source as source
use Rattle.polcert_text.proofs.Streams.ReadTexts.{text_refused}
use Rattle.polcert_policy.specs.declared.fault.VectorFault.TheVariants.{Memory}
use Rattle.polcert_policy.proofs.action_vectors.read_action_vectors_from.Goals as goal

pub returns-in-Ok : goal.returns-in-Ok
returns-in-Ok g c = record {
  read = subst (λ graph. ReadsText g.S.Source.reads g.S.Source.failures c.args.source.now
      c.read_rounded_vectors_from.new.source (IsRoundedVectorsText Up graph c.args.states)
      (IsRefusedRoundedVectorsText Up graph c.args.states) c.read_rounded_vectors_from.result)
      c.in-Ok.ensures c.read_rounded_vectors_from.ensures.read;
}

pub returns-in-Err : goal.returns-in-Err
returns-in-Err g c = record {
  read = text_refused Memory (record {
    bytes = [];
    is_whole = false;
    was_read = source.Gives.nothing;
    each = λ text fits. record { no_vectors = tt; refusal = tt };
  })
      refl;
}
