use Rattle.polcert_text.proofs.Streams.SliceTexts.{slice_denotes, slice_refused, slice_failed}
use Rattle.polcert_policy.proofs.FlatGraphs.{indexed}
use Rattle.polcert_policy.proofs.TextLaws.{none_beyond}
use Rattle.polcert_policy.proofs.graph.read_graph.Goals as goal

pub returns-in-Ok : goal.returns-in-Ok
returns-in-Ok c =
    let is = slice_denotes (λ s. s.rest.now) c.new-source.ensures c.in-Ok.ensures.read in
    record { accepted = is; refused = tt; beyond = none_beyond _ _ _ _ (indexed _ _ _ _ is) }

pub returns-in-Err-Refused : goal.returns-in-Err-Refused
returns-in-Err-Refused c =
    let refused = slice_refused (λ s. s.rest.now) c.new-source.ensures (rw c.in-Err-Refused.field-0-is at c.in-Err-Refused.ensures.read) in
    record { accepted = refused.no_graph; refused = refused.refusal; beyond = refused.beyond }

pub unreachable-requires : goal.unreachable-requires
unreachable-requires c = slice_failed (λ s. s.rest.now) c.new-source.ensures (rw c.in-Err-Device.field-0-is at c.in-Err-Device.ensures.read)
