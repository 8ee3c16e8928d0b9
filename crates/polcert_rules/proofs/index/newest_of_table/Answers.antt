use Rattle.std.proofs.Common.{◌∙◌, ◌*◌, ◌^◌, ap}
use Rattle.polcert_rules.proofs.Common.{key_base}
use Rattle.polcert_rules.proofs.Keyed.Covering.{newest_in}
use Rattle.polcert_rules.proofs.index.newest_of_table.Goals as goal

pub newest-requires-clause-from : goal.newest-requires-clause-from
newest-requires-clause-from c r among = ((c.rules_between.ensures.kept r).0 among).1

pub returns : goal.returns
returns c =
    newest_in _ _ _ _ _
    _ _ (ap (λ s. c.table_digit.result * s) c.span.ensures ∙ ap (λ d. d * key_base ^ 4) c.table_digit.ensures) c.span-2.ensures
    c.requires.indices c.rules_between.ensures.kept c.newest.ensures
