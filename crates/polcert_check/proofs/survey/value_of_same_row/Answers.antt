use Rattle.std.proofs.Common.{◌∙◌, sym}
use Rattle.polcert_check.proofs.Common.{node_controller}
use Rattle.polcert_check.proofs.Walking.SameRows.{expected_same}
use Rattle.polcert_check.proofs.survey.value_of_same_row.Goals as goal

pub returns : goal.returns
returns g c =
    expected_same (node_controller c.args.node.now) c.args.node.now.n c.args.other c.args.s c.args.value
    (λ e el. c.requires.same _ e c.requires.other el ∙ sym (c.requires.same _ e c.requires.start el)) c.requires.value
