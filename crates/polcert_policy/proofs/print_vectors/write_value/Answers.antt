use Rattle.std.proofs.Common.{◌≡◌, ◌∙◌, ◌++◌, ◌∷◌, [], append_assoc, ap, sym, rules}
use Rattle.std.proofs.lemmas.Int.{to_z-of_z}
use mir.Syntax.{w64}
use mir.Val.{to_z, of_z}
use Rattle.polcert_policy.proofs.Common.{scaled_text, value_of, after_value}
use Rattle.polcert_policy.proofs.VectorEndLaws.{in_range_fits}
use Rattle.polcert_text.proofs.Printing.Written.{and_then, as_text, stopped, unwritten}
use Rattle.polcert_policy.proofs.print_vectors.write_value.Goals as goal

pub returns-in_err-write_scaled_then : goal.returns-in_err-write_scaled_then
returns-in_err-write_scaled_then g c =
    let v = c.args.vectors.now in
    let value : to_z w64 (of_z w64 c.at-value.result) ≡ value_of v c.args.node c.args.state =
    to_z-of_z w64 c.at-value.result (in_range_fits c.at-value.result c.at-value.ensures.in_range) ∙ c.at-value.ensures.value in
    let after : after_value v.states c.args.state ≡ 10 ∷ 10 ∷ [] = search rules in
    as_text (ap (λ z. (scaled_text z ++ 10 ∷ []) ++ 10 ∷ []) value
    ∙ append_assoc (scaled_text (value_of v c.args.node c.args.state)) (10 ∷ []) (10 ∷ [])
    ∙ ap (λ xs. scaled_text (value_of v c.args.node c.args.state) ++ xs) (sym after))
    (stopped (search rules) (unwritten (10 ∷ []) c.in_err-write_scaled_then.ensures))

pub returns-then-state-states : goal.returns-then-state-states
returns-then-state-states g c =
    let v = c.args.vectors.now in
    let value : to_z w64 (of_z w64 c.at-value.result) ≡ value_of v c.args.node c.args.state =
    to_z-of_z w64 c.at-value.result (in_range_fits c.at-value.result c.at-value.ensures.in_range) ∙ c.at-value.ensures.value in
    let after : after_value v.states c.args.state ≡ 10 ∷ 10 ∷ [] = search rules in
    as_text (ap (λ z. (scaled_text z ++ 10 ∷ []) ++ 10 ∷ []) value
    ∙ append_assoc (scaled_text (value_of v c.args.node c.args.state)) (10 ∷ []) (10 ∷ [])
    ∙ ap (λ xs. scaled_text (value_of v c.args.node c.args.state) ++ xs) (sym after))
    (and_then c.in_ok-write_scaled_then.ensures c.write_all.ensures)
