use Rattle.std.proofs.Common.{◌≡◌, ◌∙◌, ℕ, ap, sym}
use Rattle.polcert_bound_answer.proofs.Common.{subst⁻¹, table_of, meaning, action_graph, PolicyVectors, value_of, shifted_by, AreInformed}
use Rattle.std.proofs.lemmas.Int.{to_z-of_z}
use mir.Syntax.{w64}
use Rattle.polcert_bound_answer.proofs.Raising.{raised_informed, can_shift}
use Rattle.polcert_bound_answer.proofs.raise.raised_for_writing.Goals as goal

pub shifted-requires : goal.shifted-requires
shifted-requires c = rw (to_z-of_z w64 c.args.by c.ranges.by)
    (can_shift (table_of (meaning c.args.given.now.model)) c.args.given.now.vectors c.args.by c.requires.constant)

pub of_actions-requires : goal.of_actions-requires
of_actions-requires c = record { some_actions = c.actions.ensures.count.0; few_actions = c.actions.ensures.count.1 }

pub returns : goal.returns
returns c =
    let v = c.args.given.now.vectors in
    let w = c.in_ok-vectors.vectors in
    let t = table_of (meaning c.args.given.now.model) in
    let back = to_z-of_z w64 c.args.by c.ranges.by in
    let is : w ≡ shifted_by v c.args.by = rw back at c.in_ok-vectors.ensures.shifted in
    let each = rw back at c.in_ok-vectors.ensures.values in
    record {
      shifted = is;
      informed = subst⁻¹ (λ (x : PolicyVectors). AreInformed t (value_of x)) is
          (raised_informed t v c.args.by c.requires.fit c.requires.constant
          (λ n s nl sl. ap (λ (x : PolicyVectors). value_of x n s) (sym is) ∙ each n s nl sl));
      graph = c.in_ok-graph.ensures ∙ ap (λ (a : ℕ). action_graph a) c.actions.ensures.elements;
    }
