use Rattle.std.proofs.Common.{arith, refl}
use Rattle.polcert_check.proofs.Certificates.{controller_is, values_are_within}
use Rattle.polcert_check.proofs.Sums.Scales.{scales_le}
use Rattle.polcert_check.proofs.check_input.CheckInput.new.Goals as goal

pub overflow_mul-step_scale : goal.overflow_mul-step_scale
overflow_mul-step_scale g c = grind (arith, scales_le)

pub invariant_of-result : goal.invariant_of-result
invariant_of-result g c = record {
  fits = c.requires;
  proper = controller_is _ _ _ c.requires (g.met.C.Cells.is_proper _) c.nodes-nodes.ensures.proper;
  values = values_are_within _ _ _ c.requires c.nodes-vector_count.ensures.proper;
  is_proper_graph = c.nodes-nodes.ensures.proper;
  are_proper = c.nodes-vector_count.ensures.proper;
  are_successors = c.successors.ensures;
  are_values = c.values.ensures;
  is_observations = c.observations.ensures;
  is_states = c.states.ensures;
  is_step_scale = rw (c.t_scale.ensures, c.o_scale.ensures) refl;
  is_discount = c.discount-discount.ensures;
}
