-- What the run that raises points says, from what its calls say of what the texts of three sources denote.
use Rattle.std.proofs.Common.{◌≡◌, ◌∙◌, ⊎_elim, inl, inr, ℕ, ◌≤◌, ℤ, pos, ◌+ℤ◌, [], ◌∷◌, map, List, Option, Result, Ok, Err, IfErr, length}
use Rattle.std.proofs.Common.{refl, sym, ap, subst, arith}
use Rattle.std.proofs.lemmas.Int.{ints}
use Rattle.polcert_points_answer.proofs.Common.{Model, Points, Vectors, RunFault, Text, Write, Meaning, actions_of, observations_of}
use Rattle.polcert_points_answer.proofs.Common.{states_of, CellTable, table_of, AreInformed, FitActions, PointValues, IsActionVectorsText}
use Rattle.polcert_points_answer.proofs.Common.{IsPointsText, PolicyVectors, table_of_set, value_of, ArePointsDenoted, HasVectors}
use Rattle.polcert_points_answer.proofs.Common.{IsPointBoundAnswer, IsPointBoundVerdict, IsPointReadFault, PointCertificate, Yes}
use Rattle.polcert_text.specs.Cut.{text_limit}
use Rattle.polcert_text.specs.declared.number.Rounding.TheVariants.{Up}
use Rattle.polcert_cells.specs.Meaning.{HasLimitedNumbers}
use Rattle.polcert_cells.specs.SameCells.{HasSameCells}
use Rattle.polcert_model.proofs.LimitLaws.{within_limits}
use Rattle.polcert_policy.specs.ActionVectors.{action_graph}
use Rattle.polcert_policy.specs.FullForm.{vectors_text}
use Rattle.polcert_policy.specs.Points as sets
use Rattle.polcert_policy.specs.Vectors.{AreProperVectors, shifted_by}
use Rattle.polcert_policy.proofs.ActionGraphs.{action_counts, action_graph_proper, action_vectors_proper, node_count}
use Rattle.polcert_policy.proofs.FullFormLaws.{reads_back}
use Rattle.polcert_policy.proofs.OnePointsRefusal.{points_proper}
use Rattle.polcert_policy.proofs.ShiftLaws.{can_add, proper_shifted, value-shifted_by}
use Rattle.polcert_points_form.specs.FullForm.{points_text}
use Rattle.polcert_points_form.specs.RaisedSet.{raised_set}
use Rattle.polcert_points_form.proofs.WrittenPoints.{raised_reads_back}
use Rattle.polcert_check.specs.declared.fault.RaiseFault.{RaiseFault}
use Rattle.polcert_check.specs.declared.fault.RaiseFault.TheVariants as raises
use Rattle.polcert_check.proofs.Agreements.SameModels.{same_cells}
use Rattle.polcert_optimum.specs.InformedRaise.{IsRaiseConstant}
use Rattle.polcert_points.specs.RaisedPoints.{IsLeastPointRaise, IsNoPointRaise}
use Rattle.polcert_points.specs.declared.point_verdict.PointVerdict.TheVariants as verdicts
use Rattle.polcert_points.proofs.SamePoints.{point_verdict_there}
use Rattle.polcert_answer.specs.declared.fault.RunFault.TheVariants.{ReadModel, ReadPoints, ReadVectors}
use Rattle.polcert_answer.specs.Run.{IsNamedRightly}
use Rattle.polcert_answer.proofs.Denoted.{same_actions}
use Rattle.polcert_answer.proofs.ReadInTurn.{not_named, unnamed}
use Rattle.polcert_bound_answer.specs.Raise.{IsWhyNotBoundRaised}
use Rattle.polcert_bound_answer.proofs.Denoted.{fit_of}
use Rattle.polcert_bound_answer.proofs.Passing.{each_fault}
use Rattle.polcert_bound_answer.proofs.Raising as bound
use Rattle.polcert_points_answer.specs.Raise.{ArePointsNotRaisable, HasRaisedPoints, IsPointRaiseFault, IsPointRaiseOver}
use Rattle.polcert_points_answer.specs.Raise.{IsWhyPointsNotRaised, raised_vectors_text}
use Rattle.polcert_points_answer.specs.Run.{NamesPointSourcesRightly, ReadsPointsLast, StopsPointsRightly}
use Rattle.polcert_points_answer.specs.Steps.Raising.{ArePointsRaised, IsNoRoomForPoints, IsPointRaiseWriteFault}
use Rattle.polcert_points_answer.proofs.Answering.{has, texts_of}
use Rattle.polcert_points_answer.proofs.Denoted.{bound_of, certificate_of, of_each, verdict_of_each, yes_certified}
use Rattle.polcert_points_answer.proofs.OneAnswer.{but_for_memory}

-- ---- tables with the same cells have the same constants
same_back : (t u : CellTable) → HasSameCells t u → HasSameCells u t
same_back t u same = record {
  states = sym same.states;
  actions = sym same.actions;
  observations = sym same.observations;
  discount = sym same.discount;
  t_scale = sym same.t_scale;
  o_scale = sym same.o_scale;
  t = λ a s e al sl el. sym (same.t a s e (omega (arith, al, same.actions)) (omega (arith, sl, same.states))
      (omega (arith, el, same.states)));
  o = λ a e z al el zl. sym (same.o a e z (omega (arith, al, same.actions)) (omega (arith, el, same.states))
      (omega (arith, zl, same.observations)));
  r = λ a s e z al sl el zl. sym (same.r a s e z (omega (arith, al, same.actions)) (omega (arith, sl, same.states))
      (omega (arith, el, same.states)) (omega (arith, zl, same.observations)));
}

module _ (t u : CellTable) (same : HasSameCells t u) (vectors : ℕ → ℕ → ℤ) (p : PointValues) where
  least_there : (by : ℕ) → IsLeastPointRaise t vectors p by → IsLeastPointRaise u vectors p by
  least_there by h = record {
    room = h.room;
    passes = point_verdict_there t u same vectors (table_of_set (raised_set p by)) verdicts.Yes h.passes;
    least = λ d less passes. h.least d less (point_verdict_there u t (same_back t u same) vectors (table_of_set (raised_set p d))
        verdicts.Yes passes);
  }

  none_there : IsNoPointRaise t vectors p → IsNoPointRaise u vectors p
  none_there none by can passes = none by can (point_verdict_there u t (same_back t u same) vectors (table_of_set (raised_set p by))
      verdicts.Yes passes)

-- ---- what is said of what three texts denote is said of whatever they denote
module _ {model vectors points : List ℕ} (m : Meaning) (v : PolicyVectors) (p : PointValues) (pair : HasVectors model vectors m v)
    (are : IsPointsText (states_of m) (actions_of m) (observations_of m) points p) where
  over_each : (up : ℤ) (by : ℕ) → IsPointRaiseOver (table_of m) v p up by → (c : PointCertificate model vectors points)
      → IsPointRaiseOver (table_of c.meaning) c.values c.set up by
  over_each up by h c = (
    bound.constant_of_each m v pair.is_model pair.are_vectors up h.0 (bound_of c),
    of_each m v p pair are (λ n w q. IsLeastPointRaise (table_of n) (value_of (shifted_by w up)) q by)
        (λ n same. least_there (table_of m) (table_of n) (same_cells m n same) (value_of (shifted_by v up)) p by h.1) c,
  )

  points_text_of_each : (by : ℕ) (c : PointCertificate model vectors points)
      → points_text (raised_set p by) ≡ points_text (raised_set c.set by)
  points_text_of_each by = of_each m v p pair are (λ n w q. points_text (raised_set p by) ≡ points_text (raised_set q by)) (λ n same. refl)

  vectors_why : (fault : RaiseFault) → IsWhyNotBoundRaised (table_of m) v fault → (c : PointCertificate model vectors points)
      → IsWhyNotBoundRaised (table_of c.meaning) c.values fault
  vectors_why fault h c = bound.why_of_each m v pair.is_model pair.are_vectors fault h (bound_of c)

  none_of_each : (up : ℤ) → IsRaiseConstant (table_of m) v up → IsNoPointRaise (table_of m) (value_of (shifted_by v up)) p
      → (c : PointCertificate model vectors points)
      → (x : ℤ) × IsRaiseConstant (table_of c.meaning) c.values x
      × IsNoPointRaise (table_of c.meaning) (value_of (shifted_by c.values x)) c.set
  none_of_each up constant none c = (
    up,
    bound.constant_of_each m v pair.is_model pair.are_vectors up constant (bound_of c),
    of_each m v p pair are (λ n w q. IsNoPointRaise (table_of n) (value_of (shifted_by w up)) q)
        (λ n same. none_there (table_of m) (table_of n) (same_cells m n same) (value_of (shifted_by v up)) p none) c,
  )

  why_of_each : (fault : RaiseFault) → IsWhyPointsNotRaised (table_of m) v p fault → (c : PointCertificate model vectors points)
      → IsWhyPointsNotRaised (table_of c.meaning) c.values c.set fault
  why_of_each raises.OutOfRange h c =
      ⊎_elim (λ (why : IsWhyNotBoundRaised (table_of m) v raises.OutOfRange). inl (vectors_why raises.OutOfRange why c))
      (λ (none : (up : ℤ) × IsRaiseConstant (table_of m) v up × IsNoPointRaise (table_of m) (value_of (shifted_by v up)) p). inr
      (none_of_each none.0 none.1 none.2 c)) h
  why_of_each raises.Memory h c = vectors_why raises.Memory h c
  why_of_each (raises.NoConstant a s amount) h c = vectors_why (raises.NoConstant a s amount) h c
  why_of_each (raises.NoSuccessor a s z) h c = vectors_why (raises.NoSuccessor a s z) h c

-- ---- vectors raised by nothing
plus_none : (x : ℤ) → x +ℤ pos 0 ≡ x
plus_none x = omega (arith, ints)

same_values : (xs : List ℤ) → map (λ h. h +ℤ pos 0) xs ≡ xs
same_values [] = refl
same_values (x ∷ xs) = λ i. plus_none x i ∷ same_values xs i

shifted_none : (v : PolicyVectors) (up : ℤ) → up ≡ pos 0 → shifted_by v up ≡ v
shifted_none v up none = ap (λ (x : ℤ). shifted_by v x) none
    ∙ (λ i. record { nodes = v.nodes; states = v.states; values = same_values v.values i })

-- ---- the texts of three sources
module _ (of_model of_vectors of_points : List ℕ → Type 0) (m : Meaning) (v : PolicyVectors) (p : PointValues)
    (d : ArePointsDenoted of_model of_vectors of_points m v p) where
  limits : HasLimitedNumbers m
  limits = within_limits d.bound.is_model.lexemes m d.bound.is_model.denotes

  proper_vectors : AreProperVectors v
  proper_vectors = action_vectors_proper (actions_of m) (states_of m) d.bound.second v limits.actions.0 limits.actions.1 limits.states.0
      limits.states.1 d.bound.are_vectors

  proper_points : sets.AreProperPoints p
  proper_points =
      points_proper (states_of m) (actions_of m) (observations_of m) d.third p limits.states.0 limits.states.1 limits.actions.0
      limits.actions.1 limits.observations.0 limits.observations.1 d.are_points

  module _ (up : ℤ) (constant : IsRaiseConstant (table_of m) v up) where
    proper_raised : AreProperVectors (shifted_by v up)
    proper_raised = proper_shifted v.nodes v.states v.values up proper_vectors
        (can_add v.nodes v.states v.values up proper_vectors (bound.can_shift (table_of m) v up constant))

    informed : AreInformed (table_of m) (value_of (shifted_by v up))
    informed =
        bound.raised_informed (table_of m) v up (fit_of m v d.bound.second d.bound.are_vectors) constant
        (λ n s nl sl. value-shifted_by v up n s proper_vectors nl sl)

    -- the raised vectors, as they are written and read back
    vectors_back : IsActionVectorsText (actions_of m) (states_of m) (raised_vectors_text m v up) (shifted_by v up)
    vectors_back =
        let counts = action_counts (actions_of m) (states_of m) d.bound.second v d.bound.are_vectors in
        subst (λ (n : ℕ). IsActionVectorsText (actions_of m) n (raised_vectors_text m v up) (shifted_by v up)) counts.1
        (reads_back (action_graph (actions_of m)) (shifted_by v up) (action_graph_proper (actions_of m) limits.actions.0 limits.actions.1)
        proper_raised (counts.0 ∙ sym (node_count (actions_of m))) Up)

    raised_pair : HasVectors d.bound.first (raised_vectors_text m v up) m (shifted_by v up)
    raised_pair = record { is_model = d.bound.is_model; are_vectors = vectors_back }

    -- and with them the raised points
    module _ (by : ℕ) (text : List ℕ) (is : text ≡ points_text (raised_set p by))
        (least : IsLeastPointRaise (table_of m) (value_of (shifted_by v up)) p by) (short : length text ≤ text_limit) where
      points_back : IsPointsText (states_of m) (actions_of m) (observations_of m) text (raised_set p by)
      points_back =
          subst (λ (x : List ℕ). IsPointsText (states_of m) (actions_of m) (observations_of m) x (raised_set p by)) (sym is)
          (raised_reads_back (states_of m) (actions_of m) (observations_of m) d.third p by proper_points d.are_points least.room
          (subst (λ (x : List ℕ). length x ≤ text_limit) is short))

      passed : IsPointBoundAnswer d.bound.first (raised_vectors_text m v up) text (Ok Yes)
      passed = (
        certificate_of m (shifted_by v up) (raised_set p by) raised_pair points_back,
        verdict_of_each m (shifted_by v up)
            (raised_set p by) raised_pair points_back Yes (informed, least.passes),
      )

      passed_as_given : up ≡ pos 0 → IsPointBoundAnswer d.bound.first d.bound.second text (Ok Yes)
      passed_as_given none =
          let same : shifted_by v up ≡ v = shifted_none v up none in
          let pair : HasVectors d.bound.first d.bound.second m v = has of_model of_vectors of_points m v p d in (
            certificate_of m v (raised_set p by) pair points_back,
            verdict_of_each m v (raised_set p by) pair points_back Yes
                (subst (λ (w : PolicyVectors). IsPointBoundVerdict (table_of m) (value_of w) (table_of_set (raised_set p by)) Yes) same
                (informed, least.passes)),
          )

      passed_for_each : (c : PointCertificate d.bound.first d.bound.second d.third)
          → IsPointBoundAnswer d.bound.first (raised_vectors_text c.meaning c.values up) text (Ok Yes)
      passed_for_each =
          of_each m v p (has of_model of_vectors of_points m v p d) d.are_points
          (λ n w q. IsPointBoundAnswer d.bound.first (raised_vectors_text n w up) text (Ok Yes))
          (λ n same. subst (λ (a : ℕ). IsPointBoundAnswer d.bound.first (vectors_text (action_graph a) (shifted_by v up)) text (Ok Yes))
          (same_actions same) passed)

  pub has_raised : (by : ℕ) (text : List ℕ) → ArePointsRaised m v p by text → HasRaisedPoints of_model of_vectors of_points by text
  has_raised by text are = record {
    texts = texts_of of_model of_vectors of_points m v p d;
    up = are.up;
    least = over_each m v p (has of_model of_vectors of_points m v p d) d.are_points are.up by are.constant;
    is_text = λ c. are.text_is ∙ points_text_of_each m v p (has of_model of_vectors of_points m v p d) d.are_points by c;
    answer = λ c short. passed_for_each are.up are.constant.0 by text are.text_is are.constant.1 short c;
    only_yes = λ c short. but_for_memory d.bound.first (raised_vectors_text c.meaning c.values are.up) text Yes
        (passed_for_each are.up are.constant.0 by text are.text_is are.constant.1 short c);
    as_given = λ none short. passed_as_given are.up are.constant.0 by text are.text_is are.constant.1 short none;
    promise = λ c short. yes_certified d.bound.first (raised_vectors_text c.meaning c.values are.up) text
        (passed_for_each are.up are.constant.0 by text are.text_is are.constant.1 short c);
  }

  pub not_raisable : (fault : RaiseFault) → IsWhyPointsNotRaised (table_of m) v p fault
      → ArePointsNotRaisable of_model of_vectors of_points fault
  not_raisable fault why = record {
    texts = texts_of of_model of_vectors of_points m v p d;
    reason = why_of_each m v p (has of_model of_vectors of_points m v p d) d.are_points fault why;
  }

-- ---- why points are not raised
module _ (t : CellTable) (v : PolicyVectors) (p : PointValues) where
  pub why_vectors : (fault : RaiseFault) → IsWhyNotBoundRaised t v fault → IsWhyPointsNotRaised t v p fault
  why_vectors raises.OutOfRange why = inl why
  why_vectors raises.Memory why = why
  why_vectors (raises.NoConstant a s amount) why = why
  why_vectors (raises.NoSuccessor a s z) why = why

  pub why_points : (up : ℤ) → IsRaiseConstant t v up → (fault : RaiseFault) → IsNoRoomForPoints t (value_of (shifted_by v up)) p fault
      → IsWhyPointsNotRaised t v p fault
  why_points up constant raises.OutOfRange none = inr (up, constant, none)
  why_points up constant raises.Memory none = (up, constant)
  why_points up constant (raises.NoConstant a s amount) none = absurd none
  why_points up constant (raises.NoSuccessor a s z) none = absurd none

-- ---- kinds of faults
pub read_in_raise : (f : RunFault) → IsPointReadFault f → IsPointRaiseFault f
read_in_raise f h1 = grind arith

written_in_raise : (f : RunFault) → IsPointRaiseWriteFault f → IsPointRaiseFault f
written_in_raise f h1 = grind arith

pub raised_in_raise : {T : Type 0} (r : Result T RunFault) → IfErr r IsPointRaiseWriteFault → IfErr r IsPointRaiseFault
raised_in_raise r of = each_fault IsPointRaiseWriteFault IsPointRaiseFault written_in_raise r of

-- ---- the answer of the call that writes
points_after : {T V P : Type 0} (vectors vectors' : V) (points points' : P) (r : Result T RunFault) → IfErr r IsPointRaiseWriteFault
    → IfErr r (λ fault. ReadsPointsLast fault vectors vectors' points points')
points_after vectors vectors' points points' r of = grind arith

module _ {T : Type 0} (r : Result T RunFault) (of_writing : IfErr r IsPointRaiseWriteFault) where
  raise_fault : (x : RunFault) → r ≡ Err x → IsPointRaiseWriteFault x
  raise_fault x same = subst (λ (y : Result T RunFault). IfErr y IsPointRaiseWriteFault) same of_writing

  no_source : {U : Type 0} (x : RunFault) (before after : ℕ) (u : U) → (IsPointRaiseWriteFault x → ⊥)
      → IsNamedRightly (◌≡◌ {A = Result U RunFault} (Ok u) (Err x)) before after → IsNamedRightly (r ≡ Err x) before after
  no_source x before after u none h = not_named before after (λ same. none (raise_fault x same)) (unnamed u x before after h)

  module _ {U M V P W : Type 0}
      {model_reads : M → ℕ → Option (List ℕ) → M → Type 0} {model_failures : M → ℕ} {model model' : M}
      {vectors_reads : V → ℕ → Option (List ℕ) → V → Type 0} {vectors_failures : V → ℕ} {vectors vectors' : V}
      {points_reads : P → ℕ → Option (List ℕ) → P → Type 0} {points_failures : P → ℕ} {points points' : P}
      {sink_failures : W → ℕ} {sink sink' : W} where
    pub stops_raised : (u : U) → NamesPointSourcesRightly (Ok u) model_failures model model' vectors_failures vectors vectors'
        points_failures points points'
        → IsNamedRightly (r ≡ Err Write) (sink_failures sink) (sink_failures sink')
        → ((fault : RunFault) → r ≡ Err fault → (fault ≡ Write → ⊥) → sink' ≡ sink)
        → StopsPointsRightly r model_reads model_failures model model' vectors_reads vectors_failures vectors vectors' points_reads
        points_failures points points' sink_failures sink sink'
    stops_raised u read write untouched = record {
      refused = record {
        of_model = λ fault same. absurd (raise_fault (Text (Model fault)) same);
        of_vectors = λ fault same. absurd (raise_fault (Text (Vectors fault)) same);
        of_points = λ fault same. absurd (raise_fault (Text (Points fault)) same);
      };
      read = record {
        of_model = no_source ReadModel _ _ u (λ of. of) read.of_model;
        of_vectors = no_source ReadVectors _ _ u (λ of. of) read.of_vectors;
        of_points = no_source ReadPoints _ _ u (λ of. of) read.of_points;
      };
      write = write;
      in_order = points_after _ _ _ _ r of_writing;
      untouched = untouched;
    }

-- ---- what the calls that raise say
pub are_raised : (m : Meaning) (v w : PolicyVectors) (p : PointValues) (by : ℕ) → (up : ℤ) × IsRaiseConstant (table_of m) v up
    × (w ≡ shifted_by v up)
    → IsLeastPointRaise (table_of m) (value_of w) p by → ArePointsRaised m v p by (points_text (raised_set p by))
are_raised m v w p by raised least = record {
  up = raised.0;
  constant = (raised.1, subst (λ (x : PolicyVectors). IsLeastPointRaise (table_of m) (value_of x) p by) raised.2 least);
  text_is = refl;
}

pub fit_raised : (t : CellTable) (v w : PolicyVectors) → FitActions t v → (up : ℤ) × IsRaiseConstant t v up × (w ≡ shifted_by v up)
    → FitActions t w
fit_raised t v w fit raised = subst (λ (x : PolicyVectors). FitActions t x) (sym raised.2)
    (record { actions = fit.actions; states = fit.states })

-- why they can't be, with the vectors that were raised
pub why_over : (t : CellTable) (v w : PolicyVectors) (p : PointValues) → (up : ℤ) × IsRaiseConstant t v up × (w ≡ shifted_by v up)
    → (fault : RaiseFault) → IsNoRoomForPoints t (value_of w) p fault → IsWhyPointsNotRaised t v p fault
why_over t v w p raised fault none = why_points t v p raised.0 raised.1 fault
    (subst (λ (x : PolicyVectors). IsNoRoomForPoints t (value_of x) p fault) raised.2 none)
