-- Vectors as they are written are near those that are read, but for the constant by which all were moved.
use Rattle.std.proofs.Common.{◌≡◌, ℕ, ◌+◌, ◌*◌, ◌<◌, ℤ, pos, neg_ℤ, ◌+ℤ◌, ◌*ℤ◌, ◌≤ℤ◌, Bool, Option, Some, None, List, length, slice_get}
use Rattle.std.proofs.Common.{get_or, sym, ap, ◌∙◌, subst, arith}
use Rattle.std.specs.Prelude.{map, option_map}
use Rattle.std.proofs.lemmas.Int.{by_lt_z}
use Rattle.std.proofs.lemmas.Option.{get_or_from_slice_get, slice_get-map}
use Rattle.std.proofs.Math.IntN.{*ℤ_comm}
use Rattle.polcert_text.specs.Numbers.{IsFloor, signed}
unfoldable use Rattle.polcert_text.specs.Numbers.{millionth, size_of}
use Rattle.polcert_text.specs.declared.number.Rounding.TheVariants.{Down}
use Rattle.polcert_text.proofs.Numbers.SizeLaws.{millionth_pos}
use Rattle.polcert_cells.specs.Meaning.{states_of}
use Rattle.polcert_policy.specs.Graphs.{PolicyGraph, nodes}
use Rattle.polcert_policy.specs.Vectors.{Part, PolicyVectors, is_negative, shifted_by, value_of}
use Rattle.polcert_policy.specs.VectorText.{IsVectorsText}
use Rattle.polcert_policy.proofs.FlatVectors.{parts_from}
use Rattle.polcert_policy.proofs.Places.{get_within, place_inside}
use Rattle.polcert_check.proofs.Sums.Ring.{linear, one-*ℤ, *ℤ-+ℤ, +ℤ-*ℤ}
use Rattle.polcert_answer.specs.Headline.{Certificate, controller}
use Rattle.polcert_belief.specs.Belief.{Belief}
use Rattle.polcert_belief.specs.Following.{Selector, mass_after, worth_after}
use Rattle.polcert_belief.specs.Tolerance.{AreValuesNear, PicksGreatest, PicksWithin, run_worth}
use Rattle.polcert_belief.proofs.Near.{cancel, near_values}
use Rattle.polcert_belief_answer.specs.Written.{AreMoved, AreWritten, written_number}

-- ---- a number is less than a millionth above the one that is read
next_is : (h : ℤ) (u : ℕ) → (h +ℤ pos 1) *ℤ pos u ≡ pos u *ℤ h +ℤ pos u
next_is h u = omega (arith, linear, +ℤ-*ℤ h (pos 1) (pos u), one-*ℤ (pos u), *ℤ_comm h (pos u))

above_le : (h x : ℤ) (u : ℕ) → ((k : ℤ) → (k *ℤ pos u) ≤ℤ x → k ≤ℤ h) → x ≤ℤ (pos u *ℤ h +ℤ pos u)
above_le h x u greatest =
    by_lt_z x ((h +ℤ pos 1) *ℤ pos u)
    (λ less. omega (arith, linear, less, next_is h u))
    (λ least. absurd (omega (arith, linear, greatest (h +ℤ pos 1) least)))

below_le : (h x : ℤ) (u : ℕ) → (h *ℤ pos u) ≤ℤ x → (pos u *ℤ h) ≤ℤ x
below_le h x u low = omega (arith, linear, low, *ℤ_comm h (pos u))

abbrev IsJustAbove : ℤ → ℤ → Type 0
IsJustAbove value number = ((pos millionth *ℤ value) ≤ℤ number) × (number ≤ℤ (pos millionth *ℤ value +ℤ pos millionth))

just_above : (negative : Bool) (bytes : List ℕ) (h : ℤ) → IsFloor negative bytes h → IsJustAbove h (signed negative (size_of bytes))
just_above negative bytes h is = (below_le h _ millionth is.not_above, above_le h _ millionth is.greatest)

module _ {graph : PolicyGraph} {states : ℕ} {text : List ℕ} {vectors : PolicyVectors} {written : ℕ → ℕ → ℤ}
    (are : AreWritten graph states text vectors written) where
  written_above : (n s : ℕ) → n < nodes graph → s < states → IsJustAbove (value_of vectors n s) (written n s)
  written_above n s nl sl =
      let (p, is_part) = get_within are.are_vectors.parts (n * (1 + states) + (1 + s)) (inside n s nl sl) in
      let (h, is_value, part) = are.are_vectors.records.value n s p sl is_part in
      let value : value_of vectors n s ≡ h = ap (λ (width : ℕ). get_or vectors.values (n * width + s) (pos 0)) are.are_vectors.states_are
      ∙ get_or_from_slice_get vectors.values (n * states + s) h (pos 0) is_value in
      subst (λ (number : ℤ). IsJustAbove (value_of vectors n s) number) (sym (are.numbers n s p nl sl is_part))
      (subst (λ (x : ℤ). IsJustAbove x (written_number p)) (sym value) (just_above (is_negative p.sign) p.token.bytes h part.rounded))
    where
      inside : (n s : ℕ) → n < nodes graph → s < states → n * (1 + states) + (1 + s) < length are.are_vectors.parts
      inside n s nl sl = omega (arith, place_inside (1 + states) n (1 + s) (nodes graph) nl (omega (arith, sl)), are.are_vectors.count)

-- ---- as a planner runs them
moved_low : (u : ℕ) (low high by number : ℤ) → low ≡ high +ℤ by → (pos u *ℤ high) ≤ℤ number
    → (pos u *ℤ low +ℤ neg_ℤ (pos u *ℤ by)) ≤ℤ number
moved_low u low high by number is h = rw is (omega (arith, linear, h, *ℤ-+ℤ (pos u) high by))

moved_high : (u : ℕ) (low high by number : ℤ) → low ≡ high +ℤ by → number ≤ℤ (pos u *ℤ high +ℤ pos u)
    → number ≤ℤ (pos u *ℤ low +ℤ neg_ℤ (pos u *ℤ by) +ℤ pos u)
moved_high u low high by number is h = rw is (omega (arith, linear, h, *ℤ-+ℤ (pos u) high by))

one_pick : (u m : ℕ) (x y : ℤ) → 0 < u → (pos u *ℤ x) ≤ℤ (pos u *ℤ y +ℤ pos (u * m)) → (pos 1 *ℤ x) ≤ℤ (pos 1 *ℤ y +ℤ pos (1 * m))
one_pick u m x y some h =
    let less : x ≤ℤ (y +ℤ pos m) = cancel u x (y +ℤ pos m) some (omega (arith, linear, h, *ℤ-+ℤ (pos u) y (pos m))) in
    let once : 1 * m ≡ m = omega arith in
    rw once (omega (arith, linear, less, one-*ℤ x, one-*ℤ y))

pub written_picks : (model graph vectors own : List ℕ) (c : Certificate model graph vectors) (read : PolicyVectors) (written : ℕ → ℕ → ℤ)
    (by : ℤ) → AreWritten c.policy (states_of c.meaning) own read written
    → AreMoved c.policy (states_of c.meaning) read by c.values → (belief : Belief) (selector : Selector)
    → PicksGreatest (controller c) selector (run_worth (controller c) belief selector written)
    → PicksWithin 1 1 (controller c) belief selector
written_picks model graph vectors own c read written by are moved belief selector picks =
    let near : AreValuesNear millionth millionth (controller c) written (neg_ℤ (pos millionth *ℤ by)) = λ n s nl sl.
    let above = written_above are n s nl sl in
    (moved_low millionth _ _ by _ (moved n s nl sl) above.0, moved_high millionth _ _ by _ (moved n s nl sl) above.1) in
    let within : PicksWithin millionth millionth (controller c) belief selector =
    near_values millionth millionth (controller c) belief selector written (neg_ℤ (pos millionth *ℤ by)) near picks in
    record {
      are_nodes = within.are_nodes;
      none_better = λ observations m f ml. one_pick millionth (mass_after (controller c) belief selector observations)
          (worth_after (controller c) belief selector observations m) _ millionth_pos (within.none_better observations m f ml);
    }

-- ---- lowered vectors are moved
pub shifted_are_moved : (graph : PolicyGraph) (states : ℕ) (text : List ℕ) (vectors : PolicyVectors) (written : ℕ → ℕ → ℤ) (by : ℤ)
    → AreWritten graph states text vectors written → AreMoved graph states vectors by (shifted_by vectors by)
shifted_are_moved graph states text vectors written by are n s nl sl =
    let v = are.are_vectors in
    let (p, is_part) = get_within v.parts (n * (1 + states) + (1 + s))
    (omega (arith, place_inside (1 + states) n (1 + s) (nodes graph) nl (omega (arith, sl)), v.count)) in
    let (h, is_value, part) = v.records.value n s p sl is_part in
    let value : value_of vectors n s ≡ h = ap (λ (width : ℕ). get_or vectors.values (n * width + s) (pos 0)) v.states_are
    ∙ get_or_from_slice_get vectors.values (n * states + s) h (pos 0) is_value in
    let is_shifted : slice_get (map (λ x. x +ℤ by) vectors.values) (n * states + s) ≡ Some (h +ℤ by) =
    slice_get-map (λ x. x +ℤ by) vectors.values (n * states + s) ∙ ap (option_map (λ x. x +ℤ by)) is_value in
    let shifted : value_of (shifted_by vectors by) n s ≡ h +ℤ by =
    ap (λ (width : ℕ). get_or (map (λ x. x +ℤ by) vectors.values) (n * width + s) (pos 0)) v.states_are
    ∙ get_or_from_slice_get (map (λ x. x +ℤ by) vectors.values) (n * states + s) (h +ℤ by) (pos 0) is_shifted in
    shifted ∙ ap (λ (x : ℤ). x +ℤ by) (sym value)

-- ---- each text has its numbers
abbrev number_at : Option Part → ℤ
number_at None = pos 0
number_at (Some p) = written_number p

pub some_written : (graph : PolicyGraph) (states : ℕ) (text : List ℕ) (vectors : PolicyVectors) → IsVectorsText graph states text vectors
    → (written : ℕ → ℕ → ℤ) × AreWritten graph states text vectors written
some_written graph states text vectors (tokens, cut, fields) =
    let are = parts_from Down graph states tokens vectors fields in (
      (λ n s. number_at (slice_get are.parts (n * (1 + states) + (1 + s)))),
      record { tokens = tokens; cut = cut; are_vectors = are; numbers = λ n s p nl sl is. ap number_at is },
    )
