-- The gap that a stream skips, in pieces.
use Rattle.std.proofs.Common.{◌≡◌, ◌∙◌, ◌+◌, ◌-◌, ◌<◌, ◌≤◌, ◌⊎◌, inl, inr, ℕ, take_all, not, Bool, true, false, Option, List, [], ◌∷◌, ◌++◌}
use Rattle.std.proofs.Common.{rules}
use Rattle.std.proofs.Common.{length, take, drop, get_or, refl, sym, ap, subst, append-nil, append_assoc, length-append, arith}
use Rattle.std.proofs.lemmas.List.{take_at, length-drop, get_or-drop}
use Rattle.polcert_text.proofs.Common.{class_of, IsLongestGap, is_gap, gap_after, gap_through, Ahead, rest_with, CanFollow}
use Rattle.polcert_text.proofs.Common.{visible, skip, IsReadToLimit, Fills, ReadsOn, SkipsGap, Gap, Between, Ended, ByteClass}
use Rattle.std.specs.Bool.{◌==◌}
use Rattle.polcert_text.proofs.Scanning.GapLaws.{gap_through-append, gap_until_open, longest_gap_at}
use Rattle.polcert_text.proofs.Streams.StreamLaws.{rest_bytes, tail_of, visible_len, no_tail, reads_nothing, reads_skip, reads_fill}

-- a byte that no gap continues with ends the longest gap, whatever follows
found : (skipped : List ℕ) (b : ℕ) (more : List ℕ) (gap : Gap) → gap_through Between skipped ≡ gap → (gap ≡ Ended → ⊥)
    → gap_after gap (class_of b) ≡ Ended → IsLongestGap (skipped ++ b ∷ more) (length skipped)
found skipped b more gap was continues ends =
    let all = skipped ++ b ∷ more in
    let front = take_at skipped _ _ refl in
    let regrouped = append_assoc skipped _ more in
    let one_more = ap (take _) (sym regrouped)
    ∙ take_at _ more _ (length-append skipped _) in
    let gap_is : is_gap (take (length skipped) all) ≡ true = ap is_gap front ∙ gap_until_open skipped (λ e. continues (sym was ∙ e)) in
    longest_gap_at all (length skipped) (omega (arith, length-append skipped (b ∷ more))) gap_is
    (ap (gap_through Between) one_more ∙ gap_through-append Between skipped (b ∷ []) ∙ ap (λ g. gap_after g (class_of b)) was ∙ ends)

-- the bytes below the limit begin with the first that is kept
first_visible : (n : ℕ) (kept : List ℕ) → 0 < length (take n kept) → take n kept ≡ get_or kept 0 0 ∷ drop 1 (take n kept)
first_visible = grind arith

-- the gap up to a byte below the limit, or up to the end
pub longest_gap : (a : Ahead) (skipped : List ℕ) (gap : Gap) → gap_through Between skipped ≡ gap → (gap ≡ Ended → ⊥)
    → (0 < length (visible a) → gap_after gap (class_of (get_or a.kept 0 0)) ≡ Ended)
    → (length (visible a) ≡ 0 → IsReadToLimit a)
    → (rest : List ℕ) → CanFollow a rest → IsLongestGap (skipped ++ (rest_with a rest).bytes) (length skipped)
longest_gap a skipped gap was continues stops complete rest can = go _ refl
  where
    go : (v : List ℕ) → visible a ≡ v → IsLongestGap (skipped ++ (rest_with a rest).bytes) (length skipped)
    go [] e =
        let none = rest_bytes a rest ∙ ap (λ xs. xs ++ tail_of a rest) e
        ∙ no_tail a rest can (complete (ap length e)) in
        rw none (grind (arith, take_all, append-nil, gap_until_open))
    go (b ∷ bs) e =
        let some : 0 < length _ = omega (arith, ap length e) in
        let first = first_visible _ a.kept some in
        subst (λ xs. IsLongestGap (skipped ++ xs) (length skipped)) (sym (rest_bytes a rest ∙ ap (λ xs. xs ++ tail_of a rest) first))
        (found skipped (get_or a.kept 0 0) (drop 1 (visible a) ++ tail_of a rest) gap was continues (stops some))

ended_from : (gap : Gap) (c : ByteClass) → gap_after gap c ≡ Ended → (gap ≡ Ended → ⊥) → gap ≡ Between
ended_from = grind arith

-- after the gap comes no other
pub no_gap : (a : Ahead) (gap : Gap) → (gap ≡ Ended → ⊥)
    → (0 < length (visible a) → gap_after gap (class_of (get_or a.kept 0 0)) ≡ Ended)
    → (length (visible a) ≡ 0 → IsReadToLimit a)
    → (rest : List ℕ) → CanFollow a rest → IsLongestGap (rest_with a rest).bytes 0
no_gap a gap continues stops complete = longest_gap a [] Between refl (λ e. absurd (cc)) (λ some.
    let between = ended_from gap _ (stops some) continues in
    ap (λ g. gap_after g (class_of (get_or a.kept 0 0))) (sym between) ∙ stops some) complete

pub found_some : (is_none : Bool) (n : ℕ) → is_none ≡ (n == 0) → not is_none ≡ true → 0 < n
found_some = grind arith

pub found_none : (is_none : Bool) (n : ℕ) → is_none ≡ (n == 0) → not is_none ≡ false → n ≡ 0
found_none = grind arith

-- what is skipped of the bytes that are kept
abbrev pub Skipped : Gap → Ahead → Gap → Ahead → Type 0
Skipped gap old next new = (n : ℕ) × (n ≤ length (visible old)) × (new ≡ skip n old)
    × (gap_through gap (take n old.kept) ≡ next) × (next ≡ Ended → ⊥)
    × (n < length (visible old) → gap_after next (class_of (get_or old.kept n 0)) ≡ Ended)

module _ {S : Type 0} (reads : S → ℕ → Option (List ℕ) → S → Type 0) (failures : S → ℕ) where
  -- within a gap
  pub record InGap (old : Ahead) (s : S) (gap : Gap) (now : Ahead) (t : S) : Type 0 where
    pub skipped : List ℕ
    pub given : List ℕ
    pub on : ReadsOn reads failures old s skipped given now t
    pub read : gap_through Between skipped ≡ gap
    pub continues : gap ≡ Ended → ⊥
    pub stops : 0 < length (visible now) → gap_after gap (class_of (get_or now.kept 0 0)) ≡ Ended

  -- from some bytes that were skipped to those that are skipped next
  skipped_next : (old : Ahead) (s : S) (skipped given : List ℕ) (mid : Ahead) (t : S) (gap next : Gap) (new : Ahead)
      → ReadsOn reads failures old s skipped given mid t → gap_through Between skipped ≡ gap → Skipped gap mid next new
      → InGap old s next new t
  skipped_next old s skipped given mid t gap next new on was skips =
      let n = skips.0 in
      let there : InGap old s next _ t = record {
        skipped = _;
        given = given;
        on = reads_skip reads _ old s skipped given mid t n on skips.1;
        read = gap_through-append Between skipped _ ∙ ap (λ g. gap_through g (take n mid.kept)) was ∙ skips.3;
        continues = skips.4;
        stops = λ some.
            let place : n + 0 ≡ n = omega arith in
            let byte = get_or-drop n _ 0 0
            ∙ ap (λ k. get_or mid.kept k 0) place in
            ap (λ b. gap_after next (class_of b)) byte ∙ skips.5
            (omega (arith, visible_len (skip n mid), visible_len mid, length-drop n mid.kept));
      } in
      rw skips.2 there

  pub gap_begins : (old : Ahead) (s : S) (next : Gap) (new : Ahead) → old.place ≤ old.limit → Skipped Between old next new
      → InGap old s next new s
  gap_begins old s next new below skips = skipped_next old s [] [] old s Between next new (reads_nothing reads _ old s below) refl skips

  pub gap_continues : (old : Ahead) (s : S) (gap : Gap) (now : Ahead) (t : S) (mid : Ahead) (u : S) (next : Gap) (new : Ahead)
      → InGap old s gap now t → now.is_whole ≡ false → Fills reads failures now t true mid u → Skipped gap mid next new
      → InGap old s next new u
  gap_continues old s gap now t mid u next new was unended f skips =
      skipped_next old s _ _ mid u gap next new
      (reads_fill reads _ old s _ _ now t true mid u was.on unended f) was.read skips

  -- after the gap
  pub gap_ends : (old : Ahead) (s : S) (gap : Gap) (now : Ahead) (t : S) (is_found : Bool) → InGap old s gap now t
      → (now.is_whole ≡ true) ⊎ (0 < length now.kept) → (is_found ≡ true → 0 < length (visible now))
      → (is_found ≡ false → length (visible now) ≡ 0)
      → SkipsGap reads failures old s is_found now t
  gap_ends old s gap now t is_found was has some none = record {
    skipped = _;
    given = _;
    reads_on = was.on;
    longest = longest_gap now _ gap was.read was.continues was.stops (complete has);
    again = no_gap now gap was.continues was.stops (complete has);
    found = some;
    end = λ e. (none e, has);
  }
    where
      complete : (now.is_whole ≡ true) ⊎ (0 < length now.kept) → length (visible now) ≡ 0 → IsReadToLimit now
      complete (inl whole) empty = inl whole
      complete (inr kept) empty = inr (omega (arith, visible_len now))

  -- the true end comes next
  pub gap_at_end : (old : Ahead) (s : S) (gap : Gap) (now : Ahead) (t : S) (new : Ahead) (u : S) → InGap old s gap now t
      → now.is_whole ≡ false → length now.kept ≡ 0 → Fills reads failures now t false new u → SkipsGap reads failures old s false new u
  gap_at_end old s gap now t new u was unended empty f =
      let none = f.is_end refl in
      let whole : new.is_whole ≡ true = cc in
      let kept : length new.kept ≡ 0 = search rules in
      let on = reads_fill reads failures old s _ was.given now t false new u was.on unended f in
      gap_ends old s gap new u false (record {
        skipped = was.skipped;
        given = was.given ++ f.given;
        on = on;
        read = was.read;
        continues =
            was.continues;
        stops = λ some. absurd (omega (arith, visible_len new));
      }) (inl whole) (λ e. absurd (cc))
      (λ _. omega (arith, visible_len new))
