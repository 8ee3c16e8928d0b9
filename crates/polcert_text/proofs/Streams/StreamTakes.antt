-- What a stream answers, whatever follows what it has read.
use Rattle.std.proofs.Common.{◌≡◌, ◌∙◌, ◌+◌, ◌-◌, ◌≤◌, ℕ, Bool, true, false, Option, Some, None, List, [], ◌++◌, length, take}
use Rattle.std.proofs.Common.{drop, refl, sym, ap, subst, append-nil, append_assoc, length-append, nat_lt, cond, arith}
use Rattle.polcert_text.proofs.Common.{drop-take, drop-append-le, take-append-le, take-append-add, drop-append_seam, Lexeme, Rest}
use Rattle.polcert_text.proofs.Common.{IsTokenAt, IsFaultAt, TakesToken, EndsAt, Ends, IsLongestGap, Ahead, rest_with, CanFollow, ReadsFrom}
use Rattle.polcert_text.proofs.Common.{Fails, GivesToken, GivesEnd, visible, skip, IsFrontSeen, ReadsOn, SkipsGap, ScansLexeme}
use Rattle.polcert_text.proofs.Common.{LexemePrefix}
use Rattle.polcert_text.proofs.Common.{TokenFault}
use Rattle.std.proofs.lemmas.List.{length-drop, take-take}
use Rattle.polcert_text.specs.Stream.{end_of_kept}
use Rattle.polcert_text.specs.Steps.Streaming.{end_of}
use Rattle.polcert_text.specs.declared.tokens.TokenFault.TheVariants.{TextTooLong}
use Rattle.polcert_text.proofs.Streams.Giving.{gave_then}
use Rattle.polcert_text.proofs.Streams.StreamLaws.{rest_bytes, tail_of, visible_len, no_tail}

false≢true : {A : Type 0} → false ≡ true → A
false≢true e = cc

-- after a gap comes what the rest after it begins with
record After (rest : Rest) (skipped : List ℕ) (following : Rest) : Type 0 where
  bytes : rest.bytes ≡ skipped ++ following.bytes
  place : following.place ≡ rest.place + length skipped
  ending : rest.ending ≡ following.ending
  longest : IsLongestGap (skipped ++ following.bytes) (length skipped)

dropped : (rest : Rest) (skipped : List ℕ) (following : Rest) → After rest skipped following
    → drop (length skipped) rest.bytes ≡ following.bytes
dropped rest skipped following b = ap (drop _) b.bytes ∙ drop-append_seam skipped _

ends_after : (rest : Rest) (skipped : List ℕ) (following : Rest) (answer : Option TokenFault) → After rest skipped following
    → EndsAt following.place following.bytes following.ending answer → Ends rest answer
ends_after rest skipped following answer b at = grind (arith, dropped, following)

takes_after : (rest : Rest) (skipped : List ℕ) (following : Rest) (token : Lexeme) (new : Rest) → After rest skipped following
    → IsTokenAt following.place following.bytes token
    → new ≡ (let r : Rest = record {
      place = following.place + length token.bytes;
      bytes =
          drop (length token.bytes) following.bytes;
      ending = following.ending;
    } in r)
    → TakesToken rest token new
takes_after rest skipped following token new b at is = grind (arith, dropped, following)

-- what is cut at the front, with no gap
at_front : (rest : Rest) → IsLongestGap rest.bytes 0 → After rest [] rest
at_front rest none = record { bytes = refl; place = omega arith; ending = refl; longest = none }

-- what is ahead where the first bytes were given
pub rest_skipped : (a : Ahead) (n : ℕ) (more : List ℕ) → n ≤ length (visible a)
    → rest_with (skip n a) more ≡ (let r : Rest = record
    { place = a.place + n; bytes = drop n (rest_with a more).bytes; ending = (rest_with a more).ending } in r)
rest_skipped a n more few =
    let room : a.limit - a.place ≡ n + (a.limit - _) = omega (arith, visible_len a) in
    let joined = sym (drop-append-le n a.kept more (omega (arith, visible_len a))) in
    let bytes = ap (take _) joined ∙ sym (drop-take n _ _)
    ∙ ap (λ m. drop n (take m (a.kept ++ more))) (sym room) in
    let end : a.place + n + length _ ≡ a.place + length _ =
    omega (arith, visible_len a, length-drop n a.kept, length-append (drop n a.kept) more, length-append a.kept more) in
    λ i. record { place = a.place + n; bytes = bytes i; ending = cond (nat_lt a.limit (end i)) (Some (TextTooLong a.limit)) None }

module _ {S : Type 0} (reads : S → ℕ → Option (List ℕ) → S → Type 0) (failures : S → ℕ) where
  pub from_both : (first second third : Bool) (s t u : S) (given more : List ℕ) → ReadsFrom reads first s given second t
      → ReadsFrom reads second t more third u
      → ReadsFrom reads first s (given ++ more) third u
  from_both = grind (arith, append-nil, gave_then, false≢true)

  -- the rest of the text after what was skipped is what is ahead then
  rest_on : (old : Ahead) (s : S) (skipped given : List ℕ) (new : Ahead) (t : S) (more : List ℕ)
      → ReadsOn reads failures old s skipped given new t
      → IsLongestGap (skipped ++ (rest_with new more).bytes) (length skipped)
      → After (rest_with old (given ++ more)) skipped (rest_with new more)
  rest_on old s skipped given new t more on longest =
      let room : old.limit - old.place ≡ length skipped + (new.limit - new.place) = omega arith in
      let text = sym (append_assoc _ given more)
      ∙ ap (λ xs. xs ++ more) on.bytes ∙ append_assoc skipped _ more in
      let end : old.place + length _ ≡ new.place + length _ =
      omega (arith, ap length text, length-append skipped (new.kept ++ more), on.place) in
      record {
        bytes = ap (take _) text ∙ ap (λ n. take n (skipped ++ (new.kept ++ more))) room ∙ take-append-add skipped _ _;
        place = on.place;
        ending = λ i. cond (nat_lt (sym on.limit i) (end i)) (Some (TextTooLong (sym on.limit i))) None;
        longest = longest;
      }

  -- a read fails after those of the gap
  pub fails_after : (old : Ahead) (s : S) (mid : Ahead) (t u : S) (is_found : Bool) → SkipsGap reads failures old s is_found mid t
      → mid.is_whole ≡ false
      → Fails reads failures t u → Fails reads failures s u
  fails_after = grind (arith, gave_then, false≢true)

  -- what can follow in the end could follow before
  pub could_follow : (mid : Ahead) (t : S) (given more : List ℕ) (new : Ahead) (u : S) → ReadsFrom reads mid.is_whole t given new.is_whole u
      → CanFollow new more → CanFollow mid (given ++ more)
  could_follow = grind arith

  size_on : {old new : Ahead} {s t : S} (skipped given : List ℕ) → ReadsOn reads failures old s skipped given new t
      → end_of_kept new ≡ end_of_kept old + length given
  size_on {old} {new} skipped given on = omega (
    arith,
    on.place,
    ap length on.bytes,
    length-append old.kept given,
    length-append skipped new.kept,
  )

  -- the end comes after the gap
  pub gives_end : (old : Ahead) (s : S) (new : Ahead) (t : S) → SkipsGap reads failures old s false new t
      → GivesEnd reads failures old s (end_of new) new t
  gives_end old s new t g =
      let at = g.end refl in
      record {
        given = g.given;
        was_read = g.reads_on.was_read;
        same_count = g.reads_on.same_count;
        size = size_on _ g.given g.reads_on;
        ends = λ more can. ends_after _ _ _ _ (rest_on old s _ g.given new t more g.reads_on (g.longest more can)) (grind arith);
        at_end = record {
          ends = λ more can. grind (arith, dropped);
          whole = grind arith;
        };
      }

  -- a lexeme at the front, after the gap
  module _ (old : Ahead) (s : S) (mid : Ahead) (t : S) (front : Option LexemePrefix) (new : Ahead) (u : S)
      (g : SkipsGap reads failures old s true mid t) (l : ScansLexeme reads failures mid t front new u) where
    on : ReadsOn reads failures old s g.skipped (g.given ++ l.given) new u
    on = grind (arith, append_assoc, from_both)

    -- what is ahead of the lexeme is what is ahead after the gap
    same_rest : (more : List ℕ) → (rest_with mid (l.given ++ more)).bytes ≡ (rest_with new more).bytes
    same_rest = grind (arith, append_assoc)

    following : (more : List ℕ) → CanFollow new more → After (rest_with old ((g.given ++ l.given) ++ more)) g.skipped (rest_with new more)
    following more can = rest_on old s _ _ new u more on (rw (← same_rest more)
        (g.longest _ (could_follow mid t l.given more new u l.reads_on.was_read can)))

    -- it is refused
    pub gives_fault : (fault : TokenFault) → ((more : List ℕ) → CanFollow new more → IsFaultAt new.place (rest_with new more).bytes fault)
        → GivesEnd reads failures old s (Some fault) new u
    gives_fault fault is = record {
      given = _;
      was_read = on.was_read;
      same_count = on.same_count;
      size = size_on _ _ on;
      ends = λ more can. ends_after _ _ _ _ (following more can) (grind arith);
      at_end = record {
        ends = λ more can. ends_after _ [] (rest_with new more) _
            (at_front (rest_with new more) (subst (λ xs. IsLongestGap xs 0) (same_rest more)
            (g.again (l.given ++ more) (could_follow mid t l.given more new u l.reads_on.was_read can))))
            (grind arith);
        whole = λ e. absurd (cc);
      };
    }

    -- it is a token
    pub gives_token : (token : Lexeme) (n : ℕ) → length token.bytes ≡ n → n ≤ length (visible new)
        → ((more : List ℕ) → CanFollow new more → IsTokenAt new.place (rest_with new more).bytes token)
        → GivesToken reads failures old s token (skip n new) u
    gives_token token n len few is = record {
      given = _;
      was_read = on.was_read;
      same_count = on.same_count;
      size = omega (arith, size_on _ _ on, length-drop n new.kept, visible_len new);
      next = λ more can. takes_after _ _ _ token _ (following more can) (is more can) (rest_skipped new n more few ∙ (λ i. record {
        place = new.place + sym len i;
        bytes = drop (sym len i) (rest_with new more).bytes;
        ending = (rest_with new more).ending;
      }));
    }

    pub seen_more : (more : List ℕ) → CanFollow new more → IsFrontSeen (visible new) (tail_of new more) front
    seen_more more can = l.seen _ (no_tail new more can)

    -- the bytes of a token are some of those below the limit
    pub few_bytes : (token : Lexeme) → ((more : List ℕ) → CanFollow new more → IsTokenAt new.place (visible new ++ tail_of new more) token)
        → length token.bytes ≤ length (visible new)
    few_bytes token is =
        let none : tail_of new [] ≡ [] = grind arith in
        let within = (is [] (λ _. refl)).lexeme.within in
        omega (arith, length-append (visible new) (tail_of new []), ap length none)

    pub token_given : (token : Lexeme) → ((more : List ℕ) → CanFollow new more
        → IsTokenAt new.place (visible new ++ tail_of new more) token)
        → GivesToken reads failures old s (let borrowed : Lexeme =
        record {
          kind = token.kind;
          place = new.place + length token.bytes - length (take (length token.bytes) new.kept);
          bytes =
              take (length token.bytes) new.kept;
        } in borrowed) (skip (length token.bytes) new) u
    token_given token is =
        let n = length _ in
        let few = few_bytes token is in
        let first = is [] (λ _. refl) in
        let room = new.limit - new.place in
        let bytes = first.bytes_are ∙ take-append-le n _ _ few
        ∙ take-take n room _ (omega (arith, visible_len new)) in
        let place : token.place ≡ new.place + n - length _ = grind arith in
        subst (λ t. GivesToken reads failures old s t (skip n new) u) (λ i. record { kind = token.kind; place = place i; bytes = bytes i })
        (gives_token token n refl few (λ more can. subst (λ bs. IsTokenAt new.place bs token) (sym (rest_bytes new more)) (is more can)))

    pub fault_given : (fault : TokenFault) → ((more : List ℕ) → CanFollow new more
        → IsFaultAt new.place (visible new ++ tail_of new more) fault) → GivesEnd reads failures old s (Some fault) new u
    fault_given fault is = gives_fault fault (λ more can. rw (rest_bytes new more) (is more can))

  -- the same, with nothing skipped after it
  pub ended_as : (old ahead : Ahead) (s : S) (answer other : Option TokenFault) (new : Ahead) (u : S) → old ≡ ahead → answer ≡ other
      → GivesEnd reads failures old s answer new u
      → GivesEnd reads failures ahead s other (skip 0 new) u
  ended_as = grind arith

  pub given_as : (old ahead : Ahead) (s : S) (token : Lexeme) (new : Ahead) (u : S) → old ≡ ahead
      → GivesToken reads failures old s token new u → GivesToken reads failures ahead s token new u
  given_as old ahead s token new u is e = rw (← is) e
