use Rattle.std.proofs.Common.{refl}
use Rattle.polcert_robust.specs.Steps.Pairs.{cells_of, near_controller, near_table}
use Rattle.polcert_robust.proofs.EndMeans.{both, kept_still, ready_here, shared_of}
use Rattle.polcert_robust.proofs.pair.find_end_mean.Goals as goal

pub returns-then-is_full : goal.returns-then-is_full
returns-then-is_full g c =
    let kept = c.requires.kept.each _ c.requires.end (c.if-is_full.ensures.kept refl) in
    let yes = c.if-is_full.ensures.rewards refl in
    record {
      kept = c.requires.kept;
      ready = record {
        kept = λ is. kept;
        shared = λ is no. absurd (both _ yes no);
        found = λ no. absurd (both _ (c.if-is_full.ensures.kept refl) no);
        full = λ is. kept.full yes _ c.args.pair.now.start;
      };
      others = record { rewards = refl; means = λ j ne. refl; marks = λ j ne. refl };
      missing = kept.complete;
    }

pub returns-then-is_usable : goal.returns-then-is_usable
returns-then-is_usable g c =
    let t = cells_of c.args.pair.now.input.now in
    let k = near_controller c.args.pair.now.input.now in
    let lacks = c.if-is_usable.ensures.lacks refl in
    let is_kept = c.lacks_reward.ensures.kept lacks in
    let no = c.lacks_reward.ensures.rewards lacks in
    let kept = c.requires.kept.each _ c.requires.end is_kept in
    let (h, known) = c.if-is_usable.ensures.known refl in
    record {
      kept = c.requires.kept;
      ready = record {
        kept = λ is. kept;
        shared = λ is _. (
          _,
          λ z zl. shared_of _ _ h _ (c.known_reward-known.ensures h known z zl),
        );
        found = λ none. absurd (both _ is_kept none);
        full = λ yes. absurd (both _ yes no);
      };
      others = record { rewards = refl; means = λ j ne. refl; marks = λ j ne. refl };
      missing = kept.complete;
    }

pub returns : goal.returns
returns g c =
    let k = near_controller c.args.pair.now.input.now in
    let t = cells_of c.args.pair.now.input.now in
    let i = near_table c.args.pair.now.input.now in
    let ready =
    ready_here i k _ _ _ _ _ _
    c.note.ensures c.kept_mean-part.ensures.ready in
    record {
      kept = kept_still i k _ _ _ _ _ c.requires.kept c.note.ensures.others ready;
      ready = ready;
      others = c.note.ensures.others;
      missing = rw c.kept_mean-part.ensures.missing c.end_mean-found.ensures.missing;
    }
