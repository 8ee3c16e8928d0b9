-- What a sink took through a buffer.
use Rattle.std.proofs.Common.{◌≡◌, ◌∙◌, ◌++◌, ℕ, List, [], Option, Result, refl, sym, ap, subst, append_assoc, append-nil, arith}
use Rattle.polcert_text.proofs.Common.{HasFailed, Takes, TakesFront, WritesText}
use Rattle.polcert_text.specs.Sink.{nothing, more}
use Rattle.polcert_text.specs.Steps.Buffer.{PassesOn, WritesBuffered}
use Rattle.polcert_text.proofs.Printing.Taking.{took_then, front_then, front_after, wrote_next}

module _ {S : Type 0} {writes : S → Option (List ℕ) → S → Type 0} {failures : S → ℕ} {from : S} where
  -- bytes that found room are held after the others
  pub holds : (held bytes held' : List ℕ) → held' ≡ held ++ bytes → PassesOn writes failures from held bytes from held'
  holds held bytes held' e = record { passed = []; took = nothing; same_count = refl; whole = sym e }

  -- and where what was held was written before, they are all that is held
  pub holds_alone : {to : S} (held bytes empty held' : List ℕ) → Takes writes from held to → failures to ≡ failures from → empty ≡ []
      → held' ≡ empty ++ bytes
      → PassesOn writes failures from held bytes to held'
  holds_alone = grind arith

-- where nothing was held before, what was passed on and what is held make up the text
made_up : (old text passed rest : List ℕ) → old ≡ [] → old ++ text ≡ passed ++ rest → passed ++ rest ≡ text
made_up old text passed rest empty e = sym e ∙ ap (λ bs. bs ++ text) empty

-- A sink S over a sink B: what is below it, what it holds, and the name of its reference.
module _ {S B N : Type 0} (writes : B → Option (List ℕ) → B → Type 0) (failures : B → ℕ) (below : S → B) (held : S → List ℕ)
    (name : S → N)
  where
    abbrev pub through : S → Option (List ℕ) → S → Type 0
    through s answer t = WritesBuffered writes failures (below s) (held s) answer (below t) (held t) × (name t ≡ name s)

    -- many writes pass on what one write of all their bytes would
    pub passes_on : {s t : S} {bytes : List ℕ} → Takes through s bytes t
        → PassesOn writes failures (below s) (held s) bytes (below t) (held t) × (name t ≡ name s)
    passes_on {s = s} nothing = (record { passed = []; took = nothing; same_count = refl; whole = append-nil _ }, refl)
    passes_on {s} {t} (more {bytes} {front} {s = mid} took call) =
        let first = passes_on took in (
          record {
            passed = _;
            took = took_then first.0.took call.0.took;
            same_count = cc;
            whole =
                sym (append_assoc _ bytes front) ∙ ap (λ bs. bs ++ front) first.0.whole
                ∙ append_assoc _ _ front
                ∙ ap (λ bs. first.0.passed ++ bs) call.0.whole ∙ sym (append_assoc _ _ (held t));
          },
          call.1 ∙ first.1,
        )

    module _ {s t : S} (text : List ℕ) (empty : held s ≡ []) where
      -- a text went through the buffer, which was then flushed
      pub flushed : {T E : Type 0} {u : B} (r : Result T E) → Takes through s text t → WritesText writes failures (below t) (held t) r u
          → WritesText writes failures (below s) text r u
      flushed {u = u} r took w =
          let p = (passes_on took).0 in
          rw (← made_up (held s) text p.passed (held t) empty p.whole)
          (wrote_next _ _ r p.took p.same_count w)

      pub same_name : Takes through s text t → name t ≡ name s
      same_name took = (passes_on took).1

    module _ {s t : S} (text : List ℕ) (empty : held s ≡ []) (f : TakesFront through s text t) where
      -- a text went into the buffer up to a write that failed
      pub stopped : TakesFront writes (below s) text (below t)
      stopped =
          let p = (passes_on f.took).0 in
          let all = front_then f.rest (front_after _ p.took f.failed.0.took) in
          subst (λ bs. TakesFront writes (below s) bs (below t))
          (ap (λ bs. bs ++ f.rest) (made_up (held s) f.front p.passed (held f.before) empty p.whole) ∙ sym f.whole) all

      pub stopped_count : HasFailed (failures (below s)) (failures (below t))
      stopped_count = subst (λ n. HasFailed n (failures (below t))) (passes_on f.took).0.same_count f.failed.0.count

      pub stopped_name : name t ≡ name s
      stopped_name = f.failed.1 ∙ (passes_on f.took).1

-- what is said of a sink is said of what is left after the reference to it
pub left_after : {S T E : Type 0} {writes : S → Option (List ℕ) → S → Type 0} {failures : S → ℕ} {from to final : S} {text : List ℕ}
    {r : Result T E}
    → WritesText writes failures from text r to → final ≡ to → WritesText writes failures from text r final
left_after {writes = writes} {failures = failures} {from = from} {text = text} {r = r} w e = rw e w
