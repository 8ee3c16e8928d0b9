use Rattle.std.proofs.Common.{◌≡◌, ◌∙◌, ◌++◌, ℕ, List, length, None, ap, sym, subst, refl, arith}
use Rattle.polcert_text.proofs.Common.{IsFaultAt, lexeme_of, IsFrontSeen, EndsAsAnswered, visible, skip}
use Rattle.polcert_text.specs.Reading.{IsReadAt}
use Rattle.polcert_text.proofs.Streams.StreamLaws.{tail_of}
use Rattle.polcert_text.proofs.Streams.StreamTakes.{gives_end, few_bytes, token_given, fault_given, seen_more, fails_after, ended_as}
use Rattle.polcert_text.proofs.Streams.StreamTakes.{given_as}
use Rattle.polcert_text.proofs.stream_tokens.StreamTokens.take_token.Goals as goal
use Rattle.polcert_text.proofs.stream_tokens.StreamTokens.take_token.Goals.{in-None, in-Some}

pub returns-in-Ok-false-clause-next : goal.returns-in-Ok-false-clause-next
returns-in-Ok-false-clause-next g c = grind (arith, gives_end, ended_as, in-None, in-Some)

pub returns-in-Err-scan_lexeme-clause-next : goal.returns-in-Err-scan_lexeme-clause-next
returns-in-Err-scan_lexeme-clause-next g c = grind (arith, fails_after)

pub invariant_of-self-in-Ok-token_of : goal.invariant_of-self-in-Ok-token_of
invariant_of-self-in-Ok-token_of g c =
    let skips = rw c.in-Ok-true.field-0-test at c.in-Ok-true.ensures in
    let scans = c.in-Ok.ensures in
    let new = c.scan_lexeme.new.self in
    let token = c.in-Ok-token_of.token in
    let seen : (tail : List ℕ) → IsFrontSeen (visible new) tail c.in-Ok.front → IsReadAt new.place (visible new ++ tail) token
    = subst (λ p. (tail : List ℕ) → IsFrontSeen (visible new) tail c.in-Ok.front → IsReadAt p (visible new ++ tail) token) c.place.ensures
    (subst (λ v. (tail : List ℕ) → IsFrontSeen v tail c.in-Ok.front → IsReadAt c.place.result (v ++ tail) token) c.visible.ensures.bytes
    c.in-Ok-token_of.ensures) in
    let continues : None ≡ c.self.inside.stop = sym (ap (λ s. s.stop) c.self.view_is ∙ c.requires) in (
      few_bytes _ _ _ _ _ _ _ _ _ skips scans (lexeme_of token)
          (λ more can. (seen (tail_of new more) (seen_more _ _ _ _ _ _ _ _ _ skips scans more can)).0),
      subst (EndsAsAnswered (skip (length token.bytes.now) new)) continues tt,
    )

pub returns-in-Ok-token_of-clause-next : goal.returns-in-Ok-token_of-clause-next
returns-in-Ok-token_of-clause-next g c =
    let skips = rw c.in-Ok-true.field-0-test at c.in-Ok-true.ensures in
    let scans = c.in-Ok.ensures in
    let new = c.scan_lexeme.new.self in
    let token = c.in-Ok-token_of.token in
    let ahead = c.consume.ensures ∙ ap (λ s. s.ahead) c.self.view_is in
    let seen : (tail : List ℕ) → IsFrontSeen (visible new) tail c.in-Ok.front → IsReadAt new.place (visible new ++ tail) token
    = subst (λ p. (tail : List ℕ) → IsFrontSeen (visible new) tail c.in-Ok.front → IsReadAt p (visible new ++ tail) token) c.place.ensures
    (subst (λ v. (tail : List ℕ) → IsFrontSeen v tail c.in-Ok.front → IsReadAt c.place.result (v ++ tail) token) c.visible.ensures.bytes
    c.in-Ok-token_of.ensures) in
    let given = token_given _ _ _ _ _ _ _ _ _ skips scans (lexeme_of token)
    (λ more can. (seen (tail_of new more) (seen_more _ _ _ _ _ _ _ _ _ skips scans more can)).0) in
    given_as _ _ _ _ _ _ _ _ ahead given

pub returns-in-Err-token_of-clause-next : goal.returns-in-Err-token_of-clause-next
returns-in-Err-token_of-clause-next g c =
    let skips = rw c.in-Ok-true.field-0-test at c.in-Ok-true.ensures in
    let scans = c.in-Ok.ensures in
    let new = c.scan_lexeme.new.self in
    let fault = c.in-Err-token_of.fault in
    let ahead = c.consume.ensures ∙ ap (λ s. s.ahead) c.self.view_is in
    let seen : (tail : List ℕ) → IsFrontSeen (visible new) tail c.in-Ok.front → IsFaultAt new.place (visible new ++ tail) fault
    = subst (λ p. (tail : List ℕ) → IsFrontSeen (visible new) tail c.in-Ok.front → IsFaultAt p (visible new ++ tail) fault) c.place.ensures
    (subst (λ v. (tail : List ℕ) → IsFrontSeen v tail c.in-Ok.front → IsFaultAt c.place.result (v ++ tail) fault) c.visible.ensures.bytes
    c.in-Err-token_of.ensures) in
    ended_as _ _ _ _ _ _ _ _ _ ahead refl
    (fault_given _ _ _ _ _ _ _ _ _ skips scans fault (λ more can. seen (tail_of new more)
    (seen_more _ _ _ _ _ _ _ _ _ skips scans more can)))
