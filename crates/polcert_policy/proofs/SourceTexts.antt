-- What is said of the text of a source that ended cleanly after the tokens taken.
use Rattle.std.proofs.Common.{◌≡◌, ℕ, ◌-◌, ◌<◌, Option, None, List, [], ◌∷◌, ◌++◌, Ok, Err, length, ap, ◌∙◌, arith}
use Rattle.polcert_policy.proofs.Common.{Lexeme, Rest, IsCut, text_rest, text_limit, ReadsText, Taken, TokenFault, TakenFrom}
use Rattle.polcert_text.specs.declared.source.SourceFault.TheVariants.{Refused}
use Rattle.polcert_text.specs.Stream.{Ahead, Stream, GivesToken, GivesEnd}
use Rattle.polcert_text.specs.Steps.TakenAhead.{ArePassed}
use Rattle.polcert_text.proofs.Taken.TakenAhead.{all_passed}
use Rattle.polcert_text.proofs.Streams.StreamTaken.{text_taken, each_whole, each_taken, each_cut, token_taken, place_grows, place_within}
use Rattle.polcert_text.proofs.Streams.ReadTexts.{value_read, text_refused}

module _ {S V F : Type 0} {reads : S → ℕ → Option (List ℕ) → S → Type 0} {failures : S → ℕ} {first : S} (ts : List Lexeme) {old : Stream}
    {s : S} (taken : TakenFrom reads failures text_limit first ts old s)
    {Denotes : List ℕ → V → Type 0} {Refuses : F → List ℕ → Type 0} (u : S) where
  -- a token is refused
  pub refused_at_token : (fault : F) (t : Lexeme) (new : Stream) → GivesToken reads failures old.ahead s t new.ahead u → new.stop ≡ None
      → ((text : List ℕ) (rest : Rest) → Taken (text_rest text text_limit) (ts ++ t ∷ []) rest → Refuses fault text)
      → ReadsText reads failures first u Denotes Refuses (Err (Refused fault))
  refused_at_token fault t new gives goes_on refuses =
      let more = token_taken reads failures text_limit first ts old s t new u taken gives goes_on in
      text_refused fault (each_taken reads failures text_limit first (ts ++ t ∷ []) new u _ more refuses) more.same_count

  -- the text is cut at no token
  pub refused_at_fault : (fault : F) (answer : Option TokenFault) (new : Ahead) → GivesEnd reads failures old.ahead s answer new u
      → ((text : List ℕ) → IsCut (text_rest text text_limit) ts answer → Refuses fault text)
      → ReadsText reads failures first u Denotes Refuses (Err (Refused fault))
  refused_at_fault fault answer new ended refuses = text_refused fault
      (each_cut reads failures text_limit first ts old s answer new u _ taken ended refuses)
      (ended.same_count ∙ taken.same_count)

  -- the text ends
  module _ (new : Ahead) (ended : GivesEnd reads failures old.ahead s None new u) where
    pub read_at_end : (v : V) → ((text : List ℕ) → IsCut (text_rest text text_limit) ts None → new.place ≡ length text → Denotes text v)
        → ReadsText reads failures first u Denotes Refuses (Ok v)
    read_at_end v holds =
        let text = text_taken reads failures text_limit first ts old s new u taken ended in
        value_read v (text.0, text.1, holds text.0 text.2 text.3) (ended.same_count ∙ taken.same_count)

    pub refused_at_end : (fault : F) → ((text : List ℕ) → IsCut (text_rest text text_limit) ts None → new.place ≡ length text
        → Refuses fault text) → ReadsText reads failures first u Denotes Refuses (Err (Refused fault))
    refused_at_end fault holds =
        let text = text_taken reads failures text_limit first ts old s new u taken ended in
        text_refused fault (each_whole reads first text.0 u _ text.1 (holds text.0 text.2 text.3))
        (ended.same_count ∙ taken.same_count)

-- after a token, and those that were passed with it, less of the text is left
pub less_left : {S : Type 0} (reads : S → ℕ → Option (List ℕ) → S → Type 0) (failures : S → ℕ) (first : S) (ts : List Lexeme) (old : Stream)
    (s : S) (t : Lexeme) (new : Stream) (u : S)
    {Reads : List Lexeme → Type 0} {after : Stream} → TakenFrom reads failures text_limit first ts old s
    → GivesToken reads failures old.ahead s t new.ahead u → new.stop ≡ None → ArePassed Reads new after
    → text_limit - after.ahead.place < text_limit - old.ahead.place
less_left reads failures first ts old s t new u {Reads} {after} was gives goes_on ahead =
    let grows = place_grows old.ahead new.ahead gives.given t gives.next in
    let taken = token_taken reads failures text_limit first ts old s t new u was gives goes_on in
    let place = ap (λ s. s.ahead.place) ahead.tokens_are in
    omega (
      arith,
      grows,
      place,
      place_within reads failures text_limit first _ after u (all_passed reads failures text_limit first _ new after u taken ahead),
    )

-- after a token less of the text is left
pub less_left_token : {S : Type 0} (reads : S → ℕ → Option (List ℕ) → S → Type 0) (failures : S → ℕ) (first : S) (ts : List Lexeme)
    (old : Stream) (s : S) (t : Lexeme) (new : Stream) (u : S)
    → TakenFrom reads failures text_limit first ts old s → GivesToken reads failures old.ahead s t new.ahead u → new.stop ≡ None
    → text_limit - new.ahead.place < text_limit - old.ahead.place
less_left_token reads failures first ts old s t new u was gives goes_on =
    let taken = token_taken reads failures text_limit first ts old s t new u was gives goes_on in
    omega (arith, place_grows old.ahead new.ahead gives.given t gives.next, place_within reads failures text_limit first _ new u taken)
