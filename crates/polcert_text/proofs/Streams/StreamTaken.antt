-- The tokens that were taken from a source, and the cut of each text that fits.
use Rattle.std.proofs.Common.{◌≡◌, ◌∙◌, ◌++◌, ◌∷◌, ℕ, Bool, true, false, List, [], Option, Some, None, length, refl, sym, ap, subst}
use Rattle.std.proofs.Common.{append-nil, append_assoc, length-append, take, ◌<◌, ◌≤◌, arith}
use Rattle.std.proofs.lemmas.List.{length-drop, length-take}
use Rattle.polcert_text.proofs.Common.{nat_tests, IsLongestLexeme, kind_of, TokenKind, Lexeme, Rest, IsCut, TakesToken, text_rest, IsText}
use Rattle.polcert_text.proofs.Common.{EachTextThatFits, nothing, Ahead, Stream, rest_with, CanFollow, GivesToken, GivesEnd, TakenFrom}
use Rattle.polcert_text.proofs.Common.{Taken, TokenFault}
use Rattle.polcert_text.specs.Cut.{end_place}
use Rattle.polcert_text.specs.Source.{FitsRead}
use Rattle.polcert_text.specs.Stream.{fresh}
use Rattle.polcert_text.specs.TakenTokens.{nothing as none, token as one_more}
use Rattle.polcert_text.proofs.Scanning.LexemeLaws.{none_empty}
use Rattle.polcert_text.proofs.Streams.StreamTakes.{from_both, could_follow}
use Rattle.polcert_text.proofs.Taken.TakenTokens.{all_taken}

module _ {S : Type 0} (reads : S → ℕ → Option (List ℕ) → S → Type 0) (failures : S → ℕ) (limit : ℕ) (first : S) where
  -- no token yet
  pub none_taken : (stream : Stream) → stream ≡ fresh limit → ((text : List ℕ) → rest_with stream.ahead text ≡ text_rest text limit)
      → TakenFrom reads failures limit first [] stream first
  none_taken stream is text = rw is (record {
    given = [];
    was_read = nothing;
    same_count = refl;
    size = refl;
    continues = refl;
    taken = λ more can. rw ((ap (λ s. rest_with s.ahead more) (sym is) ∙ text more)) (none _);
  })

  -- one token more
  pub token_taken : (tokens : List Lexeme) (old : Stream) (s : S) (t : Lexeme) (new : Stream) (u : S)
      → TakenFrom reads failures limit first tokens old s
      → GivesToken reads failures old.ahead s t new.ahead u → new.stop ≡ None
      → TakenFrom reads failures limit first (tokens ++ t ∷ []) new u
  token_taken tokens old s t new u was g continues = record {
    given = _;
    was_read = from_both reads failures false old.ahead.is_whole _ first s u _ g.given was.was_read g.was_read;
    same_count = cc;
    size = omega (arith, length-append was.given g.given);
    continues = continues;
    taken = λ more can.
        let before = was.taken _ (could_follow reads failures old.ahead s g.given more new.ahead u g.was_read can) in
        rw (append_assoc was.given g.given more)
        (one_more _ _ _ tokens t before (g.next more can));
  }

  fits_of : (is_whole : Bool) (ahead : Ahead) → ahead.is_whole ≡ is_whole → (given text : List ℕ) → FitsRead given is_whole text
      → (more : List ℕ) × (text ≡ given ++ more) × CanFollow ahead more
  fits_of = grind (arith, append-nil)

  -- each text that fits begins with the tokens taken
  pub each_taken : (tokens : List Lexeme) (stream : Stream) (s : S) (P : List ℕ → Type 0)
      → TakenFrom reads failures limit first tokens stream s
      → ((text : List ℕ) (rest : Rest) → Taken (text_rest text limit) tokens rest → P text) → EachTextThatFits reads first s P
  each_taken tokens stream s P was holds = record {
    bytes = _;
    is_whole = _;
    was_read = was.was_read;
    each = λ text fits.
        let f = fits_of _ stream.ahead refl was.given text fits in
        holds text (rest_with stream.ahead f.0) (simp f.1
        (was.taken f.0 f.2));
  }

  -- each text that fits has these tokens, and ends so
  pub each_cut : (tokens : List Lexeme) (old : Stream) (s : S) (answer : Option TokenFault) (new : Ahead) (u : S) (P : List ℕ → Type 0)
      → TakenFrom reads failures limit first tokens old s
      → GivesEnd reads failures old.ahead s answer new u → ((text : List ℕ) → IsCut (text_rest text limit) tokens answer → P text)
      → EachTextThatFits reads first u P
  each_cut tokens old s answer new u P was g holds = record {
    bytes = _;
    is_whole = _;
    was_read = from_both reads failures false old.ahead.is_whole _ first s u _ g.given was.was_read g.was_read;
    each = λ text fits.
        let f = fits_of _ new refl (was.given ++ g.given) text fits in
        holds text (rw f.1 (grind (arith, append_assoc, could_follow, all_taken)));
  }

  -- the text of the source, where it ended cleanly
  pub text_taken : (tokens : List Lexeme) (old : Stream) (s : S) (new : Ahead) (u : S) → TakenFrom reads failures limit first tokens old s
      → GivesEnd reads failures old.ahead s None new u
      → (text : List ℕ) × (IsText reads first text u) × (IsCut (text_rest text limit) tokens None) × (new.place ≡ length text)
  text_taken tokens old s new u was g =
      let at = g.at_end.whole refl in
      let text = was.given ++ g.given in
      let read = from_both reads failures false old.ahead.is_whole _ first s u _ g.given was.was_read g.was_read in (
        text,
        rw at.0 at read,
        rw (← append-nil text) (grind (arith, append_assoc, could_follow, all_taken)),
        omega (arith, length-append was.given g.given, ap length at.1),
      )

-- what holds of the text of a source holds of each text that fits
pub each_whole : {S : Type 0} (reads : S → ℕ → Option (List ℕ) → S → Type 0) (first : S) (text : List ℕ) (u : S) (P : List ℕ → Type 0)
    → IsText reads first text u → P text → EachTextThatFits reads first u P
each_whole reads first text u P is_text holds = record {
  bytes = text;
  is_whole = true;
  was_read = is_text;
  each = λ other fits. subst P (sym fits) holds;
}

-- a token takes at least one byte
pub place_grows : (old new : Ahead) (given : List ℕ) (t : Lexeme)
    → ((more : List ℕ) → CanFollow new more → TakesToken (rest_with old (given ++ more)) t (rest_with new more)) → old.place < new.place
place_grows old new given t next =
    let takes = next [] (λ _. refl) in
    let place = ap (λ r. r.place) takes.rest in
    let some = some_byte t.bytes _ t.kind takes.token_at.lexeme in
    omega arith
  where
    some_byte : (bs all : List ℕ) (kind : TokenKind) → IsLongestLexeme all kind (length bs) → 0 < length bs
    some_byte [] all kind l = absurd (both (l.lexeme))
      where
        both : kind_of (take 0 all) ≡ Some kind → ⊥
        both e = let none = sym none_empty ∙ e in cc
    some_byte (b ∷ bs) all kind l = omega arith

-- the tokens taken, and what is ahead, end where the text does
taken_end : (old new : Rest) (ts : List Lexeme) → Taken old ts new → end_place new ≡ end_place old
taken_end old new ts (none _) = refl
taken_end old new ts (one_more _ between _ us t before takes) = grind (arith, length-drop, taken_end old between us before)

text_end : (text : List ℕ) (limit : ℕ) → end_place (text_rest text limit) ≤ limit
text_end = grind (arith, length-take, nat_tests)

-- what is ahead stands below the limit
pub place_within : {S : Type 0} (reads : S → ℕ → Option (List ℕ) → S → Type 0) (failures : S → ℕ) (limit : ℕ) (first : S) (ts : List Lexeme)
    (stream : Stream) (s : S)
    → TakenFrom reads failures limit first ts stream s → stream.ahead.place ≤ limit
place_within reads failures limit first ts stream s was =
    omega (arith, taken_end _ _ ts (was.taken [] (λ _. refl)), text_end (was.given ++ []) limit)
