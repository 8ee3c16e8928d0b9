use Rattle.std.proofs.Common.{drop, length}
use Rattle.polcert_items.proofs.Common.{at_offset, lexeme_of, named_in}
use Rattle.polcert_items.proofs.AheadPlaces.{place_moved}
use Rattle.polcert_items.proofs.TokenTexts.{front_is_text}
use Rattle.polcert_items.proofs.entry_reader.EntryReader.token_place_ahead.Goals as goal

pub next_place-requires-clause-text : goal.next_place-requires-clause-text
next_place-requires-clause-text c = front_is_text 0 c.args.bytes.now c.in-Some.token.stop (at_offset 0 (lexeme_of c.in-Some.token))
    (c.in-Some.ensures 0)

pub returns-in-Ok : goal.returns-in-Ok
returns-in-Ok c = λ position.
    let r = c.args.self.now in
    record {
      token = _;
      place_is = place_moved (drop (length r.places) (named_in c.args.known.now r.table)) (lexeme_of c.in-Some.token) c.in-Ok.place position
          c.in-Ok.ensures.place;
      front = c.in-Some.ensures position;
    }
