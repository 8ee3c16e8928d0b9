use Rattle.std.proofs.Common.{◌≡◌, drop, length, get_or, subst}
use Rattle.polcert_items.proofs.Common.{at_offset, lexeme_of, Count, named_in}
use Rattle.polcert_items.proofs.AheadPlaces.{element_place, place_moved}
use Rattle.polcert_items.proofs.TokenTexts.{front_is_text}
use Rattle.polcert_items.proofs.entry_reader.EntryReader.name_ahead.Goals as goal

pub element_by_name-requires-clause-text : goal.element_by_name-requires-clause-text
element_by_name-requires-clause-text c = front_is_text 0 c.args.bytes.now c.in-Some.token.stop (at_offset 0 (lexeme_of c.in-Some.token))
    (c.in-Some.ensures.front 0)

pub returns-in-Ok : goal.returns-in-Ok
returns-in-Ok c = λ position.
    let k = c.args.known.now in
    let r = c.args.self.now in
    let l = lexeme_of c.in-Some.token in
    record {
      token = _;
      place_is = place_moved (drop (length r.places) (named_in k r.table)) l _ position
          (element_place k r.table (length r.places) l c.in-Some-elements.elements.now c.in-Ok.index c.requires
          (subst (λ n. get_or (named_in k r.table) n (Count 0) ≡ c.in-Some-elements.elements.now) c.len.ensures
          c.in-Some-elements.ensures.elements) c.in-Ok.ensures.element);
      front = c.in-Some.ensures.front position;
    }
