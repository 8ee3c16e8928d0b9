use Rattle.polcert_format.proofs.PlaceLaws as laws
use Rattle.polcert_format.proofs.laws.places_lie_in_items.Goals as goal

pub returns : goal.returns
returns c = record {
  in_body = λ text ts before item after taken rest tokens. laws.lies_in_item ts before item after taken rest
      (laws.tokens_rise text ts tokens);
  at_word = λ text ts before item after tokens d. laws.lies_at_word ts _ item _ (laws.tokens_rise text ts tokens) d;
  before_items = λ text ts l ls items tokens d. laws.lies_before_items ts l ls _ (laws.tokens_rise text ts tokens) d;
  at_end = laws.lies_at_end;
}
