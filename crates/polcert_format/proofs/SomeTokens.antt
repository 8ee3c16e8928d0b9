-- A text has one list of tokens.
use Rattle.std.proofs.Common.{◌≡◌, ℕ, List, refl, arith}
use Rattle.polcert_format.proofs.Common.{text_rest, end_place, text_limit, TextTokens, text_tokens, AreTokensOf}
use Rattle.polcert_text.proofs.Scanning.SomeCut.{some_cut}
use Rattle.polcert_text.proofs.TextLaws.{one_cut}
use Rattle.polcert_format.specs.FirstWrong.{HasTokens}

pub has_tokens : (text : List ℕ) → HasTokens text
has_tokens text =
    let cut = some_cut _ in
    (text_tokens cut.0 cut.1 (end_place (text_rest text text_limit)), record { cut = cut.2; end_is = refl })

pub one_list_of_tokens : (text : List ℕ) (ts us : TextTokens) → AreTokensOf text ts → AreTokensOf text us → ts ≡ us
one_list_of_tokens text ts us a b = grind (arith, one_cut)
