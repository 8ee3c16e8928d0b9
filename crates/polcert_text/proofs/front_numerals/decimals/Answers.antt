use Rattle.std.proofs.Common.{◌≡◌, ℕ, ◌<◌, get_or}
use Rattle.polcert_text.proofs.Numbers.SixDigits.{word, word_is, six, fewer_bytes, fewer}
use Rattle.polcert_text.proofs.front_numerals.decimals.Goals as goal

pub returns-then-others-eq0 : goal.returns-then-others-eq0
returns-then-others-eq0 c =
    let bs = c.args.bytes.now in
    let from = c.args.from in
    let w = c.six_bytes-digits.result in
    let bytes : (k : ℕ) → get_or bs k 0 < 256 = λ k. (c.type_inv.bytes k).fits in
    let is : w ≡ word bs from c.requires bytes 0 6 = word_is bs from c.requires bytes w c.six_bytes-digits.ensures in
    six bs from c.requires bytes w is c.six_bytes-digits.type_inv c.if-others-eq0.true c.six_digits_value.result c.six_digits_value.ensures

pub six_digits_value-requires-2 : goal.six_digits_value-requires-2
six_digits_value-requires-2 c =
    let bs = c.args.bytes.now in
    let from = c.args.from in
    let w = c.six_bytes-digits.result in
    let bytes : (k : ℕ) → get_or bs k 0 < 256 = λ k. (c.type_inv.bytes k).fits in
    let is : w ≡ word bs from c.requires bytes 0 6 = word_is bs from c.requires bytes w c.six_bytes-digits.ensures in
    fewer_bytes bs from c.requires bytes w is c.six_bytes-digits.type_inv c.if-others-eq0.false

pub returns : goal.returns
returns c =
    let bs = c.args.bytes.now in
    let from = c.args.from in
    let w = c.six_bytes-digits.result in
    let bytes : (k : ℕ) → get_or bs k 0 < 256 = λ k. (c.type_inv.bytes k).fits in
    let is : w ≡ word bs from c.requires bytes 0 6 = word_is bs from c.requires bytes w c.six_bytes-digits.ensures in
    fewer bs from c.requires bytes w is c.six_bytes-digits.type_inv c.if-others-eq0.false c.six_digits_value-2.result
    c.six_digits_value-2.ensures
