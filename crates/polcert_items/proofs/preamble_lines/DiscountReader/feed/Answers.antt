use Rattle.std.proofs.Common.{rules, to_z-of_z, arith}
use Rattle.polcert_items.proofs.PreambleLines.{no_discount, discount_takes_sign, discount_takes_value}
use Rattle.polcert_items.proofs.preamble_lines.DiscountReader.feed.Goals as goal

pub returns-in_err-sign-in-Number-clause-fed : goal.returns-in_err-sign-in-Number-clause-fed
returns-in_err-sign-in-Number-clause-fed c = grind (arith, no_discount)

pub returns-in-Sign-clause-fed : goal.returns-in-Sign-clause-fed
returns-in-Sign-clause-fed c = grind (arith, discount_takes_sign)

pub returns-in-Value-clause-fed : goal.returns-in-Value-clause-fed
returns-in-Value-clause-fed c = search (rules, to_z-of_z, discount_takes_value)
