use Rattle.std.proofs.Common.{arith, rules}
use Rattle.std.proofs.lemmas.Int.{to_z-of_z}
use Rattle.polcert_check.proofs.Certificates.{controller_is}
use Rattle.polcert_check.proofs.Mirrors.StartMosts.{start_above}
use Rattle.polcert_check.proofs.start.start_most.Goals as goal

pub most_from_start-requires : goal.most_from_start-requires
most_from_start-requires c = c.requires.fits.states

pub returns-clause-most : goal.returns-clause-most
returns-clause-most c = grind (arith, to_z-of_z)

pub returns-clause-promise : goal.returns-clause-promise
returns-clause-promise c = search (rules, controller_is, start_above)
