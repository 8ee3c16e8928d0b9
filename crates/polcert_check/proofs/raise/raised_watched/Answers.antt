use Rattle.std.proofs.Common.{ℤ}
use Rattle.std.proofs.Common.{◌+ℤ◌, ◌∙◌, ap, rules, w64}
use Rattle.std.proofs.lemmas.Int.{to_z-of_z}
use Rattle.polcert_check.proofs.Common.{value_of}
use Rattle.polcert_check.proofs.Certificates.{controller_is}
use Rattle.polcert_check.proofs.Lowerings.Raising.{raised_passes}
use Rattle.polcert_check.proofs.raise.raised_watched.Goals as goal

pub returns-clause-raised : goal.returns-clause-raised
returns-clause-raised g c =
    let least = c.in_ok-by.ensures.least in
    record {
      least = search rules;
      shifted = search rules;
      fits_still = search rules;
      passes = raised_passes _ _ _ c.in_ok-raised.raised c.requires.fits
          (controller_is _ _ _ c.requires.fits (g.met.C.Cells.is_proper _) c.nodes-nodes.ensures.proper) least.0 least.2.0
          (λ n s nl sl. c.in_ok-raised.ensures.values n s nl sl
          ∙ ap (λ x. value_of c.args.vectors.now n s +ℤ x) (to_z-of_z w64 c.in_ok-by.by (search rules) ∙ least.1));
    }
